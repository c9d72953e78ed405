-- What each step of others keeps holds of a longer list without a further step of the actor.
use Rattle.std.proofs.Common.{◌≡◌, Bool, true, false, List, [], ◌∷◌, ◌++◌, length, refl, sym, ap, ◌∙◌, subst, arith, append_assoc, append-nil, length-append}
use Rattle.std.proofs.lemmas.List.{reverse-append}
use Rattle.std.specs.Prelude.{reverse}
use mathlib.Core.List.{IsPrefix}
use Rattle.dm_chronicle.proofs.Lists.{mine_append}
use Rattle.dm_chronicle.specs.Belongs.{belongs}
use Rattle.dm_chronicle.specs.Rule.{mine, keep_if}
use Rattle.dm_event.specs.Actors.{actors}
use Rattle.dm_event.specs.Layout.{Layout}
use Rattle.dm_event.specs.declared.actor.Actor.{Actor}
use Rattle.dm_event.specs.declared.step.Step.{Step}
use Rattle.dm_model.proofs.Histories.{legal_prefix}
use Rattle.dm_model.specs.Legal.{Legal, LegalPast}

nothing_more : {X : Type 0} (xs ys : List X) → xs ++ ys ≡ xs → ys ≡ []
nothing_more xs [] e = refl
nothing_more xs (y ∷ ys) e = absurd (let l = ap (λ (zs : List _). length zs) e in omega (arith, l, length-append xs (y ∷ ys)))

kept_none : {X : Type 0} (b : Bool) (x : X) (xs : List X) → keep_if b x xs ≡ [] → (b ≡ false) × (xs ≡ [])
kept_none true x xs e = absurd (cc (e))
kept_none false x xs e = (refl, e)

-- the past of one step more
pub reverse_snoc : {X : Type 0} (xs : List X) (x : X) → reverse (xs ++ x ∷ []) ≡ x ∷ reverse xs
reverse_snoc xs x = reverse-append xs (x ∷ [])

-- where the longer list has no further step of the actor, what it has more has none
pub none_of_it : (a : Actor) (old new : List Step) (p : IsPrefix old new) → mine (belongs actors) a new ≡ mine (belongs actors) a old
    → mine (belongs actors) a p.0 ≡ []
none_of_it a old new p same =
    nothing_more (mine (belongs actors) a old) (mine (belongs actors) a p.0)
    (sym (mine_append (belongs actors) a old p.0) ∙ (ap (mine (belongs actors) a) p.1 ∙ same))

-- what each step keeps holds of every longer list
module _ (layout : Layout) (P : List Step → Type 0) (keeps : (past : List Step) (s : Step) → LegalPast layout (s ∷ past) → P past → P (s ∷ past)) where
  pub longer_past : (more past : List Step) → LegalPast layout (more ++ past) → P past → P (more ++ past)
  longer_past [] past l p = p
  longer_past (s ∷ more) past l p = keeps (more ++ past) s l (longer_past more past l.0 p)

  pub longer : (old new : List Step) → IsPrefix old new → Legal layout new → P (reverse old) → P (reverse new)
  longer old new p l h =
      let e : reverse new ≡ reverse p.0 ++ reverse old = ap (λ (ss : List Step). reverse ss) (sym p.1) ∙ reverse-append old p.0 in
      subst P (sym e) (longer_past (reverse p.0) (reverse old) (subst (λ (ss : List Step). LegalPast layout ss) e l) h)

-- what each step of others keeps
module _ (layout : Layout) (a : Actor) (P : List Step → Type 0)
    (keeps : (past : List Step) (s : Step) → LegalPast layout (s ∷ past) → belongs actors s a ≡ false → P past → P (s ∷ past)) where
  grown_by : (more steps : List Step) → Legal layout (steps ++ more) → mine (belongs actors) a more ≡ [] → P (reverse steps) → P (reverse (steps ++ more))
  grown_by [] steps l m p = subst (λ (h : List Step). P (reverse h)) (sym (append-nil steps)) p
  grown_by (s ∷ more) steps l m p =
      let parts = kept_none (belongs actors s a) s (mine (belongs actors) a more) m in
      let e : (steps ++ s ∷ []) ++ more ≡ steps ++ s ∷ more = append_assoc steps (s ∷ []) more in
      let whole : Legal layout ((steps ++ s ∷ []) ++ more) = subst (λ (h : List Step). Legal layout h) (sym e) l in
      let here : LegalPast layout (s ∷ reverse steps) =
      subst (λ (h : List Step). LegalPast layout h) (reverse_snoc steps s) (legal_prefix layout (steps ++ s ∷ []) more whole) in
      subst (λ (h : List Step). P (reverse h)) e
      (grown_by more (steps ++ s ∷ []) whole parts.1 (subst P (sym (reverse_snoc steps s)) (keeps (reverse steps) s here parts.0 p)))

  pub grown : (old new : List Step) → IsPrefix old new → mine (belongs actors) a new ≡ mine (belongs actors) a old → Legal layout new
      → P (reverse old) → P (reverse new)
  grown old new p same l h =
      subst (λ (h : List Step). P (reverse h)) p.1
      (grown_by p.0 old (subst (λ (h : List Step). Legal layout h) (sym p.1) l) (none_of_it a old new p same) h)

-- what each step of others leaves as it is, the longer list has as it was
pub unchanged : {X : Type 0} (layout : Layout) (a : Actor) (read : List Step → X)
    → ((past : List Step) (s : Step) → LegalPast layout (s ∷ past) → belongs actors s a ≡ false → read (s ∷ past) ≡ read past)
    → (old new : List Step) → IsPrefix old new → mine (belongs actors) a new ≡ mine (belongs actors) a old → Legal layout new
    → read (reverse new) ≡ read (reverse old)
unchanged layout a read leaves old new p same l =
    grown layout a (λ past. read past ≡ read (reverse old)) (λ past s k b e. leaves past s k b ∙ e) old new p same l refl
