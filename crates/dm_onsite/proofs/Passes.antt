-- Five passes, taken off their list from its end.
use Rattle.std.proofs.Common.{◌≡◌, List, [], ◌∷◌, ◌++◌, Some, sym, ap, ◌∙◌}
use Rattle.std.proofs.lemmas.List.{reverse-append, reverse-reverse}
use Rattle.std.specs.Prelude.{reverse}
use Rattle.atomic_table.specs.Seated.{TableId}
use Rattle.dm_chronicle.specs.Standing.{starts}
use Rattle.dm_core.specs.Lawful.{Terms}
use Rattle.dm_event.specs.Layout.{Layout}
use Rattle.dm_event.specs.declared.actor.Actor.{Actor}
use Rattle.dm_event.specs.declared.step.Step.{Step}
use Rattle.dm_invariant.specs.Stations.{View, layout_of}
use Rattle.dm_onsite.specs.Opened.{IsNew}

module _ {A : Type 0} where
  same_ends : (xs ys : List A) (x y : A) → xs ++ x ∷ [] ≡ ys ++ y ∷ [] → x ∷ reverse xs ≡ y ∷ reverse ys
  same_ends xs ys x y e = sym (reverse-append xs (x ∷ [])) ∙ (ap (λ (l : List A). reverse l) e ∙ reverse-append ys (y ∷ []))

  same_last : (xs ys : List A) (x y : A) → xs ++ x ∷ [] ≡ ys ++ y ∷ [] → x ≡ y
  same_last xs ys x y e = cc (same_ends xs ys x y e)

  same_front : (xs ys : List A) (x y : A) → xs ++ x ∷ [] ≡ ys ++ y ∷ [] → xs ≡ ys
  same_front xs ys x y e =
      let back : reverse xs ≡ reverse ys = cc (same_ends xs ys x y e) in
      sym (reverse-reverse xs) ∙ (ap (λ (l : List A). reverse l) back ∙ reverse-reverse ys)

  -- each of the five is the one that stood there
  pub taken : (a b c d e p q r s t : A) (all four three two one none : List A) → all ≡ a ∷ b ∷ c ∷ d ∷ e ∷ [] → all ≡ four ++ t ∷ [] → four ≡ three ++ s ∷ []
      → three ≡ two ++ r ∷ [] → two ≡ one ++ q ∷ [] → one ≡ none ++ p ∷ [] → (p ≡ a) × (q ≡ b) × (r ≡ c) × (s ≡ d) × (t ≡ e)
  taken a b c d e p q r s t all four three two one none h h5 h4 h3 h2 h1 =
      let e5 : four ++ t ∷ [] ≡ (a ∷ b ∷ c ∷ d ∷ []) ++ e ∷ [] = sym h5 ∙ h in
      let e4 : three ++ s ∷ [] ≡ (a ∷ b ∷ c ∷ []) ++ d ∷ [] = sym h4 ∙ same_front four (a ∷ b ∷ c ∷ d ∷ []) t e e5 in
      let e3 : two ++ r ∷ [] ≡ (a ∷ b ∷ []) ++ c ∷ [] = sym h3 ∙ same_front three (a ∷ b ∷ c ∷ []) s d e4 in
      let e2 : one ++ q ∷ [] ≡ (a ∷ []) ++ b ∷ [] = sym h2 ∙ same_front two (a ∷ b ∷ []) r c e3 in
      let e1 : none ++ p ∷ [] ≡ [] ++ a ∷ [] = sym h1 ∙ same_front one (a ∷ []) q b e2 in (
        same_last none [] p a e1,
        same_last one (a ∷ []) q b e2,
        same_last two (a ∷ b ∷ []) r c e3,
        same_last three (a ∷ b ∷ c ∷ []) s d e4,
        same_last four (a ∷ b ∷ c ∷ d ∷ []) t e e5,
      )

-- the pass of an actor at the start
abbrev start : TableId → Terms → List Step → Actor → View
start table terms steps actor = record { table = table; fixed = Some terms; actors = actor ∷ []; seen = steps }

is_new : (table : TableId) (terms : Terms) (steps : List Step) (schema : Layout) (actor : Actor) (pass : View) → steps ≡ [] → terms.layout ≡ schema
    → pass ≡ start table terms steps actor → IsNew table schema actor pass
is_new table terms steps schema actor pass s l e = (
  ap (λ (v : View). v.table) e,
  ap (λ (v : View). v.actors) e,
  ap (λ (v : View). v.seen) e ∙ s,
  ap (λ (v : View). layout_of v) e ∙ l,
)

-- of a chronicle with an empty history
module _ (table : TableId) (terms : Terms) (steps : List Step) (schema : Layout) (empty : steps ≡ []) (its : terms.layout ≡ schema)
    (a b c d e : Actor) (p q r s t : View) (all four three two one none : List View)
    (h : all ≡ starts table terms steps (a ∷ b ∷ c ∷ d ∷ e ∷ [])) (h5 : all ≡ four ++ t ∷ []) (h4 : four ≡ three ++ s ∷ [])
    (h3 : three ≡ two ++ r ∷ []) (h2 : two ≡ one ++ q ∷ []) (h1 : one ≡ none ++ p ∷ []) where
  pub five_new : IsNew table schema a p × IsNew table schema b q × IsNew table schema c r × IsNew table schema d s × IsNew table schema e t
  five_new =
      let is = taken (start table terms steps a) (start table terms steps b) (start table terms steps c) (start table terms steps d)
      (start table terms steps e) p q r s t all four three two one none h h5 h4 h3 h2 h1 in (
        is_new table terms steps schema a p empty its is.0,
        is_new table terms steps schema b q empty its is.1,
        is_new table terms steps schema c r empty its is.2,
        is_new table terms steps schema d s empty its is.3,
        is_new table terms steps schema e t empty its is.4,
      )
