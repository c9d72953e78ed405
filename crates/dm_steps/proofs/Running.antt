-- What a further step makes of the list of the attempts that run at a site.
use Rattle.std.proofs.Common.{ℕ, ◌≡◌, ◌==◌, Bool, true, false, cond, if◌then◌else◌, List, [], ◌∷◌, ◌++◌, Option, Some, None, refl, sym, ap, ◌∙◌, subst}
use Rattle.std.proofs.Common.{unwrap_or, inl, inr}
use Rattle.std.proofs.lemmas.Bool.{cases_Bool, false≢true}
use Rattle.std.proofs.lemmas.List.{reverse-append, reverse-reverse}
use Rattle.std.proofs.lemmas.List.Elements.{filter-append}
use Rattle.std.specs.List.{AllByRecursion as Each, list_any, cons_option}
use Rattle.std.specs.Option.{option_or}
use Rattle.std.specs.Prelude.{not, ◌||◌, filter, filter_map, reverse}
use Rattle.dm_event.specs.Layout.{Layout}
use Rattle.dm_event.specs.declared.step.Step.{Step}
use Rattle.dm_event.specs.declared.step.Step.TheVariants.{Begin, Commit, End, Fail, Doubt, Restart}
use Rattle.dm_event.specs.declared.step.TxnId.{TxnId}
use Rattle.dm_model.proofs.ListFacts.{each_reverse}
use Rattle.dm_model.proofs.SameValues.{txn_same, txn_own}
use Rattle.dm_model.specs.Allowed.{Allowed}
use Rattle.dm_model.specs.Legal.{LegalPast}
use Rattle.dm_model.specs.Runs.{runs, runs_after, running, begun_at}
use Rattle.dm_event.specs.Txns.{same_txn}
use Rattle.dm_model.specs.Words.{latest}
use Rattle.dm_steps.proofs.Fresh.{fresh}
use Rattle.dm_steps.specs.Next.{without, next_running}

module _ {X : Type 0} (p q : X → Bool) where
  -- tests that agree on each element leave the same
  pub filter_same : (xs : List X) → Each (λ x. p x ≡ q x) xs → filter p xs ≡ filter q xs
  filter_same [] h = refl
  filter_same (x ∷ xs) h = by (p x) (q x) h.0 (filter_same xs h.1)
    where
      by : (b c : Bool) → b ≡ c → filter p xs ≡ filter q xs → cond b (x ∷ filter p xs) (filter p xs) ≡ cond c (x ∷ filter q xs) (filter q xs)
      by true true e r = ap (λ (l : List X). x ∷ l) r
      by false false e r = r
      by true false e r = absurd (false≢true (sym e))
      by false true e r = absurd (false≢true e)

  -- a test after a test
  pub filter_twice : (xs : List X) → filter p (filter q xs) ≡ filter (λ x. if p x then q x else false) xs
  filter_twice [] = refl
  filter_twice (x ∷ xs) = by (q x) (p x) refl (filter_twice xs)
    where
      by : (b c : Bool) → p x ≡ c → filter p (filter q xs) ≡ filter (λ y. if p y then q y else false) xs
          → filter p (cond b (x ∷ filter q xs) (filter q xs)) ≡ cond (if c then b else false) (x ∷ filter (λ y. if p y then q y else false) xs)
          (filter (λ y. if p y then q y else false) xs)
      by true true e r = rw e (ap (λ (l : List X). x ∷ l) r)
      by true false e r = rw e r
      by false true e r = r
      by false false e r = r

each_of : {X : Type 0} (P : X → Type 0) → ((x : X) → P x) → (xs : List X) → Each P xs
each_of P f [] = tt
each_of P f (x ∷ xs) = (f x, each_of P f xs)

none_pass : {X : Type 0} (xs : List X) → filter (λ (x : X). false) xs ≡ []
none_pass [] = refl
none_pass (x ∷ xs) = none_pass xs

module _ (i : ℕ) (past : List Step) where
  runs_next : (s : Step) (t : TxnId) → runs i t (s ∷ past) ≡ unwrap_or (runs_after i t s) (runs i t past)
  runs_next s t = by (runs_after i t s)
    where
      by : (o : Option Bool) → unwrap_or (option_or o (latest (runs_after i t) past)) false ≡ unwrap_or o (runs i t past)
      by None = refl
      by (Some b) = refl

  -- an attempt that ends
  ended : (txn : TxnId) (s : Step) → ((t : TxnId) → runs_after i t s ≡ (if same_txn t txn then Some false else None)) → (xs : List TxnId)
      → filter (λ t. runs i t (s ∷ past)) xs ≡ without txn (filter (λ t. runs i t past) xs)
  ended txn s f xs =
      filter_same _ _ xs (each_of _ (λ t. runs_next s t ∙ ap (λ (o : Option Bool). unwrap_or o (runs i t past)) (f t) ∙ by (same_txn t txn) (runs i t past)) xs)
      ∙ sym (filter_twice (λ t. not (same_txn t txn)) (λ t. runs i t past) xs)
    where
      by : (b r : Bool) → unwrap_or (if b then Some false else None) r ≡ (if not b then r else false)
      by true r = refl
      by false r = refl

  -- a site at which all that runs is dropped
  emptied : (site : ℕ) (s : Step) → ((t : TxnId) → runs_after i t s ≡ (if site == i then Some false else None)) → (xs : List TxnId)
      → filter (λ t. runs i t (s ∷ past)) xs ≡ (if site == i then [] else filter (λ t. runs i t past) xs)
  emptied site s f xs =
      filter_same _ (λ t. unwrap_or (if site == i then Some false else None) (runs i t past)) xs
      (each_of _ (λ t. runs_next s t ∙ ap (λ (o : Option Bool). unwrap_or o (runs i t past)) (f t)) xs)
      ∙ by (site == i)
    where
      by : (b : Bool) → filter (λ t. unwrap_or (if b then Some false else None) (runs i t past)) xs ≡ (if b then [] else filter (λ t. runs i t past) xs)
      by true = none_pass xs
      by false = refl

  module _ (site : ℕ) (txn : TxnId) (begin : List ℕ) (new : list_any (same_txn txn) (filter_map (begun_at i) past) ≡ false) where
    sym_txn : (t u : TxnId) → same_txn t u ≡ false → same_txn u t ≡ false
    sym_txn t u e = elim (cases_Bool (same_txn u t)) [
      | inl p ↦ absurd (false≢true (sym e ∙ subst (λ (x : TxnId). same_txn t x ≡ true) (sym (txn_same u t p)) (txn_own t)))
      | inr p ↦ p
    ]

    each_other : (xs : List TxnId) → list_any (same_txn txn) xs ≡ false → Each (λ t. runs i t (Begin site txn begin ∷ past) ≡ runs i t past) xs
    each_other [] e = tt
    each_other (t ∷ ts) e =
        let parts = or_false (same_txn txn t) (list_any (same_txn txn) ts) e in
        (runs_next (Begin site txn begin) t ∙ rw (sym_txn txn t parts.0) refl, each_other ts parts.1)
      where
        or_false : (a b : Bool) → (a || b) ≡ false → (a ≡ false) × (b ≡ false)
        or_false true b h = absurd (false≢true (sym h))
        or_false false b h = (refl, h)

    turned : (xs : List TxnId) → list_any (same_txn txn) xs ≡ false → Each (λ t. runs i t (Begin site txn begin ∷ past) ≡ runs i t past) (reverse xs)
    turned xs e = each_reverse _ (reverse xs) (subst (λ (l : List TxnId). Each (λ t. runs i t (Begin site txn begin ∷ past) ≡ runs i t past) l)
        (sym (reverse-reverse xs)) (each_other xs e))

    others : filter (λ t. runs i t (Begin site txn begin ∷ past)) (reverse (filter_map (begun_at i) past)) ≡ running i past
    others = filter_same _ _ (reverse (filter_map (begun_at i) past)) (turned (filter_map (begun_at i) past) new)

    started : running i (Begin site txn begin ∷ past) ≡ next_running i (Begin site txn begin) (running i past)
    started = by (site == i) refl
      where
        own : site == i ≡ true → filter (λ t. runs i t (Begin site txn begin ∷ past)) (txn ∷ []) ≡ txn ∷ []
        own e = (let r : runs i txn (Begin site txn begin ∷ past) ≡ true = runs_next (Begin site txn begin) txn ∙ rw (txn_own txn) e in rw r refl)

        by : (b : Bool) → (site == i) ≡ b → filter (λ t. runs i t (Begin site txn begin ∷ past))
            (reverse (cons_option (if b then Some txn else None) (filter_map (begun_at i) past)))
            ≡ (if b then running i past ++ txn ∷ [] else running i past)
        by true e =
            ap (λ (l : List TxnId). filter (λ t. runs i t (Begin site txn begin ∷ past)) l) (reverse-append (txn ∷ []) (filter_map (begun_at i) past))
            ∙ filter-append (λ t. runs i t (Begin site txn begin ∷ past)) (reverse (filter_map (begun_at i) past)) (txn ∷ [])
            ∙ ap (λ (l : List TxnId). l ++ filter (λ t. runs i t (Begin site txn begin ∷ past)) (txn ∷ [])) others
            ∙ ap (λ (l : List TxnId). running i past ++ l) (own e)
        by false e = others

pub running_next : (layout : Layout) (past : List Step) → LegalPast layout past → (s : Step) → Allowed layout past s → (i : ℕ) → running i (s ∷ past)
    ≡ next_running i s (running i past)
running_next layout past h (Begin site txn begin) a i = started i past site txn begin (fresh layout past h site txn begin a i)
running_next layout past h (Commit entry) a i = ended i past entry.txn (Commit entry) (λ t. refl) (reverse (filter_map (begun_at i) past))
running_next layout past h (End site txn ops reads) a i = ended i past txn (End site txn ops reads) (λ t. refl) (reverse (filter_map (begun_at i) past))
running_next layout past h (Fail site txn cause) a i = ended i past txn (Fail site txn cause) (λ t. refl) (reverse (filter_map (begun_at i) past))
running_next layout past h (Doubt site p) a i = emptied i past site (Doubt site p) (λ t. refl) (reverse (filter_map (begun_at i) past))
running_next layout past h (Restart site vector found) a i = emptied i past site (Restart site vector found) (λ t. refl)
    (reverse (filter_map (begun_at i) past))
running_next layout past h other a i = refl
