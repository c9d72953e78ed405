-- Where an attempt runs, by how its session's last attempt stands.
use Rattle.std.proofs.Common.{ℕ, ◌≤◌, ◌≡◌, ◌&&◌, Bool, true, false, if◌then◌else◌, Option, Some, None, List, refl, sym, ap, ◌∙◌, arith, nat_le}
use Rattle.std.proofs.lemmas.Bool.{false≢true, false_from_ne_true, and_parts, leb-true}
use Rattle.std.specs.Prelude.{option_and_then}
use Rattle.dm_event.proofs.Sites.{find_first, find_nothing}
use Rattle.dm_event.specs.Layout.{Layout, is_between}
use Rattle.dm_event.specs.Txns.{same_txn}
use Rattle.dm_event.specs.declared.attempt.Attempt.{Attempt}
use Rattle.dm_event.specs.declared.attempt.AttemptState.{AttemptState}
use Rattle.dm_event.specs.declared.attempt.AttemptState.TheVariants.{Running}
use Rattle.dm_event.specs.declared.step.Step.{Step}
use Rattle.dm_event.specs.declared.step.TxnId.{TxnId}
use Rattle.dm_kept.specs.Telling.{site_of, site_told}
use Rattle.dm_model.proofs.RunningStates.{runs_tells, tells_runs}
use Rattle.dm_model.proofs.SameValues.{txn_same, txn_own}
use Rattle.dm_model.specs.Attempts.{attempt}
use Rattle.dm_model.specs.Legal.{LegalPast}
use Rattle.dm_model.specs.Runs.{runs, run_site}

module _ (layout : Layout) (past : List Step) (legal : LegalPast layout past) (t : TxnId) where
  nowhere : ((i : ℕ) → 1 ≤ i → i ≤ layout.sites → attempt t.session past ≡ record { txn = Some t; state = Running i } → ⊥) → run_site layout past t ≡ None
  nowhere h =
      find_nothing (λ i. runs i t past) 1 layout.sites
      (λ j x y. false_from_ne_true (runs j t past) (λ r. h j x (omega (arith, y)) (runs_tells layout past legal j t r)))

  by_state : (st : AttemptState) → attempt t.session past ≡ record { txn = Some t; state = st } → run_site layout past t ≡ site_of layout.sites st
  by_state (Running i) e = by (is_between 1 layout.sites i) refl
    where
      same : (j : ℕ) → attempt t.session past ≡ record { txn = Some t; state = Running j } → i ≡ j
      same j f = (let g : Running i ≡ Running j = ap (λ (a : Attempt). a.state) (sym e ∙ f) in cc (g))

      inside : (a b : ℕ) → 1 ≤ a → a ≤ b → (nat_le 1 a && nat_le a b) ≡ true
      inside a b x y = grind (arith, x, y)

      by : (b : Bool) → is_between 1 layout.sites i ≡ b → run_site layout past t ≡ (if b then Some i else None)
      by true f =
          let r = and_parts (nat_le 1 i) (nat_le i layout.sites) f in
          let top = leb-true i layout.sites r.1 in
          find_first (λ j. runs j t past) 1 layout.sites i (leb-true 1 i r.0) (omega (arith, top)) (tells_runs layout past legal i t e)
          (λ j x y. false_from_ne_true (runs j t past) (λ g. (let z = same j (runs_tells layout past legal j t g) in omega (arith, z, y))))
      by false f = nowhere (λ j x y g. (let z = same j g in false≢true (sym f ∙ ap (λ (k : ℕ). is_between 1 layout.sites k) z ∙ inside j layout.sites x y)))
  by_state other e = nowhere (λ j x y g. (let z : other ≡ Running j = ap (λ (a : Attempt). a.state) (sym e ∙ g) in cc (z)))

  pub run_site_told : run_site layout past t ≡ site_told layout.sites (attempt t.session past) t
  run_site_told = by (attempt t.session past).txn (attempt t.session past).state refl
    where
      by : (o : Option TxnId) (st : AttemptState) → attempt t.session past ≡ record { txn = o; state = st }
          → run_site layout past t ≡ option_and_then (λ u. if same_txn t u then site_of layout.sites st else None) o
      by None st e = nowhere (λ j x y g. (let z : None ≡ Some t = ap (λ (a : Attempt). a.txn) (sym e ∙ g) in cc (z)))
      by (Some u) st e = test (same_txn t u) refl
        where
          test : (b : Bool) → same_txn t u ≡ b → run_site layout past t ≡ (if b then site_of layout.sites st else None)
          test true f = by_state st (e ∙ ap (λ (x : TxnId). record { txn = Some x; state = st }) (sym (txn_same t u f)))
          test false f =
              nowhere (λ j x y g. (let z : Some u ≡ Some t = ap (λ (a : Attempt). a.txn) (sym e ∙ g) in let w : u ≡ t = cc (z) in
              false≢true (sym f ∙ ap (λ (x : TxnId). same_txn t x) w ∙ txn_own t)))
