use Rattle.std.proofs.Common.{◌≡◌, ℕ, zero, suc, List, [], ◌∷◌, true, false, ◌==◌, refl, sym, subst, arith, rules}
use Rattle.std.proofs.lemmas.Bool.{ne_eqb}
use Rattle.std.specs.List.{AllByRecursion as Each}
use Rattle.std.specs.Prelude.{pos}
use Rattle.dm_event.specs.declared.step.Pair.{Pair}
use Rattle.dm_event.specs.declared.step.TxnId.{TxnId}
use Rattle.dm_record.specs.Bytes.{HasRanges, AreKeys, AreValues}
use Rattle.dm_record.specs.declared.record.Record.{Record}
use Rattle.dm_record.specs.declared.record.Record.TheVariants.{Commit}
use Rattle.dm_restart.specs.Plans.{numbers_of, completed, ReachesFloor}
use Rattle.dm_restart.proofs.tests.planned.Goals as goal
use Rattle.dm_store.specs.Rising.{may_install}
use Rattle.dm_store.specs.declared.past.Past.{Past}

abbrev txn : TxnId
txn = record { session = 1; number = 1; attempt = 1 }

abbrev first : List Pair
first = record { key = 3; value = pos 5 } ∷ []

abbrev last : List Pair
last = record { key = 3; value = pos 7 } ∷ []

abbrev logged : List Record
logged = Commit txn 1 (0 ∷ 0 ∷ []) first ∷ Commit txn 2 (1 ∷ 1 ∷ []) last ∷ []

abbrev known : List Past
known = record { origin = 2; seq = 1; writes = record { key = 13; value = pos 9 } ∷ [] } ∷ record { origin = 1; seq = 1; writes = first } ∷ []

first_keys : AreKeys 0 first
first_keys = ((omega arith, omega arith), tt)

last_keys : AreKeys 0 last
last_keys = ((omega arith, omega arith), tt)

first_values : AreValues first
first_values = (search rules, tt)

last_values : AreValues last
last_values = (search rules, tt)

ranges : Each HasRanges logged
ranges = (
  (
    (
      (omega arith, omega arith),
      omega arith,
      omega arith,
      omega arith,
      (omega arith, omega arith),
      (omega arith, omega arith),
      first_keys,
    ),
    (omega arith, omega arith, omega arith, (omega arith, (omega arith, tt)), first_values),
  ),
  (
    (
      (
        (omega arith, omega arith),
        omega arith,
        omega arith,
        omega arith,
        (omega arith, omega arith),
        (omega arith, omega arith),
        last_keys,
      ),
      (omega arith, omega arith, omega arith, (omega arith, (omega arith, tt)), last_values),
    ),
    tt,
  ),
)

-- there are no other origins
none_of : (origin : ℕ) → (2 == origin) ≡ false → (1 == origin) ≡ false → numbers_of origin (completed 1 logged known) ≡ []
none_of origin a b = rw (a, b) refl

whole : ReachesFloor 2 1 logged known
whole zero = refl
whole (suc zero) = refl
whole (suc (suc zero)) = refl
whole (suc (suc (suc k))) = none_of (suc (suc (suc k))) (ne_eqb 2 (suc (suc (suc k))) (λ e. omega (arith, e))) (ne_eqb 1 (suc (suc (suc k))) (λ e. omega (arith, e)))

pub plan-requires-clause-own : goal.plan-requires-clause-own
plan-requires-clause-own c = subst (λ (rs : List Record). Each HasRanges rs) (sym c.in_ok-own.ensures) ranges

pub plan-requires-clause-past : goal.plan-requires-clause-past
plan-requires-clause-past c = subst (λ (ts : List Past). may_install [] ts ≡ true) (sym c.in_ok-past.ensures) refl

pub plan-requires-clause-whole : goal.plan-requires-clause-whole
plan-requires-clause-whole c =
    subst (λ (n : ℕ). ReachesFloor n 1 c.in_ok-own.own c.in_ok-past.past) (sym c.in_ok-schema.ensures)
    (subst (λ (rs : List Record). ReachesFloor 2 1 rs c.in_ok-past.past) (sym c.in_ok-own.ensures)
    (subst (λ (ts : List Past). ReachesFloor 2 1 logged ts) (sym c.in_ok-past.ensures) whole))
