-- Keys that ascend are in order.
use Rattle.std.proofs.Common.{◌≡◌, ◌∙◌, refl, ap, true, false, List, [], ◌∷◌, Option, Some, Ok, ℕ, ◌<◌, nat_lt, arith}
use Rattle.std.specs.Prelude.{◌==◌, option_and_then}
use Rattle.std.proofs.lemmas.Bool.{ltb-true, le-ltb}
use Rattle.std.proofs.lemmas.Bool.Decides.{nat_tests}
use Rattle.dm_event.specs.Ascending.{ascending, with_key}
use Rattle.dm_event.specs.Layout.{Layout}
use Rattle.dm_kinds.specs.Kinds.{declared_of}
use Rattle.dm_kinds.specs.Ranges.{fit_keys, ascends, rises}
use Rattle.dm_kinds.proofs.Chains.{and_true}

not_same : (a b : ℕ) → a < b → (b == a) ≡ false
not_same a b lt = grind (arith, nat_tests)

first_placed : (key x : ℕ) (xs : List ℕ) → key < x → with_key key (x ∷ xs) ≡ Some (key ∷ (x ∷ xs))
first_placed key x xs lt = rw (le-ltb x key (omega arith), not_same key x lt) refl

rises_ascending : (key : ℕ) (keys : List ℕ) → rises key keys ≡ true → ascending (key ∷ keys) ≡ Some (key ∷ keys)
unfolding rises
rises_ascending key [] h = refl
rises_ascending key (x ∷ xs) h =
    let p = and_true (nat_lt key x) (rises x xs) h in
    ap (λ (o : Option (List ℕ)). option_and_then (with_key key) o) (rises_ascending x xs p.1) ∙ (first_placed key x xs (ltb-true key x p.0))

pub ascending_same : (keys : List ℕ) → ascends keys ≡ true → ascending keys ≡ Some keys
unfolding ascends
ascending_same [] h = refl
ascending_same (key ∷ keys) h = rises_ascending key keys h

pub declared_same : (layout : Layout) (keys : List ℕ) → fit_keys layout keys ≡ true → ascends keys ≡ true → declared_of layout keys ≡ Ok keys
unfolding declared_of
declared_same layout keys fit up = rw (fit, up) refl
