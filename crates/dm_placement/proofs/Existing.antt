-- In a legal history each partition of the window exists.
use Rattle.std.proofs.Common.{ℕ, zero, suc, ◌*◌, ◌/◌, ◌<◌, ◌≡◌, Bool, true, List, [], ◌∷◌, Option, Some, None, length, take, refl, sym, ap, ◌∙◌, arith, inl}
use Rattle.std.proofs.Common.{inr}
use Rattle.std.specs.List.{AllByRecursion as Each, list_all, cons_option, filter_map}
use Rattle.std.specs.Prelude.{◌||◌, nat_le}
use Rattle.std.proofs.Math.Nat.{div-lt_iff_lt-mul}
use Rattle.std.proofs.lemmas.Bool.{cases_eq, cases_lt, and_parts, ltb-true, ne_eqb}
use Rattle.dm_event.specs.Layout.{Layout, is_key}
use Rattle.dm_event.specs.declared.step.Step.{Step}
use Rattle.dm_event.specs.declared.step.Step.TheVariants.{Route}
use Rattle.dm_event.specs.declared.step.Want.TheVariants as want
use Rattle.dm_model.proofs.LegalSteps.{legal_route}
use Rattle.dm_model.specs.Allowed.{Allowed}
use Rattle.dm_model.specs.Choices.{declared_parts, parts_in_order, parts_of, window as window_of}
use Rattle.dm_model.specs.Legal.{LegalPast}
use Rattle.dm_model.specs.Shape.{is_ascending}
use Rattle.dm_model.specs.Tests.{is_among}
use Rattle.dm_placement.proofs.Joined.{Below}
use Rattle.dm_placement.proofs.Distinct.{among_distinct}

each_option : {X : Type 0} (P : X → Type 0) (o : Option X) (xs : List X) → ((x : X) → o ≡ Some x → P x) → Each P xs → Each P (cons_option o xs)
each_option P None xs h k = k
each_option P (Some x) xs h k = (h x refl, k)

each_take : {X : Type 0} (P : X → Type 0) (n : ℕ) (xs : List X) → Each P xs → Each P (take n xs)
each_take P zero xs k = tt
each_take P (suc n) [] k = tt
each_take P (suc n) (x ∷ xs) k = (k.0, each_take P n xs k.1)

-- the partition of a key that exists exists
key_below : (layout : Layout) (key : ℕ) → is_key layout key ≡ true → key / layout.width < length layout.masters
key_below layout key h =
    let small : key < length layout.masters * layout.width = ltb-true key (length layout.masters * layout.width) h in
    elim (cases_lt 0 layout.width) [
      | inl wide ↦ (div-lt_iff_lt-mul wide).1 small
      | inr none ↦ absurd (let e : length layout.masters * layout.width ≡ length layout.masters * 0 =
          ap (λ (n : ℕ). length layout.masters * n) (omega (arith, none)) in omega (arith, e, small))
    ]

pub keys_below : (layout : Layout) (keys : List ℕ) → list_all (is_key layout) keys ≡ true → Below (length layout.masters) (parts_in_order layout keys)
keys_below layout [] h p e = absurd (cc (e))
keys_below layout (key ∷ keys) h p e =
    let parts = and_parts (is_key layout key) (list_all (is_key layout) keys) h in
    elim (cases_eq (key / layout.width) p) [
      | inl q ↦ (let below = key_below layout key parts.0 in omega (arith, q, below))
      | inr d ↦ keys_below layout keys parts.1 p (sym (ap (λ (b : Bool). b || is_among (parts_in_order layout keys) p) (ne_eqb (key / layout.width) p d)) ∙ e)
    ]

declared_below : (layout : Layout) (past : List Step) (s : Step) (parts : List ℕ) → Allowed layout past s → declared_parts layout s ≡ Some parts
    → Below (length layout.masters) parts
declared_below layout past (Route txn (want.Txn (key ∷ keys)) min site choice) parts a e p among =
    let wanted = (legal_route layout past txn (want.Txn (key ∷ keys)) min site choice a).wants in
    let exist = (and_parts (nat_le (length (key ∷ keys)) 32) _ (and_parts (is_ascending (key ∷ keys)) _ wanted).1).1 in
    let same : parts_of layout (key ∷ keys) ≡ parts = cc (e) in
    keys_below layout (key ∷ keys) exist p (sym (among_distinct (parts_in_order layout (key ∷ keys)) p) ∙ ap (λ (l : List ℕ). is_among l p) same ∙ among)
declared_below layout past s parts a e p among = absurd (cc (e))

routes_below : (layout : Layout) (past : List Step) → LegalPast layout past → Each (Below (length layout.masters)) (filter_map (declared_parts layout) past)
routes_below layout [] h = tt
routes_below layout (s ∷ past) h =
    each_option (Below (length layout.masters)) (declared_parts layout s) (filter_map (declared_parts layout) past)
    (λ parts e. declared_below layout past s parts h.1 e) (routes_below layout past h.0)

pub window_below : (layout : Layout) (past : List Step) → LegalPast layout past → Each (Below (length layout.masters)) (window_of layout past)
window_below layout past h = each_take (Below (length layout.masters)) 256 (filter_map (declared_parts layout) past) (routes_below layout past h)
