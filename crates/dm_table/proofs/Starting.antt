-- The last of the partitions' passes, and one more.
use Rattle.std.proofs.Common.{ℕ, suc, ◌+◌, ◌≡◌, ◌<◌, true, List, [], ◌∷◌, ◌++◌, length, Some, refl, sym, ap, ◌∙◌, subst, arith}
use Rattle.std.proofs.lemmas.Bool.{ltb-true}
use Rattle.std.proofs.lemmas.Option.{get_or_from_slice_get}
use Rattle.std.specs.Prelude.{slice_get, slice_index}
use Rattle.atomic_table.specs.Seated.{TableId}
use Rattle.dm_event.specs.Layout.{Layout, is_part}
use Rattle.dm_invariant.specs.Stations.{View, layout_of}
use Rattle.dm_table.specs.Starts.{AreNew, ArePasses, IsNew, IsPassOfPart}

add_suc : (n k : ℕ) → suc n + k ≡ n + suc k
add_suc n k = omega arith

from_zero : (k : ℕ) → 0 + k ≡ k
from_zero k = omega arith

from_last : (table : TableId) (layout : Layout) (n : ℕ) (passes : List View) (pass : View) → AreNew table layout n (passes ++ pass ∷ [])
    → IsNew table layout (n + length passes) pass × AreNew table layout n passes
from_last table layout n [] pass h = (subst (λ (k : ℕ). IsNew table layout k pass) (let e : n ≡ n + 0 = omega arith in e) h.0, tt)
from_last table layout n (p ∷ passes) pass h =
    let r = from_last table layout (suc n) passes pass h.1 in
    (subst (λ (k : ℕ). IsNew table layout k pass) (add_suc n (length passes)) r.0, (h.0, r.1))

pub last_new : (table : TableId) (layout : Layout) (all passes : List View) (pass : View) (n : ℕ) → AreNew table layout 0 all → all ≡ passes ++ pass ∷ []
    → n ≡ length passes → IsNew table layout n pass × AreNew table layout 0 passes
last_new table layout all passes pass n h e k =
    let r = from_last table layout 0 passes pass (subst (λ (l : List View). AreNew table layout 0 l) e h) in
    (subst (λ (m : ℕ). IsNew table layout m pass) (from_zero (length passes) ∙ sym k) r.0, r.1)

pub others_new : (table : TableId) (layout : Layout) (all passes : List View) (pass : View) → AreNew table layout 0 all → all ≡ passes ++ pass ∷ []
    → AreNew table layout 0 passes
others_new table layout all passes pass h e = (last_new table layout all passes pass (length passes) h e refl).1

pub is_inside : (table : TableId) (layout : Layout) (n : ℕ) (pass : View) → IsNew table layout n pass → n < length layout.masters
is_inside table layout n pass h = ltb-true n (length layout.masters) h.there

-- the opening master, as the pass knows it
pub opening : (table : TableId) (layout : Layout) (n master : ℕ) (pass : View) → IsNew table layout n pass → slice_get layout.masters n ≡ Some master
    → master ≡ slice_index (layout_of pass).masters n
opening table layout n master pass h e =
    sym (get_or_from_slice_get layout.masters n master 0 e) ∙ ap (λ (l : Layout). slice_index l.masters n) (sym h.layout_is)

pub is_there : (table : TableId) (layout : Layout) (n : ℕ) (pass : View) → IsNew table layout n pass → is_part (layout_of pass) n ≡ true
is_there table layout n pass h = subst (λ (l : Layout). is_part l n ≡ true) (sym h.layout_is) h.there

with_next : (table : TableId) (n : ℕ) (passes : List View) (pass : View) → ArePasses table n passes → IsPassOfPart table (n + length passes) pass
    → ArePasses table n (passes ++ pass ∷ [])
with_next table n [] pass h p = (subst (λ (k : ℕ). IsPassOfPart table k pass) (let e : n + 0 ≡ n = omega arith in e) p, tt)
with_next table n (q ∷ passes) pass h p =
    (h.0, with_next table (suc n) passes pass h.1 (subst (λ (k : ℕ). IsPassOfPart table k pass) (sym (add_suc n (length passes))) p))

-- one more pass, which is the next one
pub one_more : (table : TableId) (all passes : List View) (pass : View) (n : ℕ) → ArePasses table 0 passes → n ≡ length passes → IsPassOfPart table n pass
    → all ≡ passes ++ pass ∷ [] → ArePasses table 0 all
one_more table all passes pass n h k p e =
    subst (λ (l : List View). ArePasses table 0 l) (sym e)
    (with_next table 0 passes pass h (subst (λ (m : ℕ). IsPassOfPart table m pass) (k ∙ sym (from_zero (length passes))) p))
