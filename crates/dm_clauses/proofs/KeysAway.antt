-- On which partitions of its keys a site may not begin.
use Rattle.std.proofs.Common.{ℕ, zero, suc, ◌+◌, ◌/◌, ◌<◌, ◌≡◌, Bool, true, false, cond, not, List, [], ◌∷◌, Option, Some, None, length, drop, get_or, refl, ap}
use Rattle.std.proofs.Common.{sym, ◌∙◌, arith}
use Rattle.std.specs.Prelude.{find, nat_lt}
use Rattle.std.specs.List.{list_all}
use Rattle.std.specs.Option.{option_or}
use Rattle.std.proofs.lemmas.Bool.{and_parts, cond-true}
use Rattle.std.proofs.lemmas.Grind.{get_or_default_zero}
use Rattle.dm_event.specs.Layout.{Layout, part_of, key_count, is_key}
use Rattle.dm_event.specs.declared.step.Step.{Step}
use Rattle.dm_model.specs.Choices.{parts_in_order}
use Rattle.dm_model.specs.Placings.{placing, may_begin_now}
use Rattle.dm_clauses.specs.Judging.{away}
use Rattle.dm_steps.proofs.Finding.{rest_is}

-- a key in range has its partition
pub part_is : (layout : Layout) (key : ℕ) → is_key layout key ≡ true → part_of layout key ≡ Some (key / layout.width)
part_is layout key h = cond-true (nat_lt key (key_count layout)) _ _ h

first_key : (layout : Layout) (past : List Step) (site key : ℕ) (ps : List ℕ)
    → find (λ p. not (may_begin_now (placing layout past p) site)) (key / layout.width ∷ ps) ≡ option_or (away layout past site key)
    (find (λ p. not (may_begin_now (placing layout past p) site)) ps)
first_key layout past site key ps = by_test (not (may_begin_now (placing layout past (key / layout.width)) site))
  where
    by_test : (b : Bool) → cond b (Some (key / layout.width)) (find (λ p. not (may_begin_now (placing layout past p) site)) ps)
        ≡ option_or (cond b (Some (key / layout.width)) None) (find (λ p. not (may_begin_now (placing layout past p) site)) ps)
    by_test true = refl
    by_test false = refl

-- the rest of the keys from a place on, of which the first is looked at first
abbrev pub left : Layout → List Step → ℕ → List ℕ → Option ℕ
left layout past site keys = find (λ p. not (may_begin_now (placing layout past p) site)) (parts_in_order layout keys)

pub left_at : (layout : Layout) (past : List Step) (site : ℕ) (keys : List ℕ) (i : ℕ) → i < length keys
    → left layout past site (drop i keys) ≡ option_or (away layout past site (get_or keys i 0)) (left layout past site (drop (i + 1) keys))
left_at layout past site keys i h =
    ap (λ (l : List ℕ). left layout past site l) (rest_is keys i (get_or keys i 0) h (sym (get_or_default_zero keys i (get_or keys i 0) h)))
    ∙ first_key layout past site (get_or keys i 0) (parts_in_order layout (drop (i + 1) keys))

-- each of the keys is in range
pub key_in : (layout : Layout) (keys : List ℕ) → list_all (is_key layout) keys ≡ true → (i : ℕ) → i < length keys → is_key layout (get_or keys i 0) ≡ true
key_in layout [] a i h = absurd (omega (arith, h))
key_in layout (k ∷ keys) a zero h = (and_parts (is_key layout k) (list_all (is_key layout) keys) a).0
key_in layout (k ∷ keys) a (suc i) h = key_in layout keys (and_parts (is_key layout k) (list_all (is_key layout) keys) a).1 i (omega (arith, h))
