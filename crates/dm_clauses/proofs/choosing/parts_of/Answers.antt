use Rattle.std.proofs.Common.{ℕ, ◌+◌, ◌<◌, ◌≤◌, ◌≡◌, ◌/◌, true, List, [], ◌∷◌, ◌++◌, Option, Some, length, get_or, take, sym, ap, ap₂, ◌∙◌, arith, subst}
use Rattle.std.specs.List.Sorted.{IsStrictlyIncreasing}
use Rattle.std.specs.Prelude.{unwrap_or}
use Rattle.std.proofs.lemmas.List.{get_or-take, length-take-le, take_all, take_more}
use Rattle.dm_event.specs.Layout.{Layout, is_key, part_of}
use Rattle.dm_event.specs.Parts.{with_part}
use Rattle.dm_model.specs.Choices.{parts_in_order, parts_of}
use Rattle.dm_model.specs.Tests.{is_among}
use Rattle.dm_placement.proofs.Distinct.{among_distinct}
use Rattle.dm_placement.proofs.Existing.{keys_below}
use Rattle.dm_clauses.proofs.KeysAway.{key_in, part_is}
use Rattle.dm_clauses.proofs.choosing.parts_of.Goals as goal

-- the first of ascending keys ascend
front_rises : (keys : List ℕ) (n : ℕ) → n ≤ length keys → IsStrictlyIncreasing keys → IsStrictlyIncreasing (take n keys)
front_rises keys n few h k l =
    let long = length-take-le n keys few in
    let one = get_or-take n keys k 0 (omega (arith, l, long)) in
    let two = get_or-take n keys (k + 1) 0 (omega (arith, l, long)) in
    let less = h k (omega (arith, l, long, few)) in
    omega (arith, one, two, less)

key_part : (layout : Layout) (key part : ℕ) → is_key layout key ≡ true → Some part ≡ part_of layout key → part ≡ key / layout.width
key_part layout key part h e = ap (λ (o : Option ℕ). unwrap_or o 0) (e ∙ part_is layout key h)

pub loop-key-preserved : goal.loop-key-preserved
loop-key-preserved c =
    let layout = c.args.schema.now in
    let keys = c.args.keys.now in
    let i = c.loop-key.key-index in
    let same : c.as_slice-key-items.result.now ≡ keys = c.as_slice-key-items.ensures.same in
    let within : i < length keys = subst (λ (l : List ℕ). i < length l) same c.loop-key-test.true in
    let key = get_or keys i 0 in
    let longer : take (i + 1) keys ≡ take i keys ++ key ∷ [] = take_more keys i 0 within in
    let rises : IsStrictlyIncreasing keys = subst (λ (l : List ℕ). IsStrictlyIncreasing l) same c.as_slice-key-items.ensures.ascends in
    let front : IsStrictlyIncreasing (take i keys ++ key ∷ []) =
    subst (λ (l : List ℕ). IsStrictlyIncreasing l) longer (front_rises keys (i + 1) (omega (arith, within)) rises) in
    let part : c.in-Some.part ≡ key / layout.width =
    key_part layout key c.in-Some.part (key_in layout keys c.requires i within)
    (sym c.in-Some.is ∙ c.part_of.ensures.exact ∙ ap (λ (l : List ℕ). part_of layout (get_or l i 0)) same) in
    c.add.ensures
    ∙ ap₂ (λ (p : ℕ) (set : List ℕ). with_part p set) part c.loop-key.invariant
    ∙ c.choices_due.ensures.listed layout (take i keys) key front
    ∙ ap (λ (l : List ℕ). parts_of layout l) (sym longer)

pub returns-clause-exact : goal.returns-clause-exact
returns-clause-exact c =
    c.loop-key.invariant
    ∙ ap (λ (l : List ℕ). parts_of c.args.schema.now l) (take_all c.loop-key.key-index c.args.keys.now
    (subst (λ (l : List ℕ). length l ≤ c.loop-key.key-index) c.as_slice-key-items.ensures.same c.loop-key-test.false))

pub returns-clause-within : goal.returns-clause-within
returns-clause-within c p e =
    let layout = c.args.schema.now in
    keys_below layout c.args.keys.now c.requires p
    (sym (among_distinct (parts_in_order layout c.args.keys.now) p) ∙ ap (λ (l : List ℕ). is_among l p) (sym (returns-clause-exact c)) ∙ e)
