use Rattle.std.proofs.Common.{◌≡◌, sym, ◌∙◌, subst, arith, true, List, ◌+◌, drop}
use Rattle.dm_record.specs.Judging.{Tells}
use Rattle.std.proofs.lemmas.List.{take_rest}
use Rattle.dm_record.specs.declared.record.Record.{Record}
use Rattle.dm_redo.specs.Finding.{Finds}
use Rattle.dm_redo.specs.Comparing.{is_open}
use Rattle.dm_redo.proofs.Compared.{open_within, open_is}
use Rattle.dm_redo.proofs.Finding.{found_more, is_bad, bad_there}
use Rattle.dm_redo.proofs.loading.find_end.Goals as goal

pub loop-alloc-preserved : goal.loop-alloc-preserved
loop-alloc-preserved c =
    let some = subst (Tells (drop (c.loop-alloc.gate + 1) c.args.bytes.now)) c.in-Ok-Whole.field-0-is (rw take_rest at c.in-Ok-Whole.ensures.tells) in
    let opens : is_open (drop c.loop-alloc.gate c.args.bytes.now) ≡ true = sym c.is_open.ensures.same ∙ c.loop-alloc-test.true in
    let more = open_within c.args.bytes.now c.loop-alloc.gate opens in
    let first = open_is c.args.bytes.now c.loop-alloc.gate opens in
    subst (λ (l : List Record). Finds c.args.bytes.now (c.loop-alloc.gate + (c.in-Ok-Whole.used + 1)) l) (sym c.in-Ok.ensures.items)
    (found_more c.args.bytes.now c.loop-alloc.gate c.in-Ok-Whole.used c.loop-alloc.records.items c.in-Ok-Whole.rec c.loop-alloc.invariant
    (omega (arith, more)) first some.0 some.1)

pub returns-in-Ok-Short-clause-bad : goal.returns-in-Ok-Short-clause-bad
returns-in-Ok-Short-clause-bad c =
    let tells = subst (Tells (drop (c.loop-alloc.gate + 1) c.args.bytes.now)) c.in-Ok-Short.field-0-is (rw take_rest at c.in-Ok-Short.ensures.tells) in
    let opens : is_open (drop c.loop-alloc.gate c.args.bytes.now) ≡ true = sym c.is_open.ensures.same ∙ c.loop-alloc-test.true in
    let more = open_within c.args.bytes.now c.loop-alloc.gate opens in
    let first = open_is c.args.bytes.now c.loop-alloc.gate opens in
    bad_there c.args.bytes.now c.loop-alloc.gate
    (is_bad c.args.bytes.now c.loop-alloc.gate c.loop-alloc.records.items c.loop-alloc.invariant more first tells.0)

pub returns-in-Ok-Bad-clause-bad : goal.returns-in-Ok-Bad-clause-bad
returns-in-Ok-Bad-clause-bad c =
    let tells = subst (Tells (drop (c.loop-alloc.gate + 1) c.args.bytes.now)) c.in-Ok-Bad.field-0-is (rw take_rest at c.in-Ok-Bad.ensures.tells) in
    let opens : is_open (drop c.loop-alloc.gate c.args.bytes.now) ≡ true = sym c.is_open.ensures.same ∙ c.loop-alloc-test.true in
    let more = open_within c.args.bytes.now c.loop-alloc.gate opens in
    let first = open_is c.args.bytes.now c.loop-alloc.gate opens in
    bad_there c.args.bytes.now c.loop-alloc.gate
    (is_bad c.args.bytes.now c.loop-alloc.gate c.loop-alloc.records.items c.loop-alloc.invariant more first tells.0)
