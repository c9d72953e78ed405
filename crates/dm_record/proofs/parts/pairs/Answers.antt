use Rattle.std.proofs.Common.{◌∙◌, sym, ap, ℕ, ◌+◌, ◌-◌, ◌*◌, arith, List}
use Rattle.dm_event.specs.declared.step.Pair.{Pair}
use Rattle.dm_record.specs.Form.{walk}
use Rattle.dm_record.specs.Grammar.{pairs_form}
use Rattle.dm_record.proofs.Opening.{open_pairs}
use Rattle.dm_record.proofs.parts.pairs.Goals as goal

pub returns-in-Err-clause-err : goal.returns-in-Err-clause-err
returns-in-Err-clause-err c = λ next.
    let i = c.loop-i.i in
    c.loop-i.invariant.3 next ∙ open_pairs c.args.bytes.now (c.args.at + 12 * i) (c.args.count - i) (c.args.count - 1 - i) (omega arith) c.loop-i.least
    c.loop-i.list.items next
    ∙ c.in-Err.ensures.err _

pub returns-in-Err-number-clause-err : goal.returns-in-Err-number-clause-err
returns-in-Err-number-clause-err c = λ next.
    let i = c.loop-i.i in
    c.loop-i.invariant.3 next ∙ open_pairs c.args.bytes.now (c.args.at + 12 * i) (c.args.count - i) (c.args.count - 1 - i) (omega arith) c.loop-i.least
    c.loop-i.list.items next
    ∙ c.in-Ok.ensures.ok _ ∙ c.in-Err-number.ensures.err _

pub loop-i-preserved : goal.loop-i-preserved
loop-i-preserved c =
    let i = c.loop-i.i in
    let left = c.args.count - 1 - i in (
      omega arith,
      omega (arith, c.in-Ok.ensures.most),
      omega (arith, c.in-Ok-number.ensures.within),
      λ next. c.loop-i.invariant.3 next ∙ open_pairs c.args.bytes.now (c.args.at + 12 * i) (c.args.count - i) left (omega arith) c.loop-i.least
          c.loop-i.list.items next
          ∙ c.in-Ok.ensures.ok _ ∙ c.in-Ok-number.ensures.ok _
          ∙ ap (λ (l : List Pair). walk (pairs_form left (c.in-Ok.n + 1) l next) c.args.bytes.now (c.args.at + 12 * i + 4 + 8)) (sym c.in-Ok-put.ensures)
          ∙ ap (λ (k : ℕ). walk (pairs_form k (c.in-Ok.n + 1) c.put.new.list.items next) c.args.bytes.now (c.args.at + 12 * i + 4 + 8)) (omega arith)
          ∙ ap (λ (k : ℕ). walk (pairs_form (c.args.count - (i + 1)) (c.in-Ok.n + 1) c.put.new.list.items next) c.args.bytes.now k) (omega arith),
    )
