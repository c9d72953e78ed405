use Rattle.std.proofs.Common.{◌≡◌, ◌∙◌, sym, ap, ℕ, ◌+◌, ◌-◌, arith}
use Rattle.dm_record.specs.Form.{Form, walk, number}
use Rattle.dm_record.specs.Stopping.{stopped}
use Rattle.dm_record.proofs.Walks.{number_more, number_bad, ok_to, err_to}
use Rattle.dm_record.proofs.reading.+number_behind.Goals as goal

pub returns-in-Some-clause-ok : goal.returns-in-Some-clause-ok
returns-in-Some-clause-ok t c =
    let a = c.args in
    ok_to _ (λ n. (next : ℕ → Form) → walk (number a.low a.high a.so_far a.width next) a.bytes.now a.at ≡ walk (next n) a.bytes.now (a.at + a.width))
    c.number_behind.result c.number_behind.ensures.ok
    (λ n h next. number_more a.low a.high a.so_far next a.bytes.now a.at a.width (omega arith) (omega arith) c.in-Some.ensures.some.1
    ∙ ap (λ (k : ℕ). walk (number a.low a.high k (a.width - 1) next) a.bytes.now (a.at + 1)) (sym c.in-Some.ensures.some.0)
    ∙ h next ∙ ap (λ (k : ℕ). walk (next n) a.bytes.now k) (omega arith))

pub returns-in-Some-clause-err : goal.returns-in-Some-clause-err
returns-in-Some-clause-err t c =
    let a = c.args in
    err_to _ (λ stop. (next : ℕ → Form) → walk (number a.low a.high a.so_far a.width next) a.bytes.now a.at ≡ stopped stop) c.number_behind.result
    c.number_behind.ensures.err
    (λ n h next. number_more a.low a.high a.so_far next a.bytes.now a.at a.width (omega arith) (omega arith) c.in-Some.ensures.some.1
    ∙ ap (λ (k : ℕ). walk (number a.low a.high k (a.width - 1) next) a.bytes.now (a.at + 1)) (sym c.in-Some.ensures.some.0)
    ∙ h next)

pub returns-in-None-clause-err : goal.returns-in-None-clause-err
returns-in-None-clause-err t c = λ next. number_bad c.args.low c.args.high c.args.so_far next c.args.bytes.now c.args.at c.args.width (omega arith)
    (omega arith) c.in-None.ensures.none
