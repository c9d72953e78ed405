use Rattle.std.proofs.Common.{◌≡◌, ◌∙◌, sym, ap, ℕ, ◌+◌, ◌-◌, ◌*◌, arith, List, take, length, set}
use Rattle.std.proofs.lemmas.List.{take_more_set, take_all, length-set}
use Rattle.dm_record.specs.Form.{walk}
use Rattle.dm_record.specs.Grammar.{components_form}
use Rattle.dm_record.proofs.Opening.{open_vector, no_vector}
use Rattle.dm_record.proofs.parts.vector.Goals as goal

pub returns-in-Err-clause-err : goal.returns-in-Err-clause-err
returns-in-Err-clause-err c = λ next.
    let i = c.loop-i.i in
    c.loop-i.invariant.3 next ∙ open_vector c.args.bytes.now (c.args.at + 8 * i) (c.args.sites - i) (c.args.sites - (i + 1)) (omega arith)
    (take i c.loop-i.vector) next
    ∙ c.in-Err.ensures.err _

pub loop-i-preserved : goal.loop-i-preserved
loop-i-preserved c =
    let i = c.loop-i.i in
    let left = c.args.sites - (i + 1) in
    let is : c.set.new.self ≡ set c.loop-i.vector i c.in-Ok.n = c.set.ensures ∙ ap (λ (k : ℕ). set c.loop-i.vector k c.in-Ok.n) (omega arith) in
    let long : length c.loop-i.vector ≡ c.args.sites = c.loop-i.invariant.1 in (
      omega arith,
      ap length is ∙ length-set c.loop-i.vector i c.in-Ok.n ∙ long,
      omega (arith, c.in-Ok.ensures.within),
      λ next. c.loop-i.invariant.3 next ∙ open_vector c.args.bytes.now (c.args.at + 8 * i) (c.args.sites - i) left (omega arith) (take i c.loop-i.vector) next
          ∙ c.in-Ok.ensures.ok _
          ∙ ap (λ (l : List ℕ). walk (components_form left l next) c.args.bytes.now (c.args.at + 8 * i + 8))
          (sym (ap (take (i + 1)) is ∙ take_more_set c.loop-i.vector i c.in-Ok.n (omega (arith, long))))
          ∙ ap (λ (k : ℕ). walk (components_form left (take (i + 1) c.set.new.self) next) c.args.bytes.now k) (omega arith),
    )

pub returns-clause-ok : goal.returns-clause-ok
returns-clause-ok c = λ next.
    let i = c.loop-i.i in
    let all : i ≡ c.args.sites = omega arith in
    c.loop-i.invariant.3 next ∙ no_vector c.args.bytes.now (c.args.at + 8 * i) (c.args.sites - i) (take i c.loop-i.vector) next (omega arith)
    ∙ ap (λ (l : List ℕ). walk (next l) c.args.bytes.now (c.args.at + 8 * i)) (take_all i c.loop-i.vector (omega (arith, c.loop-i.invariant.1)))
    ∙ ap (λ (k : ℕ). walk (next c.loop-i.vector) c.args.bytes.now (c.args.at + 8 * k)) all
