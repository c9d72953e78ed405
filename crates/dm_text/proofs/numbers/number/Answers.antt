use Rattle.std.proofs.Common.{rules, arith, ◌≡◌, sym, true}
use Rattle.dm_text.specs.Text.{begins_number}
use Rattle.dm_text.proofs.Canonical.{number_begins, number_utf8, number_parsed, number_unparsed, number_over, number_some}
use Rattle.dm_text.proofs.numbers.number.Goals as goal

pub returns-then-not-begins_number-clause-exact : goal.returns-then-not-begins_number-clause-exact
returns-then-not-begins_number-clause-exact c = sym (number_begins c.args.most c.args.word.now (omega arith) (search rules))

pub returns-in_default-clause-exact : goal.returns-in_default-clause-exact
returns-in_default-clause-exact c = sym (number_utf8 c.args.most c.args.word.now (omega arith) (c.in_default.ensures.cases.0))

pub returns-then-n-most-clause-exact : goal.returns-then-n-most-clause-exact
returns-then-n-most-clause-exact c =
    let b : begins_number c.args.word.now ≡ true = search rules in
    let p = number_parsed c.args.most c.args.word.now c.in-Ok-parse.n c.parse.result b (rw (c.in-Ok.ensures.cases.0) at c.parse.ensures.value.0)
    c.in-Ok-parse.is in
    sym (number_some c.args.most c.args.word.now c.in-Ok-parse.n p.1 c.if-n-most.true p.0)

pub returns-else-n-most-clause-exact : goal.returns-else-n-most-clause-exact
returns-else-n-most-clause-exact c =
    let b : begins_number c.args.word.now ≡ true = search rules in
    let p = number_parsed c.args.most c.args.word.now c.in-Ok-parse.n c.parse.result b (rw (c.in-Ok.ensures.cases.0) at c.parse.ensures.value.0)
    c.in-Ok-parse.is in
    sym (number_over c.args.most c.args.word.now c.in-Ok-parse.n (omega arith) p.1 p.0 c.if-n-most.false)

pub returns-in-Err-clause-exact : goal.returns-in-Err-clause-exact
returns-in-Err-clause-exact c =
    let b : begins_number c.args.word.now ≡ true = search rules in
    sym (number_unparsed c.args.most c.args.word.now c.parse.result _ (omega arith) b (rw (c.in-Ok.ensures.cases.0) at c.parse.ensures.value.0) c.in-Err.is)
