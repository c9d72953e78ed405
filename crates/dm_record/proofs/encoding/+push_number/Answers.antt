use Rattle.std.proofs.Common.{◌≡◌, ◌++◌, arith}
use Rattle.dm_record.specs.Bytes.{digits}
use Rattle.dm_record.proofs.Passing.{on_ok, pushed}
use Rattle.dm_record.proofs.encoding.+push_number.Goals as goal

pub returns : goal.returns
returns t c = on_ok _ (c.push_number.new.out.items ≡ c.args.out.now.items ++ digits c.args.width c.args.n) c.push_number.result c.push_number.ensures
    (λ more. pushed c.args.out.now.items c.push.new.self.items c.push_number.new.out.items c.args.width c.args.n c.span_of-first.result
    (omega arith) c.span_of-first.ensures.value c.in_ok-push.ensures.items more)
