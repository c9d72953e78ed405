use Rattle.std.proofs.Common.{◌≡◌, ◌++◌}
use Rattle.dm_record.specs.Bytes.{pairs}
use Rattle.dm_record.proofs.Passing.{on_ok, pairs_first}
use Rattle.dm_record.proofs.encoding.+push_pairs.Goals as goal

pub returns-clause-written : goal.returns-clause-written
returns-clause-written t c = on_ok _ (c.push_pairs.new.out.items ≡ c.args.out.now.items ++ pairs c.args.list.now) c.push_pairs.result c.push_pairs.ensures.written
    (λ more. pairs_first c.args.out.now.items c.push_pair.new.out.items c.push_pairs.new.out.items c.args.list.now _ c.in-len1-up.len_at_least
    c.in_ok-push_pair.ensures.written more)
