use Rattle.std.proofs.Common.{rules}
use Rattle.dm_lines.proofs.Declared.{ascending_keys}
use Rattle.dm_lines.proofs.reading.declared_of.Goals as goal

pub returns-clause-keys : goal.returns-clause-keys
returns-clause-keys c = rw (c.ok_or.ensures.value, c.new.ensures.exact) (ascending_keys c.args.schema.now c.args.keys.items _ (search rules))
