use Rattle.std.proofs.Common.{◌∙◌}
use Rattle.dm_kept.proofs.Counts.{own_count}
use Rattle.dm_kept.specs.Ledger.{past}
use Rattle.dm_kept.proofs.kept.telling.KeptTold.entry_count.Goals as goal

pub returns-clause-exact : goal.returns-clause-exact
returns-clause-exact c = c.reached.ensures.exact ∙ own_count c.args.self.now.layout (past c.args.self.now) c.args.origin c.requires
