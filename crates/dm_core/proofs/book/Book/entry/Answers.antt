use Rattle.dm_core.specs.Ledger.{past}
use Rattle.dm_core.proofs.EntriesFit.{entry_fits}
use Rattle.dm_core.proofs.book.Book.entry.Goals as goal

pub returns-clause-origin : goal.returns-clause-origin
returns-clause-origin c = entry_fits c.self.inside.kept.layout (past c.self.inside.kept) c.is_legal.ensures.legal c.args.origin c.args.seq c.entry.result c.entry.ensures
