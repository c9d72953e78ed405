use Rattle.std.proofs.Common.{ap}
use Rattle.dm_core.specs.Ledger.{Ledger}
use Rattle.dm_core.proofs.Kept.{kept_legal, kept_snapshot, kept_order, kept_sessions, kept_masters}
use Rattle.dm_core.proofs.book.Book.steps.Goals as goal

pub returns-clause-legal : goal.returns-clause-legal
returns-clause-legal c = kept_legal c.self.inside.kept.layout c.args.self.now.layout c.self.inside.kept.steps c.steps.result.now c.is_legal.ensures.legal
    (ap (λ (b : Ledger). b.layout) c.self.view_is) c.steps.ensures

pub returns-clause-snapshot : goal.returns-clause-snapshot
returns-clause-snapshot c = kept_snapshot c.self.inside.kept.layout c.args.self.now.layout c.self.inside.kept.steps c.steps.result.now c.is_legal.ensures.legal
    (ap (λ (b : Ledger). b.layout) c.self.view_is) c.steps.ensures

pub returns-clause-ordered : goal.returns-clause-ordered
returns-clause-ordered c = kept_order c.self.inside.kept.layout c.args.self.now.layout c.self.inside.kept.steps c.steps.result.now c.is_legal.ensures.legal
    (ap (λ (b : Ledger). b.layout) c.self.view_is) c.steps.ensures

pub returns-clause-session_up : goal.returns-clause-session_up
returns-clause-session_up c = kept_sessions c.self.inside.kept.layout c.args.self.now.layout c.self.inside.kept.steps c.steps.result.now c.is_legal.ensures.legal
    (ap (λ (b : Ledger). b.layout) c.self.view_is) c.steps.ensures

pub returns-clause-one_master : goal.returns-clause-one_master
returns-clause-one_master c = kept_masters c.self.inside.kept.layout c.args.self.now.layout c.self.inside.kept.steps c.steps.result.now c.is_legal.ensures.legal
    (ap (λ (b : Ledger). b.layout) c.self.view_is) c.steps.ensures
