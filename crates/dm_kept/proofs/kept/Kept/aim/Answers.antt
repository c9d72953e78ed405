use Rattle.std.proofs.Common.{ap, ◌∙◌}
use Rattle.dm_aims.specs.Aiming.{aim_of}
use Rattle.dm_kept.specs.Ledger.{Ledger, past}
use Rattle.dm_kept.proofs.kept.Kept.aim.Goals as goal

pub returns : goal.returns
returns c = c.aim.ensures ∙ c.self.invariant.aims c.args.session ∙ ap (λ (k : Ledger). aim_of k.layout (past k) c.args.session) c.self.view_is
