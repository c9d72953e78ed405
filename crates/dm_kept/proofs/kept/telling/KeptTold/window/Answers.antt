use Rattle.std.proofs.Common.{ap, ◌∙◌, reverse}
use Rattle.dm_kept.specs.Ledger.{Ledger, past}
use Rattle.dm_model.specs.Choices.{window as window_of}
use Rattle.dm_kept.proofs.kept.telling.KeptTold.window.Goals as goal

pub returns : goal.returns
returns c = c.self.invariant.window ∙ ap (λ (k : Ledger). reverse (window_of k.layout (past k))) c.self.view_is
