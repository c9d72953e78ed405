use Rattle.std.proofs.Common.{ap, ◌∙◌, reverse}
use Rattle.dm_listed.specs.Tales.{Tale}
use Rattle.dm_model.specs.Choices.{window as window_of}
use Rattle.dm_listed.proofs.listed.ListedTold.window.Goals as goal

pub returns : goal.returns
returns c = c.self.invariant.window ∙ ap (λ (t : Tale). reverse (window_of t.layout t.past)) c.self.view_is
