use Rattle.std.proofs.Common.{List, Option, subst, sym}
use Rattle.dm_aims.proofs.AimsNext.{aims_follow}
use Rattle.dm_aims.specs.Aiming.{AreAims}
use Rattle.dm_aims.specs.declared.aim.Aim.{Aim}
use Rattle.dm_aims.proofs.aims.Aims.apply.Goals as goal

pub returns : goal.returns
returns c = record {
  follows = λ layout past shaped states are.
      aims_follow c.args.step.now c.args.states.now c.self.inside.list.items c.keep.new.aims.items c.self.invariant c.keep.ensures.each layout past shaped states
      (subst (λ (l : List (Option Aim)). AreAims layout past l) (sym c.self.view_is) are);
}
