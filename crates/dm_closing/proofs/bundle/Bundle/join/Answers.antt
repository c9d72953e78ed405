use Rattle.std.proofs.Common.{◌++◌, ap, subst, ◌∙◌, List}
use Rattle.dm_chronicle.specs.Belongs.{belongs}
use Rattle.dm_chronicle.specs.Standing.{SameSteps}
use Rattle.dm_closing.proofs.Joins.{came_now}
use Rattle.dm_event.specs.Actors.{actors}
use Rattle.dm_event.specs.declared.actor.Actor.{Actor}
use Rattle.dm_invariant.specs.Stations.{View}
use Rattle.dm_closing.proofs.bundle.Bundle.join.Goals as goal

pub returns-clause-came : goal.returns-clause-came
returns-clause-came g c =
    let j = c.join-pass in let held = c.args.self.pass.actors in
    came_now c.args.name held c.args.other j.result (ap (λ (v : View). v.actors) j.ensures.same ∙ ap (λ (l : List Actor). held ++ l) c.requires.other.1)
    j.ensures.begins_two (subst (λ (l : List Actor). SameSteps (belongs actors) l c.args.other.seen j.result.seen) c.requires.other.1 j.ensures.own_two)
