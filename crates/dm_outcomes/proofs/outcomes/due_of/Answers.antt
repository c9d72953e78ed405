use Rattle.std.proofs.Common.{ap, ◌∙◌, eq-eqb, refl}
use Rattle.dm_event.specs.declared.step.Want.{Want}
use Rattle.dm_model.specs.Outcomes.{wants_place, wants_restart}
use Rattle.dm_outcomes.proofs.outcomes.due_of.Goals as goal

pub last_settled-requires-clause-wanted : goal.last_settled-requires-clause-wanted
last_settled-requires-clause-wanted g c =
    c.requires.wanted (wants_place c.in-Place.part)
    (ap (λ (w : Want). wants_place c.in-Place.part w) c.in-Place.is ∙ eq-eqb c.in-Place.part c.in-Place.part refl)

pub restarted_since-requires : goal.restarted_since-requires
restarted_since-requires g c = c.requires.wanted wants_restart (ap wants_restart c.in-Restart.is)
