use Rattle.dm_table.proofs.Places.{met_place, met_settled}
use Rattle.dm_table.proofs.place.Place.meet.Goals as goal

pub invariant_of-self : goal.invariant_of-self
invariant_of-self g c = met_place c.self.invariant c.meet.new.one c.meet.ensures.one c.meet.ensures.lawful

pub returns-clause-settled : goal.returns-clause-settled
returns-clause-settled g c =
    met_settled c.self.invariant c.meet.new.one c.args.own.now c.meet.new.two c.meet.ensures.one c.meet.ensures.lawful c.meet.ensures.fixed
    c.meet.ensures.two c.meet.ensures.same
