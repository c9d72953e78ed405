use Rattle.dm_event.specs.declared.actor.Actor.TheVariants.{Partition, Session, Site}
use Rattle.dm_onsite.proofs.Passes.{five_new}
use Rattle.dm_onsite.proofs.opening.Opened.new.Goals as goal

pub invariant_of-result : goal.invariant_of-result
invariant_of-result c =
    let is = five_new c.in-Ok-new.chron.table _ c.in-Ok.book.steps c.in_ok-schema.schema c.in-Ok.ensures.empty c.in-Ok.ensures.schema
    (Site 1) (Site 2) (Session 1) (Session 2) (Partition 0)
    c.in_ok-one.one c.in_ok-two.two c.in_ok-first.first c.in_ok-second.second c.in_ok-entry.entry
    c.in-Ok-new.passes.items c.pop.new.self.items c.pop-2.new.self.items c.pop-3.new.self.items c.pop-4.new.self.items c.pop-5.new.self.items
    c.in-Ok-new.ensures.passes c.in_ok-entry.ensures.items c.in_ok-second.ensures.items c.in_ok-first.ensures.items c.in_ok-two.ensures.items
    c.in_ok-one.ensures.items in
    record {
      sites = c.in_ok-schema.ensures;
      one_is = is.0;
      two_is = is.1;
      first_is = is.2;
      second_is = is.3;
      entry_is = is.4;
    }
