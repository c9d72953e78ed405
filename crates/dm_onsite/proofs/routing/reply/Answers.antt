use Rattle.dm_chronicle.specs.Standing.{standing}
use Rattle.dm_onsite.proofs.Plays.{alone_went}
use Rattle.dm_onsite.proofs.routing.reply.Goals as goal

pub returns-then-has_room : goal.returns-then-has_room
returns-then-has_room g c =
    let t = c.enter_alone-turn in
    let h = c.has_room in
    record {
      went = alone_went c.args.own.now t.new.own c.push_alone.new.own (standing t.result) (standing h.new.turn) _ t.ensures.own t.ensures.actors
          t.ensures.turned h.ensures.same c.push_alone.ensures.own;
    }
