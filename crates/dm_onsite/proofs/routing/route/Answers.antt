use Rattle.dm_chronicle.specs.Standing.{standing}
use Rattle.dm_event.specs.declared.actor.Actor.TheVariants.{Session}
use Rattle.dm_onsite.proofs.Plays.{alone_did, alone_went, routed_by}
use Rattle.dm_onsite.proofs.routing.route.Goals as goal

pub returns-then-has_room-clause-went : goal.returns-then-has_room-clause-went
returns-then-has_room-clause-went g c =
    let t = c.enter_alone-turn in
    let h = c.has_room in
    alone_went c.args.own.now t.new.own c.push_alone.new.own (standing t.result) (standing h.new.turn) _ t.ensures.own t.ensures.actors t.ensures.turned
    h.ensures.same c.push_alone.ensures.own

pub returns-then-has_room-clause-routed : goal.returns-then-has_room-clause-routed
returns-then-has_room-clause-routed g c =
    let t = c.enter_alone-turn in
    let h = c.has_room in
    routed_by c.args.txn c.args.want c.session_vector-min.result c.args.site c.args.own.now c.push_alone.new.own
    (alone_did c.args.own.now t.new.own c.push_alone.new.own (standing t.result) (standing h.new.turn) _ t.ensures.own t.ensures.actors t.ensures.turned
    h.ensures.same c.push_alone.ensures.own (Session c.args.txn.session) c.requires.own.1)
