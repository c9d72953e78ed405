use Rattle.std.proofs.Common.{refl, sym, subst, Some}
use Rattle.std.specs.Prelude.{IsSomeAnd}
use Rattle.dm_chronicle.specs.Standing.{standing}
use Rattle.dm_core.specs.Lawful.{may_follow}
use Rattle.dm_event.specs.declared.actor.Actor.TheVariants.{Partition}
use Rattle.dm_event.specs.declared.step.Step.TheVariants.{Ask}
use Rattle.dm_invariant.proofs.Passing.{adds_one, did, went_on}
use Rattle.dm_invariant.specs.Stations.{View, Did, Went}
use Rattle.dm_table.proofs.Places.{ask_follows, asked_place, still_place}
use Rattle.dm_table.proofs.Turns.{knows_same, leaving, meeting, of_part, pushing, same_seen, stayed_through}
use Rattle.dm_table.specs.Places.{Placed}
use Rattle.dm_table.proofs.place.Place.ask.Goals as goal

pub reserve-requires : goal.reserve-requires
reserve-requires g c =
    let t = c.enter_both-turn in
    ask_follows c.self.invariant c.args.self.now c.self.view_is t.ensures.turned c.args.own.now t.ensures.met c.args.to c.args.txn c.requires.own.1
    c.requires.free c.requires.away c.requires.wanted

pub invariant_of-self : goal.invariant_of-self
invariant_of-self g c =
    let t = c.enter_both-turn in
    still_place c.self.invariant t.ensures.turned c.leave.new.own
    (leaving c.self.inside.pass t.new.own c.leave.new.own (standing t.result) (standing c.reserve.new.self) t.ensures.own t.ensures.actors
    c.reserve.ensures.same c.leave.ensures.own)

pub returns-then-is_err-clause-knows : goal.returns-then-is_err-clause-knows
returns-then-is_err-clause-knows g c =
    let t = c.enter_both-turn in
    knows_same (record { part = c.self.inside.part; site = 0; epoch = 0; asked = Some 0; pass = c.leave.new.own }) t.new.other
    (same_seen t.new.other t.new.own c.leave.new.own (standing t.result) (standing c.reserve.new.self) c.args.own.now t.ensures.other
    c.reserve.ensures.same c.leave.ensures.own)

pub push_roomy-requires-clause-follows : goal.push_roomy-requires-clause-follows
push_roomy-requires-clause-follows g c =
    let t = c.enter_both-turn in
    subst (λ (v : View). IsSomeAnd v.fixed (λ f. may_follow f v.seen (Ask c.self.inside.part c.self.inside.epoch c.args.to c.args.txn)))
    (sym c.reserve.ensures.same)
    (ask_follows c.self.invariant c.args.self.now c.self.view_is t.ensures.turned c.args.own.now t.ensures.met c.args.to c.args.txn c.requires.own.1
    c.requires.free c.requires.away c.requires.wanted)

pub invariant_of-self-2 : goal.invariant_of-self-2
invariant_of-self-2 g c =
    let t = c.enter_both-turn in
    asked_place c.self.invariant t.ensures.turned c.push_roomy.new.own c.args.to c.args.txn
    (pushing c.self.inside.pass t.new.own c.push_roomy.new.own (standing t.result) (standing c.reserve.new.self)
    (Ask c.self.inside.part c.self.inside.epoch c.args.to c.args.txn) t.ensures.own t.ensures.actors c.reserve.ensures.same c.push_roomy.ensures.own)

pub returns-clause-pass : goal.returns-clause-pass
returns-clause-pass g c =
    let t = c.enter_both-turn in
    subst (λ (p : Placed). Went p.pass c.push_roomy.new.own) c.self.view_is
    (went_on c.self.inside.pass c.push_roomy.new.own t.result.seen (Ask c.self.inside.part c.self.inside.epoch c.args.to c.args.txn)
    t.ensures.turned.begins
    (pushing c.self.inside.pass t.new.own c.push_roomy.new.own (standing t.result) (standing c.reserve.new.self)
    (Ask c.self.inside.part c.self.inside.epoch c.args.to c.args.txn) t.ensures.own t.ensures.actors c.reserve.ensures.same c.push_roomy.ensures.own))

pub returns-clause-did : goal.returns-clause-did
returns-clause-did g c =
    let t = c.enter_both-turn in
    subst (λ (p : Placed). Did (Partition p.part) p.pass c.push_roomy.new.own (Ask p.part p.epoch c.args.to c.args.txn)) c.self.view_is
    (did (Partition c.self.inside.part) c.self.inside.pass c.push_roomy.new.own t.result.seen
    (Ask c.self.inside.part c.self.inside.epoch c.args.to c.args.txn)
    (adds_one (Partition c.self.inside.part) c.self.inside.pass t.result.seen t.result.fixed c.self.invariant.actors t.ensures.turned)
    (pushing c.self.inside.pass t.new.own c.push_roomy.new.own (standing t.result) (standing c.reserve.new.self)
    (Ask c.self.inside.part c.self.inside.epoch c.args.to c.args.txn) t.ensures.own t.ensures.actors c.reserve.ensures.same c.push_roomy.ensures.own)
    (of_part c.self.inside.part))

pub returns-clause-own : goal.returns-clause-own
returns-clause-own g c =
    let t = c.enter_both-turn in
    stayed_through c.args.own.now c.push_roomy.new.other t.result.seen t.result.fixed (Ask c.self.inside.part c.self.inside.epoch c.args.to c.args.txn)
    t.ensures.met
    (meeting c.args.own.now t.new.other c.push_roomy.new.other (standing t.result) (standing c.reserve.new.self)
    (Ask c.self.inside.part c.self.inside.epoch c.args.to c.args.txn) t.ensures.other c.reserve.ensures.same c.push_roomy.ensures.other) (λ session. refl)
