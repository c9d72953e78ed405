use Rattle.std.proofs.Common.{◌∙◌, ◌∷◌, [], ◌++◌, ◌+◌, refl, sym, ap, subst, Some}
use Rattle.dm_chronicle.specs.Standing.{standing}
use Rattle.dm_event.specs.declared.actor.Actor.TheVariants.{Partition}
use Rattle.dm_event.specs.declared.placing.Placing.TheVariants.{Granted}
use Rattle.dm_event.specs.declared.step.Step.TheVariants.{Settle}
use Rattle.dm_invariant.proofs.Passing.{adds_one, did, went_on}
use Rattle.dm_invariant.specs.Stations.{View, Did, Went}
use Rattle.dm_table.proofs.Places.{asked_for, granted_in, is_settled, may_settle, next_epoch, one_layout, settled_place, shown_in}
use Rattle.dm_table.proofs.Turns.{knows_same, meeting, of_part, pushing, stayed_through}
use Rattle.dm_table.specs.Places.{Placed}
use Rattle.dm_table.proofs.place.Place.settle.Goals as goal

pub unreachable-requires : goal.unreachable-requires
unreachable-requires g c =
    let t = c.enter_both-turn in
    let is = granted_in c.self.invariant c.args.self.now c.self.view_is t.ensures.turned c.args.own.now t.ensures.met c.requires.granted c.requires.knows in
    c.in_default.not-Granted is.0 is.1
    (sym (shown_in c.self.inside.pass c.self.inside.part t.result.seen t.result.fixed t.ensures.turned c.placing.result c.placing.result
    c.placing.ensures refl) ∙ is.2)

pub push_roomy-requires-clause-follows : goal.push_roomy-requires-clause-follows
push_roomy-requires-clause-follows g c =
    let t = c.enter_both-turn in
    may_settle c.self.invariant t.ensures.turned c.in-Granted.site c.in-Granted.epoch
    (shown_in c.self.inside.pass c.self.inside.part t.result.seen t.result.fixed t.ensures.turned (Granted c.in-Granted.site c.in-Granted.epoch) c.placing.result c.placing.ensures c.in-Granted.is)

pub invariant_of-self : goal.invariant_of-self
invariant_of-self g c =
    let t = c.enter_both-turn in
    settled_place c.self.invariant t.ensures.turned c.in-Granted.site c.in-Granted.epoch
    (shown_in c.self.inside.pass c.self.inside.part t.result.seen t.result.fixed t.ensures.turned (Granted c.in-Granted.site c.in-Granted.epoch) c.placing.result c.placing.ensures c.in-Granted.is) c.push_roomy.new.own
    (pushing c.self.inside.pass t.new.own c.push_roomy.new.own (standing t.result) (standing t.result) (Settle c.self.inside.part c.in-Granted.epoch)
    t.ensures.own t.ensures.actors refl c.push_roomy.ensures.own)

pub returns-clause-site : goal.returns-clause-site
returns-clause-site g c =
    let t = c.enter_both-turn in
    sym (ap (λ (p : Placed). p.asked) c.self.view_is)
    ∙ asked_for c.self.invariant t.ensures.turned c.in-Granted.site c.in-Granted.epoch
    (shown_in c.self.inside.pass c.self.inside.part t.result.seen t.result.fixed t.ensures.turned (Granted c.in-Granted.site c.in-Granted.epoch) c.placing.result c.placing.ensures c.in-Granted.is)

pub returns-clause-epoch : goal.returns-clause-epoch
returns-clause-epoch g c =
    let t = c.enter_both-turn in
    next_epoch c.self.invariant t.ensures.turned c.in-Granted.site c.in-Granted.epoch
    (shown_in c.self.inside.pass c.self.inside.part t.result.seen t.result.fixed t.ensures.turned (Granted c.in-Granted.site c.in-Granted.epoch) c.placing.result c.placing.ensures c.in-Granted.is)
    ∙ ap (λ (p : Placed). p.epoch + 1) c.self.view_is

pub returns-clause-pass : goal.returns-clause-pass
returns-clause-pass g c =
    let t = c.enter_both-turn in
    subst (λ (p : Placed). Went p.pass c.push_roomy.new.own) c.self.view_is
    (went_on c.self.inside.pass c.push_roomy.new.own t.result.seen (Settle c.self.inside.part c.in-Granted.epoch) t.ensures.turned.begins
    (pushing c.self.inside.pass t.new.own c.push_roomy.new.own (standing t.result) (standing t.result) (Settle c.self.inside.part c.in-Granted.epoch)
    t.ensures.own t.ensures.actors refl c.push_roomy.ensures.own))

pub returns-clause-did : goal.returns-clause-did
returns-clause-did g c =
    let t = c.enter_both-turn in
    subst (λ (p : Placed). Did (Partition p.part) p.pass c.push_roomy.new.own (Settle p.part c.in-Granted.epoch)) c.self.view_is
    (did (Partition c.self.inside.part) c.self.inside.pass c.push_roomy.new.own t.result.seen (Settle c.self.inside.part c.in-Granted.epoch)
    (adds_one (Partition c.self.inside.part) c.self.inside.pass t.result.seen t.result.fixed c.self.invariant.actors t.ensures.turned)
    (pushing c.self.inside.pass t.new.own c.push_roomy.new.own (standing t.result) (standing t.result) (Settle c.self.inside.part c.in-Granted.epoch)
    t.ensures.own t.ensures.actors refl c.push_roomy.ensures.own) (of_part c.self.inside.part))

pub returns-clause-own : goal.returns-clause-own
returns-clause-own g c =
    let t = c.enter_both-turn in
    stayed_through c.args.own.now c.push_roomy.new.other t.result.seen t.result.fixed (Settle c.self.inside.part c.in-Granted.epoch) t.ensures.met
    (meeting c.args.own.now t.new.other c.push_roomy.new.other (standing t.result) (standing t.result) (Settle c.self.inside.part c.in-Granted.epoch)
    t.ensures.other refl c.push_roomy.ensures.other) (λ session. refl)

pub returns-clause-knows : goal.returns-clause-knows
returns-clause-knows g c =
    knows_same (record { part = c.self.inside.part; site = 0; epoch = 0; asked = Some 0; pass = c.push_roomy.new.own }) c.push_roomy.new.other
    (ap (λ (v : View). v.seen) c.push_roomy.ensures.other ∙ sym (ap (λ (v : View). v.seen) c.push_roomy.ensures.own))

pub returns-clause-settled : goal.returns-clause-settled
returns-clause-settled g c =
    let t = c.enter_both-turn in
    let e = meeting c.args.own.now t.new.other c.push_roomy.new.other (standing t.result) (standing t.result)
    (Settle c.self.inside.part c.in-Granted.epoch) t.ensures.other refl c.push_roomy.ensures.other in
    is_settled c.self.invariant t.ensures.turned c.in-Granted.site c.in-Granted.epoch
    (shown_in c.self.inside.pass c.self.inside.part t.result.seen t.result.fixed t.ensures.turned (Granted c.in-Granted.site c.in-Granted.epoch)
    c.placing.result c.placing.ensures c.in-Granted.is) c.push_roomy.new.other
    (one_layout c.self.inside.pass c.args.own.now c.push_roomy.new.other t.result.seen (t.result.seen ++ Settle c.self.inside.part c.in-Granted.epoch ∷ [])
    t.result.fixed t.ensures.turned t.ensures.met e) (ap (λ (v : View). v.seen) e)
