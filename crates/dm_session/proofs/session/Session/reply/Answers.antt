use Rattle.std.proofs.Common.{ap, subst, ◌+◌}
use Rattle.dm_event.specs.declared.actor.Actor.TheVariants.{Session}
use Rattle.dm_event.specs.declared.step.Step.TheVariants.{Reply}
use Rattle.dm_invariant.specs.Stations.{Did, View, Went}
use Rattle.dm_session.specs.Sitting.{Sitting}
use Rattle.dm_session.proofs.Sessions.{answer_is, answered_back, answered_vector, own_same, replied_is, reply_may, reply_pushed, went_turn}
use Rattle.dm_session.proofs.session.Session.reply.Goals as goal

pub push_answer-vector-requires-clause-follows : goal.push_answer-vector-requires-clause-follows
push_answer-vector-requires-clause-follows g c =
    let s : Sitting = record {
      id = c.self.inside.id;
      count = c.self.inside.count;
      tries = c.self.inside.tries;
      to = c.self.inside.to;
      by =
          c.self.inside.by;
      vector = c.self.inside.vector;
      pass = c.self.inside.pass;
    } in
    let t = c.enter_alone-turn in
    reply_may g.N.Named.table s c.args.self.now t.result.fixed t.result.seen c.args.said _ c.self.invariant c.self.view_is t.ensures.turned.fixed_is
    t.ensures.turned.follows t.ensures.turned.begins (own_same s.id s.pass t.result.seen c.self.invariant.actors t.ensures.turned.same)
    c.requires.fits c.requires.allowed

pub push_answer-vector-requires-clause-answer : goal.push_answer-vector-requires-clause-answer
push_answer-vector-requires-clause-answer g c =
    let s : Sitting = record {
      id = c.self.inside.id;
      count = c.self.inside.count;
      tries = c.self.inside.tries;
      to = c.self.inside.to;
      by =
          c.self.inside.by;
      vector = c.self.inside.vector;
      pass = c.self.inside.pass;
    } in
    let t = c.enter_alone-turn in
    answer_is g.N.Named.table s c.args.self.now t.result.fixed t.result.seen c.args.said _ c.self.invariant c.self.view_is t.ensures.turned.fixed_is
    t.ensures.turned.follows t.ensures.turned.begins (own_same s.id s.pass t.result.seen c.self.invariant.actors t.ensures.turned.same) c.requires.counted.0

pub invariant_of-self : goal.invariant_of-self
invariant_of-self g c =
    let s : Sitting = record {
      id = c.self.inside.id;
      count = c.self.inside.count;
      tries = c.self.inside.tries;
      to = c.self.inside.to;
      by =
          c.self.inside.by;
      vector = c.self.inside.vector;
      pass = c.self.inside.pass;
    } in
    let t = c.enter_alone-turn in let p = c.push_answer-vector in
    let b = answered_back s.pass t.new.own p.new.own t.result.actors _ t.ensures.own t.ensures.actors p.ensures.own in
    replied_is g.N.Named.table s p.new.own t.result.seen (s.count + 1) c.args.said p.result c.self.invariant (ap (λ (v : View). v.table) b)
    (ap (λ (v : View). v.fixed) b) (ap (λ (v : View). v.actors) b) t.ensures.turned.begins
    (own_same s.id s.pass t.result.seen c.self.invariant.actors t.ensures.turned.same) (ap (λ (v : View). v.seen) b)
    (answered_vector s.id p.result s.pass p.new.own t.result.fixed _ t.ensures.turned.fixed_is b p.ensures.vector)

pub returns-clause-went : goal.returns-clause-went
returns-clause-went g c =
    let s : Sitting = record {
      id = c.self.inside.id;
      count = c.self.inside.count;
      tries = c.self.inside.tries;
      to = c.self.inside.to;
      by =
          c.self.inside.by;
      vector = c.self.inside.vector;
      pass = c.self.inside.pass;
    } in
    let t = c.enter_alone-turn in let p = c.push_answer-vector in
    subst (λ (x : Sitting). Went x.pass p.new.own) c.self.view_is
    (went_turn s.pass p.new.own t.result.seen _ t.ensures.turned.begins
    (answered_back s.pass t.new.own p.new.own t.result.actors _ t.ensures.own t.ensures.actors p.ensures.own))

pub returns-clause-reply : goal.returns-clause-reply
returns-clause-reply g c =
    let s : Sitting = record {
      id = c.self.inside.id;
      count = c.self.inside.count;
      tries = c.self.inside.tries;
      to = c.self.inside.to;
      by =
          c.self.inside.by;
      vector = c.self.inside.vector;
      pass = c.self.inside.pass;
    } in
    let t = c.enter_alone-turn in let p = c.push_answer-vector in
    let b = answered_back s.pass t.new.own p.new.own t.result.actors _ t.ensures.own t.ensures.actors p.ensures.own in
    subst (λ (x : Sitting). Did (Session x.id) x.pass p.new.own (Reply x.id (x.count + 1) c.args.said)) c.self.view_is
    (reply_pushed s.id (s.count + 1) s.pass.seen t.result.seen p.new.own.seen c.args.said
    (own_same s.id s.pass t.result.seen c.self.invariant.actors t.ensures.turned.same) (ap (λ (v : View). v.seen) b))
