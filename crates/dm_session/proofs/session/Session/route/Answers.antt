use mathlib.Core.List.{IsPrefix}
use Rattle.std.proofs.Common.{◌≤◌, ◌+◌, ℕ, List, [], ◌∷◌, ◌++◌, length, ap, subst, sym, ◌∙◌, refl}
use Rattle.std.specs.Prelude.{IsSomeAnd}
use Rattle.dm_chronicle.specs.Standing.{standing}
use Rattle.dm_core.specs.Lawful.{Terms, may_follow}
use Rattle.dm_event.specs.declared.step.Step.{Step}
use Rattle.dm_event.specs.declared.step.Step.TheVariants.{Route}
use Rattle.dm_event.specs.declared.step.TxnId.{TxnId}
use Rattle.dm_invariant.specs.Stations.{View}
use Rattle.dm_session.specs.Sitting.{IsSession, Same, Sent, Sitting}
use Rattle.dm_session.proofs.Sessions.{answered_back, left_is, not_err, own_same, route_in, routed_is, sent_is, tries_most, went_left, went_turn}
use Rattle.dm_session.proofs.session.Session.route.Goals as goal

pub one_more-requires : goal.one_more-requires
one_more-requires g c =
    let s : Sitting = record {
      id = c.self.inside.id;
      count = c.self.inside.count;
      tries = c.self.inside.tries;
      to = c.self.inside.to;
      by =
          c.self.inside.by;
      vector = c.self.inside.vector;
      pass = c.self.inside.pass;
    } in
    subst (λ (l : List Step). s.tries ≤ length l) (sym c.kept-book.ensures.list)
    (tries_most g.N.Named.table s c.enter_alone-turn.result.seen c.self.invariant c.enter_alone-turn.ensures.turned.begins)

pub invariant_of-self : goal.invariant_of-self
invariant_of-self g c =
    let s : Sitting = record {
      id = c.self.inside.id;
      count = c.self.inside.count;
      tries = c.self.inside.tries;
      to = c.self.inside.to;
      by =
          c.self.inside.by;
      vector = c.self.inside.vector;
      pass = c.self.inside.pass;
    } in
    let t = c.enter_alone-turn in let r = c.reserve in
    left_is g.N.Named.table s t.new.own c.leave.new.own (standing r.new.turn) t.result.seen t.result.fixed c.self.invariant t.ensures.own
    (ap (λ (v : View). v.actors) r.ensures.same ∙ t.ensures.actors) t.ensures.turned (ap (λ (v : View). v.seen) r.ensures.same) c.leave.ensures.own

pub returns-then-is_err-clause-same : goal.returns-then-is_err-clause-same
returns-then-is_err-clause-same g c =
    let s : Sitting = record {
      id = c.self.inside.id;
      count = c.self.inside.count;
      tries = c.self.inside.tries;
      to = c.self.inside.to;
      by =
          c.self.inside.by;
      vector = c.self.inside.vector;
      pass = c.self.inside.pass;
    } in
    let t = c.enter_alone-turn in let r = c.reserve in
    let w = went_left s.pass t.new.own c.leave.new.own (standing r.new.turn) t.result.seen t.result.fixed t.ensures.own
    (ap (λ (v : View). v.actors) r.ensures.same ∙ t.ensures.actors) t.ensures.turned (ap (λ (v : View). v.seen) r.ensures.same) c.leave.ensures.own in
    subst (λ (x : Sitting). Same x (record s { pass = c.leave.new.own })) c.self.view_is (record { id = refl; count = refl; vector = refl; went = w })

pub push_alone-requires-clause-follows : goal.push_alone-requires-clause-follows
push_alone-requires-clause-follows g c =
    let s : Sitting = record {
      id = c.self.inside.id;
      count = c.self.inside.count;
      tries = c.self.inside.tries;
      to = c.self.inside.to;
      by =
          c.self.inside.by;
      vector = c.self.inside.vector;
      pass = c.self.inside.pass;
    } in
    let t = c.enter_alone-turn in let k = c.kept-book in
    let now : Terms = record { layout = k.result.now.layout; items = k.result.now.items } in
    let may = route_in g.N.Named.table s c.args.self.now t.result.fixed now k.result.now.steps t.result.seen c.args.want c.args.site c.due-to.result
    c.one_more.result _ c.self.invariant c.self.view_is t.ensures.turned.fixed_is t.ensures.turned.follows t.ensures.turned.begins
    (own_same s.id s.pass t.result.seen c.self.invariant.actors t.ensures.turned.same) c.requires.fits c.requires.may k.ensures.list k.ensures.fixed
    c.due-to.ensures.due c.due-to.ensures.there c.one_more.ensures in
    subst (λ (v : View). IsSomeAnd v.fixed (λ f. may_follow f v.seen (Route (record { session = s.id; number = s.count + 1; attempt = c.one_more.result })
    c.args.want s.vector c.due-to.result.0 c.due-to.result.1))) (sym c.reserve.ensures.same) may

pub push_alone-requires-clause-room : goal.push_alone-requires-clause-room
push_alone-requires-clause-room g c =
    let s : Sitting = record {
      id = c.self.inside.id;
      count = c.self.inside.count;
      tries = c.self.inside.tries;
      to = c.self.inside.to;
      by =
          c.self.inside.by;
      vector = c.self.inside.vector;
      pass = c.self.inside.pass;
    } in
    let t = c.enter_alone-turn in let k = c.kept-book in
    let now : Terms = record { layout = k.result.now.layout; items = k.result.now.items } in
    let may = route_in g.N.Named.table s c.args.self.now t.result.fixed now k.result.now.steps t.result.seen c.args.want c.args.site c.due-to.result
    c.one_more.result _ c.self.invariant c.self.view_is t.ensures.turned.fixed_is t.ensures.turned.follows t.ensures.turned.begins
    (own_same s.id s.pass t.result.seen c.self.invariant.actors t.ensures.turned.same) c.requires.fits c.requires.may k.ensures.list k.ensures.fixed
    c.due-to.ensures.due c.due-to.ensures.there c.one_more.ensures in
    not_err _ c.reserve.result c.reserve.ensures.room (sym c.is_err.ensures.value ∙ c.if-is_err.false) may

pub invariant_of-self-2 : goal.invariant_of-self-2
invariant_of-self-2 g c =
    let s : Sitting = record {
      id = c.self.inside.id;
      count = c.self.inside.count;
      tries = c.self.inside.tries;
      to = c.self.inside.to;
      by =
          c.self.inside.by;
      vector = c.self.inside.vector;
      pass = c.self.inside.pass;
    } in
    let t = c.enter_alone-turn in let r = c.reserve in let p = c.push_alone in
    let b = answered_back s.pass t.new.own p.new.own _ _ t.ensures.own (ap (λ (v : View). v.actors) r.ensures.same ∙ t.ensures.actors) p.ensures.own in
    let txn : TxnId = record { session = s.id; number = s.count + 1; attempt = c.one_more.result } in
    let step : Step = Route txn c.args.want s.vector c.due-to.result.0 c.due-to.result.1 in
    let seen = ap (λ (v : View). v.seen) b ∙ ap (λ (v : View). v.seen ++ step ∷ []) r.ensures.same in
    let done = routed_is g.N.Named.table s p.new.own t.result.seen txn c.args.want s.vector c.due-to.result.0 c.due-to.result.1 c.self.invariant
    (ap (λ (v : View). v.table) b) (ap (λ (v : View). v.fixed) b) (ap (λ (v : View). v.actors) b) t.ensures.turned.begins
    (own_same s.id s.pass t.result.seen c.self.invariant.actors t.ensures.turned.same) refl seen in
    subst (λ (n : ℕ). IsSession g.N.Named.table (record s { tries = n; to = c.due-to.result.0; by = c.due-to.result.1; pass = p.new.own }))
    (sym c.one_more.ensures) done

pub returns-clause-same : goal.returns-clause-same
returns-clause-same g c =
    let s : Sitting = record {
      id = c.self.inside.id;
      count = c.self.inside.count;
      tries = c.self.inside.tries;
      to = c.self.inside.to;
      by =
          c.self.inside.by;
      vector = c.self.inside.vector;
      pass = c.self.inside.pass;
    } in
    let t = c.enter_alone-turn in let r = c.reserve in let p = c.push_alone in
    let b = answered_back s.pass t.new.own p.new.own _ _ t.ensures.own (ap (λ (v : View). v.actors) r.ensures.same ∙ t.ensures.actors) p.ensures.own in
    let w = went_turn s.pass p.new.own r.new.turn.seen _ (subst (λ (v : View). IsPrefix s.pass.seen v.seen) (sym r.ensures.same) t.ensures.turned.begins) b in
    subst (λ (x : Sitting). Same x (record s { tries = c.one_more.result; to = c.due-to.result.0; by = c.due-to.result.1; pass = p.new.own }))
    c.self.view_is (record { id = refl; count = refl; vector = refl; went = w })

pub returns-clause-ok : goal.returns-clause-ok
returns-clause-ok g c =
    let s : Sitting = record {
      id = c.self.inside.id;
      count = c.self.inside.count;
      tries = c.self.inside.tries;
      to = c.self.inside.to;
      by =
          c.self.inside.by;
      vector = c.self.inside.vector;
      pass = c.self.inside.pass;
    } in
    let t = c.enter_alone-turn in let r = c.reserve in let p = c.push_alone in let k = c.kept-book in
    let now : Terms = record { layout = k.result.now.layout; items = k.result.now.items } in
    let txn : TxnId = record { session = s.id; number = s.count + 1; attempt = c.one_more.result } in
    let after : Sitting = record s { tries = c.one_more.result; to = c.due-to.result.0; by = c.due-to.result.1; pass = p.new.own } in
    let b = answered_back s.pass t.new.own p.new.own _ _ t.ensures.own (ap (λ (v : View). v.actors) r.ensures.same ∙ t.ensures.actors) p.ensures.own in
    let step : Step = Route txn c.args.want s.vector c.due-to.result.0 c.due-to.result.1 in
    let seen = ap (λ (v : View). v.seen) b ∙ ap (λ (v : View). v.seen ++ step ∷ []) r.ensures.same in
    subst (λ (x : Sitting). Sent x c.args.want c.args.site txn after) c.self.view_is
    (sent_is s after t.result.fixed now k.result.now.steps t.result.seen txn c.args.want c.args.site refl refl
    (own_same s.id s.pass t.result.seen c.self.invariant.actors t.ensures.turned.same) seen t.ensures.turned.fixed_is k.ensures.list k.ensures.fixed
    c.due-to.ensures.due c.due-to.ensures.there)
