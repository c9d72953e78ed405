use Rattle.dm_chronicle.specs.Belongs.{belongs}
use Rattle.std.proofs.Common.{[], ◌∷◌, ◌++◌, sym, ap, ◌∙◌, subst, arith}
use Rattle.dm_chronicle.specs.Rule.{Acts}
use Rattle.dm_chronicle.proofs.Turns.{covers_all, push_allowed, push_acts, push_ends, some_equal, hand_of}
use Rattle.dm_chronicle.proofs.chronicle.Chronicle.append.Goals as goal

pub fetch_add-requires : goal.fetch_add-requires
fetch_add-requires g c =
    let L = g.L.Law in
    let was = c.args.seat.now.me in
    let K = c.in-Some.object in
    let r = c.requires.acts in
    let x = c.exchange-empty.ensures in
    let same = some_equal _ _ (sym r.in_hand ∙ (sym c.take.ensures.value ∙ c.in-Some.is)) in
    let acts : Acts L.list L.fixed (belongs L.actors) L.may_follow was K = subst (λ k. Acts L.list L.fixed (belongs L.actors) L.may_follow was k) same r.acts in
    let may = subst (λ k. L.may_follow (L.fixed k) (L.list k) c.args.step) same r.follows in (
      x.0 ∙ (c.requires.table ∙ sym (ap (λ v. v.table) c.self.view_is)),
      omega (arith, c.self.invariant.words),
      push_allowed _ _ _ _ _ _ _ was _ K c.push.new.self c.args.step acts x.3 c.push.ensures.list c.push.ensures.fixed may
          (covers_all L.actors _ _ c.requires.covers),
    )

pub exchange-object-requires : goal.exchange-object-requires
exchange-object-requires g c =
    let L = g.L.Law in
    let x = c.exchange-empty.ensures in (
      c.fetch_add.ensures.0 ∙ (x.0 ∙ (c.requires.table ∙ sym (ap (λ v. v.table) c.self.view_is))),
      hand_of L.list L.fixed (belongs L.actors) L.may_follow _ _ _ (c.fetch_add.ensures.2.0 ∙ ap (λ m. m.1) x.3),
    )

pub returns-clause-acts : goal.returns-clause-acts
returns-clause-acts g c =
    let L = g.L.Law in
    let was = c.args.seat.now.me in
    let K = c.in-Some.object in
    let r = c.requires.acts in
    let x = c.exchange-empty.ensures in
    let y = c.exchange-object.ensures in
    let same = some_equal _ _ (sym r.in_hand ∙ (sym c.take.ensures.value ∙ c.in-Some.is)) in
    let acts : Acts L.list L.fixed (belongs L.actors) L.may_follow was K = subst (λ k. Acts L.list L.fixed (belongs L.actors) L.may_follow was k) same r.acts in
    let may = subst (λ k. L.may_follow (L.fixed k) (L.list k) c.args.step) same r.follows in
    let ends = push_ends _ _ _ _ was _ _ _ K c.push.new.self _ acts x.3 c.fetch_add.ensures.2 y.2 y.3 in record {
      object = c.push.new.self;
      in_hand = c.replace-empty.ensures.after ∙ ends.0;
      acts = push_acts _ _ _ _ was _ K c.push.new.self c.args.step acts ends.1 c.push.ensures.list c.push.ensures.fixed may;
      grown = c.push.ensures.list ∙ ap (λ l. l ++ c.args.step ∷ []) (sym acts.whole);
      view = ap (λ m. m.0) ends.1;
    }
