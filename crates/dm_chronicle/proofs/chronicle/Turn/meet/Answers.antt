use Rattle.dm_chronicle.specs.Belongs.{belongs}
use Rattle.std.proofs.Common.{◌≡◌, sym, ap, ◌∙◌, subst}
use Rattle.dm_chronicle.specs.Rule.{Acts, gathered, note, names}
use Rattle.dm_chronicle.specs.Standing.{SameSteps}
use Rattle.dm_chronicle.proofs.Turns.{gather_acts, gather_seen, pass_after, told_view}
use Rattle.dm_chronicle.proofs.chronicle.Turn.meet.Goals as goal

pub invariant_of-self : goal.invariant_of-self
invariant_of-self g c =
    let L = g.L.Law in
    let t = c.tell.ensures in
    let u = c.tell-2.ensures in
    let inv = c.self.invariant in record {
      own = u.table_from ∙ (t.table_into ∙ inv.own);
      object = inv.object;
      in_hand = inv.in_hand;
      acts = subst (λ m. Acts L.list L.fixed (belongs L.actors) L.may_follow m inv.object) (sym u.from)
          (gather_acts L.list L.fixed (belongs L.actors) L.may_follow _ _ (note c.other.inside.seat.me.0) inv.object inv.acts (λ a i. absurd i.1) t.view
          t.shows);
    }

pub returns-clause-other : goal.returns-clause-other
returns-clause-other g c =
    let L = g.L.Law in
    let t = c.tell.ensures in
    let u = c.tell-2.ensures in
    let p = c.other.inside.seat.me.0 in
    let told = c.tell.new.into.me.0 in
    let m = c.tell-2.new.into.me.0 in
    let is : m ≡ gathered p (note told) = ap (λ x. x.0) u.view ∙ ap (λ x. gathered x.0 (note told)) t.from in
    let after = pass_after L.list L.fixed (belongs L.actors) L.may_follow p (note told) m c.other.invariant.mark t.begins_from is u.shows
    c.other.invariant.steps in
    let own = gather_seen L.list L.fixed (belongs L.actors) L.may_follow _ _ (note p) c.self.invariant.object c.self.invariant.acts t.view in
    let table = u.table_into ∙ (t.table_from ∙ ap (λ v. v.table) c.other.view_is) in
    let fixed = ap (λ v. v.fixed) is ∙ ap (λ v. v.fixed) c.other.view_is in
    let actors = ap (λ v. names v.held) is ∙ (told_view L.list L.fixed (belongs L.actors) L.may_follow p told ∙ ap (λ v. v.actors) c.other.view_is) in
    let seen = after.0 ∙ (own ∙ ap (λ v. v.seen) c.self.view_is) in
    λ i. record { table = table i; fixed = fixed i; actors = actors i; seen = seen i }

pub returns-clause-own : goal.returns-clause-own
returns-clause-own g c =
    let L = g.L.Law in
    let t = c.tell.ensures in
    let u = c.tell-2.ensures in
    let p = c.other.inside.seat.me.0 in
    let told = c.tell.new.into.me.0 in
    let m = c.tell-2.new.into.me.0 in
    let is : m ≡ gathered p (note told) = ap (λ x. x.0) u.view ∙ ap (λ x. gathered x.0 (note told)) t.from in
    let after = pass_after L.list L.fixed (belongs L.actors) L.may_follow p (note told) m c.other.invariant.mark t.begins_from is u.shows
    c.other.invariant.steps in
    let own = gather_seen L.list L.fixed (belongs L.actors) L.may_follow _ _ (note p) c.self.invariant.object c.self.invariant.acts t.view
    ∙ ap (λ v. v.seen) c.self.view_is in
    let steps : SameSteps (belongs L.actors) (names p.held) p.seen c.args.self.now.seen =
    subst (SameSteps (belongs L.actors) (names p.held) p.seen) own after.1 in
    subst (λ v. SameSteps (belongs L.actors) v.actors v.seen c.args.self.now.seen) c.other.view_is steps
