use Rattle.dm_chronicle.specs.Belongs.{belongs}
use Rattle.std.proofs.Common.{◌≡◌, sym, ap, ◌∙◌, subst}
use mathlib.Core.List.{IsPrefix}
use Rattle.dm_chronicle.specs.Rule.{Rests, gathered, note, names}
use Rattle.dm_chronicle.specs.Standing.{SameSteps}
use Rattle.dm_chronicle.proofs.Turns.{gather_rests, pass_after, told_view, joined_steps}
use Rattle.dm_chronicle.proofs.chronicle.Chronicle.meet.Goals as goal

pub invariant_of-two : goal.invariant_of-two
invariant_of-two g c =
    let L = g.L.Law in
    let t = c.tell.ensures in
    subst (Rests L.list L.fixed (belongs L.actors) L.may_follow) (sym c.tell-2.ensures.from)
    (gather_rests L.list L.fixed (belongs L.actors) L.may_follow _ _ (note c.one.inside.seat.me.0) c.two.invariant t.view t.shows)

pub returns-clause-one : goal.returns-clause-one
returns-clause-one g c =
    let L = g.L.Law in
    let t = c.tell.ensures in
    let u = c.tell-2.ensures in
    let p = c.one.inside.seat.me.0 in
    let other = note c.tell.new.into.me.0 in
    let m = c.tell-2.new.into.me.0 in
    let is : m ≡ gathered p other = ap (λ x. x.0) u.view ∙ ap (λ x. gathered x.0 other) t.from in
    let after = pass_after L.list L.fixed (belongs L.actors) L.may_follow p other m c.one.invariant.mark t.begins_from is u.shows c.one.invariant.steps in
    let two : IsPrefix p.seen m.seen × SameSteps (belongs L.actors) (names p.held) p.seen m.seen =
    subst (λ l. IsPrefix p.seen l × SameSteps (belongs L.actors) (names p.held) p.seen l) (sym after.0) (t.begins_from, after.1) in
    let both = subst (λ v. IsPrefix v.seen m.seen × SameSteps (belongs L.actors) v.actors v.seen m.seen) c.one.view_is two in
    let table = u.table_into ∙ (t.table_from ∙ ap (λ v. v.table) c.one.view_is) in
    let fixed = ap (λ v. v.fixed) is ∙ ap (λ v. v.fixed) c.one.view_is in
    let actors = ap (λ v. names v.held) is ∙ (told_view L.list L.fixed (belongs L.actors) L.may_follow p c.tell.new.into.me.0
    ∙ ap (λ v. v.actors) c.one.view_is) in
    record { begins = both.0; own = both.1; same = λ i. record { table = table i; fixed = fixed i; actors = actors i; seen = m.seen } }

pub returns-clause-two : goal.returns-clause-two
returns-clause-two g c =
    let L = g.L.Law in
    let t = c.tell.ensures in
    let u = c.tell-2.ensures in
    let p = c.one.inside.seat.me.0 in
    let q = c.two.inside.seat.me.0 in
    let told = c.tell.new.into.me.0 in
    let other = note told in
    let m = c.tell-2.new.into.me.0 in
    let is : m ≡ gathered p other = ap (λ x. x.0) u.view ∙ ap (λ x. gathered x.0 other) t.from in
    let after = pass_after L.list L.fixed (belongs L.actors) L.may_follow p other m c.one.invariant.mark t.begins_from is u.shows c.one.invariant.steps in
    let his : told ≡ gathered q (note p) = ap (λ x. x.0) t.view in
    let steps = (joined_steps L.list L.fixed (belongs L.actors) L.may_follow q (note p) told his t.shows c.two.invariant.steps (λ a l i. absurd i)).0 in
    let last : c.tell-2.new.from.me.0 ≡ told = ap (λ x. x.0) u.from in
    let now = c.tell-2.new.from.me.0.seen in
    let two : IsPrefix q.seen now × SameSteps (belongs L.actors) (names q.held) q.seen now =
    subst (λ l. IsPrefix q.seen l × SameSteps (belongs L.actors) (names q.held) q.seen l) (sym (ap (λ v. v.seen) last)) (t.begins_into, steps) in
    let both = subst (λ v. IsPrefix v.seen now × SameSteps (belongs L.actors) v.actors v.seen now) c.two.view_is two in
    let table = u.table_from ∙ (t.table_into ∙ ap (λ v. v.table) c.two.view_is) in
    let fixed = ap (λ v. v.fixed) (last ∙ his) ∙ ap (λ v. v.fixed) c.two.view_is in
    let actors = ap (λ v. names v.held) (last ∙ his) ∙ (told_view L.list L.fixed (belongs L.actors) L.may_follow q p ∙ ap (λ v. v.actors) c.two.view_is) in
    record { begins = both.0; own = both.1; same = λ i. record { table = table i; fixed = fixed i; actors = actors i; seen = now } }

pub returns-clause-same : goal.returns-clause-same
returns-clause-same g c =
    let L = g.L.Law in
    let t = c.tell.ensures in
    let u = c.tell-2.ensures in
    let p = c.one.inside.seat.me.0 in
    let told = c.tell.new.into.me.0 in
    let m = c.tell-2.new.into.me.0 in
    let is : m ≡ gathered p (note told) = ap (λ x. x.0) u.view ∙ ap (λ x. gathered x.0 (note told)) t.from in
    let after = pass_after L.list L.fixed (belongs L.actors) L.may_follow p (note told) m c.one.invariant.mark t.begins_from is u.shows c.one.invariant.steps in
    ap (λ x. x.0.seen) u.from ∙ sym after.0
