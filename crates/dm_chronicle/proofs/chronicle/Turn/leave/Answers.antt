use Rattle.dm_chronicle.specs.Belongs.{belongs}
use Rattle.std.proofs.Common.{◌≡◌, ◌∷◌, sym, ap, ◌∙◌, subst, arith}
use mathlib.Core.List.{IsPrefix}
use Rattle.atomic_table.specs.Table.{rest}
use Rattle.dm_chronicle.specs.Standing.{SameSteps}
use Rattle.dm_chronicle.specs.Rule.{names, gathered}
use Rattle.dm_chronicle.proofs.Lists.{later_marked}
use Rattle.dm_chronicle.proofs.Turns.{give_allowed, pass_after}
use Rattle.dm_chronicle.proofs.chronicle.Turn.leave.Goals as goal

pub store-requires : goal.store-requires
store-requires g c =
    let L = g.L.Law in
    let x = c.exchange-empty.ensures in
    let t = c.tell.ensures in
    let k = c.self.invariant.object in
    let acts = c.self.invariant.acts in
    let v = c.tell.new.into.me.0 in
    let marked = later_marked c.self.inside.seat.me.0.mark c.self.inside.seat.me.0.seen c.pass.inside.seat.me.0.seen
    (λ z. let one = acts.mark in absurd (omega arith)) in (
      x.0 ∙ (t.table_into ∙ (c.self.invariant.own ∙ sym (ap (λ w. w.table) c.chron.view_is))),
      omega (arith, c.chron.invariant.words),
      give_allowed L.list L.fixed (belongs L.actors) L.may_follow _ _ _ v _ k
          (x.3 ∙ (λ i. (v, (0, c.self.invariant.in_hand i) ∷ (ap (λ m. rest m.1) t.view ∙ ap rest acts.hands) i)))
          (ap (λ m. m.0.mark) t.view ∙ acts.mark)
          (ap (λ m. m.0.seen) t.view ∙ (marked ∙ acts.whole))
          (ap (λ m. m.0.fixed) t.view ∙ acts.live),
    )

pub returns-clause-table : goal.returns-clause-table
returns-clause-table g c = c.gather.ensures.table ∙ (c.tell.ensures.table_from ∙ ap (λ v. v.table) c.pass.view_is)

pub returns-clause-still : goal.returns-clause-still
returns-clause-still g c =
    let is = ap (λ m. m.0) c.gather.ensures.view ∙ ap (λ m. gathered m.0 c.store.new.seat.me.0) c.tell.ensures.from in
    ap (λ v. v.fixed) is ∙ ap (λ v. v.fixed) c.pass.view_is

pub returns-clause-seen : goal.returns-clause-seen
returns-clause-seen g c =
    let L = g.L.Law in
    let t = c.tell.ensures in
    let p = c.pass.inside.seat.me.0 in
    let left = c.store.new.seat.me.0 in
    let acts = c.self.invariant.acts in
    let marked = later_marked c.self.inside.seat.me.0.mark c.self.inside.seat.me.0.seen p.seen (λ z. let one = acts.mark in absurd (omega arith)) in
    let told : left.seen ≡ c.tell.new.into.me.0.seen = ap (λ m. m.0.seen) c.store.ensures.2 ∙ ap (λ m. m.0.seen) c.exchange-empty.ensures.3 in
    let own : c.tell.new.into.me.0.seen ≡ c.args.self.seen = ap (λ m. m.0.seen) t.view ∙ (marked ∙ ap (λ v. v.seen) c.self.view_is) in
    let begins : IsPrefix p.seen left.seen = subst (IsPrefix p.seen) (sym told) t.begins_from in
    let is = ap (λ m. m.0) c.gather.ensures.view ∙ ap (λ m. gathered m.0 left) t.from in
    let after = pass_after L.list L.fixed (belongs L.actors) L.may_follow p left c.gather.new.into.me.0 c.pass.invariant.mark begins is
    c.gather.ensures.shows c.pass.invariant.steps in
    after.0 ∙ (told ∙ own)

pub returns-clause-begins : goal.returns-clause-begins
returns-clause-begins g c =
    let L = g.L.Law in
    let t = c.tell.ensures in
    let p = c.pass.inside.seat.me.0 in
    let left = c.store.new.seat.me.0 in
    let acts = c.self.invariant.acts in
    let marked = later_marked c.self.inside.seat.me.0.mark c.self.inside.seat.me.0.seen p.seen (λ z. let one = acts.mark in absurd (omega arith)) in
    let told : left.seen ≡ c.tell.new.into.me.0.seen = ap (λ m. m.0.seen) c.store.ensures.2 ∙ ap (λ m. m.0.seen) c.exchange-empty.ensures.3 in
    let own : c.tell.new.into.me.0.seen ≡ c.args.self.seen = ap (λ m. m.0.seen) t.view ∙ (marked ∙ ap (λ v. v.seen) c.self.view_is) in
    let begins : IsPrefix p.seen left.seen = subst (IsPrefix p.seen) (sym told) t.begins_from in
    subst (λ v. IsPrefix v.seen c.args.self.seen) c.pass.view_is (subst (IsPrefix p.seen) (told ∙ own) begins)

pub returns-clause-own : goal.returns-clause-own
returns-clause-own g c =
    let L = g.L.Law in
    let t = c.tell.ensures in
    let p = c.pass.inside.seat.me.0 in
    let left = c.store.new.seat.me.0 in
    let acts = c.self.invariant.acts in
    let marked = later_marked c.self.inside.seat.me.0.mark c.self.inside.seat.me.0.seen p.seen (λ z. let one = acts.mark in absurd (omega arith)) in
    let told : left.seen ≡ c.tell.new.into.me.0.seen = ap (λ m. m.0.seen) c.store.ensures.2 ∙ ap (λ m. m.0.seen) c.exchange-empty.ensures.3 in
    let own : c.tell.new.into.me.0.seen ≡ c.args.self.seen = ap (λ m. m.0.seen) t.view ∙ (marked ∙ ap (λ v. v.seen) c.self.view_is) in
    let is = ap (λ m. m.0) c.gather.ensures.view ∙ ap (λ m. gathered m.0 left) t.from in
    let begins : IsPrefix p.seen left.seen = subst (IsPrefix p.seen) (sym told) t.begins_from in
    let after = pass_after L.list L.fixed (belongs L.actors) L.may_follow p left c.gather.new.into.me.0 c.pass.invariant.mark begins is c.gather.ensures.shows
    c.pass.invariant.steps in
    let steps : SameSteps (belongs L.actors) (names p.held) p.seen c.args.self.seen =
    subst (SameSteps (belongs L.actors) (names p.held) p.seen) (told ∙ own) after.1 in
    subst (λ v. SameSteps (belongs L.actors) v.actors v.seen c.args.self.seen) c.pass.view_is steps
