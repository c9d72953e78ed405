use Rattle.dm_chronicle.specs.Belongs.{belongs}
use Rattle.std.proofs.Common.{rules, ◌<◌, ◌≡◌, [], ◌∷◌, length, Some, sym, ap, ◌∙◌, subst, arith}
use mathlib.Core.Option.{none}
use mathlib.Core.List.{IsPrefix}
use Rattle.atomic_table.specs.Table.{rest}
use Rattle.dm_chronicle.specs.Rule.{names}
use Rattle.dm_chronicle.specs.Standing.{SameSteps}
use Rattle.dm_chronicle.proofs.Lists.{held_some}
use Rattle.dm_chronicle.proofs.Keeps.{splits_actors, takes_turn}
use Rattle.dm_chronicle.proofs.Turns.{turn_taken, turn_sees}
use Rattle.dm_chronicle.proofs.chronicle.Chronicle.enter.Goals as goal

pub split_seat-seat-requires : goal.split_seat-seat-requires
split_seat-seat-requires g c = (
  ap (λ v. v.table) c.pass.view_is ∙ (c.requires.own ∙ sym (ap (λ v. v.table) c.self.view_is)),
  omega (arith, c.self.invariant.words),
  splits_actors _ _ _ _ _ _ _ c.pass.invariant.mark,
)

pub compare_exchange-requires : goal.compare_exchange-requires
compare_exchange-requires g c =
    let p = c.pass.inside.seat in
    let s = c.split_seat-seat.ensures in
    let own = ap (λ v. v.table) c.pass.view_is ∙ (c.requires.own ∙ sym (ap (λ v. v.table) c.self.view_is)) in
    let same : c.loop.seat.me ≡ (p.me.0, []) = c.loop.invariant.same ∙ s.4 in
    let acts = held_some p.me.0.held (subst (λ v. 0 < length v.actors) (sym c.pass.view_is) c.requires.actor) in (
      c.loop.invariant.table ∙ (s.3 ∙ own),
      omega (arith, c.self.invariant.words),
      takes_turn _ _ _ _ _ _ _ _ (acts.0, rw same acts.1) none,
    )

pub exchange-kept-requires : goal.exchange-kept-requires
exchange-kept-requires g c =
    let s = c.split_seat-seat.ensures in
    let own = ap (λ v. v.table) c.pass.view_is ∙ (c.requires.own ∙ sym (ap (λ v. v.table) c.self.view_is)) in
    let e = c.compare_exchange.ensures in
    let t = e.2.0 c.if-compare_exchange-eq0.true in (
      e.0 ∙ (c.loop.invariant.table ∙ (s.3 ∙ own)),
      (Some t.object, t.slot ∙ ap (λ m. (0, Some t.object) ∷ m) (sym (ap rest t.slot))),
    )

pub invariant_of-result : goal.invariant_of-result
invariant_of-result g c =
    let p = c.pass.inside.seat in
    let s = c.split_seat-seat.ensures in
    let e = c.compare_exchange.ensures in
    let x = c.exchange-kept.ensures in
    let t = e.2.0 c.if-compare_exchange-eq0.true in
    let same : c.loop.seat.me ≡ p.me = c.loop.invariant.same ∙ (s.4 ∙ (λ i. (p.me.0, sym c.pass.invariant.hands i))) in
    let acts = held_some p.me.0.held (subst (λ v. 0 < length v.actors) (sym c.pass.view_is) c.requires.actor) in
    let taken = turn_taken _ _ _ _ _ _ _ _ (rw same c.pass.invariant) (acts.0, rw same acts.1) t x.2 x.3 in record {
      own = x.0 ∙ (e.0 ∙ (c.loop.invariant.table ∙ (s.3 ∙ (ap (λ v. v.table) c.pass.view_is ∙ c.requires.own))));
      object = taken.0;
      in_hand = taken.1;
      acts = taken.2;
    }

pub returns-then-compare_exchange-eq0-clause-turn : goal.returns-then-compare_exchange-eq0-clause-turn
returns-then-compare_exchange-eq0-clause-turn g c =
    let p = c.pass.inside.seat in
    let s = c.split_seat-seat.ensures in
    let x = c.exchange-kept.ensures in
    let t = c.compare_exchange.ensures.2.0 c.if-compare_exchange-eq0.true in
    let now = c.exchange-kept.new.seat.me.0.seen in
    let same : c.loop.seat.me ≡ p.me = c.loop.invariant.same ∙ (s.4 ∙ (λ i. (p.me.0, sym c.pass.invariant.hands i))) in
    let sees : IsPrefix p.me.0.seen now × SameSteps (belongs g.L.Law.actors) (names p.me.0.held) p.me.0.seen now =
    subst (λ m. IsPrefix m.0.seen now × SameSteps (belongs g.L.Law.actors) (names m.0.held) m.0.seen now) same
    (turn_sees _ _ _ _ _ _ c.exchange-kept.new.seat.me (rw same c.pass.invariant) t (ap (λ m. m.0) x.3)) in
    let both = subst (λ v. IsPrefix v.seen now × SameSteps (belongs g.L.Law.actors) v.actors v.seen now) c.pass.view_is sees in
    record { begins = both.0; own = both.1; same = search rules }

pub loop-preserved : goal.loop-preserved
loop-preserved g c =
    let e = c.compare_exchange.ensures in
    record { table = e.0 ∙ c.loop.invariant.table; same = e.2.1 c.if-compare_exchange-eq0.false ∙ c.loop.invariant.same }
