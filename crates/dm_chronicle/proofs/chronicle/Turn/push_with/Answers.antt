use Rattle.dm_chronicle.specs.Belongs.{belongs}
use Rattle.std.proofs.Common.{◌≡◌, List, [], ◌∷◌, ◌++◌, IsSomeAnd, sym, ap, ◌∙◌, subst, arith}
use mathlib.Core.List.{IsPrefix}
use Rattle.dm_event.specs.declared.actor.Actor.{Actor}
use Rattle.dm_chronicle.specs.Rule.{In, gathered, names, keeps_own, gives_back, without, mine, pushes}
use Rattle.dm_chronicle.specs.Standing.{SameSteps}
use Rattle.dm_chronicle.proofs.Lists.{prefix_more}
use Rattle.dm_chronicle.proofs.Keeps.{splits_actors, splits_back}
use Rattle.dm_chronicle.proofs.Turns.{acts_may, gather_acts, gather_seen, joined_steps, names_again, lent, lent_acts, lent_holds, lent_own, lent_back}
use Rattle.dm_chronicle.proofs.Turns.{later_free}
use Rattle.dm_chronicle.proofs.chronicle.Turn.push_with.Goals as goal

pub split_seat-lent-requires : goal.split_seat-lent-requires
split_seat-lent-requires g c = (
  ap (λ v. v.table) c.other.view_is ∙ (c.requires.own
      ∙ (sym (ap (λ v. v.table) c.self.view_is) ∙ (c.self.invariant.own ∙ sym (ap (λ v. v.table) c.chron.view_is)))),
  omega (arith, c.chron.invariant.words),
  splits_actors _ _ _ _ _ _ _ c.other.invariant.mark,
)

pub append-requires-clause-acts : goal.append-requires-clause-acts
append-requires-clause-acts g c =
    let L = g.L.Law in
    let inv = c.self.invariant in
    let may = acts_may L.list L.fixed (belongs L.actors) L.may_follow c.self.inside.seat.me inv.object c.args.step _ _ inv.acts
    (ap (λ v. v.fixed) c.self.view_is) (ap (λ v. v.seen) c.self.view_is) c.requires.follows in
    let room = subst (λ o. IsSomeAnd o (λ k. L.has_room k c.args.step)) (sym (ap (λ v. v.kept) c.self.view_is) ∙ inv.in_hand) c.requires.room in
    let acts = gather_acts L.list L.fixed (belongs L.actors) L.may_follow _ _ c.split_seat-lent.result.me.0 inv.object inv.acts (λ a i. i) c.gather.ensures.view
    c.gather.ensures.shows in
    record { object = inv.object; in_hand = inv.in_hand; acts = acts; follows = may; room = room }

pub split_seat-back-requires : goal.split_seat-back-requires
split_seat-back-requires g c =
    let L = g.L.Law in
    let a = c.append.ensures.acts in
    let v = c.self.inside.seat.me.0 in
    let p = c.other.inside.seat.me.0 in
    let is : c.append.new.seat.me.0 ≡ lent L.list L.fixed (belongs L.actors) L.may_follow v p (L.list a.object) = a.view
    ∙ ap (λ m. pushes L.list L.fixed (belongs L.actors) L.may_follow m.0 (L.list a.object)) c.gather.ensures.view
    ∙ ap (λ m. pushes L.list L.fixed (belongs L.actors) L.may_follow (gathered v m.0) (L.list a.object)) c.split_seat-lent.ensures.4 in (
      c.append.ensures.table ∙ (c.gather.ensures.table ∙ (c.self.invariant.own ∙ sym (ap (λ w. w.table) c.chron.view_is))),
      omega (arith, c.chron.invariant.words),
      splits_back _ _ _ _ _ _ _ (λ _. lent_holds L.list L.fixed (belongs L.actors) L.may_follow _ v p (L.list a.object) is c.self.invariant.acts.acts),
    )

pub invariant_of-self : goal.invariant_of-self
invariant_of-self g c =
    let L = g.L.Law in
    let a = c.append.ensures.acts in
    let v = c.self.inside.seat.me.0 in
    let p = c.other.inside.seat.me.0 in
    let is : c.append.new.seat.me.0 ≡ lent L.list L.fixed (belongs L.actors) L.may_follow v p (L.list a.object) = a.view
    ∙ ap (λ m. pushes L.list L.fixed (belongs L.actors) L.may_follow m.0 (L.list a.object)) c.gather.ensures.view
    ∙ ap (λ m. pushes L.list L.fixed (belongs L.actors) L.may_follow (gathered v m.0) (L.list a.object)) c.split_seat-lent.ensures.4 in
    let s = c.split_seat-back.ensures in record {
      own = s.0 ∙ (c.append.ensures.table ∙ (c.gather.ensures.table ∙ c.self.invariant.own));
      object = a.object;
      in_hand = a.in_hand;
      acts = lent_acts L.list L.fixed (belongs L.actors) L.may_follow c.append.new.seat.me _ v p a.object a.acts is c.self.invariant.acts.acts s.2;
    }

pub returns-clause-turn : goal.returns-clause-turn
returns-clause-turn g c =
    let L = g.L.Law in
    let a = c.append.ensures.acts in
    let v = c.self.inside.seat.me.0 in
    let p = c.other.inside.seat.me.0 in
    let l = L.list a.object in
    let s = c.split_seat-back.ensures in
    let given = c.split_seat-lent.ensures in
    let is : c.append.new.seat.me.0 ≡ lent L.list L.fixed (belongs L.actors) L.may_follow v p l = a.view
    ∙ ap (λ m. pushes L.list L.fixed (belongs L.actors) L.may_follow m.0 l) c.gather.ensures.view
    ∙ ap (λ m. pushes L.list L.fixed (belongs L.actors) L.may_follow (gathered v m.0) l) given.4 in
    let own : c.gather.new.into.me.0.seen ≡ v.seen = gather_seen L.list L.fixed (belongs L.actors) L.may_follow _ _ c.split_seat-lent.result.me.0
    c.self.invariant.object c.self.invariant.acts c.gather.ensures.view in
    let end : c.split_seat-back.new.seat.me.0 ≡ keeps_own (lent L.list L.fixed (belongs L.actors) L.may_follow v p l) = ap (λ m. m.0) s.2 ∙ ap keeps_own is in
    let table = s.0 ∙ (c.append.ensures.table ∙ (c.gather.ensures.table ∙ ap (λ w. w.table) c.self.view_is)) in
    let fixed = ap (λ w. w.fixed) end ∙ ap (λ w. w.fixed) c.self.view_is in
    let actors = ap (λ w. names w.held) end ∙ (ap names (lent_own L.list L.fixed (belongs L.actors) L.may_follow v p l)
    ∙ (names_again (λ b. mine (belongs L.actors) b l) v.held ∙ ap (λ w. w.actors) c.self.view_is)) in
    let seen = ap (λ w. w.seen) end ∙ (a.grown ∙ (ap (λ q. q ++ c.args.step ∷ []) own ∙ ap (λ w. w.seen ++ c.args.step ∷ []) c.self.view_is)) in
    λ i. record { table = table i; fixed = fixed i; actors = actors i; seen = seen i }

pub returns-clause-other : goal.returns-clause-other
returns-clause-other g c =
    let L = g.L.Law in
    let a = c.append.ensures.acts in
    let v = c.self.inside.seat.me.0 in
    let p = c.other.inside.seat.me.0 in
    let l = L.list a.object in
    let s = c.split_seat-back.ensures in
    let given = c.split_seat-lent.ensures in
    let is : c.append.new.seat.me.0 ≡ lent L.list L.fixed (belongs L.actors) L.may_follow v p l = a.view
    ∙ ap (λ m. pushes L.list L.fixed (belongs L.actors) L.may_follow m.0 l) c.gather.ensures.view
    ∙ ap (λ m. pushes L.list L.fixed (belongs L.actors) L.may_follow (gathered v m.0) l) given.4 in
    let own : c.gather.new.into.me.0.seen ≡ v.seen = gather_seen L.list L.fixed (belongs L.actors) L.may_follow _ _ c.split_seat-lent.result.me.0
    c.self.invariant.object c.self.invariant.acts c.gather.ensures.view in
    let u = c.gather-2.ensures in
    let back = gives_back (lent L.list L.fixed (belongs L.actors) L.may_follow v p l) in
    let end : c.gather-2.new.into.me.0 ≡ gathered (without p) back = ap (λ m. m.0) u.view
    ∙ (ap (λ m. gathered m.0 c.split_seat-back.result.me.0) given.2 ∙ ap (gathered (without p)) (ap (λ m. m.0) s.4 ∙ ap gives_back is)) in
    let here : IsPrefix p.seen c.gather.new.into.me.0.seen = subst (λ m. IsPrefix m.0.seen c.gather.new.into.me.0.seen) given.4 c.gather.ensures.begins_other in
    let begins : IsPrefix p.seen l = subst (IsPrefix p.seen) (sym a.grown) (prefix_more p.seen c.gather.new.into.me.0.seen (c.args.step ∷ []) here) in
    let table = u.table ∙ (given.0 ∙ ap (λ w. w.table) c.other.view_is) in
    let fixed = ap (λ w. w.fixed) end ∙ ap (λ w. w.fixed) c.other.view_is in
    let actors = ap (λ w. names w.held) end ∙ (ap names (lent_back L.list L.fixed (belongs L.actors) L.may_follow v p l)
    ∙ (names_again (λ b. mine (belongs L.actors) b l) p.held ∙ ap (λ w. w.actors) c.other.view_is)) in
    let seen = ap (λ w. w.seen) end ∙ (later_free L.list L.fixed (belongs L.actors) L.may_follow p.mark p.seen l c.other.invariant.mark begins ∙
    (a.grown ∙ (ap (λ q. q ++ c.args.step ∷ []) own ∙ ap (λ w. w.seen ++ c.args.step ∷ []) c.self.view_is))) in
    λ i. record { table = table i; fixed = fixed i; actors = actors i; seen = seen i }

pub returns-clause-own : goal.returns-clause-own
returns-clause-own g c =
    let L = g.L.Law in
    let a = c.append.ensures.acts in
    let v = c.self.inside.seat.me.0 in
    let p = c.other.inside.seat.me.0 in
    let l = L.list a.object in
    let s = c.split_seat-back.ensures in
    let given = c.split_seat-lent.ensures in
    let is : c.append.new.seat.me.0 ≡ lent L.list L.fixed (belongs L.actors) L.may_follow v p l = a.view
    ∙ ap (λ m. pushes L.list L.fixed (belongs L.actors) L.may_follow m.0 l) c.gather.ensures.view
    ∙ ap (λ m. pushes L.list L.fixed (belongs L.actors) L.may_follow (gathered v m.0) l) given.4 in
    let own : c.gather.new.into.me.0.seen ≡ v.seen = gather_seen L.list L.fixed (belongs L.actors) L.may_follow _ _ c.split_seat-lent.result.me.0
    c.self.invariant.object c.self.invariant.acts c.gather.ensures.view in
    let w = c.split_seat-lent.result.me.0 in
    let m = c.gather.new.into.me.0 in
    let its = subst (λ q. (b : Actor) (k : List _) → In (b, k) q.0.held → k ≡ mine (belongs L.actors) b q.0.seen) (sym given.4) c.other.invariant.steps in
    let both : SameSteps (belongs L.actors) (names w.held) w.seen m.seen =
    (joined_steps L.list L.fixed (belongs L.actors) L.may_follow v w m (ap (λ q. q.0) c.gather.ensures.view) c.gather.ensures.shows
    c.self.invariant.acts.steps its).1 in
    let steps : SameSteps (belongs L.actors) (names p.held) p.seen m.seen =
    subst (λ q. SameSteps (belongs L.actors) (names q.0.held) q.0.seen m.seen) given.4 both in
    let last = own ∙ ap (λ q. q.seen) c.self.view_is in
    subst (λ q. SameSteps (belongs L.actors) q.actors q.seen c.args.self.now.seen) c.other.view_is
    (subst (SameSteps (belongs L.actors) (names p.held) p.seen) last steps)
