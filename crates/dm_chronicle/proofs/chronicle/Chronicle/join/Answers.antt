use Rattle.dm_chronicle.specs.Belongs.{belongs}
use Rattle.std.proofs.Common.{ap, subst}
use Rattle.dm_chronicle.specs.Standing.{SameSteps}
use Rattle.dm_chronicle.proofs.Turns.{joined_steps}
use Rattle.dm_chronicle.proofs.chronicle.Chronicle.join.Goals as goal

pub returns-clause-own_one : goal.returns-clause-own_one
returns-clause-own_one g c =
    let L = g.L.Law in
    let v = c.one.inside.seat.me.0 in
    let w = c.two.inside.seat.me.0 in
    let m = c.gather.new.into.me.0 in
    let both = joined_steps L.list L.fixed (belongs L.actors) L.may_follow v w m (ap (λ x. x.0) c.gather.ensures.view) c.gather.ensures.shows
    c.one.invariant.steps c.two.invariant.steps in
    subst (λ x. SameSteps (belongs L.actors) x.actors x.seen m.seen) c.one.view_is both.0

pub returns-clause-own_two : goal.returns-clause-own_two
returns-clause-own_two g c =
    let L = g.L.Law in
    let v = c.one.inside.seat.me.0 in
    let w = c.two.inside.seat.me.0 in
    let m = c.gather.new.into.me.0 in
    let both = joined_steps L.list L.fixed (belongs L.actors) L.may_follow v w m (ap (λ x. x.0) c.gather.ensures.view) c.gather.ensures.shows
    c.one.invariant.steps c.two.invariant.steps in
    subst (λ x. SameSteps (belongs L.actors) x.actors x.seen m.seen) c.two.view_is both.1
