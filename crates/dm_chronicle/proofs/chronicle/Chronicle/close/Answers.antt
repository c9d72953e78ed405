use Rattle.dm_chronicle.specs.Belongs.{belongs}
use Rattle.std.proofs.Common.{[], sym, ap, ◌∙◌, subst}
use mathlib.Core.List.{IsPrefix}
use Rattle.dm_chronicle.specs.Rule.{In, Legal, names}
use Rattle.dm_chronicle.specs.Standing.{SameSteps}
use Rattle.dm_chronicle.proofs.Lists.{held_named}
use Rattle.dm_chronicle.proofs.Keeps.{closes}
use Rattle.dm_chronicle.proofs.Turns.{some_same, close_steps}
use Rattle.dm_chronicle.proofs.chronicle.Chronicle.close.Goals as goal

pub unreachable-requires : goal.unreachable-requires
unreachable-requires g c =
    let L = g.L.Law in
    let v = c.pass.inside.seat.me.0 in
    let end = closes L.list L.fixed (belongs L.actors) L.may_follow c.self.inside.table.shared.key c.pass.inside.seat.id v _ _ c.take-kept.result
    c.close_with-closed.ensures.values.2 c.pass.invariant.mark
    (λ a i. held_named v.held a (subst (λ p. In a p.actors) (sym c.pass.view_is) (c.requires.all a (subst (λ s. In a s.actors) c.self.view_is i))))
    c.take-kept.ensures.value in
    c.in_default.not-Some end.0 end.1

pub returns-clause-begins : goal.returns-clause-begins
returns-clause-begins g c =
    let L = g.L.Law in
    let v = c.pass.inside.seat.me.0 in
    let end = closes L.list L.fixed (belongs L.actors) L.may_follow c.self.inside.table.shared.key c.pass.inside.seat.id v _ _ c.take-kept.result
    c.close_with-closed.ensures.values.2 c.pass.invariant.mark
    (λ a i. held_named v.held a (subst (λ p. In a p.actors) (sym c.pass.view_is) (c.requires.all a (subst (λ s. In a s.actors) c.self.view_is i))))
    c.take-kept.ensures.value in
    let same = some_same L.list L.fixed (belongs L.actors) L.may_follow _ _ (sym end.1 ∙ c.in-Some.is) in
    subst (λ p. IsPrefix p.seen (L.list c.in-Some.kept)) c.pass.view_is (subst (λ o. IsPrefix v.seen (L.list o)) same end.2)

pub returns-clause-own : goal.returns-clause-own
returns-clause-own g c =
    let L = g.L.Law in
    let v = c.pass.inside.seat.me.0 in
    let end = closes L.list L.fixed (belongs L.actors) L.may_follow c.self.inside.table.shared.key c.pass.inside.seat.id v _ _ c.take-kept.result
    c.close_with-closed.ensures.values.2 c.pass.invariant.mark
    (λ a i. held_named v.held a (subst (λ p. In a p.actors) (sym c.pass.view_is) (c.requires.all a (subst (λ s. In a s.actors) c.self.view_is i))))
    c.take-kept.ensures.value in
    let same = some_same L.list L.fixed (belongs L.actors) L.may_follow _ _ (sym end.1 ∙ c.in-Some.is) in
    let steps = close_steps L.list L.fixed (belongs L.actors) L.may_follow v (L.list end.0) c.pass.invariant.steps end.3 in
    subst (λ p. SameSteps (belongs L.actors) p.actors p.seen (L.list c.in-Some.kept)) c.pass.view_is
    (subst (λ o. SameSteps (belongs L.actors) (names v.held) v.seen (L.list o)) same steps)

pub returns-clause-fixed : goal.returns-clause-fixed
returns-clause-fixed g c =
    let L = g.L.Law in
    let v = c.pass.inside.seat.me.0 in
    let end = closes L.list L.fixed (belongs L.actors) L.may_follow c.self.inside.table.shared.key c.pass.inside.seat.id v _ _ c.take-kept.result
    c.close_with-closed.ensures.values.2 c.pass.invariant.mark
    (λ a i. held_named v.held a (subst (λ p. In a p.actors) (sym c.pass.view_is) (c.requires.all a (subst (λ s. In a s.actors) c.self.view_is i))))
    c.take-kept.ensures.value in
    let same = some_same L.list L.fixed (belongs L.actors) L.may_follow _ _ (sym end.1 ∙ c.in-Some.is) in
    ap L.fixed (sym same) ∙ (end.4 ∙ ap (λ s. s.fixed) c.self.view_is)

pub returns-clause-lawful : goal.returns-clause-lawful
returns-clause-lawful g c =
    let L = g.L.Law in
    let v = c.pass.inside.seat.me.0 in
    let end = closes L.list L.fixed (belongs L.actors) L.may_follow c.self.inside.table.shared.key c.pass.inside.seat.id v _ _ c.take-kept.result
    c.close_with-closed.ensures.values.2 c.pass.invariant.mark
    (λ a i. held_named v.held a (subst (λ p. In a p.actors) (sym c.pass.view_is) (c.requires.all a (subst (λ s. In a s.actors) c.self.view_is i))))
    c.take-kept.ensures.value in
    let same = some_same L.list L.fixed (belongs L.actors) L.may_follow _ _ (sym end.1 ∙ c.in-Some.is) in
    subst (λ o. Legal L.may_follow (L.fixed o) [] (L.list o)) same end.5
