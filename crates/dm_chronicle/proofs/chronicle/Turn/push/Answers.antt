use Rattle.dm_chronicle.specs.Belongs.{belongs}
use Rattle.std.proofs.Common.{[], ◌∷◌, ◌++◌, sym, ap, ◌∙◌, subst, IsSomeAnd}
use Rattle.dm_chronicle.specs.Rule.{names, mine}
use Rattle.dm_chronicle.proofs.Turns.{names_again, acts_may}
use Rattle.dm_chronicle.proofs.chronicle.Turn.push.Goals as goal

pub append-requires-clause-acts : goal.append-requires-clause-acts
append-requires-clause-acts g c =
    let L = g.L.Law in
    let inv = c.self.invariant in
    let may = acts_may L.list L.fixed (belongs L.actors) L.may_follow c.self.inside.seat.me inv.object c.args.step _ _ inv.acts
    (ap (λ v. v.fixed) c.self.view_is) (ap (λ v. v.seen) c.self.view_is) c.requires.follows in
    let room = subst (λ o. IsSomeAnd o (λ k. L.has_room k c.args.step)) (sym (ap (λ v. v.kept) c.self.view_is) ∙ inv.in_hand) c.requires.room in
    record { object = inv.object; in_hand = inv.in_hand; acts = inv.acts; follows = may; room = room }

pub returns : goal.returns
returns g c =
    let L = g.L.Law in
    let a = c.append.ensures.acts in
    let was = c.self.inside.seat.me.0 in
    let table = c.append.ensures.table ∙ ap (λ v. v.table) c.self.view_is in
    let fixed = ap (λ v. v.fixed) a.view ∙ ap (λ v. v.fixed) c.self.view_is in
    let actors = ap (λ v. names v.held) a.view ∙ (names_again (λ b. mine (belongs L.actors) b (L.list a.object)) was.held ∙ ap (λ v. v.actors) c.self.view_is)
    in
    let seen = ap (λ v. v.seen) a.view ∙ (a.grown ∙ ap (λ v. v.seen ++ c.args.step ∷ []) c.self.view_is) in
    λ i. record { table = table i; fixed = fixed i; actors = actors i; seen = seen i }
