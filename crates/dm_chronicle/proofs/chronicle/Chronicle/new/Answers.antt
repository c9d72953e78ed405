use Rattle.dm_chronicle.specs.Belongs.{belongs}
use Rattle.std.proofs.Common.{rules, ◌≡◌, Some, sym, ap, ◌∙◌, subst}
use Rattle.dm_chronicle.specs.Rule.{names, Shows, mine}
use Rattle.dm_chronicle.proofs.Lists.{dealt_names}
use Rattle.dm_chronicle.proofs.Turns.{first_shows}
use Rattle.dm_chronicle.proofs.chronicle.Chronicle.new.Goals as goal

pub deal-requires-clause-table : goal.deal-requires-clause-table
deal-requires-clause-table g c = c.in-Ok-open.ensures.table

pub deal-requires-clause-hands : goal.deal-requires-clause-hands
deal-requires-clause-hands g c = ap (λ m. m.1) c.in-Ok-open.ensures.view

pub deal-requires-clause-mark : goal.deal-requires-clause-mark
deal-requires-clause-mark g c = ap (λ m. m.0.mark) c.in-Ok-open.ensures.view

pub deal-requires-clause-olds : goal.deal-requires-clause-olds
deal-requires-clause-olds g c = ap (λ m. m.0.older) c.in-Ok-open.ensures.view

pub deal-requires-clause-fixed : goal.deal-requires-clause-fixed
deal-requires-clause-fixed g c = let o = c.in-Ok-open.ensures in ap (λ m. m.0.fixed) o.view ∙ ap (λ f. Some f) (sym o.fixed)

pub deal-requires-clause-names : goal.deal-requires-clause-names
deal-requires-clause-names g c =
    let L = g.L.Law in
    let items : c.extend_from_slice.new.self.items ≡ c.args.actors.now = search rules in
    ap (λ m. names m.0.held) c.in-Ok-open.ensures.view
    ∙ (dealt_names (λ b. mine (belongs L.actors) b (L.list c.args.kept)) c.extend_from_slice.new.self.items ∙ items)

pub deal-requires-clause-shows : goal.deal-requires-clause-shows
deal-requires-clause-shows g c =
    let L = g.L.Law in
    let o = c.in-Ok-open.ensures in
    subst (λ m. Shows L.list L.fixed (belongs L.actors) L.may_follow m.0) (sym o.view)
    (first_shows L.list L.fixed (belongs L.actors) L.may_follow c.args.kept c.extend_from_slice.new.self.items c.requires.lawful)
