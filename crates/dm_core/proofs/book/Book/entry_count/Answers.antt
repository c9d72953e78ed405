use Rattle.std.proofs.Common.{◌≡◌, ap, arith, length, sym, ◌∙◌}
use Rattle.std.proofs.lemmas.List.{length-reverse}
use Rattle.dm_core.proofs.Few.{strange_count}
use Rattle.dm_core.specs.Ledger.{Ledger, past}
use Rattle.dm_event.specs.Layout.{Layout, is_site}
use Rattle.dm_model.specs.Progress.{entry_count}
use Rattle.dm_steps.proofs.Entries.{few_entries}
use Rattle.dm_core.proofs.book.Book.entry_count.Goals as goal

pub returns-then-is_site-clause-few : goal.returns-then-is_site-clause-few
returns-then-is_site-clause-few c =
    let kept = c.self.inside.kept in
    let few = few_entries c.args.origin (past kept) in
    let long : length (past kept) ≡ length kept.steps = length-reverse kept.steps in
    let same : length kept.steps ≡ length c.args.self.now.steps = ap (λ (b : Ledger). length b.steps) c.self.view_is in
    omega (arith, few, long, same, c.entry_count.ensures.exact)

pub returns-else-is_site-clause-exact : goal.returns-else-is_site-clause-exact
returns-else-is_site-clause-exact c =
    let kept = c.self.inside.kept in
    sym (strange_count kept.layout (past kept) c.args.origin c.is_legal.ensures.legal
    (ap (λ (l : Layout). is_site l c.args.origin) (sym c.schema.ensures) ∙ sym c.is_site.ensures ∙ c.if-is_site.false))
    ∙ ap (λ (b : Ledger). entry_count c.args.origin (past b)) c.self.view_is
