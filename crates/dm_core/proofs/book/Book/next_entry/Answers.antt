use Rattle.std.proofs.Common.{◌+◌, ap, sym, ◌∙◌}
use Rattle.dm_core.proofs.EntriesFit.{entry_fits}
use Rattle.dm_core.proofs.Few.{strange_entry}
use Rattle.dm_core.specs.Ledger.{Ledger, past}
use Rattle.dm_core.proofs.book.Book.next_entry.Goals as goal
use Rattle.dm_event.specs.Layout.{Layout, is_site}
use Rattle.dm_event.specs.Vectors.{at}
use Rattle.dm_model.specs.Allowed.{next_entry}
use Rattle.dm_model.specs.Progress.{site_vector}

pub returns-then-is_site-clause-exact : goal.returns-then-is_site-clause-exact
returns-then-is_site-clause-exact c =
    c.next_entry.ensures ∙ ap (λ (b : Ledger). next_entry b.layout (past b) c.args.site c.args.origin) c.self.view_is

pub returns-then-is_site-clause-origin : goal.returns-then-is_site-clause-origin
returns-then-is_site-clause-origin c =
    let kept = c.self.inside.kept in
    entry_fits kept.layout (past kept) c.is_legal.ensures.legal c.args.origin (at (site_vector kept.layout.sites (past kept) c.args.site) c.args.origin + 1)
    c.next_entry.result c.next_entry.ensures

pub returns-else-is_site-clause-exact : goal.returns-else-is_site-clause-exact
returns-else-is_site-clause-exact c =
    let kept = c.self.inside.kept in
    sym (strange_entry kept.layout (past kept) c.args.origin (at (site_vector kept.layout.sites (past kept) c.args.site) c.args.origin + 1)
    c.is_legal.ensures.legal
    (ap (λ (l : Layout). is_site l c.args.origin) (sym c.schema.ensures) ∙ sym c.is_site.ensures ∙ c.if-is_site.false))
    ∙ ap (λ (b : Ledger). next_entry b.layout (past b) c.args.site c.args.origin) c.self.view_is
