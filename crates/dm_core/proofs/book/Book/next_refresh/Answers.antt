use Rattle.std.proofs.Common.{◌≡◌, true, false, sym, ◌∙◌, subst}
use Rattle.std.proofs.lemmas.Bool.{false≢true}
use Rattle.std.specs.Prelude.{IsNone, ◌↔◌}
use Rattle.dm_core.specs.Ledger.{Ledger, past}
use Rattle.dm_core.proofs.Refreshes.{reaches_full}
use Rattle.dm_event.specs.Layout.{is_site}
use Rattle.dm_model.specs.Doubts.{is_down}
use Rattle.dm_model.specs.Progress.{full, site_vector}
use Rattle.dm_core.proofs.book.Book.next_refresh.Goals as goal

pub returns-clause-reaches_full : goal.returns-clause-reaches_full
returns-clause-reaches_full c =
    let layout = c.self.inside.kept.layout in
    let history = c.self.inside.kept.steps in
    subst
    (λ (book : Ledger). is_site book.layout c.args.site ≡ true → is_down c.args.site (past book) ≡ false
    → IsNone c.next_refresh.result ↔ (site_vector book.layout.sites (past book) c.args.site ≡ full book.layout.sites (past book)))
    c.self.view_is
    (λ here up. reaches_full layout history c.args.site c.next_refresh.result c.next_refresh.ensures
    (c.refreshes_reach_full.ensures.lagging_may layout history c.is_legal.ensures.legal c.args.site here (λ down. false≢true (sym up ∙ down)))
    (c.refreshes_reach_full.ensures.full_may_not layout history c.is_legal.ensures.legal c.args.site))
