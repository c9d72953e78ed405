use Rattle.std.proofs.Common.{ℕ, ap, ◌∙◌, sym}
use Rattle.dm_event.specs.declared.attempt.Attempt.{Attempt}
use Rattle.dm_kept.proofs.Whereabouts.{run_site_told}
use Rattle.dm_kept.specs.Ledger.{Ledger, past}
use Rattle.dm_kept.specs.Telling.{site_told}
use Rattle.dm_model.specs.Runs.{run_site}
use Rattle.std.specs.Prelude.{reverse}
use Rattle.dm_kept.proofs.kept.telling.KeptTold.run_site.Goals as goal

pub returns : goal.returns
returns c =
    let layout = c.self.inside.schema in
    c.site_told.ensures ∙ ap (λ (n : ℕ). site_told n c.attempt.result c.args.txn) c.sites.ensures.same
    ∙ ap (λ (a : Attempt). site_told layout.sites a c.args.txn) (c.attempt.ensures ∙ c.self.invariant.states.attempt_of c.args.txn.session)
    ∙ sym (run_site_told layout (reverse c.self.inside.steps.items) c.self.invariant.legal c.args.txn)
    ∙ ap (λ (k : Ledger). run_site k.layout (past k) c.args.txn) c.self.view_is
