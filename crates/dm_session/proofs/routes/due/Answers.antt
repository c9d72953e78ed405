use Rattle.std.proofs.Common.{◌≡◌, ◌≤◌, ℕ, true, reverse, subst, sym, ap, ◌∙◌}
use Rattle.dm_event.specs.Layout.{Layout, is_site}
use Rattle.dm_event.specs.declared.step.Choice.{Choice}
use Rattle.dm_model.specs.Attempts.{wanted_keys}
use Rattle.dm_session.proofs.Following.{due_here}
use Rattle.dm_session.proofs.routes.due.Goals as goal

pub returns-in-Txn-clause-there : goal.returns-in-Txn-clause-there
returns-in-Txn-clause-there c =
    let e : c.sites-sites.result ≡ c.args.book.now.layout.sites = c.sites-sites.ensures.same ∙ ap (λ (l : Layout). l.sites) c.schema.ensures in
    let some = subst (λ (n : ℕ). 1 ≤ n) e c.sites-sites.ensures.limits.0 in
    subst (λ (r : ℕ × Choice). is_site c.args.book.now.layout r.0 ≡ true) (sym c.choice_for.ensures)
    (due_here c.args.book.now.layout some (reverse c.args.book.now.steps) c.args.session (wanted_keys c.args.want.now))
