use Rattle.std.proofs.Common.{◌≡◌, ◌∙◌, ap, arith}
use Rattle.dm_event.specs.Vectors.{at}
use Rattle.dm_kept.specs.Ledger.{Ledger, past}
use Rattle.dm_model.proofs.VectorFacts.{at_by_below}
use Rattle.dm_model.specs.Progress.{reached, site_vector}
use Rattle.dm_numbers.specs.declared.site.SiteNumbers.{SiteNumbers}
use Rattle.dm_steps.proofs.Legality.{reached_few}
use Rattle.dm_kept.proofs.kept.telling.KeptTold.reached.Goals as goal

pub returns-clause-few : goal.returns-clause-few
returns-clause-few c =
    let kept = c.args.self.now in
    let exact : c.get.result ≡ at (site_vector kept.layout.sites (past kept) c.args.site) c.args.origin =
    c.get.ensures ∙ ap (λ (s : SiteNumbers). at s.vector c.args.origin) (c.site.ensures ∙ c.self.invariant.numbers.site_is c.args.site)
    ∙ ap (λ (k : Ledger). at (site_vector k.layout.sites (past k) c.args.site) c.args.origin) c.self.view_is in
    let below = at_by_below kept.layout.sites (λ j. reached c.args.site j (past kept)) c.args.origin in
    let few = reached_few kept.layout (past kept) c.is_legal.ensures.legal c.args.site c.args.origin in
    let memory = c.is_legal.ensures.few in
    omega (arith, exact, below, few, memory)
