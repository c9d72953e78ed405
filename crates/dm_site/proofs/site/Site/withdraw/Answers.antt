use Rattle.dm_site.proofs.Opening.{line_withdrawn}
use Rattle.dm_site.proofs.site.Site.withdraw.Goals as goal

pub invariant_of-self : goal.invariant_of-self
invariant_of-self g c = line_withdrawn c.self.invariant _ _ c.withdraw.ensures
