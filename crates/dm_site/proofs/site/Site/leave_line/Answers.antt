use Rattle.dm_site.proofs.Opening.{line_left}
use Rattle.dm_site.proofs.site.Site.leave_line.Goals as goal

pub invariant_of-self : goal.invariant_of-self
invariant_of-self g c = line_left c.self.invariant _ _ c.leave_line.ensures
