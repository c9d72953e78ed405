use Rattle.std.proofs.Common.{subst}
use Rattle.dm_invariant.specs.Stations.{Station}
use Rattle.dm_site.proofs.Opening.{leaves}
use Rattle.dm_site.specs.Leaving.{Leaves}
use Rattle.dm_site.proofs.site.Site.into_parts.Goals as goal

pub returns-clause-leaves : goal.returns-clause-leaves
returns-clause-leaves g c =
    subst (λ (was : Station g.row.D.Denot). Leaves g.N.Named.table g.N.Named.faults was.number was.pass (g.D.LogDisk.story was.disk) (g.D.LogDisk.faults was.disk))
    c.self.view_is (leaves _ _ _ _ _ c.self.invariant)
