use Rattle.std.proofs.Common.{refl, ap, ◌∙◌, subst}
use Rattle.dm_event.specs.declared.actor.Actor.TheVariants.{Session, Site as SiteActor}
use Rattle.dm_invariant.proofs.Passing.{came_pass}
use Rattle.dm_invariant.specs.Stations.{Station, Went}
use Rattle.dm_invariant.specs.Writing.{step_after}
use Rattle.dm_site.proofs.Finishing.{crash_here}
use Rattle.dm_site.proofs.Writing.{installs_none}
use Rattle.dm_store.specs.Contents.{Contents}
use Rattle.dm_site.proofs.site.Site.append_live.Goals as goal

pub returns-in_err-frame-clause-crash : goal.returns-in_err-frame-clause-crash
returns-in_err-frame-clause-crash g c =
    crash_here {D = g.row.D.Denot} g.D.LogDisk.story _ _ c.self.view_is c.self.invariant refl c.self.inside.pass _ c.ready_hand_over.ensures.story

pub returns-clause-same : goal.returns-clause-same
returns-clause-same g c =
    let i = c.self.inside in
    let r = c.ready_hand_over in
    let w = c.write-done in
    record {
      number = ap (λ (at : Station g.row.D.Denot). at.number) c.self.view_is;
      installed = w.ensures.installed
          ∙ (installs_none c.args.pending w.result r.new.self.store.installed c.requires.hands
          ∙ (ap (λ (store : Contents). store.installed) r.ensures.store ∙ ap (λ (at : Station g.row.D.Denot). at.installed) c.self.view_is));
      pass = subst (λ (at : Station g.row.D.Denot). Went at.pass w.new.pass) c.self.view_is
          (came_pass (SiteActor i.number) (Session c.args.on.session) c.args.own.now i.pass w.new.own w.new.pass
          (step_after i.number c.args.on c.args.pending w.result) w.ensures.came);
    }
