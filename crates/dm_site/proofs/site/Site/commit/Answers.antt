use Rattle.std.proofs.Common.{ℕ, ◌≡◌, refl, sym, ap, ◌∙◌, subst}
use Rattle.dm_event.specs.declared.actor.Actor.TheVariants.{Session, Site as SiteActor}
use Rattle.dm_site.proofs.Bodies.{dropped_at, met_alike, site_met}
use Rattle.dm_site.proofs.Finishing.{crash_here, crash_later, fails_after, met_there, serves, up_after}
use Rattle.dm_site.proofs.Outcomes.{end_disk, end_own, end_same, end_told, ends_alike, failed_as, here_on}
use Rattle.dm_site.proofs.Outcomes.{live_came, live_crash, live_met, logged_down, logged_own, logged_pass, logged_same, logged_told}
use Rattle.dm_invariant.proofs.Passing.{came_own, came_pass, met_came, met_met, met_own, met_pass, met_rested, went_twice}
use Rattle.dm_site.specs.Ends.{Ends}
use Rattle.dm_invariant.specs.Running.{IsHere}
use Rattle.dm_invariant.specs.Stations.{Station}
use Rattle.dm_invariant.specs.Turning.{Met}
use Rattle.dm_site.proofs.site.Site.commit.Goals as goal

pub invariant_of-self : goal.invariant_of-self
invariant_of-self g c =
    let m = c.meet in
    let b = met_alike _ m.new.one _ m.new.two m.ensures.one m.ensures.fixed m.ensures.lawful m.ensures.two m.ensures.same in
    site_met {D = g.row.D.Denot} _ _ _ c.self.view_is c.self.invariant b.0 b.1 m.new.two b.2

pub returns-then-not-holds-clause-ok : goal.returns-then-not-holds-clause-ok
returns-then-not-holds-clause-ok g c =
    let m = c.meet in
    let b = met_alike _ m.new.one _ m.new.two m.ensures.one m.ensures.fixed m.ensures.lawful m.ensures.two m.ensures.same in
    dropped_at {D = g.row.D.Denot} _ _ _ c.self.view_is c.self.invariant b.0 b.1 m.new.one _ _ c.holds.result refl c.run.view_is c.requires.own.1
    c.requires.here c.holds.ensures c.if-not-holds.true

pub returns-then-not-holds-clause-crash : goal.returns-then-not-holds-clause-crash
returns-then-not-holds-clause-crash g c =
    crash_here {D = g.row.D.Denot} g.D.LogDisk.story _ _ c.self.view_is c.self.invariant refl c.meet.new.two _ refl

pub invariant_of-self-then-not-has_writes : goal.invariant_of-self-then-not-has_writes
invariant_of-self-then-not-has_writes g c =
    let m = c.meet in
    let b = met_alike _ m.new.one _ m.new.two m.ensures.one m.ensures.fixed m.ensures.lawful m.ensures.two m.ensures.same in
    site_met {D = g.row.D.Denot} _ _ _ c.self.view_is c.self.invariant b.0 b.1 m.new.two b.2

pub end-requires-clause-here : goal.end-requires-clause-here
end-requires-clause-here g c =
    let m = c.meet in
    let b = met_alike _ m.new.one _ m.new.two m.ensures.one m.ensures.fixed m.ensures.lawful m.ensures.two m.ensures.same in
    let stay =
    met_there {D = g.row.D.Denot} _ _ _ c.self.view_is c.self.invariant b.0 b.1 c.args.run.txn.session c.requires.own.1 m.new.one m.new.two
    m.ensures.one.same b.2 in
    let there : IsHere c.self.inside.number c.args.own.now c.args.run =
    subst (λ (at : Station g.row.D.Denot). IsHere at.number c.args.own.now c.args.run) (sym c.self.view_is) c.requires.here in
    here_on c.self.inside.number c.args.run c.args.own.now m.new.one there (met_own _ _ _ _ _ _ stay) (met_rested _ _ _ _ _ _ stay)

pub returns-then-not-has_writes-clause-same : goal.returns-then-not-has_writes-clause-same
returns-then-not-has_writes-clause-same g c =
    let m = c.meet in
    let b = met_alike _ m.new.one _ m.new.two m.ensures.one m.ensures.fixed m.ensures.lawful m.ensures.two m.ensures.same in
    let stay =
    met_there {D = g.row.D.Denot} _ _ _ c.self.view_is c.self.invariant b.0 b.1 c.args.run.txn.session c.requires.own.1 m.new.one m.new.two
    m.ensures.one.same b.2 in
    let x = c.end in
    subst (λ (at : Station g.row.D.Denot). Ends at x.new.self) c.self.view_is
    (end_same (λ e. e.0 ≡ c.args.run) _ x.new.self c.args.run c.args.own.now m.new.one x.new.own m.new.two x.result stay x.ensures.ok x.ensures.site
    x.ensures.err)

pub returns-then-not-has_writes-clause-own : goal.returns-then-not-has_writes-clause-own
returns-then-not-has_writes-clause-own g c =
    let m = c.meet in
    let b = met_alike _ m.new.one _ m.new.two m.ensures.one m.ensures.fixed m.ensures.lawful m.ensures.two m.ensures.same in
    let stay =
    met_there {D = g.row.D.Denot} _ _ _ c.self.view_is c.self.invariant b.0 b.1 c.args.run.txn.session c.requires.own.1 m.new.one m.new.two
    m.ensures.one.same b.2 in
    let x = c.end in
    end_own (λ e. e.0 ≡ c.args.run) _ x.new.self c.args.run c.args.own.now m.new.one x.new.own m.new.two x.result stay x.ensures.ok x.ensures.site
    x.ensures.err

pub returns-then-not-has_writes-clause-ok : goal.returns-then-not-has_writes-clause-ok
returns-then-not-has_writes-clause-ok g c =
    let m = c.meet in
    let b = met_alike _ m.new.one _ m.new.two m.ensures.one m.ensures.fixed m.ensures.lawful m.ensures.two m.ensures.same in
    let stay =
    met_there {D = g.row.D.Denot} _ _ _ c.self.view_is c.self.invariant b.0 b.1 c.args.run.txn.session c.requires.own.1 m.new.one m.new.two
    m.ensures.one.same b.2 in
    let there : IsHere c.self.inside.number c.args.own.now c.args.run =
    subst (λ (at : Station g.row.D.Denot). IsHere at.number c.args.own.now c.args.run) (sym c.self.view_is) c.requires.here in
    let x = c.end in
    end_told (λ e. e.0 ≡ c.args.run) _ x.new.self c.args.run c.args.own.now m.new.one x.new.own m.new.two x.result stay x.ensures.ok x.ensures.site
    x.ensures.err there.site_is x.ensures.told

pub returns-then-not-has_writes-clause-crash : goal.returns-then-not-has_writes-clause-crash
returns-then-not-has_writes-clause-crash g c =
    let m = c.meet in
    let b = met_alike _ m.new.one _ m.new.two m.ensures.one m.ensures.fixed m.ensures.lawful m.ensures.two m.ensures.same in
    let stay =
    met_there {D = g.row.D.Denot} _ _ _ c.self.view_is c.self.invariant b.0 b.1 c.args.run.txn.session c.requires.own.1 m.new.one m.new.two
    m.ensures.one.same b.2 in
    let x = c.end in
    crash_here {D = g.row.D.Denot} g.D.LogDisk.story _ _ c.self.view_is c.self.invariant refl x.new.self.pass _
    (ap g.D.LogDisk.story
    (end_disk (λ e. e.0 ≡ c.args.run) _ x.new.self c.args.run c.args.own.now m.new.one x.new.own m.new.two x.result stay x.ensures.ok x.ensures.site
    x.ensures.err))

pub invariant_of-self-else-not-has_writes : goal.invariant_of-self-else-not-has_writes
invariant_of-self-else-not-has_writes g c =
    let m = c.meet in
    let b = met_alike _ m.new.one _ m.new.two m.ensures.one m.ensures.fixed m.ensures.lawful m.ensures.two m.ensures.same in
    site_met {D = g.row.D.Denot} _ _ _ c.self.view_is c.self.invariant b.0 b.1 m.new.two b.2

pub make_live-requires-clause-up : goal.make_live-requires-clause-up
make_live-requires-clause-up g c =
    let m = c.meet in
    let b = met_alike _ m.new.one _ m.new.two m.ensures.one m.ensures.fixed m.ensures.lawful m.ensures.two m.ensures.same in
    up_after
    (serves {D = g.row.D.Denot} _ _ _ c.self.view_is c.self.invariant b.0 b.1 c.run.view_is c.requires.here c.run.invariant c.holds.result c.holds.ensures
    c.if-not-holds.false)
    m.new.two b.2

pub make_live-requires-clause-may : goal.make_live-requires-clause-may
make_live-requires-clause-may g c =
    let m = c.meet in
    let b = met_alike _ m.new.one _ m.new.two m.ensures.one m.ensures.fixed m.ensures.lawful m.ensures.two m.ensures.same in
    fails_after
    (serves {D = g.row.D.Denot} _ _ _ c.self.view_is c.self.invariant b.0 b.1 c.run.view_is c.requires.here c.run.invariant c.holds.result c.holds.ensures
    c.if-not-holds.false)
    m.new.two b.2

pub commit_logged-requires-clause-here : goal.commit_logged-requires-clause-here
commit_logged-requires-clause-here g c =
    let m = c.meet in
    let b = met_alike _ m.new.one _ m.new.two m.ensures.one m.ensures.fixed m.ensures.lawful m.ensures.two m.ensures.same in
    let stay =
    met_there {D = g.row.D.Denot} _ _ _ c.self.view_is c.self.invariant b.0 b.1 c.args.run.txn.session c.requires.own.1 m.new.one m.new.two
    m.ensures.one.same b.2 in
    let there : IsHere c.self.inside.number c.args.own.now c.args.run =
    subst (λ (at : Station g.row.D.Denot). IsHere at.number c.args.own.now c.args.run) (sym c.self.view_is) c.requires.here in
    let i = c.self.inside in
    let l = c.make_live in
    let at : Station g.row.D.Denot =
    record { number = i.number; installed = i.desk.store.installed; locks = i.desk.locks; live = i.desk.log.live; pass = m.new.two; disk = i.desk.log.disk } in
    let live = live_met at l.new.self m.new.one l.new.own c.run.view_is c.in-Ok-None.field-0 c.in-Ok-None.field-0-is c.in-Ok-None.ensures.ok in
    let both = met_met _ _ _ _ _ _ _ _ stay live in
    subst (λ (site : ℕ). IsHere site l.new.own c.args.run) (sym l.ensures.number)
    (here_on i.number c.args.run c.args.own.now l.new.own there (met_own _ _ _ _ _ _ both) (met_rested _ _ _ _ _ _ both))

pub returns-in-Ok-None-clause-same : goal.returns-in-Ok-None-clause-same
returns-in-Ok-None-clause-same g c =
    let m = c.meet in
    let b = met_alike _ m.new.one _ m.new.two m.ensures.one m.ensures.fixed m.ensures.lawful m.ensures.two m.ensures.same in
    let stay =
    met_there {D = g.row.D.Denot} _ _ _ c.self.view_is c.self.invariant b.0 b.1 c.args.run.txn.session c.requires.own.1 m.new.one m.new.two
    m.ensures.one.same b.2 in
    let i = c.self.inside in
    let l = c.make_live in
    let at : Station g.row.D.Denot =
    record { number = i.number; installed = i.desk.store.installed; locks = i.desk.locks; live = i.desk.log.live; pass = m.new.two; disk = i.desk.log.disk } in
    let live = live_met at l.new.self m.new.one l.new.own c.run.view_is c.in-Ok-None.field-0 c.in-Ok-None.field-0-is c.in-Ok-None.ensures.ok in
    let both = met_met _ _ _ _ _ _ _ _ stay live in
    let w = c.commit_logged in
    subst (λ (at : Station g.row.D.Denot). Ends at w.new.self) c.self.view_is
    (logged_same (λ e. e.0 ≡ c.args.run) l.new.self w.new.self c.args.run l.new.own w.new.own w.result w.ensures.ok w.ensures.err _ w.ensures.number
    l.ensures.number l.ensures.installed w.ensures.installed (met_pass _ _ _ _ _ _ both))

pub returns-in-Ok-None-clause-own : goal.returns-in-Ok-None-clause-own
returns-in-Ok-None-clause-own g c =
    let m = c.meet in
    let b = met_alike _ m.new.one _ m.new.two m.ensures.one m.ensures.fixed m.ensures.lawful m.ensures.two m.ensures.same in
    let stay =
    met_there {D = g.row.D.Denot} _ _ _ c.self.view_is c.self.invariant b.0 b.1 c.args.run.txn.session c.requires.own.1 m.new.one m.new.two
    m.ensures.one.same b.2 in
    let i = c.self.inside in
    let l = c.make_live in
    let at : Station g.row.D.Denot =
    record { number = i.number; installed = i.desk.store.installed; locks = i.desk.locks; live = i.desk.log.live; pass = m.new.two; disk = i.desk.log.disk } in
    let live = live_met at l.new.self m.new.one l.new.own c.run.view_is c.in-Ok-None.field-0 c.in-Ok-None.field-0-is c.in-Ok-None.ensures.ok in
    let both = met_met _ _ _ _ _ _ _ _ stay live in
    let w = c.commit_logged in
    went_twice c.args.own.now l.new.own w.new.own (met_own _ _ _ _ _ _ both)
    (logged_own (λ e. e.0 ≡ c.args.run) l.new.self w.new.self c.args.run l.new.own w.new.own w.result w.ensures.ok w.ensures.err)

pub returns-in-Ok-None-clause-ok : goal.returns-in-Ok-None-clause-ok
returns-in-Ok-None-clause-ok g c =
    let m = c.meet in
    let b = met_alike _ m.new.one _ m.new.two m.ensures.one m.ensures.fixed m.ensures.lawful m.ensures.two m.ensures.same in
    let stay =
    met_there {D = g.row.D.Denot} _ _ _ c.self.view_is c.self.invariant b.0 b.1 c.args.run.txn.session c.requires.own.1 m.new.one m.new.two
    m.ensures.one.same b.2 in
    let there : IsHere c.self.inside.number c.args.own.now c.args.run =
    subst (λ (at : Station g.row.D.Denot). IsHere at.number c.args.own.now c.args.run) (sym c.self.view_is) c.requires.here in
    let i = c.self.inside in
    let l = c.make_live in
    let at : Station g.row.D.Denot =
    record { number = i.number; installed = i.desk.store.installed; locks = i.desk.locks; live = i.desk.log.live; pass = m.new.two; disk = i.desk.log.disk } in
    let live = live_met at l.new.self m.new.one l.new.own c.run.view_is c.in-Ok-None.field-0 c.in-Ok-None.field-0-is c.in-Ok-None.ensures.ok in
    let both = met_met _ _ _ _ _ _ _ _ stay live in
    let w = c.commit_logged in
    logged_told l.new.self w.new.self c.args.run c.args.own.now i.pass l.new.own w.new.own (there.site_is ∙ sym l.ensures.number)
    (subst (λ (site : ℕ). Met (SiteActor site) (Session c.args.run.txn.session) c.args.own.now i.pass l.new.own l.new.self.pass) (sym l.ensures.number) both)
    w.result w.ensures.ok

pub returns-in-Ok-None-clause-down : goal.returns-in-Ok-None-clause-down
returns-in-Ok-None-clause-down g c =
    let l = c.make_live in
    let w = c.commit_logged in
    logged_down l.new.self w.new.self c.args.self.now.number c.args.run l.new.own w.new.own w.result
    (l.ensures.number ∙ ap (λ (at : Station g.row.D.Denot). at.number) c.self.view_is) w.ensures.ok

pub returns-in-Ok-None-clause-crash : goal.returns-in-Ok-None-clause-crash
returns-in-Ok-None-clause-crash g c =
    let m = c.meet in
    let b = met_alike _ m.new.one _ m.new.two m.ensures.one m.ensures.fixed m.ensures.lawful m.ensures.two m.ensures.same in
    let i = c.self.inside in
    let l = c.make_live in
    let at : Station g.row.D.Denot =
    record { number = i.number; installed = i.desk.store.installed; locks = i.desk.locks; live = i.desk.log.live; pass = m.new.two; disk = i.desk.log.disk } in
    let live = live_met at l.new.self m.new.one l.new.own c.run.view_is c.in-Ok-None.field-0 c.in-Ok-None.field-0-is c.in-Ok-None.ensures.ok in
    let w = c.commit_logged in
    let further = logged_pass (λ e. e.0 ≡ c.args.run) l.new.self w.new.self c.args.run l.new.own w.new.own w.result w.ensures.ok w.ensures.err in
    let s = c.self-in-Ok-None in
    crash_later {D = g.row.D.Denot} g.D.LogDisk.story _ _ c.self.view_is c.self.invariant refl b.1 m.new.two w.new.self.pass b.2 _ _ refl
    (went_twice m.new.two l.new.self.pass w.new.self.pass (met_pass _ _ _ _ _ _ live) further)
    (live_crash {D = g.row.D.Denot} i.number _ l.new.self s.view_is s.invariant l.ensures.number (Session c.args.run.txn.session) m.new.one l.new.own m.new.two
    w.new.self.pass live further _ _ _ l.ensures.crash w.ensures.crash)

pub returns-in-Ok-Some-clause-same : goal.returns-in-Ok-Some-clause-same
returns-in-Ok-Some-clause-same g c =
    let m = c.meet in
    let b = met_alike _ m.new.one _ m.new.two m.ensures.one m.ensures.fixed m.ensures.lawful m.ensures.two m.ensures.same in
    let stay =
    met_there {D = g.row.D.Denot} _ _ _ c.self.view_is c.self.invariant b.0 b.1 c.args.run.txn.session c.requires.own.1 m.new.one m.new.two
    m.ensures.one.same b.2 in
    let i = c.self.inside in
    let l = c.make_live in
    let at : Station g.row.D.Denot =
    record { number = i.number; installed = i.desk.store.installed; locks = i.desk.locks; live = i.desk.log.live; pass = m.new.two; disk = i.desk.log.disk } in
    let came =
    live_came at l.new.self m.new.one l.new.own c.run.view_is c.in-Ok-Some.field-0 c.in-Ok-Some.cause c.in-Ok-Some.field-0-is c.in-Ok-Some.ensures.ok in
    subst (λ (at : Station g.row.D.Denot). Ends at l.new.self) c.self.view_is
    (ends_alike _ l.new.self l.ensures.number l.ensures.installed
    (came_pass _ _ _ _ _ _ _ (met_came _ _ _ _ _ _ _ _ _ stay came)))

pub returns-in-Ok-Some-clause-own : goal.returns-in-Ok-Some-clause-own
returns-in-Ok-Some-clause-own g c =
    let m = c.meet in
    let b = met_alike _ m.new.one _ m.new.two m.ensures.one m.ensures.fixed m.ensures.lawful m.ensures.two m.ensures.same in
    let stay =
    met_there {D = g.row.D.Denot} _ _ _ c.self.view_is c.self.invariant b.0 b.1 c.args.run.txn.session c.requires.own.1 m.new.one m.new.two
    m.ensures.one.same b.2 in
    let i = c.self.inside in
    let l = c.make_live in
    let at : Station g.row.D.Denot =
    record { number = i.number; installed = i.desk.store.installed; locks = i.desk.locks; live = i.desk.log.live; pass = m.new.two; disk = i.desk.log.disk } in
    let came =
    live_came at l.new.self m.new.one l.new.own c.run.view_is c.in-Ok-Some.field-0 c.in-Ok-Some.cause c.in-Ok-Some.field-0-is c.in-Ok-Some.ensures.ok in
    came_own _ _ _ _ _ _ _ (met_came _ _ _ _ _ _ _ _ _ stay came)

pub returns-in-Ok-Some-clause-ok : goal.returns-in-Ok-Some-clause-ok
returns-in-Ok-Some-clause-ok g c =
    let m = c.meet in
    let b = met_alike _ m.new.one _ m.new.two m.ensures.one m.ensures.fixed m.ensures.lawful m.ensures.two m.ensures.same in
    let stay =
    met_there {D = g.row.D.Denot} _ _ _ c.self.view_is c.self.invariant b.0 b.1 c.args.run.txn.session c.requires.own.1 m.new.one m.new.two
    m.ensures.one.same b.2 in
    let there : IsHere c.self.inside.number c.args.own.now c.args.run =
    subst (λ (at : Station g.row.D.Denot). IsHere at.number c.args.own.now c.args.run) (sym c.self.view_is) c.requires.here in
    let i = c.self.inside in
    let l = c.make_live in
    let at : Station g.row.D.Denot =
    record { number = i.number; installed = i.desk.store.installed; locks = i.desk.locks; live = i.desk.log.live; pass = m.new.two; disk = i.desk.log.disk } in
    let came =
    live_came at l.new.self m.new.one l.new.own c.run.view_is c.in-Ok-Some.field-0 c.in-Ok-Some.cause c.in-Ok-Some.field-0-is c.in-Ok-Some.ensures.ok in
    failed_as i.number c.args.run c.args.own.now _ l.new.own _ c.in-Ok-Some.cause there.site_is (met_came _ _ _ _ _ _ _ _ _ stay came)

pub returns-in-Ok-Some-clause-crash : goal.returns-in-Ok-Some-clause-crash
returns-in-Ok-Some-clause-crash g c =
    let m = c.meet in
    let b = met_alike _ m.new.one _ m.new.two m.ensures.one m.ensures.fixed m.ensures.lawful m.ensures.two m.ensures.same in
    let i = c.self.inside in
    let l = c.make_live in
    let at : Station g.row.D.Denot =
    record { number = i.number; installed = i.desk.store.installed; locks = i.desk.locks; live = i.desk.log.live; pass = m.new.two; disk = i.desk.log.disk } in
    let came =
    live_came at l.new.self m.new.one l.new.own c.run.view_is c.in-Ok-Some.field-0 c.in-Ok-Some.cause c.in-Ok-Some.field-0-is c.in-Ok-Some.ensures.ok in
    crash_later {D = g.row.D.Denot} g.D.LogDisk.story _ _ c.self.view_is c.self.invariant refl b.1 m.new.two l.new.self.pass b.2 _ _ refl
    (came_pass _ _ _ _ _ _ _ came) l.ensures.crash

pub returns-in-Err-clause-same : goal.returns-in-Err-clause-same
returns-in-Err-clause-same g c =
    let m = c.meet in
    let b = met_alike _ m.new.one _ m.new.two m.ensures.one m.ensures.fixed m.ensures.lawful m.ensures.two m.ensures.same in
    let stay =
    met_there {D = g.row.D.Denot} _ _ _ c.self.view_is c.self.invariant b.0 b.1 c.args.run.txn.session c.requires.own.1 m.new.one m.new.two
    m.ensures.one.same b.2 in
    let l = c.make_live in
    subst (λ (at : Station g.row.D.Denot). Ends at l.new.self) c.self.view_is
    (ends_alike _ l.new.self l.ensures.number l.ensures.installed
    (went_twice _ m.new.two l.new.self.pass (met_pass _ _ _ _ _ _ stay) (met_pass _ _ _ _ _ _ c.in-Err.ensures.err.0)))

pub returns-in-Err-clause-crash : goal.returns-in-Err-clause-crash
returns-in-Err-clause-crash g c =
    let m = c.meet in
    let b = met_alike _ m.new.one _ m.new.two m.ensures.one m.ensures.fixed m.ensures.lawful m.ensures.two m.ensures.same in
    let l = c.make_live in
    crash_later {D = g.row.D.Denot} g.D.LogDisk.story _ _ c.self.view_is c.self.invariant refl b.1 m.new.two l.new.self.pass b.2 _ _ refl
    (met_pass _ _ _ _ _ _ c.in-Err.ensures.err.0) l.ensures.crash
