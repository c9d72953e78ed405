use Rattle.std.proofs.Common.{◌≡◌, ◌≤◌, ◌+◌, ℕ, [], ◌∷◌, true, length, ap, subst, sym, ◌∙◌, arith, vec_len}
use Rattle.dm_chronicle.specs.Standing.{starts}
use Rattle.dm_event.specs.Layout.{is_site}
use Rattle.dm_event.specs.Vectors.{at}
use Rattle.dm_event.specs.declared.actor.Actor.TheVariants.{Site}
use Rattle.dm_invariant.specs.Stations.{Station, View, layout_of}
use Rattle.dm_opening.proofs.Building.{its_faults, its_log, made_more, next_site, none_made, pass_left, there}
use Rattle.dm_opening.specs.Dealing.{sites_from}
use Rattle.dm_opening.proofs.making.make.Goals as goal

pub loop-log-init : goal.loop-log-init
loop-log-init g c =
    let long : vec_len c.args.logs ≡ length c.args.logs.items = c.args.logs.ok.0 in let cap = c.args.logs.ok.1 in
    let room = c.in-Ok.ensures.capacity in let n = c.len.ensures in
    let sites : c.args.schema.now.sites ≡ length c.args.logs.items = sym c.requires.count ∙ long in (
      none_made g.D.LogDisk.story g.D.LogDisk.faults c.args.chron.now.table c.args.chron.now.fixed c.args.logs.items c.args.passes.items c.in-Ok.sites.items
          (subst (λ (n : ℕ). c.args.passes.items ≡ starts c.args.chron.now.table c.args.chron.now.fixed [] (sites_from 1 n)) sites c.requires.dealt)
          c.in-Ok.ensures.items,
      omega (arith, long, cap),
      omega (arith, long, room, n),
    )

pub unreachable-requires : goal.unreachable-requires
unreachable-requires g c =
    let l = c.loop-log in
    pass_left g.D.LogDisk.story g.D.LogDisk.faults c.args.chron.now.table c.args.chron.now.fixed c.args.logs.items l.logs.items c.pop.new.self.items
    c.in-Some.log l.passes.items l.sites.items l.invariant.0 c.in-Some.ensures.items (sym l.passes.ok.0 ∙ c.in_default-pop-2.ensures.cases.0)

pub new-requires-clause-table : goal.new-requires-clause-table
new-requires-clause-table g c =
    let l = c.loop-log in
    ap (λ (v : View). v.table) (next_site g.D.LogDisk.story g.D.LogDisk.faults c.args.chron.now.table c.args.chron.now.fixed c.args.logs.items l.logs.items c.pop.new.self.items c.in-Some.log l.passes.items c.pop-in-Some.new.self.items c.in-Some-pop.pass l.sites.items l.invariant.0 c.in-Some.ensures.items c.in-Some-pop.ensures.items).1 ∙ c.requires.chron

pub new-requires-clause-actors : goal.new-requires-clause-actors
new-requires-clause-actors g c =
    let l = c.loop-log in
    ap (λ (v : View). v.actors) (next_site g.D.LogDisk.story g.D.LogDisk.faults c.args.chron.now.table c.args.chron.now.fixed c.args.logs.items l.logs.items c.pop.new.self.items c.in-Some.log l.passes.items c.pop-in-Some.new.self.items c.in-Some-pop.pass l.sites.items l.invariant.0 c.in-Some.ensures.items c.in-Some-pop.ensures.items).1 ∙ ap (λ (n : ℕ). Site (n + 1) ∷ []) (sym (c.len-in-Some.ensures ∙ c.pop.new.self.ok.0))

pub new-requires-clause-opening : goal.new-requires-clause-opening
new-requires-clause-opening g c =
    let l = c.loop-log in
    ap (λ (v : View). v.seen) (next_site g.D.LogDisk.story g.D.LogDisk.faults c.args.chron.now.table c.args.chron.now.fixed c.args.logs.items l.logs.items c.pop.new.self.items c.in-Some.log l.passes.items c.pop-in-Some.new.self.items c.in-Some-pop.pass l.sites.items l.invariant.0 c.in-Some.ensures.items c.in-Some-pop.ensures.items).1

pub new-requires-clause-schema : goal.new-requires-clause-schema
new-requires-clause-schema g c =
    let l = c.loop-log in
    ap (λ (v : View). layout_of v) (next_site g.D.LogDisk.story g.D.LogDisk.faults c.args.chron.now.table c.args.chron.now.fixed c.args.logs.items l.logs.items c.pop.new.self.items c.in-Some.log l.passes.items c.pop-in-Some.new.self.items c.in-Some-pop.pass l.sites.items l.invariant.0 c.in-Some.ensures.items c.in-Some-pop.ensures.items).1 ∙ c.requires.schema

pub new-requires-clause-there : goal.new-requires-clause-there
new-requires-clause-there g c =
    let l = c.loop-log in
    subst (λ (n : ℕ). is_site c.args.schema.now (n + 1) ≡ true) (sym (c.len-in-Some.ensures ∙ c.pop.new.self.ok.0)) (there g.D.LogDisk.story g.D.LogDisk.faults c.args.chron.now.table c.args.chron.now.fixed c.args.logs.items l.logs.items c.pop.new.self.items c.in-Some.log l.passes.items c.pop-in-Some.new.self.items c.in-Some-pop.pass l.sites.items l.invariant.0 c.in-Some.ensures.items c.in-Some-pop.ensures.items c.args.schema.now (sym c.args.logs.ok.0 ∙ c.requires.count))

pub new-requires-clause-live : goal.new-requires-clause-live
new-requires-clause-live g c =
    let l = c.loop-log in
    (its_log g.D.LogDisk.story g.D.LogDisk.faults c.args.chron.now.table c.args.chron.now.fixed c.args.logs.items l.logs.items c.pop.new.self.items c.in-Some.log l.passes.items c.pop-in-Some.new.self.items c.in-Some-pop.pass l.sites.items l.invariant.0 c.in-Some.ensures.items c.in-Some-pop.ensures.items c.requires.empty).0

pub new-requires-clause-empty : goal.new-requires-clause-empty
new-requires-clause-empty g c =
    let l = c.loop-log in
    (its_log g.D.LogDisk.story g.D.LogDisk.faults c.args.chron.now.table c.args.chron.now.fixed c.args.logs.items l.logs.items c.pop.new.self.items c.in-Some.log l.passes.items c.pop-in-Some.new.self.items c.in-Some-pop.pass l.sites.items l.invariant.0 c.in-Some.ensures.items c.in-Some-pop.ensures.items c.requires.empty).1

pub new-requires-clause-faults : goal.new-requires-clause-faults
new-requires-clause-faults g c =
    let l = c.loop-log in
    subst (λ (n : ℕ). at g.N.Named.faults (n + 1) ≤ g.D.LogDisk.faults c.in-Some.log.disk) (sym (c.len-in-Some.ensures ∙ c.pop.new.self.ok.0))
    (its_faults g.D.LogDisk.story g.D.LogDisk.faults c.args.chron.now.table c.args.chron.now.fixed c.args.logs.items l.logs.items c.pop.new.self.items c.in-Some.log l.passes.items c.pop-in-Some.new.self.items c.in-Some-pop.pass l.sites.items l.invariant.0 c.in-Some.ensures.items c.in-Some-pop.ensures.items g.N.Named.faults c.requires.faults)

pub loop-log-preserved : goal.loop-log-preserved
loop-log-preserved g c =
    let l = c.loop-log in let s = c.in-Ok-new.ensures.ok in let r = c.push_reserved.ensures.capacity in let q = c.in-Some.ensures.capacity in
    let a = l.invariant.1 in let b = l.invariant.2 in (
      made_more g.D.LogDisk.story g.D.LogDisk.faults c.args.chron.now.table c.args.chron.now.fixed c.args.logs.items l.logs.items c.pop.new.self.items c.in-Some.log l.passes.items c.pop-in-Some.new.self.items c.in-Some-pop.pass l.sites.items l.invariant.0 c.in-Some.ensures.items c.in-Some-pop.ensures.items c.in-Ok-new.site c.push_reserved.new.self.items c.push_reserved.ensures.items
          (ap (λ (x : Station _). x.number) s ∙ ap (λ (n : ℕ). n + 1) (c.len-in-Some.ensures ∙ c.pop.new.self.ok.0)) (ap (λ (x : Station _). x.disk) s),
      omega (arith, a, q),
      omega (arith, b, r),
    )
