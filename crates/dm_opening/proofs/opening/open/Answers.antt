use Rattle.std.proofs.Common.{List, ap, subst, ◌∙◌}
use Rattle.dm_core.specs.Lawful.{Terms}
use Rattle.dm_opening.proofs.Parting.{opened_faults, parts_dealt}
use Rattle.dm_opening.specs.Dealing.{ids_from}
use Rattle.dm_opening.specs.Opening.{AreNew, Opening}
use Rattle.dm_opening.proofs.opening.open.Goals as goal

pub new-requires : goal.new-requires
new-requires g c =
    let i = c.start.inside in
    record {
      passes = parts_dealt i.dealt.chron.table g.N.Named.table i.dealt.chron.fixed i.schema i.dealt.parts.items
          (ap (λ (o : Opening g.row.D.Denot). o.table) c.start.view_is ∙ c.requires.table) c.start.invariant.0 i.dealt.parts_are;
    }

pub make-requires-clause-faults : goal.make-requires-clause-faults
make-requires-clause-faults g c =
    opened_faults g.D.LogDisk.faults g.N.Named.faults c.start.inside.logs.items c.args.start.disks c.requires.faults
    (ap (λ (o : Opening g.row.D.Denot). o.disks) c.start.view_is)

pub returns-clause-schema : goal.returns-clause-schema
returns-clause-schema g c = c.start.invariant.0 ∙ ap (λ (o : Opening g.row.D.Denot). o.terms.layout) c.start.view_is

pub returns-clause-sessions : goal.returns-clause-sessions
returns-clause-sessions g c =
    subst (λ (t : Terms). AreNew g.N.Named.table t (ids_from 1 t.items) c.in-Ok-open_all.sessions.items)
    (ap (λ (o : Opening g.row.D.Denot). o.terms) c.start.view_is)
    (subst (λ (ids : List _). AreNew g.N.Named.table c.start.inside.dealt.chron.fixed ids c.in-Ok-open_all.sessions.items) c.start.inside.dealt.ids_are
    c.in-Ok-open_all.ensures)
