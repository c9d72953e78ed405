use Rattle.std.proofs.Common.{◌≡◌, ◌++◌, [], ◌∷◌, List, Some, None, refl, sym, ap, ◌∙◌, subst}
use Rattle.std.specs.Prelude.{reverse, IfSome, IsSomeAnd}
use mathlib.Core.List.{IsPrefix}
use Rattle.dm_chronicle.proofs.Lists.{prefix_refl}
use Rattle.dm_chronicle.specs.Standing.{standing}
use Rattle.dm_event.specs.declared.step.Step.TheVariants.{Refresh}
use Rattle.dm_model.specs.Allowed.{next_entry, next_refresh}
use Rattle.dm_site.proofs.Catching.{
  turned_same,
  turn_stores,
  still_site,
  still_went,
  still_rested,
  told_down,
  told_nothing,
  due_there,
  due_follows,
  came_site,
  came_more,
  came_went,
  came_did,
  refreshes,
}
use Rattle.dm_invariant.proofs.Passing.{given_back}
use Rattle.dm_site.specs.Answers.{SiteRested, SiteDid, IsDownIn, IsUpIn}
use Rattle.dm_invariant.specs.Keeping.{parts_of}
use Rattle.dm_invariant.specs.Stations.{Station, View, layout_of}
use Rattle.dm_store.specs.Histories.{past_of}
use Rattle.dm_store.specs.Known.{AreKnown}
use Rattle.dm_store.specs.declared.past.Past.{Past}
use Rattle.dm_site.proofs.site.Site.refresh_one.Goals as goal

pub invariant_of-self : goal.invariant_of-self
invariant_of-self g c =
    let i = c.self.inside in let t = c.enter_alone-turn in let table = g.N.Named.table in let opened = g.N.Named.faults in let turn = t.result.seen in
    let parts = parts_of g.D.LogDisk.story g.D.LogDisk.faults i.desk.store i.desk.locks i.desk.log in
    let back = given_back i.pass t.new.own c.leave.new.own t.result.actors turn t.ensures.own t.ensures.actors c.leave.ensures.own in
    still_site table opened i.number i.pass parts c.self.invariant turn t.result.fixed t.ensures.turned c.leave.new.own back i.desk.store refl refl

pub returns-then-is_down-clause-same : goal.returns-then-is_down-clause-same
returns-then-is_down-clause-same g c =
    let i = c.self.inside in let t = c.enter_alone-turn in let table = g.N.Named.table in let opened = g.N.Named.faults in let turn = t.result.seen in
    let parts = parts_of g.D.LogDisk.story g.D.LogDisk.faults i.desk.store i.desk.locks i.desk.log in
    let back = given_back i.pass t.new.own c.leave.new.own t.result.actors turn t.ensures.own t.ensures.actors c.leave.ensures.own in
    let inside : Station g.row.D.Denot = record {
      number = i.number;
      installed = i.desk.store.installed;
      locks = i.desk.locks;
      live = i.desk.log.live;
      pass = i.pass;
      disk = i.desk.log.disk;
    } in
    refreshes inside c.args.self.now i.desk.store.installed c.leave.new.own c.self.view_is (prefix_refl i.desk.store.installed)
    (still_went table opened i.number i.pass parts c.self.invariant turn t.result.fixed t.ensures.turned c.leave.new.own back)

pub returns-then-is_down-clause-ok : goal.returns-then-is_down-clause-ok
returns-then-is_down-clause-ok g c =
    let i = c.self.inside in let t = c.enter_alone-turn in let table = g.N.Named.table in let opened = g.N.Named.faults in let turn = t.result.seen in
    let parts = parts_of g.D.LogDisk.story g.D.LogDisk.faults i.desk.store i.desk.locks i.desk.log in
    let back = given_back i.pass t.new.own c.leave.new.own t.result.actors turn t.ensures.own t.ensures.actors c.leave.ensures.own in
    subst (λ (was : Station g.row.D.Denot). SiteRested was.number was.pass c.leave.new.own × IsDownIn c.leave.new.own was.number) c.self.view_is
    (told_down table opened i.number i.pass parts c.self.invariant turn t.result.fixed t.ensures.turned c.leave.new.own back c.if-is_down.ensures)

pub invariant_of-self-in_default : goal.invariant_of-self-in_default
invariant_of-self-in_default g c =
    let i = c.self.inside in let t = c.enter_alone-turn in let table = g.N.Named.table in let opened = g.N.Named.faults in let turn = t.result.seen in
    let parts = parts_of g.D.LogDisk.story g.D.LogDisk.faults i.desk.store i.desk.locks i.desk.log in
    let back = given_back i.pass t.new.own c.leave-in_default.new.own t.result.actors turn t.ensures.own t.ensures.actors c.leave-in_default.ensures.own in
    still_site table opened i.number i.pass parts c.self.invariant turn t.result.fixed t.ensures.turned c.leave-in_default.new.own back i.desk.store refl refl

pub returns-in_default-clause-same : goal.returns-in_default-clause-same
returns-in_default-clause-same g c =
    let i = c.self.inside in let t = c.enter_alone-turn in let table = g.N.Named.table in let opened = g.N.Named.faults in let turn = t.result.seen in
    let parts = parts_of g.D.LogDisk.story g.D.LogDisk.faults i.desk.store i.desk.locks i.desk.log in
    let back = given_back i.pass t.new.own c.leave-in_default.new.own t.result.actors turn t.ensures.own t.ensures.actors c.leave-in_default.ensures.own in
    let inside : Station g.row.D.Denot = record {
      number = i.number;
      installed = i.desk.store.installed;
      locks = i.desk.locks;
      live = i.desk.log.live;
      pass = i.pass;
      disk = i.desk.log.disk;
    } in
    refreshes inside c.args.self.now i.desk.store.installed c.leave-in_default.new.own c.self.view_is (prefix_refl i.desk.store.installed)
    (still_went table opened i.number i.pass parts c.self.invariant turn t.result.fixed t.ensures.turned c.leave-in_default.new.own back)

pub returns-in_default-clause-ok : goal.returns-in_default-clause-ok
returns-in_default-clause-ok g c =
    let i = c.self.inside in let t = c.enter_alone-turn in let table = g.N.Named.table in let opened = g.N.Named.faults in let turn = t.result.seen in
    let parts = parts_of g.D.LogDisk.story g.D.LogDisk.faults i.desk.store i.desk.locks i.desk.log in
    let back = given_back i.pass t.new.own c.leave-in_default.new.own t.result.actors turn t.ensures.own t.ensures.actors c.leave-in_default.ensures.own in
    subst (λ (was : Station g.row.D.Denot). SiteRested was.number was.pass c.leave-in_default.new.own × IsUpIn c.leave-in_default.new.own was.number
    × (next_refresh (layout_of c.leave-in_default.new.own) (reverse c.leave-in_default.new.own.seen) was.number ≡ None)) c.self.view_is
    (told_nothing table opened i.number i.pass parts c.self.invariant
    turn t.result.fixed t.ensures.turned c.leave-in_default.new.own back c.if-is_down.ensures c.in_default.ensures)

pub make_room-requires : goal.make_room-requires
make_room-requires g c =
    let i = c.self.inside in let t = c.enter_alone-turn in let table = g.N.Named.table in let opened = g.N.Named.faults in let turn = t.result.seen in
    let parts = parts_of g.D.LogDisk.story g.D.LogDisk.faults i.desk.store i.desk.locks i.desk.log in
    due_there table opened i.number i.pass parts c.self.invariant turn t.result.fixed t.ensures.turned c.in-Some.origin c.in-Some.ensures

pub invariant_of-self-in-Err : goal.invariant_of-self-in-Err
invariant_of-self-in-Err g c =
    let i = c.self.inside in let t = c.enter_alone-turn in let m = c.make_room in let table = g.N.Named.table in let opened = g.N.Named.faults in
    let turn = m.new.turn.seen in let parts = parts_of g.D.LogDisk.story g.D.LogDisk.faults i.desk.store i.desk.locks i.desk.log in
    let turned = turned_same i.pass (standing t.result) (standing m.new.turn) m.ensures.turn t.ensures.turned in
    let back = given_back i.pass t.new.own c.leave-in-Err.new.own m.new.turn.actors turn t.ensures.own
    (ap (λ (v : View). v.actors) m.ensures.turn ∙ t.ensures.actors) c.leave-in-Err.ensures.own in
    still_site table opened i.number i.pass parts c.self.invariant
    turn m.new.turn.fixed turned c.leave-in-Err.new.own back m.new.store m.ensures.layout m.ensures.installed

pub returns-in-Err-clause-same : goal.returns-in-Err-clause-same
returns-in-Err-clause-same g c =
    let i = c.self.inside in let t = c.enter_alone-turn in let m = c.make_room in let table = g.N.Named.table in let opened = g.N.Named.faults in
    let turn = m.new.turn.seen in let parts = parts_of g.D.LogDisk.story g.D.LogDisk.faults i.desk.store i.desk.locks i.desk.log in
    let turned = turned_same i.pass (standing t.result) (standing m.new.turn) m.ensures.turn t.ensures.turned in
    let back = given_back i.pass t.new.own c.leave-in-Err.new.own m.new.turn.actors turn t.ensures.own
    (ap (λ (v : View). v.actors) m.ensures.turn ∙ t.ensures.actors) c.leave-in-Err.ensures.own in
    let inside : Station g.row.D.Denot = record {
      number = i.number;
      installed = i.desk.store.installed;
      locks = i.desk.locks;
      live = i.desk.log.live;
      pass = i.pass;
      disk = i.desk.log.disk;
    } in
    refreshes inside c.args.self.now m.new.store.installed c.leave-in-Err.new.own c.self.view_is
    (subst (λ (installed : List Past). IsPrefix i.desk.store.installed installed) (sym m.ensures.installed) (prefix_refl i.desk.store.installed))
    (still_went table opened i.number i.pass parts c.self.invariant turn m.new.turn.fixed turned c.leave-in-Err.new.own back)

pub returns-in-Err-clause-err : goal.returns-in-Err-clause-err
returns-in-Err-clause-err g c =
    let i = c.self.inside in let t = c.enter_alone-turn in let m = c.make_room in let table = g.N.Named.table in let opened = g.N.Named.faults in
    let turn = m.new.turn.seen in let parts = parts_of g.D.LogDisk.story g.D.LogDisk.faults i.desk.store i.desk.locks i.desk.log in
    let turned = turned_same i.pass (standing t.result) (standing m.new.turn) m.ensures.turn t.ensures.turned in
    let back = given_back i.pass t.new.own c.leave-in-Err.new.own m.new.turn.actors turn t.ensures.own
    (ap (λ (v : View). v.actors) m.ensures.turn ∙ t.ensures.actors) c.leave-in-Err.ensures.own in
    subst (λ (was : Station g.row.D.Denot). SiteRested was.number was.pass c.leave-in-Err.new.own) c.self.view_is
    (still_rested table opened i.number i.pass parts c.self.invariant turn m.new.turn.fixed turned c.leave-in-Err.new.own back)

pub take_over-requires-clause-follows : goal.take_over-requires-clause-follows
take_over-requires-clause-follows g c =
    let i = c.self.inside in let t = c.enter_alone-turn in let m = c.make_room in let table = g.N.Named.table in let opened = g.N.Named.faults in
    let turn = m.new.turn.seen in let parts = parts_of g.D.LogDisk.story g.D.LogDisk.faults i.desk.store i.desk.locks i.desk.log in
    let turned = turned_same i.pass (standing t.result) (standing m.new.turn) m.ensures.turn t.ensures.turned in
    let due = subst (λ (v : View). Some c.in-Some.origin ≡ next_refresh (layout_of v) (reverse v.seen) i.number) (sym m.ensures.turn) c.in-Some.ensures in
    due_follows table opened i.number i.pass parts c.self.invariant turn m.new.turn.fixed turned c.in-Some.origin due

pub take_over-requires-clause-stores : goal.take_over-requires-clause-stores
take_over-requires-clause-stores g c =
    let i = c.self.inside in let t = c.enter_alone-turn in let m = c.make_room in let table = g.N.Named.table in let opened = g.N.Named.faults in
    let turn = m.new.turn.seen in let parts = parts_of g.D.LogDisk.story g.D.LogDisk.faults i.desk.store i.desk.locks i.desk.log in
    let turned = turned_same i.pass (standing t.result) (standing m.new.turn) m.ensures.turn t.ensures.turned in
    turn_stores table opened i.number i.pass parts c.self.invariant turn m.new.turn.fixed turned m.new.store.installed m.ensures.installed

pub take_over-requires-clause-known : goal.take_over-requires-clause-known
take_over-requires-clause-known g c =
    let i = c.self.inside in let m = c.make_room in
    subst (λ (v : View). IfSome (next_entry (layout_of v) (reverse v.seen) i.number c.in-Some.origin) (λ e. AreKnown m.new.store.known e.writes))
    (sym m.ensures.turn)
    c.in_default-make_room.ensures.known

pub push_alone-requires-clause-follows : goal.push_alone-requires-clause-follows
push_alone-requires-clause-follows g c =
    let i = c.self.inside in let t = c.enter_alone-turn in let m = c.make_room in let table = g.N.Named.table in let opened = g.N.Named.faults in
    let turn = m.new.turn.seen in let parts = parts_of g.D.LogDisk.story g.D.LogDisk.faults i.desk.store i.desk.locks i.desk.log in
    let turned = turned_same i.pass (standing t.result) (standing m.new.turn) m.ensures.turn t.ensures.turned in
    let due = subst (λ (v : View). Some c.in-Some.origin ≡ next_refresh (layout_of v) (reverse v.seen) i.number) (sym m.ensures.turn) c.in-Some.ensures in
    due_follows table opened i.number i.pass parts c.self.invariant turn m.new.turn.fixed turned c.in-Some.origin due

pub push_alone-requires-clause-room : goal.push_alone-requires-clause-room
push_alone-requires-clause-room g c =
    let i = c.self.inside in let t = c.enter_alone-turn in let table = g.N.Named.table in let opened = g.N.Named.faults in let turn = t.result.seen in
    let parts = parts_of g.D.LogDisk.story g.D.LogDisk.faults i.desk.store i.desk.locks i.desk.log in
    c.in_default-make_room.ensures.room (due_follows table opened i.number i.pass parts c.self.invariant
    turn t.result.fixed t.ensures.turned c.in-Some.origin c.in-Some.ensures)

pub invariant_of-self-2 : goal.invariant_of-self-2
invariant_of-self-2 g c =
    let i = c.self.inside in let t = c.enter_alone-turn in let m = c.make_room in let table = g.N.Named.table in let opened = g.N.Named.faults in
    let turn = m.new.turn.seen in let parts = parts_of g.D.LogDisk.story g.D.LogDisk.faults i.desk.store i.desk.locks i.desk.log in
    let turned = turned_same i.pass (standing t.result) (standing m.new.turn) m.ensures.turn t.ensures.turned in
    let due = subst (λ (v : View). Some c.in-Some.origin ≡ next_refresh (layout_of v) (reverse v.seen) i.number) (sym m.ensures.turn) c.in-Some.ensures in
    let back = given_back i.pass t.new.own c.push_alone.new.own m.new.turn.actors (turn ++ Refresh i.number c.in-Some.origin ∷ []) t.ensures.own
    (ap (λ (v : View). v.actors) m.ensures.turn ∙ t.ensures.actors) c.push_alone.ensures.own in
    let installed = subst (λ (before : List Past). IsSomeAnd (next_entry (layout_of (standing m.new.turn)) (reverse turn) i.number c.in-Some.origin)
    (λ entry. c.take_over.new.store.installed ≡ before ++ past_of entry ∷ [])) m.ensures.installed c.take_over.ensures.installed in
    came_site table opened i.number i.pass parts c.self.invariant
    turn m.new.turn.fixed turned c.in-Some.origin due c.take_over.new.store c.push_alone.new.own back installed
    (c.take_over.ensures.layout ∙ m.ensures.layout)

pub returns-clause-same : goal.returns-clause-same
returns-clause-same g c =
    let i = c.self.inside in let t = c.enter_alone-turn in let m = c.make_room in let table = g.N.Named.table in let opened = g.N.Named.faults in
    let turn = m.new.turn.seen in let parts = parts_of g.D.LogDisk.story g.D.LogDisk.faults i.desk.store i.desk.locks i.desk.log in
    let turned = turned_same i.pass (standing t.result) (standing m.new.turn) m.ensures.turn t.ensures.turned in
    let due = subst (λ (v : View). Some c.in-Some.origin ≡ next_refresh (layout_of v) (reverse v.seen) i.number) (sym m.ensures.turn) c.in-Some.ensures in
    let back = given_back i.pass t.new.own c.push_alone.new.own m.new.turn.actors (turn ++ Refresh i.number c.in-Some.origin ∷ []) t.ensures.own
    (ap (λ (v : View). v.actors) m.ensures.turn ∙ t.ensures.actors) c.push_alone.ensures.own in
    let installed = subst (λ (before : List Past). IsSomeAnd (next_entry (layout_of (standing m.new.turn)) (reverse turn) i.number c.in-Some.origin)
    (λ entry. c.take_over.new.store.installed ≡ before ++ past_of entry ∷ [])) m.ensures.installed c.take_over.ensures.installed in
    let inside : Station g.row.D.Denot = record {
      number = i.number;
      installed = i.desk.store.installed;
      locks = i.desk.locks;
      live = i.desk.log.live;
      pass = i.pass;
      disk = i.desk.log.disk;
    } in
    refreshes inside c.args.self.now c.take_over.new.store.installed c.push_alone.new.own c.self.view_is
    (came_more table opened i.number i.pass parts c.self.invariant
    turn m.new.turn.fixed turned c.in-Some.origin due c.take_over.new.store c.push_alone.new.own back installed)
    (came_went table opened i.number i.pass parts c.self.invariant
    turn m.new.turn.fixed turned c.in-Some.origin due c.take_over.new.store c.push_alone.new.own back installed)

pub returns-clause-ok : goal.returns-clause-ok
returns-clause-ok g c =
    let i = c.self.inside in let t = c.enter_alone-turn in let m = c.make_room in let table = g.N.Named.table in let opened = g.N.Named.faults in
    let turn = m.new.turn.seen in let parts = parts_of g.D.LogDisk.story g.D.LogDisk.faults i.desk.store i.desk.locks i.desk.log in
    let turned = turned_same i.pass (standing t.result) (standing m.new.turn) m.ensures.turn t.ensures.turned in
    let due = subst (λ (v : View). Some c.in-Some.origin ≡ next_refresh (layout_of v) (reverse v.seen) i.number) (sym m.ensures.turn) c.in-Some.ensures in
    let back = given_back i.pass t.new.own c.push_alone.new.own m.new.turn.actors (turn ++ Refresh i.number c.in-Some.origin ∷ []) t.ensures.own
    (ap (λ (v : View). v.actors) m.ensures.turn ∙ t.ensures.actors) c.push_alone.ensures.own in
    let installed = subst (λ (before : List Past). IsSomeAnd (next_entry (layout_of (standing m.new.turn)) (reverse turn) i.number c.in-Some.origin)
    (λ entry. c.take_over.new.store.installed ≡ before ++ past_of entry ∷ [])) m.ensures.installed c.take_over.ensures.installed in
    subst (λ (was : Station g.row.D.Denot). SiteDid was.number was.pass c.push_alone.new.own (Refresh was.number c.in-Some.origin)) c.self.view_is
    (came_did table opened i.number i.pass parts c.self.invariant
    turn m.new.turn.fixed turned c.in-Some.origin due c.take_over.new.store c.push_alone.new.own back installed)
