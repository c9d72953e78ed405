use Rattle.std.proofs.Common.{ap}
use Rattle.std.specs.Prelude.{Ok}
use Rattle.dm_event.specs.declared.NoMemory.{NoMemory}
use Rattle.dm_logdisk.specs.Story.{Both}
use Rattle.dm_redo.specs.declared.appending.Appended.{Appended}
use Rattle.dm_redo.specs.declared.appending.Appended.TheVariants.{Done}
use Rattle.dm_redo.specs.Appending.{Appends}
use Rattle.dm_logged.proofs.Twice.{stays, once, twice, twice_done, appends_as, in_ok}
use Rattle.dm_logged.proofs.calling.append_both.Goals as goal

pub returns-in_err-appended-clause-crash : goal.returns-in_err-appended-clause-crash
returns-in_err-appended-clause-crash g c = λ recs a b first second.
    stays recs a b c.args.log.now.gate c.args.first.now c.args.second.now first second (g.D.LogDisk.story c.args.log.now.disk)
    (g.D.LogDisk.story c.append.new.log.disk) c.in_err-appended.ensures.same

pub returns-in-Done-clause-crash : goal.returns-in-Done-clause-crash
returns-in-Done-clause-crash g c = λ recs a b first second.
    twice recs a b c.args.log.now.gate c.args.first.now c.args.second.now first second {E = NoMemory} c.append-in-Done.result c.append.new.log.gate
    (g.D.LogDisk.story c.args.log.now.disk) (g.D.LogDisk.story c.append.new.log.disk) (g.D.LogDisk.story c.append-in-Done.new.log.disk)
    (c.in_ok-appended.ensures.gate (ap Ok c.in-Done.is))
    (appends_as c.args.log.now.gate c.args.first.now c.in_ok-appended.appended Done _ _ c.in-Done.is c.in_ok-appended.ensures.story)
    c.append-in-Done.ensures.story c.append-in-Done.ensures.same

pub returns-in-Done-clause-done : goal.returns-in-Done-clause-done
returns-in-Done-clause-done g c = λ recs a b first second done.
    twice_done recs a b c.args.log.now.gate c.args.first.now c.args.second.now first second c.append.new.log.gate c.append-in-Done.new.log.gate
    (g.D.LogDisk.story c.args.log.now.disk) (g.D.LogDisk.story c.append.new.log.disk) (g.D.LogDisk.story c.append-in-Done.new.log.disk)
    (c.in_ok-appended.ensures.gate (ap Ok c.in-Done.is)) (c.append-in-Done.ensures.gate done)
    (appends_as c.args.log.now.gate c.args.first.now c.in_ok-appended.appended Done _ _ c.in-Done.is c.in_ok-appended.ensures.story)
    (in_ok (λ (x : Appended). Both (Appends c.append.new.log.gate c.args.second.now x) (g.D.LogDisk.story c.append.new.log.disk)
    (g.D.LogDisk.story c.append-in-Done.new.log.disk)) {E = NoMemory} c.append-in-Done.result Done done c.append-in-Done.ensures.story)

pub returns-in-Undone-clause-crash : goal.returns-in-Undone-clause-crash
returns-in-Undone-clause-crash g c = λ recs a b first second.
    once recs a b c.args.log.now.gate c.args.first.now c.args.second.now first second c.in_ok-appended.appended (g.D.LogDisk.story c.args.log.now.disk)
    (g.D.LogDisk.story c.append.new.log.disk) c.in_ok-appended.ensures.story

pub returns-in-Doubt-clause-crash : goal.returns-in-Doubt-clause-crash
returns-in-Doubt-clause-crash g c = λ recs a b first second.
    once recs a b c.args.log.now.gate c.args.first.now c.args.second.now first second c.in_ok-appended.appended (g.D.LogDisk.story c.args.log.now.disk)
    (g.D.LogDisk.story c.append.new.log.disk) c.in_ok-appended.ensures.story
