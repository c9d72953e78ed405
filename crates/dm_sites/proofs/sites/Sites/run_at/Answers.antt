use Rattle.std.proofs.Common.{refl, sym, subst, [], Some}
use Rattle.dm_answers.specs.declared.item.Item.TheVariants.{Txn as TxnItem}
use Rattle.dm_event.specs.declared.step.Want.TheVariants.{Txn}
use Rattle.dm_invariant.proofs.Passing.{went_twice}
use Rattle.dm_invariant.specs.Running.{Going}
use Rattle.dm_site.specs.Answers.{GaveUp}
use Rattle.dm_sites.proofs.Closing.{as_run, came_closed, came_gave_up, came_moved, came_stopped, there_in}
use Rattle.dm_sites.proofs.Going.{begun_here}
use Rattle.dm_sites.specs.Stages.{StartedAs}
use Rattle.dm_sites.specs.Telling.{CameAs}
use Rattle.dm_sites.specs.declared.running.Started.{Started}
use Rattle.dm_sites.specs.declared.told.Came.{Came}
use Rattle.dm_sites.proofs.sites.Sites.run_at.Goals as goal

pub end_at-requires-clause-here : goal.end_at-requires-clause-here
end_at-requires-clause-here g c =
    let s = subst (λ (x : Started). StartedAs c.args.to c.args.txn c.args.body.now.declared c.args.min.now c.args.own.now c.begin_at.new.own x)
    c.in-Ok-Begun.field-0-is c.in-Ok-Begun.ensures.started in
    begun_here c.args.to c.args.txn c.args.body.now.declared c.args.min.now c.args.own.now c.begin_at.new.own c.in-Ok-Begun.run' s

pub returns-in-Answered-clause-came : goal.returns-in-Answered-clause-came
returns-in-Answered-clause-came g c =
    let old = c.args.own.now in
    let mid = c.begin_at.new.own in
    let new = c.end_at.new.own in
    let w = went_twice old mid new c.begin_at.ensures.went c.end_at.ensures.went in
    let there = there_in old new c.args.self.now.schema c.args.to c.requires.schema w c.begin_at.ensures.there in
    let s = subst (λ (x : Started). StartedAs c.args.to c.args.txn c.args.body.now.declared c.args.min.now c.args.own.now c.begin_at.new.own x)
    c.in-Ok-Begun.field-0-is c.in-Ok-Begun.ensures.started in
    let h = as_run c.in-Ok-Begun.run' c.args.txn c.args.to c.args.body.now.declared c.args.body.now.ops c.as_slice.result.now mid mid new c.in-Answered.answer
    s.1 c.as_slice.ensures c.in-Answered.ensures.closed in
    let r = came_closed c.args.body.now c.requires.fits.all_declared c.args.txn c.args.to c.args.min.now old new w there mid mid c.in-Ok-Begun.run'.begin
    s.0 refl s.2 c.args.body.now.declared mid c.in-Answered.answer h in
    subst (λ (x : Came). CameAs c.args.txn.session c.args.txn.number (TxnItem c.args.body.now) c.args.min.now (Some c.args.txn) old new x) (sym c.came_of.ensures)
    r.0

pub returns-in-Answered-clause-between : goal.returns-in-Answered-clause-between
returns-in-Answered-clause-between g c =
    let old = c.args.own.now in
    let mid = c.begin_at.new.own in
    let new = c.end_at.new.own in
    let w = went_twice old mid new c.begin_at.ensures.went c.end_at.ensures.went in
    let there = there_in old new c.args.self.now.schema c.args.to c.requires.schema w c.begin_at.ensures.there in
    let s = subst (λ (x : Started). StartedAs c.args.to c.args.txn c.args.body.now.declared c.args.min.now c.args.own.now c.begin_at.new.own x)
    c.in-Ok-Begun.field-0-is c.in-Ok-Begun.ensures.started in
    let h = as_run c.in-Ok-Begun.run' c.args.txn c.args.to c.args.body.now.declared c.args.body.now.ops c.as_slice.result.now mid mid new c.in-Answered.answer
    s.1 c.as_slice.ensures c.in-Answered.ensures.closed in
    let r = came_closed c.args.body.now c.requires.fits.all_declared c.args.txn c.args.to c.args.min.now old new w there mid mid c.in-Ok-Begun.run'.begin
    s.0 refl s.2 c.args.body.now.declared mid c.in-Answered.answer h in
    r.1

pub returns-in-GaveUp-clause-came : goal.returns-in-GaveUp-clause-came
returns-in-GaveUp-clause-came g c =
    let old = c.args.own.now in
    let mid = c.begin_at.new.own in
    let new = c.end_at.new.own in
    let w = went_twice old mid new c.begin_at.ensures.went c.end_at.ensures.went in
    let there = there_in old new c.args.self.now.schema c.args.to c.requires.schema w c.begin_at.ensures.there in
    let s = subst (λ (x : Started). StartedAs c.args.to c.args.txn c.args.body.now.declared c.args.min.now c.args.own.now c.begin_at.new.own x)
    c.in-Ok-Begun.field-0-is c.in-Ok-Begun.ensures.started in
    let h = subst (λ (x : Going). GaveUp x mid new) s.1 c.in-GaveUp.ensures.closed in
    let r = came_gave_up c.args.body.now c.requires.fits.all_declared c.args.txn c.args.to c.args.min.now old new w there mid mid c.in-Ok-Begun.run'.begin
    s.0 refl s.2 c.args.body.now.declared mid [] h in
    subst (λ (x : Came). CameAs c.args.txn.session c.args.txn.number (TxnItem c.args.body.now) c.args.min.now (Some c.args.txn) old new x) (sym c.refused.ensures)
    r.0

pub returns-in-Ok-Moved-clause-came : goal.returns-in-Ok-Moved-clause-came
returns-in-Ok-Moved-clause-came g c =
    let old = c.args.own.now in
    let mid = c.begin_at.new.own in
    let w = c.begin_at.ensures.went in
    let there = there_in old mid c.args.self.now.schema c.args.to c.requires.schema w c.begin_at.ensures.there in
    let d = subst (λ (x : Started). StartedAs c.args.to c.args.txn c.args.body.now.declared c.args.min.now old mid x)
    c.in-Ok-Moved.field-0-is c.in-Ok-Moved.ensures.started in
    (came_moved c.args.body.now c.requires.fits.all_declared c.args.txn c.args.to c.args.min.now old mid w there d).0

pub returns-in-Err-clause-came : goal.returns-in-Err-clause-came
returns-in-Err-clause-came g c =
    let old = c.args.own.now in
    let mid = c.begin_at.new.own in
    let w = c.begin_at.ensures.went in
    let there = there_in old mid c.args.self.now.schema c.args.to c.requires.schema w c.begin_at.ensures.there in
    let r = came_stopped c.args.body.now c.requires.fits.all_declared c.args.txn c.args.to c.args.min.now old mid w there c.in-Err.stop
    (Txn c.args.body.now.declared) c.args.min.now c.requires.routed c.in-Err.ensures.stopped in
    subst (λ (x : Came). CameAs c.args.txn.session c.args.txn.number (TxnItem c.args.body.now) c.args.min.now (Some c.args.txn) old mid x) (sym c.stopped.ensures)
    r.0
