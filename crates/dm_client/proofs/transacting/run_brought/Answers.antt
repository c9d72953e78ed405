use Rattle.std.proofs.Common.{sym, subst, Some}
use Rattle.dm_answers.specs.declared.item.Item.TheVariants.{Txn}
use Rattle.dm_client.proofs.Carrying.{came_rested}
use Rattle.dm_client.proofs.Placed.{ready_stopped}
use Rattle.dm_event.specs.declared.step.Want.TheVariants.{Txn as TxnWant}
use Rattle.dm_sites.specs.Telling.{CameAs}
use Rattle.dm_sites.specs.declared.told.Came.{Came}
use Rattle.dm_client.proofs.transacting.run_brought.Goals as goal

pub returns-in-Ok-clause-came : goal.returns-in-Ok-clause-came
returns-in-Ok-clause-came g c =
    came_rested c.args.txn c.args.body.now c.args.min.now c.args.own.now c.bring_all-brought.new.own c.run_at.new.own c.run_at.result
    c.requires.fits.all_declared c.bring_all-brought.ensures.went c.in-Ok.ensures.moved c.run_at.ensures.came

pub returns-in-Err-clause-came : goal.returns-in-Err-clause-came
returns-in-Err-clause-came g c =
    let mid = c.bring_all-brought.new.own in
    subst (λ (x : Came). CameAs c.args.txn.session c.args.txn.number (Txn c.args.body.now) c.args.min.now (Some c.args.txn) c.args.own.now mid x)
    (sym c.stopped.ensures)
    (ready_stopped (Txn c.args.body.now) c.requires.fits.all_declared c.args.txn (TxnWant c.args.body.now.declared) c.args.min.now c.args.to c.args.min.now
    c.args.own.now mid c.in-Err.stop c.requires.routed c.bring_all-brought.ensures.went c.in-Err.ensures.stopped)
