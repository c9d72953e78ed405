use Rattle.std.proofs.Common.{◌+◌, sym, subst}
use Rattle.dm_client.proofs.Answering.{came_sent, came_untold}
use Rattle.dm_session.specs.Sitting.{Sitting}
use Rattle.dm_sites.specs.Telling.{CameAs}
use Rattle.dm_answers.specs.declared.item.Item.TheVariants.{Txn}
use Rattle.dm_client.proofs.transacting.run_agreed.Goals as goal

pub returns-in-Ok-clause-came : goal.returns-in-Ok-clause-came
returns-in-Ok-clause-came g c =
    came_sent c.args.body.now c.args.session c.route.new.session c.run_sent.result.0 c.args.site c.in-Ok.txn c.args.last c.run_sent.result.1 c.requires.fits.all_declared
    c.route.ensures.same c.in-Ok.ensures.ok c.run_sent.ensures.came

pub returns-in-Err-clause-came : goal.returns-in-Err-clause-came
returns-in-Err-clause-came g c =
    let r = came_untold c.args.body.now c.args.session c.route.new.session c.args.last c.too_little.result.1 c.requires.fits.all_declared
    c.route.ensures.same c.in-Err.ensures.err c.requires.may c.too_little.ensures.came in
    subst (λ (s : Sitting). CameAs c.args.session.id (c.args.session.count + 1) (Txn c.args.body.now) c.args.session.vector c.args.last c.args.session.pass s.pass
    c.too_little.result.1) (sym c.too_little.ensures.session) r
