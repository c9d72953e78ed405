use Rattle.dm_answers.specs.declared.item.Item.TheVariants.{Place, Restart, Txn}
use Rattle.dm_served.proofs.Again.{answered_serves}
use Rattle.dm_served.proofs.two.answer.Goals as goal

pub returns-then-is_site : goal.returns-then-is_site
returns-then-is_site g c =
    answered_serves c.args.shared.now (Place c.in-Place.part c.in-Place.to) c.place.result.1 c.args.session c.place.result.0 c.requires.serves c.place.ensures

pub returns-then-is_site-2 : goal.returns-then-is_site-2
returns-then-is_site-2 g c =
    answered_serves c.args.shared.now (Restart c.in-Restart.site) c.restart_site.result.1 c.args.session c.restart_site.result.0 c.requires.serves
    c.restart_site.ensures

pub returns-in_ok-body-in-Add : goal.returns-in_ok-body-in-Add
returns-in_ok-body-in-Add g c =
    answered_serves c.args.shared.now (Txn c.in_ok-body-in-Add.body) c.transact.result.1 c.args.session c.transact.result.0 c.requires.serves c.transact.ensures
