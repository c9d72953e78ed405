use Rattle.std.proofs.Common.{◌≡◌, ◌+◌, true, reverse, None}
use Rattle.dm_answers.specs.declared.item.Item.TheVariants.{Txn}
use Rattle.dm_client.specs.Client.{IsSameOne}
use Rattle.dm_model.specs.Attempts.{state}
use Rattle.dm_model.specs.Rows.{may_route}
use Rattle.dm_sites.specs.Telling.{OnWay}
use Rattle.dm_client.proofs.transacting.transact.Given as goal

abbrev pub invariant-loop : goal.invariant-loop
invariant-loop g l =
    IsSameOne l.fn.session l.session × OnWay l.fn.session.id (l.fn.session.count + 1) (Txn l.fn.body) None l.fn.session.pass l.session.pass l.last
    × (may_route (state l.session.id (reverse l.session.pass.seen)) ≡ true)
