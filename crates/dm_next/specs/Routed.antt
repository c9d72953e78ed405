-- What is so of an attempt that was sent to a site.
use Rattle.std.specs.Prelude.{◌≡◌, ℕ, List, Some}
use Rattle.dm_event.specs.declared.step.Choice.{Choice}
use Rattle.dm_event.specs.declared.step.Step.{Step}
use Rattle.dm_event.specs.declared.step.TxnId.{TxnId}
use Rattle.dm_event.specs.declared.step.Want.TheVariants.{Txn}
use Rattle.dm_model.specs.Attempts.{routed}

-- its session stands routed by it, and its Route sent it to the site with these keys and this minimum
abbrev pub IsRouted : ℕ → TxnId → List ℕ → List ℕ → List Step → Type 0
IsRouted site txn keys min past = (choice : Choice) × (routed txn past ≡ Some (record { txn = txn; want = Txn keys; min = min; site = site; choice = choice }))
