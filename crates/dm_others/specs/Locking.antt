-- What a site's lock table holds, read of the past.
use Rattle.std.specs.Prelude.{ℕ, List, map}
use Rattle.dm_chronicle.specs.Rule.{In}
use Rattle.dm_event.specs.declared.step.Choice.{Choice}
use Rattle.dm_event.specs.declared.step.Step.{Step}
use Rattle.dm_event.specs.declared.step.Step.TheVariants.{Route}
use Rattle.dm_event.specs.declared.step.TxnId.{TxnId}
use Rattle.dm_event.specs.declared.step.Want.TheVariants.{Txn}
use Rattle.dm_locks.specs.declared.claim.Claim.{Claim}
use Rattle.dm_model.specs.Attempts.{declared}
use Rattle.dm_model.specs.Runs.{running}

-- the attempt with the keys that it declares
abbrev pub claimed : List Step → TxnId → Claim
claimed past txn = record { txn = txn; keys = declared txn past }

-- the claims of the attempts that run at the site, the earliest begun first
abbrev pub claims : ℕ → List Step → List Claim
claims site past = map (claimed past) (running site past)

-- a Route sends the claim's attempt to the site with its keys
abbrev pub IsSent : ℕ → List Step → Claim → Type 0
IsSent site past claim = (min : List ℕ) × (choice : Choice) × In (Route claim.txn (Txn claim.keys) min site choice) past
