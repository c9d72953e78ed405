-- What code keeps of a Route, step by step.
use Rattle.std.specs.Prelude.{ℕ, ◌==◌, Option, option_map}
use Rattle.dm_event.specs.Txns.{same_txn}
use Rattle.dm_event.specs.declared.step.Step.{Step}
use Rattle.dm_event.specs.declared.step.TxnId.{TxnId}
use Rattle.dm_event.specs.declared.step.Want.{Want}
use Rattle.dm_model.specs.Attempts.{routing_of}
use Rattle.dm_told.specs.Routings.{without_want}
use Rattle.dm_told.specs.declared.routing.Routing.{Routing as Kept}

-- what the step says, if it is a Route of the session
abbrev pub routing_by : ℕ → Step → Option Kept
routing_by session s = option_map without_want (routing_of (λ txn. txn.session == session) s)

abbrev pub wanted_by : ℕ → Step → Option Want
wanted_by session s = option_map (λ r. r.want) (routing_of (λ txn. txn.session == session) s)

-- what the step wants, if it is the Route of the attempt
abbrev pub want_of : TxnId → Step → Option Want
want_of t s = option_map (λ r. r.want) (routing_of (same_txn t) s)
