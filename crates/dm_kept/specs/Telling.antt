-- What is told of attempts by how their sessions stand.
use Rattle.std.specs.Prelude.{ℕ, ◌==◌, ◌&&◌, if◌then◌else◌, List, [], Option, Some, None, option_map, option_and_then, unwrap_or}
use Rattle.dm_event.specs.Layout.{Layout, is_between}
use Rattle.dm_event.specs.Txns.{same_txn}
use Rattle.dm_event.specs.declared.attempt.Attempt.{Attempt}
use Rattle.dm_event.specs.declared.attempt.AttemptState.{AttemptState}
use Rattle.dm_event.specs.declared.attempt.AttemptState.TheVariants.{Running}
use Rattle.dm_event.specs.declared.step.Step.{Step}
use Rattle.dm_event.specs.declared.step.TxnId.{TxnId}
use Rattle.dm_model.specs.Allowed.{common_key}
use Rattle.dm_model.specs.Attempts.{last_routing, wanted_keys}
use Rattle.dm_model.specs.Choices.{parts_in_order}
use Rattle.dm_model.specs.Tests.{is_among}
use Rattle.dm_runs.specs.declared.run.Run.{Run}

-- the site at which the state says that it runs, if there is such a site
abbrev pub site_of : ℕ → AttemptState → Option ℕ
site_of count (Running site) = if is_between 1 count site then Some site else None
site_of count other = None

-- the same of the attempt, where it is its session's last, which stands so
abbrev pub site_told : ℕ → Attempt → TxnId → Option ℕ
site_told count last txn = option_and_then (λ t. if same_txn txn t then site_of count last.state else None) last.txn

-- the keys that the session's last Route declares
abbrev pub last_keys : ℕ → List Step → List ℕ
last_keys session past = unwrap_or (option_map (λ r. wanted_keys r.want) (last_routing session past)) []

-- the attempt, where it runs at the site, with the first of the keys that its session's last Route declares too
abbrev pub held_by : Run → ℕ → List ℕ → List Step → Option (TxnId × ℕ)
held_by run site keys past =
    if run.site == site then option_map (λ key. (run.txn, key)) (common_key keys (last_keys run.txn.session past)) else None

-- the attempt, where it runs at the site and its session's last Route declares a key of the partition
abbrev pub runs_on : Layout → List Step → Run → ℕ → ℕ → Option TxnId
runs_on layout past run site part =
    if (run.site == site) && is_among (parts_in_order layout (last_keys run.txn.session past)) part then Some run.txn else None
