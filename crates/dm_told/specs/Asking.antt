-- Of which attempts and Routes more is told.
use Rattle.std.specs.Option.{option_map_or}
use Rattle.std.specs.Prelude.{ℕ, Bool, false, ◌==◌, ◌&&◌, ◌||◌, List, is_some}
use Rattle.dm_event.specs.Layout.{Layout}
use Rattle.dm_event.specs.declared.step.Step.{Step}
use Rattle.dm_event.specs.declared.step.TxnId.{TxnId}
use Rattle.dm_event.specs.declared.step.Want.{Want}
use Rattle.dm_model.specs.Attempts.{last_routing, routed}
use Rattle.dm_model.specs.Runs.{run_site}

-- the attempt runs
abbrev pub is_running : Layout → List Step → TxnId → Bool
is_running layout past txn = is_some (run_site layout past txn)

-- the attempt stands routed, or runs
abbrev pub is_current : Layout → List Step → TxnId → Bool
is_current layout past txn = is_some (routed txn past) || is_running layout past txn

-- the session's last Route went to the site, for a want that passes
abbrev pub was_routed_for : ℕ → ℕ → (Want → Bool) → List Step → Bool
was_routed_for session site passes past = option_map_or (λ r. (r.site == site) && passes r.want) (last_routing session past) false
