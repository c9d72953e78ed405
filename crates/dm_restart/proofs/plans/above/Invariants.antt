use Rattle.std.proofs.Common.{◌≡◌, None, take, ℕ}
use Rattle.std.specs.Prelude.{find}
use Rattle.dm_restart.specs.Plans.{commits_of, is_numbered_above}
use Rattle.dm_restart.proofs.plans.above.Given as goal

abbrev pub invariant-loop-record : goal.invariant-loop-record
invariant-loop-record l = (site : ℕ) → find (is_numbered_above l.last) (commits_of site (take l.record-index l.own)) ≡ None
