use Rattle.std.proofs.Common.{◌≡◌, ◌+◌, ◌≤◌, vec_len, vec_capacity}
use Rattle.dm_opening.specs.Making.{AreNumbered}
use Rattle.dm_opening.proofs.opening.lock_all.Given as goal

abbrev pub invariant-loop-site : goal.invariant-loop-site
invariant-loop-site g l =
    (vec_len l.locks + vec_len l.sites ≡ vec_len l.fn.sites) × (vec_len l.fn.sites ≤ vec_capacity l.locks) × AreNumbered 1 l.sites.items

abbrev pub decreases-loop-site : goal.decreases-loop-site
decreases-loop-site g l = vec_len l.sites
