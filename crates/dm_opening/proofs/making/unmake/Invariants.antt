use Rattle.std.proofs.Common.{◌≡◌, ◌+◌, ◌≤◌, ◌++◌, map, vec_len, vec_capacity}
use Rattle.std.specs.Prelude.{reverse}
use Rattle.dm_opening.proofs.making.unmake.Given as goal

abbrev pub invariant-loop-site : goal.invariant-loop-site
invariant-loop-site g l =
    (map (λ x. x.disk) l.logs.items ++ map (λ s. s.disk) (reverse l.sites.items) ≡ map (λ x. x.disk) l.fn.logs.items ++ map (λ s. s.disk) (reverse l.fn.sites.items))
    × (vec_len l.logs + vec_len l.sites ≤ vec_capacity l.logs)

abbrev pub decreases-loop-site : goal.decreases-loop-site
decreases-loop-site g l = vec_len l.sites
