use Rattle.std.proofs.Common.{◌≡◌, drop}
use Rattle.dm_locks.specs.Claims.{answer}
use Rattle.dm_locks.proofs.claim.answer.Given as goal

abbrev pub invariant-loop-claim : goal.invariant-loop-claim
invariant-loop-claim l = answer l.keys (drop l.claim-index l.claims) ≡ answer l.keys l.claims
