use Rattle.std.specs.Prelude.{reverse}
use Rattle.dm_store.proofs.Following.{Follows, after}
use Rattle.dm_store.proofs.chains.Chains.value.Given as goal

abbrev pub invariant-loop-next : goal.invariant-loop-next
invariant-loop-next l = Follows (reverse l.self-inside.links.items) l.fn.key l.begin l.next

abbrev pub decreases-loop-next : goal.decreases-loop-next
decreases-loop-next l = after l.next
