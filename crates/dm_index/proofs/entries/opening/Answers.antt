use Rattle.dm_index.proofs.Opening.{entries_more}
use Rattle.dm_index.proofs.entries.opening.Goals as goal

pub loop-i-preserved : goal.loop-i-preserved
loop-i-preserved c =
    entries_more c.loop-i.places.items c.push.new.self.items c.new.result c.loop-i._i (rw c.in_ok-push.was at c.push.ensures.items) c.new.ensures.items
    c.loop-i.invariant
