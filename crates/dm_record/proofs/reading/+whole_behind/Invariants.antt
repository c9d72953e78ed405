use Rattle.dm_record.proofs.reading.+whole_behind.Given as goal

abbrev pub decreases-whole_behind : goal.decreases-whole_behind
decreases-whole_behind l = l.width
