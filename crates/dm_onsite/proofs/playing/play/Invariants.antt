use Rattle.std.proofs.Common.{[]}
use Rattle.dm_onsite.proofs.playing.play.Given as goal

abbrev pub ghosts-play_all : goal.ghosts-play_all
ghosts-play_all g a = record { table = a.opened.chron.table; faults = [] }
