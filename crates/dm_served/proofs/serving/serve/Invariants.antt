use Rattle.std.proofs.Common.{map}
use Rattle.dm_served.proofs.serving.serve.Given as goal

abbrev pub ghosts-serve_all : goal.ghosts-serve_all
ghosts-serve_all g a = record { table = a.start.table; faults = map (λ m. m.faults) a.start.disks }
