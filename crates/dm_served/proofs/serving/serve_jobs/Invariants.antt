use Rattle.dm_served.specs.Clients.{Serves}
use Rattle.dm_served.proofs.serving.serve_jobs.Given as goal

abbrev pub invariant-loop-who : goal.invariant-loop-who
invariant-loop-who g l = Serves l.fn.shared l.two.first × Serves l.fn.shared l.two.second
