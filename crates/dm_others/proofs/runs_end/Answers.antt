use Rattle.std.proofs.Common.{refl, ap, map}
use Rattle.dm_event.specs.declared.step.Step.TheVariants.{Commit, End, Fail}
use Rattle.dm_others.proofs.Runs.{running_ends, running_none, running_restarts}
use Rattle.dm_others.proofs.runs_end.Goals as goal
use Rattle.dm_others.specs.Locking.{claimed}

pub returns : goal.returns
returns c = record {
  commit = λ layout past site entry l. running_ends layout site past (Commit entry) entry.txn l (λ ts. refl) (λ u. refl);
  end = λ layout past site at txn ops reads l. running_ends layout site past (End at txn ops reads) txn l (λ ts. refl) (λ u. refl);
  fail = λ layout past site at txn cause l. running_ends layout site past (Fail at txn cause) txn l (λ ts. refl) (λ u. refl);
  doubt = λ past site pending. ap (map (claimed past)) (running_none site past pending);
  restart = λ past site vector found. ap (map (claimed past)) (running_restarts site past vector found);
}
