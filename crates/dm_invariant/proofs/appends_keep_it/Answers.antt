use Rattle.dm_invariant.proofs.Written.{may_follow_append, written, crash_written, crash_still}
use Rattle.dm_invariant.proofs.appends_keep_it.Goals as goal

pub returns : goal.returns
returns c = record {
  allowed = λ layout site past txn pending result may. may_follow_append layout site past txn pending result may;
  keeps = λ layout opened site past parts txn pending result store live gate told faults keeps may on appended schema installed.
      written layout opened site past parts txn pending result store live gate told faults keeps may on appended schema installed;
  crash = λ layout opened site parts old new turn txn pending result live gate told faults keeps on schema begins ends up may appended.
      crash_written layout opened site parts old new turn txn pending result live gate told faults keeps on schema begins ends up may appended;
  still = λ layout opened site parts old new told keeps same. crash_still layout opened site parts old new told keeps same;
}
