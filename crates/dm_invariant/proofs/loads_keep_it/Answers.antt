use Rattle.dm_invariant.proofs.Loaded.{loaded, failed_for_log, failed_for_damage, stands_loaded, restarted, crash_loaded}
use Rattle.dm_invariant.proofs.loads_keep_it.Goals as goal

pub returns : goal.returns
returns c = record {
  keeps = λ layout opened site past parts keeps result live gate told faults load. loaded layout opened site past parts keeps result live gate told faults load;
  log = λ layout opened site past parts keeps result live gate told faults load txn locks failed may holders waiters.
      failed_for_log layout opened site past parts keeps result live gate told faults load txn locks failed may holders waiters;
  damage = λ layout opened site past parts keeps result live gate told faults load txn locks place read written differs may holders waiters.
      failed_for_damage layout opened site past parts keeps result live gate told faults load txn locks place read written differs may holders waiters;
  restart = λ layout opened site past parts keeps result live gate told faults load found vector store agrees may clean schema installed.
      restarted layout opened site past (record parts { live = live; gate = gate; told = told; faults = faults })
      (loaded layout opened site past parts keeps result live gate told faults load) found vector store
      (stands_loaded layout opened site past parts keeps result live gate told faults load found agrees) may clean schema installed;
  crash = λ layout opened site parts old new result live gate told faults keeps load.
      crash_loaded layout opened site parts old new result live gate told faults keeps load;
}
