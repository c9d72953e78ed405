use Rattle.dm_invariant.proofs.Steps.{keeps_begin, keeps_moved, keeps_end, keeps_fail, keeps_refresh}
use Rattle.dm_invariant.proofs.own_steps_keep_it.Goals as goal

pub returns : goal.returns
returns c = record {
  begin = λ layout opened site past parts keeps txn begin may locks holders waiters.
      keeps_begin layout opened site past parts keeps txn begin may locks holders waiters;
  moved = λ layout opened site past parts keeps txn may locks holders waiters. keeps_moved layout opened site past parts keeps txn may locks holders waiters;
  end = λ layout opened site past parts keeps txn ops reads may. keeps_end layout opened site past parts keeps txn ops reads may;
  fail = λ layout opened site past parts keeps txn may. keeps_fail layout opened site past parts keeps txn may;
  refresh = λ layout opened site past parts keeps origin entry may next store schema installed.
      keeps_refresh layout opened site past parts keeps origin entry may next store schema installed;
}
