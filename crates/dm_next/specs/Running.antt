-- What is so of an attempt that runs, and of what it has done so far.
use Rattle.std.specs.List.{list_all}
use Rattle.std.specs.Prelude.{◌≡◌, ◌≤◌, ℕ, List, Some, None, length, IsTrue}
use Rattle.dm_body.specs.Progress.{Progress}
use Rattle.dm_event.specs.Layout.{Layout, is_site}
use Rattle.dm_event.specs.declared.limits.TheConstants.{MAX_OPS}
use Rattle.dm_event.specs.declared.step.Entry.{Entry}
use Rattle.dm_event.specs.declared.step.Step.{Step}
use Rattle.dm_event.specs.declared.step.TxnId.{TxnId}
use Rattle.dm_model.specs.Attempts.{declared}
use Rattle.dm_model.specs.Bodies.{ran_at, first_undeclared}
use Rattle.dm_model.specs.Runs.{runs, begin_vector}
use Rattle.dm_model.specs.Shape.{is_op}

-- the attempt began at the vector, and its ops so far are few, in range and declared, and read and wrote what they do on the
-- values there
pub record Began (layout : Layout) (past : List Step) (txn : TxnId) (begin : List ℕ) (done : Progress) : Type 0 where
  pub begun : begin_vector txn past ≡ Some begin
  pub few : length done.ops ≤ MAX_OPS
  pub in_range : IsTrue (list_all (is_op layout) done.ops)
  pub declares : first_undeclared (declared txn past) done.ops ≡ None
  pub ran : done.ran ≡ ran_at layout past begin done.ops

-- it runs at the site, and has done so much
pub record Runs (layout : Layout) (past : List Step) (site : ℕ) (txn : TxnId) (begin : List ℕ) (done : Progress) : Type 0 where
  pub there : IsTrue (is_site layout site)
  pub running : IsTrue (runs site txn past)
  pub began : Began layout past txn begin done

-- the entry that it would commit under the number
abbrev pub entry_of_run : ℕ → ℕ → TxnId → List ℕ → Progress → Entry
entry_of_run site seq txn begin done = record {
  txn = txn;
  origin = site;
  seq = seq;
  begin = begin;
  ops = done.ops;
  reads = done.ran.reads;
  writes = done.ran.writes;
}
