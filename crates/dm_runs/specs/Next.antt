-- The attempts that run after a step, from those before it.
use Rattle.std.specs.Prelude.{ℕ, ◌==◌, not, Bool, true, false, List, [], ◌∷◌, ◌++◌, filter}
use Rattle.dm_event.specs.Txns.{same_txn}
use Rattle.dm_event.specs.declared.step.Step.{Step}
use Rattle.dm_event.specs.declared.step.Step.TheVariants.{Begin, Commit, End, Fail, Doubt, Restart}
use Rattle.dm_event.specs.declared.step.TxnId.{TxnId}
use Rattle.dm_runs.specs.declared.run.Run.{Run}

abbrev pub is_begin : Step → Bool
is_begin (Begin site txn begin) = true
is_begin s = false

-- all but the attempt
abbrev pub but : TxnId → List Run → List Run
but t rs = filter (λ r. not (same_txn r.txn t)) rs

-- those at other sites
abbrev pub elsewhere : ℕ → List Run → List Run
elsewhere site rs = filter (λ r. not (r.site == site)) rs

abbrev pub next_runs : Step → List Run → List Run
next_runs (Begin site txn begin) rs = rs ++ record { site = site; txn = txn } ∷ []
next_runs (Commit entry) rs = but entry.txn rs
next_runs (End site txn ops reads) rs = but txn rs
next_runs (Fail site txn cause) rs = but txn rs
next_runs (Doubt site p) rs = elsewhere site rs
next_runs (Restart site vector found) rs = elsewhere site rs
next_runs s rs = rs
