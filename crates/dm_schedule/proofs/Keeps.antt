-- What each command line keeps: the schema, the number of sessions, and at most one step more.
use Rattle.std.proofs.Common.{◌≡◌, ℕ, ◌+◌, ◌-◌, ◌≤◌, Bool, true, false, cond, List, [], ◌∷◌, length, refl, arith, length-append, Option, Some, None}
use Rattle.std.proofs.Math.ListN.{length-set}
use Rattle.std.specs.Prelude.{◌==◌}
use Rattle.dm_event.specs.declared.limits.TheConstants.{MAX_OPS}
use Rattle.dm_clauses.specs.Judging.{epoch_now}
use Rattle.dm_event.specs.declared.placing.Placing.{Placing}
use Rattle.dm_event.specs.declared.placing.Placing.TheVariants as placings
use Rattle.dm_event.specs.declared.step.Choice.{Choice}
use Rattle.dm_event.specs.declared.step.Found.{Found}
use Rattle.dm_event.specs.declared.step.Choice.TheVariants.{Hand}
use Rattle.dm_event.specs.declared.step.Op.{Op}
use Rattle.dm_event.specs.declared.step.Said.{Said}
use Rattle.dm_event.specs.declared.step.Step.{Step}
use Rattle.dm_event.specs.declared.step.TxnId.{TxnId}
use Rattle.dm_event.specs.declared.step.Want.{Want}
use Rattle.dm_event.specs.declared.why.Why.{Why}
use Rattle.dm_model.specs.Bodies.{has_writes}
use Rattle.dm_schedule.specs.Drive.{Drive, extended, with_ops, judged, ops_of, is_declared, routed_of, running_of, outcome_due, next_txn, route_line}
use Rattle.dm_schedule.specs.Drive.{begin_line, began, is_elsewhere, get_line, write_line, commit_line, reply_line, fail_line, refresh_line, ask_line, release_line}
use Rattle.dm_schedule.specs.Drive.{grant_line, settle_line, doubt_commit_line, doubt_release_line, doubt_grant_line, restart_line, live_of, placing_of, by_line}
use Rattle.dm_schedule.specs.declared.answer.Answer.{Answer}
use Rattle.dm_schedule.specs.declared.driver.Run.{Run}
use Rattle.dm_lines.specs.declared.line.Line.{Line}
use Rattle.dm_lines.specs.declared.line.Line.TheVariants as lines

pub record Keeps (old new : Drive) : Type 0 where
  pub layout : new.layout ≡ old.layout
  pub ops : length new.ops ≡ length old.ops
  pub steps : length new.history ≤ length old.history + 1

same : (d : Drive) → Keeps d d
same d = record { layout = refl; ops = refl; steps = omega arith }

longer : (d : Drive) (step : Step) → Keeps d (extended d step)
longer d step = record { layout = refl; ops = refl; steps = omega (arith, length-append d.history (step ∷ [])) }

set : (d : Drive) (c : ℕ) (done : List Op) → Keeps d (with_ops d c done)
set d c done = record { layout = refl; ops = length-set d.ops (c - 1) done; steps = omega arith }

begun : (d : Drive) (step : Step) (c : ℕ) → Keeps d (with_ops (extended d step) c [])
begun d step c = record { layout = refl; ops = length-set d.ops (c - 1) []; steps = omega (arith, length-append d.history (step ∷ [])) }

by_why : (why : Option Why) (d next : Drive) (answer : Answer) → Keeps d next → Keeps d (judged why d next answer).0
by_why None d next answer k = k
by_why (Some reason) d next answer k = same d

chosen : (b : Bool) (d : Drive) (x y : Drive × Answer) → Keeps d x.0 → Keeps d y.0 → Keeps d (cond b x y).0
chosen true d x y k l = k
chosen false d x y k l = l

by_route : (d : Drive) (c : ℕ) (want : Want) (site : ℕ) (choice : Choice) → Keeps d (route_line d c want site choice).0
by_route d c want site choice = by_why _ d _ _ (longer d _)

by_began : (why : Option Why) (d : Drive) (next : Drive × Answer) (at : TxnId × ℕ) → Keeps d next.0 → Keeps d (began why d next at).0
by_began None d next at k = k
by_began (Some reason) d next at k = chosen (is_elsewhere reason) d _ _ (by_why _ d _ _ (longer d _)) (same d)

by_begin : (d : Drive) (c : ℕ) (at : Option (TxnId × ℕ)) → Keeps d (begin_line d c at).0
by_begin d c None = same d
by_begin d c (Some at) = by_began _ d _ at (begun d _ c)

by_get : (d : Drive) (c key : ℕ) (run : Option Run) → Keeps d (get_line d c key run).0
by_get d c key None = same d
by_get d c key (Some run) = chosen (length (ops_of d c) == MAX_OPS) d _ _ (same d) (set d c _)

by_write : (d : Drive) (c key : ℕ) (op : Op) (answer : Answer) (run : Option Run) → Keeps d (write_line d c key op answer run).0
by_write d c key op answer None = same d
by_write d c key op answer (Some run) = chosen (length (ops_of d c) == MAX_OPS) d _ _ (same d) (chosen (is_declared d run.txn key) d _ _ (set d c _) (same d))

by_commit : (d : Drive) (c : ℕ) (run : Option Run) → Keeps d (commit_line d c run).0
by_commit d c None = same d
by_commit d c (Some run) = chosen (has_writes (ops_of d c)) d _ _ (by_why _ d _ _ (longer d _)) (by_why _ d _ _ (longer d _))

by_refresh : (d : Drive) (site origin : ℕ) → Keeps d (refresh_line d site origin).0
by_refresh d site origin = by_why _ d _ _ (longer d _)

by_reply : (d : Drive) (c number : ℕ) (said : Option Said) → Keeps d (reply_line d c number said).0
by_reply d c number None = same d
by_reply d c number (Some said) = by_why _ d _ _ (longer d _)

by_fail : (d : Drive) (memory : Bool) (at : Option (TxnId × ℕ)) → Keeps d (fail_line d memory at).0
by_fail d memory None = same d
by_fail d memory (Some at) = by_why _ d _ _ (longer d _)

by_ask : (d : Drive) (part epoch : ℕ) (at : Option (TxnId × ℕ)) → Keeps d (ask_line d part epoch at).0
by_ask d part epoch None = same d
by_ask d part epoch (Some at) = by_why _ d _ _ (longer d _)

by_release : (d : Drive) (part : ℕ) (now : Placing) → Keeps d (release_line d part now).0
by_release d part (placings.Asked site epoch to) = by_why _ d _ _ (longer d _)
by_release d part (placings.Settled site epoch) = same d
by_release d part (placings.Between site epoch to vector) = same d
by_release d part (placings.Granted site epoch) = same d

by_grant : (d : Drive) (part : ℕ) (now : Placing) → Keeps d (grant_line d part now).0
by_grant d part (placings.Between site epoch to vector) = by_why _ d _ _ (longer d _)
by_grant d part (placings.Settled site epoch) = same d
by_grant d part (placings.Asked site epoch to) = same d
by_grant d part (placings.Granted site epoch) = same d

by_settle : (d : Drive) (part : ℕ) (now : Placing) → Keeps d (settle_line d part now).0
by_settle d part (placings.Granted site epoch) = by_why _ d _ _ (longer d _)
by_settle d part (placings.Settled site epoch) = same d
by_settle d part (placings.Asked site epoch to) = same d
by_settle d part (placings.Between site epoch to vector) = same d

by_doubt_commit : (d : Drive) (c : ℕ) (run : Option Run) → Keeps d (doubt_commit_line d c run).0
by_doubt_commit d c None = same d
by_doubt_commit d c (Some run) = by_why _ d _ _ (longer d _)

by_doubt_release : (d : Drive) (part : ℕ) (now : Placing) → Keeps d (doubt_release_line d part now).0
by_doubt_release d part (placings.Asked site epoch to) = by_why _ d _ _ (longer d _)
by_doubt_release d part (placings.Settled site epoch) = same d
by_doubt_release d part (placings.Between site epoch to vector) = same d
by_doubt_release d part (placings.Granted site epoch) = same d

by_doubt_grant : (d : Drive) (part : ℕ) (now : Placing) → Keeps d (doubt_grant_line d part now).0
by_doubt_grant d part (placings.Between site epoch to vector) = by_why _ d _ _ (longer d _)
by_doubt_grant d part (placings.Settled site epoch) = same d
by_doubt_grant d part (placings.Asked site epoch to) = same d
by_doubt_grant d part (placings.Granted site epoch) = same d

by_restart : (d : Drive) (site : ℕ) (found : Found) → Keeps d (restart_line d site found).0
by_restart d site found = by_why _ d _ _ (longer d _)

pub line_keeps : (d : Drive) (line : Line) → Keeps d (by_line d line).0
unfolding by_line
line_keeps d (lines.Route c want (Some site)) = by_route d c want site Hand
line_keeps d (lines.Route c want None) = by_route d c want _ _
line_keeps d (lines.Begin c) = by_begin d c (routed_of d c)
line_keeps d (lines.Get c key) = by_get d c key (running_of d c)
line_keeps d (lines.Put c key value) = by_write d c key _ _ (running_of d c)
line_keeps d (lines.Add c key by) = by_write d c key _ _ (running_of d c)
line_keeps d (lines.Commit c) = by_commit d c (running_of d c)
line_keeps d (lines.Reply c) = by_reply d c (next_txn d c).number (outcome_due d c)
line_keeps d (lines.Refresh site origin) = by_refresh d site origin
line_keeps d (lines.Fail c memory) = by_fail d memory (live_of d c)
line_keeps d (lines.Ask part c) = by_ask d part (epoch_now (placing_of d part)) (routed_of d c)
line_keeps d (lines.Release part) = by_release d part (placing_of d part)
line_keeps d (lines.Grant part) = by_grant d part (placing_of d part)
line_keeps d (lines.Settle part) = by_settle d part (placing_of d part)
line_keeps d (lines.DoubtCommit c) = by_doubt_commit d c (running_of d c)
line_keeps d (lines.DoubtRelease part) = by_doubt_release d part (placing_of d part)
line_keeps d (lines.DoubtGrant part) = by_doubt_grant d part (placing_of d part)
line_keeps d (lines.Restart site found) = by_restart d site found
