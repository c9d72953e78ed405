-- The drive of a history by the command lines of a step file.
use Rattle.std.specs.Prelude.{ℕ, ◌+◌, ◌-◌, ◌==◌, Bool, true, false, if◌then◌else◌, List, [], ◌∷◌, ◌++◌, length, replicate, reverse, slice_index_or, slice_set, Option, Some}
use Rattle.std.specs.Prelude.{None, option_map, ℤ}
use Rattle.dm_clauses.specs.Judging.{epoch_now}
use Rattle.dm_event.specs.Entries.{commit_vector}
use Rattle.dm_event.specs.Layout.{Layout}
use Rattle.dm_event.specs.declared.attempt.AttemptState.{AttemptState}
use Rattle.dm_event.specs.declared.attempt.AttemptState.TheVariants as stands
use Rattle.dm_event.specs.declared.limits.TheConstants.{MAX_OPS, MAX_SESSIONS}
use Rattle.dm_event.specs.declared.placing.Placing.{Placing}
use Rattle.dm_event.specs.declared.placing.Placing.TheVariants as placings
use Rattle.dm_event.specs.declared.step.Cause.{Cause}
use Rattle.dm_event.specs.declared.step.Cause.TheVariants as causes
use Rattle.dm_event.specs.declared.step.Choice.{Choice}
use Rattle.dm_event.specs.declared.step.Choice.TheVariants.{Hand}
use Rattle.dm_event.specs.declared.step.Entry.{Entry}
use Rattle.dm_event.specs.declared.step.Found.{Found}
use Rattle.dm_event.specs.declared.step.Op.{Op}
use Rattle.dm_event.specs.declared.step.Op.TheVariants as ops
use Rattle.dm_event.specs.declared.step.Pending.{Pending}
use Rattle.dm_event.specs.declared.step.Pending.TheVariants as pending
use Rattle.dm_event.specs.declared.step.Said.{Said}
use Rattle.dm_event.specs.declared.step.Step.{Step}
use Rattle.dm_event.specs.declared.step.Step.TheVariants.{Route, Reply, Ask, Settle, Begin, Moved, Commit, End, Fail, Refresh, Release, Grant, Doubt, Restart}
use Rattle.dm_event.specs.declared.step.TxnId.{TxnId}
use Rattle.dm_event.specs.declared.step.Want.{Want}
use Rattle.dm_event.specs.declared.why.Why.{Why}
use Rattle.dm_event.specs.declared.why.Why.TheVariants as why
use Rattle.dm_model.specs.Allowed.{refusal, with_kept}
use Rattle.dm_model.specs.Attempts.{attempt, declared, replies, routes, wanted_keys}
use Rattle.dm_model.specs.Bodies.{has_writes, ran_at, read_value}
use Rattle.dm_model.specs.Choices.{choice_due}
use Rattle.dm_model.specs.Floors.{floor}
use Rattle.dm_model.specs.Outcomes.{said_due}
use Rattle.dm_model.specs.Placings.{placing}
use Rattle.dm_model.specs.Progress.{entry_count, site_vector}
use Rattle.dm_model.specs.Runs.{begin_vector}
use Rattle.dm_model.specs.Sessions.{session_vector}
use Rattle.dm_model.specs.Tests.{is_among}
use Rattle.dm_model.specs.Values.{value}
use Rattle.dm_schedule.specs.Answers.{answer_text}
use Rattle.dm_schedule.specs.declared.answer.Answer.{Answer}
use Rattle.dm_schedule.specs.declared.answer.Answer.TheVariants as answers
use Rattle.dm_schedule.specs.declared.driver.Run.{Run}
use Rattle.dm_lines.specs.declared.line.Line.{Line}
use Rattle.dm_lines.specs.declared.line.Line.TheVariants as lines

-- what the schema says, the history with the earliest step first, and for each session the ops that its attempt has done
pub record Drive : Type 0 where
  pub layout : Layout
  pub history : List Step
  pub ops : List (List Op)

-- nothing has happened
abbrev pub start : Layout → Drive
start layout = record { layout = layout; history = []; ops = replicate MAX_SESSIONS [] }

-- the steps so far, the latest first
abbrev pub past : Drive → List Step
past d = reverse d.history

-- the ops that the session's attempt has done
abbrev pub ops_of : Drive → ℕ → List Op
ops_of d c = slice_index_or d.ops (c - 1) []

abbrev pub with_ops : Drive → ℕ → List Op → Drive
with_ops d c done = record { layout = d.layout; history = d.history; ops = slice_set d.ops (c - 1) done }

-- ---- one step more

-- why the step may not come, if it may not
unfoldable pub refusal_of : Drive → Step → Option Why
refusal_of d step = refusal d.layout (past d) step

abbrev pub extended : Drive → Step → Drive
extended d step = record { layout = d.layout; history = d.history ++ step ∷ []; ops = d.ops }

-- with the step, if nothing refuses it
abbrev pub pushed : Option Why → Drive → Step → Drive
pushed None d step = extended d step
pushed (Some reason) d step = d

-- what comes of a step that brings this drive and this answer, if nothing refuses it
abbrev pub judged : Option Why → Drive → Drive → Answer → Drive × Answer
judged None d next answer = (next, answer)
judged (Some reason) d next answer = (d, answers.Refused reason)

-- ---- what is due

-- the session's next attempt
unfoldable pub next_txn : Drive → ℕ → TxnId
next_txn d c = record { session = c; number = replies c (past d) + 1; attempt = routes c (past d) + 1 }

-- the least vector at which it may begin
unfoldable pub least_due : Drive → ℕ → List ℕ
least_due d c = session_vector d.layout.sites (past d) c

unfoldable pub vector_of : Drive → ℕ → List ℕ
vector_of d site = site_vector d.layout.sites (past d) site

-- an attempt that stands routed, with its site
abbrev pub routed_at : Option TxnId → AttemptState → Option (TxnId × ℕ)
routed_at (Some txn) (stands.Routed site choice) = Some (txn, site)
routed_at txn state = None

-- the same of the session's
unfoldable pub routed_of : Drive → ℕ → Option (TxnId × ℕ)
routed_of d c = routed_at (attempt c (past d)).txn (attempt c (past d)).state

-- an attempt that stands routed or runs, with its site
abbrev pub live_at : Option TxnId → AttemptState → Option (TxnId × ℕ)
live_at (Some txn) (stands.Routed site choice) = Some (txn, site)
live_at (Some txn) (stands.Running site) = Some (txn, site)
live_at txn state = None

-- the same of the session's
unfoldable pub live_of : Drive → ℕ → Option (TxnId × ℕ)
live_of d c = live_at (attempt c (past d)).txn (attempt c (past d)).state

-- an attempt that runs, with its site and its begin vector, where the function gives those
abbrev pub running_at : (TxnId → Option (List ℕ)) → Option TxnId → AttemptState → Option Run
running_at begun (Some txn) (stands.Running site) = option_map (λ begin. record { txn = txn; site = site; begin = begin }) (begun txn)
running_at begun txn state = None

-- the same of the session's
unfoldable pub running_of : Drive → ℕ → Option Run
running_of d c = running_at (λ txn. begin_vector txn (past d)) (attempt c (past d)).txn (attempt c (past d)).state

unfoldable pub is_declared : Drive → TxnId → ℕ → Bool
is_declared d txn key = is_among (declared txn (past d)) key

-- what a read of the key gives after the ops so far
unfoldable pub value_due : Drive → ℕ → Run → ℕ → ℤ
value_due d c run key =
    read_value (λ q. value d.layout (past d) q run.begin) (ran_at d.layout (past d) run.begin (ops_of d c)) key

-- the entry of the ops so far
unfoldable pub entry_due : Drive → ℕ → Run → Entry
entry_due d c run =
    let ran = ran_at d.layout (past d) run.begin (ops_of d c) in
    record {
      txn = run.txn;
      origin = run.site;
      seq = entry_count run.site (past d) + 1;
      begin = run.begin;
      ops = ops_of d c;
      reads = ran.reads;
      writes = ran.writes;
    }

-- the End of the ops so far
unfoldable pub end_due : Drive → ℕ → Run → Step
end_due d c run = End run.site run.txn (ops_of d c) (ran_at d.layout (past d) run.begin (ops_of d c)).reads

-- the site and the choice that are due for a transaction with these keys
unfoldable pub site_due : Drive → ℕ → List ℕ → ℕ × Choice
site_due d c keys = choice_due d.layout (past d) c keys

unfoldable pub placing_of : Drive → ℕ → Placing
placing_of d part = placing d.layout (past d) part

-- the vector of a Restart: the site's floor, with a pending step that was kept
unfoldable pub floor_due : Drive → ℕ → Found → List ℕ
floor_due d site found = floor d.layout.sites (with_kept site found (past d)) site

unfoldable pub outcome_due : Drive → ℕ → Option Said
outcome_due d c = said_due d.layout (past d) c

-- ---- the command lines: what each brings, and its answer

abbrev pub route_line : Drive → ℕ → Want → ℕ → Choice → Drive × Answer
route_line d c want site choice =
    let step = Route (next_txn d c) want (least_due d c) site choice in
    judged (refusal_of d step) d (extended d step) (answers.Routed (next_txn d c) site choice)

-- the attempt finds that the site may not begin on one of its partitions
abbrev pub moved_line : Drive → TxnId × ℕ → Drive × Answer
moved_line d at = judged (refusal_of d (Moved at.1 at.0)) d (extended d (Moved at.1 at.0)) (answers.Moved at.0)

unfoldable pub is_elsewhere : Why → Bool
is_elsewhere (why.Elsewhere part) = true
is_elsewhere reason = false

-- what comes of a Begin that brings this drive and this answer, if nothing refuses it
abbrev pub began : Option Why → Drive → Drive × Answer → TxnId × ℕ → Drive × Answer
began None d begun at = begun
began (Some reason) d begun at = if is_elsewhere reason then moved_line d at else (d, answers.Refused reason)

-- a new attempt has done no ops
abbrev pub begin_line : Drive → ℕ → Option (TxnId × ℕ) → Drive × Answer
begin_line d c None = (d, answers.Refused why.NotRouted)
begin_line d c (Some at) =
    let step = Begin at.1 at.0 (vector_of d at.1) in
    began (refusal_of d step) d (with_ops (extended d step) c [], answers.Begun at.0 at.1 (vector_of d at.1)) at

abbrev pub get_line : Drive → ℕ → ℕ → Option Run → Drive × Answer
get_line d c key None = (d, answers.Refused why.NotRunning)
get_line d c key (Some run) =
    if length (ops_of d c) == MAX_OPS then (d, answers.RefusedOps)
    else (with_ops d c (ops_of d c ++ ops.Read key ∷ []), answers.Value (value_due d c run key))

-- a write or an addition
abbrev pub write_line : Drive → ℕ → ℕ → Op → Answer → Option Run → Drive × Answer
write_line d c key op answer None = (d, answers.Refused why.NotRunning)
write_line d c key op answer (Some run) =
    if length (ops_of d c) == MAX_OPS then (d, answers.RefusedOps)
    else (if is_declared d run.txn key then (with_ops d c (ops_of d c ++ op ∷ []), answer)
    else (d, answers.Refused (why.Undeclared key)))

abbrev pub commit_of : Drive → Entry → Drive × Answer
commit_of d entry = judged (refusal_of d (Commit entry)) d (extended d (Commit entry)) (answers.Committed entry.origin entry.seq (commit_vector entry))

abbrev pub end_of : Drive → Step → List ℕ → Drive × Answer
end_of d step begin = judged (refusal_of d step) d (extended d step) (answers.Ended begin)

-- an attempt that wrote nothing ends, and has no entry
abbrev pub commit_line : Drive → ℕ → Option Run → Drive × Answer
commit_line d c None = (d, answers.Refused why.NotRunning)
commit_line d c (Some run) = if has_writes (ops_of d c) then commit_of d (entry_due d c run) else end_of d (end_due d c run) run.begin

abbrev pub reply_line : Drive → ℕ → ℕ → Option Said → Drive × Answer
reply_line d c number None = (d, answers.Refused why.WrongSaid)
reply_line d c number (Some said) =
    judged (refusal_of d (Reply c number said)) d (extended d (Reply c number said)) (answers.Replied c number said)

abbrev pub cause_at : ℕ → Bool → Cause
cause_at site true = causes.Memory
cause_at site false = causes.Log site

abbrev pub fail_line : Drive → Bool → Option (TxnId × ℕ) → Drive × Answer
fail_line d memory None = (d, answers.Refused why.NotRunning)
fail_line d memory (Some at) =
    let step = Fail at.1 at.0 (cause_at at.1 memory) in
    judged (refusal_of d step) d (extended d step) answers.Failed

abbrev pub refresh_line : Drive → ℕ → ℕ → Drive × Answer
refresh_line d site origin =
    let next = extended d (Refresh site origin) in
    judged (refusal_of d (Refresh site origin)) d next (answers.Refreshed site (vector_of next site))

-- an attempt that stands routed asks for the partition, to the site of its Route
abbrev pub ask_line : Drive → ℕ → ℕ → Option (TxnId × ℕ) → Drive × Answer
ask_line d part epoch None = (d, answers.Refused why.NotRouted)
ask_line d part epoch (Some at) =
    judged (refusal_of d (Ask part epoch at.1 at.0)) d (extended d (Ask part epoch at.1 at.0)) (answers.Asked part epoch at.1)

-- the master gives the partition up, at its own vector
abbrev pub release_line : Drive → ℕ → Placing → Drive × Answer
release_line d part (placings.Asked site epoch to) =
    let step = Release site part epoch to (vector_of d site) in
    judged (refusal_of d step) d (extended d step) (answers.Released part epoch (vector_of d site))
release_line d part other = (d, answers.Refused why.NotAsked)

-- the next epoch begins at the site to which it was released
abbrev pub grant_line : Drive → ℕ → Placing → Drive × Answer
grant_line d part (placings.Between site epoch to vector) =
    let step = Grant to part (epoch + 1) vector in
    judged (refusal_of d step) d (extended d step) (answers.Granted part (epoch + 1) to)
grant_line d part other = (d, answers.Refused why.NotReleased)

abbrev pub settle_line : Drive → ℕ → Placing → Drive × Answer
settle_line d part (placings.Granted site epoch) =
    judged (refusal_of d (Settle part epoch)) d (extended d (Settle part epoch)) (answers.Settled part epoch)
settle_line d part other = (d, answers.Refused why.NotGranted)

-- the site goes down over a step that is pending
abbrev pub doubted : Drive → ℕ → Pending → Drive × Answer
doubted d site step = judged (refusal_of d (Doubt site step)) d (extended d (Doubt site step)) (answers.Doubted site)

-- the steps of which a site can be in doubt are those that would be due

abbrev pub doubt_commit_line : Drive → ℕ → Option Run → Drive × Answer
doubt_commit_line d c None = (d, answers.Refused why.NotRunning)
doubt_commit_line d c (Some run) = doubted d run.site (pending.Commit (entry_due d c run))

abbrev pub doubt_release_line : Drive → ℕ → Placing → Drive × Answer
doubt_release_line d part (placings.Asked site epoch to) = doubted d site (pending.Release part epoch to (vector_of d site))
doubt_release_line d part other = (d, answers.Refused why.NotAsked)

abbrev pub doubt_grant_line : Drive → ℕ → Placing → Drive × Answer
doubt_grant_line d part (placings.Between site epoch to vector) = doubted d to (pending.Grant part (epoch + 1) vector)
doubt_grant_line d part other = (d, answers.Refused why.NotReleased)

abbrev pub restart_line : Drive → ℕ → Found → Drive × Answer
restart_line d site found =
    let step = Restart site (floor_due d site found) found in
    judged (refusal_of d step) d (extended d step) (answers.Restarted site (floor_due d site found))

-- what a command line brings, and its answer
unfoldable pub by_line : Drive → Line → Drive × Answer
by_line d (lines.Route c want (Some site)) = route_line d c want site Hand
by_line d (lines.Route c want None) = let due = site_due d c (wanted_keys want) in route_line d c want due.0 due.1
by_line d (lines.Begin c) = begin_line d c (routed_of d c)
by_line d (lines.Get c key) = get_line d c key (running_of d c)
by_line d (lines.Put c key value) = write_line d c key (ops.Write key value) answers.Put (running_of d c)
by_line d (lines.Add c key by) = write_line d c key (ops.Add key by) answers.Added (running_of d c)
by_line d (lines.Commit c) = commit_line d c (running_of d c)
by_line d (lines.Reply c) = reply_line d c (next_txn d c).number (outcome_due d c)
by_line d (lines.Fail c memory) = fail_line d memory (live_of d c)
by_line d (lines.Refresh site origin) = refresh_line d site origin
by_line d (lines.Ask part c) = ask_line d part (epoch_now (placing_of d part)) (routed_of d c)
by_line d (lines.Release part) = release_line d part (placing_of d part)
by_line d (lines.Grant part) = grant_line d part (placing_of d part)
by_line d (lines.Settle part) = settle_line d part (placing_of d part)
by_line d (lines.DoubtCommit c) = doubt_commit_line d c (running_of d c)
by_line d (lines.DoubtRelease part) = doubt_release_line d part (placing_of d part)
by_line d (lines.DoubtGrant part) = doubt_grant_line d part (placing_of d part)
by_line d (lines.Restart site found) = restart_line d site found

-- the text of the answer
unfoldable pub answer_of : Drive × Answer → List ℕ
answer_of next = answer_text (past next.0) next.1

-- all lines: what they bring, and the texts of their answers
unfoldable pub driven : Drive → List Line → Drive × List ℕ
driven d [] = (d, [])
driven d (line ∷ rest) =
    let next = by_line d line in
    let last = driven next.0 rest in
    (last.0, answer_of next ++ last.1)

-- the drive by the lines of a file
abbrev pub drive_of : Layout → List Line → Drive
drive_of layout lines = (driven (start layout) lines).0

-- the answer lines
abbrev pub answers_of : Layout → List Line → List ℕ
answers_of layout lines = (driven (start layout) lines).1
