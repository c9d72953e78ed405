-- Which step may follow a past, and why another may not: each row with what it reads of the past.
use Rattle.std.specs.Option.{option_map_or, option_or}
use Rattle.std.specs.Prelude.{ℕ, ◌+◌, ◌≡◌, ◌==◌, Bool, false, nat_lt, ◌&&◌, ◌||◌, not, List, [], ◌∷◌, ◌++◌, Option, None, is_none, is_some, option_map}
use Rattle.std.specs.Prelude.{option_and_then, option_to_list, find, reverse}
use Rattle.dm_event.specs.Layout.{Layout}
use Rattle.dm_event.specs.Vectors.{at, sites_to, first_above, raised}
use Rattle.dm_event.specs.declared.step.Choice.{Choice}
use Rattle.dm_event.specs.declared.step.Choice.TheVariants.{Best, Hand}
use Rattle.dm_event.specs.declared.step.Entry.{Entry}
use Rattle.dm_event.specs.declared.step.Found.{Found}
use Rattle.dm_event.specs.declared.step.Found.TheVariants.{Clean, Kept, Lost}
use Rattle.dm_event.specs.declared.step.Op.{Op}
use Rattle.dm_event.specs.declared.step.Pair.{Pair}
use Rattle.dm_event.specs.declared.step.Pending.TheVariants as pending
use Rattle.dm_event.specs.declared.step.Said.{Said}
use Rattle.dm_event.specs.declared.step.Step.{Step}
use Rattle.dm_event.specs.declared.step.Step.TheVariants.{Route, Reply, Ask, Settle, Begin, Moved, Commit, End, Fail, Refresh, Release, Grant, Doubt, Restart}
use Rattle.dm_event.specs.declared.step.TxnId.{TxnId}
use Rattle.dm_event.specs.declared.step.Want.{Want}
use Rattle.dm_event.specs.declared.step.Want.TheVariants as want
use Rattle.dm_event.specs.declared.why.Why.{Why}
use Rattle.dm_event.specs.declared.why.Why.TheVariants as why
use Rattle.dm_model.specs.Acts.{entries, entry_at}
use Rattle.dm_model.specs.Attempts.{replies, routes, attempt, declared, routed, routed_txn}
use Rattle.dm_model.specs.Bodies.{ran_at, first_undeclared}
use Rattle.dm_model.specs.Choices.{parts_in_order, due_for}
use Rattle.dm_model.specs.Clauses.{Clause, holds, first}
use Rattle.dm_model.specs.Closed.{unclosed}
use Rattle.dm_model.specs.Doubts.{step_of, pending_at, is_down}
use Rattle.dm_model.specs.Floors.{floor}
use Rattle.dm_model.specs.Outcomes.{may_say}
use Rattle.dm_model.specs.Placings.{placing, may_begin_now}
use Rattle.dm_model.specs.Progress.{entry_count, site_vector}
use Rattle.dm_model.specs.Rows.{BeginReads, CommitReads, route_row, reply_row, begin_row, moved_row, commit_row, end_row, fail_row, refresh_row, restart_row}
use Rattle.dm_model.specs.Rows.{ask_row, release_row, grant_row, settle_row}
use Rattle.dm_model.specs.Runs.{running, run_site, began_at}
use Rattle.dm_model.specs.Sessions.{session_vector}
use Rattle.dm_model.specs.Shape.{is_shaped}
use Rattle.dm_model.specs.Tests.{is_among, same_choice}

-- the least of the keys' partitions on which the site may not begin
abbrev pub elsewhere : Layout → List Step → ℕ → List ℕ → Option ℕ
elsewhere layout past site keys = find (λ part. not (may_begin_now (placing layout past part) site)) (parts_in_order layout keys)

-- the first of the keys that is also among the others
abbrev pub common_key : List ℕ → List ℕ → Option ℕ
common_key keys others = find (is_among others) keys

-- the first of the attempts that declares one of the keys, with the first such key
abbrev pub holder_among : List ℕ → List TxnId → List Step → Option (TxnId × ℕ)
holder_among keys [] past = None
holder_among keys (txn ∷ more) past = option_or (option_map (λ key. (txn, key)) (common_key keys (declared txn past))) (holder_among keys more past)

-- the earliest begun attempt at the site that declares one of the keys
abbrev pub holder : ℕ → List ℕ → List Step → Option (TxnId × ℕ)
holder site keys past = holder_among keys (running site past) past

-- the earliest begun attempt at the site that declares a key of the partition
abbrev pub runner : Layout → List Step → ℕ → ℕ → Option TxnId
runner layout past site part = find (λ txn. is_among (parts_in_order layout (declared txn past)) part) (running site past)

-- the least site, other than the entry's origin, of which the vector has fewer entries than the entry's begin vector
abbrev pub missing_for : ℕ → List ℕ → Entry → Option ℕ
missing_for count v entry = find (λ site. not (site == entry.origin) && nat_lt (at v site) (at entry.begin site)) (sites_to count)

-- the entry of the origin that the site would take over next
abbrev pub next_entry : Layout → List Step → ℕ → ℕ → Option Entry
next_entry layout past site origin = entry_at origin (at (site_vector layout.sites past site) origin + 1) past

-- a hand-over of the partition is wanted by a Place of it, and by a transaction with a key of it that was not sent to where
-- all its partitions were
abbrev pub wants_part : Layout → ℕ → Choice → Want → Bool
wants_part layout part choice (want.Txn keys) = (same_choice choice Best || same_choice choice Hand) && is_among (parts_in_order layout keys) part
wants_part layout part choice (want.Place p) = p == part
wants_part layout part choice want.Restart = false

-- the past with the pending step, where the Restart keeps it
abbrev pub with_kept : ℕ → Found → List Step → List Step
with_kept site Kept past = option_to_list (option_map (step_of site) (pending_at site past)) ++ past
with_kept site Clean past = past
with_kept site Lost past = past

module _ (layout : Layout) (past : List Step) where
  abbrev pub route_clauses : TxnId → Want → List ℕ → ℕ → Choice → List Clause
  route_clauses txn want min site choice =
      route_row (replies txn.session past + 1) (routes txn.session past + 1) (session_vector layout.sites past txn.session)
      (due_for layout past txn.session want site) (attempt txn.session past) txn min site choice

  abbrev pub reply_clauses : ℕ → ℕ → Said → List Clause
  reply_clauses session number said = reply_row (replies session past + 1) (may_say layout past session said) number

  abbrev pub begin_clauses : ℕ → TxnId → List ℕ → List Clause
  begin_clauses site txn begin =
      let reads : BeginReads = record {
        to = option_map (λ r. r.site) (routed_txn txn past);
        down = is_down site past;
        elsewhere = elsewhere layout past site (declared txn past);
        vector = site_vector layout.sites past site;
        behind = option_and_then (λ r. first_above r.min begin) (routed_txn txn past);
        holder = holder site (declared txn past) past;
      } in
      begin_row reads site begin

  abbrev pub moved_clauses : ℕ → TxnId → List Clause
  moved_clauses site txn =
      moved_row (option_map (λ r. r.site) (routed_txn txn past)) (is_down site past) (elsewhere layout past site (declared txn past)) site

  abbrev pub commit_clauses : Entry → List Clause
  commit_clauses entry =
      let reads : CommitReads = record {
        runs = run_site layout past entry.txn;
        due = entry_count entry.origin past + 1;
        begin = began_at entry.txn past;
        undeclared = first_undeclared (declared entry.txn past) entry.ops;
        ran = ran_at layout past entry.begin entry.ops;
      } in
      commit_row reads entry

  abbrev pub end_clauses : ℕ → TxnId → List Op → List Pair → List Clause
  end_clauses site txn ops reads = end_row (run_site layout past txn) (ran_at layout past (began_at txn past) ops).reads site ops reads

  abbrev pub fail_clauses : ℕ → TxnId → List Clause
  fail_clauses site txn = fail_row (is_some (routed txn past)) (run_site layout past txn) site

  abbrev pub refresh_clauses : ℕ → ℕ → List Clause
  refresh_clauses site origin =
      refresh_row (is_down site past) (is_some (next_entry layout past site origin))
      (option_and_then (missing_for layout.sites (site_vector layout.sites past site)) (next_entry layout past site origin)) site origin

  -- a kept pending step counts already
  abbrev pub restart_clauses : ℕ → List ℕ → Found → List Clause
  restart_clauses site vector found =
      let kept = with_kept site found past in
      restart_row (is_down site past) (entry_count site kept) (first_above (floor layout.sites kept site) vector)
      (first_above vector (raised (site_vector layout.sites past site) site (entry_count site kept)))
      (option_map (λ e. (e.origin, e.seq)) (unclosed vector (reverse (entries kept)))) site vector found

  abbrev pub ask_clauses : ℕ → ℕ → ℕ → TxnId → List Clause
  ask_clauses part epoch to txn =
      ask_row (is_some (routed txn past)) (option_map_or (λ r. (r.site == to) && wants_part layout part r.choice r.want) (routed txn past) false)
      (placing layout past part) part epoch to

  abbrev pub release_clauses : ℕ → ℕ → ℕ → ℕ → List ℕ → List Clause
  release_clauses site part epoch to vector =
      release_row (placing layout past part) (is_down site past) (runner layout past site part) (site_vector layout.sites past site) site epoch to vector

  abbrev pub grant_clauses : ℕ → ℕ → ℕ → List ℕ → List Clause
  grant_clauses site part epoch vector =
      grant_row (placing layout past part) (is_down site past) (first_above vector (site_vector layout.sites past site)) site epoch vector

  abbrev pub settle_clauses : ℕ → ℕ → List Clause
  settle_clauses part epoch = settle_row (placing layout past part) epoch

  -- a Doubt is judged as its pending step would be
  abbrev pub clauses : Step → List Clause
  clauses (Route txn want min site choice) = route_clauses txn want min site choice
  clauses (Reply session number said) = reply_clauses session number said
  clauses (Ask part epoch to txn) = ask_clauses part epoch to txn
  clauses (Settle part epoch) = settle_clauses part epoch
  clauses (Begin site txn begin) = begin_clauses site txn begin
  clauses (Moved site txn) = moved_clauses site txn
  clauses (Commit entry) = commit_clauses entry
  clauses (End site txn ops reads) = end_clauses site txn ops reads
  clauses (Fail site txn cause) = fail_clauses site txn
  clauses (Refresh site origin) = refresh_clauses site origin
  clauses (Release site part epoch to vector) = release_clauses site part epoch to vector
  clauses (Grant site part epoch vector) = grant_clauses site part epoch vector
  clauses (Doubt site (pending.Commit entry)) = commit_clauses entry
  clauses (Doubt site (pending.Release part epoch to vector)) = release_clauses site part epoch to vector
  clauses (Doubt site (pending.Grant part epoch vector)) = grant_clauses site part epoch vector
  clauses (Restart site vector found) = restart_clauses site vector found

  -- the first of the shape and the clauses that fails
  abbrev pub refusal : Step → Option Why
  refusal s = first (holds (is_shaped layout s) why.Shape ∷ clauses s)

-- no clause fails
abbrev pub Allowed : Layout → List Step → Step → Type 0
Allowed layout past s = refusal layout past s ≡ None

-- the least origin whose next entry the site may take over
abbrev pub next_refresh : Layout → List Step → ℕ → Option ℕ
next_refresh layout past site = find (λ origin. is_none (refusal layout past (Refresh site origin))) (sites_to layout.sites)
