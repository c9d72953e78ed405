-- What one further step makes of what is known of a session, a partition or a site. The pending step that a Restart keeps is
-- given, and so is the entry that a Reply names.
use Rattle.std.specs.Option.{option_or}
use Rattle.std.specs.Prelude.{ℕ, suc, ◌+◌, ◌==◌, ◌&&◌, not, Bool, false, if◌then◌else◌, List, [], ◌∷◌, ◌++◌, Option, None, unwrap_or, option_map}
use Rattle.std.specs.Prelude.{option_and_then, option_to_list, filter, slice_get, ◌||◌}
use Rattle.dm_event.specs.Layout.{Layout}
use Rattle.dm_event.specs.Vectors.{at, vector_by}
use Rattle.dm_event.specs.declared.attempt.Attempt.{Attempt}
use Rattle.dm_event.specs.declared.attempt.AttemptState.{AttemptState}
use Rattle.dm_event.specs.declared.placing.Placing.{Placing}
use Rattle.dm_event.specs.declared.step.Entry.{Entry}
use Rattle.dm_event.specs.declared.step.Pending.{Pending}
use Rattle.dm_event.specs.declared.step.Said.{Said}
use Rattle.dm_event.specs.declared.step.Said.TheVariants as said
use Rattle.dm_event.specs.declared.step.Step.{Step}
use Rattle.dm_event.specs.declared.step.Step.TheVariants.{Reply, Ask, Settle, Begin, Commit, End, Fail, Refresh, Doubt, Restart}
use Rattle.dm_event.specs.declared.step.TxnId.{TxnId}
use Rattle.dm_event.specs.Entries.{commit_vector}
use Rattle.dm_model.specs.Attempts.{Routing, is_reply, is_route, routing_of, state_by, dropped_by}
use Rattle.dm_model.specs.Doubts.{down_after, doubt_at}
use Rattle.dm_model.specs.Floors.{floor_vector}
use Rattle.dm_model.specs.Outcomes.{settled_epochs}
use Rattle.dm_model.specs.Placings.{asked, settled, after_acts}
use Rattle.dm_model.specs.Progress.{is_restart}
use Rattle.dm_model.specs.Runs.{begin_of}
use Rattle.dm_event.specs.Txns.{same_txn}
use Rattle.dm_steps.specs.Adding.{of_origin, join_one, routed_by}
use Rattle.dm_steps.specs.Pendings.{act_of, entry_by}

-- ---- a session

-- how many of its items are answered
abbrev pub next_replies : ℕ → Step → ℕ → ℕ
next_replies c s n = if is_reply c s then suc n else n

-- how many Routes its current item has
abbrev pub next_routes : ℕ → Step → ℕ → ℕ
next_routes c s n = if is_reply c s then 0 else (if is_route c s then suc n else n)

-- its last Route
abbrev pub next_routing : ℕ → Step → Option Routing → Option Routing
next_routing c s last = option_or (routing_of (λ txn. txn.session == c) s) last

-- the current item's last attempt: it has none after a Reply
abbrev pub next_txn : ℕ → Step → Option TxnId → Option TxnId
next_txn c s txn = if is_reply c s then None else option_or (routed_by c s) txn

-- how the current item stands
abbrev pub next_state : ℕ → Step → AttemptState → AttemptState
next_state c s now = unwrap_or (state_by c s) (dropped_by s now)

-- both
abbrev pub next_attempt : ℕ → Step → Attempt → Attempt
next_attempt c s now = record { txn = next_txn c s now.txn; state = next_state c s now.state }

-- the vector of its last Begin
abbrev pub next_begin : ℕ → Step → Option (List ℕ) → Option (List ℕ)
next_begin c s begin = option_or (begin_of (λ t. t.session == c) s) begin

-- what an outcome adds to what the session has seen, where the entry that it names is given, and the session's last begin
-- vector
abbrev pub seen_by : Said → Option Entry → Option (List ℕ) → Option (List ℕ)
seen_by (said.Committed site seq) entry begin = option_map commit_vector entry
seen_by (said.Read site) entry begin = begin
seen_by other entry begin = None

-- what it has seen
abbrev pub next_seen : ℕ → Step → Option Entry → Option (List ℕ) → List ℕ → List ℕ
next_seen c (Reply session number said) entry begin seen = if session == c then join_one seen (seen_by said entry begin) else seen
next_seen c s entry begin seen = seen

-- ---- what a session's last Route has come to

-- the last epoch under which the partition stood settled at the site, at the session's last Route or later
abbrev pub last_settled : Layout → List Step → ℕ → ℕ → ℕ → Option ℕ
last_settled layout past session part site = slice_get (settled_epochs layout past session part site) 0

-- the same, where the epoch is given under which the partition is settled at the site after the step
abbrev pub next_settled : ℕ → Step → Option ℕ → Option ℕ → Option ℕ
next_settled c s now last = option_or now (if is_route c s then None else last)

-- the site was restarted after the session's last Route
abbrev pub next_restarted : ℕ → ℕ → Step → Bool → Bool
next_restarted c i s before = if is_route c s then false else is_restart i s || before

-- ---- a partition

-- where it is placed
abbrev pub next_placing : ℕ → Step → Option Pending → Placing → Placing
next_placing p (Ask part epoch to txn) kept now = if part == p then asked now to else now
next_placing p (Settle part epoch) kept now = if part == p then settled now else now
next_placing p s kept now = after_acts p (option_to_list (act_of s kept)) now

-- ---- a site

-- whether it is down
abbrev pub next_down : ℕ → Step → Bool → Bool
next_down i s down = unwrap_or (down_after i s) down

-- what its last Doubt left open
abbrev pub next_pending : ℕ → Step → Option Pending → Option Pending
next_pending i s last = option_or (doubt_at i s) last

-- how many entries the origin has
abbrev pub next_count : ℕ → Step → Option Pending → ℕ → ℕ
next_count j s kept n = n + of_origin j (entry_by s kept)

-- how many it has of another origin: as many as a Restart sets, and one more with a Refresh
abbrev pub next_refreshed : ℕ → ℕ → Step → ℕ → ℕ
next_refreshed i j (Restart site vector found) n = if site == i then at vector j else n
next_refreshed i j (Refresh site origin) n = if (site == i) && (origin == j) then suc n else n
next_refreshed i j s n = n

-- how many entries of the origin the site has
abbrev pub next_reached : ℕ → ℕ → Step → Option Pending → ℕ → ℕ
next_reached i j s kept n = if i == j then next_count i s kept n else next_refreshed i j s n

-- its vector
abbrev pub next_vector : ℕ → ℕ → Step → Option Pending → List ℕ → List ℕ
next_vector count i s kept v = vector_by count (λ j. next_reached i j s kept (at v j))

-- its floor
abbrev pub next_floor : ℕ → Step → Option Pending → List ℕ → List ℕ
next_floor i s kept v = join_one v (option_and_then (floor_vector i) (act_of s kept))

-- the others
abbrev pub without : TxnId → List TxnId → List TxnId
without t ts = filter (λ u. not (same_txn u t)) ts

-- the attempts that run at the site, the earliest begun first
abbrev pub next_running : ℕ → Step → List TxnId → List TxnId
next_running i (Begin site txn begin) ts = if site == i then ts ++ txn ∷ [] else ts
next_running i (Commit entry) ts = without entry.txn ts
next_running i (End site txn ops reads) ts = without txn ts
next_running i (Fail site txn cause) ts = without txn ts
next_running i (Doubt site p) ts = if site == i then [] else ts
next_running i (Restart site vector found) ts = if site == i then [] else ts
next_running i s ts = ts
