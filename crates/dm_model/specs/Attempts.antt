-- How the items of the sessions stand.
use Rattle.std.specs.Prelude.{ℕ, Bool, true, false, ◌==◌, if◌then◌else◌, List, [], ◌∷◌, Option, Some, None, unwrap_or, option_map}
use Rattle.dm_event.specs.Txns.{same_txn}
use Rattle.dm_event.specs.declared.attempt.Attempt.{Attempt}
use Rattle.dm_event.specs.declared.attempt.AttemptState.{AttemptState}
use Rattle.dm_event.specs.declared.attempt.AttemptState.TheVariants as stands
use Rattle.dm_event.specs.declared.step.Choice.{Choice}
use Rattle.dm_event.specs.declared.step.Pending.TheVariants as pending
use Rattle.dm_event.specs.declared.step.Step.{Step}
use Rattle.dm_event.specs.declared.step.Step.TheVariants.{Route, Reply, Begin, Moved, Commit, End, Fail, Doubt, Restart}
use Rattle.dm_event.specs.declared.step.TxnId.{TxnId}
use Rattle.dm_event.specs.declared.step.Want.{Want}
use Rattle.dm_event.specs.declared.step.Want.TheVariants as want
use Rattle.dm_model.specs.Words.{latest, since, count_of, option_filter}

-- ---- Replies and Routes

abbrev pub is_reply : ℕ → Step → Bool
is_reply c (Reply session number said) = session == c
is_reply c s = false

-- how many of the session's items are answered: the current item has the next number
abbrev pub replies : ℕ → List Step → ℕ
replies session past = count_of (is_reply session) past

abbrev pub is_route : ℕ → Step → Bool
is_route c (Route txn want min site choice) = txn.session == c
is_route c s = false

-- how many Routes the session's current item has
abbrev pub routes : ℕ → List Step → ℕ
routes session past = count_of (is_route session) (since (is_reply session) past)

-- what a Route says
pub record Routing : Type 0 where
  pub txn : TxnId
  pub want : Want
  pub min : List ℕ
  pub site : ℕ
  pub choice : Choice

-- what the step says, if it is a Route whose attempt passes
abbrev pub routing_of : (TxnId → Bool) → Step → Option Routing
routing_of p (Route txn want min site choice) =
    if p txn then Some (record { txn = txn; want = want; min = min; site = site; choice = choice }) else None
routing_of p s = None

-- the last Route of the session
abbrev pub last_routing : ℕ → List Step → Option Routing
last_routing session past = latest (routing_of (λ txn. txn.session == session)) past

-- the Route of the attempt
abbrev pub routing : TxnId → List Step → Option Routing
routing txn past = latest (routing_of (same_txn txn)) past

abbrev pub wanted_keys : Want → List ℕ
wanted_keys (want.Txn keys) = keys
wanted_keys (want.Place part) = []
wanted_keys want.Restart = []

-- the keys that the attempt declares
abbrev pub declared : TxnId → List Step → List ℕ
declared txn past = unwrap_or (option_map (λ r. wanted_keys r.want) (routing txn past)) []

-- ---- the state of the session's current item

-- the state to which a step of the session brings it
abbrev pub state_by : ℕ → Step → Option AttemptState
state_by c (Route txn want min site choice) = if txn.session == c then Some (stands.Routed site choice) else None
state_by c (Reply session number said) = if session == c then Some stands.Unrouted else None
state_by c (Moved site txn) = if txn.session == c then Some stands.Moved else None
state_by c (Begin site txn begin) = if txn.session == c then Some (stands.Running site) else None
state_by c (Commit entry) = if entry.txn.session == c then Some (stands.Committed entry.origin entry.seq) else None
state_by c (End site txn ops reads) = if txn.session == c then Some (stands.Ended site) else None
state_by c (Fail site txn cause) = if txn.session == c then Some (stands.Failed cause) else None
state_by c (Doubt site (pending.Commit entry)) = if entry.txn.session == c then Some (stands.Doubted site) else None
state_by c s = None

-- what runs at the site is dropped
abbrev pub dropped_at : ℕ → AttemptState → AttemptState
dropped_at i (stands.Running site) = if site == i then stands.Dropped else stands.Running site
dropped_at i other = other

-- the state after a step that isn't the session's own: another's Doubt, and each Restart, drops what runs at its site
abbrev pub dropped_by : Step → AttemptState → AttemptState
dropped_by (Doubt site p) before = dropped_at site before
dropped_by (Restart site vector found) before = dropped_at site before
dropped_by s before = before

abbrev pub state : ℕ → List Step → AttemptState
state session [] = stands.Unrouted
state session (step ∷ past) = unwrap_or (state_by session step) (dropped_by step (state session past))

-- the last attempt at the session's current item, which has none before its first Route
abbrev pub attempt : ℕ → List Step → Attempt
attempt session past = record { txn = option_map (λ r. r.txn) (last_routing session (since (is_reply session) past)); state = state session past }

-- ---- Routes of which nothing has come yet

abbrev pub is_routed : AttemptState → Bool
is_routed (stands.Routed site choice) = true
is_routed other = false

-- the session's last Route, where the session stands routed
abbrev pub standing : ℕ → List Step → Option Routing
standing session past = if is_routed (state session past) then last_routing session past else None

-- the attempt's Route, where its session stands routed by it
abbrev pub routed : TxnId → List Step → Option Routing
routed txn past = option_filter (λ r. same_txn txn r.txn) (standing txn.session past)

abbrev pub wants_txn : Want → Bool
wants_txn (want.Txn keys) = true
wants_txn (want.Place part) = false
wants_txn want.Restart = false

-- the same, of a Route for a transaction
abbrev pub routed_txn : TxnId → List Step → Option Routing
routed_txn txn past = option_filter (λ r. wants_txn r.want) (routed txn past)
