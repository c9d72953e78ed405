-- Which attempts run at which site, and from which vector.
use Rattle.std.specs.Prelude.{ℕ, Bool, false, ◌==◌, if◌then◌else◌, List, [], Option, Some, None, unwrap_or, find, filter, filter_map, reverse}
use Rattle.dm_event.specs.Txns.{same_txn}
use Rattle.dm_event.specs.Layout.{Layout}
use Rattle.dm_event.specs.Vectors.{sites_to}
use Rattle.dm_event.specs.declared.step.Step.{Step}
use Rattle.dm_event.specs.declared.step.Step.TheVariants.{Begin, Commit, End, Fail, Doubt, Restart}
use Rattle.dm_event.specs.declared.step.TxnId.{TxnId}
use Rattle.dm_model.specs.Words.{latest}

-- whether the step begins or ends a run of the attempt at the site
abbrev pub runs_after : ℕ → TxnId → Step → Option Bool
runs_after i t (Begin site txn begin) = if same_txn t txn then Some (site == i) else None
runs_after i t (Commit entry) = if same_txn t entry.txn then Some false else None
runs_after i t (End site txn ops reads) = if same_txn t txn then Some false else None
runs_after i t (Fail site txn cause) = if same_txn t txn then Some false else None
runs_after i t (Doubt site p) = if site == i then Some false else None
runs_after i t (Restart site vector found) = if site == i then Some false else None
runs_after i t s = None

-- the attempt began at the site, and since then neither ended nor was the site in doubt or restarted
abbrev pub runs : ℕ → TxnId → List Step → Bool
runs site txn past = unwrap_or (latest (runs_after site txn) past) false

abbrev pub begun_at : ℕ → Step → Option TxnId
begun_at i (Begin site txn begin) = if site == i then Some txn else None
begun_at i s = None

-- the attempts that run at the site, the earliest begun first
abbrev pub running : ℕ → List Step → List TxnId
running site past = filter (λ txn. runs site txn past) (reverse (filter_map (begun_at site) past))

-- the site at which the attempt runs
abbrev pub run_site : Layout → List Step → TxnId → Option ℕ
run_site layout past txn = find (λ site. runs site txn past) (sites_to layout.sites)

-- the vector of a Begin whose attempt passes
abbrev pub begin_of : (TxnId → Bool) → Step → Option (List ℕ)
begin_of p (Begin site txn begin) = if p txn then Some begin else None
begin_of p s = None

-- the attempt's begin vector
abbrev pub begin_vector : TxnId → List Step → Option (List ℕ)
begin_vector txn past = latest (begin_of (same_txn txn)) past

-- the begin vector of an attempt that has begun
abbrev pub began_at : TxnId → List Step → List ℕ
began_at txn past = unwrap_or (begin_vector txn past) []

-- the begin vector of the session's last Begin
abbrev pub last_begin : ℕ → List Step → Option (List ℕ)
last_begin session past = latest (begin_of (λ txn. txn.session == session)) past
