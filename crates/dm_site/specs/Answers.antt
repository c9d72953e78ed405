-- What the answers of a site tell.
use Rattle.std.specs.Prelude.{◌≡◌, ◌⊎◌, ℕ, ℤ, List, [], ◌∷◌, ◌++◌, Some, None, reverse, IsTrue, IsFalse}
use mathlib.Core.List.{IsPrefix}
use Rattle.dm_body.specs.Answer.{answer_of}
use Rattle.dm_body.specs.declared.overlay.OpResult.TheVariants as done
use Rattle.dm_event.specs.Entries.{commit_vector}
use Rattle.dm_event.specs.Vectors.{AtMost}
use Rattle.dm_event.specs.declared.actor.Actor.TheVariants.{Session, Site}
use Rattle.dm_event.specs.declared.attempt.AttemptState.TheVariants as stands
use Rattle.dm_event.specs.declared.placing.Placing.{Placing}
use Rattle.dm_event.specs.declared.placing.Placing.TheVariants as placing
use Rattle.dm_event.specs.declared.step.Cause.TheVariants as cause
use Rattle.dm_event.specs.declared.step.Entry.{Entry}
use Rattle.dm_event.specs.declared.step.Op.{Op}
use Rattle.dm_event.specs.declared.step.Pending.TheVariants as pending
use Rattle.dm_event.specs.declared.step.Step.{Step}
use Rattle.dm_event.specs.declared.step.Step.TheVariants.{Begin, Moved, Commit, End, Fail, Refresh, Release, Grant, Doubt, Restart}
use Rattle.dm_event.specs.declared.step.TxnId.{TxnId}
use Rattle.dm_event.specs.declared.step.Want.{Want}
use Rattle.dm_event.specs.declared.step.Want.TheVariants as want
use Rattle.dm_model.specs.Allowed.{elsewhere, next_refresh, runner}
use Rattle.dm_model.specs.Attempts.{state}
use Rattle.dm_model.specs.Bodies.{body}
use Rattle.dm_model.specs.Doubts.{is_down}
use Rattle.dm_model.specs.Placings.{placing as placing_of}
use Rattle.dm_model.specs.Progress.{site_vector}
use Rattle.dm_model.specs.Runs.{runs}
use Rattle.dm_model.specs.Values.{value}
use Rattle.dm_invariant.specs.Running.{Going, RoutedFor}
use Rattle.dm_invariant.specs.Stations.{View, Went, layout_of, Rested, Did}
use Rattle.dm_site.specs.declared.answers.BeginAnswer.{BeginAnswer}
use Rattle.dm_site.specs.declared.answers.BeginAnswer.TheVariants as begun
use Rattle.dm_desk.specs.declared.answers.CatchAnswer.{CatchAnswer}
use Rattle.dm_desk.specs.declared.answers.CatchAnswer.TheVariants as caught
use Rattle.dm_desk.specs.declared.answers.CommitAnswer.{CommitAnswer}
use Rattle.dm_desk.specs.declared.answers.CommitAnswer.TheVariants as committed
use Rattle.dm_desk.specs.declared.answers.GrantAnswer.{GrantAnswer}
use Rattle.dm_desk.specs.declared.answers.GrantAnswer.TheVariants as granted
use Rattle.dm_desk.specs.declared.answers.OpAnswer.{OpAnswer}
use Rattle.dm_desk.specs.declared.answers.OpAnswer.TheVariants as answer
use Rattle.dm_desk.specs.declared.answers.RefreshAnswer.{RefreshAnswer}
use Rattle.dm_desk.specs.declared.answers.RefreshAnswer.TheVariants as refreshed
use Rattle.dm_desk.specs.declared.answers.ReleaseAnswer.{ReleaseAnswer}
use Rattle.dm_desk.specs.declared.answers.ReleaseAnswer.TheVariants as released
use Rattle.dm_desk.specs.declared.answers.RestartAnswer.{RestartAnswer}
use Rattle.dm_desk.specs.declared.answers.RestartAnswer.TheVariants as restarted

-- the site's own steps in the first pass's list, and one more in the second's
abbrev pub SiteDid : ℕ → View → View → Step → Type 0
SiteDid site old new step = Did (Site site) old new step

abbrev pub SiteRested : ℕ → View → View → Type 0
SiteRested site old new = Rested (Site site) old new

-- the site is down in what the pass has seen
abbrev pub IsDownIn : View → ℕ → Type 0
IsDownIn pass site = IsTrue (is_down site (reverse pass.seen))

abbrev pub IsUpIn : View → ℕ → Type 0
IsUpIn pass site = IsFalse (is_down site (reverse pass.seen))

-- ---- refreshes

abbrev pub Refreshed : ℕ → View → View → RefreshAnswer → Type 0
Refreshed site old new (refreshed.Applied origin) = SiteDid site old new (Refresh site origin)
Refreshed site old new refreshed.Nothing = SiteRested site old new × IsUpIn new site × (next_refresh (layout_of new) (reverse new.seen) site ≡ None)
Refreshed site old new refreshed.Down = SiteRested site old new × IsDownIn new site

-- the site is up, and its vector is at least this one
abbrev pub HasReached : ℕ → List ℕ → View → Type 0
HasReached site to pass = IsUpIn pass site × AtMost to (site_vector (layout_of pass).sites (reverse pass.seen) site)

abbrev pub Caught : ℕ → List ℕ → View → CatchAnswer → Type 0
Caught site to pass caught.Reached = HasReached site to pass
Caught site to pass caught.Down = IsDownIn pass site

-- ---- begins

abbrev pub BeganAs : ℕ → View → TxnId → List ℕ → List ℕ → View → View → BeginAnswer → Type 0
BeganAs site pass txn keys min old new (begun.Begun run) =
    Did (Session txn.session) old new (Begin site txn run.begin)
    × (run ≡ record { txn = txn; site = site; begin = run.begin; declared = keys; ops = []; was = new }) × AtMost min run.begin
BeganAs site pass txn keys min old new begun.Moved = Did (Session txn.session) old new (Moved site txn)
BeganAs site pass txn keys min old new (begun.Held by key) =
    Rested (Session txn.session) old new × IsUpIn new site × (elsewhere (layout_of new) (reverse new.seen) site keys ≡ None)
BeganAs site pass txn keys min old new begun.Down = Rested (Session txn.session) old new × IsDownIn pass site

-- ---- runs

-- a Doubt or Restart of its site dropped what the session ran
abbrev pub WasDropped : TxnId → View → View → Type 0
WasDropped txn old new = Rested (Session txn.session) old new × (state txn.session (reverse new.seen) ≡ stands.Dropped)

-- the value that the op reads, after those ops, at the run's begin vector
abbrev pub Reads : Going → Op → OpAnswer → Type 0
Reads run op (answer.Value v) =
    let values : ℕ → ℤ = λ key. value (layout_of run.was) (reverse run.was.seen) key run.begin in done.Value v ≡ answer_of values (body run.ops values) op
Reads run op other = Unit {0}

-- where the attempt was dropped nothing is done, and else, where it runs, the op is, and a read answers what the body says of it
abbrev pub OpDone : Going → Going → Op → View → View → OpAnswer → Type 0
OpDone run now op old new answer.Dropped = (now ≡ run) × WasDropped run.txn old new
OpDone run now op old new other =
    Rested (Session run.txn.session) old new × (now ≡ record run { ops = run.ops ++ op ∷ [] }) × Reads run op other
    × IsTrue (runs run.site run.txn (reverse new.seen))

-- the entry of the run
abbrev pub IsEntryOf : Going → Entry → Type 0
IsEntryOf run entry = (entry.txn ≡ run.txn) × (entry.origin ≡ run.site) × (entry.begin ≡ run.begin) × (entry.ops ≡ run.ops)

abbrev pub CommittedAs : Going → View → View → CommitAnswer → Type 0
CommittedAs run old new (committed.Committed seq vector reads) =
    (entry : Entry) × Did (Session run.txn.session) old new (Commit entry) × IsEntryOf run entry × (seq ≡ entry.seq) × (vector ≡ commit_vector entry)
    × (reads ≡ entry.reads)
CommittedAs run old new (committed.Ended begin reads) = Did (Session run.txn.session) old new (End run.site run.txn run.ops reads) × (begin ≡ run.begin)
CommittedAs run old new committed.InDoubt = (entry : Entry) × Did (Session run.txn.session) old new (Doubt run.site (pending.Commit entry))
    × IsEntryOf run entry
CommittedAs run old new (committed.Failed why) = Did (Session run.txn.session) old new (Fail run.site run.txn why)
CommittedAs run old new committed.Dropped = WasDropped run.txn old new

-- the attempt failed for want of memory, or had been dropped
abbrev pub GaveUp : Going → View → View → Type 0
GaveUp run old new = Did (Session run.txn.session) old new (Fail run.site run.txn cause.Memory) ⊎ WasDropped run.txn old new

-- ---- hand-overs

-- the partition's placing in what the pass has seen
abbrev pub placing_in : View → ℕ → Placing
placing_in pass part = placing_of (layout_of pass) (reverse pass.seen) part

abbrev pub IsAskedAway : ℕ → Placing → Type 0
IsAskedAway site (placing.Asked at epoch to) = at ≡ site
IsAskedAway site other = ⊥

abbrev pub IsOnItsWay : ℕ → Placing → Type 0
IsOnItsWay site (placing.Between from epoch to vector) = to ≡ site
IsOnItsWay site other = ⊥

-- the attempt's session stands routed by it
abbrev pub IsRoutedIn : View → TxnId → Type 0
IsRoutedIn pass txn = (wanted : Want) × (min : List ℕ) × (at : ℕ) × RoutedFor txn wanted min at pass

abbrev pub ReleasedAs : ℕ → View → View → TxnId → ℕ → View → View → ReleaseAnswer → Type 0
ReleasedAs site was pass on part old new (released.Released vector) =
    Rested (Session on.session) old new × ((epoch : ℕ) × (to : ℕ) × SiteDid site was pass (Release site part epoch to vector)
    × (placing_in new part ≡ placing.Between site epoch to vector))
ReleasedAs site was pass on part old new (released.Running txn) =
    Rested (Session on.session) old new × IsUpIn new site × IsAskedAway site (placing_in new part)
    × (runner (layout_of new) (reverse new.seen) site part ≡ Some txn)
ReleasedAs site was pass on part old new released.Down = Rested (Session on.session) old new × IsDownIn pass site
ReleasedAs site was pass on part old new (released.Passed now) =
    Rested (Session on.session) old new × IsUpIn new site × (placing_in new part ≡ now) × (IsAskedAway site now → ⊥)
ReleasedAs site was pass on part old new released.InDoubt =
    Rested (Session on.session) old new × IsDownIn pass site
    × ((epoch : ℕ) × (to : ℕ) × (vector : List ℕ) × SiteDid site was pass (Doubt site (pending.Release part epoch to vector)))
ReleasedAs site was pass on part old new (released.Failed why) = Did (Session on.session) old new (Fail site on why)

-- what comes of a grant, of a site whose pass had seen `mid` once it had caught up
abbrev pub GrantedFrom : ℕ → View → View → TxnId → ℕ → View → View → GrantAnswer → Type 0
GrantedFrom site mid pass on part old new granted.Granted =
    Rested (Session on.session) old new × ((epoch : ℕ) × (vector : List ℕ) × SiteDid site mid pass (Grant site part epoch vector)
    × (placing_in new part ≡ placing.Granted site epoch))
GrantedFrom site mid pass on part old new granted.Down = Rested (Session on.session) old new × IsDownIn pass site
GrantedFrom site mid pass on part old new (granted.Passed now) =
    Rested (Session on.session) old new × IsUpIn new site × (placing_in new part ≡ now) × (IsOnItsWay site now → ⊥)
GrantedFrom site mid pass on part old new granted.InDoubt =
    Rested (Session on.session) old new × IsDownIn pass site
    × ((epoch : ℕ) × (vector : List ℕ) × SiteDid site mid pass (Doubt site (pending.Grant part epoch vector)))
GrantedFrom site mid pass on part old new (granted.Failed why) = Did (Session on.session) old new (Fail site on why)

-- where it had to catch up, Refreshes of its own came first
abbrev pub GrantedAs : ℕ → View → View → TxnId → ℕ → View → View → GrantAnswer → Type 0
GrantedAs site was pass on part old new answer = (mid : View) × Went was mid × GrantedFrom site mid pass on part old new answer

-- ---- restarts

-- the step came after all that the one pass had seen, and the other has seen it
abbrev pub Saw : View → View → Step → Type 0
Saw old new step = (turn : List Step) × IsPrefix old.seen turn × (new.seen ≡ turn ++ step ∷ [])

-- the site is down in what its pass has seen, or the attempt is routed for its Restart
abbrev pub MayRestart : ℕ → View → TxnId → View → Type 0
MayRestart site pass on session = IsDownIn pass site ⊎ ((min : List ℕ) × RoutedFor on want.Restart min site session)

abbrev pub RestartedAs : ℕ → View → View → TxnId → View → View → RestartAnswer → Type 0
RestartedAs site was pass on old new (restarted.Restarted vector found) = Rested (Session on.session) old new
    × SiteDid site was pass (Restart site vector found) × Saw old new (Restart site vector found)
RestartedAs site was pass on old new (restarted.Failed why) = Did (Session on.session) old new (Fail site on why)
