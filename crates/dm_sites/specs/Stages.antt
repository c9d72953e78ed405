-- What comes of a call at a site, in what the session's pass has seen.
use Rattle.std.specs.Prelude.{ℕ, ◌≡◌, ◌≢◌, List, [], IsTrue}
use Rattle.dm_desk.specs.declared.answers.CommitAnswer.{CommitAnswer}
use Rattle.dm_desk.specs.declared.answers.CommitAnswer.TheVariants as committed
use Rattle.dm_event.specs.Layout.{is_site}
use Rattle.dm_event.specs.Vectors.{AtMost}
use Rattle.dm_event.specs.declared.actor.Actor.TheVariants.{Session}
use Rattle.dm_event.specs.declared.placing.Placing.{Placing}
use Rattle.dm_event.specs.declared.placing.Placing.TheVariants.{Granted}
use Rattle.dm_event.specs.declared.step.Cause.{Cause}
use Rattle.dm_event.specs.declared.step.Cause.TheVariants as cause
use Rattle.dm_event.specs.declared.step.Found.{Found}
use Rattle.dm_event.specs.declared.step.Op.{Op}
use Rattle.dm_event.specs.declared.step.Step.TheVariants.{Begin, Fail, Moved, Restart}
use Rattle.dm_event.specs.declared.step.TxnId.{TxnId}
use Rattle.dm_event.specs.declared.step.Want.TheVariants as want
use Rattle.dm_invariant.specs.Running.{Going, RoutedFor}
use Rattle.dm_invariant.specs.Stations.{Did, Rested, View, layout_of}
use Rattle.dm_site.specs.Answers.{CommittedAs, GaveUp, Saw, WasDropped, placing_in}
use Rattle.dm_sites.specs.declared.handing.Freed.{Freed}
use Rattle.dm_sites.specs.declared.handing.Freed.TheVariants as freed
use Rattle.dm_sites.specs.declared.handing.Given.{Given}
use Rattle.dm_sites.specs.declared.handing.Given.TheVariants as given
use Rattle.dm_sites.specs.declared.running.Closed.{Closed}
use Rattle.dm_sites.specs.declared.running.Closed.TheVariants as closed
use Rattle.dm_sites.specs.declared.running.Started.{Started}
use Rattle.dm_sites.specs.declared.running.Started.TheVariants as started
use Rattle.dm_sites.specs.declared.stop.Stop.{Stop}
use Rattle.dm_sites.specs.declared.stop.Stop.TheVariants as stop

-- ---- what stops an attempt

-- a cause that lies in the log of the site
abbrev pub IsLogCause : ℕ → Cause → Type 0
IsLogCause site (cause.Log at) = at ≡ site
IsLogCause site (cause.Damage at place read written) = (at ≡ site) × (read ≢ written)
IsLogCause site other = ⊥

-- the attempt failed at the site for its log
abbrev pub FailedAt : ℕ → TxnId → Cause → View → View → Type 0
FailedAt site txn why old new =
    Did (Session txn.session) old new (Fail site txn why) × IsLogCause site why × IsTrue (is_site (layout_of new) site)

-- it failed at some site, or nothing of the session came
abbrev pub StoppedAs : TxnId → View → View → Stop → Type 0
StoppedAs on old new (stop.Failed why) = (site : ℕ) × FailedAt site on why old new
StoppedAs on old new stop.NoMemory = Rested (Session on.session) old new

-- ---- attempts at the site to which they are routed

abbrev pub StartedAs : ℕ → TxnId → List ℕ → List ℕ → View → View → Started → Type 0
StartedAs to txn keys min old new (started.Begun run) =
    Did (Session txn.session) old new (Begin to txn run.begin)
    × (run ≡ record { txn = txn; site = to; begin = run.begin; declared = keys; ops = []; was = new }) × AtMost min run.begin
StartedAs to txn keys min old new started.Moved = Did (Session txn.session) old new (Moved to txn)

-- the commit's answer, which fails for nothing but the site's log
abbrev pub EndedAs : ℕ → Going → View → View → CommitAnswer → Type 0
EndedAs to run old new (committed.Failed why) = FailedAt to run.txn why old new
EndedAs to run old new answer = CommittedAs run old new answer

-- of a run whose ops were to be these
abbrev pub ClosedAs : ℕ → Going → List Op → View → View → Closed → Type 0
ClosedAs to run ops old new (closed.Answered answer) = EndedAs to (record run { ops = ops }) old new answer
ClosedAs to run ops old new closed.GaveUp = GaveUp run old new
ClosedAs to run ops old new closed.Dropped = WasDropped run.txn old new

-- ---- hand-overs

abbrev pub IsGrantedNow : Placing → Type 0
IsGrantedNow (Granted site epoch) = Unit {0}
IsGrantedNow other = ⊥

abbrev pub FreedAs : TxnId → ℕ → View → View → Freed → Type 0
FreedAs on part old new freed.Released = Rested (Session on.session) old new
FreedAs on part old new (freed.Passed now) = Rested (Session on.session) old new × (placing_in new part ≡ now)

abbrev pub GivenAs : TxnId → ℕ → View → View → Given → Type 0
GivenAs on part old new given.Granted = Rested (Session on.session) old new × IsGrantedNow (placing_in new part)
GivenAs on part old new (given.Passed now) = Rested (Session on.session) old new × (placing_in new part ≡ now)

-- ---- restarts

-- the attempt is routed for a Restart of the site
abbrev pub RoutedHere : TxnId → ℕ → View → Type 0
RoutedHere on site pass = (min : List ℕ) × RoutedFor on want.Restart min site pass

-- the site's Restart came, and the session has seen it
abbrev pub RestartedFor : TxnId → ℕ → View → View → Type 0
RestartedFor on site old new =
    Rested (Session on.session) old new × ((vector : List ℕ) × (found : Found) × Saw old new (Restart site vector found))
