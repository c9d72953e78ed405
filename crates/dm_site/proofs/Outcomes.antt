-- What the caller of a commit is told, through the calls of which it is made.
use Rattle.std.proofs.Common.{ℕ, ◌≡◌, Bool, true, false, List, Option, Some, None, Result, Ok, Err, cond, refl, sym, ap, ◌∙◌, subst}
use Rattle.std.proofs.lemmas.Bool.{eq-eqb}
use Rattle.std.specs.Option.{option_or}
use Rattle.std.specs.Prelude.{◌==◌, reverse, unwrap_or, IfErr, IfOk, OnErr}
use Rattle.atomic_table.specs.Seated.{TableId}
use mathlib.Core.List.{IsPrefix}
use Rattle.dm_chronicle.proofs.Lists.{prefix_refl, prefix_trans}
use Rattle.dm_desk.specs.Telling.{told_commit}
use Rattle.dm_event.specs.Entries.{commit_vector}
use Rattle.dm_event.specs.Layout.{Layout}
use Rattle.dm_event.specs.declared.actor.Actor.{Actor}
use Rattle.dm_event.specs.declared.actor.Actor.TheVariants.{Session, Site}
use Rattle.dm_event.specs.declared.step.Cause.{Cause}
use Rattle.dm_event.specs.declared.step.Cause.TheVariants.{Log}
use Rattle.dm_event.specs.declared.step.Entry.{Entry}
use Rattle.dm_event.specs.declared.step.Pair.{Pair}
use Rattle.dm_event.specs.declared.step.Pending.TheVariants as pending
use Rattle.dm_event.specs.declared.step.Step.{Step}
use Rattle.dm_event.specs.declared.step.Step.TheVariants.{Commit, Doubt, End, Fail}
use Rattle.dm_logdisk.specs.Story.{Both, Story}
use Rattle.dm_model.specs.Doubts.{down_after, is_down}
use Rattle.dm_model.specs.Legal.{Legal}
use Rattle.dm_model.specs.Words.{latest}
use Rattle.dm_others.proofs.Growing.{reverse_snoc}
use Rattle.dm_redo.specs.declared.appending.Appended.{Appended}
use Rattle.dm_redo.specs.declared.appending.Appended.TheVariants as append
use Rattle.dm_invariant.proofs.Crashing.{crashes_add_up}
use Rattle.dm_invariant.proofs.Lively.{keeps_now}
use Rattle.dm_invariant.proofs.Passing.{adds_met, came_did, came_own, came_pass, met_came, met_own, met_pass, went_layout, went_twice}
use Rattle.dm_site.specs.Answers.{CommittedAs, IsEntryOf}
use Rattle.dm_site.specs.Ends.{Ends, Wrote, reads_of}
use Rattle.dm_invariant.specs.Keeping.{IsSite, Parts}
use Rattle.dm_site.specs.Loading.{MadeLive}
use Rattle.dm_invariant.specs.Logs.{Crashes}
use Rattle.dm_invariant.specs.Running.{Going, IsHere}
use Rattle.dm_invariant.specs.Stations.{Did, Rested, Station, View, Went, layout_of}
use Rattle.dm_invariant.specs.Turning.{Came, Met}
use Rattle.dm_invariant.specs.Writing.{installed_after, let_go, step_after}
use Rattle.dm_desk.specs.declared.answers.CommitAnswer.{CommitAnswer}
use Rattle.dm_desk.specs.declared.answers.CommitAnswer.TheVariants as committed
use Rattle.dm_store.specs.declared.past.Past.{Past}

-- ---- one step or none

pub went_still : (pass : View) → Went pass pass
went_still pass = record { table = refl; fixed = refl; actors = refl; begins = prefix_refl pass.seen }

-- a run is still here where its session did nothing
pub here_on : (site : ℕ) (run : Going) (own0 own1 : View) → IsHere site own0 run → Went own0 own1 → Rested (Session run.txn.session) own0 own1
    → IsHere site own1 run
here_on site run own0 own1 h w r = record {
  site_is = h.site_is;
  fixed = h.fixed ∙ sym w.fixed;
  begins = prefix_trans run.was.seen own0.seen own1.seen h.begins w.begins;
  last = (h.last.0, r ∙ h.last.1);
}

-- a Fail at the site of the run
pub failed_as : (site : ℕ) (run : Going) (own0 pass0 own1 pass1 : View) (cause : Cause) → run.site ≡ site
    → Came (Site site) (Session run.txn.session) own0 pass0 own1 pass1 (Fail site run.txn cause)
    → Did (Session run.txn.session) own0 own1 (Fail run.site run.txn cause)
failed_as site run own0 pass0 own1 pass1 cause s c =
    subst (λ (i : ℕ). Did (Session run.txn.session) own0 own1 (Fail i run.txn cause)) (sym s)
    (came_did (Site site) (Session run.txn.session) own0 pass0 own1 pass1 (Fail site run.txn cause) c (eq-eqb run.txn.session run.txn.session refl))

-- the same station, but for its pass and its locks
pub ends_alike : {D : Type 0} (old new : Station D) → new.number ≡ old.number → new.installed ≡ old.installed → Went old.pass new.pass → Ends old new
ends_alike old new n i w = record {
  number = n;
  installed = subst (λ (installed : List Past). IsPrefix old.installed installed) (sym i) (prefix_refl old.installed);
  pass = w;
}

-- ---- an End

module _ {D E : Type 0} (F : E → Type 0) (old new : Station D) (run : Going) (own0 own1 own2 pass1 : View) (r : Result CommitAnswer E)
    (m : Met (Site old.number) (Session run.txn.session) own0 old.pass own1 pass1)
    (ok : IfOk r (λ a. Came (Site old.number) (Session run.txn.session) own1 pass1 own2 new.pass (End old.number run.txn run.ops (reads_of a))))
    (there : IfOk r (λ a. new ≡ record old { pass = new.pass; locks = let_go run.txn old.locks }))
    (err : IfErr r (λ e. F e × (own2 ≡ own1) × (new ≡ record old { pass = pass1 }))) where
  pub end_same : Ends old new
  end_same = by r ok there err
    where
      by : (r : Result CommitAnswer E)
          → IfOk r (λ a. Came (Site old.number) (Session run.txn.session) own1 pass1 own2 new.pass (End old.number run.txn run.ops (reads_of a)))
          → IfOk r (λ a. new ≡ record old { pass = new.pass; locks = let_go run.txn old.locks })
          → IfErr r (λ e. F e × (own2 ≡ own1) × (new ≡ record old { pass = pass1 }))
          → Ends old new
      by (Ok a) c t e =
          ends_alike old new (ap (λ (at : Station D). at.number) t) (ap (λ (at : Station D). at.installed) t)
          (went_twice old.pass pass1 new.pass (met_pass (Site old.number) (Session run.txn.session) own0 old.pass own1 pass1 m)
          (came_pass (Site old.number) (Session run.txn.session) own1 pass1 own2 new.pass (End old.number run.txn run.ops (reads_of a)) c))
      by (Err x) c t e =
          ends_alike old new (ap (λ (at : Station D). at.number) e.2) (ap (λ (at : Station D). at.installed) e.2)
          (subst (λ (at : Station D). Went old.pass at.pass) (sym e.2) (met_pass (Site old.number) (Session run.txn.session) own0 old.pass own1 pass1 m))

  pub end_own : Went own0 own2
  end_own = went_twice own0 own1 own2 (met_own (Site old.number) (Session run.txn.session) own0 old.pass own1 pass1 m) (by r ok err)
    where
      by : (r : Result CommitAnswer E)
          → IfOk r (λ a. Came (Site old.number) (Session run.txn.session) own1 pass1 own2 new.pass (End old.number run.txn run.ops (reads_of a)))
          → IfErr r (λ e. F e × (own2 ≡ own1) × (new ≡ record old { pass = pass1 })) → Went own1 own2
      by (Ok a) c e = came_own (Site old.number) (Session run.txn.session) own1 pass1 own2 new.pass (End old.number run.txn run.ops (reads_of a)) c
      by (Err x) c e = subst (λ (own : View). Went own1 own) (sym e.1) (went_still own1)

  pub end_told : run.site ≡ old.number → IfOk r (λ a. a ≡ committed.Ended run.begin (reads_of a)) → IfOk r (CommittedAs run own0 own2)
  end_told s told = by r ok told
    where
      answer : (reads : List Pair) → Came (Site old.number) (Session run.txn.session) own0 old.pass own2 new.pass (End old.number run.txn run.ops reads)
          → CommittedAs run own0 own2 (committed.Ended run.begin reads)
      answer reads c = (
        subst (λ (i : ℕ). Did (Session run.txn.session) own0 own2 (End i run.txn run.ops reads)) (sym s)
            (came_did (Site old.number) (Session run.txn.session) own0 old.pass own2 new.pass (End old.number run.txn run.ops reads) c
            (eq-eqb run.txn.session run.txn.session refl)),
        refl,
      )

      by : (r : Result CommitAnswer E)
          → IfOk r (λ a. Came (Site old.number) (Session run.txn.session) own1 pass1 own2 new.pass (End old.number run.txn run.ops (reads_of a)))
          → IfOk r (λ a. a ≡ committed.Ended run.begin (reads_of a)) → IfOk r (CommittedAs run own0 own2)
      by (Ok a) c t =
          subst (λ (a : CommitAnswer). CommittedAs run own0 own2 a) (sym t) (answer (reads_of a)
          (met_came (Site old.number) (Session run.txn.session) own0 old.pass own1 pass1 own2 new.pass (End old.number run.txn run.ops (reads_of a)) m c))
      by (Err x) c t = tt

  pub end_disk : new.disk ≡ old.disk
  end_disk = by r there err
    where
      by : (r : Result CommitAnswer E) → IfOk r (λ a. new ≡ record old { pass = new.pass; locks = let_go run.txn old.locks })
          → IfErr r (λ e. F e × (own2 ≡ own1) × (new ≡ record old { pass = pass1 })) → new.disk ≡ old.disk
      by (Ok a) t e = ap (λ (at : Station D). at.disk) t
      by (Err x) t e = ap (λ (at : Station D). at.disk) e.2

-- ---- an append

-- the store has at least what it had
installs_more : (entry : Entry) (how : Appended) (installed : List Past) → IsPrefix installed (installed_after (pending.Commit entry) how installed)
installs_more entry append.Done installed = (_, refl)
installs_more entry append.Undone installed = prefix_refl installed
installs_more entry append.Doubt installed = prefix_refl installed

-- the session of the entry is the run's
its_session : (run : Going) (entry : Entry) → entry.txn ≡ run.txn → (entry.txn.session == run.txn.session) ≡ true
its_session run entry e = eq-eqb entry.txn.session run.txn.session (ap (λ t. t.session) e)

module _ {D : Type 0} (live new : Station D) (run : Going) (own0 pass0 own2 own3 : View) (s : run.site ≡ live.number)
    (m : Met (Site live.number) (Session run.txn.session) own0 pass0 own2 live.pass) where
  joined : (entry : Entry) (how : Appended)
      → Came (Site live.number) (Session run.txn.session) own2 live.pass own3 new.pass (step_after live.number run.txn (pending.Commit entry) how)
      → Came (Site live.number) (Session run.txn.session) own0 pass0 own3 new.pass (step_after live.number run.txn (pending.Commit entry) how)
  joined entry how c =
      met_came (Site live.number) (Session run.txn.session) own0 pass0 own2 live.pass own3 new.pass
      (step_after live.number run.txn (pending.Commit entry) how) m c

  answer : (entry : Entry) (how : Appended) → IsEntryOf run entry
      → Came (Site live.number) (Session run.txn.session) own0 pass0 own3 new.pass (step_after live.number run.txn (pending.Commit entry) how)
      → CommittedAs run own0 own3 (told_commit how live.number entry.seq (commit_vector entry) entry.reads)
  answer entry append.Done i c = (
    entry,
    came_did (Site live.number) (Session run.txn.session) own0 pass0 own3 new.pass (Commit entry) c (its_session run entry i.0),
    i,
    refl,
    refl,
    refl,
  )
  answer entry append.Undone i c = failed_as live.number run own0 pass0 own3 new.pass (Log live.number) s c
  answer entry append.Doubt i c = (
    entry,
    subst (λ (i : ℕ). Did (Session run.txn.session) own0 own3 (Doubt i (pending.Commit entry))) (sym s)
        (came_did (Site live.number) (Session run.txn.session) own0 pass0 own3 new.pass (Doubt live.number (pending.Commit entry)) c
        (its_session run entry i.0)),
    i,
  )

  pub logged_told : {E : Type 0} (r : Result CommitAnswer E) → IfOk r (Wrote run live new own2 own3) → IfOk r (CommittedAs run own0 own3)
  logged_told (Ok a) w = subst (λ (a : CommitAnswer). CommittedAs run own0 own3 a) (sym w.3) (answer w.0 w.1 w.2 (joined w.0 w.1 w.4))
  logged_told (Err x) w = tt

module _ {D E : Type 0} (F : E → Type 0) (live new : Station D) (run : Going) (own2 own3 : View) (r : Result CommitAnswer E)
    (ok : IfOk r (Wrote run live new own2 own3))
    (err : IfErr r (λ e. F e × Met (Site live.number) (Session run.txn.session) own2 live.pass own3 new.pass)) where
  pub logged_own : Went own2 own3
  logged_own = by r ok err
    where
      by : (r : Result CommitAnswer E) → IfOk r (Wrote run live new own2 own3)
          → IfErr r (λ e. F e × Met (Site live.number) (Session run.txn.session) own2 live.pass own3 new.pass) → Went own2 own3
      by (Ok a) w e =
          came_own (Site live.number) (Session run.txn.session) own2 live.pass own3 new.pass (step_after live.number run.txn (pending.Commit w.0) w.1) w.4
      by (Err x) w e = met_own (Site live.number) (Session run.txn.session) own2 live.pass own3 new.pass e.1

  pub logged_pass : Went live.pass new.pass
  logged_pass = by r ok err
    where
      by : (r : Result CommitAnswer E) → IfOk r (Wrote run live new own2 own3)
          → IfErr r (λ e. F e × Met (Site live.number) (Session run.txn.session) own2 live.pass own3 new.pass) → Went live.pass new.pass
      by (Ok a) w e =
          came_pass (Site live.number) (Session run.txn.session) own2 live.pass own3 new.pass (step_after live.number run.txn (pending.Commit w.0) w.1) w.4
      by (Err x) w e = met_pass (Site live.number) (Session run.txn.session) own2 live.pass own3 new.pass e.1

  pub logged_same : (old : Station D) → new.number ≡ live.number → live.number ≡ old.number → live.installed ≡ old.installed
      → OnErr r (new.installed ≡ live.installed) → Went old.pass live.pass → Ends old new
  logged_same old n l i kept w = record {
    number = n ∙ l;
    installed = subst (λ (installed : List Past). IsPrefix installed new.installed) i (by r ok kept);
    pass = went_twice old.pass live.pass new.pass w logged_pass;
  }
    where
      by : (r : Result CommitAnswer E) → IfOk r (Wrote run live new own2 own3) → OnErr r (new.installed ≡ live.installed)
          → IsPrefix live.installed new.installed
      by (Ok a) w e = subst (λ (installed : List Past). IsPrefix live.installed installed) (sym w.5) (installs_more w.0 w.1 live.installed)
      by (Err x) w e = subst (λ (installed : List Past). IsPrefix live.installed installed) (sym e) (prefix_refl live.installed)

-- where the commit is in doubt, the site is down
pub logged_down : {D E : Type 0} (live new : Station D) (site : ℕ) (run : Going) (own2 own3 : View) (r : Result CommitAnswer E) → live.number ≡ site
    → IfOk r (Wrote run live new own2 own3) → IfOk r (λ a. a ≡ committed.InDoubt → is_down site (reverse new.pass.seen) ≡ true)
logged_down live new site run own2 own3 (Err x) n w = tt
logged_down live new site run own2 own3 (Ok a) n w = λ d. by w.1 (sym w.3 ∙ d) w.4
  where
    by : (how : Appended) → told_commit how live.number w.0.seq (commit_vector w.0) w.0.reads ≡ committed.InDoubt
        → Came (Site live.number) (Session run.txn.session) own2 live.pass own3 new.pass (step_after live.number run.txn (pending.Commit w.0) how)
        → is_down site (reverse new.pass.seen) ≡ true
    by append.Done d c = absurd (cc (d))
    by append.Undone d c = absurd (cc (d))
    by append.Doubt d c =
        ap (λ (v : View). is_down site (reverse v.seen)) c.pass
        ∙ (ap (λ (past : List Step). is_down site past) (reverse_snoc c.turn (Doubt live.number (pending.Commit w.0)))
        ∙ ap (λ (b : Bool). unwrap_or (option_or (cond b (Some true) None) (latest (down_after site) (reverse c.turn))) false) (eq-eqb live.number site n))

-- ---- a log that was made live

module _ {D : Type 0} (at live : Station D) {inside run : Going} (own1 own2 : View) (v : inside ≡ run) where
  pub live_met : (o : Option Cause) → o ≡ None → MadeLive inside.txn at live own1 own2 o
      → Met (Site at.number) (Session run.txn.session) own1 at.pass own2 live.pass
  live_met o n made =
      subst (λ (run : Going). Met (Site at.number) (Session run.txn.session) own1 at.pass own2 live.pass) v
      (subst (λ (o : Option Cause). MadeLive inside.txn at live own1 own2 o) n made).2

  pub live_came : (o : Option Cause) (why : Cause) → o ≡ Some why → MadeLive inside.txn at live own1 own2 o
      → Came (Site at.number) (Session run.txn.session) own1 at.pass own2 live.pass (Fail at.number run.txn why)
  live_came o why n made =
      subst (λ (run : Going). Came (Site at.number) (Session run.txn.session) own1 at.pass own2 live.pass (Fail at.number run.txn why)) v
      (subst (λ (o : Option Cause). MadeLive inside.txn at live own1 own2 o) n made).1

-- a crash while it was, or while more was written
pub live_crash : {D : Type 0} {table : TableId} {opened : List ℕ} {parts : Parts} (site : ℕ) (here live : Station D) → here ≡ live
    → IsSite table opened here.number here.pass parts → live.number ≡ site → (session : Actor) (own1 own2 pass1 new : View)
    → Met (Site site) session own1 pass1 own2 live.pass → Went live.pass new → (before between now : Option Story)
    → Both (Crashes site pass1 live.pass) before between → Both (Crashes live.number live.pass new) between now → Both (Crashes site pass1 new) before now
live_crash {D} {table} {opened} {parts} site here live e s n session own1 own2 pass1 new m w before between now a b =
    crashes_add_up site pass1 live.pass new before between now (sym (went_layout live.pass new w))
    (adds_met (Site site) pass1 live.pass m.turn m.of_site m.pass)
    (subst (λ (layout : Layout). Legal layout live.pass.seen) (sym (went_layout live.pass new w))
    (subst (λ (at : Station D). Legal (layout_of at.pass) at.pass.seen) e (keeps_now table opened here.number here.pass parts s).legal)) w.begins a
    (subst (λ (i : ℕ). Both (Crashes i live.pass new) between now) n b)
