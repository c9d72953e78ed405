-- What a site that starts again knows of its turn and of its loaded log, and what comes of it.
use Rattle.std.proofs.Common.{ℕ, ◌≡◌, ◌||◌, Bool, false, List, [], ◌∷◌, Option, Some, None, Result, Ok, Err, refl, sym, ap, ◌∙◌, subst, inl, inr}
use Rattle.std.proofs.lemmas.Bool.{eq-eqb}
use Rattle.std.specs.List.{AllByRecursion as Each}
use Rattle.std.specs.Prelude.{IfErr, IfOk, IfSome, IsNone, IsTrue, OnErr, option_map, reverse}
use Rattle.atomic_table.specs.Seated.{TableId}
use Rattle.dm_chronicle.proofs.Lists.{prefix_refl}
use Rattle.dm_core.specs.Lawful.{Terms}
use Rattle.dm_event.specs.Layout.{Layout}
use Rattle.dm_event.specs.declared.actor.Actor.TheVariants.{Session, Site}
use Rattle.dm_event.specs.declared.step.Cause.{Cause}
use Rattle.dm_event.specs.declared.step.Found.{Found}
use Rattle.dm_event.specs.declared.step.Found.TheVariants.{Clean}
use Rattle.dm_event.specs.declared.step.Step.{Step}
use Rattle.dm_event.specs.declared.step.Step.TheVariants.{Fail, Restart}
use Rattle.dm_event.specs.declared.step.TxnId.{TxnId}
use Rattle.dm_frames.specs.Records.{frames_of, pending_record, records_of}
use Rattle.dm_locks.specs.Claims.{without}
use Rattle.dm_locks.specs.Locks.{Locks}
use Rattle.dm_locks.specs.declared.claim.Claim.{Claim}
use Rattle.dm_logdisk.specs.Story.{Both, IsDurable, Story}
use Rattle.dm_model.specs.Attempts.{routed}
use Rattle.dm_model.specs.Doubts.{is_down, pending_at}
use Rattle.dm_model.specs.Legal.{Legal}
use Rattle.dm_model.specs.Rows.{found_fits}
use Rattle.dm_others.specs.Adding.{AddsOthers}
use Rattle.dm_record.specs.Bytes.{HasRanges}
use Rattle.dm_redo.specs.Comparing.{stood}
use Rattle.dm_redo.specs.Holding.{IsAt}
use Rattle.dm_restart.specs.Histories.{logged}
use Rattle.dm_invariant.proofs.Lively.{down_on, keeps_now, left_adds, left_legal}
use Rattle.dm_invariant.proofs.Crashing.{crashes_add_up}
use Rattle.dm_invariant.proofs.Passing.{came_did, came_own, came_pass, came_rested, met_came, met_own, met_pass, met_rested, site_did}
use Rattle.dm_invariant.proofs.Passing.{went_layout, went_twice}
use Rattle.dm_invariant.proofs.Sessions.{routed_here}
use Rattle.dm_invariant.proofs.Steps.{routed_holds_nothing}
use Rattle.dm_invariant.proofs.Written.{crash_still}
use Rattle.dm_desk.proofs.Starting.{known_logged}
use Rattle.dm_site.proofs.Awaiting.{clean_for, found_in, routed_may_fail, some_there}
use Rattle.dm_site.proofs.Finishing.{crash_later, met_here}
use Rattle.dm_site.specs.Answers.{IsRoutedIn, MayRestart, RestartedAs}
use Rattle.dm_invariant.specs.Keeping.{IsSite, Keeps, Parts}
use Rattle.dm_invariant.specs.Logs.{Crashes, doubted}
use Rattle.dm_desk.specs.Restarting.{IsCleanFor}
use Rattle.dm_site.specs.Restarts.{restart_step}
use Rattle.dm_invariant.specs.Stations.{Rested, Station, View, Went, layout_of, own}
use Rattle.dm_invariant.specs.Turning.{Came, Met, Turned}
use Rattle.dm_invariant.specs.Writing.{MayFail, let_go}
use Rattle.dm_desk.specs.declared.answers.RestartAnswer.{RestartAnswer}
use Rattle.dm_desk.specs.declared.answers.RestartAnswer.TheVariants as answer
use Rattle.dm_store.specs.declared.past.Past.{Past}

-- ---- a load that read the log

-- what it found, against the frames and the one that is awaited, and where the log stands; it changed no pass
pub record Loads (own0 own1 pass0 pass1 : View) (frames : List (List ℕ)) (awaited : Option (List ℕ)) (found : Found) (framed : List (List ℕ)) (gate : ℕ)
    (told : Option Story) : Type 0 where
  pub own_is : own1 ≡ own0
  pub pass_is : pass1 ≡ pass0
  pub clean : found ≡ Clean → awaited ≡ None
  pub no_doubt : awaited ≡ None → found ≡ Clean
  pub stands : IfSome told (λ s. IsAt (stood found frames awaited) gate s × IsDurable s)
  pub framed_is : framed ≡ stood found frames awaited

none_mapped : {X : Type 0} (f : X → List ℕ) (o : Option X) → IsNone o → option_map f o ≡ None
none_mapped f None n = refl
none_mapped f (Some x) n = absurd (cc (n))

none_unmapped : {X : Type 0} (f : X → List ℕ) (o : Option X) → option_map f o ≡ None → IsNone o
none_unmapped f None n = refl
none_unmapped f (Some x) n = absurd (cc (n))

pub loads : {X E : Type 0} (f : X → List ℕ) (pending : Option X) (own0 own1 pass0 pass1 : View) (frames framed : List (List ℕ)) (gate : ℕ)
    (told : Option Story) (r : Result (Result Found Cause) E) (read : Result Found Cause) (found : Found) → r ≡ Ok read → read ≡ Ok found → (L : Type 0)
    → IfOk r (λ r. IfOk r (λ _. (own1 ≡ own0) × (pass1 ≡ pass0) × L))
    → IfOk r (λ r. IfOk r (λ found. IfSome told (λ s. IsAt (stood found frames (option_map f pending)) gate s × IsDurable s)))
    → IfOk r (λ r. IfOk r (λ found. framed ≡ stood found frames (option_map f pending)))
    → IfOk r (λ r. IfOk r (λ found. found ≡ Clean → IsNone pending)) → IfOk r (λ r. IfOk r (λ found. IsNone pending → found ≡ Clean))
    → Loads own0 own1 pass0 pass1 frames (option_map f pending) found framed gate told
loads {X} {E} f pending own0 own1 pass0 pass1 frames framed gate told r read found is there L ok stands records clean none = record {
  own_is = (at_found (λ _. (own1 ≡ own0) × (pass1 ≡ pass0) × L) ok).0;
  pass_is = (at_found (λ _. (own1 ≡ own0) × (pass1 ≡ pass0) × L) ok).1;
  clean = λ c. none_mapped f pending (at_found (λ found. found ≡ Clean → IsNone pending) clean c);
  no_doubt = λ n. at_found (λ found. IsNone pending → found ≡ Clean) none (none_unmapped f pending n);
  stands = at_found (λ found. IfSome told (λ s. IsAt (stood found frames (option_map f pending)) gate s × IsDurable s)) stands;
  framed_is = at_found (λ found. framed ≡ stood found frames (option_map f pending)) records;
}
  where
    at_found : (P : Found → Type 0) → IfOk r (λ r. IfOk r P) → P found
    at_found P h = subst (λ (read : Result Found Cause). IfOk read P) there (subst (λ (r : Result (Result Found Cause) E). IfOk r (λ r. IfOk r P)) is h)

-- ---- before the load

module _ {D : Type 0} {table : TableId} {opened : List ℕ} (here old : Station D) (own0 : View) {parts : Parts} (on : TxnId) (e : here ≡ old)
    (s : IsSite table opened here.number here.pass parts) (m : own0.seen ≡ old.pass.seen) where
  seen_here : own0.seen ≡ here.pass.seen
  seen_here = m ∙ ap (λ (at : Station D). at.pass.seen) (sym e)

  -- the attempt may fail where the log can't be loaded
  pub may_load : IsRoutedIn own0 on → MayFail (layout_of here.pass) here.number on here.pass.seen
  may_load r =
      routed_may_fail (layout_of here.pass) here.number on own0 here.pass (keeps_now table opened here.number here.pass parts s).there r seen_here

  -- and it held nothing
  pub lets_nothing_go : IsRoutedIn own0 on → (locks : Locks) → locks ≡ let_go on parts.locks → locks ≡ parts.locks
  lets_nothing_go (wanted, min, at, r) locks l =
      l
      ∙ ap (λ (cs : List Claim). record parts.locks { holders = cs })
      (ap (without on) k.holders
      ∙ (routed_holds_nothing (layout_of here.pass) (reverse here.pass.seen) here.number on k.legal
      (some_there (routed on (reverse here.pass.seen)) _
      (ap (λ (ss : List Step). routed on (reverse ss)) (sym seen_here) ∙ routed_here on wanted min at own0 r)) ∙ sym k.holders))
    where
      k : Keeps (layout_of here.pass) opened here.number (reverse here.pass.seen) parts
      k = keeps_now table opened here.number here.pass parts s

  -- so a load that fails leaves the store and the locks
  pub failed_alike : {A B E : Type 0} → IsRoutedIn own0 on → (installed : List Past) (locks : Locks) (r : Result (Result A B) E) (read : Result A B) (why : B)
      → r ≡ Ok read → read ≡ Err why → installed ≡ here.installed → IfOk r (λ r. IfErr r (λ _. locks ≡ let_go on parts.locks))
      → parts.locks ≡ here.locks → (installed ≡ old.installed) × (locks ≡ old.locks)
  failed_alike {A} {B} {E} w installed locks r read why is failed i l p = (
    i ∙ ap (λ (at : Station D). at.installed) e,
    lets_nothing_go w locks
        (subst (λ (read : Result A B). IfErr read (λ _. locks ≡ let_go on parts.locks)) failed
        (subst (λ (r : Result (Result A B) E). IfOk r (λ r. IfErr r (λ _. locks ≡ let_go on parts.locks))) is l))
        ∙ (p ∙ ap (λ (at : Station D). at.locks) e),
  )

-- what the site awaits, as it stands
pub awaits_here : {D : Type 0} (here old : Station D) → here ≡ old → (awaited : Option (List ℕ)) → awaited ≡ doubted old.number (reverse old.pass.seen)
    → awaited ≡ doubted here.number (reverse here.pass.seen)
awaits_here {D} here old e awaited a = a ∙ ap (λ (at : Station D). doubted at.number (reverse at.pass.seen)) (sym e)

-- ---- after the load

module _ {D : Type 0} (here old : Station D) (own0 : View) (on : TxnId) (e : here ≡ old) where
  -- where it read the log
  module _ {own1 pass1 : View} {frames framed : List (List ℕ)} {awaited : Option (List ℕ)} {found : Found} {gate : ℕ} {told : Option Story}
      (x : Loads own0 own1 here.pass pass1 frames awaited found framed gate told) where
    -- what is said of the site's past is said of it now
    stands_in : {X : Type 0} (F : ℕ → List Step → X) → F old.number (reverse old.pass.seen) ≡ F here.number (reverse pass1.seen)
    stands_in F =
        ap (λ (at : Station D). F at.number (reverse at.pass.seen)) (sym e) ∙ ap (λ (v : View). F here.number (reverse v.seen)) (sym x.pass_is)

    holds_in : (P : ℕ → List Step → Type 0) → P old.number (reverse old.pass.seen) → P here.number (reverse pass1.seen)
    holds_in P h =
        subst (λ (v : View). P here.number (reverse v.seen)) (sym x.pass_is) (subst (λ (at : Station D). P at.number (reverse at.pass.seen)) (sym e) h)

    module _ (a : awaited ≡ doubted old.number (reverse old.pass.seen)) where
      awaits_now : awaited ≡ doubted here.number (reverse pass1.seen)
      awaits_now = a ∙ stands_in doubted

      clean_now : found ≡ Clean → doubted here.number (reverse pass1.seen) ≡ None
      clean_now c = sym awaits_now ∙ x.clean c

      pub fits_now : IsTrue (found_fits found (is_down here.number (reverse pass1.seen)))
      fits_now = found_in here.number (reverse pass1.seen) found clean_now (λ n. x.no_doubt (awaits_now ∙ n))

      pub clean_for_now : MayRestart old.number old.pass on own0 → IsCleanFor here.number found on.session pass1 own1
      clean_for_now may =
          clean_for here.number on found here.pass own0 pass1 own1 (ap (λ (v : View). is_down here.number (reverse v.seen)) x.pass_is)
          (ap (λ (v : View). own (Session on.session) v.seen) x.own_is)
          (subst (λ (at : Station D). MayRestart at.number at.pass on own0) (sym e) may) clean_now

      -- what the log stands at
      module _ (fs : frames ≡ frames_of old.number (reverse old.pass.seen)) where
        stood_now : stood found frames awaited ≡ stood found (frames_of here.number (reverse pass1.seen)) (doubted here.number (reverse pass1.seen))
        stood_now =
            ap (λ (d : Option (List ℕ)). stood found frames d) awaits_now
            ∙ ap (λ (ys : List (List ℕ)). stood found ys (doubted here.number (reverse pass1.seen))) (fs ∙ stands_in frames_of)

        pub stands_now : IfSome told (λ s.
            IsAt (stood found (frames_of here.number (reverse pass1.seen)) (doubted here.number (reverse pass1.seen))) gate s × IsDurable s)
        stands_now = subst (λ (ys : List (List ℕ)). IfSome told (λ s. IsAt ys gate s × IsDurable s)) stood_now x.stands

        pub records_now : framed ≡ stood found (frames_of here.number (reverse pass1.seen)) (doubted here.number (reverse pass1.seen))
        records_now = x.framed_is ∙ stood_now

      pub known_now : {table : TableId} {opened : List ℕ} {parts : Parts} → IsSite table opened here.number pass1 parts
          → Each HasRanges (records_of old.number (reverse old.pass.seen))
          → (IsTrue (is_down old.number (reverse old.pass.seen))
          → IfSome (pending_at old.number (reverse old.pass.seen)) (λ p. HasRanges (pending_record p)))
          → Each HasRanges (logged here.number found (reverse pass1.seen))
      known_now {table} {opened} {parts} s known kept =
          let k : Keeps (layout_of pass1) opened here.number (reverse pass1.seen) parts = keeps_now table opened here.number pass1 parts s in
          known_logged (layout_of pass1) here.number (reverse pass1.seen) found k.legal k.there fits_now
          (holds_in (λ site past. Each HasRanges (records_of site past)) known)
          (holds_in (λ site past. IsTrue (is_down site past) → IfSome (pending_at site past) (λ p. HasRanges (pending_record p))) kept)

    -- a crash through the load, or through the start, which leaves the log
    pub start_crash : {table : TableId} {opened : List ℕ} {parts : Parts} {A E : Type 0} (story : D → Option Story)
        → IsSite table opened here.number pass1 parts → (r : Result A E) (own2 pass2 : View) (step : A → Step) (now : Option Story) (P Q : Type 0)
        → IfOk r (λ y. Came (Site here.number) (Session on.session) own1 pass1 own2 pass2 (step y))
        → OnErr r (Met (Site here.number) (Session on.session) own1 pass1 own2 pass2 × P × Q) → now ≡ parts.told
        → Both (Crashes here.number here.pass pass1) (story here.disk) parts.told → Both (Crashes old.number old.pass pass2) (story old.disk) now
    start_crash {table} {opened} {parts} {A} {E} story s r own2 pass2 step now P Q ok err n c =
        subst (λ (at : Station D). Both (Crashes at.number at.pass pass2) (story at.disk) now) e
        (crashes_add_up here.number here.pass pass1 pass2 (story here.disk) parts.told now (sym (went_layout pass1 pass2 goes))
        (subst (λ (v : View). AddsOthers (Site here.number) here.pass.seen v.seen) (sym x.pass_is) (prefix_refl here.pass.seen, refl))
        (subst (λ (schema : Layout). Legal schema pass1.seen) (sym (went_layout pass1 pass2 goes)) k.legal) goes.begins c
        (crash_still (layout_of pass1) opened here.number parts pass1 pass2 now k n))
      where
        k : Keeps (layout_of pass1) opened here.number (reverse pass1.seen) parts
        k = keeps_now table opened here.number pass1 parts s

        goes : Went pass1 pass2
        goes = by r ok err
          where
            by : (r : Result A E) → IfOk r (λ y. Came (Site here.number) (Session on.session) own1 pass1 own2 pass2 (step y))
                → OnErr r (Met (Site here.number) (Session on.session) own1 pass1 own2 pass2 × P × Q) → Went pass1 pass2
            by (Ok y) c m = came_pass (Site here.number) (Session on.session) own1 pass1 own2 pass2 (step y) c
            by (Err z) c m = met_pass (Site here.number) (Session on.session) own1 pass1 own2 pass2 m.0

-- ---- a restart

-- the turn's list, which both passes have seen
module _ {D : Type 0} {table : TableId} {opened : List ℕ} (here old : Station D) (own0 : View) {parts : Parts} {turn : List Step} {fixed : Option Terms}
    (e : here ≡ old) (s : IsSite table opened here.number here.pass parts) (o : Turned own0 turn fixed) (t : Turned here.pass turn fixed) (on : TxnId)
    (a : own0.actors ≡ Session on.session ∷ []) (own1 pass1 : View) (p : own1 ≡ record own0 { seen = turn })
    (q : pass1 ≡ record here.pass { seen = turn }) where
  stays : Met (Site old.number) (Session on.session) own0 old.pass own1 pass1
  stays = met_here here old own0 e s o t on.session a own1 pass1 p q

  pub pass_stays : Went old.pass pass1
  pass_stays = met_pass (Site old.number) (Session on.session) own0 old.pass own1 pass1 stays

  pub own_stays : Went own0 own1
  own_stays = met_own (Site old.number) (Session on.session) own0 old.pass own1 pass1 stays

  pub own_rests : Rested (Session on.session) own0 own1
  own_rests = met_rested (Site old.number) (Session on.session) own0 old.pass own1 pass1 stays

  -- the site is down still, or the attempt stands routed
  pub may_still : MayRestart old.number old.pass on own0 → MayRestart here.number pass1 on own1
  may_still may = by (subst (λ (at : Station D). MayRestart at.number at.pass on own0) (sym e) may)
    where
      by : MayRestart here.number here.pass on own0 → MayRestart here.number pass1 on own1
      by (inl down) =
          inl (down_on (layout_of here.pass) here.number here.pass.seen pass1.seen (left_legal table opened here.number here.pass pass1 parts turn fixed s t q)
          (left_adds table opened here.number here.pass pass1 parts turn fixed s t q) ∙ down)
      by (inr (min, r)) = inr (min, (r.0, r.1, own_rests ∙ r.2))

  -- what came of it
  module _ {E : Type 0} (r : Result RestartAnswer E) (own2 pass2 : View)
      (ok : IfOk r (λ x. Came (Site here.number) (Session on.session) own1 pass1 own2 pass2 (restart_step here.number on x)))
      (err : OnErr r (Met (Site here.number) (Session on.session) own1 pass1 own2 pass2)) where
    pub goes_on : Went pass1 pass2
    goes_on = by r ok err
      where
        by : (r : Result RestartAnswer E)
            → IfOk r (λ x. Came (Site here.number) (Session on.session) own1 pass1 own2 pass2 (restart_step here.number on x))
            → OnErr r (Met (Site here.number) (Session on.session) own1 pass1 own2 pass2) → Went pass1 pass2
        by (Ok x) c m = came_pass (Site here.number) (Session on.session) own1 pass1 own2 pass2 (restart_step here.number on x) c
        by (Err y) c m = met_pass (Site here.number) (Session on.session) own1 pass1 own2 pass2 m

    pub pass_goes : Went old.pass pass2
    pass_goes = went_twice old.pass pass1 pass2 pass_stays goes_on

    pub own_goes : Went own0 own2
    own_goes = went_twice own0 own1 own2 own_stays (by r ok err)
      where
        by : (r : Result RestartAnswer E)
            → IfOk r (λ x. Came (Site here.number) (Session on.session) own1 pass1 own2 pass2 (restart_step here.number on x))
            → OnErr r (Met (Site here.number) (Session on.session) own1 pass1 own2 pass2) → Went own1 own2
        by (Ok x) c m = came_own (Site here.number) (Session on.session) own1 pass1 own2 pass2 (restart_step here.number on x) c
        by (Err y) c m = met_own (Site here.number) (Session on.session) own1 pass1 own2 pass2 m

    -- as its caller is told
    pub told_restart : IfOk r (RestartedAs old.number old.pass pass2 on own0 own2)
    told_restart = by r ok
      where
        joined : (x : RestartAnswer) → Came (Site here.number) (Session on.session) own1 pass1 own2 pass2 (restart_step here.number on x)
            → Came (Site old.number) (Session on.session) own0 old.pass own2 pass2 (restart_step old.number on x)
        joined x c =
            met_came (Site old.number) (Session on.session) own0 old.pass own1 pass1 own2 pass2 (restart_step old.number on x) stays
            (subst (λ (at : Station D). Came (Site at.number) (Session on.session) own1 pass1 own2 pass2 (restart_step at.number on x)) e c)

        as_told : (x : RestartAnswer) → Came (Site old.number) (Session on.session) own0 old.pass own2 pass2 (restart_step old.number on x)
            → RestartedAs old.number old.pass pass2 on own0 own2 x
        as_told (answer.Restarted vector found) c = (
          came_rested (Site old.number) (Session on.session) own0 old.pass own2 pass2 (Restart old.number vector found) c refl,
          site_did (Site old.number) (Session on.session) own0 old.pass own2 pass2 (Restart old.number vector found) c
              (ap (λ (b : Bool). b || false) (eq-eqb old.number old.number refl)),
          (c.turn, c.of_session.0, ap (λ (v : View). v.seen) c.own),
        )
        as_told (answer.Failed why) c =
            came_did (Site old.number) (Session on.session) own0 old.pass own2 pass2 (Fail old.number on why) c (eq-eqb on.session on.session refl)

        by : (r : Result RestartAnswer E)
            → IfOk r (λ x. Came (Site here.number) (Session on.session) own1 pass1 own2 pass2 (restart_step here.number on x))
            → IfOk r (RestartedAs old.number old.pass pass2 on own0 own2)
        by (Ok x) c = as_told x (joined x c)
        by (Err y) c = tt

    pub crash_restart : (story : D → Option Story) (between now : Option Story) → parts.told ≡ story here.disk → between ≡ parts.told
        → Both (Crashes here.number pass1 pass2) between now → Both (Crashes old.number old.pass pass2) (story old.disk) now
    crash_restart story between now d b c = crash_later story here old e s d t pass1 pass2 q between now b goes_on c
