-- Whether a partition may be released, from the book in a turn, and what comes of the release.
use Rattle.std.proofs.Common.{ℕ, ◌≡◌, Bool, true, false, cond, List, [], ◌∷◌, ◌++◌, Option, Some, None, Result, Ok, Err, refl, sym, ap, ◌∙◌, subst}
use Rattle.std.proofs.lemmas.Bool.{eq-eqb, eqb-true, false≢true}
use Rattle.std.specs.Option.{option_or}
use Rattle.std.specs.Prelude.{◌==◌, ◌||◌, reverse, unwrap_or, IfOk, IfErr, IfSome, IsSome, is_some}
use Rattle.atomic_table.specs.Seated.{TableId}
use Rattle.dm_chronicle.specs.Belongs.{is_same}
use Rattle.dm_core.specs.Lawful.{Terms}
use Rattle.dm_desk.specs.Telling.{release_by, release_due, release_up, told_release}
use Rattle.dm_event.specs.Layout.{Layout, is_site}
use Rattle.dm_event.specs.declared.actor.Actor.TheVariants.{Session, Site}
use Rattle.dm_event.specs.declared.placing.Placing.{Placing}
use Rattle.dm_event.specs.declared.placing.Placing.TheVariants as placing
use Rattle.dm_event.specs.declared.step.Cause.{Cause}
use Rattle.dm_event.specs.declared.step.Cause.TheVariants.{Log}
use Rattle.dm_event.specs.declared.step.Pending.{Pending}
use Rattle.dm_event.specs.declared.step.Pending.TheVariants as pending
use Rattle.dm_event.specs.declared.step.Step.{Step}
use Rattle.dm_event.specs.declared.step.Step.TheVariants.{Doubt, Fail, Release}
use Rattle.dm_event.specs.declared.step.TxnId.{TxnId}
use Rattle.dm_frames.proofs.Ranges.{pending_in}
use Rattle.dm_frames.specs.Records.{pending_record}
use Rattle.dm_logdisk.specs.Story.{Both, Story}
use Rattle.dm_model.specs.Allowed.{Allowed, runner}
use Rattle.dm_model.specs.Attempts.{Routing, routed}
use Rattle.dm_model.specs.Doubts.{down_after, is_down, pending_at}
use Rattle.dm_model.specs.Legal.{Legal}
use Rattle.dm_model.specs.Placings.{placing as placing_of}
use Rattle.dm_model.specs.Progress.{site_vector}
use Rattle.dm_model.specs.Words.{latest}
use Rattle.dm_next.proofs.Doubts.{may_doubt}
use Rattle.dm_next.proofs.HandOvers.{may_release}
use Rattle.dm_others.proofs.Growing.{reverse_snoc}
use Rattle.dm_others.specs.Adding.{AddsOthers}
use Rattle.dm_record.specs.Bytes.{IsInRange}
use Rattle.dm_redo.specs.declared.appending.Appended.{Appended}
use Rattle.dm_redo.specs.declared.appending.Appended.TheVariants as append
use Rattle.dm_invariant.proofs.LastSteps.{last_route}
use Rattle.dm_invariant.proofs.Lasting.{lasts_release, routed_lasting}
use Rattle.dm_invariant.proofs.Lively.{keeps_now, left_turn}
use Rattle.dm_invariant.proofs.Passing.{came_did, came_own, came_rested, met_came, met_rested, met_seen, site_did}
use Rattle.dm_site.proofs.Awaiting.{routed_may_fail}
use Rattle.dm_site.proofs.Finishing.{Limits, crash_here}
use Rattle.dm_site.proofs.Outcomes.{live_crash}
use Rattle.dm_site.specs.Answers.{IsAskedAway, IsRoutedIn, ReleasedAs, placing_in}
use Rattle.dm_site.specs.Handing.{IsReleaseDue, IsReleaseInRange}
use Rattle.dm_invariant.specs.Keeping.{IsSite, Keeps, Parts}
use Rattle.dm_invariant.specs.Lasting.{Lasts}
use Rattle.dm_invariant.specs.Logs.{Crashes}
use Rattle.dm_invariant.specs.Running.{RoutedFor}
use Rattle.dm_invariant.specs.Stations.{Rested, Station, View, Went, layout_of, no_terms}
use Rattle.dm_invariant.specs.Turning.{Came, Met, Turned}
use Rattle.dm_invariant.specs.Writing.{MayAppend, MayFail, step_after}
use Rattle.dm_desk.specs.declared.answers.ReleaseAnswer.{ReleaseAnswer}
use Rattle.dm_desk.specs.declared.answers.ReleaseAnswer.TheVariants as released
use Rattle.dm_desk.specs.declared.telling.ReleaseDue.{ReleaseDue}
use Rattle.dm_desk.specs.declared.telling.ReleaseDue.TheVariants as releases

-- ---- what comes of a placing

module _ (site part : ℕ) (pass : View) (up : is_down site (reverse pass.seen) ≡ false) where
  by_runner : (who : Option TxnId) (epoch to : ℕ) (vector : List ℕ) → placing_in pass part ≡ placing.Asked site epoch to
      → runner (layout_of pass) (reverse pass.seen) site part ≡ who → vector ≡ site_vector (layout_of pass).sites (reverse pass.seen) site
      → IsReleaseDue site part pass (release_by who epoch to vector)
  by_runner None epoch to vector p r v = (up, p, r, v)
  by_runner (Some txn) epoch to vector p r v = (up, subst (λ (now : Placing). IsAskedAway site now) (sym p) refl, r)

  by_placing : (now : Placing) (who : Option TxnId) (vector : List ℕ) → placing_in pass part ≡ now
      → runner (layout_of pass) (reverse pass.seen) site part ≡ who → vector ≡ site_vector (layout_of pass).sites (reverse pass.seen) site
      → IsReleaseDue site part pass (release_up site now who vector)
  by_placing (placing.Asked at epoch to) who vector p r v = by (at == site) refl
    where
      by : (b : Bool) → (at == site) ≡ b
          → IsReleaseDue site part pass (cond b (release_by who epoch to vector) (releases.Not (released.Passed (placing.Asked at epoch to))))
      by true e = by_runner who epoch to vector (p ∙ ap (λ (i : ℕ). placing.Asked i epoch to) (eqb-true at site e)) r v
      by false e = (up, p, λ same. false≢true (sym e ∙ eq-eqb at site same))
  by_placing (placing.Settled at epoch) who vector p r v = (up, p, λ asked. asked)
  by_placing (placing.Between from epoch to with) who vector p r v = (up, p, λ asked. asked)
  by_placing (placing.Granted at epoch) who vector p r v = (up, p, λ asked. asked)

release_due_is : (site part : ℕ) (pass : View) (down : Bool) (now : Placing) (who : Option TxnId) (vector : List ℕ)
    → down ≡ is_down site (reverse pass.seen) → now ≡ placing_in pass part → who ≡ runner (layout_of pass) (reverse pass.seen) site part
    → vector ≡ site_vector (layout_of pass).sites (reverse pass.seen) site → IsReleaseDue site part pass (release_due site down now who vector)
release_due_is site part pass true now who vector d p r v = sym d
release_due_is site part pass false now who vector d p r v = by_placing site part pass (sym d) now who vector (sym p) (sym r) v

-- ---- in a turn

-- what the schema says, of a fixed part
abbrev layout_in : Option Terms → Layout
layout_in fixed = (unwrap_or fixed no_terms).layout

module _ {table : TableId} {opened : List ℕ} {site : ℕ} {pass : View} {parts : Parts} {turn : List Step} {fixed : Option Terms}
    (s : IsSite table opened site pass parts) (t : Turned pass turn fixed) (after : View) (e : after ≡ record pass { seen = turn }) where
  layout_same : layout_in fixed ≡ layout_of pass
  layout_same = ap layout_in t.fixed_is

  pub due_in : (part : ℕ) (down : Bool) (now : Placing) (who : Option TxnId) (vector : List ℕ) (due : ReleaseDue) → down ≡ is_down site (reverse turn)
      → now ≡ placing_of (layout_in fixed) (reverse turn) part → who ≡ runner (layout_in fixed) (reverse turn) site part
      → vector ≡ site_vector (layout_in fixed).sites (reverse turn) site → due ≡ release_due site down now who vector → IsReleaseDue site part after due
  due_in part down now who vector due d p r v u =
      subst (λ (w : View). IsReleaseDue site part w due) (sym e)
      (subst (λ (due : ReleaseDue). IsReleaseDue site part (record pass { seen = turn }) due) (sym u)
      (release_due_is site part (record pass { seen = turn }) down now who vector d
      (p ∙ ap (λ (l : Layout). placing_of l (reverse turn) part) layout_same) (r ∙ ap (λ (l : Layout). runner l (reverse turn) site part) layout_same)
      (v ∙ ap (λ (l : Layout). site_vector l.sites (reverse turn) site) layout_same)))

  keeps_after : Keeps (layout_of after) opened site (reverse after.seen) parts
  keeps_after = keeps_now table opened site after parts (left_turn table opened site pass after parts turn fixed s t e)

  -- the record's numbers are in range, as those of the step in doubt would be
  pub range_in : (part : ℕ) (due : ReleaseDue) → Limits (layout_in fixed) → IsReleaseDue site part after due → IsReleaseInRange part due
  range_in part (releases.Not answer) l d = tt
  range_in part (releases.Ready epoch to vector) l d =
      let k = keeps_after in
      let m : Limits (layout_of after) =
      subst (λ (layout : Layout). Limits layout) (layout_same ∙ sym (ap (λ (w : View). layout_of w) e)) l in
      let due = pending.Release part epoch to vector in
      let may : Allowed (layout_of after) (reverse after.seen) (Release site part epoch to vector) =
      subst (λ (v : List ℕ). Allowed (layout_of after) (reverse after.seen) (Release site part epoch to v)) (sym d.3)
      (may_release (layout_of after) (reverse after.seen) site part epoch to k.legal k.there d.0 d.1 d.2) in
      subst (λ (o : Option Pending). IfSome o (λ p. IsInRange (pending_record p)))
      (ap (λ (b : Bool). option_or (cond b (Some due) None) (pending_at site (reverse after.seen))) (eq-eqb site site refl))
      (pending_in (layout_of after) m.sites m.parts m.width (Doubt site due ∷ reverse after.seen)
      (k.legal, may_doubt (layout_of after) (reverse after.seen) site due tt may) site)

-- ---- after the turn

module _ (site part : ℕ) (on : TxnId) (own0 pass0 own1 pass1 : View) (m : Met (Site site) (Session on.session) own0 pass0 own1 pass1) where
  rests : Rested (Session on.session) own0 own1
  rests = met_rested (Site site) (Session on.session) own0 pass0 own1 pass1 m

  one_list : own1.seen ≡ pass1.seen
  one_list = met_seen (Site site) (Session on.session) own0 pass0 own1 pass1 m

  -- where the partition may be released, its release lasts
  module _ (there : is_site (layout_of pass1) site ≡ true) (r : IsRoutedIn own0 on) where
    routed_still : RoutedFor on r.0 r.1 r.2 own1
    routed_still = (r.3.0, r.3.1, rests ∙ r.3.2)

    abbrev route : Routing
    route = record { txn = on; want = r.0; min = r.1; site = r.2; choice = r.3.1 }

    routed_now : routed on (reverse pass1.seen) ≡ Some route
    routed_now =
        sym (ap (λ (ss : List Step). routed on (reverse ss)) one_list)
        ∙ last_route own1.seen r.3.0 on r.0 r.1 r.2 r.3.1 (rests ∙ r.3.2)

    stays_routed : (new : List Step) → Legal (layout_of pass1) new → AddsOthers (Session on.session) pass1.seen new → IsSome (routed on (reverse new))
    stays_routed new l a =
        ap (λ (o : Option Routing). is_some o) (routed_lasting (layout_of pass1) pass1.seen new on route l a routed_now)

    release_may_fail : MayFail (layout_of pass1) site on pass1.seen
    release_may_fail = routed_may_fail (layout_of pass1) site on own1 pass1 there (r.0, r.1, r.2, routed_still) one_list

    release_appends : (epoch to : ℕ) (vector : List ℕ) → IsReleaseDue site part pass1 (releases.Ready epoch to vector)
        → MayAppend (layout_of pass1) site on (pending.Release part epoch to vector) pass1.seen
    release_appends epoch to vector d = record {
      up = d.0;
      is_own = tt;
      is_for = stays_routed;
      lasts = subst (λ (v : List ℕ). Lasts (layout_of pass1) (Site site) (Session on.session) pass1.seen (Release site part epoch to v)) (sym d.3)
          (lasts_release (layout_of pass1) pass1.seen on.session site part epoch to there d.0 d.1 d.2);
      may_fail = release_may_fail (Log site) there (eq-eqb site site refl);
    }

-- ---- a Release

-- the partition is on its way
placed_between : (pass : View) (before : List Step) (site part epoch to : ℕ) (vector : List ℕ)
    → pass.seen ≡ before ++ Release site part epoch to vector ∷ [] → placing_in pass part ≡ placing.Between site epoch to vector
placed_between pass before site part epoch to vector e =
    ap (λ (past : List Step). placing_of (layout_of pass) past part)
    (ap (λ (ss : List Step). reverse ss) e ∙ reverse_snoc before (Release site part epoch to vector))
    ∙ ap (λ (b : Bool). cond b (placing.Between site epoch to vector) (placing_of (layout_of pass) (reverse before) part)) (eq-eqb part part refl)

-- a site in doubt is down
doubt_down : (pass : View) (before : List Step) (site : ℕ) (p : Pending) → pass.seen ≡ before ++ Doubt site p ∷ []
    → is_down site (reverse pass.seen) ≡ true
doubt_down pass before site p e =
    ap (λ (past : List Step). is_down site past) (ap (λ (ss : List Step). reverse ss) e ∙ reverse_snoc before (Doubt site p))
    ∙ ap (λ (b : Bool). unwrap_or (option_or (cond b (Some true) None) (latest (down_after site) (reverse before))) false) (eq-eqb site site refl)

module _ (site part : ℕ) (on : TxnId) (own0 pass0 own2 pass2 : View) where
  fail_told : (why : Cause) → Came (Site site) (Session on.session) own0 pass0 own2 pass2 (Fail site on why)
      → ReleasedAs site pass0 pass2 on part own0 own2 (released.Failed why)
  fail_told why c = came_did (Site site) (Session on.session) own0 pass0 own2 pass2 (Fail site on why) c (eq-eqb on.session on.session refl)

  its_own : is_same (Site site) (Site site) || false ≡ true
  its_own = ap (λ (b : Bool). b || false) (eq-eqb site site refl)

  release_told : (epoch to : ℕ) (vector : List ℕ) (done : Appended)
      → Came (Site site) (Session on.session) own0 pass0 own2 pass2 (step_after site on (pending.Release part epoch to vector) done)
      → ReleasedAs site pass0 pass2 on part own0 own2 (told_release done site vector)
  release_told epoch to vector append.Done c =
      let step = Release site part epoch to vector in (
        came_rested (Site site) (Session on.session) own0 pass0 own2 pass2 step c refl,
        (
          epoch,
          to,
          site_did (Site site) (Session on.session) own0 pass0 own2 pass2 step c its_own,
          placed_between own2 c.turn site part epoch to vector (ap (λ (v : View). v.seen) c.own),
        ),
      )
  release_told epoch to vector append.Undone c = fail_told (Log site) c
  release_told epoch to vector append.Doubt c =
      let step = Doubt site (pending.Release part epoch to vector) in (
        came_rested (Site site) (Session on.session) own0 pass0 own2 pass2 step c refl,
        doubt_down pass2 c.turn site (pending.Release part epoch to vector) (ap (λ (v : View). v.seen) c.pass),
        (epoch, to, vector, site_did (Site site) (Session on.session) own0 pass0 own2 pass2 step c its_own),
      )

-- ---- what its caller sees

module _ {D : Type 0} (old mid : Station D) (on : TxnId) (part : ℕ) (own0 own1 : View) (e : mid ≡ record old { pass = mid.pass })
    (m : Met (Site old.number) (Session on.session) own0 old.pass own1 mid.pass) where
  number_is : mid.number ≡ old.number
  number_is = ap (λ (at : Station D). at.number) e

  -- a crash, where nothing was written
  pub crash_unwritten : {table : TableId} {opened : List ℕ} (story : D → Option Story) (first : Station D) {parts : Parts} → first ≡ old
      → IsSite table opened first.number first.pass parts → parts.told ≡ story first.disk
      → Both (Crashes old.number old.pass mid.pass) (story old.disk) (story mid.disk)
  crash_unwritten story first f i d =
      crash_here story first old f i d mid.pass (story mid.disk)
      (ap (λ (at : Station D). story at.disk) e ∙ (ap (λ (at : Station D). story at.disk) (sym f) ∙ sym d))

  module _ {table : TableId} {opened : List ℕ} (here : Station D) {parts : Parts} (v : here ≡ mid) (s : IsSite table opened here.number here.pass parts) where
    there : is_site (layout_of mid.pass) old.number ≡ true
    there =
        subst (λ (i : ℕ). is_site (layout_of mid.pass) i ≡ true) number_is
        (subst (λ (at : Station D). is_site (layout_of at.pass) at.number ≡ true) v (keeps_now table opened here.number here.pass parts s).there)

    pub fails_there : IsRoutedIn own0 on → MayFail (layout_of mid.pass) mid.number on mid.pass.seen
    fails_there r =
        subst (λ (i : ℕ). MayFail (layout_of mid.pass) i on mid.pass.seen) (sym number_is)
        (release_may_fail old.number part on own0 old.pass own1 mid.pass m there r)

    pub appends_there : IsRoutedIn own0 on → (epoch to : ℕ) (vector : List ℕ) → IsReleaseDue old.number part mid.pass (releases.Ready epoch to vector)
        → MayAppend (layout_of mid.pass) mid.number on (pending.Release part epoch to vector) mid.pass.seen
    appends_there r epoch to vector d =
        subst (λ (i : ℕ). MayAppend (layout_of mid.pass) i on (pending.Release part epoch to vector) mid.pass.seen) (sym number_is)
        (release_appends old.number part on own0 old.pass own1 mid.pass m there r epoch to vector d)

    -- a crash, where nothing was written before the hand-over
    pub crash_after : (story : D → Option Story) (first : Station D) {before : Parts} → first ≡ old → IsSite table opened first.number first.pass before
        → before.told ≡ story first.disk → (new : View) (now : Option Story) → Went mid.pass new
        → Both (Crashes mid.number mid.pass new) (story mid.disk) now → Both (Crashes old.number old.pass new) (story old.disk) now
    crash_after story first {before} f i d new now w c =
        live_crash old.number here mid v s number_is (Session on.session) own0 own1 old.pass new m w (story old.disk) (story mid.disk) now
        (crash_unwritten story first f i d) c

  module _ (new : Station D) (own2 : View) where
    came_on : (step : ℕ → Step) → Came (Site mid.number) (Session on.session) own1 mid.pass own2 new.pass (step mid.number)
        → Came (Site old.number) (Session on.session) own0 old.pass own2 new.pass (step old.number)
    came_on step c =
        met_came (Site old.number) (Session on.session) own0 old.pass own1 mid.pass own2 new.pass (step old.number) m
        (subst (λ (i : ℕ). Came (Site i) (Session on.session) own1 mid.pass own2 new.pass (step i)) number_is c)

    pub failed_on : (r : Result Appended Cause) (why : Cause) → r ≡ Err why
        → IfErr r (λ why. Came (Site mid.number) (Session on.session) own1 mid.pass own2 new.pass (Fail mid.number on why))
        → ReleasedAs old.number old.pass new.pass on part own0 own2 (released.Failed why)
    failed_on r why i c =
        fail_told old.number part on own0 old.pass own2 new.pass why (came_on (λ i. Fail i on why)
        (subst (λ (r : Result Appended Cause). IfErr r (λ why. Came (Site mid.number) (Session on.session) own1 mid.pass own2 new.pass
        (Fail mid.number on why))) i c))

    module _ (epoch to : ℕ) (vector : List ℕ) (r : Result Appended Cause) (done : Appended) (i : r ≡ Ok done)
        (c : IfOk r (λ done. Came (Site mid.number) (Session on.session) own1 mid.pass own2 new.pass
        (step_after mid.number on (pending.Release part epoch to vector) done))) where
      came_done : Came (Site old.number) (Session on.session) own0 old.pass own2 new.pass (step_after old.number on (pending.Release part epoch to vector) done)
      came_done =
          came_on (λ i. step_after i on (pending.Release part epoch to vector) done)
          (subst (λ (r : Result Appended Cause). IfOk r (λ done. Came (Site mid.number) (Session on.session) own1 mid.pass own2 new.pass
          (step_after mid.number on (pending.Release part epoch to vector) done))) i c)

      pub own_on : Went own0 own2
      own_on = came_own (Site old.number) (Session on.session) own0 old.pass own2 new.pass _ came_done

      pub told_on : (site : ℕ) (answer : ReleaseAnswer) → site ≡ old.number → answer ≡ told_release done site vector
          → ReleasedAs old.number old.pass new.pass on part own0 own2 answer
      told_on site answer n a =
          subst (λ (answer : ReleaseAnswer). ReleasedAs old.number old.pass new.pass on part own0 own2 answer)
          (sym (a ∙ ap (λ (site : ℕ). told_release done site vector) n))
          (release_told old.number part on own0 old.pass own2 new.pass epoch to vector done came_done)
