-- What a turn tells of a grant, when its step may be appended, and what comes of it.
use Rattle.std.proofs.Common.{ℕ, ◌+◌, ◌≤◌, ◌≡◌, ◌==◌, Bool, true, false, cond, List, [], ◌∷◌, ◌++◌, Option, Some, None, Result, Ok, Err, length, arith}
use Rattle.std.proofs.Common.{refl, sym, ap, ◌∙◌, subst, inl, inr, nat_eq, ◌||◌}
use Rattle.std.proofs.lemmas.Bool.{eq-eqb, eqb-true, false≢true, ltb-true}
use Rattle.std.specs.Option.{option_or}
use Rattle.std.specs.Prelude.{reverse, is_some, unwrap_or, IfErr, IfOk, IfSome, IsTrue}
use Rattle.atomic_table.specs.Seated.{TableId}
use mathlib.Core.List.{IsPrefix}
use Rattle.dm_chronicle.proofs.Lists.{prefix_refl, prefix_trans}
use Rattle.dm_chronicle.specs.Belongs.{belongs}
use Rattle.dm_chronicle.specs.Rule.{In}
use Rattle.dm_chronicle.specs.Standing.{Sees}
use Rattle.dm_core.specs.Lawful.{Terms}
use Rattle.dm_desk.proofs.Due.{at_most_found}
use Rattle.dm_desk.specs.Telling.{grant_due, told_grant}
use Rattle.dm_event.specs.Actors.{actors}
use Rattle.dm_event.specs.Layout.{Layout, is_part}
use Rattle.dm_event.specs.Vectors.{AtMost, is_at_most}
use Rattle.dm_event.specs.declared.actor.Actor.{Actor}
use Rattle.dm_event.specs.declared.actor.Actor.TheVariants.{Session, Site}
use Rattle.dm_event.specs.declared.placing.Placing.{Placing}
use Rattle.dm_event.specs.declared.placing.Placing.TheVariants.{Settled, Asked, Between, Granted}
use Rattle.dm_event.specs.declared.step.Cause.{Cause}
use Rattle.dm_event.specs.declared.step.Cause.TheVariants.{Log}
use Rattle.dm_event.specs.declared.step.Pending.{Pending}
use Rattle.dm_event.specs.declared.step.Pending.TheVariants as pending
use Rattle.dm_event.specs.declared.step.Step.{Step}
use Rattle.dm_event.specs.declared.step.Step.TheVariants.{Doubt, Fail, Grant}
use Rattle.dm_event.specs.declared.step.TxnId.{TxnId}
use Rattle.dm_frames.specs.Records.{frames_of}
use Rattle.dm_locks.specs.Locks.{Locks}
use Rattle.dm_logdisk.proofs.Images.{leaves_weaker}
use Rattle.dm_logdisk.specs.Story.{Both, LeavesOnly, Story}
use Rattle.dm_model.proofs.LegalSteps.{in_range}
use Rattle.dm_model.specs.Allowed.{Allowed}
use Rattle.dm_model.specs.Attempts.{Routing, routed}
use Rattle.dm_model.specs.Doubts.{down_after, is_down}
use Rattle.dm_model.specs.Legal.{Legal, LegalPast}
use Rattle.dm_model.specs.Placings.{placing}
use Rattle.dm_model.specs.Progress.{site_vector}
use Rattle.dm_model.specs.Words.{latest}
use Rattle.dm_next.proofs.HandOvers.{between_closed, between_is_in}
use Rattle.dm_others.proofs.Growing.{reverse_snoc}
use Rattle.dm_redo.specs.declared.appending.Appended.{Appended}
use Rattle.dm_redo.specs.declared.appending.Appended.TheVariants as append
use Rattle.dm_invariant.proofs.Lasting.{lasts_grant, routed_lasting}
use Rattle.dm_invariant.proofs.Lively.{keeps_now}
use Rattle.dm_invariant.proofs.Loaded.{of_err}
use Rattle.dm_invariant.proofs.Passing.{came_did, came_rested, site_did, went_layout, went_twice}
use Rattle.dm_invariant.proofs.Sessions.{routed_here}
use Rattle.dm_invariant.proofs.Turned.{turn_legal}
use Rattle.dm_site.proofs.Awaiting.{routed_may_fail}
use Rattle.dm_site.proofs.Coming.{went_nowhere}
use Rattle.dm_site.proofs.Finishing.{Limits}
use Rattle.dm_site.specs.Answers.{Caught, GrantedAs, GrantedFrom, IsDownIn, IsRoutedIn, placing_in}
use Rattle.dm_site.specs.Catching.{Refreshes, SameRecords}
use Rattle.dm_site.specs.Handing.{HandsIn, IsGrantCaused, IsGrantDue, IsGrantInRange, LinesGrant}
use Rattle.dm_invariant.specs.Keeping.{IsSite, Keeps, Parts}
use Rattle.dm_invariant.specs.Logs.{Crashes, HoldsWith, MayCome}
use Rattle.dm_invariant.specs.Stations.{IsPassOf, Rested, Station, View, Went, layout_of, no_terms}
use Rattle.dm_invariant.specs.Turning.{Came, Turned}
use Rattle.dm_invariant.specs.Writing.{MayAppend, MayFail, step_after}
use Rattle.dm_desk.specs.declared.answers.CatchAnswer.{CatchAnswer}
use Rattle.dm_desk.specs.declared.answers.CatchAnswer.TheVariants as caught
use Rattle.dm_desk.specs.declared.answers.GrantAnswer.{GrantAnswer}
use Rattle.dm_desk.specs.declared.answers.GrantAnswer.TheVariants as granted
use Rattle.dm_desk.specs.declared.telling.GrantDue.{GrantDue}
use Rattle.dm_desk.specs.declared.telling.GrantDue.TheVariants as grants

-- what the schema says, of a fixed part
abbrev layout_in : Option Terms → Layout
layout_in fixed = (unwrap_or fixed no_terms).layout

-- ---- what a turn tells

grant_due_is : (site part : ℕ) (pass : View) (down : Bool) (now : Placing) (has : List ℕ) → LegalPast (layout_of pass) (reverse pass.seen)
    → down ≡ is_down site (reverse pass.seen) → now ≡ placing_in pass part → has ≡ site_vector (layout_of pass).sites (reverse pass.seen) site
    → IsGrantDue site part pass (grant_due site down now has)
grant_due_is site part pass true now has l d n v = sym d
grant_due_is site part pass false (Settled at epoch) has l d n v = (sym d, sym n, λ e. e)
grant_due_is site part pass false (Asked at epoch to) has l d n v = (sym d, sym n, λ e. e)
grant_due_is site part pass false (Granted at epoch) has l d n v = (sym d, sym n, λ e. e)
grant_due_is site part pass false (Between from epoch to vector) has l d n v = by (to == site) refl
  where
    here : (to == site) ≡ true → placing_in pass part ≡ Between from epoch site vector
    here e = sym n ∙ ap (λ (i : ℕ). Between from epoch i vector) (eqb-true to site e)

    due : (b : Bool) → is_at_most vector has ≡ b → (to == site) ≡ true
        → IsGrantDue site part pass (cond b (grants.Ready epoch vector) (grants.Behind vector))
    due true m e = (sym d, (from, here e), subst (λ (has : List ℕ). AtMost vector has) v (at_most_found vector has m))
    due false m e =
        (sym d, (from, epoch, here e), (between_closed (layout_of pass) (reverse pass.seen) from part epoch site vector l (here e)).counts)

    by : (b : Bool) → (to == site) ≡ b
        → IsGrantDue site part pass (cond b (cond (is_at_most vector has) (grants.Ready epoch vector) (grants.Behind vector))
        (grants.Not (granted.Passed (Between from epoch to vector))))
    by true e = due (is_at_most vector has) refl e
    by false e = (sym d, sym n, λ same. false≢true (sym e ∙ eq-eqb to site same))

-- the record of a grant that is due has its ranges
grant_in_range : (site part : ℕ) (pass : View) (due : GrantDue) → Limits (layout_of pass) → LegalPast (layout_of pass) (reverse pass.seen)
    → IsGrantDue site part pass due → IsGrantInRange part due
grant_in_range site part pass (grants.Ready epoch vector) m l d =
    let found = between_is_in (layout_of pass) (reverse pass.seen) d.1.0 part epoch site vector l d.1.1 in
    let range = in_range (layout_of pass) site found.to_in in
    let one = range.one in
    let top = range.top in
    let long = found.long in
    let sites = m.sites in
    let parts = m.parts in
    let few = ltb-true part (length (layout_of pass).masters) found.part_in in
    (omega (arith, few, parts), (omega (arith, one, top, long), omega (arith, long, sites)))
grant_in_range site part pass (grants.Behind vector) m l d = tt
grant_in_range site part pass (grants.Not answer) m l d = tt

-- ---- the site's turn

module _ {D : Type 0} {table : TableId} {opened : List ℕ} (here old : Station D) {parts : Parts} {turn : List Step} {fixed : Option Terms}
    (e : here ≡ old) (s : IsSite table opened here.number here.pass parts) (t : Turned here.pass turn fixed) (after : View)
    (a : after ≡ record here.pass { seen = turn }) where
  layout_same : layout_in fixed ≡ layout_of after
  layout_same = ap layout_in t.fixed_is ∙ sym (ap (λ (v : View). layout_of v) a)

  seen_same : turn ≡ after.seen
  seen_same = sym (ap (λ (v : View). v.seen) a)

  legal_after : LegalPast (layout_of after) (reverse after.seen)
  legal_after =
      subst (λ (v : View). Legal (layout_of v) v.seen) (sym a) (turn_legal table opened here.number here.pass parts turn fixed s t)

  pub due_after : (part : ℕ) (down : Bool) (now : Placing) (has : List ℕ) (due : GrantDue) → down ≡ is_down here.number (reverse turn)
      → now ≡ placing (layout_in fixed) (reverse turn) part → has ≡ site_vector (layout_in fixed).sites (reverse turn) here.number
      → due ≡ grant_due here.number down now has → IsGrantDue old.number part after due
  due_after part down now has due d n v g =
      subst (λ (due : GrantDue). IsGrantDue old.number part after due) (sym g)
      (subst (λ (at : Station D). IsGrantDue at.number part after (grant_due here.number down now has)) e
      (grant_due_is here.number part after down now has legal_after
      (d ∙ ap (λ (steps : List Step). is_down here.number (reverse steps)) seen_same)
      (n ∙ (λ j. placing (layout_same j) (reverse (seen_same j)) part))
      (v ∙ (λ j. site_vector (layout_same j).sites (reverse (seen_same j)) here.number))))

  pub range_after : (part : ℕ) (due : GrantDue) → Limits (layout_in fixed) → IsGrantDue old.number part after due → IsGrantInRange part due
  range_after part due l d =
      grant_in_range old.number part after due (subst (λ (layout : Layout). Limits layout) layout_same l) legal_after d

-- ---- what may be appended

routed_past : (txn : TxnId) (own pass : View) → IsRoutedIn own txn → own.seen ≡ pass.seen → (r : Routing) × (routed txn (reverse pass.seen) ≡ Some r)
routed_past txn own pass (wanted, min, at, r) m =
    (_, ap (λ (steps : List Step). routed txn (reverse steps)) (sym m) ∙ routed_here txn wanted min at own r)

module _ {D : Type 0} {table : TableId} {opened : List ℕ} {parts : Parts} (here old : Station D) (e : here ≡ old)
    (s : IsSite table opened here.number here.pass parts) (own : View) (on : TxnId) (r : IsRoutedIn own on) (m : own.seen ≡ old.pass.seen) where
  keeps : Keeps (layout_of old.pass) opened old.number (reverse old.pass.seen) parts
  keeps =
      keeps_now table opened old.number old.pass parts (subst (λ (at : Station D). IsSite table opened at.number at.pass parts) e s)

  pub grant_may_fail : MayFail (layout_of old.pass) old.number on old.pass.seen
  grant_may_fail = routed_may_fail (layout_of old.pass) old.number on own old.pass keeps.there r m

  -- the Grant has the epoch after that of the release
  pub grant_may : (part before epoch : ℕ) (vector : List ℕ) → epoch ≡ before + 1 → IsGrantDue old.number part old.pass (grants.Ready before vector)
      → MayAppend (layout_of old.pass) old.number on (pending.Grant part epoch vector) old.pass.seen
  grant_may part before epoch vector n d =
      let stands = routed_past on own old.pass r m in
      subst (λ (epoch : ℕ). MayAppend (layout_of old.pass) old.number on (pending.Grant part epoch vector) old.pass.seen) (sym n) (record {
        up = d.0;
        is_own = tt;
        is_for = λ new l a. ap (λ (o : Option Routing). is_some o) (routed_lasting (layout_of old.pass) old.pass.seen new on stands.0 l a stands.1);
        lasts = lasts_grant (layout_of old.pass) old.pass.seen on.session d.1.0 old.number part before vector keeps.there d.0 d.1.1 d.2;
        may_fail = grant_may_fail (Log old.number) keeps.there (eq-eqb old.number old.number refl);
      })

-- ---- what comes of it

of_ok : {X E : Type 0} (P : X → Type 0) (r : Result X E) (x : X) → r ≡ Ok x → IfOk r P → P x
of_ok {X} {E} P r x e h = let i : IfOk {E = E} (Ok x) P = subst (λ (r : Result X E). IfOk r P) e h in i

-- the latest step is the partition's Grant
placed_granted : (layout : Layout) (steps : List Step) (site part epoch : ℕ) (vector : List ℕ)
    → placing layout (reverse (steps ++ Grant site part epoch vector ∷ [])) part ≡ Granted site epoch
placed_granted layout steps site part epoch vector =
    ap (λ (past : List Step). placing layout past part) (reverse_snoc steps (Grant site part epoch vector))
    ∙ ap (λ (b : Bool). cond b (Granted site epoch) (placing layout (reverse steps) part)) (eq-eqb part part refl)

-- the latest step is the site's Doubt
down_doubted : (steps : List Step) (site : ℕ) (p : Pending) → is_down site (reverse (steps ++ Doubt site p ∷ [])) ≡ true
down_doubted steps site p =
    ap (λ (past : List Step). is_down site past) (reverse_snoc steps (Doubt site p))
    ∙ ap (λ (b : Bool). unwrap_or (option_or (cond b (Some true) None) (latest (down_after site) (reverse steps))) false) (eq-eqb site site refl)

-- the step is its site's
is_its : (site : ℕ) (b : Bool) → (nat_eq site site || b) ≡ true
is_its site b = ap (λ (same : Bool). same || b) (eq-eqb site site refl)

module _ (site part : ℕ) (on : TxnId) (own0 pass0 own1 pass1 : View) where
  grant_failed : (why : Cause) → Came (Site site) (Session on.session) own0 pass0 own1 pass1 (Fail site on why)
      → GrantedFrom site pass0 pass1 on part own0 own1 (granted.Failed why)
  grant_failed why c =
      came_did (Site site) (Session on.session) own0 pass0 own1 pass1 (Fail site on why) c (eq-eqb on.session on.session refl)

  grant_came : (epoch : ℕ) (vector : List ℕ) (done : Appended)
      → Came (Site site) (Session on.session) own0 pass0 own1 pass1 (step_after site on (pending.Grant part epoch vector) done)
      → GrantedFrom site pass0 pass1 on part own0 own1 (told_grant done site)
  grant_came epoch vector append.Done c = (
    came_rested (Site site) (Session on.session) own0 pass0 own1 pass1 (Grant site part epoch vector) c refl,
    (
      epoch,
      vector,
      site_did (Site site) (Session on.session) own0 pass0 own1 pass1 (Grant site part epoch vector) c (is_its site false),
      ap (λ (v : View). placing_in v part) c.own ∙ placed_granted (layout_of own0) c.turn site part epoch vector,
    ),
  )
  grant_came epoch vector append.Undone c = grant_failed (Log site) c
  grant_came epoch vector append.Doubt c = (
    came_rested (Site site) (Session on.session) own0 pass0 own1 pass1 (Doubt site (pending.Grant part epoch vector)) c refl,
    ap (λ (v : View). is_down site (reverse v.seen)) c.pass ∙ down_doubted c.turn site (pending.Grant part epoch vector),
    (
      epoch,
      vector,
      site_did (Site site) (Session on.session) own0 pass0 own1 pass1 (Doubt site (pending.Grant part epoch vector)) c (is_its site false),
    ),
  )

module _ {D : Type 0} (here old : Station D) (e : here ≡ old) (part : ℕ) (on : TxnId) (own0 own1 pass1 : View) (r : Result Appended Cause) where
  pub grant_told : (epoch : ℕ) (vector : List ℕ) (done : Appended) (told : GrantAnswer) → told ≡ told_grant done here.number → r ≡ Ok done
      → IfOk r (λ done. Came (Site old.number) (Session on.session) own0 old.pass own1 pass1
      (step_after old.number on (pending.Grant part epoch vector) done))
      → GrantedFrom old.number old.pass pass1 on part own0 own1 told
  grant_told epoch vector done told t q c =
      subst (λ (told : GrantAnswer). GrantedFrom old.number old.pass pass1 on part own0 own1 told)
      (sym (t ∙ ap (λ (at : Station D). told_grant done at.number) e))
      (grant_came old.number part on own0 old.pass own1 pass1 epoch vector done
      (of_ok (λ done. Came (Site old.number) (Session on.session) own0 old.pass own1 pass1
      (step_after old.number on (pending.Grant part epoch vector) done)) r done q c))

  pub grant_refused : (why : Cause) → r ≡ Err why
      → IfErr r (λ why. Came (Site old.number) (Session on.session) own0 old.pass own1 pass1 (Fail old.number on why))
      → GrantedFrom old.number old.pass pass1 on part own0 own1 (granted.Failed why)
  grant_refused why q c =
      grant_failed old.number part on own0 old.pass own1 pass1 why
      (of_err (λ why. Came (Site old.number) (Session on.session) own0 old.pass own1 pass1 (Fail old.number on why)) r why q c)

-- ---- the session

-- what a pass sees more is no step of its actor
pub rested_seeing : (actor : Actor) (old new : View) → old.actors ≡ actor ∷ [] → Sees (belongs actors) old new → Rested actor old new
rested_seeing actor old new a s = s.own actor (subst (λ (held : List Actor). In actor held) (sym a) (inl refl))

pub rested_twice : (actor : Actor) (first second third : View) → Rested actor first second → Rested actor second third → Rested actor first third
rested_twice actor first second third r s = s ∙ r

pub pass_on : (table : TableId) (session : ℕ) (old new : View) → Went old new → IsPassOf table session old → IsPassOf table session new
pass_on table session old new w p = (w.table ∙ p.0, w.actors ∙ p.1)

pub routed_on : (on : TxnId) (old new : View) → Rested (Session on.session) old new → IsRoutedIn old on → IsRoutedIn new on
routed_on on old new r (wanted, min, at, s) = (wanted, min, at, (s.0, s.1, r ∙ s.2))

pub part_on : (old new : View) (part : ℕ) → Went old new → IsTrue (is_part (layout_of old) part) → IsTrue (is_part (layout_of new) part)
part_on old new part w p = subst (λ (layout : Layout). IsTrue (is_part layout part)) (sym (went_layout old new w)) p

-- the answer says the same of what the session's pass was before, where no step of the session came since
granted_since : (site : ℕ) (mid pass : View) (on : TxnId) (part : ℕ) (own0 own1 own2 : View) → Rested (Session on.session) own0 own1 → (a : GrantAnswer)
    → GrantedFrom site mid pass on part own1 own2 a → GrantedFrom site mid pass on part own0 own2 a
granted_since site mid pass on part own0 own1 own2 r granted.Granted g = (g.0 ∙ r, g.1)
granted_since site mid pass on part own0 own1 own2 r granted.Down g = (g.0 ∙ r, g.1)
granted_since site mid pass on part own0 own1 own2 r (granted.Passed now) g = (g.0 ∙ r, g.1, g.2, g.3)
granted_since site mid pass on part own0 own1 own2 r granted.InDoubt g = (g.0 ∙ r, g.1, g.2)
granted_since site mid pass on part own0 own1 own2 r (granted.Failed why) g = g ∙ ap (λ (steps : List Step). steps ++ Fail site on why ∷ []) r

-- ---- after Refreshes

both_weaker : (R S : Story → Story → Type 0) → ((a b : Story) → R a b → S a b) → (a b : Option Story) → Both R a b → Both S a b
both_weaker R S to None None r = tt
both_weaker R S to None (Some b) r = absurd r
both_weaker R S to (Some a) None r = absurd r
both_weaker R S to (Some a) (Some b) r = to a b r

-- what may come through a part, at whose beginning the site's records are the same, may come through the whole
crash_within : (site : ℕ) (old first last new : View) (before now : Option Story) → SameRecords site old first → IsPrefix old.seen first.seen → Went last new
    → Both (Crashes site first last) before now → Both (Crashes site old new) before now
crash_within site old first last new before now s p w = both_weaker (Crashes site first last) (Crashes site old new) through before now
  where
    frames : List (List ℕ)
    frames = frames_of site (reverse first.seen)

    comes : (next : List ℕ) → MayCome site first last next → MayCome site old new next
    comes next (inl h) =
        inl (
          h.0,
          h.1,
          h.2,
          prefix_trans old.seen first.seen h.0 p h.3,
          prefix_trans h.0 last.seen new.seen h.4 w.begins,
          subst (λ (layout : Layout). Allowed layout (reverse h.0) h.1) (sym (went_layout last new w)) h.5,
          h.6,
          h.7,
        )
    comes next (inr h) = inr (sym s.doubt ∙ h)

    one : (c : List ℕ) → HoldsWith frames (MayCome site first last) c → HoldsWith frames (MayCome site old new) c
    one c (inl h) = inl h
    one c (inr h) = inr (h.0, comes h.0 h.1, h.2)

    through : (x y : Story) → Crashes site first last x y → Crashes site old new x y
    through x y h =
        subst (λ (frames : List (List ℕ)). LeavesOnly (HoldsWith frames (MayCome site old new)) x y) s.frames
        (leaves_weaker (HoldsWith frames (MayCome site first last)) (HoldsWith frames (MayCome site old new)) one x y h)

module _ {D : Type 0} (old mid : Station D) (w : Refreshes old mid) where
  pub in_since : (new : Station D) → HandsIn mid new → HandsIn old new
  in_since new h = record {
    number = h.number ∙ w.number;
    installed = prefix_trans old.installed mid.installed new.installed w.installed h.installed;
    pass = went_twice old.pass mid.pass new.pass w.pass h.pass;
  }

  -- what the answer says

  pub from_since : (pass : View) (on : TxnId) (part : ℕ) (own0 own1 own2 : View) (a : GrantAnswer) → Rested (Session on.session) own0 own1
      → GrantedFrom mid.number mid.pass pass on part own1 own2 a → GrantedAs old.number old.pass pass on part own0 own2 a
  from_since pass on part own0 own1 own2 a r g = (
    mid.pass,
    w.pass,
    granted_since old.number mid.pass pass on part own0 own1 own2 r a
        (subst (λ (site : ℕ). GrantedFrom site mid.pass pass on part own1 own2 a) w.number g),
  )

  as_since : (pass : View) (on : TxnId) (part : ℕ) (own0 own1 own2 : View) (a : GrantAnswer) → Rested (Session on.session) own0 own1
      → GrantedAs mid.number mid.pass pass on part own1 own2 a → GrantedAs old.number old.pass pass on part own0 own2 a
  as_since pass on part own0 own1 own2 a r g = (
    g.0,
    went_twice old.pass mid.pass g.0 w.pass g.1,
    granted_since old.number g.0 pass on part own0 own1 own2 r a
        (subst (λ (site : ℕ). GrantedFrom site g.0 pass on part own1 own2 a) w.number g.2),
  )

  -- it is down, once more Refreshes came
  pub down_since : (now : Station D) → Refreshes mid now → (on : TxnId) (part : ℕ) (own0 own1 own2 : View) (vector : List ℕ) (answer : CatchAnswer)
      → Rested (Session on.session) own0 own1 → Rested (Session on.session) own1 own2 → answer ≡ caught.Down → Caught mid.number vector now.pass answer
      → GrantedAs old.number old.pass now.pass on part own0 own2 granted.Down
  down_since now m on part own0 own1 own2 vector answer r s e h = (
    now.pass,
    went_twice old.pass mid.pass now.pass w.pass m.pass,
    (s ∙ r, subst (λ (site : ℕ). IsDownIn now.pass site) w.number (subst (λ (answer : CatchAnswer). Caught mid.number vector now.pass answer) e h)),
  )

  pub crash_then : (story : D → Option Story) (new : View) (told : Option Story) → Both (Crashes mid.number mid.pass new) (story mid.disk) told
      → Both (Crashes old.number old.pass new) (story old.disk) told
  crash_then story new told c =
      crash_within old.number old.pass mid.pass new new (story old.disk) told w.records w.pass.begins (went_nowhere new)
      (subst (λ (site : ℕ). Both (Crashes site mid.pass new) (story old.disk) told) w.number
      (subst (λ (disk : D). Both (Crashes mid.number mid.pass new) (story disk) told) w.disk c))

-- nothing was written since
pub crash_more : {D : Type 0} (story : D → Option Story) (old mid new : Station D) → Refreshes mid new
    → Both (Crashes old.number old.pass mid.pass) (story old.disk) (story mid.disk) → Both (Crashes old.number old.pass new.pass) (story old.disk)
    (story new.disk)
crash_more {D} story old mid new w c =
    crash_within old.number old.pass old.pass mid.pass new.pass (story old.disk) (story new.disk) (record { frames = refl; doubt = refl })
    (prefix_refl old.pass.seen) w.pass (subst (λ (disk : D). Both (Crashes old.number old.pass mid.pass) (story old.disk) (story disk)) (sym w.disk) c)

-- ---- the loop

of_some : {X : Type 0} (P : X → Type 0) (o : Option X) (x : X) → o ≡ Some x → IfSome o P → P x
of_some {X} P o x e h = subst (λ (o : Option X). IfSome o P) e h

-- after Refreshes the answer is what one look gave
module _ {D : Type 0} (old mid : Station D) (w : Refreshes old mid) (o : Option GrantAnswer) (a : GrantAnswer) (e : o ≡ Some a) where
  pub told_since : (pass : View) (on : TxnId) (part : ℕ) (own0 own1 own2 : View) → Rested (Session on.session) own0 own1
      → IfSome o (GrantedAs mid.number mid.pass pass on part own1 own2) → GrantedAs old.number old.pass pass on part own0 own2 a
  told_since pass on part own0 own1 own2 r h =
      as_since old mid w pass on part own0 own1 own2 a r (of_some (GrantedAs mid.number mid.pass pass on part own1 own2) o a e h)

  pub line_since : (locks : Locks) → IfSome o (LinesGrant mid.locks locks) → LinesGrant old.locks locks a
  line_since locks h = subst (λ (before : Locks). LinesGrant before locks a) w.locks (of_some (LinesGrant mid.locks locks) o a e h)

  pub cause_since : (story : D → Option Story) (faults : D → ℕ) (now : ℕ)
      → IfSome o (IsGrantCaused mid.number (story mid.disk) (faults mid.disk) now) → IsGrantCaused old.number (story old.disk) (faults old.disk) now a
  cause_since story faults now h =
      subst (λ (site : ℕ). IsGrantCaused site (story old.disk) (faults old.disk) now a) w.number
      (subst (λ (disk : D). IsGrantCaused mid.number (story disk) (faults disk) now a) w.disk
      (of_some (IsGrantCaused mid.number (story mid.disk) (faults mid.disk) now) o a e h))

pub count_since : {D : Type 0} (old mid : Station D) → Refreshes old mid → (faults : D → ℕ) (now : ℕ) → faults mid.disk ≤ now → faults old.disk ≤ now
count_since {D} old mid w faults now l = subst (λ (disk : D). faults disk ≤ now) w.disk l
