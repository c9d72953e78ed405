-- In every legal past a session that is answered began at no vector below what it was answered before.
use Rattle.std.proofs.Common.{ℕ, ◌≤◌, ◌≡◌, ◌≢◌, Bool, true, false, ◌==◌, ◌&&◌, if◌then◌else◌, List, [], ◌∷◌, ◌++◌, Option, Some, None, length, refl, sym, ap}
use Rattle.std.proofs.Common.{◌∙◌, subst, arith, inl, inr, unwrap_or, le_trans}
use Rattle.std.proofs.lemmas.Bool.{eqb-true, eq-eqb, ne_eqb, cond-true, cond-false, false≢true, and_parts, and_from, false_from_ne_true}
use Rattle.std.specs.List.{cons_option}
use Rattle.std.specs.Prelude.{find, option_map, option_to_list, filter_map}
use Rattle.dm_event.specs.Txns.{same_txn}
use Rattle.dm_event.specs.Layout.{Layout}
use Rattle.dm_event.specs.Vectors.{at, AtMost, join_all, first_above}
use Rattle.dm_event.specs.declared.attempt.AttemptState.{AttemptState}
use Rattle.dm_event.specs.declared.attempt.AttemptState.TheVariants.{Unrouted, Routed, Running, Committed, Ended, Failed, Doubted, Dropped}
use Rattle.dm_event.specs.declared.attempt.AttemptState.TheVariants as stands
use Rattle.dm_event.specs.declared.step.Entry.{Entry}
use Rattle.dm_event.specs.declared.step.Found.TheVariants.{Clean, Kept, Lost}
use Rattle.dm_event.specs.declared.step.Pending.{Pending}
use Rattle.dm_event.specs.declared.step.Pending.TheVariants as pending
use Rattle.dm_event.specs.declared.step.Said.{Said}
use Rattle.dm_event.specs.declared.step.Said.TheVariants as said
use Rattle.dm_event.specs.declared.step.Step.{Step}
use Rattle.dm_event.specs.declared.step.Step.TheVariants.{Route, Reply, Begin, Moved, Commit, End, Fail, Doubt, Restart}
use Rattle.dm_event.specs.declared.step.TxnId.{TxnId}
use Rattle.dm_model.proofs.LegalSteps.{legal_route, legal_reply, legal_begin, legal_commit, legal_end}
use Rattle.dm_model.proofs.Numbering.{Numbered, count_at, found_entry}
use Rattle.dm_model.proofs.NumbersSound.{SoundPast, sound_past, sound_step}
use Rattle.dm_model.proofs.RunningIsLast.{Seated, seated, not_routed}
use Rattle.dm_model.proofs.SameValues.{txn_same}
use Rattle.dm_model.proofs.StandingRoutes.{Stands}
use Rattle.dm_model.proofs.StepTests.{went_on, ran, taken, passed, state_or}
use Rattle.dm_model.proofs.VectorFacts.{join_keeps, at_most}
use Rattle.dm_model.specs.Acts.{entries, acts, entry_of, entry_at}
use Rattle.dm_model.specs.Allowed.{Allowed}
use Rattle.dm_model.specs.Attempts.{Routing, state, dropped_at, last_routing, is_routed}
use Rattle.dm_model.specs.Doubts.{step_of, pending_at}
use Rattle.dm_model.specs.Legal.{LegalPast}
use Rattle.dm_model.specs.Outcomes.{is_committed, is_ended}
use Rattle.dm_model.specs.Runs.{runs, begin_vector, last_begin}
use Rattle.dm_model.specs.SessionUp.{SessionUpPast, SessionWithin, AnswersUp}
use Rattle.dm_model.specs.Sessions.{answered, answered_by, session_vector}

-- ---- the session's vector grows

joined_more : (count : ℕ) (o : Option (List ℕ)) (vs : List (List ℕ)) (j : ℕ) → at (join_all count vs) j ≤ at (join_all count (cons_option o vs)) j
joined_more count None vs j = omega arith
joined_more count (Some v) vs j = join_keeps count v vs j

pub session_within : (count c : ℕ) (v : List ℕ) (past : List Step) → AtMost (session_vector count past c) v → SessionWithin count past c v
session_within count c v [] h = h
session_within count c v (s ∷ past) h = (h, session_within count c v past (λ j. le_trans (joined_more count (answered_by c s past) (answered c past) j) (h j)))

-- ---- what the state of a session says of its vector

-- what the session has seen is at most the minimum of its last Route
pub record RoutedAbove (count : ℕ) (past : List Step) (c : ℕ) : Type 0 where
  pub route : Routing
  pub is : last_routing c past ≡ Some route
  pub above : AtMost (session_vector count past c) route.min
  pub long : length route.min ≡ count

-- and at most its last begin vector
pub record BegunAbove (count : ℕ) (past : List Step) (c : ℕ) : Type 0 where
  pub begin : List ℕ
  pub is : last_begin c past ≡ Some begin
  pub above : AtMost (session_vector count past c) begin

-- and at most the begin vector of its entry
pub record CommittedAbove (count : ℕ) (past : List Step) (c site seq : ℕ) : Type 0 where
  pub entry : Entry
  pub is : entry_at site seq past ≡ Some entry
  pub above : AtMost (session_vector count past c) entry.begin

abbrev pub StateSays : ℕ → List Step → ℕ → AttemptState → Type 0
StateSays count past c (Routed site choice) = RoutedAbove count past c
StateSays count past c (Running site) = BegunAbove count past c
StateSays count past c (Committed site seq) = CommittedAbove count past c site seq
StateSays count past c (Ended site) = BegunAbove count past c
StateSays count past c other = Unit {0}

routed_says : (count : ℕ) (past : List Step) (c : ℕ) (st : AttemptState) → StateSays count past c st → is_routed st ≡ true → RoutedAbove count past c
routed_says count past c (Routed site choice) h q = h
routed_says count past c other h q = absurd (false≢true q)

abbrev pub SessionsPast : Layout → List Step → Type 0
SessionsPast layout past = (c : ℕ) → StateSays layout.sites past c (state c past)

-- a running attempt's begin vector is its session's last
abbrev pub LastBegins : List Step → Type 0
LastBegins past = (i : ℕ) (t : TxnId) → runs i t past ≡ true → begin_vector t past ≡ last_begin t.session past

-- ---- what a step of another session leaves

abbrev pub EntriesStay : List Step → List Step → Type 0
EntriesStay past past' = (i k : ℕ) (e : Entry) → entry_at i k past ≡ Some e → entry_at i k past' ≡ Some e

still_above : (count : ℕ) (past past' : List Step) (c : ℕ) → answered c past' ≡ answered c past → (v : List ℕ) → AtMost (session_vector count past c) v
    → AtMost (session_vector count past' c) v
still_above count past past' c a v h = λ j. (let x = ap (λ (vs : List (List ℕ)). at (join_all count vs) j) a in let y = h j in omega arith)

says_keep : (count : ℕ) (past past' : List Step) (c : ℕ) → answered c past' ≡ answered c past → last_routing c past' ≡ last_routing c past
    → last_begin c past' ≡ last_begin c past → EntriesStay past past'
    → (st : AttemptState) → StateSays count past c st → StateSays count past' c st
says_keep count past past' c a r b n (Routed site choice) h = record {
  route = h.route;
  is = r ∙ h.is;
  above =
      still_above count past past' c a h.route.min h.above;
  long = h.long;
}
says_keep count past past' c a r b n (Running site) h = record { begin = h.begin; is = b ∙ h.is; above = still_above count past past' c a h.begin h.above }
says_keep count past past' c a r b n (Committed site seq) h = record {
  entry = h.entry;
  is = n site seq h.entry h.is;
  above = still_above count past past' c a h.entry.begin h.above;
}
says_keep count past past' c a r b n (Ended site) h = record { begin = h.begin; is = b ∙ h.is; above = still_above count past past' c a h.begin h.above }
says_keep count past past' c a r b n other h = tt

says_dropped : (count : ℕ) (past : List Step) (c site : ℕ) (st : AttemptState) → StateSays count past c st → StateSays count past c (dropped_at site st)
says_dropped count past c site (Running k) h = by (k == site)
  where
    by : (b : Bool) → StateSays count past c (if b then Dropped else Running k)
    by true = tt
    by false = h
says_dropped count past c site other h = h

answered_other : (c session number : ℕ) (o : Said) (past : List Step) → (session == c) ≡ false → answered_by c (Reply session number o) past ≡ None
answered_other c session number (said.Committed site seq) past h = none (session == c) _ h
  where
    none : (b : Bool) (x : Option (List ℕ)) → b ≡ false → (if b then x else None) ≡ None
    none true x h = absurd (false≢true (sym h))
    none false x h = refl
answered_other c session number (said.Read site) past h = none (session == c) _ h
  where
    none : (b : Bool) (x : Option (List ℕ)) → b ≡ false → (if b then x else None) ≡ None
    none true x h = absurd (false≢true (sym h))
    none false x h = refl
answered_other c session number other past h = refl

pub entry_more : (es : List Entry) (d : Entry) → Numbered (d ∷ es) → (i k : ℕ) (e : Entry) → find (λ x. (x.origin == i) && (x.seq == k)) es ≡ Some e
    → find (λ x. (x.origin == i) && (x.seq == k)) (d ∷ es) ≡ Some e
entry_more es d m i k e f =
    let g = found_entry es i k e m.1 f in
    let no' : ((d.origin == i) && (d.seq == k)) ≡ false = false_from_ne_true _ (λ t.
    let p = and_parts (d.origin == i) (d.seq == k) t in
    let o = eqb-true d.origin i p.0 in
    let q = eqb-true d.seq k p.1 in
    let c : count_at d.origin es ≡ count_at i es = ap (λ (x : ℕ). count_at x es) o in
    let w = g.within in let y = g.seq in let z = m.0.seq in
    absurd (omega (arith, z, c, w, y, q))) in
    cond-false ((d.origin == i) && (d.seq == k)) (Some d) (find (λ x. (x.origin == i) && (x.seq == k)) es) no' ∙ f

kept_stay : (past : List Step) (site : ℕ) (o : Option Pending) → Numbered (filter_map entry_of (option_to_list (option_map (step_of site) o) ++ acts past))
    → (i k : ℕ) (e : Entry) → entry_at i k past ≡ Some e
    → find (λ x. (x.origin == i) && (x.seq == k)) (filter_map entry_of (option_to_list (option_map (step_of site) o) ++ acts past)) ≡ Some e
kept_stay past site None m i k e f = f
kept_stay past site (Some (pending.Release part epoch to v)) m i k e f = f
kept_stay past site (Some (pending.Grant part epoch v)) m i k e f = f
kept_stay past site (Some (pending.Commit d)) m i k e f = entry_more (entries past) d m i k e f

module _ (layout : Layout) (past : List Step) (n : SoundPast layout past) (seat : Seated past) (last : LastBegins past) (s : SessionsPast layout past) where
  -- the session of a running attempt
  running_says : (i : ℕ) (t : TxnId) (c : ℕ) → runs i t past ≡ true → t.session ≡ c → BegunAbove layout.sites past c
  running_says i t c r e = subst (λ (x : AttemptState). StateSays layout.sites past c x) (ap (λ (k : ℕ). state k past) (sym e) ∙ (seat i t r).runs) (s c)

  pub says_step : (st : Step) → Allowed layout past st → SessionsPast layout (st ∷ past)
  says_step (Route txn want min site choice) h c =
      let legal = legal_route layout past txn want min site choice h in
      state_or (StateSays layout.sites (Route txn want min site choice ∷ past) c) (txn.session == c) (Routed site choice) (state c past)
      (λ e. record {
        route = record { txn = txn; want = want; min = min; site = site; choice = choice };
        is = taken (txn.session == c) _ _ e;
        above = λ j. (let x = ap (λ (k : ℕ). at (session_vector layout.sites past k) j) (eqb-true txn.session c e) in
            let y = ap (λ (v : List ℕ). at v j) legal.least in omega arith);
        long = legal.long;
      })
      (λ e. says_keep layout.sites past (Route txn want min site choice ∷ past) c refl (passed (txn.session == c) _ _ e) refl (λ i k x f. f) (state c past)
      (s c))
  says_step (Reply session number o) h c =
      state_or (StateSays layout.sites (Reply session number o ∷ past) c) (session == c) Unrouted (state c past) (λ e. tt)
      (λ e. says_keep layout.sites past (Reply session number o ∷ past) c
      (ap (λ (x : Option (List ℕ)). cons_option x (answered c past)) (answered_other c session number o past e)) refl refl (λ i k x f. f) (state c past)
      (s c))
  says_step (Begin site txn begin) h c =
      let legal = legal_begin layout past site txn begin h in
      state_or (StateSays layout.sites (Begin site txn begin ∷ past) c) (txn.session == c) (Running site) (state c past)
      (λ e. record {
        begin = begin;
        is = taken (txn.session == c) _ _ e;
        above = subst (λ (k : ℕ). AtMost (session_vector layout.sites past k) begin) (eqb-true txn.session c e) (above legal.routed.stands legal.not_behind);
      })
      (λ e. says_keep layout.sites past (Begin site txn begin ∷ past) c refl refl (passed (txn.session == c) _ _ e) (λ i k x f. f) (state c past) (s c))
    where
      above : (q : Stands past txn) → first_above q.route.min begin ≡ None → AtMost (session_vector layout.sites past txn.session) begin
      above q none j =
          let z = routed_says layout.sites past txn.session (state txn.session past) (s txn.session) q.state in
          let same : z.route ≡ q.route = cc (z.is, q.last) in
          let long = ap (λ (r : Routing). length r.min) (sym same) ∙ z.long in
          let least = ap (λ (r : Routing). at r.min j) same in
          let u = z.above j in
          let v = at_most layout.sites q.route.min begin long none j in
          omega arith
  says_step (Moved site txn) h c =
      state_or (StateSays layout.sites (Moved site txn ∷ past) c) (txn.session == c) stands.Moved (state c past) (λ e. tt)
      (λ e. says_keep layout.sites past (Moved site txn ∷ past) c refl refl refl (λ i k x f. f) (state c past) (s c))
  says_step (Commit d) h c =
      let legal = legal_commit layout past d h in
      state_or (StateSays layout.sites (Commit d ∷ past) c) (d.txn.session == c) (Committed d.origin d.seq) (state c past)
      (λ e. record {
        entry = d;
        is = cond-true ((d.origin == d.origin) && (d.seq == d.seq)) _ _ (and_from _ _ (eq-eqb d.origin d.origin refl) (eq-eqb d.seq d.seq refl));
        above = (
            let z = running_says d.origin d.txn c legal.runs (eqb-true d.txn.session c e) in
            let begun : begin_vector d.txn past ≡ Some z.begin = last d.origin d.txn legal.runs ∙ ap (λ (k : ℕ). last_begin k past) (eqb-true d.txn.session c e)
            ∙ z.is in
            let w : d.begin ≡ z.begin = legal.began ∙ ap (λ (o : Option (List ℕ)). unwrap_or o []) begun in
            subst (λ (b : List ℕ). AtMost (session_vector layout.sites past c) b) (sym w) z.above
            );
      })
      (λ e. says_keep layout.sites past (Commit d ∷ past) c refl refl refl (entry_more (entries past) d (sound_step layout past (Commit d) n h).numbered)
      (state c past) (s c))
  says_step (End site txn ops reads) h c =
      state_or (StateSays layout.sites (End site txn ops reads ∷ past) c) (txn.session == c) (Ended site) (state c past)
      (λ e. (let z = running_says site txn c (legal_end layout past site txn ops reads h).runs (eqb-true txn.session c e) in
      record { begin = z.begin; is = z.is; above = z.above }))
      (λ e. says_keep layout.sites past (End site txn ops reads ∷ past) c refl refl refl (λ i k x f. f) (state c past) (s c))
  says_step (Fail site txn cause) h c =
      state_or (StateSays layout.sites (Fail site txn cause ∷ past) c) (txn.session == c) (Failed cause) (state c past) (λ e. tt)
      (λ e. says_keep layout.sites past (Fail site txn cause ∷ past) c refl refl refl (λ i k x f. f) (state c past) (s c))
  says_step (Doubt site (pending.Commit d)) h c =
      state_or (StateSays layout.sites (Doubt site (pending.Commit d) ∷ past) c) (d.txn.session == c) (Doubted site) (dropped_at site (state c past)) (λ e. tt)
      (λ e. says_dropped layout.sites (Doubt site (pending.Commit d) ∷ past) c site (state c past)
      (says_keep layout.sites past (Doubt site (pending.Commit d) ∷ past) c refl refl refl (λ i k x f. f) (state c past) (s c)))
  says_step (Doubt site (pending.Release part epoch to vector)) h c =
      says_dropped layout.sites (Doubt site (pending.Release part epoch to vector) ∷ past) c site (state c past)
      (says_keep layout.sites past (Doubt site (pending.Release part epoch to vector) ∷ past) c refl refl refl (λ i k x f. f) (state c past) (s c))
  says_step (Doubt site (pending.Grant part epoch vector)) h c =
      says_dropped layout.sites (Doubt site (pending.Grant part epoch vector) ∷ past) c site (state c past)
      (says_keep layout.sites past (Doubt site (pending.Grant part epoch vector) ∷ past) c refl refl refl (λ i k x f. f) (state c past) (s c))
  says_step (Restart site vector Clean) h c =
      says_dropped layout.sites (Restart site vector Clean ∷ past) c site (state c past)
      (says_keep layout.sites past (Restart site vector Clean ∷ past) c refl refl refl (λ i k x f. f) (state c past) (s c))
  says_step (Restart site vector Lost) h c =
      says_dropped layout.sites (Restart site vector Lost ∷ past) c site (state c past)
      (says_keep layout.sites past (Restart site vector Lost ∷ past) c refl refl refl (λ i k x f. f) (state c past) (s c))
  says_step (Restart site vector Kept) h c =
      says_dropped layout.sites (Restart site vector Kept ∷ past) c site (state c past)
      (says_keep layout.sites past (Restart site vector Kept ∷ past) c refl refl refl
      (kept_stay past site (pending_at site past) (sound_step layout past (Restart site vector Kept) n h).numbered) (state c past) (s c))
  says_step other h c = says_keep layout.sites past (other ∷ past) c refl refl refl (λ i k x f. f) (state c past) (s c)

last_step : (layout : Layout) (past : List Step) (st : Step) → Seated past → Allowed layout past st → LastBegins past → LastBegins (st ∷ past)
last_step layout past (Begin site txn begin) seat h l i t r =
    let q = (legal_begin layout past site txn begin h).routed.stands in
    elim (ran (same_txn t txn) (site == i) _ r) [
      | inl p ↦ (
          let own : txn.session ≡ t.session = ap (λ (x : TxnId). x.session) (sym (txn_same t txn p.test)) in
          taken (same_txn t txn) begin _ p.test ∙ sym (taken (txn.session == t.session) begin _ (eq-eqb txn.session t.session own))
          )
      | inr p ↦ (
          let other : txn.session ≢ t.session = not_routed layout past seat i t txn p.before q.state in
          passed (same_txn t txn) begin _ p.test ∙ l i t p.before ∙ sym (passed (txn.session == t.session) begin _ (ne_eqb txn.session t.session other))
          )
    ]
last_step layout past (Commit e) seat h l i t r = l i t (went_on (same_txn t e.txn) _ r).before
last_step layout past (End site txn ops reads) seat h l i t r = l i t (went_on (same_txn t txn) _ r).before
last_step layout past (Fail site txn cause) seat h l i t r = l i t (went_on (same_txn t txn) _ r).before
last_step layout past (Doubt site p) seat h l i t r = l i t (went_on (site == i) _ r).before
last_step layout past (Restart site vector found) seat h l i t r = l i t (went_on (site == i) _ r).before
last_step layout past other seat h l i t r = l i t r

pub last_begins : (layout : Layout) (past : List Step) → LegalPast layout past → LastBegins past
last_begins layout [] h = λ i t r. absurd (false≢true r)
last_begins layout (st ∷ past) h = last_step layout past st (seated layout past h.0) h.1 (last_begins layout past h.0)

pub sessions_past : (layout : Layout) (past : List Step) → LegalPast layout past → SessionsPast layout past
sessions_past layout [] h = λ c. tt
sessions_past layout (st ∷ past) h = says_step layout past (sound_past layout past h.0) (seated layout past h.0) (last_begins layout past h.0)
    (sessions_past layout past h.0) st h.1

answered_committed : (count : ℕ) (past : List Step) (c number site seq : ℕ) (st : AttemptState) → StateSays count past c st → is_committed st site seq ≡ true
    → AnswersUp count past (Reply c number (said.Committed site seq))
answered_committed count past c number site seq (Committed i k) h m =
    let p = and_parts (i == site) (k == seq) m in (
      h.entry,
      ap (λ (x : ℕ). entry_at x seq past) (sym (eqb-true i site p.0)) ∙ ap (λ (x : ℕ). entry_at i x past) (sym (eqb-true k seq p.1)) ∙ h.is,
      session_within count c h.entry.begin past h.above,
    )
answered_committed count past c number site seq other h m = absurd (false≢true m)

answered_read : (count : ℕ) (past : List Step) (c number site : ℕ) (st : AttemptState) → StateSays count past c st → is_ended st site ≡ true
    → AnswersUp count past (Reply c number (said.Read site))
answered_read count past c number site (Ended i) h m = (h.begin, h.is, session_within count c h.begin past h.above)
answered_read count past c number site other h m = absurd (false≢true m)

answer_up : (layout : Layout) (past : List Step) (st : Step) → SessionsPast layout past → Allowed layout past st → AnswersUp layout.sites past st
answer_up layout past (Reply session number (said.Committed site seq)) s h =
    answered_committed layout.sites past session number site seq (state session past) (s session)
    (legal_reply layout past session number (said.Committed site seq) h).says
answer_up layout past (Reply session number (said.Read site)) s h =
    answered_read layout.sites past session number site (state session past) (s session) (legal_reply layout past session number (said.Read site) h).says
answer_up layout past other s h = tt

pub session_up_past : (layout : Layout) (past : List Step) → LegalPast layout past → SessionUpPast layout past
session_up_past layout [] h = tt
session_up_past layout (st ∷ past) h = (answer_up layout past st (sessions_past layout past h.0) h.1, session_up_past layout past h.0)
