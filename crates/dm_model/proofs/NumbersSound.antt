-- In every legal past the counts and vectors are sound: entries are numbered, and what sites and attempts have is closed.
use Rattle.std.proofs.Common.{ℕ, zero, suc, ◌+◌, ◌≤◌, ◌≡◌, ◌≢◌, Bool, true, false, ◌==◌, ◌&&◌, cond, List, [], ◌∷◌, ◌++◌, Option, Some, None, length, refl, sym}
use Rattle.std.proofs.Common.{ap, ◌∙◌, subst, arith, inl, inr, ◌⊎◌, unwrap_or}
use Rattle.std.proofs.lemmas.Bool.{cases_Bool, cases_eq, eqb-true, eqb-false, eq-eqb, ne_eqb, cond-true, cond-false, false≢true}
use Rattle.std.specs.List.{AllByRecursion as Each}
use Rattle.std.specs.Prelude.{option_map, option_to_list, filter_map}
use Rattle.dm_event.specs.Txns.{same_txn}
use Rattle.dm_event.specs.Layout.{Layout}
use Rattle.dm_event.specs.Vectors.{at, raised}
use Rattle.dm_event.specs.declared.step.Entry.{Entry}
use Rattle.dm_event.specs.declared.step.Found.{Found}
use Rattle.dm_event.specs.declared.step.Found.TheVariants.{Clean, Kept, Lost}
use Rattle.dm_event.specs.declared.step.Pending.{Pending}
use Rattle.dm_event.specs.declared.step.Pending.TheVariants as pending
use Rattle.dm_event.specs.declared.step.Step.{Step}
use Rattle.dm_event.specs.declared.step.Step.TheVariants.{Begin, Commit, End, Fail, Refresh, Release, Grant, Doubt, Restart}
use Rattle.dm_event.specs.declared.step.TxnId.{TxnId}
use Rattle.dm_model.proofs.LegalSteps.{LegalCommit, MaySet, legal_begin, legal_commit, legal_refresh, legal_restart, doubted_commit, doubted_grant}
use Rattle.dm_model.proofs.ListFacts.{each_map, found_each}
use Rattle.dm_model.proofs.Numbering.{ClosedBy, count_at, count_own, count_other, count_more, closed_vector, found_entry, none_missing, none_unclosed}
use Rattle.dm_model.proofs.NumbersKept.{Counts, Sound, Within, Waits, InDoubt}
use Rattle.dm_model.proofs.NumbersKept as sound
use Rattle.dm_model.proofs.SameValues.{txn_same, txn_own}
use Rattle.dm_model.proofs.StepTests.{went_on, ran, taken, passed}
use Rattle.dm_model.proofs.VectorFacts.{at_most, at_by_below, long_by, at_by, at_raised_other}
use Rattle.dm_model.specs.Acts.{entries, acts, entry_of}
use Rattle.dm_model.specs.Allowed.{Allowed, with_kept}
use Rattle.dm_model.specs.Doubts.{step_of, is_down, pending_at}
use Rattle.dm_model.specs.Legal.{LegalPast}
use Rattle.dm_model.specs.Progress.{reached, refreshed, site_vector, entry_count}
use Rattle.dm_model.specs.Rows.{found_fits}
use Rattle.dm_model.specs.Runs.{runs, begin_vector}

-- what the past gives of counts and vectors
abbrev pub counts : List Step → Counts
counts past = record {
  entries = entries past;
  reached = λ i j. reached i j past;
  runs = λ i t. runs i t past;
  begins = λ t. begin_vector t past;
  down = λ i. is_down i past;
  doubt = λ i. pending_at i past;
}

-- they are sound
abbrev pub SoundPast : Layout → List Step → Type 0
SoundPast layout past = Sound layout.sites (counts past)

-- ---- what a Doubt leaves

-- nothing runs at its site
pub doubt_stops : (past : List Step) (site : ℕ) (p : Pending) (k : ℕ) (u : TxnId) → runs k u (Doubt site p ∷ past) ≡ true → (runs k u past ≡ true) × (k ≢ site)
doubt_stops past site p k u r = elim (ran (site == k) false _ r) [
  | inl q ↦ absurd (false≢true q.now)
  | inr q ↦
      (q.before, λ e. eqb-false site k q.test (sym e))
]

-- the step is in doubt there, and other sites stay as they are
pub doubt_waits : (past : List Step) (site : ℕ) (p : Pending) (k : ℕ) → ((k ≡ site) × (pending_at k (Doubt site p ∷ past) ≡ Some p))
    ⊎ Waits site k (λ i. is_down i past) (λ i. is_down i (Doubt site p ∷ past)) (λ i. pending_at i past) (λ i. pending_at i (Doubt site p ∷ past))
doubt_waits past site p k = elim (cases_Bool (site == k)) [
  | inl q ↦ inl (sym (eqb-true site k q), taken (site == k) p _ q)
  | inr q ↦ inr (record {
    other = λ e. eqb-false site k q (sym e);
    still = ap (λ (o : Option Bool). unwrap_or o false) (passed (site == k) true _ q);
    same = passed (site == k) p _ q;
  })
]

-- ---- each step

module _ (layout : Layout) (past : List Step) (s : SoundPast layout past) where
  -- a site has its vector
  pub vector_within : (site : ℕ) (v : List ℕ) → v ≡ site_vector layout.sites past site → Within layout.sites (λ j. reached site j past) v
  vector_within site v e = subst (λ (x : List ℕ). Within layout.sites (λ j. reached site j past) x) (sym e)
      (record { long = long_by layout.sites (λ j. reached site j past); below = at_by_below layout.sites (λ j. reached site j past) })

  pub vector_closed : (site : ℕ) (v : List ℕ) → v ≡ site_vector layout.sites past site → ClosedBy (entries past) (at v)
  vector_closed site v e = subst (λ (x : List ℕ). ClosedBy (entries past) (at x)) (sym e)
      (closed_vector layout.sites (entries past) (λ j. reached site j past) s.sized (s.closed site))

  begins : (site : ℕ) (txn : TxnId) (begin : List ℕ) → Allowed layout past (Begin site txn begin) → SoundPast layout (Begin site txn begin ∷ past)
  begins site txn begin h =
      let legal = legal_begin layout past site txn begin h in
      sound.begun layout.sites (counts past) s (counts (Begin site txn begin ∷ past)) site txn begin legal.up (vector_within site begin legal.at_vector)
      (vector_closed site begin legal.at_vector)
      (λ i t r. elim (ran (same_txn t txn) (site == i) _ r) [
        | inl p ↦ inl (txn_same t txn p.test, sym (eqb-true site i p.now))
        | inr q ↦ inr (q.before, passed (same_txn t txn) begin _ q.test)
      ])
      (λ t. elim (cases_Bool (same_txn t txn)) [
        | inl p ↦ inl (txn_same t txn p, taken (same_txn t txn) begin _ p)
        | inr q ↦ inr (passed (same_txn t txn) begin _ q)
      ])
      (taken (same_txn txn txn) begin _ (txn_own txn))

  -- an entry that is committed began within what its site has
  pub commit_within : (e : Entry) → LegalCommit layout past e → Within layout.sites (λ j. reached e.origin j past) e.begin
  commit_within e legal =
      let old = s.running e.origin e.txn legal.runs in
      let same : old.begin ≡ e.begin = sym (legal.began ∙ ap (λ (o : Option (List ℕ)). unwrap_or o []) old.is) in
      subst (λ (x : List ℕ). Within layout.sites (λ j. reached e.origin j past) x) same old.within

  reached_entry : (e : Entry) (k j : ℕ) (b : Bool) → (k == j) ≡ b
      → ((k ≡ e.origin) × (j ≡ e.origin)) ⊎
      (cond b (count_at k (e ∷ entries past)) (refreshed k j past) ≡ cond b (count_at k (entries past)) (refreshed k j past))
  reached_entry e k j true h = elim (cases_eq e.origin k) [ inl p ↦ inl (sym p, sym (eqb-true k j h) ∙ sym p) | inr n ↦ inr (count_other e (entries past) k n) ]
  reached_entry e k j false h = inr refl

  reached_up : (e : Entry) → cond (e.origin == e.origin) (count_at e.origin (e ∷ entries past)) (refreshed e.origin e.origin past) ≡ suc
      (reached e.origin e.origin past)
  reached_up e = cond-true (e.origin == e.origin) _ _ (eq-eqb e.origin e.origin refl) ∙ count_own e (entries past) e.origin refl ∙ ap suc (sym (s.own e.origin))

  commits : (e : Entry) → Allowed layout past (Commit e) → SoundPast layout (Commit e ∷ past)
  commits e h =
      let legal = legal_commit layout past e h in
      let up = s.up e.origin e.txn legal.runs in
      sound.entered layout.sites (counts past) s (counts (Commit e ∷ past)) e legal.seq (commit_within e legal)
      (reached_up e) (λ k j. reached_entry e k j (k == j) refl)
      (λ k t r. (went_on (same_txn t e.txn) _ r).before)
      (λ k d. record { other = λ p. false≢true (sym up ∙ ap (λ (x : ℕ). is_down x past) (sym p) ∙ d); still = refl; same = refl })

  reached_refresh : (site origin k j : ℕ) → site ≢ origin → (b : Bool) → (k == j) ≡ b → (x y : Bool) → (site == k) ≡ x → (origin == j) ≡ y → (a n m : ℕ)
      → ((k ≡ site) × (j ≡ origin)) ⊎ (cond b a (n + cond (x && y) (suc m) m) ≡ cond b a (n + m))
  reached_refresh site origin k j ne true h x y p q a n m = inr refl
  reached_refresh site origin k j ne false h true true p q a n m = inl (sym (eqb-true site k p), sym (eqb-true origin j q))
  reached_refresh site origin k j ne false h true false p q a n m = inr refl
  reached_refresh site origin k j ne false h false y p q a n m = inr refl

  refreshes : (site origin : ℕ) → Allowed layout past (Refresh site origin) → SoundPast layout (Refresh site origin ∷ past)
  refreshes site origin h =
      let legal = legal_refresh layout past site origin h in
      let e : Entry = legal.entry in
      let next : ℕ = at (site_vector layout.sites past site) origin + 1 in
      let here : at (site_vector layout.sites past site) origin ≡ reached site origin past =
      at_by layout.sites (λ j. reached site j past) origin legal.there.one legal.there.top in
      let got = found_entry (entries past) origin next e s.numbered legal.next in
      let seq : e.seq ≡ suc (reached site origin past) = (let a = got.seq in omega arith) in
      let own = got.own in
      let long = found_each (λ d. length d.begin ≡ layout.sites) (λ d. (d.origin == origin) && (d.seq == next)) (entries past) e legal.next s.sized in
      let count = got.within in
      sound.refreshed layout.sites (counts past) s (counts (Refresh site origin ∷ past)) site origin e (λ p. legal.other (sym p))
      (each_map (λ d. d.origin ≡ origin → d.seq ≡ next → d ≡ e) (λ d. d.origin ≡ origin → d.seq ≡ suc (reached site origin past) → d ≡ e)
      (λ d u p q. u p (omega (arith, q, here))) (entries past) got.only)
      (omega arith)
      (λ j. elim (cases_eq j origin) [
        | inl p ↦ (let a = ap (λ (x : ℕ). at e.begin x) p in let b = ap (λ (x : ℕ). at e.begin x) got.origin in let d = ap (λ (x : ℕ). reached site x past) p in
            omega (arith, own, seq, a, b, d))
        | inr n ↦ (let a = none_missing layout.sites (site_vector layout.sites past site) e long legal.has j (λ q. n (q ∙ got.origin)) in
            let b = at_by_below layout.sites (λ j. reached site j past) j in omega arith)
      ])
      (rw (ne_eqb site origin legal.other, eq-eqb site site refl, eq-eqb origin origin refl) (omega arith))
      (λ k j. reached_refresh site origin k j legal.other (k == j) refl (site == k) (origin == j) refl refl _ _ _)

  doubts : (site : ℕ) (p : Pending) → InDoubt layout.sites (counts past) site (Some p) → SoundPast layout (Doubt site p ∷ past)
  doubts site p d = sound.doubted layout.sites (counts past) s (counts (Doubt site p ∷ past)) site p d (doubt_stops past site p) (doubt_waits past site p)

  -- what the clauses on a Restart's vector say, where the entries are these
  set_closed : (site : ℕ) (vector : List ℕ) (kept : List Step) → MaySet layout past site vector kept
      → Each (λ e. length e.begin ≡ layout.sites) (entries kept) → ((j : ℕ) → count_at j (entries past) ≤ count_at j (entries kept))
      → ClosedBy (entries kept) (at vector)
  set_closed site vector kept set sized more =
      let n = set.own in
      let below = at_most layout.sites vector (raised (site_vector layout.sites past site) site (entry_count site kept)) set.long set.not_ahead in
      record {
        within = λ j. elim (cases_eq j site) [
          | inl p ↦ (let a = ap (λ (x : ℕ). at vector x) p in let b = ap (λ (x : ℕ). count_at x (entries kept)) p in omega (arith, n, a, b))
          | inr m ↦ (let a = below j in let b = at_raised_other (site_vector layout.sites past site) site (entry_count site kept) j set.here.one m in
              let d = at_by_below layout.sites (λ j. reached site j past) j in let e = (s.closed site).within j in let f = more j in omega arith)
        ];
        begun = none_unclosed layout.sites vector (entries kept) sized set.closed;
      }

  pub refreshed_own : (site : ℕ) (vector : List ℕ) (found : Found) (j : ℕ) → refreshed site j (Restart site vector found ∷ past) ≡ at vector j
  refreshed_own site vector found j = rw (eq-eqb site site refl) (omega arith)

  pub refreshed_other : (site : ℕ) (vector : List ℕ) (found : Found) (k j : ℕ) → k ≢ site
      → refreshed k j (Restart site vector found ∷ past) ≡ refreshed k j past
  refreshed_other site vector found k j n = rw (ne_eqb site k (λ p. n (sym p))) refl

  -- what a Restart leaves, where the entries are these
  abbrev pub reset : ℕ → List ℕ → Found → List Entry → Counts
  reset site vector found es = record {
    entries = es;
    reached = λ k j. cond (k == j) (count_at k es) (refreshed k j (Restart site vector found ∷ past));
    runs = λ i t. runs i t (Restart site vector found ∷ past);
    begins = λ t. begin_vector t past;
    down = λ i. is_down i (Restart site vector found ∷ past);
    doubt = λ i. pending_at i past;
  }

  -- the site is set to the vector, where the counts that it had are sound
  resets : (site : ℕ) (vector : List ℕ) (found : Found) (es : List Entry) (got : ℕ → ℕ → ℕ)
      → Sound layout.sites (record (reset site vector found es) { reached = got })
      → ((k j : ℕ) → k ≢ site → cond (k == j) (count_at k es) (refreshed k j past) ≡ got k j)
      → ClosedBy es (at vector) → at vector site ≡ count_at site es
      → Sound layout.sites (reset site vector found es)
  resets site vector found es got z same c n =
      sound.restarted layout.sites (record (reset site vector found es) { reached = got }) z (reset site vector found es) site vector c
      (λ j. elim (cases_eq site j) [
        | inl p ↦ (cond-true (site == j) _ _ (eq-eqb site j p) ∙ sym n ∙ ap (λ (x : ℕ). at vector x) p)
        | inr m ↦ (cond-false (site == j) _ _ (ne_eqb site j m) ∙ refreshed_own site vector found j)
      ]) n
      (λ k j m. ap (λ (x : ℕ). cond (k == j) (count_at k es) x) (refreshed_other site vector found k j m) ∙ same k j m)
      (λ k u r. elim (ran (site == k) false _ r) [ inl q ↦ absurd (false≢true q.now) | inr q ↦ ((λ e. eqb-false site k q.test (sym e)), r) ])
      (λ k. elim (cases_Bool (site == k)) [
        | inl q ↦ inl (sym (eqb-true site k q), ap (λ (o : Option Bool). unwrap_or o false) (taken (site == k) false _ q))
        | inr q ↦ inr ((λ e. eqb-false site k q (sym e)), refl)
      ])

  -- the runs after a Restart, with the counts before it
  abbrev stopped : ℕ → List ℕ → Found → Counts
  stopped site vector found = record (reset site vector found (entries past)) { reached = λ i j. reached i j past }

  stops : (site : ℕ) (vector : List ℕ) (found : Found) → Sound layout.sites (stopped site vector found)
  stops site vector found =
      sound.eased layout.sites (counts past) s (stopped site vector found)
      (λ k u r. elim (ran (site == k) false _ r) [ inl q ↦ absurd (false≢true q.now) | inr q ↦ q.before ])
      (λ k r. elim (ran (site == k) false _ r) [ inl q ↦ absurd (false≢true q.now) | inr q ↦ q.before ])

  -- no entry comes
  resets_alone : (site : ℕ) (vector : List ℕ) (found : Found) (kept : List Step) → entries kept ≡ entries past → MaySet layout past site vector kept
      → Sound layout.sites (reset site vector found (entries past))
  resets_alone site vector found kept same set =
      let sized = subst (λ (es : List Entry). Each (λ e. length e.begin ≡ layout.sites) es) (sym same) s.sized in
      let closed = set_closed site vector kept set sized (λ j. (let q = ap (λ (es : List Entry). count_at j es) same in omega (arith, q))) in
      resets site vector found (entries past) (λ i j. reached i j past) (stops site vector found) (λ k j m. refl)
      (subst (λ (es : List Entry). ClosedBy es (at vector)) same closed) (set.own ∙ ap (λ (es : List Entry). count_at site es) same)

  -- the entries and the past, where a Restart keeps the pending step
  abbrev pub kept_entries : ℕ → Option Pending → List Entry
  kept_entries site o = filter_map entry_of (option_to_list (option_map (step_of site) o) ++ acts past)

  abbrev pub kept_past : ℕ → Option Pending → List Step
  kept_past site o = option_to_list (option_map (step_of site) o) ++ past

  abbrev bumped : ℕ → ℕ → ℕ → ℕ
  bumped site k j = cond ((k == site) && (j == site)) (suc (reached k j past)) (reached k j past)

  bumped_cases : (site k j : ℕ) (x y : Bool) → (k == site) ≡ x → (j == site) ≡ y → (n : ℕ) → ((k ≡ site) × (j ≡ site)) ⊎ (cond (x && y) (suc n) n ≡ n)
  bumped_cases site k j true true p q n = inl (eqb-true k site p, eqb-true j site q)
  bumped_cases site k j true false p q n = inr refl
  bumped_cases site k j false y p q n = inr refl

  bumped_other : (site k j n : ℕ) → k ≢ site → cond ((k == site) && (j == site)) (suc n) n ≡ n
  bumped_other site k j n m = rw (ne_eqb k site m) refl

  resets_kept : (site : ℕ) (vector : List ℕ) (o : Option Pending) → InDoubt layout.sites (counts past) site o
      → MaySet layout past site vector (kept_past site o)
      → Sound layout.sites (reset site vector Kept (kept_entries site o))
  resets_kept site vector None d set = resets_alone site vector Kept past refl set
  resets_kept site vector (Some (pending.Release part epoch to v)) d set = resets_alone site vector Kept (Release site part epoch to v ∷ past) refl set
  resets_kept site vector (Some (pending.Grant part epoch v)) d set = resets_alone site vector Kept (Grant site part epoch v ∷ past) refl set
  resets_kept site vector (Some (pending.Commit e)) d set =
      let closed = set_closed site vector (Commit e ∷ past) set (d.within.long, s.sized) (λ j. count_more e (entries past) j) in
      let off : is_down site (Restart site vector Kept ∷ past) ≡ false =
      ap (λ (o : Option Bool). unwrap_or o false) (taken (site == site) false _ (eq-eqb site site refl)) in
      let num : e.seq ≡ suc (count_at e.origin (entries past)) = d.seq ∙ ap (λ (x : ℕ). suc (count_at x (entries past))) (sym d.own) in
      let w : Within layout.sites (λ j. reached e.origin j past) e.begin =
      subst (λ (x : ℕ). Within layout.sites (λ j. reached x j past) e.begin) (sym d.own) d.within in
      let after : Counts = record (reset site vector Kept (e ∷ entries past)) { reached = bumped e.origin } in
      let z = sound.entered layout.sites (stopped site vector Kept) (stops site vector Kept) after e num w
      (rw (eq-eqb e.origin e.origin refl) refl) (λ k j. bumped_cases e.origin k j (k == e.origin) (j == e.origin) refl refl _)
      (λ k u r. r)
      (λ k h. record {
        other = λ p. false≢true (sym off ∙ ap (λ (x : ℕ). is_down x (Restart site vector Kept ∷ past)) (sym (p ∙ d.own)) ∙ h);
        still = refl;
        same = refl;
      }) in
      resets site vector Kept (e ∷ entries past) (bumped e.origin) z
      (λ k j m. ap (λ (x : ℕ). cond (k == j) x (refreshed k j past)) (count_other e (entries past) k (λ p. m (sym p ∙ d.own)))
      ∙ sym (bumped_other e.origin k j _ (λ p. m (p ∙ d.own)))) closed set.own

  restarts : (site : ℕ) (vector : List ℕ) (found : Found) → Allowed layout past (Restart site vector found)
      → SoundPast layout (Restart site vector found ∷ past)
  restarts site vector found h = (let legal = legal_restart layout past site vector found h in by_found found legal.fits legal.may_set)
    where
      by_found : (found : Found) → found_fits found (is_down site past) ≡ true → MaySet layout past site vector (with_kept site found past)
          → SoundPast layout (Restart site vector found ∷ past)
      by_found Clean fits set = resets_alone site vector Clean past refl set
      by_found Lost fits set = resets_alone site vector Lost past refl set
      by_found Kept fits set = resets_kept site vector (pending_at site past) (s.in_doubt site fits) set

pub sound_step : (layout : Layout) (past : List Step) (s : Step) → SoundPast layout past → Allowed layout past s → SoundPast layout (s ∷ past)
sound_step layout past (Begin site txn begin) s h = begins layout past s site txn begin h
sound_step layout past (Commit e) s h = commits layout past s e h
sound_step layout past (End site txn ops reads) s h =
    sound.eased layout.sites (counts past) s (counts (End site txn ops reads ∷ past)) (λ i t r. (went_on (same_txn t txn) _ r).before) (λ i d. d)
sound_step layout past (Fail site txn cause) s h =
    sound.eased layout.sites (counts past) s (counts (Fail site txn cause ∷ past)) (λ i t r. (went_on (same_txn t txn) _ r).before) (λ i d. d)
sound_step layout past (Refresh site origin) s h = refreshes layout past s site origin h
sound_step layout past (Doubt site (pending.Commit e)) s h =
    let legal = doubted_commit layout past site e h in
    doubts layout past s site (pending.Commit e) (record {
      own = legal.own;
      seq = legal.commit.seq ∙ ap (λ (x : ℕ). suc (count_at x (entries past))) legal.own;
      within = subst (λ (x : ℕ). Within layout.sites (λ j. reached x j past) e.begin) legal.own (commit_within layout past s e legal.commit);
    })
sound_step layout past (Doubt site (pending.Release part epoch to vector)) s h = doubts layout past s site (pending.Release part epoch to vector) tt
sound_step layout past (Doubt site (pending.Grant part epoch vector)) s h =
    doubts layout past s site (pending.Grant part epoch vector) (doubted_grant layout past site part epoch vector h).long
sound_step layout past (Restart site vector found) s h = restarts layout past s site vector found h
sound_step layout past other s h = s

-- the numbers are sound in each legal past
pub sound_past : (layout : Layout) (past : List Step) → LegalPast layout past → SoundPast layout past
sound_past layout [] h = record {
  numbered = tt;
  sized = tt;
  own = λ i. none i i (i == i);
  closed = λ i. record { within = λ j. (let e = none i j (i == j) in omega arith); begun = tt };
  running = λ i t r. absurd (false≢true r);
  begins = λ t b e. absurd (cc (e));
  up = λ i t r. refl;
  in_doubt = λ i d. absurd (false≢true d);
}
  where
    at_nil : (j : ℕ) → at [] j ≡ 0
    at_nil zero = refl
    at_nil (suc k) = refl

    none : (i j : ℕ) (b : Bool) → cond b 0 (at [] j + 0) ≡ 0
    none i j true = refl
    none i j false = omega (arith, at_nil j)
sound_past layout (s ∷ past) h = sound_step layout past s (sound_past layout past h.0) h.1
