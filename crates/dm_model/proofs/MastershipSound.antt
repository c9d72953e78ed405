-- In every legal past the writers of a key are in order, since its master has all of them.
use Rattle.std.proofs.Common.{ℕ, suc, ◌+◌, ◌/◌, ◌≤◌, ◌≡◌, ◌≢◌, Bool, true, false, not, ◌==◌, ◌&&◌, cond, if◌then◌else◌, List, [], ◌∷◌, ◌++◌, Option, Some, None}
use Rattle.std.proofs.Common.{map, length, refl, sym, ap, ◌∙◌, subst, arith, inl, inr, unwrap_or, le_trans}
use Rattle.std.proofs.lemmas.Bool.{cases_eq, eqb-true, eqb-false, eq-eqb, ne_eqb, cond-true, cond-false, false≢true, false_from_ne_true}
use Rattle.std.specs.Prelude.{option_map, option_to_list, filter_map}
use Rattle.dm_event.specs.Txns.{same_txn}
use Rattle.dm_event.specs.Entries.{commit_vector}
use Rattle.dm_event.specs.Layout.{Layout}
use Rattle.dm_event.specs.Vectors.{at, join_all, greatest}
use Rattle.dm_event.specs.declared.attempt.AttemptState.{AttemptState}
use Rattle.dm_event.specs.declared.placing.Placing.{Placing}
use Rattle.dm_event.specs.declared.placing.Placing.TheVariants.{Settled, Asked, Between, Granted}
use Rattle.dm_event.specs.declared.step.Choice.{Choice}
use Rattle.dm_event.specs.declared.step.Entry.{Entry}
use Rattle.dm_event.specs.declared.step.Found.{Found}
use Rattle.dm_event.specs.declared.step.Found.TheVariants.{Clean, Kept, Lost}
use Rattle.dm_event.specs.declared.step.Pending.{Pending}
use Rattle.dm_event.specs.declared.step.Pending.TheVariants as pending
use Rattle.dm_event.specs.declared.step.Step.{Step}
use Rattle.dm_event.specs.declared.step.Step.TheVariants.{Route, Ask, Settle, Begin, Commit, End, Fail, Refresh, Release, Grant, Doubt, Restart}
use Rattle.dm_event.specs.declared.step.TxnId.{TxnId}
use Rattle.dm_event.specs.declared.step.Want.{Want}
use Rattle.dm_event.specs.declared.step.Pair.{Pair}
use Rattle.dm_model.proofs.LegalSteps.{LegalCommit, LegalRelease, LegalGrant, MaySet, legal_route, legal_begin, legal_commit, legal_release, legal_grant}
use Rattle.dm_model.proofs.LegalSteps.{legal_restart}
use Rattle.dm_model.proofs.LegalSteps.{doubted_commit, doubted_release, doubted_grant}
use Rattle.dm_model.proofs.KeysAndBodies.{each_among, among_map, each_unmap, no_common, has_key, body_writes, all_declared}
use Rattle.dm_model.proofs.ListFacts.{cons_true, cons_false, find_none}
use Rattle.dm_model.proofs.MastershipKept.{Mastery, Mastered, MayWrite, Held}
use Rattle.dm_model.proofs.MastershipKept as mastered
use Rattle.dm_model.proofs.Numbering.{count_at, count_own, count_other, count_more}
use Rattle.dm_model.proofs.NumbersKept.{Within, Waits, InDoubt}
use Rattle.dm_model.proofs.NumbersSound.{SoundPast, sound_past, counts, commit_within, doubt_stops, doubt_waits, kept_entries, kept_past, refreshed_own}
use Rattle.dm_model.proofs.NumbersSound.{refreshed_other}
use Rattle.dm_model.proofs.RunningIsLast.{Seated, seated}
use Rattle.dm_model.proofs.RunningList.{each_running, no_holder}
use Rattle.dm_model.proofs.SameValues.{txn_same, txn_own}
use Rattle.dm_model.proofs.StepTests.{went_on, ran, taken, passed}
use Rattle.dm_model.proofs.VectorFacts.{join_keeps, join_has, join_least, long_raised, at_raised_own, at_by_within, at_most, at_by_below, long_by}
use Rattle.dm_model.proofs.VectorFacts.{at_raised_other}
use Rattle.dm_model.specs.Acts.{entries, acts}
use Rattle.dm_model.specs.Allowed.{Allowed, with_kept, elsewhere}
use Rattle.dm_model.specs.Attempts.{Routing, state, wanted_keys, declared}
use Rattle.dm_model.specs.Choices.{parts_in_order}
use Rattle.dm_model.specs.Doubts.{step_of, is_down, pending_at}
use Rattle.dm_model.specs.Floors.{floor, floor_vector, floor_vectors}
use Rattle.dm_model.specs.Legal.{LegalPast}
use Rattle.dm_model.specs.Ordered.{writes_key, OrderedEntries}
use Rattle.dm_model.specs.Placings.{placing, after_acts, asked, settled, masters_now, may_begin_now}
use Rattle.dm_model.specs.Progress.{reached, refreshed, site_vector, entry_count}
use Rattle.dm_model.specs.Rows.{found_fits, may_route}
use Rattle.dm_model.specs.Runs.{runs, running, begin_vector}
use Rattle.dm_model.specs.Tests.{is_among}
use Rattle.dm_model.specs.Values.{value}

abbrev pub part_of : Layout → ℕ → ℕ
part_of layout key = key / layout.width

abbrev pub floor_at : Layout → List Step → ℕ → ℕ → ℕ
floor_at layout past i j = at (floor layout.sites past i) j

-- what the past gives of mastership
abbrev pub mastery : Layout → List Step → Mastery
mastery layout past = record {
  entries = entries past;
  reached = λ i j. reached i j past;
  floor = floor_at layout past;
  runs = λ i t. runs i t past;
  begins = λ t. begin_vector t past;
  declared = λ t. declared t past;
  placing = placing layout past;
  down = λ i. is_down i past;
  doubt = λ i. pending_at i past;
}

-- it is sound
abbrev pub MasteredPast : Layout → List Step → Type 0
MasteredPast layout past = Mastered (part_of layout) (mastery layout past)

-- what a placing says of masters
masters_of_may_begin : (p : Placing) (i : ℕ) → may_begin_now p i ≡ true → masters_now p i ≡ true
masters_of_may_begin (Settled site epoch) i h = h
masters_of_may_begin (Asked site epoch to) i h = absurd (false≢true h)
masters_of_may_begin (Between site epoch to vector) i h = absurd (false≢true h)
masters_of_may_begin (Granted site epoch) i h = h

asked_masters : (p : Placing) (to k : ℕ) → masters_now (asked p to) k ≡ masters_now p k
asked_masters (Settled site epoch) to k = refl
asked_masters (Asked site epoch t) to k = refl
asked_masters (Between site epoch t vector) to k = refl
asked_masters (Granted site epoch) to k = refl

settled_masters : (p : Placing) (k : ℕ) → masters_now (settled p) k ≡ masters_now p k
settled_masters (Settled site epoch) k = refl
settled_masters (Asked site epoch t) k = refl
settled_masters (Between site epoch t vector) k = refl
settled_masters (Granted site epoch) k = refl

pub asked_between : (p : Placing) (to x y z : ℕ) (v : List ℕ) → asked p to ≡ Between x y z v → p ≡ Between x y z v
asked_between (Settled site epoch) to x y z v h = absurd (cc (h))
asked_between (Asked site epoch t) to x y z v h = absurd (cc (h))
asked_between (Between site epoch t vector) to x y z v h = h
asked_between (Granted site epoch) to x y z v h = absurd (cc (h))

pub settled_between : (p : Placing) (x y z : ℕ) (v : List ℕ) → settled p ≡ Between x y z v → p ≡ Between x y z v
settled_between (Settled site epoch) x y z v h = absurd (cc (h))
settled_between (Asked site epoch t) x y z v h = absurd (cc (h))
settled_between (Between site epoch t vector) x y z v h = h
settled_between (Granted site epoch) x y z v h = absurd (cc (h))

-- a placing that a test changes or not
choose_placing : (P : Placing → Placing → Type 0) (f : Placing → Placing) (b : Bool) (p : Placing) → P (f p) p → P p p → P (if b then f p else p) p
choose_placing P f true p h k = h
choose_placing P f false p h k = k

module _ (layout : Layout) (past : List Step) (n : SoundPast layout past) (seat : Seated past) (s : MasteredPast layout past) where
  -- an entry that is committed declared the keys that it writes, and may write them
  commit_keys : (e : Entry) → LegalCommit layout past e → (key : ℕ) → writes_key e key ≡ true → is_among (declared e.txn past) key ≡ true
  commit_keys e legal key w =
      all_declared (declared e.txn past) e.ops legal.declares key
      (body_writes (λ k. value layout past k e.begin) e.ops key (subst (λ (ps : List Pair). has_key ps key ≡ true) legal.writes w))

  pub commit_holds : (e : Entry) → LegalCommit layout past e → (key : ℕ) → writes_key e key ≡ true
      → MayWrite (entries past) (placing layout past (part_of layout key)) e.origin key (at e.begin)
  commit_holds e legal key w =
      subst (λ (v : List ℕ). MayWrite (entries past) (placing layout past (part_of layout key)) e.origin key (at v)) (sym legal.began)
      (s.running e.origin e.txn legal.runs key (commit_keys e legal key w))

  -- the floor as an entry comes

  pub floor_same : (e : Entry) (i j : ℕ) → i ≢ e.origin → floor_at layout (Commit e ∷ past) i j ≡ floor_at layout past i j
  floor_same e i j m = ap (λ (vs : List (List ℕ)). at (join_all layout.sites vs) j)
      (cons_false (e.origin == i) (commit_vector e) (floor_vectors i past) (ne_eqb e.origin i (λ p. m (sym p))))

  floor_with : (e : Entry) (j : ℕ) → floor_at layout (Commit e ∷ past) e.origin j ≡ at (join_all layout.sites (commit_vector e ∷ floor_vectors e.origin past)) j
  floor_with e j = ap (λ (vs : List (List ℕ)). at (join_all layout.sites vs) j)
      (cons_true (e.origin == e.origin) (commit_vector e) (floor_vectors e.origin past) (eq-eqb e.origin e.origin refl))

  pub floor_grows : (e : Entry) (i j : ℕ) → floor_at layout past i j ≤ floor_at layout (Commit e ∷ past) i j
  floor_grows e i j = elim (cases_eq i e.origin) [
    | inl p ↦ (let a = floor_with e j in let b = join_keeps layout.sites (commit_vector e) (floor_vectors e.origin past) j in
        let c = ap (λ (x : ℕ). floor_at layout past x j) p in let d = ap (λ (x : ℕ). floor_at layout (Commit e ∷ past) x j) p in omega arith)
    | inr m ↦ (let a = floor_same e i j m in omega arith)
  ]

  pub floor_takes : (e : Entry) (j : ℕ) → length e.begin ≡ layout.sites → at (commit_vector e) j ≤ floor_at layout (Commit e ∷ past) e.origin j
  floor_takes e j l = (let a = floor_with e j in let b = join_has layout.sites (commit_vector e) (floor_vectors e.origin past)
      (long_raised e.begin e.origin e.seq ∙ l) j in omega arith)

  -- the floor as a grant comes
  pub grant_same : (site part epoch : ℕ) (v : List ℕ) (i j : ℕ) → i ≢ site → floor_at layout (Grant site part epoch v ∷ past) i j ≡ floor_at layout past i j
  grant_same site part epoch v i j m = ap (λ (vs : List (List ℕ)). at (join_all layout.sites vs) j)
      (cons_false (site == i) v (floor_vectors i past) (ne_eqb site i (λ p. m (sym p))))

  grant_with : (site part epoch : ℕ) (v : List ℕ) (j : ℕ) → floor_at layout (Grant site part epoch v ∷ past) site j ≡ at
      (join_all layout.sites (v ∷ floor_vectors site past)) j
  grant_with site part epoch v j = ap (λ (vs : List (List ℕ)). at (join_all layout.sites vs) j)
      (cons_true (site == site) v (floor_vectors site past) (eq-eqb site site refl))

  pub grant_grows : (site part epoch : ℕ) (v : List ℕ) (i j : ℕ) → floor_at layout past i j ≤ floor_at layout (Grant site part epoch v ∷ past) i j
  grant_grows site part epoch v i j = elim (cases_eq i site) [
    | inl p ↦ (let a = grant_with site part epoch v j in let b = join_keeps layout.sites v (floor_vectors site past) j in
        let c = ap (λ (x : ℕ). floor_at layout past x j) p in let d = ap (λ (x : ℕ). floor_at layout (Grant site part epoch v ∷ past) x j) p in omega arith)
    | inr m ↦ (let a = grant_same site part epoch v i j m in omega arith)
  ]

  pub grant_takes : (site part epoch : ℕ) (v : List ℕ) (j : ℕ) → length v ≡ layout.sites → at v j ≤ floor_at layout (Grant site part epoch v ∷ past) site j
  grant_takes site part epoch v j l = (let a = grant_with site part epoch v j in let b = join_has layout.sites v (floor_vectors site past) l j in omega arith)

  -- what the site has as its own entry comes
  reached_own : (e : Entry) (j : ℕ) → reached e.origin j past ≤ reached e.origin j (Commit e ∷ past)
  reached_own e j = by_test (e.origin == j)
    where
      by_test : (b : Bool) → cond b (count_at e.origin (entries past)) (refreshed e.origin j past) ≤ cond b (count_at e.origin (e ∷ entries past))
          (refreshed e.origin j past)
      by_test true = (let c = count_own e (entries past) e.origin refl in omega arith)
      by_test false = omega arith

  reached_self : (e : Entry) → reached e.origin e.origin (Commit e ∷ past) ≡ suc (count_at e.origin (entries past))
  reached_self e = cond-true (e.origin == e.origin) _ _ (eq-eqb e.origin e.origin refl) ∙ count_own e (entries past) e.origin refl

  reached_grows : (e : Entry) (i j : ℕ) → reached i j past ≤ reached i j (Commit e ∷ past)
  reached_grows e i j = elim (cases_eq i e.origin) [
    | inl p ↦ subst (λ (x : ℕ). reached x j past ≤ reached x j (Commit e ∷ past)) (sym p) (reached_own e j)
    | inr m ↦ (let c : reached i j (Commit e ∷ past) ≡ reached i j past =
        ap (λ (x : ℕ). cond (i == j) x (refreshed i j past)) (count_other e (entries past) i (λ q. m (sym q))) in omega arith)
  ]

  commit_below : (e : Entry) (j : ℕ) → 1 ≤ e.origin → e.origin ≤ length e.begin → e.seq ≡ suc (count_at e.origin (entries past))
      → Within layout.sites (λ j. reached e.origin j past) e.begin
      → at (commit_vector e) j ≤ reached e.origin j (Commit e ∷ past)
  commit_below e j one in' num w = elim (cases_eq j e.origin) [
    | inl p ↦ subst (λ (x : ℕ). at (commit_vector e) x ≤ reached e.origin x (Commit e ∷ past)) (sym p)
        (let a = at_raised_own e.begin e.origin e.seq one in' in let b = reached_self e in omega arith)
    | inr m ↦ (let a = at_raised_other e.begin e.origin e.seq j one m in let b = w.below j in let c = reached_own e j in omega arith)
  ]

  -- the floor stays below what the site has
  commit_floored : (e : Entry) → 1 ≤ e.origin → e.origin ≤ length e.begin → e.seq ≡ suc (count_at e.origin (entries past))
      → Within layout.sites (λ j. reached e.origin j past) e.begin
      → (i j : ℕ) → floor_at layout (Commit e ∷ past) i j ≤ reached i j (Commit e ∷ past)
  commit_floored e one in' num w i j = elim (cases_eq i e.origin) [
    | inl p ↦ subst (λ (x : ℕ). floor_at layout (Commit e ∷ past) x j ≤ reached x j (Commit e ∷ past)) (sym p) (
        let a = floor_with e j in
        let b = join_least layout.sites (commit_vector e) (floor_vectors e.origin past) (reached e.origin j (Commit e ∷ past)) j
        (commit_below e j one in' num w) (let x = s.floored e.origin j in let y = reached_own e j in omega arith) in
        omega arith)
    | inr m ↦ (let a = floor_same e i j m in let b = s.floored i j in let c = reached_grows e i j in omega arith)
  ]

  mastered_commit : (e : Entry) → Allowed layout past (Commit e) → MasteredPast layout (Commit e ∷ past)
  mastered_commit e h =
      let legal = legal_commit layout past e h in
      let up = n.up e.origin e.txn legal.runs in
      let one = legal.origin.one in
      let top = legal.origin.top in
      let within = commit_within layout past n e legal in
      let long = within.long in
      mastered.entered (part_of layout) (mastery layout past) s (mastery layout (Commit e ∷ past)) e
      (commit_holds e legal)
      (commit_floored e one (omega arith) legal.seq within) (floor_grows e) (λ j. floor_takes e j long) (λ i j m. floor_same e i j m)
      (λ k u r. (went_on (same_txn u e.txn) _ r).before)
      (λ u r key m w. (let x = went_on (same_txn u e.txn) _ r in
      false≢true (sym x.test ∙ ap (λ (y : TxnId). same_txn u y) (sym (s.apart e.origin u e.txn x.before legal.runs key m (commit_keys e legal key w)))
      ∙ txn_own u)))
      (λ k d. record { other = λ p. false≢true (sym up ∙ ap (λ (x : ℕ). is_down x past) (sym p) ∙ d); still = refl; same = refl })

  -- the vector of a site is at least its floor
  pub floor_below_vector : (i j : ℕ) → floor_at layout past i j ≤ at (site_vector layout.sites past i) j
  floor_below_vector i j = at_by_within layout.sites _ (λ j. reached i j past) (λ k. s.floored i k) j

  pub floor_below : (site : ℕ) (vector : List ℕ) → vector ≡ site_vector layout.sites past site → (j : ℕ) → floor_at layout past site j ≤ at vector j
  floor_below site vector v j = subst (λ (x : List ℕ). floor_at layout past site j ≤ at x j) (sym v) (floor_below_vector site j)

  -- a site that may begin on all the keys' partitions masters them
  begin_masters : (site : ℕ) (keys : List ℕ) → elsewhere layout past site keys ≡ None → (key : ℕ) → is_among keys key ≡ true
      → masters_now (placing layout past (part_of layout key)) site ≡ true
  begin_masters site keys here key m =
      let away : ℕ → Bool = λ p. not (may_begin_now (placing layout past p) site) in
      let none = each_unmap (λ p. away p ≡ false) (part_of layout) keys (find_none away (parts_in_order layout keys) here) in
      masters_of_may_begin (placing layout past (part_of layout key)) site (not_false _ (each_among (λ k. away (part_of layout k) ≡ false) keys key none m))
    where
      not_false : (b : Bool) → not b ≡ false → b ≡ true
      not_false true h = refl
      not_false false h = absurd (false≢true (sym h))

  mastered_begin : (site : ℕ) (txn : TxnId) (begin : List ℕ) → Allowed layout past (Begin site txn begin) → MasteredPast layout (Begin site txn begin ∷ past)
  mastered_begin site txn begin h =
      let legal = legal_begin layout past site txn begin h in
      mastered.begun (part_of layout) (mastery layout past) s (mastery layout (Begin site txn begin ∷ past)) site txn begin
      (begin_masters site (declared txn past) legal.here)
      (floor_below site begin legal.at_vector)
      (λ u r key m k. no_common (declared txn past) (declared u past)
      (each_running (λ t. _) site past u (no_holder past (declared txn past) (running site past) legal.unheld) r) key m k)
      (λ i t r. elim (ran (same_txn t txn) (site == i) _ r) [
        | inl p ↦ inl (txn_same t txn p.test, sym (eqb-true site i p.now))
        | inr q ↦ inr (q.before, passed (same_txn t txn) begin _ q.test)
      ])
      (taken (same_txn txn txn) begin _ (txn_own txn))

  -- nothing runs on a partition that is released
  pub release_free : (site part epoch to : ℕ) (vector : List ℕ) → LegalRelease layout past site part epoch to vector
      → (u : TxnId) → runs site u past ≡ true → (key : ℕ) → is_among (declared u past) key ≡ true → part_of layout key ≡ part → ⊥
  release_free site part epoch to vector legal u r key m e =
      let none = find_none (λ t. is_among (parts_in_order layout (declared t past)) part) (running site past) legal.unused in
      false≢true (sym (each_running (λ t. is_among (parts_in_order layout (declared t past)) part ≡ false) site past u none r)
      ∙ subst (λ (p : ℕ). is_among (parts_in_order layout (declared u past)) p ≡ true) e (among_map (part_of layout) (declared u past) key m))

  -- a grant's vector is at most what the site has
  grant_reached : (site part epoch : ℕ) (vector : List ℕ) → LegalGrant layout past site part epoch vector → (j : ℕ) → at vector j ≤ reached site j past
  grant_reached site part epoch vector legal j =
      let y = at_most layout.sites vector (site_vector layout.sites past site) legal.long legal.not_ahead j in
      let z = at_by_below layout.sites (λ j. reached site j past) j in
      omega arith

  mastered_release : (site part epoch to : ℕ) (vector : List ℕ) → Allowed layout past (Release site part epoch to vector)
      → MasteredPast layout (Release site part epoch to vector ∷ past)
  mastered_release site part epoch to vector h =
      let legal = legal_release layout past site part epoch to vector h in
      mastered.released (part_of layout) (mastery layout past) s (mastery layout (Release site part epoch to vector ∷ past)) site part epoch to vector
      legal.asked (floor_below site vector legal.at_vector) (cond-true (part == part) _ _ (eq-eqb part part refl))
      (λ q m. cond-false (part == q) _ _ (ne_eqb part q (λ p. m (sym p))))
      s.floored (λ k u r. r) (release_free site part epoch to vector legal)
      (λ k d. record { other = λ p. false≢true (sym legal.up ∙ ap (λ (x : ℕ). is_down x past) (sym p) ∙ d); still = refl; same = refl })

  -- the floor stays below what the sites have, as a grant comes
  grant_floored : (site part epoch : ℕ) (v : List ℕ) (got : ℕ → ℕ → ℕ) → ((i j : ℕ) → i ≢ site → floor_at layout past i j ≤ got i j)
      → ((j : ℕ) → floor_at layout past site j ≤ got site j) → ((j : ℕ) → at v j ≤ got site j)
      → (i j : ℕ) → floor_at layout (Grant site part epoch v ∷ past) i j ≤ got i j
  grant_floored site part epoch v got le own new i j = elim (cases_eq i site) [
    | inl p ↦ subst (λ (x : ℕ). floor_at layout (Grant site part epoch v ∷ past) x j ≤ got x j) (sym p) (
        let a = grant_with site part epoch v j in
        let b = join_least layout.sites v (floor_vectors site past) (got site j) j (new j) (own j) in
        omega arith)
    | inr m ↦ (let a = grant_same site part epoch v i j m in let b = le i j m in omega arith)
  ]

  mastered_grant : (site part epoch : ℕ) (vector : List ℕ) → Allowed layout past (Grant site part epoch vector)
      → MasteredPast layout (Grant site part epoch vector ∷ past)
  mastered_grant site part epoch vector h =
      let legal = legal_grant layout past site part epoch vector h in
      mastered.granted (part_of layout) (mastery layout past) s (mastery layout (Grant site part epoch vector ∷ past)) site part epoch legal.from legal.old
      vector
      legal.between (cond-true (part == part) _ _ (eq-eqb part part refl)) (λ q m. cond-false (part == q) _ _ (ne_eqb part q (λ p. m (sym p))))
      (grant_floored site part epoch vector (λ i j. reached i j past) (λ i j m. s.floored i j) (λ j. s.floored site j)
      (grant_reached site part epoch vector legal))
      (grant_grows site part epoch vector) (λ j. grant_takes site part epoch vector j legal.long) (λ k j m. grant_same site part epoch vector k j m)
      (λ k u r. r)
      (λ k d. record { other = λ p. false≢true (sym legal.up ∙ ap (λ (x : ℕ). is_down x past) (sym p) ∙ d); still = refl; same = refl })

  mastered_doubt : (site : ℕ) (p : Pending) → Held (part_of layout) (mastery layout past) site (Some p) → MasteredPast layout (Doubt site p ∷ past)
  mastered_doubt site p d =
      mastered.doubted (part_of layout) (mastery layout past) s (mastery layout (Doubt site p ∷ past)) site p d (doubt_stops past site p)
      (doubt_waits past site p)

  refresh_grows : (b x : Bool) (a k m : ℕ) → cond b a (k + m) ≤ cond b a (k + cond x (suc m) m)
  refresh_grows true x a k m = omega arith
  refresh_grows false true a k m = omega arith
  refresh_grows false false a k m = omega arith

  route_keeps : (txn : TxnId) (want : Want) (min : List ℕ) (site : ℕ) (choice : Choice) → Allowed layout past (Route txn want min site choice)
      → (i : ℕ) (t : TxnId) → runs i t past ≡ true
      → declared t (Route txn want min site choice ∷ past) ≡ declared t past
  route_keeps txn want min site choice h i t r =
      let legal = legal_route layout past txn want min site choice h in
      let other : same_txn t txn ≡ false = false_from_ne_true (same_txn t txn) (λ e.
      false≢true (subst (λ (x : AttemptState). may_route x ≡ true) (ap (λ (u : TxnId). state u.session past) (sym (txn_same t txn e)) ∙ (seat i t r).runs)
      legal.further)) in
      ap (λ (o : Option Routing). unwrap_or (option_map (λ r. wanted_keys r.want) o) []) (passed (same_txn t txn) _ _ other)

  -- what a site has after a Restart, where the entries are these
  restart_set : (site : ℕ) (vector : List ℕ) (found : Found) (es : List Entry) (j : ℕ) → at vector site ≡ count_at site es
      → at vector j ≤ cond (site == j) (count_at site es) (refreshed site j (Restart site vector found ∷ past))
  restart_set site vector found es j m = elim (cases_eq site j) [
    | inl p ↦ (let a = cond-true (site == j) (count_at site es) (refreshed site j (Restart site vector found ∷ past)) (eq-eqb site j p) in let b =
        ap (λ (x : ℕ). at vector x) p in omega arith)
    | inr q ↦ (let a = cond-false (site == j) (count_at site es) (refreshed site j (Restart site vector found ∷ past)) (ne_eqb site j q) in
        let b : refreshed site j (Restart site vector found ∷ past) ≡ at vector j = refreshed_own layout past n site vector found j in omega arith)
  ]

  restart_other : (site : ℕ) (vector : List ℕ) (found : Found) (es : List Entry) (k j : ℕ) → k ≢ site → count_at k (entries past) ≤ count_at k es
      → reached k j past ≤ cond (k == j) (count_at k es) (refreshed k j (Restart site vector found ∷ past))
  restart_other site vector found es k j m le = rw (refreshed_other layout past n site vector found k j m) (by_test (k == j))
    where
      by_test : (b : Bool) → cond b (count_at k (entries past)) (refreshed k j past) ≤ cond b (count_at k es) (refreshed k j past)
      by_test true = le
      by_test false = omega arith

  -- the floor stays below what the sites have, as a site restarts at a vector above its floor
  restart_floored : (site : ℕ) (vector : List ℕ) (found : Found) (es : List Entry) (floor' : ℕ → ℕ → ℕ) → at vector site ≡ count_at site es
      → ((j : ℕ) → floor' site j ≤ at vector j)
      → ((k j : ℕ) → k ≢ site → floor' k j ≡ floor_at layout past k j) → ((k : ℕ) → count_at k (entries past) ≤ count_at k es)
      → (k j : ℕ) → floor' k j ≤ cond (k == j) (count_at k es) (refreshed k j (Restart site vector found ∷ past))
  restart_floored site vector found es floor' m le same more k j = elim (cases_eq k site) [
    | inl p ↦ subst (λ (x : ℕ). floor' x j ≤ cond (x == j) (count_at x es) (refreshed x j (Restart site vector found ∷ past))) (sym p)
        (le_trans (le j) (restart_set site vector found es j m))
    | inr q ↦ (let a = same k j q in let b = s.floored k j in let c = restart_other site vector found es k j q (more k) in
        let d : floor' k j ≤ reached k j past = omega arith in le_trans d c)
  ]

  stops : (site : ℕ) (vector : List ℕ) (found : Found) (k : ℕ) (u : TxnId) → runs k u (Restart site vector found ∷ past) ≡ true → (site ≢ k)
      × (runs k u past ≡ true)
  stops site vector found k u r = elim (ran (site == k) false _ r) [ inl q ↦ absurd (false≢true q.now) | inr q ↦ (eqb-false site k q.test, q.before) ]

  rises : (site : ℕ) (vector : List ℕ) (found : Found) (k : ℕ) → is_down k (Restart site vector found ∷ past) ≡ true → (k ≢ site) × (is_down k past ≡ true)
  rises site vector found k r = elim (ran (site == k) false _ r) [
    | inl q ↦ absurd (false≢true q.now)
    | inr q ↦
        ((λ e. eqb-false site k q.test (sym e)), q.before)
  ]

  -- what is down after a Restart of the site waits, also where its pending step is kept
  waits : (site : ℕ) (vector : List ℕ) (found : Found) (at_site : ℕ) → at_site ≡ site → (k : ℕ) → is_down k (Restart site vector found ∷ past) ≡ true
      → Waits at_site k (λ i. is_down i past) (λ i. is_down i (Restart site vector found ∷ past)) (λ i. pending_at i past) (λ i. pending_at i past)
  waits site vector found at_site e k r =
      let x = rises site vector found k r in
      record { other = λ p. x.0 (p ∙ e); still = r ∙ sym x.1; same = refl }

  -- what is mastered after a Restart that keeps the pending step or not
  abbrev pub kept_mastery : ℕ → List ℕ → Found → Option Pending → Mastery
  kept_mastery site vector found o = record {
    entries = kept_entries layout past n site o;
    reached = λ k j. cond (k == j) (count_at k (kept_entries layout past n site o)) (refreshed k j (Restart site vector found ∷ past));
    floor = λ k j. at (join_all layout.sites (filter_map (floor_vector k) (option_to_list (option_map (step_of site) o) ++ acts past))) j;
    runs = λ i t. runs i t (Restart site vector found ∷ past);
    begins = λ t. begin_vector t past;
    declared = λ t. declared t past;
    placing = λ q. after_acts q (option_to_list (option_map (step_of site) o)) (placing layout past q);
    down = λ i. is_down i (Restart site vector found ∷ past);
    doubt = λ i. pending_at i past;
  }

  -- the floor is at most the vector to which the site is set
  set_floor : (site : ℕ) (vector : List ℕ) (kept : List Step) → MaySet layout past site vector kept → (j : ℕ)
      → at (floor layout.sites kept site) j ≤ at vector j
  set_floor site vector kept set = at_most layout.sites (floor layout.sites kept site) vector (long_by layout.sites _) set.not_behind

  mastered_kept : (site : ℕ) (vector : List ℕ) (found : Found) (o : Option Pending) → InDoubt layout.sites (counts past) site o
      → Held (part_of layout) (mastery layout past) site o
      → MaySet layout past site vector (kept_past layout past n site o) → Mastered (part_of layout) (kept_mastery site vector found o)
  mastered_kept site vector found None d held set =
      mastered.eased (part_of layout) (mastery layout past) s (kept_mastery site vector found None)
      (restart_floored site vector found (entries past) (floor_at layout past) set.own (set_floor site vector past set) (λ k j q. refl) (λ k. omega arith))
      (λ i t r. ((stops site vector found i t r).1, refl)) (λ i r. (rises site vector found i r).1)
  mastered_kept site vector found (Some (pending.Commit e)) d held set =
      let long = d.within.long in
      mastered.entered (part_of layout) (mastery layout past) s (kept_mastery site vector found (Some (pending.Commit e))) e
      (λ key w. subst (λ (i : ℕ). MayWrite (entries past) (placing layout past (part_of layout key)) i key (at e.begin)) (sym d.own) (held key w))
      (restart_floored site vector found (e ∷ entries past) (floor_at layout (Commit e ∷ past)) set.own (set_floor site vector (Commit e ∷ past) set)
      (λ k j q. floor_same e k j (λ p. q (p ∙ d.own))) (λ k. count_more e (entries past) k))
      (floor_grows e) (λ j. floor_takes e j long) (λ i j q. floor_same e i j q)
      (λ k u r. (stops site vector found k u r).1)
      (λ u r key a w. (stops site vector found e.origin u r).0 (sym d.own))
      (waits site vector found e.origin d.own)
  mastered_kept site vector found (Some (pending.Release part epoch to v)) d held set =
      mastered.released (part_of layout) (mastery layout past) s (kept_mastery site vector found (Some (pending.Release part epoch to v))) site part epoch to v
      held.asked held.above (cond-true (part == part) _ _ (eq-eqb part part refl)) (λ q x. cond-false (part == q) _ _ (ne_eqb part q (λ p. x (sym p))))
      (restart_floored site vector found (entries past) (floor_at layout past) set.own (set_floor site vector (Release site part epoch to v ∷ past) set)
      (λ k j q. refl) (λ k. omega arith))
      (λ k u r. (stops site vector found k u r).1)
      (λ u r key a w. (stops site vector found site u r).0 refl)
      (waits site vector found site refl)
  mastered_kept site vector found (Some (pending.Grant part epoch v)) d held set =
      mastered.granted (part_of layout) (mastery layout past) s (kept_mastery site vector found (Some (pending.Grant part epoch v))) site part epoch held.from
      held.old v
      held.between (cond-true (part == part) _ _ (eq-eqb part part refl)) (λ q x. cond-false (part == q) _ _ (ne_eqb part q (λ p. x (sym p))))
      (restart_floored site vector found (entries past) (floor_at layout (Grant site part epoch v ∷ past)) set.own
      (set_floor site vector (Grant site part epoch v ∷ past) set)
      (λ k j q. grant_same site part epoch v k j q) (λ k. omega arith))
      (grant_grows site part epoch v) (λ j. grant_takes site part epoch v j d) (λ k j q. grant_same site part epoch v k j q)
      (λ k u r. (stops site vector found k u r).1)
      (waits site vector found site refl)

  mastered_restart : (site : ℕ) (vector : List ℕ) (found : Found) → Allowed layout past (Restart site vector found)
      → MasteredPast layout (Restart site vector found ∷ past)
  mastered_restart site vector found h = (let legal = legal_restart layout past site vector found h in by_found found legal.fits legal.may_set)
    where
      by_found : (found : Found) → found_fits found (is_down site past) ≡ true → MaySet layout past site vector (with_kept site found past)
          → MasteredPast layout (Restart site vector found ∷ past)
      by_found Clean fits set = mastered_kept site vector Clean None tt tt set
      by_found Lost fits set = mastered_kept site vector Lost None tt tt set
      by_found Kept fits set = mastered_kept site vector Kept (pending_at site past) (n.in_doubt site fits) (s.held site fits) set

pub mastered_step : (layout : Layout) (past : List Step) (s : Step) → SoundPast layout past → Seated past → MasteredPast layout past → Allowed layout past s
    → MasteredPast layout (s ∷ past)
mastered_step layout past (Route txn want min site choice) n seat s h =
    mastered.eased (part_of layout) (mastery layout past) s (mastery layout (Route txn want min site choice ∷ past))
    s.floored (λ i t r. (r, route_keeps layout past n seat s txn want min site choice h i t r)) (λ i d. d)
mastered_step layout past (Ask part epoch to txn) n seat s h =
    mastered.replaced (part_of layout) (mastery layout past) s (mastery layout (Ask part epoch to txn ∷ past))
    (λ q k. choose_placing (λ x p. masters_now x k ≡ masters_now p k) (λ p. asked p to) (part == q) (placing layout past q)
    (asked_masters (placing layout past q) to k) refl)
    (λ q x y z v. choose_placing (λ w p. w ≡ Between x y z v → p ≡ Between x y z v) (λ p. asked p to) (part == q) (placing layout past q)
    (asked_between (placing layout past q) to x y z v) (λ h. h))
    (λ q x y z v. choose_placing (λ w p. p ≡ Between x y z v → w ≡ Between x y z v) (λ p. asked p to) (part == q) (placing layout past q)
    (λ h. ap (λ (p : Placing). asked p to) h) (λ h. h))
    (λ q x y z. choose_placing (λ w p. p ≡ Asked x y z → w ≡ Asked x y z) (λ p. asked p to) (part == q) (placing layout past q)
    (λ h. ap (λ (p : Placing). asked p to) h) (λ h. h))
mastered_step layout past (Settle part epoch) n seat s h =
    mastered.replaced (part_of layout) (mastery layout past) s (mastery layout (Settle part epoch ∷ past))
    (λ q k. choose_placing (λ x p. masters_now x k ≡ masters_now p k) settled (part == q) (placing layout past q) (settled_masters (placing layout past q) k)
    refl)
    (λ q x y z v. choose_placing (λ w p. w ≡ Between x y z v → p ≡ Between x y z v) settled (part == q) (placing layout past q)
    (settled_between (placing layout past q) x y z v) (λ h. h))
    (λ q x y z v. choose_placing (λ w p. p ≡ Between x y z v → w ≡ Between x y z v) settled (part == q) (placing layout past q) (λ h. ap settled h) (λ h. h))
    (λ q x y z. choose_placing (λ w p. p ≡ Asked x y z → w ≡ Asked x y z) settled (part == q) (placing layout past q) (λ h. ap settled h) (λ h. h))
mastered_step layout past (Begin site txn begin) n seat s h = mastered_begin layout past n seat s site txn begin h
mastered_step layout past (Commit e) n seat s h = mastered_commit layout past n seat s e h
mastered_step layout past (End site txn ops reads) n seat s h =
    mastered.eased (part_of layout) (mastery layout past) s (mastery layout (End site txn ops reads ∷ past))
    s.floored (λ i t r. ((went_on (same_txn t txn) _ r).before, refl)) (λ i d. d)
mastered_step layout past (Fail site txn cause) n seat s h =
    mastered.eased (part_of layout) (mastery layout past) s (mastery layout (Fail site txn cause ∷ past))
    s.floored (λ i t r. ((went_on (same_txn t txn) _ r).before, refl)) (λ i d. d)
mastered_step layout past (Refresh site origin) n seat s h =
    mastered.eased (part_of layout) (mastery layout past) s (mastery layout (Refresh site origin ∷ past))
    (λ i j. (let a = s.floored i j in let b = refresh_grows layout past n seat s (i == j) ((site == i) && (origin == j)) (entry_count i past) _ _ in
    le_trans a b)) (λ i t r. (r, refl)) (λ i d. d)
mastered_step layout past (Release site part epoch to vector) n seat s h = mastered_release layout past n seat s site part epoch to vector h
mastered_step layout past (Grant site part epoch vector) n seat s h = mastered_grant layout past n seat s site part epoch vector h
mastered_step layout past (Doubt site (pending.Commit e)) n seat s h =
    let legal = doubted_commit layout past site e h in
    mastered_doubt layout past n seat s site (pending.Commit e)
    (λ key w. subst (λ (i : ℕ). MayWrite (entries past) (placing layout past (part_of layout key)) i key (at e.begin)) legal.own
    (commit_holds layout past n seat s e legal.commit key w))
mastered_step layout past (Doubt site (pending.Release part epoch to vector)) n seat s h =
    let legal = doubted_release layout past site part epoch to vector h in
    mastered_doubt layout past n seat s site (pending.Release part epoch to vector)
    (record { asked = legal.asked; above = floor_below layout past n seat s site vector legal.at_vector })
mastered_step layout past (Doubt site (pending.Grant part epoch vector)) n seat s h =
    let legal = doubted_grant layout past site part epoch vector h in
    mastered_doubt layout past n seat s site (pending.Grant part epoch vector)
    (record { from = legal.from; old = legal.old; between = legal.between; next = legal.next })
mastered_step layout past (Restart site vector found) n seat s h = mastered_restart layout past n seat s site vector found h
mastered_step layout past other n seat s h = s

pub mastered_past : (layout : Layout) (past : List Step) → LegalPast layout past → MasteredPast layout past
mastered_past layout [] h = record {
  floored = λ i j. (let a = at_by_below layout.sites (λ site. greatest (map (λ v. at v site) [])) j in omega arith);
  written = λ i key m. tt;
  between = λ key x y z v p. absurd (cc (p));
  running = λ i t r. absurd (false≢true r);
  apart = λ i t u r. absurd (false≢true r);
  held = λ i d. absurd (false≢true d);
  ordered = tt;
}
mastered_past layout (s ∷ past) h = mastered_step layout past s (sound_past layout past h.0) (seated layout past h.0) (mastered_past layout past h.0) h.1

-- of two writers of a key, the earlier one's commit vector is inside the later one's begin vector
pub ordered_past : (layout : Layout) (past : List Step) → LegalPast layout past → OrderedEntries (entries past)
ordered_past layout past h = (mastered_past layout past h).ordered
