-- In every legal past the floor of each site is closed.
use Rattle.std.proofs.Common.{ℕ, zero, suc, ◌<◌, ◌≤◌, ◌≡◌, ◌≢◌, Bool, true, false, ◌==◌, if◌then◌else◌, List, [], ◌∷◌, ◌++◌, Option, Some, None, length, map}
use Rattle.std.proofs.Common.{refl, sym, ap, ◌∙◌, subst, arith, inl, inr, ◌⊎◌, unwrap_or, le_trans}
use Rattle.std.proofs.lemmas.Bool.{cases_eq, eqb-true, eqb-false, false≢true, cases_lt}
use Rattle.std.specs.List.{AllByRecursion as Each, cons_option}
use Rattle.std.specs.Option.{option_or}
use Rattle.std.specs.Prelude.{option_map, option_to_list, filter_map}
use Rattle.dm_event.specs.Entries.{commit_vector}
use Rattle.dm_event.specs.Layout.{Layout}
use Rattle.dm_event.specs.Vectors.{at, join_all, greatest}
use Rattle.dm_event.specs.declared.placing.Placing.{Placing}
use Rattle.dm_event.specs.declared.placing.Placing.TheVariants.{Between, Granted}
use Rattle.dm_event.specs.declared.step.Entry.{Entry}
use Rattle.dm_event.specs.declared.step.Found.TheVariants.{Clean, Kept, Lost}
use Rattle.dm_event.specs.declared.step.Pending.{Pending}
use Rattle.dm_event.specs.declared.step.Pending.TheVariants as pending
use Rattle.dm_event.specs.declared.step.Step.{Step}
use Rattle.dm_event.specs.declared.step.Step.TheVariants.{Ask, Settle, Commit, Release, Grant, Doubt, Restart}
use Rattle.dm_model.proofs.LaggingRefresh.{Grounded, grounded_past}
use Rattle.dm_model.proofs.LegalSteps.{LegalCommit, legal_commit, legal_release, legal_grant, legal_restart, doubted_commit, doubted_release, doubted_grant}
use Rattle.dm_model.proofs.ListFacts.{each_map}
use Rattle.dm_model.proofs.MastershipSound.{mastered_past, floor_at, asked_between, settled_between}
use Rattle.dm_model.proofs.Numbering.{Numbered, ClosedBy, closed_more, count_at}
use Rattle.dm_model.proofs.NumbersKept.{InDoubt}
use Rattle.dm_model.proofs.NumbersSound.{SoundPast, sound_past, sound_step, counts, vector_closed}
use Rattle.dm_model.proofs.StepTests.{ran}
use Rattle.dm_model.proofs.VectorFacts.{join_keeps, join_has, at_raised_own, long_raised, at_by, at_by_below, at_past, long_by, at_raised_other}
use Rattle.dm_model.specs.Acts.{entries, acts, entry_of}
use Rattle.dm_model.specs.Allowed.{Allowed}
use Rattle.dm_model.specs.Doubts.{step_of, is_down, down_after, pending_at}
use Rattle.dm_model.specs.Floors.{floor_vector}
use Rattle.dm_model.specs.Legal.{LegalPast}
use Rattle.dm_model.specs.Placings.{placing, after_acts, asked, settled}
use Rattle.dm_model.specs.Words.{latest}

-- a grant's vector has a component for each site, and is closed
pub record ClosedGrant (count : ℕ) (es : List Entry) (v : List ℕ) : Type 0 where
  pub long : length v ≡ count
  pub closed : ClosedBy es (at v)

-- the act's vectors are closed
abbrev pub ActClosed : ℕ → List Entry → Step → Type 0
ActClosed count es (Commit e) = ClosedBy es (at e.begin)
ActClosed count es (Grant site part epoch v) = ClosedGrant count es v
ActClosed count es s = Unit {0}

abbrev pub DoubtClosed : List Entry → Option Pending → Type 0
DoubtClosed es None = Unit {0}
DoubtClosed es (Some (pending.Commit e)) = ClosedBy es (at e.begin)
DoubtClosed es (Some (pending.Release part epoch to v)) = ClosedBy es (at v)
DoubtClosed es (Some (pending.Grant part epoch v)) = ClosedBy es (at v)

pub act_more : (count : ℕ) (d : Entry) (es : List Entry) → Numbered (d ∷ es) → (s : Step) → ActClosed count es s → ActClosed count (d ∷ es) s
act_more count d es n (Commit e) h = closed_more d es (at e.begin) n h
act_more count d es n (Grant site part epoch v) h = record { long = h.long; closed = closed_more d es (at v) n h.closed }
act_more count d es n s h = tt

doubt_more : (d : Entry) (es : List Entry) → Numbered (d ∷ es) → (o : Option Pending) → DoubtClosed es o → DoubtClosed (d ∷ es) o
doubt_more d es n None h = tt
doubt_more d es n (Some (pending.Commit e)) h = closed_more d es (at e.begin) n h
doubt_more d es n (Some (pending.Release part epoch to v)) h = closed_more d es (at v) n h
doubt_more d es n (Some (pending.Grant part epoch v)) h = closed_more d es (at v) n h

-- what a past gives of acts and of what is on its way
pub record Deeds : Type 0 where
  pub entries : List Entry
  pub acts : List Step
  pub placing : ℕ → Placing
  pub down : ℕ → Bool
  pub doubt : ℕ → Option Pending

abbrev pub deeds : Layout → List Step → Deeds
deeds layout past = record {
  entries = entries past;
  acts = acts past;
  placing = placing layout past;
  down = λ i. is_down i past;
  doubt = λ i. pending_at i past;
}

-- the vectors of acts, of partitions between masters, and of what is in doubt are closed
pub record Firm (count : ℕ) (d : Deeds) : Type 0 where
  pub acts : Each (ActClosed count d.entries) d.acts
  pub between : (p x y z : ℕ) (v : List ℕ) → d.placing p ≡ Between x y z v → ClosedBy d.entries (at v)
  pub held : (i : ℕ) → d.down i ≡ true → DoubtClosed d.entries (d.doubt i)

abbrev pub FirmPast : Layout → List Step → Type 0
FirmPast layout past = Firm layout.sites (deeds layout past)

by_part : (b : Bool) (x y : Placing) (P : List ℕ → Type 0) → ((k l m : ℕ) (v : List ℕ) → x ≡ Between k l m v → P v)
    → ((k l m : ℕ) (v : List ℕ) → y ≡ Between k l m v → P v)
    → (k l m : ℕ) (v : List ℕ) → (if b then x else y) ≡ Between k l m v → P v
by_part true x y P f g = f
by_part false x y P f g = g

module _ (layout : Layout) (past : List Step) (n : SoundPast layout past) (s : FirmPast layout past) where
  firm_doubt : (site : ℕ) (p : Pending) → DoubtClosed (entries past) (Some p) → FirmPast layout (Doubt site p ∷ past)
  firm_doubt site p f = record { acts = s.acts; between = s.between; held = λ i h. by_site i (site == i) h }
    where
      by_site : (i : ℕ) (b : Bool) → unwrap_or (option_or (if b then Some true else None) (latest (down_after i) past)) false ≡ true
          → DoubtClosed (entries past) (option_or (if b then Some p else None) (pending_at i past))
      by_site i true h = f
      by_site i false h = s.held i h

  rise : (site k : ℕ) (o : Option Bool) → unwrap_or (option_or (if site == k then Some false else None) o) false ≡ true → unwrap_or o false ≡ true
  rise site k o r = elim (ran (site == k) false o r) [ inl q ↦ absurd (false≢true q.now) | inr q ↦ q.before ]

  -- an entry comes
  firm_entry : (e : Entry) (down' : ℕ → Bool) → Numbered (e ∷ entries past) → ClosedBy (entries past) (at e.begin)
      → ((i : ℕ) → down' i ≡ true → is_down i past ≡ true)
      → Firm layout.sites (record (deeds layout past) { entries = e ∷ entries past; acts = Commit e ∷ acts past; down = down' })
  firm_entry e down' q c d = record {
    acts = (
      closed_more e (entries past) (at e.begin) q c,
      each_map (ActClosed layout.sites (entries past)) (ActClosed layout.sites (e ∷ entries past))
          (act_more layout.sites e (entries past) q) (acts past) s.acts,
    );
    between = λ p x y z v h. closed_more e (entries past) (at v) q (s.between p x y z v h);
    held = λ i h. doubt_more e (entries past) q (pending_at i past) (s.held i (d i h));
  }

  firm_release : (site part epoch to : ℕ) (v : List ℕ) (down' : ℕ → Bool) → ClosedBy (entries past) (at v) → ((i : ℕ) → down' i ≡ true → is_down i past ≡ true)
      → Firm layout.sites
      (record (deeds layout past) {
        acts = Release site part epoch to v ∷ acts past;
        placing = λ p. if part == p then Between site epoch to v
            else placing layout past p;
        down = down';
      })
  firm_release site part epoch to v down' c d = record {
    acts = (tt, s.acts);
    between = λ p. by_part (part == p) (Between site epoch to v) (placing layout past p) (λ w. ClosedBy (entries past) (at w))
        (λ k l x w e. subst (λ (u : List ℕ). ClosedBy (entries past) (at u)) (cc (e)) c) (s.between p);
    held = λ i h. s.held i (d i h);
  }

  firm_grant : (site part epoch : ℕ) (v : List ℕ) (down' : ℕ → Bool) → length v ≡ layout.sites → ClosedBy (entries past) (at v)
      → ((i : ℕ) → down' i ≡ true → is_down i past ≡ true)
      → Firm layout.sites
      (record (deeds layout past) {
        acts = Grant site part epoch v ∷ acts past;
        placing = λ p. if part == p then Granted site epoch else placing layout past p;
        down = down';
      })
  firm_grant site part epoch v down' long c d = record {
    acts = (record { long = long; closed = c }, s.acts);
    between = λ p. by_part (part == p) (Granted site epoch) (placing layout past p) (λ w. ClosedBy (entries past) (at w)) (λ k l x w e. absurd (cc (e)))
        (s.between p);
    held = λ i h. s.held i (d i h);
  }

  commit_closed : (e : Entry) → LegalCommit layout past e → ClosedBy (entries past) (at e.begin)
  commit_closed e legal =
      let r = n.running e.origin e.txn legal.runs in
      subst (λ (u : List ℕ). ClosedBy (entries past) (at u)) (sym (legal.began ∙ ap (λ (o : Option (List ℕ)). unwrap_or o []) r.is))
      (n.begins e.txn r.begin r.is)

  -- after a Restart that keeps the pending step
  abbrev kept_deeds : ℕ → List ℕ → Option Pending → Deeds
  kept_deeds site vector o = record {
    entries = filter_map entry_of (option_to_list (option_map (step_of site) o) ++ acts past);
    acts = option_to_list (option_map (step_of site) o) ++ acts past;
    placing = λ p. after_acts p (option_to_list (option_map (step_of site) o)) (placing layout past p);
    down = λ i. is_down i (Restart site vector Kept ∷ past);
    doubt = λ i. pending_at i past;
  }

  firm_kept : (site : ℕ) (vector : List ℕ) (o : Option Pending) → InDoubt layout.sites (counts past) site o → DoubtClosed (entries past) o
      → Numbered (kept_deeds site vector o).entries → Firm layout.sites (kept_deeds site vector o)
  firm_kept site vector None l f q = record { acts = s.acts; between = s.between; held = λ i h. s.held i (rise site i _ h) }
  firm_kept site vector (Some (pending.Commit e)) l f q = firm_entry e (λ i. is_down i (Restart site vector Kept ∷ past)) q f (λ i h. rise site i _ h)
  firm_kept site vector (Some (pending.Release part epoch to v)) l f q =
      firm_release site part epoch to v (λ i. is_down i (Restart site vector Kept ∷ past)) f (λ i h. rise site i _ h)
  firm_kept site vector (Some (pending.Grant part epoch v)) l f q = firm_grant site part epoch v (λ i. is_down i (Restart site vector Kept ∷ past)) l f (λ i h.
      rise site i _ h)

  pub firm_step : (st : Step) → Allowed layout past st → FirmPast layout (st ∷ past)
  firm_step (Ask part epoch to txn) h = record {
    acts = s.acts;
    held = s.held;
    between = λ p. by_part (part == p) (asked (placing layout past p) to) (placing layout past p) (λ w. ClosedBy (entries past) (at w))
        (λ k l x w e. s.between p k l x w (asked_between (placing layout past p) to k l x w e)) (s.between p);
  }
  firm_step (Settle part epoch) h = record {
    acts = s.acts;
    held = s.held;
    between = λ p. by_part (part == p) (settled (placing layout past p)) (placing layout past p) (λ w. ClosedBy (entries past) (at w))
        (λ k l x w e. s.between p k l x w (settled_between (placing layout past p) k l x w e)) (s.between p);
  }
  firm_step (Commit e) h =
      firm_entry e (λ i. is_down i past) (sound_step layout past (Commit e) n h).numbered (commit_closed e (legal_commit layout past e h)) (λ i d. d)
  firm_step (Release site part epoch to vector) h =
      let legal = legal_release layout past site part epoch to vector h in
      firm_release site part epoch to vector (λ i. is_down i past) (vector_closed layout past n site vector legal.at_vector) (λ i d. d)
  firm_step (Grant site part epoch vector) h =
      let legal = legal_grant layout past site part epoch vector h in
      firm_grant site part epoch vector (λ i. is_down i past) legal.long (s.between part legal.from legal.old site vector legal.between) (λ i d. d)
  firm_step (Doubt site (pending.Commit e)) h = firm_doubt site (pending.Commit e) (commit_closed e (doubted_commit layout past site e h).commit)
  firm_step (Doubt site (pending.Release part epoch to vector)) h =
      let legal = doubted_release layout past site part epoch to vector h in
      firm_doubt site (pending.Release part epoch to vector) (vector_closed layout past n site vector legal.at_vector)
  firm_step (Doubt site (pending.Grant part epoch vector)) h =
      let legal = doubted_grant layout past site part epoch vector h in
      firm_doubt site (pending.Grant part epoch vector) (s.between part legal.from legal.old site vector legal.between)
  firm_step (Restart site vector Clean) h = record { acts = s.acts; between = s.between; held = λ i d. s.held i (rise site i _ d) }
  firm_step (Restart site vector Lost) h = record { acts = s.acts; between = s.between; held = λ i d. s.held i (rise site i _ d) }
  firm_step (Restart site vector Kept) h =
      let legal = legal_restart layout past site vector Kept h in
      firm_kept site vector (pending_at site past) (n.in_doubt site legal.fits) (s.held site legal.fits)
      (sound_step layout past (Restart site vector Kept) n h).numbered
  firm_step other h = s

pub firm_past : (layout : Layout) (past : List Step) → LegalPast layout past → FirmPast layout past
firm_past layout [] h = record { acts = tt; between = λ p x y z v e. absurd (cc (e)); held = λ i d. absurd (false≢true d) }
firm_past layout (st ∷ past) h = firm_step layout past (sound_past layout past h.0) (firm_past layout past h.0) st h.1

-- ---- the floor

abbrev pub joined : ℕ → ℕ → List Step → ℕ → ℕ
joined count i ds j = at (join_all count (filter_map (floor_vector i) ds)) j

-- inside a join is inside one of the vectors
inside_join : (count : ℕ) (x : List ℕ) (vs : List (List ℕ)) (k o : ℕ) → 1 ≤ k → k ≤ at (join_all count (x ∷ vs)) o → (k ≤ at x o)
    ⊎ (k ≤ at (join_all count vs) o)
inside_join count x vs k zero one h = absurd (omega arith)
inside_join count x vs k (suc o) one h = elim (cases_lt o count) [
  | inl c ↦ (let a = at_by count (λ site. greatest (map (λ v. at v site) (x ∷ vs))) (suc o) (omega arith) (omega arith) in let d =
      at_by count (λ site. greatest (map (λ v. at v site) vs)) (suc o) (omega arith) (omega arith) in
      elim (cases_lt (at x (suc o)) k) [ inl p ↦ inr (omega arith) | inr p ↦ inl p ])
  | inr c ↦ absurd (let a = at_past (join_all count (x ∷ vs)) (suc o) (let y = long_by count (λ site. greatest (map (λ v. at v site) (x ∷ vs))) in omega arith)
      in omega arith)
]

by_cons : (b : Bool) (x : List ℕ) (vs : List (List ℕ)) (P : List (List ℕ) → Type 0) → (b ≡ true → P (x ∷ vs)) → (b ≡ false → P vs)
    → P (cons_option (if b then Some x else None) vs)
by_cons true x vs P f g = f refl
by_cons false x vs P f g = g refl

-- an own entry's commit vector is inside the floor
own_inside : (count i : ℕ) (ds : List Step) → Each (λ e. length e.begin ≡ count) (filter_map entry_of ds)
    → Each (λ e. e.origin ≡ i → (j : ℕ) → at (commit_vector e) j ≤ joined count i ds j) (filter_map entry_of ds)
own_inside count i [] l = tt
own_inside count i (Commit e ∷ ds) l = (
  (λ o j. by_cons (e.origin == i) (commit_vector e) (filter_map (floor_vector i) ds) (λ vs. at (commit_vector e) j ≤ at (join_all count vs) j)
      (λ t. join_has count (commit_vector e) (filter_map (floor_vector i) ds) (long_raised e.begin e.origin e.seq ∙ l.0) j)
      (λ t. absurd (eqb-false e.origin i t o))),
  each_map (λ d. d.origin ≡ i → (j : ℕ) → at (commit_vector d) j ≤ joined count i ds j)
      (λ d. d.origin ≡ i → (j : ℕ) → at (commit_vector d) j ≤ joined count i (Commit e ∷ ds) j)
      (λ d h o j. le_trans (h o j) (by_cons (e.origin == i) (commit_vector e) (filter_map (floor_vector i) ds)
      (λ vs. joined count i ds j ≤ at (join_all count vs) j) (λ t. join_keeps count (commit_vector e) (filter_map (floor_vector i) ds) j)
      (λ t. omega arith)))
      (filter_map entry_of ds) (own_inside count i ds l.1),
)
own_inside count i (Grant site part epoch v ∷ ds) l =
    each_map (λ d. d.origin ≡ i → (j : ℕ) → at (commit_vector d) j ≤ joined count i ds j)
    (λ d. d.origin ≡ i → (j : ℕ) → at (commit_vector d) j ≤ joined count i (Grant site part epoch v ∷ ds) j)
    (λ d h o j. le_trans (h o j) (by_cons (site == i) v (filter_map (floor_vector i) ds) (λ vs. joined count i ds j ≤ at (join_all count vs) j)
    (λ t. join_keeps count v (filter_map (floor_vector i) ds) j) (λ t. omega arith)))
    (filter_map entry_of ds) (own_inside count i ds l)
own_inside count i (s ∷ ds) l = own_inside count i ds l

-- what the entry needs, beside being another origin's
pub record Around (count : ℕ) (e : Entry) : Type 0 where
  pub one : 1 ≤ e.origin
  pub in' : e.origin ≤ length e.begin
  pub long : length e.begin ≡ count
  pub own : at e.begin e.origin < e.seq

begin_below : (count : ℕ) (e : Entry) → Around count e → (j : ℕ) → at e.begin j ≤ at (commit_vector e) j
begin_below count e a j = elim (cases_eq j e.origin) [
  | inl p ↦ subst (λ (x : ℕ). at e.begin x ≤ at (commit_vector e) x) (sym p)
      (let x = at_raised_own e.begin e.origin e.seq a.one a.in' in let y = a.own in omega arith)
  | inr q ↦ (let x = at_raised_other e.begin e.origin e.seq j a.one q in omega arith)
]

around_all : (layout : Layout) (es : List Entry) → Numbered es → Grounded layout es → Each (λ e. length e.begin ≡ layout.sites) es
    → Each (Around layout.sites) es
around_all layout [] n g l = tt
around_all layout (e ∷ es) n g l =
    let top = g.0.site.top in
    let here = l.0 in
    (record { one = g.0.site.one; in' = omega (arith, top, here); long = here; own = n.0.before }, around_all layout es n.1 g.1 l.1)

seq_all : (es : List Entry) → Numbered es → Each (λ e. 1 ≤ e.seq) es
seq_all [] n = tt
seq_all (e ∷ es) n = ((let m = n.0.seq in omega (arith, m)), seq_all es n.1)

-- what is closed has, with an entry, all that the entry began with
abbrev Rule : List Entry → Entry → Type 0
Rule es d = (w : List ℕ) → ClosedBy es (at w) → d.seq ≤ at w d.origin → (j : ℕ) → at d.begin j ≤ at w j

rule_all : (es xs : List Entry) → ((w : List ℕ) → ClosedBy es (at w) → Each (λ d. d.seq ≤ at w d.origin → (j : ℕ) → at d.begin j ≤ at w j) xs)
    → Each (Rule es) xs
rule_all es [] h = tt
rule_all es (x ∷ xs) h = ((λ w c. (h w c).0), rule_all es xs (λ w c. (h w c).1))

other_inside : (es : List Entry) (count i : ℕ) (d : Entry) → 1 ≤ d.seq → d.origin ≢ i → Rule es d → (ds : List Step) → Each (ActClosed count es) ds
    → Each (Around count) (filter_map entry_of ds)
    → d.seq ≤ joined count i ds d.origin → (j : ℕ) → at d.begin j ≤ joined count i ds j
other_inside es count i d one ne r [] a l h j = absurd (let x = at_by_below count (λ site. greatest (map (λ v. at v site) [])) d.origin in omega arith)
other_inside es count i d one ne r (Commit e ∷ ds) a l h j =
    by_cons (e.origin == i) (commit_vector e) (filter_map (floor_vector i) ds)
    (λ vs. d.seq ≤ at (join_all count vs) d.origin → at d.begin j ≤ at (join_all count vs) j)
    (λ t k. elim (inside_join count (commit_vector e) (filter_map (floor_vector i) ds) d.seq d.origin one k) [
      | inl p ↦ (
          let o = eqb-true e.origin i t in
          let x = at_raised_other e.begin e.origin e.seq d.origin l.0.one (λ q. ne (q ∙ o)) in
          let y = r e.begin a.0 (omega (arith, p, x)) j in
          let z = begin_below count e l.0 j in
          let w = join_has count (commit_vector e) (filter_map (floor_vector i) ds) (long_raised e.begin e.origin e.seq ∙ l.0.long) j in
          le_trans y (le_trans z w)
          )
      | inr p ↦ le_trans (other_inside es count i d one ne r ds a.1 l.1 p j) (join_keeps count (commit_vector e) (filter_map (floor_vector i) ds) j)
    ])
    (λ t k. other_inside es count i d one ne r ds a.1 l.1 k j) h
other_inside es count i d one ne r (Grant site part epoch v ∷ ds) a l h j =
    by_cons (site == i) v (filter_map (floor_vector i) ds) (λ vs. d.seq ≤ at (join_all count vs) d.origin → at d.begin j ≤ at (join_all count vs) j)
    (λ t k. elim (inside_join count v (filter_map (floor_vector i) ds) d.seq d.origin one k) [
      | inl p ↦ le_trans (r v a.0.closed p j) (join_has count v (filter_map (floor_vector i) ds) a.0.long j)
      | inr p ↦ le_trans (other_inside es count i d one ne r ds a.1 l p j) (join_keeps count v (filter_map (floor_vector i) ds) j)
    ])
    (λ t k. other_inside es count i d one ne r ds a.1 l k j) h
other_inside es count i d one ne r (s ∷ ds) a l h j = other_inside es count i d one ne r ds a.1 l h j

-- what is joined of acts is closed, where their entries are numbered and their vectors closed
pub acts_closed : (layout : Layout) (ds : List Step) (i : ℕ) → Numbered (filter_map entry_of ds) → Grounded layout (filter_map entry_of ds)
    → Each (λ e. length e.begin ≡ layout.sites) (filter_map entry_of ds) → Each (ActClosed layout.sites (filter_map entry_of ds)) ds
    → ((j : ℕ) → joined layout.sites i ds j ≤ count_at j (filter_map entry_of ds)) → ClosedBy (filter_map entry_of ds) (joined layout.sites i ds)
acts_closed layout ds i n g l a c =
    let es = filter_map entry_of ds in
    let around = around_all layout es n g l in
    record {
      within = c;
      begun = by_each es (rule_all es es (λ w k. k.begun)) (own_inside layout.sites i ds l) around (seq_all es n)
          (λ d one ne r. other_inside es layout.sites i d one ne r ds a around);
    }
  where
    by_each : (xs : List Entry) → Each (Rule (filter_map entry_of ds)) xs
        → Each (λ e. e.origin ≡ i → (j : ℕ) → at (commit_vector e) j ≤ joined layout.sites i ds j) xs
        → Each (Around layout.sites) xs → Each (λ e. 1 ≤ e.seq) xs
        → ((d : Entry) → 1 ≤ d.seq → d.origin ≢ i → Rule (filter_map entry_of ds) d → d.seq ≤ joined layout.sites i ds d.origin → (j : ℕ)
        → at d.begin j ≤ joined layout.sites i ds j)
        → Each (λ e. e.seq ≤ joined layout.sites i ds e.origin → (j : ℕ) → at e.begin j ≤ joined layout.sites i ds j) xs
    by_each [] r o a q g = tt
    by_each (d ∷ xs) r o a q g = (
      (λ k j. elim (cases_eq d.origin i) [
        | inl p ↦ le_trans (begin_below layout.sites d a.0 j) (o.0 p j)
        | inr ne ↦ g d q.0 ne r.0 k j
      ]),
      by_each xs r.1 o.1 a.1 q.1 g,
    )

-- what a site may not lose is closed
pub floor_closed : (layout : Layout) (past : List Step) → LegalPast layout past → (i : ℕ) → ClosedBy (entries past) (floor_at layout past i)
floor_closed layout past h i =
    let n = sound_past layout past h in
    acts_closed layout (acts past) i n.numbered (grounded_past layout past h) n.sized (firm_past layout past h).acts
    (λ j. le_trans ((mastered_past layout past h).floored i j) ((n.closed i).within j))
