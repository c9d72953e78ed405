-- The minimum of a Route counts entries that there are, and so does the vector of a Release, which is closed as well.
use Rattle.std.proofs.Common.{ℕ, ◌≤◌, ◌≡◌, ◌==◌, ◌&&◌, Bool, true, false, cond, List, [], ◌∷◌, Option, Some, None, refl, sym, ap, subst, arith, inl, inr}
use Rattle.std.proofs.lemmas.Bool.{cases_eq}
use Rattle.std.specs.List.{AllByRecursion as Each, cons_option}
use Rattle.std.specs.Option.{option_or}
use Rattle.std.specs.Prelude.{option_map, is_some, IfSome}
use Rattle.dm_chronicle.specs.Rule.{In}
use Rattle.dm_event.specs.Entries.{commit_vector}
use Rattle.dm_event.specs.Layout.{Layout}
use Rattle.dm_event.specs.Vectors.{at, join_all}
use Rattle.dm_event.specs.declared.step.Choice.{Choice}
use Rattle.dm_event.specs.declared.step.Entry.{Entry}
use Rattle.dm_event.specs.declared.step.Said.TheVariants as said
use Rattle.dm_event.specs.declared.step.Step.{Step}
use Rattle.dm_event.specs.declared.step.Step.TheVariants.{Route, Reply, Begin}
use Rattle.dm_event.specs.declared.step.TxnId.{TxnId}
use Rattle.dm_event.specs.declared.step.Want.{Want}
use Rattle.dm_event.specs.declared.step.Want.TheVariants.{Txn}
use Rattle.dm_model.proofs.LegalSteps.{legal_route, legal_begin}
use Rattle.dm_model.proofs.ListFacts.{each_map, found_each}
use Rattle.dm_model.proofs.Numbering.{found_entry, count_at}
use Rattle.dm_model.proofs.NumbersSound.{sound_past, vector_closed}
use Rattle.dm_model.proofs.Snapshots.{Fits, snap_past}
use Rattle.dm_model.proofs.VectorFacts.{at_by_below, at_raised_own, at_raised_other, join_least, long_by}
use Rattle.dm_model.specs.Acts.{entries, entry_at}
use Rattle.dm_model.specs.Allowed.{Allowed}
use Rattle.dm_model.specs.Attempts.{Routing}
use Rattle.dm_model.specs.Legal.{LegalPast}
use Rattle.dm_model.specs.Progress.{entry_count}
use Rattle.dm_model.specs.Runs.{begin_of, last_begin}
use Rattle.dm_model.specs.Sessions.{answered, answered_by, session_vector}
use Rattle.dm_model.specs.Words.{latest}
use Rattle.dm_next.proofs.Growing.{counts_more}
use Rattle.dm_next.proofs.Routed.{routed_sent}
use Rattle.dm_next.specs.Counted.{Counts}
use Rattle.dm_next.specs.Routed.{IsRouted}
use Rattle.dm_steps.proofs.Legality.{made_entry, long_commit}

-- ---- what a session is answered

-- a begin vector
pub begin_counts : (layout : Layout) (p : TxnId → Bool) (past : List Step) (v : List ℕ) → LegalPast layout past → latest (begin_of p) past ≡ Some v
    → Counts layout past v
begin_counts layout p [] v l e = absurd (cc (e))
begin_counts layout p (Begin site txn begin ∷ past) v l e = by (p txn) e (λ f. begin_counts layout p past v l.0 f)
  where
    here : Counts layout past begin
    here =
        let legal = legal_begin layout past site txn begin l.1 in
        record { long = legal.long; within = (vector_closed layout past (sound_past layout past l.0) site begin legal.at_vector).within }

    by : (b : Bool) → option_or (cond b (Some begin) None) (latest (begin_of p) past) ≡ Some v → (latest (begin_of p) past ≡ Some v → Counts layout past v)
        → Counts layout (Begin site txn begin ∷ past) v
    by true f rest =
        let same : begin ≡ v = cc (f) in
        subst (λ (u : List ℕ). Counts layout (Begin site txn begin ∷ past) u) same (counts_more layout past (Begin site txn begin) begin here)
    by false f rest = counts_more layout past (Begin site txn begin) v (rest f)
begin_counts layout p (s ∷ past) v l e = counts_more layout past s v (begin_counts layout p past v l.0 e)

-- a commit vector
pub commit_counts : (layout : Layout) (past : List Step) (site seq : ℕ) (e : Entry) → LegalPast layout past → entry_at site seq past ≡ Some e
    → Counts layout past (commit_vector e)
commit_counts layout past site seq e l f =
    let made = made_entry layout past l site seq e f in
    let found = found_entry (entries past) site seq e (sound_past layout past l).numbered f in
    let fits = found_each (Fits layout (entries past)) (λ d. (d.origin == site) && (d.seq == seq)) (entries past) e f (snap_past layout past l).commits in
    record {
      long = long_commit layout e made;
      within = λ j. elim (cases_eq j e.origin) [
        | inl p ↦ subst (λ (k : ℕ). at (commit_vector e) k ≤ entry_count k past) (sym p)
            (let a = at_raised_own e.begin e.origin e.seq made.one made.within in let b = found.within in
            let c = ap (λ (k : ℕ). count_at k (entries past)) found.origin in omega (arith, a, b, c))
        | inr m ↦ (let a = at_raised_other e.begin e.origin e.seq j made.one m in let b = fits.within j in omega (arith, a, b))
      ];
    }

one_more : (layout : Layout) (past : List Step) (o : Option (List ℕ)) (vs : List (List ℕ)) → IfSome o (λ v. Counts layout past v)
    → Each (λ v. Counts layout past v) vs
    → Each (λ v. Counts layout past v) (cons_option o vs)
one_more layout past None vs h k = k
one_more layout past (Some v) vs h k = (h, k)

said_counts : (layout : Layout) (past : List Step) (c : ℕ) (s : Step) → LegalPast layout past → IfSome (answered_by c s past) (λ v. Counts layout past v)
said_counts layout past c (Reply session number (said.Committed site seq)) l = by (session == c) (entry_at site seq past) refl
  where
    by : (b : Bool) (o : Option Entry) → entry_at site seq past ≡ o → IfSome (cond b (option_map commit_vector o) None) (λ v. Counts layout past v)
    by false o e = tt
    by true None e = tt
    by true (Some d) e = commit_counts layout past site seq d l e
said_counts layout past c (Reply session number (said.Read site)) l = by (session == c) (last_begin c past) refl
  where
    by : (b : Bool) (o : Option (List ℕ)) → last_begin c past ≡ o → IfSome (cond b o None) (λ v. Counts layout past v)
    by false o e = tt
    by true None e = tt
    by true (Some v) e = begin_counts layout (λ txn. txn.session == c) past v l e
said_counts layout past c other l = tt

answered_count : (layout : Layout) (past : List Step) (c : ℕ) → LegalPast layout past → Each (λ v. Counts layout past v) (answered c past)
answered_count layout [] c l = tt
answered_count layout (s ∷ past) c l =
    each_map (λ v. Counts layout past v) (λ v. Counts layout (s ∷ past) v) (λ v k. counts_more layout past s v k)
    (cons_option (answered_by c s past) (answered c past))
    (one_more layout past (answered_by c s past) (answered c past) (said_counts layout past c s l.0) (answered_count layout past c l.0))

join_counts : (layout : Layout) (past : List Step) (vs : List (List ℕ)) → Each (λ v. Counts layout past v) vs → (j : ℕ)
    → at (join_all layout.sites vs) j ≤ entry_count j past
join_counts layout past [] h j = (let a = at_by_below layout.sites (λ k. 0) j in omega (arith, a))
join_counts layout past (v ∷ vs) h j = join_least layout.sites v vs (entry_count j past) j (h.0.within j) (join_counts layout past vs h.1 j)

-- what a session has seen was counted
pub session_counts : (layout : Layout) (past : List Step) (session : ℕ) → LegalPast layout past → Counts layout past (session_vector layout.sites past session)
session_counts layout past c l = record {
  long = long_by layout.sites _;
  within = join_counts layout past (answered c past) (answered_count layout past c l);
}

-- ---- a Route's minimum

pub route_counts : (layout : Layout) (past : List Step) (txn : TxnId) (want : Want) (min : List ℕ) (site : ℕ) (choice : Choice) → LegalPast layout past
    → In (Route txn want min site choice) past → Counts layout past min
route_counts layout [] txn want min site choice l h = absurd h
route_counts layout (s ∷ past) txn want min site choice l (inl e) =
    let legal = legal_route layout past txn want min site choice (subst (λ (x : Step). Allowed layout past x) e l.1) in
    counts_more layout past s min (subst (λ (v : List ℕ). Counts layout past v) (sym legal.least) (session_counts layout past txn.session l.0))
route_counts layout (s ∷ past) txn want min site choice l (inr h) = counts_more layout past s min (route_counts layout past txn want min site choice l.0 h)

-- of an attempt that stands routed
pub routed_counts : (layout : Layout) (past : List Step) (site : ℕ) (txn : TxnId) (keys min : List ℕ) → LegalPast layout past → IsRouted site txn keys min past
    → Counts layout past min
routed_counts layout past site txn keys min l r =
    let s = routed_sent past txn (ap (λ (o : Option Routing). is_some o) r.1) in
    let same : s.route ≡ record { txn = txn; want = Txn keys; min = min; site = site; choice = r.0 } = cc (s.by, r.1) in
    subst (λ (z : Routing). Counts layout past z.min) same
    (route_counts layout past txn s.route.want s.route.min s.route.site s.route.choice l s.stands_in)
