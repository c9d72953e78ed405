-- The list of the attempts that run, after one step more.
use Rattle.std.proofs.Common.{ℕ, ◌≡◌, ◌==◌, Bool, true, false, cond, if◌then◌else◌, List, [], ◌∷◌, ◌++◌, map, refl, sym, ap, ◌∙◌, subst}
use Rattle.std.proofs.lemmas.Bool.{eqb-true, eq-eqb, false≢true}
use Rattle.std.proofs.lemmas.List.{map-append}
use Rattle.std.proofs.lemmas.List.Elements.{filter-append}
use Rattle.std.specs.List.{AllByRecursion as Each}
use Rattle.std.specs.Prelude.{not, filter, filter_map, reverse}
use Rattle.dm_event.specs.Layout.{Layout}
use Rattle.dm_event.specs.declared.step.Step.{Step}
use Rattle.dm_event.specs.declared.step.Step.TheVariants.{Begin, Commit, End, Fail, Doubt, Restart}
use Rattle.dm_event.specs.declared.step.TxnId.{TxnId}
use Rattle.dm_model.specs.Allowed.{Allowed}
use Rattle.dm_model.specs.Legal.{LegalPast}
use Rattle.dm_model.specs.Runs.{runs, running, begun_at}
use Rattle.dm_event.specs.Txns.{same_txn}
use Rattle.dm_runs.specs.Running.{running_in, AreRuns}
use Rattle.dm_runs.specs.Next.{but, elsewhere, next_runs}
use Rattle.dm_runs.specs.declared.run.Run.{Run}
use Rattle.dm_steps.proofs.Running.{running_next}
use Rattle.dm_steps.specs.Next.{without, next_running}

-- ---- the attempts at a site

without_at : (i : ℕ) (t : TxnId) (rs : List Run) → running_in i (but t rs) ≡ without t (running_in i rs)
without_at i t [] = refl
without_at i t (r ∷ rs) = by (same_txn r.txn t) (r.site == i) refl refl (without_at i t rs)
  where
    by : (a b : Bool) → same_txn r.txn t ≡ a → (r.site == i) ≡ b → running_in i (but t rs) ≡ without t (running_in i rs)
        → map (λ (x : Run). x.txn) (filter (λ x. x.site == i) (cond (not a) (r ∷ but t rs) (but t rs)))
        ≡ without t (map (λ (x : Run). x.txn) (cond b (r ∷ filter (λ x. x.site == i) rs) (filter (λ x. x.site == i) rs)))
    by true true e f h = rw e h
    by true false e f h = h
    by false true e f h = rw (f, e) (ap (λ (l : List TxnId). r.txn ∷ l) h)
    by false false e f h = rw f h

same_step : (i site : ℕ) (r : Run) (xs : List Run) → site ≡ i → running_in i (elsewhere site xs) ≡ [] → (b : Bool) → (r.site == site) ≡ b
    → map (λ (x : Run). x.txn) (filter (λ x. x.site == i) (cond (not b) (r ∷ elsewhere site xs) (elsewhere site xs))) ≡ []
same_step i site r xs e h true f = h
same_step i site r xs e h false f = (let g : (r.site == i) ≡ false = ap (λ (k : ℕ). r.site == k) (sym e) ∙ f in rw g h)

same_site : (i site : ℕ) → site ≡ i → (xs : List Run) → running_in i (elsewhere site xs) ≡ []
same_site i site e [] = refl
same_site i site e (r ∷ xs) = same_step i site r xs e (same_site i site e xs) (r.site == site) refl

kept_or : (i site : ℕ) (r : Run) (xs : List Run) (b : Bool) → running_in i (elsewhere site xs) ≡ running_in i xs
    → map (λ (x : Run). x.txn) (cond b (r ∷ filter (λ x. x.site == i) (elsewhere site xs)) (filter (λ x. x.site == i) (elsewhere site xs)))
    ≡ map (λ (x : Run). x.txn) (cond b (r ∷ filter (λ x. x.site == i) xs) (filter (λ x. x.site == i) xs))
kept_or i site r xs true h = ap (λ (l : List TxnId). r.txn ∷ l) h
kept_or i site r xs false h = h

other_step : (i site : ℕ) (r : Run) (xs : List Run) → (site == i) ≡ false → running_in i (elsewhere site xs) ≡ running_in i xs → (b : Bool) → (r.site == site) ≡ b
    → map (λ (x : Run). x.txn) (filter (λ x. x.site == i) (cond (not b) (r ∷ elsewhere site xs) (elsewhere site xs)))
    ≡ map (λ (x : Run). x.txn) (cond (r.site == i) (r ∷ filter (λ x. x.site == i) xs) (filter (λ x. x.site == i) xs))
other_step i site r xs e h true f = (let g : (r.site == i) ≡ false = ap (λ (k : ℕ). k == i) (eqb-true r.site site f) ∙ e in rw g h)
other_step i site r xs e h false f = kept_or i site r xs (r.site == i) h

other_site : (i site : ℕ) → (site == i) ≡ false → (xs : List Run) → running_in i (elsewhere site xs) ≡ running_in i xs
other_site i site e [] = refl
other_site i site e (r ∷ xs) = other_step i site r xs e (other_site i site e xs) (r.site == site) refl

dropped_at : (i site : ℕ) (rs : List Run) → running_in i (elsewhere site rs) ≡ (if site == i then [] else running_in i rs)
dropped_at i site rs = by (site == i) refl
  where
    by : (b : Bool) → (site == i) ≡ b → running_in i (elsewhere site rs) ≡ (if b then [] else running_in i rs)
    by true e = same_site i site (eqb-true site i e) rs
    by false e = other_site i site e rs

begun_at_site : (i site : ℕ) (txn : TxnId) (rs : List Run) → running_in i (rs ++ record { site = site; txn = txn } ∷ []) ≡ (if site == i then running_in i rs ++ txn ∷ [] else running_in i rs)
begun_at_site i site txn rs =
    ap (λ (l : List Run). map (λ (x : Run). x.txn) l) (filter-append (λ x. x.site == i) rs (record { site = site; txn = txn } ∷ []))
    ∙ map-append (λ (x : Run). x.txn) (filter (λ x. x.site == i) rs) (filter (λ x. x.site == i) (record { site = site; txn = txn } ∷ []))
    ∙ by (site == i) (running_in i rs)
  where
    by : (b : Bool) (ts : List TxnId) → ts ++ map (λ (x : Run). x.txn) (cond b (record { site = site; txn = txn } ∷ []) []) ≡ (if b then ts ++ txn ∷ [] else ts)
    by true ts = refl
    by false ts = nil ts
      where
        nil : (l : List TxnId) → l ++ [] ≡ l
        nil [] = refl
        nil (x ∷ xs) = ap (λ (m : List TxnId). x ∷ m) (nil xs)

at_each : (i : ℕ) (s : Step) (rs : List Run) → running_in i (next_runs s rs) ≡ next_running i s (running_in i rs)
at_each i (Begin site txn begin) rs = begun_at_site i site txn rs
at_each i (Commit entry) rs = without_at i entry.txn rs
at_each i (End site txn ops reads) rs = without_at i txn rs
at_each i (Fail site txn cause) rs = without_at i txn rs
at_each i (Doubt site p) rs = dropped_at i site rs
at_each i (Restart site vector found) rs = dropped_at i site rs
at_each i other rs = refl

-- ---- each of them runs

each_passes : (p : TxnId → Bool) (ts : List TxnId) → Each (λ t. p t ≡ true) (filter p ts)
each_passes p [] = tt
each_passes p (t ∷ ts) = by (p t) refl (each_passes p ts)
  where
    by : (b : Bool) → p t ≡ b → Each (λ u. p u ≡ true) (filter p ts) → Each (λ u. p u ≡ true) (cond b (t ∷ filter p ts) (filter p ts))
    by true e h = (e, h)
    by false e h = h

each_run : (P : ℕ → TxnId → Type 0) (rs : List Run) → ((i : ℕ) → Each (P i) (running_in i rs)) → Each (λ r. P r.site r.txn) rs
each_run P [] h = tt
each_run P (r ∷ rs) h = (own (r.site == r.site) (eq-eqb r.site r.site refl) (h r.site), each_run P rs (λ i. rest i (r.site == i) (h i)))
  where
    own : (b : Bool) → b ≡ true → Each (P r.site) (map (λ (x : Run). x.txn) (cond b (r ∷ filter (λ x. x.site == r.site) rs) (filter (λ x. x.site == r.site) rs))) → P r.site r.txn
    own true e g = g.0
    own false e g = absurd (false≢true e)

    rest : (i : ℕ) (b : Bool) → Each (P i) (map (λ (x : Run). x.txn) (cond b (r ∷ filter (λ x. x.site == i) rs) (filter (λ x. x.site == i) rs))) → Each (P i) (running_in i rs)
    rest i true g = g.1
    rest i false g = g

pub are_runs : (past : List Step) (rs : List Run) → ((i : ℕ) → running_in i rs ≡ running i past) → AreRuns past rs
are_runs past rs h = record {
  each = each_run (λ i t. runs i t past ≡ true) rs (λ i. subst (λ (ts : List TxnId). Each (λ t. runs i t past ≡ true) ts) (sym (h i)) (each_passes (λ t. runs i t past) (reverse (filter_map (begun_at i) past))));
  at_site = h;
}

pub runs_next : (layout : Layout) (past : List Step) → LegalPast layout past → (s : Step) → Allowed layout past s → (rs : List Run) → AreRuns past rs → AreRuns (s ∷ past) (next_runs s rs)
runs_next layout past h s a rs are =
    are_runs (s ∷ past) (next_runs s rs) (λ i. at_each i s rs ∙ ap (λ (ts : List TxnId). next_running i s ts) (are.at_site i) ∙ sym (running_next layout past h s a i))

-- a list that is the next one has those that run after the step
pub runs_follow : (layout : Layout) (past : List Step) (s : Step) (rs new : List Run) → new ≡ next_runs s rs → LegalPast layout (s ∷ past) → AreRuns past rs → AreRuns (s ∷ past) new
runs_follow layout past s rs new e h are = subst (λ (l : List Run). AreRuns (s ∷ past) l) (sym e) (runs_next layout past h.0 s h.1 rs are)
