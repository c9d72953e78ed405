-- A site's vector after one step more is what the step tells.
use Rattle.std.proofs.Common.{ℕ, suc, ◌+◌, ◌-◌, ◌^◌, ◌<◌, ◌≤◌, ◌≡◌, ◌≢◌, ◌==◌, ◌&&◌, min, Bool, true, false, if◌then◌else◌, List, ◌∷◌, ◌++◌, Option, Some, None}
use Rattle.std.proofs.Common.{length, refl, sym, ap, ◌∙◌, arith, inl, inr}
use Rattle.std.proofs.lemmas.Bool.{cases_eq, eqb-true, eqb-false, eq-eqb, ne_eqb, le-leb, and_parts, and_from, and_left, and_right, cond-true, cond-false}
use Rattle.std.specs.Prelude.{option_map, option_to_list, filter_map, IfSome}
use Rattle.dm_event.specs.Layout.{Layout, is_between}
use Rattle.dm_event.specs.Vectors.{at, vector_by, raised}
use Rattle.dm_event.specs.declared.step.Entry.{Entry}
use Rattle.dm_event.specs.declared.step.Found.{Found}
use Rattle.dm_event.specs.declared.step.Found.TheVariants.{Clean, Kept, Lost}
use Rattle.dm_event.specs.declared.step.Pending.{Pending}
use Rattle.dm_event.specs.declared.step.Pending.TheVariants as pending
use Rattle.dm_event.specs.declared.step.Step.{Step}
use Rattle.dm_event.specs.declared.step.Step.TheVariants.{Commit, Refresh, Doubt, Restart}
use Rattle.dm_model.proofs.LegalSteps.{legal_commit, legal_refresh, legal_restart}
use Rattle.dm_model.proofs.VectorFacts.{at_by, long_by, long_raised, at_raised_own, at_raised_other}
use Rattle.dm_model.specs.Acts.{acts, entry_of}
use Rattle.dm_model.specs.Allowed.{Allowed, with_kept}
use Rattle.dm_model.specs.Doubts.{pending_at, step_of}
use Rattle.dm_model.specs.Legal.{LegalPast}
use Rattle.dm_model.specs.Progress.{entry_count, reached, site_vector}
use Rattle.dm_model.specs.Shape.{is_shaped}
use Rattle.dm_model.specs.Words.{count_of}
use Rattle.dm_numbers.specs.Told.{told_raised, told_vector}
use Rattle.dm_steps.proofs.Components.{vector_is}
use Rattle.dm_steps.proofs.Legality.{reached_few, pending_shaped}
use Rattle.dm_steps.proofs.Sites.{reached_next}
use Rattle.dm_steps.specs.Adding.{of_origin}
use Rattle.dm_steps.specs.Next.{next_count, next_refreshed, next_reached}
use Rattle.dm_steps.specs.Pendings.{kept_of, entry_by}

adds_none : (n m : ℕ) → m ≡ 0 → n + m ≡ n
adds_none n m e = omega (arith, e)

module _ (count : ℕ) where
  same_by : (f g : ℕ → ℕ) → ((k : ℕ) → f k ≡ g k) → vector_by count f ≡ vector_by count g
  same_by f g h = vector_is count (vector_by count f) g (long_by count f) (λ k l m. at_by count f k l m ∙ h k)

  -- one component more
  raised_by : (f g : ℕ → ℕ) (o n : ℕ) → 1 ≤ o → o ≤ count → g o ≡ n → ((k : ℕ) → k ≢ o → g k ≡ f k)
      → told_raised (vector_by count f) o n ≡ vector_by count g
  raised_by f g o n l m own same =
      let long : length (vector_by count f) ≡ count = long_by count f in
      cond-true (is_between 1 (length (vector_by count f)) o) _ _ (and_from _ _ (le-leb 1 o l) (le-leb o (length (vector_by count f)) (omega (arith, long, m))))
      ∙ vector_is count (raised (vector_by count f) o n) g (long_raised (vector_by count f) o n ∙ long) (λ k a b. at_each k a b long)
    where
      at_each : (k : ℕ) → 1 ≤ k → k ≤ count → length (vector_by count f) ≡ count → at (raised (vector_by count f) o n) k ≡ g k
      at_each k a b long = elim (cases_eq k o) [
        | inl p ↦ (
            ap (λ (j : ℕ). at (raised (vector_by count f) o n) j) p ∙ at_raised_own (vector_by count f) o n l (omega (arith, long, m))
            ∙ sym own ∙ ap g (sym p)
            )
        | inr p ↦ (at_raised_other (vector_by count f) o n k l p ∙ at_by count f k a b ∙ sym (same k p))
      ]

module _ (layout : Layout) (past : List Step) (i : ℕ) where
  abbrev now : ℕ → ℕ
  now j = reached i j past

  own_reached : now i ≡ entry_count i past
  own_reached = cond-true (i == i) _ _ (eq-eqb i i refl)

  next_own : (s : Step) (k n : ℕ) → k ≡ i → next_reached i k s (kept_of s past) n ≡ next_count i s (kept_of s past) n
  next_own s k n e = cond-true (i == k) _ _ (eq-eqb i k (sym e))

  next_other : (s : Step) (k n : ℕ) → k ≢ i → next_reached i k s (kept_of s past) n ≡ next_refreshed i k s n
  next_other s k n e = cond-false (i == k) _ _ (ne_eqb i k (λ p. e (sym p)))

  -- a step that neither counts nor refreshes
  unchanged : (s : Step) → ((n : ℕ) → next_count i s (kept_of s past) n ≡ n) → ((k n : ℕ) → next_refreshed i k s n ≡ n)
      → site_vector layout.sites past i ≡ site_vector layout.sites (s ∷ past) i
  unchanged s own other = same_by layout.sites now (λ k. reached i k (s ∷ past)) (λ k. sym (reached_next i k past s ∙ at_each k))
    where
      at_each : (k : ℕ) → next_reached i k s (kept_of s past) (now k) ≡ now k
      at_each k = elim (cases_eq k i) [ inl p ↦ (next_own s k _ p ∙ own _) | inr p ↦ (next_other s k _ p ∙ other k _) ]

  -- a kept commit of another site
  not_of : (site : ℕ) → site ≢ i → (o : Option Pending) → IfSome o (λ p. is_shaped layout (Doubt site p) ≡ true) → (vector : List ℕ)
      → of_origin i (entry_by (Restart site vector Kept) o) ≡ 0
  not_of site n None h vector = refl
  not_of site n (Some (pending.Commit e)) h vector =
      cond-false (e.origin == i) _ _ (ne_eqb e.origin i (λ p. n (sym (eqb-true e.origin site (and_parts _ _ (and_parts _ _ h).1).1) ∙ p)))
  not_of site n (Some (pending.Release part epoch to v)) h vector = refl
  not_of site n (Some (pending.Grant part epoch v)) h vector = refl

  restart_adds : LegalPast layout past → (site : ℕ) (vector : List ℕ) (found : Found) → site ≢ i → (n : ℕ)
      → next_count i (Restart site vector found) (kept_of (Restart site vector found) past) n ≡ n
  restart_adds h site vector Clean ne n = omega arith
  restart_adds h site vector Lost ne n = omega arith
  restart_adds h site vector Kept ne n = adds_none n _ (not_of site ne (pending_at site past) (pending_shaped layout site past h) vector)

  -- a Restart counts the kept step as its clauses do
  count_with : (j site : ℕ) (vector : List ℕ) (found : Found) → entry_count j (with_kept site found past) ≡ entry_count j (Restart site vector found ∷ past)
  count_with j site vector Clean = refl
  count_with j site vector Lost = refl
  count_with j site vector Kept = by (pending_at site past)
    where
      by : (o : Option Pending) → entry_count j (option_to_list (option_map (step_of site) o) ++ past)
          ≡ count_of (λ e. e.origin == j) (filter_map entry_of (option_to_list (option_map (step_of site) o) ++ acts past))
      by None = refl
      by (Some (pending.Commit e)) = refl
      by (Some (pending.Release part epoch to v)) = refl
      by (Some (pending.Grant part epoch v)) = refl

  commit_told : (e : Entry) → Allowed layout past (Commit e)
      → told_vector i (Commit e) (site_vector layout.sites past i) ≡ site_vector layout.sites (Commit e ∷ past) i
  commit_told e a = by (e.origin == i) refl
    where
      by : (b : Bool) → (e.origin == i) ≡ b → (if b then told_raised (site_vector layout.sites past i) i e.seq else site_vector layout.sites past i)
          ≡ site_vector layout.sites (Commit e ∷ past) i
      by true f =
          let legal = legal_commit layout past e a in
          let same : e.origin ≡ i = eqb-true e.origin i f in
          let one = legal.origin.one in
          let top = legal.origin.top in
          raised_by layout.sites now (λ k. reached i k (Commit e ∷ past)) i e.seq (omega (arith, same, one)) (omega (arith, same, top))
          (reached_next i i past (Commit e) ∙ next_own (Commit e) i (now i) refl
          ∙ (let adds : of_origin i (Some e) ≡ 1 = cond-true (e.origin == i) 1 0 f in
          let own = own_reached in
          let counts = ap (λ (x : ℕ). entry_count x past) same in
          let due = legal.seq in
          omega (arith, adds, own, counts, due)))
          (λ k n. reached_next i k past (Commit e) ∙ next_other (Commit e) k (now k) n)
      by false f = unchanged (Commit e) (λ n. adds_none n _ (cond-false (e.origin == i) 1 0 f)) (λ k n. refl)

  refresh_told : LegalPast layout past → (site origin : ℕ) → Allowed layout past (Refresh site origin) → length past < 2 ^ 63
      → told_vector i (Refresh site origin) (site_vector layout.sites past i) ≡ site_vector layout.sites (Refresh site origin ∷ past) i
  refresh_told h site origin a few = by (site == i) refl
    where
      stays : origin ≢ i → (k : ℕ) → k ≢ origin → next_reached i k (Refresh site origin) None (now k) ≡ now k
      stays ne k n = elim (cases_eq k i) [
        | inl p ↦ (next_own (Refresh site origin) k _ p ∙ adds_none _ _ refl)
        | inr p ↦ (
            next_other (Refresh site origin) k _ p
            ∙ cond-false ((site == i) && (origin == k)) _ _ (and_right (site == i) (origin == k) (ne_eqb origin k (λ q. n (sym q))))
            )
      ]

      by : (b : Bool) → (site == i) ≡ b
          → (if b
          then told_raised (site_vector layout.sites past i) origin (min (at (site_vector layout.sites past i) origin + 1) (2 ^ 64 - 1))
          else site_vector layout.sites past i)
          ≡ site_vector layout.sites (Refresh site origin ∷ past) i
      by true f =
          let legal = legal_refresh layout past site origin a in
          let same = eqb-true site i f in
          let one = legal.there.one in
          let top = legal.there.top in
          let ne : origin ≢ i = (λ p. legal.other (same ∙ sym p)) in
          let here = at_by layout.sites now origin one top in
          let bound = reached_few layout past h i origin in
          let fits : min (at (site_vector layout.sites past i) origin + 1) (2 ^ 64 - 1) ≡ suc (now origin) = omega (arith, here, bound, few) in
          ap (λ (n : ℕ). told_raised (site_vector layout.sites past i) origin n) fits
          ∙ raised_by layout.sites now (λ k. reached i k (Refresh site origin ∷ past)) origin (suc (now origin)) one top
          (reached_next i origin past (Refresh site origin) ∙ next_other (Refresh site origin) origin (now origin) ne
          ∙ cond-true ((site == i) && (origin == origin)) _ _ (and_from (site == i) (origin == origin) f (eq-eqb origin origin refl)))
          (λ k n. reached_next i k past (Refresh site origin) ∙ stays ne k n)
      by false f =
          unchanged (Refresh site origin) (λ n. adds_none n _ refl)
          (λ k n. cond-false ((site == i) && (origin == k)) _ _ (and_left (site == i) (origin == k) f))

  restart_told : LegalPast layout past → (site : ℕ) (vector : List ℕ) (found : Found) → Allowed layout past (Restart site vector found)
      → told_vector i (Restart site vector found) (site_vector layout.sites past i) ≡ site_vector layout.sites (Restart site vector found ∷ past) i
  restart_told h site vector found a = by (site == i) refl
    where
      by : (b : Bool) → (site == i) ≡ b
          → (if b then vector else site_vector layout.sites past i) ≡ site_vector layout.sites (Restart site vector found ∷ past) i
      by true f =
          let legal = (legal_restart layout past site vector found a).may_set in
          let same = eqb-true site i f in
          vector_is layout.sites vector (λ k. reached i k (Restart site vector found ∷ past)) legal.long (λ k l m. elim (cases_eq k i) [
            | inl p ↦ (
                ap (λ (x : ℕ). at vector x) (p ∙ sym same) ∙ legal.own ∙ count_with site site vector found
                ∙ ap (λ (x : ℕ). entry_count x (Restart site vector found ∷ past)) same ∙ sym (cond-true (i == k) _ _ (eq-eqb i k (sym p)))
                )
            | inr p ↦ sym (reached_next i k past (Restart site vector found) ∙ next_other (Restart site vector found) k (now k) p ∙ cond-true (site == i) _ _ f)
          ])
      by false f = unchanged (Restart site vector found) (restart_adds h site vector found (eqb-false site i f)) (λ k n. cond-false (site == i) _ _ f)

  pub told_vector_is : LegalPast layout past → (s : Step) → Allowed layout past s → length past < 2 ^ 63
      → told_vector i s (site_vector layout.sites past i) ≡ site_vector layout.sites (s ∷ past) i
  told_vector_is h (Commit e) a few = commit_told e a
  told_vector_is h (Refresh site origin) a few = refresh_told h site origin a few
  told_vector_is h (Restart site vector found) a few = restart_told h site vector found a
  told_vector_is h other a few = refl
