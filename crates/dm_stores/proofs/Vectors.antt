-- A site's vector after a Refresh of it, and after a Commit there.
use Rattle.std.proofs.Common.{ℕ, zero, suc, ◌+◌, ◌≡◌, ◌==◌, List, ◌∷◌, Some, refl, sym, ap, ◌∙◌, subst, arith, inl, inr}
use Rattle.std.proofs.lemmas.Bool.{cases_lt, eq-eqb, ne_eqb, cond-true}
use Rattle.dm_event.specs.Entries.{commit_vector}
use Rattle.dm_event.specs.Layout.{Layout}
use Rattle.dm_event.specs.Vectors.{at, vector_by}
use Rattle.dm_event.specs.declared.step.Entry.{Entry}
use Rattle.dm_event.specs.declared.step.Step.{Step}
use Rattle.dm_event.specs.declared.step.Step.TheVariants.{Commit, Refresh}
use Rattle.dm_model.proofs.LegalSteps.{InRange, legal_refresh, legal_commit}
use Rattle.dm_model.proofs.Numbering.{count_at, count_own, found_entry}
use Rattle.dm_model.proofs.NumbersSound.{sound_past}
use Rattle.dm_model.proofs.VectorFacts.{at_by, at_past, at_raised_own, long_by}
use Rattle.dm_model.specs.Acts.{entries}
use Rattle.dm_model.specs.Allowed.{Allowed, next_entry}
use Rattle.dm_model.specs.Legal.{LegalPast}
use Rattle.dm_model.specs.Progress.{reached, site_vector}
use Rattle.dm_steps.proofs.Legality.{made_entry}
use Rattle.dm_stores.proofs.Inside.{Next}

at_same : (count : ℕ) (f g : ℕ → ℕ) (j : ℕ) → f j ≡ g j → at (vector_by count f) j ≡ at (vector_by count g) j
at_same count f g zero e = refl
at_same count f g (suc k) e = elim (cases_lt k count) [
  | inl m ↦ (at_by count f (suc k) (omega arith) (omega arith) ∙ e ∙ sym (at_by count g (suc k) (omega arith) (omega arith)))
  | inr m ↦ (at_past (vector_by count f) (suc k) (let a = long_by count f in omega arith)
      ∙ sym (at_past (vector_by count g) (suc k) (let a = long_by count g in omega arith)))
]

-- ---- a Refresh

-- the site's vector rises to the entry
pub record Refreshes (layout : Layout) (past : List Step) (i o : ℕ) (e : Entry) : Type 0 where
  pub next : Next o (site_vector layout.sites (Refresh i o ∷ past) i) (site_vector layout.sites past i)
  pub origin : e.origin ≡ o
  pub seq : e.seq ≡ at (site_vector layout.sites past i) o + 1
  pub own : at (commit_vector e) e.origin ≡ e.seq

pub refreshes : (layout : Layout) (past : List Step) (i o : ℕ) (e : Entry) → LegalPast layout past → Allowed layout past (Refresh i o)
    → next_entry layout past i o ≡ Some e → Refreshes layout past i o e
refreshes layout past i o e l h f =
    let legal = legal_refresh layout past i o h in
    let one = legal.there.one in
    let top = legal.there.top in
    let got = found_entry (entries past) o (at (site_vector layout.sites past i) o + 1) e (sound_past layout past l).numbered f in
    let m = made_entry layout past l o (at (site_vector layout.sites past i) o + 1) e f in
    let up : reached i o (Refresh i o ∷ past) ≡ suc (reached i o past) = rw (ne_eqb i o legal.other, eq-eqb i i refl, eq-eqb o o refl) (omega arith) in
    record {
      next = record {
        up = at_by layout.sites (λ j. reached i j (Refresh i o ∷ past)) o one top
            ∙ up ∙ ap suc (sym (at_by layout.sites (λ j. reached i j past) o one top));
        same = λ j n. at_same layout.sites (λ j. reached i j (Refresh i o ∷ past)) (λ j. reached i j past) j
            (rw (eq-eqb i i refl, ne_eqb o j (λ q. n (sym q))) refl);
      };
      origin = got.origin;
      seq = got.seq;
      own = at_raised_own e.begin e.origin e.seq m.one m.within;
    }

-- ---- a Commit

own_reached : (layout : Layout) (past : List Step) (i : ℕ) → InRange layout i → at (site_vector layout.sites past i) i ≡ count_at i (entries past)
own_reached layout past i range = at_by layout.sites (λ j. reached i j past) i range.one range.top ∙ cond-true (i == i) _ _ (eq-eqb i i refl)

-- the site's vector rises to the entry, which is the next of all there are
pub record Commits (layout : Layout) (past : List Step) (i : ℕ) (e : Entry) : Type 0 where
  pub next : Next i (site_vector layout.sites (Commit e ∷ past) i) (site_vector layout.sites past i)
  pub last : at (site_vector layout.sites past i) i ≡ count_at i (entries past)
  pub seq : e.seq ≡ at (site_vector layout.sites past i) i + 1

pub commits : (layout : Layout) (past : List Step) (i : ℕ) (e : Entry) → Allowed layout past (Commit e) → e.origin ≡ i → Commits layout past i e
commits layout past i e h o =
    let legal = legal_commit layout past e h in
    let range = subst (λ (j : ℕ). InRange layout j) o legal.origin in
    let a = own_reached layout (Commit e ∷ past) i range in
    let b = own_reached layout past i range in
    let c = count_own e (entries past) i o in
    record {
      next = record {
        up = omega (arith, a, b, c);
        same = λ j n. at_same layout.sites (λ j. reached i j (Commit e ∷ past)) (λ j. reached i j past) j (rw (ne_eqb i j (λ p. n (sym p))) refl);
      };
      last = b;
      seq = (let q = legal.seq in let n = ap (λ (j : ℕ). count_at j (entries past)) o in omega (arith, b, q, n));
    }
