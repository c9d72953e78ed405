-- In every legal past a site that is up and lacks an entry may take one.
use Rattle.std.proofs.Common.{ℕ, ◌+◌, ◌<◌, ◌≤◌, ◌≡◌, ◌≢◌, true, false, not, ◌==◌, nat_lt, ◌&&◌, List, [], ◌∷◌, ◌++◌, Option, Some, None, refl, sym, ap, ◌∙◌}
use Rattle.std.proofs.Common.{subst, arith, inl, inr, ◌⊎◌}
use Rattle.std.proofs.lemmas.Bool.{cases_eq, eq-eqb, cond-true, and_from, and_right, le-ltb, ltb-true, ltb-false}
use Rattle.std.specs.List.{AllByRecursion as Each}
use Rattle.std.specs.Prelude.{find, option_map, option_to_list, filter_map}
use Rattle.dm_event.proofs.Sites.{find_nothing}
use Rattle.dm_event.specs.Layout.{Layout}
use Rattle.dm_event.specs.Vectors.{at}
use Rattle.dm_event.specs.declared.step.Entry.{Entry}
use Rattle.dm_event.specs.declared.step.Found.TheVariants.{Kept}
use Rattle.dm_event.specs.declared.step.Pending.{Pending}
use Rattle.dm_event.specs.declared.step.Pending.TheVariants as pending
use Rattle.dm_event.specs.declared.step.Step.{Step}
use Rattle.dm_event.specs.declared.step.Step.TheVariants.{Commit, Refresh, Restart}
use Rattle.dm_model.proofs.LegalSteps.{InRange, legal_commit, legal_restart, may_refresh}
use Rattle.dm_model.proofs.ListFacts.{find_none, found_holds}
use Rattle.dm_model.proofs.Numbering.{Numbered, count_at, count_own, count_other, count_more}
use Rattle.dm_model.proofs.NumbersKept.{InDoubt}
use Rattle.dm_model.proofs.NumbersSound.{SoundPast, sound_past, counts, commit_within}
use Rattle.dm_model.proofs.SessionsRise.{entry_more}
use Rattle.dm_model.proofs.VectorFacts.{at_by}
use Rattle.dm_model.specs.Acts.{entries, acts, entry_of, entry_at}
use Rattle.dm_model.specs.Allowed.{Allowed}
use Rattle.dm_model.specs.Doubts.{step_of, is_down, pending_at}
use Rattle.dm_model.specs.Legal.{LegalPast}
use Rattle.dm_model.specs.Progress.{reached, site_vector, entry_count}

-- the entry is of a site, and began within the entries before it
pub record HasGround (layout : Layout) (es : List Entry) (e : Entry) : Type 0 where
  pub site : InRange layout e.origin
  pub below : (j : ℕ) → at e.begin j ≤ count_at j es

abbrev pub Grounded : Layout → List Entry → Type 0
Grounded layout [] = Unit {0}
Grounded layout (e ∷ es) = HasGround layout es e × Grounded layout es

kept_grounded : (layout : Layout) (past : List Step) (site : ℕ) (o : Option Pending) → SoundPast layout past → InRange layout site
    → InDoubt layout.sites (counts past) site o → Grounded layout (entries past)
    → Grounded layout (filter_map entry_of (option_to_list (option_map (step_of site) o) ++ acts past))
kept_grounded layout past site None n i d g = g
kept_grounded layout past site (Some (pending.Release part epoch to v)) n i d g = g
kept_grounded layout past site (Some (pending.Grant part epoch v)) n i d g = g
kept_grounded layout past site (Some (pending.Commit e)) n i d g = (
  record {
    site = subst (λ (x : ℕ). InRange layout x) (sym d.own) i;
    below = λ j. (let a = d.within.below j in let b = (n.closed site).within j in omega arith);
  },
  g,
)

grounded_step : (layout : Layout) (past : List Step) (s : Step) → SoundPast layout past → Allowed layout past s → Grounded layout (entries past)
    → Grounded layout (entries (s ∷ past))
grounded_step layout past (Commit e) n h g =
    let legal = legal_commit layout past e h in (
      record {
        site = legal.origin;
        below = λ j. (let a = (commit_within layout past n e legal).below j in let b = (n.closed e.origin).within j in
            omega arith);
      },
      g,
    )
grounded_step layout past (Restart site vector Kept) n h g =
    let legal = legal_restart layout past site vector Kept h in
    kept_grounded layout past site (pending_at site past) n legal.may_set.here (n.in_doubt site legal.fits) g
grounded_step layout past other n h g = g

pub grounded_past : (layout : Layout) (past : List Step) → LegalPast layout past → Grounded layout (entries past)
grounded_past layout [] h = tt
grounded_past layout (s ∷ past) h = grounded_step layout past s (sound_past layout past h.0) h.1 (grounded_past layout past h.0)

-- what holds of each entry's origin holds of each origin that has entries
some_origin : (P : ℕ → Type 0) (es : List Entry) (k : ℕ) → Each (λ d. P d.origin) es → (count_at k es ≡ 0) ⊎ P k
some_origin P [] k h = inl refl
some_origin P (e ∷ es) k h = elim (cases_eq e.origin k) [
  | inl p ↦ inr (subst P p h.0)
  | inr m ↦ elim (some_origin P es k h.1)
      [ inl q ↦ inl (count_other e es k m ∙ q) | inr q ↦ inr q ]
]

-- the next entry that a site which has f may take
pub record Next (layout : Layout) (es : List Entry) (f : ℕ → ℕ) : Type 0 where
  pub entry : Entry
  pub site : InRange layout entry.origin
  pub found : find (λ d. (d.origin == entry.origin) && (d.seq == f entry.origin + 1)) es ≡ Some entry
  pub lacks : f entry.origin < count_at entry.origin es
  pub below : (j : ℕ) → at entry.begin j ≤ f j

lagging : (layout : Layout) (es : List Entry) (f : ℕ → ℕ) → Numbered es → Grounded layout es → (j : ℕ) → f j < count_at j es → Next layout es f
lagging layout [] f n g j h = absurd (omega arith)
lagging layout (e ∷ es) f n g j h = by (λ k l. lagging layout es f n.1 g.1 k l) (find (λ d. nat_lt (f d.origin) (count_at d.origin es)) es) refl
  where
    later : Next layout es f → Next layout (e ∷ es) f
    later x = record {
      entry = x.entry;
      site = x.site;
      found = entry_more es e n x.entry.origin (f x.entry.origin + 1) x.entry x.found;
      lacks = (let a = x.lacks in let b = count_more e es x.entry.origin in omega arith);
      below = x.below;
    }

    at_found : (xs : List Entry) (d : Entry) → find (λ d. nat_lt (f d.origin) (count_at d.origin es)) xs ≡ Some d
        → nat_lt (f d.origin) (count_at d.origin es) ≡ true
    at_found xs d q = found_holds (λ d. nat_lt (f d.origin) (count_at d.origin es)) xs d q

    by : ((k : ℕ) → f k < count_at k es → Next layout es f) → (o : Option Entry) → find (λ d. nat_lt (f d.origin) (count_at d.origin es)) es ≡ o
        → Next layout (e ∷ es) f
    by rest (Some d) q = later (rest d.origin (ltb-true (f d.origin) (count_at d.origin es) (at_found es d q)))
    by rest None q =
        let all : (k : ℕ) → count_at k es ≤ f k = λ k. elim
        (some_origin (λ o. nat_lt (f o) (count_at o es) ≡ false) es k (find_none (λ d. nat_lt (f d.origin) (count_at d.origin es)) es q)) [
          | inl z ↦ omega (arith, z)
          | inr z ↦ ltb-false (f k) (count_at k es) z
        ] in
        let mine : e.origin ≡ j = elim (cases_eq e.origin j) [ inl p ↦ p | inr m ↦ absurd (let a = count_other e es j m in let b = all j in omega arith) ] in
        let top : f e.origin ≡ count_at e.origin es = (let a = count_own e es j mine in let b = all j in let c = ap f mine in let d =
        ap (λ (x : ℕ). count_at x es) mine in omega arith) in
        record {
          entry = e;
          site = g.0.site;
          found = cond-true ((e.origin == e.origin) && (e.seq == f e.origin + 1)) _ _
              (and_from _ _ (eq-eqb e.origin e.origin refl) (eq-eqb e.seq (f e.origin + 1) (let m = n.0.seq in omega (arith, m, top))));
          lacks = (let a = count_own e es e.origin refl in omega arith);
          below = λ k. (let a = g.0.below k in let b = all k in omega arith);
        }

-- a site that is up and lacks an entry may take one
pub lagging_refresh : (layout : Layout) (past : List Step) → LegalPast layout past → (site : ℕ) → InRange layout site → is_down site past ≡ false
    → (j : ℕ) → reached site j past < entry_count j past → (origin : ℕ) × Allowed layout past (Refresh site origin)
lagging_refresh layout past h site range up j l =
    let n = sound_past layout past h in
    let got : ℕ → ℕ = λ j. reached site j past in
    let x = lagging layout (entries past) got n.numbered (grounded_past layout past h) j l in
    let o : ℕ = x.entry.origin in
    let here : at (site_vector layout.sites past site) o ≡ reached site o past = at_by layout.sites got o x.site.one x.site.top in
    let other : site ≢ o = λ p. absurd (
    let a = n.own site in let b = x.lacks in let c = ap (λ (k : ℕ). reached site k past) p in let d = ap (λ (k : ℕ). count_at k (entries past)) p in
    omega arith) in
    let has : (k : ℕ) → 1 ≤ k → k < 1 + layout.sites → nat_lt (at (site_vector layout.sites past site) k) (at x.entry.begin k) ≡ false = λ k a b.
    le-ltb (at (site_vector layout.sites past site) k) (at x.entry.begin k)
    (let e = at_by layout.sites got k a (omega arith) in let f = x.below k in omega arith) in (
      o,
      may_refresh layout past site o (record {
        here = range;
        there = x.site;
        other = other;
        up = up;
        entry = x.entry;
        next = ap (λ (k : ℕ). entry_at o (k + 1) past) here ∙ x.found;
        has = find_nothing (λ k. not (k == o) && nat_lt (at (site_vector layout.sites past site) k) (at x.entry.begin k)) 1 layout.sites
            (λ k a b. and_right (not (k == o)) _ (has k a b));
      }),
    )
