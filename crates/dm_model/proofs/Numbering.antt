-- The entries of each origin are numbered, and what is closed stays so as entries come.
use Rattle.std.proofs.Common.{ℕ, suc, ◌<◌, ◌≤◌, ◌≡◌, ◌≢◌, true, false, ◌==◌, cond, List, [], ◌∷◌, refl, sym, ap, ◌∙◌, arith, inl, inr, ◌⊎◌, zero, Bool, not}
use Rattle.std.proofs.Common.{nat_lt, ◌&&◌, Some, None, length, subst}
use Rattle.std.proofs.lemmas.Bool.{cases_eq, eq-eqb, ne_eqb, cond-true, cond-false, eqb-true, false≢true, ltb-false, and_parts, cases_lt, le-leb}
use Rattle.std.specs.List.{AllByRecursion as Each}
use Rattle.std.specs.Prelude.{find, reverse}
use Rattle.dm_event.specs.Vectors.{at, vector_by, first_above, is_at_most, sites_to}
use Rattle.dm_event.specs.declared.step.Entry.{Entry}
use Rattle.dm_model.proofs.ListFacts.{each_map, each_map2, find_none, each_range, each_reverse, is_none_true}
use Rattle.dm_model.proofs.VectorFacts.{at_past, at_by, at_by_below, at_most}
use Rattle.dm_model.specs.Closed.{is_inside}
use Rattle.dm_model.specs.Words.{count_of}

-- how many of the entries are of the origin
abbrev pub count_at : ℕ → List Entry → ℕ
count_at j es = count_of (λ e. e.origin == j) es

-- the entry has the next number of its origin, and began with all of that origin before it
pub record IsNext (es : List Entry) (e : Entry) : Type 0 where
  pub seq : e.seq ≡ suc (count_at e.origin es)
  pub before : at e.begin e.origin < e.seq

-- each entry is the next one of its origin
abbrev pub Numbered : List Entry → Type 0
Numbered [] = Unit {0}
Numbered (e ∷ es) = IsNext es e × Numbered es

-- the numbers are at most the counts, and each entry inside them began at numbers at most them
pub record ClosedBy (es : List Entry) (f : ℕ → ℕ) : Type 0 where
  pub within : (j : ℕ) → f j ≤ count_at j es
  pub begun : Each (λ e. e.seq ≤ f e.origin → (j : ℕ) → at e.begin j ≤ f j) es

-- an entry that comes
pub count_more : (e : Entry) (es : List Entry) (j : ℕ) → count_at j es ≤ count_at j (e ∷ es)
count_more e es j = elim (e.origin == j) as (λ b. count_at j es ≤ cond b (suc (count_at j es)) (count_at j es)) [ true ↦ omega arith | false ↦ omega arith ]

pub count_own : (e : Entry) (es : List Entry) (j : ℕ) → e.origin ≡ j → count_at j (e ∷ es) ≡ suc (count_at j es)
count_own e es j h = cond-true (e.origin == j) _ _ (eq-eqb e.origin j h)

pub count_other : (e : Entry) (es : List Entry) (j : ℕ) → e.origin ≢ j → count_at j (e ∷ es) ≡ count_at j es
count_other e es j h = cond-false (e.origin == j) _ _ (ne_eqb e.origin j h)

-- no number is above the count
pub within_count : (es : List Entry) → Numbered es → Each (λ d. d.seq ≤ count_at d.origin es) es
within_count [] h = tt
within_count (e ∷ es) h = (
  (let c = count_own e es e.origin refl in let n = h.0.seq in omega (arith, n, c)),
  each_map (λ d. d.seq ≤ count_at d.origin es) (λ d. d.seq ≤ count_at d.origin (e ∷ es)) (λ d k. (let c = count_more e es d.origin in omega arith)) es
      (within_count es h.1),
)

-- what is closed stays closed as an entry comes
pub closed_more : (e : Entry) (es : List Entry) (f : ℕ → ℕ) → Numbered (e ∷ es) → ClosedBy es f → ClosedBy (e ∷ es) f
closed_more e es f h c = record {
  within = λ j. (let a = count_more e es j in let b = c.within j in omega arith);
  begun = ((λ k. absurd (let b = c.within e.origin in let n = h.0.seq in omega (arith, n, k, b))), c.begun);
}

-- more is closed, where the entries that come inside began at vectors at most it
pub closed_wider : (es : List Entry) (f g : ℕ → ℕ) → ClosedBy es f → ((j : ℕ) → f j ≤ g j) → ((j : ℕ) → g j ≤ count_at j es)
    → Each (λ e. e.seq ≤ g e.origin → (e.seq ≤ f e.origin) ⊎ ((j : ℕ) → at e.begin j ≤ g j)) es → ClosedBy es g
closed_wider es f g c le bound new = record {
  within = bound;
  begun = each_map2 (λ e. e.seq ≤ f e.origin → (j : ℕ) → at e.begin j ≤ f j) (λ e. e.seq ≤ g e.origin → (e.seq ≤ f e.origin) ⊎ ((j : ℕ) → at e.begin j ≤ g j))
      (λ e. e.seq ≤ g e.origin → (j : ℕ) → at e.begin j ≤ g j)
      (λ e old cases k j. elim (cases k) [ inl a ↦ (let x = old a j in let y = le j in omega arith) | inr b ↦ b j ]) es c.begun new;
}

pub closed_same : (es : List Entry) (f g : ℕ → ℕ) → ((j : ℕ) → g j ≡ f j) → ClosedBy es f → ClosedBy es g
closed_same es f g e c = record {
  within = λ j. (let a = e j in let b = c.within j in omega arith);
  begun = each_map (λ d. d.seq ≤ f d.origin → (j : ℕ) → at d.begin j ≤ f j) (λ d. d.seq ≤ g d.origin → (j : ℕ) → at d.begin j ≤ g j)
      (λ d h k j. (let a = e d.origin in let b = e j in let x = h (omega arith) j in omega arith)) es c.begun;
}

-- as the origin's own entry comes
pub closed_own : (e : Entry) (es : List Entry) (f g : ℕ → ℕ) → Numbered (e ∷ es) → ClosedBy es f → f e.origin ≡ count_at e.origin es
    → g e.origin ≡ suc (f e.origin) → ((j : ℕ) → j ≢ e.origin → g j ≡ f j) → ((j : ℕ) → at e.begin j ≤ f j) → ClosedBy (e ∷ es) g
closed_own e es f g h c own up same le =
    let wide : (j : ℕ) → f j ≤ g j = λ j. elim (cases_eq j e.origin) [
      | inl p ↦ (let a = ap f p in let b = ap g p in omega arith)
      | inr n
          ↦ (let a = same j n in omega arith)
    ] in
    closed_wider (e ∷ es) f g (closed_more e es f h c) wide
    (λ j. elim (cases_eq j e.origin) [
      | inl p ↦ (let a = ap f p in let b = ap g p in let d = count_own e es j (sym p) in let k = ap (λ (o : ℕ). count_at o es) p in omega arith)
      | inr n ↦ (let a = same j n in let b = c.within j in let d = count_more e es j in omega arith)
    ]) (
      (λ k. inr (λ j. (let a = le j in let b = wide j in omega arith))),
      each_map (λ d. d.seq ≤ count_at d.origin es) (λ d. d.seq ≤ g d.origin → (d.seq ≤ f d.origin) ⊎ ((j : ℕ) → at d.begin j ≤ g j))
          (λ d w k. inl (elim (cases_eq d.origin e.origin) [
            | inl p ↦ (let a = ap f p in let b = ap (λ (o : ℕ). count_at o es) p in omega arith)
            | inr n ↦ (let a = same d.origin n in omega arith)
          ])) es (within_count es h.1),
    )

-- as the next entry of another origin comes
pub closed_next : (es : List Entry) (f g : ℕ → ℕ) (o : ℕ) (e : Entry) → ClosedBy es f
    → Each (λ d. d.origin ≡ o → d.seq ≡ suc (f o) → d ≡ e) es → f o < count_at o es
    → g o ≡ suc (f o) → ((j : ℕ) → j ≢ o → g j ≡ f j) → ((j : ℕ) → at e.begin j ≤ f j) → ClosedBy es g
closed_next es f g o e c one more up same le =
    let wide : (j : ℕ) → f j ≤ g j = λ j. elim (cases_eq j o) [
      | inl p ↦ (let a = ap f p in let b = ap g p in omega arith)
      | inr n
          ↦ (let a = same j n in omega arith)
    ] in
    closed_wider es f g c wide
    (λ j. elim (cases_eq j o) [
      | inl p ↦ (let b = ap g p in let k = ap (λ (i : ℕ). count_at i es) p in omega arith)
      | inr n ↦ (let a = same j n in let b = c.within j in omega arith)
    ])
    (each_map (λ d. d.origin ≡ o → d.seq ≡ suc (f o) → d ≡ e) (λ d. d.seq ≤ g d.origin → (d.seq ≤ f d.origin) ⊎ ((j : ℕ) → at d.begin j ≤ g j))
    (λ d u k. elim (cases_eq d.origin o) [
      | inl p ↦ (let a = ap f p in let b = ap g p in
          elim (cases_eq d.seq (suc (f o))) [
            | inl q ↦ inr (λ j. (let w = le j in let z = wide j in let y : at d.begin j ≡ at e.begin j = ap (λ (x : Entry). at x.begin j) (u p q) in
                omega arith))
            | inr r ↦ inl (omega (arith, r))
          ])
      | inr n ↦ inl (let a = same d.origin n in omega arith)
    ]) es one)

-- a vector that is what a site has is closed, with the function's values
pub closed_vector : (count : ℕ) (es : List Entry) (f : ℕ → ℕ) → Each (λ e. length e.begin ≡ count) es → ClosedBy es f → ClosedBy es (at (vector_by count f))
closed_vector count es f long c = record {
  within = λ j. (let a = at_by_below count f j in let b = c.within j in omega arith);
  begun = each_map2 (λ e. length e.begin ≡ count) (λ e. e.seq ≤ f e.origin → (j : ℕ) → at e.begin j ≤ f j)
      (λ e. e.seq ≤ at (vector_by count f) e.origin → (j : ℕ) → at e.begin j ≤ at (vector_by count f) j)
      (λ e l old k j. (let a = at_by_below count f e.origin in let b = old (omega arith) j in inside e j l b)) es long c.begun;
}
  where
    inside : (e : Entry) (j : ℕ) → length e.begin ≡ count → at e.begin j ≤ f j → at e.begin j ≤ at (vector_by count f) j
    inside e zero l b = omega arith
    inside e (suc k) l b = elim (cases_lt k count) [
      | inl m ↦ (let a = at_by count f (suc k) (omega arith) (omega arith) in omega arith)
      | inr m ↦ (let a = at_past e.begin (suc k) (omega arith) in omega arith)
    ]

-- the entry that is found is the only one with its origin and number
pub record FoundAt (es : List Entry) (j n : ℕ) (e : Entry) : Type 0 where
  pub origin : e.origin ≡ j
  pub seq : e.seq ≡ n
  pub within : e.seq ≤ count_at j es
  pub own : at e.begin e.origin < e.seq
  pub only : Each (λ d. d.origin ≡ j → d.seq ≡ n → d ≡ e) es

pub found_entry : (es : List Entry) (j n : ℕ) (e : Entry) → Numbered es → find (λ d. (d.origin == j) && (d.seq == n)) es ≡ Some e → FoundAt es j n e
found_entry [] j n e h f = absurd (cc (f))
found_entry (x ∷ es) j n e h f = at_head (λ g. found_entry es j n e h.1 g) ((x.origin == j) && (x.seq == n)) refl f
  where
    both : (p q : Bool) → p ≡ true → q ≡ true → (p && q) ≡ true
    both p q a b = rw (a, b) refl

    at_head : (find (λ d. (d.origin == j) && (d.seq == n)) es ≡ Some e → FoundAt es j n e) → (b : Bool) → ((x.origin == j) && (x.seq == n)) ≡ b
        → cond b (Some x) (find (λ d. (d.origin == j) && (d.seq == n)) es) ≡ Some e → FoundAt (x ∷ es) j n e
    at_head rest true t g =
        let p = and_parts (x.origin == j) (x.seq == n) t in
        let o = eqb-true x.origin j p.0 in
        let s = eqb-true x.seq n p.1 in
        let same : x ≡ e = cc (g) in
        subst (λ (y : Entry). FoundAt (x ∷ es) j n y) same (record {
          origin = o;
          seq = s;
          within = subst (λ (i : ℕ). x.seq ≤ count_at i (x ∷ es)) o (within_count (x ∷ es) h).0;
          own = h.0.before;
          only = (
            (λ a b. refl),
            each_map (λ d. d.seq ≤ count_at d.origin es) (λ d. d.origin ≡ j → d.seq ≡ n → d ≡ x)
                (λ d w a b. absurd (let c : count_at d.origin es ≡ count_at x.origin es = ap (λ (i : ℕ). count_at i es) (a ∙ sym o) in let k = h.0.seq in
                omega (arith, k, w, b, s, c)))
                es (within_count es h.1),
          );
        })
    at_head rest false t g =
        let r = rest g in
        record {
          origin = r.origin;
          seq = r.seq;
          within = (let c = count_more x es j in let w = r.within in omega arith);
          own = r.own;
          only = ((λ a b. absurd (false≢true (sym t ∙ both (x.origin == j) (x.seq == n) (eq-eqb x.origin j a) (eq-eqb x.seq n b)))), r.only);
        }

fails_at : (a b : Bool) → (not a && b) ≡ false → (a ≡ true) ⊎ (b ≡ false)
fails_at true b h = inl refl
fails_at false b h = inr h

-- the site has what the entry needs but, maybe, of its own origin
pub none_missing : (count : ℕ) (v : List ℕ) (e : Entry) → length e.begin ≡ count
    → find (λ j. not (j == e.origin) && nat_lt (at v j) (at e.begin j)) (sites_to count) ≡ None
    → (j : ℕ) → j ≢ e.origin → at e.begin j ≤ at v j
none_missing count v e long h zero n = omega arith
none_missing count v e long h (suc k) n = elim (cases_lt k count) [
  | inl l ↦ elim (fails_at (suc k == e.origin) (nat_lt (at v (suc k)) (at e.begin (suc k)))
      (each_range (λ j. (not (j == e.origin) && nat_lt (at v j) (at e.begin j)) ≡ false) 1 count
      (find_none (λ j. not (j == e.origin) && nat_lt (at v j) (at e.begin j)) (sites_to count) h) (suc k) (omega arith) (omega arith))) [
        | inl p ↦ absurd (n (eqb-true (suc k) e.origin p))
        | inr q ↦ ltb-false (at v (suc k)) (at e.begin (suc k)) q
      ]
  | inr m ↦ (let x = at_past e.begin (suc k) (omega arith) in omega arith)
]

inside_at : (a b : Bool) → (a && not b) ≡ false → a ≡ true → b ≡ true
inside_at true true h p = refl
inside_at true false h p = absurd (false≢true (sym h))
inside_at false b h p = absurd (false≢true p)

-- no entry is inside that began above
pub none_unclosed : (count : ℕ) (v : List ℕ) (es : List Entry) → Each (λ e. length e.begin ≡ count) es
    → find (λ e. is_inside v e && not (is_at_most e.begin v)) (reverse es) ≡ None
    → Each (λ e. e.seq ≤ at v e.origin → (j : ℕ) → at e.begin j ≤ at v j) es
none_unclosed count v es long h =
    each_map2 (λ e. length e.begin ≡ count) (λ e. (is_inside v e && not (is_at_most e.begin v)) ≡ false)
    (λ e. e.seq ≤ at v e.origin → (j : ℕ) → at e.begin j ≤ at v j)
    (λ e l f k. at_most count e.begin v l (is_none_true (first_above e.begin v)
    (inside_at (is_inside v e) (is_at_most e.begin v) f (le-leb e.seq (at v e.origin) k))))
    es long (each_reverse (λ e. (is_inside v e && not (is_at_most e.begin v)) ≡ false) es (find_none _ (reverse es) h))
