-- Counts for each site, made in one pass over the partitions.
use Rattle.std.proofs.Common.{ℕ, zero, suc, ◌+◌, ◌-◌, ◌<◌, ◌≤◌, ◌≡◌, ◌≢◌, Bool, true, false, cond, List, [], ◌∷◌, length, get_or, set, refl, sym, ap, ap₂}
use Rattle.std.proofs.Common.{◌∙◌}
use Rattle.std.proofs.Common.{arith, inl, inr, get_or-set_same, get_or-set_other}
use Rattle.std.specs.List.{range_with_len, filter, count_by, sum_by, list_any}
use Rattle.std.specs.Prelude.{◌&&◌, ◌||◌, ◌==◌, not, if◌then◌else◌, ◌⊎◌}
use Rattle.std.proofs.lemmas.Bool.{cases_eq, cases_lt, eq-eqb, ne_eqb}
use Rattle.std.proofs.lemmas.List.{get_or_past}
use Rattle.std.proofs.lemmas.List.Sums.{sum_by-cons}
use Rattle.dm_event.specs.Parts.{in_order}
use Rattle.dm_model.specs.Tests.{is_among}
use Rattle.dm_placement.specs.Scored.{home_in}
use Rattle.dm_placement.proofs.Totals.{total, total_more, total_filter, total_to, same_total}

-- the site is the partition's home
abbrev pub is_home : List ℕ → ℕ → ℕ → Bool
is_home homes site p = home_in homes p == site

-- the same, and the partition isn't wanted
abbrev pub stays : List ℕ → List ℕ → ℕ → ℕ → Bool
stays wanted homes site p = (home_in homes p == site) && not (is_among wanted p)

-- the set holds the partition, which isn't wanted and has its home at the site
abbrev pub is_other : List ℕ → List ℕ → List ℕ → ℕ → ℕ → Bool
is_other set wanted homes site p = is_among set p && (not (is_among wanted p) && (home_in homes p == site))

and_false : (b : Bool) → (b && false) ≡ false
and_false true = refl
and_false false = refl

-- the count of each site: its base, and the sum of f over the partitions below n that pass the site's test
pub record Tallied (base : ℕ → ℕ) (q : ℕ → ℕ → Bool) (f : ℕ → ℕ) (counts : List ℕ) (n : ℕ) : Type 0 where
  pub sums : (site : ℕ) → 1 ≤ site → site ≤ 8 → get_or counts (site - 1) 0 ≡ base site + total (λ p. if q site p then f p else 0) n

module _ (base : ℕ → ℕ) (q : ℕ → ℕ → Bool) (f : ℕ → ℕ) (counts : List ℕ) (n : ℕ) where
  -- before the first partition
  pub tally_none : ((site : ℕ) → 1 ≤ site → site ≤ 8 → get_or counts (site - 1) 0 ≡ base site) → Tallied base q f counts 0
  tally_none h = record { sums = λ site lo hi. let e = h site lo hi in omega (arith, e) }

  one_more : (site : ℕ) (b : Bool) → q site n ≡ b → total (λ p. if q site p then f p else 0) (n + 1) ≡ total (λ p. if q site p then f p else 0) n + (if b
      then f n else 0)
  one_more site b e = total_more (λ p. if q site p then f p else 0) n ∙ ap (λ (c : Bool). total (λ p. if q site p then f p else 0) n + (if c then f n else 0)) e

  -- a partition with home h is counted there
  pub tally_add : (h w : ℕ) → Tallied base q f counts n → length counts ≡ 8 → 1 ≤ h → h ≤ 8 → ((site : ℕ) → q site n ≡ (h == site)) → w ≡ f n
      → Tallied base q f (set counts (h - 1) (get_or counts (h - 1) 0 + w)) (n + 1)
  tally_add h w t l lo hi test is = record { sums = λ site a b. at_site site a b (cases_eq h site) }
    where
      at_site : (site : ℕ) → 1 ≤ site → site ≤ 8 → (h ≡ site) ⊎ (h ≡ site → ⊥)
          → get_or (set counts (h - 1) (get_or counts (h - 1) 0 + w)) (site - 1) 0 ≡ base site + total (λ p. if q site p then f p else 0) (n + 1)
      at_site site a b (inl e) =
          let more = one_more site true (test site ∙ eq-eqb h site e) in
          let within : h - 1 < length counts = omega (arith, l, lo, hi) in
          let here : get_or (set counts (h - 1) (get_or counts (h - 1) 0 + w)) (site - 1) 0 ≡ get_or counts (h - 1) 0 + w =
          ap (λ (i : ℕ). get_or (set counts (h - 1) (get_or counts (h - 1) 0 + w)) (i - 1) 0) (sym e)
          ∙ get_or-set_same counts (h - 1) (get_or counts (h - 1) 0 + w) 0 within in
          let before : get_or counts (h - 1) 0 ≡ base site + total (λ p. if q site p then f p else 0) n =
          ap (λ (i : ℕ). get_or counts (i - 1) 0) e ∙ t.sums site a b in
          omega (arith, more, here, before, is)
      at_site site a b (inr d) =
          let more = one_more site false (test site ∙ ne_eqb h site d) in
          let apart : site - 1 ≢ h - 1 = λ e. d (omega (arith, e, a, lo)) in
          let here = get_or-set_other counts (h - 1) (site - 1) (get_or counts (h - 1) 0 + w) 0 apart in
          let before = t.sums site a b in
          omega (arith, more, here, before)

  -- a partition that passes no test counts nowhere
  pub tally_skip : Tallied base q f counts n → ((site : ℕ) → q site n ≡ false) → Tallied base q f counts (n + 1)
  tally_skip t test = record { sums = λ site a b. let more = one_more site false (test site) in let before = t.sums site a b in omega (arith, more, before) }

-- after the last partition
pub tally_all : (base : ℕ → ℕ) (q : ℕ → ℕ → Bool) (f : ℕ → ℕ) (counts : List ℕ) (n m : ℕ) → Tallied base q f counts n → n ≡ m
    → (site : ℕ) → 1 ≤ site → site ≤ 8 → get_or counts (site - 1) 0 ≡ base site + total (λ p. if q site p then f p else 0) m
tally_all base q f counts n m t e site lo hi = t.sums site lo hi ∙ ap (λ (i : ℕ). base site + total (λ p. if q site p then f p else 0) i) e

-- a write keeps a bound
pub set_bound : (xs : List ℕ) (i v k b : ℕ) → v ≤ b → get_or xs k 0 ≤ b → get_or (set xs i v) k 0 ≤ b
set_bound [] i v k b h g = g
set_bound (x ∷ xs) zero v zero b h g = h
set_bound (x ∷ xs) zero v (suc k) b h g = g
set_bound (x ∷ xs) (suc i) v zero b h g = g
set_bound (x ∷ xs) (suc i) v (suc k) b h g = set_bound xs i v k b h g

-- one more is counted at a place
pub one_added : (xs : List ℕ) (i k base n : ℕ) → get_or xs k 0 ≤ base + n → get_or (set xs i (get_or xs i 0 + 1)) k 0 ≤ base + (n + 1)
one_added xs i k base n h = elim (cases_eq k i) [
  | inl e ↦ (let same : get_or xs i 0 ≡ get_or xs k 0 = ap (λ (j : ℕ). get_or xs j 0) (sym e) in
      set_bound xs i (get_or xs i 0 + 1) k (base + (n + 1)) (omega (arith, same, h)) (omega (arith, h)))
  | inr d ↦ (let other = get_or-set_other xs i k (get_or xs i 0 + 1) 0 d in omega (arith, other, h))
]

-- past the last partition there is no home
pub no_home : (homes : List ℕ) (site p : ℕ) → 1 ≤ site → length homes ≤ p → (home_in homes p == site) ≡ false
no_home homes site p lo past = ne_eqb (get_or homes p 0) site (λ e. let none = get_or_past homes p 0 past in omega (arith, e, none, lo))

-- ---- loads in one pass

-- from nothing on, the counts are the sums of f over the partitions that pass
pub tally_sums : (q : ℕ → ℕ → Bool) (f : ℕ → ℕ) (counts : List ℕ) (n m : ℕ) → Tallied (λ i. 0) q f counts n → n ≡ m
    → (site : ℕ) → 1 ≤ site → site ≤ 8 → get_or counts (site - 1) 0 ≡ sum_by f (filter (q site) (range_with_len 0 m))
tally_sums q f counts n m t e site lo hi =
    let all = tally_all (λ i. 0) q f counts n m t e site lo hi in
    let whole = total_filter f (q site) m in
    omega (arith, all, whole)

pub tally_wanted : (wanted : List ℕ) (f : ℕ → ℕ) (moving n m : ℕ) → moving ≡ total (λ p. if is_among wanted p then f p else 0) n → n ≡ m
    → moving ≡ sum_by f (filter (is_among wanted) (range_with_len 0 m))
tally_wanted wanted f moving n m is e =
    is ∙ ap (total (λ p. if is_among wanted p then f p else 0)) e ∙ sym (total_filter f (is_among wanted) m)

pub it_stays : (wanted homes : List ℕ) (n site : ℕ) → is_among wanted n ≡ false → stays wanted homes site n ≡ (home_in homes n == site)
it_stays wanted homes n site e = ap (λ (b : Bool). (home_in homes n == site) && not b) e ∙ and_true (home_in homes n == site)
  where
    and_true : (b : Bool) → (b && true) ≡ b
    and_true true = refl
    and_true false = refl

pub it_moves : (wanted homes : List ℕ) (n site : ℕ) → is_among wanted n ≡ true → stays wanted homes site n ≡ false
it_moves wanted homes n site e = ap (λ (b : Bool). (home_in homes n == site) && not b) e ∙ and_false (home_in homes n == site)

-- a partition of the set that isn't wanted counts at its home, and no other partition counts
pub it_counts : (set wanted homes : List ℕ) (n site : ℕ) → is_among set n ≡ true → is_among wanted n ≡ false
    → is_other set wanted homes site n ≡ (home_in homes n == site)
it_counts set wanted homes n site e f = ap₂ (λ (a b : Bool). a && (not b && (home_in homes n == site))) e f

pub it_fails : (set wanted homes : List ℕ) (n site : ℕ) → is_among set n ≡ false → is_other set wanted homes site n ≡ false
it_fails set wanted homes n site e = ap (λ (a : Bool). a && (not (is_among wanted n) && (home_in homes n == site))) e

pub it_is_wanted : (set wanted homes : List ℕ) (n site : ℕ) → is_among wanted n ≡ true → is_other set wanted homes site n ≡ false
it_is_wanted set wanted homes n site e =
    ap (λ (b : Bool). is_among set n && (not b && (home_in homes n == site))) e ∙ and_false (is_among set n)

pub one_passes : (t : ℕ → Bool) (f : ℕ → ℕ) (n m w : ℕ) → m ≡ total (λ p. if t p then f p else 0) n → t n ≡ true → w ≡ f n
    → m + w ≡ total (λ p. if t p then f p else 0) (n + 1)
one_passes t f n m w before passes is =
    let more = total_more (λ p. if t p then f p else 0) n in
    let last : (if t n then f n else 0) ≡ f n = ap (λ (b : Bool). if b then f n else 0) passes in
    omega (arith, before, more, last, is)

pub one_fails : (t : ℕ → Bool) (f : ℕ → ℕ) (n m : ℕ) → m ≡ total (λ p. if t p then f p else 0) n → t n ≡ false → m ≡ total (λ p. if t p then f p else 0) (n + 1)
one_fails t f n m before fails =
    let more = total_more (λ p. if t p then f p else 0) n in
    let last : (if t n then f n else 0) ≡ 0 = ap (λ (b : Bool). if b then f n else 0) fails in
    omega (arith, before, more, last)

-- ---- what a set has beside the wanted partitions

count_none : (t : ℕ → Bool) (xs : List ℕ) → ((p : ℕ) → t p ≡ false) → count_by t xs ≡ 0
count_none t [] h = refl
count_none t (x ∷ xs) h =
    sum_by-cons (λ y. cond (t y) 1 0) x xs ∙ ap₂ (λ (b : Bool) (n : ℕ). cond b 1 0 + n) (h x) (count_none t xs h)

-- an ascending set has each of its partitions once
pub others_counted : (set wanted homes : List ℕ) (site : ℕ) → 1 ≤ site → length homes ≤ 256 → (1 ≤ length homes → set ≡ in_order set)
    → count_by (λ p. not (is_among wanted p) && (home_in homes p == site)) set ≡ total (λ p. if is_other set wanted homes site p then 1 else 0) (length homes)
others_counted set wanted homes site lo few ordered = elim (cases_lt 0 (length homes)) [
  | inl some ↦
      (ap (λ (xs : List ℕ). count_by other xs) (ordered (omega (arith, some)))
      ∙ total_filter (λ p. cond (other p) 1 0) (is_among set) 256
      ∙ same_total (λ p. if is_among set p then cond (other p) 1 0 else 0) (λ p. if is_other set wanted homes site p then 1 else 0) 256
      (λ p l. nested (is_among set p) (other p))
      ∙ total_to (λ p. if is_other set wanted homes site p then 1 else 0) 256 (length homes) (λ p h. none p (omega (arith, few, h))) none)
  | inr empty ↦
      (count_none other set (λ p. away p (omega (arith, empty)))
      ∙ ap (total (λ p. if is_other set wanted homes site p then 1 else 0)) (let e : 0 ≡ length homes = omega (arith, empty) in e))
]
  where
    other : ℕ → Bool
    other p = not (is_among wanted p) && (home_in homes p == site)

    away : (p : ℕ) → length homes ≤ p → other p ≡ false
    away p h = ap (λ (b : Bool). not (is_among wanted p) && b) (no_home homes site p lo h) ∙ and_false (not (is_among wanted p))

    none : (p : ℕ) → length homes ≤ p → ◌≡◌ {A = ℕ} (if is_other set wanted homes site p then 1 else 0) 0
    none p h = ap (λ (b : Bool). if is_among set p && b then 1 else 0) (away p h) ∙ ap (λ (b : Bool). if b then 1 else 0) (and_false (is_among set p))

    nested : (a b : Bool) → ◌≡◌ {A = ℕ} (if a then cond b 1 0 else 0) (if a && b then 1 else 0)
    nested true b = refl
    nested false b = refl

-- ---- whether a set meets the wanted one

module _ (t : ℕ → Bool) where
  one_past : (x a n : ℕ) → x < a → list_any (λ p. t p && (x == p)) (range_with_len a n) ≡ false
  one_past x a zero h = refl
  one_past x a (suc n) h =
      ap₂ (λ (b c : Bool). b || c) (ap (λ (b : Bool). t a && b) (ne_eqb x a (λ e. omega (arith, e, h))) ∙ and_false (t a))
      (one_past x (a + 1) n (omega (arith, h)))

  -- one number of the range
  one_there : (x a n : ℕ) → a ≤ x → x < a + n → list_any (λ p. t p && (x == p)) (range_with_len a n) ≡ t x
  one_there x a zero h l = absurd (omega (arith, h, l))
  one_there x a (suc n) h l = elim (cases_eq x a) [
    | inl e ↦ (ap₂ (λ (b c : Bool). (t a && b) || c) (eq-eqb x a e) (one_past x (a + 1) n (omega (arith, e))) ∙ alone (t a) ∙ ap t (sym e))
    | inr d ↦ (ap₂ (λ (b c : Bool). b || c) (ap (λ (b : Bool). t a && b) (ne_eqb x a d) ∙ and_false (t a))
        (one_there x (a + 1) n (omega (arith, h, d)) (omega (arith, l))))
  ]
    where
      alone : (b : Bool) → ((b && true) || false) ≡ b
      alone true = refl
      alone false = refl

  -- one number or another
  either_there : (r s : ℕ → Bool) (ps : List ℕ)
      → list_any (λ p. t p && (r p || s p)) ps ≡ (list_any (λ p. t p && r p) ps || list_any (λ p. t p && s p) ps)
  either_there r s [] = refl
  either_there r s (p ∷ ps) =
      ap (λ (b : Bool). (t p && (r p || s p)) || b) (either_there r s ps)
      ∙ mixed (t p) (r p) (s p) (list_any (λ p. t p && r p) ps) (list_any (λ p. t p && s p) ps)
    where
      mixed : (a b c d e : Bool) → ((a && (b || c)) || (d || e)) ≡ (((a && b) || d) || ((a && c) || e))
      mixed true true c d e = refl
      mixed true false true true e = refl
      mixed true false true false e = refl
      mixed true false false d e = refl
      mixed false b c d e = refl

  none_there : (ps : List ℕ) → list_any (λ p. t p && false) ps ≡ false
  none_there [] = refl
  none_there (p ∷ ps) = ap₂ (λ (b c : Bool). b || c) (and_false (t p)) (none_there ps)

  pub listed_there : (wanted : List ℕ) (parts : ℕ) → ((p : ℕ) → is_among wanted p ≡ true → p < parts)
      → list_any (λ p. t p && is_among wanted p) (range_with_len 0 parts) ≡ list_any t wanted
  listed_there [] parts below = none_there (range_with_len 0 parts)
  listed_there (x ∷ wanted) parts below =
      either_there (λ p. x == p) (is_among wanted) (range_with_len 0 parts)
      ∙ ap₂ (λ (b c : Bool). b || c)
      (one_there x 0 parts (omega arith) (let l = below x (ap (λ (b : Bool). b || is_among wanted x) (eq-eqb x x refl)) in omega (arith, l)))
      (listed_there wanted parts (λ p e. below p (more (x == p) (is_among wanted p) e)))
    where
      more : (b c : Bool) → c ≡ true → (b || c) ≡ true
      more true c e = refl
      more false c e = e
