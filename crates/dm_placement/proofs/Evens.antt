-- How far loads are from even.
use Rattle.std.proofs.Common.{ℕ, suc, ◌+◌, ◌-◌, ◌*◌, ◌<◌, ◌≤◌, ◌≡◌, ◌≢◌, Bool, true, false, List, length, get_or, set, take, refl, sym, ap, ap₂, ◌∙◌, arith}
use Rattle.std.proofs.Common.{inl, inr, get_or-set_same, get_or-set_other}
use Rattle.std.specs.List.{sum_by, sum}
use Rattle.std.specs.Prelude.{pos, negsuc, nat_abs, ◌-ℤ◌, ◌==◌, ◌&&◌, not, if◌then◌else◌}
use Rattle.std.proofs.Math.Nat.{mul-le-mul}
use Rattle.std.proofs.lemmas.Bool.{cases_lt, cases_eq, eq-eqb, ne_eqb}
use Rattle.std.proofs.lemmas.Int.{ints}
use Rattle.std.proofs.lemmas.List.{get_or-take, length-take-le, get_or_default}
use Rattle.std.proofs.lemmas.List.Sums.{sum-map, sum_by-le, sum_by_more}
use Rattle.dm_event.specs.Vectors.{sites_to, vector_by}
use Rattle.dm_model.proofs.VectorFacts.{long_by}
use Rattle.dm_model.specs.Tests.{is_among}
use Rattle.dm_model.specs.Scores.{weight, load, moved_to, uneven}
use Rattle.dm_placement.specs.Loads.{other_load, wanted_load}
use Rattle.dm_placement.proofs.Totals.{total, total_filter, total_split, same_total, sum_map}
use Rattle.dm_placement.proofs.Needs.{vector_is}

pub far_is : (a b : ℕ) → (a - b) + (b - a) ≡ nat_abs (pos a -ℤ pos b)
far_is a b = elim (cases_lt a b) [
  | inl l ↦ (let e : pos a -ℤ pos b ≡ negsuc (b - a - 1) = omega (arith, ints) in
      let f : (a - b) + (b - a) ≡ suc (b - a - 1) = omega arith in f ∙ ap nat_abs (sym e))
  | inr g ↦ (let e : pos a -ℤ pos b ≡ pos (a - b) = omega (arith, ints) in
      let f : (a - b) + (b - a) ≡ a - b = omega arith in f ∙ ap nat_abs (sym e))
]

pub sum_small : (loads : List ℕ) → length loads ≤ 8 → ((k : ℕ) → get_or loads k 0 ≤ 131072) → sum loads ≤ 1048576
sum_small loads few small =
    let each : (k : ℕ) (d : ℕ) → k < length loads → get_or loads k d ≤ 131072 =
    (λ k d l. let e = get_or_default loads k d 0 l in let h = small k in omega (arith, e, h)) in
    let whole : sum loads ≤ length loads * 131072 = sum_by-le (λ x. x) 131072 loads each in
    omega (arith, whole, few)

pub far_small : (n x b : ℕ) → n ≤ 8 → x ≤ 131072 → b ≤ 1048576 → (n * x - b) + (b - n * x) ≤ 1048576
far_small n x b few small less =
    let product : n * x ≤ 8 * 131072 = mul-le-mul few small in
    omega (arith, product, less)

-- one load more
pub far_more : (loads : List ℕ) (i so_far far whole : ℕ) → i < length loads
    → so_far ≡ sum_by (λ x. nat_abs (pos (length loads * x) -ℤ pos (sum loads))) (take i loads) → whole ≡ sum loads
    → far ≡ (length loads * get_or loads i 0 - whole) + (whole - length loads * get_or loads i 0)
    → so_far + far ≡ sum_by (λ x. nat_abs (pos (length loads * x) -ℤ pos (sum loads))) (take (i + 1) loads)
far_more loads i so_far far whole l before total is =
    let x = get_or loads i 0 in
    ap (λ (n : ℕ). n + far) before
    ∙ ap (λ (n : ℕ). sum_by (λ y. nat_abs (pos (length loads * y) -ℤ pos (sum loads))) (take i loads) + n)
    (is ∙ far_is (length loads * x) whole ∙ ap (λ (n : ℕ). nat_abs (pos (length loads * x) -ℤ pos n)) total)
    ∙ sym (sum_by_more (λ y. nat_abs (pos (length loads * y) -ℤ pos (sum loads))) loads i 0 l)

-- ---- lists of loads

-- the first components of a list, as they are those of the function
pub first_loads : (counts : List ℕ) (sites : ℕ) (f : ℕ → ℕ) → sites ≤ length counts
    → ((site : ℕ) → 1 ≤ site → site ≤ sites → get_or counts (site - 1) 0 ≡ f site) → take sites counts ≡ vector_by sites f
first_loads counts sites f l h =
    vector_is sites (take sites counts) f (length-take-le sites counts l)
    (λ k m. get_or-take sites counts k 0 m ∙ ap (λ (i : ℕ). get_or counts i 0) (let e : k ≡ suc k - 1 = omega arith in e)
    ∙ h (suc k) (omega arith) (omega (arith, m)))

-- what is computed of the list of loads is how uneven they are
pub uneven_is : (sites parts : ℕ) (sets : List (List ℕ)) (home_of : ℕ → ℕ) (loads : List ℕ) (far : ℕ) → loads ≡ vector_by sites (load sites parts sets home_of)
    → far ≡ sum_by (λ x. nat_abs (pos (length loads * x) -ℤ pos (sum loads))) loads → far ≡ uneven sites parts sets home_of
uneven_is sites parts sets home_of loads far are is =
    let ld = load sites parts sets home_of in
    is
    ∙ ap (λ (l : List ℕ). sum_by (λ x. nat_abs (pos (length l * x) -ℤ pos (sum l))) l) are
    ∙ sum_map (λ x. nat_abs (pos (length (vector_by sites ld) * x) -ℤ pos (sum (vector_by sites ld)))) ld (sites_to sites)
    ∙ ap (λ (n : ℕ). sum_by (λ site. nat_abs (pos (n * ld site) -ℤ pos (sum (vector_by sites ld)))) (sites_to sites)) (long_by sites ld)
    ∙ ap (λ (n : ℕ). sum_by (λ site. nat_abs (pos (sites * ld site) -ℤ pos n)) (sites_to sites)) (sum-map ld (sites_to sites))

-- a partition that is wanted (b) counts at the site, another at its home
counts_there : (b : Bool) (site home w : ℕ) → ◌≡◌ {A = ℕ} (if (if b then site else home) == site then w else 0)
    ((if (home == site) && not b then w else 0) + (if b then w else 0))
counts_there true site home w =
    ap (λ (c : Bool). if c then w else 0) (eq-eqb site site refl) ∙ (let e : w ≡ 0 + w = omega arith in e)
    ∙ ap (λ (c : Bool). (if c then w else 0) + w) (sym (fails (home == site)))
  where
    fails : (c : Bool) → (c && false) ≡ false
    fails true = refl
    fails false = refl
counts_there false site home w =
    ap (λ (c : Bool). if c then w else 0) (sym (holds (home == site)))
    ∙ (let e : (if (home == site) && true then w else 0) ≡ (if (home == site) && true then w else 0) + 0 = omega arith in e)
  where
    holds : (c : Bool) → (c && true) ≡ c
    holds true = refl
    holds false = refl

counts_elsewhere : (b : Bool) (site other home w : ℕ) → site ≢ other → ◌≡◌ {A = ℕ} (if (if b then site else home) == other then w else 0) (if (home == other)
    && not b then w else 0)
counts_elsewhere true site other home w d = ap (λ (c : Bool). if c then w else 0) (ne_eqb site other d ∙ sym (fails (home == other)))
  where
    fails : (c : Bool) → (c && false) ≡ false
    fails true = refl
    fails false = refl
counts_elsewhere false site other home w d = ap (λ (c : Bool). if c then w else 0) (sym (holds (home == other)))
  where
    holds : (c : Bool) → (c && true) ≡ c
    holds true = refl
    holds false = refl

module _ (sites parts : ℕ) (sets : List (List ℕ)) (home_of : ℕ → ℕ) (wanted : List ℕ) where
  -- the load of the site to which the wanted partitions go
  load_there : (site : ℕ) → load sites parts sets (moved_to sites parts sets home_of wanted site) site ≡ other_load parts sets home_of wanted site + wanted_load
      parts sets wanted
  load_there site =
      total_filter (weight sets) (λ p. (if is_among wanted p then site else home_of p) == site) parts
      ∙ total_split (λ p. if (if is_among wanted p then site else home_of p) == site then weight sets p else 0)
      (λ p. if (home_of p == site) && not (is_among wanted p) then weight sets p else 0) (λ p. if is_among wanted p then weight sets p else 0) parts
      (λ p. counts_there (is_among wanted p) site (home_of p) (weight sets p))
      ∙ ap₂ (λ (a b : ℕ). a + b) (sym (total_filter (weight sets) (λ p. (home_of p == site) && not (is_among wanted p)) parts))
      (sym (total_filter (weight sets) (is_among wanted) parts))

  -- the load of another site
  load_elsewhere : (site other : ℕ) → site ≢ other → load sites parts sets (moved_to sites parts sets home_of wanted site) other ≡ other_load parts sets home_of
      wanted other
  load_elsewhere site other d =
      total_filter (weight sets) (λ p. (if is_among wanted p then site else home_of p) == other) parts
      ∙ same_total (λ p. if (if is_among wanted p then site else home_of p) == other then weight sets p else 0)
      (λ p. if (home_of p == other) && not (is_among wanted p) then weight sets p else 0) parts
      (λ p l. counts_elsewhere (is_among wanted p) site other (home_of p) (weight sets p) d)
      ∙ sym (total_filter (weight sets) (λ p. (home_of p == other) && not (is_among wanted p)) parts)

  -- what moves is added at its place
  pub moved_loads : (others : List ℕ) (moving site : ℕ) → length others ≡ 8 → 1 ≤ site → site ≤ 8
      → ((other : ℕ) → 1 ≤ other → other ≤ 8 → get_or others (other - 1) 0 ≡ other_load parts sets home_of wanted other)
      → moving ≡ wanted_load parts sets wanted
      → (other : ℕ) → 1 ≤ other → other ≤ 8 → get_or (set others (site - 1) (get_or others (site - 1) 0 + moving)) (other - 1) 0 ≡ load sites parts sets
      (moved_to sites parts sets home_of wanted site) other
  moved_loads others moving site l lo hi are is other a b = elim (cases_eq site other) [
    | inl e ↦
        (let within : site - 1 < length others = omega (arith, l, lo, hi) in
        ap (λ (i : ℕ). get_or (set others (site - 1) (get_or others (site - 1) 0 + moving)) (i - 1) 0) (sym e)
        ∙ get_or-set_same others (site - 1) (get_or others (site - 1) 0 + moving) 0 within
        ∙ ap₂ (λ (x y : ℕ). x + y) (are site lo hi) is
        ∙ sym (load_there site)
        ∙ ap (λ (i : ℕ). load sites parts sets (moved_to sites parts sets home_of wanted site) i) e)
    | inr d ↦
        (let apart : other - 1 ≢ site - 1 = (λ e. d (omega (arith, e, a, lo))) in
        get_or-set_other others (site - 1) (other - 1) (get_or others (site - 1) 0 + moving) 0 apart
        ∙ are other a b
        ∙ sym (load_elsewhere site other d))
  ]
