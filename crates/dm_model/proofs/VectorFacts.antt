-- The components of vectors, and of their maxima.
use Rattle.std.proofs.Common.{ℕ, zero, suc, ◌-◌, ◌<◌, ◌≤◌, ◌≡◌, ◌≢◌, true, false, nat_lt, List, ◌∷◌, None, length, get_or, refl, arith, inl, inr, rules, map}
use Rattle.std.proofs.Common.{set, length-set, get_or-set_same}
use Rattle.std.proofs.Math.ListN.{get_or-eq_default}
use Rattle.std.proofs.lemmas.Bool.{ltb-false, cases_lt}
use Rattle.std.proofs.lemmas.Grind.{common_steps}
use Rattle.std.proofs.lemmas.List.FromFn.{get_or-map-range_with_len, length-map-range_with_len}
use Rattle.std.specs.Cmp.Lexicographic.{bytes_decides}
use Rattle.std.specs.Prelude.{set}
use Rattle.dm_event.specs.Vectors.{at, vector_by, first_above, raised, sites_to, join_all, greatest, same_numbers}
use Rattle.dm_model.proofs.ListFacts.{find_none, each_range}

-- past the end there is 0
pub at_past : (v : List ℕ) (j : ℕ) → length v < j → at v j ≡ 0
at_past v zero h = refl
at_past v (suc k) h = get_or-eq_default v 0 (omega arith)

-- a vector has what its function gives
pub at_by : (count : ℕ) (f : ℕ → ℕ) (j : ℕ) → 1 ≤ j → j ≤ count → at (vector_by count f) j ≡ f j
at_by count f zero l m = absurd (omega arith)
at_by count f (suc k) l m = get_or-map-range_with_len f 1 count k (suc k) 0 (omega arith) (omega arith)

pub long_by : (count : ℕ) (f : ℕ → ℕ) → length (vector_by count f) ≡ count
long_by count f = length-map-range_with_len f 1 count

-- and no more, where there is no such site
pub at_by_below : (count : ℕ) (f : ℕ → ℕ) (j : ℕ) → at (vector_by count f) j ≤ f j
at_by_below count f zero = omega arith
at_by_below count f (suc k) = elim (cases_lt k count) [
  | inl l ↦ (let e = at_by count f (suc k) (omega arith) (omega arith) in omega arith)
  | inr m ↦ (let e = at_past (vector_by count f) (suc k) (let g = long_by count f in omega arith) in omega arith)
]

-- no component is above
pub at_most : (count : ℕ) (u v : List ℕ) → length u ≡ count → first_above u v ≡ None → (j : ℕ) → at u j ≤ at v j
at_most count u v long h zero = omega arith
at_most count u v long h (suc k) = elim (cases_lt k (length u)) [
  | inl l ↦
      (let b = each_range (λ site. nat_lt (at v site) (at u site) ≡ false) 1 (length u)
      (find_none (λ site. nat_lt (at v site) (at u site)) (sites_to (length u)) h) (suc k) (omega arith) (omega arith) in
      ltb-false (at v (suc k)) (at u (suc k)) b)
  | inr m ↦ (let e = at_past u (suc k) (omega arith) in omega arith)
]

pub numbers_same : (u v : List ℕ) → same_numbers u v ≡ true → u ≡ v
numbers_same u v h = (bytes_decides u v).0 h

-- a component that is set, and the others
pub at_raised_other : (v : List ℕ) (i n j : ℕ) → 1 ≤ i → j ≢ i → at (raised v i n) j ≡ at v j
at_raised_other v i n zero l m = refl
at_raised_other v i n (suc k) l m = get_or-set_other' v (i - 1) k n (λ p. m (omega (arith, p)))
  where
    get_or-set_other' : (v : List ℕ) (a k n : ℕ) → (k ≢ a) → get_or (set v a n) k 0 ≡ get_or v k 0
    get_or-set_other' v a k n m = search (rules, common_steps)

at_by_mono : (count : ℕ) (f g : ℕ → ℕ) → ((j : ℕ) → f j ≤ g j) → (j : ℕ) → at (vector_by count f) j ≤ at (vector_by count g) j
at_by_mono count f g le zero = omega arith
at_by_mono count f g le (suc k) = elim (cases_lt k count) [
  | inl l ↦ (let a = at_by count f (suc k) (omega arith) (omega arith) in let b = at_by count g (suc k) (omega arith) (omega arith) in let c = le (suc k) in
      omega arith)
  | inr m ↦ (let a = at_past (vector_by count f) (suc k) (let x = long_by count f in omega arith) in omega arith)
]

-- what is at most the numbers is at most the vector of them
pub at_by_within : (count : ℕ) (f g : ℕ → ℕ) → ((j : ℕ) → at (vector_by count f) j ≤ g j) → (j : ℕ) → at (vector_by count f) j ≤ at (vector_by count g) j
at_by_within count f g le zero = omega arith
at_by_within count f g le (suc k) = elim (cases_lt k count) [
  | inl l ↦ (let b = at_by count g (suc k) (omega arith) (omega arith) in let c = le (suc k) in omega arith)
  | inr m ↦ (let a = at_past (vector_by count f) (suc k) (let x = long_by count f in omega arith) in omega arith)
]

-- a maximum has what each of its vectors has, and no more
pub join_keeps : (count : ℕ) (x : List ℕ) (vs : List (List ℕ)) (j : ℕ) → at (join_all count vs) j ≤ at (join_all count (x ∷ vs)) j
join_keeps count x vs j = at_by_mono count (λ site. greatest (map (λ v. at v site) vs)) (λ site. greatest (map (λ v. at v site) (x ∷ vs))) (λ k. omega arith) j

pub join_has : (count : ℕ) (x : List ℕ) (vs : List (List ℕ)) → length x ≡ count → (j : ℕ) → at x j ≤ at (join_all count (x ∷ vs)) j
join_has count x vs l zero = omega arith
join_has count x vs l (suc k) = elim (cases_lt k count) [
  | inl m ↦ (let a = at_by count (λ site. greatest (map (λ v. at v site) (x ∷ vs))) (suc k) (omega arith) (omega arith) in omega arith)
  | inr m ↦ (let a = at_past x (suc k) (omega arith) in omega arith)
]

pub join_least : (count : ℕ) (x : List ℕ) (vs : List (List ℕ)) (b j : ℕ) → at x j ≤ b → at (join_all count vs) j ≤ b → at (join_all count (x ∷ vs)) j ≤ b
join_least count x vs b zero l m = omega arith
join_least count x vs b (suc k) l m = elim (cases_lt k count) [
  | inl c ↦ (let a = at_by count (λ site. greatest (map (λ v. at v site) (x ∷ vs))) (suc k) (omega arith) (omega arith) in let d =
      at_by count (λ site. greatest (map (λ v. at v site) vs)) (suc k) (omega arith) (omega arith) in omega arith)
  | inr c ↦ (let a = at_past (join_all count (x ∷ vs)) (suc k) (let y = long_by count (λ site. greatest (map (λ v. at v site) (x ∷ vs))) in omega arith) in
      omega arith)
]

pub long_raised : (v : List ℕ) (i n : ℕ) → length (raised v i n) ≡ length v
long_raised v i n = length-set v (i - 1) n

pub at_raised_own : (v : List ℕ) (i n : ℕ) → 1 ≤ i → i ≤ length v → at (raised v i n) i ≡ n
at_raised_own v zero n l m = absurd (omega arith)
at_raised_own v (suc k) n l m = own v (suc k - 1) k n (omega arith) (omega arith)
  where
    own : (v : List ℕ) (a k n : ℕ) → a ≡ k → k < length v → get_or (set v a n) k 0 ≡ n
    own v a k n e l = search (rules, common_steps, get_or-set_same)
