-- The components of a vector, and the eight numbers that hold them.
use Rattle.std.proofs.Common.{ℕ, zero, suc, ◌+◌, ◌-◌, ◌<◌, ◌≤◌, ◌≡◌, List, [], ◌∷◌, ◌++◌, length, take, get_or, refl, ap, sym, ◌∙◌, arith, inl, inr, max}
use Rattle.std.specs.List.{range_with_len}
use Rattle.std.specs.Prelude.{map, replicate}
use Rattle.std.proofs.lemmas.Bool.{cases_lt}
use Rattle.std.proofs.lemmas.List.{length-take-le}
use Rattle.dm_event.specs.Numbers.{padded}
use Rattle.dm_event.specs.Vectors.{join, AtMost}

zero_anywhere : (n k : ℕ) → ◌≡◌ {A = ℕ} (get_or (replicate n 0) k 0) 0
zero_anywhere zero k = refl
zero_anywhere (suc n) zero = refl
zero_anywhere (suc n) (suc k) = zero_anywhere n k

zeros_after : (xs : List ℕ) (n k : ℕ) → get_or (xs ++ replicate n 0) k 0 ≡ get_or xs k 0
zeros_after [] n k = zero_anywhere n k
zeros_after (x ∷ xs) n zero = refl
zeros_after (x ∷ xs) n (suc k) = zeros_after xs n k

-- what is kept of a component is the component
pub kept_component : (n : ℕ) (p : List ℕ) → p ≡ padded (take n p) → (k : ℕ) → get_or (take n p) k 0 ≡ get_or p k 0
kept_component n p e k = sym (zeros_after (take n p) (8 - length (take n p)) k) ∙ ap (λ (l : List ℕ). get_or l k 0) (sym e)

past_take : (p : List ℕ) (n k : ℕ) → n ≤ k → get_or (take n p) k 0 ≡ 0
past_take [] zero k h = refl
past_take [] (suc n) k h = refl
past_take (x ∷ p) zero k h = refl
past_take (x ∷ p) (suc n) zero h = absurd (omega (arith, h))
past_take (x ∷ p) (suc n) (suc k) h = past_take p n k (omega (arith, h))

pub past_end : (p : List ℕ) (k : ℕ) → length p ≤ k → get_or p k 0 ≡ 0
past_end [] k h = refl
past_end (x ∷ p) zero h = absurd (omega (arith, h))
past_end (x ∷ p) (suc k) h = past_end p k (omega (arith, h))

pub zero_past_count : (n : ℕ) (p : List ℕ) → p ≡ padded (take n p) → (k : ℕ) → n ≤ k → get_or p k 0 ≡ 0
zero_past_count n p e k h = sym (kept_component n p e k) ∙ past_take p n k h

all_zero : (p : List ℕ) → ((k : ℕ) → get_or p k 0 ≡ 0) → p ≡ replicate (length p) 0
all_zero [] h = refl
all_zero (x ∷ p) h = let e : x ≡ 0 = h zero in ap (λ (l : List ℕ). x ∷ l) (all_zero p (λ k. h (suc k))) ∙ ap (λ (y : ℕ). y ∷ replicate (length p) 0) e

-- numbers that are zero past the count are padded
pub padded_from : (n : ℕ) (p : List ℕ) → n ≤ length p → ((k : ℕ) → n ≤ k → get_or p k 0 ≡ 0) → p ≡ take n p ++ replicate (length p - n) 0
padded_from zero p l h = all_zero p (λ k. h k (omega arith)) ∙ ap (λ (m : ℕ). replicate {A = ℕ} m 0) (let e : length p ≡ length p - 0 = omega arith in e)
padded_from (suc n) [] l h = absurd (omega (arith, l))
padded_from (suc n) (x ∷ p) l h =
    ap (λ (q : List ℕ). x ∷ q) (padded_from n p (omega (arith, l)) (λ k m. h (suc k) (omega (arith, m))))
    ∙ ap (λ (m : ℕ). x ∷ (take n p ++ replicate m 0)) (let e : length p - n ≡ length (x ∷ p) - suc n = omega arith in e)

pub padded_again : (n : ℕ) (p : List ℕ) → n ≤ 8 → length p ≡ 8 → ((k : ℕ) → n ≤ k → get_or p k 0 ≡ 0) → p ≡ padded (take n p)
padded_again n p l e h =
    padded_from n p (omega (arith, l, e)) h
    ∙ ap (λ (m : ℕ). take n p ++ replicate m 0) (let f : length (take n p) ≡ n = length-take-le n p (omega (arith, l, e)) in omega (arith, l, e, f))

-- numbers that are the greater ones at each place join
pub joined : (n : ℕ) (a b c : List ℕ) → n ≤ length a → n ≤ length b → n ≤ length c → ((k : ℕ) → k < n → get_or c k 0 ≡ max (get_or a k 0) (get_or b k 0))
    → take n c ≡ join (take n a) (take n b)
joined zero a b c h i j e = refl
joined (suc n) [] b c h i j e = absurd (omega (arith, h))
joined (suc n) (x ∷ a) [] c h i j e = absurd (omega (arith, i))
joined (suc n) (x ∷ a) (y ∷ b) [] h i j e = absurd (omega (arith, j))
joined (suc n) (x ∷ a) (y ∷ b) (z ∷ c) h i j e =
    ap (λ (w : ℕ). w ∷ take n c) (e zero (omega arith))
    ∙ ap (λ (l : List ℕ). max x y ∷ l) (joined n a b c (omega (arith, h)) (omega (arith, i)) (omega (arith, j)) (λ k m. e (suc k) (omega (arith, m))))

-- the same, as a vector's fields are seen
pub joined_fields : (n m k : ℕ) (p q r u v : List ℕ) → take n p ≡ u → take m q ≡ v → length u ≡ length v → n ≤ 8 → m ≤ 8 → length p ≡ 8 → length q ≡ 8
    → length r ≡ 8
    → k ≡ n → ((i : ℕ) → i < 8 → get_or r i 0 ≡ max (get_or p i 0) (get_or q i 0)) → take k r ≡ join u v
joined_fields n m k p q r u v e f l a b x y z g h =
    let one : length (take n p) ≡ n = length-take-le n p (omega (arith, a, x)) in
    let two : length (take m q) ≡ m = length-take-le m q (omega (arith, b, y)) in
    let three : length (take n p) ≡ length u = ap (λ (l : List ℕ). length l) e in
    let four : length (take m q) ≡ length v = ap (λ (l : List ℕ). length l) f in
    let same : m ≡ n = omega (arith, one, two, three, four, l) in
    ap (λ (i : ℕ). take i r) g
    ∙ joined n p q r (omega (arith, a, x)) (omega (arith, a, y)) (omega (arith, a, z)) (λ i j. h i (omega (arith, j, a)))
    ∙ ap (λ (w : List ℕ). join w (take n q)) e
    ∙ ap (λ (w : List ℕ). join u w) (ap (λ (i : ℕ). take i q) (sym same) ∙ f)

-- two lists of one length with the same components are one
pub same_components : (u v : List ℕ) → length u ≡ length v → ((k : ℕ) → k < length u → get_or u k 0 ≡ get_or v k 0) → u ≡ v
same_components [] [] l h = refl
same_components [] (y ∷ v) l h = absurd (omega (arith, l))
same_components (x ∷ u) [] l h = absurd (omega (arith, l))
same_components (x ∷ u) (y ∷ v) l h =
    ap (λ (z : ℕ). z ∷ u) (h zero (omega arith))
    ∙ ap (λ (w : List ℕ). y ∷ w) (same_components u v (omega (arith, l)) (λ k m. h (suc k) (omega (arith, m))))

pub zeros_from : (a n : ℕ) → map (λ (site : ℕ). 0) (range_with_len a n) ≡ replicate {A = ℕ} n 0
zeros_from a zero = refl
zeros_from a (suc n) = ap (λ (v : List ℕ). 0 ∷ v) (zeros_from (a + 1) n)

pub long_join : (u v : List ℕ) → length u ≡ length v → length (join u v) ≡ length u
long_join [] [] h = refl
long_join [] (y ∷ v) h = absurd (omega (arith, h))
long_join (x ∷ u) [] h = absurd (omega (arith, h))
long_join (x ∷ u) (y ∷ v) h = ap suc (long_join u v (omega (arith, h)))

-- a component of the join is the greater of the two
pub at_join : (u v : List ℕ) (k : ℕ) → get_or (join u v) k 0 ≡ max (get_or u k 0) (get_or v k 0)
at_join [] v k = grind arith
at_join (x ∷ u) [] zero = grind arith
at_join (x ∷ u) [] (suc k) = grind arith
at_join (x ∷ u) (y ∷ v) zero = refl
at_join (x ∷ u) (y ∷ v) (suc k) = at_join u v k

-- the orders of the numbers and of the components are one
pub at_most_from : (n m : ℕ) (p q : List ℕ) → p ≡ padded (take n p) → q ≡ padded (take m q) → length p ≡ 8 → ((k : ℕ) → k < 8 → get_or p k 0 ≤ get_or q k 0)
    → AtMost (take n p) (take m q)
at_most_from n m p q e f l h zero = omega arith
at_most_from n m p q e f l h (suc k) =
    elim (cases_lt k 8) [
      | inl b ↦ (let one = kept_component n p e k in let two = kept_component m q f k in let three = h k b in omega (arith, one, two, three))
      | inr a ↦ (let one = kept_component n p e k in let two = past_end p k (omega (arith, l, a)) in omega (arith, one, two))
    ]

pub not_at_most : (n m : ℕ) (p q : List ℕ) → p ≡ padded (take n p) → q ≡ padded (take m q) → (k : ℕ) → get_or q k 0 < get_or p k 0
    → AtMost (take n p) (take m q) → ⊥
not_at_most n m p q e f k h a =
    let one = kept_component n p e k in
    let two = kept_component m q f k in
    let three : get_or (take n p) k 0 ≤ get_or (take m q) k 0 = a (suc k) in
    omega (arith, one, two, three, h)
