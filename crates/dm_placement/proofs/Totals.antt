-- Sums over the numbers below a bound, one number at a time.
use Rattle.std.proofs.Common.{ℕ, zero, suc, ◌+◌, ◌*◌, ◌<◌, ◌≤◌, ◌≡◌, Bool, true, false, cond, List, [], ◌∷◌, ◌++◌, refl, sym, ap, ◌∙◌, arith, add-one}
use Rattle.std.specs.List.{range_with_len, filter, sum_by}
use Rattle.std.specs.Prelude.{if◌then◌else◌, map}
use Rattle.std.proofs.lemmas.List.Sums.{sum_by-cons, sum_by_push}
use Rattle.dm_event.proofs.Ranges.{range_more}

-- the sum of the function over the numbers below n
abbrev pub total : (ℕ → ℕ) → ℕ → ℕ
total f zero = 0
total f (suc n) = total f n + f n

-- one number more, as a loop counts
pub total_more : (f : ℕ → ℕ) (n : ℕ) → total f (n + 1) ≡ total f n + f n
total_more f n = ap (total f) (add-one n)

pub sum_range : (f : ℕ → ℕ) (n : ℕ) → sum_by f (range_with_len 0 n) ≡ total f n
sum_range f zero = refl
sum_range f (suc n) =
    ap (λ (xs : List ℕ). sum_by f xs) (range_more 0 n)
    ∙ sum_by_push f (range_with_len 0 n) (0 + n)
    ∙ ap (λ (s : ℕ). s + f (0 + n)) (sum_range f n)
    ∙ ap (λ (m : ℕ). total f n + f m) (let e : 0 + n ≡ n = omega arith in e)

pub same_total : (f g : ℕ → ℕ) (n : ℕ) → ((k : ℕ) → k < n → f k ≡ g k) → total f n ≡ total g n
same_total f g zero h = refl
same_total f g (suc n) h =
    let one = same_total f g n (λ k l. h k (omega arith)) in
    let two = h n (omega arith) in
    omega (arith, one, two)

pub total_split : (f g h : ℕ → ℕ) (n : ℕ) → ((k : ℕ) → f k ≡ g k + h k) → total f n ≡ total g n + total h n
total_split f g h zero e = refl
total_split f g h (suc n) e = omega (arith, total_split f g h n e, e n)

pub total_most : (f : ℕ → ℕ) (m n : ℕ) → ((k : ℕ) → f k ≤ m) → total f n ≤ n * m
total_most f m zero h = omega arith
total_most f m (suc n) h = omega (arith, total_most f m n h, h n)

-- nothing comes from the bound on
pub total_past : (f : ℕ → ℕ) (n k : ℕ) → ((j : ℕ) → n ≤ j → f j ≡ 0) → total f (n + k) ≡ total f n
total_past f n zero h = ap (total f) (let e : n + 0 ≡ n = omega arith in e)
total_past f n (suc k) h =
    ap (total f) (let e : n + suc k ≡ suc (n + k) = omega arith in e)
    ∙ (let one = total_past f n k h in let two = h (n + k) (omega arith) in omega (arith, one, two))

pub total_to : (f : ℕ → ℕ) (m n : ℕ) → ((j : ℕ) → m ≤ j → f j ≡ 0) → ((j : ℕ) → n ≤ j → f j ≡ 0) → total f m ≡ total f n
total_to f m n h g =
    sym (total_past f m n h) ∙ ap (total f) (let e : m + n ≡ n + m = omega arith in e) ∙ total_past f n m g

-- ---- sums over what passes a test

pub sum_filter : {X : Type 0} (f : X → ℕ) (p : X → Bool) (xs : List X) → sum_by f (filter p xs) ≡ sum_by (λ x. if p x then f x else 0) xs
sum_filter f p [] = refl
sum_filter {X = X} f p (x ∷ xs) = at_head (p x) (sum_filter f p xs) ∙ sym (sum_by-cons (λ y. if p y then f y else 0) x xs)
  where
    at_head : (b : Bool) → sum_by f (filter p xs) ≡ sum_by (λ y. if p y then f y else 0) xs
        → sum_by f (cond b (x ∷ filter p xs) (filter p xs)) ≡ (if b then f x else 0) + sum_by (λ y. if p y then f y else 0) xs
    at_head true rest = sum_by-cons f x (filter p xs) ∙ ap (λ (n : ℕ). f x + n) rest
    at_head false rest = rest ∙ (let e : sum_by (λ y. if p y then f y else 0) xs ≡ 0 + sum_by (λ y. if p y then f y else 0) xs = omega arith in e)

pub sum_same : {X : Type 0} (f g : X → ℕ) (xs : List X) → ((x : X) → f x ≡ g x) → sum_by f xs ≡ sum_by g xs
sum_same f g [] h = refl
sum_same f g (x ∷ xs) h =
    sum_by-cons f x xs ∙ ap (λ (n : ℕ). n + sum_by f xs) (h x) ∙ ap (λ (n : ℕ). g x + n) (sum_same f g xs h) ∙ sym (sum_by-cons g x xs)

pub sum_map : {X Y : Type 0} (f : Y → ℕ) (g : X → Y) (xs : List X) → sum_by f (map g xs) ≡ sum_by (λ x. f (g x)) xs
sum_map f g [] = refl
sum_map f g (x ∷ xs) = sum_by-cons f (g x) (map g xs) ∙ ap (λ (n : ℕ). f (g x) + n) (sum_map f g xs) ∙ sym (sum_by-cons (λ y. f (g y)) x xs)

-- as a number, whether both tests pass
abbrev pub both : Bool → Bool → ℕ
both a b = if a then (if b then 1 else 0) else 0

-- the sum over the numbers below n that pass a test
pub total_filter : (f : ℕ → ℕ) (p : ℕ → Bool) (n : ℕ) → sum_by f (filter p (range_with_len 0 n)) ≡ total (λ k. if p k then f k else 0) n
total_filter f p n = sum_filter f p (range_with_len 0 n) ∙ sum_range (λ k. if p k then f k else 0) n
