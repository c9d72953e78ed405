-- What the homes of wanted partitions have, and what a site lacks of it.
use Rattle.std.proofs.Common.{ℕ, zero, suc, ◌+◌, ◌-◌, ◌<◌, ◌≤◌, ◌≡◌, Bool, true, false, cond, List, [], ◌∷◌, ◌++◌, length, get_or, refl, sym, ap, ◌∙◌}
use Rattle.std.proofs.Common.{arith, add-one, max}
use Rattle.std.specs.List.{range_with_len, filter, sum_by}
use Rattle.std.specs.Prelude.{map, replicate, ◌||◌}
use Rattle.std.proofs.lemmas.Bool.{eq-eqb}
use Rattle.std.proofs.lemmas.List.{map-append, append-nil}
use Rattle.std.proofs.lemmas.List.Elements.{filter-append}
use Rattle.std.proofs.lemmas.List.Sums.{sum_by_push}
use Rattle.dm_event.specs.Parts.{in_order}
use Rattle.dm_event.specs.Vectors.{at, sites_to, vector_by, greatest, join, join_all}
use Rattle.dm_event.proofs.Components.{at_join, same_components, zeros_from, long_join}
use Rattle.dm_model.proofs.VectorFacts.{at_by, long_by}
use Rattle.dm_model.specs.Tests.{is_among}
use Rattle.dm_event.proofs.Ranges.{range_more}

-- ---- the greatest of vectors, one vector more at the end

greatest_push : (xs : List ℕ) (x : ℕ) → greatest (xs ++ x ∷ []) ≡ max (greatest xs) x
greatest_push [] x = grind arith
greatest_push (y ∷ xs) x = let more = greatest_push xs x in grind (arith, more)

-- a list with these components is the vector of the function
pub vector_is : (count : ℕ) (v : List ℕ) (f : ℕ → ℕ) → length v ≡ count → ((k : ℕ) → k < count → get_or v k 0 ≡ f (suc k)) → v ≡ vector_by count f
vector_is count v f l h =
    same_components v (vector_by count f) (l ∙ sym (long_by count f))
    (λ k m. h k (omega (arith, l, m)) ∙ sym (at_by count f (suc k) (omega arith) (omega (arith, l, m))))

pub join_push : (count : ℕ) (vs : List (List ℕ)) (v : List ℕ) → length v ≡ count → join (join_all count vs) v ≡ join_all count (vs ++ v ∷ [])
join_push count vs v l =
    vector_is count (join (join_all count vs) v) (λ site. greatest (map (λ w. at w site) (vs ++ v ∷ [])))
    (long_join (join_all count vs) v (long_by count _ ∙ sym l) ∙ long_by count _)
    (λ k m.
    let one : get_or (join (join_all count vs) v) k 0 ≡ max (get_or (join_all count vs) k 0) (get_or v k 0) = at_join (join_all count vs) v k in
    let two : get_or (join_all count vs) k 0 ≡ greatest (map (λ w. at w (suc k)) vs) =
    at_by count (λ site. greatest (map (λ w. at w site) vs)) (suc k) (omega arith) (omega (arith, m)) in
    one ∙ ap (λ (n : ℕ). max n (get_or v k 0)) two ∙ sym (greatest_push (map (λ w. at w (suc k)) vs) (get_or v k 0))
    ∙ ap greatest (sym (map-append (λ w. at w (suc k)) vs (v ∷ []))))

-- ---- the homes of the wanted partitions, one partition after another

filter_more : (t : ℕ → Bool) (n : ℕ) (b : Bool) → t n ≡ b → filter t (range_with_len 0 (n + 1)) ≡ filter t (range_with_len 0 n) ++ cond b (n ∷ []) []
filter_more t n b e =
    ap (λ (k : ℕ). filter t (range_with_len 0 k)) (add-one n)
    ∙ ap (λ (xs : List ℕ). filter t xs) (range_more 0 n)
    ∙ filter-append t (range_with_len 0 n) ((0 + n) ∷ [])
    ∙ ap (λ (k : ℕ). filter t (range_with_len 0 n) ++ cond (t k) (k ∷ []) []) (let z : 0 + n ≡ n = omega arith in z)
    ∙ ap (λ (c : Bool). filter t (range_with_len 0 n) ++ cond c (n ∷ []) []) e

pub need_add : (count : ℕ) (t : ℕ → Bool) (g : ℕ → List ℕ) (n : ℕ) (need v : List ℕ) → need ≡ join_all count (map g (filter t (range_with_len 0 n)))
    → t n ≡ true → v ≡ g n → length v ≡ count
    → join need v ≡ join_all count (map g (filter t (range_with_len 0 (n + 1))))
need_add count t g n need v before passes is l =
    ap (λ (u : List ℕ). join u v) before
    ∙ join_push count (map g (filter t (range_with_len 0 n))) v l
    ∙ ap (λ (u : List ℕ). join_all count (map g (filter t (range_with_len 0 n)) ++ u ∷ [])) is
    ∙ ap (join_all count) (sym (map-append g (filter t (range_with_len 0 n)) (n ∷ [])))
    ∙ ap (λ (xs : List ℕ). join_all count (map g xs)) (sym (filter_more t n true passes))

pub need_skip : (count : ℕ) (t : ℕ → Bool) (g : ℕ → List ℕ) (n : ℕ) (need : List ℕ) → need ≡ join_all count (map g (filter t (range_with_len 0 n)))
    → t n ≡ false
    → need ≡ join_all count (map g (filter t (range_with_len 0 (n + 1))))
need_skip count t g n need before fails =
    before ∙ ap (λ (xs : List ℕ). join_all count (map g xs)) (sym (append-nil (filter t (range_with_len 0 n))) ∙ sym (filter_more t n false fails))

-- the maximum of no vectors
pub need_none : (count : ℕ) (t : ℕ → Bool) (g : ℕ → List ℕ) → replicate {A = ℕ} count 0 ≡ join_all count (map g (filter t (range_with_len 0 0)))
need_none count t g = sym (zeros_from 1 count)

-- ---- all that a set holds

filter_past : (t : ℕ → Bool) (n k : ℕ) → ((j : ℕ) → n ≤ j → t j ≡ false) → filter t (range_with_len 0 (n + k)) ≡ filter t (range_with_len 0 n)
filter_past t n zero h = ap (λ (m : ℕ). filter t (range_with_len 0 m)) (let e : n + 0 ≡ n = omega arith in e)
filter_past t n (suc k) h =
    ap (λ (m : ℕ). filter t (range_with_len 0 m)) (let e : n + suc k ≡ n + k + 1 = omega arith in e)
    ∙ filter_more t (n + k) false (h (n + k) (omega arith))
    ∙ append-nil (filter t (range_with_len 0 (n + k)))
    ∙ filter_past t n k h

-- where a set holds none past the first partitions, they are all
pub parts_below : (wanted : List ℕ) (parts : ℕ) → parts ≤ 256 → ((p : ℕ) → is_among wanted p ≡ true → p < parts) → (1 ≤ parts → wanted ≡ in_order wanted)
    → filter (is_among wanted) (range_with_len 0 parts) ≡ wanted
parts_below [] zero few below ordered = refl
parts_below (x ∷ wanted) zero few below ordered =
    absurd (let l = below x (ap (λ (b : Bool). b || is_among wanted x) (eq-eqb x x refl)) in omega (arith, l))
parts_below wanted (suc parts) few below ordered =
    sym (filter_past (is_among wanted) (suc parts) (256 - suc parts) (λ j h. fails j h (is_among wanted j) refl))
    ∙ ap (λ (n : ℕ). filter (is_among wanted) (range_with_len 0 n)) (let e : suc parts + (256 - suc parts) ≡ 256 = omega (arith, few) in e)
    ∙ sym (ordered (omega arith))
  where
    fails : (j : ℕ) → suc parts ≤ j → (b : Bool) → is_among wanted j ≡ b → is_among wanted j ≡ false
    fails j h true e = absurd (let l = below j e in omega (arith, l, h))
    fails j h false e = e

-- ---- sums over the sites

pub sum_sites_more : (f : ℕ → ℕ) (site : ℕ) → 1 ≤ site → sum_by f (sites_to (site + 1 - 1)) ≡ sum_by f (sites_to (site - 1)) + f site
sum_sites_more f site h =
    ap (λ (n : ℕ). sum_by f (sites_to n)) (let e : site + 1 - 1 ≡ suc (site - 1) = omega arith in e)
    ∙ ap (λ (xs : List ℕ). sum_by f xs) (range_more 1 (site - 1))
    ∙ sum_by_push f (sites_to (site - 1)) (1 + (site - 1))
    ∙ ap (λ (n : ℕ). sum_by f (sites_to (site - 1)) + f n) (let e : 1 + (site - 1) ≡ site = omega arith in e)

-- one site more
pub lag_more : (f : ℕ → ℕ) (lag site part : ℕ) → lag ≡ sum_by f (sites_to (site - 1)) → part ≡ f site → 1 ≤ site
    → lag + part ≡ sum_by f (sites_to (site + 1 - 1))
lag_more f lag site part before is h = ap (λ (n : ℕ). n + part) before ∙ ap (λ (n : ℕ). sum_by f (sites_to (site - 1)) + n) is ∙ sym (sum_sites_more f site h)
