-- Scores of a window that begins with the oldest set, and of one that begins with the latest.
use Rattle.std.proofs.Common.{ℕ, zero, suc, ◌+◌, ◌-◌, ◌*◌, ◌<◌, ◌≤◌, ◌≡◌, Bool, true, false, cond, List, [], ◌∷◌, refl, sym, ap, ap₂, ◌∙◌, arith}
use Rattle.std.specs.List.{AllByRecursion as Each, range_with_len, sum_by, count_by, list_any}
use Rattle.std.specs.Prelude.{ℤ, pos, nat_abs, ◌-ℤ◌, ◌*ℤ◌, ◌+ℤ◌, map, reverse, int_lt, ◌||◌, ◌==◌, ◌&&◌, not, if◌then◌else◌}
use Rattle.std.proofs.lemmas.Bool.{eq-eqb}
use Rattle.std.proofs.lemmas.List.Sums.{sum_by-cons}
use Rattle.std.proofs.lemmas.List.Sorted.{sum_by-IsPermutation, IsPermutation-reverse}
use Rattle.dm_event.specs.Vectors.{at, sites_to, join_all}
use Rattle.dm_event.specs.declared.schema.Weights.{Weights}
use Rattle.dm_model.specs.Scores.{weight, load, uneven, moved_to, lag, together, score_of, best_site}
use Rattle.dm_model.specs.Tests.{is_among}
use Rattle.dm_placement.proofs.Totals.{same_total, total_filter, sum_same}

-- two functions that agree on the elements
sum_listed : (f g : ℕ → ℕ) (xs : List ℕ) → ((p : ℕ) → is_among xs p ≡ true → f p ≡ g p) → sum_by f xs ≡ sum_by g xs
sum_listed f g [] h = refl
sum_listed f g (x ∷ xs) h =
    let here : f x ≡ g x = h x (ap (λ (b : Bool). b || is_among xs x) (eq-eqb x x refl)) in
    let rest = sum_listed f g xs (λ p e. h p (more p e (x == p))) in
    sum_by-cons f x xs ∙ ap₂ (λ (a b : ℕ). a + b) here rest ∙ sym (sum_by-cons g x xs)
  where
    more : (p : ℕ) → is_among xs p ≡ true → (b : Bool) → (b || is_among xs p) ≡ true
    more p e true = refl
    more p e false = e

sum_each : {X : Type 0} (P : X → Type 0) (f g : X → ℕ) (xs : List X) → Each P xs → ((x : X) → P x → f x ≡ g x) → sum_by f xs ≡ sum_by g xs
sum_each P f g [] k h = refl
sum_each P f g (x ∷ xs) k h = sum_by-cons f x xs ∙ ap₂ (λ (a b : ℕ). a + b) (h x k.0) (sum_each P f g xs k.1 h) ∙ sym (sum_by-cons g x xs)

-- each partition of the list is below the bound
abbrev pub Below : ℕ → List ℕ → Type 0
Below parts xs = (p : ℕ) → is_among xs p ≡ true → p < parts

-- ---- the sets in the other order

turned_sum : (f : List ℕ → ℕ) (lists : List (List ℕ)) → sum_by f (reverse lists) ≡ sum_by f lists
turned_sum f lists = sum_by-IsPermutation f lists (reverse lists) (IsPermutation-reverse lists)

together_same : (parts : ℕ) (lists : List (List ℕ)) (home_of home_of' : ℕ → ℕ) (wanted : List ℕ) → Each (Below parts) lists
    → ((p : ℕ) → p < parts → home_of p ≡ home_of' p) → (site : ℕ) → together (reverse lists) home_of wanted site ≡ together lists home_of' wanted site
together_same parts lists home_of home_of' wanted below homes site =
    turned_sum (λ s. if list_any (is_among s) wanted then count_by (λ p. not (is_among wanted p) && (home_of p == site)) s else 0) lists
    ∙ sum_each (Below parts) (λ s. if list_any (is_among s) wanted then count_by (λ p. not (is_among wanted p) && (home_of p == site)) s else 0)
    (λ s. if list_any (is_among s) wanted then count_by (λ p. not (is_among wanted p) && (home_of' p == site)) s else 0) lists below
    (λ s inside. ap (λ (n : ℕ). if list_any (is_among s) wanted then n else 0)
    (sum_listed (λ p. cond (not (is_among wanted p) && (home_of p == site)) 1 0) (λ p. cond (not (is_among wanted p) && (home_of' p == site)) 1 0) s
    (λ p e. ap (λ (i : ℕ). cond (not (is_among wanted p) && (i == site)) 1 0) (homes p (inside p e)))))

-- ---- how even the loads are

module _ (sites parts : ℕ) (sets sets' : List (List ℕ)) (weights : (p : ℕ) → weight sets p ≡ weight sets' p) where
  load_same : (home_of home_of' : ℕ → ℕ) → ((p : ℕ) → p < parts → home_of p ≡ home_of' p) → (site : ℕ)
      → load sites parts sets home_of site ≡ load sites parts sets' home_of' site
  load_same home_of home_of' homes site =
      total_filter (weight sets) (λ p. home_of p == site) parts
      ∙ same_total (λ p. if home_of p == site then weight sets p else 0) (λ p. if home_of' p == site then weight sets' p else 0) parts
      (λ p l. ap₂ (λ (i w : ℕ). if i == site then w else 0) (homes p l) (weights p))
      ∙ sym (total_filter (weight sets') (λ p. home_of' p == site) parts)

  pub uneven_same : (home_of home_of' : ℕ → ℕ) → ((p : ℕ) → p < parts → home_of p ≡ home_of' p)
      → uneven sites parts sets home_of ≡ uneven sites parts sets' home_of'
  uneven_same home_of home_of' homes =
      let same = load_same home_of home_of' homes in
      sum_same (λ site. nat_abs (pos (sites * load sites parts sets home_of site) -ℤ pos (sum_by (load sites parts sets home_of) (sites_to sites))))
      (λ site. nat_abs (pos (sites * load sites parts sets' home_of' site) -ℤ pos (sum_by (load sites parts sets' home_of') (sites_to sites)))) (sites_to sites)
      (λ site. ap₂ (λ (a b : ℕ). nat_abs (pos (sites * a) -ℤ pos b)) (same site)
      (sum_same (load sites parts sets home_of) (load sites parts sets' home_of') (sites_to sites) same))

-- ---- the score

map_listed : (v v' : ℕ → List ℕ) (xs : List ℕ) → ((p : ℕ) → is_among xs p ≡ true → v p ≡ v' p) → map v xs ≡ map v' xs
map_listed v v' [] h = refl
map_listed v v' (x ∷ xs) h =
    ap₂ (λ (u : List ℕ) (us : List (List ℕ)). u ∷ us) (h x (ap (λ (b : Bool). b || is_among xs x) (eq-eqb x x refl)))
    (map_listed v v' xs (λ p e. h p (more p e (x == p))))
  where
    more : (p : ℕ) → is_among xs p ≡ true → (b : Bool) → (b || is_among xs p) ≡ true
    more p e true = refl
    more p e false = e

pub score_same : (weights : Weights) (sites parts : ℕ) (lists : List (List ℕ)) (home_of home_of' : ℕ → ℕ) (vector_of vector_of' : ℕ → List ℕ)
    (wanted : List ℕ) (site : ℕ) → Each (Below parts) lists → ((p : ℕ) → p < parts → home_of p ≡ home_of' p)
    → ((p : ℕ) → is_among wanted p ≡ true → vector_of (home_of p) ≡ vector_of' (home_of' p)) → vector_of site ≡ vector_of' site
    → score_of weights sites parts (reverse lists) home_of vector_of wanted site ≡ score_of weights sites parts lists home_of' vector_of' wanted site
score_same weights sites parts lists home_of home_of' vector_of vector_of' wanted site below homes needed vector =
    let sets = reverse lists in
    let same : (p : ℕ) → weight sets p ≡ weight lists p = λ p. turned_sum (λ set. cond (is_among set p) 1 0) lists in
    let now : uneven sites parts sets home_of ≡ uneven sites parts lists home_of' = uneven_same sites parts sets lists same home_of home_of' homes in
    let there : uneven sites parts sets (moved_to sites parts sets home_of wanted site) ≡ uneven sites parts lists
    (moved_to sites parts lists home_of' wanted site) =
    uneven_same sites parts sets lists same (moved_to sites parts sets home_of wanted site) (moved_to sites parts lists home_of' wanted site)
    (λ p l. ap (λ (i : ℕ). if is_among wanted p then site else i) (homes p l)) in
    let need = ap (join_all sites) (map_listed (λ p. vector_of (home_of p)) (λ p. vector_of' (home_of' p)) wanted needed) in
    let behind : lag sites home_of vector_of wanted site ≡ lag sites home_of' vector_of' wanted site =
    ap₂ (λ (u v : List ℕ). sum_by (λ j. at u j - at v j) (sites_to sites)) need vector in
    let beside = together_same parts lists home_of home_of' wanted below homes site in
    ap₂ (λ (a b : ℕ). ((pos weights.balance *ℤ (pos a -ℤ pos b)) -ℤ (pos weights.delay *ℤ pos (lag sites home_of vector_of wanted site))) +ℤ
    (pos weights.together *ℤ pos (together sets home_of wanted site))) now there
    ∙ ap₂ (λ (a b : ℕ). ((pos weights.balance *ℤ (pos (uneven sites parts lists home_of') -ℤ pos
    (uneven sites parts lists (moved_to sites parts lists home_of' wanted site)))) -ℤ (pos weights.delay *ℤ pos a)) +ℤ (pos weights.together *ℤ pos b))
    behind beside

-- two functions that agree at the sites choose alike
pub best_same : (f g : ℕ → ℤ) (a n b : ℕ) → ((s : ℕ) → a ≤ s → s < a + n → f s ≡ g s) → f b ≡ g b
    → best_site f (range_with_len a n) b ≡ best_site g (range_with_len a n) b
best_same f g a zero b h e = refl
best_same f g a (suc n) b h e = at_head (int_lt (f b) (f a)) (int_lt (g b) (g a)) (ap₂ (λ (x y : ℤ). int_lt x y) e here) (best_same f g (a + 1) n a more here)
    (best_same f g (a + 1) n b more e)
  where
    here : f a ≡ g a
    here = h a (omega arith) (omega arith)

    more : (s : ℕ) → a + 1 ≤ s → s < a + 1 + n → f s ≡ g s
    more = λ s x y. h s (omega (arith, x)) (omega (arith, y))

    at_head : (c d : Bool) → c ≡ d → best_site f (range_with_len (a + 1) n) a ≡ best_site g (range_with_len (a + 1) n) a
        → best_site f (range_with_len (a + 1) n) b ≡ best_site g (range_with_len (a + 1) n) b
        → best_site f (range_with_len (a + 1) n) (cond c a b) ≡ best_site g (range_with_len (a + 1) n) (cond d a b)
    at_head true true q x y = x
    at_head true false q x y = absurd (cc (q))
    at_head false true q x y = absurd (cc (q))
    at_head false false q x y = y
