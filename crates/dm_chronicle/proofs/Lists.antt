-- Beginnings of lists, and the steps of an actor.
use Rattle.std.proofs.Common.{◌≡◌, ◌≢◌, ◌⊎◌, ℕ, zero, suc, ◌+◌, ◌%◌, ◌^◌, ◌<◌, ◌≤◌, List, [], ◌∷◌, ◌++◌, map, set, take, drop, length, nat_lt, Bool, true}
use Rattle.std.proofs.Common.{false, refl, sym, ap, ◌∙◌, subst, inl, inr, ⊎_elim, arith, append_assoc, append-nil, length-append}
use mathlib.Core.List.{IsPrefix}
use mathlib.Core.Option.{some, some-ne-none, some-injective}
use lib.ListN.{get_elem?}
use Rattle.std.proofs.lemmas.Bool.Decides.{nat_tests}
use Rattle.dm_event.specs.declared.actor.Actor.{Actor}
use Rattle.dm_chronicle.specs.Rule.{In, Apart, keep_if, mine, Holding, Once, Legal, names, longer, later}

module _ {A : Type 0} where
  pub prefix_refl : (xs : List A) → IsPrefix xs xs
  prefix_refl xs = ([], append-nil xs)

  pub prefix_trans : (xs ys zs : List A) → IsPrefix xs ys → IsPrefix ys zs → IsPrefix xs zs
  prefix_trans xs ys zs p q = (p.0 ++ q.0, sym (append_assoc xs p.0 q.0) ∙ (ap (λ (l : List A). l ++ q.0) p.1 ∙ q.1))

  pub prefix_more : (xs ys zs : List A) → IsPrefix xs ys → IsPrefix xs (ys ++ zs)
  prefix_more xs ys zs p = prefix_trans xs ys (ys ++ zs) p (zs, refl)

  abbrev head_or : A → List A → A
  head_or d [] = d
  head_or d (x ∷ xs) = x

  abbrev tail_of : List A → List A
  tail_of [] = []
  tail_of (x ∷ xs) = xs

  -- of two beginnings of one list the shorter begins the longer
  pub prefix_short : (xs ys zs : List A) → IsPrefix xs zs → IsPrefix ys zs → length xs ≤ length ys → IsPrefix xs ys
  prefix_short [] ys zs p q le = (ys, refl)
  prefix_short (x ∷ xs) [] zs p q le = absurd (omega arith)
  prefix_short (x ∷ xs) (y ∷ ys) zs p q le =
      let same : x ≡ y = ap (head_or x) (p.1 ∙ sym q.1) in
      let t = prefix_short xs ys (tail_of zs) (p.0, ap tail_of p.1) (q.0, ap tail_of q.1) (omega arith) in
      (t.0, λ i. same i ∷ t.1 i)

  pub prefix_length : (xs ys : List A) → IsPrefix xs ys → length xs ≤ length ys
  prefix_length xs ys p = let e : length (xs ++ p.0) ≡ length ys = ap (λ (l : List A). length l) p.1 in omega (arith, length-append xs p.0)

  nothing_left : (xs rest : List A) → length (xs ++ rest) ≤ length xs → xs ++ rest ≡ xs
  nothing_left [] [] le = refl
  nothing_left [] (y ∷ ys) le = absurd (omega arith)
  nothing_left (x ∷ xs) rest le = ap (λ (l : List A). x ∷ l) (nothing_left xs rest (omega arith))

  -- a beginning that is no shorter is the whole
  pub prefix_whole : (xs ys : List A) → IsPrefix xs ys → length ys ≤ length xs → xs ≡ ys
  prefix_whole xs ys p le = sym (nothing_left xs p.0 (subst (λ (l : List A). length l ≤ length xs) (sym p.1) le)) ∙ p.1

module _ {I : Type 0} (has : I → Actor → Bool) where
  keep_append : (b : Bool) (x : I) (xs ys : List I) → keep_if b x (xs ++ ys) ≡ keep_if b x xs ++ ys
  keep_append true x xs ys = refl
  keep_append false x xs ys = refl

  pub mine_append : (a : Actor) (xs ys : List I) → mine has a (xs ++ ys) ≡ mine has a xs ++ mine has a ys
  mine_append a [] ys = refl
  mine_append a (x ∷ xs) ys = ap (keep_if (has x a) x) (mine_append a xs ys) ∙ keep_append (has x a) x (mine has a xs) (mine has a ys)

  pub mine_prefix : (a : Actor) (xs ys : List I) → IsPrefix xs ys → IsPrefix (mine has a xs) (mine has a ys)
  mine_prefix a xs ys p = (mine has a p.0, sym (mine_append a xs p.0) ∙ ap (mine has a) p.1)

  -- no step of the actor comes between two beginnings, so none does before the second
  pub mine_between : (a : Actor) (xs ys zs : List I) → IsPrefix xs ys → IsPrefix ys zs → mine has a xs ≡ mine has a zs → mine has a ys ≡ mine has a zs
  mine_between a xs ys zs p q same =
      let le : length (mine has a xs) ≤ length (mine has a ys) = prefix_length (mine has a xs) (mine has a ys) (mine_prefix a xs ys p) in
      prefix_whole (mine has a ys) (mine has a zs) (mine_prefix a ys zs q) (subst (λ (l : List I). length l ≤ length (mine has a ys)) same le)

  -- a step that is not the actor's
  pub mine_other : (a : Actor) (xs : List I) (x : I) → has x a ≡ false → mine has a (xs ++ x ∷ []) ≡ mine has a xs
  mine_other a xs x not = mine_append a xs (x ∷ []) ∙ (ap (λ (b : Bool). mine has a xs ++ keep_if b x []) not ∙ append-nil (mine has a xs))

module _ {A : Type 0} where
  pub set_there : (l : List A) (i : ℕ) (a b : A) → get_elem? l i ≡ some a → get_elem? (set l i b) i ≡ some b
  set_there [] i a b e = absurd (some-ne-none a (sym e))
  set_there (x ∷ xs) zero a b e = refl
  set_there (x ∷ xs) (suc i) a b e = set_there xs i a b e

  -- what stands in a list with one more at its end
  pub at_end : (l : List A) (a b : A) (j : ℕ) → get_elem? (l ++ a ∷ []) j ≡ some b → (get_elem? l j ≡ some b) ⊎ ((j ≡ length l) × (a ≡ b))
  at_end [] a b zero e = inr (refl, some-injective a b e)
  at_end [] a b (suc j) e = absurd (some-ne-none b (sym e))
  at_end (x ∷ xs) a b zero e = inl e
  at_end (x ∷ xs) a b (suc j) e = ⊎_elim inl (λ t. inr (ap suc t.0, t.1)) (at_end xs a b j e)

pub not_true : (b : Bool) → (b ≡ true → ⊥) → b ≡ false
not_true true n = absurd (n refl)
not_true false n = refl

pub count_up : (a b c : ℕ) → a % 2 ^ 64 ≡ (b + c) % 2 ^ 64 → (a + 1) % 2 ^ 64 ≡ (b + (c + 1) % 2 ^ 64) % 2 ^ 64
count_up a b c e = omega arith

module _ {I : Type 0} where
  abbrev pub again : (Actor → List I) → List (Actor × List I) → List (Actor × List I)
  again f held = map (λ e. (e.0, f e.0)) held

  -- the names stay where only the lists change
  pub held_again : (f : Actor → List I) (held : List (Actor × List I)) (a : Actor) (l : List I) → In (a, l) (again f held) → (l ≡ f a) × Holding a held
  held_again f [] a l at = absurd at
  held_again f (e ∷ es) a l at = ⊎_elim
      (λ (t : (e.0, f e.0) ≡ (a, l)). let n : e.0 ≡ a = ap (λ (p : Actor × List I). p.0) t in
      (sym (ap (λ (p : Actor × List I). p.1) t) ∙ ap f n, (e.1, inl (λ i. (n i, e.1)))))
      (λ t. let r = held_again f es a l t in (r.0, (r.1.0, inr r.1.1)))
      at

  pub holding_again : (f : Actor → List I) (held : List (Actor × List I)) (a : Actor) → Holding a held → Holding a (again f held)
  holding_again f [] a h = absurd h.1
  holding_again f (e ∷ es) a h = ⊎_elim
      (λ (t : e ≡ (a, h.0)). let n : e.0 ≡ a = ap (λ (p : Actor × List I). p.0) t in (f a, inl (λ i. (n i, f (n i)))))
      (λ t. let r = holding_again f es a (h.0, t) in (r.0, inr r.1))
      h.1

  pub once_again : (f : Actor → List I) (held : List (Actor × List I)) → Once held → Once (again f held)
  once_again f [] o = tt
  once_again f (e ∷ es) o = ((λ h. o.0 (held_again f es e.0 h.0 h.1).1), once_again f es o.1)

module _ {I F : Type 0} (may : F → List I → I → Type 0) (f : F) where
  pub legal_snoc : (before xs : List I) (x : I) → Legal may f before xs → may f (before ++ xs) x → Legal may f before (xs ++ x ∷ [])
  legal_snoc before [] x l m = (subst (λ (p : List I). may f p x) (append-nil before) m, tt)
  legal_snoc before (y ∷ ys) x l m = (l.0, legal_snoc (before ++ y ∷ []) ys x l.1 (subst (λ (p : List I). may f p x) (sym (append_assoc before (y ∷ []) ys)) m))

  pub legal_begins : (before xs ys : List I) → Legal may f before (xs ++ ys) → Legal may f before xs
  legal_begins before [] ys l = tt
  legal_begins before (x ∷ xs) ys l = (l.0, legal_begins (before ++ x ∷ []) xs ys l.1)

module _ {I : Type 0} where
  pub held_named : (held : List (Actor × List I)) (a : Actor) → In a (names held) → Holding a held
  held_named [] a i = absurd i
  held_named (e ∷ es) a i = ⊎_elim (λ (t : e.0 ≡ a). (e.1, inl (λ j. (t j, e.1)))) (λ t. let h = held_named es a t in (h.0, inr h.1)) i

  pub named_held : (held : List (Actor × List I)) (a : Actor) → Holding a held → In a (names held)
  named_held [] a h = absurd h.1
  named_held (e ∷ es) a h = ⊎_elim (λ (t : e ≡ (a, h.0)). inl (ap (λ (p : Actor × List I). p.0) t)) (λ t. inr (named_held es a (h.0, t))) h.1

module _ {A : Type 0} where
  pub in_append : (x : A) (xs ys : List A) → In x (xs ++ ys) → In x xs ⊎ In x ys
  in_append x [] ys i = inr i
  in_append x (z ∷ zs) ys i = ⊎_elim (λ (t : z ≡ x). inl (inl t)) (λ t. ⊎_elim (λ u. inl (inr u)) inr (in_append x zs ys t)) i

  pub in_left : (x : A) (xs ys : List A) → In x xs → In x (xs ++ ys)
  in_left x [] ys i = absurd i
  in_left x (z ∷ zs) ys i = ⊎_elim (λ (t : z ≡ x). inl t) (λ t. inr (in_left x zs ys t)) i

  pub in_right : (x : A) (xs ys : List A) → In x ys → In x (xs ++ ys)
  in_right x [] ys i = i
  in_right x (z ∷ zs) ys i = inr (in_right x zs ys i)

module _ {I : Type 0} where
  pub holding_append : (xs ys : List (Actor × List I)) (a : Actor) → Holding a (xs ++ ys) → Holding a xs ⊎ Holding a ys
  holding_append xs ys a h = ⊎_elim (λ i. inl (h.0, i)) (λ i. inr (h.0, i)) (in_append (a, h.0) xs ys h.1)

  pub once_append : (xs ys : List (Actor × List I)) → Once xs → Once ys → ((a : Actor) → Holding a xs → Holding a ys → ⊥) → Once (xs ++ ys)
  once_append [] ys o p never = p
  once_append (e ∷ es) ys o p never = (
    (λ h. ⊎_elim (λ k. o.0 k) (λ k. never e.0 (e.1, inl refl) k) (holding_append es ys e.0 h)),
    once_append es ys o.1 p (λ a h k. never a (h.0, inr h.1) k),
  )

  longer_all : (xs ys now : List I) (b : Bool) → nat_lt (length xs) (length ys) ≡ b → IsPrefix xs now → IsPrefix ys now → IsPrefix (longer b xs ys) now
      × IsPrefix xs (longer b xs ys) × IsPrefix ys (longer b xs ys)
  longer_all xs ys now true is p q = let lt : length xs < length ys = grind (arith, nat_tests) in (q, prefix_short xs ys now p q (omega arith), prefix_refl ys)
  longer_all xs ys now false is p q = let le : length ys ≤ length xs = grind (arith, nat_tests) in (p, prefix_refl xs, prefix_short ys xs now q p le)

  -- the list that a join keeps lies between
  pub later_all : (m : ℕ) (xs ys now : List I) → IsPrefix xs now → IsPrefix ys now → (m ≢ 0 → xs ≡ now) → IsPrefix (later m xs ys) now
      × IsPrefix xs (later m xs ys) × IsPrefix ys (later m xs ys)
  later_all zero xs ys now p q whole = longer_all xs ys now (nat_lt (length xs) (length ys)) refl p q
  later_all (suc m) xs ys now p q whole = (p, prefix_refl xs, subst (IsPrefix ys) (sym (whole (λ e. absurd (omega arith)))) q)

  pub later_marked : (m : ℕ) (xs ys : List I) → m ≢ 0 → later m xs ys ≡ xs
  later_marked zero xs ys n = absurd (n refl)
  later_marked (suc m) xs ys n = refl

module _ {I : Type 0} (f : Actor → List I) where
  abbrev pub dealt : List Actor → List (Actor × List I)
  dealt as' = map (λ a. (a, f a)) as'

  pub dealt_in : (as' : List Actor) (a : Actor) (l : List I) → In (a, l) (dealt as') → (l ≡ f a) × In a as'
  dealt_in [] a l i = absurd i
  dealt_in (x ∷ xs) a l i = ⊎_elim
      (λ (t : (x, f x) ≡ (a, l)). let n : x ≡ a = ap (λ (p : Actor × List I). p.0) t in (sym (ap (λ (p : Actor × List I). p.1) t) ∙ ap f n, inl n))
      (λ t. let r = dealt_in xs a l t in (r.0, inr r.1))
      i

  pub dealt_once : (as' : List Actor) → Apart as' → Once (dealt as')
  dealt_once [] o = tt
  dealt_once (x ∷ xs) o = ((λ h. o.0 (dealt_in xs x h.0 h.1).1), dealt_once xs o.1)

  pub dealt_some : (as' : List Actor) → 0 < length as' → (a : Actor) × Holding a (dealt as')
  dealt_some [] p = absurd (omega arith)
  dealt_some (x ∷ xs) p = (x, (f x, inl refl))

  pub dealt_names : (as' : List Actor) → names (dealt as') ≡ as'
  dealt_names [] = refl
  dealt_names (x ∷ xs) = ap (λ (l : List Actor). x ∷ l) (dealt_names xs)

module _ {A : Type 0} where
  pub in_take : (n : ℕ) (xs : List A) (x : A) → In x (take n xs) → In x xs
  in_take n [] x i = no_take n x i
    where
      no_take : (n : ℕ) (x : A) → In x (take n []) → ⊥
      no_take zero x i = i
      no_take (suc n) x i = i
  in_take zero (y ∷ ys) x i = absurd i
  in_take (suc n) (y ∷ ys) x i = ⊎_elim (λ (t : y ≡ x). inl t) (λ q. inr (in_take n ys x q)) i

  pub in_drop : (n : ℕ) (xs : List A) (x : A) → In x (drop n xs) → In x xs
  in_drop n [] x i = no_drop n x i
    where
      no_drop : (n : ℕ) (x : A) → In x (drop n []) → ⊥
      no_drop zero x i = i
      no_drop (suc n) x i = i
  in_drop zero (y ∷ ys) x i = i
  in_drop (suc n) (y ∷ ys) x i = inr (in_drop n ys x i)

module _ {I : Type 0} where
  pub once_cut : (n : ℕ) (xs : List (Actor × List I)) → Once xs → Once (take n xs) × Once (drop n xs)
      × ((a : Actor) → Holding a (take n xs) → Holding a (drop n xs) → ⊥)
  once_cut zero [] o = (tt, tt, λ a p _. p.1)
  once_cut (suc n) [] o = (tt, tt, λ a p _. p.1)
  once_cut zero (e ∷ es) o = (tt, o, λ a p _. p.1)
  once_cut (suc n) (e ∷ es) o = let r = once_cut n es o.1 in (
    ((λ h. o.0 (h.0, in_take n es (e.0, h.0) h.1)), r.0),
    r.1,
    λ a p q. ⊎_elim
        (λ (t : e ≡ (a, p.0)). o.0 (
          q.0,
          in_drop n es (e.0, q.0)
              (subst (λ (b : Actor). In (b, q.0) (drop n es)) (sym (ap (λ (z : Actor × List I). z.0) t)) q.1),
        ))
        (λ i. r.2 a (p.0, i) q)
        p.1,
  )

  pub held_some : (held : List (Actor × List I)) → 0 < length (names held) → (a : Actor) × Holding a held
  held_some [] h = absurd (omega arith)
  held_some (e ∷ es) h = (e.0, (e.1, inl refl))
