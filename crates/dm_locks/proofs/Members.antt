-- What stands in a list, and in front of what.
use Rattle.std.proofs.Common.{ℕ, zero, suc, ◌<◌, ◌≤◌, ◌≡◌, Bool, true, false, cond, List, [], ◌∷◌, ◌++◌, length, get_or, Some, None, refl, sym, ap}
use Rattle.std.proofs.Common.{◌∙◌, subst, arith, inl, inr, ◌⊎◌}
use Rattle.std.proofs.lemmas.Bool.{false≢true, cases_Bool}
use Rattle.std.specs.List.{AllByRecursion as Each, Contains, filter}
use Rattle.std.specs.Prelude.{find}
use Rattle.dm_event.specs.declared.step.TxnId.{TxnId}
use Rattle.dm_locks.specs.Claims.{before, claim_of, is_of}
use Rattle.dm_locks.specs.declared.claim.Claim.{Claim}
use Rattle.dm_model.proofs.SameValues.{txn_own}
use Rattle.dm_model.proofs.SameValues.{txn_same}
use Rattle.dm_model.specs.Words.{count_of}

-- the claim is one of the list
abbrev pub In : Claim → List Claim → Type 0
In x [] = ⊥
In x (y ∷ ys) = (y ≡ x) ⊎ In x ys

pub each_at : (P : Claim → Type 0) (x : Claim) (xs : List Claim) → In x xs → Each P xs → P x
each_at P x [] m h = absurd m
each_at P x (y ∷ ys) (inl e) h = subst P e h.0
each_at P x (y ∷ ys) (inr m) h = each_at P x ys m h.1

pub each_from : (P : Claim → Type 0) (xs : List Claim) → ((x : Claim) → In x xs → P x) → Each P xs
each_from P [] f = tt
each_from P (x ∷ xs) f = (f x (inl refl), each_from P xs (λ y m. f y (inr m)))

pub in_from : (x : Claim) (xs : List Claim) (k : ℕ) → k < length xs → get_or xs k x ≡ x → In x xs
in_from x [] k l e = absurd (omega arith)
in_from x (y ∷ ys) zero l e = inl e
in_from x (y ∷ ys) (suc k) l e = inr (in_from x ys k (omega arith) e)

pub in_contains : (x : Claim) (xs : List Claim) → In x xs → Contains xs x
in_contains x [] m = absurd m
in_contains x (y ∷ ys) (inl e) = (0, omega arith, e)
in_contains x (y ∷ ys) (inr m) = let c = in_contains x ys m in (suc c.0, omega (arith, c.1), c.2)

pub in_left : (x : Claim) (xs ys : List Claim) → In x xs → In x (xs ++ ys)
in_left x [] ys m = absurd m
in_left x (y ∷ xs) ys (inl e) = inl e
in_left x (y ∷ xs) ys (inr m) = inr (in_left x xs ys m)

pub in_right : (x : Claim) (xs ys : List Claim) → In x ys → In x (xs ++ ys)
in_right x [] ys m = m
in_right x (y ∷ xs) ys m = inr (in_right x xs ys m)

pub in_counted : (p : Claim → Bool) (x : Claim) (xs : List Claim) → In x xs → p x ≡ true → 1 ≤ count_of p xs
in_counted p x [] m e = absurd m
in_counted p x (y ∷ ys) (inl q) e = by_test (p y) (ap p q ∙ e)
  where
    by_test : (b : Bool) → b ≡ true → 1 ≤ cond b (suc (count_of p ys)) (count_of p ys)
    by_test true r = omega arith
    by_test false r = absurd (false≢true r)
in_counted p x (y ∷ ys) (inr m) e = by_test (p y) (in_counted p x ys m e)
  where
    by_test : (b : Bool) → 1 ≤ count_of p ys → 1 ≤ cond b (suc (count_of p ys)) (count_of p ys)
    by_test true l = omega arith
    by_test false l = l

pub found_in : (p : Claim → Bool) (x : Claim) (xs : List Claim) → find p xs ≡ Some x → In x xs
found_in p x [] h = absurd (cc (h))
found_in p x (y ∷ ys) h = by_test (p y) (found_in p x ys) h
  where
    by_test : (b : Bool) → (find p ys ≡ Some x → In x ys) → cond b (Some y) (find p ys) ≡ Some x → In x (y ∷ ys)
    by_test true rest e = inl (cc (e))
    by_test false rest e = inr (rest e)

-- ---- in front

before_step : (txn : TxnId) (claim other : Claim) (claims more : List Claim) (b : Bool) → cond b (Some other) (claim_of txn claims) ≡ Some claim
    → (claim_of txn claims ≡ Some claim → before txn (claims ++ more) ≡ before txn claims)
    → cond b [] (other ∷ before txn (claims ++ more)) ≡ cond b [] (other ∷ before txn claims)
before_step txn claim other claims more true e rest = refl
before_step txn claim other claims more false e rest = ap (λ (cs : List Claim). other ∷ cs) (rest e)

-- who asks later stands behind
pub before_asked : (txn : TxnId) (claim : Claim) (claims more : List Claim) → claim_of txn claims ≡ Some claim → before txn (claims ++ more) ≡ before txn claims
before_asked txn claim [] more h = absurd (cc (h))
before_asked txn claim (other ∷ claims) more h = before_step txn claim other claims more (is_of txn other) h (before_asked txn claim claims more)

-- of two that wait one is in front of the other
pub one_in_front : (a t : TxnId) (x y : Claim) (claims : List Claim) → claim_of a claims ≡ Some x → claim_of t claims ≡ Some y → is_of a y ≡ false
    → In y (before a claims) ⊎ In x (before t claims)
one_in_front a t x y [] h k n = absurd (cc (h))
one_in_front a t x y (c ∷ cs) h k n = by_tests (is_of a c) (is_of t c) refl h k (one_in_front a t x y cs)
  where
    by_tests : (b d : Bool) → is_of a c ≡ b → cond b (Some c) (claim_of a cs) ≡ Some x → cond d (Some c) (claim_of t cs) ≡ Some y
        → (claim_of a cs ≡ Some x → claim_of t cs ≡ Some y → is_of a y ≡ false → In y (before a cs) ⊎ In x (before t cs))
        → In y (cond b [] (c ∷ before a cs)) ⊎ In x (cond d [] (c ∷ before t cs))
    by_tests true true q e f rest =
        let s : c ≡ y = cc (f) in
        absurd (false≢true (sym n ∙ ap (λ (z : Claim). is_of a z) (sym s) ∙ q))
    by_tests true false q e f rest = let s : c ≡ x = cc (e) in inr (inl s)
    by_tests false true q e f rest = let s : c ≡ y = cc (f) in inl (inl s)
    by_tests false false q e f rest = elim (rest e f n) [ inl m ↦ inl (inr m) | inr m ↦ inr (inr m) ]

-- and not both
pub not_both_in_front : (x y : Claim) (claims : List Claim) → In x (before y.txn claims) → In y (before x.txn claims) → ⊥
not_both_in_front x y [] m n = m
not_both_in_front x y (c ∷ cs) m n = by_tests (is_of y.txn c) (is_of x.txn c) refl refl m n (not_both_in_front x y cs)
  where
    by_tests : (b d : Bool) → is_of y.txn c ≡ b → is_of x.txn c ≡ d → In x (cond b [] (c ∷ before y.txn cs)) → In y (cond d [] (c ∷ before x.txn cs))
        → (In x (before y.txn cs) → In y (before x.txn cs) → ⊥) → ⊥
    by_tests true d q r m n rest = m
    by_tests false true q r m n rest = n
    by_tests false false q r (inl e) n rest = false≢true (sym r ∙ ap (λ (z : Claim). is_of x.txn z) e ∙ txn_own x.txn)
    by_tests false false q r (inr m) (inl e) rest = false≢true (sym q ∙ ap (λ (z : Claim). is_of y.txn z) e ∙ txn_own y.txn)
    by_tests false false q r (inr m) (inr n) rest = rest m n

-- ---- what a test on transactions leaves

pub gone : (r : TxnId → Bool) (a : TxnId) → r a ≡ false → (claims : List Claim) → claim_of a (filter (λ c. r c.txn) claims) ≡ None
gone r a n [] = refl
gone r a n (c ∷ cs) = by_tests (filter (λ x. r x.txn) cs) (r c.txn) (is_of a c) refl refl (gone r a n cs)
  where
    by_tests : (left : List Claim) (b d : Bool) → r c.txn ≡ b → is_of a c ≡ d → claim_of a left ≡ None → claim_of a (cond b (c ∷ left) left) ≡ None
    by_tests left true true k q rest = absurd (false≢true (sym n ∙ ap r (sym (txn_same c.txn a q)) ∙ k))
    by_tests left true false k q rest = ap (λ (b : Bool). cond b (Some c) (claim_of a left)) q ∙ rest
    by_tests left false d k q rest = rest

-- who is left passes
pub passes : (r : TxnId → Bool) (claim : Claim) (claims : List Claim) → claim_of claim.txn (filter (λ c. r c.txn) claims) ≡ Some claim → r claim.txn ≡ true
passes r claim claims waits = elim (cases_Bool (r claim.txn)) [
  | inl t ↦ t
  | inr n ↦ absurd (let nothing = gone r claim.txn n claims in cc (nothing, waits))
]

pub claim_left : (r : TxnId → Bool) (a : TxnId) → r a ≡ true → (claims : List Claim) → claim_of a (filter (λ c. r c.txn) claims) ≡ claim_of a claims
claim_left r a t [] = refl
claim_left r a t (c ∷ cs) = by_tests (filter (λ x. r x.txn) cs) (is_of a c) (r c.txn) refl refl (claim_left r a t cs)
  where
    by_tests : (left : List Claim) (b d : Bool) → is_of a c ≡ b → r c.txn ≡ d → claim_of a left ≡ claim_of a cs
        → claim_of a (cond d (c ∷ left) left) ≡ cond b (Some c) (claim_of a cs)
    by_tests left true true q k rest = ap (λ (b : Bool). cond b (Some c) (claim_of a left)) q
    by_tests left true false q k rest = absurd (false≢true (sym k ∙ ap r (txn_same c.txn a q) ∙ t))
    by_tests left false true q k rest = ap (λ (b : Bool). cond b (Some c) (claim_of a left)) q ∙ rest
    by_tests left false false q k rest = rest

-- what is in front of one that is left stays in front of it, or goes
pub before_left : (R : Claim → Type 0) (r : TxnId → Bool) (a : TxnId) → r a ≡ true → (claims : List Claim) → Each R (before a claims)
    → Each R (before a (filter (λ c. r c.txn) claims))
before_left R r a t [] h = tt
before_left R r a t (c ∷ cs) h = by_tests (filter (λ x. r x.txn) cs) (is_of a c) (r c.txn) refl refl h (before_left R r a t cs)
  where
    by_tests : (left : List Claim) (b d : Bool) → is_of a c ≡ b → r c.txn ≡ d → Each R (cond b [] (c ∷ before a cs)) → (Each R (before a cs) → Each R (before a left))
        → Each R (before a (cond d (c ∷ left) left))
    by_tests left true true q k h rest = subst (λ (b : Bool). Each R (cond b [] (c ∷ before a left))) (sym q) tt
    by_tests left true false q k h rest = absurd (false≢true (sym k ∙ ap r (txn_same c.txn a q) ∙ t))
    by_tests left false true q k h rest = subst (λ (b : Bool). Each R (cond b [] (c ∷ before a left))) (sym q) (h.0, rest h.1)
    by_tests left false false q k h rest = rest h.1

-- ---- at the end

-- where nobody before is the transaction's, the last may be
pub found_last : (a : TxnId) (last claim : Claim) (claims : List Claim) → claim_of a claims ≡ None → claim_of a (claims ++ last ∷ []) ≡ Some claim
    → is_of a last ≡ true
found_last a last claim [] n f = by_test (is_of a last) f
  where
    by_test : (b : Bool) → cond b (Some last) None ≡ Some claim → b ≡ true
    by_test true f = refl
    by_test false f = absurd (cc (f))
found_last a last claim (c ∷ cs) n f = by_test (is_of a c) n f (found_last a last claim cs)
  where
    by_test : (b : Bool) → cond b (Some c) (claim_of a cs) ≡ None → cond b (Some c) (claim_of a (cs ++ last ∷ [])) ≡ Some claim
        → (claim_of a cs ≡ None → claim_of a (cs ++ last ∷ []) ≡ Some claim → is_of a last ≡ true) → is_of a last ≡ true
    by_test true n f rest = absurd (cc (n))
    by_test false n f rest = rest n f
