-- What it means that a chain of readings came to its end.
use Rattle.std.proofs.Common.{◌≡◌, refl, Bool, true, false, cond, List, Result, Ok, Err, Option, Some, None, ◌++◌, [], ◌∷◌, ℕ}
use Rattle.std.specs.Prelude.{◌&&◌, if◌then◌else◌}
use Rattle.std.specs.Str.{bytes_eq}
use Rattle.std.specs.List.{list_all}
use Rattle.std.proofs.lemmas.Slice.Eq.{bytes_eq-Decides}
use Rattle.dm_event.specs.declared.why.LineFault.{LineFault}
use Rattle.dm_fields.specs.Fields.{◌>>=◌, made, check, or_fault}

pub bind_ok : {A B : Type 0} (r : Result A LineFault) (f : A → Result B LineFault) (y : B) → (r >>= f) ≡ Ok y → (x : A) × (r ≡ Ok x) × (f x ≡ Ok y)
bind_ok (Ok x) f y e = (x, refl, e)
bind_ok (Err fault) f y e = absurd cc

pub made_ok : {A B : Type 0} (f : A → B) (r : Result A LineFault) (y : B) → made f r ≡ Ok y → (x : A) × (r ≡ Ok x) × (f x ≡ y)
made_ok f (Ok x) y e = (x, refl, cc)
made_ok f (Err fault) y e = absurd cc

pub check_ok : (fault : LineFault) (b : Bool) (u : Unit {0}) → check fault b ≡ Ok u → b ≡ true
check_ok fault true u e = refl
check_ok fault false u e = absurd cc

pub or_fault_ok : {A : Type 0} (fault : LineFault) (o : Option A) (x : A) → or_fault fault o ≡ Ok x → o ≡ Some x
or_fault_ok fault (Some y) x e = cc
or_fault_ok fault None x e = absurd cc

pub same_ok : {A : Type 0} (x y : A) → ◌≡◌ {A = Result A LineFault} (Ok x) (Ok y) → x ≡ y
same_ok x y e = cc

pub no_ok : {A : Type 0} {P : Type 0} (fault : LineFault) (x : A) → ◌≡◌ {A = Result A LineFault} (Err fault) (Ok x) → P
no_ok fault x e = absurd cc

pub and_true : (a b : Bool) → (a && b) ≡ true → (a ≡ true) × (b ≡ true)
and_true true b e = (refl, e)
and_true false b e = absurd cc

pub and_from : (a b : Bool) → a ≡ true → b ≡ true → (a && b) ≡ true
and_from a b e f = rw (e, f) refl

-- the word is the text and one reading goes on, or the other does
pub told_by : {A P : Type 0} (word text : List ℕ) (x y : Result A LineFault) (z : A) → (if bytes_eq word text then x else y) ≡ Ok z
    → (word ≡ text → x ≡ Ok z → P) → (y ≡ Ok z → P) → P
told_by {A} {P} word text x y z e if_so if_not = cut (bytes_eq word text) ((bytes_eq-Decides word text).0) e
  where
    cut : (b : Bool) → (b ≡ true → word ≡ text) → cond b x y ≡ Ok z → P
    cut true d h = if_so (d refl) h
    cut false d h = if_not h

-- the same of a plain test
pub tested_by : {A P : Type 0} (b : Bool) (x y : Result A LineFault) (z : A) → (if b then x else y) ≡ Ok z → (b ≡ true → x ≡ Ok z → P)
    → (b ≡ false → y ≡ Ok z → P) → P
tested_by true x y z e if_so if_not = if_so refl e
tested_by false x y z e if_so if_not = if_not refl e

pub same_text : (text : List ℕ) → bytes_eq text text ≡ true
same_text text = (bytes_eq-Decides text text).1 refl

pub all_append : {A : Type 0} (p : A → Bool) (xs ys : List A) → list_all p xs ≡ true → list_all p ys ≡ true → list_all p (xs ++ ys) ≡ true
all_append p [] ys e f = f
all_append p (x ∷ xs) ys e f = let h = and_true (p x) (list_all p xs) e in and_from (p x) (list_all p (xs ++ ys)) h.0 (all_append p xs ys h.1 f)

pub all_weaker : {A : Type 0} (p q : A → Bool) (xs : List A) → ((x : A) → p x ≡ true → q x ≡ true) → list_all p xs ≡ true → list_all q xs ≡ true
all_weaker p q [] f e = refl
all_weaker p q (x ∷ xs) f e = let h = and_true (p x) (list_all p xs) e in and_from (q x) (list_all q xs) (f x h.0) (all_weaker p q xs f h.1)

-- the same as `bind_ok`, for what follows from it
pub by_bind : {A B P : Type 0} (r : Result A LineFault) (f : A → Result B LineFault) (y : B) → (r >>= f) ≡ Ok y → ((x : A) → r ≡ Ok x → f x ≡ Ok y → P) → P
by_bind (Ok x) f y e k = k x refl e
by_bind (Err fault) f y e k = absurd cc
