-- The first line and the first word of a text.
use Rattle.std.proofs.Common.{◌≡◌, refl, ap, ℕ, ◌+◌, ◌<◌, ◌≤◌, List, [], ◌∷◌, take, drop, length, Bool, true, false, cond, arith}
use Rattle.std.specs.Prelude.{Some, None, suc, position, nat_lt, filter, ◌==◌}
use Rattle.std.specs.List.{slice_split, onto_first, position_or_len}
use Rattle.std.specs.Str.Lines.{lines, strip_carriage_return}
use Rattle.std.proofs.lemmas.List.Splits.{slice_split_first, slice_split_none}
use Rattle.std.proofs.lemmas.List.Sums.{fails_before_first}
use Rattle.std.proofs.lemmas.Bool.{ltb-true, ltb-false, lt-ltb}
use Rattle.std.proofs.lemmas.Bool.Decides.{nat_tests}
use Rattle.dm_text.specs.Text.{is_blank, words_of, with_first}

found_at : (b : Bool) (n i : ℕ) → cond b (Some n) None ≡ Some i → (b ≡ true) × (n ≡ i)
found_at true n i e = (refl, cc)
found_at false n i e = absurd cc

found_none : (b : Bool) (n : ℕ) → cond b (Some n) None ≡ None → b ≡ false
found_none true n e = absurd cc
found_none false n e = refl

pub split_at : (p : ℕ → Bool) (xs : List ℕ) (i : ℕ) → position p xs ≡ Some i → (i < length xs)
    × (slice_split p xs ≡ take i xs ∷ slice_split p (drop (i + 1) xs))
split_at p xs i e =
    let f = found_at (nat_lt (position_or_len p xs) (length xs)) (position_or_len p xs) i e in
    let lt : position_or_len p xs < length xs = ltb-true _ _ f.0 in
    (rw (← f.1) lt, rw (← f.1) (slice_split_first p xs 0 lt))

pub split_none : (p : ℕ → Bool) (xs : List ℕ) → position p xs ≡ None → slice_split p xs ≡ xs ∷ []
split_none p xs e =
    let f : nat_lt (position_or_len p xs) (length xs) ≡ false = found_none _ (position_or_len p xs) e in
    let le : length xs ≤ position_or_len p xs = ltb-false _ _ f in
    slice_split_none p xs (λ i d lt. fails_before_first p xs i d (omega arith))

-- there is a first part
parts : (p : ℕ → Bool) (xs : List ℕ) → (part : List ℕ) × (others : List (List ℕ)) × (slice_split p xs ≡ part ∷ others)
parts p [] = ([], [], refl)
parts p (x ∷ xs) = cut (p x) x (slice_split p xs)
  where
    cut : (b : Bool) (x : ℕ) (others : List (List ℕ)) → (part : List ℕ) × (more : List (List ℕ)) × (cond b ([] ∷ others) (onto_first x others) ≡ part ∷ more)
    cut true x others = ([], others, refl)
    cut false x [] = (x ∷ [], [], refl)
    cut false x (part ∷ others) = (x ∷ part, others, refl)

pub line_at : (text : List ℕ) (i : ℕ) → position (λ b. b == 10) text ≡ Some i → lines text ≡ strip_carriage_return (take i text) ∷ lines (drop (i + 1) text)
line_at text i e =
    let s = (split_at (λ b. b == 10) text i e).1 in
    let p = parts (λ b. b == 10) (drop (i + 1) text) in
    rw (s, p.2) refl

not_empty : (n : ℕ) → 0 < n → (n == 0) ≡ false
not_empty n lt = grind (arith, nat_tests)

pub line_last : (text : List ℕ) → 0 < length text → position (λ b. b == 10) text ≡ None → lines text ≡ text ∷ []
line_last text lt e = rw (split_none (λ b. b == 10) text e, not_empty (length text) lt) refl

pub word_at : (text : List ℕ) (i : ℕ) → position is_blank text ≡ Some i → words_of text ≡ with_first (take i text) (words_of (drop (i + 1) text))
word_at text i e = rw ((split_at is_blank text i e).1) refl

pub word_last : (text : List ℕ) → position is_blank text ≡ None → words_of text ≡ with_first text []
word_last text e = rw (split_none is_blank text e) refl

one_word : (word : List ℕ) (found : List (List ℕ)) → 0 < length word
    → length (filter (λ w. nat_lt 0 (length w)) (word ∷ found)) ≡ suc (length (filter (λ w. nat_lt 0 (length w)) found))
one_word word found h =
    ap (λ (b : Bool). length (cond b (word ∷ filter (λ w. nat_lt 0 (length w)) found) (filter (λ w. nat_lt 0 (length w)) found))) (lt-ltb 0 (length word) h)

-- a line has at most as many words as bytes
pub few_words : (line : List ℕ) → length (words_of line) ≤ length line
few_words [] = omega arith
few_words (b ∷ line) = cut (is_blank b) (slice_split is_blank line) (few_words line)
  where
    cut : (blank : Bool) (found : List (List ℕ)) → length (filter (λ word. nat_lt 0 (length word)) found) ≤ length line
        → length (filter (λ word. nat_lt 0 (length word)) (cond blank ([] ∷ found) (onto_first b found))) ≤ suc (length line)
    cut true found h = omega (arith, h)
    cut false [] h = omega arith
    cut false ([] ∷ found) h = omega (arith, h)
    cut false ((c ∷ part) ∷ found) h =
        let one = one_word (b ∷ c ∷ part) found (omega arith) in
        let same = one_word (c ∷ part) found (omega arith) in
        omega (arith, h, one, same)
