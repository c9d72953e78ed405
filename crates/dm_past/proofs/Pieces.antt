-- Texts cut at a byte and put together again.
use Rattle.std.proofs.Common.{◌≡◌, ◌∙◌, refl, sym, ap, Bool, true, false, cond, List, Option, Some, None, ◌++◌, [], ◌∷◌, arith, ℕ, suc, ◌+◌, ◌<◌, length, take, drop, nat_lt, map, length-append, append-nil}
use Rattle.std.specs.Prelude.{◌==◌, not, option_map, position}
use Rattle.std.specs.List.{list_all, onto_first, position_or_len, join_with_byte}
use Rattle.std.proofs.lemmas.Bool.Decides.{nat_tests}
use Rattle.std.proofs.lemmas.List.Splits.{join_with_byte-slice_split}
use Rattle.dm_text.specs.Texts.{joined}
use Rattle.std.proofs.Math.Seq.{take-append_seam, drop-append-add}
use Rattle.std.proofs.lemmas.Bool.{lt-ltb, eqb-true}
use Rattle.dm_text.proofs.Cuts.{split_at}
use Rattle.dm_kinds.specs.Marks.{pieces_of, cut_at}
use Rattle.dm_past.specs.Cuts.{lines_in}
use Rattle.dm_kinds.proofs.Chains.{and_true}

-- the mark stands nowhere in the text
abbrev pub lacks : ℕ → List ℕ → Bool
lacks mark text = list_all (λ b. not (b == mark)) text

itself : (n : ℕ) → (n == n) ≡ true
itself n = grind (arith, nat_tests)

not_true : (b : Bool) → not b ≡ true → b ≡ false
not_true true e = absurd cc
not_true false e = refl

onto : (x : ℕ) (a : List ℕ) (others whole : List (List ℕ)) → whole ≡ a ∷ others → onto_first x whole ≡ (x ∷ a) ∷ others
onto x a others whole e = rw e refl

pub pieces_first : (mark : ℕ) (a b : List ℕ) → lacks mark a ≡ true → pieces_of mark (a ++ mark ∷ b) ≡ a ∷ pieces_of mark b
pieces_first mark [] b h = rw (itself mark) refl
pieces_first mark (x ∷ a) b h =
    let p = and_true (not (x == mark)) (lacks mark a) h in
    rw (not_true (x == mark) p.0) (onto x a (pieces_of mark b) (pieces_of mark (a ++ mark ∷ b)) (pieces_first mark a b p.1))

pub pieces_last : (mark : ℕ) (a : List ℕ) → lacks mark a ≡ true → pieces_of mark a ≡ a ∷ []
pieces_last mark [] h = refl
pieces_last mark (x ∷ a) h =
    let p = and_true (not (x == mark)) (lacks mark a) h in
    rw (not_true (x == mark) p.0) (onto x a [] (pieces_of mark a) (pieces_last mark a p.1))

-- where the first mark is
pub place_of : (mark : ℕ) (a b : List ℕ) → lacks mark a ≡ true → position_or_len (λ c. c == mark) (a ++ mark ∷ b) ≡ length a
place_of mark [] b h = rw (itself mark) refl
place_of mark (x ∷ a) b h =
    let p = and_true (not (x == mark)) (lacks mark a) h in
    rw p.0 (omega (arith, place_of mark a b p.1))

pub first_piece : (mark : ℕ) (text : List ℕ) → (part : List ℕ) × (others : List (List ℕ)) × (pieces_of mark text ≡ part ∷ others)
first_piece mark [] = ([], [], refl)
first_piece mark (x ∷ xs) = cut (x == mark) (pieces_of mark xs)
  where
    cut : (b : Bool) (others : List (List ℕ)) → (part : List ℕ) × (more : List (List ℕ)) × (cond b ([] ∷ others) (onto_first x others) ≡ part ∷ more)
    cut true others = ([], others, refl)
    cut false [] = (x ∷ [], [], refl)
    cut false (part ∷ others) = (x ∷ part, others, refl)

-- where a cut is, and what it leaves
place_cut : (o : Option ℕ) (f : ℕ → List ℕ × List ℕ) (y : List ℕ × List ℕ) → option_map f o ≡ Some y → (i : ℕ) × (o ≡ Some i) × (f i ≡ y)
place_cut None f y e = absurd cc
place_cut (Some i) f y e = (i, refl, cc)

same_pieces : (mark : ℕ) (a b c d : List ℕ) → a ≡ c → b ≡ d → ◌≡◌ {A = List (List ℕ)} (a ∷ pieces_of mark b) (c ∷ pieces_of mark d)
same_pieces mark a b c d e f = rw (e, f) refl

pub pieces_cut : (mark : ℕ) (text a b : List ℕ) → cut_at mark text ≡ Some (a, b) → pieces_of mark text ≡ a ∷ pieces_of mark b
pieces_cut mark text a b e =
    let p = place_cut (position (λ c. c == mark) text) (λ i. (take i text, drop (i + 1) text)) (a, b) e in
    let s = (split_at (λ c. c == mark) text p.0 p.1).1 in
    let ea : take p.0 text ≡ a = ap (λ (q : List ℕ × List ℕ). q.0) p.2 in
    let eb : drop (p.0 + 1) text ≡ b = ap (λ (q : List ℕ × List ℕ). q.1) p.2 in
    s ∙ same_pieces mark (take p.0 text) (drop (p.0 + 1) text) a b ea eb

joined_more : (mark : ℕ) (a : List ℕ) (others : List (List ℕ)) → (part : List ℕ) (more : List (List ℕ)) → others ≡ part ∷ more
    → join_with_byte mark (a ∷ others) ≡ a ++ mark ∷ join_with_byte mark others
joined_more mark a others part more e = rw e refl

pub cut_is : (mark : ℕ) (text a b : List ℕ) → cut_at mark text ≡ Some (a, b) → text ≡ a ++ mark ∷ b
cut_is mark text a b e =
    let f = first_piece mark b in
    sym (join_with_byte-slice_split mark text) ∙ ap (join_with_byte mark) (pieces_cut mark text a b e)
    ∙ joined_more mark a (pieces_of mark b) f.0 f.1 f.2 ∙ ap (λ (t : List ℕ). a ++ mark ∷ t) (join_with_byte-slice_split mark b)

at_place : (n i : ℕ) (text : List ℕ) (y : List ℕ × List ℕ) → i ≡ n → n < length text → ◌≡◌ {A = List ℕ × List ℕ} (take n text, drop (n + 1) text) y
    → option_map (λ k. (take k text, drop (k + 1) text)) (cond (nat_lt i (length text)) (Some i) None) ≡ Some y
at_place n i text y e lt f = rw (e, lt-ltb n (length text) lt, f) refl

pub cut_again : (mark : ℕ) (a b : List ℕ) → lacks mark a ≡ true → cut_at mark (a ++ mark ∷ b) ≡ Some (a, b)
cut_again mark a b h =
    let lt : length a < length (a ++ mark ∷ b) = simp length-append (omega arith) in
    at_place (length a) (position_or_len (λ c. c == mark) (a ++ mark ∷ b)) (a ++ mark ∷ b) (a, b) (place_of mark a b h) lt (parts a)
  where
    parts : (front : List ℕ) → ◌≡◌ {A = List ℕ × List ℕ} (take (length front) (front ++ mark ∷ b), drop (length front + 1) (front ++ mark ∷ b)) (front, b)
    parts front = rw (take-append_seam front (mark ∷ b), drop-append-add front (mark ∷ b) 1) refl

-- a list with a mark between each two, by its pieces
pub joined_pieces : {A : Type 0} (mark : ℕ) (text : A → List ℕ) (typed : A → Bool) (x : A) (xs : List A) → ((y : A) → typed y ≡ true → lacks mark (text y) ≡ true)
    → list_all typed (x ∷ xs) ≡ true → pieces_of mark (joined mark text (x ∷ xs)) ≡ map text (x ∷ xs)
joined_pieces mark text typed x [] h all = rw append-nil (pieces_last mark (text x) (h x (and_true (typed x) true all).0))
joined_pieces mark text typed x (y ∷ ys) h all =
    let t = and_true (typed x) (list_all typed (y ∷ ys)) all in
    pieces_first mark (text x) (joined mark text (y ∷ ys)) (h x t.0)
    ∙ ap (λ (ps : List (List ℕ)). text x ∷ ps) (joined_pieces mark text typed y ys h t.1)

pub joined_texts : {A : Type 0} (mark : ℕ) (text : A → List ℕ) (x : A) (xs : List A) → join_with_byte mark (map text (x ∷ xs)) ≡ joined mark text (x ∷ xs)
joined_texts mark text x [] = sym (append-nil (text x))
joined_texts mark text x (y ∷ ys) = ap (λ (t : List ℕ). text x ++ mark ∷ t) (joined_texts mark text y ys)

-- ---- lines

more_lines : (line : List ℕ) (others : List (List ℕ)) (part : List ℕ) (more : List (List ℕ)) → others ≡ part ∷ more → lines_in (line ∷ others) ≡ (line, true) ∷ lines_in others
more_lines line others part more e = rw e refl

pub line_some : (text a b : List ℕ) → pieces_of 10 text ≡ a ∷ pieces_of 10 b → lines_in (pieces_of 10 text) ≡ (a, true) ∷ lines_in (pieces_of 10 b)
line_some text a b e = let f = first_piece 10 b in rw e (more_lines a (pieces_of 10 b) f.0 f.1 f.2)

pub line_none : (text : List ℕ) → 0 < length text → pieces_of 10 text ≡ text ∷ [] → lines_in (pieces_of 10 text) ≡ (text, false) ∷ []
line_none text lt e = rw (e, lt-ltb 0 (length text) lt) refl

pub no_lines : (text : List ℕ) → (length text == 0) ≡ true → lines_in (pieces_of 10 text) ≡ []
no_lines [] e = refl
no_lines (x ∷ xs) e = let none = eqb-true (suc (length xs)) 0 e in absurd (omega (arith, none))
