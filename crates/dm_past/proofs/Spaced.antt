-- A line that is words with one space between each two, and a line feed.
use Rattle.std.proofs.Common.{◌≡◌, ◌∙◌, refl, sym, ap, Bool, true, false, List, ◌++◌, [], ◌∷◌, arith, ℕ, length, nat_lt, map, append-nil, append_assoc}
use Rattle.std.specs.Prelude.{◌&&◌, ◌||◌, ◌==◌, not, codes, filter}
use Rattle.std.specs.List.{list_all, slice_split, join_with_byte}
use Rattle.std.proofs.lemmas.Bool.Decides.{nat_tests}
use Rattle.std.proofs.lemmas.List.Splits.{join_with_byte-slice_split}
use Rattle.dm_text.specs.Text.{is_blank, words_of}
use Rattle.dm_history.specs.Parts.{spaced, line_of}
use Rattle.dm_fields.specs.Fields.{Words}
use Rattle.dm_kinds.specs.Marks.{pieces_of}
use Rattle.dm_past.specs.Cuts.{is_piece, are_pieces, is_spaced}
use Rattle.dm_kinds.proofs.Chains.{and_true, and_from, all_append, all_weaker}
use Rattle.dm_past.proofs.Pieces.{lacks, pieces_first, pieces_last}

-- a byte that is neither a blank nor ends a line
abbrev pub is_ink : ℕ → Bool
is_ink b = nat_lt 32 b

abbrev pub is_word : List ℕ → Bool
is_word word = nat_lt 0 (length word) && list_all is_ink word

ink_no_space : (b : ℕ) → is_ink b ≡ true → not (b == 32) ≡ true
ink_no_space b h = grind (arith, nat_tests)

ink_no_tab : (b : ℕ) → is_ink b ≡ true → not (b == 9) ≡ true
ink_no_tab b h = grind (arith, nat_tests)

ink_no_feed : (b : ℕ) → is_ink b ≡ true → not (b == 10) ≡ true
ink_no_feed b h = grind (arith, nat_tests)

word_lacks : (mark : ℕ) (word : List ℕ) → ((b : ℕ) → is_ink b ≡ true → not (b == mark) ≡ true) → is_word word ≡ true → lacks mark word ≡ true
word_lacks mark word f h = all_weaker is_ink (λ b. not (b == mark)) word f (and_true (nat_lt 0 (length word)) (list_all is_ink word) h).1

spaced_join : (ws : Words) → join_with_byte 32 ws ≡ spaced ws
spaced_join [] = refl
spaced_join (w ∷ []) = refl
spaced_join (w ∷ next ∷ ws) = ap (λ (t : List ℕ). w ++ 32 ∷ t) (spaced_join (next ∷ ws))

-- ---- words make a line

pub pieces_spaced : (w : List ℕ) (ws : Words) → list_all is_word (w ∷ ws) ≡ true → pieces_of 32 (spaced (w ∷ ws)) ≡ w ∷ ws
pieces_spaced w [] h = let t = and_true (is_word w) true h in pieces_last 32 w (word_lacks 32 w ink_no_space t.0)
pieces_spaced w (next ∷ ws) h =
    let t = and_true (is_word w) (list_all is_word (next ∷ ws)) h in
    pieces_first 32 w (spaced (next ∷ ws)) (word_lacks 32 w ink_no_space t.0) ∙ ap (λ (ps : Words). w ∷ ps) (pieces_spaced next ws t.1)

word_piece : (w : List ℕ) → is_word w ≡ true → is_piece w ≡ true
word_piece w h = and_from (nat_lt 0 (length w)) (list_all (λ b. not (b == 9)) w) (and_true (nat_lt 0 (length w)) (list_all is_ink w) h).0 (word_lacks 9 w ink_no_tab h)

words_pieces : (ws : Words) → list_all is_word ws ≡ true → are_pieces ws ≡ true
unfolding are_pieces
words_pieces [] h = refl
words_pieces (w ∷ ws) h = let t = and_true (is_word w) (list_all is_word ws) h in and_from (is_piece w) (are_pieces ws) (word_piece w t.0) (words_pieces ws t.1)

pub spaced_again : (w : List ℕ) (ws : Words) → list_all is_word (w ∷ ws) ≡ true → is_spaced (spaced (w ∷ ws)) ≡ true
unfolding is_spaced
spaced_again w ws h = rw (pieces_spaced w ws h) (words_pieces (w ∷ ws) h)

spaced_lacks : (mark : ℕ) (ws : Words) → not (32 == mark) ≡ true → ((b : ℕ) → is_ink b ≡ true → not (b == mark) ≡ true) → list_all is_word ws ≡ true → lacks mark (spaced ws) ≡ true
spaced_lacks mark [] s f h = refl
spaced_lacks mark (w ∷ []) s f h = word_lacks mark w f (and_true (is_word w) true h).0
spaced_lacks mark (w ∷ next ∷ ws) s f h =
    let t = and_true (is_word w) (list_all is_word (next ∷ ws)) h in
    all_append (λ b. not (b == mark)) w (32 ∷ spaced (next ∷ ws)) (word_lacks mark w f t.0) (and_from (not (32 == mark)) (lacks mark (spaced (next ∷ ws))) s (spaced_lacks mark (next ∷ ws) s f t.1))

pub no_feed : (ws : Words) → list_all is_word ws ≡ true → lacks 10 (spaced ws) ≡ true
no_feed ws h = spaced_lacks 10 ws refl ink_no_feed h

-- ---- a line is its words

or_false : (b c : Bool) → not c ≡ true → (b || c) ≡ b
or_false true true e = absurd cc
or_false true false e = refl
or_false false true e = absurd cc
or_false false false e = refl

blanks : (line : List ℕ) → lacks 9 line ≡ true → slice_split is_blank line ≡ pieces_of 32 line
blanks [] h = refl
blanks (x ∷ xs) h =
    let t = and_true (not (x == 9)) (lacks 9 xs) h in
    rw (or_false (x == 32) (x == 9) t.0, blanks xs t.1) refl

all_kept : (ws : Words) → are_pieces ws ≡ true → filter (λ word. nat_lt 0 (length word)) ws ≡ ws
unfolding are_pieces
all_kept [] h = refl
all_kept (w ∷ ws) h =
    let t = and_true (is_piece w) (are_pieces ws) h in
    rw ((and_true (nat_lt 0 (length w)) (lacks 9 w) t.0).0, all_kept ws t.1) refl

joined_lacks : (ws : Words) → are_pieces ws ≡ true → lacks 9 (join_with_byte 32 ws) ≡ true
unfolding are_pieces
joined_lacks [] h = refl
joined_lacks (w ∷ []) h = (and_true (nat_lt 0 (length w)) (lacks 9 w) (and_true (is_piece w) true h).0).1
joined_lacks (w ∷ next ∷ ws) h =
    let t = and_true (is_piece w) (are_pieces (next ∷ ws)) h in
    all_append (λ b. not (b == 9)) w (32 ∷ join_with_byte 32 (next ∷ ws)) (and_true (nat_lt 0 (length w)) (lacks 9 w) t.0).1 (joined_lacks (next ∷ ws) t.1)

words_are_pieces : (line : List ℕ) → is_spaced line ≡ true → words_of line ≡ pieces_of 32 line
unfolding is_spaced
words_are_pieces line h =
    let tabless : lacks 9 line ≡ true = rw (join_with_byte-slice_split 32 line) at (joined_lacks (pieces_of 32 line) h) in
    rw (blanks line tabless) (all_kept (pieces_of 32 line) h)

pub spaced_is : (line : List ℕ) → is_spaced line ≡ true → line ≡ spaced (words_of line)
spaced_is line h = sym (join_with_byte-slice_split 32 line) ∙ spaced_join (pieces_of 32 line) ∙ ap (λ (ws : Words). spaced ws) (sym (words_are_pieces line h))

pub words_again : (w : List ℕ) (ws : Words) → list_all is_word (w ∷ ws) ≡ true → words_of (spaced (w ∷ ws)) ≡ w ∷ ws
words_again w ws h = words_are_pieces (spaced (w ∷ ws)) (spaced_again w ws h) ∙ pieces_spaced w ws h

-- ---- words in groups

abbrev pub groups : List Words → Words
groups [] = []
groups (g ∷ gs) = g ++ groups gs

spaced_append : (w : List ℕ) (ws : Words) (next : List ℕ) (more : Words) → spaced ((w ∷ ws) ++ (next ∷ more)) ≡ spaced (w ∷ ws) ++ 32 ∷ spaced (next ∷ more)
spaced_append w [] next more = refl
spaced_append w (v ∷ ws) next more = ap (λ (t : List ℕ). w ++ 32 ∷ t) (spaced_append v ws next more) ∙ sym (append_assoc w (32 ∷ spaced (v ∷ ws)) (32 ∷ spaced (next ∷ more)))

pub line_groups : (w : List ℕ) (g : Words) (gs : List Words) → list_all (λ h. nat_lt 0 (length h)) gs ≡ true
    → line_of (map spaced ((w ∷ g) ∷ gs)) ≡ spaced ((w ∷ g) ++ groups gs) ++ codes "\n"
line_groups w g [] h = ap (λ (r : Words). spaced (w ∷ r) ++ codes "\n") (sym (append-nil g))
line_groups w g ([] ∷ gs) h = absurd cc
line_groups w g ((v ∷ k) ∷ gs) h =
    ap (λ (t : List ℕ). spaced (w ∷ g) ++ 32 ∷ t) (line_groups v k gs (and_true (nat_lt 0 (length (v ∷ k))) (list_all (λ g. nat_lt 0 (length g)) gs) h).1) ∙ sym (append_assoc (spaced (w ∷ g)) (32 ∷ spaced ((v ∷ k) ++ groups gs)) (codes "\n"))
    ∙ ap (λ (t : List ℕ). t ++ codes "\n") (sym (spaced_append w g v (k ++ groups gs)))
