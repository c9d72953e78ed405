-- The words of a vector, read and written.
use Rattle.std.proofs.Common.{◌≡◌, ◌∙◌, refl, sym, ap, Bool, true, false, cond, List, Result, Ok, Option, Some, ◌++◌, [], ◌∷◌, arith, ℕ, suc, ◌+◌, ◌-◌, ◌^◌, ◌<◌, ◌≤◌, length, get_or, take, drop, append-nil, append_assoc, subst, length-append}
use Rattle.std.specs.Prelude.{◌&&◌, ◌==◌, not, codes}
use Rattle.std.specs.List.{list_all, onto_first}
use Rattle.std.specs.Fmt.{decimal}
use Rattle.std.proofs.Math.Seq.{take-append_seam, drop-append_seam}
use Rattle.std.proofs.lemmas.Bool.{eqb-true, eq-eqb, ltb-true}
use Rattle.std.proofs.lemmas.Bool.Decides.{nat_tests}
use Rattle.std.proofs.lemmas.List.{take-append-drop, drop-drop, get_or-append-add}
use Rattle.std.proofs.lemmas.Option.{cond_some}
use Rattle.dm_event.specs.Layout.{Layout}
use Rattle.dm_event.specs.declared.why.LineFault.{LineFault}
use Rattle.dm_event.specs.declared.why.LineFault.TheVariants.{Number, Range}
use Rattle.dm_text.specs.Texts.{joined, vector_text}
use Rattle.dm_history.specs.Parts.{spaced}
use Rattle.dm_fields.specs.Fields.{Words, made, or_fault, canonical, word_at}
use Rattle.dm_past.specs.Fits.{is_u64, vector_fits}
use Rattle.dm_kinds.specs.Values.{opens, closes, closed_in, vector_end, last_number, closed_numbers, numbers_of, sized, vector_at}
use Rattle.dm_kinds.proofs.Chains.{bind_ok, made_ok, or_fault_ok, no_ok, and_true, and_from, tested_by, all_weaker}
use Rattle.dm_past.proofs.Texts.{canonical_is, canonical_again, is_digit, decimal_digits, u64_from}

abbrev pub closing : ℕ → List ℕ → Words
closing x [] = (decimal x ++ 93 ∷ []) ∷ []
closing x (y ∷ ys) = decimal x ∷ closing y ys

abbrev pub vector_words : List ℕ → Words
vector_words [] = codes "[]" ∷ []
vector_words (x ∷ xs) = onto_first 91 (closing x xs)

closing_first : (x : ℕ) (xs : List ℕ) → (w : List ℕ) × (ws : Words) × (closing x xs ≡ w ∷ ws)
closing_first x [] = (decimal x ++ 93 ∷ [], [], refl)
closing_first x (y ∷ ys) = (decimal x, closing y ys, refl)

spaced_more : (d : List ℕ) (ws : Words) (c : List ℕ) (cs : Words) → ws ≡ c ∷ cs → spaced (d ∷ ws) ≡ d ++ 32 ∷ spaced ws
spaced_more d ws c cs e = rw e refl

closing_text : (x : ℕ) (xs : List ℕ) → spaced (closing x xs) ≡ joined 32 decimal (x ∷ xs) ++ 93 ∷ []
closing_text x [] = ap (λ (t : List ℕ). t ++ 93 ∷ []) (sym (append-nil (decimal x)))
closing_text x (y ∷ ys) =
    let f = closing_first y ys in
    spaced_more (decimal x) (closing y ys) f.0 f.1 f.2 ∙ ap (λ (t : List ℕ). decimal x ++ 32 ∷ t) (closing_text y ys)
    ∙ sym (append_assoc (decimal x) (32 ∷ joined 32 decimal (y ∷ ys)) (93 ∷ []))

opened_text : (ws : Words) (c : List ℕ) (cs : Words) → ws ≡ c ∷ cs → spaced (onto_first 91 ws) ≡ 91 ∷ spaced ws
opened_text ws c [] e = rw e refl
opened_text ws c (d ∷ cs) e = rw e refl

pub vector_spaced : (v : List ℕ) → spaced (vector_words v) ≡ vector_text v
unfolding vector_text
vector_spaced [] = refl
vector_spaced (x ∷ xs) = let f = closing_first x xs in opened_text (closing x xs) f.0 f.1 f.2 ∙ ap (λ (t : List ℕ). 91 ∷ t) (closing_text x xs)

-- ---- what closes a word

last_is : (c : ℕ) (cs : List ℕ) → get_or (c ∷ cs) (length cs) 0 ≡ 93 → c ∷ cs ≡ take (length cs) (c ∷ cs) ++ 93 ∷ []
last_is c [] e = cc
last_is c (d ∷ ds) e = ap (λ (t : List ℕ). c ∷ t) (last_is d ds e)

closes_is : (w : List ℕ) → closes w ≡ true → w ≡ take (length w - 1) w ++ 93 ∷ []
closes_is [] e = absurd cc
closes_is (c ∷ cs) e =
    let n : suc (length cs) - 1 ≡ length cs = omega arith in
    let at : get_or (c ∷ cs) (suc (length cs) - 1) 0 ≡ 93 = eqb-true (get_or (c ∷ cs) (suc (length cs) - 1) 0) 93 e in
    rw n (last_is c cs (rw n at at))

end_at : (d : List ℕ) → get_or (d ++ 93 ∷ []) (length d) 0 ≡ 93
end_at [] = refl
end_at (c ∷ d) = end_at d

ended_length : (d : List ℕ) → length (d ++ 93 ∷ []) - 1 ≡ length d
ended_length d = simp length-append (omega arith)

ends_closed : (d : List ℕ) → closes (d ++ 93 ∷ []) ≡ true
ends_closed d = rw (ended_length d, end_at d) refl

before_end : (d : List ℕ) → take (length (d ++ 93 ∷ []) - 1) (d ++ 93 ∷ []) ≡ d
before_end d = rw (ended_length d) (take-append_seam d (93 ∷ []))

not_closed : (c : ℕ) (cs : List ℕ) → list_all (λ b. not (b == 93)) (c ∷ cs) ≡ true → (get_or (c ∷ cs) (length cs) 0 == 93) ≡ false
not_closed c [] h = no_mark (c == 93) (and_true (not (c == 93)) true h).0
  where
    no_mark : (b : Bool) → not b ≡ true → b ≡ false
    no_mark true e = absurd cc
    no_mark false e = refl
not_closed c (d ∷ ds) h = not_closed d ds (and_true (not (c == 93)) (list_all (λ b. not (b == 93)) (d ∷ ds)) h).1

open_word : (w : List ℕ) → list_all (λ b. not (b == 93)) w ≡ true → closes w ≡ false
open_word [] h = refl
open_word (c ∷ cs) h = let n : suc (length cs) - 1 ≡ length cs = omega arith in rw n (not_closed c cs h)

no_bracket : (b : ℕ) → is_digit b ≡ true → not (b == 93) ≡ true
no_bracket b h = grind (arith, nat_tests)

digits_open : (n : ℕ) → n < 2 ^ 64 → list_all (λ b. not (b == 93)) (decimal n) ≡ true
digits_open n lt = all_weaker is_digit (λ b. not (b == 93)) (decimal n) no_bracket (decimal_digits n lt)

-- ---- reading

last_number_is : (w : List ℕ) (x : ℕ) → last_number w ≡ Ok x → (w ≡ decimal x ++ 93 ∷ []) × (is_u64 x ≡ true)
last_number_is w x e =
    tested_by (closes w) _ _ x e (λ t f.
    let k = canonical_is (2 ^ 64 - 1) (take (length w - 1) w) x f in
    (closes_is w t ∙ ap (λ (d : List ℕ). d ++ 93 ∷ []) k.0, u64_from x k.1)) (λ t f. no_ok Number x f)

-- what is read behind the numbers so far
record Closed (so_far : List ℕ) (ws : Words) (v : List ℕ) : Type 0 where
  first : ℕ
  more : List ℕ
  numbers : v ≡ so_far ++ first ∷ more
  words : ws ≡ closing first more
  typed : list_all is_u64 (first ∷ more) ≡ true

same_closing : (w d : List ℕ) (ws cs : Words) → w ≡ d → ws ≡ cs → w ∷ ws ≡ d ∷ cs
same_closing w d ws cs e f = cc

closed_is : (so_far : List ℕ) (w : List ℕ) (ws : Words) (v : List ℕ) → closed_numbers so_far w ws ≡ Ok v → Closed so_far (w ∷ ws) v
unfolding closed_numbers
closed_is so_far w [] v e =
    let m = made_ok (λ n. so_far ++ n ∷ []) (last_number w) v e in
    let k = last_number_is w m.0 m.1 in
    record { first = m.0; more = []; numbers = sym m.2; words = same_closing w (decimal m.0 ++ 93 ∷ []) [] [] k.0 refl; typed = and_from (is_u64 m.0) true k.1 refl }
closed_is so_far w (next ∷ ws) v e =
    let n = bind_ok (canonical (2 ^ 64 - 1) w) _ v e in
    let k = canonical_is (2 ^ 64 - 1) w n.0 n.1 in
    let h = closed_is (so_far ++ n.0 ∷ []) next ws v n.2 in
    record {
      first = n.0;
      more = h.first ∷ h.more;
      numbers = h.numbers ∙ append_assoc so_far (n.0 ∷ []) (h.first ∷ h.more);
      words = same_closing w (decimal n.0) (next ∷ ws) (closing h.first h.more) k.0 h.words;
      typed = and_from (is_u64 n.0) (list_all is_u64 (h.first ∷ h.more)) (u64_from n.0 k.1) h.typed;
    }

pub record NumbersRead (ws : Words) (v : List ℕ) : Type 0 where
  pub words : ws ≡ vector_words v
  pub typed : list_all is_u64 v ≡ true

opened : (c : ℕ) (word : List ℕ) (ws : Words) (v : List ℕ) → (c == 91) ≡ true → Closed [] (word ∷ ws) v → NumbersRead ((c ∷ word) ∷ ws) v
opened c word ws v t h =
    let e : c ≡ 91 = eqb-true c 91 t in
    subst (NumbersRead ((c ∷ word) ∷ ws)) (sym h.numbers) (record { words = rw e (ap (λ (cs : Words). onto_first 91 cs) h.words); typed = h.typed })

pub numbers_is : (ws : Words) (v : List ℕ) → numbers_of ws ≡ Ok v → NumbersRead ws v
unfolding numbers_of
numbers_is [] v e = no_ok Number v e
numbers_is ([] ∷ ws) v e = no_ok Number v e
numbers_is ((c ∷ word) ∷ ws) v e =
    tested_by (c == 91) _ _ v e (λ t f. opened c word ws v t (closed_is [] word ws v f)) (λ t f. no_ok Number v f)

-- ---- reading what was written

last_again : (x : ℕ) → is_u64 x ≡ true → last_number (decimal x ++ 93 ∷ []) ≡ Ok x
last_again x h =
    let lt = ltb-true x (2 ^ 64) h in
    rw (ends_closed (decimal x), before_end (decimal x)) (canonical_again (2 ^ 64 - 1) x (omega arith) lt)

first_of : (w c : List ℕ) (ws cs : Words) → w ∷ ws ≡ c ∷ cs → (w ≡ c) × (ws ≡ cs)
first_of w c ws cs e = (cc, cc)

closed_again : (so_far : List ℕ) (x : ℕ) (xs : List ℕ) (w : List ℕ) (ws : Words) → closing x xs ≡ w ∷ ws → list_all is_u64 (x ∷ xs) ≡ true
    → closed_numbers so_far w ws ≡ Ok (so_far ++ x ∷ xs)
unfolding closed_numbers
closed_again so_far x [] w ws e h =
    let p = first_of (decimal x ++ 93 ∷ []) w [] ws e in
    rw (← p.0, ← p.1) (ap (λ (r : Result ℕ LineFault). made (λ n. so_far ++ n ∷ []) r) (last_again x (and_true (is_u64 x) true h).0))
closed_again so_far x (y ∷ ys) w ws e h =
    let p = first_of (decimal x) w (closing y ys) ws e in
    let t = and_true (is_u64 x) (list_all is_u64 (y ∷ ys)) h in
    let lt = ltb-true x (2 ^ 64) t.0 in
    let f = closing_first y ys in
    rw (← p.0, ← p.1, f.2, canonical_again (2 ^ 64 - 1) x (omega arith) lt)
    (closed_again (so_far ++ x ∷ []) y ys f.0 f.1 f.2 t.1 ∙ ap (λ (v : List ℕ). Ok v) (append_assoc so_far (x ∷ []) (y ∷ ys)))

pub numbers_again : (x : ℕ) (xs : List ℕ) → list_all is_u64 (x ∷ xs) ≡ true → numbers_of (vector_words (x ∷ xs)) ≡ Ok (x ∷ xs)
unfolding numbers_of
numbers_again x xs h = let f = closing_first x xs in rw (f.2) (closed_again [] x xs f.0 f.1 f.2 h)

-- ---- where a vector ends

closing_closed : (x : ℕ) (xs : List ℕ) (back : Words) → list_all is_u64 (x ∷ xs) ≡ true → closed_in (closing x xs ++ back) ≡ length (closing x xs)
closing_closed x [] back h = rw (ends_closed (decimal x)) refl
closing_closed x (y ∷ ys) back h =
    let t = and_true (is_u64 x) (list_all is_u64 (y ∷ ys)) h in
    rw (open_word (decimal x) (digits_open x (ltb-true x (2 ^ 64) t.0))) (omega (arith, closing_closed y ys back t.1))

vector_closed : (x : ℕ) (xs : List ℕ) (back : Words) → list_all is_u64 (x ∷ xs) ≡ true → closed_in (vector_words (x ∷ xs) ++ back) ≡ length (vector_words (x ∷ xs))
vector_closed x [] back h = rw (ends_closed (91 ∷ decimal x)) refl
vector_closed x (y ∷ ys) back h =
    let t = and_true (is_u64 x) (list_all is_u64 (y ∷ ys)) h in
    rw (open_word (91 ∷ decimal x) (digits_open x (ltb-true x (2 ^ 64) t.0))) (omega (arith, closing_closed y ys back t.1))

pub word_behind : (front ws : Words) (j : ℕ) → word_at (front ++ ws) (length front + j) ≡ word_at ws j
unfolding word_at
word_behind front ws j = get_or-append-add front ws j []

pub word_first : (front ws : Words) → word_at (front ++ ws) (length front) ≡ word_at ws 0
word_first front ws = let n : length front ≡ length front + 0 = omega arith in ap (λ (k : ℕ). word_at (front ++ ws) k) n ∙ word_behind front ws 0

-- the words behind a vector
pub word_after : (front vector back : Words) (j : ℕ) → word_at (front ++ (vector ++ back)) ((length front + length vector) + j) ≡ word_at back j
word_after front vector back j =
    let n : (length front + length vector) + j ≡ length front + (length vector + j) = omega arith in
    ap (λ (k : ℕ). word_at (front ++ (vector ++ back)) k) n ∙ word_behind front (vector ++ back) (length vector + j) ∙ word_behind vector back j

pub first_after : (front vector back : Words) → word_at (front ++ (vector ++ back)) (length front + length vector) ≡ word_at back 0
first_after front vector back =
    let n : length front + length vector ≡ (length front + length vector) + 0 = omega arith in
    ap (λ (k : ℕ). word_at (front ++ (vector ++ back)) k) n ∙ word_after front vector back 0

pub length_after : (front vector back : Words) → length (front ++ (vector ++ back)) ≡ (length front + length vector) + length back
length_after front vector back = simp length-append (omega arith)

opens_first : (x : ℕ) (xs : List ℕ) (back : Words) → opens (word_at (vector_words (x ∷ xs) ++ back) 0) ≡ true
unfolding word_at
opens_first x [] back = refl
opens_first x (y ∷ ys) back = refl

end_opened : (ws : Words) (n m : ℕ) → opens (word_at ws n) ≡ true → closed_in (drop n ws) ≡ m → vector_end ws n ≡ n + m
unfolding vector_end
end_opened ws n m e f = rw (e, f) refl

pub vector_end_again : (front : Words) (x : ℕ) (xs : List ℕ) (back : Words) → list_all is_u64 (x ∷ xs) ≡ true
    → vector_end (front ++ (vector_words (x ∷ xs) ++ back)) (length front) ≡ length front + length (vector_words (x ∷ xs))
vector_end_again front x xs back h =
    end_opened (front ++ (vector_words (x ∷ xs) ++ back)) (length front) (length (vector_words (x ∷ xs)))
    (ap (λ (w : List ℕ). opens w) (word_first front (vector_words (x ∷ xs) ++ back)) ∙ opens_first x xs back)
    (ap (λ (ws : Words). closed_in ws) (drop-append_seam front (vector_words (x ∷ xs) ++ back)) ∙ vector_closed x xs back h)

-- ---- a vector of the layout

fitting : (layout : Layout) (v : List ℕ) → vector_fits layout v ≡ true → (length v ≡ layout.sites) × (list_all is_u64 v ≡ true)
unfolding vector_fits
fitting layout v h = let t = and_true (length v == layout.sites) (list_all is_u64 v) h in (eqb-true (length v) layout.sites t.0, t.1)

sized_again : (layout : Layout) (v : List ℕ) → length v ≡ layout.sites → sized layout v ≡ Some v
unfolding sized
sized_again layout v e = rw (eq-eqb (length v) layout.sites e) refl

sized_is : (layout : Layout) (numbers v : List ℕ) → sized layout numbers ≡ Some v → (numbers ≡ v) × (length numbers ≡ layout.sites)
unfolding sized
sized_is layout numbers v e =
    let c = cond_some (length numbers == layout.sites) numbers v e in
    (c.1, eqb-true (length numbers) layout.sites c.0)

-- a vector of the layout, written between other words
pub record Written (layout : Layout) (front : Words) (v : List ℕ) (back : Words) : Type 0 where
  pub end : vector_end (front ++ (vector_words v ++ back)) (length front) ≡ length front + length (vector_words v)
  pub numbers : vector_at layout (front ++ (vector_words v ++ back)) (length front) ≡ Ok (Some v)

part_between : (front vector back : Words) → take ((length front + length vector) - length front) (drop (length front) (front ++ (vector ++ back))) ≡ vector
part_between front vector back =
    let n : (length front + length vector) - length front ≡ length vector = omega arith in
    rw (n, drop-append_seam front (vector ++ back)) (take-append_seam vector back)

numbers_at : (layout : Layout) (ws : Words) (n m : ℕ) (v : List ℕ) (o : Option (List ℕ)) → vector_end ws n ≡ m → numbers_of (take (m - n) (drop n ws)) ≡ Ok v → sized layout v ≡ o
    → vector_at layout ws n ≡ Ok o
unfolding vector_at
numbers_at layout ws n m v o e f g = rw (e, f, g) refl

pub vector_again : (layout : Layout) (front : Words) (v : List ℕ) (back : Words) → 1 ≤ layout.sites → vector_fits layout v ≡ true → Written layout front v back
vector_again layout front [] back least h = let f = fitting layout [] h in absurd (omega (arith, f.0))
vector_again layout front (x ∷ xs) back least h =
    let f = fitting layout (x ∷ xs) h in
    let end = vector_end_again front x xs back f.1 in
    record {
      end = end;
      numbers = numbers_at layout (front ++ (vector_words (x ∷ xs) ++ back)) (length front) (length front + length (vector_words (x ∷ xs))) (x ∷ xs) (Some (x ∷ xs)) end
          (ap (λ (ws : Words). numbers_of ws) (part_between front (vector_words (x ∷ xs)) back) ∙ numbers_again x xs f.1)
          (sized_again layout (x ∷ xs) f.0);
    }

-- a vector of the layout, read at a place
pub record Located (layout : Layout) (ws : Words) (n : ℕ) (v : List ℕ) : Type 0 where
  pub words : drop n ws ≡ vector_words v ++ drop (vector_end ws n) ws
  pub fits : vector_fits layout v ≡ true

pub vector_end_from : (ws : Words) (n : ℕ) → n ≤ vector_end ws n
unfolding vector_end
vector_end_from ws n = cut (opens (word_at ws n)) (closed_in (drop n ws))
  where
    cut : (b : Bool) (k : ℕ) → n ≤ cond b (n + k) (n + 1)
    cut true k = omega arith
    cut false k = omega arith

parts_of : (ws : Words) (n m : ℕ) → n ≤ m → drop n ws ≡ take (m - n) (drop n ws) ++ drop m ws
parts_of ws n m le =
    let k : n + (m - n) ≡ m = omega arith in
    sym (take-append-drop (m - n) (drop n ws)) ∙ ap (λ (r : Words). take (m - n) (drop n ws) ++ r) (drop-drop (m - n) n ws ∙ ap (λ (i : ℕ). drop i ws) k)

pub vector_is : (layout : Layout) (ws : Words) (n : ℕ) (o : Option (List ℕ)) (v : List ℕ) → vector_at layout ws n ≡ Ok o → or_fault Range o ≡ Ok v → Located layout ws n v
unfolding vector_at vector_fits
vector_is layout ws n o v e f =
    let m = made_ok (sized layout) (numbers_of (take (vector_end ws n - n) (drop n ws))) o e in
    let s = sized_is layout m.0 v (m.2 ∙ or_fault_ok Range o v f) in
    let r = numbers_is (take (vector_end ws n - n) (drop n ws)) m.0 m.1 in
    record {
      words = parts_of ws n (vector_end ws n) (vector_end_from ws n)
          ∙ ap (λ (part : Words). part ++ drop (vector_end ws n) ws) (r.words ∙ ap (λ (u : List ℕ). vector_words u) s.0);
      fits = subst (λ (u : List ℕ). ((length u == layout.sites) && list_all is_u64 u) ≡ true) s.0
          (and_from (length m.0 == layout.sites) (list_all is_u64 m.0) (eq-eqb (length m.0) layout.sites s.1) r.typed);
    }
