-- What a word says is what its text is made of, and the other way round: numbers, attempts, pairs, ops, bytes, lists.
use Rattle.std.proofs.Common.{◌≡◌, ◌∙◌, refl, sym, ap, Bool, true, false, List, Result, Ok, Option, Some, None, ◌++◌, [], ◌∷◌, arith, ℕ, ◌-◌, ◌^◌, ◌<◌, ◌≤◌, length, nat_lt, map, append-nil, append_assoc, subst, w64}
use Rattle.std.specs.Prelude.{◌&&◌, ◌==◌, not, nat_le, codes, ℤ, pos, negsuc, FitsSigned}
use Rattle.std.specs.Str.{bytes_eq}
use Rattle.std.specs.Str.Parse.{AllDigits}
use Rattle.std.specs.List.{list_all, flat_map, join_with_byte}
use Rattle.std.specs.Fmt.{decimal, signed_decimal}
use Rattle.std.proofs.lemmas.Bool.{lt-ltb, le-leb, leb-true, ltb-true}
use Rattle.std.proofs.lemmas.Bool.Decides.{nat_tests}
use Rattle.std.proofs.lemmas.Fmt.{decimal_is_IsNumeral}
use Rattle.std.proofs.lemmas.Int.{ints}
use Rattle.std.proofs.lemmas.List.Splits.{join_with_byte-slice_split}
use Rattle.std.proofs.lemmas.Str.Parse.{digit_from_value}
use Rattle.dm_event.specs.declared.step.Op.{Op}
use Rattle.dm_event.specs.declared.step.Op.TheVariants as ops
use Rattle.dm_event.specs.declared.step.Pair.{Pair}
use Rattle.dm_event.specs.declared.step.TxnId.{TxnId}
use Rattle.dm_event.specs.declared.why.LineFault.{LineFault}
use Rattle.dm_event.specs.declared.why.LineFault.TheVariants.{Number}
use Rattle.dm_text.specs.Text.{number_of, signed_of}
use Rattle.dm_text.specs.Texts.{joined, txn_text, pair_text}
use Rattle.dm_text.proofs.Canonical.{number_some, number_is}
use Rattle.dm_text.proofs.Signs.{signed_some, signed_is}
use Rattle.dm_history.specs.Parts.{op_text, byte_text}
use Rattle.dm_fields.specs.Fields.{Words, made, canonical}
use Rattle.dm_kinds.specs.Marks.{pieces_of, cut_at}
use Rattle.dm_past.specs.Fits.{is_u64, is_i64, is_op, is_pair, is_byte}
use Rattle.dm_kinds.specs.Ranges.{op_key}
use Rattle.dm_kinds.specs.Values.{txn_of, key_of, pair_of, op_of, items_from, list_of, byte_of}
use Rattle.dm_kinds.proofs.Chains.{bind_ok, made_ok, or_fault_ok, same_ok, no_ok, and_true, and_from, told_by, tested_by, all_weaker}
use Rattle.dm_past.proofs.Pieces.{lacks, first_piece, cut_is, cut_again, joined_pieces, joined_texts}

-- ---- numbers

pub canonical_is : (most : ℕ) (word : List ℕ) (n : ℕ) → canonical most word ≡ Ok n → (word ≡ decimal n) × (n ≤ most)
canonical_is most word n e = number_is most word n (or_fault_ok Number (number_of most word) n e)

pub canonical_again : (most n : ℕ) → n ≤ most → n < 2 ^ 64 → canonical most (decimal n) ≡ Ok n
canonical_again most n le lt = rw (number_some most (decimal n) n lt le refl) refl

abbrev pub is_digit : ℕ → Bool
is_digit b = nat_le 48 b && nat_le b 57

digit_test : (c : ℕ) → 48 ≤ c → c ≤ 57 → is_digit c ≡ true
digit_test c low high = grind (arith, nat_tests)

digits_pass : (ds : List ℕ) → AllDigits 10 ds → list_all is_digit ds ≡ true
digits_pass [] h = refl
digits_pass (c ∷ cs) h = let d = digit_from_value c h.0 in and_from (is_digit c) (list_all is_digit cs) (digit_test c d.0 d.1) (digits_pass cs h.1)

pub decimal_digits : (n : ℕ) → n < 2 ^ 64 → list_all is_digit (decimal n) ≡ true
decimal_digits n lt = digits_pass (decimal n) (decimal_is_IsNumeral n lt).0.1

pub decimal_lacks : (mark n : ℕ) → n < 2 ^ 64 → ((b : ℕ) → is_digit b ≡ true → not (b == mark) ≡ true) → lacks mark (decimal n) ≡ true
decimal_lacks mark n lt f = all_weaker is_digit (λ b. not (b == mark)) (decimal n) f (decimal_digits n lt)

no_point : (b : ℕ) → is_digit b ≡ true → not (b == 46) ≡ true
no_point b h = grind (arith, nat_tests)

no_colon : (b : ℕ) → is_digit b ≡ true → not (b == 58) ≡ true
no_colon b h = grind (arith, nat_tests)

-- a text that begins with another byte than `-`
pub record NoDash (text : List ℕ) : Type 0 where
  pub first : ℕ
  pub rest : List ℕ
  pub whole : text ≡ first ∷ rest
  pub dashless : (first == 45) ≡ false

digits_begin : (ds : List ℕ) → 0 < length ds → list_all is_digit ds ≡ true → NoDash ds
digits_begin [] lt h = absurd (omega arith)
digits_begin (c ∷ cs) lt h = record { first = c; rest = cs; whole = refl; dashless = no_dash c (and_true (is_digit c) (list_all is_digit cs) h).0 }
  where
    no_dash : (b : ℕ) → is_digit b ≡ true → (b == 45) ≡ false
    no_dash b e = grind (arith, nat_tests)

pub decimal_begins : (n : ℕ) → n < 2 ^ 64 → NoDash (decimal n)
decimal_begins n lt = digits_begin (decimal n) (decimal_is_IsNumeral n lt).0.0 (decimal_digits n lt)

pub u64_from : (n : ℕ) → n ≤ 2 ^ 64 - 1 → is_u64 n ≡ true
u64_from n le = lt-ltb n (2 ^ 64) (omega arith)

i64_from : (z : ℤ) → FitsSigned w64 z → is_i64 z ≡ true
i64_from (pos n) fits = lt-ltb n (2 ^ 63) (omega (arith, ints))
i64_from (negsuc n) fits = lt-ltb n (2 ^ 63) (omega (arith, ints))

i64_fits : (z : ℤ) → is_i64 z ≡ true → FitsSigned w64 z
i64_fits (pos n) e = let lt = ltb-true n (2 ^ 63) e in omega (arith, ints, lt)
i64_fits (negsuc n) e = let lt = ltb-true n (2 ^ 63) e in omega (arith, ints, lt)

-- ---- attempts

pub record TxnRead (word : List ℕ) (txn : TxnId) : Type 0 where
  pub text : word ≡ txn_text txn
  pub number : nat_lt txn.number (2 ^ 32) ≡ true
  pub attempt : is_u64 txn.attempt ≡ true

pub txn_is : (word : List ℕ) (txn : TxnId) → txn_of word ≡ Ok txn → TxnRead word txn
unfolding txn_of txn_text
txn_is word txn e =
    let behind = bind_ok _ _ txn e in
    let last = bind_ok _ _ txn behind.2 in
    let session = bind_ok _ _ txn last.2 in
    let number = bind_ok _ _ txn session.2 in
    let attempt = bind_ok _ _ txn number.2 in
    let whole = cut_is 46 word behind.0.0 behind.0.1 (or_fault_ok Number (cut_at 46 word) behind.0 behind.1) in
    let more = cut_is 46 behind.0.1 last.0.0 last.0.1 (or_fault_ok Number (cut_at 46 behind.0.1) last.0 last.1) in
    let s = canonical_is (2 ^ 32 - 1) behind.0.0 session.0 session.1 in
    let n = canonical_is (2 ^ 32 - 1) last.0.0 number.0 number.1 in
    let a = canonical_is (2 ^ 64 - 1) last.0.1 attempt.0 attempt.1 in
    let t : record { session = session.0; number = number.0; attempt = attempt.0 } ≡ txn = same_ok _ _ attempt.2 in
    subst (TxnRead word) t (record {
      text = whole ∙ texts behind.0.0 (decimal session.0) behind.0.1 (decimal number.0 ++ 46 ∷ decimal attempt.0) s.0 (more ∙ texts last.0.0 (decimal number.0) last.0.1 (decimal attempt.0) n.0 a.0);
      number = lt-ltb number.0 (2 ^ 32) (omega (arith, n.1));
      attempt = u64_from attempt.0 a.1;
    })
  where
    texts : (a b c d : List ℕ) → a ≡ b → c ≡ d → a ++ 46 ∷ c ≡ b ++ 46 ∷ d
    texts a b c d e f = rw (e, f) refl

pub txn_again : (txn : TxnId) → txn.session ≤ 2 ^ 32 - 1 → txn.number ≤ 2 ^ 32 - 1 → txn.attempt ≤ 2 ^ 64 - 1 → txn_of (txn_text txn) ≡ Ok txn
unfolding txn_of txn_text
txn_again txn s n a =
    rw (
      cut_again 46 (decimal txn.session) (decimal txn.number ++ 46 ∷ decimal txn.attempt) (decimal_lacks 46 txn.session (omega arith) no_point),
      cut_again 46 (decimal txn.number) (decimal txn.attempt) (decimal_lacks 46 txn.number (omega arith) no_point),
      canonical_again (2 ^ 32 - 1) txn.session s (omega arith),
      canonical_again (2 ^ 32 - 1) txn.number n (omega arith),
      canonical_again (2 ^ 64 - 1) txn.attempt a (omega arith),
    ) refl

-- ---- keys, pairs, ops

abbrev pub is_u32 : ℕ → Bool
is_u32 n = nat_le n (2 ^ 32 - 1)

abbrev pub pair_typed : Pair → Bool
pair_typed pair = is_u32 pair.key && is_pair pair

abbrev pub op_typed : Op → Bool
op_typed op = is_u32 (op_key op) && is_op op

pub key_is : (word : List ℕ) (key : ℕ) → key_of word ≡ Ok key → (word ≡ decimal key) × (is_u32 key ≡ true)
unfolding key_of
key_is word key e = let h = canonical_is (2 ^ 32 - 1) word key e in (h.0, le-leb key (2 ^ 32 - 1) h.1)

pub key_again : (key : ℕ) → is_u32 key ≡ true → key_of (decimal key) ≡ Ok key
unfolding key_of
key_again key e = let le = leb-true key (2 ^ 32 - 1) e in canonical_again (2 ^ 32 - 1) key le (omega arith)

pub pair_is : (word : List ℕ) (pair : Pair) → pair_of word ≡ Ok pair → (word ≡ pair_text pair) × (pair_typed pair ≡ true)
unfolding pair_of pair_text
pair_is word pair e =
    let parts = bind_ok _ _ pair e in
    let key = bind_ok _ _ pair parts.2 in
    let value = bind_ok _ _ pair key.2 in
    let whole = cut_is 58 word parts.0.0 parts.0.1 (or_fault_ok Number (cut_at 58 word) parts.0 parts.1) in
    let k = key_is parts.0.0 key.0 key.1 in
    let v = signed_is value.0 parts.0.1 (or_fault_ok Number (signed_of parts.0.1) value.0 value.1) in
    let p : record { key = key.0; value = value.0 } ≡ pair = same_ok _ _ value.2 in
    subst (λ (q : Pair). (word ≡ decimal q.key ++ 58 ∷ signed_decimal q.value) × (pair_typed q ≡ true)) p (whole ∙ texts parts.0.0 (decimal key.0) parts.0.1 (signed_decimal value.0) k.0 v.0, and_from (is_u32 key.0) (is_i64 value.0) k.1 (i64_from value.0 v.1))
  where
    texts : (a b c d : List ℕ) → a ≡ b → c ≡ d → a ++ 58 ∷ c ≡ b ++ 58 ∷ d
    texts a b c d e f = rw (e, f) refl

pub pair_again : (pair : Pair) → pair_typed pair ≡ true → pair_of (pair_text pair) ≡ Ok pair
unfolding pair_of pair_text
pair_again pair h =
    let t = and_true (is_u32 pair.key) (is_i64 pair.value) h in
    let le = leb-true pair.key (2 ^ 32 - 1) t.0 in
    rw (
      cut_again 58 (decimal pair.key) (signed_decimal pair.value) (decimal_lacks 58 pair.key (omega arith) no_colon),
      key_again pair.key t.0,
      signed_some pair.value (i64_fits pair.value t.1),
    ) refl

abbrev OpRead : List ℕ → Op → Type 0
OpRead word op = (word ≡ op_text op) × (op_typed op ≡ true)

letter : (c d : ℕ) (a b : List ℕ) → (c == d) ≡ true → a ≡ b → c ∷ a ≡ d ∷ b
letter c d a b e f = let g : c ≡ d = grind (arith, nat_tests) in cc

read_is : (c : ℕ) (rest : List ℕ) (op : Op) → (c == 103) ≡ true → made (λ key. ops.Read key) (key_of rest) ≡ Ok op → OpRead (c ∷ rest) op
unfolding op_text
read_is c rest op t e =
    let m = made_ok (λ key. ops.Read key) (key_of rest) op e in
    let k = key_is rest m.0 m.1 in
    subst (λ (o : Op). OpRead (c ∷ rest) o) m.2 (letter c 103 rest (decimal m.0) t k.0, and_from (is_u32 m.0) true k.1 refl)

write_is : (c : ℕ) (rest : List ℕ) (op : Op) → (c == 112) ≡ true → made (λ (pair : Pair). ops.Write pair.key pair.value) (pair_of rest) ≡ Ok op → OpRead (c ∷ rest) op
unfolding op_text pair_text
write_is c rest op t e =
    let m = made_ok (λ (pair : Pair). ops.Write pair.key pair.value) (pair_of rest) op e in
    let p = pair_is rest m.0 m.1 in
    subst (λ (o : Op). OpRead (c ∷ rest) o) m.2 (letter c 112 rest (pair_text m.0) t p.0, p.1)

add_is : (c : ℕ) (rest : List ℕ) (op : Op) → (c == 97) ≡ true → made (λ (pair : Pair). ops.Add pair.key pair.value) (pair_of rest) ≡ Ok op → OpRead (c ∷ rest) op
unfolding op_text pair_text
add_is c rest op t e =
    let m = made_ok (λ (pair : Pair). ops.Add pair.key pair.value) (pair_of rest) op e in
    let p = pair_is rest m.0 m.1 in
    subst (λ (o : Op). OpRead (c ∷ rest) o) m.2 (letter c 97 rest (pair_text m.0) t p.0, p.1)

pub op_is : (word : List ℕ) (op : Op) → op_of word ≡ Ok op → (word ≡ op_text op) × (op_typed op ≡ true)
unfolding op_of
op_is [] op e = absurd cc
op_is (c ∷ rest) op e =
    tested_by (c == 103) _ _ op e (read_is c rest op) (λ n f.
    tested_by (c == 112) _ _ op f (write_is c rest op) (λ n f.
    tested_by (c == 97) _ _ op f (add_is c rest op) (λ n f. no_ok Number op f)))

pair_back : (key : ℕ) (value : ℤ) → (is_u32 key && is_i64 value) ≡ true → pair_of (decimal key ++ 58 ∷ signed_decimal value) ≡ Ok (record { key = key; value = value })
unfolding pair_text
pair_back key value h = pair_again (record { key = key; value = value }) h

pub op_again : (op : Op) → op_typed op ≡ true → op_of (op_text op) ≡ Ok op
unfolding op_of op_text
op_again (ops.Read key) h = rw (key_again key (and_true (is_u32 key) true h).0) refl
op_again (ops.Write key value) h = rw (pair_back key value h) refl
op_again (ops.Add key by) h = rw (pair_back key by h) refl

-- ---- bytes

pub byte_is : (word : List ℕ) (byte : Option ℕ) → byte_of word ≡ Ok byte → (word ≡ byte_text byte) × (is_byte byte ≡ true)
unfolding byte_of byte_text
byte_is word byte e =
    told_by word (codes "-") _ _ byte e
    (λ w f. subst (λ (b : Option ℕ). (word ≡ byte_text b) × (is_byte b ≡ true)) (same_ok None byte f) (w, refl))
    (λ f. let m = made_ok (λ b. Some b) (canonical (2 ^ 8 - 1) word) byte f in
    let k = canonical_is (2 ^ 8 - 1) word m.0 m.1 in
    subst (λ (b : Option ℕ). (word ≡ byte_text b) × (is_byte b ≡ true)) m.2 (k.0, lt-ltb m.0 (2 ^ 8) (omega (arith, k.1))))

not_dash : (text : List ℕ) → NoDash text → bytes_eq text (codes "-") ≡ false
not_dash text h = rw h.whole (dashes h.first h.rest h.dashless)
  where
    dashes : (c : ℕ) (cs : List ℕ) → (c == 45) ≡ false → bytes_eq (c ∷ cs) (45 ∷ []) ≡ false
    dashes c cs e = rw e refl

pub byte_again : (byte : Option ℕ) → is_byte byte ≡ true → byte_of (byte_text byte) ≡ Ok byte
unfolding byte_of byte_text
byte_again None h = refl
byte_again (Some byte) h =
    let lt = ltb-true byte (2 ^ 8) h in
    rw (not_dash (decimal byte) (decimal_begins byte (omega arith)), canonical_again (2 ^ 8 - 1) byte (omega arith) (omega arith)) refl

-- ---- lists

-- items with commas, or `-`
abbrev pub list_text : {A : Type 0} → (A → List ℕ) → List A → List ℕ
list_text text [] = codes "-"
list_text text (x ∷ xs) = joined 44 text (x ∷ xs)

module _ {A : Type 0} (item : List ℕ → Result A LineFault) (text : A → List ℕ) (typed : A → Bool) where
  abbrev Reads : Type 0
  Reads = (word : List ℕ) (x : A) → item word ≡ Ok x → (word ≡ text x) × (typed x ≡ true)

  same_items : (x : A) (w : List ℕ) (ws : Words) (ys : List A) → w ≡ text x → ws ≡ map text ys → w ∷ ws ≡ map text (x ∷ ys)
  same_items x w ws ys e f = cc

  items_is : Reads → (so_far : List A) (ws : Words) (xs : List A) → items_from item so_far ws ≡ Ok xs
      → (ys : List A) × (xs ≡ so_far ++ ys) × (ws ≡ map text ys) × (list_all typed ys ≡ true)
  unfolding items_from
  items_is reads so_far [] xs e = ([], sym (append-nil so_far ∙ same_ok so_far xs e), refl, refl)
  items_is reads so_far (w ∷ ws) xs e =
      let x = bind_ok (item w) _ xs e in
      let h = reads w x.0 x.1 in
      let more = items_is reads (so_far ++ x.0 ∷ []) ws xs x.2 in
      (x.0 ∷ more.0, more.1 ∙ append_assoc so_far (x.0 ∷ []) more.0, same_items x.0 w ws more.0 h.0 more.2, and_from (typed x.0) (list_all typed more.0) h.1 more.3)

  items_again : ((x : A) → typed x ≡ true → item (text x) ≡ Ok x) → (so_far xs : List A) → list_all typed xs ≡ true
      → items_from item so_far (map text xs) ≡ Ok (so_far ++ xs)
  unfolding items_from
  items_again back so_far [] h = ap (λ (ys : List A). Ok ys) (sym (append-nil so_far))
  items_again back so_far (x ∷ xs) h =
      let t = and_true (typed x) (list_all typed xs) h in
      rw (back x t.0) (items_again back (so_far ++ x ∷ []) xs t.1 ∙ ap (λ (ys : List A). Ok ys) (append_assoc so_far (x ∷ []) xs))

  from_pieces : (word : List ℕ) (xs : List A) → pieces_of 44 word ≡ map text xs → word ≡ list_text text xs
  from_pieces word [] e = let f = first_piece 44 word in absurd (cc (e, f.2))
  from_pieces word (x ∷ xs) e = sym (join_with_byte-slice_split 44 word) ∙ ap (join_with_byte 44) e ∙ joined_texts 44 text x xs

  pub list_is : Reads → (word : List ℕ) (xs : List A) → list_of item word ≡ Ok xs → (word ≡ list_text text xs) × (list_all typed xs ≡ true)
  unfolding list_of
  list_is reads word xs e =
      told_by word (codes "-") _ _ xs e
      (λ w f. subst (λ (ys : List A). (word ≡ list_text text ys) × (list_all typed ys ≡ true)) (same_ok [] xs f) (w, refl))
      (λ f. let h = items_is reads [] (pieces_of 44 word) xs f in
      subst (λ (ys : List A). (word ≡ list_text text ys) × (list_all typed ys ≡ true)) (sym h.1) (from_pieces word h.0 h.2, h.3))

  begins_list : (x : A) (xs : List A) → NoDash (text x) → NoDash (joined 44 text (x ∷ xs))
  begins_list x xs h = record { first = h.first; rest = h.rest ++ flat_map (λ y. 44 ∷ text y) xs; whole = rw (h.whole) refl; dashless = h.dashless }

  pub list_again : ((x : A) → typed x ≡ true → item (text x) ≡ Ok x) → ((x : A) → typed x ≡ true → NoDash (text x))
      → ((x : A) → typed x ≡ true → lacks 44 (text x) ≡ true) → (xs : List A) → list_all typed xs ≡ true → list_of item (list_text text xs) ≡ Ok xs
  unfolding list_of
  list_again back begins comma [] h = refl
  list_again back begins comma (x ∷ xs) h =
      let t = and_true (typed x) (list_all typed xs) h in
      rw (not_dash (joined 44 text (x ∷ xs)) (begins_list x xs (begins x t.0)), joined_pieces 44 text typed x xs comma h) (items_again back [] (x ∷ xs) h)
