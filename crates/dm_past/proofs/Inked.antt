-- The words of a line hold no blank and no line feed, and items hold no comma.
use Rattle.std.proofs.Common.{◌≡◌, refl, ap, Bool, true, List, Option, Some, None, ◌++◌, [], ◌∷◌, arith, ℕ, suc, ◌-◌, ◌^◌, ◌<◌, length, nat_lt, length-append}
use Rattle.std.specs.Prelude.{◌&&◌, ◌==◌, not, ℤ, pos, negsuc}
use Rattle.std.specs.List.{list_all, flat_map, onto_first}
use Rattle.std.specs.Fmt.{decimal, signed_decimal}
use Rattle.std.proofs.lemmas.Bool.{ltb-true, lt-ltb, leb-true}
use Rattle.std.proofs.lemmas.Bool.Decides.{nat_tests}
use Rattle.std.proofs.lemmas.Fmt.{decimal_nonempty}
use Rattle.dm_event.specs.declared.step.Choice.{Choice}
use Rattle.dm_event.specs.declared.step.Choice.TheVariants.{Master, Best, Reader, Hand}
use Rattle.dm_event.specs.declared.step.Found.{Found}
use Rattle.dm_event.specs.declared.step.Found.TheVariants.{Clean, Kept, Lost}
use Rattle.dm_event.specs.declared.step.Op.{Op}
use Rattle.dm_event.specs.declared.step.Op.TheVariants as ops
use Rattle.dm_event.specs.declared.step.Pair.{Pair}
use Rattle.dm_event.specs.declared.step.TxnId.{TxnId}
use Rattle.dm_text.specs.Texts.{joined, txn_text, pair_text}
use Rattle.dm_history.specs.Parts.{op_text, choice_text, found_text, byte_text}
use Rattle.dm_fields.specs.Fields.{Words}
use Rattle.dm_past.specs.Fits.{is_u64, is_i64, is_byte}
use Rattle.dm_kinds.proofs.Chains.{and_true, and_from, all_append, all_weaker}
use Rattle.dm_past.proofs.Pieces.{lacks}
use Rattle.dm_past.proofs.Texts.{is_digit, decimal_digits, NoDash, decimal_begins, is_u32, pair_typed, op_typed, list_text}
use Rattle.dm_past.proofs.Spaced.{is_ink, is_word}
use Rattle.dm_past.proofs.VectorWords.{closing, vector_words}

-- a word, and a list of words
pub record IsWord (word : List ℕ) : Type 0 where
  pub is : is_word word ≡ true

pub record AreWords (ws : Words) : Type 0 where
  pub are : list_all is_word ws ≡ true

pub no_words : AreWords []
no_words = record { are = refl }

pub word_then : {w : List ℕ} {ws : Words} → IsWord w → AreWords ws → AreWords (w ∷ ws)
word_then {w} {ws} h k = record { are = and_from (is_word w) (list_all is_word ws) h.is k.are }

pub words_then : {a b : Words} → AreWords a → AreWords b → AreWords (a ++ b)
words_then {a} {b} h k = record { are = all_append is_word a b h.are k.are }

pub inked : (w : List ℕ) → 0 < length w → list_all is_ink w ≡ true → IsWord w
inked w lt h = record { is = and_from (nat_lt 0 (length w)) (list_all is_ink w) (lt-ltb 0 (length w) lt) h }

-- a byte that may stand in an item of a list
abbrev pub is_item : ℕ → Bool
is_item b = nat_lt 44 b

digit_item : (b : ℕ) → is_digit b ≡ true → is_item b ≡ true
digit_item b h = grind (arith, nat_tests)

item_ink : (b : ℕ) → is_item b ≡ true → is_ink b ≡ true
item_ink b h = grind (arith, nat_tests)

item_no_comma : (b : ℕ) → is_item b ≡ true → not (b == 44) ≡ true
item_no_comma b h = grind (arith, nat_tests)

pub no_comma : (text : List ℕ) → list_all is_item text ≡ true → lacks 44 text ≡ true
no_comma text h = all_weaker is_item (λ b. not (b == 44)) text item_no_comma h

decimal_items : (n : ℕ) → n < 2 ^ 64 → list_all is_item (decimal n) ≡ true
decimal_items n lt = all_weaker is_digit is_item (decimal n) digit_item (decimal_digits n lt)

decimal_inks : (n : ℕ) → n < 2 ^ 64 → list_all is_ink (decimal n) ≡ true
decimal_inks n lt = all_weaker is_item is_ink (decimal n) item_ink (decimal_items n lt)

signed_items : (z : ℤ) → is_i64 z ≡ true → list_all is_item (signed_decimal z) ≡ true
signed_items (pos n) h = let lt = ltb-true n (2 ^ 63) h in decimal_items n (omega arith)
signed_items (negsuc n) h = let lt = ltb-true n (2 ^ 63) h in decimal_items (suc n) (omega arith)

pub decimal_word : (n : ℕ) → n < 2 ^ 64 → IsWord (decimal n)
decimal_word n lt = inked (decimal n) (decimal_nonempty n lt) (decimal_inks n lt)

pub txn_word : (txn : TxnId) → txn.session < 2 ^ 64 → txn.number < 2 ^ 64 → txn.attempt < 2 ^ 64 → IsWord (txn_text txn)
unfolding txn_text
txn_word txn s n a =
    let some = decimal_nonempty txn.session s in
    inked (decimal txn.session ++ 46 ∷ (decimal txn.number ++ 46 ∷ decimal txn.attempt)) (simp length-append (omega (arith, some)))
    (all_append is_ink (decimal txn.session) (46 ∷ (decimal txn.number ++ 46 ∷ decimal txn.attempt)) (decimal_inks txn.session s)
    (all_append is_ink (decimal txn.number) (46 ∷ decimal txn.attempt) (decimal_inks txn.number n) (decimal_inks txn.attempt a)))

pub byte_word : (byte : Option ℕ) → is_byte byte ≡ true → IsWord (byte_text byte)
unfolding byte_text
byte_word None h = record { is = refl }
byte_word (Some byte) h = let lt = ltb-true byte (2 ^ 8) h in decimal_word byte (omega arith)

pub choice_word : (choice : Choice) → IsWord (choice_text choice)
unfolding choice_text
choice_word Master = record { is = refl }
choice_word Best = record { is = refl }
choice_word Reader = record { is = refl }
choice_word Hand = record { is = refl }

pub found_word : (found : Found) → IsWord (found_text found)
unfolding found_text
found_word Clean = record { is = refl }
found_word Kept = record { is = refl }
found_word Lost = record { is = refl }

-- ---- items

pub key_items : (key : ℕ) → is_u32 key ≡ true → list_all is_item (decimal key) ≡ true
key_items key h = let le = leb-true key (2 ^ 32 - 1) h in decimal_items key (omega arith)

pub key_begins : (key : ℕ) → is_u32 key ≡ true → NoDash (decimal key)
key_begins key h = let le = leb-true key (2 ^ 32 - 1) h in decimal_begins key (omega arith)

value_items : (key : ℕ) (value : ℤ) → (is_u32 key && is_i64 value) ≡ true → list_all is_item (decimal key ++ 58 ∷ signed_decimal value) ≡ true
value_items key value h =
    let t = and_true (is_u32 key) (is_i64 value) h in
    all_append is_item (decimal key) (58 ∷ signed_decimal value) (key_items key t.0) (signed_items value t.1)

pub pair_items : (pair : Pair) → pair_typed pair ≡ true → list_all is_item (pair_text pair) ≡ true
unfolding pair_text
pair_items pair h = value_items pair.key pair.value h

pub pair_begins : (pair : Pair) → pair_typed pair ≡ true → NoDash (pair_text pair)
unfolding pair_text
pair_begins pair h =
    let b = key_begins pair.key (and_true (is_u32 pair.key) (is_i64 pair.value) h).0 in
    record { first = b.first; rest = b.rest ++ 58 ∷ signed_decimal pair.value; whole = ap (λ (t : List ℕ). t ++ 58 ∷ signed_decimal pair.value) b.whole; dashless = b.dashless }

pub op_items : (op : Op) → op_typed op ≡ true → list_all is_item (op_text op) ≡ true
unfolding op_text
op_items (ops.Read key) h = key_items key (and_true (is_u32 key) true h).0
op_items (ops.Write key value) h = value_items key value h
op_items (ops.Add key by) h = value_items key by h

pub op_begins : (op : Op) → op_typed op ≡ true → NoDash (op_text op)
unfolding op_text
op_begins (ops.Read key) h = record { first = 103; rest = decimal key; whole = refl; dashless = refl }
op_begins (ops.Write key value) h = record { first = 112; rest = decimal key ++ 58 ∷ signed_decimal value; whole = refl; dashless = refl }
op_begins (ops.Add key by) h = record { first = 97; rest = decimal key ++ 58 ∷ signed_decimal by; whole = refl; dashless = refl }

module _ {A : Type 0} (text : A → List ℕ) (typed : A → Bool) where
  rest_inks : ((x : A) → typed x ≡ true → list_all is_item (text x) ≡ true) → (xs : List A) → list_all typed xs ≡ true → list_all is_ink (flat_map (λ y. 44 ∷ text y) xs) ≡ true
  rest_inks items [] h = refl
  rest_inks items (x ∷ xs) h =
      let t = and_true (typed x) (list_all typed xs) h in
      all_append is_ink (text x) (flat_map (λ y. 44 ∷ text y) xs) (all_weaker is_item is_ink (text x) item_ink (items x t.0)) (rest_inks items xs t.1)

  begins_some : (w r : List ℕ) → NoDash w → 0 < length (w ++ r)
  begins_some w r h = rw (h.whole) (omega arith)

  pub list_word : ((x : A) → typed x ≡ true → list_all is_item (text x) ≡ true) → ((x : A) → typed x ≡ true → NoDash (text x)) → (xs : List A) → list_all typed xs ≡ true
      → IsWord (list_text text xs)
  list_word items begins [] h = record { is = refl }
  list_word items begins (x ∷ xs) h =
      let t = and_true (typed x) (list_all typed xs) h in
      inked (joined 44 text (x ∷ xs)) (begins_some (text x) (flat_map (λ y. 44 ∷ text y) xs) (begins x t.0))
      (all_append is_ink (text x) (flat_map (λ y. 44 ∷ text y) xs) (all_weaker is_item is_ink (text x) item_ink (items x t.0)) (rest_inks items xs t.1))

-- ---- vectors

closed_word : (n : ℕ) → n < 2 ^ 64 → IsWord (decimal n ++ 93 ∷ [])
closed_word n lt = inked (decimal n ++ 93 ∷ []) (simp length-append (omega arith)) (all_append is_ink (decimal n) (93 ∷ []) (decimal_inks n lt) refl)

closing_words : (x : ℕ) (xs : List ℕ) → list_all is_u64 (x ∷ xs) ≡ true → AreWords (closing x xs)
closing_words x [] h = let lt = ltb-true x (2 ^ 64) (and_true (is_u64 x) true h).0 in word_then (closed_word x lt) no_words
closing_words x (y ∷ ys) h =
    let t = and_true (is_u64 x) (list_all is_u64 (y ∷ ys)) h in
    word_then (decimal_word x (ltb-true x (2 ^ 64) t.0)) (closing_words y ys t.1)

opened_word : (w : List ℕ) → is_word w ≡ true → IsWord (91 ∷ w)
opened_word w h = inked (91 ∷ w) (omega arith) (and_true (nat_lt 0 (length w)) (list_all is_ink w) h).1

opened_words : (ws : Words) → AreWords ws → AreWords (onto_first 91 ws)
opened_words [] h = word_then (record { is = refl }) no_words
opened_words (w ∷ ws) h = let t = and_true (is_word w) (list_all is_word ws) h.are in word_then (opened_word w t.0) (record { are = t.1 })

pub vector_are_words : (v : List ℕ) → list_all is_u64 v ≡ true → AreWords (vector_words v)
vector_are_words [] h = word_then (record { is = refl }) no_words
vector_are_words (x ∷ xs) h = opened_words (closing x xs) (closing_words x xs h)
