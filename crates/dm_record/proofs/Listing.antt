-- The words of a vector and of pairs.
use Rattle.std.proofs.Common.{◌≡◌, refl, sym, ◌∙◌, ap, subst, ℕ, zero, suc, ◌+◌, ◌-◌, ◌*◌, ◌%◌, ◌^◌, ◌<◌, ◌≤◌, List, [], ◌∷◌, ◌++◌, length, arith, append_assoc, length-append}
use Rattle.std.proofs.lemmas.List.{append-nil}
use Rattle.std.proofs.lemmas.Int.{ints, to_z-of_z, of_z-to_z}
use Rattle.std.specs.Int.{cast_signed, cast_unsigned, w64}
use Rattle.std.specs.Prelude.{FitsSigned}
use Rattle.dm_event.specs.declared.step.Pair.{Pair}
use Rattle.dm_record.specs.declared.record.Record.{Record}
use Rattle.dm_record.specs.Form.{Form, number, IsWord, span}
use Rattle.dm_record.specs.Bytes.{digits, components, pairs, AreComponents, AreKeys, AreValues}
use Rattle.dm_record.specs.Grammar.{components_form, pairs_form}
use Rattle.dm_record.proofs.Spelling.{number_is, number_word, sound_number}
use Rattle.dm_record.proofs.Judged.{IsSound}

pub length-digits : (width n : ℕ) → length (digits width n) ≡ width
length-digits zero n = refl
length-digits (suc width) n = ap suc (length-digits width (n % span width))

pub length-components : (v : List ℕ) → length (components v) ≡ 8 * length v
length-components [] = refl
length-components (x ∷ v) = omega (arith, length-append (digits 8 x) (components v), length-digits 8 x, length-components v)

pub length-pairs : (ps : List Pair) → length (pairs ps) ≡ 12 * length ps
length-pairs [] = refl
length-pairs (p ∷ ps) =
    omega (
      arith,
      length-append (digits 4 p.key) (digits 8 (cast_unsigned w64 p.value) ++ pairs ps),
      length-append (digits 8 (cast_unsigned w64 p.value))
          (pairs ps),
      length-digits 4 p.key,
      length-digits 8 (cast_unsigned w64 p.value),
      length-pairs ps,
    )

module _ (next : List ℕ → Form) (rec : Record) where
  pub components_is : (k : ℕ) (before word : List ℕ) → IsWord (components_form k before next) word rec → (v : List ℕ) × (rest : List ℕ) × (length v ≡ k)
      × AreComponents v × (word ≡ components v ++ rest) × IsWord (next (before ++ v)) rest rec
  unfolding components_form
  components_is zero before word h = ([], word, refl, tt, refl, subst (λ (l : List ℕ). IsWord (next l) word rec) (sym (append-nil before)) h)
  components_is (suc k) before word h =
      let x = number_is 0 (2 ^ 64 - 1) (λ x. components_form k (before ++ x ∷ []) next) rec 8 word (omega arith) h in
      let more = components_is k (before ++ x.0 ∷ []) x.1 x.6 in (
        x.0 ∷ more.0,
        more.1,
        ap suc more.2,
        (omega (arith, x.4), more.3),
        x.5 ∙ ap (λ (l : List ℕ). digits 8 x.0 ++ l) more.4
            ∙ sym (append_assoc (digits 8 x.0) (components more.0) more.1),
        subst (λ (l : List ℕ). IsWord (next l) more.1 rec) (append_assoc before (x.0 ∷ []) more.0) more.5,
      )

  pub components_word : (v before rest : List ℕ) → AreComponents v → IsWord (next (before ++ v)) rest rec
      → IsWord (components_form (length v) before next) (components v ++ rest) rec
  unfolding components_form
  components_word [] before rest are h = subst (λ (l : List ℕ). IsWord (next l) rest rec) (append-nil before) h
  components_word (x ∷ v) before rest are h =
      let more = components_word v (before ++ x ∷ []) rest are.1 (subst (λ (l : List ℕ). IsWord (next l) rest rec) (sym (append_assoc before (x ∷ []) v)) h) in
      subst (λ (l : List ℕ). IsWord (number 0 (2 ^ 64 - 1) 0 8 (λ y. components_form (length v) (before ++ y ∷ []) next)) l rec)
      (sym (append_assoc (digits 8 x) (components v) rest))
      (number_word 0 (2 ^ 64 - 1) (λ y. components_form (length v) (before ++ y ∷ []) next) rec 8 x (components v ++ rest) are.0 (omega arith)
      (omega (arith, are.0)) more)

pub sound_components : (next : List ℕ → Form) → ((v : List ℕ) → IsSound (next v)) → (k : ℕ) (before : List ℕ) → IsSound (components_form k before next)
unfolding components_form
sound_components next sound zero before = sound before
sound_components next sound (suc k) before =
    sound_number 0 (2 ^ 64 - 1) (omega arith) (λ x. components_form k (before ++ x ∷ []) next)
    (λ x least most. sound_components next sound k (before ++ x ∷ [])) 8 (omega arith)

pub keys_room : (least : ℕ) (ps : List Pair) → least ≤ 16777216 → AreKeys least ps → least + length ps ≤ 16777216
keys_room least [] fits are = omega (arith, fits)
keys_room least (p ∷ ps) fits are = let more = keys_room (p.key + 1) ps (omega (arith, are.0.1)) are.1 in omega (arith, more, are.0.0)

pair_back : (p : Pair) → FitsSigned w64 p.value → record { key = p.key; value = cast_signed w64 (cast_unsigned w64 p.value) } ≡ p
pair_back p fits = ap (λ z. record { key = p.key; value = z }) (to_z-of_z w64 p.value fits)

module _ (next : List Pair → Form) where
  after_key : ℕ → List Pair → ℕ → Form
  after_key k before key = number 0 (2 ^ 64 - 1) 0 8 (λ bits. pairs_form k (key + 1) (before ++ record { key = key; value = cast_signed w64 bits } ∷ []) next)

  after_bits : ℕ → List Pair → ℕ → ℕ → Form
  after_bits k before key bits = pairs_form k (key + 1) (before ++ record { key = key; value = cast_signed w64 bits } ∷ []) next

  module _ (rec : Record) where
    pub pairs_is : (k least : ℕ) (before : List Pair) (word : List ℕ) → least + k ≤ 16777216 → IsWord (pairs_form k least before next) word rec
        → (ps : List Pair) × (rest : List ℕ) × (length ps ≡ k) × AreKeys least ps × AreValues ps × (word ≡ pairs ps ++ rest)
        × IsWord (next (before ++ ps)) rest rec
    unfolding pairs_form after_key after_bits
    pairs_is zero least before word room h = ([], word, refl, tt, tt, refl, subst (λ (l : List Pair). IsWord (next l) word rec) (sym (append-nil before)) h)
    pairs_is (suc k) least before word room h =
        let x = number_is least (16777215 - k) (after_key k before) rec 4 word (omega (arith, room)) h in
        let y = number_is 0 (2 ^ 64 - 1) (after_bits k before x.0) rec 8 x.1 (omega arith) x.6 in
        let p : Pair = record { key = x.0; value = cast_signed w64 y.0 } in
        let more = pairs_is k (x.0 + 1) (before ++ p ∷ []) y.1 (omega (arith, x.4, room)) y.6 in
        let back : cast_unsigned w64 (cast_signed w64 y.0) ≡ y.0 = of_z-to_z w64 y.0 y.2 in
        let split : word ≡ digits 4 x.0 ++ (digits 8 (cast_unsigned w64 p.value) ++ (pairs more.0 ++ more.1)) =
        x.5 ∙ ap (λ (l : List ℕ). digits 4 x.0 ++ l) (y.5 ∙ ap (λ (l : List ℕ). digits 8 y.0 ++ l) more.5)
        ∙ ap (λ (n : ℕ). digits 4 x.0 ++ (digits 8 n ++ (pairs more.0 ++ more.1))) (sym back) in (
          p ∷ more.0,
          more.1,
          ap suc more.2,
          ((x.3, omega (arith, x.4)), more.3),
          (signed_fits y.0 y.2, more.4),
          split ∙ ap (λ (l : List ℕ). digits 4 x.0 ++ l) (sym (append_assoc (digits 8 (cast_unsigned w64 p.value)) (pairs more.0) more.1))
              ∙ sym (append_assoc (digits 4 x.0) (digits 8 (cast_unsigned w64 p.value) ++ pairs more.0) more.1),
          subst (λ (l : List Pair). IsWord (next l) more.1 rec) (append_assoc before (p ∷ []) more.0) more.6,
        )
      where
        signed_fits : (n : ℕ) → n < 2 ^ 64 → FitsSigned w64 (cast_signed w64 n)
        signed_fits n fits = omega (arith, ints, fits)

    pub pairs_word : (ps : List Pair) (least : ℕ) (before : List Pair) (rest : List ℕ) → AreKeys least ps → AreValues ps → IsWord (next (before ++ ps)) rest rec
        → IsWord (pairs_form (length ps) least before next) (pairs ps ++ rest) rec
    unfolding pairs_form after_key after_bits
    pairs_word [] least before rest keys values h = subst (λ (l : List Pair). IsWord (next l) rest rec) (append-nil before) h
    pairs_word (p ∷ ps) least before rest keys values h =
        let k = length ps in
        let n = cast_unsigned w64 p.value in
        let fits : n < 2 ^ 64 = omega (arith, ints, values.0) in
        let room = keys_room (p.key + 1) ps (omega (arith, keys.0.1)) keys.1 in
        let more = pairs_word ps (p.key + 1) (before ++ p ∷ []) rest keys.1 values.1
        (subst (λ (l : List Pair). IsWord (next l) rest rec) (sym (append_assoc before (p ∷ []) ps)) h) in
        let here = subst (λ (q : Pair). IsWord (pairs_form k (p.key + 1) (before ++ q ∷ []) next) (pairs ps ++ rest) rec) (sym (pair_back p values.0)) more in
        let bits = number_word 0 (2 ^ 64 - 1) (after_bits k before p.key) rec 8 n (pairs ps ++ rest) fits (omega arith) (omega (arith, fits)) here in
        let key = number_word least (16777215 - k) (after_key k before) rec 4 p.key (digits 8 n ++ (pairs ps ++ rest)) (omega (arith, keys.0.1)) keys.0.0
        (omega (arith, room)) bits in
        subst (λ (l : List ℕ). IsWord (number least (16777215 - k) 0 4 (after_key k before)) l rec)
        (ap (λ (l : List ℕ). digits 4 p.key ++ l) (sym (append_assoc (digits 8 n) (pairs ps) rest))
        ∙ sym (append_assoc (digits 4 p.key) (digits 8 n ++ pairs ps) rest)) key

  pub sound_pairs : ((ps : List Pair) → IsSound (next ps)) → (k least : ℕ) (before : List Pair) → least + k ≤ 16777216
      → IsSound (pairs_form k least before next)
  unfolding pairs_form after_key after_bits
  sound_pairs sound zero least before room = sound before
  sound_pairs sound (suc k) least before room =
      sound_number least (16777215 - k) (omega (arith, room)) (after_key k before)
      (λ key low high. sound_number 0 (2 ^ 64 - 1) (omega arith) (after_bits k before key)
      (λ bits low most. sound_pairs sound k (key + 1) (before ++ record { key = key; value = cast_signed w64 bits } ∷ []) (omega (arith, high, room))) 8
      (omega arith)) 4 (omega (arith, room))
