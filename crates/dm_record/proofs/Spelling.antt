-- The words of a number, of a vector and of pairs.
use Rattle.std.proofs.Common.{◌≡◌, refl, sym, ◌∙◌, ap, subst, ℕ, zero, suc, ◌+◌, ◌-◌, ◌*◌, ◌/◌, ◌%◌, ◌<◌, ◌≤◌, max, true, List, [], ◌∷◌, ◌++◌, arith, ◌⊎◌, inl, inr}
use Rattle.std.proofs.lemmas.Bool.{cases_lt}
use Rattle.std.proofs.lemmas.Nat.{div-mul-add, mod-mul-add, div-add-mod', mul-le}
use Rattle.std.proofs.Math.Nat.{mod-lt}
use Rattle.dm_record.specs.declared.record.Record.{Record}
use Rattle.dm_record.specs.Form.{Form, number, IsWord, span, is_alive}
use Rattle.dm_record.specs.Bytes.{digits}
use Rattle.dm_record.proofs.Walks.{span_some}
use Rattle.dm_record.proofs.Judged.{IsSound}

alive_is : (low high so_far width : ℕ) → is_alive low high so_far width ≡ true → (low < so_far * span width + span width) × (so_far * span width ≤ high)
alive_is low high so_far width h = (grind (arith, h), grind (arith, h))

is_alive_from : (low high so_far width : ℕ) → low < so_far * span width + span width → so_far * span width ≤ high → is_alive low high so_far width ≡ true
is_alive_from low high so_far width h k = grind (arith, h, k)

below_all : (b s : ℕ) → b < 256 → b * s + s ≤ s * 256
below_all b s fits =
    let room = 255 - b in
    let out : (b + room) * s ≡ b * s + room * s = grind arith in
    let all : b + room ≡ 255 = omega arith in
    let full : 255 * s ≡ b * s + room * s = ap (λ (n : ℕ). n * s) (sym all) ∙ out in
    omega (arith, full)

out_of : (so_far b s t : ℕ) → (so_far * 256 + b) * s + t ≡ so_far * (s * 256) + (b * s + t)
out_of so_far b s t = grind arith

-- the first digit, and the number that the others spell
first_digit : (s tail : ℕ) → 0 < s → tail < s * 256 → (tail / s < 256) × (tail % s < s) × (tail ≡ tail / s * s + tail % s)
first_digit s tail some less =
    let split = div-add-mod' tail s in
    let small = mod-lt tail some in
    (lt_of (tail / s) s (omega (arith, split, less)), small, sym split)
  where
    lt_of : (q s : ℕ) → q * s < s * 256 → q < 256
    lt_of q s h = by (cases_lt q 256)
      where
        by : (q < 256) ⊎ (256 ≤ q) → q < 256
        by (inl below) = below
        by (inr above) = absurd (omega (arith, mul-le 256 s q s above (omega arith), h))

module _ (low high : ℕ) (next : ℕ → Form) (rec : Record) where
  number_is_behind : (width so_far : ℕ) (word : List ℕ) → is_alive low high so_far width ≡ true → IsWord (number low high so_far width next) word rec →
      (tail : ℕ) × (rest : List ℕ) × (tail < span width) × (low ≤ so_far * span width + tail) × (so_far * span width + tail ≤ high)
      × (word ≡ digits width tail ++ rest) × IsWord (next (so_far * span width + tail)) rest rec
  unfolding number IsWord
  number_is_behind zero so_far word alive h =
      let a = alive_is low high so_far 0 alive in
      let same : so_far ≡ so_far * 1 + 0 = omega arith in
      (0, word, omega arith, omega (arith, a.0), omega (arith, a.1), refl, subst (λ (k : ℕ). IsWord (next k) word rec) same h)
  number_is_behind (suc width) so_far [] alive h = absurd h
  number_is_behind (suc width) so_far (b ∷ word) alive h =
      let more = number_is_behind width (so_far * 256 + b) word h.1 h.2 in
      let s = span width in
      let t = more.0 in
      let e : (so_far * 256 + b) * s + t ≡ so_far * (s * 256) + (b * s + t) = out_of so_far b s t in
      let most : b * s + s ≤ s * 256 = below_all b s h.0 in
      let q : (b * s + t) / s ≡ b = div-mul-add b s t more.2 in
      let r : (b * s + t) % s ≡ t = mod-mul-add b s t more.2 in (
        b * s + t,
        more.1,
        omega (arith, most, more.2),
        omega (arith, e, more.3),
        omega (arith, e, more.4),
        ap (λ (l : List ℕ). b ∷ l) more.5 ∙ ap (λ (k : ℕ). k ∷ (digits width t ++ more.1)) (sym q)
            ∙ ap (λ (k : ℕ). (b * s + t) / s ∷ (digits width k ++ more.1)) (sym r),
        subst (λ (k : ℕ). IsWord (next k) more.1 rec) e more.6,
      )

  word_of_number : (width so_far tail : ℕ) (rest : List ℕ) → tail < span width → low ≤ so_far * span width + tail → so_far * span width + tail ≤ high
      → IsWord (next (so_far * span width + tail)) rest rec → IsWord (number low high so_far width next) (digits width tail ++ rest) rec
  unfolding number IsWord
  word_of_number zero so_far tail rest less least most h =
      let same : so_far * 1 + tail ≡ so_far = omega (arith, less) in subst (λ (k : ℕ). IsWord (next k) rest rec) same h
  word_of_number (suc width) so_far tail rest less least most h =
      let s = span width in
      let d = first_digit s tail (span_some width) less in
      let b = tail / s in
      let t = tail % s in
      let e : (so_far * 256 + b) * s + t ≡ so_far * (s * 256) + (b * s + t) = out_of so_far b s t in
      let all : so_far * (s * 256) + tail ≡ (so_far * 256 + b) * s + t = omega (arith, e, d.2) in (
        d.0,
        is_alive_from low high (so_far * 256 + b) width (omega (arith, all, least, d.1)) (omega (arith, all, most)),
        word_of_number width (so_far * 256 + b) t rest d.1 (omega (arith, all, least)) (omega (arith, all, most))
            (subst (λ (k : ℕ). IsWord (next k) rest rec) all h),
      )

  pub number_is : (width : ℕ) (word : List ℕ) → low < span width → IsWord (number low high 0 width next) word rec →
      (n : ℕ) × (rest : List ℕ) × (n < span width) × (low ≤ n) × (n ≤ high) × (word ≡ digits width n ++ rest) × IsWord (next n) rest rec
  number_is width word fits h =
      let none : 0 * span width ≡ 0 = grind arith in
      let is = number_is_behind width 0 word (is_alive_from low high 0 width (omega (arith, none, fits)) (omega (arith, none))) h in
      let same : 0 * span width + is.0 ≡ is.0 = omega (arith, none) in
      (is.0, is.1, is.2, omega (arith, none, is.3), omega (arith, none, is.4), is.5, subst (λ (k : ℕ). IsWord (next k) is.1 rec) same is.6)

  pub number_word : (width n : ℕ) (rest : List ℕ) → n < span width → low ≤ n → n ≤ high → IsWord (next n) rest rec
      → IsWord (number low high 0 width next) (digits width n ++ rest) rec
  number_word width n rest less least most h =
      let none : 0 * span width ≡ 0 = grind arith in
      let same : n ≡ 0 * span width + n = omega (arith, none) in
      word_of_number width 0 n rest less (omega (arith, none, least)) (omega (arith, none, most)) (subst (λ (k : ℕ). IsWord (next k) rest rec) same h)

module _ (low high : ℕ) (order : low ≤ high) (next : ℕ → Form) (sound : (n : ℕ) → low ≤ n → n ≤ high → IsSound (next n)) where
  sound_behind : (width so_far : ℕ) → is_alive low high so_far width ≡ true → IsSound (number low high so_far width next)
  unfolding number
  sound_behind zero so_far alive = let a = alive_is low high so_far 0 alive in sound so_far (omega (arith, a.0)) (omega (arith, a.1))
  sound_behind (suc width) so_far alive =
      let a = alive_is low high so_far (suc width) alive in
      let s = span width in
      let base = so_far * (s * 256) in
      let tail = max low base - base in
      let d = first_digit s tail (span_some width) (omega (arith, a.0, span_some width)) in
      let b = tail / s in
      let e : (so_far * 256 + b) * s + tail % s ≡ base + (b * s + tail % s) = out_of so_far b s (tail % s) in (
        (b, d.0, is_alive_from low high (so_far * 256 + b) width (omega (arith, e, d.1, d.2)) (omega (arith, e, d.2, order, a.1))),
        λ c fits passes. sound_behind width (so_far * 256 + c) passes,
      )

  pub sound_number : (width : ℕ) → low < span width → IsSound (number low high 0 width next)
  sound_number width fits = let none : 0 * span width ≡ 0 =
      grind arith in sound_behind width 0 (is_alive_from low high 0 width (omega (arith, none, fits)) (omega (arith, none)))
