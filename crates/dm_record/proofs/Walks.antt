-- One step of a walk.
use Rattle.std.proofs.Common.{◌≡◌, refl, sym, ◌∙◌, ap, subst, ℕ, zero, suc, ◌+◌, ◌-◌, ◌*◌, ◌^◌, ◌<◌, ◌≤◌, Bool, true, false, List, length, arith, get_or, lt-ltb, le-ltb, Result, Ok, Err}
use Rattle.std.proofs.lemmas.Nat.{mul-le}
use Rattle.std.specs.Prelude.{IfOk, IfErr}
use Rattle.dm_record.specs.Form.{Form, done, byte, number, walk, span, is_alive}
use Rattle.dm_record.specs.Stopping.{Stops}
use Rattle.dm_record.specs.declared.record.Decoded.{Decoded}
use Rattle.dm_record.specs.declared.reading.Fault.{Fault}
use Rattle.dm_record.specs.declared.reading.Fault.TheVariants as fault
use Rattle.dm_record.specs.declared.reading.Stop.{Stop}
use Rattle.dm_record.specs.declared.record.Record.{Record}
use Rattle.dm_record.specs.declared.record.Decoded.TheVariants as decoded

module _ (test : ℕ → Bool) (next : ℕ → Form) (bytes : List ℕ) (at : ℕ) where
  pub walk_more : at < length bytes → test (get_or bytes at 0) ≡ true → walk (byte test next) bytes at ≡ walk (next (get_or bytes at 0)) bytes (at + 1)
  unfolding walk
  walk_more within passes = rw (lt-ltb at (length bytes) within, passes) refl

  pub walk_bad : at < length bytes → test (get_or bytes at 0) ≡ false → walk (byte test next) bytes at ≡ decoded.Bad at
  unfolding walk
  walk_bad within fails = rw (lt-ltb at (length bytes) within, fails) refl

  pub walk_short : length bytes ≤ at → walk (byte test next) bytes at ≡ decoded.Short
  unfolding walk
  walk_short past = rw (le-ltb at (length bytes) past) refl

module _ (low high so_far : ℕ) (next : ℕ → Form) (bytes : List ℕ) (at : ℕ) where
  pub number_more : (width : ℕ) → 0 < width → at < length bytes → is_alive low high (so_far * 256 + get_or bytes at 0) (width - 1) ≡ true
      → walk (number low high so_far width next) bytes at ≡ walk (number low high (so_far * 256 + get_or bytes at 0) (width - 1) next) bytes (at + 1)
  unfolding number
  number_more zero some within alive = absurd (omega arith)
  number_more (suc w) some within alive =
      let same : suc w - 1 ≡ w = omega arith in
      walk_more (λ b. is_alive low high (so_far * 256 + b) w) (λ b. number low high (so_far * 256 + b) w next) bytes at within
      (ap (λ (k : ℕ). is_alive low high (so_far * 256 + get_or bytes at 0) k) (sym same) ∙ alive)
      ∙ ap (λ (k : ℕ). walk (number low high (so_far * 256 + get_or bytes at 0) k next) bytes (at + 1)) (sym same)

  pub number_bad : (width : ℕ) → 0 < width → at < length bytes → is_alive low high (so_far * 256 + get_or bytes at 0) (width - 1) ≡ false
      → walk (number low high so_far width next) bytes at ≡ decoded.Bad at
  unfolding number
  number_bad zero some within dead = absurd (omega arith)
  number_bad (suc w) some within dead =
      let same : suc w - 1 ≡ w = omega arith in
      walk_bad (λ b. is_alive low high (so_far * 256 + b) w) (λ b. number low high (so_far * 256 + b) w next) bytes at within
      (ap (λ (k : ℕ). is_alive low high (so_far * 256 + get_or bytes at 0) k) (sym same) ∙ dead)

  pub number_short : (width : ℕ) → 0 < width → length bytes ≤ at → walk (number low high so_far width next) bytes at ≡ decoded.Short
  unfolding number
  number_short zero some past = absurd (omega arith)
  number_short (suc w) some past = walk_short (λ b. is_alive low high (so_far * 256 + b) w) (λ b. number low high (so_far * 256 + b) w next) bytes at past

pub number_none : (low high so_far : ℕ) (next : ℕ → Form) (bytes : List ℕ) (at : ℕ)
    → walk (number low high so_far 0 next) bytes at ≡ walk (next so_far) bytes at
unfolding number
number_none low high so_far next bytes at = refl

pub walk_byte : (test : ℕ → Bool) (next : ℕ → Form) (bytes : List ℕ) (at b : ℕ) → (b ≡ get_or bytes at 0) × (at < length bytes) → test b ≡ true
    → walk (byte test next) bytes at ≡ walk (next b) bytes (at + 1)
walk_byte test next bytes at b is passes = walk_more test next bytes at is.1 (ap test (sym is.0) ∙ passes)
    ∙ ap (λ (k : ℕ). walk (next k) bytes (at + 1)) (sym is.0)

pub stops_on : (fault : Fault) (found more : Decoded) → found ≡ more → Stops fault more → Stops fault found
stops_on (fault.At stop) found more is holds = is ∙ holds
stops_on fault.Memory found more is holds = tt

pub walk_done : (rec : Record) (bytes : List ℕ) (at : ℕ) → walk (done rec) bytes at ≡ decoded.Whole rec at
unfolding walk
walk_done rec bytes at = refl

pub ok_to : (P Q : ℕ → Type 0) (result : Result ℕ Stop) → IfOk result P → ((n : ℕ) → P n → Q n) → IfOk result Q
ok_to P Q (Ok n) holds to = to n holds
ok_to P Q (Err e) holds to = tt

pub err_to : (P Q : Stop → Type 0) (result : Result ℕ Stop) → IfErr result P → ((s : Stop) → P s → Q s) → IfErr result Q
err_to P Q (Ok n) holds to = tt
err_to P Q (Err e) holds to = to e holds

pub span_some : (k : ℕ) → 0 < span k
span_some zero = omega arith
span_some (suc k) = omega (arith, span_some k)

pub dead_above : (low high so_far width : ℕ) → high < so_far → is_alive low high so_far width ≡ false
dead_above low high so_far width above =
    let one : so_far * 1 ≤ so_far * span width = mul-le so_far 1 so_far (span width) (omega arith) (span_some width) in
    let far : high < so_far * span width = omega (arith, one, above) in
    grind (arith, far)

-- the numbers that begin with one byte more begin with those before it
pub next_within : (so_far b width : ℕ) → 0 < width → b < 256
    → (so_far * span width ≤ (so_far * 256 + b) * span (width - 1))
    × ((so_far * 256 + b) * span (width - 1) + span (width - 1) ≤ so_far * span width + span width)
next_within so_far b zero some small = absurd (omega arith)
next_within so_far b (suc k) some small =
    let same : suc k - 1 ≡ k = omega arith in
    let ring : (so_far * 256 + b) * span k ≡ so_far * (span k * 256) + b * span k = grind arith in
    let most : b * span k ≤ 255 * span k = mul-le b (span k) 255 (span k) (omega arith) (omega arith) in
    subst (λ (j : ℕ). (so_far * (span k * 256) ≤ (so_far * 256 + b) * span j)
    × ((so_far * 256 + b) * span j + span j ≤ so_far * (span k * 256) + span k * 256)) (sym same) (omega (arith, ring), omega (arith, ring, most))

pub next_fits : (so_far b width : ℕ) → 0 < width → b < 256 → so_far * span width + span width ≤ 2 ^ 64 → so_far * 256 + b < 2 ^ 64
next_fits so_far b width some small fits =
    let next = so_far * 256 + b in
    let s = span (width - 1) in
    let one : next * 1 ≤ next * s = mul-le next 1 next s (omega arith) (span_some (width - 1)) in
    omega (arith, one, span_some (width - 1), (next_within so_far b width some small).1, fits)

span_grows : (k n : ℕ) → span k ≤ span (n + k)
span_grows k zero =
    let same : 0 + k ≡ k = omega arith in
    subst (λ (j : ℕ). span k ≤ span j) (sym same) (omega arith)
span_grows k (suc n) =
    let same : suc n + k ≡ suc (n + k) = omega arith in
    subst (λ (j : ℕ). span k ≤ span j) (sym same) (omega (arith, span_grows k n))

pub span_most : (k : ℕ) → k ≤ 8 → span k ≤ 2 ^ 64
span_most k few =
    let all : 8 - k + k ≡ 8 = omega arith in
    subst (λ (n : ℕ). span k ≤ span n) all (span_grows k (8 - k))

pub alive_between : (low high n so_far width : ℕ) → so_far * span width ≤ n → n < so_far * span width + span width → low ≤ n → n ≤ high
    → is_alive low high so_far width ≡ true
alive_between low high n so_far width least most above below = grind (arith, least, most, above, below)
