-- A walk through a form tells what stands at the front of the bytes.
use Rattle.std.proofs.Common.{◌≡◌, refl, sym, ◌∙◌, ap, subst, ℕ, zero, suc, ◌+◌, ◌<◌, ◌≤◌, Bool, true, false, cond, List, [], ◌∷◌, ◌++◌, length, take, drop, arith, get_or, ◌⊎◌, inl, inr}
use Rattle.std.proofs.lemmas.Bool.{false≢true, cases_lt}
use Rattle.std.proofs.lemmas.List.{drop_all}
use Rattle.dm_record.specs.Form.{Form, done, byte, walk, IsWord}
use Rattle.dm_record.specs.declared.record.Record.{Record}
use Rattle.dm_record.specs.declared.record.Decoded.{Decoded}
use Rattle.dm_record.specs.declared.record.Decoded.TheVariants as decoded
use Rattle.dm_record.proofs.Walks.{walk_more, walk_bad, walk_short}

-- the same walk, over the bytes that are left
pub run : Form → List ℕ → ℕ → Decoded
run (done r) bytes at = decoded.Whole r at
run (byte test next) [] at = decoded.Short
run (byte test next) (b ∷ bytes) at = cond (test b) (run (next b) bytes (at + 1)) (decoded.Bad at)

abbrev pub AreBytes : List ℕ → Type 0
AreBytes [] = Unit {0}
AreBytes (b ∷ bytes) = (b < 256) × AreBytes bytes

-- each byte that may stand somewhere can go on to a word
abbrev pub IsSound : Form → Type 0
IsSound (done r) = Unit {0}
IsSound (byte test next) = ((b : ℕ) × (b < 256) × (test b ≡ true)) × ((b : ℕ) → b < 256 → test b ≡ true → IsSound (next b))

pub some_word : (form : Form) → IsSound form → (word : List ℕ) × (rec : Record) × IsWord form word rec
unfolding IsWord
some_word (done r) sound = ([], r, refl)
some_word (byte test next) sound =
    let b = sound.0.0 in
    let more = some_word (next b) (sound.1 b sound.0.1 sound.0.2) in
    (b ∷ more.0, more.1, (sound.0.1, sound.0.2, more.2))

-- words that begin with these bytes
abbrev pub Begins : Form → List ℕ → Type 0
Begins form bytes = (rest : List ℕ) × (rec : Record) × IsWord form (bytes ++ rest) rec

abbrev pub Judged : Form → List ℕ → ℕ → Decoded → Type 0
Judged form bytes at (decoded.Whole r used) = (n : ℕ) × (used ≡ at + n) × (n ≤ length bytes) × IsWord form (take n bytes) r
Judged form bytes at decoded.Short = (next : ℕ) × (rest : List ℕ) × (rec : Record) × IsWord form (bytes ++ next ∷ rest) rec
Judged form bytes at (decoded.Bad place) = (n : ℕ) × (place ≡ at + n) × (n < length bytes) × Begins form (take n bytes) × (Begins form (take (suc n) bytes) → ⊥)

module _ (test : ℕ → Bool) (next : ℕ → Form) (b : ℕ) (bytes : List ℕ) (at : ℕ) (fits : b < 256) where
  judged_more : test b ≡ true → (d : Decoded) → Judged (next b) bytes (at + 1) d → Judged (byte test next) (b ∷ bytes) at d
  unfolding IsWord
  judged_more passes (decoded.Whole r used) (n, is, within, word) = (suc n, omega (arith, is), omega (arith, within), (fits, passes, word))
  judged_more passes decoded.Short (c, rest, rec, word) = (c, rest, rec, (fits, passes, word))
  judged_more passes (decoded.Bad place) (n, is, within, begins, ends) =
      (suc n, omega (arith, is), omega (arith, within), (begins.0, begins.1, (fits, passes, begins.2)), λ h. ends (h.0, h.1, h.2.2))

  judged_here : IsSound (byte test next) → test b ≡ false → Judged (byte test next) (b ∷ bytes) at (decoded.Bad at)
  unfolding IsWord
  judged_here sound fails =
      (0, omega arith, omega arith, some_word (byte test next) sound, λ h. no (sym fails ∙ h.2.1))
    where
      no : false ≡ true → ⊥
      no e = absurd (false≢true e)

pub judged : (form : Form) → IsSound form → (bytes : List ℕ) → AreBytes bytes → (at : ℕ) → Judged form bytes at (run form bytes at)
unfolding run IsWord
judged (done r) sound bytes are at = (0, omega arith, omega arith, refl)
judged (byte test next) sound [] are at = from (some_word (byte test next) sound)
  where
    from : (word : List ℕ) × (rec : Record) × IsWord (byte test next) word rec → Judged (byte test next) [] at decoded.Short
    from ([], rec, word) = absurd word
    from (b ∷ more, rec, word) = (b, more, rec, word)
judged (byte test next) sound (b ∷ bytes) are at = by (λ is. judged (next b) (sound.1 b are.0 is) bytes are.1 (at + 1)) (test b) refl
  where
    by : (test b ≡ true → Judged (next b) bytes (at + 1) (run (next b) bytes (at + 1))) → (t : Bool) → test b ≡ t
        → Judged (byte test next) (b ∷ bytes) at (cond (test b) (run (next b) bytes (at + 1)) (decoded.Bad at))
    by more true is = subst (λ (t : Bool). Judged (byte test next) (b ∷ bytes) at (cond t (run (next b) bytes (at + 1)) (decoded.Bad at))) (sym is)
        (judged_more test next b bytes at are.0 is (run (next b) bytes (at + 1)) (more is))
    by more false is = subst (λ (t : Bool). Judged (byte test next) (b ∷ bytes) at (cond t (run (next b) bytes (at + 1)) (decoded.Bad at))) (sym is)
        (judged_here test next b bytes at are.0 sound is)

-- a word at the front is read, whatever follows it
pub word_runs : (form : Form) (word rest : List ℕ) (rec : Record) (at : ℕ) → IsWord form word rec
    → run form (word ++ rest) at ≡ decoded.Whole rec (at + length word)
unfolding run IsWord
word_runs (done r) [] rest rec at is = ap (λ (x : Record). decoded.Whole x at) (sym is) ∙ ap (decoded.Whole rec) (omega arith)
word_runs (done r) (b ∷ word) rest rec at is = absurd is
word_runs (byte test next) [] rest rec at is = absurd is
word_runs (byte test next) (b ∷ word) rest rec at is =
    ap (λ (t : Bool). cond t (run (next b) (word ++ rest) (at + 1)) (decoded.Bad at)) is.1 ∙ word_runs (next b) word rest rec (at + 1) is.2
    ∙ ap (decoded.Whole rec) (omega arith)

drop_cons : (bytes : List ℕ) (at : ℕ) → at < length bytes → drop at bytes ≡ get_or bytes at 0 ∷ drop (at + 1) bytes
drop_cons [] at within = absurd (omega arith)
drop_cons (b ∷ bytes) zero within = refl
drop_cons (b ∷ bytes) (suc at) within = let e : suc (at + 1) ≡ suc at + 1 = omega arith in drop_cons bytes at (omega (arith, within))
    ∙ ap (λ (k : ℕ). get_or bytes at 0 ∷ drop k (b ∷ bytes)) e

module _ (test : ℕ → Bool) (next : ℕ → Form) (bytes : List ℕ) (at : ℕ) where
  runs_on : at < length bytes → (t : Bool) → test (get_or bytes at 0) ≡ t
      → run (byte test next) (drop at bytes) at ≡ cond t (run (next (get_or bytes at 0)) (drop (at + 1) bytes) (at + 1)) (decoded.Bad at)
  unfolding run
  runs_on within t is = ap (λ (l : List ℕ). run (byte test next) l at) (drop_cons bytes at within)
      ∙ ap (λ (t : Bool). cond t (run (next (get_or bytes at 0)) (drop (at + 1) bytes) (at + 1)) (decoded.Bad at)) is

  walk_runs_on : walk (next (get_or bytes at 0)) bytes (at + 1) ≡ run (next (get_or bytes at 0)) (drop (at + 1) bytes) (at + 1) → (at < length bytes)
      ⊎ (length bytes ≤ at) → (t : Bool) → test (get_or bytes at 0) ≡ t → walk (byte test next) bytes at ≡ run (byte test next) (drop at bytes) at
  unfolding run
  walk_runs_on more (inr past) t is = walk_short test next bytes at past ∙ ap (λ (l : List ℕ). run (byte test next) l at) (sym (drop_all at bytes past))
  walk_runs_on more (inl within) true is = walk_more test next bytes at within is ∙ more ∙ sym (runs_on within true is)
  walk_runs_on more (inl within) false is = walk_bad test next bytes at within is ∙ sym (runs_on within false is)

pub walk_runs : (form : Form) (bytes : List ℕ) (at : ℕ) → walk form bytes at ≡ run form (drop at bytes) at
unfolding walk run
walk_runs (done r) bytes at = refl
walk_runs (byte test next) bytes at = walk_runs_on test next bytes at (walk_runs (next (get_or bytes at 0)) bytes (at + 1)) (cases_lt at (length bytes))
    (test (get_or bytes at 0)) refl
