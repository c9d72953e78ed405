-- What decoding tells of bytes.
use Rattle.std.proofs.Common.{◌≡◌, refl, sym, ◌∙◌, ap, subst, ℕ, suc, ◌<◌, ◌≤◌, List, [], ◌∷◌, ◌++◌, length, take, drop, arith, get_or, take-append-drop, length-take-le}
use Rattle.dm_record.specs.Form.{walk, IsWord}
use Rattle.dm_record.specs.Bytes.{frame_of, HasRanges, IsFrame, BeginsFrame}
use Rattle.dm_record.specs.Grammar.{frame_form}
use Rattle.dm_record.specs.Judging.{NoFrame, Tells}
use Rattle.dm_record.specs.declared.record.Record.{Record}
use Rattle.dm_record.specs.declared.record.Decoded.{Decoded}
use Rattle.dm_record.specs.declared.record.Decoded.TheVariants as decoded
use Rattle.dm_record.proofs.Judged.{AreBytes, Judged, judged, word_runs, walk_runs}
use Rattle.dm_record.proofs.Framing.{frame_is}
use Rattle.dm_record.proofs.Wording.{frame_word}
use Rattle.dm_record.proofs.Soundness.{sound_frame}

pub are_bytes : (bytes : List ℕ) → ((i : ℕ) → get_or bytes i 0 < 256) → AreBytes bytes
are_bytes [] each = tt
are_bytes (b ∷ bytes) each = (each 0, are_bytes bytes (λ i. each (suc i)))

frame_is_word : (word : List ℕ) (rec : Record) → IsFrame word rec → IsWord frame_form word rec
frame_is_word word rec h = subst (λ (l : List ℕ). IsWord frame_form l rec) (sym h.1) (frame_word rec h.0)

-- a frame at the front is read, whatever follows it
pub again : (rec : Record) (rest : List ℕ) → HasRanges rec → walk frame_form (frame_of rec ++ rest) 0 ≡ decoded.Whole rec (length (frame_of rec))
again rec rest has = walk_runs frame_form (frame_of rec ++ rest) 0 ∙ word_runs frame_form (frame_of rec) rest rec 0 (frame_word rec has)
    ∙ ap (decoded.Whole rec) (omega arith)

pub found : (bytes : List ℕ) (n : ℕ) (rec : Record) → n ≤ length bytes → IsFrame (take n bytes) rec → walk frame_form bytes 0 ≡ decoded.Whole rec n
found bytes n rec within h =
    ap (λ (l : List ℕ). walk frame_form l 0) (sym (take-append-drop n bytes)) ∙ walk_runs frame_form (take n bytes ++ drop n bytes) 0
    ∙ word_runs frame_form (take n bytes) (drop n bytes) rec 0 (frame_is_word (take n bytes) rec h)
    ∙ ap (decoded.Whole rec) (omega (arith, length-take-le n bytes within))

found_any : (bytes : List ℕ) (n : ℕ) (rec : Record) → IsFrame (take n bytes) rec → (k : ℕ) × (walk frame_form bytes 0 ≡ decoded.Whole rec k)
found_any bytes n rec h = (
  length (take n bytes),
  ap (λ (l : List ℕ). walk frame_form l 0) (sym (take-append-drop n bytes)) ∙ walk_runs frame_form (take n bytes ++ drop n bytes) 0
      ∙ word_runs frame_form (take n bytes) (drop n bytes) rec 0 (frame_is_word (take n bytes) rec h) ∙ ap (decoded.Whole rec) (omega arith),
)

abbrev IsWhole : Decoded → Type 0
IsWhole (decoded.Whole rec used) = Unit {0}
IsWhole decoded.Short = ⊥
IsWhole (decoded.Bad place) = ⊥

none : (bytes : List ℕ) (d : Decoded) → walk frame_form bytes 0 ≡ d → (IsWhole d → ⊥) → NoFrame bytes
none bytes d is not n rec h = let f = found_any bytes n rec h in not (subst IsWhole (sym f.1 ∙ is) tt)

tells_so : (bytes : List ℕ) (d : Decoded) → walk frame_form bytes 0 ≡ d → Judged frame_form bytes 0 d → Tells bytes d
tells_so bytes (decoded.Whole rec used) is (n, same, within, word) =
    let e : n ≡ used = omega (arith, same) in
    subst (λ (k : ℕ). (k ≤ length bytes) × IsFrame (take k bytes) rec) e (within, frame_is rec (take n bytes) word)
tells_so bytes decoded.Short is (next, rest, rec, word) = (none bytes decoded.Short is (λ h. h), (next, rest, rec, frame_is rec (bytes ++ next ∷ rest) word))
tells_so bytes (decoded.Bad place) is (n, same, within, begins, ends) =
    let e : n ≡ place = omega (arith, same) in (
      none bytes (decoded.Bad place) is (λ h. h),
      subst (λ (k : ℕ). k < length bytes) e within,
      subst (λ (k : ℕ). BeginsFrame (take k bytes)) e (begins.0, begins.1, frame_is begins.1 (take n bytes ++ begins.0) begins.2),
      λ h. ends (subst (λ (k : ℕ). (rest : List ℕ) × (rec : Record) × IsWord frame_form (take (suc k) bytes ++ rest) rec) (sym e)
          (h.0, h.1, frame_is_word (take (suc place) bytes ++ h.0) h.1 h.2)),
    )

pub tells : (bytes : List ℕ) → AreBytes bytes → Tells bytes (walk frame_form bytes 0)
tells bytes are = tells_so bytes (walk frame_form bytes 0) refl
    (subst (Judged frame_form bytes 0) (sym (walk_runs frame_form bytes 0)) (judged frame_form sound_frame bytes are 0))
