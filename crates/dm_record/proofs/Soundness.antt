-- Each byte that may stand somewhere in a frame can go on to a whole frame.
use Rattle.std.proofs.Common.{◌≡◌, refl, ℕ, zero, suc, ◌+◌, ◌-◌, ◌*◌, ◌/◌, ◌^◌, ◌<◌, ◌≤◌, Bool, true, false, ◌&&◌, ◌||◌, cond, eqb, [], arith, lit<}
use Rattle.std.proofs.lemmas.Bool.{false≢true, eq-eqb}
use Rattle.dm_record.specs.Form.{Form}
use Rattle.dm_record.specs.Grammar.{fits_commit, is_commit_vector, is_commit_length, is_vector_length, is_length, is_kind, commit_form, release_form, grant_form, frame_form}
use Rattle.dm_record.proofs.Spelling.{sound_number}
use Rattle.dm_record.proofs.Listing.{sound_components, sound_pairs}
use Rattle.dm_record.proofs.Framing.{fits_is, commit_vector_is, vector_length_is, room_for}
use Rattle.dm_record.proofs.Judged.{IsSound}

abbrev Some : (ℕ → Bool) → Type 0
Some test = (b : ℕ) × (b < 256) × (test b ≡ true)

or_else : (Q : Type 0) (a b : Bool) → (a || b) ≡ true → (a ≡ true → Q) → (b ≡ true → Q) → Q
or_else Q true b h one two = one refl
or_else Q false b h one two = two h

some_sites : (n : ℕ) → is_commit_length n ≡ true → Some (is_commit_vector n)
some_sites n h =
    or_else (Some (is_commit_vector n)) (fits_commit n 1) _ h (λ f. (1, lit< tt, f)) (λ h.
    or_else (Some (is_commit_vector n)) (fits_commit n 2) _ h (λ f. (2, lit< tt, f)) (λ h.
    or_else (Some (is_commit_vector n)) (fits_commit n 3) _ h (λ f. (3, lit< tt, f)) (λ h.
    or_else (Some (is_commit_vector n)) (fits_commit n 4) _ h (λ f. (4, lit< tt, f)) (λ h.
    or_else (Some (is_commit_vector n)) (fits_commit n 5) _ h (λ f. (5, lit< tt, f)) (λ h.
    or_else (Some (is_commit_vector n)) (fits_commit n 6) _ h (λ f. (6, lit< tt, f)) (λ h.
    or_else (Some (is_commit_vector n)) (fits_commit n 7) _ h (λ f. (7, lit< tt, f)) (λ h. (8, lit< tt, h))))))))

some_count : (n sites : ℕ) → is_commit_vector n sites ≡ true → Some (λ count. eqb n ((27 + 8 * sites) + 12 * count))
some_count n sites h =
    let fits = commit_vector_is n sites h in
    let f = fits_is n sites fits.2 in
    let is : n ≡ (27 + 8 * sites) + 12 * ((n - (27 + 8 * sites)) / 12) = omega (arith, f.0, f.2) in
    ((n - (27 + 8 * sites)) / 12, omega (arith, f.1), eq-eqb n _ is)

some_vector : (before n : ℕ) → is_vector_length before n ≡ true → Some (λ sites. eqb n (before + 8 * sites))
some_vector before n h =
    let f = vector_length_is before n h in
    let is : n ≡ before + 8 * ((n - before) / 8) = omega (arith, f.0, f.2) in
    ((n - before) / 8, omega (arith, f.1), eq-eqb n _ is)

sound_commit : (n : ℕ) → is_commit_length n ≡ true → IsSound (commit_form n)
sound_commit n fits =
    sound_number 1 32 (omega arith) _ (λ session l m. sound_number 1 (2 ^ 32 - 1) (omega arith) _
    (λ nth l m. sound_number 1 (2 ^ 64 - 1) (omega arith) _ (λ attempt l m. sound_number 1 (2 ^ 64 - 1) (omega arith) _ (λ seq l m. (
      some_sites n fits,
      λ sites f vector. sound_components _ (λ begin.
          (some_count n sites vector, λ count g sum. sound_pairs _ (λ writes. tt) count 0 [] (room_for count g))) sites [],
    ))
    8 (lit< tt)) 8 (lit< tt)) 4 (lit< tt)) 4 (lit< tt)

sound_release : (n : ℕ) → is_vector_length 13 n ≡ true → IsSound (release_form n)
sound_release n fits =
    sound_number 0 255 (omega arith) _ (λ part l m. sound_number 0 (2 ^ 64 - 1) (omega arith) _ (λ epoch l m. sound_number 1 8 (omega arith) _ (λ to l m.
    (some_vector 13 n fits, λ sites f sum. sound_components _ (λ vector. tt) sites []))
    1 (lit< tt)) 8 (lit< tt)) 2 (lit< tt)

sound_grant : (n : ℕ) → is_vector_length 12 n ≡ true → IsSound (grant_form n)
sound_grant n fits =
    sound_number 0 255 (omega arith) _ (λ part l m. sound_number 0 (2 ^ 64 - 1) (omega arith) _ (λ epoch l m.
    (some_vector 12 n fits, λ sites f sum. sound_components _ (λ vector. tt) sites []))
    8 (lit< tt)) 2 (lit< tt)

kind_sound : (a b c x y z : Bool) (A B C : Form) → cond a x (cond b y (c && z)) ≡ true → (x ≡ true → IsSound A) → (y ≡ true → IsSound B)
    → (z ≡ true → IsSound C) → IsSound (cond a A (cond b B C))
kind_sound true b c x y z A B C h one two three = one h
kind_sound false true c x y z A B C h one two three = two h
kind_sound false false true x y z A B C h one two three = three h
kind_sound false false false x y z A B C h one two three = absurd (false≢true h)

some_kind : (n : ℕ) → is_length n ≡ true → Some (is_kind n)
some_kind n h =
    or_else (Some (is_kind n)) (is_commit_length n) _ h (λ f. (1, lit< tt, f)) (λ h.
    or_else (Some (is_kind n)) (is_vector_length 13 n) _ h (λ f. (2, lit< tt, f)) (λ h. (3, lit< tt, h)))

some_low : (high : ℕ) → high ≤ 1 → Some (λ low. is_length (high * 256 + low))
some_low zero most = (20, lit< tt, refl)
some_low (suc zero) most = (7, lit< tt, refl)
some_low (suc (suc high)) most = absurd (omega (arith, most))

pub sound_frame : IsSound frame_form
sound_frame =
    sound_number 0 1 (omega arith) _ (λ high l m. (
      some_low high m,
      λ low f fits. (
        some_kind (high * 256 + low) fits,
        λ kind g is.
            kind_sound (eqb kind 1) (eqb kind 2) (eqb kind 3) (is_commit_length (high * 256 + low)) (is_vector_length 13 (high * 256 + low))
            (is_vector_length 12 (high * 256 + low)) _ _ _ is
            (sound_commit (high * 256 + low)) (sound_release (high * 256 + low)) (sound_grant (high * 256 + low)),
      ),
    )) 3 (lit< tt)
