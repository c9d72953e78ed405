-- What may stand where in a frame, byte by byte.
use Rattle.std.specs.Prelude.{ℕ, zero, suc, ◌+◌, ◌-◌, ◌*◌, ◌%◌, ◌^◌, Bool, nat_le, ◌==◌, ◌&&◌, ◌||◌, if◌then◌else◌, List, [], ◌∷◌, ◌++◌}
use Rattle.std.specs.Int.{cast_signed, w64}
use Rattle.dm_event.specs.declared.limits.TheConstants.{MAX_SESSIONS, MAX_SITES, MAX_PARTS}
use Rattle.dm_event.specs.declared.step.Pair.{Pair}
use Rattle.dm_record.specs.declared.record.TheConstants.{MAX_KEY}
use Rattle.dm_record.specs.declared.record.Record.TheVariants.{Commit, Release, Grant}
use Rattle.dm_record.specs.Form.{Form, done, byte, number}

-- so many components, behind these
unfoldable pub components_form : ℕ → List ℕ → (List ℕ → Form) → Form
components_form zero before next = next before
components_form (suc n) before next = number 0 (2 ^ 64 - 1) 0 8 (λ x. components_form n (before ++ x ∷ []) next)

-- so many pairs, behind these; their keys are at least the given one, and each leaves room for those after it
unfoldable pub pairs_form : ℕ → ℕ → List Pair → (List Pair → Form) → Form
pairs_form zero least before next = next before
pairs_form (suc n) least before next =
    number least (MAX_KEY - n) 0 4 (λ key. number 0 (2 ^ 64 - 1) 0 8
    (λ bits. pairs_form n (key + 1) (before ++ record { key = key; value = cast_signed w64 bits } ∷ []) next))

-- A commit has a body of that length and a vector of so many components: 1 to 32 writes fit.
abbrev pub fits_commit : ℕ → ℕ → Bool
fits_commit n sites = nat_le (39 + 8 * sites) n && (nat_le n (411 + 8 * sites) && ((n - (27 + 8 * sites)) % 12 == 0))

abbrev pub is_vector : ℕ → Bool
is_vector sites = nat_le 1 sites && nat_le sites MAX_SITES

abbrev pub is_commit_vector : ℕ → ℕ → Bool
is_commit_vector n sites = is_vector sites && fits_commit n sites

abbrev pub is_commit_length : ℕ → Bool
is_commit_length n =
    fits_commit n 1 || (fits_commit n 2 || (fits_commit n 3 ||
    (fits_commit n 4 || (fits_commit n 5 || (fits_commit n 6 || (fits_commit n 7 || fits_commit n 8))))))

-- the rest of a vector is behind so many bytes
abbrev pub is_vector_length : ℕ → ℕ → Bool
is_vector_length before n = nat_le (before + 8) n && (nat_le n (before + 64) && ((n - before) % 8 == 0))

abbrev pub is_length : ℕ → Bool
is_length n = is_commit_length n || (is_vector_length 13 n || is_vector_length 12 n)

abbrev pub is_kind : ℕ → ℕ → Bool
is_kind n kind = if kind == 1 then is_commit_length n else (if kind == 2 then is_vector_length 13 n else ((kind == 3) && is_vector_length 12 n))

abbrev pub commit_form : ℕ → Form
commit_form n =
    number 1 MAX_SESSIONS 0 4 (λ session. number 1 (2 ^ 32 - 1) 0 4 (λ nth. number 1 (2 ^ 64 - 1) 0 8 (λ attempt. number 1 (2 ^ 64 - 1) 0 8 (λ seq.
    byte (is_commit_vector n) (λ sites. components_form sites [] (λ begin.
    byte (λ count. n == (27 + 8 * sites) + 12 * count) (λ count. pairs_form count 0 [] (λ writes.
    done (Commit (record { session = session; number = nth; attempt = attempt }) seq begin writes)))))))))

abbrev pub release_form : ℕ → Form
release_form n =
    number 0 (MAX_PARTS - 1) 0 2 (λ part. number 0 (2 ^ 64 - 1) 0 8 (λ epoch. number 1 MAX_SITES 0 1 (λ to.
    byte (λ sites. n == 13 + 8 * sites) (λ sites. components_form sites [] (λ vector. done (Release part epoch to vector))))))

abbrev pub grant_form : ℕ → Form
grant_form n =
    number 0 (MAX_PARTS - 1) 0 2 (λ part. number 0 (2 ^ 64 - 1) 0 8 (λ epoch.
    byte (λ sites. n == 12 + 8 * sites) (λ sites. components_form sites [] (λ vector. done (Grant part epoch vector)))))

abbrev pub kind_form : ℕ → ℕ → Form
kind_form n kind = if kind == 1 then commit_form n else (if kind == 2 then release_form n else grant_form n)

abbrev pub frame_form : Form
frame_form = number 0 1 0 3 (λ high. byte (λ low. is_length (high * 256 + low)) (λ low. byte (is_kind (high * 256 + low)) (kind_form (high * 256 + low))))
