-- One more line of a file.
use Rattle.std.proofs.Common.{◌≡◌, ◌∙◌, ap, sym, refl, ℕ, ◌+◌, ◌<◌, ◌≤◌, List, ◌∷◌, length, get_or, drop, map, add-one, drop-cons, Bor, Result, Ok}
use Rattle.std.proofs.Common.{zero, suc, All, arith, [], ◌++◌}
use Rattle.std.proofs.lemmas.List.{drop_all}
use Rattle.std.proofs.lemmas.List.Elements.{All-append}
use Rattle.dm_lines.specs.declared.line.Line.{Line}
use Rattle.dm_event.specs.declared.why.LineFault.{LineFault}
use Rattle.dm_fields.specs.declared.fault.LineError.{LineError}
use Rattle.dm_fields.specs.declared.fault.LineError.TheVariants as errors
use Rattle.dm_fields.specs.Fields.{Fails}
use Rattle.dm_fields.specs.Faults.{Faulty, Stops, at_line}
use Rattle.dm_lines.specs.File.{SoFar, Told, read_from, after_line, unless_faulty, ended}

-- what holds of each line holds with a line more of which it holds
pub one_more : (P : Line → Type 0) (xs : List Line) (x : Line) → All P xs → P x → All P (xs ++ x ∷ [])
one_more P xs x all h = All-append P xs (x ∷ []) all (λ k d lt. one k d lt)
  where
    one : (k : ℕ) (d : Line) → k < 1 → P (get_or (x ∷ []) k d)
    one zero d lt = h
    one (suc k) d lt = absurd (omega (arith, lt))

-- the bytes of the lines that a program holds
abbrev shown : List (Bor (List ℕ)) → List (List ℕ)
shown lines = map (λ line. line.now) lines

read_at : (s : SoFar) (n i : ℕ) (lines : List (Bor (List ℕ))) (d : Bor (List ℕ)) → i < length lines
    → read_from s n (shown (drop i lines)) ≡ unless_faulty n (after_line s (get_or lines i d).now) (λ t. read_from t (n + 1) (shown (drop (i + 1) lines)))
unfolding read_from
read_at s n i lines d lt =
    let e : drop i lines ≡ get_or lines i d ∷ drop (i + 1) lines = rw (add-one, drop-cons lines i d lt) refl in
    ap (λ (ls : List (Bor (List ℕ))). read_from s n (shown ls)) e

-- the line at i is read
pub read_more : (s t : SoFar) (n i : ℕ) (lines : List (Bor (List ℕ))) (d : Bor (List ℕ)) (all : Result Told Faulty) → i < length lines
    → after_line s (get_or lines i d).now ≡ Ok t → read_from s n (shown (drop i lines)) ≡ all → read_from t (n + 1) (shown (drop (i + 1) lines)) ≡ all
read_more s t n i lines d all lt step before =
    sym (read_at s n i lines d lt ∙ ap (λ (r : Result SoFar LineFault). unless_faulty n r (λ u. read_from u (n + 1) (shown (drop (i + 1) lines)))) step)
    ∙ before

-- the line at i is faulty
pub read_stops : (e : LineError) (s : SoFar) (n i : ℕ) (lines : List (Bor (List ℕ))) (d : Bor (List ℕ)) (all : Result Told Faulty) → i < length lines
    → Fails e (after_line s (get_or lines i d).now) → read_from s n (shown (drop i lines)) ≡ all → Stops (at_line n e) all
read_stops errors.Memory s n i lines d all lt fails before = tt
read_stops (errors.Fault kind) s n i lines d all lt fails before =
    sym before ∙ read_at s n i lines d lt ∙ ap (λ (r : Result SoFar LineFault). unless_faulty n r (λ u. read_from u (n + 1) (shown (drop (i + 1) lines)))) fails

-- no line is left
pub read_end : (s : SoFar) (n i : ℕ) (lines : List (Bor (List ℕ))) (all : Result Told Faulty) → length lines ≤ i
    → read_from s n (shown (drop i lines)) ≡ all → ended s ≡ all
unfolding read_from
read_end s n i lines all le before = sym (ap (λ (ls : List (Bor (List ℕ))). read_from s n (shown ls)) (drop_all i lines le)) ∙ before
