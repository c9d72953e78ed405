-- One more line of a drive.
use Rattle.std.proofs.Common.{◌≡◌, ◌∙◌, ap, sym, ℕ, ◌+◌, ◌<◌, ◌≤◌, List, [], ◌∷◌, ◌++◌, length, get_or, drop, refl, append_assoc, add-one, drop-cons}
use Rattle.std.proofs.lemmas.List.{drop_all}
use Rattle.dm_schedule.specs.Drive.{Drive, driven, by_line, answer_of}
use Rattle.dm_lines.specs.declared.line.Line.{Line}

-- what the lines from i on bring is what line i brings and then the lines behind it
module _ (d next : Drive) (lines : List Line) (i : ℕ) (line : Line) (lt : i < length lines) (at : line ≡ get_or lines i line) (does : next ≡ (by_line d line).0)
  where
    here : drop i lines ≡ line ∷ drop (i + 1) lines
    here = rw (add-one, drop-cons lines i line lt, ← at) refl

    behind : driven d (drop i lines) ≡ ((driven next (drop (i + 1) lines)).0, answer_of (by_line d line) ++ (driven next (drop (i + 1) lines)).1)
    unfolding driven
    behind = ap (driven d) here ∙ ap (λ (n : Drive). ((driven n (drop (i + 1) lines)).0, answer_of (by_line d line) ++ (driven n (drop (i + 1) lines)).1))
        (sym does)

    pub history_more : (all : Drive) → (driven d (drop i lines)).0 ≡ all → (driven next (drop (i + 1) lines)).0 ≡ all
    history_more all before = sym (ap (λ (r : Drive × List ℕ). r.0) behind) ∙ before

    pub answers_more : (old new all : List ℕ) → new ≡ old ++ answer_of (by_line d line) → old ++ (driven d (drop i lines)).1 ≡ all → new
        ++ (driven next (drop (i + 1) lines)).1 ≡ all
    answers_more old new all put before =
        ap (λ (x : List ℕ). x ++ (driven next (drop (i + 1) lines)).1) put
        ∙ append_assoc old (answer_of (by_line d line)) (driven next (drop (i + 1) lines)).1
        ∙ sym (ap (λ (r : Drive × List ℕ). old ++ r.1) behind)
        ∙ before

-- no line is left
pub driven_end : (d : Drive) (lines : List Line) (i : ℕ) → length lines ≤ i → driven d (drop i lines) ≡ (d, [])
unfolding driven
driven_end d lines i le = ap (driven d) (drop_all i lines le)
