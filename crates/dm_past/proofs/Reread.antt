-- What is printed of steps that fit is read as those steps.
use Rattle.std.proofs.Common.{◌≡◌, ◌∙◌, refl, sym, ap, true, List, Ok, ◌++◌, [], ◌∷◌, ℕ, ◌+◌, append-nil, append_assoc}
use Rattle.std.specs.Prelude.{codes}
use Rattle.std.specs.List.{list_all, flat_map}
use Rattle.dm_event.specs.Layout.{Layout, is_layout}
use Rattle.dm_event.specs.declared.step.Step.{Step}
use Rattle.dm_event.specs.declared.step.Step.TheVariants as steps
use Rattle.dm_history.specs.Parts.{spaced}
use Rattle.dm_history.specs.Steps.{step_text}
use Rattle.dm_fields.specs.Fields.{Words}
use Rattle.dm_kinds.specs.Marks.{pieces_of}
use Rattle.dm_past.specs.Cuts.{Line, lines_in}
use Rattle.dm_past.specs.Fits.{step_fits}
use Rattle.dm_past.specs.Histories.{line_step, read_from, history_of}
use Rattle.dm_kinds.specs.Kinds.{step_of}
use Rattle.dm_kinds.proofs.Chains.{and_true}
use Rattle.dm_past.proofs.Pieces.{pieces_first, line_some}
use Rattle.dm_past.proofs.Places.{Limits, limits_of}
use Rattle.dm_past.proofs.Spaced.{is_word, spaced_again, words_again, no_feed}
use Rattle.dm_past.proofs.StepWords.{step_words, step_spaced}
use Rattle.dm_past.proofs.AgainMore.{step_back}

-- a line of words
words_read : (layout : Layout) (w : List ℕ) (ws : Words) (step : Step) → list_all is_word (w ∷ ws) ≡ true → step_of layout true (w ∷ ws) ≡ Ok step
    → line_step layout (spaced (w ∷ ws), true) ≡ Ok step
unfolding line_step
words_read layout w ws step h e = rw (spaced_again w ws h, words_again w ws h) e

some_words : (step : Step) → (w : List ℕ) × (ws : Words) × (step_words step ≡ w ∷ ws)
some_words (steps.Route txn want min site choice) = (codes "route", _, refl)
some_words (steps.Reply session number said) = (codes "reply", _, refl)
some_words (steps.Ask part epoch to txn) = (codes "ask", _, refl)
some_words (steps.Settle part epoch) = (codes "settle", _, refl)
some_words (steps.Begin site txn begin) = (codes "begin", _, refl)
some_words (steps.Moved site txn) = (codes "moved", _, refl)
some_words (steps.Commit entry) = (codes "commit", _, refl)
some_words (steps.End site txn ops reads) = (codes "end", _, refl)
some_words (steps.Fail site txn cause) = (codes "fail", _, refl)
some_words (steps.Refresh site origin) = (codes "refresh", _, refl)
some_words (steps.Release site part epoch to vector) = (codes "release", _, refl)
some_words (steps.Grant site part epoch vector) = (codes "grant", _, refl)
some_words (steps.Doubt site pending) = (codes "doubt", _, refl)
some_words (steps.Restart site vector found) = (codes "restart", _, refl)

line_read : (layout : Layout) (words : Words) (w : List ℕ) (ws : Words) (step : Step) → words ≡ w ∷ ws → list_all is_word words ≡ true → step_of layout true words ≡ Ok step
    → line_step layout (spaced words, true) ≡ Ok step
line_read layout words w ws step e h r = rw e (words_read layout w ws step (rw e at h) (rw e at r))

step_again : (layout : Layout) (limits : Limits layout) (step : Step) → step_fits layout step ≡ true → line_step layout (spaced (step_words step), true) ≡ Ok step
step_again layout limits step h =
    let b = step_back layout limits step h in
    let s = some_words step in
    line_read layout (step_words step) s.0 s.1 step s.2 b.words.are b.read

-- the first line of a text of steps
first_step : (step : Step) (rest : List ℕ) → list_all is_word (step_words step) ≡ true → pieces_of 10 (step_text step ++ rest) ≡ spaced (step_words step) ∷ pieces_of 10 rest
first_step step rest h =
    ap (λ (t : List ℕ). pieces_of 10 t) (ap (λ (t : List ℕ). t ++ rest) (step_spaced step) ∙ append_assoc (spaced (step_words step)) (codes "\n") rest)
    ∙ pieces_first 10 (spaced (step_words step)) rest (no_feed (step_words step) h)

read_line : (layout : Layout) (so_far : List Step) (n : ℕ) (lines more : List Line) (line : Line) (step : Step) → lines ≡ line ∷ more → line_step layout line ≡ Ok step
    → read_from layout so_far n lines ≡ read_from layout (so_far ++ step ∷ []) (n + 1) more
unfolding read_from
read_line layout so_far n lines more line step e f = rw (e, f) refl

steps_again : (layout : Layout) (limits : Limits layout) (so_far : List Step) (n : ℕ) (steps : List Step) → list_all (step_fits layout) steps ≡ true
    → read_from layout so_far n (lines_in (pieces_of 10 (flat_map step_text steps))) ≡ Ok (so_far ++ steps)
unfolding read_from
steps_again layout limits so_far n [] h = ap (λ (s : List Step). Ok s) (sym (append-nil so_far))
steps_again layout limits so_far n (step ∷ steps) h =
    let t = and_true (step_fits layout step) (list_all (step_fits layout) steps) h in
    let b = step_back layout limits step t.0 in
    let rest : List ℕ = flat_map step_text steps in
    read_line layout so_far n (lines_in (pieces_of 10 (step_text step ++ rest))) (lines_in (pieces_of 10 rest)) (spaced (step_words step), true) step
    (line_some (step_text step ++ rest) (spaced (step_words step)) rest (first_step step rest b.words.are)) (step_again layout limits step t.0)
    ∙ steps_again layout limits (so_far ++ step ∷ []) (n + 1) steps t.1 ∙ ap (λ (s : List Step). Ok s) (append_assoc so_far (step ∷ []) steps)

pub reread : (layout : Layout) (steps : List Step) → is_layout layout ≡ true → list_all (step_fits layout) steps ≡ true → history_of layout (flat_map step_text steps) ≡ Ok steps
unfolding history_of
reread layout steps l h = steps_again layout (limits_of layout l) [] 1 steps h
