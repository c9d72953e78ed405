-- What is read of a text is printed as that text.
use Rattle.std.proofs.Common.{◌≡◌, ◌∙◌, refl, sym, ap, true, List, Result, Ok, Err, ◌++◌, [], ◌∷◌, arith, ℕ, suc, ◌+◌, length, append-nil, append_assoc, subst}
use Rattle.std.specs.Prelude.{◌&&◌, codes}
use Rattle.std.specs.List.{list_all, flat_map, join_with_byte}
use Rattle.std.proofs.lemmas.Bool.{lt-ltb}
use Rattle.std.proofs.lemmas.List.Splits.{join_with_byte-slice_split}
use Rattle.dm_event.specs.Layout.{Layout}
use Rattle.dm_event.specs.declared.step.Step.{Step}
use Rattle.dm_event.specs.declared.why.LineFault.{LineFault}
use Rattle.dm_text.specs.Text.{words_of}
use Rattle.dm_history.specs.Parts.{spaced}
use Rattle.dm_history.specs.Steps.{step_text}
use Rattle.dm_fields.specs.Fields.{Words}
use Rattle.dm_fields.specs.Faults.{Faulty}
use Rattle.dm_kinds.specs.Marks.{pieces_of}
use Rattle.dm_past.specs.Cuts.{Line, is_spaced, lines_in}
use Rattle.dm_past.specs.Fits.{step_fits}
use Rattle.dm_past.specs.Histories.{line_step, unless_faulty, read_from, history_of}
use Rattle.dm_kinds.proofs.Chains.{and_true, and_from}
use Rattle.dm_past.proofs.Spaced.{spaced_is}
use Rattle.dm_past.proofs.StepWords.{step_spaced}
use Rattle.dm_past.proofs.TellsMore.{step_is}

-- a line with its line feed
abbrev pub whole : Line → List ℕ
whole line = line.0 ++ codes "\n"

pub record LineRead (layout : Layout) (line : Line) (step : Step) : Type 0 where
  pub ended : line.1 ≡ true
  pub text : whole line ≡ step_text step
  pub fits : step_fits layout step ≡ true

line_is : (layout : Layout) (line : Line) (step : Step) → line_step layout line ≡ Ok step → LineRead layout line step
unfolding line_step
line_is layout line step e =
    let t = step_is layout (line.1 && is_spaced line.0) (words_of line.0) step e in
    let n = and_true line.1 (is_spaced line.0) t.neat_line in
    record {
      ended = n.0;
      text = ap (λ (text : List ℕ). text ++ codes "\n") (spaced_is line.0 n.1 ∙ ap (λ (ws : Words). spaced ws) t.words) ∙ sym (step_spaced step);
      fits = t.fits;
    }

-- what is read of lines, behind the steps so far
record LinesRead (layout : Layout) (so_far : List Step) (lines : List Line) (steps : List Step) : Type 0 where
  behind : List Step
  all : steps ≡ so_far ++ behind
  ended : list_all (λ line. line.1) lines ≡ true
  text : flat_map whole lines ≡ flat_map step_text behind
  fits : list_all (step_fits layout) behind ≡ true

step_read : (layout : Layout) (n : ℕ) (r : Result Step LineFault) (go_on : Step → Result (List Step) Faulty) (steps : List Step) → unless_faulty n r go_on ≡ Ok steps
    → (step : Step) × (r ≡ Ok step) × (go_on step ≡ Ok steps)
step_read layout n (Ok step) go_on steps e = (step, refl, e)
step_read layout n (Err fault) go_on steps e = absurd cc

same_steps : (a b : List Step) → ◌≡◌ {A = Result (List Step) Faulty} (Ok a) (Ok b) → a ≡ b
same_steps a b e = cc

texts : (a b c d : List ℕ) → a ≡ b → c ≡ d → a ++ c ≡ b ++ d
texts a b c d e f = rw (e, f) refl

lines_are : (layout : Layout) (so_far : List Step) (n : ℕ) (lines : List Line) (steps : List Step) → read_from layout so_far n lines ≡ Ok steps → LinesRead layout so_far lines steps
unfolding read_from
lines_are layout so_far n [] steps e =
    record { behind = []; all = sym (append-nil so_far ∙ same_steps so_far steps e); ended = refl; text = refl; fits = refl }
lines_are layout so_far n (line ∷ more) steps e =
    let s = step_read layout n (line_step layout line) _ steps e in
    let l = line_is layout line s.0 s.1 in
    let h = lines_are layout (so_far ++ s.0 ∷ []) (n + 1) more steps s.2 in
    record {
      behind = s.0 ∷ h.behind;
      all = h.all ∙ append_assoc so_far (s.0 ∷ []) h.behind;
      ended = and_from line.1 (list_all (λ l. l.1) more) l.ended h.ended;
      text = texts (whole line) (step_text s.0) (flat_map whole more) (flat_map step_text h.behind) l.text h.text;
      fits = and_from (step_fits layout s.0) (list_all (step_fits layout) h.behind) l.fits h.fits;
    }

-- lines that are all ended are the whole text
ended_text : (ps : Words) → list_all (λ line. line.1) (lines_in ps) ≡ true → join_with_byte 10 ps ≡ flat_map whole (lines_in ps)
ended_text [] h = refl
ended_text ([] ∷ []) h = refl
ended_text ((c ∷ last) ∷ []) h = let g = rw (lt-ltb 0 (suc (length last)) (omega arith)) at h in absurd cc
ended_text (line ∷ next ∷ more) h =
    ap (λ (t : List ℕ). line ++ 10 ∷ t) (ended_text (next ∷ more) h) ∙ sym (append_assoc line (10 ∷ []) (flat_map whole (lines_in (next ∷ more))))

pub printed : (layout : Layout) (text : List ℕ) (steps : List Step) → history_of layout text ≡ Ok steps → (text ≡ flat_map step_text steps) × (list_all (step_fits layout) steps ≡ true)
unfolding history_of
printed layout text steps e =
    let h = lines_are layout [] 1 (lines_in (pieces_of 10 text)) steps e in
    subst (λ (found : List Step). (text ≡ flat_map step_text found) × (list_all (step_fits layout) found ≡ true)) (sym h.all)
    (sym (join_with_byte-slice_split 10 text) ∙ ended_text (pieces_of 10 text) h.ended ∙ h.text, h.fits)
