-- One more line of a history.
use Rattle.std.proofs.Common.{◌≡◌, ◌∙◌, ap, sym, refl, ℕ, ◌+◌, List, [], ◌∷◌, ◌++◌, Result, Ok}
use Rattle.dm_event.specs.Layout.{Layout}
use Rattle.dm_event.specs.declared.step.Step.{Step}
use Rattle.dm_event.specs.declared.why.LineFault.{LineFault}
use Rattle.dm_fields.specs.declared.fault.LineError.{LineError}
use Rattle.dm_fields.specs.declared.fault.LineError.TheVariants as errors
use Rattle.dm_fields.specs.Fields.{Fails}
use Rattle.dm_fields.specs.Faults.{Faulty, Stops, at_line}
use Rattle.dm_past.specs.Cuts.{Line}
use Rattle.dm_past.specs.Histories.{line_step, unless_faulty, read_from}

read_next : (layout : Layout) (so_far : List Step) (n : ℕ) (lines more : List Line) (line : Line) (read : Result Step LineFault) → lines ≡ line ∷ more
    → line_step layout line ≡ read → read_from layout so_far n lines ≡ unless_faulty n read (λ step. read_from layout (so_far ++ step ∷ []) (n + 1) more)
unfolding read_from
read_next layout so_far n lines more line read e f = rw (e, f) refl

-- the first of the lines that are left is read
pub read_more : (layout : Layout) (so_far : List Step) (n : ℕ) (lines more : List Line) (line : Line) (step : Step) (all : Result (List Step) Faulty)
    → lines ≡ line ∷ more → line_step layout line ≡ Ok step → read_from layout so_far n lines ≡ all → read_from layout (so_far ++ step ∷ []) (n + 1) more ≡ all
read_more layout so_far n lines more line step all e f before = sym (read_next layout so_far n lines more line (Ok step) e f) ∙ before

-- the first of the lines that are left is faulty
pub read_stops : (error : LineError) (layout : Layout) (so_far : List Step) (n : ℕ) (lines more : List Line) (line : Line) (all : Result (List Step) Faulty)
    → lines ≡ line ∷ more → Fails error (line_step layout line) → read_from layout so_far n lines ≡ all → Stops (at_line n error) all
read_stops errors.Memory layout so_far n lines more line all e f before = tt
read_stops (errors.Fault kind) layout so_far n lines more line all e f before = sym before ∙ read_next layout so_far n lines more line _ e f

-- no line is left
pub read_end : (layout : Layout) (so_far : List Step) (n : ℕ) (lines : List Line) (all : Result (List Step) Faulty) → lines ≡ []
    → read_from layout so_far n lines ≡ all → Ok so_far ≡ all
unfolding read_from
read_end layout so_far n lines all e before = sym (ap (λ (ls : List Line). read_from layout so_far n ls) e) ∙ before
