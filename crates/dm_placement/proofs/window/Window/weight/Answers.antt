use Rattle.std.proofs.Common.{ℕ, ◌+◌, List, cond, ap, ap₂, sym, ◌∙◌}
use Rattle.std.proofs.lemmas.List.Sums.{sum_by-append}
use Rattle.dm_model.specs.Scores.{weight}
use Rattle.dm_model.specs.Tests.{is_among}
use Rattle.dm_placement.proofs.window.Window.weight.Goals as goal

pub returns-clause-exact : goal.returns-clause-exact
returns-clause-exact c =
    let part = c.args.part in
    ap₂ (λ (a b : ℕ). a + b) c.holding.ensures.exact c.holding-2.ensures.exact
    ∙ sym (sum_by-append (λ set. cond (is_among set part) 1 0) c.as_slices.result.0.now c.as_slices.result.1.now)
    ∙ ap (λ (sets : List (List ℕ)). weight sets part) (c.as_slices.ensures ∙ c.self.view_is)
