-- A step that has its shape is judged by the clauses of its kind.
use Rattle.std.proofs.Common.{◌≡◌, Bool, true, false, List, refl, ap, ◌∙◌}
use Rattle.std.proofs.lemmas.Bool.{false≢true}
use Rattle.std.specs.Option.{option_or}
use Rattle.dm_event.specs.Layout.{Layout}
use Rattle.dm_event.specs.declared.step.Step.{Step}
use Rattle.dm_event.specs.declared.why.Why.TheVariants as why
use Rattle.dm_model.proofs.ClausesHold.{none_parts, holds_true}
use Rattle.dm_model.specs.Allowed.{Allowed, clauses, refusal}
use Rattle.dm_model.specs.Clauses.{holds, first}
use Rattle.dm_model.specs.Shape.{is_shaped}

by_clauses : (layout : Layout) (past : List Step) (s : Step) (shaped : Bool) → shaped ≡ true
    → option_or (holds shaped why.Shape) (first (clauses layout past s)) ≡ first (clauses layout past s)
by_clauses layout past s true h = refl
by_clauses layout past s false h = absurd (false≢true h)

pub judged : (layout : Layout) (past : List Step) (s t : Step) → s ≡ t → is_shaped layout s ≡ true → refusal layout past s ≡ first (clauses layout past t)
judged layout past s t same shaped = by_clauses layout past s (is_shaped layout s) shaped ∙ ap (λ (x : Step). first (clauses layout past x)) same

-- a step that is allowed has its shape
pub shape_of : (layout : Layout) (past : List Step) (s : Step) → Allowed layout past s → is_shaped layout s ≡ true
shape_of layout past s h = holds_true (is_shaped layout s) why.Shape (none_parts _ (first (clauses layout past s)) h).0
