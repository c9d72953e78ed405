-- Histories with the earliest step first.
use Rattle.std.proofs.Common.{List, [], ◌∷◌, ◌++◌, sym, subst}
use Rattle.std.proofs.lemmas.List.{reverse-append}
use Rattle.std.specs.Prelude.{reverse}
use Rattle.dm_event.specs.Layout.{Layout}
use Rattle.dm_event.specs.declared.step.Step.{Step}
use Rattle.dm_model.specs.Allowed.{Allowed}
use Rattle.dm_model.specs.Legal.{Legal, LegalPast}

-- a step that is allowed makes a legal history longer
pub legal_push : (layout : Layout) (history : List Step) (s : Step) → Legal layout history → Allowed layout (reverse history) s
    → Legal layout (history ++ s ∷ [])
legal_push layout history s h a = subst (λ (past : List Step). LegalPast layout past) (sym (reverse-append history (s ∷ []))) (h, a)

legal_behind : (layout : Layout) (more past : List Step) → LegalPast layout (more ++ past) → LegalPast layout past
legal_behind layout [] past h = h
legal_behind layout (s ∷ more) past h = legal_behind layout more past h.0

-- each beginning of a legal history is legal
pub legal_prefix : (layout : Layout) (history more : List Step) → Legal layout (history ++ more) → Legal layout history
legal_prefix layout history more h = legal_behind layout (reverse more) (reverse history)
    (subst (λ (past : List Step). LegalPast layout past) (reverse-append history more) h)
