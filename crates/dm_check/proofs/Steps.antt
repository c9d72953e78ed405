-- One step more.
use Rattle.std.proofs.Common.{◌≡◌, ◌∙◌, ap, sym, List, [], ◌∷◌, ◌++◌, append_assoc, subst, Option, Some, None}
use Rattle.std.proofs.lemmas.List.{reverse-append}
use Rattle.std.proofs.lemmas.Option.{none-some}
use Rattle.dm_event.specs.Layout.{Layout}
use Rattle.dm_event.specs.declared.step.Step.{Step}
use Rattle.dm_event.specs.declared.why.Why.{Why}
use Rattle.dm_model.specs.Legal.{Legal, LegalPast}
use Rattle.dm_model.proofs.Histories.{legal_push, legal_prefix}
use Rattle.dm_check.specs.Judged.{added, refused_next, IsWhole, IsRefusedNext, IsFound}

module _ (layout : Layout) (steps before : List Step) (step : Step)
  where
    -- it is added to those that are all legal, or refused behind them
    pub found_next : (refused : Option Why) (after : List Step) → IsWhole layout steps before → refused ≡ refused_next layout before step
        → after ≡ added refused before step → IsFound layout (steps ++ step ∷ []) refused after
    unfolding refused_next
    found_next None after whole next is =
        let all : after ≡ steps ++ step ∷ [] = is ∙ ap (λ (l : List Step). l ++ step ∷ []) whole.all in
        record {
          all = all;
          legal = subst (λ (l : List Step). Legal layout l) (sym is ∙ all)
              (legal_push layout before step (subst (λ (l : List Step). Legal layout l) (sym whole.all) whole.legal) (sym next));
        }
    found_next (Some why) after whole next is =
        subst (λ (l : List Step). IsRefusedNext layout (steps ++ step ∷ []) why l) (sym is) (record {
          step = step;
          rest = [];
          stands = ap (λ (l : List Step). l ++ step ∷ []) (sym whole.all);
          legal = subst (λ (l : List Step). Legal layout l) (sym whole.all) whole.legal;
          refused = sym next;
        })

    -- an earlier one was refused
    pub found_before : (why : Why) → IsRefusedNext layout steps why before → IsRefusedNext layout (steps ++ step ∷ []) why before
    found_before why next = record {
      step = next.step;
      rest = next.rest ++ step ∷ [];
      stands = ap (λ (l : List Step). l ++ step ∷ []) next.stands ∙ append_assoc before (next.step ∷ next.rest) (step ∷ []);
      legal = next.legal;
      refused = next.refused;
    }

-- a list of which a step is refused behind those before it isn't legal
pub not_legal : (layout : Layout) (all : List Step) (why : Why) (before : List Step) → IsRefusedNext layout all why before → Legal layout all → ⊥
unfolding refused_next
not_legal layout all why before next legal =
    let front : Legal layout (before ++ next.step ∷ []) = legal_prefix layout (before ++ next.step ∷ []) next.rest
    (subst (λ (l : List Step). Legal layout l) (next.stands ∙ sym (append_assoc before (next.step ∷ []) next.rest)) legal) in
    let past = subst (λ (l : List Step). LegalPast layout l) (reverse-append before (next.step ∷ [])) front in
    none-some why (sym past.1 ∙ next.refused)
