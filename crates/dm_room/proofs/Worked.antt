-- What histories keep room for, and what their steps need, worked out by computation.
use Rattle.std.specs.Prelude.{ℕ, ◌≡◌, List, [], ◌∷◌, reverse, refl}
use Rattle.dm_event.specs.declared.step.Found.TheVariants.{Kept}
use Rattle.dm_event.specs.declared.step.Step.{Step}
use Rattle.dm_event.specs.declared.step.Step.TheVariants.{Restart}
use Rattle.dm_model.proofs.Worked.{two_sites}
use Rattle.dm_model.proofs.Worked.EightSteps.{eight}
use Rattle.dm_model.proofs.Worked.Restarts.{in_doubt}
use Rattle.dm_model.proofs.Worked.Transactions.{one_commit}
use Rattle.dm_room.specs.Room.{kept, need}

-- what each of the steps needs after those before it, where sessions 1 and 2 have so many items
abbrev needs : List ℕ → List Step → List Step → List ℕ
needs items past [] = []
needs items past (s ∷ steps) = need two_sites items past s ∷ needs items (s ∷ past) steps

two_items_and_two_sites : kept two_sites (1 ∷ 1 ∷ []) [] ≡ 4
two_items_and_two_sites = refl

a_transaction_that_is_answered : needs (1 ∷ 1 ∷ []) [] one_commit ≡ 2 ∷ 1 ∷ 0 ∷ 0 ∷ []
a_transaction_that_is_answered = refl

one_item_and_two_sites : kept two_sites (1 ∷ 1 ∷ []) (reverse one_commit) ≡ 3
one_item_and_two_sites = refl

-- a transaction, a Refresh, and a hand-over as far as its Grant
a_hand_over : needs (1 ∷ 1 ∷ []) [] eight ≡ 2 ∷ 1 ∷ 0 ∷ 1 ∷ 2 ∷ 4 ∷ 0 ∷ 0 ∷ []
a_hand_over = refl

-- two items, a Route for a partition, two sites and the Settle to come
a_settle_to_come : kept two_sites (1 ∷ 1 ∷ []) (reverse eight) ≡ 6
a_settle_to_come = refl

-- two attempts run, and one's commit comes into doubt
a_doubt : needs (1 ∷ 1 ∷ []) [] in_doubt ≡ 2 ∷ 1 ∷ 2 ∷ 1 ∷ 0 ∷ 0 ∷ []
a_doubt = refl

a_restart_brings_a_site_up : needs (1 ∷ 1 ∷ []) (reverse in_doubt) (Restart 1 (1 ∷ 0 ∷ []) Kept ∷ []) ≡ 2 ∷ []
a_restart_brings_a_site_up = refl

an_answer_that_is_not_counted : needs [] [] one_commit ≡ 2 ∷ 1 ∷ 0 ∷ 1 ∷ []
an_answer_that_is_not_counted = refl
