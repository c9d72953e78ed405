-- What a session may be answered, and what is due.
use Rattle.std.specs.Prelude.{◌≡◌, true, false, List, [], ◌∷◌, ◌++◌, Some, None, reverse, take, refl}
use Rattle.dm_event.specs.declared.step.Cause.{Cause}
use Rattle.dm_event.specs.declared.step.Cause.TheVariants as cause
use Rattle.dm_event.specs.declared.step.Choice.TheVariants.{Hand}
use Rattle.dm_event.specs.declared.step.Found.TheVariants.{Clean}
use Rattle.dm_event.specs.declared.step.Said.TheVariants as said
use Rattle.dm_event.specs.declared.step.Step.{Step}
use Rattle.dm_event.specs.declared.step.Step.TheVariants.{Route, Ask, Settle, Fail, Release, Grant, Restart}
use Rattle.dm_event.specs.declared.step.Want.TheVariants as want
use Rattle.dm_model.proofs.Worked.{judge, two_sites, txn}
use Rattle.dm_model.proofs.Worked.Restarts.{in_doubt}
use Rattle.dm_model.proofs.Worked.Transactions.{one_commit, stale_and_fresh}
use Rattle.dm_model.specs.Outcomes.{may_say, said_due}

-- ---- transactions

nothing_is_due_before_the_route : said_due two_sites [] 1 ≡ None
nothing_is_due_before_the_route = refl

nothing_is_due_by_the_route_of_a_transaction : said_due two_sites (reverse (take 1 one_commit)) 1 ≡ None
nothing_is_due_by_the_route_of_a_transaction = refl

nothing_is_due_while_it_runs : said_due two_sites (reverse (take 2 one_commit)) 1 ≡ None
nothing_is_due_while_it_runs = refl

committed_is_due_after_the_commit : said_due two_sites (reverse (take 3 one_commit)) 1 ≡ Some (said.Committed 1 1)
committed_is_due_after_the_commit = refl

nothing_is_due_after_the_reply : said_due two_sites (reverse one_commit) 1 ≡ None
nothing_is_due_after_the_reply = refl

read_is_due_after_the_end : said_due two_sites (reverse (take 7 stale_and_fresh)) 2 ≡ Some (said.Read 2)
read_is_due_after_the_end = refl

in_doubt_is_due_after_the_doubt : said_due two_sites (reverse (take 5 in_doubt)) 1 ≡ Some (said.InDoubt 1)
in_doubt_is_due_after_the_doubt = refl

nothing_is_due_to_what_is_dropped : said_due two_sites (reverse in_doubt) 2 ≡ None
nothing_is_due_to_what_is_dropped = refl

-- ---- refusals

abbrev pub failed_by : Cause → List Step
failed_by why = take 2 one_commit ++ (Fail 1 (txn 1 1 1) why ∷ [])

a_refusal_is_due_with_the_cause_of_the_failure : (said_due two_sites (reverse (failed_by (cause.Log 1))) 1 ≡ Some (said.Refused (cause.Log 1)))
    × (said_due two_sites (reverse (failed_by (cause.Damage 1 4 (Some 0) (Some 55)))) 1 ≡ Some (said.Refused (cause.Damage 1 4 (Some 0) (Some 55))))
    × (said_due two_sites (reverse (failed_by cause.Memory)) 1 ≡ Some (said.Refused cause.Memory))
a_refusal_is_due_with_the_cause_of_the_failure = (refl, refl, refl)

memory_may_always_be_wanted_but_while_it_runs : (may_say two_sites [] 1 (said.Refused cause.Memory) ≡ true)
    × (may_say two_sites (reverse (take 1 one_commit)) 1 (said.Refused cause.Memory) ≡ true)
    × (may_say two_sites (reverse (take 2 one_commit)) 1 (said.Refused cause.Memory) ≡ false)
    × (may_say two_sites (reverse in_doubt) 2 (said.Refused cause.Memory) ≡ true)
    × (may_say two_sites (reverse (failed_by (cause.Log 1))) 1 (said.Refused cause.Memory) ≡ false)
memory_may_always_be_wanted_but_while_it_runs = (refl, refl, refl, refl, refl)

an_undeclared_write_is_refused_before_the_route : (may_say two_sites [] 1 (said.Refused (cause.Undeclared 7)) ≡ true)
    × (may_say two_sites (reverse (take 1 one_commit)) 1 (said.Refused (cause.Undeclared 7)) ≡ false)
an_undeclared_write_is_refused_before_the_route = (refl, refl)

-- ---- partitions

-- session 3 wants partition 0 at site 2, and gets it; session 4 takes it back to site 1, and it goes to site 2 again
abbrev pub to_and_fro : List Step
to_and_fro =
    Route (txn 3 1 1) (want.Place 0) (0 ∷ 0 ∷ []) 2 Hand
    ∷ Ask 0 0 2 (txn 3 1 1)
    ∷ Release 1 0 0 2 (0 ∷ 0 ∷ [])
    ∷ Grant 2 0 1 (0 ∷ 0 ∷ [])
    ∷ Settle 0 1
    ∷ Route (txn 4 1 1) (want.Place 0) (0 ∷ 0 ∷ []) 1 Hand
    ∷ Ask 0 1 1 (txn 4 1 1)
    ∷ Release 2 0 1 1 (0 ∷ 0 ∷ [])
    ∷ Grant 1 0 2 (0 ∷ 0 ∷ [])
    ∷ Settle 0 2
    ∷ Ask 0 2 2 (txn 3 1 1)
    ∷ Release 1 0 2 2 (0 ∷ 0 ∷ [])
    ∷ Grant 2 0 3 (0 ∷ 0 ∷ [])
    ∷ Settle 0 3
    ∷ []

a_partition_goes_to_and_fro : judge two_sites [] to_and_fro ≡ None
a_partition_goes_to_and_fro = refl

placed_is_due_once_it_is_settled : (said_due two_sites (reverse (take 4 to_and_fro)) 3 ≡ None)
    × (said_due two_sites (reverse (take 5 to_and_fro)) 3 ≡ Some (said.Placed 0 2 1))
placed_is_due_once_it_is_settled = (refl, refl)

placed_is_due_under_the_last_epoch : (said_due two_sites (reverse to_and_fro) 3 ≡ Some (said.Placed 0 2 3))
    × (said_due two_sites (reverse to_and_fro) 4 ≡ Some (said.Placed 0 1 2))
placed_is_due_under_the_last_epoch = (refl, refl)

placed_is_allowed_under_each_epoch_since_the_route : (may_say two_sites (reverse to_and_fro) 3 (said.Placed 0 2 1) ≡ true)
    × (may_say two_sites (reverse to_and_fro) 3 (said.Placed 0 1 2) ≡ false)
    × (may_say two_sites (reverse to_and_fro) 4 (said.Placed 0 1 0) ≡ false)
placed_is_allowed_under_each_epoch_since_the_route = (refl, refl, refl)

a_partition_that_is_there_is_placed_at_once : said_due two_sites (Route (txn 3 1 1) (want.Place 1) (0 ∷ 0 ∷ []) 2 Hand ∷ []) 3 ≡ Some (said.Placed 1 2 0)
a_partition_that_is_there_is_placed_at_once = refl

-- ---- restarts

restarted_is_due_after_a_restart_of_the_site : (said_due two_sites (Route (txn 5 1 1) want.Restart (0 ∷ 0 ∷ []) 2 Hand ∷ Restart 2 (0 ∷ 0 ∷ []) Clean ∷ []) 5 ≡
    None)
    × (said_due two_sites (Restart 1 (0 ∷ 0 ∷ []) Clean ∷ Route (txn 5 1 1) want.Restart (0 ∷ 0 ∷ []) 2 Hand ∷ []) 5 ≡ None)
    × (said_due two_sites (Restart 2 (0 ∷ 0 ∷ []) Clean ∷ Route (txn 5 1 1) want.Restart (0 ∷ 0 ∷ []) 2 Hand ∷ []) 5 ≡ Some (said.Restarted 2))
restarted_is_due_after_a_restart_of_the_site = (refl, refl, refl)
