-- A step for each reason why a step may not come, which has the reasons before it in order.
use Rattle.std.specs.List.{range_with_len}
use Rattle.std.specs.Prelude.{pos, ◌≡◌, List, [], ◌∷◌, ◌++◌, Option, Some, None, map, replicate, reverse, take, refl}
use Rattle.dm_event.specs.Layout.{Layout}
use Rattle.dm_event.specs.declared.step.Cause.TheVariants as cause
use Rattle.dm_event.specs.declared.step.Choice.TheVariants.{Master, Best, Hand}
use Rattle.dm_event.specs.declared.step.Found.TheVariants.{Clean, Lost}
use Rattle.dm_event.specs.declared.step.Op.TheVariants.{Read, Write, Add}
use Rattle.dm_event.specs.declared.step.Pending.TheVariants as pending
use Rattle.dm_event.specs.declared.step.Said.TheVariants as said
use Rattle.dm_event.specs.declared.step.Step.{Step}
use Rattle.dm_event.specs.declared.step.Step.TheVariants.{Route, Reply, Ask, Settle, Begin, Moved, End, Fail, Refresh, Release, Grant, Doubt, Restart}
use Rattle.dm_event.specs.declared.step.Want.TheVariants as want
use Rattle.dm_event.specs.declared.why.Why.{Why}
use Rattle.dm_event.specs.declared.why.Why.TheVariants as why
use Rattle.dm_model.proofs.Worked.{two_sites, txn, pair, route, commit}
use Rattle.dm_model.proofs.Worked.HandOvers.{asking, released}
use Rattle.dm_model.proofs.Worked.Restarts.{in_doubt}
use Rattle.dm_model.proofs.Worked.Transactions.{one_commit}
use Rattle.dm_model.specs.Allowed.{refusal}

-- what the history says of each of the steps
abbrev says : List Step → List Step → List (Option Why)
says history steps = map (refusal two_sites (reverse history)) steps

-- ---- shapes

abbrev unshaped : List Step → List (Option Why)
unshaped steps = map (λ s. Some why.Shape) steps

abbrev out_of_range : List Step
out_of_range =
    Refresh 0 1
    ∷ Refresh 3 1
    ∷ Refresh 1 3
    ∷ route (txn 0 1 1) [] (0 ∷ 0 ∷ []) 1
    ∷ route (txn 33 1 1) [] (0 ∷ 0 ∷ []) 1
    ∷ route (txn 1 0 1) [] (0 ∷ 0 ∷ []) 1
    ∷ route (txn 1 1 0) [] (0 ∷ 0 ∷ []) 1
    ∷ route (txn 1 1 1) (20 ∷ []) (0 ∷ 0 ∷ []) 1
    ∷ route (txn 1 1 1) [] (0 ∷ []) 1
    ∷ route (txn 1 1 1) [] (0 ∷ 0 ∷ []) 3
    ∷ Route (txn 1 1 1) (want.Place 2) (0 ∷ 0 ∷ []) 1 Hand
    ∷ Reply 33 1 (said.Read 1)
    ∷ Reply 1 0 (said.Read 1)
    ∷ Reply 1 1 (said.Committed 3 1)
    ∷ Reply 1 1 (said.Read 3)
    ∷ Reply 1 1 (said.InDoubt 3)
    ∷ Reply 1 1 (said.Placed 2 1 0)
    ∷ Reply 1 1 (said.Placed 0 3 0)
    ∷ Reply 1 1 (said.Restarted 3)
    ∷ Reply 1 1 (said.Refused (cause.Undeclared 20))
    ∷ Reply 1 1 (said.Refused (cause.Log 3))
    ∷ Begin 3 (txn 1 1 1) (0 ∷ 0 ∷ [])
    ∷ Begin 1 (txn 1 1 0) (0 ∷ 0 ∷ [])
    ∷ Begin 1 (txn 1 1 1) (0 ∷ [])
    ∷ Moved 3 (txn 1 1 1)
    ∷ Moved 1 (txn 1 1 0)
    ∷ commit (txn 1 1 0) 1 1 (0 ∷ 0 ∷ []) [] [] []
    ∷ commit (txn 1 1 1) 3 1 (0 ∷ 0 ∷ []) [] [] []
    ∷ commit (txn 1 1 1) 1 1 (0 ∷ []) [] [] []
    ∷ commit (txn 1 1 1) 1 1 (0 ∷ 0 ∷ []) (Write 20 (pos 1) ∷ []) [] []
    ∷ commit (txn 1 1 1) 1 1 (0 ∷ 0 ∷ []) [] (pair 20 1 ∷ []) []
    ∷ commit (txn 1 1 1) 1 1 (0 ∷ 0 ∷ []) [] [] (pair 20 1 ∷ [])
    ∷ End 3 (txn 1 1 1) [] []
    ∷ End 1 (txn 1 1 1) (Read 20 ∷ []) []
    ∷ End 1 (txn 1 1 1) (Add 20 (pos 1) ∷ []) []
    ∷ End 1 (txn 1 1 1) [] (pair 20 1 ∷ [])
    ∷ Fail 3 (txn 1 1 1) cause.Memory
    ∷ Ask 2 0 1 (txn 1 1 1)
    ∷ Ask 0 0 3 (txn 1 1 1)
    ∷ Ask 0 0 1 (txn 1 1 0)
    ∷ Settle 2 0
    ∷ Release 3 0 0 1 (0 ∷ 0 ∷ [])
    ∷ Release 1 2 0 1 (0 ∷ 0 ∷ [])
    ∷ Release 1 0 0 3 (0 ∷ 0 ∷ [])
    ∷ Release 1 0 0 2 (0 ∷ [])
    ∷ Grant 3 0 0 (0 ∷ 0 ∷ [])
    ∷ Grant 1 2 0 (0 ∷ 0 ∷ [])
    ∷ Grant 1 0 0 (0 ∷ [])
    ∷ Doubt 3 (pending.Grant 0 0 (0 ∷ 0 ∷ []))
    ∷ Doubt 1 (pending.Grant 2 0 (0 ∷ 0 ∷ []))
    ∷ Doubt 1 (pending.Release 0 0 3 (0 ∷ 0 ∷ []))
    ∷ Restart 3 (0 ∷ 0 ∷ []) Clean
    ∷ Restart 1 (0 ∷ []) Clean
    ∷ []

numbers_have_their_ranges : says [] out_of_range ≡ unshaped out_of_range
numbers_have_their_ranges = refl

the_ends_of_the_ranges_are_in_them : says [] (route (txn 32 1 1) (0 ∷ 9 ∷ []) (0 ∷ 0 ∷ []) 1 ∷ route (txn 1 1 1) (10 ∷ 19 ∷ []) (0 ∷ 0 ∷ []) 2 ∷ []) ≡ None
    ∷ None ∷ []
the_ends_of_the_ranges_are_in_them = refl

abbrev out_of_order : List Step
out_of_order =
    route (txn 1 1 1) (5 ∷ 3 ∷ []) (0 ∷ 0 ∷ []) 1
    ∷ route (txn 1 1 1) (3 ∷ 3 ∷ []) (0 ∷ 0 ∷ []) 1
    ∷ commit (txn 1 1 1) 1 1 (0 ∷ 0 ∷ []) (Write 5 (pos 1) ∷ Write 3 (pos 1) ∷ []) [] (pair 5 1 ∷ pair 3 1 ∷ [])
    ∷ []

keys_ascend : says [] out_of_order ≡ unshaped out_of_order
keys_ascend = refl

-- two partitions of twenty keys
abbrev wide : Layout
wide = record two_sites { width = 20 }

at_most_32_declared_keys : (refusal wide [] (route (txn 1 1 1) (range_with_len 0 33) (0 ∷ 0 ∷ []) 1) ≡ Some why.Shape)
    × (refusal wide [] (route (txn 1 1 1) (range_with_len 0 32) (0 ∷ 0 ∷ []) 1) ≡ None)
at_most_32_declared_keys = (refl, refl)

at_most_64_ops : says one_commit (End 1 (txn 1 1 1) (replicate 65 (Read 3)) [] ∷ End 1 (txn 1 1 1) (replicate 64 (Read 3)) [] ∷ []) ≡ Some why.Shape
    ∷ Some why.NotRunning ∷ []
at_most_64_ops = refl

abbrev wrong_causes : List Step
wrong_causes =
    Fail 1 (txn 1 1 1) (cause.Undeclared 3)
    ∷ Fail 1 (txn 1 1 1) (cause.Log 2)
    ∷ Fail 1 (txn 1 1 1) (cause.Damage 2 4 (Some 0) (Some 1))
    ∷ Fail 1 (txn 1 1 1) (cause.Damage 1 4 (Some 7) (Some 7))
    ∷ Fail 1 (txn 1 1 1) (cause.Damage 1 4 None None)
    ∷ Reply 1 1 (said.Refused (cause.Damage 1 4 (Some 7) (Some 7)))
    ∷ []

causes_fit_their_site : says [] wrong_causes ≡ unshaped wrong_causes
causes_fit_their_site = refl

a_commit_is_in_doubt_at_its_origin : says [] (Doubt 2
    (pending.Commit (record { txn = txn 1 1 1; origin = 1; seq = 1; begin = 0 ∷ 0 ∷ []; ops = []; reads = []; writes = [] })) ∷ []) ≡ Some why.Shape ∷ []
a_commit_is_in_doubt_at_its_origin = refl

-- ---- Routes and Replies

routes_have_the_next_number_and_attempt : says [] (route (txn 1 2 1) [] (0 ∷ 0 ∷ []) 1 ∷ route (txn 1 1 2) [] (0 ∷ 0 ∷ []) 1 ∷ []) ≡ Some (why.NotDue 1)
    ∷ Some (why.NotDue 1) ∷ []
routes_have_the_next_number_and_attempt = refl

an_attempt_is_finished_before_the_next : (says (take 1 one_commit) (route (txn 1 1 2) [] (0 ∷ 0 ∷ []) 1 ∷ []) ≡ Some (why.Unfinished (txn 1 1 1)) ∷ [])
    × (says (take 2 one_commit) (route (txn 1 1 2) [] (0 ∷ 0 ∷ []) 1 ∷ []) ≡ Some (why.Unfinished (txn 1 1 1)) ∷ [])
    × (says (take 3 one_commit) (route (txn 1 1 2) [] (0 ∷ 0 ∷ []) 1 ∷ []) ≡ Some (why.Unfinished (txn 1 1 1)) ∷ [])
    × (says (take 2 one_commit ++ (Fail 1 (txn 1 1 1) cause.Memory ∷ [])) (route (txn 1 1 2) [] (0 ∷ 0 ∷ []) 1 ∷ []) ≡ Some (why.Unfinished (txn 1 1 1)) ∷ [])
an_attempt_is_finished_before_the_next = (refl, refl, refl, refl)

a_dropped_attempt_is_routed_again : says in_doubt (route (txn 2 1 2) [] (0 ∷ 0 ∷ []) 2 ∷ []) ≡ None ∷ []
a_dropped_attempt_is_routed_again = refl

a_route_has_the_sessions_vector : says one_commit (route (txn 1 2 1) [] (0 ∷ 0 ∷ []) 1 ∷ []) ≡ Some (why.WrongVector (1 ∷ 0 ∷ [])) ∷ []
a_route_has_the_sessions_vector = refl

a_choice_is_the_one_due_or_by_hand : says [] (Route (txn 1 1 1) (want.Txn (3 ∷ [])) (0 ∷ 0 ∷ []) 2 Master
    ∷ Route (txn 1 1 1) (want.Txn (3 ∷ [])) (0 ∷ 0 ∷ []) 1 Best
    ∷ Route (txn 1 1 1) (want.Place 0) (0 ∷ 0 ∷ []) 2 Best
    ∷ route (txn 1 1 1) (3 ∷ []) (0 ∷ 0 ∷ []) 2
    ∷ []) ≡ Some (why.WrongChoice 1 Master) ∷ Some (why.WrongChoice 1 Master) ∷ Some (why.WrongChoice 2 Hand) ∷ None ∷ []
a_choice_is_the_one_due_or_by_hand = refl

replies_have_the_next_number_and_an_allowed_outcome : says (take 3 one_commit)
    (Reply 1 2 (said.Committed 1 1) ∷ Reply 1 1 (said.Committed 1 2) ∷ Reply 1 1 (said.Read 1) ∷ []) ≡ Some (why.NotDue 1) ∷ Some why.WrongSaid
    ∷ Some why.WrongSaid ∷ []
replies_have_the_next_number_and_an_allowed_outcome = refl

-- ---- Begins and what ends them

an_attempt_begins_where_it_is_routed : says (take 1 one_commit) (Begin 1 (txn 1 1 2) (0 ∷ 0 ∷ []) ∷ Begin 2 (txn 1 1 1) (0 ∷ 0 ∷ []) ∷ Begin 1 (txn 1 1 1)
    (1 ∷ 0 ∷ []) ∷ []) ≡ Some why.NotRouted ∷ Some (why.WrongSite 1) ∷ Some (why.WrongVector (0 ∷ 0 ∷ [])) ∷ []
an_attempt_begins_where_it_is_routed = refl

only_a_transaction_begins : says asking (Begin 2 (txn 3 1 1) (0 ∷ 0 ∷ []) ∷ Moved 2 (txn 3 1 1) ∷ []) ≡ Some why.NotRouted ∷ Some why.NotRouted ∷ []
only_a_transaction_begins = refl

nothing_begins_at_a_site_that_is_down : says (in_doubt ++ (route (txn 3 1 1) [] (0 ∷ 0 ∷ []) 1 ∷ []))
    (Begin 1 (txn 3 1 1) (0 ∷ 0 ∷ []) ∷ Moved 1 (txn 3 1 1) ∷ []) ≡ Some (why.Down 1) ∷ Some (why.Down 1) ∷ []
nothing_begins_at_a_site_that_is_down = refl

nothing_begins_below_its_minimum : says (one_commit ++ (route (txn 1 2 1) [] (1 ∷ 0 ∷ []) 2 ∷ [])) (Begin 2 (txn 1 2 1) (0 ∷ 0 ∷ []) ∷ []) ≡ Some (why.Behind 1)
    ∷ []
nothing_begins_below_its_minimum = refl

nothing_is_sent_away_where_it_may_begin : says (take 1 one_commit) (Moved 1 (txn 1 1 1) ∷ []) ≡ Some why.AllHere ∷ []
nothing_is_sent_away_where_it_may_begin = refl

a_commit_is_of_its_attempt : says (take 2 one_commit) (commit (txn 2 1 1) 1 1 (0 ∷ 0 ∷ []) (Write 3 (pos 1) ∷ []) [] (pair 3 1 ∷ [])
    ∷ commit (txn 1 1 1) 2 1 (0 ∷ 0 ∷ []) (Write 3 (pos 1) ∷ []) [] (pair 3 1 ∷ [])
    ∷ commit (txn 1 1 1) 1 2 (0 ∷ 0 ∷ []) (Write 3 (pos 1) ∷ []) [] (pair 3 1 ∷ [])
    ∷ commit (txn 1 1 1) 1 1 (0 ∷ 1 ∷ []) (Write 3 (pos 1) ∷ []) [] (pair 3 1 ∷ [])
    ∷ commit (txn 1 1 1) 1 1 (0 ∷ 0 ∷ []) (Write 3 (pos 1) ∷ Write 5 (pos 1) ∷ []) [] (pair 3 1 ∷ [])
    ∷ commit (txn 1 1 1) 1 1 (0 ∷ 0 ∷ []) (Write 3 (pos 1) ∷ Read 3 ∷ []) [] (pair 3 1 ∷ [])
    ∷ commit (txn 1 1 1) 1 1 (0 ∷ 0 ∷ []) (Write 3 (pos 1) ∷ []) [] (pair 3 2 ∷ [])
    ∷ commit (txn 1 1 1) 1 1 (0 ∷ 0 ∷ []) (Read 3 ∷ []) (pair 3 0 ∷ []) []
    ∷ []) ≡ Some why.NotRunning ∷ Some (why.WrongSite 1) ∷ Some (why.NotDue 1) ∷ Some (why.WrongVector (0 ∷ 0 ∷ [])) ∷ Some (why.Undeclared 5)
    ∷ Some why.WrongBody ∷ Some why.WrongBody ∷ Some why.NoWrites ∷ []
a_commit_is_of_its_attempt = refl

an_end_is_of_its_attempt : says (take 2 one_commit) (End 1 (txn 2 1 1) [] []
    ∷ End 2 (txn 1 1 1) [] []
    ∷ End 1 (txn 1 1 1) (Write 3 (pos 1) ∷ []) []
    ∷ End 1 (txn 1 1 1) (Read 3 ∷ []) (pair 3 1 ∷ [])
    ∷ []) ≡ Some why.NotRunning ∷ Some (why.WrongSite 1) ∷ Some why.HasWrites ∷ Some why.WrongBody ∷ []
an_end_is_of_its_attempt = refl

a_failure_is_of_its_attempt : says (take 2 one_commit) (Fail 1 (txn 2 1 1) cause.Memory ∷ Fail 2 (txn 1 1 1) cause.Memory ∷ []) ≡ Some why.NotRunning
    ∷ Some (why.WrongSite 1) ∷ []
a_failure_is_of_its_attempt = refl

a_routed_attempt_may_fail_anywhere : says (take 1 one_commit) (Fail 1 (txn 1 1 1) cause.Memory ∷ Fail 2 (txn 1 1 1) cause.Memory ∷ []) ≡ None ∷ None ∷ []
a_routed_attempt_may_fail_anywhere = refl

-- ---- steps of a site

no_site_refreshes_from_itself : says one_commit (Refresh 1 1 ∷ []) ≡ Some why.Own ∷ []
no_site_refreshes_from_itself = refl

a_site_that_is_up_restarts_clean : says [] (Restart 1 (0 ∷ 0 ∷ []) Lost ∷ Restart 1 (1 ∷ 0 ∷ []) Clean ∷ []) ≡ Some why.WrongFound ∷ Some (why.NotDue 0) ∷ []
a_site_that_is_up_restarts_clean = refl

-- ---- hand-overs

abbrev two_wants : List Step
two_wants = Route (txn 3 1 1) (want.Place 0) (0 ∷ 0 ∷ []) 2 Hand ∷ Route (txn 4 1 1) (want.Txn (15 ∷ [])) (0 ∷ 0 ∷ []) 2 Master ∷ []

a_partition_is_asked_by_a_route_that_wants_it : says two_wants (Ask 0 0 2 (txn 3 1 2)
    ∷ Ask 0 0 1 (txn 3 1 1)
    ∷ Ask 1 0 2 (txn 3 1 1)
    ∷ Ask 1 0 2 (txn 4 1 1)
    ∷ Ask 0 1 2 (txn 3 1 1)
    ∷ []) ≡ Some why.NotRouted ∷ Some why.WrongWant ∷ Some why.WrongWant ∷ Some why.WrongWant ∷ Some (why.NotDue 0) ∷ []
a_partition_is_asked_by_a_route_that_wants_it = refl

a_transaction_asks_for_what_it_lacks_by_best_or_by_hand : says (route (txn 5 1 1) (3 ∷ []) (0 ∷ 0 ∷ []) 2 ∷ Route (txn 6 1 1) (want.Txn (3 ∷ 15 ∷ []))
    (0 ∷ 0 ∷ []) 1 Best ∷ []) (Ask 0 0 2 (txn 5 1 1) ∷ Ask 1 0 1 (txn 6 1 1) ∷ []) ≡ None ∷ None ∷ []
a_transaction_asks_for_what_it_lacks_by_best_or_by_hand = refl

no_partition_is_asked_for_where_it_is : says (Route (txn 3 1 1) (want.Place 0) (0 ∷ 0 ∷ []) 1 Hand ∷ []) (Ask 0 0 1 (txn 3 1 1) ∷ []) ≡ Some (why.Home 1) ∷ []
no_partition_is_asked_for_where_it_is = refl

no_partition_is_asked_for_twice : says asking (Ask 0 0 2 (txn 3 1 1) ∷ []) ≡ Some (why.Unsettled 0) ∷ []
no_partition_is_asked_for_twice = refl

a_release_is_as_it_was_asked_for : says asking (Release 2 1 0 1 (0 ∷ 0 ∷ [])
    ∷ Release 2 0 0 2 (0 ∷ 0 ∷ [])
    ∷ Release 1 0 1 2 (1 ∷ 0 ∷ [])
    ∷ Release 1 0 0 1 (1 ∷ 0 ∷ [])
    ∷ Release 1 0 0 2 (0 ∷ 0 ∷ [])
    ∷ []) ≡ Some why.NotAsked ∷ Some (why.WrongSite 1) ∷ Some (why.NotDue 0) ∷ Some (why.WrongSite 2) ∷ Some (why.WrongVector (1 ∷ 0 ∷ [])) ∷ []
a_release_is_as_it_was_asked_for = refl

a_grant_is_as_it_was_released : says released (Grant 1 0 1 (1 ∷ 0 ∷ [])
    ∷ Grant 2 0 0 (1 ∷ 0 ∷ [])
    ∷ Grant 2 0 1 (0 ∷ 0 ∷ [])
    ∷ []) ≡ Some (why.WrongSite 2) ∷ Some (why.NotDue 1) ∷ Some (why.WrongVector (1 ∷ 0 ∷ [])) ∷ []
a_grant_is_as_it_was_released = refl

only_a_granted_partition_is_settled : says (released ++ (Refresh 2 1 ∷ Grant 2 0 1 (1 ∷ 0 ∷ []) ∷ [])) (Settle 1 0 ∷ Settle 0 0 ∷ []) ≡ Some why.NotGranted
    ∷ Some (why.NotDue 1) ∷ []
only_a_granted_partition_is_settled = refl

-- ---- Doubts

a_doubt_is_judged_as_its_pending_step : says (take 2 one_commit) (Doubt 1
    (pending.Commit (record { txn = txn 1 1 1; origin = 1; seq = 1; begin = 0 ∷ 0 ∷ []; ops = Read 3 ∷ []; reads = pair 3 0 ∷ []; writes = [] }))
    ∷ Doubt 1 (pending.Release 0 0 2 (0 ∷ 0 ∷ []))
    ∷ Doubt 2 (pending.Grant 0 1 (0 ∷ 0 ∷ []))
    ∷ []) ≡ Some why.NoWrites ∷ Some why.NotAsked ∷ Some why.NotReleased ∷ []
a_doubt_is_judged_as_its_pending_step = refl
