-- Keys that are held, and partitions that change their master.
use Rattle.std.specs.Prelude.{pos, ◌≡◌, true, false, List, [], ◌∷◌, ◌++◌, Some, None, reverse, refl}
use Rattle.dm_event.specs.declared.placing.Placing.TheVariants.{Settled, Asked, Between}
use Rattle.dm_event.specs.declared.step.Choice.TheVariants.{Hand}
use Rattle.dm_event.specs.declared.step.Op.TheVariants.{Add}
use Rattle.dm_event.specs.declared.step.Said.TheVariants as said
use Rattle.dm_event.specs.declared.step.Step.{Step}
use Rattle.dm_event.specs.declared.step.Step.TheVariants.{Route, Reply, Ask, Settle, Begin, Moved, Refresh, Release, Grant}
use Rattle.dm_event.specs.declared.step.Want.TheVariants as want
use Rattle.dm_event.specs.declared.why.Why.TheVariants as why
use Rattle.dm_model.proofs.Worked.{judge, two_sites, three_sites, txn, pair, route, commit}
use Rattle.dm_model.proofs.Worked.Transactions.{one_commit}
use Rattle.dm_model.specs.Allowed.{refusal}
use Rattle.dm_model.specs.Choices.{home}
use Rattle.dm_model.specs.Masters.{masters}
use Rattle.dm_model.specs.Placings.{placing}

-- ---- running attempts

-- session 1 runs on key 3, and session 2 wants the keys 3 and 4
abbrev pub held : List Step
held =
    route (txn 1 1 1) (3 ∷ []) (0 ∷ 0 ∷ []) 1
    ∷ Begin 1 (txn 1 1 1) (0 ∷ 0 ∷ [])
    ∷ route (txn 2 1 1) (3 ∷ 4 ∷ []) (0 ∷ 0 ∷ []) 1
    ∷ []

another_may_be_routed_to_the_site : judge two_sites [] held ≡ None
another_may_be_routed_to_the_site = refl

a_declared_key_is_held : refusal two_sites (reverse held) (Begin 1 (txn 2 1 1) (0 ∷ 0 ∷ [])) ≡ Some (why.Held (txn 1 1 1) 3)
a_declared_key_is_held = refl

the_earliest_begun_attempt_and_the_least_key_are_named : (refusal two_sites
    (Begin 1 (txn 2 1 1) (0 ∷ 0 ∷ []) ∷ route (txn 2 1 1) (3 ∷ []) (0 ∷ 0 ∷ []) 1 ∷ Begin 1 (txn 1 1 1) (0 ∷ 0 ∷ [])
    ∷ route (txn 1 1 1) (4 ∷ 5 ∷ []) (0 ∷ 0 ∷ []) 1 ∷ route (txn 3 1 1) (3 ∷ 4 ∷ 5 ∷ []) (0 ∷ 0 ∷ []) 1 ∷ [])
    (Begin 1 (txn 3 1 1) (0 ∷ 0 ∷ []))) ≡ Some (why.Held (txn 1 1 1) 4)
the_earliest_begun_attempt_and_the_least_key_are_named = refl

-- session 3 asks for the partition of the running attempt
abbrev pub asked_for : List Step
asked_for = held ++ (Route (txn 3 1 1) (want.Place 0) (0 ∷ 0 ∷ []) 2 Hand ∷ Ask 0 0 2 (txn 3 1 1) ∷ [])

a_partition_is_asked_while_it_is_used : judge two_sites [] asked_for ≡ None
a_partition_is_asked_while_it_is_used = refl

a_release_waits_for_running_attempts : refusal two_sites (reverse asked_for) (Release 1 0 0 2 (0 ∷ 0 ∷ [])) ≡ Some (why.Running (txn 1 1 1))
a_release_waits_for_running_attempts = refl

-- ---- a whole hand-over

-- after a commit on it, partition 0 is asked for
abbrev pub asking : List Step
asking = one_commit ++ (Route (txn 3 1 1) (want.Place 0) (0 ∷ 0 ∷ []) 2 Hand ∷ Ask 0 0 2 (txn 3 1 1) ∷ [])

no_grant_before_the_release : refusal two_sites (reverse asking) (Grant 2 0 1 (1 ∷ 0 ∷ [])) ≡ Some why.NotReleased
no_grant_before_the_release = refl

an_asked_partition_keeps_its_master : (placing two_sites (reverse asking) 0 ≡ Asked 1 0 2) × (masters two_sites (reverse asking) 1 0 0 ≡ true)
an_asked_partition_keeps_its_master = (refl, refl)

abbrev pub released : List Step
released = asking ++ (Release 1 0 0 2 (1 ∷ 0 ∷ []) ∷ [])

an_asked_partition_is_released : judge two_sites [] released ≡ None
an_asked_partition_is_released = refl

a_released_partition_has_no_master : (placing two_sites (reverse released) 0 ≡ Between 1 0 2 (1 ∷ 0 ∷ []))
    × (masters two_sites (reverse released) 1 0 0 ≡ false) × (masters two_sites (reverse released) 2 0 1 ≡ false)
a_released_partition_has_no_master = (refl, refl, refl)

a_released_partition_is_at_home_where_it_goes : home two_sites (reverse released) 0 ≡ 2
a_released_partition_is_at_home_where_it_goes = refl

a_grant_waits_for_the_release_vector : refusal two_sites (reverse released) (Grant 2 0 1 (1 ∷ 0 ∷ [])) ≡ Some (why.Behind 1)
a_grant_waits_for_the_release_vector = refl

abbrev pub granted : List Step
granted = released ++ (Refresh 2 1 ∷ Grant 2 0 1 (1 ∷ 0 ∷ []) ∷ [])

a_granted_partition_is_begun_on : judge two_sites [] (granted ++ (route (txn 2 1 1) (3 ∷ []) (0 ∷ 0 ∷ []) 2 ∷ Begin 2 (txn 2 1 1) (1 ∷ 0 ∷ []) ∷ [])) ≡ None
a_granted_partition_is_begun_on = refl

abbrev pub handed_over : List Step
handed_over = granted ++ (Settle 0 1 ∷ [])

a_hand_over_raises_the_epoch : (placing two_sites (reverse handed_over) 0 ≡ Settled 2 1) × (masters two_sites (reverse handed_over) 2 0 1 ≡ true)
a_hand_over_raises_the_epoch = (refl, refl)

-- session 2 adds to the first writer's value at the new master, and both are answered
abbrev pub written_on : List Step
written_on =
    handed_over
    ++ (route (txn 2 1 1) (3 ∷ []) (0 ∷ 0 ∷ []) 2
    ∷ Begin 2 (txn 2 1 1) (1 ∷ 0 ∷ [])
    ∷ commit (txn 2 1 1) 2 1 (1 ∷ 0 ∷ []) (Add 3 (pos 1) ∷ []) [] (pair 3 6 ∷ [])
    ∷ Reply 2 1 (said.Committed 2 1)
    ∷ Reply 3 1 (said.Placed 0 2 1)
    ∷ [])

the_new_master_writes_on_what_it_took_over : judge two_sites [] written_on ≡ None
the_new_master_writes_on_what_it_took_over = refl

-- ---- attempts that find a partition gone

abbrev pub sent_there : List Step
sent_there = asking ++ (route (txn 2 1 1) (3 ∷ []) (0 ∷ 0 ∷ []) 1 ∷ [])

the_least_partition_that_is_elsewhere_is_named : (refusal two_sites (route (txn 1 1 1) (3 ∷ 15 ∷ []) (0 ∷ 0 ∷ []) 1 ∷ []) (Begin 1 (txn 1 1 1) (0 ∷ 0 ∷ [])) ≡
    Some (why.Elsewhere 1))
    × (refusal three_sites (route (txn 1 1 1) (3 ∷ 15 ∷ []) (0 ∷ 0 ∷ 0 ∷ []) 3 ∷ []) (Begin 3 (txn 1 1 1) (0 ∷ 0 ∷ 0 ∷ [])) ≡ Some (why.Elsewhere 0))
the_least_partition_that_is_elsewhere_is_named = (refl, refl)

nothing_begins_on_an_asked_partition : refusal two_sites (reverse sent_there) (Begin 1 (txn 2 1 1) (1 ∷ 0 ∷ [])) ≡ Some (why.Elsewhere 0)
nothing_begins_on_an_asked_partition = refl

what_is_sent_away_is_routed_again : judge two_sites [] (sent_there ++ (Moved 1 (txn 2 1 1) ∷ route (txn 2 1 2) (3 ∷ []) (0 ∷ 0 ∷ []) 2 ∷ [])) ≡ None
what_is_sent_away_is_routed_again = refl
