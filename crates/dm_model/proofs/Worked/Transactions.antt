-- Transactions, the refreshes that carry them, and the vectors from which they are read.
use Rattle.std.specs.Prelude.{pos, ◌≡◌, List, [], ◌∷◌, ◌++◌, Some, None, reverse, refl}
use Rattle.dm_event.specs.declared.step.Op.TheVariants.{Read, Write, Add}
use Rattle.dm_event.specs.declared.step.Said.TheVariants as said
use Rattle.dm_event.specs.declared.step.Step.{Step}
use Rattle.dm_event.specs.declared.step.Step.TheVariants.{Reply, Begin, End, Refresh}
use Rattle.dm_event.specs.declared.why.Why.TheVariants as why
use Rattle.dm_model.proofs.Worked.{judge, two_sites, three_sites, txn, pair, route, commit}
use Rattle.dm_model.specs.Allowed.{refusal}
use Rattle.dm_model.specs.Floors.{floor}
use Rattle.dm_model.specs.Progress.{full, site_vector}
use Rattle.dm_model.specs.Values.{value}

-- session 1 adds 5 to key 3 at site 1, and reads it
abbrev pub one_commit : List Step
one_commit =
    route (txn 1 1 1) (3 ∷ []) (0 ∷ 0 ∷ []) 1
    ∷ Begin 1 (txn 1 1 1) (0 ∷ 0 ∷ [])
    ∷ commit (txn 1 1 1) 1 1 (0 ∷ 0 ∷ []) (Add 3 (pos 5) ∷ Read 3 ∷ []) (pair 3 5 ∷ []) (pair 3 5 ∷ [])
    ∷ Reply 1 1 (said.Committed 1 1)
    ∷ []

a_transaction_commits : judge two_sites [] one_commit ≡ None
a_transaction_commits = refl

the_origin_has_its_entry : site_vector 2 (reverse one_commit) 1 ≡ 1 ∷ 0 ∷ []
the_origin_has_its_entry = refl

another_site_lacks_the_entry : site_vector 2 (reverse one_commit) 2 ≡ 0 ∷ 0 ∷ []
another_site_lacks_the_entry = refl

the_full_vector_counts_the_entry : full 2 (reverse one_commit) ≡ 1 ∷ 0 ∷ []
the_full_vector_counts_the_entry = refl

an_entry_is_in_its_origins_floor : floor 2 (reverse one_commit) 1 ≡ 1 ∷ 0 ∷ []
an_entry_is_in_its_origins_floor = refl

-- session 2 reads key 3 at site 2, before and after site 2 takes the entry over
abbrev pub stale_and_fresh : List Step
stale_and_fresh =
    one_commit
    ++ (route (txn 2 1 1) [] (0 ∷ 0 ∷ []) 2
    ∷ Begin 2 (txn 2 1 1) (0 ∷ 0 ∷ [])
    ∷ End 2 (txn 2 1 1) (Read 3 ∷ []) (pair 3 0 ∷ [])
    ∷ Reply 2 1 (said.Read 2)
    ∷ Refresh 2 1
    ∷ route (txn 2 2 1) [] (0 ∷ 0 ∷ []) 2
    ∷ Begin 2 (txn 2 2 1) (1 ∷ 0 ∷ [])
    ∷ End 2 (txn 2 2 1) (Read 3 ∷ []) (pair 3 5 ∷ [])
    ∷ Reply 2 2 (said.Read 2)
    ∷ [])

a_site_is_read_at_its_own_vector : judge two_sites [] stale_and_fresh ≡ None
a_site_is_read_at_its_own_vector = refl

the_value_is_that_of_the_vector : (value two_sites (reverse stale_and_fresh) 3 (0 ∷ 0 ∷ []) ≡ pos 0)
    × (value two_sites (reverse stale_and_fresh) 3 (1 ∷ 0 ∷ []) ≡ pos 5)
the_value_is_that_of_the_vector = (refl, refl)

a_site_that_has_all_has_none_to_refresh : refusal two_sites (reverse stale_and_fresh) (Refresh 2 1) ≡ Some why.Missing
a_site_that_has_all_has_none_to_refresh = refl

-- session 1 writes at site 1, and session 2 writes at site 2 where that is seen
abbrev pub chained : List Step
chained =
    route (txn 1 1 1) (3 ∷ []) (0 ∷ 0 ∷ 0 ∷ []) 1
    ∷ Begin 1 (txn 1 1 1) (0 ∷ 0 ∷ 0 ∷ [])
    ∷ commit (txn 1 1 1) 1 1 (0 ∷ 0 ∷ 0 ∷ []) (Write 3 (pos 5) ∷ []) [] (pair 3 5 ∷ [])
    ∷ Refresh 2 1
    ∷ route (txn 2 1 1) (15 ∷ []) (0 ∷ 0 ∷ 0 ∷ []) 2
    ∷ Begin 2 (txn 2 1 1) (1 ∷ 0 ∷ 0 ∷ [])
    ∷ commit (txn 2 1 1) 2 1 (1 ∷ 0 ∷ 0 ∷ []) (Write 15 (pos 5) ∷ []) [] (pair 15 5 ∷ [])
    ∷ []

a_writer_sees_what_its_site_refreshed : judge three_sites [] chained ≡ None
a_writer_sees_what_its_site_refreshed = refl

a_refresh_waits_for_what_its_entry_saw : refusal three_sites (reverse chained) (Refresh 3 2) ≡ Some (why.Behind 1)
a_refresh_waits_for_what_its_entry_saw = refl

then_it_may_come : judge three_sites (reverse chained) (Refresh 3 1 ∷ Refresh 3 2 ∷ []) ≡ None
then_it_may_come = refl

refreshes_count_by_origin : site_vector 3 (reverse (chained ++ (Refresh 3 1 ∷ Refresh 3 2 ∷ []))) 3 ≡ 1 ∷ 1 ∷ 0 ∷ []
refreshes_count_by_origin = refl

-- two writers that don't see each other, and two readers that see one each
abbrev pub apart : List Step
apart =
    route (txn 1 1 1) (3 ∷ []) (0 ∷ 0 ∷ []) 1
    ∷ Begin 1 (txn 1 1 1) (0 ∷ 0 ∷ [])
    ∷ commit (txn 1 1 1) 1 1 (0 ∷ 0 ∷ []) (Write 3 (pos 5) ∷ []) [] (pair 3 5 ∷ [])
    ∷ route (txn 2 1 1) (15 ∷ []) (0 ∷ 0 ∷ []) 2
    ∷ Begin 2 (txn 2 1 1) (0 ∷ 0 ∷ [])
    ∷ commit (txn 2 1 1) 2 1 (0 ∷ 0 ∷ []) (Write 15 (pos 5) ∷ []) [] (pair 15 5 ∷ [])
    ∷ route (txn 3 1 1) [] (0 ∷ 0 ∷ []) 1
    ∷ Begin 1 (txn 3 1 1) (1 ∷ 0 ∷ [])
    ∷ route (txn 4 1 1) [] (0 ∷ 0 ∷ []) 2
    ∷ Begin 2 (txn 4 1 1) (0 ∷ 1 ∷ [])
    ∷ []

snapshots_may_be_incomparable : judge two_sites [] apart ≡ None
snapshots_may_be_incomparable = refl
