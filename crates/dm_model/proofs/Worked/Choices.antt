-- To which site a transaction is routed.
use Rattle.std.specs.Prelude.{ℕ, pos, negsuc, ◌≡◌, ◌==◌, nat_lt, if◌then◌else◌, List, [], ◌∷◌, ◌++◌, None, length, replicate, reverse, take, refl}
use Rattle.dm_event.specs.Layout.{Layout}
use Rattle.dm_event.specs.declared.step.Cause.TheVariants as cause
use Rattle.dm_event.specs.declared.step.Choice.TheVariants.{Master, Best, Reader, Hand}
use Rattle.dm_event.specs.declared.step.Found.TheVariants.{Clean}
use Rattle.dm_event.specs.declared.step.Op.TheVariants.{Read, Write}
use Rattle.dm_event.specs.declared.step.Said.TheVariants as said
use Rattle.dm_event.specs.declared.step.Step.{Step}
use Rattle.dm_event.specs.declared.step.Step.TheVariants.{Route, Reply, Begin, Moved, End, Refresh, Restart}
use Rattle.dm_event.specs.declared.step.Want.TheVariants as want
use Rattle.dm_model.proofs.Worked.{judge, two_sites, three_sites, txn, pair, route, commit}
use Rattle.dm_model.proofs.Worked.HandOvers.{asking}
use Rattle.dm_model.proofs.Worked.Transactions.{one_commit}
use Rattle.dm_model.specs.Choices.{choice_due, window, score}
use Rattle.dm_model.specs.Scores.{weight, load, uneven, balance, lag, together, score_of}

-- ---- writers

all_keys_of_one_master : (choice_due two_sites [] 1 (3 ∷ 5 ∷ []) ≡ (1, Master)) × (choice_due two_sites [] 1 (15 ∷ []) ≡ (2, Master))
all_keys_of_one_master = (refl, refl)

equal_scores_give_the_least_site : choice_due two_sites [] 1 (3 ∷ 15 ∷ []) ≡ (1, Best)
equal_scores_give_the_least_site = refl

a_best_site_may_have_to_be_made_master_first : judge two_sites [] (Route (txn 1 1 1) (want.Txn (3 ∷ 15 ∷ [])) (0 ∷ 0 ∷ []) 1 Best ∷ Moved 1 (txn 1 1 1) ∷ []) ≡
    None
a_best_site_may_have_to_be_made_master_first = refl

an_asked_partition_has_no_agreed_master : choice_due two_sites (reverse asking) 4 (3 ∷ []) ≡ (1, Best)
an_asked_partition_has_no_agreed_master = refl

-- ---- scores

-- three partitions at the sites 1, 2 and 1, of which the first and the third were used once each
abbrev pub uneven_sites : Layout
uneven_sites = record { sites = 2; width = 10; masters = 1 ∷ 2 ∷ 1 ∷ []; weights = record { balance = 1; delay = 1; together = 1 }; values = [] }

abbrev pub used : List Step
used = route (txn 1 1 1) (3 ∷ []) (0 ∷ 0 ∷ []) 1 ∷ route (txn 2 1 1) (23 ∷ []) (0 ∷ 0 ∷ []) 1 ∷ []

scores_are_of_the_evenness_won : (score uneven_sites (reverse used) (0 ∷ 1 ∷ []) 1 ≡ pos 0) × (score uneven_sites (reverse used) (0 ∷ 1 ∷ []) 2 ≡ pos 4)
scores_are_of_the_evenness_won = (refl, refl)

the_greatest_score_is_chosen : choice_due uneven_sites (reverse used) 3 (3 ∷ 15 ∷ []) ≡ (2, Best)
the_greatest_score_is_chosen = refl

it_may_be_routed_so : judge uneven_sites [] (used ++ (Route (txn 3 1 1) (want.Txn (3 ∷ 15 ∷ [])) (0 ∷ 0 ∷ []) 2 Best ∷ [])) ≡ None
it_may_be_routed_so = refl

the_window_has_routes_with_declared_keys : window two_sites (reverse
    (route (txn 1 1 1) (3 ∷ 5 ∷ 15 ∷ []) (0 ∷ 0 ∷ []) 1 ∷ route (txn 2 1 1) [] (0 ∷ 0 ∷ []) 1 ∷ Route (txn 3 1 1) (want.Place 1) (0 ∷ 0 ∷ []) 1 Hand ∷ [])) ≡
    (0 ∷ 1 ∷ []) ∷ []
the_window_has_routes_with_declared_keys = refl

the_window_forgets_all_but_the_last_256 : (length (window two_sites (replicate 257 (route (txn 1 1 1) (3 ∷ []) (0 ∷ 0 ∷ []) 1))) ≡ 256)
    × (take 2 (window two_sites (route (txn 2 1 1) (15 ∷ []) (0 ∷ 0 ∷ []) 2 ∷ replicate 256 (route (txn 1 1 1) (3 ∷ []) (0 ∷ 0 ∷ []) 1))) ≡ (1 ∷ []) ∷ (0 ∷ [])
    ∷ [])
the_window_forgets_all_but_the_last_256 = (refl, refl)

the_window_counts_routes_and_not_steps : window two_sites (replicate 256 (Refresh 2 1) ++ (route (txn 1 1 1) (3 ∷ []) (0 ∷ 0 ∷ []) 1 ∷ [])) ≡ (0 ∷ []) ∷ []
the_window_counts_routes_and_not_steps = refl

-- the homes of four partitions: the first two at site 1, the others at site 2
abbrev pub halves : ℕ → ℕ
halves p = if nat_lt p 2 then 1 else 2

-- what was used together
abbrev pub uses : List (List ℕ)
uses = (0 ∷ 1 ∷ []) ∷ (0 ∷ 2 ∷ []) ∷ (0 ∷ 2 ∷ 3 ∷ []) ∷ (3 ∷ []) ∷ []

a_weight_counts_the_sets : (weight uses 0 ≡ 3) × (weight uses 1 ≡ 1)
a_weight_counts_the_sets = (refl, refl)

a_load_adds_the_weights_at_home : (load 2 4 uses halves 1 ≡ 4) × (load 2 4 uses halves 2 ≡ 4)
a_load_adds_the_weights_at_home = (refl, refl)

a_move_may_unbalance : (uneven 2 4 uses halves ≡ 0) × (balance 2 4 uses halves (2 ∷ []) 1 ≡ negsuc 7) × (balance 2 4 uses halves (2 ∷ []) 2 ≡ pos 0)
a_move_may_unbalance = (refl, refl, refl)

-- site 1 has three entries of its own, site 2 one of site 1 and five of its own
abbrev pub vectors : ℕ → List ℕ
vectors i = if i == 1 then 3 ∷ 0 ∷ [] else 1 ∷ 5 ∷ []

a_lag_counts_what_is_missing_of_the_homes : (lag 2 halves vectors (0 ∷ []) 1 ≡ 0) × (lag 2 halves vectors (0 ∷ []) 2 ≡ 2)
    × (lag 2 halves vectors (0 ∷ 2 ∷ []) 1 ≡ 5)
a_lag_counts_what_is_missing_of_the_homes = (refl, refl, refl)

partitions_used_together_count_each_time : (together uses halves (0 ∷ []) 1 ≡ 1) × (together uses halves (0 ∷ []) 2 ≡ 3)
partitions_used_together_count_each_time = (refl, refl)

each_part_of_a_score_has_its_weight : (score_of (record { balance = 3; delay = 5; together = 7 }) 2 4 uses halves vectors (0 ∷ []) 1 ≡ pos 7)
    × (score_of (record { balance = 3; delay = 5; together = 7 }) 2 4 uses halves vectors (0 ∷ []) 2 ≡ negsuc 24)
each_part_of_a_score_has_its_weight = (refl, refl)

-- ---- readers

readers_go_round_from_their_own_site : (choice_due three_sites [] 2 [] ≡ (2, Reader)) × (choice_due three_sites [] 4 [] ≡ (1, Reader))
readers_go_round_from_their_own_site = (refl, refl)

-- after a refused item session 1 reads at the first site
a_reader_is_routed_by_its_circle : judge two_sites [] (Reply 1 1 (said.Refused (cause.Undeclared 7)) ∷ Route (txn 1 2 1) (want.Txn []) (0 ∷ 0 ∷ []) 1 Reader ∷
    Begin 1 (txn 1 2 1) (0 ∷ 0 ∷ []) ∷ End 1 (txn 1 2 1) (Read 3 ∷ []) (pair 3 0 ∷ []) ∷ Reply 1 2 (said.Read 1) ∷ []) ≡ None
a_reader_is_routed_by_its_circle = refl

-- session 2 reads at site 1 what its own site 2 lacks
abbrev pub read_elsewhere : List Step
read_elsewhere =
    one_commit
    ++ (route (txn 2 1 1) [] (0 ∷ 0 ∷ []) 1
    ∷ Begin 1 (txn 2 1 1) (1 ∷ 0 ∷ [])
    ∷ End 1 (txn 2 1 1) (Read 3 ∷ []) (pair 3 5 ∷ [])
    ∷ Reply 2 1 (said.Read 1)
    ∷ [])

a_session_may_read_elsewhere : judge two_sites [] read_elsewhere ≡ None
a_session_may_read_elsewhere = refl

a_reader_goes_on_to_a_site_that_has_what_it_saw : choice_due two_sites (reverse read_elsewhere) 2 [] ≡ (1, Reader)
a_reader_goes_on_to_a_site_that_has_what_it_saw = refl

-- a commit at each of the first two sites, of which site 3 takes both over, and session 3 reads there
abbrev pub read_at_three : List Step
read_at_three =
    route (txn 1 1 1) (3 ∷ []) (0 ∷ 0 ∷ 0 ∷ []) 1
    ∷ Begin 1 (txn 1 1 1) (0 ∷ 0 ∷ 0 ∷ [])
    ∷ commit (txn 1 1 1) 1 1 (0 ∷ 0 ∷ 0 ∷ []) (Write 3 (pos 5) ∷ []) [] (pair 3 5 ∷ [])
    ∷ Reply 1 1 (said.Committed 1 1)
    ∷ route (txn 2 1 1) (15 ∷ []) (0 ∷ 0 ∷ 0 ∷ []) 2
    ∷ Begin 2 (txn 2 1 1) (0 ∷ 0 ∷ 0 ∷ [])
    ∷ commit (txn 2 1 1) 2 1 (0 ∷ 0 ∷ 0 ∷ []) (Write 15 (pos 6) ∷ []) [] (pair 15 6 ∷ [])
    ∷ Reply 2 1 (said.Committed 2 1)
    ∷ Refresh 3 1
    ∷ Refresh 3 2
    ∷ route (txn 3 1 1) [] (0 ∷ 0 ∷ 0 ∷ []) 3
    ∷ Begin 3 (txn 3 1 1) (1 ∷ 1 ∷ 0 ∷ [])
    ∷ End 3 (txn 3 1 1) (Read 15 ∷ []) (pair 15 6 ∷ [])
    ∷ Reply 3 1 (said.Read 3)
    ∷ []

abbrev pub set_back : List Step
set_back = read_at_three ++ (Restart 3 (0 ∷ 0 ∷ 0 ∷ []) Clean ∷ [])

a_site_may_be_set_back : judge three_sites [] set_back ≡ None
a_site_may_be_set_back = refl

where_no_site_has_it_the_reader_stays_at_its_own : choice_due three_sites (reverse set_back) 3 [] ≡ (3, Reader)
where_no_site_has_it_the_reader_stays_at_its_own = refl
