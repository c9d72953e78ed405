-- What is so of attempts, vectors and restarts in small histories, worked out by computation.
use Rattle.std.proofs.Common.{ap, arith, length}
use Rattle.std.specs.Prelude.{ℕ, pos, ◌≡◌, List, [], ◌∷◌, None, reverse, take, refl}
use Rattle.dm_body.specs.Progress.{Progress, nothing_done}
use Rattle.dm_event.specs.declared.step.Choice.TheVariants.{Hand}
use Rattle.dm_event.specs.declared.step.Found.TheVariants.{Clean, Kept, Lost}
use Rattle.dm_event.specs.declared.step.Op.TheVariants.{Read, Write, Add}
use Rattle.dm_event.specs.declared.step.Said.TheVariants as said
use Rattle.dm_event.specs.declared.step.Step.{Step}
use Rattle.dm_event.specs.declared.step.Step.TheVariants.{Reply, Begin, Commit, Refresh}
use Rattle.dm_model.proofs.Worked.{judge, two_sites, txn, pair, route, commit}
use Rattle.dm_model.proofs.Worked.HandOvers.{handed_over}
use Rattle.dm_model.proofs.Worked.Restarts.{in_doubt}
use Rattle.dm_model.proofs.Worked.Transactions.{one_commit}
use Rattle.dm_model.specs.Allowed.{with_kept}
use Rattle.dm_model.specs.Bodies.{Ran}
use Rattle.dm_model.specs.Closed.{Closed}
use Rattle.dm_model.specs.Floors.{floor}
use Rattle.dm_next.specs.Counted.{Counts}
use Rattle.dm_next.specs.Restarts.{StartsAt}
use Rattle.dm_next.specs.Routed.{IsRouted}
use Rattle.dm_next.specs.Running.{Runs, entry_of_run}

abbrev none : List ℕ
none = 0 ∷ 0 ∷ []

-- ---- attempts

a_route_routes_its_attempt : IsRouted 1 (txn 1 1 1) (3 ∷ []) none (reverse (take 1 one_commit))
a_route_routes_its_attempt = (Hand, refl)

-- what session 1 has done before it commits
abbrev done : Progress
done = record { ops = Add 3 (pos 5) ∷ Read 3 ∷ []; ran = record { reads = pair 3 5 ∷ []; writes = pair 3 5 ∷ [] } }

an_attempt_runs_with_what_it_has_done : Runs two_sites (reverse (take 2 one_commit)) 1 (txn 1 1 1) none done
an_attempt_runs_with_what_it_has_done = record {
  there = refl;
  running = refl;
  began = record { begun = refl; few = omega arith; in_range = refl; declares = refl; ran = refl };
}

the_commit_is_of_the_run : Commit (entry_of_run 1 1 (txn 1 1 1) none done) ≡ commit (txn 1 1 1) 1 1 none done.ops done.ran.reads done.ran.writes
the_commit_is_of_the_run = refl

it_has_not_done_otherwise : Runs two_sites (reverse (take 2 one_commit)) 1 (txn 1 1 1) none (record { ops = done.ops; ran = nothing_done.ran }) → ⊥
it_has_not_done_otherwise r = absurd (let e : 0 ≡ 1 = ap (λ (ran : Ran). length ran.reads) r.began.ran in omega (arith, e))

it_writes_no_other_key : Runs two_sites (reverse (take 2 one_commit)) 1 (txn 1 1 1) none
    (record { ops = Write 4 (pos 5) ∷ []; ran = record { reads = []; writes = pair 4 5 ∷ [] } }) → ⊥
it_writes_no_other_key r = absurd (cc (r.began.declares))

it_runs_nowhere_else : Runs two_sites (reverse (take 2 one_commit)) 2 (txn 1 1 1) none done → ⊥
it_runs_nowhere_else r = absurd (cc (r.running))

it_runs_no_more_when_it_has_committed : Runs two_sites (reverse (take 3 one_commit)) 1 (txn 1 1 1) none done → ⊥
it_runs_no_more_when_it_has_committed r = absurd (cc (r.running))

-- ---- vectors

-- session 1 begins at site 1 before that has session 3's commit, and commits behind session 2, which has seen it
abbrev overtaken : List Step
overtaken =
    route (txn 1 1 1) (3 ∷ []) none 1
    ∷ Begin 1 (txn 1 1 1) none
    ∷ route (txn 3 1 1) (13 ∷ []) none 2
    ∷ Begin 2 (txn 3 1 1) none
    ∷ commit (txn 3 1 1) 2 1 none (Write 13 (pos 5) ∷ []) [] (pair 13 5 ∷ [])
    ∷ Refresh 1 2
    ∷ route (txn 2 1 1) (4 ∷ []) none 1
    ∷ Begin 1 (txn 2 1 1) (0 ∷ 1 ∷ [])
    ∷ commit (txn 2 1 1) 1 1 (0 ∷ 1 ∷ []) (Write 4 (pos 6) ∷ []) [] (pair 4 6 ∷ [])
    ∷ commit (txn 1 1 1) 1 2 none (Write 3 (pos 7) ∷ []) [] (pair 3 7 ∷ [])
    ∷ Reply 1 1 (said.Committed 1 2)
    ∷ route (txn 1 2 1) [] (2 ∷ 0 ∷ []) 1
    ∷ []

each_may_follow : judge two_sites [] overtaken ≡ None
each_may_follow = refl

-- session 1's next minimum has session 2's commit, and not what that one saw
a_minimum_need_not_be_closed : Closed (2 ∷ 0 ∷ []) (reverse overtaken) → ⊥
a_minimum_need_not_be_closed c = absurd (let a = c.begun.1.0 refl 2 in omega (arith, a))

what_is_not_there_is_not_counted : Counts two_sites (reverse overtaken) (3 ∷ 0 ∷ []) → ⊥
what_is_not_there_is_not_counted c = absurd (let a = c.within 1 in omega (arith, a))

-- ---- restarts

abbrev one : List ℕ
one = 1 ∷ 0 ∷ []

the_floor_of_a_granted_site : floor 2 (with_kept 2 Clean (reverse handed_over)) 2 ≡ one
the_floor_of_a_granted_site = refl

a_granted_site_starts_at_no_less : StartsAt two_sites (reverse handed_over) 2 Clean none → ⊥
a_granted_site_starts_at_no_less s = absurd (let a = s.not_behind 1 in omega (arith, a))

a_kept_commit_is_in_the_floor : floor 2 (with_kept 1 Kept (reverse in_doubt)) 1 ≡ one
a_kept_commit_is_in_the_floor = refl

a_lost_commit_is_not : floor 2 (with_kept 1 Lost (reverse in_doubt)) 1 ≡ none
a_lost_commit_is_not = refl

no_site_starts_without_its_kept_commit : StartsAt two_sites (reverse in_doubt) 1 Kept none → ⊥
no_site_starts_without_its_kept_commit s = absurd (let a = s.own in omega (arith, a))

no_site_starts_with_a_lost_commit : StartsAt two_sites (reverse in_doubt) 1 Lost one → ⊥
no_site_starts_with_a_lost_commit s = absurd (let a = s.own in omega (arith, a))
