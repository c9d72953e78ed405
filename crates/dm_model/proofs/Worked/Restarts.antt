-- Sites that go down and are restarted.
use Rattle.std.specs.Prelude.{pos, ◌≡◌, true, false, List, [], ◌∷◌, ◌++◌, Some, None, reverse, refl}
use Rattle.dm_event.specs.declared.attempt.AttemptState.TheVariants as stands
use Rattle.dm_event.specs.declared.step.Found.TheVariants.{Clean, Kept, Lost}
use Rattle.dm_event.specs.declared.step.Op.TheVariants.{Write}
use Rattle.dm_event.specs.declared.step.Pending.TheVariants as pending
use Rattle.dm_event.specs.declared.step.Said.TheVariants as said
use Rattle.dm_event.specs.declared.step.Step.{Step}
use Rattle.dm_event.specs.declared.step.Step.TheVariants.{Reply, Begin, Refresh, Doubt, Restart}
use Rattle.dm_event.specs.declared.why.Why.TheVariants as why
use Rattle.dm_model.proofs.Worked.{judge, two_sites, three_sites, txn, pair, route}
use Rattle.dm_model.proofs.Worked.HandOvers.{handed_over}
use Rattle.dm_model.proofs.Worked.Transactions.{chained}
use Rattle.dm_model.specs.Allowed.{refusal}
use Rattle.dm_model.specs.Attempts.{state}
use Rattle.dm_model.specs.Doubts.{is_down}
use Rattle.dm_model.specs.Floors.{floor}
use Rattle.dm_model.specs.Progress.{site_vector}
use Rattle.dm_model.specs.Runs.{runs}
use Rattle.dm_model.specs.Values.{value}

-- ---- the vector of a Restart

a_grant_is_in_the_floor : floor 2 (reverse handed_over) 2 ≡ 1 ∷ 0 ∷ []
a_grant_is_in_the_floor = refl

a_site_restarts_at_its_floor : judge two_sites [] (handed_over ++ (Restart 2 (1 ∷ 0 ∷ []) Clean ∷ [])) ≡ None
a_site_restarts_at_its_floor = refl

no_site_restarts_below_its_floor : refusal two_sites (reverse handed_over) (Restart 2 (0 ∷ 0 ∷ []) Clean) ≡ Some (why.Behind 1)
no_site_restarts_below_its_floor = refl

no_site_restarts_above_its_vector : refusal three_sites (reverse chained) (Restart 3 (1 ∷ 0 ∷ 0 ∷ []) Clean) ≡ Some (why.Ahead 1)
no_site_restarts_above_its_vector = refl

a_restart_vector_holds_what_its_entries_saw : refusal three_sites (reverse (chained ++ (Refresh 3 1 ∷ Refresh 3 2 ∷ []))) (Restart 3 (0 ∷ 1 ∷ 0 ∷ []) Clean) ≡
    Some (why.NotClosed 2 1)
a_restart_vector_holds_what_its_entries_saw = refl

refreshes_count_from_the_restart : site_vector 3 (reverse (chained ++ (Refresh 3 1 ∷ Restart 3 (0 ∷ 0 ∷ 0 ∷ []) Clean ∷ Refresh 3 1 ∷ []))) 3 ≡ 1 ∷ 0 ∷ 0 ∷ []
refreshes_count_from_the_restart = refl

-- ---- a commit in doubt

-- session 1 writes key 3 at site 1, and whether its log has the commit isn't known; session 2 runs beside it
abbrev pub in_doubt : List Step
in_doubt =
    route (txn 1 1 1) (3 ∷ []) (0 ∷ 0 ∷ []) 1
    ∷ Begin 1 (txn 1 1 1) (0 ∷ 0 ∷ [])
    ∷ route (txn 2 1 1) (4 ∷ []) (0 ∷ 0 ∷ []) 1
    ∷ Begin 1 (txn 2 1 1) (0 ∷ 0 ∷ [])
    ∷ Doubt 1 (pending.Commit (record {
      txn = txn 1 1 1;
      origin = 1;
      seq = 1;
      begin = 0 ∷ 0 ∷ [];
      ops = Write 3 (pos 9) ∷ [];
      reads = [];
      writes = pair 3 9 ∷
          [];
    }))
    ∷ Reply 1 1 (said.InDoubt 1)
    ∷ []

a_commit_may_be_in_doubt : judge two_sites [] in_doubt ≡ None
a_commit_may_be_in_doubt = refl

its_site_is_down : (is_down 1 (reverse in_doubt) ≡ true) × (refusal two_sites (reverse in_doubt) (Refresh 1 2) ≡ Some (why.Down 1))
its_site_is_down = (refl, refl)

what_ran_beside_it_is_dropped : (state 2 (reverse in_doubt) ≡ stands.Dropped) × (runs 1 (txn 2 1 1) (reverse in_doubt) ≡ false)
what_ran_beside_it_is_dropped = (refl, refl)

a_doubt_alone_is_no_entry : value two_sites (reverse in_doubt) 3 (1 ∷ 1 ∷ []) ≡ pos 0
a_doubt_alone_is_no_entry = refl

abbrev pub kept : List Step
kept = in_doubt ++ (Restart 1 (1 ∷ 0 ∷ []) Kept ∷ route (txn 3 1 1) [] (0 ∷ 0 ∷ []) 1 ∷ Begin 1 (txn 3 1 1) (1 ∷ 0 ∷ []) ∷ [])

a_restart_may_keep_the_commit : judge two_sites [] kept ≡ None
a_restart_may_keep_the_commit = refl

a_kept_commit_is_read : value two_sites (reverse kept) 3 (1 ∷ 0 ∷ []) ≡ pos 9
a_kept_commit_is_read = refl

abbrev pub lost : List Step
lost = in_doubt ++ (Restart 1 (0 ∷ 0 ∷ []) Lost ∷ route (txn 3 1 1) [] (0 ∷ 0 ∷ []) 1 ∷ Begin 1 (txn 3 1 1) (0 ∷ 0 ∷ []) ∷ [])

a_restart_may_lose_the_commit : judge two_sites [] lost ≡ None
a_restart_may_lose_the_commit = refl

a_lost_commit_is_not_read : value two_sites (reverse lost) 3 (1 ∷ 1 ∷ []) ≡ pos 0
a_lost_commit_is_not_read = refl

a_kept_commit_counts_in_the_restart_vector : refusal two_sites (reverse in_doubt) (Restart 1 (0 ∷ 0 ∷ []) Kept) ≡ Some (why.NotDue 1)
a_kept_commit_counts_in_the_restart_vector = refl

no_clean_restart_after_a_doubt : refusal two_sites (reverse in_doubt) (Restart 1 (0 ∷ 0 ∷ []) Clean) ≡ Some why.WrongFound
no_clean_restart_after_a_doubt = refl
