-- What a session has seen, and how its items stand.
use Rattle.std.specs.Prelude.{◌≡◌, [], ◌∷◌, Some, None, reverse, take, refl}
use Rattle.dm_event.specs.declared.attempt.AttemptState.TheVariants as stands
use Rattle.dm_event.specs.declared.step.Choice.TheVariants.{Hand}
use Rattle.dm_event.specs.declared.why.Why.TheVariants as why
use Rattle.dm_model.proofs.Worked.{judge, two_sites, txn, route}
use Rattle.dm_model.proofs.Worked.Restarts.{in_doubt}
use Rattle.dm_model.proofs.Worked.Transactions.{one_commit, stale_and_fresh}
use Rattle.dm_model.specs.Allowed.{refusal}
use Rattle.dm_model.specs.Attempts.{attempt}
use Rattle.dm_model.specs.Sessions.{session_vector}

-- ---- the session's vector

a_commit_counts_with_its_commit_vector : session_vector 2 (reverse one_commit) 1 ≡ 1 ∷ 0 ∷ []
a_commit_counts_with_its_commit_vector = refl

another_session_has_not_seen_it : session_vector 2 (reverse one_commit) 2 ≡ 0 ∷ 0 ∷ []
another_session_has_not_seen_it = refl

a_read_counts_with_its_begin_vector : session_vector 2 (reverse stale_and_fresh) 2 ≡ 1 ∷ 0 ∷ []
a_read_counts_with_its_begin_vector = refl

an_answer_in_doubt_does_not_count : session_vector 2 (reverse in_doubt) 1 ≡ 0 ∷ 0 ∷ []
an_answer_in_doubt_does_not_count = refl

a_route_has_what_was_read_as_its_minimum : judge two_sites (reverse stale_and_fresh) (route (txn 2 3 1) [] (1 ∷ 0 ∷ []) 2 ∷ []) ≡ None
a_route_has_what_was_read_as_its_minimum = refl

no_route_forgets_what_was_read : refusal two_sites (reverse stale_and_fresh) (route (txn 2 3 1) [] (0 ∷ 0 ∷ []) 2) ≡ Some (why.WrongVector (1 ∷ 0 ∷ []))
no_route_forgets_what_was_read = refl

-- ---- the session's attempt

an_item_has_no_attempt_before_its_route : attempt 1 [] ≡ record { txn = None; state = stands.Unrouted }
an_item_has_no_attempt_before_its_route = refl

a_routed_attempt_tells_its_route : attempt 1 (reverse (take 1 one_commit)) ≡ record { txn = Some (txn 1 1 1); state = stands.Routed 1 Hand }
a_routed_attempt_tells_its_route = refl

a_running_attempt_tells_its_site : attempt 1 (reverse (take 2 one_commit)) ≡ record { txn = Some (txn 1 1 1); state = stands.Running 1 }
a_running_attempt_tells_its_site = refl

a_committed_attempt_tells_its_entry : attempt 1 (reverse (take 3 one_commit)) ≡ record { txn = Some (txn 1 1 1); state = stands.Committed 1 1 }
a_committed_attempt_tells_its_entry = refl

a_reply_ends_the_item : attempt 1 (reverse one_commit) ≡ record { txn = None; state = stands.Unrouted }
a_reply_ends_the_item = refl
