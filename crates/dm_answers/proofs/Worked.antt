-- What answers a session's items, and what doesn't, worked out by computation.
use Rattle.std.proofs.Common.{arith}
use Rattle.std.specs.Prelude.{ℕ, pos, ◌≡◌, ◌≢◌, List, [], ◌∷◌, ◌++◌, refl}
use Rattle.dm_answers.specs.Answers.{Answers, Fits, Told, Tries, numbers_told}
use Rattle.dm_answers.specs.declared.item.Item.TheVariants as item
use Rattle.dm_event.specs.declared.step.Body.{Body}
use Rattle.dm_event.specs.declared.step.Cause.TheVariants as cause
use Rattle.dm_event.specs.declared.step.Choice.TheVariants.{Hand, Reader}
use Rattle.dm_event.specs.declared.step.Op.TheVariants.{Read, Write}
use Rattle.dm_event.specs.declared.step.Said.TheVariants as said
use Rattle.dm_event.specs.declared.step.Step.{Step}
use Rattle.dm_event.specs.declared.step.Step.TheVariants.{Route, Begin, Reply}
use Rattle.dm_event.specs.declared.step.Want.TheVariants as want
use Rattle.dm_model.proofs.Worked.{txn, pair, commit}

abbrev none : List ℕ
none = 0 ∷ 0 ∷ []

-- write 5 to key 3, which is declared
abbrev body : Body
body = record { declared = 3 ∷ []; ops = Write 3 (pos 5) ∷ [] }

-- its first attempt, as session 1's first item
abbrev sent : Step
sent = Route (txn 1 1 1) (want.Txn (3 ∷ [])) none 1 Reader

abbrev begun : Step
begun = Begin 1 (txn 1 1 1) none

abbrev committed : Step
committed = commit (txn 1 1 1) 1 1 none body.ops [] (pair 3 5 ∷ [])

abbrev told : Step
told = Reply 1 1 (said.Committed 1 1)

not_by_hand : Reader ≢ Hand
not_by_hand e = absurd (cc (e))

-- ---- one item

a_commit_of_its_ops_answers_it : Told 1 1 (item.Txn body) (said.Committed 1 1) (sent ∷ begun ∷ committed ∷ told ∷ [])
a_commit_of_its_ops_answers_it = (
  sent ∷ begun ∷ committed ∷ [],
  refl,
  (((refl, refl), (refl, not_by_hand, refl)), ((refl, refl), (((refl, refl), refl), tt))),
  (_, (sent ∷ begun ∷ [], refl), refl, refl, refl),
)

other_ops_are_not_its : Tries 1 1 (item.Txn body) (commit (txn 1 1 1) 1 1 none (Read 3 ∷ []) (pair 3 0 ∷ []) []) → ⊥
other_ops_are_not_its t = absurd (cc (t.1))

another_number_is_not_its : Tries 1 2 (item.Txn body) committed → ⊥
another_number_is_not_its t = absurd (let e : 1 ≡ 2 = t.0.1 in omega (arith, e))

no_hand_sends_it : Tries 1 1 (item.Txn body) (Route (txn 1 1 1) (want.Txn (3 ∷ [])) none 1 Hand) → ⊥
no_hand_sends_it t = absurd (t.1.1 refl)

-- it writes key 7, which isn't declared
abbrev undeclared : Body
undeclared = record { declared = 3 ∷ []; ops = Write 3 (pos 5) ∷ Write 7 (pos 5) ∷ [] }

an_undeclared_write_is_named : Told 1 1 (item.Txn undeclared) (said.Refused (cause.Undeclared 7)) (Reply 1 1 (said.Refused (cause.Undeclared 7)) ∷ [])
an_undeclared_write_is_named = ([], refl, tt, (refl, refl))

it_has_no_route : Tries 1 1 (item.Txn undeclared) (Route (txn 1 1 1) (want.Txn (3 ∷ [])) none 1 Reader) → ⊥
it_has_no_route t = absurd (cc (t.1.2))

no_log_refuses_without_a_fail : Fits (item.Txn body) (said.Refused (cause.Log 1)) (sent ∷ []) → ⊥
no_log_refuses_without_a_fail (t, ([], e)) = absurd (cc (e))
no_log_refuses_without_a_fail (t, (x ∷ [], e)) = absurd (cc (e))
no_log_refuses_without_a_fail (t, (x ∷ y ∷ more, e)) = absurd (cc (e))

a_place_names_its_partition : Fits (item.Place 0 2) (said.Placed 1 2 1) [] → ⊥
a_place_names_its_partition f = absurd (let e : 1 ≡ 0 = f.0 in omega (arith, e))

a_restart_names_its_site : Fits (item.Restart 2) (said.Restarted 1) [] → ⊥
a_restart_names_its_site f = absurd (let e : 1 ≡ 2 = f in omega (arith, e))

-- ---- one item after the other

abbrev both : List Step
both = Reply 1 1 (said.Refused cause.Memory) ∷ Reply 1 2 (said.Refused (cause.Undeclared 7)) ∷ []

each_item_has_its_reply : Answers 1 1 (item.Txn body ∷ item.Txn undeclared ∷ []) both
each_item_has_its_reply = (
  Reply 1 1 (said.Refused cause.Memory) ∷ [],
  said.Refused cause.Memory,
  Reply 1 2 (said.Refused (cause.Undeclared 7)) ∷ [],
  refl,
  ([], refl, tt, tt),
  (Reply 1 2 (said.Refused (cause.Undeclared 7)) ∷ [], said.Refused (cause.Undeclared 7), [], refl, ([], refl, tt, (refl, refl)), refl),
)

its_numbers_are_one_and_two : numbers_told 1 both ≡ 1 ∷ 2 ∷ []
its_numbers_are_one_and_two = refl

no_reply_is_too_few : Answers 1 1 (item.Txn body ∷ []) [] → ⊥
no_reply_is_too_few ([], o, [], e, (way, f, t, g), more) = by way f
  where
    by : (way : List Step) → [] ≡ way ++ Reply 1 1 o ∷ [] → ⊥
    by [] f = absurd (cc (f))
    by (x ∷ way) f = absurd (cc (f))
no_reply_is_too_few ([], o, x ∷ more, e, t, rest) = absurd (cc (e))
no_reply_is_too_few (x ∷ here, o, more, e, t, rest) = absurd (cc (e))
