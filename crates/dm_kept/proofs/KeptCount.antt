-- What is found by the places of steps, and for how many steps room is kept, from how sessions and sites stand.
use Rattle.std.proofs.Common.{ℕ, ◌+◌, ◌-◌, ◌<◌, ◌^◌, ◌≡◌, List, ◌∷◌, Option, Vec, Global, length, sym, ◌∙◌, arith}
use Rattle.std.proofs.lemmas.List.{length-reverse}
use Rattle.std.specs.List.{range_with_len, sum_by}
use Rattle.std.specs.Prelude.{reverse}
use Rattle.dm_event.specs.Layout.{Layout}
use Rattle.dm_event.specs.declared.limits.TheConstants.{MAX_SESSIONS}
use Rattle.dm_event.specs.declared.step.Pending.{Pending}
use Rattle.dm_event.specs.declared.step.Step.{Step}
use Rattle.dm_index.specs.Places.{ArePlaces, Places}
use Rattle.dm_kept.specs.Finding.{Finds}
use Rattle.dm_model.specs.Allowed.{Allowed}
use Rattle.dm_model.specs.Attempts.{state}
use Rattle.dm_model.specs.Doubts.{is_down}
use Rattle.dm_model.specs.Legal.{LegalPast}
use Rattle.dm_numbers.specs.Counted.{AreNumbers, Counted, site_in}
use Rattle.dm_room.proofs.KeptNext.{kept_next}
use Rattle.dm_room.proofs.Needs.{need_is}
use Rattle.dm_room.specs.Room.{comes_off, comes_on, items_of, kept, need, runners, runs_there, unanswered}
use Rattle.dm_state.specs.Standings.{AreStates, Standings, attempt_in, replies_in}
use Rattle.dm_steps.specs.Pendings.{kept_of}

pub finds : (layout : Layout) (steps : List Step) (p : Places) → ArePlaces layout steps p → Finds steps p
finds layout steps p are = record { routes = are.routes.found; doubts = are.doubts.found; entries = are.entries.found }

-- what a step takes, as code finds it
abbrev pub off_by : Step → List ℕ → Standings → Option Pending → ℕ
off_by s items states left =
    comes_off s (λ session. items_of items session - replies_in states session) (λ session. (attempt_in states session).state)
    (λ site. sum_by (λ session. runs_there site (attempt_in states session).state) (range_with_len 1 MAX_SESSIONS)) left

module _ (layout : Layout) (items : List ℕ) (past : List Step) (legal : LegalPast layout past) (s : Step) (allowed : Allowed layout past s)
    (states : Standings) (are_states : AreStates layout past states) (numbers : Counted) (are_numbers : AreNumbers layout past numbers)
    (on off : ℕ) (left : Option Pending) (same : left ≡ kept_of s past)
    (on_is : on ≡ comes_on s (λ site. (site_in numbers site).down))
    (off_is : off ≡ off_by s items states left) where
  told_on : on ≡ comes_on s (λ site. is_down site past)
  told_on = on_is ∙ (λ i. comes_on s (λ site. (are_numbers.site_is site i).down))

  told_off : off ≡ comes_off s (λ session. unanswered items past session) (λ session. state session past) (λ site. runners site past) (kept_of s past)
  told_off = off_is ∙ (λ i. comes_off s (λ session. items_of items session - are_states.replies_of session i)
      (λ session. (are_states.attempt_of session i).state)
      (λ site. sum_by (λ session. runs_there site (are_states.attempt_of session i).state) (range_with_len 1 MAX_SESSIONS)) (same i))

  pub told_need : need layout items past s ≡ 1 + on - off
  told_need = need_is layout items past s (legal, allowed) ∙ (λ i. 1 + sym told_on i - sym told_off i)

  -- how many there are after the step
  pub told_kept : kept layout items (s ∷ past) + off ≡ kept layout items past + on
  told_kept = (λ i. kept layout items (s ∷ past) + told_off i) ∙ kept_next layout items past legal s allowed ∙ (λ i. kept layout items past + sym told_on i)

-- a list in memory has fewer steps than this
pub few_steps : (steps : Vec Step Global) → length (reverse steps.items) < 2 ^ 63
few_steps steps =
    let turned = length-reverse steps.items in
    let long = steps.ok.0 in
    let fits = steps.ok.1 in
    let small = steps.small in
    omega (arith, turned, long, fits, small)
