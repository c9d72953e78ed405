-- What a further step adds to the moves.
use Rattle.std.proofs.Common.{ℕ, ◌+◌, ◌<◌, ◌≡◌, Bool, true, false, cond, eqb, List, [], ◌∷◌, ◌++◌, Option, Some, None, length, take, get_or, refl, ap, sym, ◌∙◌}
use Rattle.std.proofs.lemmas.List.{reverse-append, append-nil}
use Rattle.std.specs.List.{cons_option}
use Rattle.std.specs.Option.{option_or}
use Rattle.std.specs.Prelude.{reverse, option_map, option_to_list}
use Rattle.dm_event.specs.declared.step.Found.{Found}
use Rattle.dm_event.specs.declared.step.Found.TheVariants.{Clean, Kept, Lost}
use Rattle.dm_event.specs.declared.step.Pending.{Pending}
use Rattle.dm_event.specs.declared.step.Pending.TheVariants as pending
use Rattle.dm_event.specs.declared.step.Step.{Step}
use Rattle.dm_event.specs.declared.step.Step.TheVariants.{Grant, Restart}
use Rattle.dm_model.specs.Acts.{acts, acts_of}
use Rattle.dm_model.specs.Doubts.{step_of, pending_at}
use Rattle.dm_model.specs.Words.{latest}
use Rattle.dm_report.specs.declared.moves.Move.{Move}
use Rattle.dm_report.specs.Keeping.{kept_release, kept_move, where_kept}
use Rattle.dm_report.specs.Moves.{released_by, moved, moves_by}
use Rattle.dm_event.proofs.Backwards.{past_more}

-- ---- a Restart that keeps a release

released_pending : (p site : ℕ) (o : Option Pending) → kept_release p site Kept o ≡ latest (released_by p) (option_to_list (option_map (step_of site) o))
released_pending p site None = refl
released_pending p site (Some (pending.Commit e)) = refl
released_pending p site (Some (pending.Release part epoch to vector)) = by_test (eqb part p)
  where
    by_test : (b : Bool) → cond b (Some site) None ≡ option_or (cond b (Some site) None) None
    by_test true = refl
    by_test false = refl
released_pending p site (Some (pending.Grant part epoch vector)) = refl

released_found : (p site : ℕ) (vector : List ℕ) (found : Found) (past : List Step)
    → kept_release p site found (pending_at site past) ≡ latest (released_by p) (acts_of (Restart site vector found) past)
released_found p site vector Kept past = released_pending p site (pending_at site past)
released_found p site vector Clean past = refl
released_found p site vector Lost past = refl

-- it releases its partition
pub release_kept : (p : ℕ) (s : Step) (past : List Step) (site : ℕ) (vector : List ℕ) (found : Found) → s ≡ Restart site vector found
    → kept_release p site found (pending_at site past) ≡ latest (released_by p) (acts_of s past)
release_kept p s past site vector found e = released_found p site vector found past ∙ ap (λ (t : Step). latest (released_by p) (acts_of t past)) (sym e)

-- ---- a Restart that keeps a grant

moved_pending : (site : ℕ) (o : Option Pending) (before : List Step) → moves_by (option_to_list (option_map (step_of site) o) ++ before) ≡ cons_option
    (kept_move before site Kept o) (moves_by before)
moved_pending site None before = refl
moved_pending site (Some (pending.Commit e)) before = refl
moved_pending site (Some (pending.Release part epoch to vector)) before = refl
moved_pending site (Some (pending.Grant part epoch vector)) before = refl

moved_found : (site : ℕ) (vector : List ℕ) (found : Found) (past : List Step)
    → moves_by (acts (Restart site vector found ∷ past)) ≡ cons_option (kept_move (acts past) site found (pending_at site past)) (moves_by (acts past))
moved_found site vector Kept past = moved_pending site (pending_at site past) (acts past)
moved_found site vector Clean past = refl
moved_found site vector Lost past = refl

-- it moves its partition
pub move_kept : (s : Step) (past : List Step) (site : ℕ) (vector : List ℕ) (found : Found) → s ≡ Restart site vector found
    → moves_by (acts (s ∷ past)) ≡ cons_option (kept_move (acts past) site found (pending_at site past)) (moves_by (acts past))
move_kept s past site vector found e = ap (λ (t : Step). moves_by (acts (t ∷ past))) e ∙ moved_found site vector found past

-- a Grant moves its partition
pub move_granted : (s : Step) (past : List Step) (site part epoch : ℕ) (vector : List ℕ) → s ≡ Grant site part epoch vector
    → moves_by (acts (s ∷ past)) ≡ moved (acts past) site part epoch ∷ moves_by (acts past)
move_granted s past site part epoch vector e = ap (λ (t : Step). moves_by (acts (t ∷ past))) e

-- ---- one step more

reverse_with : (o : Option Move) (ms : List Move) → reverse (cons_option o ms) ≡ reverse ms ++ option_to_list o
reverse_with None ms = sym (append-nil (reverse ms))
reverse_with (Some m) ms = reverse-append (m ∷ []) ms

-- the moves of the steps up to a place
abbrev pub moves_to : List Step → ℕ → List Move
moves_to steps i = reverse (moves_by (acts (reverse (take i steps))))

module _ (steps : List Step) (i : ℕ) (s : Step) (o : Option Move) (h : i < length steps) (e : s ≡ get_or steps i s)
    (f : moves_by (acts (s ∷ reverse (take i steps))) ≡ cons_option o (moves_by (acts (reverse (take i steps))))) where
  moves_more : moves_to steps (i + 1) ≡ moves_to steps i ++ option_to_list o
  moves_more =
      ap (λ (past : List Step). reverse (moves_by (acts past))) (past_more steps i s h e)
      ∙ ap (λ (ms : List Move). reverse ms) f
      ∙ reverse_with o (moves_by (acts (reverse (take i steps))))

  -- the move that the step makes comes last
  pub moves_with : (m : Move) (old new : List Move) → o ≡ Some m → old ≡ moves_to steps i → new ≡ old ++ m ∷ [] → new ≡ moves_to steps (i + 1)
  moves_with m old new is before grown =
      grown
      ∙ ap (λ (ms : List Move). ms ++ m ∷ []) before
      ∙ ap (λ (r : Option Move). moves_to steps i ++ option_to_list r) (sym is)
      ∙ sym moves_more

  -- where it makes none, there are no more
  pub moves_without : (old : List Move) → o ≡ None → old ≡ moves_to steps i → old ≡ moves_to steps (i + 1)
  moves_without old is before =
      before
      ∙ sym (append-nil (moves_to steps i))
      ∙ ap (λ (r : Option Move). moves_to steps i ++ option_to_list r) (sym is)
      ∙ sym moves_more

-- what wasn't kept releases nothing and moves nothing
pub release_where_kept : (part site : ℕ) (found : Found) (o : Option Pending) → kept_release part site found (where_kept found o) ≡ kept_release part site found o
release_where_kept part site Kept o = refl
release_where_kept part site Clean o = refl
release_where_kept part site Lost o = refl

pub move_where_kept : (before : List Step) (site : ℕ) (found : Found) (o : Option Pending) → kept_move before site found (where_kept found o)
    ≡ kept_move before site found o
move_where_kept before site Kept o = refl
move_where_kept before site Clean o = refl
move_where_kept before site Lost o = refl
