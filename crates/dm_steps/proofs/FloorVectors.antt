-- What a further step adds to a floor.
use Rattle.std.proofs.Common.{ℕ, ◌≡◌, List, [], ◌∷◌, ◌++◌, Option, Some, None, refl, ◌∙◌}
use Rattle.std.specs.Prelude.{filter_map, option_map, option_to_list}
use Rattle.std.specs.List.{cons_option}
use Rattle.std.proofs.lemmas.List.Elements.{filter_map-append}
use Rattle.dm_event.specs.declared.step.Found.{Found}
use Rattle.dm_event.specs.declared.step.Found.TheVariants.{Clean, Kept, Lost}
use Rattle.dm_event.specs.declared.step.Pending.{Pending}
use Rattle.dm_event.specs.declared.step.Pending.TheVariants as pending
use Rattle.dm_event.specs.declared.step.Step.{Step}
use Rattle.dm_event.specs.declared.step.Step.TheVariants.{Route, Reply, Ask, Settle, Begin, Moved, Commit, End, Fail, Refresh, Release, Grant, Doubt, Restart}
use Rattle.dm_model.specs.Acts.{acts, acts_of}
use Rattle.dm_model.specs.Allowed.{with_kept}
use Rattle.dm_model.specs.Doubts.{step_of, pending_at}
use Rattle.dm_model.specs.Floors.{floor_vector, floor_vectors}
use Rattle.dm_steps.specs.Adding.{kept_floor, floor_by}

-- the vectors of the act of a kept step
kept_act : (i site : ℕ) (o : Option Pending) (vs : List (List ℕ)) → filter_map (floor_vector i) (option_to_list (option_map (step_of site) o))
    ++ vs ≡ cons_option (kept_floor i site Kept o) vs
kept_act i site None vs = refl
kept_act i site (Some (pending.Commit e)) vs = one (floor_vector i (Commit e)) vs
  where
    one : (o : Option (List ℕ)) (vs : List (List ℕ)) → cons_option o [] ++ vs ≡ cons_option o vs
    one None vs = refl
    one (Some v) vs = refl
kept_act i site (Some (pending.Release part epoch to vector)) vs = refl
kept_act i site (Some (pending.Grant part epoch vector)) vs = one (floor_vector i (Grant site part epoch vector)) vs
  where
    one : (o : Option (List ℕ)) (vs : List (List ℕ)) → cons_option o [] ++ vs ≡ cons_option o vs
    one None vs = refl
    one (Some v) vs = refl

pub floor_more : (i : ℕ) (s : Step) (past : List Step) → floor_vectors i (s ∷ past) ≡ cons_option (floor_by i s past) (floor_vectors i past)
floor_more i (Restart at vector Kept) past = filter_map-append (floor_vector i) (acts_of (Restart at vector Kept) past) (acts past)
    ∙ kept_act i at (pending_at at past) (floor_vectors i past)
floor_more i (Route txn want min at choice) past = refl
floor_more i (Reply session number said) past = refl
floor_more i (Ask part epoch to txn) past = refl
floor_more i (Settle part epoch) past = refl
floor_more i (Begin at txn begin) past = refl
floor_more i (Moved at txn) past = refl
floor_more i (Commit entry) past = refl
floor_more i (End at txn ops reads) past = refl
floor_more i (Fail at txn cause) past = refl
floor_more i (Refresh at origin) past = refl
floor_more i (Release at part epoch to vector) past = refl
floor_more i (Grant at part epoch vector) past = refl
floor_more i (Doubt at q) past = refl
floor_more i (Restart at vector Clean) past = refl
floor_more i (Restart at vector Lost) past = refl

-- the same of a Restart's past, with the kept step counted
pub floor_counted : (i site : ℕ) (found : Found) (past : List Step) → floor_vectors i (with_kept site found past) ≡ cons_option
    (kept_floor i site found (pending_at site past)) (floor_vectors i past)
floor_counted i site Clean past = refl
floor_counted i site Lost past = refl
floor_counted i site Kept past = by_kept (pending_at site past)
  where
    by_kept : (o : Option Pending) → floor_vectors i (option_to_list (option_map (step_of site) o) ++ past) ≡ cons_option (kept_floor i site Kept o)
        (floor_vectors i past)
    by_kept None = refl
    by_kept (Some (pending.Commit e)) = refl
    by_kept (Some (pending.Release part epoch to vector)) = refl
    by_kept (Some (pending.Grant part epoch vector)) = refl
