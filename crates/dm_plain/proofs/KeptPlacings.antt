-- What a kept pending step makes of a placing.
use Rattle.std.proofs.Common.{ℕ, ◌≡◌, List, Option, Some, None, refl, ap, sym}
use Rattle.std.proofs.Common.{◌∙◌}
use Rattle.std.specs.Prelude.{option_map, option_to_list}
use Rattle.dm_event.specs.declared.placing.Placing.{Placing}
use Rattle.dm_event.specs.declared.step.Found.{Found}
use Rattle.dm_event.specs.declared.step.Found.TheVariants.{Clean, Kept, Lost}
use Rattle.dm_event.specs.declared.step.Pending.{Pending}
use Rattle.dm_event.specs.declared.step.Pending.TheVariants as pending
use Rattle.dm_event.specs.declared.step.Step.{Step}
use Rattle.dm_event.specs.declared.step.Step.TheVariants.{Restart}
use Rattle.dm_model.specs.Doubts.{step_of, pending_at}
use Rattle.dm_model.specs.Placings.{placed_by, after_acts}
use Rattle.dm_plain.specs.Adding.{kept_placing}

placed_pending : (p site : ℕ) (o : Option Pending) (now : Placing) → kept_placing p site Kept o now ≡ after_acts p
    (option_to_list (option_map (step_of site) o)) now
placed_pending p site None now = refl
placed_pending p site (Some (pending.Commit e)) now = refl
placed_pending p site (Some (pending.Release part epoch to vector)) now = refl
placed_pending p site (Some (pending.Grant part epoch vector)) now = refl

placed_found : (p site : ℕ) (vector : List ℕ) (found : Found) (past : List Step) (now : Placing)
    → kept_placing p site found (pending_at site past) now ≡ placed_by p (Restart site vector found) past now
placed_found p site vector Kept past now = placed_pending p site (pending_at site past) now
placed_found p site vector Clean past now = refl
placed_found p site vector Lost past now = refl

-- a Restart that keeps a release or a grant moves its partition
pub placing_kept : (p : ℕ) (s : Step) (past : List Step) (now : Placing) (site : ℕ) (vector : List ℕ) (found : Found) → s ≡ Restart site vector found
    → kept_placing p site found (pending_at site past) now ≡ placed_by p s past now
placing_kept p s past now site vector found e = placed_found p site vector found past now ∙ ap (λ (t : Step). placed_by p t past now) (sym e)
