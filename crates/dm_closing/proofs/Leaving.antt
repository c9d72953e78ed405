-- What a site leaves stays so in every longer history without a further step of it.
use Rattle.std.proofs.Common.{◌≡◌, ℕ, false, List, ◌∷◌, Option, None, Some, map, refl, sym, ap, ◌∙◌, subst}
use Rattle.std.specs.Prelude.{reverse, IfSome, IsFalse}
use mathlib.Core.List.{IsPrefix}
use Rattle.atomic_table.specs.Seated.{TableId}
use Rattle.dm_chronicle.specs.Belongs.{belongs}
use Rattle.dm_closing.specs.Closed.{LeftSo}
use Rattle.dm_event.specs.Actors.{actors}
use Rattle.dm_event.specs.Layout.{Layout}
use Rattle.dm_event.specs.Vectors.{at}
use Rattle.dm_event.specs.declared.actor.Actor.TheVariants.{Site}
use Rattle.dm_event.specs.declared.step.Cause.TheVariants as cause
use Rattle.dm_event.specs.declared.step.Found.TheVariants.{Clean}
use Rattle.dm_event.specs.declared.step.Step.{Step}
use Rattle.dm_event.specs.declared.step.Step.TheVariants.{Fail, Restart}
use Rattle.dm_frames.specs.Records.{frames_of, record_of, records_of}
use Rattle.dm_invariant.proofs.Staying.{LeavesLog, caused_same, log_other}
use Rattle.dm_invariant.specs.Causes.{Caused, HasCause}
use Rattle.dm_invariant.specs.Stations.{View, own}
use Rattle.dm_logdisk.specs.Story.{EachImage, Story}
use Rattle.dm_model.specs.Doubts.{is_down}
use Rattle.dm_model.specs.Legal.{Legal, LegalPast}
use Rattle.dm_others.proofs.Growing.{grown}
use Rattle.dm_others.proofs.Others.{other_site}
use Rattle.dm_record.specs.Bytes.{frame_of}
use Rattle.dm_record.specs.declared.record.Record.{Record}
use Rattle.dm_redo.specs.Holding.{Holds}
use Rattle.dm_site.specs.Leaving.{Leaves}

-- the site's causes say nothing of a step of another
none_due : (site : ℕ) (told : Option Story) (past : List Step) (x : Step) → belongs actors x (Site site) ≡ false → HasCause site told x past
none_due site told past (Fail at txn (cause.Damage of place read written)) b = λ e. absurd (other_site site at _ b e)
none_due site told past (Restart at vector Clean) b = λ e. absurd (other_site site at _ b e)
none_due site told past other b = tt

module _ (opened : List ℕ) (site : ℕ) (told : Option Story) (faults : ℕ) where
  -- it holds after the past
  record Left (past : List Step) : Type 0 where
    held : IsFalse (is_down site past) → IfSome told (EachImage (Holds (frames_of site past)))
    caused : Caused (at opened site) site past told faults

  other_leaves : (layout : Layout) (past : List Step) (x : Step) → LegalPast layout (x ∷ past) → belongs actors x (Site site) ≡ false → Left past
      → Left (x ∷ past)
  other_leaves layout past x l b h =
      let same = log_other layout opened site past x l b in
      let frames : frames_of site (x ∷ past) ≡ frames_of site past = ap (λ (rs : List Record). map frame_of rs) same.records in
      record {
        held = λ up. subst (λ (fs : List (List ℕ)). IfSome told (EachImage (Holds fs))) (sym frames) (h.held (sym same.down ∙ up));
        caused = caused_same site past x same (at opened site) told faults (none_due site told past x b) h.caused;
      }

  pub left_on : (table : TableId) (layout : Layout) (pass : View) (history : List Step) → Leaves table opened site pass told faults → Legal layout history
      → IsPrefix pass.seen history → own (Site site) history ≡ own (Site site) pass.seen → LeftSo opened site history told faults
  left_on table layout pass history l legal begins same =
      let h = grown layout (Site site) Left (λ past x k b p. other_leaves layout past x k b p) pass.seen history begins same legal
      (record { held = l.held; caused = l.caused }) in
      record { held = h.held; caused = h.caused }
