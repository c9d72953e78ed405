use Rattle.std.proofs.Common.{◌≡◌, ap, ◌∙◌, rules}
use Rattle.dm_event.specs.declared.step.Found.{Found}
use Rattle.dm_event.specs.declared.step.Found.TheVariants.{Kept}
use Rattle.dm_event.specs.declared.step.Step.TheVariants.{Restart}
use Rattle.std.specs.Prelude.{reverse}
use Rattle.std.specs.Option.{option_copied}
use Rattle.dm_frames.proofs.Adding.{kept_each}
use Rattle.dm_frames.proofs.listing.frame_by.Goals as goal
use Rattle.dm_record.specs.Bytes.{IsInRange}

pub kept_frame-requires : goal.kept_frame-requires
kept_frame-requires c =
    let kept : c.in-Restart-default-default-Kept.found ≡ Kept = search (rules, c.in-Restart-default-default-Kept.found-is) in
    kept_each IsInRange c.args.site c.in-Restart-default-default-Kept.at c.in-Restart-default-default-Kept.vector c.args.step.now (reverse c.args.before.now)
    (option_copied c.pending_at.result)
    (c.in-Restart-default-default-Kept.is
    ∙ ap (λ (f : Found). Restart c.in-Restart-default-default-Kept.at c.in-Restart-default-default-Kept.vector f) kept)
    c.pending_at.ensures c.requires
