use Rattle.std.proofs.Common.{Option, Some, None, Vec, Global, ap, sym, ◌∙◌}
use Rattle.std.specs.Prelude.{option_to_list}
use Rattle.std.proofs.lemmas.List.{append-nil}
use Rattle.dm_frames.proofs.Adding.{each_more, step_each, frames_more}
use Rattle.dm_record.specs.Bytes.{HasRanges, IsInRange}
use Rattle.dm_record.specs.declared.encoding.Frame.{Frame}
use Rattle.dm_frames.proofs.listing.frames.Goals as goal
use Rattle.dm_frames.proofs.listing.frames.Goals.{in-Some+in_ok-push, in_default}

pub frame_by-requires : goal.frame_by-requires
frame_by-requires c = step_each c.args.site c.args.steps.now c.loop-i.i c.index-steps-i.result c.loop-i-test.true c.index-steps-i.is IsInRange c.requires

pub loop-i-preserved : goal.loop-i-preserved
loop-i-preserved c =
    let ranges = each_more c.args.site c.args.steps.now c.loop-i.i c.index-steps-i.result c.loop-i-test.true c.index-steps-i.is HasRanges
    c.loop-i.invariant.1 c.in_ok-frame.ensures.ranges in
    elim c.match-branch-2.branch [
      | in-Some+in_ok-push w ↦ (
        ap (λ (v : Vec Frame Global). v.items) w.frames-is
            ∙ w.in_ok-push.ensures.items
            ∙ frames_more c.args.site c.args.steps.now c.loop-i.i c.index-steps-i.result c.loop-i-test.true c.index-steps-i.is c.loop-i.frames.items
            (Some w.in-Some.frame) c.loop-i.invariant.0
            (ap (λ (o : Option Frame). option_to_list o) (sym w.in-Some.is) ∙ c.in_ok-frame.ensures.frame),
        ranges,
      )
      | in_default w ↦ (
        ap (λ (v : Vec Frame Global). v.items) w.frames-is
            ∙ sym (append-nil c.loop-i.frames.items)
            ∙ frames_more c.args.site c.args.steps.now c.loop-i.i c.index-steps-i.result c.loop-i-test.true c.index-steps-i.is c.loop-i.frames.items None
            c.loop-i.invariant.0
            (ap (λ (o : Option Frame). option_to_list o) (sym w.in_default.is) ∙ c.in_ok-frame.ensures.frame),
        ranges,
      )
    ]
