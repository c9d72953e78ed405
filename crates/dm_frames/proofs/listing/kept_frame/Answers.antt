use Rattle.std.proofs.Common.{Some, ap}
use Rattle.std.specs.Option.{option_copied}
use Rattle.dm_frames.proofs.Adding.{given_each, act_each}
use Rattle.dm_frames.proofs.listing.kept_frame.Goals as goal
use Rattle.dm_frames.specs.Records.{record_of, pending_record}
use Rattle.dm_model.specs.Doubts.{step_of}
use Rattle.dm_record.specs.Bytes.{IsInRange}

pub pending_frame-requires : goal.pending_frame-requires
pending_frame-requires c =
    act_each IsInRange (record_of c.args.site (step_of c.args.at c.in-Some.pending.now)) c.is_act_of.result (pending_record c.in-Some.pending.now)
    c.is_act_of.ensures c.if-is_act_of.true
    (given_each IsInRange c.args.site c.args.at (option_copied c.args.pending) (Some c.in-Some.pending.now) (ap (λ o. option_copied o) c.in-Some.is) c.requires)
