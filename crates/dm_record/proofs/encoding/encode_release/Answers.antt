use Rattle.dm_record.specs.declared.record.Record.TheVariants.{Release}
use Rattle.dm_record.proofs.encoding.encode_release.Goals as goal

pub framed-requires : goal.framed-requires
framed-requires c = (Release c.args.part c.args.epoch c.args.to c.args.vector.now, (c.requires, c.in_ok-body.ensures.fits), c.in_ok-body.ensures.bytes)
