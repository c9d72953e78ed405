use Rattle.dm_record.specs.declared.record.Record.TheVariants.{Grant}
use Rattle.dm_record.proofs.encoding.encode_grant.Goals as goal

pub framed-requires : goal.framed-requires
framed-requires c = (Grant c.args.part c.args.epoch c.args.vector.now, (c.requires, c.in_ok-body.ensures.fits), c.in_ok-body.ensures.bytes)
