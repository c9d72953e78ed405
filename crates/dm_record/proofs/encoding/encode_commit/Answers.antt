use Rattle.dm_record.specs.declared.record.Record.TheVariants.{Commit}
use Rattle.dm_record.proofs.encoding.encode_commit.Goals as goal

pub framed-requires : goal.framed-requires
framed-requires c = (Commit c.args.txn c.args.seq c.args.begin.now c.args.writes.now, (c.requires, c.in_ok-body.ensures.fits), c.in_ok-body.ensures.bytes)
