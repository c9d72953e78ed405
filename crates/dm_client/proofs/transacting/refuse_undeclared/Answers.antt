use Rattle.std.proofs.Common.{sym}
use Rattle.dm_client.proofs.Answering.{undeclared_key}
use Rattle.dm_invariant.specs.Stations.{layout_of}
use Rattle.dm_client.proofs.transacting.refuse_undeclared.Goals as goal

pub reply-requires-clause-fits : goal.reply-requires-clause-fits
reply-requires-clause-fits g c =
    undeclared_key (layout_of c.args.session.pass) c.args.body.now.declared c.args.body.now.ops c.args.key c.requires.keys (sym c.requires.undeclared)
