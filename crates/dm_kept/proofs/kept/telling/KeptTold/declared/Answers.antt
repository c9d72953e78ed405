use Rattle.std.proofs.Common.{◌∙◌, sym}
use Rattle.dm_kept.proofs.Declaring.{current_declares}
use Rattle.dm_kept.specs.Ledger.{past}
use Rattle.dm_kept.proofs.kept.telling.KeptTold.declared.Goals as goal

pub returns : goal.returns
returns c =
    let kept = c.args.self.now in
    c.last_keys.ensures ∙ sym (current_declares kept.layout (past kept) c.is_legal.ensures.legal c.args.txn c.requires)
