use Rattle.std.proofs.Common.{◌∙◌, ap, sym}
use Rattle.dm_kept.proofs.Declaring.{runner_began}
use Rattle.dm_kept.specs.Ledger.{Ledger, past}
use Rattle.dm_model.specs.Runs.{last_begin}
use Rattle.dm_numbers.specs.declared.session.SessionNumbers.{SessionNumbers}
use Rattle.dm_kept.proofs.kept.telling.KeptTold.begin_vector.Goals as goal

pub returns : goal.returns
returns c =
    let kept = c.args.self.now in
    ap (λ (s : SessionNumbers). s.begin) (c.session.ensures ∙ c.self.invariant.numbers.session_is c.args.txn.session)
    ∙ ap (λ (k : Ledger). last_begin c.args.txn.session (past k)) c.self.view_is
    ∙ sym (runner_began kept.layout (past kept) c.is_legal.ensures.legal c.args.txn c.requires)
