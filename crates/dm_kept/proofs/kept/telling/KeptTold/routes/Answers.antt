use Rattle.std.proofs.Common.{◌≡◌, ◌∙◌, ap, arith}
use Rattle.dm_kept.proofs.Counts.{few_routes}
use Rattle.dm_kept.specs.Ledger.{Ledger, past}
use Rattle.dm_model.specs.Attempts.{routes}
use Rattle.dm_numbers.specs.declared.session.SessionNumbers.{SessionNumbers}
use Rattle.dm_kept.proofs.kept.telling.KeptTold.routes.Goals as goal

pub returns-clause-few : goal.returns-clause-few
returns-clause-few c =
    let exact : c.session.result.routes ≡ routes c.args.session (past c.args.self.now) =
    ap (λ (s : SessionNumbers). s.routes) (c.session.ensures ∙ c.self.invariant.numbers.session_is c.args.session)
    ∙ ap (λ (k : Ledger). routes c.args.session (past k)) c.self.view_is in
    let few = few_routes c.args.session (past c.args.self.now) in
    let memory = c.is_legal.ensures.few in
    omega (arith, exact, few, memory)
