use Rattle.std.proofs.Common.{ℕ, Option, Some, ap, sym, ◌∙◌}
use Rattle.std.specs.Option.{option_eq}
use Rattle.std.specs.Prelude.{eqb}
use Rattle.dm_kept.proofs.Aimed.{last_among}
use Rattle.dm_kept.specs.Ledger.{past}
use Rattle.dm_kept.proofs.kept.telling.KeptTold.stood_settled.Goals as goal

pub returns-then-eq : goal.returns-then-eq
returns-then-eq c =
    let kept = c.args.self.now in
    sym (last_among kept.layout (past kept) c.args.session c.args.site c.args.part c.args.epoch
    (sym (c.eq.ensures ∙ ap (λ (o : Option ℕ). option_eq eqb o (Some c.args.epoch)) c.last_settled.ensures) ∙ c.if-eq.true))
