use Rattle.std.proofs.Common.{ℕ, List, ap, ◌∙◌}
use Rattle.std.specs.List.{list_all}
use Rattle.dm_event.specs.Layout.{is_key}
use Rattle.dm_steps.proofs.Legality.{declared_in}
use Rattle.dm_clauses.proofs.judging.begin_why.Goals as goal

pub elsewhere-requires : goal.elsewhere-requires
elsewhere-requires g c =
    ap (λ (l : List ℕ). list_all (is_key (g.T.Told.layout c.args.told.now)) l) c.declared-keys.ensures
    ∙ declared_in (g.T.Told.layout c.args.told.now) (g.T.Told.past c.args.told.now) c.is_legal.ensures.legal c.args.txn
