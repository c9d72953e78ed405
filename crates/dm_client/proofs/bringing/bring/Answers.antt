use Rattle.std.proofs.Common.{ℕ, sym, subst}
use Rattle.dm_client.proofs.Carrying.{wants_on}
use Rattle.dm_table.specs.Places.{WantsPart}
use Rattle.dm_client.proofs.bringing.bring.Goals as goal

pub bring_on-requires-clause-wants : goal.bring_on-requires-clause-wants
bring_on-requires-clause-wants g c t =
    let inv = c.loop.invariant in
    subst (λ (n : ℕ). WantsPart c.args.on n c.args.to c.loop.own) (sym inv.2)
    (wants_on c.args.on c.args.place.now.part c.args.to c.args.own.now c.loop.own inv.0 inv.1 (c.requires.wants t))
