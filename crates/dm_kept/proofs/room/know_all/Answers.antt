use Rattle.std.proofs.Common.{arith, ℕ}
use Rattle.std.specs.Prelude.{IsTrue}
use Rattle.dm_kept.proofs.Ranges.{among_all}
use Rattle.dm_kept.proofs.room.know_all.Goals as goal
use Rattle.dm_model.specs.Tests.{is_among}

pub returns-clause-known : goal.returns-clause-known
returns-clause-known c =
    among_all (λ (k : ℕ). IsTrue (is_among c.loop-key.store.known k)) c.args.keys.now (λ j l. c.loop-key.invariant.all j (omega (arith, l)))
