use Rattle.std.proofs.lemmas.Result.{IfOk-weaker}
use Rattle.toml.specs.Data.{as_integer}
use Rattle.dm_schema.specs.Parts.{integers}
use Rattle.dm_schema.proofs.Each.{of_array}
use Rattle.dm_schema.proofs.parts.integers.Goals as goal

pub returns-in-Some : goal.returns-in-Some
unfolding integers
returns-in-Some c =
    IfOk-weaker c.all_integers.result _ _
    (λ found same. of_array as_integer _ c.in-Some.items.now.items _ (rw c.in-Some.is at c.as_array.ensures) same) c.all_integers.ensures

pub returns-in-None : goal.returns-in-None
unfolding integers
returns-in-None c = rw (← rw c.in-None.is at c.as_array.ensures)
