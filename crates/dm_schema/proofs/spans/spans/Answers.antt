use Rattle.std.proofs.lemmas.Result.{IfOk-weaker}
use Rattle.dm_schema.specs.Parts.{span_of, spans}
use Rattle.dm_schema.proofs.Each.{of_array}
use Rattle.dm_schema.proofs.spans.spans.Goals as goal

pub returns-in-Some : goal.returns-in-Some
unfolding spans
returns-in-Some c =
    IfOk-weaker c.all_spans.result _ _
    (λ found same. of_array span_of _ c.in-Some.items.now.items _ (rw c.in-Some.is at c.as_array.ensures) same) c.all_spans.ensures

pub returns-in-None : goal.returns-in-None
unfolding spans
returns-in-None c = rw (← rw c.in-None.is at c.as_array.ensures)
