use Rattle.std.proofs.Common.{sym, ◌∙◌}
use Rattle.std.proofs.lemmas.Bool.{both_ways}
use Rattle.dm_model.specs.Bodies.{body}
use Rattle.dm_body.proofs.WriteLists.{same_by, ascends_is, writes_are, writes_rise, writes_have, writes_own}
use Rattle.dm_body.proofs.fitting.writes_fit.Goals as goal
use Rattle.dm_body.proofs.fitting.writes_fit.Goals.{then-ascends, else-ascends}

-- the pairs ascend and have each key: the last test decides
pub returns-then-has_each_key-clause-fits : goal.returns-then-has_each_key-clause-fits
returns-then-has_each_key-clause-fits g c =
    let f = g.V.View.values c.args.view.now in
    let ops = c.args.ops.now in
    let writes = c.args.writes.now in
    elim c.if-ascends.branch [
      | then-ascends w ↦ same_by c.each_is_own.result writes (body ops f).writes
          (λ own. writes_are f ops writes ((ascends_is c.ascends.result writes c.ascends.ensures).0 w.if-ascends.true)
          (sym w.has_each_key.ensures ∙ sym w.value-is ∙ c.if-has_each_key.true) (sym c.each_is_own.ensures.own ∙ own))
          (λ e. c.each_is_own.ensures.own ∙ writes_own f ops writes e)
      | else-ascends w ↦ absurd (both_ways c.ascends.result w.if-ascends.false (sym w.value-is ∙ c.if-has_each_key.true))
    ]

-- one of the first two fails
pub returns-else-has_each_key-clause-fits : goal.returns-else-has_each_key-clause-fits
returns-else-has_each_key-clause-fits g c =
    let f = g.V.View.values c.args.view.now in
    let ops = c.args.ops.now in
    let writes = c.args.writes.now in
    same_by c.if-ascends.value writes (body ops f).writes (λ h. absurd (both_ways c.if-ascends.value c.if-has_each_key.false h))
    (λ e. elim c.if-ascends.branch [
      | then-ascends w ↦ w.value-is ∙ w.has_each_key.ensures ∙ writes_have f ops writes e
      | else-ascends w ↦ w.value-is ∙ (ascends_is c.ascends.result writes c.ascends.ensures).1 (writes_rise f ops writes e)
    ])
