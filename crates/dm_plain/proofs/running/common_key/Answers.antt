use Rattle.std.proofs.Common.{sym, ◌∙◌}
use Rattle.std.proofs.Common.{get_or}
use Rattle.std.proofs.lemmas.Grind.{get_or_default_zero}
use Rattle.dm_model.specs.Tests.{is_among}
use Rattle.dm_steps.proofs.Finding.{find_on}
use Rattle.dm_plain.proofs.running.common_key.Goals as goal

pub loop-key-preserved : goal.loop-key-preserved
loop-key-preserved c =
    find_on (is_among c.args.others.now) c.args.keys.now c.loop-key.key-index (get_or c.args.keys.now c.loop-key.key-index 0) c.loop-key-test.true
    (sym (get_or_default_zero c.args.keys.now c.loop-key.key-index (get_or c.args.keys.now c.loop-key.key-index 0) c.loop-key-test.true))
    (sym c.is_among.ensures ∙ c.if-is_among.false)
    ∙ c.loop-key.invariant
