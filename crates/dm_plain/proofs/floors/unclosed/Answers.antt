use Rattle.std.proofs.Common.{ℕ, Option, ap, sym, ◌∙◌, take}
use Rattle.std.specs.Prelude.{reverse, option_map, option_copied}
use Rattle.std.specs.Option.{option_or}
use Rattle.dm_model.specs.Acts.{entries}
use Rattle.dm_model.specs.Closed.{unclosed}
use Rattle.dm_steps.proofs.Entries.{named}
use Rattle.dm_plain.proofs.Entries.{unclosed_after}
use Rattle.dm_plain.proofs.floors.unclosed.Goals as goal

pub loop-i-preserved : goal.loop-i-preserved
loop-i-preserved c =
    let v = c.args.vector.now in
    let steps = c.args.steps.now in
    let i = c.loop-i.i in
    c.or-found.ensures
    ∙ ap (λ (o : Option (ℕ × ℕ)). option_or o c.unclosed_one.result) c.loop-i.invariant
    ∙ ap (λ (o : Option (ℕ × ℕ)). option_or (option_map named (unclosed v (reverse (entries (reverse (take i steps)))))) o) c.unclosed_one.ensures
    ∙ sym (unclosed_after steps i c.index-steps-i.result (option_copied c.entry_of.result) c.loop-i-test.true c.index-steps-i.is c.entry_of.ensures v)
