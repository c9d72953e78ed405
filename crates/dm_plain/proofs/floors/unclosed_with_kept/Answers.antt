use Rattle.std.proofs.Common.{ℕ, Option, ap, sym, ◌∙◌}
use Rattle.std.specs.Prelude.{reverse, option_map}
use Rattle.std.specs.Option.{option_or}
use Rattle.dm_event.specs.declared.step.Entry.{Entry}
use Rattle.dm_event.specs.declared.step.Pending.{Pending}
use Rattle.dm_model.specs.Acts.{entries}
use Rattle.dm_model.specs.Closed.{unclosed}
use Rattle.dm_steps.specs.Adding.{kept_entry, unclosed_one}
use Rattle.dm_steps.proofs.Entries.{named, unclosed_counted}
use Rattle.dm_plain.proofs.floors.unclosed_with_kept.Goals as goal

pub returns : goal.returns
returns c =
    let v = c.args.vector.now in
    let past = reverse c.args.steps.now in
    c.or.ensures
    ∙ ap (λ (o : Option (ℕ × ℕ)). option_or o c.unclosed_one.result) c.unclosed.ensures
    ∙ ap (λ (o : Option (ℕ × ℕ)). option_or (option_map named (unclosed v (reverse (entries past)))) o)
    (c.unclosed_one.ensures ∙ ap (λ (o : Option Entry). unclosed_one v o)
    (c.kept_entry-entry.ensures ∙ ap (λ (o : Option Pending). kept_entry c.args.found o) c.pending_at.ensures))
    ∙ sym (unclosed_counted v c.args.site c.args.found past)
