use Rattle.std.proofs.Common.{Option, ap, ◌∙◌, arith}
use Rattle.std.specs.Prelude.{reverse}
use Rattle.dm_event.specs.declared.step.Entry.{Entry}
use Rattle.dm_event.specs.declared.step.Pending.{Pending}
use Rattle.dm_steps.specs.Adding.{kept_entry, of_origin}
use Rattle.dm_steps.proofs.Entries.{count_counted}
use Rattle.dm_plain.proofs.floors.entry_count_with_kept.Goals as goal

pub returns : goal.returns
returns c =
    let past = reverse c.args.steps.now in
    let one = c.is_of.ensures ∙ ap (λ (o : Option Entry). of_origin c.args.site o)
    (c.kept_entry.ensures ∙ ap (λ (o : Option Pending). kept_entry c.args.found o) c.pending_at.ensures) in
    let all = count_counted c.args.site c.args.site c.args.found past in
    let count = c.entry_count.ensures.exact in
    omega (arith, one, all, count)
