use Rattle.std.proofs.Common.{Option, ap, ◌∙◌, arith}
use Rattle.dm_event.specs.declared.step.Entry.{Entry}
use Rattle.dm_event.specs.declared.step.Pending.{Pending}
use Rattle.dm_kept.specs.Ledger.{past}
use Rattle.dm_steps.proofs.Entries.{count_counted}
use Rattle.dm_steps.specs.Adding.{kept_entry, of_origin}
use Rattle.dm_kept.proofs.restarting.entry_count_with_kept.Goals as goal

pub returns : goal.returns
returns c =
    let one = c.is_of.ensures ∙ ap (λ (o : Option Entry). of_origin c.args.site o)
    (c.kept_entry.ensures ∙ ap (λ (o : Option Pending). kept_entry c.args.found o) c.pending.ensures) in
    let all = count_counted c.args.site c.args.site c.args.found (past c.args.kept.now) in
    let count = c.entry_count.ensures.exact in
    omega (arith, one, all, count)
