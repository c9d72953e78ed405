use Rattle.std.proofs.Common.{Option, ap, ◌∙◌}
use Rattle.std.specs.Prelude.{reverse, option_to_list}
use Rattle.dm_event.specs.declared.step.Entry.{Entry}
use Rattle.dm_event.specs.declared.step.Pending.{Pending}
use Rattle.dm_steps.specs.Adding.{kept_entry}
use Rattle.dm_steps.proofs.Entries.{entry_kept}
use Rattle.dm_plain.proofs.acts.entry_of.Goals as goal

pub returns-in-Restart : goal.returns-in-Restart
returns-in-Restart c =
    ap (λ (o : Option Entry). option_to_list o) (c.kept_entry.ensures ∙ ap (λ (o : Option Pending). kept_entry c.in-Restart.found o) c.pending_at.ensures)
    ∙ entry_kept c.args.step.now (reverse c.args.before.now) c.in-Restart.site c.in-Restart.vector c.in-Restart.found c.in-Restart.is
