use Rattle.std.proofs.Common.{◌∙◌, subst, List, ℕ}
use Rattle.std.specs.Prelude.{Option, Ok, Err}
use Rattle.dm_logdisk.specs.Story.{Story, Both}
use Rattle.dm_logdisk.specs.declared.disk.Failed.{Failed}
use Rattle.dm_redo.specs.Tidying.{Tidies}
use Rattle.dm_redo.specs.Finding.{Has}
use Rattle.dm_redo.proofs.Finding.{loaded, failed}
use Rattle.dm_redo.proofs.loading.read_log.Goals as goal

pub returns-in-Ok-tidy-clause-loads : goal.returns-in-Ok-tidy-clause-loads
returns-in-Ok-tidy-clause-loads g c =
    let gate = c.in-Ok-find_end.found.1 in
    let recs = c.in-Ok-find_end.found.0.items in
    let same = c.in-Ok-room.ensures.same ∙ c.in-Ok.ensures.same in
    let tidies = subst (λ (o : Option Story). Both (Tidies {E = Failed} gate (Ok tt)) o (g.D.LogDisk.story c.tidy.new.disk)) same c.in-Ok-tidy.ensures.story in
    loaded gate recs c.in-Ok.bytes.items (subst (λ (b : List ℕ). Has b gate recs) c.deref.ensures.value c.in-Ok-find_end.ensures.ok) Failed
    (g.D.LogDisk.story c.args.disk.now) (g.D.LogDisk.story c.tidy.new.disk) c.in-Ok.ensures.told tidies

pub returns-clause-crash : goal.returns-clause-crash
returns-clause-crash g c =
    let gate = c.in-Ok-find_end.found.1 in
    let recs = c.in-Ok-find_end.found.0.items in
    let same = c.in-Ok-room.ensures.same ∙ c.in-Ok.ensures.same in
    let tidies = subst (λ (o : Option Story). Both (Tidies {E = Failed} gate (Err c.in-Err-tidy.field-0)) o (g.D.LogDisk.story c.tidy.new.disk)) same
    c.in-Err-tidy.ensures.story in
    failed gate recs c.in-Ok.bytes.items (subst (λ (b : List ℕ). Has b gate recs) c.deref.ensures.value c.in-Ok-find_end.ensures.ok) {E = Failed}
    (Err c.in-Err-tidy.field-0)
    (g.D.LogDisk.story c.args.disk.now) (g.D.LogDisk.story c.tidy.new.disk) c.in-Ok.ensures.told tidies
