use Rattle.std.proofs.Common.{sym, ◌∙◌, ap, subst, List, ℕ}
use Rattle.std.specs.Prelude.{Option, Ok, Err}
use Rattle.dm_logdisk.specs.Story.{Story, Both}
use Rattle.dm_logdisk.specs.declared.disk.Failed.{Failed}
use Rattle.dm_redo.specs.Holding.{framed}
use Rattle.dm_redo.specs.Comparing.{compared}
use Rattle.dm_redo.specs.Settling.{Firms}
use Rattle.dm_redo.specs.Finding.{Has}
use Rattle.dm_redo.proofs.Againsts.{firm_keeps, firm_stands, records_so}
use Rattle.dm_redo.proofs.loading.against.Goals as goal

pub returns-in-Ok-firm-clause-keeps : goal.returns-in-Ok-firm-clause-keeps
returns-in-Ok-firm-clause-keeps g c =
    let same = c.in-Ok-room.ensures.same ∙ c.in-Ok.ensures.same in
    let due = ap (compared (framed c.args.written.now) _) (sym c.deref.ensures.value) ∙ c.in-Ok-compare.ensures.ok in
    let firms = subst (λ (o : Option Story). Both (Firms {E = Failed} c.in-Ok-compare.found.1 (Ok tt)) o (g.D.LogDisk.story c.firm.new.disk)) same
    c.in-Ok-firm.ensures.story in
    firm_keeps c.args.written.now _ c.in-Ok.bytes.items c.in-Ok-compare.found.0 c.in-Ok-compare.found.1 due c.in-Ok-compare.ensures.gate {E =
    Failed} (Ok tt) (g.D.LogDisk.story c.args.disk.now) (g.D.LogDisk.story c.firm.new.disk) c.in-Ok.ensures.told firms

pub returns-in-Ok-firm-clause-stands : goal.returns-in-Ok-firm-clause-stands
returns-in-Ok-firm-clause-stands g c =
    let same = c.in-Ok-room.ensures.same ∙ c.in-Ok.ensures.same in
    let due = ap (compared (framed c.args.written.now) _) (sym c.deref.ensures.value) ∙ c.in-Ok-compare.ensures.ok in
    let firms = subst (λ (o : Option Story). Both (Firms {E = Failed} c.in-Ok-compare.found.1 (Ok tt)) o (g.D.LogDisk.story c.firm.new.disk)) same
    c.in-Ok-firm.ensures.story in
    firm_stands c.args.written.now _ c.in-Ok.bytes.items c.in-Ok-compare.found.0 c.in-Ok-compare.found.1 due c.in-Ok-compare.ensures.gate Failed
    (g.D.LogDisk.story c.args.disk.now) (g.D.LogDisk.story c.firm.new.disk) c.in-Ok.ensures.told firms

pub returns-clause-keeps : goal.returns-clause-keeps
returns-clause-keeps g c =
    let same = c.in-Ok-room.ensures.same ∙ c.in-Ok.ensures.same in
    let due = ap (compared (framed c.args.written.now) _) (sym c.deref.ensures.value) ∙ c.in-Ok-compare.ensures.ok in
    let firms = subst (λ (o : Option Story). Both (Firms {E = Failed} c.in-Ok-compare.found.1 (Err c.in-Err-firm.field-0)) o
    (g.D.LogDisk.story c.firm.new.disk)) same c.in-Err-firm.ensures.story in
    firm_keeps c.args.written.now _ c.in-Ok.bytes.items c.in-Ok-compare.found.0 c.in-Ok-compare.found.1 due c.in-Ok-compare.ensures.gate {E =
    Failed} (Err c.in-Err-firm.field-0) (g.D.LogDisk.story c.args.disk.now) (g.D.LogDisk.story c.firm.new.disk) c.in-Ok.ensures.told firms

pub returns-in-Ok-firm-clause-records : goal.returns-in-Ok-firm-clause-records
returns-in-Ok-firm-clause-records g c =
    let due = ap (compared (framed c.args.written.now) _) (sym c.deref.ensures.value) ∙ c.in-Ok-compare.ensures.ok in
    let records = c.in-Ok-find_end.records.items in
    let gate = c.in-Ok-find_end.field-0-1 in
    records_so c.args.written.now _ c.in-Ok.bytes.items c.in-Ok-compare.found.0 c.in-Ok-compare.found.1 due c.in-Ok-compare.ensures.gate
    c.in-Ok-compare.ensures.frames gate records (subst (λ (b : List ℕ). Has b gate records) c.deref-2.ensures.value c.in-Ok-find_end.ensures.ok)
