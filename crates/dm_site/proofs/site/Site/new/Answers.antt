use Rattle.std.proofs.Common.{◌≤◌, sym, ap, ◌∙◌, subst}
use Rattle.std.specs.Prelude.{IfSome, []}
use Rattle.dm_event.specs.Vectors.{at}
use Rattle.dm_redo.specs.Holding.{IsAt, IsFirm}
use Rattle.dm_redo.specs.Log.{Log}
use Rattle.dm_store.specs.Contents.{Contents}
use Rattle.dm_site.proofs.Opening.{opens_site}
use Rattle.dm_invariant.specs.Keeping.{parts_of}
use Rattle.dm_site.proofs.site.Site.new.Goals as goal

pub invariant_of-result : goal.invariant_of-result
invariant_of-result g c =
    let r = c.requires in
    let d = c.new-3 in
    let story = g.D.LogDisk.story in
    opens_site _ _ _ _ _ (parts_of story g.D.LogDisk.faults d.result.store d.result.locks d.result.log) r.table r.actors r.opening r.schema r.there
    (ap (λ (s : Contents). s.layout) d.ensures.store ∙ c.in-Ok.ensures.layout)
    (ap (λ (s : Contents). s.installed) d.ensures.store ∙ c.in-Ok.ensures.installed)
    (d.ensures.locks ∙ c.in-Ok-new.ensures)
    (subst (λ (log : Log _). IfSome (story log.disk) (λ s. IsAt [] log.gate s × IsFirm [] s)) (sym d.ensures.log) r.empty)
    (subst (λ (log : Log _). at g.N.Named.faults c.args.number ≤ g.D.LogDisk.faults log.disk) (sym d.ensures.log) r.faults)
