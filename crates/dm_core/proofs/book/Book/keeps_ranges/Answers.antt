use Rattle.std.proofs.Common.{arith, subst, sym}
use Rattle.std.specs.List.{AllByRecursion}
use Rattle.std.specs.Prelude.{IfSome}
use Rattle.dm_core.specs.Ledger.{Ledger, past}
use Rattle.dm_core.proofs.book.Book.keeps_ranges.Goals as goal
use Rattle.dm_event.specs.Layout.{Layout}
use Rattle.dm_frames.proofs.Ranges.{pending_in, records_in}
use Rattle.dm_frames.specs.Records.{pending_record, records_of}
use Rattle.dm_model.specs.Doubts.{pending_at}
use Rattle.dm_model.specs.Legal.{LegalPast}
use Rattle.dm_record.specs.Bytes.{IsInRange}

pub returns-clause-acts : goal.returns-clause-acts
returns-clause-acts c =
    let kept = c.self.inside.kept in
    subst (λ (b : Ledger). AllByRecursion IsInRange (records_of c.args.site (past b))) c.self.view_is
    (records_in c.schema-schema.result.now
    (omega (arith, c.sites-sites.ensures.same, c.sites-sites.ensures.limits.1))
    (omega (arith, c.parts-parts.ensures.same, c.parts-parts.ensures.limits.1))
    (omega (arith, c.width-width.ensures.same, c.width-width.ensures.limits.1))
    (past kept) (subst (λ (l : Layout). LegalPast l (past kept)) (sym c.schema-schema.ensures) c.is_legal.ensures.legal) c.args.site)

pub returns-clause-pending : goal.returns-clause-pending
returns-clause-pending c =
    let kept = c.self.inside.kept in
    subst (λ (b : Ledger). IfSome (pending_at c.args.site (past b)) (λ p. IsInRange (pending_record p))) c.self.view_is
    (pending_in c.schema-schema.result.now
    (omega (arith, c.sites-sites.ensures.same, c.sites-sites.ensures.limits.1))
    (omega (arith, c.parts-parts.ensures.same, c.parts-parts.ensures.limits.1))
    (omega (arith, c.width-width.ensures.same, c.width-width.ensures.limits.1))
    (past kept) (subst (λ (l : Layout). LegalPast l (past kept)) (sym c.schema-schema.ensures) c.is_legal.ensures.legal) c.args.site)
