use Rattle.std.proofs.Common.{◌∙◌, ap, subst, sym, ℕ}
use Rattle.dm_closing.proofs.Joins.{AreLeft, grew_on, next_pass, part_after}
use Rattle.dm_closing.proofs.closing.take_parts.Goals as goal

pub join-bundle-requires-clause-other : goal.join-bundle-requires-clause-other
join-bundle-requires-clause-other g c = (next_pass _ _ _ _ _ c.in-Some.ensures.items c.loop-pass.invariant.2).0

pub loop-pass-preserved : goal.loop-pass-preserved
loop-pass-preserved g c =
    let was = c.loop-pass.invariant in let e = c.join-bundle.ensures in
    let next = next_pass c.args.chron.now.table c.loop-pass.part c.loop-pass.passes.items c.pop.new.self.items c.in-Some.pass c.in-Some.ensures.items was.2 in (
      grew_on _ _ _ was.0 e.grew,
      e.rest ∙ was.1,
      subst (λ (n : ℕ). AreLeft c.args.chron.now.table n c.pop.new.self.items) (part_after c.loop-pass.part c.next_part-part.result c.next_part-part.ensures) next.1,
    )
