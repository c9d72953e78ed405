use Rattle.std.proofs.Common.{arith, refl}
use Rattle.dm_event.proofs.Components.{at_most_from, not_at_most}
use Rattle.dm_event.proofs.vector.Vector.leq.Goals as goal

pub returns-then-other-i : goal.returns-then-other-i
returns-then-other-i c = (
  λ h. absurd (cc (h)),
  λ h. absurd (not_at_most c.self.inside.count c.other.inside.count c.self.inside.parts c.other.inside.parts c.self.invariant.2 c.other.invariant.2 c.loop-i.i
      c.if-other-i.true
      (rw (c.self.view_is, c.other.view_is) h)),
)

pub returns : goal.returns
returns c = (
  λ h. rw (← c.self.view_is, ← c.other.view_is) (at_most_from c.self.inside.count c.other.inside.count c.self.inside.parts c.other.inside.parts
      c.self.invariant.2 c.other.invariant.2 c.self.invariant.0
      (λ k l. c.loop-i.invariant k (omega (arith, l)))),
  λ h. refl,
)
