use Rattle.std.proofs.Common.{arith}
use Rattle.dm_event.proofs.Components.{joined_fields}
use Rattle.dm_event.proofs.vector.Vector.join.Goals as goal

pub returns : goal.returns
returns c =
    joined_fields c.self.inside.count c.other.inside.count c.loop-i.self-inside.count c.self.inside.parts c.other.inside.parts c.loop-i.self-inside.parts
    c.args.self.now c.args.other.now
    c.self.view_is c.other.view_is c.requires c.self.invariant.1 c.other.invariant.1 c.self.invariant.0 c.other.invariant.0 c.loop-i.invariant.eight
    c.loop-i.invariant.count (λ k h. c.loop-i.invariant.done k (omega (arith, h)))
