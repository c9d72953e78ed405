use Rattle.std.proofs.Common.{arith, ◌≡◌, length}
use Rattle.std.proofs.lemmas.Grind.{same_number_lists}
use Rattle.dm_kinds.proofs.Vectors.{sized_same}
use Rattle.dm_kinds.proofs.vector.sized.Goals as goal

pub returns : goal.returns
returns c =
    let size : length c.args.numbers.now ≡ c.args.schema.now.sites = omega (arith, c.sites-sites.ensures.same, c.from.ensures) in
    let all : length c.args.numbers.now ≡ c.loop-i.i = omega arith in
    sized_same c.args.schema.now c.loop-i.vector c.args.numbers.now size
    (same_number_lists c.loop-i.vector c.args.numbers.now c.loop-i.invariant.size (λ k lt. c.loop-i.invariant.set k (omega (arith, lt, c.loop-i.invariant.size))))
