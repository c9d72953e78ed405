use Rattle.std.proofs.Common.{ℕ, List, ◌≡◌, sym, ap, arith, length}
use Rattle.std.specs.Prelude.{nat_lt}
use Rattle.std.proofs.lemmas.Bool.{le-ltb, lt-ltb}
use Rattle.dm_event.specs.Vectors.{at}
use Rattle.dm_event.proofs.Sites.{find_first, find_nothing}
use Rattle.dm_event.proofs.vector.Vector.first_above.Goals as goal

pub returns-then-get : goal.returns-then-get
returns-then-get c =
    let long : length c.as_slice.result.now ≡ length c.args.self.now = ap (λ (l : List ℕ). length l) c.as_slice.ensures.same in
    sym (find_first (λ site. nat_lt (at c.args.other.now site) (at c.args.self.now site)) 1 (length c.args.self.now) c.loop-site.site (omega arith)
    (omega (arith, long))
    (lt-ltb (at c.args.other.now c.loop-site.site) (at c.args.self.now c.loop-site.site) (omega arith))
    (λ j x y. le-ltb (at c.args.other.now j) (at c.args.self.now j) (c.loop-site.invariant j x y)))

pub returns : goal.returns
returns c =
    let long : length c.as_slice.result.now ≡ length c.args.self.now = ap (λ (l : List ℕ). length l) c.as_slice.ensures.same in
    sym (find_nothing (λ site. nat_lt (at c.args.other.now site) (at c.args.self.now site)) 1 (length c.args.self.now)
    (λ j x y. le-ltb (at c.args.other.now j) (at c.args.self.now j) (c.loop-site.invariant j x (omega (arith, y, long)))))
