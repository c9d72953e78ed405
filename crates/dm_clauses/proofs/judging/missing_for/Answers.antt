use Rattle.std.proofs.Common.{ap, sym, ◌∙◌, arith, Bool, not}
use Rattle.std.specs.Prelude.{nat_lt, ◌==◌, ◌&&◌}
use Rattle.std.proofs.lemmas.Bool.{lt-ltb, ne_eqb}
use Rattle.dm_event.specs.Vectors.{at}
use Rattle.dm_event.proofs.Sites.{find_first, find_nothing}
use Rattle.dm_clauses.proofs.judging.missing_for.Goals as goal

pub returns-then-get : goal.returns-then-get
returns-then-get g c =
    let v = c.args.vector.now in
    let e = c.args.entry.now in
    let site = c.loop-site.site in
    sym (find_first (λ j. not (j == e.origin) && nat_lt (at v j) (at e.begin j)) 1 (g.T.Told.layout c.args.told.now).sites site (omega arith) (omega arith)
    (ap (λ (b : Bool). not b && nat_lt (at v site) (at e.begin site)) (ne_eqb site e.origin c.if-site-entry.true)
    ∙ lt-ltb (at v site) (at e.begin site) (omega arith))
    (λ j x y. c.loop-site.invariant j x y))

pub returns : goal.returns
returns g c =
    let v = c.args.vector.now in
    let e = c.args.entry.now in
    sym (find_nothing (λ j. not (j == e.origin) && nat_lt (at v j) (at e.begin j)) 1 (g.T.Told.layout c.args.told.now).sites
    (λ j x y. c.loop-site.invariant j x (omega (arith, y))))
