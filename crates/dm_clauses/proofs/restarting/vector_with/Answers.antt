use Rattle.std.proofs.Common.{ℕ, List, ap, ◌∙◌, arith, length}
use Rattle.std.specs.Prelude.{nat_le}
use Rattle.std.proofs.lemmas.Bool.{and_parts, leb-true}
use Rattle.dm_model.specs.Progress.{reached}
use Rattle.dm_model.proofs.VectorFacts.{long_by}
use Rattle.dm_clauses.proofs.restarting.vector_with.Goals as goal

pub set-requires : goal.set-requires
set-requires g c =
    let sites = (g.T.Told.layout c.args.told.now).sites in
    let site = c.args.site in
    let r = and_parts (nat_le 1 site) (nat_le site sites) c.requires in
    let long = ap (λ (v : List ℕ). length v) c.vector-vector.ensures ∙ long_by sites (λ j. reached site j (g.T.Told.past c.args.told.now)) in
    let top = leb-true site sites r.1 in
    (leb-true 1 site r.0, omega (arith, top, long))
