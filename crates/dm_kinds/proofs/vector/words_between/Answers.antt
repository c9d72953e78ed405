use Rattle.std.proofs.Common.{arith, refl, ◌≤◌, length}
use Rattle.std.proofs.lemmas.List.{take-map, take_all}
use Rattle.dm_kinds.proofs.vector.words_between.Goals as goal

pub returns-then-count-rest : goal.returns-then-count-rest
returns-then-count-rest c = rw (← c.words_from-rest.ensures, take-map) refl

pub returns-else-count-rest : goal.returns-else-count-rest
returns-else-count-rest c =
    let few : length c.words_from-rest.result.now ≤ c.args.count = omega arith in
    rw (← c.words_from-rest.ensures, take-map, take_all c.args.count c.words_from-rest.result.now few) refl
