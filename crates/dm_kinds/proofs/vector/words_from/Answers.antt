use Rattle.std.proofs.Common.{arith, refl, ◌≤◌, length}
use Rattle.std.proofs.lemmas.List.{drop-map, take_rest, drop_all}
use Rattle.dm_kinds.proofs.vector.words_from.Goals as goal

pub returns-then-place-words : goal.returns-then-place-words
returns-then-place-words c = rw (take_rest, drop-map) refl

pub returns-else-place-words : goal.returns-else-place-words
returns-else-place-words c =
    let past : length c.args.words.now ≤ c.args.place = omega arith in
    rw (drop-map, drop_all c.args.place c.args.words.now past) refl
