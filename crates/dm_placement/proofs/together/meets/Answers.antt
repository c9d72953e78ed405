use Rattle.std.proofs.Common.{◌≡◌, ◌∙◌, rules, refl, arith}
use Rattle.std.specs.List.{range_with_len, list_any}
use Rattle.std.specs.Prelude.{◌&&◌}
use Rattle.std.proofs.lemmas.Iterator.{YieldsList-from_range}
use Rattle.std.proofs.lemmas.Iterator.Search.{any_from_yields_List}
use borrow.Author.Tests.{tests}
use Rattle.dm_model.specs.Tests.{is_among}
use Rattle.dm_placement.proofs.Tallies.{listed_there}
use Rattle.dm_placement.proofs.together.meets.Goals as goal

pub returns : goal.returns
returns c =
    let found : c.any.result ≡ list_any (λ p. is_among c.args.set.now p && is_among c.args.wanted.now p) (range_with_len 0 c.args.parts) =
    any_from_yields_List (λ p. is_among c.args.set.now p && is_among c.args.wanted.now p) _ _ c.any.result c.any.ensures.ran
    (YieldsList-from_range 0 c.args.parts c.args.parts refl (omega arith)) (λ x b q k. search (rules, tests)) in
    found ∙ listed_there (is_among c.args.set.now) c.args.wanted.now c.args.parts c.requires.wanted_below
