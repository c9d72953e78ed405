use Rattle.std.proofs.Common.{◌≡◌, ◌++◌, length, map, ap, arith}
use Rattle.std.proofs.lemmas.Grind.{common_steps}
use Rattle.dm_text.specs.Text.{words_of}
use Rattle.dm_text.proofs.Cuts.{few_words}
use Rattle.dm_text.proofs.listing.words.Goals as goal

pub returns-clause-few : goal.returns-clause-few
returns-clause-few c =
    let few = few_words c.args.line.now in
    let all : length (map (λ word. word.now) c.loop-word.found.items ++ c.loop-word.words) ≡ length (words_of c.args.line.now) =
    ap length c.loop-word.invariant.exact in
    grind (arith, common_steps)
