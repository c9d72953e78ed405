use Rattle.std.proofs.Common.{ℕ, List, ◌∙◌, ap}
use Rattle.dm_event.specs.Parts.{with_part}
use Rattle.dm_event.proofs.Bits.{part_added, with_bit, with_bit_fits, words_again, words_fit}
use Rattle.dm_event.specs.PartFields.{bits_set}
use Rattle.dm_event.proofs.part_set.PartSet.add.Goals as goal

pub invariant_of-self : goal.invariant_of-self
invariant_of-self c =
    let old = words_fit c.self.inside.words (bits_set c.self.inside.words) c.self.invariant in
    let new = with_bit_fits c.self.inside.words c.args.part old.0 c.requires old.1 in
    words_again (with_bit c.self.inside.words c.args.part) new.0 new.1

pub returns : goal.returns
returns c =
    let old = words_fit c.self.inside.words (bits_set c.self.inside.words) c.self.invariant in
    part_added c.self.inside.words c.args.part old.0 c.requires ∙ ap (λ (parts : List ℕ). with_part c.args.part parts) c.self.view_is
