use Rattle.dm_event.specs.Parts.{in_order}
use Rattle.std.proofs.Common.{ℕ, List, ◌≡◌, subst, ◌∙◌, ◌/◌, ◌%◌, ap, sym, ◌==◌, get_or}
use Rattle.std.specs.List.{list_any}
use Rattle.std.proofs.lemmas.Nat.Bits.{shr_and_one}
use Rattle.dm_event.proofs.Bits.{among_bits, bits_ordered}
use Rattle.dm_event.proofs.part_set.PartSet.holds.Goals as goal

pub returns-clause-exact : goal.returns-clause-exact
returns-clause-exact c =
    ap (λ (n : ℕ). n == 1) (shr_and_one (get_or c.self.inside.words (c.args.part / 64) 0) (c.args.part % 64))
    ∙ sym (among_bits c.self.inside.words c.args.part c.requires)
    ∙ ap (λ (parts : List ℕ). list_any (λ p. p == c.args.part) parts) c.self.view_is

pub returns-clause-ascends : goal.returns-clause-ascends
returns-clause-ascends c =
    subst (λ (parts : List ℕ). parts ≡ in_order parts) c.self.view_is (bits_ordered c.self.inside.words)
