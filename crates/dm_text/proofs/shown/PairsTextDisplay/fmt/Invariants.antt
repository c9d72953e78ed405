use Rattle.std.proofs.Common.{take, ◌∷◌}
use Rattle.std.specs.List.{flat_map}
use Rattle.std.specs.Fmt.{HasWritten, IsPlainFormatter}
use Rattle.dm_text.specs.Texts.{pair_text}
use Rattle.dm_text.proofs.shown.PairsTextDisplay.fmt.Given as goal

abbrev pub invariant-loop-pair : goal.invariant-loop-pair
invariant-loop-pair g l =
    IsPlainFormatter l.initial.f → HasWritten g.W.Write.write_str_gives l.initial.f (flat_map (λ pair. 44 ∷ pair_text pair) (take l.pair-index l.rest)) l.f
