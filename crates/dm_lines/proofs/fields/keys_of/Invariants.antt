use Rattle.std.proofs.Common.{◌≡◌, ◌-◌, ◌^◌, drop, map, []}
use Rattle.dm_lines.specs.Fields.{numbers_from}
use Rattle.dm_lines.proofs.fields.keys_of.Given as goal

abbrev pub invariant-loop-word : goal.invariant-loop-word
invariant-loop-word l = numbers_from l.keys.items (2 ^ 32 - 1) (map (λ w. w.now) (drop l.word-index l.words)) ≡ numbers_from [] (2 ^ 32 - 1)
    (map (λ w. w.now) l.words)
