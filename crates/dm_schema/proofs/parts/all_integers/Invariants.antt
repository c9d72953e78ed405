use Rattle.std.proofs.Common.{◌≡◌, drop, []}
use Rattle.toml.specs.Data.{as_integer}
use Rattle.toml.specs.View.{view}
use Rattle.dm_schema.specs.Parts.{each_from}
use Rattle.dm_schema.proofs.parts.all_integers.Given as goal

abbrev pub invariant-loop-item : goal.invariant-loop-item
invariant-loop-item l =
    each_from l.found.items (λ v. as_integer (view v)) (drop l.item-index l.item-items) ≡ each_from [] (λ v. as_integer (view v)) l.item-items
