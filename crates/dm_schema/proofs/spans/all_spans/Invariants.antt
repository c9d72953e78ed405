use Rattle.std.proofs.Common.{◌≡◌, drop, []}
use Rattle.toml.specs.View.{view}
use Rattle.dm_schema.specs.Parts.{each_from, span_of}
use Rattle.dm_schema.proofs.spans.all_spans.Given as goal

abbrev pub invariant-loop-item : goal.invariant-loop-item
invariant-loop-item l = each_from l.found.items (λ v. span_of (view v)) (drop l.item-index l.item-items) ≡ each_from [] (λ v. span_of (view v)) l.item-items
