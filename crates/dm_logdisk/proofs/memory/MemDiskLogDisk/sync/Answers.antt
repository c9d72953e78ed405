use Rattle.std.proofs.Common.{sym, ◌∙◌, ap}
use Rattle.std.specs.Prelude.{Some, List}
use Rattle.dm_logdisk.specs.Story.{bytes_of, Story}
use Rattle.dm_logdisk.specs.Kept.{story_of, first_of, total}
use Rattle.dm_logdisk.specs.declared.memory.Kept.{Kept}
use Rattle.dm_logdisk.specs.declared.memory.Kept.TheVariants as kept
use Rattle.dm_logdisk.proofs.Pushed.{kept_sync, first_pushed, total_sync}
use Rattle.dm_logdisk.proofs.memory.MemDiskLogDisk.sync.Goals as goal

pub returns-clause-noted : goal.returns-clause-noted
returns-clause-noted c = (
  c.has_effect-effect.result,
  c.answer.ensures.ok,
  ap (λ (s : Story). Some s) (ap (λ (l : List Kept). story_of c.args.self.now.first.items l c.args.self.now.pieces.items c.args.self.now.bytes.items)
      c.keep.ensures.kept ∙ kept_sync c.args.self.now.first.items c.args.self.now.changes.items c.args.self.now.pieces.items c.args.self.now.bytes.items
      c.args.self.now.bytes.items (c.args.self.now.copied c.requires) c.has_effect-effect.result),
)

pub invariant_of-self-clause-copied : goal.invariant_of-self-clause-copied
invariant_of-self-clause-copied c = λ _. ap (λ (l : List Kept). first_of l c.args.self.now.first.items c.args.self.now.bytes.items) c.keep.ensures.kept
    ∙ first_pushed c.args.self.now.changes.items (kept.Synced c.has_effect-effect.result) c.args.self.now.first.items c.args.self.now.bytes.items

pub invariant_of-self-clause-sizes : goal.invariant_of-self-clause-sizes
invariant_of-self-clause-sizes c = ap total c.keep.ensures.kept ∙ total_sync c.args.self.now.changes.items c.has_effect-effect.result ∙ c.args.self.now.sizes

pub invariant_of-self-clause-same : goal.invariant_of-self-clause-same
invariant_of-self-clause-same c = c.args.self.now.same
    ∙ ap bytes_of (sym (ap (λ (l : List Kept). story_of c.args.self.now.first.items l c.args.self.now.pieces.items c.args.self.now.bytes.items)
    c.keep.ensures.kept ∙ kept_sync c.args.self.now.first.items c.args.self.now.changes.items c.args.self.now.pieces.items c.args.self.now.bytes.items
    c.args.self.now.bytes.items (c.args.self.now.copied c.requires) c.has_effect-effect.result))
