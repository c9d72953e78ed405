use Rattle.std.proofs.Common.{sym, ◌∙◌, ap, ℕ}
use Rattle.std.specs.Prelude.{Some, List}
use Rattle.dm_logdisk.specs.Story.{changed, bytes_of, cut_to, Story}
use Rattle.dm_logdisk.specs.Kept.{story_of, first_of, total}
use Rattle.dm_logdisk.specs.declared.memory.Kept.{Kept}
use Rattle.dm_logdisk.specs.declared.memory.Kept.TheVariants as kept
use Rattle.dm_logdisk.proofs.Pushed.{kept_cut, first_pushed, total_cut}
use Rattle.dm_logdisk.proofs.memory.MemDiskLogDisk.cut.Goals as goal

pub returns-clause-noted : goal.returns-clause-noted
returns-clause-noted c = (
  c.has_effect-effect.result,
  c.answer.ensures.ok,
  ap (λ (s : Story). Some s) (ap (λ (l : List Kept). story_of c.args.self.now.first.items l c.args.self.now.pieces.items c.cut.new.bytes.items)
      c.keep.ensures.kept ∙ kept_cut c.args.self.now.first.items c.args.self.now.changes.items c.args.self.now.pieces.items c.args.self.now.bytes.items
      c.cut.new.bytes.items (c.args.self.now.copied c.requires.call) c.args.len c.has_effect-effect.result),
)

pub invariant_of-self-clause-copied : goal.invariant_of-self-clause-copied
invariant_of-self-clause-copied c = λ _. ap (λ (l : List Kept). first_of l c.args.self.now.first.items c.cut.new.bytes.items) c.keep.ensures.kept
    ∙ first_pushed c.args.self.now.changes.items (kept.Cut c.args.len c.has_effect-effect.result) c.args.self.now.first.items c.cut.new.bytes.items

pub invariant_of-self-clause-sizes : goal.invariant_of-self-clause-sizes
invariant_of-self-clause-sizes c = ap total c.keep.ensures.kept ∙ total_cut c.args.self.now.changes.items c.args.len c.has_effect-effect.result
    ∙ c.args.self.now.sizes

pub invariant_of-self-clause-same : goal.invariant_of-self-clause-same
invariant_of-self-clause-same c = c.cut.ensures.changed ∙ ap (λ (b : List ℕ). changed (cut_to c.args.len c.has_effect-effect.result) b) c.args.self.now.same
    ∙ ap bytes_of (sym (ap (λ (l : List Kept). story_of c.args.self.now.first.items l c.args.self.now.pieces.items c.cut.new.bytes.items)
    c.keep.ensures.kept ∙ kept_cut c.args.self.now.first.items c.args.self.now.changes.items c.args.self.now.pieces.items c.args.self.now.bytes.items
    c.cut.new.bytes.items (c.args.self.now.copied c.requires.call) c.args.len c.has_effect-effect.result))
