use Rattle.std.proofs.Common.{◌≡◌, ◌∷◌, [], ◌++◌, sym, ◌∙◌, ap, arith, ◌≤◌, ℕ}
use Rattle.std.specs.Prelude.{Some, List, length, vec_len, vec_capacity}
use Rattle.dm_logdisk.specs.Story.{changed, bytes_of, wrote, Story}
use Rattle.dm_logdisk.specs.Kept.{story_of, first_of, total}
use Rattle.dm_logdisk.specs.declared.memory.Kept.{Kept}
use Rattle.dm_logdisk.specs.declared.memory.Kept.TheVariants as kept
use Rattle.dm_logdisk.proofs.Pushed.{kept_write, first_pushed, total_write, room_left}
use Rattle.dm_logdisk.proofs.memory.MemDiskLogDisk.write_at.Goals as goal

pub returns-clause-noted : goal.returns-clause-noted
returns-clause-noted c =
    let long : total c.args.self.now.changes.items ≡ length c.args.self.now.pieces.items = grind (arith, c.args.self.now.sizes) in
    let story =
    ap (λ (l : List Kept). story_of c.args.self.now.first.items (l) c.append_piece.new.pieces.items c.write.new.bytes.items) c.keep.ensures.kept
    ∙ ap (λ (p : List ℕ). story_of c.args.self.now.first.items
    (c.args.self.now.changes.items ++ kept.Wrote c.args.at (length c.args.piece.now) c.has_effect-effect.result ∷ []) p c.write.new.bytes.items)
    c.append_piece.ensures.kept
    ∙ kept_write c.args.self.now.first.items c.args.self.now.changes.items c.args.self.now.pieces.items c.args.self.now.bytes.items c.write.new.bytes.items
    (c.args.self.now.copied c.requires.call) c.args.at c.args.piece.now c.has_effect-effect.result long in
    (c.has_effect-effect.result, c.answer.ensures.ok, ap (λ (s : Story). Some s) story)

pub invariant_of-self-clause-copied : goal.invariant_of-self-clause-copied
invariant_of-self-clause-copied c = λ _. ap (λ (l : List Kept). first_of l c.args.self.now.first.items c.write.new.bytes.items) c.keep.ensures.kept
    ∙ first_pushed c.args.self.now.changes.items (kept.Wrote c.args.at (length c.args.piece.now) c.has_effect-effect.result) c.args.self.now.first.items
    c.write.new.bytes.items

pub invariant_of-self-clause-sizes : goal.invariant_of-self-clause-sizes
invariant_of-self-clause-sizes c =
    let kept_is = ap total c.keep.ensures.kept ∙ total_write c.args.self.now.changes.items c.args.at (length c.args.piece.now) c.has_effect-effect.result in
    omega (arith, kept_is, c.args.self.now.sizes, c.append_piece.ensures.len)

pub invariant_of-self-clause-room_pieces : goal.invariant_of-self-clause-room_pieces
invariant_of-self-clause-room_pieces c =
    let fits : length c.args.piece.now ≤ c.args.self.now.reach = omega (arith, c.requires.reach) in
    let left = room_left (vec_len c.args.self.now.pieces) (length c.args.piece.now) c.args.self.now.calls_left c.args.self.now.reach
    (vec_capacity c.args.self.now.pieces) c.requires.call fits c.args.self.now.room_pieces in
    omega (arith, left, c.append_piece.ensures.len, c.append_piece.ensures.capacity)

pub invariant_of-self-clause-same : goal.invariant_of-self-clause-same
invariant_of-self-clause-same c =
    let long : total c.args.self.now.changes.items ≡ length c.args.self.now.pieces.items = grind (arith, c.args.self.now.sizes) in
    let story =
    ap (λ (l : List Kept). story_of c.args.self.now.first.items (l) c.append_piece.new.pieces.items c.write.new.bytes.items) c.keep.ensures.kept
    ∙ ap (λ (p : List ℕ). story_of c.args.self.now.first.items
    (c.args.self.now.changes.items ++ kept.Wrote c.args.at (length c.args.piece.now) c.has_effect-effect.result ∷ []) p c.write.new.bytes.items)
    c.append_piece.ensures.kept
    ∙ kept_write c.args.self.now.first.items c.args.self.now.changes.items c.args.self.now.pieces.items c.args.self.now.bytes.items c.write.new.bytes.items
    (c.args.self.now.copied c.requires.call) c.args.at c.args.piece.now c.has_effect-effect.result long in
    c.write.ensures.changed ∙ ap (λ (b : List ℕ). changed (wrote c.args.at c.args.piece.now c.has_effect-effect.result) b) c.args.self.now.same
    ∙ ap bytes_of (sym story)
