use Rattle.std.proofs.Common.{sym, ap, ◌∙◌, arith}
use Rattle.dm_chronicle.proofs.Keeps.{splits_note}
use Rattle.dm_chronicle.proofs.chronicle.Chronicle.tell.Goals as goal

pub split_seat-note-requires : goal.split_seat-note-requires
split_seat-note-requires g c = (
  c.requires.from ∙ sym (ap (λ v. v.table) c.self.view_is),
  omega (arith, c.self.invariant.words),
  splits_note _ _ _ _ _ _ _ c.requires.mark,
)
