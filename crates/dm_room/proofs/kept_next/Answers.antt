use Rattle.dm_room.proofs.KeptNext.{kept_next}
use Rattle.dm_room.proofs.Needs.{need_is, opening}
use Rattle.dm_room.proofs.kept_next.Goals as goal

pub returns : goal.returns
returns c = record {
  opening = λ layout items. opening layout items;
  kept = λ layout items past step h. kept_next layout items past h.0 step h.1;
  need = λ layout items past step h. need_is layout items past step h;
}
