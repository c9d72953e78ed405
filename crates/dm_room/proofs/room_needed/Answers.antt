use Rattle.dm_event.specs.declared.step.Step.TheVariants.{Route, Ask, Settle, Begin, Moved, Commit, End, Fail, Refresh, Release, Grant}
use Rattle.dm_room.proofs.Needs.{need_is, doubt_free, reply_free, restart_few, each_few}
use Rattle.dm_room.proofs.room_needed.Goals as goal

pub returns : goal.returns
returns c = record {
  route = λ layout items past txn want least site choice h. need_is layout items past (Route txn want least site choice) h;
  begin = λ layout items past site txn begin h. need_is layout items past (Begin site txn begin) h;
  ask = λ layout items past part epoch to txn h. need_is layout items past (Ask part epoch to txn) h;
  refresh = λ layout items past site origin h. need_is layout items past (Refresh site origin) h;
  moved = λ layout items past site txn h. need_is layout items past (Moved site txn) h;
  commit = λ layout items past entry h. need_is layout items past (Commit entry) h;
  end = λ layout items past site txn ops reads h. need_is layout items past (End site txn ops reads) h;
  fail = λ layout items past site txn cause h. need_is layout items past (Fail site txn cause) h;
  release = λ layout items past site part epoch to vector h. need_is layout items past (Release site part epoch to vector) h;
  grant = λ layout items past site part epoch vector h. need_is layout items past (Grant site part epoch vector) h;
  settle = λ layout items past part epoch h. need_is layout items past (Settle part epoch) h;
  doubt = λ layout items past site pending h. doubt_free layout items past site pending h;
  reply = λ layout items past session number said h counted. reply_free layout items past session number said h counted;
  restart = λ layout items past site vector found h. restart_few layout items past site vector found h;
  each = λ layout items past step h. each_few layout items past step h;
}
