use Rattle.std.proofs.Common.{refl, ◌∙◌}
use Rattle.dm_record.specs.declared.record.Record.TheVariants.{Commit, Grant}
use Rattle.dm_event.specs.Vectors.{raised}
use Rattle.dm_model.proofs.VectorFacts.{long_raised}
use Rattle.dm_restart.proofs.Recorded.{floor_recorded, floor_has}
use Rattle.dm_restart.proofs.law.floors_of_records.Goals as goal

pub returns-clause-exact : goal.returns-clause-exact
returns-clause-exact c = λ sites past site. floor_recorded sites past site

pub returns-clause-commits : goal.returns-clause-commits
returns-clause-commits c = λ sites site own txn seq begin writes there long j.
    floor_has sites site own (Commit txn seq begin writes) (raised begin site seq) refl (long_raised begin site seq ∙ long) there.0 there.1 there.2 j

pub returns-clause-grants : goal.returns-clause-grants
returns-clause-grants c = λ sites site own part epoch vector there long j.
    floor_has sites site own (Grant part epoch vector) vector refl long there.0 there.1 there.2 j
