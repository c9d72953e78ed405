use Rattle.std.proofs.Common.{◌≡◌, ◌≤◌, take}
use Rattle.std.specs.Prelude.{reverse}
use Rattle.dm_model.specs.Acts.{acts}
use Rattle.dm_model.specs.Words.{latest}
use Rattle.dm_report.specs.Moves.{released_by}
use Rattle.dm_report.proofs.moves.giver.Given as goal

abbrev pub invariant-loop-before : goal.invariant-loop-before
invariant-loop-before l = record {
  within : l.before ≤ l.place;
  found : latest (released_by l.part) (acts (reverse (take l.before l.book.steps))) ≡ latest (released_by l.part) (acts (reverse (take l.place l.book.steps)));
}

abbrev pub decreases-loop-before : goal.decreases-loop-before
decreases-loop-before l = l.before
