use Rattle.std.proofs.Common.{◌≡◌, ◌≤◌, ◌+◌, ◌++◌, drop, length}
use Rattle.dm_schedule.specs.Drive.{driven}
use Rattle.dm_text.specs.Text.{Begins}
use Rattle.dm_schedule.proofs.driving.answer_all.Given as goal

abbrev pub invariant-loop-line : goal.invariant-loop-line
invariant-loop-line l = record {
  layout : l.driver.layout ≡ l.initial.driver.layout;
  steps : length l.driver.history ≤ length l.initial.driver.history + l.line-index;
  does : (driven l.driver (drop l.line-index l.lines)).0 ≡ (driven l.initial.driver l.lines).0;
  answers : l.out.items ++ (driven l.driver (drop l.line-index l.lines)).1 ≡ l.initial.out.items ++ (driven l.initial.driver l.lines).1;
  begins : Begins l.out.items l.initial.out.items;
}
