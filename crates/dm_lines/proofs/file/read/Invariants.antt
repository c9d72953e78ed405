use Rattle.std.proofs.Common.{◌≡◌, ◌≤◌, ◌+◌, length, map, drop}
use Rattle.std.specs.Str.Lines.{lines}
use Rattle.dm_lines.specs.File.{Nothing, read_from, so_far, commands, AllFit}
use Rattle.dm_lines.proofs.file.read.Given as goal

abbrev pub invariant-loop-line : goal.invariant-loop-line
invariant-loop-line l = record {
  number : l.number ≡ l.line-index;
  exact : read_from (so_far l.begun) (l.number + 1) (map (λ line. line.now) (drop l.line-index l.line-items)) ≡ read_from Nothing 1 (lines l.bytes);
  fit : AllFit (so_far l.begun);
  few : length (commands (so_far l.begun)) ≤ l.line-index;
}
