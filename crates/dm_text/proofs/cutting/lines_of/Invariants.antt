use Rattle.std.proofs.Common.{◌≡◌, ◌++◌, ◌+◌, ◌≤◌, vec_len, length, map}
use Rattle.std.specs.Str.Lines.{lines}
use Rattle.dm_text.proofs.cutting.lines_of.Given as goal

abbrev pub invariant-loop-rest : goal.invariant-loop-rest
invariant-loop-rest l = record {
  exact : map (λ line. line.now) l.found.items ++ lines l.rest ≡ lines l.text;
  few : vec_len l.found + length l.rest ≤ length l.text;
}

abbrev pub decreases-loop-rest : goal.decreases-loop-rest
decreases-loop-rest l = length l.rest
