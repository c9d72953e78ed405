use Rattle.std.proofs.Common.{◌≡◌, ◌≤◌, length, take}
use Rattle.std.specs.Prelude.{reverse}
use Rattle.dm_report.specs.Replies.{item_begin}
use Rattle.dm_report.proofs.reply.item_begin.Given as goal

abbrev pub invariant-loop-place : goal.invariant-loop-place
invariant-loop-place l = record {
  within : l.place ≤ length l.steps;
  found : item_begin l.session l.number (reverse (take l.place l.steps)) ≡ item_begin l.session l.number (reverse l.steps);
}

abbrev pub decreases-loop-place : goal.decreases-loop-place
decreases-loop-place l = l.place
