use Rattle.std.proofs.Common.{ℕ, ◌≤◌}
use Rattle.dm_closing.specs.Closed.{IsLevel}
use Rattle.dm_closing.proofs.leveling.is_level.Given as goal

abbrev pub invariant-loop-before : goal.invariant-loop-before
invariant-loop-before l = (site : ℕ) → 1 ≤ site → site ≤ l.before → IsLevel l.book.layout l.book.steps site
