use Rattle.std.proofs.Common.{◌≡◌, ◌++◌}
use Rattle.dm_core.specs.Ledger.{past}
use Rattle.dm_report.specs.Rest.{parts_text}
use Rattle.dm_report.proofs.rest.put_parts.Given as goal

abbrev pub invariant-loop-part : goal.invariant-loop-part
invariant-loop-part l = l.out.items ≡ l.initial.out.items ++ parts_text l.book.layout (past l.book) l.part
