use Rattle.std.proofs.Common.{◌≡◌, ◌++◌, ◌-◌}
use Rattle.dm_core.specs.Ledger.{past}
use Rattle.dm_report.specs.Rest.{sites_text}
use Rattle.dm_report.proofs.rest.put_sites.Given as goal

abbrev pub invariant-loop-site : goal.invariant-loop-site
invariant-loop-site l = l.out.items ≡ l.initial.out.items ++ sites_text l.book.layout (past l.book) (l.site - 1)
