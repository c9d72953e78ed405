use Rattle.std.proofs.Common.{arith, refl}
use Rattle.std.specs.Fmt.{decimal}
use Rattle.dm_text.proofs.Canonical.{number_some, number_is}
use Rattle.dm_text.proofs.Signs.{signed_some, signed_is}
use Rattle.dm_text.proofs.numbers.numbers_both_ways.Goals as goal

pub returns-clause-back : goal.returns-clause-back
returns-clause-back c = λ most n le lt. number_some most (decimal n) n (omega arith) le refl

pub returns-clause-only : goal.returns-clause-only
returns-clause-only c = λ most n word e. number_is most word n e

pub returns-clause-signed_back : goal.returns-clause-signed_back
returns-clause-signed_back c = signed_some

pub returns-clause-signed_only : goal.returns-clause-signed_only
returns-clause-signed_only c = signed_is
