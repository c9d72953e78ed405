use Rattle.std.proofs.Common.{nat_lt, rules}
use Rattle.std.proofs.lemmas.Fn.{always_returns_same}
use Rattle.dm_body.proofs.fitting.ascends.Goals as goal

pub returns : goal.returns
returns c = c.is_sorted_by.ensures.cases (λ x y. nat_lt x.key y.key) (always_returns_same _ _ _ (λ a r f h. search rules))
