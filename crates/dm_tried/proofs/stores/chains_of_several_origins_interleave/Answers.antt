use Rattle.std.proofs.Common.{[], ◌∷◌}
use Rattle.dm_store.specs.Rising.{may_install}
use Rattle.dm_tried.proofs.stores.chains_of_several_origins_interleave.Goals as goal

pub rebuild-requires : goal.rebuild-requires
rebuild-requires g c = λ i. may_install [] (c.in_ok-transaction.ensures i ∷ c.in_ok-transaction-2.ensures i ∷ c.in_ok-transaction-3.ensures i ∷ [])
