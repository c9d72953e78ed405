use Rattle.std.proofs.Common.{◌≡◌, sym, refl, false, true}
use Rattle.dm_event.proofs.Rising.{ascending_is, no_ascending}
use Rattle.dm_event.proofs.lists.Keys.new.Goals as goal

pub returns-then-ascends-clause-exact : goal.returns-then-ascends-clause-exact
returns-then-ascends-clause-exact c =
    sym (ascending_is c.args.list.items c.sort_unstable.new.self.items c.sort_unstable.ensures.permutation
    (rw c.deref.ensures.value at (c.if-ascends.ensures).0 refl))

pub returns-else-ascends-clause-exact : goal.returns-else-ascends-clause-exact
returns-else-ascends-clause-exact c =
    sym (no_ascending c.args.list.items c.sort_unstable.new.self.items c.sort_unstable.ensures.permutation c.sort_unstable.ensures.sorted
    (λ h. absurd (let f : false ≡ true = (c.if-ascends.ensures).1 (rw c.deref.ensures.value h) in cc (f))))
