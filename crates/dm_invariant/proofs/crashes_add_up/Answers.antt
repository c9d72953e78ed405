use Rattle.dm_invariant.proofs.Crashing.{crashes_add_up}
use Rattle.dm_invariant.proofs.crashes_add_up.Goals as goal

pub returns : goal.returns
returns c = λ site old mid new before between now schema adds legal begins first second.
    crashes_add_up site old mid new before between now schema adds legal begins first second
