use Rattle.std.proofs.Common.{sym, subst}
use Rattle.dm_kept.proofs.RoomKept.{has_room}
use Rattle.dm_kept.specs.KeptFields.{shown}
use Rattle.dm_kept.specs.Roomy.{HasRoom}
use Rattle.dm_kept.specs.Ledger.{Ledger, past}
use Rattle.dm_model.specs.Allowed.{Allowed}
use Rattle.dm_room.specs.Room.{need}
use Rattle.std.proofs.Common.{◌≡◌}
use Rattle.dm_kept.proofs.kept.Kept.keeps_room.Goals as goal

pub returns : goal.returns
returns c =
    let s = c.args.step.now in
    subst (λ (k : Ledger). HasRoom k s) c.self.view_is
    (has_room (shown c.self.inside) c.self.invariant.room s
    (c.self.invariant.legal, subst (λ (k : Ledger). Allowed k.layout (past k) s) (sym c.self.view_is) c.requires.allowed)
    (subst (λ (k : Ledger). need k.layout k.items (past k) s ≡ 0) (sym c.self.view_is) c.requires.none))
