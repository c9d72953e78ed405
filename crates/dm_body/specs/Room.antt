-- The room that an overlay keeps.
use Rattle.std.specs.Prelude.{◌≤◌, vec_len, vec_capacity}
use Rattle.dm_event.specs.declared.limits.TheConstants.{MAX_OPS}
use Rattle.dm_body.specs.declared.overlay.Overlay.TheInside.{Inside}

-- there is room for the most ops, and for a read or a write of each
pub record HasRoom (o : Inside) : Type 0 where
  pub most : vec_len o.ops ≤ MAX_OPS
  pub reads : vec_len o.reads ≤ vec_len o.ops
  pub writes : vec_len o.writes ≤ vec_len o.ops
  pub room_for_ops : MAX_OPS ≤ vec_capacity o.ops
  pub room_for_reads : MAX_OPS ≤ vec_capacity o.reads
  pub room_for_writes : MAX_OPS ≤ vec_capacity o.writes
