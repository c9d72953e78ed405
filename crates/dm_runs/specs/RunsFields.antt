-- What the fields say.
use Rattle.std.specs.Prelude.{◌-◌, vec_len, vec_capacity}
use Rattle.dm_runs.specs.Shown.{Shown}
use Rattle.dm_runs.specs.declared.runs.Runs.TheInside.{Inside}

abbrev pub shown : Inside → Shown
shown r = record { runs = r.list.items; room = vec_capacity r.list - vec_len r.list }
