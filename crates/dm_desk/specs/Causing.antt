-- What a cause says of the disk.
use Rattle.std.specs.Prelude.{◌≡◌, ◌≢◌, ℕ, Option, IsNone}
use Rattle.dm_disk.specs.Faults.{Rose}
use Rattle.dm_event.specs.declared.step.Cause.{Cause}
use Rattle.dm_event.specs.declared.step.Cause.TheVariants as cause
use Rattle.dm_logdisk.specs.Story.{Story}

-- where a site fails an attempt for its log, its disk's faults rose in the call; for damage, the disk doesn't tell, and the bytes differ
abbrev pub IsCaused : ℕ → Cause → Option Story → ℕ → ℕ → Type 0
IsCaused site (cause.Log at) told before now = (at ≡ site) × Rose before now
IsCaused site (cause.Damage at place read written) told before now = (at ≡ site) × (read ≢ written) × IsNone told
IsCaused site other told before now = ⊥
