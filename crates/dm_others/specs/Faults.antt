-- What a site has told of faults of its log.
use Rattle.std.specs.Prelude.{ℕ, ◌==◌, Bool, false, List}
use Rattle.dm_event.specs.declared.step.Cause.TheVariants as cause
use Rattle.dm_event.specs.declared.step.Step.{Step}
use Rattle.dm_event.specs.declared.step.Step.TheVariants.{Fail, Doubt}
use Rattle.dm_model.specs.Words.{count_of}

-- a Fail at the site for a log, or a Doubt of the site
abbrev pub is_fault_of : ℕ → Step → Bool
is_fault_of i (Fail site txn (cause.Log at)) = site == i
is_fault_of i (Doubt site p) = site == i
is_fault_of i s = false

-- how many there are
abbrev pub faults : ℕ → List Step → ℕ
faults site past = count_of (is_fault_of site) past
