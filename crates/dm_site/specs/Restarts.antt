-- What a restart leaves of a site.
use Rattle.std.specs.Prelude.{◌≡◌, ℕ, Option, true}
use Rattle.dm_event.specs.declared.step.Step.{Step}
use Rattle.dm_event.specs.declared.step.Step.TheVariants.{Fail, Restart}
use Rattle.dm_event.specs.declared.step.TxnId.{TxnId}
use Rattle.dm_locks.specs.Locks.{no_locks}
use Rattle.dm_logdisk.specs.Story.{Story}
use Rattle.dm_desk.specs.Causing.{IsCaused}
use Rattle.dm_invariant.specs.Stations.{Station}
use Rattle.dm_desk.specs.declared.answers.RestartAnswer.{RestartAnswer}
use Rattle.dm_desk.specs.declared.answers.RestartAnswer.TheVariants as restarted

-- with Restarted nobody holds or waits, and with Failed the store and the locks are as before
abbrev pub Restarts : {D : Type 0} → Station D → Station D → RestartAnswer → Type 0
Restarts old new (restarted.Restarted vector found) = (new.live ≡ true) × (new.locks ≡ no_locks)
Restarts old new (restarted.Failed why) = (new.installed ≡ old.installed) × (new.locks ≡ old.locks)

abbrev pub IsRestartCaused : ℕ → Option Story → ℕ → ℕ → RestartAnswer → Type 0
IsRestartCaused site told before now (restarted.Failed why) = IsCaused site why told before now
IsRestartCaused site told before now other = Unit {0}

-- the step that comes of it: the Restart, or the attempt's Fail
abbrev pub restart_step : ℕ → TxnId → RestartAnswer → Step
restart_step site on (restarted.Restarted vector found) = Restart site vector found
restart_step site on (restarted.Failed why) = Fail site on why
