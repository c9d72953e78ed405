-- What is due of a hand-over, and what is told of an append.
use Rattle.std.specs.Prelude.{◌==◌, ℕ, Bool, List, Option, Some, None, if◌then◌else◌}
use Rattle.dm_desk.specs.declared.answers.CommitAnswer.{CommitAnswer}
use Rattle.dm_desk.specs.declared.answers.CommitAnswer.TheVariants as committed
use Rattle.dm_desk.specs.declared.answers.GrantAnswer.{GrantAnswer}
use Rattle.dm_desk.specs.declared.answers.GrantAnswer.TheVariants as granted
use Rattle.dm_desk.specs.declared.answers.ReleaseAnswer.{ReleaseAnswer}
use Rattle.dm_desk.specs.declared.answers.ReleaseAnswer.TheVariants as released
use Rattle.dm_desk.specs.declared.telling.GrantDue.{GrantDue}
use Rattle.dm_desk.specs.declared.telling.GrantDue.TheVariants as grants
use Rattle.dm_desk.specs.declared.telling.ReleaseDue.{ReleaseDue}
use Rattle.dm_desk.specs.declared.telling.ReleaseDue.TheVariants as releases
use Rattle.dm_event.specs.Vectors.{is_at_most}
use Rattle.dm_event.specs.declared.placing.Placing.{Placing}
use Rattle.dm_event.specs.declared.placing.Placing.TheVariants as placing
use Rattle.dm_event.specs.declared.step.Cause.TheVariants.{Log}
use Rattle.dm_event.specs.declared.step.Pair.{Pair}
use Rattle.dm_event.specs.declared.step.TxnId.{TxnId}
use Rattle.dm_redo.specs.declared.appending.Appended.{Appended}
use Rattle.dm_redo.specs.declared.appending.Appended.TheVariants as append

-- ---- what comes of a placing

abbrev pub release_by : Option TxnId → ℕ → ℕ → List ℕ → ReleaseDue
release_by (Some txn) epoch to vector = releases.Not (released.Running txn)
release_by None epoch to vector = releases.Ready epoch to vector

abbrev pub release_up : ℕ → Placing → Option TxnId → List ℕ → ReleaseDue
release_up site (placing.Asked at epoch to) who vector =
    if at == site then release_by who epoch to vector else releases.Not (released.Passed (placing.Asked at epoch to))
release_up site other who vector = releases.Not (released.Passed other)

abbrev pub release_due : ℕ → Bool → Placing → Option TxnId → List ℕ → ReleaseDue
release_due site down now who vector = if down then releases.Not released.Down else release_up site now who vector

abbrev pub grant_up : ℕ → Placing → List ℕ → GrantDue
grant_up site (placing.Between from epoch to vector) has =
    if to == site then (if is_at_most vector has then grants.Ready epoch vector else grants.Behind vector)
    else grants.Not (granted.Passed (placing.Between from epoch to vector))
grant_up site other has = grants.Not (granted.Passed other)

abbrev pub grant_due : ℕ → Bool → Placing → List ℕ → GrantDue
grant_due site down now has = if down then grants.Not granted.Down else grant_up site now has

-- ---- what is told of an append

abbrev pub told_release : Appended → ℕ → List ℕ → ReleaseAnswer
told_release append.Done site vector = released.Released vector
told_release append.Undone site vector = released.Failed (Log site)
told_release append.Doubt site vector = released.InDoubt

abbrev pub told_grant : Appended → ℕ → GrantAnswer
told_grant append.Done site = granted.Granted
told_grant append.Undone site = granted.Failed (Log site)
told_grant append.Doubt site = granted.InDoubt

abbrev pub told_commit : Appended → ℕ → ℕ → List ℕ → List Pair → CommitAnswer
told_commit append.Done site seq vector reads = committed.Committed seq vector reads
told_commit append.Undone site seq vector reads = committed.Failed (Log site)
told_commit append.Doubt site seq vector reads = committed.InDoubt
