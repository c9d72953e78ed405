-- The clauses of each kind of step but for its shape, as functions of what they read of the past. The step's own values stand
-- last.
use Rattle.std.specs.Prelude.{ℕ, ◌+◌, Bool, true, false, ◌==◌, ◌&&◌, ◌||◌, not, List, [], ◌∷◌, Option, Some, unwrap_or, is_some}
use Rattle.dm_event.specs.Vectors.{at, same_numbers}
use Rattle.dm_event.specs.declared.attempt.Attempt.{Attempt}
use Rattle.dm_event.specs.declared.attempt.AttemptState.{AttemptState}
use Rattle.dm_event.specs.declared.attempt.AttemptState.TheVariants as stands
use Rattle.dm_event.specs.declared.placing.Placing.{Placing}
use Rattle.dm_event.specs.declared.placing.Placing.TheVariants.{Settled, Asked, Between, Granted}
use Rattle.dm_event.specs.declared.step.Choice.{Choice}
use Rattle.dm_event.specs.declared.step.Choice.TheVariants.{Hand}
use Rattle.dm_event.specs.declared.step.Entry.{Entry}
use Rattle.dm_event.specs.declared.step.Found.{Found}
use Rattle.dm_event.specs.declared.step.Found.TheVariants.{Clean, Kept, Lost}
use Rattle.dm_event.specs.declared.step.Op.{Op}
use Rattle.dm_event.specs.declared.step.Pair.{Pair}
use Rattle.dm_event.specs.declared.step.TxnId.{TxnId}
use Rattle.dm_event.specs.declared.why.Why.TheVariants as why
use Rattle.dm_model.specs.Bodies.{Ran, has_writes}
use Rattle.dm_model.specs.Clauses.{Clause, holds, none_of, at_site}
use Rattle.dm_model.specs.Tests.{same_pairs, same_choice}

-- ---- steps of a session

-- the item may have a further Route: it has none yet, or the last attempt was sent away or dropped
abbrev pub may_route : AttemptState → Bool
may_route stands.Unrouted = true
may_route stands.Moved = true
may_route stands.Dropped = true
may_route other = false

-- the choice is the one due, or by hand
abbrev pub may_choose : ℕ × Choice → ℕ → Choice → Bool
may_choose due site Hand = true
may_choose due site choice = (site == due.0) && same_choice choice due.1

-- the number, the attempt, the least vector and the choice that are due, and how the session's current item stands
abbrev pub route_row : ℕ → ℕ → List ℕ → ℕ × Choice → Attempt → TxnId → List ℕ → ℕ → Choice → List Clause
route_row number attempt least due last txn min site choice =
    holds (txn.number == number) (why.NotDue number)
    ∷ holds (may_route last.state) (why.Unfinished (unwrap_or last.txn txn))
    ∷ holds (txn.attempt == attempt) (why.NotDue attempt)
    ∷ holds (same_numbers min least) (why.WrongVector least)
    ∷ holds (may_choose due site choice) (why.WrongChoice due.0 due.1)
    ∷ []

-- the number that is due, and whether the outcome is allowed
abbrev pub reply_row : ℕ → Bool → ℕ → List Clause
reply_row due allowed number =
    holds (number == due) (why.NotDue due)
    ∷ holds allowed why.WrongSaid
    ∷ []

-- ---- steps of an attempt

-- what a Begin reads of the past
pub record BeginReads : Type 0 where
  -- the site to which the attempt is routed for a transaction
  pub to : Option ℕ
  -- whether the site is down
  pub down : Bool
  -- the least declared partition on which the site may not begin
  pub elsewhere : Option ℕ
  -- the site's vector
  pub vector : List ℕ
  -- the least component in which the Route's minimum is above the begin vector
  pub behind : Option ℕ
  -- the earliest begun attempt there that declares a common key, with the least such key
  pub holder : Option (TxnId × ℕ)

abbrev pub begin_row : BeginReads → ℕ → List ℕ → List Clause
begin_row reads site begin =
    holds (is_some reads.to) why.NotRouted
    ∷ at_site reads.to site
    ∷ holds (not reads.down) (why.Down site)
    ∷ none_of reads.elsewhere why.Elsewhere
    ∷ holds (same_numbers begin reads.vector) (why.WrongVector reads.vector)
    ∷ none_of reads.behind why.Behind
    ∷ none_of reads.holder (λ held. why.Held held.0 held.1)
    ∷ []

-- the first three of what a Begin reads
abbrev pub moved_row : Option ℕ → Bool → Option ℕ → ℕ → List Clause
moved_row to down elsewhere site =
    holds (is_some to) why.NotRouted
    ∷ at_site to site
    ∷ holds (not down) (why.Down site)
    ∷ holds (is_some elsewhere) why.AllHere
    ∷ []

-- what a Commit reads of the past
pub record CommitReads : Type 0 where
  -- the site at which the attempt runs
  pub runs : Option ℕ
  -- the number that is due
  pub due : ℕ
  -- the vector from which the attempt runs
  pub begin : List ℕ
  -- the key of the first write that the attempt did not declare
  pub undeclared : Option ℕ
  -- what the ops read and write on the values at the begin vector
  pub ran : Ran

abbrev pub commit_row : CommitReads → Entry → List Clause
commit_row reads entry =
    holds (is_some reads.runs) why.NotRunning
    ∷ at_site reads.runs entry.origin
    ∷ holds (entry.seq == reads.due) (why.NotDue reads.due)
    ∷ holds (same_numbers entry.begin reads.begin) (why.WrongVector reads.begin)
    ∷ none_of reads.undeclared why.Undeclared
    ∷ holds (same_pairs entry.reads reads.ran.reads && same_pairs entry.writes reads.ran.writes) why.WrongBody
    ∷ holds (has_writes entry.ops) why.NoWrites
    ∷ []

-- the site at which the attempt runs, and what its ops read
abbrev pub end_row : Option ℕ → List Pair → ℕ → List Op → List Pair → List Clause
end_row runs due site ops reads =
    holds (is_some runs) why.NotRunning
    ∷ at_site runs site
    ∷ holds (not (has_writes ops)) why.HasWrites
    ∷ holds (same_pairs reads due) why.WrongBody
    ∷ []

-- whether the attempt is routed, and the site at which it runs
abbrev pub fail_row : Bool → Option ℕ → ℕ → List Clause
fail_row routed runs site =
    holds (routed || is_some runs) why.NotRunning
    ∷ at_site runs site
    ∷ []

-- ---- steps of a site

-- whether the site is down, whether the origin has a next entry for it, and the least other component in which the site lacks
-- what that entry needs
abbrev pub refresh_row : Bool → Bool → Option ℕ → ℕ → ℕ → List Clause
refresh_row down next behind site origin =
    holds (not (site == origin)) why.Own
    ∷ holds (not down) (why.Down site)
    ∷ holds next why.Missing
    ∷ none_of behind why.Behind
    ∷ []

-- the log is found without a step in doubt where the site is up, and with or without one where it is down
abbrev pub found_fits : Found → Bool → Bool
found_fits Clean down = not down
found_fits Kept down = down
found_fits Lost down = down

-- whether the site is down, the number of its entries, the least component in which its floor is above the vector, the least
-- in which the vector is above the site's, and the origin and number of the first entry for which the vector isn't closed
abbrev pub restart_row : Bool → ℕ → Option ℕ → Option ℕ → Option (ℕ × ℕ) → ℕ → List ℕ → Found → List Clause
restart_row down due behind ahead unclosed site vector found =
    holds (found_fits found down) why.WrongFound
    ∷ holds (at vector site == due) (why.NotDue due)
    ∷ none_of behind why.Behind
    ∷ none_of ahead why.Ahead
    ∷ none_of unclosed (λ entry. why.NotClosed entry.0 entry.1)
    ∷ []

-- ---- steps of a hand-over

-- the clauses of a step that needs the partition placed so; else the one that says it isn't

abbrev pub when_settled : Placing → ℕ → (ℕ → ℕ → List Clause) → List Clause
when_settled (Settled site epoch) part go = go site epoch
when_settled other part go = Some (why.Unsettled part) ∷ []

abbrev pub when_asked : Placing → (ℕ → ℕ → ℕ → List Clause) → List Clause
when_asked (Asked site epoch to) go = go site epoch to
when_asked other go = Some why.NotAsked ∷ []

abbrev pub when_between : Placing → (ℕ → ℕ → List ℕ → List Clause) → List Clause
when_between (Between site epoch to vector) go = go epoch to vector
when_between other go = Some why.NotReleased ∷ []

abbrev pub when_granted : Placing → (ℕ → List Clause) → List Clause
when_granted (Granted site epoch) go = go epoch
when_granted other go = Some why.NotGranted ∷ []

-- whether the attempt is routed, whether its Route wants the partition at the site, and the partition's placing
abbrev pub ask_row : Bool → Bool → Placing → ℕ → ℕ → ℕ → List Clause
ask_row routed wanted now part epoch to =
    holds routed why.NotRouted
    ∷ holds wanted why.WrongWant
    ∷ when_settled now part (λ site due.
    holds (epoch == due) (why.NotDue due)
    ∷ holds (not (site == to)) (why.Home site)
    ∷ [])

-- the partition's placing, whether the site is down, the earliest begun attempt there that declares a key of the partition,
-- and the site's vector
abbrev pub release_row : Placing → Bool → Option TxnId → List ℕ → ℕ → ℕ → ℕ → List ℕ → List Clause
release_row now down runner own site epoch to vector =
    when_asked now (λ master due wanted.
    holds (master == site) (why.WrongSite master)
    ∷ holds (epoch == due) (why.NotDue due)
    ∷ holds (to == wanted) (why.WrongSite wanted)
    ∷ holds (not down) (why.Down site)
    ∷ none_of runner why.Running
    ∷ holds (same_numbers vector own) (why.WrongVector own)
    ∷ [])

-- the partition's placing, whether the site is down, and the least component in which the vector is above the site's
abbrev pub grant_row : Placing → Bool → Option ℕ → ℕ → ℕ → List ℕ → List Clause
grant_row now down behind site epoch vector =
    when_between now (λ released to due.
    holds (to == site) (why.WrongSite to)
    ∷ holds (epoch == released + 1) (why.NotDue (released + 1))
    ∷ holds (same_numbers vector due) (why.WrongVector due)
    ∷ holds (not down) (why.Down site)
    ∷ none_of behind why.Behind
    ∷ [])

-- the partition's placing
abbrev pub settle_row : Placing → ℕ → List Clause
settle_row now epoch =
    when_granted now (λ due.
    holds (epoch == due) (why.NotDue due)
    ∷ [])
