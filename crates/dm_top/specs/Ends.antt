-- What a command leaves: a text, and a history.
use Rattle.std.specs.Prelude.{◌≡◌, ℕ, List, [], take, Option}
use Rattle.dm_disk.specs.Faults.{Rose}
use Rattle.dm_disk.specs.Putting.{appended}
use Rattle.dm_event.specs.Layout.{Layout}
use Rattle.dm_event.specs.declared.step.Step.{Step}
use Rattle.dm_model.specs.Legal.{Legal}
use Rattle.dm_model.specs.OneMaster.{OneMaster}
use Rattle.dm_model.specs.Ordered.{Ordered}
use Rattle.dm_model.specs.SessionUp.{SessionUp}
use Rattle.dm_model.specs.Snapshot.{Snapshot}

-- what a sink had and what it has, and its counts of faults before the call and after it
pub record Output : Type 0 where
  pub had : Option (List ℕ)
  pub has : Option (List ℕ)
  pub before : ℕ
  pub after : ℕ

-- the whole text is written
abbrev pub Wrote : Output → List ℕ → Type 0
Wrote out text = out.has ≡ appended out.had text

-- a part of the text, from its front, is written, and then the sink had a fault
pub record WrotePart (out : Output) (text : List ℕ) : Type 0 where
  pub count : ℕ
  pub part : out.has ≡ appended out.had (take count text)
  pub fault : Rose out.before out.after

-- nothing is written
abbrev pub WroteNothing : Output → Type 0
WroteNothing out = out.has ≡ out.had

-- no step was made, and nothing is written
pub record IsNothing (out : Output) (history : List Step) : Type 0 where
  pub no_step : history ≡ []
  pub silent : WroteNothing out

-- the history is legal: each transaction read its snapshot, the writers of a key are in order, no session falls behind what it
-- has seen, and each partition has one master
pub record IsHistory (layout : Layout) (history : List Step) : Type 0 where
  pub legal : Legal layout history
  pub snapshot : Snapshot layout history
  pub ordered : Ordered history
  pub session_up : SessionUp layout history
  pub one_master : OneMaster layout history
