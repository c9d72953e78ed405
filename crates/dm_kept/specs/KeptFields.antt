-- What the fields say.
use Rattle.std.specs.Prelude.{◌≡◌, ◌-◌, length, reverse, vec_len, vec_capacity}
use Rattle.dm_aims.specs.Aiming.{AreAims}
use Rattle.dm_event.specs.declared.limits.TheConstants.{MAX_SESSIONS}
use Rattle.dm_index.specs.Places.{ArePlaces}
use Rattle.dm_kept.specs.Roomy.{KeepsRoom}
use Rattle.dm_kept.specs.Ledger.{Ledger}
use Rattle.dm_kept.specs.declared.kept.Kept.TheInside.{Inside}
use Rattle.dm_model.specs.Choices.{window as window_of}
use Rattle.dm_model.specs.Legal.{Legal}
use Rattle.dm_numbers.specs.Counted.{AreNumbers}
use Rattle.dm_room.specs.Room.{kept}
use Rattle.dm_runs.specs.Running.{AreRuns}
use Rattle.dm_state.specs.Standings.{AreStates}
use Rattle.dm_store.specs.Histories.{committed}

abbrev pub shown : Inside → Ledger
shown k = record {
  layout = k.schema;
  items = k.items.items;
  steps = k.steps.items;
  room = vec_capacity k.steps - vec_len k.steps;
  begins = k.runs.room;
  places = k.index.rooms;
  installs = k.store.spare;
  known = k.store.known;
}

-- the history is legal, and all that is kept tells of it
pub record IsKept (k : Inside) : Type 0 where
  pub legal : Legal k.schema k.steps.items
  pub states : AreStates k.schema (reverse k.steps.items) k.states
  pub numbers : AreNumbers k.schema (reverse k.steps.items) k.numbers
  pub places : ArePlaces k.schema k.steps.items k.index
  pub aims : AreAims k.schema (reverse k.steps.items) k.aims
  pub runs : AreRuns (reverse k.steps.items) k.runs.runs
  pub layout : k.store.layout ≡ k.schema
  pub installed : k.store.installed ≡ committed k.steps.items
  pub window : k.window ≡ reverse (window_of k.schema (reverse k.steps.items))
  pub sessions : length k.items.items ≡ MAX_SESSIONS
  pub count : k.kept ≡ kept k.schema k.items.items (reverse k.steps.items)
  pub room : KeepsRoom (shown k)
