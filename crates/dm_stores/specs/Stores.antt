-- What a site's store has of the history.
use Rattle.std.specs.List.{AllByRecursion}
use Rattle.std.specs.Prelude.{◌≡◌, ◌≤◌, ℕ, Bool, true, false, List, map, filter, reverse}
use Rattle.dm_event.specs.Layout.{Layout}
use Rattle.dm_event.specs.Vectors.{at}
use Rattle.dm_event.specs.declared.step.Entry.{Entry}
use Rattle.dm_event.specs.declared.step.Step.{Step}
use Rattle.dm_event.specs.declared.step.Step.TheVariants.{Commit, Refresh, Restart}
use Rattle.dm_model.specs.Acts.{entries}
use Rattle.dm_model.specs.Closed.{is_inside}
use Rattle.dm_model.specs.Progress.{site_vector}
use Rattle.dm_store.specs.Histories.{past_of, writers}
use Rattle.dm_store.specs.declared.past.Past.{Past}

-- of each key, the writers inside the vector were installed, in the history's order; of the entries the latest stands first
abbrev pub Has : List Entry → List ℕ → List Past → Type 0
Has es v installed = (key : ℕ) → writers key installed ≡ writers key (map past_of (filter (is_inside v) (reverse es)))

-- the store has, of each key, the writers inside the site's vector, and nothing above that vector
pub record Stores (layout : Layout) (past : List Step) (site : ℕ) (installed : List Past) : Type 0 where
  pub has : Has (entries past) (site_vector layout.sites past site) installed
  pub within : AllByRecursion (λ t. t.seq ≤ at (site_vector layout.sites past site) t.origin) installed

-- the step commits nothing, and leaves each site's vector where it is
abbrev pub is_still : Step → Bool
is_still (Commit entry) = false
is_still (Refresh site origin) = false
is_still (Restart site vector found) = false
is_still step = true
