-- For what a site may start again.
use Rattle.std.specs.Prelude.{◌≡◌, ℕ, List}
use Rattle.dm_event.specs.declared.step.Found.{Found}
use Rattle.dm_event.specs.declared.step.Found.TheVariants.{Clean}
use Rattle.dm_event.specs.declared.step.TxnId.{TxnId}
use Rattle.dm_event.specs.declared.step.Want.TheVariants as want
use Rattle.dm_invariant.specs.Running.{RoutedFor}
use Rattle.dm_invariant.specs.Stations.{View}

-- where nothing was in doubt, an attempt of the session stands routed for the site's Restart
abbrev pub IsCleanFor : ℕ → Found → ℕ → View → View → Type 0
IsCleanFor site found session pass own =
    found ≡ Clean → (txn : TxnId) × (txn.session ≡ session) × ((min : List ℕ) × RoutedFor txn want.Restart min site own)
