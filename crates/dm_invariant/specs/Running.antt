-- An attempt that runs, in its caller's hands.
use Rattle.std.specs.Prelude.{◌≡◌, ℕ, List, [], ◌∷◌, ◌++◌, reverse}
use mathlib.Core.List.{IsPrefix}
use Rattle.dm_body.specs.Progress.{Progress}
use Rattle.dm_event.specs.declared.actor.Actor.TheVariants.{Session}
use Rattle.dm_event.specs.declared.step.Op.{Op}
use Rattle.dm_event.specs.declared.step.Choice.{Choice}
use Rattle.dm_event.specs.declared.step.Step.{Step}
use Rattle.dm_event.specs.declared.step.Step.TheVariants.{Begin, Route}
use Rattle.dm_event.specs.declared.step.Want.{Want}
use Rattle.dm_event.specs.declared.step.TxnId.{TxnId}
use Rattle.dm_model.specs.Attempts.{declared}
use Rattle.dm_model.specs.Legal.{Legal}
use Rattle.dm_next.specs.Running.{Began}
use Rattle.dm_invariant.specs.Stations.{View, layout_of, own}

-- the attempt, its site, its begin vector, the keys that it declares, the ops done so far, and a pass in whose list its Begin stands
pub record Going : Type 0 where
  pub txn : TxnId
  pub site : ℕ
  pub begin : List ℕ
  pub declared : List ℕ
  pub ops : List Op
  pub was : View

-- Its Begin stands in the list, and its reads and writes so far are those of the body on the values at its begin vector.
pub record IsRun (txn : TxnId) (begin keys : List ℕ) (done : Progress) (was : View) : Type 0 where
  pub legal : Legal (layout_of was) was.seen
  pub began : Began (layout_of was) (reverse was.seen) txn begin done
  pub declares : keys ≡ declared txn (reverse was.seen)

-- The run's Begin is at the site, the session's pass has seen its list, and no step of the session came after that Begin.
pub record IsHere (site : ℕ) (pass : View) (run : Going) : Type 0 where
  pub site_is : run.site ≡ site
  pub fixed : run.was.fixed ≡ pass.fixed
  pub begins : IsPrefix run.was.seen pass.seen
  pub last : (before : List Step) × (own (Session run.txn.session) pass.seen ≡ before ++ Begin run.site run.txn run.begin ∷ [])

-- the session's last own step is the attempt's Route, which sent it to the site with the keys and the minimum
abbrev pub RoutedFor : TxnId → Want → List ℕ → ℕ → View → Type 0
RoutedFor txn wanted min site pass =
    (before : List Step) × (by : Choice) × (own (Session txn.session) pass.seen ≡ before ++ Route txn wanted min site by ∷ [])
