-- A session of the play, as contracts see it.
use Rattle.std.specs.Prelude.{◌≡◌, ℕ, Option, None, IfSome}
use Rattle.atomic_table.specs.Seated.{TableId}
use Rattle.dm_event.specs.Layout.{Layout}
use Rattle.dm_event.specs.declared.step.TxnId.{TxnId}
use Rattle.dm_invariant.specs.Running.{Going, IsHere}
use Rattle.dm_invariant.specs.Stations.{IsPassOf, View, layout_of}
use Rattle.dm_site.specs.Answers.{IsRoutedIn}

-- its number, the schema, its pass, what it runs at site 1, and the attempt that it has routed
pub record Seat : Type 0 where
  pub session : ℕ
  pub schema : Layout
  pub pass : View
  pub going : Option Going
  pub routed : Option TxnId

-- the pass is the session's own; what it runs is at site 1, what it has routed stands so, and it isn't both
pub record IsSeated (table : TableId) (at : Seat) : Type 0 where
  pub own : IsPassOf table at.session at.pass
  pub layout : layout_of at.pass ≡ at.schema
  pub runs : IfSome at.going (λ run. (run.txn.session ≡ at.session) × IsHere 1 at.pass run)
  pub stands : IfSome at.routed (λ txn. (txn.session ≡ at.session) × IsRoutedIn at.pass txn)
  pub alone : IfSome at.going (λ _. at.routed ≡ None)
