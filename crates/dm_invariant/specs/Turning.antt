-- What a turn has of the passes that met in it.
use Rattle.std.specs.Prelude.{◌≡◌, Bool, true, false, List, [], ◌∷◌, ◌++◌, Option, IsSomeAnd}
use mathlib.Core.List.{IsPrefix}
use Rattle.dm_chronicle.specs.Belongs.{belongs}
use Rattle.dm_chronicle.specs.Rule.{Legal as Follows}
use Rattle.dm_chronicle.specs.Standing.{SameSteps}
use Rattle.dm_core.specs.Lawful.{Terms, may_follow}
use Rattle.dm_event.specs.Actors.{actors}
use Rattle.dm_event.specs.declared.step.Step.{Step}
use Rattle.dm_event.specs.declared.step.Step.TheVariants.{Moved, Commit, End, Fail, Release, Grant, Doubt}
use Rattle.dm_event.specs.declared.actor.Actor.{Actor}
use Rattle.dm_others.specs.Adding.{AddsOthers}
use Rattle.dm_invariant.specs.Stations.{View}

-- the turn's list goes on from what the pass has seen, with no further step of its actors
pub record Turned (pass : View) (turn : List Step) (fixed : Option Terms) : Type 0 where
  pub begins : IsPrefix pass.seen turn
  pub same : SameSteps (belongs actors) pass.actors pass.seen turn
  pub fixed_is : fixed ≡ pass.fixed
  pub follows : IsSomeAnd fixed (λ f. Follows may_follow f [] turn)

-- a step by which something comes to its end: it needs no room beside what is kept
abbrev pub is_ending : Step → Bool
is_ending (Moved site txn) = true
is_ending (Commit entry) = true
is_ending (End site txn ops reads) = true
is_ending (Fail site txn cause) = true
is_ending (Release site part epoch to vector) = true
is_ending (Grant site part epoch vector) = true
is_ending (Doubt site p) = true
is_ending step = false

-- one step came in a turn, which both passes have seen
pub record Came (site session : Actor) (own0 pass0 own1 pass1 : View) (step : Step) : Type 0 where
  pub turn : List Step
  pub of_site : AddsOthers site pass0.seen turn
  pub of_session : AddsOthers session own0.seen turn
  pub own : own1 ≡ record own0 { seen = turn ++ step ∷ [] }
  pub pass : pass1 ≡ record pass0 { seen = turn ++ step ∷ [] }

-- no step came in a turn, which both passes have seen
pub record Met (site session : Actor) (own0 pass0 own1 pass1 : View) : Type 0 where
  pub turn : List Step
  pub of_site : AddsOthers site pass0.seen turn
  pub of_session : AddsOthers session own0.seen turn
  pub own : own1 ≡ record own0 { seen = turn }
  pub pass : pass1 ≡ record pass0 { seen = turn }
