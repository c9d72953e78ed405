-- A site as contracts see it, and what passes have seen.
use Rattle.std.specs.Prelude.{◌≡◌, ℕ, Bool, List, [], ◌∷◌, ◌++◌, unwrap_or}
use mathlib.Core.List.{IsPrefix}
use Rattle.atomic_table.specs.Seated.{TableId}
use Rattle.dm_chronicle.specs.Belongs.{belongs}
use Rattle.dm_chronicle.specs.Rule.{mine}
use Rattle.dm_chronicle.specs.Standing.{Standing}
use Rattle.dm_core.specs.Lawful.{Terms}
use Rattle.dm_event.specs.Actors.{actors}
use Rattle.dm_event.specs.Layout.{Layout}
use Rattle.dm_event.specs.declared.actor.Actor.{Actor}
use Rattle.dm_event.specs.declared.actor.Actor.TheVariants.{Session}
use Rattle.dm_event.specs.declared.step.Step.{Step}
use Rattle.dm_locks.specs.Locks.{Locks}
use Rattle.dm_store.specs.declared.past.Past.{Past}

-- its number, what its store has, its lock table, whether its log is live, what its pass stands for, and its disk
pub record Station (D : Type 0) : Type 0 where
  pub number : ℕ
  pub installed : List Past
  pub locks : Locks
  pub live : Bool
  pub pass : Standing Step Terms
  pub disk : D

-- what a pass stands for
abbrev pub View : Type 0
View = Standing Step Terms

-- what no step changes, of no chronicle
abbrev pub no_terms : Terms
no_terms = record {
  layout = record { sites = 0; width = 0; masters = []; weights = record { balance = 0; delay = 0; together = 0 }; values = [] };
  items = [];
}

abbrev pub terms_of : View → Terms
terms_of pass = unwrap_or pass.fixed no_terms

-- what the schema says
abbrev pub layout_of : View → Layout
layout_of pass = (terms_of pass).layout

-- the actor's steps
abbrev pub own : Actor → List Step → List Step
own actor steps = mine (belongs actors) actor steps

-- the same pass, which has seen no less
pub record Went (old new : View) : Type 0 where
  pub table : new.table ≡ old.table
  pub fixed : new.fixed ≡ old.fixed
  pub actors : new.actors ≡ old.actors
  pub begins : IsPrefix old.seen new.seen

-- no step of the actor came
abbrev pub Rested : Actor → View → View → Type 0
Rested actor old new = own actor new.seen ≡ own actor old.seen

-- one step of the actor came
abbrev pub Did : Actor → View → View → Step → Type 0
Did actor old new step = own actor new.seen ≡ own actor old.seen ++ step ∷ []

-- the session's own pass of the chronicle
abbrev pub IsPassOf : TableId → ℕ → View → Type 0
IsPassOf table session pass = (pass.table ≡ table) × (pass.actors ≡ Session session ∷ [])
