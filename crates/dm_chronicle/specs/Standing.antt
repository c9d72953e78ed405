-- What contracts see of a chronicle, a pass and a turn.
use Rattle.std.specs.Prelude.{◌≡◌, List, [], ◌∷◌, map, Some, Option, Bool, IfSome}
use mathlib.Core.List.{IsPrefix}
use Rattle.atomic_table.specs.Seated.{TableId}
use Rattle.dm_event.specs.declared.actor.Actor.{Actor}
use Rattle.dm_chronicle.specs.Rule.{In, mine}

-- which table it is, the fixed part of its object, and its actors
pub record Ground (F : Type 0) : Type 0 where
  pub table : TableId
  pub fixed : F
  pub actors : List Actor

-- a list that was seen, and the actors whose steps in it are all that there are
pub record Standing (I F : Type 0) : Type 0 where
  pub table : TableId
  pub fixed : Option F
  pub actors : List Actor
  pub seen : List I

-- the object in hand
pub record Moving (L I F : Type 0) : Type 0 where
  pub table : TableId
  pub fixed : Option F
  pub actors : List Actor
  pub seen : List I
  pub kept : Option L

abbrev pub standing : {L I F : Type 0} → Moving L I F → Standing I F
standing t = record { table = t.table; fixed = t.fixed; actors = t.actors; seen = t.seen }

module _ {I F : Type 0} where
  -- the pass is one of this chronicle
  abbrev pub IsOf : Ground F → Standing I F → Type 0
  IsOf c p = p.table ≡ c.table

-- the actors' steps are the same in both lists
abbrev pub SameSteps : {I : Type 0} → (I → Actor → Bool) → List Actor → List I → List I → Type 0
SameSteps has actors xs ys = (a : Actor) → In a actors → mine has a ys ≡ mine has a xs

-- who stood so has seen more: the list goes on from what it was, without a further step of its actors, and all else is as before
pub record Sees {I F : Type 0} (has : I → Actor → Bool) (before now : Standing I F) : Type 0 where
  pub begins : IsPrefix before.seen now.seen
  pub own : SameSteps has before.actors before.seen now.seen
  pub same : now ≡ record before { seen = now.seen }

-- the one or two actors of the step are among these
abbrev pub Covers : {I : Type 0} → (I → Actor × Option Actor) → List Actor → I → Type 0
Covers actors held x = In (actors x).0 held × IfSome (actors x).1 (λ a. In a held)

-- the passes at the start, one for each actor
abbrev pub starts : {I F : Type 0} → TableId → F → List I → List Actor → List (Standing I F)
starts table fixed seen actors = map (λ a. record { table = table; fixed = Some fixed; actors = a ∷ []; seen = seen }) actors

-- two fixed parts that are there are the same
abbrev pub SameFixed : {F : Type 0} → Option F → Option F → Type 0
SameFixed {F} p q = (f g : F) → p ≡ Some f → q ≡ Some g → f ≡ g

-- the name of no table
abbrev pub no_table : TableId
no_table = record { words = 0; slots = 0; views_name = 0; atom = 0; block = 0; offset = 0; slot_names = [] }
