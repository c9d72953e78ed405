-- How far a hand-over came.
use Rattle.std.specs.Prelude.{ℕ, Bool, true, false, List, Option, Some, None, Result, Ok, Err, IsTrue}
use Rattle.dm_client.specs.declared.bringing.Brought.{Brought}
use Rattle.dm_client.specs.declared.bringing.Brought.TheVariants as brought
use Rattle.dm_event.specs.Layout.{is_part}
use Rattle.dm_event.specs.declared.actor.Actor.TheVariants.{Session}
use Rattle.dm_event.specs.declared.placing.Placing.{Placing}
use Rattle.dm_event.specs.declared.placing.Placing.TheVariants.{Granted}
use Rattle.dm_event.specs.declared.step.Cause.TheVariants.{Memory}
use Rattle.dm_event.specs.declared.step.Said.{Said}
use Rattle.dm_event.specs.declared.step.Said.TheVariants as said
use Rattle.dm_event.specs.declared.step.TxnId.{TxnId}
use Rattle.dm_invariant.specs.Stations.{Rested, View, layout_of}
use Rattle.dm_model.specs.Tests.{is_among}
use Rattle.dm_sites.specs.Telling.{cause_of}
use Rattle.dm_sites.specs.declared.handing.Freed.{Freed}
use Rattle.dm_sites.specs.declared.handing.Freed.TheVariants as freed
use Rattle.dm_sites.specs.declared.handing.Given.{Given}
use Rattle.dm_sites.specs.declared.handing.Given.TheVariants as given
use Rattle.dm_sites.specs.declared.stop.Stop.{Stop}
use Rattle.dm_table.specs.Places.{IsSettledAt, WantsPart}

abbrev pub is_granted_now : Placing → Bool
is_granted_now (Granted site epoch) = true
is_granted_now other = false

abbrev pub is_over : Freed → Bool
is_over freed.Released = false
is_over (freed.Passed now) = is_granted_now now

abbrev pub is_given : Given → Bool
is_given given.Granted = true
is_given (given.Passed now) = is_granted_now now

abbrev pub BroughtAs : TxnId → ℕ → ℕ → View → View → Brought → Type 0
BroughtAs on part to old new (brought.There epoch) = Rested (Session on.session) old new × IsSettledAt part to epoch new
BroughtAs on part to old new brought.Elsewhere = Rested (Session on.session) old new

-- after one turn more, where it isn't there yet
abbrev pub BroughtOn : TxnId → ℕ → ℕ → View → View → Option Brought → Type 0
BroughtOn on part to old new None = Rested (Session on.session) old new
BroughtOn on part to old new (Some b) = BroughtAs on part to old new b

-- each partition of the set is there, and is one that the Route wants at the site, if it wants any
abbrev pub MayMove : TxnId → ℕ → List ℕ → Bool → View → Type 0
MayMove on to parts wanted pass = (part : ℕ) → IsTrue (is_among parts part)
    → IsTrue (is_part (layout_of pass) part) × (IsTrue wanted → WantsPart on part to pass)

-- what is said of it

abbrev pub said_brought : ℕ → ℕ → Result Brought Stop → Said
said_brought part to (Ok (brought.There epoch)) = said.Placed part to epoch
said_brought part to (Ok brought.Elsewhere) = said.Refused Memory
said_brought part to (Err stop) = said.Refused (cause_of stop)

abbrev pub said_restarted : ℕ → Result Unit Stop → Said
said_restarted site (Ok done) = said.Restarted site
said_restarted site (Err stop) = said.Refused (cause_of stop)
