-- Histories whose judgement is known, worked out by computation: what each definition gives on small examples.
pub mod EightSteps
pub mod Transactions
pub mod HandOvers
pub mod Restarts
pub mod Sessions
pub mod Choices
pub mod Bodies
pub mod Outcomes
pub mod Refusals
use Rattle.std.specs.Option.{option_or}
use Rattle.std.specs.Prelude.{ℕ, pos, List, [], ◌∷◌, Option, None}
use Rattle.dm_event.specs.Layout.{Layout}
use Rattle.dm_event.specs.declared.step.Choice.TheVariants.{Hand}
use Rattle.dm_event.specs.declared.step.Op.{Op}
use Rattle.dm_event.specs.declared.step.Pair.{Pair}
use Rattle.dm_event.specs.declared.step.Step.{Step}
use Rattle.dm_event.specs.declared.step.Step.TheVariants.{Route, Commit}
use Rattle.dm_event.specs.declared.step.TxnId.{TxnId}
use Rattle.dm_event.specs.declared.step.Want.TheVariants as want
use Rattle.dm_event.specs.declared.why.Why.{Why}
use Rattle.dm_model.specs.Allowed.{refusal}

-- the first refusal of the steps, each judged by the past and those before it
abbrev pub judge : Layout → List Step → List Step → Option Why
judge layout past [] = None
judge layout past (s ∷ steps) = option_or (refusal layout past s) (judge layout (s ∷ past) steps)

-- two sites and two partitions of ten keys: site 1 opens with the keys 0 to 9, site 2 with the keys 10 to 19
abbrev pub two_sites : Layout
two_sites = record { sites = 2; width = 10; masters = 1 ∷ 2 ∷ []; weights = record { balance = 1; delay = 1; together = 1 }; values = [] }

-- a third site, which opens with none
abbrev pub three_sites : Layout
three_sites = record { sites = 3; width = 10; masters = 1 ∷ 2 ∷ []; weights = record { balance = 1; delay = 1; together = 1 }; values = [] }

abbrev pub txn : ℕ → ℕ → ℕ → TxnId
txn session number attempt = record { session = session; number = number; attempt = attempt }

abbrev pub pair : ℕ → ℕ → Pair
pair key value = record { key = key; value = pos value }

-- a Route by hand, of a transaction with these keys
abbrev pub route : TxnId → List ℕ → List ℕ → ℕ → Step
route t keys min site = Route t (want.Txn keys) min site Hand

-- a Commit of the ops, with what they read and write
abbrev pub commit : TxnId → ℕ → ℕ → List ℕ → List Op → List Pair → List Pair → Step
commit t origin seq begin ops reads writes =
    Commit (record { txn = t; origin = origin; seq = seq; begin = begin; ops = ops; reads = reads; writes = writes })
