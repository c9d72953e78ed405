-- The parts of a step's line.
use Rattle.std.specs.Prelude.{ℕ, List, [], ◌∷◌, ◌++◌, Option, Some, None, codes}
use Rattle.std.specs.Fmt.{decimal, signed_decimal}
use Rattle.dm_event.specs.declared.step.Op.{Op}
use Rattle.dm_event.specs.declared.step.Op.TheVariants as ops
use Rattle.dm_event.specs.declared.step.Want.{Want}
use Rattle.dm_event.specs.declared.step.Want.TheVariants as wants
use Rattle.dm_event.specs.declared.step.Choice.{Choice}
use Rattle.dm_event.specs.declared.step.Choice.TheVariants.{Master, Best, Reader, Hand}
use Rattle.dm_event.specs.declared.step.Found.{Found}
use Rattle.dm_event.specs.declared.step.Found.TheVariants.{Clean, Kept, Lost}
use Rattle.dm_event.specs.declared.step.Cause.{Cause}
use Rattle.dm_event.specs.declared.step.Cause.TheVariants.{Undeclared, Log, Damage, Memory}
use Rattle.dm_event.specs.declared.step.Said.{Said}
use Rattle.dm_event.specs.declared.step.Said.TheVariants as saids
use Rattle.dm_text.specs.Texts.{joined}

-- words with a space between each two
abbrev pub spaced : List (List ℕ) → List ℕ
spaced [] = []
spaced (word ∷ []) = word
spaced (word ∷ next ∷ words) = word ++ (codes " " ++ spaced (next ∷ words))

-- the same with a line feed at the end
abbrev pub line_of : List (List ℕ) → List ℕ
line_of [] = codes "\n"
line_of (word ∷ []) = word ++ codes "\n"
line_of (word ∷ next ∷ words) = word ++ (codes " " ++ line_of (next ∷ words))

-- `3,15`, and `-` where there is none
unfoldable pub keys_text : List ℕ → List ℕ
keys_text [] = codes "-"
keys_text (key ∷ others) = joined 44 decimal (key ∷ others)

-- a read, a write and an addition
unfoldable pub op_text : Op → List ℕ
op_text (ops.Read key) = codes "g" ++ decimal key
op_text (ops.Write key value) = codes "p" ++ (decimal key ++ (codes ":" ++ signed_decimal value))
op_text (ops.Add key by) = codes "a" ++ (decimal key ++ (codes ":" ++ signed_decimal by))

-- `g3,p3:5`, and `-` where there is none
unfoldable pub ops_text : List Op → List ℕ
ops_text [] = codes "-"
ops_text (op ∷ others) = joined 44 op_text (op ∷ others)

-- what an item is
unfoldable pub want_text : Want → List ℕ
want_text (wants.Txn keys) = codes "txn " ++ keys_text keys
want_text (wants.Place part) = codes "place " ++ decimal part
want_text wants.Restart = codes "restart"

unfoldable pub choice_text : Choice → List ℕ
choice_text Master = codes "master"
choice_text Best = codes "best"
choice_text Reader = codes "reader"
choice_text Hand = codes "hand"

unfoldable pub found_text : Found → List ℕ
found_text Clean = codes "clean"
found_text Kept = codes "kept"
found_text Lost = codes "lost"

-- a byte of a log, and `-` past its end
unfoldable pub byte_text : Option ℕ → List ℕ
byte_text (Some byte) = decimal byte
byte_text None = codes "-"

-- why an attempt failed, behind its site, which is the site of a log too (an undeclared key lets no attempt fail)
unfoldable pub cause_text : Cause → List ℕ
cause_text (Undeclared key) = codes "undeclared " ++ decimal key
cause_text (Log site) = codes "log"
cause_text (Damage site place read written) = spaced (codes "damage" ∷ decimal place ∷ byte_text read ∷ byte_text written ∷ [])
cause_text Memory = codes "memory"

-- why an item was refused, with the site
unfoldable pub refusal_text : Cause → List ℕ
refusal_text (Undeclared key) = codes "undeclared " ++ decimal key
refusal_text (Log site) = codes "log " ++ decimal site
refusal_text (Damage site place read written) = spaced (codes "damage" ∷ decimal site ∷ decimal place ∷ byte_text read ∷ byte_text written ∷ [])
refusal_text Memory = codes "memory"

-- how an item was answered
unfoldable pub said_text : Said → List ℕ
said_text (saids.Committed site seq) = spaced (codes "committed" ∷ decimal site ∷ decimal seq ∷ [])
said_text (saids.Read site) = codes "read " ++ decimal site
said_text (saids.InDoubt site) = codes "doubt " ++ decimal site
said_text (saids.Placed part site epoch) = spaced (codes "placed" ∷ decimal part ∷ decimal site ∷ decimal epoch ∷ [])
said_text (saids.Restarted site) = codes "restarted " ++ decimal site
said_text (saids.Refused cause) = codes "refused " ++ refusal_text cause
