-- What a command says to the user.
use Rattle.std.specs.Prelude.{ℕ, List, ◌++◌, codes}
use Rattle.std.specs.Fmt.{decimal}
use Rattle.dm_event.specs.declared.why.LineFault.{LineFault}
use Rattle.dm_event.specs.declared.why.LineFault.TheVariants as fault
use Rattle.dm_history.specs.Whys.{why_text}
use Rattle.dm_schema.specs.declared.error.SchemaFlaw.{SchemaFlaw}
use Rattle.dm_schema.specs.declared.error.SchemaFlaw.TheVariants as flaws
use Rattle.dm_top.specs.declared.status.Status.{Status}
use Rattle.dm_top.specs.declared.status.Status.TheVariants as status

unfoldable pub fault_text : LineFault → List ℕ
fault_text fault.Word = codes "word"
fault_text fault.Count = codes "count"
fault_text fault.Number = codes "number"
fault_text fault.Range = codes "range"
fault_text fault.Repeat = codes "repeat"
fault_text fault.Unfinished = codes "unfinished"

unfoldable pub flaw_text : SchemaFlaw → List ℕ
flaw_text flaws.NotToml = codes "not toml"
flaw_text (flaws.Unknown name) = codes "unknown " ++ name
flaw_text (flaws.Missing name) = codes "missing " ++ name
flaw_text (flaws.WrongType name) = codes "wrong type " ++ name
flaw_text (flaws.Range name) = codes "out of range " ++ name

unfoldable pub limit_text : ℕ → List ℕ
limit_text limit = codes ": longer than " ++ (decimal limit ++ codes " bytes")

-- what `check` writes of so many steps
unfoldable pub legal_text : ℕ → List ℕ
legal_text steps = codes "legal " ++ (decimal steps ++ codes "\n")

-- how a command ended
unfoldable pub status_text : Status → List ℕ
status_text status.Done = codes "done"
status_text status.BadWords = codes "bad words"
status_text (status.Absent name) = name ++ codes ": absent"
status_text (status.TooLong name limit) = name ++ limit_text limit
status_text (status.SchemaFault flaw) = codes "schema: " ++ flaw_text flaw
status_text (status.StepFault line kind) = codes "line " ++ (decimal line ++ (codes ": " ++ fault_text kind))
status_text (status.CheckedNo step why) = codes "step " ++ (decimal step ++ (codes ": " ++ why_text why))
status_text status.ReadFault = codes "read fault"
status_text status.WriteFault = codes "write fault"
status_text status.Memory = codes "no memory"
