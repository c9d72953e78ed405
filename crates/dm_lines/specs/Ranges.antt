-- The ranges of the numbers of a line.
use Rattle.std.specs.Prelude.{ℕ, ◌≡◌, ◌<◌, ◌≤◌, List, length, Bool, true, Option, Some, None}
use Rattle.std.specs.List.{list_all}
use Rattle.dm_event.specs.Layout.{Layout, key_count, is_key}
use Rattle.dm_event.specs.declared.limits.TheConstants.{MAX_SESSIONS}
use Rattle.dm_event.specs.declared.step.Want.{Want}
use Rattle.dm_event.specs.declared.step.Want.TheVariants as want
use Rattle.dm_lines.specs.declared.line.Line.{Line}
use Rattle.dm_lines.specs.declared.line.Line.TheVariants as lines

unfoldable pub are_keys : Layout → List ℕ → Bool
are_keys layout keys = list_all (is_key layout) keys

-- The same as facts, for the callers of the reader.

abbrev pub IsSession : ℕ → Type 0
IsSession session = (1 ≤ session) × (session ≤ MAX_SESSIONS)

abbrev pub IsSite : Layout → ℕ → Type 0
IsSite layout site = (1 ≤ site) × (site ≤ layout.sites)

abbrev pub IsPart : Layout → ℕ → Type 0
IsPart layout part = part < length layout.masters

-- a line that names no site leaves the choice of one for a transaction
abbrev pub FitsRoute : Layout → Want → Option ℕ → Type 0
FitsRoute layout (want.Txn keys) None = list_all (is_key layout) keys ≡ true
FitsRoute layout (want.Txn keys) (Some site) = (list_all (is_key layout) keys ≡ true) × IsSite layout site
FitsRoute layout (want.Place part) None = ⊥
FitsRoute layout (want.Place part) (Some site) = IsPart layout part × IsSite layout site
FitsRoute layout want.Restart None = ⊥
FitsRoute layout want.Restart (Some site) = IsSite layout site

-- the line's numbers are inside the limits and the schema
abbrev pub Fits : Layout → Line → Type 0
Fits layout (lines.Route session want site) = IsSession session × FitsRoute layout want site
Fits layout (lines.Begin session) = IsSession session
Fits layout (lines.Get session key) = IsSession session × (key < key_count layout)
Fits layout (lines.Put session key value) = IsSession session × (key < key_count layout)
Fits layout (lines.Add session key by) = IsSession session × (key < key_count layout)
Fits layout (lines.Commit session) = IsSession session
Fits layout (lines.Reply session) = IsSession session
Fits layout (lines.Fail session memory) = IsSession session
Fits layout (lines.Refresh site origin) = IsSite layout site × IsSite layout origin
Fits layout (lines.Ask part session) = IsPart layout part × IsSession session
Fits layout (lines.Release part) = IsPart layout part
Fits layout (lines.Grant part) = IsPart layout part
Fits layout (lines.Settle part) = IsPart layout part
Fits layout (lines.DoubtCommit session) = IsSession session
Fits layout (lines.DoubtRelease part) = IsPart layout part
Fits layout (lines.DoubtGrant part) = IsPart layout part
Fits layout (lines.Restart site found) = IsSite layout site
