-- Why a step may not come, in words.
use Rattle.std.specs.Prelude.{ℕ, List, ◌++◌, codes}
use Rattle.std.specs.Fmt.{decimal}
use Rattle.dm_event.specs.declared.why.Why.{Why}
use Rattle.dm_event.specs.declared.why.Why.TheVariants as whys
use Rattle.dm_text.specs.Texts.{txn_text, vector_text}
use Rattle.dm_history.specs.Parts.{choice_text}

unfoldable pub why_text : Why → List ℕ
why_text whys.Shape = codes "shape"
why_text (whys.NotDue due) = codes "due " ++ decimal due
why_text (whys.Unfinished txn) = codes "unfinished " ++ txn_text txn
why_text (whys.WrongVector due) = codes "vector " ++ vector_text due
why_text (whys.WrongChoice site choice) = codes "choice " ++ (decimal site ++ (codes " " ++ choice_text choice))
why_text (whys.Unsettled part) = codes "unsettled " ++ decimal part
why_text whys.NotRouted = codes "not routed"
why_text (whys.WrongSite due) = codes "site " ++ decimal due
why_text (whys.Down site) = codes "down " ++ decimal site
why_text (whys.Elsewhere part) = codes "elsewhere " ++ decimal part
why_text whys.AllHere = codes "all here"
why_text (whys.Behind component) = codes "behind " ++ decimal component
why_text (whys.Ahead component) = codes "ahead " ++ decimal component
why_text (whys.Held by key) = codes "held " ++ (txn_text by ++ (codes " key " ++ decimal key))
why_text (whys.NotClosed origin seq) = codes "not closed " ++ (decimal origin ++ (codes "." ++ decimal seq))
why_text whys.NotRunning = codes "not running"
why_text (whys.Undeclared key) = codes "undeclared " ++ decimal key
why_text whys.WrongBody = codes "body"
why_text whys.NoWrites = codes "no writes"
why_text whys.HasWrites = codes "writes"
why_text whys.Own = codes "own"
why_text whys.Missing = codes "missing"
why_text whys.WrongWant = codes "want"
why_text (whys.Home site) = codes "home " ++ decimal site
why_text whys.NotAsked = codes "not asked"
why_text (whys.Running txn) = codes "running " ++ txn_text txn
why_text whys.NotReleased = codes "not released"
why_text whys.NotGranted = codes "not granted"
why_text whys.WrongFound = codes "found"
why_text whys.WrongSaid = codes "said"
