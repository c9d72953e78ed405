-- Lists of clauses, of which the first that fails gives the reason.
use Rattle.std.specs.Option.{option_or}
use Rattle.std.specs.Prelude.{ℕ, Bool, ◌==◌, if◌then◌else◌, List, [], ◌∷◌, Option, Some, None, option_map, option_and_then}
use Rattle.dm_event.specs.declared.why.Why.{Why}
use Rattle.dm_event.specs.declared.why.Why.TheVariants as why

-- a clause: None where it holds, else the reason
abbrev pub Clause : Type 0
Clause = Option Why

-- the test passes
abbrev pub holds : Bool → Why → Clause
holds test reason = if test then None else Some reason

-- nothing is found; else what is found makes the reason
abbrev pub none_of : {X : Type 0} → Option X → (X → Why) → Clause
none_of found reason = option_map reason found

-- the site is the one that is due, if one is
abbrev pub at_site : Option ℕ → ℕ → Clause
at_site due site = option_and_then (λ i. holds (i == site) (why.WrongSite i)) due

-- the reason of the first clause that fails
abbrev pub first : List Clause → Option Why
first [] = None
first (c ∷ cs) = option_or c (first cs)
