-- What a history brings into a store.
use Rattle.std.specs.Prelude.{◌≡◌, ℕ, is_some, List, map, filter, reverse}
use Rattle.dm_event.specs.declared.step.Entry.{Entry}
use Rattle.dm_event.specs.declared.step.Step.{Step}
use Rattle.dm_model.specs.Acts.{entries}
use Rattle.dm_model.specs.Closed.{is_inside}
use Rattle.dm_model.specs.Values.{written}
use Rattle.dm_store.specs.declared.past.Past.{Past}

abbrev pub past_of : Entry → Past
past_of e = record { origin = e.origin; seq = e.seq; writes = e.writes }

-- the committed transactions of the history, in its order
abbrev pub committed : List Step → List Past
committed history = map past_of (reverse (entries (reverse history)))

-- those inside the vector
abbrev pub committed_inside : List Step → List ℕ → List Past
committed_inside history v = map past_of (filter (is_inside v) (reverse (entries (reverse history))))

-- the transactions that write the key
abbrev pub writers : ℕ → List Past → List Past
writers key ts = filter (λ t. is_some (written t.writes key)) ts

-- of each key, the writers that the history has inside the vector were installed, in the history's order; between those of
-- different keys any order will do
abbrev pub HasInside : List Step → List ℕ → List Past → Type 0
HasInside history v installed = (key : ℕ) → writers key installed ≡ writers key (committed_inside history v)
