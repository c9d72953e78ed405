-- What a transaction's ops read and write.
use Rattle.std.specs.Int.{w64, int_wrapping_add}
use Rattle.std.specs.List.{list_any}
use Rattle.std.specs.Prelude.{ℕ, ℤ, Bool, ◌==◌, nat_lt, not, if◌then◌else◌, List, [], ◌∷◌, ◌++◌, Option, Some, None, unwrap_or, is_some, filter_map, find}
use Rattle.dm_event.specs.Layout.{Layout}
use Rattle.dm_event.specs.declared.step.Op.{Op}
use Rattle.dm_event.specs.declared.step.Op.TheVariants.{Read, Write, Add}
use Rattle.dm_event.specs.declared.step.Pair.{Pair}
use Rattle.dm_event.specs.declared.step.Step.{Step}
use Rattle.dm_model.specs.Tests.{is_among}
use Rattle.dm_model.specs.Values.{written, value}

-- the reads so far, in the order of the ops, and the own writes so far, ascending by key
pub record Ran : Type 0 where
  pub reads : List Pair
  pub writes : List Pair

-- pairs that ascend by key, with the key's value set
abbrev pub put : List Pair → ℕ → ℤ → List Pair
put [] key value = record { key = key; value = value } ∷ []
put (p ∷ ps) key value =
    if nat_lt p.key key then p ∷ put ps key value
    else (if p.key == key then record { key = key; value = value } ∷ ps else record { key = key; value = value } ∷ (p ∷ ps))

-- what a read gives: the own write of the key, else the function's value
abbrev pub read_value : (ℕ → ℤ) → Ran → ℕ → ℤ
read_value f ran key = unwrap_or (written ran.writes key) (f key)

-- after one more op. An addition writes what a read would give plus its number, wrapped at 64 bits.
abbrev pub after_op : (ℕ → ℤ) → Ran → Op → Ran
after_op f ran (Read key) = record { reads = ran.reads ++ record { key = key; value = read_value f ran key } ∷ []; writes = ran.writes }
after_op f ran (Write key value) = record { reads = ran.reads; writes = put ran.writes key value }
after_op f ran (Add key by) = record { reads = ran.reads; writes = put ran.writes key (int_wrapping_add w64 (read_value f ran key) by) }

abbrev pub run_from : (ℕ → ℤ) → Ran → List Op → Ran
run_from f ran [] = ran
run_from f ran (op ∷ ops) = run_from f (after_op f ran op) ops

-- the reads and writes of the ops, where the function gives the values of the keys
abbrev pub body : List Op → (ℕ → ℤ) → Ran
body ops f = run_from f (record { reads = []; writes = [] }) ops

-- the reads and writes of the ops on the values at the vector
abbrev pub ran_at : Layout → List Step → List ℕ → List Op → Ran
ran_at layout past v ops = body ops (λ key. value layout past key v)

abbrev pub written_key : Op → Option ℕ
written_key (Read key) = None
written_key (Write key value) = Some key
written_key (Add key by) = Some key

abbrev pub has_writes : List Op → Bool
has_writes ops = list_any (λ op. is_some (written_key op)) ops

-- the key of the first write that isn't among the declared keys
abbrev pub first_undeclared : List ℕ → List Op → Option ℕ
first_undeclared keys ops = find (λ key. not (is_among keys key)) (filter_map written_key ops)
