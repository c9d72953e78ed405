-- What one further step adds to what is read of a past.
use Rattle.std.specs.Prelude.{ℕ, ℤ, ◌==◌, ◌&&◌, not, if◌then◌else◌, List, Option, Some, None, option_map}
use Rattle.dm_event.specs.declared.step.Entry.{Entry}
use Rattle.dm_event.specs.declared.step.Found.{Found}
use Rattle.dm_event.specs.declared.step.Found.TheVariants.{Kept}
use Rattle.dm_event.specs.declared.step.Pending.{Pending}
use Rattle.dm_event.specs.declared.step.Pending.TheVariants.{Commit}
use Rattle.dm_event.specs.declared.step.Step.{Step}
use Rattle.dm_event.specs.declared.step.Step.TheVariants.{Restart}
use Rattle.dm_event.specs.declared.step.TxnId.{TxnId}
use Rattle.dm_event.specs.Vectors.{join, is_at_most}
use Rattle.dm_model.specs.Attempts.{routing_of}
use Rattle.dm_model.specs.Closed.{is_inside}
use Rattle.dm_model.specs.Doubts.{step_of, pending_at}
use Rattle.dm_model.specs.Floors.{floor_vector}
use Rattle.dm_model.specs.Values.{written}

-- the entry of a kept commit
abbrev pub kept_entry : Found → Option Pending → Option Entry
kept_entry Kept (Some (Commit entry)) = Some entry
kept_entry found other = None

-- how many entries of the origin the one is
abbrev pub of_origin : ℕ → Option Entry → ℕ
of_origin j None = 0
of_origin j (Some e) = if e.origin == j then 1 else 0

-- the entry, if it has this origin and number
abbrev pub with_number : ℕ → ℕ → Option Entry → Option Entry
with_number j n None = None
with_number j n (Some e) = if (e.origin == j) && (e.seq == n) then Some e else None

-- what the entry wrote of the key, if it is inside the vector
abbrev pub written_by : ℕ → List ℕ → Option Entry → Option ℤ
written_by key v None = None
written_by key v (Some e) = if is_inside v e then written e.writes key else None

-- the maximum with one vector more, if there is one
abbrev pub join_one : List ℕ → Option (List ℕ) → List ℕ
join_one v None = v
join_one v (Some more) = join v more

-- what a kept pending step of the site `at` adds to the floor of site i
abbrev pub kept_floor : ℕ → ℕ → Found → Option Pending → Option (List ℕ)
kept_floor i at Kept (Some p) = floor_vector i (step_of at p)
kept_floor i at found other = None

-- what a step adds to the floor of site i
abbrev pub floor_by : ℕ → Step → List Step → Option (List ℕ)
floor_by i (Restart site vector found) past = kept_floor i site found (pending_at site past)
floor_by i s past = floor_vector i s

-- the entry's origin and number, where it is inside the vector and began at a vector not at most it
abbrev pub unclosed_one : List ℕ → Option Entry → Option (ℕ × ℕ)
unclosed_one v None = None
unclosed_one v (Some e) = if is_inside v e && not (is_at_most e.begin v) then Some (e.origin, e.seq) else None

-- the attempt that the step routes, if it is a Route of the session
abbrev pub routed_by : ℕ → Step → Option TxnId
routed_by session s = option_map (λ r. r.txn) (routing_of (λ txn. txn.session == session) s)
