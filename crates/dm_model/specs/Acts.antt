-- What the steps did to the data and to mastership.
use Rattle.std.specs.Prelude.{ℕ, ◌==◌, ◌&&◌, List, [], ◌∷◌, ◌++◌, Option, Some, None, option_map, option_to_list, filter_map, find}
use Rattle.dm_event.specs.declared.step.Entry.{Entry}
use Rattle.dm_event.specs.declared.step.Found.TheVariants.{Kept}
use Rattle.dm_event.specs.declared.step.Step.{Step}
use Rattle.dm_event.specs.declared.step.Step.TheVariants.{Commit, Release, Grant, Restart}
use Rattle.dm_model.specs.Doubts.{pending_at, step_of}

-- the acts that the step adds to those of its past
abbrev pub acts_of : Step → List Step → List Step
acts_of (Commit entry) past = Commit entry ∷ []
acts_of (Release site part epoch to vector) past = Release site part epoch to vector ∷ []
acts_of (Grant site part epoch vector) past = Grant site part epoch vector ∷ []
acts_of (Restart site vector Kept) past = option_to_list (option_map (step_of site) (pending_at site past))
acts_of s past = []

-- the Commits, Releases and Grants, and in the place of each Restart that kept it the site's pending step. A Doubt alone is
-- no act.
abbrev pub acts : List Step → List Step
acts [] = []
acts (step ∷ past) = acts_of step past ++ acts past

abbrev pub entry_of : Step → Option Entry
entry_of (Commit entry) = Some entry
entry_of s = None

-- the committed update transactions, the latest first
abbrev pub entries : List Step → List Entry
entries past = filter_map entry_of (acts past)

-- the entry with this origin and number
abbrev pub entry_at : ℕ → ℕ → List Step → Option Entry
entry_at origin seq past = find (λ e. (e.origin == origin) && (e.seq == seq)) (entries past)
