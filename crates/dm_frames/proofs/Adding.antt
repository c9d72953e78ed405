-- The records of one step more.
use Rattle.std.proofs.Common.{ℕ, ◌+◌, ◌<◌, ◌≡◌, List, [], ◌∷◌, ◌++◌, length, take, drop, get_or, refl, ap, sym, ◌∙◌, subst, map, Bool, true, if◌then◌else◌}
use Rattle.std.proofs.Common.{Option, Some, None, take-append-drop}
use Rattle.std.proofs.lemmas.List.{reverse-append, map-append}
use Rattle.std.proofs.lemmas.List.Elements.{filter_map-append}
use Rattle.std.specs.List.{AllByRecursion as Each, cons_option}
use Rattle.std.specs.Prelude.{reverse, filter_map, option_map, option_to_list}
use Rattle.dm_event.proofs.Backwards.{past_more}
use Rattle.dm_event.specs.declared.step.Found.TheVariants.{Clean, Kept, Lost}
use Rattle.dm_event.specs.declared.step.Pending.{Pending}
use Rattle.dm_event.specs.declared.step.Step.{Step}
use Rattle.dm_event.specs.declared.step.Step.TheVariants.{Route, Reply, Ask, Settle, Begin, Moved, Commit, End, Fail, Refresh, Release, Grant, Doubt, Restart}
use Rattle.dm_frames.specs.Records.{record_of, records_of, records_by, kept_records, frames_of}
use Rattle.dm_model.specs.Acts.{acts, acts_of}
use Rattle.dm_model.specs.Doubts.{pending_at, step_of}
use Rattle.dm_record.specs.Bytes.{frame_of}
use Rattle.dm_record.specs.declared.record.Record.{Record}

each_append : {X : Type 0} (P : X → Type 0) (xs ys : List X) → Each P (xs ++ ys) → Each P xs × Each P ys
each_append P [] ys h = (tt, h)
each_append P (x ∷ xs) ys h = (let r = each_append P xs ys h.1 in ((h.0, r.0), r.1))

each_both : {X : Type 0} (P : X → Type 0) (xs ys : List X) → Each P xs → Each P ys → Each P (xs ++ ys)
each_both P [] ys h k = k
each_both P (x ∷ xs) ys h k = (h.0, each_both P xs ys h.1 k)

kept_turned : (o : Option Step) → reverse (option_to_list o) ≡ option_to_list o
kept_turned None = refl
kept_turned (Some s) = refl

-- a step has one act at most
acts_turned : (s : Step) (past : List Step) → reverse (acts_of s past) ≡ acts_of s past
acts_turned (Restart at vector Kept) past = kept_turned (option_map (step_of at) (pending_at at past))
acts_turned (Restart at vector Clean) past = refl
acts_turned (Restart at vector Lost) past = refl
acts_turned (Route txn want min at choice) past = refl
acts_turned (Reply session number said) past = refl
acts_turned (Ask part epoch to txn) past = refl
acts_turned (Settle part epoch) past = refl
acts_turned (Begin at txn begin) past = refl
acts_turned (Moved at txn) past = refl
acts_turned (Commit entry) past = refl
acts_turned (End at txn ops reads) past = refl
acts_turned (Fail at txn cause) past = refl
acts_turned (Refresh at origin) past = refl
acts_turned (Release at part epoch to vector) past = refl
acts_turned (Grant at part epoch vector) past = refl
acts_turned (Doubt at p) past = refl

pub records_more : (site : ℕ) (s : Step) (past : List Step) → records_of site (s ∷ past) ≡ records_of site past ++ records_by site s past
records_more site s past =
    ap (λ (ds : List Step). filter_map (record_of site) ds) (reverse-append (acts_of s past) (acts past))
    ∙ filter_map-append (record_of site) (reverse (acts past)) (reverse (acts_of s past))
    ∙ ap (λ (ds : List Step). records_of site past ++ filter_map (record_of site) ds) (acts_turned s past)

-- what holds of all records holds of those of a front of the history
front_each : (P : Record → Type 0) (site : ℕ) (later past : List Step) → Each P (records_of site (later ++ past)) → Each P (records_of site past)
front_each P site [] past h = h
front_each P site (s ∷ later) past h =
    front_each P site later past
    (each_append P (records_of site (later ++ past)) (records_by site s (later ++ past))
    (subst (λ (rs : List Record). Each P rs) (records_more site s (later ++ past)) h)).0

module _ (site : ℕ) (steps : List Step) (i : ℕ) (s : Step) (l : i < length steps) (read : s ≡ get_or steps i s) where
  abbrev before : List Step
  before = reverse (take i steps)

  -- what holds of all records holds of those that the step adds
  pub step_each : (P : Record → Type 0) → Each P (records_of site (reverse steps)) → Each P (records_by site s before)
  step_each P h =
      let split : reverse steps ≡ reverse (drop (i + 1) steps) ++ (s ∷ before) =
      ap (λ (ss : List Step). reverse ss) (sym (take-append-drop (i + 1) steps)) ∙ reverse-append (take (i + 1) steps) (drop (i + 1) steps)
      ∙ ap (λ (ss : List Step). reverse (drop (i + 1) steps) ++ ss) (past_more steps i s l read) in
      (each_append P (records_of site before) (records_by site s before)
      (subst (λ (rs : List Record). Each P rs) (records_more site s before)
      (front_each P site (reverse (drop (i + 1) steps)) (s ∷ before)
      (subst (λ (ss : List Step). Each P (records_of site ss)) split h)))).1

  -- and what holds of those before, and of those that it adds, holds of all up to it
  pub each_more : (P : Record → Type 0) → Each P (records_of site before) → Each P (records_by site s before)
      → Each P (records_of site (reverse (take (i + 1) steps)))
  each_more P h k =
      subst (λ (ss : List Step). Each P (records_of site ss)) (sym (past_more steps i s l read))
      (subst (λ (rs : List Record). Each P rs) (sym (records_more site s before))
      (each_both P (records_of site before) (records_by site s before) h k))

  -- the frames with those that the step adds
  pub frames_more : (old : List (List ℕ)) (new : Option (List ℕ)) → old ≡ frames_of site before → option_to_list new ≡ map frame_of (records_by site s before)
      → old ++ option_to_list new ≡ frames_of site (reverse (take (i + 1) steps))
  frames_more old new e f =
      (λ j. e j ++ f j)
      ∙ sym (map-append frame_of (records_of site before) (records_by site s before))
      ∙ ap (λ (rs : List Record). map frame_of rs) (sym (records_more site s before))
      ∙ ap (λ (ss : List Step). frames_of site ss) (sym (past_more steps i s l read))

-- ---- a kept step

pub given_each : (P : Record → Type 0) (site at : ℕ) (o q : Option Pending) → o ≡ q → Each P (kept_records at site o) → Each P (kept_records at site q)
given_each P site at o q e h = subst (λ (p : Option Pending). Each P (kept_records at site p)) e h

pub act_each : (P : Record → Type 0) (o : Option Record) (b : Bool) (r : Record) → o ≡ (if b then Some r else None) → b ≡ true
    → Each P (cons_option o []) → P r
act_each P o b r e t h = (subst (λ (p : Option Record). Each P (cons_option p [])) (e ∙ ap (λ (c : Bool). if c then Some r else None) t) h).0

pub kept_each : (P : Record → Type 0) (site at : ℕ) (vector : List ℕ) (s : Step) (past : List Step) (o : Option Pending)
    → s ≡ Restart at vector Kept → o ≡ pending_at at past → Each P (records_by site s past) → Each P (kept_records at site o)
kept_each P site at vector s past o e f h =
    subst (λ (p : Option Pending). Each P (kept_records at site p)) (sym f)
    (subst (λ (t : Step). Each P (records_by site t past)) e h)
