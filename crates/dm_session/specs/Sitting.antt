-- Sessions as contracts see them.
use Rattle.std.specs.List.{AllByRecursion as Each}
use Rattle.std.specs.Prelude.{ℕ, ◌+◌, ◌^◌, ◌≡◌, ◌<◌, ◌≤◌, List, [], ◌∷◌, ◌++◌, IsTrue, IsFalse, reverse}
use Rattle.atomic_table.specs.Seated.{TableId}
use Rattle.dm_core.specs.Lawful.{Terms}
use Rattle.dm_event.specs.Layout.{is_site}
use Rattle.dm_event.specs.declared.actor.Actor.TheVariants.{Session}
use Rattle.dm_event.specs.declared.step.Choice.{Choice}
use Rattle.dm_event.specs.declared.step.Step.{Step}
use Rattle.dm_event.specs.declared.step.Step.TheVariants.{Reply, Route}
use Rattle.dm_event.specs.declared.step.TxnId.{TxnId}
use Rattle.dm_event.specs.declared.step.Want.{Want}
use Rattle.dm_invariant.specs.Stations.{View, Did, Went, layout_of, own, terms_of}
use Rattle.dm_model.specs.Attempts.{is_reply, is_route, replies, routes}
use Rattle.dm_model.specs.Choices.{due_for}
use Rattle.dm_model.specs.Sessions.{session_vector}
use Rattle.dm_room.specs.Room.{items_of}

-- its number, how many items it was answered, how many Routes its current item has, where and how the last one went, what the
-- session has seen, and what its pass stands for
pub record Sitting : Type 0 where
  pub id : ℕ
  pub count : ℕ
  pub tries : ℕ
  pub to : ℕ
  pub by : Choice
  pub vector : List ℕ
  pub pass : View

-- the session has its own pass of that chronicle, and its numbers and vector are those of the steps
pub record IsSession (table : TableId) (s : Sitting) : Type 0 where
  pub table_is : s.pass.table ≡ table
  pub actors : s.pass.actors ≡ Session s.id ∷ []
  pub least : 1 ≤ s.id
  pub most : s.id ≤ 32
  pub count_is : s.count ≡ replies s.id (reverse s.pass.seen)
  pub tries_is : s.tries ≡ routes s.id (reverse s.pass.seen)
  pub vector_is : s.vector ≡ session_vector (layout_of s.pass).sites (reverse s.pass.seen) s.id

-- its next item is one that was counted
abbrev pub IsCounted : Sitting → Type 0
IsCounted s = (s.count < items_of (terms_of s.pass).items s.id) × (s.count + 1 < 2 ^ 32)

-- the same session, answered no further, whose pass has seen no less
pub record Same (old new : Sitting) : Type 0 where
  pub id : new.id ≡ old.id
  pub count : new.count ≡ old.count
  pub vector : new.vector ≡ old.vector
  pub went : Went old.pass new.pass

-- the Route was pushed as the session's next step, with the site and the choice that were due in that turn
pub record Sent (old : Sitting) (wanted : Want) (site : ℕ) (txn : TxnId) (new : Sitting) : Type 0 where
  pub session : txn.session ≡ old.id
  pub number : txn.number ≡ old.count + 1
  pub turn : List Step
  pub seen : new.pass.seen ≡ turn ++ Route txn wanted old.vector new.to new.by ∷ []
  pub site_due : new.to ≡ (due_for (layout_of old.pass) (reverse turn) old.id wanted site).0
  pub choice_due : new.by ≡ (due_for (layout_of old.pass) (reverse turn) old.id wanted site).1
  pub there : IsTrue (is_site (layout_of old.pass) new.to)
  pub did : Did (Session old.id) old.pass new.pass (Route txn wanted old.vector new.to new.by)

-- neither a Reply nor a Route of the session
abbrev pub IsBetween : ℕ → Step → Type 0
IsBetween session s = IsFalse (is_reply session s) × IsFalse (is_route session s)

-- the session's further steps are neither Routes nor Replies
abbrev pub Between : ℕ → List Step → List Step → Type 0
Between session old new =
    (way : List Step) × (own (Session session) new ≡ own (Session session) old ++ way) × Each (IsBetween session) way

-- the step is the Reply to a counted item that has none
abbrev pub IsAnswer : Terms → List Step → Step → Type 0
IsAnswer terms steps (Reply session number said) = replies session (reverse steps) < items_of terms.items session
IsAnswer terms steps other = ⊥
