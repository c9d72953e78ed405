-- No step is of a session or a partition that doesn't exist.
use Rattle.std.proofs.Common.{ℕ, ◌<◌, ◌≡◌, ◌==◌, true, false, List, Option, Some, None, length, refl, subst}
use Rattle.std.proofs.lemmas.Bool.{and_parts, ltb-true}
use Rattle.std.specs.Prelude.{IfSome}
use Rattle.dm_event.specs.Layout.{Layout, is_part, is_session}
use Rattle.dm_event.specs.declared.step.Found.TheVariants.{Kept}
use Rattle.dm_event.specs.declared.step.Pending.{Pending}
use Rattle.dm_event.specs.declared.step.Pending.TheVariants as pending
use Rattle.dm_event.specs.declared.step.Step.{Step}
use Rattle.dm_event.specs.declared.step.Step.TheVariants.{Route, Reply, Ask, Settle, Begin, Moved, Commit, End, Fail, Refresh, Release, Grant, Doubt, Restart}
use Rattle.dm_event.specs.declared.step.TxnId.{TxnId}
use Rattle.dm_model.specs.Doubts.{pending_at}
use Rattle.dm_model.specs.Legal.{LegalPast}
use Rattle.dm_model.specs.Shape.{is_txn, is_shaped}
use Rattle.dm_state.specs.Moving.{moved}
use Rattle.dm_state.specs.Standings.{idle, told_replies}
use Rattle.dm_steps.proofs.Legality.{pending_shaped}
use Rattle.dm_steps.proofs.Slots.{differs}
use Rattle.dm_steps.specs.Next.{next_attempt}
use Rattle.dm_steps.specs.Pendings.{kept_of}

-- what is kept of a session as long as no step of it has come
pub record Untouched (c : ℕ) (s : Step) : Type 0 where
  pub attempt : next_attempt c s idle ≡ idle
  pub replies : told_replies c s 0 ≡ 0

module _ (layout : Layout) (c : ℕ) (none : is_session c ≡ false) where
  of_txn : (t : TxnId) → is_txn layout t ≡ true → (t.session == c) ≡ false
  of_txn t h = differs is_session c t.session none (and_parts _ _ h).0

  -- a step with its shape is of no such session
  pub foreign : (s : Step) → is_shaped layout s ≡ true → Untouched c s
  foreign (Route txn want min site choice) h = let e = of_txn txn (and_parts _ _ h).0 in record { attempt = rw e refl; replies = refl }
  foreign (Reply session number said) h = let e = differs is_session c session none (and_parts _ _ h).0 in record { attempt = rw e refl; replies = rw e refl }
  foreign (Ask part epoch to txn) h = record { attempt = refl; replies = refl }
  foreign (Settle part epoch) h = record { attempt = refl; replies = refl }
  foreign (Begin site txn begin) h = let e = of_txn txn (and_parts _ _ (and_parts _ _ h).1).0 in record { attempt = rw e refl; replies = refl }
  foreign (Moved site txn) h = let e = of_txn txn (and_parts _ _ h).1 in record { attempt = rw e refl; replies = refl }
  foreign (Commit entry) h = let e = of_txn entry.txn (and_parts _ _ h).0 in record { attempt = rw e refl; replies = refl }
  foreign (End site txn ops reads) h = let e = of_txn txn (and_parts _ _ (and_parts _ _ h).1).0 in record { attempt = rw e refl; replies = refl }
  foreign (Fail site txn cause) h = let e = of_txn txn (and_parts _ _ (and_parts _ _ h).1).0 in record { attempt = rw e refl; replies = refl }
  foreign (Refresh site origin) h = record { attempt = refl; replies = refl }
  foreign (Release site part epoch to vector) h = record { attempt = refl; replies = refl }
  foreign (Grant site part epoch vector) h = record { attempt = refl; replies = refl }
  foreign (Doubt site (pending.Commit entry)) h =
      let e = of_txn entry.txn (and_parts _ _ (and_parts _ _ (and_parts _ _ h).1).0).0 in record { attempt = rw e refl; replies = refl }
  foreign (Doubt site (pending.Release part epoch to vector)) h = record { attempt = refl; replies = refl }
  foreign (Doubt site (pending.Grant part epoch vector)) h = record { attempt = refl; replies = refl }
  foreign (Restart site vector found) h = record { attempt = refl; replies = refl }

module _ (layout : Layout) (past : List Step) (legal : LegalPast layout past) where
  a_part : (p q : ℕ) → is_part layout p ≡ true → Some p ≡ Some q → q < length layout.masters
  a_part p q h e = let f : p ≡ q = cc (e) in subst (λ (x : ℕ). x < length layout.masters) f (ltb-true p (length layout.masters) h)

  pending_is : (site : ℕ) (o : Option Pending) → IfSome o (λ p. is_shaped layout (Doubt site p) ≡ true) → (vector : List ℕ) (q : ℕ)
      → moved (Restart site vector Kept) o ≡ Some q → q < length layout.masters
  pending_is site None h vector q e = absurd (cc (e))
  pending_is site (Some (pending.Commit entry)) h vector q e = absurd (cc (e))
  pending_is site (Some (pending.Release part epoch to v)) h vector q e = a_part part q (and_parts _ _ (and_parts _ _ h).1).0 e
  pending_is site (Some (pending.Grant part epoch v)) h vector q e = a_part part q (and_parts _ _ (and_parts _ _ h).1).0 e

  -- what is moved is a partition
  pub moved_part : (s : Step) → is_shaped layout s ≡ true → (q : ℕ) → moved s (kept_of s past) ≡ Some q → q < length layout.masters
  moved_part (Ask part epoch to txn) h q e = a_part part q (and_parts _ _ h).0 e
  moved_part (Settle part epoch) h q e = a_part part q h e
  moved_part (Release site part epoch to vector) h q e = a_part part q (and_parts _ _ (and_parts _ _ h).1).0 e
  moved_part (Grant site part epoch vector) h q e = a_part part q (and_parts _ _ (and_parts _ _ h).1).0 e
  moved_part (Restart site vector Kept) h q e = pending_is site (pending_at site past) (pending_shaped layout site past legal) vector q e
  moved_part other h q e = absurd (cc (e))
