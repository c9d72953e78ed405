-- No step is of a site or a session that doesn't exist.
use Rattle.std.proofs.Common.{ℕ, ◌≡◌, ◌==◌, true, false, List, Option, Some, None, refl}
use Rattle.std.proofs.lemmas.Bool.{and_parts}
use Rattle.std.specs.Prelude.{IfSome}
use Rattle.dm_event.specs.Layout.{Layout, is_site, is_session}
use Rattle.dm_event.specs.declared.step.Entry.{Entry}
use Rattle.dm_event.specs.declared.step.Found.TheVariants.{Clean, Kept, Lost}
use Rattle.dm_event.specs.declared.step.Pending.{Pending}
use Rattle.dm_event.specs.declared.step.Pending.TheVariants as pending
use Rattle.dm_event.specs.declared.step.Step.{Step}
use Rattle.dm_event.specs.declared.step.Step.TheVariants.{Route, Reply, Begin, Commit, Refresh, Grant, Doubt, Restart}
use Rattle.dm_event.specs.declared.step.TxnId.{TxnId}
use Rattle.dm_model.specs.Doubts.{pending_at}
use Rattle.dm_model.specs.Legal.{LegalPast}
use Rattle.dm_model.specs.Shape.{is_txn, is_entry, is_shaped}
use Rattle.dm_numbers.specs.Counted.{told_site, told_session, no_site, no_session}
use Rattle.dm_steps.proofs.Legality.{pending_shaped}
use Rattle.dm_steps.proofs.Slots.{differs}
use Rattle.dm_steps.specs.Pendings.{kept_of}

module _ (layout : Layout) (c : ℕ) (none : is_session c ≡ false) where
  of_txn : (t : TxnId) → is_txn layout t ≡ true → (t.session == c) ≡ false
  of_txn t h = differs is_session c t.session none (and_parts _ _ h).0

  pub foreign_session : (s : Step) → is_shaped layout s ≡ true → (named : Option Entry) → (count : ℕ)
      → told_session c s named (no_session count) ≡ no_session count
  foreign_session (Route txn want min site choice) h named count = let e = of_txn txn (and_parts _ _ h).0 in rw e refl
  foreign_session (Reply session number said) h named count = let e = differs is_session c session none (and_parts _ _ h).0 in rw e refl
  foreign_session (Begin site txn begin) h named count = let e = of_txn txn (and_parts _ _ (and_parts _ _ h).1).0 in rw e refl
  foreign_session other h named count = refl

module _ (layout : Layout) (i : ℕ) (none : is_site layout i ≡ false) where
  of_entry : (e : Entry) → is_entry layout e ≡ true → (e.origin == i) ≡ false
  of_entry e h = differs (is_site layout) i e.origin none (and_parts _ _ (and_parts _ _ h).1).0

  at_site : (site : ℕ) → is_site layout site ≡ true → (site == i) ≡ false
  at_site site h = differs (is_site layout) i site none h

  kept_none : (site : ℕ) → (site == i) ≡ false → (vector : List ℕ) (o : Option Pending) → IfSome o (λ p. is_shaped layout (Doubt site p) ≡ true)
      → (count : ℕ) → told_site i (Restart site vector Kept) o (no_site count) ≡ no_site count
  kept_none site n vector None h count = rw n refl
  kept_none site n vector (Some (pending.Commit e)) h count = let f = of_entry e (and_parts _ _ (and_parts _ _ h).1).0 in rw (n, f) refl
  kept_none site n vector (Some (pending.Release part epoch to v)) h count = rw n refl
  kept_none site n vector (Some (pending.Grant part epoch v)) h count = rw n refl

  pub foreign_site : (past : List Step) → LegalPast layout past → (s : Step) → is_shaped layout s ≡ true → (count : ℕ)
      → told_site i s (kept_of s past) (no_site count) ≡ no_site count
  foreign_site past legal (Commit e) h count = let f = of_entry e h in rw f refl
  foreign_site past legal (Refresh site origin) h count = let f = at_site site (and_parts _ _ h).0 in rw f refl
  foreign_site past legal (Grant site part epoch vector) h count = let f = at_site site (and_parts _ _ h).0 in rw f refl
  foreign_site past legal (Doubt site (pending.Commit e)) h count = let f = at_site site (and_parts _ _ h).0 in rw f refl
  foreign_site past legal (Doubt site (pending.Release part epoch to v)) h count = let f = at_site site (and_parts _ _ h).0 in rw f refl
  foreign_site past legal (Doubt site (pending.Grant part epoch v)) h count = let f = at_site site (and_parts _ _ h).0 in rw f refl
  foreign_site past legal (Restart site vector Clean) h count = let f = at_site site (and_parts _ _ h).0 in rw f refl
  foreign_site past legal (Restart site vector Lost) h count = let f = at_site site (and_parts _ _ h).0 in rw f refl
  foreign_site past legal (Restart site vector Kept) h count =
      kept_none site (at_site site (and_parts _ _ h).0) vector (pending_at site past) (pending_shaped layout site past legal) count
  foreign_site past legal other h count = refl
