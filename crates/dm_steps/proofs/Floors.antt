-- What a further legal step makes of a floor.
use Rattle.std.proofs.Common.{ℕ, ◌≡◌, ◌==◌, Bool, true, false, if◌then◌else◌, List, ◌∷◌, Option, Some, None, length, arith}
use Rattle.std.proofs.lemmas.Bool.{eqb-true, and_parts}
use Rattle.std.specs.Prelude.{option_and_then, IfSome}
use Rattle.dm_event.specs.Entries.{commit_vector}
use Rattle.dm_event.specs.Layout.{Layout, is_site}
use Rattle.dm_event.specs.declared.step.Entry.{Entry}
use Rattle.dm_event.specs.declared.step.Found.TheVariants.{Kept}
use Rattle.dm_event.specs.declared.step.Pending.{Pending}
use Rattle.dm_event.specs.declared.step.Pending.TheVariants as pending
use Rattle.dm_event.specs.declared.step.Step.{Step}
use Rattle.dm_event.specs.declared.step.Step.TheVariants.{Commit, Grant, Doubt, Restart}
use Rattle.dm_model.proofs.Judged.{shape_of}
use Rattle.dm_model.proofs.LegalSteps.{InRange, in_range, legal_grant}
use Rattle.dm_model.specs.Allowed.{Allowed}
use Rattle.dm_model.specs.Doubts.{pending_at}
use Rattle.dm_model.specs.Floors.{floor_vector, floor}
use Rattle.dm_model.specs.Legal.{LegalPast}
use Rattle.dm_model.specs.Shape.{is_txn, is_vector, is_entry, is_shaped}
use Rattle.dm_steps.proofs.Legality.{Made, long_commit, pending_shaped}
use Rattle.dm_steps.proofs.Sites.{floor_next}
use Rattle.dm_steps.specs.Next.{next_floor}
use Rattle.dm_steps.specs.Pendings.{kept_of, act_of}

module _ (layout : Layout) where
  -- an act's vector has a component for each site, its own site's among them
  abbrev pub Fits : Step → Type 0
  Fits (Commit e) = Made layout e
  Fits (Grant site part epoch vector) = length vector ≡ layout.sites
  Fits s = Unit {0}

  pub entry_made : (e : Entry) → is_entry layout e ≡ true → Made layout e
  entry_made e h =
      let rest = and_parts (is_site layout e.origin) _ (and_parts (is_txn layout e.txn) _ h).1 in
      let site = in_range layout e.origin rest.0 in
      made site (eqb-true (length e.begin) layout.sites (and_parts (is_vector layout e.begin) _ rest.1).0)
    where
      made : InRange layout e.origin → length e.begin ≡ layout.sites → Made layout e
      made r long = let top = r.top in record { one = r.one; within = omega (arith, top, long); long = long }

  kept_fits : (site : ℕ) (vector : List ℕ) (o : Option Pending) → IfSome o (λ p. is_shaped layout (Doubt site p) ≡ true)
      → IfSome (act_of (Restart site vector Kept) o) (λ act. Fits act)
  kept_fits site vector None h = tt
  kept_fits site vector (Some (pending.Commit e)) h = entry_made e (and_parts _ _ (and_parts _ _ h).1).0
  kept_fits site vector (Some (pending.Release part epoch to v)) h = tt
  kept_fits site vector (Some (pending.Grant part epoch v)) h = eqb-true (length v) layout.sites (and_parts _ _ (and_parts _ _ h).1).1

  -- the act of a legal step fits, that of a kept pending step too
  pub act_fits : (past : List Step) → LegalPast layout past → (s : Step) → Allowed layout past s → IfSome (act_of s (kept_of s past)) (λ act. Fits act)
  act_fits past h (Commit e) a = entry_made e (shape_of layout past (Commit e) a)
  act_fits past h (Grant site part epoch vector) a = (legal_grant layout past site part epoch vector a).long
  act_fits past h (Restart site vector Kept) a = kept_fits site vector (pending_at site past) (pending_shaped layout site past h)
  act_fits past h other a = tt

  floor_long : (i : ℕ) (s : Step) → Fits s → IfSome (floor_vector i s) (λ v. length v ≡ layout.sites)
  floor_long i (Commit e) m = by_site (e.origin == i)
    where
      by_site : (b : Bool) → IfSome (if b then Some (commit_vector e) else None) (λ v. length v ≡ layout.sites)
      by_site true = long_commit layout e m
      by_site false = tt
  floor_long i (Grant site part epoch vector) l = by_site (site == i)
    where
      by_site : (b : Bool) → IfSome (if b then Some vector else None) (λ v. length v ≡ layout.sites)
      by_site true = l
      by_site false = tt
  floor_long i other m = tt

  act_long : (i : ℕ) (o : Option Step) → IfSome o (λ act. Fits act) → IfSome (option_and_then (floor_vector i) o) (λ v. length v ≡ layout.sites)
  act_long i None h = tt
  act_long i (Some s) h = floor_long i s h

  pub legal_floor_next : (past : List Step) → LegalPast layout past → (s : Step) → Allowed layout past s → (i : ℕ)
      → floor layout.sites (s ∷ past) i ≡ next_floor i s (kept_of s past) (floor layout.sites past i)
  legal_floor_next past h s a i = floor_next layout.sites i s past (act_long i (act_of s (kept_of s past)) (act_fits past h s a))
