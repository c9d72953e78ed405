-- What may come in the place of a step that a site's log did not take.
use Rattle.std.proofs.Common.{ℕ, ◌≡◌, ◌≢◌, Bool, true, false, not, List, Option, Some, None, refl, ap, ◌∙◌, subst}
use Rattle.std.proofs.lemmas.Bool.{eq-eqb, ne_eqb, and_parts, and_from, or_right}
use Rattle.std.specs.Prelude.{is_some}
use Rattle.dm_event.specs.Layout.{Layout, is_site}
use Rattle.dm_event.specs.declared.step.Cause.{Cause}
use Rattle.dm_event.specs.declared.step.Cause.TheVariants as cause
use Rattle.dm_event.specs.declared.step.Entry.{Entry}
use Rattle.dm_event.specs.declared.step.Pending.{Pending}
use Rattle.dm_event.specs.declared.step.Pending.TheVariants as pending
use Rattle.dm_event.specs.declared.step.Step.{Step}
use Rattle.dm_event.specs.declared.step.Step.TheVariants.{Commit, Fail, Doubt}
use Rattle.dm_event.specs.declared.step.TxnId.{TxnId}
use Rattle.dm_model.proofs.ClausesHold.{holds_none, none_parts}
use Rattle.dm_model.proofs.Judged.{judged, shape_of}
use Rattle.dm_model.proofs.LegalSteps.{legal_commit}
use Rattle.dm_model.specs.Allowed.{Allowed, clauses}
use Rattle.dm_model.specs.Attempts.{routed}
use Rattle.dm_model.specs.Clauses.{first}
use Rattle.dm_model.specs.Doubts.{step_of}
use Rattle.dm_model.specs.Legal.{LegalPast}
use Rattle.dm_model.specs.Runs.{run_site}
use Rattle.dm_model.specs.Shape.{is_txn, is_cause, is_cause_at}
use Rattle.dm_model.specs.Tests.{same_byte}
use Rattle.dm_next.proofs.Routed.{may_fail_routed}
use Rattle.dm_next.proofs.Running.{may_come, at_this, run_site_is}
use Rattle.dm_next.specs.Restarts.{IsOwn}

-- a site's step may be in doubt where it may come
pub may_doubt : (layout : Layout) (past : List Step) (site : ℕ) (p : Pending) → IsOwn site p → Allowed layout past (step_of site p)
    → Allowed layout past (Doubt site p)
may_doubt layout past site (pending.Commit e) o h =
    let entry = shape_of layout past (Commit e) h in
    let there = subst (λ (j : ℕ). is_site layout j ≡ true) o (and_parts (is_site layout e.origin) _ (and_parts (is_txn layout e.txn) _ entry).1).0 in
    judged layout past (Doubt site (pending.Commit e)) (Doubt site (pending.Commit e)) refl (and_from _ _ there (and_from _ _ entry (eq-eqb e.origin site o)))
    ∙ (none_parts _ (first (clauses layout past (Commit e))) h).1
may_doubt layout past site (pending.Release part epoch to vector) o h = h
may_doubt layout past site (pending.Grant part epoch vector) o h = h

-- an attempt that may commit at the site may fail there
pub may_fail_instead : (layout : Layout) (past : List Step) (site : ℕ) (e : Entry) (cause : Cause) → LegalPast layout past → Allowed layout past (Commit e)
    → e.origin ≡ site → is_cause layout cause ≡ true → is_cause_at layout site cause ≡ true
    → Allowed layout past (Fail site e.txn cause)
may_fail_instead layout past site e cause l h o a b =
    let fits = and_parts (is_txn layout e.txn) _ (shape_of layout past (Commit e) h) in
    let there = (and_parts (is_site layout e.origin) _ fits.1).0 in
    let here = run_site_is layout past e.origin e.txn l there (legal_commit layout past e h).runs ∙ ap (λ (j : ℕ). Some j) o in
    may_come layout past (Fail site e.txn cause)
    (and_from _ _ (subst (λ (j : ℕ). is_site layout j ≡ true) o there) (and_from _ _ fits.0 (and_from _ _ a b))) (
      holds_none _ _ (or_right (is_some (routed e.txn past)) _ (ap (λ (x : Option ℕ). is_some x) here)),
      (at_this site (run_site layout past e.txn) here, tt),
    )

-- ---- damage

bytes_differ : (a b : Option ℕ) → a ≢ b → same_byte a b ≡ false
bytes_differ None None n = absurd (n refl)
bytes_differ None (Some b) n = refl
bytes_differ (Some a) None n = refl
bytes_differ (Some a) (Some b) n = ne_eqb a b (λ e. n (ap (λ (x : ℕ). Some x) e))

-- a byte that differs makes a cause of the site
pub record IsDamage (layout : Layout) (site : ℕ) (cause : Cause) : Type 0 where
  pub fits : is_cause layout cause ≡ true
  pub of_site : is_cause_at layout site cause ≡ true

pub is_damage : (layout : Layout) (site place : ℕ) (read written : Option ℕ) → is_site layout site ≡ true → read ≢ written
    → IsDamage layout site (cause.Damage site place read written)
is_damage layout site place read written there differ = record {
  fits = and_from _ _ there (ap (λ (b : Bool). not b) (bytes_differ read written differ));
  of_site = eq-eqb site site refl;
}

-- where the log has another byte than was written, an attempt that was routed may fail for it
pub may_fail_damaged : (layout : Layout) (past : List Step) (site : ℕ) (txn : TxnId) (place : ℕ) (read written : Option ℕ) → LegalPast layout past
    → is_site layout site ≡ true → is_some (routed txn past) ≡ true → read ≢ written
    → Allowed layout past (Fail site txn (cause.Damage site place read written))
may_fail_damaged layout past site txn place read written l there h differ =
    let d = is_damage layout site place read written there differ in
    may_fail_routed layout past site txn (cause.Damage site place read written) l there h d.fits d.of_site
