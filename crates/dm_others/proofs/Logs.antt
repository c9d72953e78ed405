-- What each step leaves and adds of a site's log: its records, whether it is down and with which step in doubt, and its faults.
use Rattle.std.proofs.Common.{ℕ, suc, ◌≡◌, ◌≢◌, Bool, true, false, ◌==◌, cond, List, [], ◌∷◌, ◌++◌, Option, Some, None, refl, sym, ap, ◌∙◌, append-nil}
use Rattle.std.proofs.lemmas.Bool.{ne_eqb, eq-eqb}
use Rattle.std.specs.List.{cons_option}
use Rattle.std.specs.Prelude.{filter_map, option_map, option_to_list}
use Rattle.dm_chronicle.specs.Belongs.{belongs}
use Rattle.dm_event.specs.Actors.{actors}
use Rattle.dm_event.specs.Layout.{Layout}
use Rattle.dm_event.specs.declared.actor.Actor.TheVariants.{Site}
use Rattle.dm_event.specs.declared.step.Cause.TheVariants as cause
use Rattle.dm_event.specs.declared.step.Entry.{Entry}
use Rattle.dm_event.specs.declared.step.Found.TheVariants.{Kept}
use Rattle.dm_event.specs.declared.step.Pending.{Pending}
use Rattle.dm_event.specs.declared.step.Pending.TheVariants as pending
use Rattle.dm_event.specs.declared.step.Step.{Step}
use Rattle.dm_event.specs.declared.step.Step.TheVariants.{Commit, Fail, Release, Grant, Doubt, Restart}
use Rattle.dm_event.specs.declared.step.TxnId.{TxnId}
use Rattle.dm_frames.proofs.Adding.{records_more}
use Rattle.dm_frames.specs.Records.{record_of, records_of, commit_record, pending_record, records_by}
use Rattle.dm_model.proofs.LegalSteps.{legal_restart}
use Rattle.dm_model.proofs.NumbersKept.{InDoubt}
use Rattle.dm_model.proofs.NumbersSound.{counts, sound_past}
use Rattle.dm_model.specs.Acts.{acts_of}
use Rattle.dm_model.specs.Allowed.{Allowed}
use Rattle.dm_model.specs.Doubts.{is_down, pending_at, step_of}
use Rattle.dm_model.specs.Legal.{LegalPast}
use Rattle.dm_others.proofs.Others.{other_site}
use Rattle.dm_others.specs.Faults.{faults}
use Rattle.dm_record.specs.declared.record.Record.{Record}
use Rattle.dm_record.specs.declared.record.Record.TheVariants as record_is

-- ---- records

-- the record of an act of one site, for that site and for another
unless : {X : Type 0} (b : Bool) (x : X) → b ≡ false → cons_option (cond b (Some x) None) [] ≡ []
unless b x e = ap (λ (c : Bool). cons_option (cond c (Some x) None) []) e

once : {X : Type 0} (b : Bool) (x : X) → b ≡ true → cons_option (cond b (Some x) None) [] ≡ x ∷ []
once b x e = ap (λ (c : Bool). cons_option (cond c (Some x) None) []) e

module _ (layout : Layout) (i : ℕ) (past : List Step) (l : LegalPast layout past) where
  kept_elsewhere : (site : ℕ) (o : Option Pending) → site ≢ i → InDoubt layout.sites (counts past) site o
      → filter_map (record_of i) (option_to_list (option_map (step_of site) o)) ≡ []
  kept_elsewhere site None n d = refl
  kept_elsewhere site (Some (pending.Commit e)) n d = unless (e.origin == i) (commit_record e) (ne_eqb e.origin i (λ p. n (sym d.own ∙ p)))
  kept_elsewhere site (Some (pending.Release part epoch to v)) n d = unless (site == i) (record_is.Release part epoch to v) (ne_eqb site i n)
  kept_elsewhere site (Some (pending.Grant part epoch v)) n d = unless (site == i) (record_is.Grant part epoch v) (ne_eqb site i n)

  none_by : (x : Step) → Allowed layout past x → belongs actors x (Site i) ≡ false → records_by i x past ≡ []
  none_by (Commit e) h b = unless (e.origin == i) (commit_record e) (ne_eqb e.origin i (other_site i e.origin _ b))
  none_by (Release site part epoch to v) h b = unless (site == i) (record_is.Release part epoch to v) (ne_eqb site i (other_site i site _ b))
  none_by (Grant site part epoch v) h b = unless (site == i) (record_is.Grant part epoch v) (ne_eqb site i (other_site i site _ b))
  none_by (Restart site vector Kept) h b =
      kept_elsewhere site (pending_at site past) (other_site i site _ b)
      ((sound_past layout past l).in_doubt site (legal_restart layout past site vector Kept h).fits)
  none_by other h b = refl

  -- a step of others adds no record
  pub records_other : (x : Step) → Allowed layout past x → belongs actors x (Site i) ≡ false → records_of i (x ∷ past) ≡ records_of i past
  records_other x h b = records_more i x past ∙ ap (λ (rs : List Record). records_of i past ++ rs) (none_by x h b) ∙ append-nil (records_of i past)

  kept_here : (o : Option Pending) → InDoubt layout.sites (counts past) i o
      → filter_map (record_of i) (option_to_list (option_map (step_of i) o)) ≡ option_to_list (option_map pending_record o)
  kept_here None d = refl
  kept_here (Some (pending.Commit e)) d = once (e.origin == i) (commit_record e) (eq-eqb e.origin i d.own)
  kept_here (Some (pending.Release part epoch to v)) d = once (i == i) (record_is.Release part epoch to v) (eq-eqb i i refl)
  kept_here (Some (pending.Grant part epoch v)) d = once (i == i) (record_is.Grant part epoch v) (eq-eqb i i refl)

  -- a Restart of the site that keeps its pending step adds that
  pub records_kept : (vector : List ℕ) → Allowed layout past (Restart i vector Kept)
      → records_of i (Restart i vector Kept ∷ past) ≡ records_of i past ++ option_to_list (option_map pending_record (pending_at i past))
  records_kept vector h =
      records_more i (Restart i vector Kept) past
      ∙ ap (λ (rs : List Record). records_of i past ++ rs)
      (kept_here (pending_at i past) ((sound_past layout past l).in_doubt i (legal_restart layout past i vector Kept h).fits))

module _ (i : ℕ) (past : List Step) where
  added : (x : Step) (r : Record) → records_by i x past ≡ r ∷ [] → records_of i (x ∷ past) ≡ records_of i past ++ r ∷ []
  added x r e = records_more i x past ∙ ap (λ (rs : List Record). records_of i past ++ rs) e

  pub records_commit : (e : Entry) → e.origin ≡ i → records_of i (Commit e ∷ past) ≡ records_of i past ++ commit_record e ∷ []
  records_commit e h = added (Commit e) (commit_record e) (once (e.origin == i) (commit_record e) (eq-eqb e.origin i h))

  pub records_release : (part epoch to : ℕ) (vector : List ℕ)
      → records_of i (Release i part epoch to vector ∷ past) ≡ records_of i past ++ record_is.Release part epoch to vector ∷ []
  records_release part epoch to vector =
      added (Release i part epoch to vector) (record_is.Release part epoch to vector)
      (once (i == i) (record_is.Release part epoch to vector) (eq-eqb i i refl))

  pub records_grant : (part epoch : ℕ) (vector : List ℕ)
      → records_of i (Grant i part epoch vector ∷ past) ≡ records_of i past ++ record_is.Grant part epoch vector ∷ []
  records_grant part epoch vector =
      added (Grant i part epoch vector) (record_is.Grant part epoch vector) (once (i == i) (record_is.Grant part epoch vector) (eq-eqb i i refl))

  -- what is no act adds none
  pub records_stay : (x : Step) → acts_of x past ≡ [] → records_of i (x ∷ past) ≡ records_of i past
  records_stay x e =
      records_more i x past ∙ ap (λ (ss : List Step). records_of i past ++ filter_map (record_of i) ss) e ∙ append-nil (records_of i past)

-- ---- doubts and faults

module _ (i : ℕ) (past : List Step) where
  pub down_other : (x : Step) → belongs actors x (Site i) ≡ false → is_down i (x ∷ past) ≡ is_down i past
  down_other (Doubt site (pending.Commit e)) b = rw (ne_eqb site i (other_site i site _ b)) refl
  down_other (Doubt site (pending.Release part epoch to v)) b = rw (ne_eqb site i (other_site i site _ b)) refl
  down_other (Doubt site (pending.Grant part epoch v)) b = rw (ne_eqb site i (other_site i site _ b)) refl
  down_other (Restart site vector found) b = rw (ne_eqb site i (other_site i site _ b)) refl
  down_other other b = refl

  pub pending_other : (x : Step) → belongs actors x (Site i) ≡ false → pending_at i (x ∷ past) ≡ pending_at i past
  pending_other (Doubt site (pending.Commit e)) b = rw (ne_eqb site i (other_site i site _ b)) refl
  pending_other (Doubt site (pending.Release part epoch to v)) b = rw (ne_eqb site i (other_site i site _ b)) refl
  pending_other (Doubt site (pending.Grant part epoch v)) b = rw (ne_eqb site i (other_site i site _ b)) refl
  pending_other other b = refl

  pub faults_other : (x : Step) → belongs actors x (Site i) ≡ false → faults i (x ∷ past) ≡ faults i past
  faults_other (Doubt site (pending.Commit e)) b = rw (ne_eqb site i (other_site i site _ b)) refl
  faults_other (Doubt site (pending.Release part epoch to v)) b = rw (ne_eqb site i (other_site i site _ b)) refl
  faults_other (Doubt site (pending.Grant part epoch v)) b = rw (ne_eqb site i (other_site i site _ b)) refl
  faults_other (Fail site txn (cause.Log at)) b = rw (ne_eqb site i (other_site i site _ b)) refl
  faults_other other b = refl

  one_more : (b : Bool) (n : ℕ) → b ≡ true → cond b (suc n) n ≡ suc n
  one_more b n e = ap (λ (c : Bool). cond c (suc n) n) e

  -- each fault of the site's log is one more
  pub faults_fail : (txn : TxnId) (at : ℕ) → faults i (Fail i txn (cause.Log at) ∷ past) ≡ suc (faults i past)
  faults_fail txn at = one_more (i == i) (faults i past) (eq-eqb i i refl)

  pub faults_doubt : (p : Pending) → faults i (Doubt i p ∷ past) ≡ suc (faults i past)
  faults_doubt p = one_more (i == i) (faults i past) (eq-eqb i i refl)
