-- What a site keeps through an append, and the step that comes of it; and what a crash leaves.
use Rattle.std.proofs.Common.{ℕ, suc, ◌≡◌, ◌+◌, ◌-◌, ◌^◌, ◌≤◌, Bool, true, false, List, [], ◌∷◌, ◌++◌, Option, Some, None, inl, inr, ◌⊎◌, cond, map}
use Rattle.std.proofs.Common.{refl, sym, ap, ◌∙◌, subst}
use Rattle.std.proofs.lemmas.Bool.{cases_Bool, eq-eqb, false≢true}
use Rattle.std.proofs.lemmas.List.{map-append}
use Rattle.std.specs.List.{AllByRecursion as Each}
use Rattle.std.specs.Prelude.{◌≢◌, IsTrue, IsFalse, IsNone, filter, reverse}
use mathlib.Core.List.{IsPrefix}
use Rattle.dm_event.specs.Layout.{Layout}
use Rattle.dm_event.specs.Vectors.{at}
use Rattle.dm_event.specs.declared.step.Cause.TheVariants.{Log, Damage}
use Rattle.dm_event.specs.declared.step.Found.TheVariants.{Clean}
use Rattle.dm_event.specs.declared.step.Pending.{Pending}
use Rattle.dm_event.specs.declared.step.Pending.TheVariants as pending
use Rattle.dm_event.specs.declared.step.Step.{Step}
use Rattle.dm_event.specs.declared.step.Step.TheVariants.{Commit, Fail, Release, Grant, Doubt, Restart}
use Rattle.dm_event.specs.declared.step.TxnId.{TxnId}
use Rattle.dm_frames.specs.Records.{frames_of, pending_record, commit_record, record_of, records_of}
use Rattle.dm_locks.specs.Claims.{without}
use Rattle.dm_locks.specs.declared.claim.Claim.{Claim}
use Rattle.dm_logdisk.specs.Story.{Story, Both}
use Rattle.dm_model.specs.Allowed.{Allowed}
use Rattle.dm_model.specs.Doubts.{is_down, step_of}
use Rattle.dm_next.proofs.Doubts.{may_doubt}
use Rattle.dm_next.specs.Restarts.{IsOwn}
use Rattle.dm_others.proofs.Logs.{records_commit, records_release, records_grant, faults_fail, faults_doubt}
use Rattle.dm_others.proofs.Runs.{running_ends, running_none}
use Rattle.dm_others.specs.Faults.{faults as fault_count}
use Rattle.dm_others.specs.Locking.{claimed, claims, IsSent}
use Rattle.dm_record.specs.Bytes.{frame_of}
use Rattle.dm_record.specs.declared.record.Record.{Record}
use Rattle.dm_record.specs.declared.record.Record.TheVariants as record_is
use Rattle.dm_redo.specs.Appending.{Appends}
use Rattle.dm_redo.specs.Holding.{Holds}
use Rattle.dm_redo.specs.declared.appending.Appended.{Appended}
use Rattle.dm_redo.specs.declared.appending.Appended.TheVariants as append
use Rattle.dm_invariant.proofs.Appends.{Settled, settled_done, held_settled, held_undone, leaves_append, left_now, leaves_still}
use Rattle.dm_invariant.proofs.Appends.{some_weaker, tells_not, risen, rose}
use Rattle.dm_invariant.proofs.Steps.{routed_holds_nothing}
use Rattle.dm_invariant.specs.Causes.{HasCause, HaveCauses, Caused}
use Rattle.dm_invariant.specs.Appending.{AppendedTo, MayWrite}
use Rattle.dm_invariant.specs.Keeping.{Parts, Keeps}
use Rattle.dm_invariant.specs.Logs.{HoldsWith, Logged, Crashes, MayCome, doubted}
use Rattle.dm_invariant.specs.Stations.{View, layout_of}
use Rattle.dm_invariant.specs.Writing.{step_after, installed_after, locks_after}
use Rattle.dm_store.specs.Contents.{Contents}
use Rattle.dm_store.specs.declared.past.Past.{Past}
use Rattle.dm_stores.proofs.Steps.{stores_commit, stores_still}
use Rattle.dm_stores.specs.Stores.{Stores}

-- the step that comes of the append is allowed
pub may_follow_append : (layout : Layout) (site : ℕ) (past : List Step) (txn : TxnId) (p : Pending) (done : Appended) → MayWrite layout site past txn p
    → Allowed layout past (step_after site txn p done)
may_follow_append layout site past txn p append.Done m = m.allowed
may_follow_append layout site past txn p append.Undone m = m.may_fail
may_follow_append layout site past txn p append.Doubt m = may_doubt layout past site p m.is_own m.allowed

-- ---- outcomes

undone : append.Undone ≢ append.Done
undone e = cc (e)

in_doubt : append.Doubt ≢ append.Done
in_doubt e = cc (e)

-- only a commit that is done installs an entry
installs_nothing : (p : Pending) (done : Appended) (installed : List Past) → done ≢ append.Done → installed_after p done installed ≡ installed
installs_nothing (pending.Commit e) append.Done installed n = absurd (n refl)
installs_nothing (pending.Commit e) append.Undone installed n = refl
installs_nothing (pending.Commit e) append.Doubt installed n = refl
installs_nothing p other installed n = refl

-- ---- causes

-- what a Fail for damage says of the disk stays, for the disk tells as it did
cause_stays : (site : ℕ) (o n : Option Story) → (IsNone o → IsNone n) → (x : Step) (past : List Step) → HasCause site o x past → HasCause site n x past
cause_stays site o n not_told (Fail j txn (Damage of place read written)) past h = λ e. (let g = h e in (g.0, not_told g.1))
cause_stays site o n not_told (Restart j vector Clean) past h = h
cause_stays site o n not_told x past h = h

causes_stay : (site : ℕ) (o n : Option Story) → (IsNone o → IsNone n) → (past : List Step) → HaveCauses site o past → HaveCauses site n past
causes_stay site o n not_told [] h = tt
causes_stay site o n not_told (x ∷ past) h = (cause_stays site o n not_told x past h.0, causes_stay site o n not_told past h.1)

-- ---- claims

each_kept : {X : Type 0} (P : X → Type 0) (keep : X → Bool) (xs : List X) → Each P xs → Each P (filter keep xs)
each_kept P keep [] h = tt
each_kept P keep (x ∷ xs) h = by (keep x) (each_kept P keep xs h.1)
  where
    by : (b : Bool) → Each P (filter keep xs) → Each P (cond b (x ∷ filter keep xs) (filter keep xs))
    by true rest = (h.0, rest)
    by false rest = rest

-- who was sent stays so
sent_on : (site : ℕ) (x : Step) (past : List Step) (cs : List Claim) → Each (IsSent site past) cs → Each (IsSent site (x ∷ past)) cs
sent_on site x past [] h = tt
sent_on site x past (c ∷ cs) h = ((h.0.0, h.0.1, inr h.0.2), sent_on site x past cs h.1)

-- ---- the site's step

module _ (site : ℕ) (past : List Step) where
  -- its record
  own_record : (p : Pending) → IsOwn site p → record_of site (step_of site p) ≡ Some (pending_record p)
  own_record (pending.Commit e) own = ap (λ (b : Bool). cond b (Some (commit_record e)) None) (eq-eqb e.origin site own)
  own_record (pending.Release part epoch to vector) own = ap (λ (b : Bool). cond b (Some (record_is.Release part epoch to vector)) None) (eq-eqb site site refl)
  own_record (pending.Grant part epoch vector) own = ap (λ (b : Bool). cond b (Some (record_is.Grant part epoch vector)) None) (eq-eqb site site refl)

  records_step : (p : Pending) → IsOwn site p → records_of site (step_of site p ∷ past) ≡ records_of site past ++ pending_record p ∷ []
  records_step (pending.Commit e) own = records_commit site past e own
  records_step (pending.Release part epoch to vector) own = records_release site past part epoch to vector
  records_step (pending.Grant part epoch vector) own = records_grant site past part epoch vector

  frames_step : (p : Pending) → IsOwn site p → frames_of site (step_of site p ∷ past) ≡ frames_of site past ++ frame_of (pending_record p) ∷ []
  frames_step p own = ap (λ (rs : List Record). map frame_of rs) (records_step p own) ∙ map-append frame_of (records_of site past) (pending_record p ∷ [])

  down_step : (p : Pending) → is_down site (step_of site p ∷ past) ≡ is_down site past
  down_step (pending.Commit e) = refl
  down_step (pending.Release part epoch to vector) = refl
  down_step (pending.Grant part epoch vector) = refl

  faults_step : (p : Pending) → fault_count site (step_of site p ∷ past) ≡ fault_count site past
  faults_step (pending.Commit e) = refl
  faults_step (pending.Release part epoch to vector) = refl
  faults_step (pending.Grant part epoch vector) = refl

  causes_step : (told : Option Story) (p : Pending) → HaveCauses site told past → HaveCauses site told (step_of site p ∷ past)
  causes_step told (pending.Commit e) h = (tt, h)
  causes_step told (pending.Release part epoch to vector) h = (tt, h)
  causes_step told (pending.Grant part epoch vector) h = (tt, h)

  -- a Doubt takes the site down, with its frame
  down_doubt : (p : Pending) → is_down site (Doubt site p ∷ past) ≡ true
  down_doubt p = rw (eq-eqb site site refl) refl

  doubted_doubt : (p : Pending) → doubted site (Doubt site p ∷ past) ≡ Some (frame_of (pending_record p))
  doubted_doubt p = rw (eq-eqb site site refl) refl

-- ---- what is kept

module _ (layout : Layout) (opened : List ℕ) (site : ℕ) (past : List Step) (parts : Parts) (txn : TxnId) (p : Pending) (store : Contents)
    (live : Bool) (gate : ℕ) (told : Option Story) (faults : ℕ) (k : Keeps layout opened site past parts) (m : MayWrite layout site past txn p)
    (on : IsTrue parts.live) (l : store.layout ≡ parts.store.layout) where
  was : Settled (frames_of site past) parts.gate parts.told
  was = k.logged.settled m.up on

  abbrev frame : List ℕ
  frame = frame_of (pending_record p)

  -- ---- Done

  logged_done : AppendedTo parts frame append.Done live gate told faults → Logged site (step_of site p ∷ past) live gate told
  logged_done a =
      let there : Settled (frames_of site (step_of site p ∷ past)) gate told =
      subst (λ (frames : List (List ℕ)). Settled frames gate told) (sym (frames_step site past p m.is_own))
      (settled_done (frames_of site past) parts.gate gate frame parts.told told (a.at_gate refl) a.story was) in
      record {
        settled = λ up on. there;
        held = λ up. held_settled (frames_of site (step_of site p ∷ past)) gate told there;
        doubtful = λ down. absurd (false≢true (sym (down_step site past p ∙ m.up) ∙ down));
      }

  caused_done : AppendedTo parts frame append.Done live gate told faults → Caused (at opened site) site (step_of site p ∷ past) told faults
  caused_done a = record {
    few = subst (λ (n : ℕ). (at opened site + n ≤ faults) ⊎ (2 ^ 64 - 1 ≤ faults)) (sym (faults_step site past p))
        (risen (at opened site) (fault_count site past) parts.faults faults k.caused.few a.count);
    each = causes_step site past told p
        (causes_stay site parts.told told (tells_not (Appends parts.gate frame append.Done) parts.told told a.story) past k.caused.each);
  }

  -- ---- Undone

  logged_undone : AppendedTo parts frame append.Undone live gate told faults → Logged site (Fail site txn (Log site) ∷ past) live gate told
  logged_undone a = record {
    settled = λ up lives. absurd (undone (a.is_live.0 lives));
    held = λ up. held_undone (frames_of site past) parts.gate frame parts.told told a.story was;
    doubtful = λ down. absurd (false≢true (sym m.up ∙ down));
  }

  caused_fault : (done : Appended) (x : Step) → done ≢ append.Done → AppendedTo parts frame done live gate told faults
      → fault_count site (x ∷ past) ≡ suc (fault_count site past) → HasCause site told x past → Caused (at opened site) site (x ∷ past) told faults
  caused_fault done x n a more cause = record {
    few = subst (λ (n : ℕ). (at opened site + n ≤ faults) ⊎ (2 ^ 64 - 1 ≤ faults)) (sym more)
        (rose (at opened site) (fault_count site past) parts.faults faults k.caused.few a.count (a.cause n));
    each = (cause, causes_stay site parts.told told (tells_not (Appends parts.gate frame done) parts.told told a.story) past k.caused.each);
  }

  -- ---- Doubt

  logged_doubt : AppendedTo parts frame append.Doubt live gate told faults → Logged site (Doubt site p ∷ past) live gate told
  logged_doubt a = record {
    settled = λ up lives. absurd (false≢true (sym up ∙ down_doubt site past p));
    held = λ up. absurd (false≢true (sym up ∙ down_doubt site past p));
    doubtful = λ down. left_now (HoldsWith (frames_of site past) (λ next. doubted site (Doubt site p ∷ past) ≡ Some next)) parts.told told
        (leaves_append (λ next. doubted site (Doubt site p ∷ past) ≡ Some next) (frames_of site past) parts.gate frame append.Doubt parts.told told
        (doubted_doubt site past p) a.story was);
  }

-- ---- store and locks

module _ (layout : Layout) (opened : List ℕ) (site : ℕ) (past : List Step) (parts : Parts) (k : Keeps layout opened site past parts) (txn : TxnId) where
  stores_done : (p : Pending) → MayWrite layout site past txn p
      → Stores layout (step_of site p ∷ past) site (installed_after p append.Done parts.store.installed)
  stores_done (pending.Commit e) m = stores_commit layout past site e parts.store.installed (k.legal, m.allowed) m.is_own k.stores
  stores_done (pending.Release part epoch to vector) m =
      stores_still layout past (Release site part epoch to vector) site parts.store.installed refl k.stores
  stores_done (pending.Grant part epoch vector) m = stores_still layout past (Grant site part epoch vector) site parts.store.installed refl k.stores

  holders_done : (p : Pending) → MayWrite layout site past txn p → (locks_after p append.Done parts.locks).holders ≡ claims site (step_of site p ∷ past)
  holders_done (pending.Commit e) m =
      ap (λ (cs : List Claim). without e.txn cs) k.holders
      ∙ sym (running_ends layout site past (Commit e) e.txn (k.legal, m.allowed) (λ ts. refl) (λ u. refl))
  holders_done (pending.Release part epoch to vector) m = k.holders
  holders_done (pending.Grant part epoch vector) m = k.holders

  -- a Fail takes the attempt's claim
  fail_takes : Allowed layout past (Fail site txn (Log site)) → without txn (claims site past) ≡ claims site (Fail site txn (Log site) ∷ past)
  fail_takes may = sym (running_ends layout site past (Fail site txn (Log site)) txn (k.legal, may) (λ ts. refl) (λ u. refl))

  holders_undone : (p : Pending) → MayWrite layout site past txn p
      → (locks_after p append.Undone parts.locks).holders ≡ claims site (Fail site txn (Log site) ∷ past)
  holders_undone (pending.Commit e) m =
      ap (λ (t : TxnId). without t parts.locks.holders) m.is_for ∙ (ap (λ (cs : List Claim). without txn cs) k.holders ∙ fail_takes m.may_fail)
  holders_undone (pending.Release part epoch to vector) m =
      k.holders ∙ (sym (routed_holds_nothing layout past site txn k.legal m.is_for) ∙ fail_takes m.may_fail)
  holders_undone (pending.Grant part epoch vector) m =
      k.holders ∙ (sym (routed_holds_nothing layout past site txn k.legal m.is_for) ∙ fail_takes m.may_fail)

  waiters_after : (p : Pending) (done : Appended) (x : Step) → Each (IsSent site (x ∷ past)) (locks_after p done parts.locks).waiters
  waiters_after p append.Doubt x = tt
  waiters_after (pending.Commit e) append.Done x = sent_on site x past parts.locks.waiters k.waiters
  waiters_after (pending.Commit e) append.Undone x = sent_on site x past parts.locks.waiters k.waiters
  waiters_after p other x = sent_on site x past parts.locks.waiters k.waiters

pub written : (layout : Layout) (opened : List ℕ) (site : ℕ) (past : List Step) (parts : Parts) (txn : TxnId) (p : Pending) (done : Appended)
    (store : Contents) (live : Bool) (gate : ℕ) (told : Option Story) (faults : ℕ) → Keeps layout opened site past parts → MayWrite layout site past txn p
    → IsTrue parts.live → AppendedTo parts (frame_of (pending_record p)) done live gate told faults
    → store.layout ≡ parts.store.layout → store.installed ≡ installed_after p done parts.store.installed
    → Keeps layout opened site (step_after site txn p done ∷ past)
    (record { store = store; locks = locks_after p done parts.locks; live = live; gate = gate; told = told; faults = faults })
written layout opened site past parts txn p append.Done store live gate told faults k m on a l i = record {
  there = k.there;
  legal = (k.legal, m.allowed);
  layout_is = l ∙ k.layout_is;
  stores = subst (λ (ins : List Past). Stores layout (step_of site p ∷ past) site ins) (sym i) (stores_done layout opened site past parts k txn p m);
  holders = holders_done layout opened site past parts k txn p m;
  waiters = waiters_after layout opened site past parts k txn p append.Done (step_of site p);
  logged = logged_done layout opened site past parts txn p store live gate told faults k m on l a;
  caused = caused_done layout opened site past parts txn p store live gate told faults k m on l a;
}
written layout opened site past parts txn p append.Undone store live gate told faults k m on a l i = record {
  there = k.there;
  legal = (k.legal, m.may_fail);
  layout_is = l ∙ k.layout_is;
  stores = subst (λ (ins : List Past). Stores layout (Fail site txn (Log site) ∷ past) site ins)
      (sym (i ∙ installs_nothing p append.Undone parts.store.installed undone))
      (stores_still layout past (Fail site txn (Log site)) site parts.store.installed refl k.stores);
  holders = holders_undone layout opened site past parts k txn p m;
  waiters = waiters_after layout opened site past parts k txn p append.Undone (Fail site txn (Log site));
  logged = logged_undone layout opened site past parts txn p store live gate told faults k m on l a;
  caused = caused_fault layout opened site past parts txn p store live gate told faults k m on l
      append.Undone (Fail site txn (Log site)) undone a (faults_fail site past txn site) tt;
}
written layout opened site past parts txn p append.Doubt store live gate told faults k m on a l i = record {
  there = k.there;
  legal = (k.legal, may_doubt layout past site p m.is_own m.allowed);
  layout_is = l ∙ k.layout_is;
  stores = subst (λ (ins : List Past). Stores layout (Doubt site p ∷ past) site ins)
      (sym (i ∙ installs_nothing p append.Doubt parts.store.installed in_doubt))
      (stores_still layout past (Doubt site p) site parts.store.installed refl k.stores);
  holders = sym (ap (map (claimed past)) (running_none site past p));
  waiters = tt;
  logged = logged_doubt layout opened site past parts txn p store live gate told faults k m on l a;
  caused = caused_fault layout opened site past parts txn p store live gate told faults k m on l
      append.Doubt (Doubt site p) in_doubt a (faults_doubt site past p) tt;
}

-- ---- crashes

-- nothing was written
pub crash_still : (layout : Layout) (opened : List ℕ) (site : ℕ) (parts : Parts) (old new : View) (told : Option Story)
    → Keeps layout opened site (reverse old.seen) parts → told ≡ parts.told → Both (Crashes site old new) parts.told told
crash_still layout opened site parts old new told k e =
    subst (λ (o : Option Story). Both (Crashes site old new) parts.told o) (sym e)
    (leaves_still (HoldsWith frames (MayCome site old new)) parts.told (elim (cases_Bool (is_down site (reverse old.seen))) [
      | inl down ↦ some_weaker (HoldsWith frames InDoubt) (HoldsWith frames (MayCome site old new)) parts.told pends (k.logged.doubtful down)
      | inr up ↦ some_weaker (Holds frames) (HoldsWith frames (MayCome site old new)) parts.told (λ c h. inl h) (k.logged.held up)
    ]))
  where
    frames : List (List ℕ)
    frames = frames_of site (reverse old.seen)

    InDoubt : List ℕ → Type 0
    InDoubt next = doubted site (reverse old.seen) ≡ Some next

    pends : (c : List ℕ) → HoldsWith frames InDoubt c → HoldsWith frames (MayCome site old new) c
    pends c (inl h) = inl h
    pends c (inr h) = inr (h.0, inr h.1, h.2)

-- a record was appended, whose step was allowed in a turn between the two
pub crash_written : (layout : Layout) (opened : List ℕ) (site : ℕ) (parts : Parts) (old new : View) (turn : List Step) (txn : TxnId) (p : Pending)
    (done : Appended) (live : Bool) (gate : ℕ) (told : Option Story) (faults : ℕ) → Keeps layout opened site (reverse old.seen) parts → IsTrue parts.live
    → layout_of new ≡ layout → IsPrefix old.seen turn → IsPrefix turn new.seen → IsFalse (is_down site (reverse old.seen))
    → MayWrite layout site (reverse turn) txn p
    → AppendedTo parts (frame_of (pending_record p)) done live gate told faults
    → Both (Crashes site old new) parts.told told
crash_written layout opened site parts old new turn txn p done live gate told faults k on e b c up m a =
    leaves_append (MayCome site old new) (frames_of site (reverse old.seen)) parts.gate (frame_of (pending_record p)) done parts.told told
    (inl (
      turn,
      step_of site p,
      pending_record p,
      b,
      c,
      subst (λ (schema : Layout). Allowed schema (reverse turn) (step_of site p)) (sym e) m.allowed,
      own_record site (reverse turn) p m.is_own,
      refl,
    ))
    a.story (k.logged.settled up on)
