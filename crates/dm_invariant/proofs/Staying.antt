-- What stays of a site's parts through a step that adds no record, no fault and no doubt of the site.
use Rattle.std.proofs.Common.{ℕ, ◌+◌, ◌-◌, ◌^◌, ◌≤◌, ◌≡◌, ◌⊎◌, Bool, false, cond, List, ◌∷◌, Option, Some, None, refl, sym, ap, ◌∙◌, subst, inr, map}
use Rattle.std.specs.List.{AllByRecursion as Each}
use Rattle.std.specs.Prelude.{option_map, IfSome}
use Rattle.dm_chronicle.specs.Belongs.{belongs}
use Rattle.dm_event.specs.Actors.{actors}
use Rattle.dm_event.specs.Layout.{Layout}
use Rattle.dm_event.specs.Vectors.{at}
use Rattle.dm_event.specs.declared.actor.Actor.TheVariants.{Site}
use Rattle.dm_event.specs.declared.step.Cause.TheVariants as cause
use Rattle.dm_event.specs.declared.step.Found.TheVariants.{Clean}
use Rattle.dm_event.specs.declared.step.Pending.{Pending}
use Rattle.dm_event.specs.declared.step.Step.{Step}
use Rattle.dm_event.specs.declared.step.Step.TheVariants.{Fail, Restart}
use Rattle.dm_frames.specs.Records.{frames_of, pending_record, records_of}
use Rattle.dm_locks.specs.Locks.{Locks}
use Rattle.dm_locks.specs.declared.claim.Claim.{Claim}
use Rattle.dm_logdisk.specs.Story.{Story, EachImage}
use Rattle.dm_model.proofs.ListFacts.{each_map}
use Rattle.dm_model.specs.Allowed.{Allowed}
use Rattle.dm_model.specs.Doubts.{is_down, pending_at}
use Rattle.dm_model.specs.Legal.{LegalPast}
use Rattle.dm_others.proofs.Logs.{records_other, down_other, pending_other, faults_other}
use Rattle.dm_others.proofs.Others.{other_site}
use Rattle.dm_others.proofs.Runs.{claims_other}
use Rattle.dm_others.specs.Faults.{faults}
use Rattle.dm_others.specs.Locking.{claims, IsSent}
use Rattle.dm_record.specs.Bytes.{frame_of}
use Rattle.dm_record.specs.declared.record.Record.{Record}
use Rattle.dm_redo.specs.Holding.{Holds, IsAt, IsFirm}
use Rattle.dm_invariant.specs.Causes.{Caused, HasCause}
use Rattle.dm_invariant.specs.Keeping.{Parts, Keeps}
use Rattle.dm_invariant.specs.Logs.{Logged, HoldsWith, doubted}
use Rattle.dm_store.specs.Contents.{Contents}
use Rattle.dm_stores.proofs.Others.{stores_other}
use Rattle.dm_stores.specs.Stores.{Stores}

-- ---- the log

-- the step leaves the site's records, whether it is down, its pending step and its faults
pub record LeavesLog (site : ℕ) (past : List Step) (x : Step) : Type 0 where
  pub records : records_of site (x ∷ past) ≡ records_of site past
  pub down : is_down site (x ∷ past) ≡ is_down site past
  pub pending : pending_at site (x ∷ past) ≡ pending_at site past
  pub faults : faults site (x ∷ past) ≡ faults site past

module _ (site : ℕ) (past : List Step) (x : Step) (same : LeavesLog site past x) where
  same_frames : frames_of site (x ∷ past) ≡ frames_of site past
  same_frames = ap (λ (rs : List Record). map frame_of rs) same.records

  pub same_doubted : doubted site (x ∷ past) ≡ doubted site past
  same_doubted =
      ap (λ (b : Bool). cond b (option_map (λ p. frame_of (pending_record p)) (pending_at site (x ∷ past))) None) same.down
      ∙ ap (λ (o : Option Pending). cond (is_down site past) (option_map (λ p. frame_of (pending_record p)) o) None) same.pending

  pub logged_same : (live : Bool) (gate : ℕ) (told : Option Story) → Logged site past live gate told → Logged site (x ∷ past) live gate told
  logged_same live gate told l = record {
    settled = λ up on.
        subst (λ (frames : List (List ℕ)). IfSome told (λ s. IsAt frames gate s × IsFirm frames s)) (sym same_frames) (l.settled (sym same.down ∙ up) on);
    held = λ up. subst (λ (frames : List (List ℕ)). IfSome told (EachImage (Holds frames))) (sym same_frames) (l.held (sym same.down ∙ up));
    doubtful = λ down.
        subst (λ (frames : List (List ℕ)). IfSome told (EachImage (HoldsWith frames (λ next. doubted site (x ∷ past) ≡ Some next)))) (sym same_frames)
        (subst (λ (o : Option (List ℕ)). IfSome told (EachImage (HoldsWith (frames_of site past) (λ next. o ≡ Some next)))) (sym same_doubted)
        (l.doubtful (sym same.down ∙ down)));
  }

  pub caused_same : (opened : ℕ) (told : Option Story) (now : ℕ) → HasCause site told x past → Caused opened site past told now
      → Caused opened site (x ∷ past) told now
  caused_same opened told now h c = record {
    few = subst (λ (n : ℕ). (opened + n ≤ now) ⊎ (2 ^ 64 - 1 ≤ now)) (sym same.faults) c.few;
    each = (h, c.each);
  }

-- ---- waiters

pub sent_more : (site : ℕ) (past : List Step) (x : Step) (cs : List Claim) → Each (IsSent site past) cs → Each (IsSent site (x ∷ past)) cs
sent_more site past x cs h = each_map (IsSent site past) (IsSent site (x ∷ past)) (λ c s. (s.0, s.1, inr s.2)) cs h

-- ---- all parts

-- what such a step makes of all parts
pub keeps_more : (layout : Layout) (opened : List ℕ) (site : ℕ) (past : List Step) (parts : Parts) (x : Step) → Keeps layout opened site past parts
    → Allowed layout past x → LeavesLog site past x → HasCause site parts.told x past → (store : Contents) (locks : Locks) → store.layout ≡ parts.store.layout
    → Stores layout (x ∷ past) site store.installed → locks.holders ≡ claims site (x ∷ past) → Each (IsSent site past) locks.waiters
    → Keeps layout opened site (x ∷ past) (record parts { store = store; locks = locks })
keeps_more layout opened site past parts x k a same h store locks l stores holders waiters = record {
  there = k.there;
  legal = (k.legal, a);
  layout_is = l ∙ k.layout_is;
  stores = stores;
  holders = holders;
  waiters = sent_more site past x locks.waiters waiters;
  logged = logged_same site past x same parts.live parts.gate parts.told k.logged;
  caused = caused_same site past x same (at opened site) parts.told parts.faults h k.caused;
}

-- ---- a step of another

-- the site's causes say nothing of it
none_due : (site : ℕ) (told : Option Story) (past : List Step) (x : Step) → belongs actors x (Site site) ≡ false → HasCause site told x past
none_due site told past (Fail at txn (cause.Damage of place read written)) b = λ e. absurd (other_site site at _ b e)
none_due site told past (Restart at vector Clean) b = λ e. absurd (other_site site at _ b e)
none_due site told past other b = tt

module _ (layout : Layout) (opened : List ℕ) (site : ℕ) (past : List Step) (x : Step) (l : LegalPast layout (x ∷ past))
    (b : belongs actors x (Site site) ≡ false) where
  pub log_other : LeavesLog site past x
  log_other = record {
    records = records_other layout site past l.0 x l.1 b;
    down = down_other site past x b;
    pending = pending_other site past x b;
    faults = faults_other site past x b;
  }

  pub keeps_other : (parts : Parts) → Keeps layout opened site past parts → Keeps layout opened site (x ∷ past) parts
  keeps_other parts k =
      keeps_more layout opened site past parts x k l.1 log_other (none_due site parts.told past x b) parts.store parts.locks refl
      (stores_other layout past x site parts.store.installed l b k.stores)
      (k.holders ∙ sym (claims_other layout site past l.0 x l.1 b)) k.waiters
