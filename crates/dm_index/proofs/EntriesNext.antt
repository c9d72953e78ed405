-- The places of the entries, after one step more of a legal history.
use Rattle.std.proofs.Common.{ℕ, suc, ◌≡◌, ◌==◌, Bool, true, false, if◌then◌else◌, List, [], ◌∷◌, ◌++◌, Option, Some, None, length, refl, sym}
use Rattle.std.proofs.Common.{ap, ◌∙◌, subst, arith, unwrap_or}
use Rattle.std.proofs.lemmas.Bool.{and_from, le-leb}
use Rattle.std.specs.Prelude.{IfSome, option_and_then, reverse, slice_get}
use Rattle.dm_event.specs.Layout.{Layout}
use Rattle.dm_event.specs.declared.step.Entry.{Entry}
use Rattle.dm_event.specs.declared.step.Found.TheVariants.{Clean, Kept, Lost}
use Rattle.dm_event.specs.declared.step.Pending.{Pending}
use Rattle.dm_event.specs.declared.step.Pending.TheVariants as pending
use Rattle.dm_event.specs.declared.step.Step.{Step}
use Rattle.dm_event.specs.declared.step.Step.TheVariants.{Commit, Doubt, Restart}
use Rattle.dm_index.proofs.Adding.{front, last, with_none, with_one}
use Rattle.dm_index.specs.Places.{marked_in, carried, with_place, entry_place, AreEntries, AreMarks, IsNext}
use Rattle.dm_model.proofs.LegalSteps.{InRange, legal_commit, legal_restart}
use Rattle.dm_model.proofs.NumbersKept.{InDoubt}
use Rattle.dm_model.proofs.NumbersSound.{counts, sound_past}
use Rattle.dm_model.specs.Allowed.{Allowed}
use Rattle.dm_model.specs.Doubts.{doubt_at, pending_at, is_down}
use Rattle.dm_model.specs.Legal.{LegalPast}
use Rattle.dm_model.specs.Progress.{entry_count}
use Rattle.dm_steps.specs.Pendings.{kept_of, entry_by}

-- what an entry is that is added
record Added (layout : Layout) (past : List Step) (e : Entry) : Type 0 where
  origin : InRange layout e.origin
  due : e.seq ≡ suc (entry_count e.origin past)

commit_added : (layout : Layout) (past : List Step) (e : Entry) → Allowed layout past (Commit e) → Added layout past e
commit_added layout past e a = let legal = legal_commit layout past e a in record { origin = legal.origin; due = legal.seq }

-- a pending commit is its site's next entry as long as the site is down
pub pending_due : (layout : Layout) (past : List Step) → LegalPast layout past → (site : ℕ) (e : Entry) → is_down site past ≡ true
    → pending_at site past ≡ Some (pending.Commit e) → (e.origin ≡ site) × (e.seq ≡ suc (entry_count site past))
pending_due layout past h site e down p =
    let d = subst (λ (o : Option Pending). InDoubt layout.sites (counts past) site o) p ((sound_past layout past h).in_doubt site down) in
    (d.own, d.seq)

kept_added : (layout : Layout) (past : List Step) → LegalPast layout past → (site : ℕ) (vector : List ℕ) → Allowed layout past (Restart site vector Kept)
    → (e : Entry) → pending_at site past ≡ Some (pending.Commit e) → Added layout past e
kept_added layout past h site vector a e p =
    let legal = legal_restart layout past site vector Kept a in
    let d = pending_due layout past h site e legal.fits p in
    record {
      origin = subst (λ (i : ℕ). InRange layout i) (sym d.0) legal.may_set.here;
      due = d.1 ∙ ap (λ (i : ℕ). suc (entry_count i past)) (sym d.0);
    }

next_of : (layout : Layout) (past : List Step) (e : Entry) → Added layout past e → IsNext layout past e
next_of layout past e add =
    let due = add.due in
    record { origin = and_from _ _ (le-leb 1 e.origin add.origin.one) (le-leb e.origin layout.sites add.origin.top); due = omega arith }

carried_doubt : (i : ℕ) (o : Option Step) (e : Entry) → option_and_then (doubt_at i) o ≡ Some (pending.Commit e) → option_and_then carried o ≡ Some e
carried_doubt i None e h = absurd (cc (h))
carried_doubt i (Some (Doubt site p)) e h = by (site == i) p h
  where
    by : (b : Bool) (q : Pending) → (if b then Some q else None) ≡ Some (pending.Commit e) → carried (Doubt site q) ≡ Some e
    by true q g = let f : q ≡ pending.Commit e = cc (g) in ap (λ (x : Pending). carried (Doubt site x)) f
    by false q g = absurd (cc (g))
carried_doubt i (Some other) e h = absurd (cc (h))

-- an entry that a step adds is the next of its origin
pub entry_next_one : (layout : Layout) (past : List Step) → LegalPast layout past → (s : Step) → Allowed layout past s
    → IfSome (entry_by s (kept_of s past)) (IsNext layout past)
entry_next_one layout past h (Commit e) a = next_of layout past e (commit_added layout past e a)
entry_next_one layout past h (Restart site vector Kept) a = by (pending_at site past) refl
  where
    by : (o : Option Pending) → pending_at site past ≡ o → IfSome (entry_by (Restart site vector Kept) o) (IsNext layout past)
    by None p = tt
    by (Some (pending.Commit e)) p = next_of layout past e (kept_added layout past h site vector a e p)
    by (Some (pending.Release part epoch to v)) p = tt
    by (Some (pending.Grant part epoch v)) p = tt
entry_next_one layout past h other a = tt

module _ (layout : Layout) (steps : List Step) (legal : LegalPast layout (reverse steps)) (lists : List (List ℕ)) (are : AreEntries layout steps lists)
    (doubts : List (Option ℕ)) (marks : AreMarks doubt_at steps doubts (λ i. pending_at i (reverse steps))) where
  -- a kept commit stands at its site's last Doubt
  after_restart : (site : ℕ) (vector : List ℕ) → Allowed layout (reverse steps) (Restart site vector Kept) → (o : Option Pending)
      → pending_at site (reverse steps) ≡ o
      → AreEntries layout (steps ++ Restart site vector Kept ∷ [])
      (with_place lists (entry_by (Restart site vector Kept) o) (entry_place doubts (Restart site vector Kept) (length steps)))
  after_restart site vector a None p =
      with_none layout steps lists are (Restart site vector Kept) (ap (λ (x : Option Pending). entry_by (Restart site vector Kept) x) p)
  after_restart site vector a (Some (pending.Release part epoch to v)) p =
      with_none layout steps lists are (Restart site vector Kept) (ap (λ (x : Option Pending). entry_by (Restart site vector Kept) x) p)
  after_restart site vector a (Some (pending.Grant part epoch v)) p =
      with_none layout steps lists are (Restart site vector Kept) (ap (λ (x : Option Pending). entry_by (Restart site vector Kept) x) p)
  after_restart site vector a (Some (pending.Commit e)) p = by (marked_in doubts site) refl (marks.found site ∙ p)
    where
      by : (o : Option ℕ) → marked_in doubts site ≡ o → option_and_then (λ q. option_and_then (doubt_at site) (slice_get steps q)) o ≡ Some (pending.Commit e)
          → AreEntries layout (steps ++ Restart site vector Kept ∷ []) (with_place lists (Some e) (unwrap_or (marked_in doubts site) (length steps)))
      by None f g = absurd (cc (g))
      by (Some q) f g =
          let l = marks.below site q f in
          let add = kept_added layout (reverse steps) legal site vector a e p in
          subst (λ (n : ℕ). AreEntries layout (steps ++ Restart site vector Kept ∷ []) (with_place lists (Some e) n))
          (sym (ap (λ (x : Option ℕ). unwrap_or x (length steps)) f))
          (with_one layout steps lists are (Restart site vector Kept) e q (ap (λ (x : Option Pending). entry_by (Restart site vector Kept) x) p)
          add.origin.one add.origin.top add.due
          (ap (λ (x : Option Step). option_and_then carried x) (front steps (Restart site vector Kept ∷ []) q l) ∙ carried_doubt site (slice_get steps q) e g)
          (omega (arith, l)))

  pub entries_next : (s : Step) → Allowed layout (reverse steps) s
      → AreEntries layout (steps ++ s ∷ []) (with_place lists (entry_by s (kept_of s (reverse steps))) (entry_place doubts s (length steps)))
  entries_next (Commit e) a =
      let add = commit_added layout (reverse steps) e a in
      with_one layout steps lists are (Commit e) e (length steps) refl add.origin.one add.origin.top add.due
      (ap (λ (x : Option Step). option_and_then carried x) (last steps (Commit e) (length steps) refl)) (omega arith)
  entries_next (Restart site vector Kept) a = after_restart site vector a (pending_at site (reverse steps)) refl
  entries_next (Restart site vector Clean) a = with_none layout steps lists are (Restart site vector Clean) refl
  entries_next (Restart site vector Lost) a = with_none layout steps lists are (Restart site vector Lost) refl
  entries_next other a = with_none layout steps lists are other refl
