-- A step installs no more of a site's own than was to come: what is still to come, with what the step installs, is no more than
-- before, but for a Begin there.
use Rattle.std.proofs.Common.{ℕ, suc, ◌+◌, ◌≤◌, ◌≡◌, ◌==◌, Bool, true, false, not, cond, if◌then◌else◌, List, [], ◌∷◌, ◌++◌, Option, Some, None, length, sym}
use Rattle.std.proofs.Common.{ap, ◌∙◌}
use Rattle.std.proofs.Common.{refl, subst, arith, inl, inr, ◌⊎◌, unwrap_or}
use Rattle.std.proofs.lemmas.Bool.{eqb-true, false≢true}
use Rattle.std.proofs.lemmas.List.{length-append}
use Rattle.std.specs.List.{AllByRecursion as Each}
use Rattle.std.specs.Option.{option_or}
use Rattle.dm_event.specs.Layout.{Layout}
use Rattle.dm_event.specs.Txns.{same_txn}
use Rattle.dm_event.specs.declared.step.Entry.{Entry}
use Rattle.dm_event.specs.declared.step.Found.TheVariants.{Clean, Kept, Lost}
use Rattle.dm_event.specs.declared.step.Pending.{Pending}
use Rattle.dm_event.specs.declared.step.Pending.TheVariants as pending
use Rattle.dm_event.specs.declared.step.Step.{Step}
use Rattle.dm_event.specs.declared.step.Step.TheVariants.{Begin, Commit, End, Fail, Doubt, Restart}
use Rattle.dm_event.specs.declared.step.TxnId.{TxnId}
use Rattle.dm_model.proofs.LegalSteps.{legal_commit, legal_restart, doubted_commit}
use Rattle.dm_model.proofs.NumbersKept.{InDoubt}
use Rattle.dm_model.proofs.NumbersSound.{counts, sound_past}
use Rattle.dm_model.proofs.RunningList.{each_running}
use Rattle.dm_model.proofs.SameValues.{txn_own}
use Rattle.dm_model.specs.Allowed.{Allowed}
use Rattle.dm_model.specs.Doubts.{is_down, pending_at, doubt_at}
use Rattle.dm_model.specs.Legal.{LegalPast}
use Rattle.dm_model.specs.Runs.{running, runs}
use Rattle.dm_room.specs.Installs.{doubted, installs_by, installs_to_come, begins_at}
use Rattle.dm_steps.proofs.Running.{running_next}
use Rattle.dm_steps.proofs.Sites.{down_next}
use Rattle.dm_steps.specs.Adding.{of_origin}
use Rattle.dm_steps.specs.Next.{without, next_running, next_down}
use Rattle.dm_steps.specs.Pendings.{kept_of, entry_by}

-- ---- lists of attempts

no_more : (t : TxnId) (ts : List TxnId) → length (without t ts) ≤ length ts
no_more t [] = omega arith
no_more t (x ∷ xs) = by_test (same_txn x t) (no_more t xs)
  where
    by_test : (b : Bool) → length (without t xs) ≤ length xs → length (cond (not b) (x ∷ without t xs) (without t xs)) ≤ suc (length xs)
    by_test true h = omega (arith, h)
    by_test false h = omega (arith, h)

less_or : (t : TxnId) (ts : List TxnId) → (length (without t ts) + 1 ≤ length ts) ⊎ Each (λ u. same_txn u t ≡ false) ts
less_or t [] = inr tt
less_or t (u ∷ ts) = by_test (same_txn u t) refl (less_or t ts)
  where
    by_test : (b : Bool) → same_txn u t ≡ b → (length (without t ts) + 1 ≤ length ts) ⊎ Each (λ v. same_txn v t ≡ false) ts
        → (length (cond (not b) (u ∷ without t ts) (without t ts)) + 1 ≤ suc (length ts)) ⊎ Each (λ v. same_txn v t ≡ false) (u ∷ ts)
    by_test true e r = inl (let l = no_more t ts in omega (arith, l))
    by_test false e (inl l) = inl (omega (arith, l))
    by_test false e (inr h) = inr (e, h)

-- without an attempt that runs there is one less
one_fewer : (i : ℕ) (past : List Step) (t : TxnId) → runs i t past ≡ true → length (without t (running i past)) + 1 ≤ length (running i past)
one_fewer i past t r = elim (less_or t (running i past)) [
  | inl l ↦ l
  | inr h ↦ absurd (false≢true (sym (each_running (λ u. same_txn u t ≡ false) i past t h r) ∙ txn_own t))
]

one_at_most : (j : ℕ) (e : Entry) → of_origin j (Some e) ≤ 1
one_at_most j e = by_test (e.origin == j)
  where
    by_test : (b : Bool) → (if b then 1 else 0) ≤ 1
    by_test true = omega arith
    by_test false = omega arith

module _ (layout : Layout) (past : List Step) (legal : LegalPast layout past) (i : ℕ) where
  abbrev before : ℕ
  before = installs_by (running i past) (is_down i past) (pending_at i past)

  by_commit : (e : Entry) → Allowed layout past (Commit e) → (b : Bool) → (e.origin == i) ≡ b
      → length (without e.txn (running i past)) + (if b then 1 else 0) ≤ length (running i past)
  by_commit e a true f =
      one_fewer i past e.txn (subst (λ (k : ℕ). runs k e.txn past ≡ true) (eqb-true e.origin i f) (legal_commit layout past e a).runs)
  by_commit e a false f = let l = no_more e.txn (running i past) in omega (arith, l)

  by_begin : (b : Bool) (txn : TxnId) (n : ℕ)
      → length (if b then running i past ++ txn ∷ [] else running i past) + n ≤ length (running i past) + n + (if b then 1 else 0)
  by_begin true txn n = let l = length-append (running i past) (txn ∷ []) in omega (arith, l)
  by_begin false txn n = omega arith

  -- a Doubt at the site leaves its own commit to come, which ran there
  by_doubt : (site : ℕ) (p : Pending) → Allowed layout past (Doubt site p) → (b : Bool) → (site == i) ≡ b
      → installs_by (if b then [] else running i past) (unwrap_or (if b then Some true else None) (is_down i past))
      (option_or (if b then Some p else None) (pending_at i past))
      ≤ before
  by_doubt site p a false f = omega arith
  by_doubt site (pending.Commit e) a true f =
      let d = doubted_commit layout past site e a in
      let l = one_fewer i past e.txn (subst (λ (k : ℕ). runs k e.txn past ≡ true) (d.own ∙ eqb-true site i f) d.commit.runs) in
      omega (arith, l)
  by_doubt site (pending.Release part epoch to v) a true f = omega arith
  by_doubt site (pending.Grant part epoch v) a true f = omega arith

  -- a Restart at the site leaves nothing to come
  emptied : (b : Bool) → installs_by (if b then [] else running i past) (unwrap_or (if b then Some false else None) (is_down i past))
      (pending_at i past) ≤ before
  emptied true = omega arith
  emptied false = omega arith

  -- the commit that it keeps was to come
  by_kept : (site : ℕ) (vector : List ℕ) → is_down site past ≡ true → (o : Option Pending) → pending_at site past ≡ o → (b : Bool) → (site == i) ≡ b
      → installs_by (if b then [] else running i past) (unwrap_or (if b then Some false else None) (is_down i past)) (pending_at i past)
      + of_origin i (entry_by (Restart site vector Kept) o) ≤ before
  by_kept site vector down None g b f = let l = emptied b in omega (arith, l)
  by_kept site vector down (Some (pending.Release part epoch to v)) g b f = let l = emptied b in omega (arith, l)
  by_kept site vector down (Some (pending.Grant part epoch v)) g b f = let l = emptied b in omega (arith, l)
  by_kept site vector down (Some (pending.Commit e)) g true f =
      let s : site ≡ i = eqb-true site i f in
      let here : is_down i past ≡ true = subst (λ (k : ℕ). is_down k past ≡ true) s down in
      let held : pending_at i past ≡ Some (pending.Commit e) = subst (λ (k : ℕ). pending_at k past ≡ Some (pending.Commit e)) s g in
      let came : before ≡ length (running i past) + 1 =
      ap (λ (b : Bool). installs_by (running i past) b (pending_at i past)) here ∙ ap (λ (o : Option Pending). length (running i past) + doubted o) held in
      let own = one_at_most i e in
      omega (arith, came, own)
  by_kept site vector down (Some (pending.Commit e)) g false f =
      let due = subst (λ (o : Option Pending). InDoubt layout.sites (counts past) site o) g ((sound_past layout past legal).in_doubt site down) in
      let none : of_origin i (Some e) ≡ 0 = ap (λ (x : Bool). if x then 1 else 0) (ap (λ (k : ℕ). k == i) due.own ∙ f) in
      omega (arith, none)

  by_step : (s : Step) → Allowed layout past s
      → installs_by (next_running i s (running i past)) (next_down i s (is_down i past)) (option_or (doubt_at i s) (pending_at i past))
      + of_origin i (entry_by s (kept_of s past)) ≤ before + begins_at i s
  by_step (Begin site txn begin) a = let l = by_begin (site == i) txn (if is_down i past then doubted (pending_at i past) else 0) in omega (arith, l)
  by_step (Commit e) a = let l = by_commit e a (e.origin == i) refl in omega (arith, l)
  by_step (End site txn ops reads) a = let l = no_more txn (running i past) in omega (arith, l)
  by_step (Fail site txn cause) a = let l = no_more txn (running i past) in omega (arith, l)
  by_step (Doubt site p) a = let l = by_doubt site p a (site == i) refl in omega (arith, l)
  by_step (Restart site vector Kept) a =
      let l = by_kept site vector (legal_restart layout past site vector Kept a).fits (pending_at site past) refl (site == i) refl in omega (arith, l)
  by_step (Restart site vector Clean) a = let l = emptied (site == i) in omega (arith, l)
  by_step (Restart site vector Lost) a = let l = emptied (site == i) in omega (arith, l)
  by_step other a = omega arith

  pub installs_next : (s : Step) → Allowed layout past s
      → installs_to_come i (s ∷ past) + of_origin i (entry_by s (kept_of s past)) ≤ installs_to_come i past + begins_at i s
  installs_next s a =
      subst (λ (runners : List TxnId). installs_by runners (is_down i (s ∷ past)) (pending_at i (s ∷ past)) + of_origin i (entry_by s (kept_of s past))
      ≤ before + begins_at i s) (sym (running_next layout past legal s a i))
      (subst (λ (b : Bool). installs_by (next_running i s (running i past)) b (pending_at i (s ∷ past)) + of_origin i (entry_by s (kept_of s past))
      ≤ before + begins_at i s) (sym (down_next i s past)) (by_step s a))
