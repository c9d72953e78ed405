-- What a further step adds to the entries.
use Rattle.std.proofs.Common.{ℕ, suc, ◌+◌, ◌≤◌, ◌≡◌, Bool, true, false, cond, List, [], ◌∷◌, ◌++◌, Option, Some, None, length, refl, ap, sym}
use Rattle.std.proofs.Common.{◌∙◌, arith, subst}
use Rattle.std.specs.Prelude.{reverse, find, filter_map, option_map, option_to_list, ◌==◌, ◌&&◌, not}
use Rattle.std.specs.Option.{option_or}
use Rattle.std.proofs.lemmas.List.Elements.{filter_map-append}
use Rattle.dm_event.specs.declared.step.Entry.{Entry}
use Rattle.dm_event.specs.declared.step.Found.{Found}
use Rattle.dm_event.specs.declared.step.Found.TheVariants.{Clean, Kept, Lost}
use Rattle.dm_event.specs.declared.step.Pending.{Pending}
use Rattle.dm_event.specs.declared.step.Pending.TheVariants as pending
use Rattle.dm_event.specs.declared.step.Step.{Step}
use Rattle.dm_event.specs.declared.step.Step.TheVariants.{Route, Reply, Ask, Settle, Begin, Moved, Commit, End, Fail, Refresh, Release, Grant, Doubt, Restart}
use Rattle.std.proofs.lemmas.List.{reverse-append}
use Rattle.dm_event.specs.Vectors.{is_at_most}
use Rattle.dm_model.specs.Acts.{acts, acts_of, entry_of, entries}
use Rattle.dm_model.specs.Allowed.{with_kept}
use Rattle.dm_model.specs.Closed.{is_inside, unclosed}
use Rattle.dm_model.specs.Doubts.{step_of, pending_at}
use Rattle.dm_model.specs.Progress.{entry_count}
use Rattle.dm_model.specs.Values.{newest}
use Rattle.dm_model.specs.Words.{count_of}
use Rattle.dm_steps.specs.Adding.{kept_entry, of_origin, with_number, written_by, unclosed_one}

by_pending : (site : ℕ) (o : Option Pending) → option_to_list (kept_entry Kept o) ≡ filter_map entry_of (option_to_list (option_map (step_of site) o))
by_pending site None = refl
by_pending site (Some (pending.Commit e)) = refl
by_pending site (Some (pending.Release part epoch to vector)) = refl
by_pending site (Some (pending.Grant part epoch vector)) = refl

by_found : (site : ℕ) (vector : List ℕ) (found : Found) (past : List Step)
    → option_to_list (kept_entry found (pending_at site past)) ≡ filter_map entry_of (acts_of (Restart site vector found) past)
by_found site vector Kept past = by_pending site (pending_at site past)
by_found site vector Clean past = refl
by_found site vector Lost past = refl

-- a Restart that keeps a commit adds its entry
pub entry_kept : (s : Step) (past : List Step) (site : ℕ) (vector : List ℕ) (found : Found) → s ≡ Restart site vector found
    → option_to_list (kept_entry found (pending_at site past)) ≡ filter_map entry_of (acts_of s past)
entry_kept s past site vector found e = by_found site vector found past ∙ ap (λ (t : Step). filter_map entry_of (acts_of t past)) (sym e)

pub entries_more : (s : Step) (past : List Step) (o : Option Entry) → option_to_list o ≡ filter_map entry_of (acts_of s past)
    → entries (s ∷ past) ≡ option_to_list o ++ entries past
entries_more s past o e = filter_map-append entry_of (acts_of s past) (acts past) ∙ ap (λ (l : List Entry). l ++ entries past) (sym e)

pub count_one : (j : ℕ) (o : Option Entry) (es : List Entry) → count_of (λ e. e.origin == j) (option_to_list o ++ es)
    ≡ count_of (λ e. e.origin == j) es + of_origin
    j o
count_one j None es = omega arith
count_one j (Some e) es = by_test (e.origin == j)
  where
    by_test : (b : Bool) → cond b (suc (count_of (λ d. d.origin == j) es)) (count_of (λ d. d.origin == j) es) ≡ count_of (λ d. d.origin == j) es + cond b 1 0
    by_test true = omega arith
    by_test false = omega arith

pub find_one : (j n : ℕ) (o : Option Entry) (es : List Entry) → find (λ e. (e.origin == j) && (e.seq == n)) (option_to_list o ++ es)
    ≡ option_or (with_number j n o)
    (find (λ e. (e.origin == j) && (e.seq == n)) es)
find_one j n None es = refl
find_one j n (Some e) es = by_test ((e.origin == j) && (e.seq == n))
  where
    rest : Option Entry
    rest = find (λ d. (d.origin == j) && (d.seq == n)) es

    by_test : (b : Bool) → cond b (Some e) (find (λ d. (d.origin == j) && (d.seq == n)) es) ≡ option_or (cond b (Some e) None)
        (find (λ d. (d.origin == j) && (d.seq == n)) es)
    by_test true = refl
    by_test false = refl

pub newest_one : (key : ℕ) (v : List ℕ) (o : Option Entry) (es : List Entry)
    → newest (option_to_list o ++ es) key v ≡ option_or (written_by key v o) (newest es key v)
newest_one key v None es = refl
newest_one key v (Some e) es = refl

-- ---- entries for which a vector isn't closed

abbrev pub named : Entry → ℕ × ℕ
named e = (e.origin, e.seq)

find_last : (p : Entry → Bool) (es : List Entry) (e : Entry) → option_map named (find p (es ++ e ∷ [])) ≡ option_or (option_map named (find p es))
    (cond (p e) (Some (e.origin, e.seq)) None)
find_last p [] e = by_test (p e)
  where
    by_test : (b : Bool) → option_map named (cond b (Some e) None) ≡ cond b (Some (e.origin, e.seq)) None
    by_test true = refl
    by_test false = refl
find_last p (d ∷ es) e = by_test (p d) (find_last p es e)
  where
    by_test : (b : Bool) → option_map named (find p (es ++ e ∷ [])) ≡ option_or (option_map named (find p es)) (cond (p e) (Some (e.origin, e.seq)) None)
        → option_map named (cond b (Some d) (find p (es ++ e ∷ [])))
        ≡ option_or (option_map named (cond b (Some d) (find p es))) (cond (p e) (Some (e.origin, e.seq)) None)
    by_test true h = refl
    by_test false h = h

none_last : {A : Type 0} (o : Option A) → o ≡ option_or o None
none_last None = refl
none_last (Some x) = refl

-- one more entry is the last that is looked at
pub unclosed_more : (v : List ℕ) (o : Option Entry) (es : List Entry)
    → option_map named (unclosed v (reverse (option_to_list o ++ es))) ≡ option_or (option_map named (unclosed v (reverse es)))
    (unclosed_one v o)
unclosed_more v None es = none_last (option_map named (unclosed v (reverse es)))
unclosed_more v (Some e) es =
    ap (λ (l : List Entry). option_map named (unclosed v l)) (reverse-append (e ∷ []) es)
    ∙ find_last (λ d. is_inside v d && not (is_at_most d.begin v)) (reverse es) e

-- a Restart that keeps a commit counts its entry
pub entries_counted : (site : ℕ) (found : Found) (past : List Step) → entries (with_kept site found past) ≡ option_to_list
    (kept_entry found (pending_at site past)) ++ entries past
entries_counted site Clean past = refl
entries_counted site Lost past = refl
entries_counted site Kept past = by_kept (pending_at site past)
  where
    by_kept : (o : Option Pending) → entries (option_to_list (option_map (step_of site) o) ++ past) ≡ option_to_list (kept_entry Kept o) ++ entries past
    by_kept None = refl
    by_kept (Some (pending.Commit e)) = refl
    by_kept (Some (pending.Release part epoch to vector)) = refl
    by_kept (Some (pending.Grant part epoch vector)) = refl

pub count_counted : (j site : ℕ) (found : Found) (past : List Step) → entry_count j (with_kept site found past) ≡ entry_count j past + of_origin j
    (kept_entry found (pending_at site past))
count_counted j site found past =
    ap (λ (es : List Entry). count_of (λ e. e.origin == j) es) (entries_counted site found past)
    ∙ count_one j (kept_entry found (pending_at site past)) (entries past)

pub unclosed_counted : (v : List ℕ) (site : ℕ) (found : Found) (past : List Step)
    → option_map named (unclosed v (reverse (entries (with_kept site found past))))
    ≡ option_or (option_map named (unclosed v (reverse (entries past)))) (unclosed_one v (kept_entry found (pending_at site past)))
unclosed_counted v site found past =
    ap (λ (es : List Entry). option_map named (unclosed v (reverse es))) (entries_counted site found past)
    ∙ unclosed_more v (kept_entry found (pending_at site past)) (entries past)

pub of_origin_few : (j : ℕ) (o : Option Entry) → of_origin j o ≤ 1
of_origin_few j None = omega arith
of_origin_few j (Some e) = elim (e.origin == j) as (λ b. cond b 1 0 ≤ 1) [ true ↦ omega arith | false ↦ omega arith ]

few_more : (j : ℕ) (o : Option Entry) (es : List Entry) (n : ℕ) → count_of (λ e. e.origin == j) es ≤ n
    → count_of (λ e. e.origin == j) (option_to_list o ++ es) ≤ suc n
few_more j o es n h = let one = count_one j o es in let two = of_origin_few j o in omega (arith, one, two)

few_kept : (j site : ℕ) (o : Option Pending) (es : List Entry) (n : ℕ) → count_of (λ e. e.origin == j) es ≤ n
    → count_of (λ e. e.origin == j) (filter_map entry_of (option_to_list (option_map (step_of site) o)) ++ es) ≤ suc n
few_kept j site o es n h = subst (λ (l : List Entry). count_of (λ e. e.origin == j) (l ++ es) ≤ suc n) (by_pending site o)
    (few_more j (kept_entry Kept o) es n h)

-- there are no more entries than steps
pub few_entries : (j : ℕ) (past : List Step) → entry_count j past ≤ length past
few_entries j [] = omega arith
few_entries j (Commit e ∷ past) = few_more j (Some e) (entries past) (length past) (few_entries j past)
few_entries j (Restart site vector Kept ∷ past) =
    subst (λ (l : List Entry). count_of (λ e. e.origin == j) l ≤ suc (length past))
    (sym (filter_map-append entry_of (acts_of (Restart site vector Kept) past) (acts past)))
    (few_kept j site (pending_at site past) (entries past) (length past) (few_entries j past))
few_entries j (Restart site vector Clean ∷ past) = let h = few_entries j past in omega (arith, h)
few_entries j (Restart site vector Lost ∷ past) = let h = few_entries j past in omega (arith, h)
few_entries j (Route txn want min site choice ∷ past) = let h = few_entries j past in omega (arith, h)
few_entries j (Reply session number said ∷ past) = let h = few_entries j past in omega (arith, h)
few_entries j (Ask part epoch to txn ∷ past) = let h = few_entries j past in omega (arith, h)
few_entries j (Settle part epoch ∷ past) = let h = few_entries j past in omega (arith, h)
few_entries j (Begin site txn begin ∷ past) = let h = few_entries j past in omega (arith, h)
few_entries j (Moved site txn ∷ past) = let h = few_entries j past in omega (arith, h)
few_entries j (End site txn ops reads ∷ past) = let h = few_entries j past in omega (arith, h)
few_entries j (Fail site txn cause ∷ past) = let h = few_entries j past in omega (arith, h)
few_entries j (Refresh site origin ∷ past) = let h = few_entries j past in omega (arith, h)
few_entries j (Release site part epoch to vector ∷ past) = let h = few_entries j past in omega (arith, h)
few_entries j (Grant site part epoch vector ∷ past) = let h = few_entries j past in omega (arith, h)
few_entries j (Doubt site p ∷ past) = let h = few_entries j past in omega (arith, h)
