-- What a further step makes of what is kept of a partition or a site.
use Rattle.std.proofs.Common.{ℕ, suc, ◌+◌, ◌≡◌, ◌==◌, ◌&&◌, Bool, true, false, if◌then◌else◌, List, [], ◌∷◌, ◌++◌, Option, Some, None, length, refl, sym, ap}
use Rattle.std.proofs.Common.{◌∙◌, unwrap_or, arith}
use Rattle.std.specs.List.{cons_option}
use Rattle.std.specs.Option.{option_or}
use Rattle.std.specs.Prelude.{find, option_and_then, option_to_list, filter_map, IfSome}
use Rattle.dm_event.specs.Layout.{Layout}
use Rattle.dm_event.specs.Vectors.{at, join_all}
use Rattle.dm_event.specs.declared.step.Entry.{Entry}
use Rattle.dm_event.specs.declared.step.Found.{Found}
use Rattle.dm_event.specs.declared.step.Found.TheVariants.{Clean, Kept, Lost}
use Rattle.dm_event.specs.declared.step.Step.{Step}
use Rattle.dm_event.specs.declared.step.Step.TheVariants.{Route, Reply, Ask, Settle, Begin, Moved, Commit, End, Fail, Refresh, Release, Grant, Doubt, Restart}
use Rattle.dm_model.specs.Acts.{acts, acts_of, entry_of, entries, entry_at}
use Rattle.dm_model.specs.Doubts.{down_after, is_down, pending_at}
use Rattle.dm_model.specs.Floors.{floor_vector, floor_vectors, floor}
use Rattle.dm_model.specs.Placings.{after_acts, placing}
use Rattle.dm_model.specs.Progress.{entry_count, refreshed, reached, site_vector, is_refresh, is_restart, restart_vector}
use Rattle.dm_model.specs.Words.{latest, since, count_of}
use Rattle.dm_model.proofs.VectorFacts.{at_by, long_by}
use Rattle.dm_steps.proofs.Components.{join_one_more, vector_is}
use Rattle.dm_steps.proofs.Entries.{count_one, find_one}
use Rattle.dm_steps.specs.Adding.{with_number}
use Rattle.dm_steps.specs.Pendings.{kept_of, act_of, entry_by}
use Rattle.dm_steps.specs.Next.{next_placing, next_down, next_pending, next_count, next_refreshed, next_reached, next_vector, next_floor}

-- ---- acts

pub act_is : (s : Step) (past : List Step) → acts_of s past ≡ option_to_list (act_of s (kept_of s past))
act_is (Route txn want min site choice) past = refl
act_is (Reply session number said) past = refl
act_is (Ask part epoch to txn) past = refl
act_is (Settle part epoch) past = refl
act_is (Begin site txn begin) past = refl
act_is (Moved site txn) past = refl
act_is (Commit entry) past = refl
act_is (End site txn ops reads) past = refl
act_is (Fail site txn cause) past = refl
act_is (Refresh site origin) past = refl
act_is (Release site part epoch to vector) past = refl
act_is (Grant site part epoch vector) past = refl
act_is (Doubt site p) past = refl
act_is (Restart site vector Clean) past = refl
act_is (Restart site vector Kept) past = refl
act_is (Restart site vector Lost) past = refl

module _ {X : Type 0} (f : Step → Option X) where
  one_act : (o : Option Step) (more : List Step) → filter_map f (option_to_list o ++ more) ≡ cons_option (option_and_then f o) (filter_map f more)
  one_act None more = refl
  one_act (Some s) more = refl

  -- what is read of the acts, after one step more
  pub acts_next : (s : Step) (past : List Step) → filter_map f (acts (s ∷ past)) ≡ cons_option (option_and_then f (act_of s (kept_of s past)))
      (filter_map f (acts past))
  acts_next s past = ap (λ (l : List Step). filter_map f (l ++ acts past)) (act_is s past) ∙ one_act (act_of s (kept_of s past)) (acts past)

module _ (s : Step) (past : List Step) where
  pub entries_next : entries (s ∷ past) ≡ cons_option (entry_by s (kept_of s past)) (entries past)
  entries_next = acts_next entry_of s past

  as_list : {X : Type 0} (o : Option X) (xs : List X) → cons_option o xs ≡ option_to_list o ++ xs
  as_list None xs = refl
  as_list (Some x) xs = refl

  entries_list : entries (s ∷ past) ≡ option_to_list (entry_by s (kept_of s past)) ++ entries past
  entries_list = entries_next ∙ as_list (entry_by s (kept_of s past)) (entries past)

  pub count_next : (j : ℕ) → entry_count j (s ∷ past) ≡ next_count j s (kept_of s past) (entry_count j past)
  count_next j = ap (λ (es : List Entry). count_of (λ e. e.origin == j) es) entries_list ∙ count_one j (entry_by s (kept_of s past)) (entries past)

  pub entry_next : (j n : ℕ) → entry_at j n (s ∷ past) ≡ option_or (with_number j n (entry_by s (kept_of s past))) (entry_at j n past)
  entry_next j n = ap (λ (es : List Entry). find (λ e. (e.origin == j) && (e.seq == n)) es) entries_list ∙ find_one j n (entry_by s (kept_of s past))
      (entries past)

-- ---- a partition

pub placing_next : (layout : Layout) (s : Step) (past : List Step) (p : ℕ) → placing layout (s ∷ past) p
    ≡ next_placing p s (kept_of s past) (placing layout past p)
placing_next layout (Route txn want min site choice) past p = refl
placing_next layout (Reply session number said) past p = refl
placing_next layout (Ask part epoch to txn) past p = refl
placing_next layout (Settle part epoch) past p = refl
placing_next layout (Begin site txn begin) past p = refl
placing_next layout (Moved site txn) past p = refl
placing_next layout (Commit entry) past p = refl
placing_next layout (End site txn ops reads) past p = refl
placing_next layout (Fail site txn cause) past p = refl
placing_next layout (Refresh site origin) past p = refl
placing_next layout (Release site part epoch to vector) past p = refl
placing_next layout (Grant site part epoch vector) past p = refl
placing_next layout (Doubt site q) past p = refl
placing_next layout (Restart site vector found) past p = ap (λ (l : List Step). after_acts p l (placing layout past p))
    (act_is (Restart site vector found) past)

-- ---- a site

module _ (i : ℕ) (s : Step) (past : List Step) where
  or_else : {X : Type 0} (a b : Option X) (x : X) → unwrap_or (option_or a b) x ≡ unwrap_or a (unwrap_or b x)
  or_else None b x = refl
  or_else (Some a) b x = refl

  pub down_next : is_down i (s ∷ past) ≡ next_down i s (is_down i past)
  down_next = or_else (down_after i s) (latest (down_after i) past) false

  pub pending_next : pending_at i (s ∷ past) ≡ next_pending i s (pending_at i past)
  pending_next = refl

module _ (i j : ℕ) (past : List Step) where
  set_or : (b : Bool) (site : ℕ) (vector : List ℕ) (found : Found) (last : Option (List ℕ)) (before : List Step)
      → at (unwrap_or (option_or (if b then Some vector else None) last) []) j + count_of (is_refresh i j)
      (if b then [] else Restart site vector found ∷ before)
      ≡ (if b then at vector j else at (unwrap_or last []) j + count_of (is_refresh i j) before)
  set_or true site vector found last before = omega arith
  set_or false site vector found last before = refl

  more_or : (b : Bool) (n m : ℕ) → n + (if b then suc m else m) ≡ (if b then suc (n + m) else n + m)
  more_or true n m = omega arith
  more_or false n m = refl

  pub refreshed_next : (s : Step) → refreshed i j (s ∷ past) ≡ next_refreshed i j s (refreshed i j past)
  refreshed_next (Restart site vector found) = set_or (site == i) site vector found (latest (restart_vector i) past) (since (is_restart i) past)
  refreshed_next (Refresh site origin) = more_or ((site == i) && (origin == j)) _ _
  refreshed_next (Route txn want min site choice) = refl
  refreshed_next (Reply session number said) = refl
  refreshed_next (Ask part epoch to txn) = refl
  refreshed_next (Settle part epoch) = refl
  refreshed_next (Begin site txn begin) = refl
  refreshed_next (Moved site txn) = refl
  refreshed_next (Commit entry) = refl
  refreshed_next (End site txn ops reads) = refl
  refreshed_next (Fail site txn cause) = refl
  refreshed_next (Release site part epoch to vector) = refl
  refreshed_next (Grant site part epoch vector) = refl
  refreshed_next (Doubt site q) = refl

  pub reached_next : (s : Step) → reached i j (s ∷ past) ≡ next_reached i j s (kept_of s past) (reached i j past)
  reached_next s = by_test (i == j)
    where
      by_test : (b : Bool) → (if b then entry_count i (s ∷ past) else refreshed i j (s ∷ past))
          ≡ (if b then next_count i s (kept_of s past) (if b then entry_count i past else refreshed i j past) else next_refreshed i j s
          (if b then entry_count i past else refreshed i j past))
      by_test true = count_next s past i
      by_test false = refreshed_next s

pub vector_next : (count i : ℕ) (s : Step) (past : List Step) → site_vector count (s ∷ past) i ≡ next_vector count i s (kept_of s past)
    (site_vector count past i)
vector_next count i s past =
    vector_is count (site_vector count (s ∷ past) i) (λ j. next_reached i j s (kept_of s past) (at (site_vector count past i) j)) (long_by count _)
    (λ k l m. at_by count (λ j. reached i j (s ∷ past)) k l m ∙ reached_next i k past s
    ∙ ap (λ (n : ℕ). next_reached i k s (kept_of s past) n) (sym (at_by count (λ j. reached i j past) k l m)))

pub floor_next : (count i : ℕ) (s : Step) (past : List Step) → IfSome (option_and_then (floor_vector i) (act_of s (kept_of s past))) (λ v. length v ≡ count)
    → floor count (s ∷ past) i ≡ next_floor i s (kept_of s past) (floor count past i)
floor_next count i s past h =
    ap (λ (vs : List (List ℕ)). join_all count vs) (acts_next (floor_vector i) s past)
    ∙ sym (join_one_more count (option_and_then (floor_vector i) (act_of s (kept_of s past))) (floor_vectors i past) h)
