-- The attempts that run, one after the other, and what they declare.
use Rattle.std.proofs.Common.{ℕ, zero, suc, ◌+◌, ◌<◌, ◌≡◌, ◌==◌, ◌&&◌, Bool, true, false, cond, if◌then◌else◌, List, [], ◌∷◌, Some, None, length, drop, get_or}
use Rattle.std.proofs.Common.{map, refl, sym, ap, ◌∙◌, subst, arith}
use Rattle.std.proofs.lemmas.Option.{get_or_from_slice_get, slice_get-get_or}
use Rattle.std.specs.List.{AllByRecursion as Each}
use Rattle.std.specs.Option.{option_or}
use Rattle.std.specs.Prelude.{option_map, filter, find}
use Rattle.dm_event.specs.Layout.{Layout}
use Rattle.dm_event.specs.declared.step.Step.{Step}
use Rattle.dm_event.specs.declared.step.TxnId.{TxnId}
use Rattle.dm_kept.proofs.Declaring.{runner_declares}
use Rattle.dm_kept.specs.Telling.{last_keys, held_by, runs_on}
use Rattle.dm_model.specs.Allowed.{common_key, holder_among}
use Rattle.dm_model.specs.Attempts.{declared}
use Rattle.dm_model.specs.Choices.{parts_in_order}
use Rattle.dm_model.specs.Legal.{LegalPast}
use Rattle.dm_model.specs.Runs.{runs}
use Rattle.dm_model.specs.Tests.{is_among}
use Rattle.dm_runs.specs.Running.{running_in, AreRuns}
use Rattle.dm_runs.specs.declared.run.Run.{Run}
use Rattle.dm_steps.proofs.Finding.{rest_is}

each_at : {X : Type 0} (P : X → Type 0) (xs : List X) → Each P xs → (i : ℕ) (x : X) → i < length xs → x ≡ get_or xs i x → P x
each_at P [] h i x l e = absurd (omega (arith, l))
each_at P (y ∷ ys) h zero x l e = subst P (sym e) h.0
each_at P (y ∷ ys) h (suc i) x l e = each_at P ys h.1 i x (omega (arith, l)) e

same_read : {X : Type 0} (xs : List X) (i : ℕ) (d : X) → i < length xs → get_or xs i d ≡ get_or xs i (get_or xs i d)
same_read xs i d h = sym (get_or_from_slice_get xs i (get_or xs i d) (get_or xs i d) (slice_get-get_or xs i d h))

-- the attempt declares a key of the partition
abbrev pub is_on : Layout → List Step → ℕ → TxnId → Bool
is_on layout past part t = is_among (parts_in_order layout (declared t past)) part

module _ (layout : Layout) (past : List Step) (legal : LegalPast layout past) (rs : List Run) (are : AreRuns past rs) where
  module _ (site i : ℕ) (d : Run) (h : i < length rs) where
    one : running_in site (drop i rs)
        ≡ map (λ (x : Run). x.txn) (cond ((get_or rs i d).site == site) (get_or rs i d ∷ filter (λ x. x.site == site) (drop (i + 1) rs))
        (filter (λ x. x.site == site) (drop (i + 1) rs)))
    one = ap (λ (l : List Run). running_in site l) (rest_is rs i (get_or rs i d) h (same_read rs i d h))

    declares : declared (get_or rs i d).txn past ≡ last_keys (get_or rs i d).txn.session past
    declares =
        runner_declares layout past legal (get_or rs i d).site (get_or rs i d).txn
        (each_at (λ (x : Run). runs x.site x.txn past ≡ true) rs are.each i (get_or rs i d) h (same_read rs i d h))

    -- the attempt at a place is looked at first
    pub holder_at : (keys : List ℕ) → holder_among keys (running_in site (drop i rs)) past
        ≡ option_or (held_by (get_or rs i d) site keys past) (holder_among keys (running_in site (drop (i + 1) rs)) past)
    holder_at keys =
        ap (λ (l : List TxnId). holder_among keys l past) one ∙ by (get_or rs i d) ((get_or rs i d).site == site)
        ∙ ap (λ (ks : List ℕ). option_or (if (get_or rs i d).site == site then option_map (λ key. ((get_or rs i d).txn, key)) (common_key keys ks) else None)
        (holder_among keys (running_in site (drop (i + 1) rs)) past)) declares
      where
        by : (r : Run) (b : Bool)
            → holder_among keys
            (map (λ (x : Run). x.txn) (cond b (r ∷ filter (λ x. x.site == site) (drop (i + 1) rs)) (filter (λ x. x.site == site) (drop (i + 1) rs)))) past
            ≡ option_or (if b then option_map (λ key. (r.txn, key)) (common_key keys (declared r.txn past)) else None)
            (holder_among keys (running_in site (drop (i + 1) rs)) past)
        by r true = refl
        by r false = refl

    pub runner_at : (part : ℕ) → find (is_on layout past part) (running_in site (drop i rs))
        ≡ option_or (runs_on layout past (get_or rs i d) site part) (find (is_on layout past part) (running_in site (drop (i + 1) rs)))
    runner_at part =
        ap (λ (l : List TxnId). find (is_on layout past part) l) one
        ∙ by (get_or rs i d) ((get_or rs i d).site == site) (is_among (parts_in_order layout (last_keys (get_or rs i d).txn.session past)) part)
        (ap (λ (ks : List ℕ). is_among (parts_in_order layout ks) part) declares)
      where
        by : (r : Run) (a b : Bool) → is_on layout past part r.txn ≡ b
            → find (is_on layout past part)
            (map (λ (x : Run). x.txn) (cond a (r ∷ filter (λ x. x.site == site) (drop (i + 1) rs)) (filter (λ x. x.site == site) (drop (i + 1) rs))))
            ≡ option_or (if a && b then Some r.txn else None) (find (is_on layout past part) (running_in site (drop (i + 1) rs)))
        by r true true f = rw f refl
        by r true false f = rw f refl
        by r false b f = refl
