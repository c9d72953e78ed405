-- Searches from the front on.
use Rattle.std.proofs.Common.{ℕ, ◌+◌, ◌<◌, ◌≡◌, Bool, true, false, cond, List, ◌∷◌, Option, Some, None, length, drop, get_or, refl, ap, ◌∙◌}
use Rattle.std.specs.Prelude.{reverse, find, filter, filter_map, option_map, option_and_then, ◌&&◌}
use Rattle.std.specs.List.{cons_option}
use Rattle.std.specs.Option.{option_or}
use Rattle.std.proofs.lemmas.Bool.{cond-true, cond-false}
use Rattle.dm_event.specs.declared.step.Step.{Step}
use Rattle.dm_event.specs.declared.step.TxnId.{TxnId}
use Rattle.dm_event.specs.Layout.{Layout}
use Rattle.dm_model.specs.Allowed.{common_key, holder_among, holder, runner}
use Rattle.dm_model.specs.Attempts.{declared}
use Rattle.dm_model.specs.Choices.{parts_in_order}
use Rattle.dm_model.specs.Tests.{is_among}
use Rattle.dm_model.specs.Runs.{runs, begun_at}
use Rattle.dm_plain.specs.Adding.{begun_holder, holds_one, begun_runner, runs_one}
use Rattle.dm_steps.proofs.Finding.{rest_is, map_reverse}

module _ (site : ℕ) (keys : List ℕ) (past : List Step) where
  -- the attempts that these steps began at the site and that run there
  abbrev pub live : List Step → List TxnId
  live steps = filter (λ t. runs site t past) (filter_map (begun_at site) steps)

  by_run : (t : TxnId) (ts : List TxnId) (b : Bool)
      → holder_among keys (cond b (t ∷ ts) ts) past ≡ option_or (cond b (option_map (λ key. (t, key)) (common_key keys (declared t past))) None)
      (holder_among keys ts past)
  by_run t ts true = refl
  by_run t ts false = refl

  by_begin : (o : Option TxnId) (ts : List TxnId)
      → holder_among keys (filter (λ t. runs site t past) (cons_option o ts)) past ≡ option_or (option_and_then (holds_one site keys past) o)
      (holder_among keys (filter (λ t. runs site t past) ts) past)
  by_begin None ts = refl
  by_begin (Some t) ts = by_run t (filter (λ u. runs site u past) ts) (runs site t past)

  -- the first step is looked at first
  pub holder_first : (s : Step) (steps : List Step) → holder_among keys (live (s ∷ steps)) past ≡ option_or (begun_holder site keys past s)
      (holder_among keys (live steps) past)
  holder_first s steps = by_begin (begun_at site s) (filter_map (begun_at site) steps)

-- the holder is looked for from the earliest step on
pub holder_of : (site : ℕ) (keys : List ℕ) (steps : List Step) → holder site keys (reverse steps) ≡ holder_among keys (live site keys (reverse steps) steps)
    (reverse steps)
holder_of site keys steps = ap (λ (ts : List TxnId). holder_among keys (filter (λ t. runs site t (reverse steps)) ts) (reverse steps))
    (map_reverse (begun_at site) steps)

pub holder_at : (site : ℕ) (keys : List ℕ) (past steps : List Step) (i : ℕ) (s : Step) → i < length steps → s ≡ get_or steps i s
    → holder_among keys (live site keys past (drop i steps)) past ≡ option_or (begun_holder site keys past s)
    (holder_among keys (live site keys past (drop (i + 1) steps)) past)
holder_at site keys past steps i s h e = ap (λ (l : List Step). holder_among keys (live site keys past l) past) (rest_is steps i s h e)
    ∙ holder_first site keys past s (drop (i + 1) steps)

-- ---- the attempt that runs on a partition

module _ (layout : Layout) (site part : ℕ) (past : List Step) where
  -- the attempt declares a key of the partition
  abbrev pub is_on : TxnId → Bool
  is_on t = is_among (parts_in_order layout (declared t past)) part

  -- the first attempt on the partition, of those that these steps began at the site and that run there
  abbrev pub on_part : List Step → Option TxnId
  on_part steps = find is_on (filter (λ t. runs site t past) (filter_map (begun_at site) steps))

  on_run : (t : TxnId) (ts : List TxnId) (b c : Bool) → is_on t ≡ c → find is_on (cond b (t ∷ ts) ts) ≡ option_or (cond (b && c) (Some t) None) (find is_on ts)
  on_run t ts true true e = cond-true (is_on t) (Some t) (find is_on ts) e
  on_run t ts true false e = cond-false (is_on t) (Some t) (find is_on ts) e
  on_run t ts false c e = refl

  on_begin : (o : Option TxnId) (ts : List TxnId)
      → find is_on (filter (λ t. runs site t past) (cons_option o ts)) ≡ option_or (option_and_then (runs_one layout site part past) o)
      (find is_on (filter (λ t. runs site t past) ts))
  on_begin None ts = refl
  on_begin (Some t) ts = on_run t (filter (λ u. runs site u past) ts) (runs site t past) (is_on t) refl

  on_first : (s : Step) (steps : List Step) → on_part (s ∷ steps) ≡ option_or (begun_runner layout site part past s) (on_part steps)
  on_first s steps = on_begin (begun_at site s) (filter_map (begun_at site) steps)

-- the runner is looked for from the earliest step on
pub runner_of : (layout : Layout) (site part : ℕ) (steps : List Step) → runner layout (reverse steps) site part ≡ on_part layout site part (reverse steps) steps
runner_of layout site part steps =
    ap (λ (ts : List TxnId). find (is_on layout site part (reverse steps)) (filter (λ t. runs site t (reverse steps)) ts)) (map_reverse (begun_at site) steps)

pub runner_at : (layout : Layout) (site part : ℕ) (past steps : List Step) (i : ℕ) (s : Step) → i < length steps → s ≡ get_or steps i s
    → on_part layout site part past (drop i steps) ≡ option_or (begun_runner layout site part past s) (on_part layout site part past (drop (i + 1) steps))
runner_at layout site part past steps i s h e = ap (λ (l : List Step). on_part layout site part past l) (rest_is steps i s h e)
    ∙ on_first layout site part past s (drop (i + 1) steps)
