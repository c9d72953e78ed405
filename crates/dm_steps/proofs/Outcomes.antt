-- What a Route for a partition or a site has come to, after one step more.
use Rattle.std.proofs.Common.{ℕ, ◌≡◌, Bool, true, false, if◌then◌else◌, List, [], ◌∷◌, Option, Some, None, refl}
use Rattle.std.specs.List.{cons_option, list_any}
use Rattle.std.specs.Option.{option_or}
use Rattle.std.specs.Prelude.{◌||◌, filter_map, slice_get}
use Rattle.dm_event.specs.Layout.{Layout}
use Rattle.dm_event.specs.declared.step.Step.{Step}
use Rattle.dm_model.specs.Attempts.{is_route}
use Rattle.dm_model.specs.Outcomes.{placings_since, settled_epoch, restarted_since}
use Rattle.dm_model.specs.Placings.{placing}
use Rattle.dm_model.specs.Progress.{is_restart}
use Rattle.dm_model.specs.Words.{since}
use Rattle.dm_steps.specs.Next.{last_settled, next_settled, next_restarted}

pub settled_next : (layout : Layout) (c part site : ℕ) (s : Step) (past : List Step)
    → last_settled layout (s ∷ past) c part site ≡ next_settled c s (settled_epoch site (placing layout (s ∷ past) part)) (last_settled layout past c part site)
settled_next layout c part site s past = by_route (settled_epoch site (placing layout (s ∷ past) part)) (is_route c s)
  where
    by_route : (o : Option ℕ) (b : Bool)
        → slice_get (cons_option o (filter_map (settled_epoch site) (if b then [] else placings_since layout past c part))) 0
        ≡ option_or o (if b then None else last_settled layout past c part site)
    by_route (Some e) b = refl
    by_route None true = refl
    by_route None false = refl

pub restarted_next : (c site : ℕ) (s : Step) (past : List Step)
    → restarted_since c site (s ∷ past) ≡ next_restarted c site s (restarted_since c site past)
restarted_next c site s past = by_route (is_route c s)
  where
    by_route : (b : Bool) → list_any (is_restart site) (if b then [] else s ∷ since (is_route c) past)
        ≡ (if b then false else is_restart site s || restarted_since c site past)
    by_route true = refl
    by_route false = refl
