-- Where a partition stood settled.
use Rattle.std.proofs.Common.{ℕ, ◌+◌, ◌<◌, ◌≡◌, Bool, true, false, cond, not, List, [], ◌∷◌, Option, Some, None, length, take, get_or, refl, ap, sym, ◌∙◌}
use Rattle.std.specs.Prelude.{reverse, filter_map, option_to_list, ◌==◌, ◌||◌, ◌&&◌, slice_get}
use Rattle.std.specs.List.{cons_option}
use Rattle.std.specs.Option.{option_or}
use Rattle.dm_event.specs.Layout.{Layout}
use Rattle.dm_event.specs.declared.placing.Placing.{Placing}
use Rattle.dm_event.specs.declared.step.Step.{Step}
use Rattle.dm_model.specs.Attempts.{is_route}
use Rattle.dm_model.specs.Outcomes.{placings_since, settled_epoch, settled_epochs}
use Rattle.dm_model.specs.Placings.{placing}
use Rattle.dm_model.specs.Tests.{is_among}
use Rattle.dm_event.proofs.Backwards.{past_more}

or_first : (a b : Bool) → (a || b) ≡ ((a || false) || b)
or_first true b = refl
or_first false b = refl

among_one : (o : Option ℕ) (xs : List ℕ) (e : ℕ) → is_among (cons_option o xs) e ≡ (is_among (option_to_list o) e || is_among xs e)
among_one None xs e = refl
among_one (Some x) xs e = or_first (x == e) (is_among xs e)

among_rest : (b : Bool) (site e : ℕ) (ps : List Placing) → is_among (filter_map (settled_epoch site) (cond b [] ps)) e ≡ (not b
    && is_among (filter_map (settled_epoch site) ps) e)
among_rest true site e ps = refl
among_rest false site e ps = refl

first_one : (o : Option ℕ) (xs : List ℕ) → slice_get (cons_option o xs) 0 ≡ option_or o (slice_get xs 0)
first_one None xs = refl
first_one (Some x) xs = refl

first_rest : (b : Bool) (site : ℕ) (ps : List Placing) → slice_get (filter_map (settled_epoch site) (cond b [] ps)) 0 ≡ cond b None
    (slice_get (filter_map (settled_epoch site) ps) 0)
first_rest true site ps = refl
first_rest false site ps = refl

-- equals stand for equals
pub stands_same : (a b f a' b' f' : Bool) → a ≡ a' → b ≡ b' → f ≡ f' → (a || (not b && f)) ≡ (a' || (not b' && f'))
stands_same a b f a' b' f' x y z = ap (λ (w : Bool). w || (not b && f)) x ∙ ap (λ (w : Bool). a' || (not w && f)) y ∙ ap (λ (w : Bool). a' || (not b' && w)) z

module _ (layout : Layout) (c part site : ℕ) (steps : List Step) (i : ℕ) (s : Step) (h : i < length steps) (e : s ≡ get_or steps i s) where
  -- at one step more: there, or before it if it is no Route of the session
  pub stood_more : (epoch : ℕ) → is_among (settled_epochs layout (reverse (take (i + 1) steps)) c part site) epoch
      ≡ (is_among (option_to_list (settled_epoch site (placing layout (reverse (take (i + 1) steps)) part))) epoch
      || (not (is_route c s) && is_among (settled_epochs layout (reverse (take i steps)) c part site) epoch))
  stood_more epoch =
      ap (λ (past : List Step). is_among (settled_epochs layout past c part site) epoch) (past_more steps i s h e)
      ∙ among_one (settled_epoch site (placing layout (s ∷ reverse (take i steps)) part)) _ epoch
      ∙ ap (λ (b : Bool). is_among (option_to_list (settled_epoch site (placing layout (s ∷ reverse (take i steps)) part))) epoch || b)
      (among_rest (is_route c s) site epoch (placings_since layout (reverse (take i steps)) c part))
      ∙ ap (λ (past : List Step). is_among (option_to_list (settled_epoch site (placing layout past part))) epoch
      || (not (is_route c s) && is_among (settled_epochs layout (reverse (take i steps)) c part site) epoch)) (sym (past_more steps i s h e))

  pub last_more : slice_get (settled_epochs layout (reverse (take (i + 1) steps)) c part site) 0
      ≡ option_or (settled_epoch site (placing layout (reverse (take (i + 1) steps)) part))
      (cond (is_route c s) None (slice_get (settled_epochs layout (reverse (take i steps)) c part site) 0))
  last_more =
      ap (λ (past : List Step). slice_get (settled_epochs layout past c part site) 0) (past_more steps i s h e)
      ∙ first_one (settled_epoch site (placing layout (s ∷ reverse (take i steps)) part)) _
      ∙ ap (λ (o : Option ℕ). option_or (settled_epoch site (placing layout (s ∷ reverse (take i steps)) part)) o)
      (first_rest (is_route c s) site (placings_since layout (reverse (take i steps)) c part))
      ∙ ap (λ (past : List Step). option_or (settled_epoch site (placing layout past part))
      (cond (is_route c s) None (slice_get (settled_epochs layout (reverse (take i steps)) c part site) 0))) (sym (past_more steps i s h e))
