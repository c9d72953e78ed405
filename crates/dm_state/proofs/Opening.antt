-- The states before any step.
use Rattle.std.proofs.Common.{ℕ, zero, suc, ◌+◌, add-one, take, ◌++◌, ◌≡◌, List, [], ◌∷◌, Some, length, get_or, map, refl, ap, ◌∙◌, sym}
use Rattle.std.proofs.lemmas.List.{length-map}
use Rattle.std.specs.Prelude.{replicate, slice_get, unwrap_or}
use Rattle.dm_event.specs.Layout.{Layout}
use Rattle.dm_event.specs.declared.attempt.Attempt.{Attempt}
use Rattle.dm_event.specs.declared.limits.TheConstants.{MAX_SESSIONS}
use Rattle.dm_event.specs.declared.placing.Placing.{Placing}
use Rattle.dm_event.specs.declared.placing.Placing.TheVariants.{Settled}
use Rattle.dm_state.specs.Standings.{Standings, AreStates, idle}
use Rattle.dm_steps.proofs.Slots.{numbered_same}
use Rattle.dm_steps.specs.Slots.{numbered_in}

abbrev settled_there : ℕ → Placing
settled_there site = Settled site 0

placed : (masters : List ℕ) (part : ℕ) → unwrap_or (slice_get (map settled_there masters) part) (Settled 0 0) ≡ Settled (get_or masters part 0) 0
placed [] part = refl
placed (m ∷ ms) zero = refl
placed (m ∷ ms) (suc part) = placed ms part

pub opening : (layout : Layout) (s : Standings) → s.attempts ≡ replicate MAX_SESSIONS idle → s.replies ≡ replicate MAX_SESSIONS 0
    → s.placings ≡ map (λ site. Settled site 0) layout.masters → AreStates layout [] s
opening layout s a r p = record {
  parts = ap (λ (l : List Placing). length l) p ∙ length-map layout.masters settled_there;
  attempt_of = λ c. ap (λ (l : List Attempt). unwrap_or (numbered_in l c) idle) a ∙ numbered_same idle MAX_SESSIONS c;
  replies_of = λ c. ap (λ (l : List ℕ). unwrap_or (numbered_in l c) 0) r ∙ numbered_same 0 MAX_SESSIONS c;
  placing_of = λ q. ap (λ (l : List Placing). unwrap_or (slice_get l q) (Settled 0 0)) p ∙ placed layout.masters q;
}

-- one partition more
pub placed_more : (masters : List ℕ) (part m : ℕ) → slice_get masters part ≡ Some m
    → map (λ (site : ℕ). Settled site 0) (take part masters) ++ Settled m 0 ∷ [] ≡ map (λ (site : ℕ). Settled site 0) (take (part + 1) masters)
placed_more masters part m h = by masters part h ∙ ap (λ (n : ℕ). map settled_there (take n masters)) (sym (add-one part))
  where
    by : (ms : List ℕ) (q : ℕ) → slice_get ms q ≡ Some m → map settled_there (take q ms) ++ Settled m 0 ∷ [] ≡ map settled_there (take (suc q) ms)
    by [] q g = absurd (cc (g))
    by (x ∷ xs) zero g = let e : x ≡ m = cc (g) in ap (λ (y : ℕ). Settled y 0 ∷ []) (sym e)
    by (x ∷ xs) (suc q) g = ap (λ (l : List Placing). Settled x 0 ∷ l) (by xs q g)
