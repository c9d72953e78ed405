-- The places of no steps.
use Rattle.std.proofs.Common.{ℕ, zero, suc, ◌+◌, ◌≡◌, List, [], ◌∷◌, ◌++◌, Vec, Global, map, arith, Option, Some, None, length, refl}
use Rattle.std.proofs.Common.{sym, ap, ◌∙◌, subst, unwrap_or}
use Rattle.std.proofs.lemmas.List.{length-replicate, map-append}
use Rattle.std.specs.Prelude.{replicate, option_and_then, slice_get}
use Rattle.dm_event.specs.Layout.{Layout}
use Rattle.dm_event.specs.declared.limits.TheConstants.{MAX_SESSIONS}
use Rattle.dm_event.specs.declared.step.Step.{Step}
use Rattle.dm_index.proofs.Marking.{flat}
use Rattle.dm_index.specs.Places.{Places, ArePlaces, AreMarks, AreEntries, marked_in, places_of, place_in, carried_at}
use Rattle.dm_steps.proofs.Slots.{numbered_same}
use Rattle.dm_steps.specs.Slots.{numbered_in}

no_mark : (n c : ℕ) (list : List (Option ℕ)) → list ≡ replicate n None → marked_in list c ≡ None
no_mark n c list e =
    flat (numbered_in list c) ∙ ap (λ (l : List (Option ℕ)). unwrap_or (numbered_in l c) None) e ∙ numbered_same {X = Option ℕ} None n c

no_marks : {X : Type 0} (f : ℕ → Step → Option X) (n : ℕ) (list : List (Option ℕ)) → list ≡ replicate n None → AreMarks f [] list (λ c. None)
no_marks f n list e = record {
  found = λ c. ap (λ (o : Option ℕ). option_and_then (λ p. option_and_then (f c) (slice_get [] p)) o) (no_mark n c list e);
  below = λ c p h. absurd (cc (sym (no_mark n c list e) ∙ h));
}

nothing_at : (o : Option ℕ) → option_and_then (carried_at []) o ≡ None
nothing_at None = refl
nothing_at (Some p) = refl

none_numbered : (n : ℕ) → numbered_in {X = ℕ} [] n ≡ None
none_numbered zero = refl
none_numbered (suc n) = refl

empty_places : (m origin : ℕ) → places_of (replicate m []) origin ≡ []
empty_places m origin = numbered_same {X = List ℕ} [] m origin

place_none : (m origin seq : ℕ) → place_in (replicate m []) origin seq ≡ None
place_none m origin seq = by (numbered_in (replicate m []) origin) (empty_places m origin)
  where
    by : (o : Option (List ℕ)) → unwrap_or o [] ≡ [] → option_and_then (λ l. numbered_in l seq) o ≡ None
    by None e = refl
    by (Some l) e = ap (λ (x : List ℕ). numbered_in x seq) e ∙ none_numbered seq

no_entries : (layout : Layout) (lists : List (List ℕ)) → lists ≡ replicate layout.sites [] → AreEntries layout [] lists
no_entries layout lists e = subst (λ (ls : List (List ℕ)). AreEntries layout [] ls) (sym e) (record {
  long = length-replicate layout.sites [];
  found = λ j n. nothing_at (place_in (replicate layout.sites []) j n);
  counts = λ j. ap (λ (l : List ℕ). length l) (empty_places layout.sites j);
  below = λ j n p h. absurd (cc (sym (place_none layout.sites j n) ∙ h));
})

pub opening : (layout : Layout) (p : Places) → p.routes ≡ replicate MAX_SESSIONS None → p.doubts ≡ replicate layout.sites None
    → p.entries ≡ replicate layout.sites [] → ArePlaces layout [] p
opening layout p r d e = record {
  sessions = ap (λ (l : List (Option ℕ)). length l) r ∙ length-replicate {A = Option ℕ} MAX_SESSIONS None;
  sites = ap (λ (l : List (Option ℕ)). length l) d ∙ length-replicate {A = Option ℕ} layout.sites None;
  routes = no_marks _ MAX_SESSIONS p.routes r;
  doubts = no_marks _ layout.sites p.doubts d;
  entries = no_entries layout p.entries e;
}

replicate_more : {X : Type 0} (n : ℕ) (x : X) → replicate (n + 1) x ≡ replicate n x ++ x ∷ []
replicate_more {X = X} n x = let e : n + 1 ≡ suc n = omega arith in ap (λ (k : ℕ). replicate k x) e ∙ by n
  where
    by : (m : ℕ) → replicate (suc m) x ≡ replicate m x ++ x ∷ []
    by zero = refl
    by (suc m) = ap (λ (l : List X). x ∷ l) (by m)

-- the list of one origin more
pub entries_more : (old new : List (Vec ℕ Global)) (v : Vec ℕ Global) (n : ℕ) → new ≡ old ++ v ∷ [] → v.items ≡ []
    → map (λ (w : Vec ℕ Global). w.items) old ≡ replicate n [] → map (λ (w : Vec ℕ Global). w.items) new ≡ replicate (n + 1) []
entries_more old new v n e f h =
    ap (λ (l : List (Vec ℕ Global)). map (λ (w : Vec ℕ Global). w.items) l) e ∙ map-append (λ (w : Vec ℕ Global). w.items) old (v ∷ [])
    ∙ ap (λ (l : List (List ℕ)). l ++ v.items ∷ []) h ∙ ap (λ (x : List ℕ). replicate n [] ++ x ∷ []) f ∙ sym (replicate_more n [])
