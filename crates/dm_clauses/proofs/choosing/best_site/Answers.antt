use Rattle.std.proofs.Common.{◌≡◌, ◌-◌, ◌<◌, ◌≤◌, ℕ, zero, suc, List, ◌∷◌, ap, sym, ◌∙◌, refl, arith, length, take, get_or, true}
use Rattle.std.specs.Prelude.{[], slice_index}
use Rattle.std.specs.List.{list_all}
use Rattle.dm_event.specs.Layout.{Layout, is_between}
use Rattle.dm_event.specs.declared.step.Step.{Step}
use Rattle.dm_model.specs.Legal.{LegalPast}
use Rattle.std.proofs.lemmas.List.{length-take-le, get_or-take}
use Rattle.dm_model.specs.Choices.{home, choose}
use Rattle.dm_model.specs.Progress.{reached}
use Rattle.dm_model.proofs.VectorFacts.{long_by}
use Rattle.dm_event.specs.declared.schema.Weights.{Weights}
use Rattle.dm_placement.specs.Scored.{choice_in}
use Rattle.dm_placement.specs.Tells.{Tells}
use Rattle.dm_clauses.proofs.Homes.{homes_in}
use Rattle.dm_clauses.proofs.choosing.best_site.Goals as goal

-- an element that is there doesn't depend on what stands for one that isn't
get_any : {X : Type 0} (xs : List X) (k : ℕ) (d e : X) → k < length xs → get_or xs k d ≡ get_or xs k e
get_any [] k d e h = absurd (omega (arith, h))
get_any (x ∷ xs) zero d e h = refl
get_any (x ∷ xs) (suc k) d e h = get_any xs k d e (omega (arith, h))

-- the first so many elements
front : {X : Type 0} (n m : ℕ) (xs : List X) → length xs ≡ m → n ≤ m → length (take n xs) ≡ n
front n m xs e h = length-take-le n xs (omega (arith, e, h))

-- the homes of the partitions are sites
homes_fit : (layout : Layout) (past : List Step) (hs : List ℕ) (n s : ℕ) → LegalPast layout past → list_all (is_between 1 layout.sites) layout.masters ≡ true
    → length hs ≡ 256
    → n ≡ length layout.masters → n ≤ 256 → s ≡ layout.sites → ((p : ℕ) → p < length layout.masters → slice_index hs p ≡ home layout past p)
    → (k d : ℕ) → k < length (take n hs) → (1 ≤ get_or (take n hs) k d) × (get_or (take n hs) k d ≤ s)
homes_fit layout past hs n s h m e f few g each k d l =
    let long : length (take n hs) ≡ n = front n 256 hs e few in
    let below : k < n = omega (arith, l, long) in
    let same : get_or (take n hs) k d ≡ slice_index hs k = get_or-take n hs k d below ∙ get_any hs k d 0 (omega (arith, below, few, e)) in
    let exists : k < length layout.masters = omega (arith, below, f) in
    let one = homes_in layout past h m k exists in
    let at = each k exists in
    (omega (arith, same, at, one.0), omega (arith, same, at, one.1, g))

pub choose-requires-clause-components : goal.choose-requires-clause-components
choose-requires-clause-components g c k d l =
    let sites = (g.T.Told.layout c.args.told.now).sites in
    let n = c.sites.result in
    let vs = c.vectors-vectors.result in
    let long : length (take n vs) ≡ n = front n 8 vs c.vectors-vectors.ensures.long (c.sites.ensures.limits.1) in
    let few : k < n = omega (arith, l, long) in
    let here = get_or-take n vs k d few in
    let own = c.vectors-vectors.ensures.each (suc k) (omega arith) (omega (arith, few, c.sites.ensures.same)) in
    let place : get_or vs k d ≡ get_or vs k [] = get_any vs k d [] (omega (arith, few, c.sites.ensures.limits.1, c.vectors-vectors.ensures.long)) in
    let shift : k ≡ suc k - 1 = omega arith in
    ap (λ (v : List ℕ). length v) (here ∙ place ∙ ap (λ (i : ℕ). get_or vs i []) shift ∙ own)
    ∙ long_by sites (λ j. reached (suc k) j (g.T.Told.past c.args.told.now)) ∙ sym c.sites.ensures.same ∙ sym long

pub choose-requires-clause-homes : goal.choose-requires-clause-homes
choose-requires-clause-homes g c =
    homes_fit (g.T.Told.layout c.args.told.now) (g.T.Told.past c.args.told.now) c.homes-homes.result c.parts.result (length (take c.sites.result c.vectors-vectors.result))
    c.is_legal.ensures.legal c.parts.ensures.masters
    c.homes-homes.ensures.long c.parts.ensures.same (c.parts.ensures.limits.1)
    (front c.sites.result 8 c.vectors-vectors.result c.vectors-vectors.ensures.long (c.sites.ensures.limits.1) ∙ c.sites.ensures.same)
    c.homes-homes.ensures.each

pub choose-requires-clause-wanted_homes : goal.choose-requires-clause-wanted_homes
choose-requires-clause-wanted_homes g c p t =
    let long : length (take c.parts.result c.homes-homes.result) ≡ c.parts.result =
    front c.parts.result 256 c.homes-homes.result c.homes-homes.ensures.long (c.parts.ensures.limits.1) in
    let below = c.wanted_parts.ensures.within p t in
    omega (arith, below, long, c.parts.ensures.same)

pub returns : goal.returns
returns g c =
    let layout = g.T.Told.layout c.args.told.now in
    let past = g.T.Told.past c.args.told.now in
    let hs = take c.parts.result c.homes-homes.result in
    let vs = take c.sites.result c.vectors-vectors.result in
    let long : length hs ≡ c.parts.result = front c.parts.result 256 c.homes-homes.result c.homes-homes.ensures.long (c.parts.ensures.limits.1) in
    let most : length vs ≡ c.sites.result = front c.sites.result 8 c.vectors-vectors.result c.vectors-vectors.ensures.long (c.sites.ensures.limits.1) in
    let tells : Tells layout past c.window.result.now hs vs = record {
      sets = c.window.ensures;
      parts = long ∙ c.parts.ensures.same;
      home_of = λ p l. get_or-take c.parts.result c.homes-homes.result p 0 (omega (arith, l, c.parts.ensures.same)) ∙ c.homes-homes.ensures.each p l;
      sites = most ∙ c.sites.ensures.same;
      vector_of = λ site lo hi. get_or-take c.sites.result c.vectors-vectors.result (site - 1) [] (omega (arith, lo, hi, c.sites.ensures.same))
          ∙ c.vectors-vectors.ensures.each site lo hi;
    } in
    c.choose.ensures.due
    ∙ ap (λ (w : Weights). choice_in w c.window.result.now hs vs c.wanted_parts.result) c.weights.ensures
    ∙ c.choices_due.ensures.choice layout past c.window.result.now hs vs c.wanted_parts.result c.is_legal.ensures.legal tells
    (homes_fit layout past c.homes-homes.result c.parts.result (length vs) c.is_legal.ensures.legal c.parts.ensures.masters c.homes-homes.ensures.long
    c.parts.ensures.same (c.parts.ensures.limits.1)
    (most ∙ c.sites.ensures.same) c.homes-homes.ensures.each)
    (λ p t. let below = c.wanted_parts.ensures.within p t in omega (arith, below, long, c.parts.ensures.same))
    (omega (arith, c.sites.ensures.same, c.sites.ensures.limits.0))
    ∙ ap (λ (wanted : List ℕ). choose layout past wanted) c.wanted_parts.ensures.exact
