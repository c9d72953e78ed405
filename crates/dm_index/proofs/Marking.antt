-- The places of the last steps of a kind, after one step more.
use Rattle.std.proofs.Common.{ℕ, suc, ◌+◌, ◌<◌, ◌≡◌, ◌==◌, Bool, true, false, if◌then◌else◌, List, [], ◌∷◌, ◌++◌, Option, Some, None, length, refl}
use Rattle.std.proofs.Common.{sym, ap, ◌∙◌, arith, unwrap_or}
use Rattle.std.proofs.lemmas.Bool.{and_parts}
use Rattle.std.proofs.lemmas.List.{reverse-append, length-append}
use Rattle.std.specs.Option.{option_or, option_flatten}
use Rattle.std.specs.Prelude.{is_some, option_and_then, option_map, reverse, slice_get}
use Rattle.dm_event.specs.Layout.{Layout, is_between, is_site, is_session}
use Rattle.dm_event.specs.declared.step.Pending.TheVariants as pending
use Rattle.dm_event.specs.declared.step.Step.{Step}
use Rattle.dm_event.specs.declared.step.Step.TheVariants.{Route, Doubt}
use Rattle.dm_event.specs.declared.step.TxnId.{TxnId}
use Rattle.dm_index.proofs.Adding.{front, last}
use Rattle.dm_index.specs.Places.{marked_in, told_route, told_doubt, AreMarks}
use Rattle.dm_model.specs.Attempts.{Routing, routing_of}
use Rattle.dm_model.specs.Doubts.{doubt_at}
use Rattle.dm_model.specs.Shape.{is_shaped}
use Rattle.dm_model.specs.Words.{latest}
use Rattle.dm_steps.proofs.Slots.{numbered_next, differs}
use Rattle.dm_steps.specs.Slots.{numbered_in}

abbrev pub next_mark : Bool → ℕ → Option ℕ → Option ℕ
next_mark marks place before = if marks then Some place else before

pub flat : {X : Type 0} (o : Option (Option X)) → option_flatten o ≡ unwrap_or o None
flat None = refl
flat (Some x) = refl

-- ---- Routes and Doubts

route_told : (c : ℕ) (s : Step) (place : ℕ) (before : Option ℕ)
    → told_route c s place before ≡ next_mark (is_some (routing_of (λ t. t.session == c) s)) place before
route_told c (Route txn want min site choice) place before = by (txn.session == c)
  where
    by : (b : Bool) → (if b then Some place else before)
        ≡ next_mark (is_some {T = Routing} (if b then Some (record { txn = txn; want = want; min = min; site = site; choice = choice }) else None)) place before
    by true = refl
    by false = refl
route_told c other place before = refl

doubt_told : (i : ℕ) (s : Step) (place : ℕ) (before : Option ℕ) → told_doubt i s place before ≡ next_mark (is_some (doubt_at i s)) place before
doubt_told i (Doubt site p) place before = by (site == i)
  where
    by : (b : Bool) → (if b then Some place else before) ≡ next_mark (is_some (if b then Some p else None)) place before
    by true = refl
    by false = refl
doubt_told i other place before = refl

-- no step is of a session or a site that doesn't exist

foreign_route : (layout : Layout) (s : Step) → is_shaped layout s ≡ true → (c : ℕ) → is_session c ≡ false
    → is_some (routing_of (λ (t : TxnId). t.session == c) s) ≡ false
foreign_route layout (Route txn want min site choice) h c none =
    let e = differs is_session c txn.session none (and_parts _ _ (and_parts _ _ h).0).0 in rw e refl
foreign_route layout other h c none = refl

foreign_doubt : (layout : Layout) (s : Step) → is_shaped layout s ≡ true → (i : ℕ) → is_site layout i ≡ false → is_some (doubt_at i s) ≡ false
foreign_doubt layout (Doubt site (pending.Commit e)) h i none = let f = differs (is_site layout) i site none (and_parts _ _ h).0 in rw f refl
foreign_doubt layout (Doubt site (pending.Release part epoch to v)) h i none = let f = differs (is_site layout) i site none (and_parts _ _ h).0 in rw f refl
foreign_doubt layout (Doubt site (pending.Grant part epoch v)) h i none = let f = differs (is_site layout) i site none (and_parts _ _ h).0 in rw f refl
foreign_doubt layout other h i none = refl

-- ---- marks

-- what is marked is brought up to date
record Marked {X : Type 0} (f : ℕ → Step → Option X) (steps : List Step) (s : Step) (old new : List (Option ℕ)) (n : ℕ) : Type 0 where
  long : length old ≡ n
  each : (k : ℕ) → slice_get new k ≡ option_map (next_mark (is_some (f (k + 1) s)) (length steps)) (slice_get old k)
  foreign : (c : ℕ) → is_between 1 n c ≡ false → is_some (f c s) ≡ false

module _ {X : Type 0} (f : ℕ → Step → Option X) (steps : List Step) (s : Step) (old new : List (Option ℕ)) (n : ℕ) (m : Marked f steps s old new n)
    (are : AreMarks f steps old (λ c. latest (f c) (reverse steps))) where
  read : (c : ℕ) → marked_in new c ≡ next_mark (is_some (f c s)) (length steps) (marked_in old c)
  read c =
      flat (numbered_in new c)
      ∙ numbered_next (λ (k : ℕ) (o : Option ℕ). next_mark (is_some (f k s)) (length steps) o) None old new n m.long m.each
      (λ k h. ap (λ (b : Bool). next_mark b (length steps) None) (m.foreign k h)) c
      ∙ ap (λ (o : Option ℕ). next_mark (is_some (f c s)) (length steps) o) (sym (flat (numbered_in old c)))

  longer : length (steps ++ s ∷ []) ≡ suc (length steps)
  longer = let e = length-append steps (s ∷ []) in omega (arith, e)

  below : (c p : ℕ) → marked_in new c ≡ Some p → p < length (steps ++ s ∷ [])
  below c p h = by (is_some (f c s)) (marked_in old c) (are.below c p) (sym (read c) ∙ h)
    where
      by : (b : Bool) (o : Option ℕ) → (o ≡ Some p → p < length steps) → next_mark b (length steps) o ≡ Some p → p < length (steps ++ s ∷ [])
      by true o g e = let q : length steps ≡ p = cc (e) in omega (arith, q, longer)
      by false o g e = let l = g e in omega (arith, l, longer)

  stays : (c : ℕ) (o : Option ℕ) → ((p : ℕ) → o ≡ Some p → p < length steps)
      → option_and_then (λ p. option_and_then (f c) (slice_get (steps ++ s ∷ []) p)) o ≡ option_and_then (λ p. option_and_then (f c) (slice_get steps p)) o
  stays c None h = refl
  stays c (Some p) h = ap (λ (x : Option Step). option_and_then (f c) x) (front steps (s ∷ []) p (h p refl))

  found : (c : ℕ) → option_and_then (λ p. option_and_then (f c) (slice_get (steps ++ s ∷ []) p)) (marked_in new c) ≡ latest (f c) (reverse (steps ++ s ∷ []))
  found c =
      ap (λ (o : Option ℕ). option_and_then (λ p. option_and_then (f c) (slice_get (steps ++ s ∷ []) p)) o) (read c)
      ∙ by (f c s) refl ∙ ap (λ (l : List Step). latest (f c) l) (sym (reverse-append steps (s ∷ [])))
    where
      by : (o : Option X) → f c s ≡ o
          → option_and_then (λ p. option_and_then (f c) (slice_get (steps ++ s ∷ []) p)) (next_mark (is_some o) (length steps) (marked_in old c))
          ≡ option_or (f c s) (latest (f c) (reverse steps))
      by None e = stays c (marked_in old c) (are.below c) ∙ are.found c ∙ ap (λ (x : Option X). option_or x (latest (f c) (reverse steps))) (sym e)
      by (Some x) e =
          ap (λ (o : Option Step). option_and_then (f c) o) (last steps s (length steps) refl)
          ∙ e ∙ ap (λ (y : Option X). option_or y (latest (f c) (reverse steps))) (sym e)

  marks_next : AreMarks f (steps ++ s ∷ []) new (λ c. latest (f c) (reverse (steps ++ s ∷ [])))
  marks_next = record { found = found; below = below }

module _ (layout : Layout) (steps : List Step) (s : Step) (shaped : is_shaped layout s ≡ true) (old new : List (Option ℕ)) (n : ℕ) (long : length old ≡ n) where
  pub routes_next : ((c : ℕ) → is_between 1 n c ≡ false → is_session c ≡ false)
      → ((k : ℕ) → slice_get new k ≡ option_map (told_route (k + 1) s (length steps)) (slice_get old k))
      → AreMarks (λ c. routing_of (λ t. t.session == c)) steps old (λ c. latest (routing_of (λ t. t.session == c)) (reverse steps))
      → AreMarks (λ c. routing_of (λ t. t.session == c)) (steps ++ s ∷ []) new (λ c. latest (routing_of (λ t. t.session == c)) (reverse (steps ++ s ∷ [])))
  routes_next outside each are =
      marks_next (λ c. routing_of (λ t. t.session == c)) steps s old new n (record {
        long = long;
        each = λ k. each k ∙ told (slice_get old k) k;
        foreign = λ c h. foreign_route layout s shaped c (outside c h);
      }) are
    where
      told : (o : Option (Option ℕ)) (k : ℕ) → option_map (told_route (k + 1) s (length steps)) o
          ≡ option_map (next_mark (is_some (routing_of (λ (t : TxnId). t.session == (k + 1)) s)) (length steps)) o
      told None k = refl
      told (Some x) k = ap (λ (y : Option ℕ). Some y) (route_told (k + 1) s (length steps) x)

  pub doubts_next : ((i : ℕ) → is_between 1 n i ≡ false → is_site layout i ≡ false)
      → ((k : ℕ) → slice_get new k ≡ option_map (told_doubt (k + 1) s (length steps)) (slice_get old k))
      → AreMarks doubt_at steps old (λ i. latest (doubt_at i) (reverse steps))
      → AreMarks doubt_at (steps ++ s ∷ []) new (λ i. latest (doubt_at i) (reverse (steps ++ s ∷ [])))
  doubts_next outside each are =
      marks_next doubt_at steps s old new n (record {
        long = long;
        each = λ k. each k ∙ told (slice_get old k) k;
        foreign = λ i h. foreign_doubt layout s shaped i (outside i h);
      }) are
    where
      told : (o : Option (Option ℕ)) (k : ℕ) → option_map (told_doubt (k + 1) s (length steps)) o
          ≡ option_map (next_mark (is_some (doubt_at (k + 1) s)) (length steps)) o
      told None k = refl
      told (Some x) k = ap (λ (y : Option ℕ). Some y) (doubt_told (k + 1) s (length steps) x)
