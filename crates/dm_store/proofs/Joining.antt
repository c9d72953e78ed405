-- A store's list and a history's entries.
use Rattle.std.proofs.Common.{ℕ, ℤ, ◌≡◌, Bool, true, false, cond, List, [], ◌∷◌, ◌++◌, Option, Some, None, is_some, refl, sym, ap, ◌∙◌, map, filter, unwrap_or}
use Rattle.std.proofs.Common.{arith, true≢false}
use Rattle.std.specs.Option.{option_or}
use Rattle.std.specs.Prelude.{reverse}
use Rattle.std.proofs.lemmas.Bool.{leb-true, le-leb}
use Rattle.std.proofs.lemmas.List.{reverse-append, reverse-reverse, map-append, append-nil}
use Rattle.std.proofs.lemmas.List.Elements.{filter-append}
use Rattle.dm_event.specs.Layout.{Layout, opening_value}
use Rattle.dm_event.specs.Vectors.{at, has_number, AtMost}
use Rattle.dm_event.specs.declared.step.Entry.{Entry}
use Rattle.dm_event.specs.declared.step.Step.{Step}
use Rattle.dm_model.specs.Acts.{entries}
use Rattle.dm_model.specs.Closed.{is_inside}
use Rattle.dm_model.specs.Values.{written, newest, value}
use Rattle.dm_store.specs.Histories.{past_of, committed, committed_inside, writers, HasInside}
use Rattle.dm_store.specs.Reads.{latest_write, value_of}
use Rattle.dm_store.specs.declared.past.Past.{Past}

map_reverse : {X Y : Type 0} (f : X → Y) (xs : List X) → map f (reverse xs) ≡ reverse (map f xs)
map_reverse f [] = refl
map_reverse f (x ∷ xs) =
    ap (λ (ys : List _). map f ys) (reverse-append (x ∷ []) xs) ∙ map-append f (reverse xs) (x ∷ [])
    ∙ ap (λ (ys : List _). ys ++ f x ∷ []) (map_reverse f xs) ∙ sym (reverse-append (f x ∷ []) (map f xs))

filter_reverse : {X : Type 0} (p : X → Bool) (xs : List X) → filter p (reverse xs) ≡ reverse (filter p xs)
filter_reverse p [] = refl
filter_reverse p (x ∷ xs) =
    ap (λ (ys : List _). filter p ys) (reverse-append (x ∷ []) xs) ∙ filter-append p (reverse xs) (x ∷ [])
    ∙ ap (λ (ys : List _). ys ++ cond (p x) (x ∷ []) []) (filter_reverse p xs) ∙ by (p x)
  where
    by : (b : Bool) → reverse (filter p xs) ++ cond b (x ∷ []) [] ≡ reverse (cond b (x ∷ filter p xs) (filter p xs))
    by true = sym (reverse-append (x ∷ []) (filter p xs))
    by false = append-nil (reverse (filter p xs))

-- only the writers of the key count
latest_writers : (ts : List Past) (key : ℕ) (u : List ℕ) → latest_write ts key u ≡ latest_write (writers key ts) key u
latest_writers [] key u = refl
latest_writers (t ∷ ts) key u = by (written t.writes key) refl (latest_writers ts key u)
  where
    passed : (b : Bool) (o : Option ℤ) → option_or (cond b None None) o ≡ o
    passed true o = refl
    passed false o = refl

    by : (w : Option ℤ) → written t.writes key ≡ w → latest_write ts key u ≡ latest_write (writers key ts) key u
        → option_or (cond (has_number u t.origin t.seq) w None) (latest_write ts key u) ≡ latest_write (cond (is_some w) (t ∷ writers key ts) (writers key ts))
        key u
    by None e h = passed (has_number u t.origin t.seq) (latest_write ts key u) ∙ h
    by (Some x) e h = λ i. option_or (cond (has_number u t.origin t.seq) (sym e i) None) (h i)

latest_inside : (es : List Entry) (v u : List ℕ) (key : ℕ) → AtMost u v → latest_write (map past_of (filter (is_inside v) es)) key u ≡ newest es key u
latest_inside [] v u key most = refl
latest_inside (e ∷ es) v u key most =
    by (is_inside v e) (latest_inside es v u key most) (λ h. le-leb e.seq (at v e.origin)
    (let a = leb-true e.seq (at u e.origin) h in let b = most e.origin in omega arith))
  where
    by : (b : Bool) → latest_write (map past_of (filter (is_inside v) es)) key u ≡ newest es key u → (is_inside u e ≡ true → b ≡ true)
        → latest_write (map past_of (cond b (e ∷ filter (is_inside v) es) (filter (is_inside v) es))) key u ≡ option_or
        (cond (is_inside u e) (written e.writes key) None) (newest es key u)
    by true h k = ap (λ (o : Option ℤ). option_or (cond (is_inside u e) (written e.writes key) None) o) h
    by false h k = out (is_inside u e) k
      where
        out : (c : Bool) → (c ≡ true → false ≡ true) → latest_write (map past_of (filter (is_inside v) es)) key u ≡ option_or
            (cond c (written e.writes key) None) (newest es key u)
        out true k = absurd (true≢false (sym (k refl)))
        out false k = h

latest_committed : (es : List Entry) (u : List ℕ) (key : ℕ) → latest_write (map past_of es) key u ≡ newest es key u
latest_committed [] u key = refl
latest_committed (e ∷ es) u key = ap (λ (o : Option ℤ). option_or (cond (is_inside u e) (written e.writes key) None) o) (latest_committed es u key)

module _ (layout : Layout) (history : List Step) where
  abbrev given : ℕ → Option ℤ → ℤ
  given key o = unwrap_or o (opening_value layout key)

  pub reads_whole : (u : List ℕ) (key : ℕ) → value_of layout (committed history) key u ≡ value layout (reverse history) key u
  reads_whole u key =
      let turned : reverse (committed history) ≡ map past_of (entries (reverse history)) =
      sym (map_reverse past_of (reverse (entries (reverse history)))) ∙ ap (λ (xs : List Entry). map past_of xs) (reverse-reverse (entries (reverse history)))
      in
      ap (given key) (ap (λ (ts : List Past). latest_write ts key u) turned ∙ latest_committed (entries (reverse history)) u key)

  pub reads_inside : (v u : List ℕ) (key : ℕ) → AtMost u v → value_of layout (committed_inside history v) key u ≡ value layout (reverse history) key u
  reads_inside v u key most =
      let turned : reverse (committed_inside history v) ≡ map past_of (filter (is_inside v) (entries (reverse history))) =
      sym (map_reverse past_of (filter (is_inside v) (reverse (entries (reverse history)))))
      ∙ ap (λ (xs : List Entry). map past_of xs)
      (sym (filter_reverse (is_inside v) (reverse (entries (reverse history))))
      ∙ ap (λ (xs : List Entry). filter (is_inside v) xs) (reverse-reverse (entries (reverse history)))) in
      ap (given key) (ap (λ (ts : List Past). latest_write ts key u) turned ∙ latest_inside (entries (reverse history)) v u key most)

  same_writers : (ts us : List Past) (key : ℕ) (u : List ℕ) → writers key ts ≡ writers key us
      → latest_write (reverse ts) key u ≡ latest_write (reverse us) key u
  same_writers ts us key u h =
      latest_writers (reverse ts) key u
      ∙ ap (λ (ts : List Past). latest_write ts key u) (filter_reverse (λ t. is_some (written t.writes key)) ts ∙ ap (λ (ts : List Past). reverse ts) h ∙ sym
      (filter_reverse (λ t. is_some (written t.writes key)) us))
      ∙ sym (latest_writers (reverse us) key u)

  pub reads_by_key : (v u : List ℕ) (key : ℕ) (installed : List Past) → HasInside history v installed → AtMost u v
      → value_of layout installed key u ≡ value layout (reverse history) key u
  reads_by_key v u key installed has most = ap (given key) (same_writers installed (committed_inside history v) key u (has key)) ∙ reads_inside v u key most
