-- Installed transactions and their versions.
use Rattle.std.proofs.Common.{ℕ, ℤ, ◌≡◌, Bool, true, false, ◌==◌, ◌&&◌, nat_le, cond, List, [], ◌∷◌, ◌++◌, length, Option, Some, None, refl, sym, ap, ◌∙◌, map}
use Rattle.std.proofs.Common.{take, drop, unwrap_or}
use Rattle.std.specs.Option.{option_or}
use Rattle.std.specs.Prelude.{reverse}
use Rattle.std.proofs.lemmas.List.{reverse-append, reverse-reverse}
use Rattle.dm_event.specs.Layout.{Layout, opening_value}
use Rattle.dm_event.specs.Vectors.{at}
use Rattle.dm_event.specs.declared.step.Pair.{Pair}
use Rattle.dm_model.specs.Values.{written}
use Rattle.dm_store.specs.Reads.{latest_write, value_of}
use Rattle.dm_store.specs.Stores.{transactions, versions_by}
use Rattle.dm_store.specs.Versions.{latest_version, version_by, pair_of}
use Rattle.dm_store.specs.declared.past.Past.{Past}
use Rattle.dm_store.specs.declared.version.Installed.{Installed}
use Rattle.dm_store.specs.declared.version.Version.{Version}

module _ (origin seq : ℕ) where
  pairs_back : (ps : List Pair) (xs : List Version) → map pair_of (take (length ps) (map (version_by origin seq) ps ++ xs)) ≡ ps
  pairs_back [] xs = refl
  pairs_back (p ∷ ps) xs = ap (λ (qs : List Pair). p ∷ qs) (pairs_back ps xs)

  rest_back : (ps : List Pair) (xs : List Version) → drop (length ps) (map (version_by origin seq) ps ++ xs) ≡ xs
  rest_back [] xs = refl
  rest_back (p ∷ ps) xs = rest_back ps xs

  -- one more transaction in front
  pub pushed : (ps ws : List Pair) (olds news : List Installed) (xs ys : List Version) → ps ≡ ws → news ≡ olds
      ++ record { origin = origin; seq = seq; writes = length ps } ∷ [] → ys ≡ map (version_by origin seq) ps ++ xs
      → transactions (reverse news) ys ≡ record { origin = origin; seq = seq; writes = ws } ∷ transactions (reverse olds) xs
  pushed ps ws olds news xs ys same more put =
      let one : Installed = record { origin = origin; seq = seq; writes = length ps } in
      (λ i. transactions (reverse (more i)) (put i))
      ∙ ap (λ (is : List Installed). transactions is (map (version_by origin seq) ps ++ xs)) (reverse-append olds (one ∷ []))
      ∙ (λ i. record { origin = origin; seq = seq; writes = (pairs_back ps xs ∙ same) i } ∷ transactions (reverse olds) (rest_back ps xs i))

  -- what the versions of a transaction and those before it say of a key
  of_one : (ps : List Pair) (xs : List Version) (key : ℕ) (v : List ℕ)
      → latest_version (map (version_by origin seq) ps ++ xs) key v ≡ option_or (cond (nat_le seq (at v origin)) (written ps key) None)
      (latest_version xs key v)
  of_one [] xs key v = by (nat_le seq (at v origin))
    where
      by : (b : Bool) → latest_version xs key v ≡ option_or (cond b None None) (latest_version xs key v)
      by true = refl
      by false = refl
  of_one (p ∷ ps) xs key v = by (p.key == key) (nat_le seq (at v origin)) (of_one ps xs key v)
    where
      by : (b c : Bool) → latest_version (map (version_by origin seq) ps ++ xs) key v ≡ option_or (cond c (written ps key) None) (latest_version xs key v)
          → cond (b && c) (Some p.value) (latest_version (map (version_by origin seq) ps ++ xs) key v) ≡ option_or
          (cond c (cond b (Some p.value) (written ps key)) None) (latest_version xs key v)
      by true true h = refl
      by true false h = h
      by false true h = h
      by false false h = h

latest_of : (ts : List Past) (key : ℕ) (v : List ℕ) → latest_version (versions_by ts) key v ≡ latest_write ts key v
latest_of [] key v = refl
latest_of (t ∷ ts) key v = of_one t.origin t.seq t.writes (versions_by ts) key v
    ∙ ap (λ (o : Option ℤ). option_or (cond (nat_le t.seq (at v t.origin)) (written t.writes key) None) o) (latest_of ts key v)

-- what the chains give is what the list says
pub read_of : (layout : Layout) (ts : List Past) (xs : List Version) (key : ℕ) (v : List ℕ) (o : Option ℤ) → xs ≡ versions_by ts → o ≡ latest_version xs key v
    → unwrap_or o (opening_value layout key) ≡ value_of layout (reverse ts) key v
read_of layout ts xs key v o whole found =
    ap (λ (o : Option ℤ). unwrap_or o (opening_value layout key))
    (found ∙ ap (λ (ys : List Version). latest_version ys key v) whole ∙ latest_of ts key v
    ∙ ap (λ (us : List Past). latest_write us key v) (sym (reverse-reverse ts)))

-- the earliest first: one more at the end
pub last_in : (t : Past) (ts : List Past) → reverse (t ∷ ts) ≡ reverse ts ++ t ∷ []
last_in t ts = reverse-append (t ∷ []) ts
