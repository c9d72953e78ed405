-- The keys in ascending order pass what the given keys pass.
use Rattle.std.proofs.Common.{◌≡◌, refl, ℕ, List, [], ◌∷◌, Bool, true, false, Some, None, Option, cond, nat_lt}
use Rattle.std.specs.Prelude.{◌==◌, ◌&&◌, option_map, option_and_then, IfSome, IfOk}
use Rattle.std.specs.Option.{ok_or}
use Rattle.std.specs.List.{list_all}
use Rattle.dm_event.specs.Layout.{Layout, is_key}
use Rattle.dm_event.specs.Ascending.{ascending, with_key}
use Rattle.dm_lines.specs.Ranges.{are_keys}

both : (a b : Bool) → (a && b) ≡ true → (a ≡ true) × (b ≡ true)
both true b e = (refl, e)
both false b e = absurd cc

module _ (p : ℕ → Bool) where
  abbrev PassAll : Option (List ℕ) → Type 0
  PassAll o = IfSome o (λ keys. list_all p keys ≡ true)

  put_first : (x : ℕ) (o : Option (List ℕ)) → p x ≡ true → PassAll o → PassAll (option_map (λ more. x ∷ more) o)
  put_first x None px h = h
  put_first x (Some more) px h = rw (px, h) refl

  placed : (below same : Bool) (key x : ℕ) (xs : List ℕ) → p key ≡ true → p x ≡ true → list_all p xs ≡ true → PassAll (with_key key xs)
      → PassAll (cond below (option_map (λ more. x ∷ more) (with_key key xs)) (cond same None (Some (key ∷ (x ∷ xs)))))
  placed true same key x xs pk px all more = put_first x (with_key key xs) px more
  placed false true key x xs pk px all more = tt
  placed false false key x xs pk px all more = rw (pk, px, all) refl

  with_key_pass : (key : ℕ) (xs : List ℕ) → p key ≡ true → list_all p xs ≡ true → PassAll (with_key key xs)
  with_key_pass key [] pk all = rw pk refl
  with_key_pass key (x ∷ xs) pk all = let h = both (p x) (list_all p xs) all in
      placed (nat_lt x key) (x == key) key x xs pk h.0 h.1 (with_key_pass key xs pk h.1)

  next_pass : (key : ℕ) (o : Option (List ℕ)) → p key ≡ true → PassAll o → PassAll (option_and_then (with_key key) o)
  next_pass key None pk h = h
  next_pass key (Some xs) pk h = with_key_pass key xs pk h

  ascending_pass : (keys : List ℕ) → list_all p keys ≡ true → PassAll (ascending keys)
  ascending_pass [] all = refl
  ascending_pass (key ∷ keys) all = let h = both (p key) (list_all p keys) all in next_pass key (ascending keys) h.0 (ascending_pass keys h.1)

all_keys : {E : Type 0} (layout : Layout) (o : Option (List ℕ)) (e : E) → PassAll (is_key layout) o
    → IfOk (ok_or o e) (λ keys. list_all (is_key layout) keys ≡ true)
all_keys layout None e pass = tt
all_keys layout (Some keys) e pass = pass

pub ascending_keys : {E : Type 0} (layout : Layout) (keys : List ℕ) (e : E) → are_keys layout keys ≡ true
    → IfOk (ok_or (ascending keys) e) (λ sorted. list_all (is_key layout) sorted ≡ true)
unfolding are_keys
ascending_keys layout keys e are = all_keys layout (ascending keys) e (ascending_pass (is_key layout) keys are)
