-- The texts of transactions, vectors and pairs.
use Rattle.std.specs.Prelude.{ℕ, List, [], ◌∷◌, ◌++◌, codes}
use Rattle.std.specs.List.{flat_map}
use Rattle.std.specs.Fmt.{decimal, signed_decimal}
use Rattle.dm_event.specs.declared.step.TxnId.{TxnId}
use Rattle.dm_event.specs.declared.step.Pair.{Pair}

-- texts with a byte between each two
abbrev pub joined : {A : Type 0} → ℕ → (A → List ℕ) → List A → List ℕ
joined mark text [] = []
joined mark text (x ∷ xs) = text x ++ flat_map (λ y. mark ∷ text y) xs

-- `1.2.3`
unfoldable pub txn_text : TxnId → List ℕ
txn_text txn = decimal txn.session ++ (codes "." ++ (decimal txn.number ++ (codes "." ++ decimal txn.attempt)))

-- `[1 0 2]`
unfoldable pub vector_text : List ℕ → List ℕ
vector_text vector = codes "[" ++ (joined 32 decimal vector ++ codes "]")

-- `3:-5`
unfoldable pub pair_text : Pair → List ℕ
pair_text pair = decimal pair.key ++ (codes ":" ++ signed_decimal pair.value)

-- `3:-5,15:2`, and `-` where there is none
unfoldable pub pairs_text : List Pair → List ℕ
pairs_text [] = codes "-"
pairs_text (pair ∷ others) = joined 44 pair_text (pair ∷ others)
