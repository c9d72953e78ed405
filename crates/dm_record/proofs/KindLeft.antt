-- What is left of a kind.
use Rattle.std.proofs.Common.{◌≡◌, ℕ, Bool, true, false, eqb, cond, sym, ne_eqb, ◌&&◌}
use Rattle.std.proofs.lemmas.Bool.{false≢true}
use Rattle.dm_record.specs.Grammar.{is_kind, is_vector_length}

third : (a b c x y z : Bool) → a ≡ false → b ≡ false → cond a x (cond b y (c && z)) ≡ true → z ≡ true
third true b c x y z e f h = absurd (false≢true (sym e))
third false true c x y z e f h = absurd (false≢true (sym f))
third false false true x y z e f h = h
third false false false x y z e f h = absurd (false≢true h)

pub kind_grant : (n kind : ℕ) → is_kind n kind ≡ true → (kind ≡ 1 → ⊥) → (kind ≡ 2 → ⊥) → is_vector_length 12 n ≡ true
kind_grant n kind is one two = third (eqb kind 1) (eqb kind 2) (eqb kind 3) _ _ (is_vector_length 12 n) (ne_eqb kind 1 one) (ne_eqb kind 2 two) is
