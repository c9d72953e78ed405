-- Values that pass a test of equality are equal.
use Rattle.std.proofs.Common.{ℕ, ◌≡◌, true, ◌==◌, ◌&&◌, List, Option, Some, None, refl, subst, int_eq}
use Rattle.std.proofs.lemmas.Bool.{eqb-true, eq-eqb, and_parts, and_from}
use Rattle.std.proofs.lemmas.Bool.Decides.{Decides-int_eq}
use lib.Pointwise.{pointwise_decides}
use Rattle.dm_event.specs.Txns.{same_txn}
use Rattle.dm_event.specs.declared.step.Cause.{Cause}
use Rattle.dm_event.specs.declared.step.Cause.TheVariants.{Undeclared, Log, Damage, Memory}
use Rattle.dm_event.specs.declared.step.Pair.{Pair}
use Rattle.dm_event.specs.declared.step.TxnId.{TxnId}
use Rattle.dm_model.specs.Tests.{same_pair, same_pairs, same_byte, same_cause}
use Rattle.dm_model.specs.Values.{written}

-- what passes is equal, and what is equal passes
pub txn_same : (a b : TxnId) → same_txn a b ≡ true → a ≡ b
txn_same a b h =
    let p = and_parts (a.session == b.session) ((a.number == b.number) && (a.attempt == b.attempt)) h in
    let q = and_parts (a.number == b.number) (a.attempt == b.attempt) p.1 in
    let x = eqb-true a.session b.session p.0 in
    let y = eqb-true a.number b.number q.0 in
    let z = eqb-true a.attempt b.attempt q.1 in
    λ i. record { session = x i; number = y i; attempt = z i }

pub txn_own : (a : TxnId) → same_txn a a ≡ true
txn_own a = rw (eq-eqb a.session a.session refl, eq-eqb a.number a.number refl, eq-eqb a.attempt a.attempt refl) refl

pub pair_same : (a b : Pair) → same_pair a b ≡ true → a ≡ b
pair_same a b h =
    let p = and_parts (a.key == b.key) (int_eq a.value b.value) h in
    let x = eqb-true a.key b.key p.0 in
    let y = (Decides-int_eq a.value b.value).0 p.1 in
    λ i. record { key = x i; value = y i }

pair_own : (a : Pair) → same_pair a a ≡ true
pair_own a = and_from (a.key == a.key) (int_eq a.value a.value) (eq-eqb a.key a.key refl) ((Decides-int_eq a.value a.value).1 refl)

pub pairs_decide : (xs ys : List Pair) → (same_pairs xs ys ≡ true → xs ≡ ys) × (xs ≡ ys → same_pairs xs ys ≡ true)
pairs_decide = pointwise_decides {E = same_pair} (λ a b. (pair_same a b, λ e. subst (λ (c : Pair). same_pair a c ≡ true) e (pair_own a)))

pub pairs_same : (xs ys : List Pair) → same_pairs xs ys ≡ true → xs ≡ ys
pairs_same xs ys h = (pairs_decide xs ys).0 h

same_byte-own : (a : Option ℕ) → same_byte a a ≡ true
same_byte-own None = refl
same_byte-own (Some a) = eq-eqb a a refl

pub same_cause-own : (w : Cause) → same_cause w w ≡ true
same_cause-own (Undeclared key) = eq-eqb key key refl
same_cause-own (Log site) = eq-eqb site site refl
same_cause-own (Damage site place read written) =
    and_from _ _ (eq-eqb site site refl) (and_from _ _ (eq-eqb place place refl) (and_from _ _ (same_byte-own read) (same_byte-own written)))
same_cause-own Memory = refl
