-- The frame of a record is a word of the frames' form.
use Rattle.std.proofs.Common.{◌≡◌, refl, sym, ◌∙◌, ap, subst, ℕ, zero, suc, ◌+◌, ◌-◌, ◌*◌, ◌/◌, ◌%◌, ◌^◌, ◌<◌, ◌≤◌, Bool, true, false, ◌&&◌, ◌||◌, eqb, List, [], ◌∷◌, ◌++◌, length, arith, append_assoc, lit<}
use Rattle.std.proofs.lemmas.List.{append-nil}
use Rattle.std.proofs.lemmas.Bool.{eq-eqb, le-leb}
use Rattle.dm_event.specs.declared.step.Pair.{Pair}
use Rattle.dm_event.specs.declared.step.TxnId.{TxnId}
use Rattle.dm_record.specs.declared.record.Record.{Record}
use Rattle.dm_record.specs.declared.record.Record.TheVariants.{Commit, Release, Grant}
use Rattle.dm_record.specs.Form.{Form, done, byte, number, IsWord, span}
use Rattle.dm_record.specs.Bytes.{digits, components, pairs, body, frame_of, HasRanges}
use Rattle.dm_record.specs.Grammar.{components_form, pairs_form, fits_commit, is_commit_vector, is_commit_length, is_vector_length, is_length, is_kind, commit_form, release_form, grant_form, kind_form, frame_form}
use Rattle.dm_record.proofs.Spelling.{number_word}
use Rattle.dm_record.proofs.Listing.{components_word, pairs_word}
use Rattle.dm_record.proofs.Framing.{commit_length, release_length, grant_length, div_one, four}

byte_word : (test : ℕ → Bool) (next : ℕ → Form) (rec : Record) (b : ℕ) (rest : List ℕ) → b < 256 → test b ≡ true → IsWord (next b) rest rec
    → IsWord (byte test next) (b ∷ rest) rec
unfolding IsWord
byte_word test next rec b rest fits passes h = (fits, passes, h)

done_word : (r : Record) → IsWord (done r) [] r
unfolding IsWord
done_word r = refl

and_true : (a b : Bool) → a ≡ true → b ≡ true → (a && b) ≡ true
and_true a b ha hb = ap (λ (x : Bool). x && b) ha ∙ hb

fits_from : (n sites count : ℕ) → n ≡ (27 + 8 * sites) + 12 * count → 1 ≤ count → count ≤ 32 → fits_commit n sites ≡ true
fits_from n sites count sum least most =
    and_true _ _ (le-leb (39 + 8 * sites) n (omega (arith, sum, least)))
    (and_true _ _ (le-leb n (411 + 8 * sites) (omega (arith, sum, most))) (eq-eqb ((n - (27 + 8 * sites)) % 12) 0 (omega (arith, sum))))

vector_from : (n sites : ℕ) → 1 ≤ sites → sites ≤ 8 → fits_commit n sites ≡ true → is_commit_vector n sites ≡ true
vector_from n sites least most fits = and_true _ _ (and_true _ _ (le-leb 1 sites least) (le-leb sites 8 most)) fits

or_2 : (a b : Bool) → b ≡ true → (a || b) ≡ true
or_2 true b h = refl
or_2 false b h = h

or_1 : (a b : Bool) → a ≡ true → (a || b) ≡ true
or_1 a b h = ap (λ (x : Bool). x || b) h

commit_length_from : (n sites : ℕ) → 1 ≤ sites → sites ≤ 8 → fits_commit n sites ≡ true → is_commit_length n ≡ true
commit_length_from n zero least most fits = absurd (omega (arith, least))
commit_length_from n (suc zero) least most fits = or_1 (fits_commit n 1) _ fits
commit_length_from n (suc (suc zero)) least most fits = or_2 (fits_commit n 1) _ (or_1 (fits_commit n 2) _ fits)
commit_length_from n (suc (suc (suc zero))) least most fits = or_2 (fits_commit n 1) _ (or_2 (fits_commit n 2) _ (or_1 (fits_commit n 3) _ fits))
commit_length_from n (suc (suc (suc (suc zero)))) least most fits =
    or_2 (fits_commit n 1) _ (or_2 (fits_commit n 2) _ (or_2 (fits_commit n 3) _ (or_1 (fits_commit n 4) _ fits)))
commit_length_from n (suc (suc (suc (suc (suc zero))))) least most fits =
    or_2 (fits_commit n 1) _ (or_2 (fits_commit n 2) _ (or_2 (fits_commit n 3) _ (or_2 (fits_commit n 4) _ (or_1 (fits_commit n 5) _ fits))))
commit_length_from n (suc (suc (suc (suc (suc (suc zero)))))) least most fits =
    or_2 (fits_commit n 1) _ (or_2 (fits_commit n 2) _
    (or_2 (fits_commit n 3) _ (or_2 (fits_commit n 4) _ (or_2 (fits_commit n 5) _ (or_1 (fits_commit n 6) _ fits)))))
commit_length_from n (suc (suc (suc (suc (suc (suc (suc zero))))))) least most fits =
    or_2 (fits_commit n 1) _ (or_2 (fits_commit n 2) _
    (or_2 (fits_commit n 3) _ (or_2 (fits_commit n 4) _ (or_2 (fits_commit n 5) _ (or_2 (fits_commit n 6) _ (or_1 (fits_commit n 7) _ fits))))))
commit_length_from n (suc (suc (suc (suc (suc (suc (suc (suc zero)))))))) least most fits =
    or_2 (fits_commit n 1) _ (or_2 (fits_commit n 2) _
    (or_2 (fits_commit n 3) _ (or_2 (fits_commit n 4) _ (or_2 (fits_commit n 5) _ (or_2 (fits_commit n 6) _ (or_2 (fits_commit n 7) _ fits))))))
commit_length_from n (suc (suc (suc (suc (suc (suc (suc (suc (suc more))))))))) least most fits = absurd (omega (arith, most))

vector_length_from : (before n sites : ℕ) → n ≡ before + 8 * sites → 1 ≤ sites → sites ≤ 8 → is_vector_length before n ≡ true
vector_length_from before n sites sum least most =
    and_true _ _ (le-leb (before + 8) n (omega (arith, sum, least)))
    (and_true _ _ (le-leb n (before + 64) (omega (arith, sum, most))) (eq-eqb ((n - before) % 8) 0 (omega (arith, sum))))

most_8 : (n : ℕ) → n < 2 ^ 64 → n ≤ 2 ^ 64 - 1
most_8 n fits = omega (arith, fits)

most_4 : (n : ℕ) → n < 2 ^ 32 → n ≤ 2 ^ 32 - 1
most_4 n fits = omega (arith, fits)

fits_8 : (n : ℕ) → n < 2 ^ 64 → n < span 8
fits_8 n fits = omega (arith, fits)

fits_4 : (n : ℕ) → n < 2 ^ 32 → n < span 4
fits_4 n fits = omega (arith, fits)

below_byte : (n : ℕ) → n ≤ 32 → n < 256
below_byte n most = omega (arith, most)

below_4 : (n : ℕ) → n ≤ 32 → n < span 4
below_4 n most = omega (arith, most)

most_part : (n : ℕ) → n < 256 → n ≤ 255
most_part n fits = omega (arith, fits)

below_2 : (n : ℕ) → n < 256 → n < span 2
below_2 n fits = omega (arith, fits)

below_1 : (n : ℕ) → n ≤ 8 → n < span 1
below_1 n most = omega (arith, most)

up_to_32 : (n : ℕ) → n ≤ 8 → n ≤ 32
up_to_32 n most = omega (arith, most)

commit_word : (n : ℕ) (txn : TxnId) (seq : ℕ) (begin : List ℕ) (writes : List Pair) → HasRanges (Commit txn seq begin writes)
    → n ≡ (27 + 8 * length begin) + 12 * length writes
    → IsWord (commit_form n) (digits 4 txn.session ++
    (digits 4 txn.number ++ (digits 8 txn.attempt ++ (digits 8 seq ++ (length begin ∷ (components begin ++ (length writes ∷ pairs writes)))))))
    (Commit txn seq begin writes)
commit_word n txn seq begin writes has sum =
    let rec = Commit txn seq begin writes in
    number_word 1 32 _ rec 4 txn.session _ (below_4 txn.session has.0.0.1) has.0.0.0 has.0.0.1
    (number_word 1 (2 ^ 32 - 1) _ rec 4 txn.number _ (fits_4 txn.number has.1.0) has.0.1 (most_4 txn.number has.1.0)
    (number_word 1 (2 ^ 64 - 1) _ rec 8 txn.attempt _ (fits_8 txn.attempt has.1.1) has.0.2 (most_8 txn.attempt has.1.1)
    (number_word 1 (2 ^ 64 - 1) _ rec 8 seq _ (fits_8 seq has.1.2) has.0.3 (most_8 seq has.1.2)
    (byte_word (is_commit_vector n) _ rec (length begin) _ (below_byte (length begin) (up_to_32 (length begin) has.0.4.1))
    (vector_from n (length begin) has.0.4.0 has.0.4.1 (fits_from n (length begin) (length writes) sum has.0.5.0 has.0.5.1))
    (components_word _ rec begin [] _ has.1.3
    (byte_word (λ count. eqb n ((27 + 8 * length begin) + 12 * count)) _ rec (length writes) _ (below_byte (length writes) has.0.5.1) (eq-eqb n _ sum)
    (subst (λ (l : List ℕ). IsWord (pairs_form (length writes) 0 [] (λ ps. done (Commit txn seq begin ps))) l rec) (append-nil (pairs writes))
    (pairs_word (λ ps. done (Commit txn seq begin ps)) rec writes 0 [] [] has.0.6 has.1.4 (done_word rec)))))))))

release_word : (n part epoch to : ℕ) (vector : List ℕ) → HasRanges (Release part epoch to vector) → n ≡ 13 + 8 * length vector
    → IsWord (release_form n) (digits 2 part ++ (digits 8 epoch ++ (to ∷ (length vector ∷ components vector)))) (Release part epoch to vector)
release_word n part epoch to vector has sum =
    let rec = Release part epoch to vector in
    number_word 0 255 _ rec 2 part _ (below_2 part has.0.0) (omega arith) (most_part part has.0.0)
    (number_word 0 (2 ^ 64 - 1) _ rec 8 epoch _ (fits_8 epoch has.1.0) (omega arith) (most_8 epoch has.1.0)
    (subst (λ (k : ℕ). IsWord (number 1 8 0 1
    (λ to. byte (λ sites. eqb n (13 + 8 * sites)) (λ sites. components_form sites [] (λ vector. done (Release part epoch to vector)))))
    (k ∷ (length vector ∷ components vector)) rec) (div_one to)
    (number_word 1 8 _ rec 1 to _ (below_1 to has.0.1.1) has.0.1.0 has.0.1.1
    (byte_word (λ sites. eqb n (13 + 8 * sites)) _ rec (length vector) _ (below_byte (length vector) (up_to_32 (length vector) has.0.2.1)) (eq-eqb n _ sum)
    (subst (λ (l : List ℕ). IsWord (components_form (length vector) [] (λ vector. done (Release part epoch to vector))) l rec) (append-nil (components vector))
    (components_word (λ vector. done (Release part epoch to vector)) rec vector [] [] has.1.1 (done_word rec)))))))

grant_word : (n part epoch : ℕ) (vector : List ℕ) → HasRanges (Grant part epoch vector) → n ≡ 12 + 8 * length vector
    → IsWord (grant_form n) (digits 2 part ++ (digits 8 epoch ++ (length vector ∷ components vector))) (Grant part epoch vector)
grant_word n part epoch vector has sum =
    let rec = Grant part epoch vector in
    number_word 0 255 _ rec 2 part _ (below_2 part has.0.0) (omega arith) (most_part part has.0.0)
    (number_word 0 (2 ^ 64 - 1) _ rec 8 epoch _ (fits_8 epoch has.1.0) (omega arith) (most_8 epoch has.1.0)
    (byte_word (λ sites. eqb n (12 + 8 * sites)) _ rec (length vector) _ (below_byte (length vector) (up_to_32 (length vector) has.0.1.1)) (eq-eqb n _ sum)
    (subst (λ (l : List ℕ). IsWord (components_form (length vector) [] (λ vector. done (Grant part epoch vector))) l rec) (append-nil (components vector))
    (components_word (λ vector. done (Grant part epoch vector)) rec vector [] [] has.1.1 (done_word rec)))))

-- the length's two halves, then the kind and the rest
frame_made : (n kind : ℕ) (rest : List ℕ) (rec : Record) → n < 512 → kind < 256 → is_length n ≡ true → is_kind n kind ≡ true
    → IsWord (kind_form n kind) rest rec → IsWord frame_form (digits 4 n ++ (kind ∷ rest)) rec
frame_made n kind rest rec fits small long is h =
    let high = n / 256 in
    let low = n % 256 in
    let parts : high * 256 + low ≡ n = sym (split_256 n) in
    let most : high ≤ 1 = omega (arith, fits) in
    let least : low < 256 = omega arith in
    let split : digits 4 n ++ (kind ∷ rest) ≡ digits 3 high ++ (low ∷ (kind ∷ rest)) =
    ap (λ (k : ℕ). digits 4 k ++ (kind ∷ rest)) (sym parts) ∙ ap (λ (l : List ℕ). l ++ (kind ∷ rest)) (four high low most least)
    ∙ append_assoc (digits 3 high) (low ∷ []) (kind ∷ rest) in
    subst (λ (l : List ℕ). IsWord frame_form l rec) (sym split)
    (number_word 0 1 _ rec 3 high _ (small_3 high most) (omega arith) most
    (byte_word (λ low. is_length (high * 256 + low)) _ rec low _ least (ap is_length parts ∙ long)
    (byte_word (is_kind (high * 256 + low)) _ rec kind rest small (ap (λ (k : ℕ). is_kind k kind) parts ∙ is)
    (subst (λ (k : ℕ). IsWord (kind_form k kind) rest rec) (sym parts) h))))
  where
    split_256 : (n : ℕ) → n ≡ n / 256 * 256 + n % 256
    split_256 n = omega arith

    small_3 : (k : ℕ) → k ≤ 1 → k < span 3
    small_3 k most = omega (arith, most)

below_512 : (n b w : ℕ) → n ≡ (27 + 8 * b) + 12 * w → b ≤ 8 → w ≤ 32 → n < 512
below_512 n b w sum most_b most_w = omega (arith, sum, most_b, most_w)

below_512' : (before n b : ℕ) → before ≤ 13 → n ≡ before + 8 * b → b ≤ 8 → n < 512
below_512' before n b few sum most = omega (arith, few, sum, most)

pub frame_word : (rec : Record) → HasRanges rec → IsWord frame_form (frame_of rec) rec
frame_word (Commit txn seq begin writes) has =
    let n = length (body (Commit txn seq begin writes)) in
    let sum = commit_length txn seq begin writes in
    let fits = fits_from n (length begin) (length writes) sum has.0.5.0 has.0.5.1 in
    let long = commit_length_from n (length begin) has.0.4.0 has.0.4.1 fits in
    frame_made n 1 _ (Commit txn seq begin writes) (below_512 n (length begin) (length writes) sum has.0.4.1 has.0.5.1) (lit< tt)
    (or_1 (is_commit_length n) _ long) long (commit_word n txn seq begin writes has sum)
frame_word (Release part epoch to vector) has =
    let n = length (body (Release part epoch to vector)) in
    let sum = release_length part epoch to vector in
    let fits = vector_length_from 13 n (length vector) sum has.0.2.0 has.0.2.1 in
    frame_made n 2 _ (Release part epoch to vector) (below_512' 13 n (length vector) (omega arith) sum has.0.2.1) (lit< tt)
    (or_2 (is_commit_length n) _ (or_1 (is_vector_length 13 n) _ fits)) fits (release_word n part epoch to vector has sum)
frame_word (Grant part epoch vector) has =
    let n = length (body (Grant part epoch vector)) in
    let sum = grant_length part epoch vector in
    let fits = vector_length_from 12 n (length vector) sum has.0.1.0 has.0.1.1 in
    frame_made n 3 _ (Grant part epoch vector) (below_512' 12 n (length vector) (omega arith) sum has.0.1.1) (lit< tt)
    (or_2 (is_commit_length n) _ (or_2 (is_vector_length 13 n) _ fits)) fits (grant_word n part epoch vector has sum)
