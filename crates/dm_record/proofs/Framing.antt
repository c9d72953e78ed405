-- The words of the frames' form are the frames of records.
use Rattle.std.proofs.Common.{◌≡◌, refl, sym, ◌∙◌, ap, subst, ℕ, ◌+◌, ◌-◌, ◌*◌, ◌/◌, ◌%◌, ◌^◌, ◌<◌, ◌≤◌, Bool, true, false, ◌&&◌, cond, eqb, List, [], ◌∷◌, ◌++◌, length, arith, append_assoc, length-append, lit<}
use Rattle.std.proofs.lemmas.List.{append-nil}
use Rattle.std.proofs.lemmas.Bool.{false≢true, eqb-true}
use Rattle.dm_event.specs.declared.step.Pair.{Pair}
use Rattle.dm_event.specs.declared.step.TxnId.{TxnId}
use Rattle.dm_record.specs.declared.record.Record.{Record}
use Rattle.dm_record.specs.declared.record.Record.TheVariants.{Commit, Release, Grant}
use Rattle.dm_record.specs.Form.{Form, done, byte, IsWord}
use Rattle.dm_record.specs.Bytes.{digits, components, pairs, body, AreComponents, AreKeys, AreValues, IsFrom, HasRanges, IsFrame}
use Rattle.dm_record.specs.Frames.{IsSomeFrame, IsSomeBody}
use Rattle.dm_record.specs.Grammar.{fits_commit, is_vector, is_commit_vector, is_commit_length, is_vector_length, is_length, is_kind, commit_form, release_form, grant_form, frame_form}
use Rattle.dm_record.proofs.Spelling.{number_is}
use Rattle.dm_record.proofs.Listing.{length-digits, length-components, length-pairs, components_is, pairs_is}

byte_is : (test : ℕ → Bool) (next : ℕ → Form) (rec : Record) (word : List ℕ) → IsWord (byte test next) word rec → (b : ℕ) × (rest : List ℕ)
    × (word ≡ b ∷ rest) × (b < 256) × (test b ≡ true) × IsWord (next b) rest rec
unfolding IsWord
byte_is test next rec [] h = absurd h
byte_is test next rec (b ∷ rest) h = (b, rest, refl, h.0, h.1, h.2)

done_is : (r rec : Record) (word : List ℕ) → IsWord (done r) word rec → (word ≡ []) × (rec ≡ r)
unfolding IsWord
done_is r rec [] h = (refl, h)
done_is r rec (b ∷ word) h = absurd h

-- what the bytes of a vector's length allow
pub fits_is : (n sites : ℕ) → fits_commit n sites ≡ true → (39 + 8 * sites ≤ n) × (n ≤ 411 + 8 * sites) × ((n - (27 + 8 * sites)) % 12 ≡ 0)
fits_is n sites h = (grind (arith, h), grind (arith, h), grind (arith, h))

pub commit_vector_is : (n sites : ℕ) → is_commit_vector n sites ≡ true → (1 ≤ sites) × (sites ≤ 8) × (fits_commit n sites ≡ true)
commit_vector_is n sites h = (and_1 h, and_2 h, and_3 h)
  where
    split : (a b : Bool) → (a && b) ≡ true → (a ≡ true) × (b ≡ true)
    split true b h = (refl, h)
    split false b h = absurd (false≢true h)

    and_3 : is_commit_vector n sites ≡ true → fits_commit n sites ≡ true
    and_3 h = (split (is_vector sites) (fits_commit n sites) h).1

    and_1 : is_commit_vector n sites ≡ true → 1 ≤ sites
    and_1 h = let v = (split (is_vector sites) (fits_commit n sites) h).0 in grind (arith, v)

    and_2 : is_commit_vector n sites ≡ true → sites ≤ 8
    and_2 h = let v = (split (is_vector sites) (fits_commit n sites) h).0 in grind (arith, v)

pub vector_length_is : (before n : ℕ) → is_vector_length before n ≡ true → (before + 8 ≤ n) × (n ≤ before + 64) × ((n - before) % 8 ≡ 0)
vector_length_is before n h = (grind (arith, h), grind (arith, h), grind (arith, h))

behind : (front rest more word : List ℕ) → word ≡ front ++ rest → rest ≡ more → word ≡ front ++ more
behind front rest more word is same = is ∙ ap (λ (l : List ℕ). front ++ l) same

-- what is said of a kind's body, of so many bytes
abbrev IsBody : ℕ → List ℕ → Record → Type 0
IsBody n bytes rec = HasRanges rec × (bytes ≡ body rec) × (n ≡ length (body rec))

pub commit_length : (txn : TxnId) (seq : ℕ) (begin : List ℕ) (writes : List Pair)
    → length (body (Commit txn seq begin writes)) ≡ (27 + 8 * length begin) + 12 * length writes
commit_length txn seq begin writes =
    omega (
      arith,
      length-append (digits 4 txn.session)
          (digits 4 txn.number ++ (digits 8 txn.attempt ++ (digits 8 seq ++ (length begin ∷ (components begin ++ (length writes ∷ pairs writes)))))),
      length-append (digits 4 txn.number) (digits 8 txn.attempt ++ (digits 8 seq ++ (length begin ∷ (components begin ++ (length writes ∷ pairs writes))))),
      length-append (digits 8 txn.attempt) (digits 8 seq ++ (length begin ∷ (components begin ++ (length writes ∷ pairs writes)))),
      length-append (digits 8 seq) (length begin ∷ (components begin ++ (length writes ∷ pairs writes))),
      length-append (components begin) (length writes ∷ pairs writes),
      length-digits 4 txn.session,
      length-digits 4 txn.number,
      length-digits 8 txn.attempt,
      length-digits 8 seq,
      length-components begin,
      length-pairs writes,
    )

pub release_length : (part epoch to : ℕ) (vector : List ℕ) → length (body (Release part epoch to vector)) ≡ 13 + 8 * length vector
release_length part epoch to vector =
    omega (
      arith,
      length-append (digits 2 part) (digits 8 epoch ++ (to ∷ (length vector ∷ components vector))),
      length-append (digits 8 epoch) (to ∷ (length vector ∷ components vector)),
      length-digits 2 part,
      length-digits 8 epoch,
      length-components vector,
    )

pub grant_length : (part epoch : ℕ) (vector : List ℕ) → length (body (Grant part epoch vector)) ≡ 12 + 8 * length vector
grant_length part epoch vector =
    omega (
      arith,
      length-append (digits 2 part) (digits 8 epoch ++ (length vector ∷ components vector)),
      length-append (digits 8 epoch) (length vector ∷ components vector),
      length-digits 2 part,
      length-digits 8 epoch,
      length-components vector,
    )

commit_counts : (n sites count b w : ℕ) → is_commit_vector n sites ≡ true → n ≡ (27 + 8 * sites) + 12 * count → b ≡ sites → w ≡ count → IsFrom 1 8 b
    × IsFrom 1 32 w
commit_counts n sites count b w vector sum same_b same_w =
    let fits = commit_vector_is n sites vector in
    let bounds = fits_is n sites fits.2 in
    ((omega (arith, fits.0, same_b), omega (arith, fits.1, same_b)), (omega (arith, bounds.0, sum, same_w), omega (arith, bounds.1, sum, same_w)))

pub room_for : (c : ℕ) → c < 256 → 0 + c ≤ 16777216
room_for c fits = omega (arith, fits)

sum_of : (n b w sites count long : ℕ) → n ≡ (27 + 8 * sites) + 12 * count → b ≡ sites → w ≡ count → long ≡ (27 + 8 * b) + 12 * w → n ≡ long
sum_of n b w sites count long sum same_b same_w is = omega (arith, sum, same_b, same_w, is)

commit_made : (n session nth attempt seq sites count : ℕ) (begin : List ℕ) (writes : List Pair) (word w1 w2 w3 w4 w5 w6 w7 w8 : List ℕ)
    → IsFrom 1 32 session → IsFrom 1 (2 ^ 32 - 1) nth → IsFrom 1 (2 ^ 64 - 1) attempt → IsFrom 1 (2 ^ 64 - 1) seq
    → word ≡ digits 4 session ++ w1 → w1 ≡ digits 4 nth ++ w2 → w2 ≡ digits 8 attempt ++ w3 → w3 ≡ digits 8 seq ++ w4
    → w4 ≡ sites ∷ w5 → is_commit_vector n sites ≡ true → w5 ≡ components begin ++ w6 → length begin ≡ sites → AreComponents begin
    → w6 ≡ count ∷ w7 → eqb n ((27 + 8 * sites) + 12 * count) ≡ true → w7 ≡ pairs writes ++ w8 → length writes ≡ count → AreKeys 0 writes
    → AreValues writes → w8 ≡ []
    → IsBody n (1 ∷ word) (Commit (record { session = session; number = nth; attempt = attempt }) seq begin writes)
commit_made n session nth attempt seq sites count begin writes word w1 w2 w3 w4 w5 w6 w7 w8 r1 r2 r3 r4 e1 e2 e3 e4 e5 vector e6 long_b are_b e7 sum e8
    long_w keys_w values_w e9 =
    let total = eqb-true n ((27 + 8 * sites) + 12 * count) sum in
    let counts = commit_counts n sites count (length begin) (length writes) vector total long_b long_w in (
      (
        (r1, r2.0, r3.0, r4.0, counts.0, counts.1, keys_w),
        (omega (arith, r2.1), omega (arith, r3.1), omega (arith, r4.1), are_b, values_w),
      ),
      ap (λ (l : List ℕ). 1 ∷ l)
          (behind (digits 4 session) w1 _ word e1 (behind (digits 4 nth) w2 _ w1 e2 (behind (digits 8 attempt) w3 _ w2 e3 (behind (digits 8 seq) w4 _ w3 e4
          (e5 ∙ ap (λ (k : ℕ). k ∷ w5) (sym long_b) ∙ ap (λ (l : List ℕ). length begin ∷ l)
          (behind (components begin) w6 _ w5 e6
          (e7 ∙ ap (λ (k : ℕ). k ∷ w7) (sym long_w) ∙ ap (λ (l : List ℕ). length writes ∷ l)
          (behind (pairs writes) w8 _ w7 e8 e9 ∙ append-nil (pairs writes))))))))),
      sum_of n (length begin) (length writes) sites count
          (length (body (Commit (record { session = session; number = nth; attempt = attempt }) seq begin writes))) total long_b long_w
          (commit_length (record { session = session; number = nth; attempt = attempt }) seq begin writes),
    )

commit_is : (n : ℕ) (rec : Record) (word : List ℕ) → IsWord (commit_form n) word rec → IsBody n (1 ∷ word) rec
commit_is n rec word h =
    let session = number_is 1 32 _ rec 4 word (lit< tt) h in
    let nth = number_is 1 (2 ^ 32 - 1) _ rec 4 session.1 (lit< tt) session.6 in
    let attempt = number_is 1 (2 ^ 64 - 1) _ rec 8 nth.1 (lit< tt) nth.6 in
    let seq = number_is 1 (2 ^ 64 - 1) _ rec 8 attempt.1 (lit< tt) attempt.6 in
    let sites = byte_is (is_commit_vector n) _ rec seq.1 seq.6 in
    let begin = components_is _ rec sites.0 [] sites.1 sites.5 in
    let count = byte_is (λ count. eqb n ((27 + 8 * sites.0) + 12 * count)) _ rec begin.1 begin.5 in
    let writes = pairs_is _ rec count.0 0 [] count.1 (room_for count.0 count.3) count.5 in
    let ends = done_is _ rec writes.1 writes.6 in
    subst (λ (r : Record). IsBody n (1 ∷ word) r) (sym ends.1)
    (commit_made n session.0 nth.0 attempt.0 seq.0 sites.0 count.0 begin.0 writes.0 word session.1 nth.1 attempt.1 seq.1 sites.1 begin.1 count.1 writes.1
    (session.3, session.4) (nth.3, nth.4) (attempt.3, attempt.4) (seq.3, seq.4) session.5 nth.5 attempt.5 seq.5 sites.2 sites.4 begin.4 begin.2 begin.3
    count.2 count.4 writes.5 writes.2 writes.3 writes.4 ends.0)

pub div_one : (n : ℕ) → n / 1 ≡ n
div_one n = omega arith

vector_count : (before n sites b : ℕ) → is_vector_length before n ≡ true → n ≡ before + 8 * sites → b ≡ sites → IsFrom 1 8 b
vector_count before n sites b fits sum same = let bounds =
    vector_length_is before n fits in (omega (arith, bounds.0, sum, same), omega (arith, bounds.1, sum, same))

long_of : (before n b sites long : ℕ) → n ≡ before + 8 * sites → b ≡ sites → long ≡ before + 8 * b → n ≡ long
long_of before n b sites long sum same is = omega (arith, sum, same, is)

release_made : (n part epoch to sites : ℕ) (vector word w1 w2 w3 w4 w5 : List ℕ) → is_vector_length 13 n ≡ true
    → IsFrom 0 255 part → IsFrom 0 (2 ^ 64 - 1) epoch → IsFrom 1 8 to → word ≡ digits 2 part ++ w1 → w1 ≡ digits 8 epoch ++ w2 → w2 ≡ digits 1 to ++ w3
    → w3 ≡ sites ∷ w4 → eqb n (13 + 8 * sites) ≡ true → w4 ≡ components vector ++ w5 → length vector ≡ sites → AreComponents vector → w5 ≡ []
    → IsBody n (2 ∷ word) (Release part epoch to vector)
release_made n part epoch to sites vector word w1 w2 w3 w4 w5 fits r1 r2 r3 e1 e2 e3 e4 sum e5 long are e6 =
    let total = eqb-true n (13 + 8 * sites) sum in (
      (
        (omega (arith, r1.1), r3, vector_count 13 n sites (length vector) fits total long),
        (omega (arith, r2.1), are),
      ),
      ap (λ (l : List ℕ). 2 ∷ l)
          (behind (digits 2 part) w1 _ word e1 (behind (digits 8 epoch) w2 _ w1 e2
          (e3 ∙ ap (λ (k : ℕ). k ∷ w3) (div_one to) ∙ ap (λ (l : List ℕ). to ∷ l)
          (e4 ∙ ap (λ (k : ℕ). k ∷ w4) (sym long) ∙ ap (λ (l : List ℕ). length vector ∷ l)
          (behind (components vector) w5 _ w4 e5 e6 ∙ append-nil (components vector)))))),
      long_of 13 n (length vector) sites (length (body (Release part epoch to vector))) total long (release_length part epoch to vector),
    )

release_is : (n : ℕ) (rec : Record) (word : List ℕ) → is_vector_length 13 n ≡ true → IsWord (release_form n) word rec → IsBody n (2 ∷ word) rec
release_is n rec word fits h =
    let part = number_is 0 255 _ rec 2 word (lit< tt) h in
    let epoch = number_is 0 (2 ^ 64 - 1) _ rec 8 part.1 (lit< tt) part.6 in
    let to = number_is 1 8 _ rec 1 epoch.1 (lit< tt) epoch.6 in
    let sites = byte_is (λ sites. eqb n (13 + 8 * sites)) _ rec to.1 to.6 in
    let vector = components_is _ rec sites.0 [] sites.1 sites.5 in
    let ends = done_is _ rec vector.1 vector.5 in
    subst (λ (r : Record). IsBody n (2 ∷ word) r) (sym ends.1)
    (release_made n part.0 epoch.0 to.0 sites.0 vector.0 word part.1 epoch.1 to.1 sites.1 vector.1 fits
    (part.3, part.4) (epoch.3, epoch.4) (to.3, to.4) part.5 epoch.5 to.5 sites.2 sites.4 vector.4 vector.2 vector.3 ends.0)

grant_made : (n part epoch sites : ℕ) (vector word w1 w2 w4 w5 : List ℕ) → is_vector_length 12 n ≡ true
    → IsFrom 0 255 part → IsFrom 0 (2 ^ 64 - 1) epoch → word ≡ digits 2 part ++ w1 → w1 ≡ digits 8 epoch ++ w2
    → w2 ≡ sites ∷ w4 → eqb n (12 + 8 * sites) ≡ true → w4 ≡ components vector ++ w5 → length vector ≡ sites → AreComponents vector → w5 ≡ []
    → IsBody n (3 ∷ word) (Grant part epoch vector)
grant_made n part epoch sites vector word w1 w2 w4 w5 fits r1 r2 e1 e2 e4 sum e5 long are e6 =
    let total = eqb-true n (12 + 8 * sites) sum in (
      (
        (omega (arith, r1.1), vector_count 12 n sites (length vector) fits total long),
        (omega (arith, r2.1), are),
      ),
      ap (λ (l : List ℕ). 3 ∷ l)
          (behind (digits 2 part) w1 _ word e1 (behind (digits 8 epoch) w2 _ w1 e2
          (e4 ∙ ap (λ (k : ℕ). k ∷ w4) (sym long) ∙ ap (λ (l : List ℕ). length vector ∷ l)
          (behind (components vector) w5 _ w4 e5 e6 ∙ append-nil (components vector))))),
      long_of 12 n (length vector) sites (length (body (Grant part epoch vector))) total long (grant_length part epoch vector),
    )

grant_is : (n : ℕ) (rec : Record) (word : List ℕ) → is_vector_length 12 n ≡ true → IsWord (grant_form n) word rec → IsBody n (3 ∷ word) rec
grant_is n rec word fits h =
    let part = number_is 0 255 _ rec 2 word (lit< tt) h in
    let epoch = number_is 0 (2 ^ 64 - 1) _ rec 8 part.1 (lit< tt) part.6 in
    let sites = byte_is (λ sites. eqb n (12 + 8 * sites)) _ rec epoch.1 epoch.6 in
    let vector = components_is _ rec sites.0 [] sites.1 sites.5 in
    let ends = done_is _ rec vector.1 vector.5 in
    subst (λ (r : Record). IsBody n (3 ∷ word) r) (sym ends.1)
    (grant_made n part.0 epoch.0 sites.0 vector.0 word part.1 epoch.1 sites.1 vector.1 fits
    (part.3, part.4) (epoch.3, epoch.4) part.5 epoch.5 sites.2 sites.4 vector.4 vector.2 vector.3 ends.0)

-- the three kinds
by_kind : (Q : Type 0) (a b c x y z : Bool) (A B C : Form) (word : List ℕ) (rec : Record) → cond a x (cond b y (c && z)) ≡ true
    → IsWord (cond a A (cond b B C)) word rec
    → (a ≡ true → x ≡ true → IsWord A word rec → Q) → (b ≡ true → y ≡ true → IsWord B word rec → Q) → (c ≡ true → z ≡ true → IsWord C word rec → Q) → Q
by_kind Q true b c x y z A B C word rec h w one two three = one refl h w
by_kind Q false true c x y z A B C word rec h w one two three = two refl h w
by_kind Q false false true x y z A B C word rec h w one two three = three refl h w
by_kind Q false false false x y z A B C word rec h w one two three = absurd (false≢true h)

pub four : (high low : ℕ) → high ≤ 1 → low < 256 → digits 4 (high * 256 + low) ≡ digits 3 high ++ low ∷ []
four high low most fits = λ i. e0 i ∷ (e1 i ∷ (e2 i ∷ (e3 i ∷ [])))
  where
    n : ℕ
    n = high * 256 + low

    e0 : (high * 256 + low) / 16777216 ≡ high / 65536
    e0 = omega (arith, most, fits)

    e1 : (high * 256 + low) % 16777216 / 65536 ≡ high % 65536 / 256
    e1 = omega (arith, most, fits)

    e2 : (high * 256 + low) % 16777216 % 65536 / 256 ≡ high % 65536 % 256 / 1
    e2 = omega (arith, most, fits)

    e3 : (high * 256 + low) % 16777216 % 65536 % 256 / 1 ≡ low
    e3 = omega (arith, most, fits)

pub frame_is : (rec : Record) (word : List ℕ) → IsWord frame_form word rec → IsFrame word rec
frame_is rec word h =
    let high = number_is 0 1 _ rec 3 word (lit< tt) h in
    let low = byte_is (λ low. is_length (high.0 * 256 + low)) _ rec high.1 high.6 in
    let n = high.0 * 256 + low.0 in
    let kind = byte_is (is_kind n) _ rec low.1 low.5 in
    let said : IsBody n (kind.0 ∷ kind.1) rec =
    by_kind (IsBody n (kind.0 ∷ kind.1) rec) (eqb kind.0 1) (eqb kind.0 2) (eqb kind.0 3) (is_commit_length n) (is_vector_length 13 n)
    (is_vector_length 12 n) (commit_form n) (release_form n) (grant_form n) kind.1 rec kind.4 kind.5
    (λ is fits w. subst (λ (k : ℕ). IsBody n (k ∷ kind.1) rec) (sym (eqb-true kind.0 1 is)) (commit_is n rec kind.1 w))
    (λ is fits w. subst (λ (k : ℕ). IsBody n (k ∷ kind.1) rec) (sym (eqb-true kind.0 2 is)) (release_is n rec kind.1 fits w))
    (λ is fits w. subst (λ (k : ℕ). IsBody n (k ∷ kind.1) rec) (sym (eqb-true kind.0 3 is)) (grant_is n rec kind.1 fits w)) in (
      said.0,
      high.5 ∙ ap (λ (l : List ℕ). digits 3 high.0 ++ l) (low.2 ∙ ap (λ (l : List ℕ). low.0 ∷ l) (kind.2 ∙ said.1))
          ∙ sym (append_assoc (digits 3 high.0) (low.0 ∷ []) (body rec))
          ∙ ap (λ (l : List ℕ). l ++ body rec) (sym (four high.0 low.0 high.4 low.3)) ∙ ap (λ (k : ℕ). digits 4 k ++ body rec) said.2,
    )

pub body_short : (rec : Record) → HasRanges rec → length (body rec) < 512
body_short (Commit txn seq begin writes) has = omega (arith, commit_length txn seq begin writes, has.0.4.1, has.0.5.1)
body_short (Release part epoch to vector) has = omega (arith, release_length part epoch to vector, has.0.2.1)
body_short (Grant part epoch vector) has = omega (arith, grant_length part epoch vector, has.0.1.1)

pub some_body : (bytes frame : List ℕ) → IsSomeBody bytes → frame ≡ digits 4 (length bytes) ++ bytes → IsSomeFrame frame
some_body bytes frame is same = (is.0, (is.1, same ∙ ap (λ (b : List ℕ). digits 4 (length b) ++ b) is.2))

pub some_short : (bytes : List ℕ) → IsSomeBody bytes → length bytes < 512
some_short bytes is = subst (λ (b : List ℕ). length b < 512) (sym is.2) (body_short is.0 is.1)

-- a frame has its length
pub some_long : (frame : List ℕ) → IsSomeFrame frame → 0 < length frame
some_long frame is =
    subst (λ (b : List ℕ). 0 < length b) (sym is.1.1)
    (omega (arith, length-append (digits 4 (length (body is.0))) (body is.0), length-digits 4 (length (body is.0))))
