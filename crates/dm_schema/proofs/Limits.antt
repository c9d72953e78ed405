-- What is read keeps the limits of a schema.
use Rattle.std.proofs.Common.{◌≡◌, ◌∙◌, ap, sym, refl, ℕ, ◌+◌, ◌*◌, ◌≤◌, ◌^◌, ℤ, pos, negsuc, List, [], ◌∷◌, ◌++◌, length, Bool, true, false, cond}
use Rattle.std.proofs.Common.{Option, Some, None, arith, length-append}
use Rattle.std.proofs.lemmas.Bool.{and_parts, leb-true}
use Rattle.std.proofs.lemmas.Nat.{mul-le}
use Rattle.std.proofs.lemmas.Result.{IfOk-at_ok}
use Rattle.std.specs.Cmp.{second_so}
use Rattle.std.specs.Prelude.{option_and_then, nat_le, IfSome, IfOk, Ok, codes}
use Rattle.std.specs.List.{list_all}
use Rattle.toml.specs.Data.{Data, Members, get_member, as_integer}
use Rattle.dm_event.specs.Layout.{is_layout, is_between, fits_range, fits_weights}
use Rattle.dm_event.specs.declared.limits.TheConstants.{MAX_PARTS, MAX_RANGES, MAX_WEIGHT, MAX_SITES, MAX_WIDTH}
use Rattle.dm_event.specs.declared.schema.Weights.{Weights}
use Rattle.dm_event.specs.declared.schema.ValueRange.{ValueRange}
use Rattle.dm_schema.specs.declared.error.SchemaFlaw.{SchemaFlaw}
use Rattle.dm_schema.specs.declared.error.SchemaFlaw.TheVariants.{Range}
use Rattle.dm_schema.specs.declared.spans.Span.{Span}
use Rattle.dm_schema.specs.Parts.{each, each_from, natural, within, integers, three, spans, masters_in, weights_in, among_keys, range_in, ranges_in}
use Rattle.dm_schema.specs.Reading.{◌>>=◌, or_flaw, required, typed, ranged, number_of, masters_of, weights_of, weights_at, values_of, values_at}

if_keeps : {A : Type 0} (p : A → Bool) (b : Bool) (x : A) → b ≡ p x → IfSome (cond b (Some x) None) (λ y. p y ≡ true)
if_keeps p true x e = sym e
if_keeps p false x e = tt

flaw_keeps : {A : Type 0} (P : A → Type 0) (flaw : SchemaFlaw) (o : Option A) → IfSome o P → IfOk (or_flaw flaw o) P
flaw_keeps P flaw (Some x) h = h
flaw_keeps P flaw None h = tt

-- Numbers.

pub within_fits : (least most : ℕ) (z : ℤ) → IfSome (within least most z) (λ n. is_between least most n ≡ true)
unfolding within
within_fits least most (pos n) = if_keeps (is_between least most) (is_between least most n) n refl
within_fits least most (negsuc n) = tt

module _ (name : List ℕ) (most : ℕ) where
  abbrev IsInside : ℕ → Type 0
  IsInside n = is_between 1 most n ≡ true

  number_from : (o : Option ℤ) → IfOk (typed name o >>= λ z. ranged name (within 1 most z)) IsInside
  number_from None = tt
  number_from (Some z) = flaw_keeps IsInside (Range name) (within 1 most z) (within_fits 1 most z)

  number_at : (o : Option Data) → IfOk (required name o >>= λ d. typed name (as_integer d) >>= λ z. ranged name (within 1 most z)) IsInside
  number_at None = tt
  number_at (Some d) = number_from (as_integer d)

  number_fits : (ms : Members) → IfOk (number_of name most ms) IsInside
  unfolding number_of
  number_fits ms = number_at (get_member name ms)

pub number_inside : (name : List ℕ) (most n : ℕ) (ms : Members) → number_of name most ms ≡ Ok n → is_between 1 most n ≡ true
number_inside name most n ms read = IfOk-at_ok (IsInside name most) read (number_fits name most ms)

pub at_most : (least most n : ℕ) → is_between least most n ≡ true → n ≤ most
at_most least most n inside = leb-true n most (second_so (nat_le least n) (nat_le n most) inside)

-- Lists.

module _ {A B : Type 0} (f : A → Option B) (p : B → Bool) where
  -- as many as there are, and each passes
  abbrev Pass : ℕ → List B → Type 0
  Pass n ys = (length ys ≡ n) × (list_all p ys ≡ true)

  one_more : (done : List B) (y : B) → list_all p done ≡ true → p y ≡ true → list_all p (done ++ y ∷ []) ≡ true
  one_more [] y h k = rw k refl
  one_more (d ∷ done) y h k =
      let parts = and_parts (p d) (list_all p done) h in
      rw (parts.0, one_more done y parts.1 k) refl

  next : (n : ℕ) (done : List B) (xs : List A) (o : Option B) → IfSome o (λ y. p y ≡ true)
      → ((y : B) → p y ≡ true → IfSome (each_from (done ++ y ∷ []) f xs) (Pass n)) → IfSome (option_and_then (λ y. each_from (done ++ y ∷ []) f xs) o) (Pass n)
  next n done xs None h k = tt
  next n done xs (Some y) h k = k y h

  all_pass : ((x : A) → IfSome (f x) (λ y. p y ≡ true)) → (n : ℕ) (xs : List A) (done : List B) → length done + length xs ≡ n
      → list_all p done ≡ true → IfSome (each_from done f xs) (Pass n)
  all_pass says n [] done count h = (omega (arith, count), h)
  all_pass says n (x ∷ xs) done count h =
      next n done xs (f x) (says x)
      (λ y py. all_pass says n xs (done ++ y ∷ []) (omega (arith, length-append done (y ∷ []), count)) (one_more done y h py))

  each_passes : ((x : A) → IfSome (f x) (λ y. p y ≡ true)) → (xs : List A) → IfSome (each f xs) (Pass (length xs))
  each_passes says xs = all_pass says (length xs) xs [] (omega arith) refl

  -- where their number passes too
  counted : (test : ℕ → Bool) (b : Bool) (n : ℕ) (o : Option (List B)) → b ≡ test n → IfSome o (Pass n)
      → IfSome (cond b o None) (λ ys. (test (length ys) ≡ true) × (list_all p ys ≡ true))
  counted test false n o e h = tt
  counted test true n None e h = tt
  counted test true n (Some ys) e h = (ap test h.0 ∙ sym e, h.1)

-- masters

abbrev pub AreMasters : ℕ → List ℕ → Type 0
AreMasters sites masters = (is_between 1 MAX_PARTS (length masters) ≡ true) × (list_all (is_between 1 sites) masters ≡ true)

masters_in_fit : (sites : ℕ) (zs : List ℤ) → IfSome (masters_in sites zs) (AreMasters sites)
unfolding masters_in
masters_in_fit sites zs =
    counted (within 1 sites) (is_between 1 sites) (is_between 1 MAX_PARTS) (is_between 1 MAX_PARTS (length zs)) (length zs) (each (within 1 sites) zs) refl
    (each_passes (within 1 sites) (is_between 1 sites) (within_fits 1 sites) zs)

masters_from : (sites : ℕ) (o : Option (List ℤ)) → IfOk (typed (codes "masters") o >>= λ zs. ranged (codes "masters") (masters_in sites zs)) (AreMasters sites)
masters_from sites None = tt
masters_from sites (Some zs) = flaw_keeps (AreMasters sites) (Range (codes "masters")) (masters_in sites zs) (masters_in_fit sites zs)

masters_at : (sites : ℕ) (o : Option Data)
    → IfOk (required (codes "masters") o >>= λ d. typed (codes "masters") (integers d) >>= λ zs. ranged (codes "masters") (masters_in sites zs))
    (AreMasters sites)
masters_at sites None = tt
masters_at sites (Some d) = masters_from sites (integers d)

masters_fit : (sites : ℕ) (ms : Members) → IfOk (masters_of sites ms) (AreMasters sites)
unfolding masters_of
masters_fit sites ms = masters_at sites (get_member (codes "masters") ms)

pub masters_inside : (sites : ℕ) (masters : List ℕ) (ms : Members) → masters_of sites ms ≡ Ok masters → AreMasters sites masters
masters_inside sites masters ms read = IfOk-at_ok (AreMasters sites) read (masters_fit sites ms)

-- weights

abbrev AreWeights : Weights → Type 0
AreWeights w = fits_weights w ≡ true

weight_fits : (z : ℤ) → IfSome (within 0 MAX_WEIGHT z) (λ n. nat_le n MAX_WEIGHT ≡ true)
unfolding within
weight_fits (pos n) = elim_weight (is_between 0 MAX_WEIGHT n) refl
  where
    elim_weight : (b : Bool) → b ≡ is_between 0 MAX_WEIGHT n → IfSome (cond b (Some n) None) (λ m. nat_le m MAX_WEIGHT ≡ true)
    elim_weight true e = second_so (nat_le 0 n) (nat_le n MAX_WEIGHT) (sym e)
    elim_weight false e = tt
weight_fits (negsuc n) = tt

abbrev weigh : ℕ → ℕ → ℕ → Weights
weigh balance delay together = record { balance = balance; delay = delay; together = together }

abbrev IsWeight : ℕ → Type 0
IsWeight n = nat_le n MAX_WEIGHT ≡ true

with_together : (b d : ℕ) → IsWeight b → IsWeight d → (o : Option ℕ) → IfSome o IsWeight → IfSome (option_and_then (λ t. Some (weigh b d t)) o) AreWeights
with_together b d hb hd None h = tt
with_together b d hb hd (Some t) h = rw (hb, hd, h) refl

with_delay : (b : ℕ) → IsWeight b → (o p : Option ℕ) → IfSome o IsWeight → IfSome p IsWeight
    → IfSome (option_and_then (λ d. option_and_then (λ t. Some (weigh b d t)) p) o) AreWeights
with_delay b hb None p h k = tt
with_delay b hb (Some d) p h k = with_together b d hb h p k

with_balance : (o p q : Option ℕ) → IfSome o IsWeight → IfSome p IsWeight → IfSome q IsWeight
    → IfSome (option_and_then (λ b. option_and_then (λ d. option_and_then (λ t. Some (weigh b d t)) q) p) o) AreWeights
with_balance None p q h k l = tt
with_balance (Some b) p q h k l = with_delay b h p q k l

weights_in_fit : (zs : ℤ × ℤ × ℤ) → IfSome (weights_in zs) AreWeights
unfolding weights_in
weights_in_fit zs =
    with_balance (within 0 MAX_WEIGHT zs.0) (within 0 MAX_WEIGHT zs.1) (within 0 MAX_WEIGHT zs.2) (weight_fits zs.0) (weight_fits zs.1) (weight_fits zs.2)

weights_from : (o : Option (ℤ × ℤ × ℤ)) → IfOk (typed (codes "weights") o >>= λ zs. ranged (codes "weights") (weights_in zs)) AreWeights
weights_from None = tt
weights_from (Some zs) = flaw_keeps AreWeights (Range (codes "weights")) (weights_in zs) (weights_in_fit zs)

weights_at_fit : (o : Option Data) → IfOk (weights_at o) AreWeights
weights_at_fit None = refl
weights_at_fit (Some d) = weights_from (option_and_then three (integers d))

pub weights_inside : (weights : Weights) (ms : Members) → weights_of ms ≡ Ok weights → fits_weights weights ≡ true
unfolding weights_of
weights_inside weights ms read = IfOk-at_ok AreWeights read (weights_at_fit (get_member (codes "weights") ms))

-- values

abbrev pub AreRanges : ℕ → List ValueRange → Type 0
AreRanges keys ranges = (nat_le (length ranges) MAX_RANGES ≡ true) × (list_all (fits_range keys) ranges ≡ true)

abbrev InKeys : ℕ → ValueRange → Type 0
InKeys keys range = fits_range keys range ≡ true

with_last : (keys first : ℕ) (value : ℤ) (o : Option ℕ)
    → IfSome (option_and_then (λ last. among_keys keys (record { first = first; last = last; value = value })) o) (InKeys keys)
with_last keys first value None = tt
with_last keys first value (Some last) =
    let range : ValueRange = record { first = first; last = last; value = value } in
    if_keeps (fits_range keys) (fits_range keys range) range refl

with_first : (keys : ℕ) (value : ℤ) (o p : Option ℕ)
    → IfSome (option_and_then (λ first. option_and_then (λ last. among_keys keys (record { first = first; last = last; value = value })) p) o) (InKeys keys)
with_first keys value None p = tt
with_first keys value (Some first) p = with_last keys first value p

range_fits : (keys : ℕ) (span : Span) → IfSome (range_in keys span) (InKeys keys)
unfolding range_in
range_fits keys span = with_first keys span.value (natural span.from) (natural span.to)

ranges_in_fit : (keys : ℕ) (spans : List Span) → IfSome (ranges_in keys spans) (AreRanges keys)
unfolding ranges_in
ranges_in_fit keys spans =
    counted (range_in keys) (fits_range keys) (λ n. nat_le n MAX_RANGES) (nat_le (length spans) MAX_RANGES) (length spans) (each (range_in keys) spans) refl
    (each_passes (range_in keys) (fits_range keys) (range_fits keys) spans)

values_from : (keys : ℕ) (o : Option (List Span)) → IfOk (typed (codes "values") o >>= λ found. ranged (codes "values") (ranges_in keys found)) (AreRanges keys)
values_from keys None = tt
values_from keys (Some found) = flaw_keeps (AreRanges keys) (Range (codes "values")) (ranges_in keys found) (ranges_in_fit keys found)

values_at_fit : (keys : ℕ) (o : Option Data) → IfOk (values_at keys o) (AreRanges keys)
values_at_fit keys None = (refl, refl)
values_at_fit keys (Some d) = values_from keys (spans d)

pub values_inside : (keys : ℕ) (values : List ValueRange) (ms : Members) → values_of keys ms ≡ Ok values → AreRanges keys values
unfolding values_of
values_inside keys values ms read = IfOk-at_ok (AreRanges keys) read (values_at_fit keys (get_member (codes "values") ms))

-- The whole.

pub keys_few : (ms : Members) (sites width : ℕ) (masters : List ℕ) (parts wide : ℕ) → number_of (codes "width") MAX_WIDTH ms ≡ Ok width
    → masters_of sites ms ≡ Ok masters → parts ≡ length masters → wide ≡ width → parts * wide ≤ 2 ^ 32
keys_few ms sites width masters parts wide w m count same =
    let a : length masters ≤ 256 = at_most 1 MAX_PARTS (length masters) (masters_inside sites masters ms m).0 in
    let b : width ≤ 65536 = at_most 1 MAX_WIDTH width (number_inside (codes "width") MAX_WIDTH width ms w) in
    let few = mul-le parts wide 256 65536 (omega arith) (omega arith) in
    omega arith

pub keeps_limits : (ms : Members) (most sites width : ℕ) (masters : List ℕ) (weights : Weights) (parts wide : ℕ) (values : List ValueRange)
    → most ≡ MAX_SITES → parts ≡ length masters → wide ≡ width → number_of (codes "sites") most ms ≡ Ok sites
    → number_of (codes "width") MAX_WIDTH ms ≡ Ok width → masters_of sites ms ≡ Ok masters → weights_of ms ≡ Ok weights
    → values_of (parts * wide) ms ≡ Ok values
    → is_layout (record { sites = sites; width = width; masters = masters; weights = weights; values = values }) ≡ true
keeps_limits ms most sites width masters weights parts wide values e f g a b c d v =
    let s : is_between 1 MAX_SITES sites ≡ true = rw e at (number_inside (codes "sites") most sites ms a) in
    let w : is_between 1 MAX_WIDTH width ≡ true = number_inside (codes "width") MAX_WIDTH width ms b in
    let m = masters_inside sites masters ms c in
    let r : AreRanges (length masters * width) values = rw (f, g) at (values_inside (parts * wide) values ms v) in
    rw (s, w, m.0, m.1, weights_inside weights ms d, r.0, r.1) refl
