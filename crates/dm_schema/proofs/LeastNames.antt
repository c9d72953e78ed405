-- A table has its names in order, so that the first that passes a test is the least that does.
use Rattle.std.proofs.Common.{◌≡◌, ◌∙◌, ap, sym, refl, List, [], ◌∷◌, ℕ, map, Bool, false, not, Option, Some, None, option_map}
use Rattle.std.proofs.Common.{String, Global, Less, string_bytes, nat_cmp, cond, inl, inr, ◌||◌, Bor}
use Rattle.std.proofs.lemmas.Bool.{cases_Bool}
use Rattle.std.proofs.lemmas.Cmp.{nat_list_cmp_total}
use Rattle.std.specs.Cmp.Lexicographic.{slice_cmp}
use Rattle.std.specs.List.{AllByRecursion, list_any}
use Rattle.std.specs.List.Sorted.{IsStrictlySortedBy}
use Rattle.std.specs.Map.{keys_of}
use Rattle.std.specs.Ordering.{ordering_reverse, is_lt}
use Rattle.std.specs.Prelude.{filter, find, IfSome}
use Rattle.std.specs.String.{string_cmp}
use Rattle.toml.specs.View.{members_view}
use Rattle.toml.specs.declared.value.Value.{Value}
use Rattle.std.specs.Str.{bytes_eq}
use Rattle.dm_schema.specs.Names.{names, is_below, lesser, least, is_one_of, least_other}

abbrev Entry : Type 0
Entry = String Global × Value

pub names_view : (es : List Entry) → names (members_view es) ≡ map (λ s. string_bytes s) (keys_of es)
names_view [] = refl
names_view (e ∷ es) = ap (λ (ns : List (List ℕ)). string_bytes e.0 ∷ ns) (names_view es)

-- each of the names is above this one
abbrev AllAbove : List ℕ → List (List ℕ) → Type 0
AllAbove a bs = AllByRecursion (λ b. slice_cmp nat_cmp a b ≡ Less) bs

-- so is the least of those that pass
lesser_above : (a b : List ℕ) (o : Option (List ℕ)) → slice_cmp nat_cmp a b ≡ Less → IfSome o (λ c. slice_cmp nat_cmp a c ≡ Less)
    → slice_cmp nat_cmp a (lesser b o) ≡ Less
lesser_above a b None h k = h
lesser_above a b (Some c) h k = elim (cases_Bool (is_below c b)) [ inl e ↦ rw e k | inr e ↦ rw e h ]

least_above : (p : List ℕ → Bool) (a : List ℕ) (bs : List (List ℕ)) → AllAbove a bs → IfSome (least (filter p bs)) (λ c. slice_cmp nat_cmp a c ≡ Less)
least_above p a [] h = tt
least_above p a (b ∷ bs) h = elim (cases_Bool (p b)) [
  | inl e ↦ rw e (lesser_above a b (least (filter p bs)) h.0 (least_above p a bs h.1))
  | inr e ↦ rw e (least_above p a bs h.1)
]

not_below : (a c : List ℕ) → slice_cmp nat_cmp a c ≡ Less → is_below c a ≡ false
not_below a c h = ap is_lt (nat_list_cmp_total.antisymm c a ∙ ap ordering_reverse h)

lesser_is : (a : List ℕ) (o : Option (List ℕ)) → IfSome o (λ c. slice_cmp nat_cmp a c ≡ Less) → lesser a o ≡ a
lesser_is a None h = refl
lesser_is a (Some c) h = rw (not_below a c h) refl

-- the names ascend
abbrev Ascend : List (List ℕ) → Type 0
Ascend [] = Unit {0}
Ascend (a ∷ bs) = AllAbove a bs × Ascend bs

first_is_least : (p : List ℕ → Bool) (bs : List (List ℕ)) → Ascend bs → find p bs ≡ least (filter p bs)
first_is_least p [] h = refl
first_is_least p (b ∷ bs) h = elim (cases_Bool (p b)) [
  | inl e ↦ rw e (ap Some (sym (lesser_is b (least (filter p bs)) (least_above p b bs h.0))))
  | inr e ↦ rw e (first_is_least p bs h.1)
]

above_bytes : (s : String Global) (ks : List (String Global)) → AllByRecursion (λ k. string_cmp s k ≡ Less) ks
    → AllAbove (string_bytes s) (map (λ k. string_bytes k) ks)
above_bytes s [] h = tt
above_bytes s (k ∷ ks) h = (h.0, above_bytes s ks h.1)

keys_ascend : (ks : List (String Global)) → IsStrictlySortedBy string_cmp ks → Ascend (map (λ k. string_bytes k) ks)
unfolding IsStrictlySortedBy
keys_ascend [] h = tt
keys_ascend (k ∷ ks) h = (above_bytes k ks h.0, keys_ascend ks h.1)

find_map : (p : List ℕ → Bool) (ks : List (String Global))
    → find p (map (λ k. string_bytes k) ks) ≡ option_map (λ k. string_bytes k) (find (λ k. p (string_bytes k)) ks)
find_map p [] = refl
find_map p (k ∷ ks) = elim (cases_Bool (p (string_bytes k))) [
  | inl e ↦ rw e refl
  | inr e ↦ rw e (find_map p ks)
]

-- the first key that passes is the least name that does
first_key_is_least : (p : List ℕ → Bool) (es : List Entry) → IsStrictlySortedBy string_cmp (keys_of es)
    → option_map (λ k. string_bytes k) (find (λ k. p (string_bytes k)) (keys_of es)) ≡ least (filter p (names (members_view es)))
first_key_is_least p es sorted =
    sym (find_map p (keys_of es)) ∙ first_is_least p (map (λ k. string_bytes k) (keys_of es)) (keys_ascend (keys_of es) sorted)
    ∙ ap (λ (ns : List (List ℕ)). least (filter p ns)) (sym (names_view es))

filter_same : (p q : List ℕ → Bool) → ((a : List ℕ) → p a ≡ q a) → (bs : List (List ℕ)) → filter p bs ≡ filter q bs
filter_same p q same [] = refl
filter_same p q same (b ∷ bs) =
    ap (λ (passes : Bool). cond passes (b ∷ filter p bs) (filter p bs)) (same b)
    ∙ ap (λ (more : List (List ℕ)). cond (q b) (b ∷ more) more) (filter_same p q same bs)

any_map : (p : List ℕ → Bool) (ns : List (Bor (List ℕ))) → list_any (λ n. p n.now) ns ≡ list_any p (map (λ n. n.now) ns)
any_map p [] = refl
any_map p (n ∷ ns) = ap (λ (rest : Bool). p n.now || rest) (any_map p ns)

-- the first key that isn't one of these is the least name that isn't
pub first_other_is_least : (known : List (Bor (List ℕ))) (es : List Entry) → IsStrictlySortedBy string_cmp (keys_of es)
    → option_map (λ k. string_bytes k) (find (λ k. not (list_any (λ n. bytes_eq n.now (string_bytes k)) known)) (keys_of es))
    ≡ least_other (map (λ n. n.now) known) (members_view es)
unfolding least_other
first_other_is_least known es sorted =
    first_key_is_least (λ a. not (list_any (λ n. bytes_eq n.now a) known)) es sorted
    ∙ ap least (filter_same (λ a. not (list_any (λ n. bytes_eq n.now a) known)) (λ a. not (is_one_of (map (λ n. n.now) known) a))
    (λ a. ap not (any_map (λ name. bytes_eq name a) known)) (names (members_view es)))
