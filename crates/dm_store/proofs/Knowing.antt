-- The keys of the map are the known ones.
use Rattle.std.proofs.Common.{ℕ, ◌≡◌, ◌+◌, ◌<◌, take, length, get_or, subst, Bool, true, false, ◌==◌, ◌||◌, nat_eq, cond, List, [], ◌∷◌, ◌++◌, Option, Some}
use Rattle.std.proofs.Common.{None, is_some, true≢false, refl, sym, ap, ◌∙◌}
use Rattle.std.proofs.lemmas.Bool.{eqb-true, eq-eqb}
use Rattle.std.proofs.lemmas.List.{map-append, take_more}
use Rattle.std.specs.List.{AllByRecursion as Each}
use Rattle.dm_event.specs.declared.step.Pair.{Pair}
use Rattle.dm_store.specs.declared.past.Past.{Past}
use Rattle.std.specs.Map.{keys_of, lookup}
use Rattle.indexmap.specs.IndexMap.{IndexMap, keys, get, insert_entry}
use Rattle.indexmap.proofs.CallerLemmas.{insert_entry-new}
use Rattle.dm_model.specs.Tests.{is_among}
use Rattle.dm_store.specs.Known.{with_known, AreKnown}

both : (x y : Bool) → (x ≡ true → y ≡ true) → (y ≡ true → x ≡ true) → x ≡ y
both true y f g = sym (f refl)
both false true f g = g refl
both false false f g = refl

turned : (a b : ℕ) → nat_eq a b ≡ nat_eq b a
turned a b = both (nat_eq a b) (nat_eq b a) (λ h. eq-eqb b a (sym (eqb-true a b h))) (λ h. eq-eqb a b (sym (eqb-true b a h)))

one_more : {X : Type 0} (b c : Bool) (x : X) (o : Option X) (r : Bool) → b ≡ c → is_some o ≡ r → is_some (cond b (Some x) o) ≡ c || r
one_more true true x o r e h = refl
one_more true false x o r e h = absurd (true≢false e)
one_more false true x o r e h = λ i. cond (e i) true (h i)
one_more false false x o r e h = h

is_known : {X : Type 0} (es : List (ℕ × X)) (key : ℕ) → is_some (lookup (nat_eq key) es) ≡ is_among (keys_of es) key
is_known [] key = refl
is_known (e ∷ es) key = one_more (nat_eq key e.0) (nat_eq e.0 key) e.1 (lookup (nat_eq key) es) (is_among (keys_of es) key) (turned key e.0) (is_known es key)

none_of : {X : Type 0} (o : Option X) → is_some o ≡ false → o ≡ None
none_of None h = refl
none_of (Some x) h = absurd (true≢false h)

keys_push : {X : Type 0} (es : List (ℕ × X)) (key : ℕ) (x : X) → keys_of (es ++ (key, x) ∷ []) ≡ keys_of es ++ key ∷ []
keys_push es key x = map-append (λ e. e.0) es ((key, x) ∷ [])

module _ {X S : Type 0} (m : IndexMap ℕ X S) (key : ℕ) where
  pub known_new : (x : X) → is_some (get nat_eq m key) ≡ false → keys_of (insert_entry nat_eq m.entries key x) ≡ with_known (keys m) key
  known_new x h =
      ap keys_of (insert_entry-new nat_eq m key x (none_of (get nat_eq m key) h))
      ∙ keys_push m.entries key x
      ∙ (λ i. cond (sym (sym (is_known m.entries key) ∙ h) i) (keys m) (keys m ++ key ∷ []))

  pub known_old : is_some (get nat_eq m key) ≡ true → keys m ≡ with_known (keys m) key
  known_old h = λ i. cond (sym (sym (is_known m.entries key) ∙ h) i) (keys m) (keys m ++ key ∷ [])

  -- a known key stands in the map
  pub known_stands : is_among (keys m) key ≡ true → is_some (get nat_eq m key) ≡ true
  known_stands h = is_known m.entries key ∙ h

among_end : (ks : List ℕ) (key : ℕ) → is_among (ks ++ key ∷ []) key ≡ true
among_end [] key = λ i. eq-eqb key key refl i || false
among_end (k ∷ ks) key = (λ i. (k == key) || among_end ks key i) ∙ any_true (k == key)
  where
    any_true : (b : Bool) → b || true ≡ true
    any_true true = refl
    any_true false = refl

among_more : (ks : List ℕ) (key k : ℕ) → is_among ks k ≡ true → is_among (ks ++ key ∷ []) k ≡ true
among_more [] key k h = absurd (true≢false (sym h))
among_more (x ∷ ks) key k h = by (x == k) (among_more ks key k) h
  where
    by : (b : Bool) → (is_among ks k ≡ true → is_among (ks ++ key ∷ []) k ≡ true) → b || is_among ks k ≡ true → b || is_among (ks ++ key ∷ []) k ≡ true
    by true rest h = refl
    by false rest h = rest h

-- the key is known now
pub knows : (ks : List ℕ) (key : ℕ) → is_among (with_known ks key) key ≡ true
knows ks key = by (is_among ks key) refl
  where
    by : (b : Bool) → is_among ks key ≡ b → is_among (cond b ks (ks ++ key ∷ [])) key ≡ true
    by true e = e
    by false e = among_end ks key

-- a known key stays known
pub still : (ks : List ℕ) (key k : ℕ) → is_among ks k ≡ true → is_among (with_known ks key) k ≡ true
still ks key k h = by (is_among ks key)
  where
    by : (b : Bool) → is_among (cond b ks (ks ++ key ∷ [])) k ≡ true
    by true = h
    by false = among_more ks key k h

all_more : (ks new : List ℕ) (ps : List Pair) → ((k : ℕ) → is_among ks k ≡ true → is_among new k ≡ true) → AreKnown ks ps → AreKnown new ps
all_more ks new [] stay h = tt
all_more ks new (p ∷ ps) stay h = (stay p.key h.0, all_more ks new ps stay h.1)

all_push : (ks : List ℕ) (ps : List Pair) (p : Pair) → AreKnown ks ps → is_among ks p.key ≡ true → AreKnown ks (ps ++ p ∷ [])
all_push ks [] p h k = (k, tt)
all_push ks (q ∷ ps) p h k = (h.0, all_push ks ps p h.1 k)

-- one pair more
pub one_further : (ks new : List ℕ) (ps : List Pair) (i : ℕ) (d : Pair) → i < length ps → AreKnown ks (take i ps)
    → ((k : ℕ) → is_among ks k ≡ true → is_among new k ≡ true) → is_among new (get_or ps i d).key ≡ true
    → AreKnown new (take (i + 1) ps)
one_further ks new ps i d l all stay here =
    subst (λ (qs : List Pair). AreKnown new qs) (sym (take_more ps i d l))
    (all_push new (take i ps) (get_or ps i d) (all_more ks new (take i ps) stay all) here)

-- all pairs of each transaction stay known
pub all_stay : (ks new : List ℕ) (ts : List Past) → ((k : ℕ) → is_among ks k ≡ true → is_among new k ≡ true) → Each (λ t. AreKnown ks t.writes) ts
    → Each (λ t. AreKnown new t.writes) ts
all_stay ks new [] stay h = tt
all_stay ks new (t ∷ ts) stay h = (all_more ks new t.writes stay h.0, all_stay ks new ts stay h.1)

each_push : {X : Type 0} (P : X → Type 0) (xs : List X) (x : X) → Each P xs → P x → Each P (xs ++ x ∷ [])
each_push P [] x h p = (p, tt)
each_push P (y ∷ ys) x h p = (h.0, each_push P ys x h.1 p)

-- one transaction more
pub one_later : (ks new : List ℕ) (past : List Past) (i : ℕ) (t : Past) → i < length past → t ≡ get_or past i t
    → Each (λ (t : Past). AreKnown ks t.writes) (take i past) → ((k : ℕ) → is_among ks k ≡ true → is_among new k ≡ true) → AreKnown new t.writes
    → Each (λ (t : Past). AreKnown new t.writes) (take (i + 1) past)
one_later ks new past i t l read all stay here =
    subst (λ (us : List Past). Each (λ (t : Past). AreKnown new t.writes) us) (sym (take_more past i t l ∙ ap (λ (u : Past). take i past ++ u ∷ []) (sym read)))
    (each_push (λ (t : Past). AreKnown new t.writes) (take i past) t (all_stay ks new (take i past) stay all) here)
