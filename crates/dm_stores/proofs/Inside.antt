-- The transactions inside a vector, as entries come and as the vector rises.
use Rattle.std.proofs.Common.{ℕ, suc, ◌+◌, ◌≤◌, ◌≡◌, ◌≢◌, Bool, true, false, ◌==◌, nat_le, ◌&&◌, ◌||◌, cond, List, [], ◌∷◌, ◌++◌, Some, refl, sym, ap}
use Rattle.std.proofs.Common.{◌∙◌, arith, inl, inr, map, append-nil}
use Rattle.std.proofs.lemmas.Bool.{cases_eq, cases_Bool, eq-eqb, eqb-true, false≢true, leb-true, le-leb, lt-leb, and_parts}
use Rattle.std.proofs.lemmas.List.Elements.{filter-append}
use Rattle.std.specs.List.{AllByRecursion as Each, list_any}
use Rattle.std.specs.Prelude.{find, is_some}
use Rattle.dm_event.specs.Entries.{commit_vector}
use Rattle.dm_event.specs.Vectors.{at}
use Rattle.dm_event.specs.declared.step.Entry.{Entry}
use Rattle.dm_event.specs.declared.step.Pair.{Pair}
use Rattle.dm_model.proofs.ListFacts.{each_map, found_each, found_holds}
use Rattle.dm_model.proofs.Numbering.{Numbered, count_at, within_count}
use Rattle.dm_model.specs.Closed.{is_inside}
use Rattle.dm_model.specs.Ordered.{OrderedEntries, Follows}
use Rattle.dm_model.specs.Values.{written}
use Rattle.dm_restart.proofs.Insides.{inside, inside_more}
use Rattle.dm_store.specs.Histories.{past_of, writers}
use Rattle.dm_store.specs.declared.past.Past.{Past}
use Rattle.dm_stores.specs.Stores.{Has}

-- the entry, if it writes the key
abbrev one : ℕ → Entry → List Past
one key e = cond (is_some (written e.writes key)) (past_of e ∷ []) []

abbrev end_of : ℕ → Bool → Entry → List Past
end_of key b e = cond b (one key e) []

behind : (key : ℕ) (e : Entry) (b : Bool) → writers key (map past_of (cond b (e ∷ []) [])) ≡ end_of key b e
behind key e true = refl
behind key e false = refl

-- the latest entry stands at the end
writers_end : (key : ℕ) (v : List ℕ) (e : Entry) (es : List Entry)
    → writers key (inside v (e ∷ es)) ≡ writers key (inside v es) ++ end_of key (is_inside v e) e
writers_end key v e es =
    ap (λ (ts : List Past). writers key ts) (inside_more v e es)
    ∙ filter-append (λ (t : Past). is_some (written t.writes key)) (inside v es) (map past_of (cond (is_inside v e) (e ∷ []) []))
    ∙ ap (λ (ts : List Past). writers key (inside v es) ++ ts) (behind key e (is_inside v e))

installed_end : (key : ℕ) (installed : List Past) (e : Entry) → writers key (installed ++ past_of e ∷ []) ≡ writers key installed ++ one key e
installed_end key installed e = filter-append (λ (t : Past). is_some (written t.writes key)) installed (past_of e ∷ [])

-- an entry that comes and is not inside
pub has_out : (v : List ℕ) (e : Entry) (es : List Entry) (installed : List Past) → is_inside v e ≡ false → Has es v installed → Has (e ∷ es) v installed
has_out v e es installed out has key =
    has key ∙ sym (append-nil (writers key (inside v es)))
    ∙ ap (λ (b : Bool). writers key (inside v es) ++ end_of key b e) (sym out) ∙ sym (writers_end key v e es)

inside_same : (u v : List ℕ) (key : ℕ) (es : List Entry) → Each (λ d. is_inside u d ≡ is_inside v d) es
    → writers key (inside u es) ≡ writers key (inside v es)
inside_same u v key [] h = refl
inside_same u v key (e ∷ es) h =
    writers_end key u e es ∙ ap (λ (ts : List Past). ts ++ end_of key (is_inside u e) e) (inside_same u v key es h.1)
    ∙ ap (λ (b : Bool). writers key (inside v es) ++ end_of key b e) h.0 ∙ sym (writers_end key v e es)

-- an entry that comes inside, with the vector that holds it
pub has_own : (u v : List ℕ) (e : Entry) (es : List Entry) (installed : List Past) → is_inside u e ≡ true → Each (λ d. is_inside u d ≡ is_inside v d) es
    → Has es v installed → Has (e ∷ es) u (installed ++ past_of e ∷ [])
has_own u v e es installed in' same has key =
    installed_end key installed e ∙ ap (λ (ts : List Past). ts ++ one key e) (has key ∙ sym (inside_same u v key es same))
    ∙ ap (λ (b : Bool). writers key (inside u es) ++ end_of key b e) (sym in') ∙ sym (writers_end key u e es)

pub same_le : (a b c : ℕ) → (a ≤ b → a ≤ c) → (a ≤ c → a ≤ b) → nat_le a b ≡ nat_le a c
same_le a b c f g = elim (cases_Bool (nat_le a b)) [
  | inl p ↦ (p ∙ sym (le-leb a c (f (leb-true a b p))))
  | inr p ↦ elim (cases_Bool (nat_le a c)) [
    | inl q ↦ absurd (false≢true (sym p ∙ le-leb a b (g (leb-true a c q))))
    | inr q ↦ (p ∙ sym q)
  ]
]

written_key : (ps : List Pair) (key : ℕ) → is_some (written ps key) ≡ true → list_any (λ p. p.key == key) ps ≡ true
written_key [] key h = absurd (false≢true h)
written_key (p ∷ ps) key h = by (p.key == key) refl h (λ g. written_key ps key g)
  where
    by : (b : Bool) → (p.key == key) ≡ b → is_some (cond b (Some p.value) (written ps key)) ≡ true
        → (is_some (written ps key) ≡ true → list_any (λ q. q.key == key) ps ≡ true)
        → ((p.key == key) || list_any (λ q. q.key == key) ps) ≡ true
    by true e g rest = ap (λ (b : Bool). b || list_any (λ q. q.key == key) ps) e
    by false e g rest = ap (λ (b : Bool). b || list_any (λ q. q.key == key) ps) e ∙ rest g

earlier_other : (d : Entry) (es : List Entry) → Numbered (d ∷ es) → Each (λ x. x.origin ≡ d.origin → x.seq ≢ d.seq) es
earlier_other d es n =
    each_map (λ x. x.seq ≤ count_at x.origin es) (λ x. x.origin ≡ d.origin → x.seq ≢ d.seq)
    (λ x le o q. (let a = ap (λ (j : ℕ). count_at j es) o in let b = n.0.seq in omega (arith, le, a, b, q))) es (within_count es n.1)

-- ---- the next entry of another origin

-- the vector u is v with the next number of the origin
pub record Next (o : ℕ) (u v : List ℕ) : Type 0 where
  pub up : at u o ≡ suc (at v o)
  pub same : (j : ℕ) → j ≢ o → at u j ≡ at v j

module _ (o : ℕ) (u v : List ℕ) (next : Next o u v) where
  abbrev is_next : Entry → Bool
  is_next d = (d.origin == o) && (d.seq == at v o + 1)

  but_next : (d : Entry) → (d.origin ≡ o → d.seq ≢ at v o + 1) → is_inside u d ≡ is_inside v d
  but_next d h = elim (cases_eq d.origin o) [
    | inl p ↦ (let n = h p in let a = ap (λ (j : ℕ). at u j) p in let b = ap (λ (j : ℕ). at v j) p in let c = next.up in
        same_le d.seq (at u d.origin) (at v d.origin) (λ le. omega (arith, n, a, b, c, le)) (λ le. omega (arith, n, a, b, c, le)))
    | inr n ↦ ap (λ (m : ℕ). nat_le d.seq m) (next.same d.origin n)
  ]

  found_is : (d : Entry) → is_next d ≡ true → (d.origin ≡ o) × (d.seq ≡ at v o + 1)
  found_is d h = let p = and_parts (d.origin == o) (d.seq == at v o + 1) h in (eqb-true d.origin o p.0, eqb-true d.seq (at v o + 1) p.1)

  not_is : (d : Entry) → is_next d ≡ false → d.origin ≡ o → d.seq ≢ at v o + 1
  not_is d h p q = false≢true (sym h ∙ (ap (λ (b : Bool). b && (d.seq == at v o + 1)) (eq-eqb d.origin o p) ∙ eq-eqb d.seq (at v o + 1) q))

  next_in : (d : Entry) → is_next d ≡ true → is_inside u d ≡ true
  next_in d h = let p = found_is d h in let a = ap (λ (j : ℕ). at u j) p.0 in let c = next.up in le-leb d.seq (at u d.origin) (omega (arith, p.1, a, c))

  next_out : (d : Entry) → is_next d ≡ true → is_inside v d ≡ false
  next_out d h = let p = found_is d h in let a = ap (λ (j : ℕ). at v j) p.0 in lt-leb d.seq (at v d.origin) (omega (arith, p.1, a))

  -- one that is inside, and later, doesn't write a key of the next one
  apart : (key : ℕ) (e d : Entry) → is_next e ≡ true → at (commit_vector e) e.origin ≡ e.seq → Follows d e → ((j : ℕ) → at d.begin j ≤ at v j)
      → is_some (written d.writes key) ≡ true → is_some (written e.writes key) ≡ false
  apart key e d h own follows below w = elim (cases_Bool (is_some (written e.writes key))) [
    | inl x ↦ absurd (let most = follows key (written_key d.writes key w) (written_key e.writes key x) in
        let a = most e.origin in let b = below e.origin in let p = found_is e h in let c = ap (λ (j : ℕ). at v j) p.0 in let q = p.1 in
        omega (arith, a, b, c, q, own))
    | inr x ↦ x
  ]

  swap : (key : ℕ) (e d : Entry) (w : List Past) (b : Bool) → is_inside v d ≡ b
      → (b ≡ true → is_some (written d.writes key) ≡ true → is_some (written e.writes key) ≡ false)
      → (w ++ one key e) ++ end_of key b d ≡ (w ++ end_of key b d) ++ one key e
  swap key e d w false f h = append-nil (w ++ one key e) ∙ ap (λ (ts : List Past). ts ++ one key e) (sym (append-nil w))
  swap key e d w true f h = by (is_some (written d.writes key)) refl
    where
      by : (c : Bool) → is_some (written d.writes key) ≡ c → (w ++ one key e) ++ cond c (past_of d ∷ []) [] ≡ (w ++ cond c (past_of d ∷ []) []) ++ one key e
      by false g = append-nil (w ++ one key e) ∙ ap (λ (ts : List Past). ts ++ one key e) (sym (append-nil w))
      by true g =
          let none = h refl g in
          ap (λ (x : Bool). (w ++ cond x (past_of e ∷ []) []) ++ past_of d ∷ []) none ∙ ap (λ (ts : List Past). ts ++ past_of d ∷ []) (append-nil w)
          ∙ sym (append-nil (w ++ past_of d ∷ [])) ∙ ap (λ (x : Bool). (w ++ past_of d ∷ []) ++ cond x (past_of e ∷ []) []) (sym none)

  next_writers : (key : ℕ) (e : Entry) → at (commit_vector e) e.origin ≡ e.seq → (es : List Entry) → find is_next es ≡ Some e → Numbered es
      → OrderedEntries es → Each (λ d. d.seq ≤ at v d.origin → (j : ℕ) → at d.begin j ≤ at v j) es
      → writers key (inside u es) ≡ writers key (inside v es) ++ one key e
  next_writers key e own [] f n ord closed = absurd (cc (f))
  next_writers key e own (d ∷ es) f n ord closed = by (is_next d) refl f (λ g. next_writers key e own es g n.1 ord.1 closed.1)
    where
      by : (b : Bool) → is_next d ≡ b → cond b (Some d) (find is_next es) ≡ Some e
          → (find is_next es ≡ Some e → writers key (inside u es) ≡ writers key (inside v es) ++ one key e)
          → writers key (inside u (d ∷ es)) ≡ writers key (inside v (d ∷ es)) ++ one key e
      by true t g rest =
          let same : d ≡ e = cc (g) in
          let is = found_is d t in
          let others = each_map (λ x. x.origin ≡ d.origin → x.seq ≢ d.seq) (λ x. is_inside u x ≡ is_inside v x)
          (λ x h. but_next x (λ p q. h (p ∙ sym is.0) (q ∙ sym is.1))) es (earlier_other d es n) in
          let before : writers key (inside v es) ≡ writers key (inside v (d ∷ es)) =
          sym (append-nil (writers key (inside v es)))
          ∙ ap (λ (b : Bool). writers key (inside v es) ++ end_of key b d) (sym (next_out d t)) ∙ sym (writers_end key v d es) in
          writers_end key u d es ∙ ap (λ (ts : List Past). ts ++ end_of key (is_inside u d) d) (inside_same u v key es others)
          ∙ ap (λ (b : Bool). writers key (inside v es) ++ end_of key b d) (next_in d t)
          ∙ ap (λ (ts : List Past). ts ++ one key d) before
          ∙ ap (λ (x : Entry). writers key (inside v (d ∷ es)) ++ one key x) same
      by false t g rest =
          let there = found_each (λ x. Follows d x) is_next es e g ord.0 in
          let is : is_next e ≡ true = found_holds is_next es e g in
          writers_end key u d es ∙ ap (λ (ts : List Past). ts ++ end_of key (is_inside u d) d) (rest g)
          ∙ ap (λ (b : Bool). (writers key (inside v es) ++ one key e) ++ end_of key b d) (but_next d (not_is d t))
          ∙ swap key e d (writers key (inside v es)) (is_inside v d) refl
          (λ in' w. apart key e d is own there (closed.0 (leb-true d.seq (at v d.origin) in')) w)
          ∙ ap (λ (ts : List Past). ts ++ one key e) (sym (writers_end key v d es))

  -- the vector rises to it: it is installed behind the others, though it may stand before some of them
  pub has_next : (e : Entry) (es : List Entry) (installed : List Past) → at (commit_vector e) e.origin ≡ e.seq → find is_next es ≡ Some e → Numbered es
      → OrderedEntries es → Each (λ d. d.seq ≤ at v d.origin → (j : ℕ) → at d.begin j ≤ at v j) es → Has es v installed
      → Has es u (installed ++ past_of e ∷ [])
  has_next e es installed own f n ord closed has key =
      installed_end key installed e ∙ ap (λ (ts : List Past). ts ++ one key e) (has key) ∙ sym (next_writers key e own es f n ord closed)
