-- Maxima of vectors, of which more come behind.
use Rattle.std.proofs.Common.{ℕ, ◌+◌, ◌<◌, ◌≤◌, ◌≡◌, List, [], ◌∷◌, ◌++◌, length, ap, sym, ◌∙◌, arith, max, inl, inr, map, take, get_or}
use Rattle.std.proofs.Common.{Option, Some, None}
use Rattle.std.proofs.lemmas.Bool.{cases_eq}
use Rattle.std.proofs.lemmas.List.{map-append, append-nil, take_more}
use Rattle.std.proofs.lemmas.List.Elements.{filter_map-append}
use Rattle.std.specs.List.{cons_option}
use Rattle.std.specs.Prelude.{filter_map}
use Rattle.dm_event.specs.Vectors.{at, vector_by, join_all, greatest, raised}
use Rattle.dm_model.proofs.ListFacts.{map_same}
use Rattle.dm_model.proofs.VectorFacts.{at_by, long_by, at_raised_own, at_raised_other, long_raised}
use Rattle.dm_record.specs.declared.record.Record.{Record}
use Rattle.dm_restart.specs.Floors.{counted, floor_of}

pub greatest_more : (xs : List ℕ) (x : ℕ) → greatest (xs ++ x ∷ []) ≡ max (greatest xs) x
greatest_more [] x = omega arith
greatest_more (y ∷ xs) x = (let r = greatest_more xs x in omega (arith, r))

-- the maximum with one vector more, by components
pub join_behind : (count : ℕ) (vs : List (List ℕ)) (v : List ℕ)
    → vector_by count (λ site. max (at (join_all count vs) site) (at v site)) ≡ join_all count (vs ++ v ∷ [])
join_behind count vs v =
    map_same (λ site. max (at (join_all count vs) site) (at v site)) (λ site. greatest (map (λ w. at w site) (vs ++ v ∷ []))) 1 count by_component
  where
    by_component : (j : ℕ) → 1 ≤ j → j < 1 + count → max (at (join_all count vs) j) (at v j) ≡ greatest (map (λ w. at w j) (vs ++ v ∷ []))
    by_component j l m =
        let one = at_by count (λ site. greatest (map (λ w. at w site) vs)) j l (omega (arith, m)) in
        ap (λ (n : ℕ). max n (at v j)) one
        ∙ sym (ap greatest (map-append (λ (w : List ℕ). at w j) vs (v ∷ [])) ∙ greatest_more (map (λ w. at w j) vs) (at v j))

-- one component more is the greater one
pub record Raises (old other : List ℕ) (site : ℕ) (new : List ℕ) : Type 0 where
  pub long : length new ≡ length old
  pub done : (k : ℕ) → 1 ≤ k → k < site → at new k ≡ max (at old k) (at other k)
  pub left : (k : ℕ) → site ≤ k → at new k ≡ at old k

pub raises_next : (old other : List ℕ) (site : ℕ) (mid new : List ℕ) → Raises old other site mid → 1 ≤ site → site ≤ length old
    → new ≡ raised mid site (max (at mid site) (at other site)) → Raises old other (site + 1) new
raises_next old other site mid new r one within e = record {
  long = ap (λ (v : List ℕ). length v) e ∙ long_raised mid site n ∙ r.long;
  done = λ k l m. elim (cases_eq k site) [
    | inl p ↦ ap (λ (v : List ℕ). at v k) e ∙ ap (λ (i : ℕ). at (raised mid site n) i) p
        ∙ at_raised_own mid site n one (let long = r.long in omega (arith, within, long))
        ∙ ap (λ (x : ℕ). max x (at other site)) (r.left site (omega arith))
        ∙ sym (ap (λ (i : ℕ). max (at old i) (at other i)) p)
    | inr q ↦ ap (λ (v : List ℕ). at v k) e ∙ at_raised_other mid site n k one q ∙ r.done k l (omega (arith, m, q))
  ];
  left = λ k l. ap (λ (v : List ℕ). at v k) e ∙ at_raised_other mid site n k one (λ p. omega (arith, p, l)) ∙ r.left k (omega (arith, l));
}
  where
    n : ℕ
    n = max (at mid site) (at other site)

-- a maximum of one vector more, which may come
pub floor_next : (sites site : ℕ) (own : List Record) (i : ℕ) (r : Record) → i < length own → r ≡ get_or own i r
    → floor_of sites site (take (i + 1) own) ≡ join_all sites (filter_map (counted site) (take i own) ++ cons_option (counted site r) [])
floor_next sites site own i r l read =
    ap (λ (rs : List Record). floor_of sites site rs) (take_more own i r l ∙ ap (λ (x : Record). take i own ++ x ∷ []) (sym read))
    ∙ ap (λ (vs : List (List ℕ)). join_all sites vs) (filter_map-append (counted site) (take i own) (r ∷ []))

pub floor_raised : (sites site : ℕ) (own : List Record) (i : ℕ) (r : Record) (v floor new : List ℕ) → i < length own → r ≡ get_or own i r
    → Some v ≡ counted site r → floor ≡ floor_of sites site (take i own)
    → new ≡ vector_by (length floor) (λ site. max (at floor site) (at v site)) → new ≡ floor_of sites site (take (i + 1) own)
floor_raised sites site own i r v floor new l read e before after =
    let vs = filter_map (counted site) (take i own) in
    let long : length floor ≡ sites = ap (λ (u : List ℕ). length u) before ∙ long_by sites _ in
    after
    ∙ (λ j. vector_by (long j) (λ k. max (at (before j) k) (at v k)))
    ∙ join_behind sites vs v
    ∙ ap (λ (o : Option (List ℕ)). join_all sites (vs ++ cons_option o [])) e
    ∙ sym (floor_next sites site own i r l read)

pub floor_stays : (sites site : ℕ) (own : List Record) (i : ℕ) (r : Record) (floor : List ℕ) → i < length own → r ≡ get_or own i r
    → None ≡ counted site r → floor ≡ floor_of sites site (take i own) → floor ≡ floor_of sites site (take (i + 1) own)
floor_stays sites site own i r floor l read e before =
    let vs = filter_map (counted site) (take i own) in
    before
    ∙ ap (λ (us : List (List ℕ)). join_all sites us) (sym (append-nil vs))
    ∙ ap (λ (o : Option (List ℕ)). join_all sites (vs ++ cons_option o [])) e
    ∙ sym (floor_next sites site own i r l read)
