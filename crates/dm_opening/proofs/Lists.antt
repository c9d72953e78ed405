-- Lists of actors, one more at the end, and that no actor stands in them twice.
use Rattle.std.proofs.Common.{◌≡◌, ℕ, zero, suc, ◌+◌, ◌<◌, ◌==◌, Bool, true, false, if◌then◌else◌, List, [], ◌∷◌, ◌++◌, length, refl, sym, ap, ◌∙◌, arith, take, get_or}
use Rattle.std.proofs.lemmas.List.{append_assoc, length-take-le, take_more}
use Rattle.dm_event.specs.declared.actor.Actor.{Actor}
use Rattle.dm_event.specs.declared.actor.Actor.TheVariants.{Partition, Site}
use Rattle.dm_opening.specs.Dealing.{id_if, ids_from, parts_from, sites_from}

pub sites_more : (site n : ℕ) → sites_from site n ++ Site (site + n) ∷ [] ≡ sites_from site (suc n)
sites_more site zero = ap (λ (k : ℕ). Site k ∷ []) (omega arith)
sites_more site (suc n) =
    ap (λ (l : List Actor). Site site ∷ l) (ap (λ (k : ℕ). sites_from (suc site) n ++ Site k ∷ []) (let e : site + suc n ≡ suc site + n = omega arith in e)
    ∙ sites_more (suc site) n)

pub parts_more : (part n : ℕ) → parts_from part n ++ Partition (part + n) ∷ [] ≡ parts_from part (suc n)
parts_more part zero = ap (λ (k : ℕ). Partition k ∷ []) (omega arith)
parts_more part (suc n) =
    ap (λ (l : List Actor). Partition part ∷ l) (ap (λ (k : ℕ). parts_from (suc part) n ++ Partition k ∷ [])
    (let e : part + suc n ≡ suc part + n = omega arith in e) ∙ parts_more (suc part) n)

pub sites_at : (old held new : List Actor) (n : ℕ) → held ≡ old ++ sites_from 1 n → new ≡ held ++ Site (n + 1) ∷ [] → new ≡ old ++ sites_from 1 (n + 1)
sites_at old held new n h e =
    e ∙ (ap (λ (l : List Actor). l ++ Site (n + 1) ∷ []) h ∙ (append_assoc old (sites_from 1 n) (Site (n + 1) ∷ [])
    ∙ ap (λ (l : List Actor). old ++ l) (ap (λ (k : ℕ). sites_from 1 n ++ Site k ∷ []) (let f : n + 1 ≡ 1 + n = omega arith in f)
    ∙ (sites_more 1 n ∙ ap (λ (k : ℕ). sites_from 1 k) (let f : suc n ≡ n + 1 = omega arith in f)))))

pub parts_at : (old held new : List Actor) (n : ℕ) → held ≡ old ++ parts_from 0 n → new ≡ held ++ Partition n ∷ [] → new ≡ old ++ parts_from 0 (n + 1)
parts_at old held new n h e =
    e ∙ (ap (λ (l : List Actor). l ++ Partition n ∷ []) h ∙ (append_assoc old (parts_from 0 n) (Partition n ∷ [])
    ∙ ap (λ (l : List Actor). old ++ l) (ap (λ (k : ℕ). parts_from 0 n ++ Partition k ∷ []) (let f : n ≡ 0 + n = omega arith in f)
    ∙ (parts_more 0 n ∙ ap (λ (k : ℕ). parts_from 0 k) (let f : suc n ≡ n + 1 = omega arith in f)))))

pub ids_more : (id : ℕ) (items : List ℕ) (n : ℕ) → ids_from id (items ++ n ∷ []) ≡ ids_from id items ++ id_if n (id + length items)
ids_more id [] n = by (n == 0)
  where
    by : (b : Bool) → (if b then [] else id ∷ []) ≡ (if b then [] else (id + 0) ∷ [])
    by true = refl
    by false = ap (λ (k : ℕ). k ∷ []) (let e : id ≡ id + 0 = omega arith in e)
ids_more id (m ∷ items) n = by (m == 0) (ids_more (suc id) items n ∙ ap (λ (k : ℕ). ids_from (suc id) items ++ id_if n k) (omega arith))
  where
    by : (b : Bool) → ids_from (suc id) (items ++ n ∷ []) ≡ ids_from (suc id) items ++ id_if n (id + suc (length items))
        → (if b then ids_from (suc id) (items ++ n ∷ []) else id ∷ ids_from (suc id) (items ++ n ∷ []))
        ≡ (if b then ids_from (suc id) items else id ∷ ids_from (suc id) items) ++ id_if n (id + suc (length items))
    by true rest = rest
    by false rest = ap (λ (l : List ℕ). id ∷ l) rest

pub ids_at : (items ids more : List ℕ) (i item id : ℕ) → i < length items → item ≡ get_or items i 0 → id ≡ i + 1 → ids ≡ ids_from 1 (take i items)
    → more ≡ ids ++ id_if item id → more ≡ ids_from 1 (take (i + 1) items)
ids_at items ids more i item id l a e h m =
    let long : length (take i items) ≡ i = length-take-le i items (omega (arith, l)) in
    let k : id ≡ 1 + length (take i items) = omega (arith, e, long) in
    m ∙ (ap (λ (x : List ℕ). x ++ id_if item id) h ∙ (ap (λ (n : ℕ). ids_from 1 (take i items) ++ id_if n id) a
    ∙ (ap (λ (n : ℕ). ids_from 1 (take i items) ++ id_if (get_or items i 0) n) k
    ∙ (sym (ids_more 1 (take i items) (get_or items i 0)) ∙ ap (λ (x : List ℕ). ids_from 1 x) (sym (take_more items i 0 l))))))
