-- The passes of all actors, cut into those of the sites, the partitions and the sessions.
use Rattle.std.proofs.Common.{◌≡◌, ℕ, zero, suc, ◌+◌, ◌≤◌, ◌<◌, List, [], ◌∷◌, ◌++◌, length, map, Some, take, drop, refl, sym, ap, ◌∙◌, subst, arith}
use Rattle.std.proofs.lemmas.List.{append_assoc, length-append, map-append}
use Rattle.atomic_table.specs.Seated.{TableId}
use Rattle.dm_chronicle.specs.Standing.{starts}
use Rattle.dm_core.specs.Lawful.{Terms}
use Rattle.dm_event.specs.Layout.{Layout}
use Rattle.dm_event.specs.declared.actor.Actor.{Actor}
use Rattle.dm_event.specs.declared.step.Step.{Step}
use Rattle.dm_invariant.specs.Stations.{View}
use Rattle.dm_chronicle.specs.Rule.{Apart}
use Rattle.dm_opening.proofs.Distinct.{all_apart}
use Rattle.dm_opening.specs.Dealing.{ids_from, parts_from, sessions_of, sites_from}

pub length_sites : (site n : ℕ) → length (sites_from site n) ≡ n
length_sites site zero = refl
length_sites site (suc n) = ap (λ (k : ℕ). suc k) (length_sites (suc site) n)

pub length_parts : (part n : ℕ) → length (parts_from part n) ≡ n
length_parts part zero = refl
length_parts part (suc n) = ap (λ (k : ℕ). suc k) (length_parts (suc part) n)

module _ {X : Type 0} where
  take_front : (xs ys : List X) (n : ℕ) → n ≡ length xs → take n (xs ++ ys) ≡ xs
  take_front xs ys n e = ap (λ (k : ℕ). take k (xs ++ ys)) e ∙ by xs
    where
      by : (xs : List X) → take (length xs) (xs ++ ys) ≡ xs
      by [] = refl
      by (x ∷ xs) = ap (λ (l : List X). x ∷ l) (by xs)

  drop_front : (xs ys : List X) (n : ℕ) → n ≡ length xs → drop n (xs ++ ys) ≡ ys
  drop_front xs ys n e = ap (λ (k : ℕ). drop k (xs ++ ys)) e ∙ by xs
    where
      by : (xs : List X) → drop (length xs) (xs ++ ys) ≡ ys
      by [] = refl
      by (x ∷ xs) = by xs

-- so many of the first, so many of the second, and the third
pub record Cut {X : Type 0} (as' bs cs all : List X) (a b : ℕ) : Type 0 where
  pub last : drop (a + b) all ≡ cs
  pub middle : drop a (take (a + b) all) ≡ bs
  pub first : take a (take (a + b) all) ≡ as'

pub cut : {X : Type 0} (as' bs cs all : List X) (a b : ℕ) → a ≡ length as' → b ≡ length bs → all ≡ as' ++ (bs ++ cs) → Cut as' bs cs all a b
cut as' bs cs all a b ea eb e =
    let whole : all ≡ (as' ++ bs) ++ cs = e ∙ sym (append_assoc as' bs cs) in
    let long : a + b ≡ length (as' ++ bs) = (let l = length-append as' bs in omega (arith, l, ea, eb)) in
    let front : take (a + b) all ≡ as' ++ bs = ap (λ (l : List _). take (a + b) l) whole ∙ take_front (as' ++ bs) cs (a + b) long in
    record {
      last = ap (λ (l : List _). drop (a + b) l) whole ∙ drop_front (as' ++ bs) cs (a + b) long;
      middle = ap (λ (l : List _). drop a l) front ∙ drop_front as' bs a ea;
      first = ap (λ (l : List _). take a l) front ∙ take_front as' bs a ea;
    }

-- ---- the actors that a chronicle is opened with

-- the actors as they are given, for so many sites and partitions and these sessions
pub record Given (sites parts : ℕ) (items ids : List ℕ) (given : List Actor) : Type 0 where
  pub ids_are : ids ≡ ids_from 1 items
  pub actors_are : given ≡ sites_from 1 sites ++ (parts_from 0 parts ++ sessions_of ids)

pub given_so : (sites parts : ℕ) (items ids these : List ℕ) (held given : List Actor) → ids ≡ ids_from 1 items → these ≡ ids
    → held ≡ sites_from 1 sites ++ (parts_from 0 parts ++ sessions_of these) → given ≡ held → Given sites parts items ids given
given_so sites parts items ids these held given i t h g = record {
  ids_are = i;
  actors_are = g ∙ (h ∙ ap (λ (l : List ℕ). sites_from 1 sites ++ (parts_from 0 parts ++ sessions_of l)) t);
}

pub given_apart : (sites parts : ℕ) (items ids : List ℕ) (given : List Actor) → Given sites parts items ids given → Apart given
given_apart sites parts items ids given g =
    subst (λ (l : List Actor). Apart l)
    (sym (g.actors_are ∙ ap (λ (l : List ℕ). sites_from 1 sites ++ (parts_from 0 parts ++ sessions_of l)) g.ids_are)) (all_apart sites parts items)

length_given : (sites parts : ℕ) (items ids : List ℕ) (given : List Actor) → Given sites parts items ids given
    → length given ≡ sites + (parts + length (sessions_of ids))
length_given sites parts items ids given g =
    ap (λ (l : List Actor). length l) g.actors_are ∙ (length-append (sites_from 1 sites) (parts_from 0 parts ++ sessions_of ids)
    ∙ (ap (λ (n : ℕ). n + length (parts_from 0 parts ++ sessions_of ids)) (length_sites 1 sites)
    ∙ ap (λ (n : ℕ). sites + n) (length-append (parts_from 0 parts) (sessions_of ids) ∙ ap (λ (n : ℕ). n + length (sessions_of ids)) (length_parts 0 parts))))

pub given_some : (sites parts : ℕ) (items ids : List ℕ) (given : List Actor) → Given sites parts items ids given → 1 ≤ sites → 0 < length given
given_some sites parts items ids given g s = let l = length_given sites parts items ids given g in omega (arith, l, s)

length_mapped : {X : Type 0} (f : Actor → X) (xs : List Actor) → length (map f xs) ≡ length xs
length_mapped f [] = refl
length_mapped f (x ∷ xs) = ap (λ (n : ℕ). suc n) (length_mapped f xs)

module _ {X : Type 0} (f : Actor → X) (sites parts : ℕ) (items ids : List ℕ) (given : List Actor) (g : Given sites parts items ids given) where
  pub given_long : (all : List X) → all ≡ map f given → sites + parts ≤ length all
  given_long all e =
      let l = length_given sites parts items ids given g in
      let m : length all ≡ length given = ap (λ (xs : List X). length xs) e ∙ length_mapped f given in
      omega (arith, l, m)

  pub given_cut : (all : List X) → all ≡ map f given
      → Cut (map f (sites_from 1 sites)) (map f (parts_from 0 parts)) (map f (sessions_of ids)) all sites parts
  given_cut all e =
      cut (map f (sites_from 1 sites)) (map f (parts_from 0 parts)) (map f (sessions_of ids)) all sites parts
      (sym (length_mapped f (sites_from 1 sites) ∙ length_sites 1 sites)) (sym (length_mapped f (parts_from 0 parts) ∙ length_parts 0 parts))
      (e ∙ (ap (λ (l : List Actor). map f l) g.actors_are ∙ (map-append f (sites_from 1 sites) (parts_from 0 parts ++ sessions_of ids)
      ∙ ap (λ (l : List X). map f (sites_from 1 sites) ++ l) (map-append f (parts_from 0 parts) (sessions_of ids)))))

-- what each part is dealt
pub record Shares (table : TableId) (terms : Terms) (ids : List ℕ) (sites parts sessions : List View) : Type 0 where
  pub ids_are : ids ≡ ids_from 1 terms.items
  pub sites_are : sites ≡ starts table terms [] (sites_from 1 terms.layout.sites)
  pub parts_are : parts ≡ starts table terms [] (parts_from 0 (length terms.layout.masters))
  pub sessions_are : sessions ≡ starts table terms [] (sessions_of ids)

pub shared_out : (table : TableId) (terms kept : Terms) (layout : Layout) (items ids : List ℕ) (steps : List Step) (given : List Actor) (a b : ℕ)
    (passes firsts sites parts sessions : List View) → Given layout.sites (length layout.masters) items ids given → a ≡ layout.sites
    → b ≡ length layout.masters → terms ≡ kept → kept.layout ≡ layout → kept.items ≡ items → steps ≡ [] → passes ≡ starts table kept steps given
    → firsts ≡ take (a + b) passes → sessions ≡ drop (a + b) passes → sites ≡ take a firsts → parts ≡ drop a firsts
    → Shares table terms ids sites parts sessions
shared_out table terms kept layout items ids steps given a b passes firsts sites parts sessions g ea eb t kl ki s p f se si pa =
    subst (λ (x : Terms). Shares table x ids sites parts sessions) (sym t) (record {
      ids_are = g.ids_are ∙ ap (λ (l : List ℕ). ids_from 1 l) (sym ki);
      sites_are = si ∙ (ap (λ (l : List View). take a l) f ∙ (c.first ∙ ap (λ (l : Layout). starts table kept [] (sites_from 1 l.sites)) (sym kl)));
      parts_are = pa ∙ (ap (λ (l : List View). drop a l) f
          ∙ (c.middle ∙ ap (λ (l : Layout). starts table kept [] (parts_from 0 (length l.masters))) (sym kl)));
      sessions_are = se ∙ c.last;
    })
  where
    view : Actor → View
    view x = record { table = table; fixed = Some kept; actors = x ∷ []; seen = [] }

    all : passes ≡ map view given
    all = p ∙ ap (λ (l : List Step). starts table kept l given) s

    here : Cut (map view (sites_from 1 layout.sites)) (map view (parts_from 0 (length layout.masters))) (map view (sessions_of ids)) passes layout.sites
        (length layout.masters)
    here = given_cut view layout.sites (length layout.masters) items ids given g passes all

    c : Cut (map view (sites_from 1 layout.sites)) (map view (parts_from 0 (length layout.masters))) (map view (sessions_of ids)) passes a b
    c = subst (λ (n : ℕ). Cut (map view (sites_from 1 layout.sites)) (map view (parts_from 0 (length layout.masters))) (map view (sessions_of ids)) passes n b)
        (sym ea) (subst (λ (n : ℕ). Cut (map view (sites_from 1 layout.sites)) (map view (parts_from 0 (length layout.masters)))
        (map view (sessions_of ids)) passes layout.sites n) (sym eb) here)
