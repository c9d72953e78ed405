-- No actor stands twice among the actors of a chronicle.
use Rattle.std.proofs.Common.{◌≡◌, inl, inr, ⊎_elim, ℕ, zero, suc, ◌≤◌, ◌==◌, Bool, true, false, if◌then◌else◌, List, [], ◌∷◌, ◌++◌, refl, sym, ap, arith}
use Rattle.dm_chronicle.proofs.Lists.{in_append}
use Rattle.dm_chronicle.specs.Rule.{Apart, In}
use Rattle.dm_event.specs.declared.actor.Actor.{Actor}
use Rattle.dm_event.specs.declared.actor.Actor.TheVariants.{Partition, Session, Site}
use Rattle.dm_opening.specs.Dealing.{ids_from, parts_from, sessions_of, sites_from}

-- ---- what stands in each part

in_sites : (site n : ℕ) (x : Actor) → In x (sites_from site n) → (i : ℕ) × (x ≡ Site i) × (site ≤ i)
in_sites site zero x h = absurd h
in_sites site (suc n) x h = ⊎_elim (λ e. (site, sym e, (let r : site ≤ site = omega arith in r)))
    (λ t. let r = in_sites (suc site) n x t in let l = r.2 in (r.0, r.1, omega (arith, l))) h

in_parts : (part n : ℕ) (x : Actor) → In x (parts_from part n) → (i : ℕ) × (x ≡ Partition i) × (part ≤ i)
in_parts part zero x h = absurd h
in_parts part (suc n) x h = ⊎_elim (λ e. (part, sym e, (let r : part ≤ part = omega arith in r)))
    (λ t. let r = in_parts (suc part) n x t in let l = r.2 in (r.0, r.1, omega (arith, l))) h

in_sessions : (id : ℕ) (items : List ℕ) (x : Actor) → In x (sessions_of (ids_from id items)) → (i : ℕ) × (x ≡ Session i) × (id ≤ i)
in_sessions id [] x h = absurd h
in_sessions id (n ∷ items) x h = by (n == 0) h (λ t. in_sessions (suc id) items x t)
  where
    by : (b : Bool) → In x (sessions_of (if b then ids_from (suc id) items else id ∷ ids_from (suc id) items))
        → (In x (sessions_of (ids_from (suc id) items)) → (i : ℕ) × (x ≡ Session i) × (suc id ≤ i)) → (i : ℕ) × (x ≡ Session i) × (id ≤ i)
    by true k rest = let r = rest k in let l = r.2 in (r.0, r.1, omega (arith, l))
    by false k rest = ⊎_elim (λ e. (id, sym e, (let r : id ≤ id = omega arith in r))) (λ t. let r = rest t in let l = r.2 in (r.0, r.1, omega (arith, l))) k

-- ---- each part

abbrev number_of : Actor → ℕ
number_of (Site i) = i
number_of (Partition i) = i
number_of (Session i) = i

apart_sites : (site n : ℕ) → Apart (sites_from site n)
apart_sites site zero = tt
apart_sites site (suc n) = (
  λ h. (let r = in_sites (suc site) n (Site site) h in let e : site ≡ r.0 = ap number_of r.1 in let l = r.2 in absurd (omega (arith, e, l))),
  apart_sites (suc site) n,
)

apart_parts : (part n : ℕ) → Apart (parts_from part n)
apart_parts part zero = tt
apart_parts part (suc n) = (
  λ h. (let r = in_parts (suc part) n (Partition part) h in let e : part ≡ r.0 = ap number_of r.1 in let l = r.2 in absurd (omega (arith, e, l))),
  apart_parts (suc part) n,
)

apart_sessions : (id : ℕ) (items : List ℕ) → Apart (sessions_of (ids_from id items))
apart_sessions id [] = tt
apart_sessions id (n ∷ items) = by (n == 0) (apart_sessions (suc id) items)
  where
    by : (b : Bool) → Apart (sessions_of (ids_from (suc id) items)) → Apart (sessions_of (if b then ids_from (suc id) items else id ∷ ids_from (suc id) items))
    by true a = a
    by false a =
        (λ h. (let r = in_sessions (suc id) items (Session id) h in let e : id ≡ r.0 = ap number_of r.1 in let l = r.2 in absurd (omega (arith, e, l))), a)

-- ---- one behind the other

apart_both : (xs ys : List Actor) → Apart xs → Apart ys → ((x : Actor) → In x xs → In x ys → ⊥) → Apart (xs ++ ys)
apart_both [] ys a b n = b
apart_both (x ∷ xs) ys a b n =
    (λ h. ⊎_elim (λ l. a.0 l) (λ r. n x (inl refl) r) (in_append x xs ys h), apart_both xs ys a.1 b (λ y i j. n y (inr i) j))

pub all_apart : (sites parts : ℕ) (items : List ℕ) → Apart (sites_from 1 sites ++ (parts_from 0 parts ++ sessions_of (ids_from 1 items)))
all_apart sites parts items =
    apart_both (sites_from 1 sites) (parts_from 0 parts ++ sessions_of (ids_from 1 items)) (apart_sites 1 sites)
    (apart_both (parts_from 0 parts) (sessions_of (ids_from 1 items)) (apart_parts 0 parts) (apart_sessions 1 items)
    (λ x i j. (let r = in_parts 0 parts x i in let s = in_sessions 1 items x j in absurd (cc (r.1, s.1)))))
    (λ x i j. (let r = in_sites 1 sites x i in ⊎_elim
    (λ k. (let s = in_parts 0 parts x k in absurd (cc (r.1, s.1)))) (λ k. (let s = in_sessions 1 items x k in absurd (cc (r.1, s.1))))
    (in_append x (parts_from 0 parts) (sessions_of (ids_from 1 items)) j)))
