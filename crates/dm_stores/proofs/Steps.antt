-- What each step leaves in a site's store.
use Rattle.std.proofs.Common.{ℕ, ◌+◌, ◌≤◌, ◌≡◌, Bool, true, false, ◌==◌, nat_lt, nat_le, ◌&&◌, cond, List, [], ◌∷◌, ◌++◌, Some, refl, sym, ap, subst}
use Rattle.std.proofs.Common.{arith, inl, inr}
use Rattle.std.proofs.lemmas.Bool.{cases_eq, eqb-true, false≢true, le-leb, lt-ltb}
use Rattle.std.specs.List.{AllByRecursion as Each}
use Rattle.dm_event.specs.Layout.{Layout}
use Rattle.dm_event.specs.Vectors.{at}
use Rattle.dm_event.specs.declared.step.Entry.{Entry}
use Rattle.dm_event.specs.declared.step.Step.{Step}
use Rattle.dm_event.specs.declared.step.Step.TheVariants.{Commit, Refresh, Restart}
use Rattle.dm_model.proofs.ListFacts.{each_map}
use Rattle.dm_model.proofs.MastershipSound.{ordered_past}
use Rattle.dm_model.proofs.Numbering.{closed_vector, count_at, within_count}
use Rattle.dm_model.proofs.NumbersSound.{sound_past}
use Rattle.dm_model.specs.Acts.{entries}
use Rattle.dm_model.specs.Allowed.{Allowed, next_entry}
use Rattle.dm_model.specs.Closed.{is_inside}
use Rattle.dm_model.specs.Legal.{LegalPast}
use Rattle.dm_model.specs.Progress.{reached, site_vector}
use Rattle.dm_store.specs.Histories.{past_of}
use Rattle.dm_store.specs.Rising.{is_above}
use Rattle.dm_store.specs.declared.past.Past.{Past}
use Rattle.dm_stores.proofs.Inside.{has_next, has_own, same_le, Next}
use Rattle.dm_stores.proofs.Vectors.{refreshes, commits}
use Rattle.dm_stores.specs.Stores.{Stores, is_still}

pub stores_empty : (layout : Layout) (site : ℕ) → Stores layout [] site []
stores_empty layout site = record { has = λ key. refl; within = tt }

pub stores_still : (layout : Layout) (past : List Step) (x : Step) (i : ℕ) (ins : List Past) → is_still x ≡ true → Stores layout past i ins
    → Stores layout (x ∷ past) i ins
stores_still layout past (Commit e) i ins h k = absurd (false≢true h)
stores_still layout past (Refresh j o) i ins h k = absurd (false≢true h)
stores_still layout past (Restart j v found) i ins h k = absurd (false≢true h)
stores_still layout past x i ins h k = record { has = k.has; within = k.within }

each_end : {X : Type 0} (P : X → Type 0) (xs : List X) (x : X) → Each P xs → P x → Each P (xs ++ x ∷ [])
each_end P [] x h p = (p, tt)
each_end P (y ∷ ys) x h p = (h.0, each_end P ys x h.1 p)

-- the vector rises to an entry that is installed
within_next : (o : ℕ) (u v : List ℕ) (e : Entry) (ins : List Past) → Next o u v → e.origin ≡ o → e.seq ≡ at v o + 1 → Each (λ t. t.seq ≤ at v t.origin) ins
    → Each (λ t. t.seq ≤ at u t.origin) (ins ++ past_of e ∷ [])
within_next o u v e ins next p q within =
    each_end (λ t. t.seq ≤ at u t.origin) ins (past_of e)
    (each_map (λ t. t.seq ≤ at v t.origin) (λ t. t.seq ≤ at u t.origin)
    (λ t le. elim (cases_eq t.origin o) [
      | inl r ↦ (let a = ap (λ (j : ℕ). at u j) r in let b = ap (λ (j : ℕ). at v j) r in let c = next.up in omega (arith, a, b, c, le))
      | inr n ↦ (let a = next.same t.origin n in omega (arith, a, le))
    ]) ins within)
    (let a = ap (λ (j : ℕ). at u j) p in let b = next.up in omega (arith, a, b, q))

-- ---- the next entry of another origin

pub stores_refresh : (layout : Layout) (past : List Step) (i o : ℕ) (e : Entry) (ins : List Past) → LegalPast layout (Refresh i o ∷ past)
    → next_entry layout past i o ≡ Some e → Stores layout past i ins → Stores layout (Refresh i o ∷ past) i (ins ++ past_of e ∷ [])
stores_refresh layout past i o e ins l f k =
    let s = sound_past layout past l.0 in
    let r = refreshes layout past i o e l.0 l.1 f in
    let u = site_vector layout.sites (Refresh i o ∷ past) i in
    let v = site_vector layout.sites past i in
    record {
      has = has_next o u v r.next e (entries past) ins r.own f s.numbered (ordered_past layout past l.0)
          (closed_vector layout.sites (entries past) (λ j. reached i j past) s.sized (s.closed i)).begun k.has;
      within = within_next o u v e ins r.next r.origin r.seq k.within;
    }

-- ---- the site's own next entry

pub stores_commit : (layout : Layout) (past : List Step) (i : ℕ) (e : Entry) (ins : List Past) → LegalPast layout (Commit e ∷ past) → e.origin ≡ i
    → Stores layout past i ins → Stores layout (Commit e ∷ past) i (ins ++ past_of e ∷ [])
stores_commit layout past i e ins l o k =
    let s = sound_past layout past l.0 in
    let c = commits layout past i e l.1 o in
    let u = site_vector layout.sites (Commit e ∷ past) i in
    let v = site_vector layout.sites past i in
    let up = c.next.up in
    let last = c.last in
    record {
      has = has_own u v e (entries past) ins
          (let a = ap (λ (j : ℕ). at u j) o in let q = c.seq in le-leb e.seq (at u e.origin) (omega (arith, a, q, up)))
          (each_map (λ d. d.seq ≤ count_at d.origin (entries past)) (λ d. is_inside u d ≡ is_inside v d)
          (λ d w. elim (cases_eq d.origin i) [
            | inl p ↦ (let x = ap (λ (j : ℕ). at u j) p in let y = ap (λ (j : ℕ). at v j) p in let z = ap (λ (j : ℕ). count_at j (entries past)) p in
                same_le d.seq (at u d.origin) (at v d.origin) (λ le. omega (arith, w, y, z, last)) (λ le. omega (arith, x, y, up, le)))
            | inr n ↦ ap (λ (m : ℕ). nat_le d.seq m) (c.next.same d.origin n)
          ]) (entries past) (within_count (entries past) s.numbered)) k.has;
      within = within_next i u v e ins c.next o c.seq k.within;
    }

-- ---- each comes behind all that are installed

-- the next number is above those of all installed
above_next : (o n : ℕ) (v : List ℕ) (ins : List Past) → n ≡ at v o + 1 → Each (λ t. t.seq ≤ at v t.origin) ins → is_above ins o n ≡ true
above_next o n v [] q h = refl
above_next o n v (t ∷ ts) q h = rw (above_next o n v ts q h.1) (by (t.origin == o) refl)
  where
    by : (b : Bool) → (t.origin == o) ≡ b → (cond b (nat_lt t.seq n) true && true) ≡ true
    by false e = refl
    by true e = (let a = ap (λ (j : ℕ). at v j) (eqb-true t.origin o e) in let le = h.0 in rw (lt-ltb t.seq n (omega (arith, a, le, q))) refl)

pub rising : (layout : Layout) (past : List Step) (i o : ℕ) (e : Entry) (ins : List Past) → LegalPast layout past → Allowed layout past (Refresh i o)
    → next_entry layout past i o ≡ Some e → Stores layout past i ins → is_above ins e.origin e.seq ≡ true
rising layout past i o e ins l h f k =
    let r = refreshes layout past i o e l h f in
    subst (λ (j : ℕ). is_above ins j e.seq ≡ true) (sym r.origin) (above_next o e.seq (site_vector layout.sites past i) ins r.seq k.within)

pub rising_commit : (layout : Layout) (past : List Step) (i : ℕ) (e : Entry) (ins : List Past) → Allowed layout past (Commit e) → e.origin ≡ i
    → Stores layout past i ins → is_above ins e.origin e.seq ≡ true
rising_commit layout past i e ins h o k =
    subst (λ (j : ℕ). is_above ins j e.seq ≡ true) (sym o)
    (above_next i e.seq (site_vector layout.sites past i) ins (commits layout past i e h o).seq k.within)
