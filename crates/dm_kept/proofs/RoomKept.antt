-- A step for which there is room leaves room for what is under way, and can be installed.
use Rattle.std.proofs.Common.{ℕ, ◌+◌, ◌-◌, ◌≤◌, ◌≡◌, ◌==◌, Bool, true, false}
use Rattle.std.proofs.Common.{if◌then◌else◌, List, [], ◌∷◌, Option, Some, None, length}
use Rattle.std.proofs.Common.{refl, sym, ap, ◌∙◌, subst, arith}
use Rattle.std.proofs.lemmas.Bool.{and_parts, cond-true, cond-false, eq-eqb, eqb-true, eqb-false, false≢true, ne_eqb, leb-true}
use Rattle.std.proofs.lemmas.List.Sums.{sum_by-cons}
use Rattle.std.specs.List.{sum_by}
use Rattle.std.specs.Prelude.{nat_le, option_to_list, reverse, IfSome, IsTrue}
use Rattle.dm_event.specs.Layout.{Layout, is_site}
use Rattle.dm_event.specs.Vectors.{sites_to}
use Rattle.dm_event.specs.declared.step.Entry.{Entry}
use Rattle.dm_event.specs.declared.step.Found.TheVariants.{Clean, Kept, Lost}
use Rattle.dm_event.specs.declared.step.Pending.{Pending}
use Rattle.dm_event.specs.declared.step.Pending.TheVariants as pending
use Rattle.dm_event.specs.declared.step.Step.{Step}
use Rattle.dm_event.specs.declared.step.Step.TheVariants.{Begin, Commit, Restart}
use Rattle.dm_index.proofs.EntriesNext.{entry_next_one}
use Rattle.dm_index.specs.Places.{IsNext, Places}
use Rattle.dm_index.specs.Rooms.{room_at, takes, CanTake}
use Rattle.dm_kept.proofs.Installing.{known_pairs, rising_due}
use Rattle.dm_kept.proofs.RunsKnown.{KnowsBegun, running_known, doubted_known}
use Rattle.dm_kept.specs.Roomy.{all_to_come, HasBegin, HasRoom, KeepsRoom, KnowsKeys, KnowsPending, MayInstall}
use Rattle.dm_kept.specs.Ledger.{Ledger, past}
use Rattle.dm_model.proofs.Judged.{shape_of}
use Rattle.dm_model.proofs.LegalSteps.{legal_commit}
use Rattle.dm_model.specs.Allowed.{Allowed}
use Rattle.dm_model.specs.Attempts.{declared}
use Rattle.dm_model.specs.Doubts.{pending_at}
use Rattle.dm_model.specs.Legal.{LegalPast}
use Rattle.dm_model.specs.Runs.{runs}
use Rattle.dm_plain.proofs.Written.{IsSmall, Small, commit_small, pending_small, written_declared}
use Rattle.dm_room.proofs.Installing.{installs_next}
use Rattle.dm_room.proofs.Needs.{need_is}
use Rattle.dm_room.proofs.Sums.{two_sums, flat_sum, one_sum}
use Rattle.dm_room.specs.Installs.{installs_to_come, begins_at}
use Rattle.dm_room.specs.Room.{kept, need}
use Rattle.dm_steps.specs.Adding.{of_origin}
use Rattle.dm_steps.specs.Pendings.{kept_of, entry_by}
use Rattle.dm_store.specs.Contents.{Contents}
use Rattle.dm_store.specs.Histories.{committed}
use Rattle.dm_store.specs.Rising.{is_above}
use Rattle.dm_store.specs.declared.past.Past.{Past}

-- ---- sums over the sites

pub sum_at_most : (f g : ℕ → ℕ) (xs : List ℕ) → ((k : ℕ) → f k ≤ g k) → sum_by f xs ≤ sum_by g xs
sum_at_most f g [] h = omega arith
sum_at_most f g (x ∷ xs) h =
    let p = sum_by-cons f x xs in
    let q = sum_by-cons g x xs in
    let a = h x in
    let r = sum_at_most f g xs h in
    omega (arith, p, q, a, r)

-- of those of one site there is one
pub one_site : (layout : Layout) (c : ℕ) → is_site layout c ≡ true → sum_by (λ k. if c == k then 1 else 0) (sites_to layout.sites) ≡ 1
one_site layout c h =
    let r = and_parts (nat_le 1 c) (nat_le c layout.sites) h in
    let low = leb-true 1 c r.0 in
    let high = leb-true c layout.sites r.1 in
    let s = one_sum (λ k. 0) (λ k. if c == k then 1 else 0) c 1 layout.sites low (omega (arith, high))
    (λ k n. cond-false (c == k) 1 0 (ne_eqb c k (λ e. n (sym e)))) in
    let none = flat_sum 0 1 layout.sites in
    let own : ◌≡◌ {A = ℕ} (if c == c then 1 else 0) 1 = cond-true (c == c) 1 0 (eq-eqb c c refl) in
    omega (arith, s, none, own)

pub no_site : (n : ℕ) → sum_by (λ k. 0) (sites_to n) ≡ 0
no_site n = let none = flat_sum 0 1 n in omega (arith, none)

least_is : (layout : Layout) (c : ℕ) → is_site layout c ≡ true → 1 ≤ c
least_is layout c h = leb-true 1 c (and_parts (nat_le 1 c) (nat_le c layout.sites) h).0

-- a place of the entry is one of its origin
takes_own : (site : ℕ) (o : Option Entry) → 1 ≤ site → IfSome o (λ e. 1 ≤ e.origin) → takes (site - 1) o ≡ of_origin site o
takes_own site None l h = refl
takes_own site (Some e) l h = by_test (e.origin == site) refl
  where
    by_test : (b : Bool) → (e.origin == site) ≡ b → ◌≡◌ {A = ℕ} (if (site - 1) == (e.origin - 1) then 1 else 0) (if b then 1 else 0)
    by_test true f = let same = eqb-true e.origin site f in cond-true _ 1 0 (eq-eqb (site - 1) (e.origin - 1) (omega (arith, same)))
    by_test false f =
        let other = eqb-false e.origin site f in cond-false _ 1 0 (ne_eqb (site - 1) (e.origin - 1) (λ q. other (omega (arith, q, l, h))))

-- ---- one step more

-- what is seen after the step, and what is seen before it
pub record Pushed (before after : Ledger) (s : Step) : Type 0 where
  pub layout : after.layout ≡ before.layout
  pub items : after.items ≡ before.items
  pub steps : past after ≡ s ∷ past before
  pub room : before.room ≤ after.room + 1
  pub places : (i : ℕ) → room_at before.places i ≤ room_at after.places i + takes i (entry_by s (kept_of s (past before)))
  pub installs : after.installs + length (option_to_list (entry_by s (kept_of s (past before)))) ≡ before.installs
  pub known : after.known ≡ before.known

module _ (k : Ledger) (legal : LegalPast k.layout (past k)) (keeps : KeepsRoom k) (s : Step) (allowed : Allowed k.layout (past k) s) where
  abbrev p : List Step
  p = past k

  abbrev added : Option Entry
  added = entry_by s (kept_of s p)

  next : IfSome added (IsNext k.layout p)
  next = entry_next_one k.layout p legal s allowed

  come : (site : ℕ) → installs_to_come site (s ∷ p) + of_origin site added ≤ installs_to_come site p + begins_at site s
  come site = installs_next k.layout p legal site s allowed

  origin_one : (o : Option Entry) → IfSome o (IsNext k.layout p) → IfSome o (λ e. 1 ≤ e.origin)
  origin_one None h = tt
  origin_one (Some e) h = least_is k.layout e.origin h.origin

  added_at : (o : Option Entry) → IfSome o (IsNext k.layout p) → sum_by (λ site. of_origin site o) (sites_to k.layout.sites) ≡ length (option_to_list o)
  added_at None h = no_site k.layout.sites
  added_at (Some e) h = one_site k.layout e.origin h.origin

  -- ---- what it needs

  begun_place : HasBegin k s → (site : ℕ) → is_site k.layout site ≡ true → installs_to_come site p + begins_at site s ≤ room_at k.places (site - 1)
  begun_place has site here = by_step s has
    where
      by_step : (s : Step) → HasBegin k s → installs_to_come site p + begins_at site s ≤ room_at k.places (site - 1)
      by_step (Begin at txn begin) b = by_test (at == site) refl
        where
          by_test : (x : Bool) → (at == site) ≡ x → installs_to_come site p + (if x then 1 else 0) ≤ room_at k.places (site - 1)
          by_test true e = subst (λ (i : ℕ). installs_to_come i p + 1 ≤ room_at k.places (i - 1)) (eqb-true at site e) b.place
          by_test false e = let l = keeps.places site here in omega (arith, l)
      by_step other b = let l = keeps.places site here in omega (arith, l)

  begun_install : HasBegin k s → all_to_come k.layout p + sum_by (λ site. begins_at site s) (sites_to k.layout.sites) ≤ k.installs
  begun_install has = by_step s allowed has
    where
      by_step : (s : Step) → Allowed k.layout p s → HasBegin k s
          → all_to_come k.layout p + sum_by (λ site. begins_at site s) (sites_to k.layout.sites) ≤ k.installs
      by_step (Begin at txn begin) a b =
          let one = one_site k.layout at (and_parts (is_site k.layout at) _ (shape_of k.layout p (Begin at txn begin) a)).0 in
          let l = b.install in
          omega (arith, one, l)
      by_step other a b = let none = no_site k.layout.sites in let l = keeps.installs in omega (arith, none, l)

  begun_known : (s : Step) → HasBegin k s → KnowsBegun k.layout p legal k.known keeps.running s
  begun_known (Begin at txn begin) b = b.known
  begun_known other b = tt

  -- ---- what is left

  pub room_next : HasRoom k s → (after : Ledger) → Pushed k after s → KeepsRoom after
  room_next has after pushed = record {
    steps = subst (λ (n : ℕ). n ≤ after.room) (sym (now kept)) fewer;
    places = λ site here. left_place site (subst (λ (l : Layout). is_site l site ≡ true) pushed.layout here);
    installs = subst (λ (n : ℕ). n ≤ after.installs) (sym (λ i. all_to_come (pushed.layout i) (pushed.steps i))) left_install;
    running = λ site txn r. subst (λ (ks : List ℕ). KnowsKeys ks (declared txn (past after))) (sym pushed.known)
        (subst (λ (q : List Step). KnowsKeys k.known (declared txn q)) (sym pushed.steps)
        (running_known k.layout p legal k.known keeps.running s allowed (begun_known s has.begin) site txn
        (subst (λ (q : List Step). runs site txn q ≡ true) pushed.steps r)));
    doubted = λ site. subst (λ (ks : List ℕ). IfSome (pending_at site (past after)) (KnowsPending ks)) (sym pushed.known)
        (subst (λ (q : List Step). IfSome (pending_at site q) (KnowsPending k.known)) (sym pushed.steps)
        (doubted_known k.layout p legal k.known keeps.running keeps.doubted s allowed site));
  }
    where
      now : (f : Layout → List ℕ → List Step → ℕ) → f after.layout after.items (past after) ≡ f k.layout k.items (s ∷ p)
      now f = λ i. f (pushed.layout i) (pushed.items i) (pushed.steps i)

      fewer : kept k.layout k.items (s ∷ p) ≤ after.room
      fewer = let l = has.steps in let r = pushed.room in omega (arith, l, r)

      left_place : (site : ℕ) → is_site k.layout site ≡ true → installs_to_come site (past after) ≤ room_at after.places (site - 1)
      left_place site here =
          let c = come site in
          let b = begun_place has.begin site here in
          let t = takes_own site added (least_is k.layout site here) (origin_one added next) in
          let r = pushed.places (site - 1) in
          let same : installs_to_come site (past after) ≡ installs_to_come site (s ∷ p) = ap (λ (q : List Step). installs_to_come site q) pushed.steps in
          omega (arith, c, b, t, r, same)

      left_install : all_to_come k.layout (s ∷ p) ≤ after.installs
      left_install =
          let sites = sites_to k.layout.sites in
          let l = sum_at_most (λ site. installs_to_come site (s ∷ p) + of_origin site added) (λ site. installs_to_come site p + begins_at site s) sites come in
          let a = two_sums (λ site. installs_to_come site (s ∷ p) + of_origin site added) (λ site. installs_to_come site (s ∷ p))
          (λ site. of_origin site added) sites (λ site. refl) in
          let b = two_sums (λ site. installs_to_come site p + begins_at site s) (λ site. installs_to_come site p) (λ site. begins_at site s) sites
          (λ site. refl) in
          let one = added_at added next in
          let room = begun_install has.begin in
          let spare = pushed.installs in
          omega (arith, l, a, b, one, room, spare)

  -- ---- what it installs

  -- an install that a step brings was to come
  was_to_come : (e : Entry) → added ≡ Some e → ((site : ℕ) → begins_at site s ≡ 0) → 1 ≤ installs_to_come e.origin p
  was_to_come e f none =
      let c = come e.origin in
      let z = none e.origin in
      let one : of_origin e.origin added ≡ 1 = ap (λ (o : Option Entry). of_origin e.origin o) f
      ∙ cond-true (e.origin == e.origin) 1 0 (eq-eqb e.origin e.origin refl) in
      omega (arith, c, z, one)

  -- one term of a sum is no more than it
  term_in : (f : ℕ → ℕ) (c : ℕ) → is_site k.layout c ≡ true → f c ≤ sum_by f (sites_to k.layout.sites)
  term_in f c h =
      let r = and_parts (nat_le 1 c) (nat_le c k.layout.sites) h in
      let low = leb-true 1 c r.0 in
      let high = leb-true c k.layout.sites r.1 in
      let s = one_sum f (λ j. if c == j then 0 else f j) c 1 k.layout.sites low (omega (arith, high))
      (λ j n. cond-false (c == j) 0 (f j) (ne_eqb c j (λ e. n (sym e)))) in
      let own : (if c == c then 0 else f c) ≡ 0 = cond-true (c == c) 0 (f c) (eq-eqb c c refl) in
      omega (arith, s, own)

  place_for : (e : Entry) → IsNext k.layout p e → 1 ≤ installs_to_come e.origin p → (q : Places) → q.rooms ≡ k.places → length q.entries ≡ k.layout.sites
      → CanTake q e
  place_for e n l q rooms long =
      let r = and_parts (nat_le 1 e.origin) (nat_le e.origin k.layout.sites) n.origin in
      let most = leb-true e.origin k.layout.sites r.1 in
      let room = keeps.places e.origin n.origin in
      record {
        one = leb-true 1 e.origin r.0;
        inside = omega (arith, most, long);
        room = subst (λ (rs : List ℕ). 1 ≤ room_at rs (e.origin - 1)) (sym rooms) (omega (arith, room, l));
      }

  install_for : (e : Entry) → IsNext k.layout p e → 1 ≤ installs_to_come e.origin p → Small e → KnowsPending k.known (pending.Commit e)
      → (store : Contents) → store.known ≡ k.known → store.spare ≡ k.installs → store.installed ≡ committed k.steps → MayInstall store e
  install_for e n l small known store ks spare installed =
      let term = term_in (λ site. installs_to_come site p) e.origin n.origin in
      let all = keeps.installs in
      record {
        few = small.few;
        ascends = small.ascends;
        known = subst (λ (x : List ℕ). KnowsPending x (pending.Commit e)) (sym ks) known;
        room = omega (arith, term, all, l, spare);
        rising = subst (λ (x : List Past). IsTrue (is_above x e.origin e.seq)) (sym installed) (rising_due k.layout k.steps legal e n.due);
      }

-- what a step adds can be installed and placed
pub record Fits (k : Ledger) (store : Contents) (q : Places) (o : Option Entry) : Type 0 where
  pub install : IfSome o (MayInstall store)
  pub place : IfSome o (CanTake q)

pub fits : (k : Ledger) (legal : LegalPast k.layout (past k)) (keeps : KeepsRoom k) (s : Step) (allowed : Allowed k.layout (past k) s)
    (store : Contents) (q : Places) → store.known ≡ k.known → store.spare ≡ k.installs → store.installed ≡ committed k.steps
    → q.rooms ≡ k.places → length q.entries ≡ k.layout.sites → Fits k store q (entry_by s (kept_of s (past k)))
fits k legal keeps (Commit e) a store q ks spare installed rooms long =
    let n = entry_next_one k.layout (past k) legal (Commit e) a in
    let l = was_to_come k legal keeps (Commit e) a e refl (λ site. refl) in
    let c = legal_commit k.layout (past k) e a in
    record {
      install = install_for k legal keeps (Commit e) a e n l (commit_small k.layout (past k) legal e a)
          (known_pairs k.known e.writes (λ key m. keeps.running e.origin e.txn c.runs key (written_declared k.layout (past k) legal e c key m)))
          store ks spare installed;
      place = place_for k legal keeps (Commit e) a e n l q rooms long;
    }
fits k legal keeps (Restart site vector Kept) a store q ks spare installed rooms long =
    by_pending (pending_at site (past k)) refl (pending_small k.layout (past k) legal site) (keeps.doubted site)
    (entry_next_one k.layout (past k) legal (Restart site vector Kept) a)
  where
    by_pending : (o : Option Pending) → pending_at site (past k) ≡ o → IfSome o IsSmall → IfSome o (KnowsPending k.known)
        → IfSome (entry_by (Restart site vector Kept) o) (IsNext k.layout (past k)) → Fits k store q (entry_by (Restart site vector Kept) o)
    by_pending None f small known n = record { install = tt; place = tt }
    by_pending (Some (pending.Release part epoch to v)) f small known n = record { install = tt; place = tt }
    by_pending (Some (pending.Grant part epoch v)) f small known n = record { install = tt; place = tt }
    by_pending (Some (pending.Commit e)) f small known n =
        let l = was_to_come k legal keeps (Restart site vector Kept) a e (ap (λ (o : Option Pending). entry_by (Restart site vector Kept) o) f) (λ i. refl) in
        record {
          install = install_for k legal keeps (Restart site vector Kept) a e n l small known store ks spare installed;
          place = place_for k legal keeps (Restart site vector Kept) a e n l q rooms long;
        }
fits k legal keeps (Restart site vector Clean) a store q ks spare installed rooms long = record { install = tt; place = tt }
fits k legal keeps (Restart site vector Lost) a store q ks spare installed rooms long = record { install = tt; place = tt }
fits k legal keeps other a store q ks spare installed rooms long = record { install = tt; place = tt }

-- ---- no steps

-- where there are no steps, nothing is under way
pub room_opening : (k : Ledger) → k.steps ≡ [] → kept k.layout k.items [] ≤ k.room → KeepsRoom k
room_opening k e l = record {
  steps = subst (λ (steps : List Step). kept k.layout k.items (reverse steps) ≤ k.room) (sym e) l;
  places = λ site here. subst (λ (steps : List Step). installs_to_come site (reverse steps) ≤ room_at k.places (site - 1)) (sym e) (omega arith);
  installs = subst (λ (steps : List Step). all_to_come k.layout (reverse steps) ≤ k.installs) (sym e)
      (let none = no_site k.layout.sites in omega (arith, none));
  running = λ site txn r. absurd (false≢true (subst (λ (steps : List Step). runs site txn (reverse steps) ≡ true) e r));
  doubted = λ site. subst (λ (steps : List Step). IfSome (pending_at site (reverse steps)) (KnowsPending k.known)) (sym e) tt;
}

-- a step that needs none has what is kept for it
pub has_room : (k : Ledger) → KeepsRoom k → (s : Step) → LegalPast k.layout (s ∷ past k) → need k.layout k.items (past k) s ≡ 0 → HasRoom k s
has_room k keeps s h none = record { steps = (let l = keeps.steps in omega (arith, l, none)); begin = by_step s h none }
  where
    by_step : (t : Step) → LegalPast k.layout (t ∷ past k) → need k.layout k.items (past k) t ≡ 0 → HasBegin k t
    by_step (Begin site txn begin) g n = absurd (let e = need_is k.layout k.items (past k) (Begin site txn begin) g in omega (arith, e, n))
    by_step other g n = tt
