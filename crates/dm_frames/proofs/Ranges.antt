-- The numbers of a legal history's records are in range: a layout's limits bound its sites, partitions and keys, and what is allowed has its shape.
use Rattle.std.proofs.Common.{ℕ, ◌+◌, ◌<◌, ◌≤◌, ◌≡◌, Bool, true, false, ◌==◌, nat_le, nat_lt}
use Rattle.std.proofs.Common.{if◌then◌else◌, List, [], ◌∷◌, length, map, Option, Some, None, sym, subst, arith}
use Rattle.std.proofs.lemmas.Bool.{and_parts, eqb-true, leb-true, ltb-true}
use Rattle.std.proofs.lemmas.List.{reverse-reverse}
use Rattle.std.proofs.lemmas.Nat.{mul-le}
use Rattle.std.specs.List.{AllByRecursion as Each, cons_option}
use Rattle.std.specs.Prelude.{filter_map, reverse, IfSome}
use Rattle.dm_event.specs.Layout.{Layout, key_count, is_between, is_key, is_layout, is_part, is_session, is_site}
use Rattle.dm_event.specs.declared.limits.TheConstants.{MAX_PARTS, MAX_SESSIONS, MAX_SITES, MAX_WIDTH}
use Rattle.dm_event.specs.declared.step.Entry.{Entry}
use Rattle.dm_event.specs.declared.step.Pair.{Pair}
use Rattle.dm_event.specs.declared.step.Pending.{Pending}
use Rattle.dm_event.specs.declared.step.Pending.TheVariants as pending
use Rattle.dm_event.specs.declared.step.Step.{Step}
use Rattle.dm_event.specs.declared.step.Step.TheVariants as step
use Rattle.dm_frames.specs.Records.{commit_record, pending_record, record_of, records_of}
use Rattle.dm_model.proofs.Judged.{shape_of}
use Rattle.dm_model.proofs.LegalSteps.{legal_commit}
use Rattle.dm_model.proofs.ListFacts.{each_reverse}
use Rattle.dm_model.specs.Acts.{acts}
use Rattle.dm_model.specs.Allowed.{Allowed}
use Rattle.dm_model.specs.Doubts.{pending_at, step_of}
use Rattle.dm_model.specs.Legal.{LegalPast}
use Rattle.dm_model.specs.Shape.{is_ascending, is_txn, is_vector, are_ops, are_pairs}
use Rattle.dm_plain.proofs.Written.{acts_hold, commit_small, pending_hold}
use Rattle.dm_record.specs.Bytes.{AreKeys, IsFrom, IsInRange}
use Rattle.dm_record.specs.declared.record.Record.{Record}
use Rattle.dm_record.specs.declared.record.Record.TheVariants.{Release, Grant}
use Rattle.dm_record.specs.declared.record.TheConstants.{MAX_KEY}

each_turned : {X : Type 0} (P : X → Type 0) (xs : List X) → Each P xs → Each P (reverse xs)
each_turned P xs h = each_reverse P (reverse xs) (subst (λ (l : List _). Each P l) (sym (reverse-reverse xs)) h)

-- a record or none, by a test
by_test : (b : Bool) (r : Record) (rs : List Record) → IsInRange r → Each IsInRange rs → Each IsInRange (cons_option (if b then Some r else None) rs)
by_test true r rs h k = (h, k)
by_test false r rs h k = k

between : (least most n : ℕ) → is_between least most n ≡ true → IsFrom least most n
between least most n h = (let p = and_parts (nat_le least n) (nat_le n most) h in (leb-true least n p.0, leb-true n most p.1))

-- what is said of a step's record
abbrev InStep : Step → Type 0
InStep (step.Commit e) = IsInRange (commit_record e)
InStep (step.Release site part epoch to vector) = IsInRange (Release part epoch to vector)
InStep (step.Grant site part epoch vector) = IsInRange (Grant part epoch vector)
InStep other = Unit {0}

of_steps : (site : ℕ) (steps : List Step) → Each InStep steps → Each IsInRange (filter_map (record_of site) steps)
of_steps site [] h = tt
of_steps site (step.Commit e ∷ steps) h = by_test (e.origin == site) (commit_record e) (filter_map (record_of site) steps) h.0 (of_steps site steps h.1)
of_steps site (step.Release at part epoch to vector ∷ steps) h =
    by_test (at == site) (Release part epoch to vector) (filter_map (record_of site) steps) h.0 (of_steps site steps h.1)
of_steps site (step.Grant at part epoch vector ∷ steps) h =
    by_test (at == site) (Grant part epoch vector) (filter_map (record_of site) steps) h.0 (of_steps site steps h.1)
of_steps site (other ∷ steps) h = of_steps site steps h.1

module _ (layout : Layout) (sites : layout.sites ≤ MAX_SITES) (parts : length layout.masters ≤ MAX_PARTS) (width : layout.width ≤ MAX_WIDTH) where
  key_most : (key : ℕ) → is_key layout key ≡ true → key ≤ MAX_KEY
  key_most key h =
      let few = ltb-true key (key_count layout) h in
      let most = mul-le (length layout.masters) layout.width MAX_PARTS MAX_WIDTH parts width in
      omega (arith, few, most)

  keys_from : (least : ℕ) (p : Pair) (ps : List Pair) → least ≤ p.key → are_pairs layout (p ∷ ps) ≡ true
      → is_ascending (map (λ (q : Pair). q.key) (p ∷ ps)) ≡ true → AreKeys least (p ∷ ps)
  keys_from least p [] l k a = ((l, key_most p.key (and_parts (is_key layout p.key) _ k).0), tt)
  keys_from least p (q ∷ ps) l k a =
      let keys = and_parts (is_key layout p.key) (are_pairs layout (q ∷ ps)) k in
      let up = and_parts (nat_lt p.key q.key) (is_ascending (map (λ (x : Pair). x.key) (q ∷ ps))) a in
      let next = ltb-true p.key q.key up.0 in
      ((l, key_most p.key keys.0), keys_from (p.key + 1) q ps (omega (arith, next)) keys.1 up.1)

  keys_in : (ps : List Pair) → are_pairs layout ps ≡ true → is_ascending (map (λ (p : Pair). p.key) ps) ≡ true → AreKeys 0 ps
  keys_in [] k a = tt
  keys_in (p ∷ ps) k a = keys_from 0 p ps (omega arith) k a

  -- a vector has a component for each site, of which this is one
  vector_in : (site : ℕ) (v : List ℕ) → is_site layout site ≡ true → is_vector layout v ≡ true → IsFrom 1 MAX_SITES (length v)
  vector_in site v i h =
      let s = between 1 layout.sites site i in
      let long = eqb-true (length v) layout.sites h in
      (omega (arith, s.0, s.1, long), omega (arith, sites, long))

  part_in : (part : ℕ) → is_part layout part ≡ true → part < MAX_PARTS
  part_in part h = (let l = ltb-true part (length layout.masters) h in omega (arith, l, parts))

  site_in : (site : ℕ) → is_site layout site ≡ true → IsFrom 1 MAX_SITES site
  site_in site h = (let s = between 1 layout.sites site h in (s.0, omega (arith, s.1, sites)))

  commit_in : (past : List Step) (e : Entry) → LegalPast layout past → Allowed layout past (step.Commit e) → IsInRange (commit_record e)
  commit_in past e h a =
      let s0 = and_parts (is_txn layout e.txn) _ (shape_of layout past (step.Commit e) a) in
      let s1 = and_parts (is_site layout e.origin) _ s0.1 in
      let s2 = and_parts (is_vector layout e.begin) _ s1.1 in
      let s3 = and_parts (are_ops layout e.ops) _ s2.1 in
      let s4 = and_parts (are_pairs layout e.reads) _ s3.1 in
      let s5 = and_parts (are_pairs layout e.writes) (is_ascending (map (λ (p : Pair). p.key) e.writes)) s4.1 in
      let t = and_parts (is_session e.txn.session) _ s0.0 in
      let u = and_parts (nat_le 1 e.txn.number) (nat_le 1 e.txn.attempt) t.1 in
      let due = (legal_commit layout past e a).seq in
      let small = commit_small layout past h e a in (
        between 1 MAX_SESSIONS e.txn.session t.0,
        leb-true 1 e.txn.number u.0,
        leb-true 1 e.txn.attempt u.1,
        omega (arith, due),
        vector_in e.origin e.begin s1.0 s2.0,
        (small.some, small.few),
        keys_in e.writes s5.0 s5.1,
      )

  step_in : (past : List Step) (s : Step) → LegalPast layout past → Allowed layout past s → InStep s
  step_in past (step.Commit e) h a = commit_in past e h a
  step_in past (step.Release site part epoch to vector) h a =
      let s0 = and_parts (is_site layout site) _ (shape_of layout past (step.Release site part epoch to vector) a) in
      let s1 = and_parts (is_part layout part) _ s0.1 in
      let s2 = and_parts (is_site layout to) (is_vector layout vector) s1.1 in
      (part_in part s1.0, site_in to s2.0, vector_in site vector s0.0 s2.1)
  step_in past (step.Grant site part epoch vector) h a =
      let s0 = and_parts (is_site layout site) _ (shape_of layout past (step.Grant site part epoch vector) a) in
      let s1 = and_parts (is_part layout part) (is_vector layout vector) s0.1 in
      (part_in part s1.0, vector_in site vector s0.0 s1.1)
  step_in past other h a = tt

  pub records_in : (past : List Step) → LegalPast layout past → (site : ℕ) → Each IsInRange (records_of site past)
  records_in past h site = of_steps site (reverse (acts past)) (each_turned InStep (acts past) (acts_hold layout InStep step_in past h))

  pub pending_in : (past : List Step) → LegalPast layout past → (site : ℕ) → IfSome (pending_at site past) (λ p. IsInRange (pending_record p))
  pending_in past h site = by (pending_at site past) (pending_hold layout InStep step_in past h site)
    where
      by : (o : Option Pending) → IfSome o (λ p. InStep (step_of site p)) → IfSome o (λ p. IsInRange (pending_record p))
      by None k = tt
      by (Some (pending.Commit e)) k = k
      by (Some (pending.Release part epoch to vector)) k = k
      by (Some (pending.Grant part epoch vector)) k = k

-- the limits that count here
record Limits (layout : Layout) : Type 0 where
  sites : layout.sites ≤ MAX_SITES
  parts : length layout.masters ≤ MAX_PARTS
  width : layout.width ≤ MAX_WIDTH

limits : (layout : Layout) → is_layout layout ≡ true → Limits layout
limits layout h =
    let p0 = and_parts (is_between 1 MAX_SITES layout.sites) _ h in
    let p1 = and_parts (is_between 1 MAX_WIDTH layout.width) _ p0.1 in
    let p2 = and_parts (is_between 1 MAX_PARTS (length layout.masters)) _ p1.1 in
    record {
      sites = (between 1 MAX_SITES layout.sites p0.0).1;
      parts = (between 1 MAX_PARTS (length layout.masters) p2.0).1;
      width = (between 1 MAX_WIDTH layout.width p1.0).1;
    }

module _ (layout : Layout) (fits : is_layout layout ≡ true) (past : List Step) (legal : LegalPast layout past) (site : ℕ) where
  pub records_legal : Each IsInRange (records_of site past)
  records_legal = (let l = limits layout fits in records_in layout l.sites l.parts l.width past legal site)

  pub pending_legal : IfSome (pending_at site past) (λ p. IsInRange (pending_record p))
  pending_legal = (let l = limits layout fits in pending_in layout l.sites l.parts l.width past legal site)
