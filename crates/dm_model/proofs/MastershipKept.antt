-- What each step keeps of mastership and of the order of writers: stated of what a past gives, of which a step changes little.
use Rattle.std.proofs.Common.{ℕ, suc, ◌≤◌, ◌≡◌, ◌≢◌, Bool, true, List, [], ◌∷◌, Option, Some, None, refl, sym, ap, ◌∙◌, subst, arith, inl, inr, ◌⊎◌, unwrap_or}
use Rattle.std.proofs.lemmas.Bool.{cases_eq, eqb-true, eq-eqb, false≢true}
use Rattle.std.specs.List.{AllByRecursion as Each}
use Rattle.dm_event.specs.Entries.{commit_vector}
use Rattle.dm_event.specs.Vectors.{at}
use Rattle.dm_event.specs.declared.placing.Placing.{Placing}
use Rattle.dm_event.specs.declared.placing.Placing.TheVariants.{Settled, Asked, Between, Granted}
use Rattle.dm_event.specs.declared.step.Entry.{Entry}
use Rattle.dm_event.specs.declared.step.Pending.{Pending}
use Rattle.dm_event.specs.declared.step.Pending.TheVariants as pending
use Rattle.dm_event.specs.declared.step.TxnId.{TxnId}
use Rattle.dm_model.proofs.ListFacts.{each_map}
use Rattle.dm_model.proofs.NumbersKept.{Waits}
use Rattle.dm_model.specs.Ordered.{writes_key, OrderedEntries, Follows}
use Rattle.dm_model.specs.Placings.{masters_now}
use Rattle.dm_model.specs.Tests.{is_among}

-- what a past gives of mastership
pub record Mastery : Type 0 where
  pub entries : List Entry
  pub reached : ℕ → ℕ → ℕ
  pub floor : ℕ → ℕ → ℕ
  pub runs : ℕ → TxnId → Bool
  pub begins : TxnId → Option (List ℕ)
  pub declared : TxnId → List ℕ
  pub placing : ℕ → Placing
  pub down : ℕ → Bool
  pub doubt : ℕ → Option Pending

-- each writer of the key has its commit vector at most the numbers
abbrev pub WritersWithin : List Entry → ℕ → (ℕ → ℕ) → Type 0
WritersWithin es key f = Each (λ e. writes_key e key ≡ true → (j : ℕ) → at (commit_vector e) j ≤ f j) es

-- the site masters the key's partition, which is placed so, and the numbers have the key's writers
pub record MayWrite (es : List Entry) (now : Placing) (i key : ℕ) (f : ℕ → ℕ) : Type 0 where
  pub masters : masters_now now i ≡ true
  pub seen : WritersWithin es key f

-- what stays true of the pending step of a site that is down

pub record HeldRelease (now : Placing) (floor : ℕ → ℕ) (i epoch to : ℕ) (vector : List ℕ) : Type 0 where
  pub asked : now ≡ Asked i epoch to
  pub above : (j : ℕ) → floor j ≤ at vector j

pub record HeldGrant (now : Placing) (i epoch : ℕ) (vector : List ℕ) : Type 0 where
  pub from : ℕ
  pub old : ℕ
  pub between : now ≡ Between from old i vector
  pub next : epoch ≡ suc old

abbrev pub Held : (ℕ → ℕ) → Mastery → ℕ → Option Pending → Type 0
Held part m i None = Unit {0}
Held part m i (Some (pending.Commit e)) = (key : ℕ) → writes_key e key ≡ true → MayWrite m.entries (m.placing (part key)) i key (at e.begin)
Held part m i (Some (pending.Release p epoch to vector)) = HeldRelease (m.placing p) (m.floor i) i epoch to vector
Held part m i (Some (pending.Grant p epoch vector)) = HeldGrant (m.placing p) i epoch vector

-- A site has its floor. Where it masters a partition, its floor has the writers of its keys, and where there is no master, the
-- release vector has them. An attempt runs on keys of its site, whose writers it saw, and shares them with no other. The
-- pending step of a site that is down stays as it was. The writers of a key are in order.
pub record Mastered (part : ℕ → ℕ) (m : Mastery) : Type 0 where
  pub floored : (i j : ℕ) → m.floor i j ≤ m.reached i j
  pub written : (i key : ℕ) → masters_now (m.placing (part key)) i ≡ true → WritersWithin m.entries key (m.floor i)
  pub between : (key from old to : ℕ) (v : List ℕ) → m.placing (part key) ≡ Between from old to v → WritersWithin m.entries key (at v)
  pub running : (i : ℕ) (t : TxnId) → m.runs i t ≡ true → (key : ℕ) → is_among (m.declared t) key ≡ true
      → MayWrite m.entries (m.placing (part key)) i key (at (unwrap_or (m.begins t) []))
  pub apart : (i : ℕ) (t u : TxnId) → m.runs i t ≡ true → m.runs i u ≡ true → (key : ℕ) → is_among (m.declared t) key ≡ true
      → is_among (m.declared u) key ≡ true
      → t ≡ u
  pub held : (i : ℕ) → m.down i ≡ true → Held part m i (m.doubt i)
  pub ordered : OrderedEntries m.entries

-- a partition has one master
pub one_master : (p : Placing) (i k : ℕ) → masters_now p i ≡ true → masters_now p k ≡ true → i ≡ k
one_master (Settled site epoch) i k a b = sym (eqb-true site i a) ∙ eqb-true site k b
one_master (Asked site epoch to) i k a b = sym (eqb-true site i a) ∙ eqb-true site k b
one_master (Between site epoch to vector) i k a b = absurd (false≢true a)
one_master (Granted site epoch) i k a b = sym (eqb-true site i a) ∙ eqb-true site k b

pub writers_wider : (es : List Entry) (key : ℕ) (f g : ℕ → ℕ) → ((j : ℕ) → f j ≤ g j) → WritersWithin es key f → WritersWithin es key g
writers_wider es key f g le h =
    each_map (λ e. writes_key e key ≡ true → (j : ℕ) → at (commit_vector e) j ≤ f j) (λ e. writes_key e key ≡ true → (j : ℕ) → at (commit_vector e) j ≤ g j)
    (λ e w k j. (let a = w k j in let b = le j in omega arith)) es h

-- what is held stays so, where the mastership and the numbers of the site stay
held_wider : (part : ℕ → ℕ) (m m' : Mastery) (i : ℕ) (o : Option Pending)
    → ((e : Entry) (key : ℕ) → writes_key e key ≡ true → MayWrite m.entries (m.placing (part key)) i key (at e.begin)
    → MayWrite m'.entries (m'.placing (part key)) i key (at e.begin))
    → ((p epoch to : ℕ) → m.placing p ≡ Asked i epoch to → m'.placing p ≡ Asked i epoch to) → ((j : ℕ) → m'.floor i j ≤ m.floor i j)
    → ((p from old : ℕ) (v : List ℕ) → m.placing p ≡ Between from old i v → m'.placing p ≡ Between from old i v)
    → Held part m i o → Held part m' i o
held_wider part m m' i None c r le b h = tt
held_wider part m m' i (Some (pending.Commit e)) c r le b h = λ key w. c e key w (h key w)
held_wider part m m' i (Some (pending.Release p epoch to vector)) c r le b h = record {
  asked = r p epoch to h.asked;
  above = λ j. (let x = h.above j in let y = le j in omega arith);
}
held_wider part m m' i (Some (pending.Grant p epoch vector)) c r le b h = record {
  from = h.from;
  old = h.old;
  between = b p h.from h.old vector h.between;
  next = h.next;
}

first_follows : (e : Entry) (ds : List Entry) → ((key : ℕ) → writes_key e key ≡ true → WritersWithin ds key (at e.begin)) → Each (Follows e) ds
first_follows e [] h = tt
first_follows e (d ∷ ds) h = ((λ key w v. (h key w).0 v), first_follows e ds (λ key w. (h key w).1))

module _ (part : ℕ → ℕ) (m : Mastery) (s : Mastered part m) (m' : Mastery) where
  -- the numbers of a site change, attempts end, sites come up, other attempts are routed
  pub eased : ((i j : ℕ) → m.floor i j ≤ m'.reached i j)
      → ((i : ℕ) (t : TxnId) → m'.runs i t ≡ true → (m.runs i t ≡ true) × (m'.declared t ≡ m.declared t)) → ((i : ℕ) → m'.down i ≡ true → m.down i ≡ true)
      → Mastered part (record m { reached = m'.reached; runs = m'.runs; declared = m'.declared; down = m'.down })
  eased fl r d = record {
    floored = fl;
    written = s.written;
    between = s.between;
    running = λ i t h key a. (let x = r i t h in s.running i t x.0 key (subst (λ (k : List ℕ). is_among k key ≡ true) x.1 a));
    apart = λ i t u h k key a b. (let x = r i t h in let y = r i u k in
        s.apart i t u x.0 y.0 key (subst (λ (l : List ℕ). is_among l key ≡ true) x.1 a) (subst (λ (l : List ℕ). is_among l key ≡ true) y.1 b));
    held = λ i h. s.held i (d i h);
    ordered = s.ordered;
  }

  -- a site goes down
  pub doubted : (i : ℕ) (p : Pending) → Held part m i (Some p)
      → ((k : ℕ) (u : TxnId) → m'.runs k u ≡ true → (m.runs k u ≡ true) × (k ≢ i))
      → ((k : ℕ) → ((k ≡ i) × (m'.doubt k ≡ Some p)) ⊎ Waits i k m.down m'.down m.doubt m'.doubt)
      → Mastered part (record m { runs = m'.runs; down = m'.down; doubt = m'.doubt })
  doubted i p d r g = record {
    floored = s.floored;
    written = s.written;
    between = s.between;
    running = λ k u h. s.running k u (r k u h).0;
    apart = λ k t u h g. s.apart k t u (r k t h).0 (r k u g).0;
    held = λ k h. elim (g k) [
      | inl q ↦ subst (λ (o : Option Pending). Held part m k o) (sym q.1) (subst (λ (x : ℕ). Held part m x (Some p)) (sym q.0) d)
      | inr q ↦ subst (λ (o : Option Pending). Held part m k o) (sym q.same) (s.held k (sym q.still ∙ h))
    ];
    ordered = s.ordered;
  }

  -- an attempt begins at a site that masters what it declares
  pub begun : (i : ℕ) (t : TxnId) (b : List ℕ)
      → ((key : ℕ) → is_among (m.declared t) key ≡ true → masters_now (m.placing (part key)) i ≡ true) → ((j : ℕ) → m.floor i j ≤ at b j)
      → ((u : TxnId) → m.runs i u ≡ true → (key : ℕ) → is_among (m.declared t) key ≡ true → is_among (m.declared u) key ≡ true → ⊥)
      → ((k : ℕ) (u : TxnId) → m'.runs k u ≡ true → ((u ≡ t) × (k ≡ i)) ⊎ ((m.runs k u ≡ true) × (m'.begins u ≡ m.begins u)))
      → m'.begins t ≡ Some b
      → Mastered part (record m { runs = m'.runs; begins = m'.begins })
  begun i t b own le free r own' = record {
    floored = s.floored;
    written = s.written;
    between = s.between;
    running = λ k u h key a. elim (r k u h) [
      | inl p ↦ (
          let a' : is_among (m.declared t) key ≡ true = subst (λ (x : TxnId). is_among (m.declared x) key ≡ true) p.0 a in
          let w : WritersWithin m.entries key (at b) = writers_wider m.entries key (m.floor i) (at b) le (s.written i key (own key a')) in
          record {
            masters = subst (λ (x : ℕ). masters_now (m.placing (part key)) x ≡ true) (sym p.1) (own key a');
            seen = subst (λ (o : Option (List ℕ)). WritersWithin m.entries key (at (unwrap_or o []))) (sym (ap m'.begins p.0 ∙ own')) w;
          }
          )
      | inr q ↦ subst (λ (o : Option (List ℕ)). MayWrite m.entries (m.placing (part key)) k key (at (unwrap_or o []))) (sym q.1) (s.running k u q.0 key a)
    ];
    apart = λ k u w h g key a c. elim (r k u h) [
      | inl p ↦ elim (r k w g) [
        | inl q ↦ (p.0 ∙ sym q.0)
        | inr q ↦ absurd (free w (subst (λ (x : ℕ). m.runs x w ≡ true) p.1 q.0) key (subst (λ (x : TxnId). is_among (m.declared x) key ≡ true) p.0 a) c)
      ]
      | inr p ↦ elim (r k w g) [
        | inl q ↦ absurd (free u (subst (λ (x : ℕ). m.runs x u ≡ true) q.1 p.0) key (subst (λ (x : TxnId). is_among (m.declared x) key ≡ true) q.0 c) a)
        | inr q ↦ s.apart k u w p.0 q.0 key a c
      ]
    ];
    held = s.held;
    ordered = s.ordered;
  }

  -- an entry comes from its origin, which masters what it writes
  pub entered : (e : Entry)
      → ((key : ℕ) → writes_key e key ≡ true → MayWrite m.entries (m.placing (part key)) e.origin key (at e.begin))
      → ((i j : ℕ) → m'.floor i j ≤ m'.reached i j) → ((i j : ℕ) → m.floor i j ≤ m'.floor i j) → ((j : ℕ) → at (commit_vector e) j ≤ m'.floor e.origin j)
      → ((i j : ℕ) → i ≢ e.origin → m'.floor i j ≡ m.floor i j)
      → ((k : ℕ) (u : TxnId) → m'.runs k u ≡ true → m.runs k u ≡ true)
      → ((u : TxnId) → m'.runs e.origin u ≡ true → (key : ℕ) → is_among (m.declared u) key ≡ true → writes_key e key ≡ true → ⊥)
      → ((k : ℕ) → m'.down k ≡ true → Waits e.origin k m.down m'.down m.doubt m'.doubt)
      → Mastered part (record m { entries = e ∷ m.entries; reached = m'.reached; floor = m'.floor; runs = m'.runs; down = m'.down; doubt = m'.doubt })
  entered e ok fl mono up same r free d = record {
    floored = fl;
    written = λ k key a. (
      (λ w j. (let x = one_master (m.placing (part key)) e.origin k (ok key w).masters a in let y = up j in let z = ap (λ (i : ℕ). m'.floor i j) x in
          omega arith)),
      writers_wider m.entries key (m.floor k) (m'.floor k) (mono k) (s.written k key a),
    );
    between = λ key from old to v p. (
      (λ w. absurd (false≢true (subst (λ (x : Placing). masters_now x e.origin ≡ true) p (ok key w).masters))),
      s.between key from old to v p,
    );
    running = λ k t h key a. (let x = s.running k t (r k t h) key a in record {
      masters = x.masters;
      seen = (
        (λ w. absurd (let y = one_master (m.placing (part key)) k e.origin x.masters (ok key w).masters in
            free t (subst (λ (i : ℕ). m'.runs i t ≡ true) y h) key a w)),
        x.seen,
      );
    });
    apart = λ k t u h g. s.apart k t u (r k t h) (r k u g);
    held = λ k h. (let x = d k h in
        let after : Mastery = record m { entries = e ∷ m.entries; floor = m'.floor } in
        subst (λ (o : Option Pending). Held part after k o) (sym x.same)
        (held_wider part m after k (m.doubt k)
        (λ c key w y. record {
          masters = y.masters;
          seen = (
            (λ v. absurd (x.other (one_master (m.placing (part key)) k e.origin y.masters (ok key v).masters))),
            y.seen,
          );
        })
        (λ p epoch to q. q) (λ j. (let y = same k j x.other in omega arith)) (λ p from old v q. q) (s.held k (sym x.still ∙ h))));
    ordered = (first_follows e m.entries (λ key w. (ok key w).seen), s.ordered);
  }

  -- the master releases a partition
  pub released : (i p epoch to : ℕ) (v : List ℕ)
      → m.placing p ≡ Asked i epoch to → ((j : ℕ) → m.floor i j ≤ at v j) → m'.placing p ≡ Between i epoch to v → ((q : ℕ) → q ≢ p → m'.placing q ≡ m.placing q)
      → ((k j : ℕ) → m.floor k j ≤ m'.reached k j) → ((k : ℕ) (u : TxnId) → m'.runs k u ≡ true → m.runs k u ≡ true)
      → ((u : TxnId) → m'.runs i u ≡ true → (key : ℕ) → is_among (m.declared u) key ≡ true → part key ≡ p → ⊥)
      → ((k : ℕ) → m'.down k ≡ true → Waits i k m.down m'.down m.doubt m'.doubt)
      → Mastered part (record m { reached = m'.reached; runs = m'.runs; placing = m'.placing; down = m'.down; doubt = m'.doubt })
  released i p epoch to v was le now same fl r free d =
      let mine : (q k : ℕ) → q ≡ p → masters_now (m.placing q) k ≡ true → k ≡ i = λ q k e a.
      sym (eqb-true i k (subst (λ (x : Placing). masters_now x k ≡ true) (ap m.placing e ∙ was) a)) in
      record {
        floored = fl;
        written = λ k key a. elim (cases_eq (part key) p) [
          | inl e ↦ absurd (false≢true (subst (λ (x : Placing). masters_now x k ≡ true) (ap m'.placing e ∙ now) a))
          | inr n ↦ s.written k key (subst (λ (x : Placing). masters_now x k ≡ true) (same (part key) n) a)
        ];
        between = λ key x y z w h. elim (cases_eq (part key) p) [
          | inl e ↦ (let q : v ≡ w = cc (now, h, ap m'.placing e) in
              subst (λ (l : List ℕ). WritersWithin m.entries key (at l)) q
              (writers_wider m.entries key (m.floor i) (at v) le
              (s.written i key (subst (λ (l : Placing). masters_now l i ≡ true) (sym (ap m.placing e ∙ was)) (eq-eqb i i refl)))))
          | inr n ↦ s.between key x y z w (sym (same (part key) n) ∙ h)
        ];
        running = λ k u h key a. (let x = s.running k u (r k u h) key a in elim (cases_eq (part key) p) [
          | inl e ↦ absurd (free u (subst (λ (l : ℕ). m'.runs l u ≡ true) (mine (part key) k e x.masters) h) key a e)
          | inr n ↦ subst (λ (l : Placing). MayWrite m.entries l k key (at (unwrap_or (m.begins u) []))) (sym (same (part key) n)) x
        ]);
        apart = λ k t u h g. s.apart k t u (r k t h) (r k u g);
        held = λ k h. (let x = d k h in
            let after : Mastery = record m { placing = m'.placing } in
            subst (λ (o : Option Pending). Held part after k o) (sym x.same)
            (held_wider part m after k (m.doubt k)
            (λ c key w y. elim (cases_eq (part key) p) [
              | inl e ↦ absurd (x.other (mine (part key) k e y.masters))
              | inr n ↦ subst (λ (l : Placing). MayWrite m.entries l k key (at c.begin)) (sym (same (part key) n)) y
            ])
            (λ q y z g. elim (cases_eq q p) [ inl e ↦ absurd (x.other (let f : i ≡ k = cc (was, g, ap m.placing e) in sym f)) | inr n ↦ (same q n ∙ g) ])
            (λ j. omega arith)
            (λ q y z w g. elim (cases_eq q p) [ inl e ↦ absurd (cc (was, g, ap m.placing e)) | inr n ↦ (same q n ∙ g) ])
            (s.held k (sym x.still ∙ h))));
        ordered = s.ordered;
      }

  -- the site to which a partition is released takes it over
  pub granted : (i p epoch from old : ℕ) (v : List ℕ)
      → m.placing p ≡ Between from old i v → m'.placing p ≡ Granted i epoch → ((q : ℕ) → q ≢ p → m'.placing q ≡ m.placing q)
      → ((k j : ℕ) → m'.floor k j ≤ m'.reached k j) → ((k j : ℕ) → m.floor k j ≤ m'.floor k j) → ((j : ℕ) → at v j ≤ m'.floor i j)
      → ((k j : ℕ) → k ≢ i → m'.floor k j ≡ m.floor k j)
      → ((k : ℕ) (u : TxnId) → m'.runs k u ≡ true → m.runs k u ≡ true)
      → ((k : ℕ) → m'.down k ≡ true → Waits i k m.down m'.down m.doubt m'.doubt)
      → Mastered part (record m { reached = m'.reached; floor = m'.floor; runs = m'.runs; placing = m'.placing; down = m'.down; doubt = m'.doubt })
  granted i p epoch from old v was now same fl mono up keep r d =
      let lost : (q k : ℕ) → q ≡ p → masters_now (m.placing q) k ≡ true → ⊥ = λ q k e a.
      false≢true (subst (λ (x : Placing). masters_now x k ≡ true) (ap m.placing e ∙ was) a) in
      record {
        floored = fl;
        written = λ k key a. elim (cases_eq (part key) p) [
          | inl e ↦ (let q : i ≡ k = eqb-true i k (subst (λ (x : Placing). masters_now x k ≡ true) (ap m'.placing e ∙ now) a) in
              subst (λ (x : ℕ). WritersWithin m.entries key (m'.floor x)) q
              (writers_wider m.entries key (at v) (m'.floor i) up (s.between key from old i v (ap m.placing e ∙ was))))
          | inr n ↦ writers_wider m.entries key (m.floor k) (m'.floor k) (mono k)
              (s.written k key (subst (λ (x : Placing). masters_now x k ≡ true) (same (part key) n) a))
        ];
        between = λ key x y z w h. elim (cases_eq (part key) p) [
          | inl e ↦ absurd (cc (now, h, ap m'.placing e))
          | inr n ↦ s.between key x y z w (sym (same (part key) n) ∙ h)
        ];
        running = λ k u h key a. (let x = s.running k u (r k u h) key a in elim (cases_eq (part key) p) [
          | inl e ↦ absurd (lost (part key) k e x.masters)
          | inr n ↦ subst (λ (l : Placing). MayWrite m.entries l k key (at (unwrap_or (m.begins u) []))) (sym (same (part key) n)) x
        ]);
        apart = λ k t u h g. s.apart k t u (r k t h) (r k u g);
        held = λ k h. (let x = d k h in
            let after : Mastery = record m { placing = m'.placing; floor = m'.floor } in
            subst (λ (o : Option Pending). Held part after k o) (sym x.same)
            (held_wider part m after k (m.doubt k)
            (λ c key w y. elim (cases_eq (part key) p) [
              | inl e ↦ absurd (lost (part key) k e y.masters)
              | inr n ↦ subst (λ (l : Placing). MayWrite m.entries l k key (at c.begin)) (sym (same (part key) n)) y
            ])
            (λ q y z g. elim (cases_eq q p) [ inl e ↦ absurd (cc (was, g, ap m.placing e)) | inr n ↦ (same q n ∙ g) ])
            (λ j. (let y = keep k j x.other in omega arith))
            (λ q y z w g. elim (cases_eq q p) [ inl e ↦ absurd (x.other (let f : i ≡ k = cc (was, g, ap m.placing e) in sym f)) | inr n ↦ (same q n ∙ g) ])
            (s.held k (sym x.still ∙ h))));
        ordered = s.ordered;
      }

  -- a partition is asked for, or settled
  pub replaced : ((q k : ℕ) → masters_now (m'.placing q) k ≡ masters_now (m.placing q) k)
      → ((q x y z : ℕ) (v : List ℕ) → m'.placing q ≡ Between x y z v → m.placing q ≡ Between x y z v)
      → ((q x y z : ℕ) (v : List ℕ) → m.placing q ≡ Between x y z v → m'.placing q ≡ Between x y z v)
      → ((q x y z : ℕ) → m.placing q ≡ Asked x y z → m'.placing q ≡ Asked x y z)
      → Mastered part (record m { placing = m'.placing })
  replaced own b b' c = record {
    floored = s.floored;
    written = λ k key h. s.written k key (sym (own (part key) k) ∙ h);
    between = λ key x y z v h. s.between key x y z v (b (part key) x y z v h);
    running = λ k u h key a. (let x = s.running k u h key a in record { masters = own (part key) k ∙ x.masters; seen = x.seen });
    apart = s.apart;
    held = λ k h. held_wider part m (record m { placing = m'.placing }) k (m.doubt k)
        (λ e key w x. record { masters = own (part key) k ∙ x.masters; seen = x.seen }) (λ p y z g. c p k y z g) (λ j. omega arith)
        (λ p x y v g. b' p x y k v g) (s.held k h);
    ordered = s.ordered;
  }
