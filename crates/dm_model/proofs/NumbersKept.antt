-- What each step keeps of the counts and vectors: stated of what a past gives, of which a step changes little.
use Rattle.std.proofs.Common.{ℕ, suc, ◌<◌, ◌≤◌, ◌≡◌, ◌≢◌, Bool, true, false, List, ◌∷◌, Option, Some, None, length, refl, sym, ap, ◌∙◌, subst, ap₂, arith, inl}
use Rattle.std.proofs.Common.{inr, ◌⊎◌}
use Rattle.std.proofs.lemmas.Bool.{cases_eq, false≢true, false_from_ne_true}
use Rattle.std.specs.List.{AllByRecursion as Each}
use Rattle.dm_event.specs.Vectors.{at}
use Rattle.dm_event.specs.declared.step.Entry.{Entry}
use Rattle.dm_event.specs.declared.step.Pending.{Pending}
use Rattle.dm_event.specs.declared.step.Pending.TheVariants as pending
use Rattle.dm_event.specs.declared.step.TxnId.{TxnId}
use Rattle.dm_model.proofs.Numbering.{Numbered, ClosedBy, count_at, count_other, count_own, closed_more, closed_same, closed_own, closed_next}

-- what a past gives of the counts and vectors
pub record Counts : Type 0 where
  pub entries : List Entry
  pub reached : ℕ → ℕ → ℕ
  pub runs : ℕ → TxnId → Bool
  pub begins : TxnId → Option (List ℕ)
  pub down : ℕ → Bool
  pub doubt : ℕ → Option Pending

-- the vector is as long as there are sites and within what the site has
pub record Within (count : ℕ) (got : ℕ → ℕ) (v : List ℕ) : Type 0 where
  pub long : length v ≡ count
  pub below : (j : ℕ) → at v j ≤ got j

-- an attempt has begun at a vector within what the site has
pub record Began (count : ℕ) (got : ℕ → ℕ) (begun : Option (List ℕ)) : Type 0 where
  pub begin : List ℕ
  pub is : begun ≡ Some begin
  pub within : Within count got begin

-- the entry is the site's next, and begins within what the site has
pub record Pends (count : ℕ) (es : List Entry) (got : ℕ → ℕ) (i : ℕ) (e : Entry) : Type 0 where
  pub own : e.origin ≡ i
  pub seq : e.seq ≡ suc (count_at i es)
  pub within : Within count got e.begin

-- what stays true of a site's pending step
abbrev pub InDoubt : ℕ → Counts → ℕ → Option Pending → Type 0
InDoubt count c i None = Unit {0}
InDoubt count c i (Some (pending.Commit e)) = Pends count c.entries (c.reached i) i e
InDoubt count c i (Some (pending.Release part epoch to vector)) = Unit {0}
InDoubt count c i (Some (pending.Grant part epoch vector)) = length vector ≡ count

-- Entries are numbered; a site has all of its own; what a site has, what an attempt of it began at, is closed; nothing runs at a
-- site that is down, whose pending step stays as it was.
pub record Sound (count : ℕ) (c : Counts) : Type 0 where
  pub numbered : Numbered c.entries
  pub sized : Each (λ e. length e.begin ≡ count) c.entries
  pub own : (i : ℕ) → c.reached i i ≡ count_at i c.entries
  pub closed : (i : ℕ) → ClosedBy c.entries (c.reached i)
  pub running : (i : ℕ) (t : TxnId) → c.runs i t ≡ true → Began count (c.reached i) (c.begins t)
  pub begins : (t : TxnId) (b : List ℕ) → c.begins t ≡ Some b → ClosedBy c.entries (at b)
  pub up : (i : ℕ) (t : TxnId) → c.runs i t ≡ true → c.down i ≡ false
  pub in_doubt : (i : ℕ) → c.down i ≡ true → InDoubt count c i (c.doubt i)

pub wider : (count : ℕ) (f g : ℕ → ℕ) (v : List ℕ) → ((j : ℕ) → f j ≤ g j) → Within count f v → Within count g v
wider count f g v le w = record { long = w.long; below = λ j. (let a = w.below j in let b = le j in omega arith) }

began_wider : (count : ℕ) (f g : ℕ → ℕ) (o : Option (List ℕ)) → ((j : ℕ) → f j ≤ g j) → Began count f o → Began count g o
began_wider count f g o le b = record { begin = b.begin; is = b.is; within = wider count f g b.begin le b.within }

doubt_wider : (count : ℕ) (c c' : Counts) (i : ℕ) (p : Option Pending) → count_at i c'.entries ≡ count_at i c.entries
    → ((j : ℕ) → c.reached i j ≤ c'.reached i j)
    → InDoubt count c i p → InDoubt count c' i p
doubt_wider count c c' i None same le h = tt
doubt_wider count c c' i (Some (pending.Commit e)) same le h = record {
  own = h.own;
  seq = (let a = h.seq in omega (arith, a, same));
  within = wider count (c.reached i) (c'.reached i) e.begin le h.within;
}
doubt_wider count c c' i (Some (pending.Release part epoch to vector)) same le h = tt
doubt_wider count c c' i (Some (pending.Grant part epoch vector)) same le h = h

-- at another site than this one, what is down and in doubt stays so
pub record Waits (i k : ℕ) (down down' : ℕ → Bool) (doubt doubt' : ℕ → Option Pending) : Type 0 where
  pub other : k ≢ i
  pub still : down' k ≡ down k
  pub same : doubt' k ≡ doubt k

module _ (count : ℕ) (c : Counts) (s : Sound count c) (c' : Counts) where
  -- attempts end, and sites come up
  pub eased : ((i : ℕ) (t : TxnId) → c'.runs i t ≡ true → c.runs i t ≡ true) → ((i : ℕ) → c'.down i ≡ true → c.down i ≡ true)
      → Sound count (record c { runs = c'.runs; down = c'.down })
  eased f d = record {
    numbered = s.numbered;
    sized = s.sized;
    own = s.own;
    closed = s.closed;
    running = λ i t r. s.running i t (f i t r);
    begins = s.begins;
    up = λ i t r. false_from_ne_true (c'.down i) (λ x. false≢true (sym (s.up i t (f i t r)) ∙ d i x));
    in_doubt = λ i h. s.in_doubt i (d i h);
  }

  -- an attempt begins at a site that is up
  pub begun : (i : ℕ) (t : TxnId) (b : List ℕ) → c.down i ≡ false → Within count (c.reached i) b → ClosedBy c.entries (at b)
      → ((k : ℕ) (u : TxnId) → c'.runs k u ≡ true → ((u ≡ t) × (k ≡ i)) ⊎ ((c.runs k u ≡ true) × (c'.begins u ≡ c.begins u)))
      → ((u : TxnId) → ((u ≡ t) × (c'.begins u ≡ Some b)) ⊎ (c'.begins u ≡ c.begins u)) → c'.begins t ≡ Some b
      → Sound count (record c { runs = c'.runs; begins = c'.begins })
  begun i t b is_up w closed r g own' = record {
    numbered = s.numbered;
    sized = s.sized;
    own = s.own;
    closed = s.closed;
    running = λ k u h. elim (r k u h) [
      | inl p ↦ record { begin = b; is = ap c'.begins p.0 ∙ own'; within = subst (λ (x : ℕ). Within count (c.reached x) b) (sym p.1) w }
      | inr q ↦ (let old = s.running k u q.0 in record { begin = old.begin; is = q.1 ∙ old.is; within = old.within })
    ];
    begins = λ u v h. elim (g u) [
      | inl p ↦ (let e : b ≡ v = cc (p.1, h) in subst (λ (x : List ℕ). ClosedBy c.entries (at x)) e closed)
      | inr q ↦ s.begins u v (sym q ∙ h)
    ];
    up = λ k u h. elim (r k u h) [ inl p ↦ (ap c.down p.1 ∙ is_up) | inr q ↦ s.up k u q.0 ];
    in_doubt = s.in_doubt;
  }

  -- a site goes down
  pub doubted : (i : ℕ) (p : Pending) → InDoubt count c i (Some p)
      → ((k : ℕ) (u : TxnId) → c'.runs k u ≡ true → (c.runs k u ≡ true) × (k ≢ i))
      → ((k : ℕ) → ((k ≡ i) × (c'.doubt k ≡ Some p)) ⊎ Waits i k c.down c'.down c.doubt c'.doubt)
      → Sound count (record c { runs = c'.runs; down = c'.down; doubt = c'.doubt })
  doubted i p d r g = record {
    numbered = s.numbered;
    sized = s.sized;
    own = s.own;
    closed = s.closed;
    running = λ k u h. s.running k u (r k u h).0;
    begins = s.begins;
    up = λ k u h. elim (g k) [ inl q ↦ absurd ((r k u h).1 q.0) | inr q ↦ (q.still ∙ s.up k u (r k u h).0) ];
    in_doubt = λ k h. elim (g k) [
      | inl q ↦ subst (λ (o : Option Pending). InDoubt count c k o) (sym q.1) (subst (λ (x : ℕ). InDoubt count c x (Some p)) (sym q.0) d)
      | inr q ↦ subst (λ (o : Option Pending). InDoubt count c k o) (sym q.same) (s.in_doubt k (sym q.still ∙ h))
    ];
  }

  -- a site that is up takes the next entry of another origin
  pub refreshed : (i o : ℕ) (e : Entry) → o ≢ i
      → Each (λ d. d.origin ≡ o → d.seq ≡ suc (c.reached i o) → d ≡ e) c.entries → c.reached i o < count_at o c.entries
      → ((j : ℕ) → at e.begin j ≤ c.reached i j)
      → c'.reached i o ≡ suc (c.reached i o) → ((k j : ℕ) → ((k ≡ i) × (j ≡ o)) ⊎ (c'.reached k j ≡ c.reached k j))
      → Sound count (record c { reached = c'.reached })
  refreshed i o e n one more le up' same =
      let mono : (k j : ℕ) → c.reached k j ≤ c'.reached k j = λ k j. elim (same k j) [
        | inl p ↦ (let a : c'.reached k j ≡ c'.reached i o = ap₂ c'.reached p.0 p.1 in let b : c.reached k j ≡ c.reached i o = ap₂ c.reached p.0 p.1 in
            omega arith)
        | inr q ↦ omega (arith, q)
      ] in
      record {
        numbered = s.numbered;
        sized = s.sized;
        own = λ k. elim (same k k) [ inl p ↦ absurd (n (sym p.1 ∙ p.0)) | inr q ↦ (q ∙ s.own k) ];
        closed = λ k. elim (cases_eq k i) [
          | inl p ↦ subst (λ (x : ℕ). ClosedBy c.entries (c'.reached x)) (sym p)
              (closed_next c.entries (c.reached i) (c'.reached i) o e (s.closed i) one more up' (λ j m. elim (same i j) [ inl q ↦ absurd (m q.1) | inr q ↦ q ])
              le)
          | inr m ↦ closed_same c.entries (c.reached k) (c'.reached k) (λ j. elim (same k j) [ inl q ↦ absurd (m q.0) | inr q ↦ q ]) (s.closed k)
        ];
        running = λ k t r. began_wider count (c.reached k) (c'.reached k) (c.begins t) (mono k) (s.running k t r);
        begins = s.begins;
        up = s.up;
        in_doubt = λ k d. doubt_wider count c (record c { reached = c'.reached }) k (c.doubt k) refl (mono k) (s.in_doubt k d);
      }

  -- an entry comes from its origin
  pub entered : (e : Entry) → e.seq ≡ suc (count_at e.origin c.entries) → Within count (c.reached e.origin) e.begin
      → c'.reached e.origin e.origin ≡ suc (c.reached e.origin e.origin)
      → ((k j : ℕ) → ((k ≡ e.origin) × (j ≡ e.origin)) ⊎ (c'.reached k j ≡ c.reached k j))
      → ((k : ℕ) (u : TxnId) → c'.runs k u ≡ true → c.runs k u ≡ true)
      → ((k : ℕ) → c'.down k ≡ true → Waits e.origin k c.down c'.down c.doubt c'.doubt)
      → Sound count (record c { entries = e ∷ c.entries; reached = c'.reached; runs = c'.runs; down = c'.down; doubt = c'.doubt })
  entered e num w up' same r d =
      let i : ℕ = e.origin in
      let mono : (k j : ℕ) → c.reached k j ≤ c'.reached k j = λ k j. elim (same k j) [
        | inl p ↦ (let a : c'.reached k j ≡ c'.reached i i = ap₂ c'.reached p.0 p.1 in let b : c.reached k j ≡ c.reached i i = ap₂ c.reached p.0 p.1 in
            omega arith)
        | inr q ↦ omega (arith, q)
      ] in
      let o = s.own i in
      let b = w.below i in
      let num' : Numbered (e ∷ c.entries) = (record { seq = num; before = omega arith }, s.numbered) in
      record {
        numbered = num';
        sized = (w.long, s.sized);
        own = λ k. elim (cases_eq k i) [
          | inl p ↦ (let a : c'.reached k k ≡ c'.reached i i = ap (λ (x : ℕ). c'.reached x x) p in let n = count_own' k p in omega (arith, a, n, up'))
          | inr m ↦ elim (same k k) [ inl q ↦ absurd (m q.0) | inr q ↦ (q ∙ s.own k ∙ sym (count_other e c.entries k (λ x. m (sym x)))) ]
        ];
        closed = λ k. elim (cases_eq k i) [
          | inl p ↦ subst (λ (x : ℕ). ClosedBy (e ∷ c.entries) (c'.reached x)) (sym p)
              (closed_own e c.entries (c.reached i) (c'.reached i) num' (s.closed i) o up' (λ j m. elim (same i j) [ inl q ↦ absurd (m q.1) | inr q ↦ q ])
              w.below)
          | inr m ↦ closed_same (e ∷ c.entries) (c.reached k) (c'.reached k) (λ j. elim (same k j) [ inl q ↦ absurd (m q.0) | inr q ↦ q ])
              (closed_more e c.entries (c.reached k) num' (s.closed k))
        ];
        running = λ k t h. began_wider count (c.reached k) (c'.reached k) (c.begins t) (mono k) (s.running k t (r k t h));
        begins = λ t v h. closed_more e c.entries (at v) num' (s.begins t v h);
        up = λ k t h. false_from_ne_true (c'.down k) (λ x. false≢true (sym (s.up k t (r k t h)) ∙ (sym (d k x).still ∙ x)));
        in_doubt = λ k h. (let x = d k h in
            subst (λ (p : Option Pending). InDoubt count (record c { entries = e ∷ c.entries; reached = c'.reached }) k p) (sym x.same)
            (doubt_wider count c (record c { entries = e ∷ c.entries; reached = c'.reached }) k (c.doubt k) (count_other e c.entries k (λ y. x.other (sym y)))
            (mono k)
            (s.in_doubt k (sym x.still ∙ h))));
      }
    where
      count_own' : (k : ℕ) → k ≡ e.origin → count_at k (e ∷ c.entries) ≡ suc (count_at e.origin c.entries)
      count_own' k p = subst (λ (x : ℕ). count_at x (e ∷ c.entries) ≡ suc (count_at e.origin c.entries)) (sym p) (count_own e c.entries e.origin refl)

  -- a site is set to another vector, without running attempts
  pub restarted : (i : ℕ) (v : List ℕ) → ClosedBy c.entries (at v) → ((j : ℕ) → c'.reached i j ≡ at v j) → at v i ≡ count_at i c.entries
      → ((k j : ℕ) → k ≢ i → c'.reached k j ≡ c.reached k j)
      → ((k : ℕ) (u : TxnId) → c'.runs k u ≡ true → (k ≢ i) × (c.runs k u ≡ true))
      → ((k : ℕ) → ((k ≡ i) × (c'.down k ≡ false)) ⊎ ((k ≢ i) × (c'.down k ≡ c.down k)))
      → Sound count (record c { reached = c'.reached; runs = c'.runs; down = c'.down })
  restarted i v closed set own' same r d = record {
    numbered = s.numbered;
    sized = s.sized;
    own = λ k. elim (cases_eq k i) [
      | inl p ↦ subst (λ (x : ℕ). c'.reached x x ≡ count_at x c.entries) (sym p) (set i ∙ own')
      | inr m ↦ (same k k m ∙ s.own k)
    ];
    closed = λ k. elim (cases_eq k i) [
      | inl p ↦ subst (λ (x : ℕ). ClosedBy c.entries (c'.reached x)) (sym p) (closed_same c.entries (at v) (c'.reached i) set closed)
      | inr m ↦ closed_same c.entries (c.reached k) (c'.reached k) (λ j. same k j m) (s.closed k)
    ];
    running = λ k t h. (let x = r k t h in
        began_wider count (c.reached k) (c'.reached k) (c.begins t) (λ j. (let e = same k j x.0 in omega arith)) (s.running k t x.1));
    begins = s.begins;
    up = λ k t h. (let x = r k t h in elim (d k) [ inl q ↦ q.1 | inr q ↦ (q.1 ∙ s.up k t x.1) ]);
    in_doubt = λ k h. elim (d k) [
      | inl q ↦ absurd (false≢true (sym q.1 ∙ h))
      | inr q ↦ doubt_wider count c (record c { reached = c'.reached }) k (c.doubt k) refl (λ j. (let e = same k j q.0 in omega arith))
          (s.in_doubt k (sym q.1 ∙ h))
    ];
  }
