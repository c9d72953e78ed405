-- Under which epochs a partition stood settled at a site since a Route, by the terms of the partition: each with the place of the
-- Ask that ended it.
use Rattle.std.proofs.Common.{ℕ, suc, ◌<◌, ◌≡◌, ◌==◌, ◌&&◌, Bool, true, false, if◌then◌else◌, List, [], ◌∷◌, Option, Some, None, length, refl, sym, ap, ◌∙◌}
use Rattle.std.proofs.Common.{subst, arith, nat_lt}
use Rattle.std.proofs.lemmas.Bool.{lt-ltb, le-ltb}
use Rattle.std.specs.List.{AllByRecursion as Each, list_any, cons_option}
use Rattle.std.specs.Prelude.{◌||◌, filter_map, slice_index}
use Rattle.dm_event.specs.Layout.{Layout}
use Rattle.dm_event.specs.declared.placing.Placing.{Placing}
use Rattle.dm_event.specs.declared.placing.Placing.TheVariants.{Settled, Asked, Between, Granted}
use Rattle.dm_event.specs.declared.step.Pending.{Pending}
use Rattle.dm_event.specs.declared.step.Pending.TheVariants as pending
use Rattle.dm_event.specs.declared.step.Step.{Step}
use Rattle.dm_event.specs.declared.step.Step.TheVariants.{Route, Ask, Settle, Release, Grant, Restart}
use Rattle.dm_model.proofs.ListFacts.{each_map}
use Rattle.dm_model.specs.Attempts.{is_route}
use Rattle.dm_model.specs.Outcomes.{placings_since, settled_epoch, settled_epochs}
use Rattle.dm_model.specs.Placings.{placing}
use Rattle.dm_model.specs.Tests.{is_among}
use Rattle.dm_steps.proofs.Sites.{placing_next}
use Rattle.dm_steps.specs.Next.{next_placing}
use Rattle.dm_steps.specs.Pendings.{kept_of}

-- the partition was mastered so; until the Ask with so many steps before it
pub record Term : Type 0 where
  pub epoch : ℕ
  pub site : ℕ
  pub until : Option ℕ

abbrev pub close : ℕ → List Term → List Term
close n [] = []
close n (t ∷ ts) = record { epoch = t.epoch; site = t.site; until = Some n } ∷ ts

abbrev pub next_terms : Placing → Placing → ℕ → List Term → List Term
next_terms (Settled i x) (Settled j y) n ts = ts
next_terms (Settled i x) after n ts = close n ts
next_terms before (Settled j y) n ts = record { epoch = y; site = j; until = None } ∷ ts
next_terms before after n ts = ts

abbrev pub terms : Layout → ℕ → List Step → List Term
terms layout p [] = record { epoch = 0; site = slice_index layout.masters p; until = None } ∷ []
terms layout p (s ∷ past) = next_terms (placing layout past p) (placing layout (s ∷ past) p) (length past) (terms layout p past)

-- how many steps stand before the session's last Route
abbrev pub route_place : ℕ → List Step → Option ℕ
route_place c [] = None
route_place c (s ∷ past) = if is_route c s then Some (length past) else route_place c past

abbrev pub ends_after : ℕ → Option ℕ → Bool
ends_after r None = true
ends_after r (Some n) = nat_lt r n

abbrev pub is_term : ℕ → ℕ → ℕ → Term → Bool
is_term r e site t = (t.epoch == e) && ((t.site == site) && ends_after r t.until)

-- ---- only the last term is open, and where the partition is settled it is

record Over (n : ℕ) (t : Term) : Type 0 where
  place : ℕ
  ended : t.until ≡ Some place
  before : place < n

record Open (i x : ℕ) (t : Term) (ts : List Term) (n : ℕ) : Type 0 where
  epoch : t.epoch ≡ x
  site : t.site ≡ i
  open' : t.until ≡ None
  over : Each (Over n) ts

abbrev Good : Placing → List Term → ℕ → Type 0
Good (Settled i x) [] n = ⊥
Good (Settled i x) (t ∷ ts) n = Open i x t ts n
Good other ts n = Each (Over n) ts

later : (n : ℕ) (ts : List Term) → Each (Over n) ts → Each (Over (suc n)) ts
later n ts h = each_map (Over n) (Over (suc n)) (λ t o. (let m = o.before in record { place = o.place; ended = o.ended; before = omega (arith, m) })) ts h

abbrev Stays : Placing → Placing → Type 0
Stays (Settled i x) (Settled j y) = (i ≡ j) × (x ≡ y)
Stays before after = Unit {0}

good_step : (before after : Placing) (ts : List Term) (n : ℕ) → Stays before after → Good before ts n → Good after (next_terms before after n ts) (suc n)
good_step (Settled i x) (Settled j y) [] n s g = absurd g
good_step (Settled i x) (Settled j y) (t ∷ ts) n s g = record { epoch = g.epoch ∙ s.1; site = g.site ∙ s.0; open' = g.open'; over = later n ts g.over }
good_step (Settled i x) other [] n s g = absurd g
good_step (Settled i x) (Asked a b c) (t ∷ ts) n s g = (record { place = n; ended = refl; before = omega arith }, later n ts g.over)
good_step (Settled i x) (Between a b c v) (t ∷ ts) n s g = (record { place = n; ended = refl; before = omega arith }, later n ts g.over)
good_step (Settled i x) (Granted a b) (t ∷ ts) n s g = (record { place = n; ended = refl; before = omega arith }, later n ts g.over)
good_step other (Settled j y) ts n s g = record { epoch = refl; site = refl; open' = refl; over = later n ts g }
good_step other after ts n s g = later n ts g

-- a settled partition stays so or is no longer settled
moved_or : (b : Bool) (new : Placing) (i x : ℕ) → ((j y : ℕ) → new ≡ Settled j y → ⊥) → Stays (Settled i x) (if b then new else Settled i x)
moved_or true (Settled j y) i x h = absurd (h j y refl)
moved_or true (Asked a b c) i x h = tt
moved_or true (Between a b c v) i x h = tt
moved_or true (Granted a b) i x h = tt
moved_or false new i x h = (refl, refl)

same_or : (b : Bool) (i x : ℕ) → Stays (Settled i x) (if b then Settled i x else Settled i x)
same_or true i x = (refl, refl)
same_or false i x = (refl, refl)

stays : (p : ℕ) (s : Step) (kept : Option Pending) (before : Placing) → Stays before (next_placing p s kept before)
stays p (Ask part epoch to txn) kept (Settled i x) = moved_or (part == p) (Asked i x to) i x (λ j y e. cc (e))
stays p (Settle part epoch) kept (Settled i x) = same_or (part == p) i x
stays p (Release site part epoch to vector) kept (Settled i x) = moved_or (part == p) (Between site epoch to vector) i x (λ j y e. cc (e))
stays p (Grant site part epoch vector) kept (Settled i x) = moved_or (part == p) (Granted site epoch) i x (λ j y e. cc (e))
stays p (Restart site vector found) None (Settled i x) = (refl, refl)
stays p (Restart site vector found) (Some (pending.Commit e)) (Settled i x) = (refl, refl)
stays p (Restart site vector found) (Some (pending.Release part epoch to v)) (Settled i x) = moved_or (part == p) (Between site epoch to v) i x
    (λ j y e. cc (e))
stays p (Restart site vector found) (Some (pending.Grant part epoch v)) (Settled i x) = moved_or (part == p) (Granted site epoch) i x (λ j y e. cc (e))
stays p other kept (Settled i x) = (refl, refl)
stays p s kept (Asked a b c) = tt
stays p s kept (Between a b c v) = tt
stays p s kept (Granted a b) = tt

module _ (layout : Layout) (p : ℕ) where
  stays_at : (s : Step) (past : List Step) → Stays (placing layout past p) (placing layout (s ∷ past) p)
  stays_at s past = subst (λ (q : Placing). Stays (placing layout past p) q) (sym (placing_next layout s past p))
      (stays p s (kept_of s past) (placing layout past p))

  good : (past : List Step) → Good (placing layout past p) (terms layout p past) (length past)
  good [] = record { epoch = refl; site = refl; open' = refl; over = tt }
  good (s ∷ past) = good_step (placing layout past p) (placing layout (s ∷ past) p) (terms layout p past) (length past) (stays_at s past) (good past)

-- ---- what counts

none_over : (n e site : ℕ) (ts : List Term) → Each (Over n) ts → list_any (is_term n e site) ts ≡ false
none_over n e site [] h = refl
none_over n e site (t ∷ ts) h = by (t.epoch == e) (t.site == site) (ap (λ (o : Option ℕ). ends_after n o) h.0.ended
    ∙ le-ltb n h.0.place (let m = h.0.before in omega (arith, m)))
    (none_over n e site ts h.1)
  where
    by : (a b : Bool) → ends_after n t.until ≡ false → list_any (is_term n e site) ts ≡ false
        → ((a && (b && ends_after n t.until)) || list_any (is_term n e site) ts) ≡ false
    by true true f g = rw f g
    by true false f g = g
    by false b f g = g

absorb : (a b c r x : Bool) → x ≡ ((a && (b && true)) || r) → ((if b then a || x else x) ≡ ((a && (b && true)) || r))
absorb true true c r x h = refl
absorb true false c r x h = h
absorb false true c r x h = h
absorb false false c r x h = h

-- the epoch of a settled placing in front
in_front : (site e i x : ℕ) (eps : List ℕ) → is_among (cons_option (settled_epoch site (Settled i x)) eps) e
    ≡ (if i == site then (x == e) || is_among eps e else is_among eps e)
in_front site e i x eps = by (i == site)
  where
    by : (b : Bool) → is_among (cons_option (if b then Some x else None) eps) e ≡ (if b then (x == e) || is_among eps e else is_among eps e)
    by true = refl
    by false = refl

fresh_term : (a b x : Bool) → (if b then a || x else x) ≡ ((a && (b && true)) || x)
fresh_term true true x = refl
fresh_term true false x = refl
fresh_term false true x = refl
fresh_term false false x = refl

head_is : (r e site i x : ℕ) (t : Term) → t.epoch ≡ x → t.site ≡ i → t.until ≡ None → is_term r e site t ≡ ((x == e) && ((i == site) && true))
head_is r e site i x t f g h =
    ap (λ (n : ℕ). (n == e) && ((t.site == site) && ends_after r t.until)) f ∙ ap (λ (n : ℕ). (x == e) && ((n == site) && ends_after r t.until)) g
    ∙ ap (λ (o : Option ℕ). (x == e) && ((i == site) && ends_after r o)) h

closed_same : (r e site n : ℕ) (t : Term) (ts : List Term) → r < n → t.until ≡ None → list_any (is_term r e site) (t ∷ ts)
    ≡ list_any (is_term r e site) (close n (t ∷ ts))
closed_same r e site n t ts l u =
    ap (λ (b : Bool). ((t.epoch == e) && ((t.site == site) && b)) || list_any (is_term r e site) ts) (ap (λ (o : Option ℕ). ends_after r o) u
    ∙ sym (lt-ltb r n l))

count_step : (r e site : ℕ) (before after : Placing) (ts : List Term) (n : ℕ) (eps : List ℕ) → r < n → Stays before after → Good before ts n
    → is_among eps e ≡ list_any (is_term r e site) ts → is_among (cons_option (settled_epoch site after) eps) e
    ≡ list_any (is_term r e site) (next_terms before after n ts)
count_step r e site (Settled i x) (Settled j y) [] n eps l s g h = absurd g
count_step r e site (Settled i x) (Settled j y) (t ∷ ts) n eps l s g h =
    let hd = head_is r e site i x t g.epoch g.site g.open' in
    in_front site e j y eps
    ∙ ap (λ (k : ℕ). if k == site then (y == e) || is_among eps e else is_among eps e) (sym s.0)
    ∙ ap (λ (k : ℕ). if i == site then (k == e) || is_among eps e else is_among eps e) (sym s.1)
    ∙ absorb (x == e) (i == site) true (list_any (is_term r e site) ts) (is_among eps e) (h ∙ ap (λ (b : Bool). b || list_any (is_term r e site) ts) hd)
    ∙ ap (λ (b : Bool). b || list_any (is_term r e site) ts) (sym hd)
count_step r e site (Settled i x) other [] n eps l s g h = absurd g
count_step r e site (Settled i x) (Asked a b c) (t ∷ ts) n eps l s g h = h ∙ closed_same r e site n t ts l g.open'
count_step r e site (Settled i x) (Between a b c v) (t ∷ ts) n eps l s g h = h ∙ closed_same r e site n t ts l g.open'
count_step r e site (Settled i x) (Granted a b) (t ∷ ts) n eps l s g h = h ∙ closed_same r e site n t ts l g.open'
count_step r e site (Asked a b c) (Settled j y) ts n eps l s g h = in_front site e j y eps ∙ fresh_term (y == e) (j == site) (is_among eps e)
    ∙ ap (λ (x : Bool). ((y == e) && ((j == site) && true)) || x) h
count_step r e site (Between a b c v) (Settled j y) ts n eps l s g h = in_front site e j y eps ∙ fresh_term (y == e) (j == site) (is_among eps e)
    ∙ ap (λ (x : Bool). ((y == e) && ((j == site) && true)) || x) h
count_step r e site (Granted a b) (Settled j y) ts n eps l s g h = in_front site e j y eps ∙ fresh_term (y == e) (j == site) (is_among eps e)
    ∙ ap (λ (x : Bool). ((y == e) && ((j == site) && true)) || x) h
count_step r e site before after ts n eps l s g h = h

-- at the Route itself only the open term counts
at_route : (e site : ℕ) (now : Placing) (ts : List Term) (n : ℕ) → Good now ts n → is_among (cons_option (settled_epoch site now) []) e
    ≡ list_any (is_term n e site) ts
at_route e site (Settled i x) [] n g = absurd g
at_route e site (Settled i x) (t ∷ ts) n g =
    in_front site e i x [] ∙ fresh_term (x == e) (i == site) false
    ∙ ap (λ (b : Bool). ((x == e) && ((i == site) && true)) || b) (sym (none_over n e site ts g.over))
    ∙ ap (λ (b : Bool). b || list_any (is_term n e site) ts) (sym (head_is n e site i x t g.epoch g.site g.open'))
at_route e site other ts n g = sym (none_over n e site ts g)

next_same : (q : Placing) (n : ℕ) (ts : List Term) → next_terms q q n ts ≡ ts
next_same (Settled i x) n ts = refl
next_same (Asked a b c) n ts = refl
next_same (Between a b c v) n ts = refl
next_same (Granted a b) n ts = refl

route_before : (c : ℕ) (past : List Step) (r : ℕ) → route_place c past ≡ Some r → r < length past
route_before c [] r h = absurd (cc (h))
route_before c (s ∷ past) r h = by (is_route c s) h (route_before c past r)
  where
    by : (b : Bool) → (if b then Some (length past) else route_place c past) ≡ Some r → (route_place c past ≡ Some r → r < length past) → r < suc (length past)
    by true g k = (let f : length past ≡ r = cc (g) in omega (arith, f))
    by false g k = (let l = k g in omega (arith, l))

stays_placed : (layout : Layout) (c p : ℕ) (s : Step) (past : List Step) → is_route c s ≡ true → placing layout (s ∷ past) p ≡ placing layout past p
stays_placed layout c p (Route txn want min site choice) past h = refl
stays_placed layout c p other past h = absurd (cc (h))

module _ (layout : Layout) (c p site e : ℕ) where
  pub settled_by_terms : (past : List Step) (r : ℕ) → route_place c past ≡ Some r
      → is_among (settled_epochs layout past c p site) e ≡ list_any (is_term r e site) (terms layout p past)
  settled_by_terms [] r h = absurd (cc (h))
  settled_by_terms (s ∷ past) r h = by (is_route c s) refl h (settled_by_terms past r)
    where
      by : (b : Bool) → is_route c s ≡ b → (if b then Some (length past) else route_place c past) ≡ Some r
          → (route_place c past ≡ Some r → is_among (settled_epochs layout past c p site) e ≡ list_any (is_term r e site) (terms layout p past))
          → is_among (cons_option (settled_epoch site (placing layout (s ∷ past) p))
          (filter_map (settled_epoch site) (if b then [] else placings_since layout past c p))) e
          ≡ list_any (is_term r e site) (next_terms (placing layout past p) (placing layout (s ∷ past) p) (length past) (terms layout p past))
      by true f g k =
          let place : length past ≡ r = cc (g) in
          let same = stays_placed layout c p s past f in
          ap (λ (q : Placing). is_among (cons_option (settled_epoch site q) []) e) same
          ∙ at_route e site (placing layout past p) (terms layout p past) (length past) (good layout p past)
          ∙ ap (λ (n : ℕ). list_any (is_term n e site) (terms layout p past)) place
          ∙ ap (λ (ts : List Term). list_any (is_term r e site) ts)
          (sym (ap (λ (q : Placing). next_terms (placing layout past p) q (length past) (terms layout p past)) same
          ∙ next_same (placing layout past p) (length past) (terms layout p past)))
      by false f g k =
          count_step r e site (placing layout past p) (placing layout (s ∷ past) p) (terms layout p past) (length past) (settled_epochs layout past c p site)
          (route_before c past r g) (stays_at layout p s past) (good layout p past) (k g)
