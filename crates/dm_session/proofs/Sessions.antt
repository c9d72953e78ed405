-- A session after one of its calls.
use Rattle.std.proofs.Common.{inl, ◌≡◌, ℕ, zero, suc, ◌+◌, ◌≤◌, ◌<◌, Bool, true, false, ◌==◌, ◌||◌, nat_le, map, if◌then◌else◌, List, [], ◌∷◌, ◌++◌, length}
use Rattle.std.proofs.Common.{Option, Some, None, Result, Ok, Err, refl, sym, ap, ◌∙◌, subst, arith, append-nil, unwrap_or, replicate}
use mathlib.Core.List.{IsPrefix}
use Rattle.std.proofs.lemmas.Bool.{eq-eqb, false≢true, and_from, le-leb}
use Rattle.std.proofs.lemmas.List.{reverse-append, length-reverse}
use Rattle.std.specs.List.{range_with_len}
use Rattle.std.specs.Prelude.{reverse, IsSomeAnd, OnOk, is_err}
use Rattle.atomic_table.specs.Seated.{TableId}
use Rattle.dm_session.proofs.Carried.{replies_stay, routes_stay, vector_stays, may_say_stays, may_route_stays}
use Rattle.dm_session.proofs.Following.{reply_follows, route_follows}
use Rattle.dm_invariant.proofs.Passing.{given_back, went_on, went_to}
use Rattle.dm_invariant.specs.Turning.{Turned}
use Rattle.dm_invariant.specs.Stations.{own}
use Rattle.dm_invariant.specs.Stations.{View, no_terms, terms_of, layout_of, Went}
use Rattle.dm_chronicle.proofs.Lists.{mine_append, prefix_more, prefix_length}
use Rattle.dm_chronicle.specs.Belongs.{belongs}
use Rattle.dm_chronicle.specs.Rule.{keep_if, In}
use Rattle.dm_chronicle.specs.Standing.{SameSteps}
use Rattle.dm_core.specs.Lawful.{Terms, may_follow}
use Rattle.dm_event.specs.Actors.{actors}
use Rattle.dm_event.specs.Layout.{Layout, is_between, is_site}
use Rattle.dm_event.specs.Vectors.{at, greatest}
use Rattle.dm_event.specs.declared.actor.Actor.{Actor}
use Rattle.dm_event.specs.declared.actor.Actor.TheVariants.{Session}
use Rattle.dm_event.specs.declared.step.Choice.{Choice}
use Rattle.dm_event.specs.declared.step.Said.{Said}
use Rattle.dm_event.specs.declared.step.Step.{Step}
use Rattle.dm_event.specs.declared.step.Step.TheVariants.{Route, Reply}
use Rattle.dm_event.specs.declared.step.TxnId.{TxnId}
use Rattle.dm_event.specs.declared.step.Want.{Want}
use Rattle.dm_event.specs.declared.step.Want.TheVariants as want
use Rattle.dm_model.proofs.VectorFacts.{long_by}
use Rattle.dm_model.specs.Attempts.{replies, routes, is_reply, is_route, state}
use Rattle.dm_model.specs.Choices.{due_for}
use Rattle.dm_model.specs.Outcomes.{may_say}
use Rattle.dm_model.specs.Rows.{may_route}
use Rattle.dm_model.specs.Shape.{is_shaped, is_said, is_want}
use Rattle.dm_model.specs.Sessions.{session_vector, answered}
use Rattle.dm_model.specs.Words.{since, count_of}
use Rattle.dm_room.specs.Room.{items_of}
use Rattle.dm_session.specs.Sitting.{Sitting, IsAnswer, IsSession, Between, Sent}

here_if : {X : Type 0} (b : Bool) (x y : X) → b ≡ true → (if b then x else y) ≡ x
here_if true x y h = refl
here_if false x y h = absurd (false≢true h)

-- no step of the session
pub none_between : (c : ℕ) (old new : List Step) → own (Session c) new ≡ own (Session c) old → Between c old new
none_between c old new same = ([], same ∙ sym (append-nil (own (Session c) old)), tt)

-- the pass was elsewhere
pub back_is : (table : TableId) (s : Sitting) (p : View) → IsSession table s → p.table ≡ s.pass.table → p.fixed ≡ s.pass.fixed → p.actors ≡ s.pass.actors
    → IsPrefix s.pass.seen p.seen
    → Between s.id s.pass.seen p.seen → IsSession table (record s { pass = p })
back_is table s p i t f a begins b = record {
  table_is = t ∙ i.table_is;
  actors = a ∙ i.actors;
  least = i.least;
  most = i.most;
  count_is = i.count_is ∙ sym (replies_stay s.id s.pass.seen p.seen b.0 begins b.1 b.2);
  tries_is = i.tries_is ∙ sym (routes_stay s.id s.pass.seen p.seen b.0 begins b.1 b.2);
  vector_is = i.vector_is ∙ (sym (vector_stays s.id s.pass.seen p.seen b.0 begins b.1 b.2 (layout_of s.pass).sites)
      ∙ ap (λ (g : Option Terms). session_vector (unwrap_or g no_terms).layout.sites (reverse p.seen) s.id) (sym f));
}

-- a Route was pushed
pub routed_is : (table : TableId) (s : Sitting) (p : View) (turn : List Step) (txn : TxnId) (wanted : Want) (min : List ℕ) (to : ℕ) (by : Choice)
    → IsSession table s
    → p.table ≡ s.pass.table → p.fixed ≡ s.pass.fixed → p.actors ≡ s.pass.actors → IsPrefix s.pass.seen turn
    → own (Session s.id) turn ≡ own (Session s.id) s.pass.seen
    → txn.session ≡ s.id → p.seen ≡ turn ++ Route txn wanted min to by ∷ []
    → IsSession table (record s { tries = s.tries + 1; to = to; by = by; pass = p })
routed_is table s p turn txn wanted min to by i t f a begins same is e =
    let q : View = record s.pass { seen = turn } in
    let r = back_is table s q i refl refl refl begins (none_between s.id s.pass.seen turn same) in
    let back : reverse p.seen ≡ Route txn wanted min to by ∷ reverse turn = ap reverse e ∙ reverse-append turn (Route txn wanted min to by ∷ []) in
    let one : routes s.id (Route txn wanted min to by ∷ reverse turn) ≡ suc (routes s.id (reverse turn)) =
    here_if (txn.session == s.id) (suc (routes s.id (reverse turn))) (routes s.id (reverse turn)) (eq-eqb txn.session s.id is) in
    record {
      table_is = t ∙ i.table_is;
      actors = a ∙ i.actors;
      least = i.least;
      most = i.most;
      count_is = r.count_is ∙ sym (ap (replies s.id) back);
      tries_is = (let u : s.tries ≡ routes s.id (reverse turn) = r.tries_is in let v : routes s.id (reverse p.seen) ≡ suc (routes s.id (reverse turn)) =
          ap (routes s.id) back ∙ one in omega (arith, u, v));
      vector_is = r.vector_is ∙ (ap (λ (g : Option Terms). session_vector (unwrap_or g no_terms).layout.sites (reverse turn) s.id) (sym f)
          ∙ ap (λ (past : List Step). session_vector (layout_of p).sites past s.id) (sym back));
    }

-- a Reply was pushed
pub replied_is : (table : TableId) (s : Sitting) (p : View) (turn : List Step) (number : ℕ) (o : Said) (vector : List ℕ) → IsSession table s
    → p.table ≡ s.pass.table → p.fixed ≡ s.pass.fixed → p.actors ≡ s.pass.actors → IsPrefix s.pass.seen turn
    → own (Session s.id) turn ≡ own (Session s.id) s.pass.seen
    → p.seen ≡ turn ++ Reply s.id number o ∷ [] → vector ≡ session_vector (layout_of p).sites (reverse p.seen) s.id
    → IsSession table (record s { count = s.count + 1; tries = 0; vector = vector; pass = p })
replied_is table s p turn number o vector i t f a begins same e v =
    let q : View = record s.pass { seen = turn } in
    let r = back_is table s q i refl refl refl begins (none_between s.id s.pass.seen turn same) in
    let back : reverse p.seen ≡ Reply s.id number o ∷ reverse turn = ap reverse e ∙ reverse-append turn (Reply s.id number o ∷ []) in
    let one : replies s.id (Reply s.id number o ∷ reverse turn) ≡ suc (replies s.id (reverse turn)) =
    here_if (s.id == s.id) (suc (replies s.id (reverse turn))) (replies s.id (reverse turn)) (eq-eqb s.id s.id refl) in
    let none : routes s.id (Reply s.id number o ∷ reverse turn) ≡ 0 =
    ap (count_of (is_route s.id)) (here_if (s.id == s.id) [] (Reply s.id number o ∷ since (is_reply s.id) (reverse turn)) (eq-eqb s.id s.id refl)) in
    record {
      table_is = t ∙ i.table_is;
      actors = a ∙ i.actors;
      least = i.least;
      most = i.most;
      count_is = (let u : s.count ≡ replies s.id (reverse turn) = r.count_is in let w : replies s.id (reverse p.seen) ≡ suc (replies s.id (reverse turn)) =
          ap (replies s.id) back ∙ one in omega (arith, u, w));
      tries_is = sym (ap (routes s.id) back ∙ none);
      vector_is = v;
    }

-- a session of which no step stands
pub new_is : (table : TableId) (id sites to : ℕ) (by : Choice) (p : View) → p.table ≡ table → p.actors ≡ Session id ∷ [] → 1 ≤ id → id ≤ 32
    → own (Session id) p.seen ≡ []
    → (layout_of p).sites ≡ sites → (vector : List ℕ) → vector ≡ replicate {A = ℕ} sites 0 → replicate {A = ℕ} sites 0 ≡ session_vector sites [] id
    → IsSession table (record { id = id; count = 0; tries = 0; to = to; by = by; vector = vector; pass = p })
new_is table id sites to by p t a least most none at vector v zeros = record {
  table_is = t;
  actors = a;
  least = least;
  most = most;
  count_is = sym (replies_stay id [] p.seen [] (p.seen, refl) none tt);
  tries_is = sym (routes_stay id [] p.seen [] (p.seen, refl) none tt);
  vector_is = v ∙ (zeros ∙ (ap (λ (k : ℕ). session_vector k [] id) (sym at) ∙ sym (vector_stays id [] p.seen [] (p.seen, refl) none tt (layout_of p).sites)));
}

-- ---- the session's own steps

route_mine : (c : ℕ) (txn : TxnId) (wanted : Want) (min : List ℕ) (to : ℕ) (by : Choice) → txn.session ≡ c
    → belongs actors (Route txn wanted min to by) (Session c) ≡ true
route_mine c txn wanted min to by is = ap (λ (b : Bool). b || false) (eq-eqb txn.session c is)

pub pushed : (c : ℕ) (old turn new : List Step) (s : Step) → belongs actors s (Session c) ≡ true → own (Session c) turn ≡ own (Session c) old
    → new ≡ turn ++ s ∷ [] → own (Session c) new ≡ own (Session c) old ++ s ∷ []
pushed c old turn new s is same e =
    ap (own (Session c)) e ∙ (mine_append (belongs actors) (Session c) turn (s ∷ [])
    ∙ (ap (λ (b : Bool). own (Session c) turn ++ keep_if b s []) is ∙ ap (λ (l : List Step). l ++ s ∷ []) same))

pub route_pushed : (c : ℕ) (old turn new : List Step) (txn : TxnId) (wanted : Want) (min : List ℕ) (to : ℕ) (by : Choice) → txn.session ≡ c
    → own (Session c) turn ≡ own (Session c) old
    → new ≡ turn ++ Route txn wanted min to by ∷ [] → own (Session c) new ≡ own (Session c) old ++ Route txn wanted min to by ∷ []
route_pushed c old turn new txn wanted min to by is same e = pushed c old turn new (Route txn wanted min to by) (route_mine c txn wanted min to by is) same e

pub reply_pushed : (c number : ℕ) (old turn new : List Step) (o : Said) → own (Session c) turn ≡ own (Session c) old
    → new ≡ turn ++ Reply c number o ∷ [] → own (Session c) new ≡ own (Session c) old ++ Reply c number o ∷ []
reply_pushed c number old turn new o same e = pushed c old turn new (Reply c number o) (ap (λ (b : Bool). b || false) (eq-eqb c c refl)) same e

pub begins_more : (old turn new : List Step) (s : Step) → IsPrefix old turn → new ≡ turn ++ s ∷ [] → IsPrefix old new
begins_more old turn new s p e = subst (λ (l : List Step). IsPrefix old l) (sym e) (prefix_more old turn (s ∷ []) p)

-- ---- what a turn allows

there_is : (fixed : Option Terms) (P Q : Terms → Type 0) → IsSomeAnd fixed P → ((f : Terms) → fixed ≡ Some f → Q f) → IsSomeAnd fixed Q
there_is None P Q h k = absurd h
there_is (Some f) P Q h k = k f refl

layout_is : (p : View) (fixed : Option Terms) (f : Terms) → fixed ≡ p.fixed → fixed ≡ Some f → layout_of p ≡ f.layout
layout_is p fixed f e g = ap (λ (o : Option Terms). (unwrap_or o no_terms).layout) (sym e ∙ g)

pub reply_may : (table : TableId) (s v : Sitting) (fixed : Option Terms) (turn : List Step) (o : Said) (P : Terms → Type 0) → IsSession table s → s ≡ v
    → fixed ≡ s.pass.fixed → IsSomeAnd fixed P
    → IsPrefix s.pass.seen turn → own (Session s.id) turn ≡ own (Session s.id) s.pass.seen
    → is_said (layout_of v.pass) o ≡ true → may_say (layout_of v.pass) (reverse v.pass.seen) v.id o ≡ true
    → IsSomeAnd fixed (λ f. may_follow f turn (Reply s.id (s.count + 1) o))
reply_may table s v fixed turn o P i e f some begins same fits allowed = there_is fixed P (λ g. may_follow g turn (Reply s.id (s.count + 1) o)) some (λ g h.
    let l : layout_of s.pass ≡ g.layout = layout_is s.pass fixed g f h in
    let fits' : is_said g.layout o ≡ true =
    subst (λ (y : Layout). is_said y o ≡ true) l (subst (λ (x : Sitting). is_said (layout_of x.pass) o ≡ true) (sym e) fits) in
    let may : may_say g.layout (reverse s.pass.seen) s.id o ≡ true =
    subst (λ (y : Layout). may_say y (reverse s.pass.seen) s.id o ≡ true) l
    (subst (λ (x : Sitting). may_say (layout_of x.pass) (reverse x.pass.seen) x.id o ≡ true) (sym e) allowed) in
    let due : s.count + 1 ≡ replies s.id (reverse turn) + 1 =
    ap (λ (n : ℕ). n + 1) (i.count_is ∙ sym (replies_stay s.id s.pass.seen turn [] begins (same ∙ sym (append-nil (own (Session s.id) s.pass.seen))) tt)) in
    let shaped : is_shaped g.layout (Reply s.id (s.count + 1) o) ≡ true =
    and_from (is_between 1 32 s.id) _ (and_from (nat_le 1 s.id) (nat_le s.id 32) (le-leb 1 s.id i.least) (le-leb s.id 32 i.most))
    (and_from (nat_le 1 (s.count + 1)) _ (le-leb 1 (s.count + 1) (omega arith)) fits') in
    reply_follows g.layout (reverse turn) s.id (s.count + 1) o shaped due (may_say_stays g.layout s.id o s.pass.seen turn begins same may))

pub answer_is : (table : TableId) (s v : Sitting) (fixed : Option Terms) (turn : List Step) (o : Said) (P : Terms → Type 0) → IsSession table s → s ≡ v
    → fixed ≡ s.pass.fixed → IsSomeAnd fixed P → IsPrefix s.pass.seen turn → own (Session s.id) turn ≡ own (Session s.id) s.pass.seen
    → v.count < items_of (terms_of v.pass).items v.id → IsSomeAnd fixed (λ f. IsAnswer f turn (Reply s.id (s.count + 1) o))
answer_is table s v fixed turn o P i e f some begins same counted = there_is fixed P (λ g. IsAnswer g turn (Reply s.id (s.count + 1) o)) some (λ g h.
    let few : s.count < items_of (terms_of s.pass).items s.id = subst (λ (x : Sitting). x.count < items_of (terms_of x.pass).items x.id) (sym e) counted in
    let terms : terms_of s.pass ≡ g = ap (λ (o : Option Terms). unwrap_or o no_terms) (sym f ∙ h) in
    let here : s.count < items_of g.items s.id = subst (λ (y : Terms). s.count < items_of y.items s.id) terms few in
    let n : s.count ≡ replies s.id (reverse turn) =
    i.count_is ∙ sym (replies_stay s.id s.pass.seen turn [] begins (same ∙ sym (append-nil (own (Session s.id) s.pass.seen))) tt) in
    subst (λ (k : ℕ). k < items_of g.items s.id) n here)

pub route_may : (table : TableId) (s v : Sitting) (fixed : Option Terms) (turn : List Step) (wanted : Want) (site : ℕ) (due : ℕ × Choice)
    (P : Terms → Type 0) → IsSession table s → s ≡ v → fixed ≡ s.pass.fixed → IsSomeAnd fixed P
    → IsPrefix s.pass.seen turn → own (Session s.id) turn ≡ own (Session s.id) s.pass.seen
    → is_want (layout_of v.pass) wanted ≡ true → may_route (state v.id (reverse v.pass.seen)) ≡ true
    → due ≡ due_for (layout_of s.pass) (reverse turn) s.id wanted site → is_site (layout_of s.pass) due.0 ≡ true
    → IsSomeAnd fixed (λ f. may_follow f turn (Route (record { session = s.id; number = s.count + 1; attempt = s.tries + 1 }) wanted s.vector due.0 due.1))
route_may table s v fixed turn wanted site due P i e f some begins same fits may due_is there =
    there_is fixed P (λ g. may_follow g turn (Route (record { session = s.id; number = s.count + 1; attempt = s.tries + 1 }) wanted s.vector due.0 due.1))
    some (λ g h.
    let l : layout_of s.pass ≡ g.layout = layout_is s.pass fixed g f h in
    let none = none_between s.id s.pass.seen turn same in
    let fits' : is_want g.layout wanted ≡ true =
    subst (λ (y : Layout). is_want y wanted ≡ true) l (subst (λ (x : Sitting). is_want (layout_of x.pass) wanted ≡ true) (sym e) fits) in
    let may' : may_route (state s.id (reverse turn)) ≡ true =
    may_route_stays s.id s.pass.seen turn begins same (subst (λ (x : Sitting). may_route (state x.id (reverse x.pass.seen)) ≡ true) (sym e) may) in
    let there' : is_site g.layout due.0 ≡ true = subst (λ (y : Layout). is_site y due.0 ≡ true) l there in
    let vector : s.vector ≡ session_vector g.layout.sites (reverse turn) s.id = i.vector_is
    ∙ (sym (vector_stays s.id s.pass.seen turn none.0 begins none.1 none.2 (layout_of s.pass).sites)
    ∙ ap (λ (y : Layout). session_vector y.sites (reverse turn) s.id) l) in
    let number : s.count + 1 ≡ replies s.id (reverse turn) + 1 =
    ap (λ (n : ℕ). n + 1) (i.count_is ∙ sym (replies_stay s.id s.pass.seen turn none.0 begins none.1 none.2)) in
    let attempt : s.tries + 1 ≡ routes s.id (reverse turn) + 1 =
    ap (λ (n : ℕ). n + 1) (i.tries_is ∙ sym (routes_stay s.id s.pass.seen turn none.0 begins none.1 none.2)) in
    let long : length s.vector ≡ g.layout.sites = ap (λ (u : List ℕ). length u) vector
    ∙ long_by g.layout.sites (λ j. greatest (map (λ w. at w j) (answered s.id (reverse turn)))) in
    let shaped : is_shaped g.layout (Route (record { session = s.id; number = s.count + 1; attempt = s.tries + 1 }) wanted s.vector due.0 due.1) ≡ true =
    and_from _ _ (and_from (is_between 1 32 s.id) _ (and_from (nat_le 1 s.id) (nat_le s.id 32) (le-leb 1 s.id i.least) (le-leb s.id 32 i.most))
    (and_from (nat_le 1 (s.count + 1)) (nat_le 1 (s.tries + 1)) (le-leb 1 (s.count + 1) (omega arith)) (le-leb 1 (s.tries + 1) (omega arith))))
    (and_from (is_want g.layout wanted) _ fits' (and_from (length s.vector == g.layout.sites) _ (eq-eqb (length s.vector) g.layout.sites long) there')) in
    let due_g : due ≡ due_for g.layout (reverse turn) s.id wanted site = due_is ∙ ap (λ (y : Layout). due_for y (reverse turn) s.id wanted site) l in
    let to : due.0 ≡ (due_for g.layout (reverse turn) s.id wanted due.0).0 = again g.layout (reverse turn) s.id wanted site due due_g in
    let by : due.1 ≡ (due_for g.layout (reverse turn) s.id wanted due.0).1 = again_by g.layout (reverse turn) s.id wanted site due due_g in
    route_follows g.layout (reverse turn) (record { session = s.id; number = s.count + 1; attempt = s.tries + 1 }) wanted s.vector due.0 due.1 shaped number
    may' attempt vector to by)
  where
    again : (layout : Layout) (past : List Step) (c : ℕ) (w : Want) (site : ℕ) (d : ℕ × Choice) → d ≡ due_for layout past c w site
        → d.0 ≡ (due_for layout past c w d.0).0
    again layout past c (want.Txn keys) site d e' = ap (λ (x : ℕ × Choice). x.0) e'
    again layout past c (want.Place part) site d e' = refl
    again layout past c want.Restart site d e' = refl

    again_by : (layout : Layout) (past : List Step) (c : ℕ) (w : Want) (site : ℕ) (d : ℕ × Choice) → d ≡ due_for layout past c w site
        → d.1 ≡ (due_for layout past c w d.0).1
    again_by layout past c (want.Txn keys) site d e' = ap (λ (x : ℕ × Choice). x.1) e'
    again_by layout past c (want.Place part) site d e' = ap (λ (x : ℕ × Choice). x.1) e'
    again_by layout past c want.Restart site d e' = ap (λ (x : ℕ × Choice). x.1) e'

-- ---- a session's Routes are no more than the steps

counted_most : (p : Step → Bool) (xs : List Step) → count_of p xs ≤ length xs
counted_most p [] = omega arith
counted_most p (x ∷ xs) = by (p x) (counted_most p xs)
  where
    by : (b : Bool) → count_of p xs ≤ length xs → (if b then suc (count_of p xs) else count_of p xs) ≤ suc (length xs)
    by true h = omega (arith, h)
    by false h = omega (arith, h)

since_most : (p : Step → Bool) (xs : List Step) → length (since p xs) ≤ length xs
since_most p [] = omega arith
since_most p (x ∷ xs) = by (p x) (since_most p xs)
  where
    by : (b : Bool) → length (since p xs) ≤ length xs → length (if b then [] else x ∷ since p xs) ≤ suc (length xs)
    by true h = omega arith
    by false h = omega (arith, h)

pub tries_most : (table : TableId) (s : Sitting) (turn : List Step) → IsSession table s → IsPrefix s.pass.seen turn → s.tries ≤ length turn
tries_most table s turn i begins =
    let a = counted_most (is_route s.id) (since (is_reply s.id) (reverse s.pass.seen)) in
    let b = since_most (is_reply s.id) (reverse s.pass.seen) in
    let d : length (reverse s.pass.seen) ≡ length s.pass.seen = length-reverse s.pass.seen in
    let e = i.tries_is in
    let f = prefix_length s.pass.seen turn begins in
    omega (arith, a, b, d, e, f)

pub zeros_are : (sites id : ℕ) → replicate {A = ℕ} sites 0 ≡ session_vector sites [] id
zeros_are sites id = from 1 sites
  where
    from : (a n : ℕ) → replicate {A = ℕ} n 0 ≡ map (λ (j : ℕ). 0) (range_with_len a n)
    from a zero = refl
    from a (suc n) = ap (λ (l : List ℕ). 0 ∷ l) (from (a + 1) n)

-- ---- a turn

pub own_same : (c : ℕ) (p : View) (turn : List Step) → p.actors ≡ Session c ∷ [] → SameSteps (belongs actors) p.actors p.seen turn
    → own (Session c) turn ≡ own (Session c) p.seen
own_same c p turn a same = same (Session c) (subst (λ (l : List Actor). In (Session c) l) (sym a) (inl refl))

-- the pass that was lent comes back with what the turn has
pub answered_back : (was lent p : View) (held : List Actor) (steps : List Step) → lent ≡ record was { actors = [] } → held ≡ was.actors
    → p ≡ record lent { actors = held; seen = steps } → p ≡ record was { seen = steps }
answered_back was lent p held steps l a e = given_back was lent p held steps l a e

pub went_turn : (was p : View) (turn : List Step) (step : Step) → IsPrefix was.seen turn → p ≡ record was { seen = turn ++ step ∷ [] } → Went was p
went_turn was p turn step begins e = went_on was p turn step begins e

pub answered_vector : (id : ℕ) (v : List ℕ) (was p : View) (fixed : Option Terms) (steps : List Step) → fixed ≡ was.fixed → p ≡ record was { seen = steps }
    → v ≡ session_vector (unwrap_or fixed no_terms).layout.sites (reverse steps) id → v ≡ session_vector (layout_of p).sites (reverse p.seen) id
answered_vector id v was p fixed steps f e h =
    h ∙ (ap (λ (o : Option Terms). session_vector (unwrap_or o no_terms).layout.sites (reverse steps) id) (f ∙ sym (ap (λ (q : View). q.fixed) e))
    ∙ ap (λ (l : List Step). session_vector (layout_of p).sites (reverse l) id) (sym (ap (λ (q : View). q.seen) e)))

abbrev pub Begins : List Step → List Step → Type 0
Begins xs ys = IsPrefix xs ys

-- the book's schema is the pass's
pub book_layout : (p : View) (fixed : Option Terms) (now : Terms) → fixed ≡ p.fixed → fixed ≡ Some now → now.layout ≡ layout_of p
book_layout p fixed now e g = sym (layout_is p fixed now e g)

-- the Route with what the book of the turn tells
pub route_in : (table : TableId) (s v : Sitting) (fixed : Option Terms) (now : Terms) (steps turn : List Step) (wanted : Want) (site : ℕ) (due : ℕ × Choice)
    (attempt : ℕ) (P : Terms → Type 0) → IsSession table s → s ≡ v → fixed ≡ s.pass.fixed → IsSomeAnd fixed P
    → IsPrefix s.pass.seen turn → own (Session s.id) turn ≡ own (Session s.id) s.pass.seen
    → is_want (layout_of v.pass) wanted ≡ true → may_route (state v.id (reverse v.pass.seen)) ≡ true
    → steps ≡ turn → fixed ≡ Some now
    → due ≡ due_for now.layout (reverse steps) s.id wanted site → is_site now.layout due.0 ≡ true → attempt ≡ s.tries + 1
    → IsSomeAnd fixed (λ f. may_follow f turn (Route (record { session = s.id; number = s.count + 1; attempt = attempt }) wanted s.vector due.0 due.1))
route_in table s v fixed now steps turn wanted site due attempt P i e f some begins same fits may st fx due_is there at =
    let l = book_layout s.pass fixed now f fx in
    let d : due ≡ due_for (layout_of s.pass) (reverse turn) s.id wanted site = due_is
    ∙ (ap (λ (y : Layout). due_for y (reverse steps) s.id wanted site) l
    ∙ ap (λ (z : List Step). due_for (layout_of s.pass) (reverse z) s.id wanted site) st) in
    let h : is_site (layout_of s.pass) due.0 ≡ true = subst (λ (y : Layout). is_site y due.0 ≡ true) l there in
    subst (λ (n : ℕ). IsSomeAnd fixed (λ f. may_follow f turn (Route (record { session = s.id; number = s.count + 1; attempt = n }) wanted s.vector due.0
    due.1))) (sym at)
    (route_may table s v fixed turn wanted site due P i e f some begins same fits may d h)

pub sent_is : (s b : Sitting) (fixed : Option Terms) (now : Terms) (steps turn : List Step) (txn : TxnId) (wanted : Want) (site : ℕ) → txn.session ≡ s.id
    → txn.number ≡ s.count + 1
    → own (Session s.id) turn ≡ own (Session s.id) s.pass.seen → b.pass.seen ≡ turn ++ Route txn wanted s.vector b.to b.by ∷ [] → fixed ≡ s.pass.fixed
    → steps ≡ turn → fixed ≡ Some now
    → (b.to, b.by) ≡ due_for now.layout (reverse steps) s.id wanted site → is_site now.layout b.to ≡ true → Sent s wanted site txn b
sent_is s b fixed now steps turn txn wanted site is n same e f st fx due_is there =
    let l = book_layout s.pass fixed now f fx in
    let d : (b.to, b.by) ≡ due_for (layout_of s.pass) (reverse turn) s.id wanted site = due_is
    ∙ (ap (λ (y : Layout). due_for y (reverse steps) s.id wanted site) l
    ∙ ap (λ (z : List Step). due_for (layout_of s.pass) (reverse z) s.id wanted site) st) in
    record {
      session = is;
      number = n;
      turn = turn;
      seen = e;
      site_due = ap (λ (x : ℕ × Choice). x.0) d;
      choice_due = ap (λ (x : ℕ × Choice). x.1) d;
      there = subst (λ (y : Layout). is_site y b.to ≡ true) l there;
      did = route_pushed s.id s.pass.seen turn b.pass.seen txn wanted s.vector b.to b.by is same e;
    }

pub back_in : (table : TableId) (s v : Sitting) (p : View) → IsSession table s → s ≡ v → Went v.pass p → Between v.id v.pass.seen p.seen
    → IsSession table (record s { pass = p })
back_in table s v p i e w b =
    let w' : Went s.pass p = subst (λ (x : Sitting). Went x.pass p) (sym e) w in
    back_is table s p i w'.table w'.fixed w'.actors w'.begins (subst (λ (x : Sitting). Between x.id x.pass.seen p.seen) (sym e) b)

-- ---- a Route

pub not_err : {A E : Type 0} (P : Type 0) (r : Result A E) → OnOk r P → is_err r ≡ false → P
not_err P (Ok a) p f = p
not_err P (Err e) p f = absurd (cc (f))

-- no step came
pub left_is : (table : TableId) (s : Sitting) (lent p turn : View) (steps : List Step) (fixed : Option Terms) → IsSession table s
    → lent ≡ record s.pass { actors = [] }
    → turn.actors ≡ s.pass.actors → Turned s.pass steps fixed → turn.seen ≡ steps → p ≡ record lent { actors = turn.actors; seen = turn.seen }
    → IsSession table (record s { pass = p })
left_is table s lent p turn steps fixed i l a t st e =
    let b = given_back s.pass lent p turn.actors turn.seen l a e in
    back_is table s p i (ap (λ (v : View). v.table) b) (ap (λ (v : View). v.fixed) b) (ap (λ (v : View). v.actors) b)
    (subst (λ (l : List Step). IsPrefix s.pass.seen l) (sym (ap (λ (v : View). v.seen) b ∙ st)) t.begins)
    (none_between s.id s.pass.seen p.seen (ap (own (Session s.id)) (ap (λ (v : View). v.seen) b ∙ st) ∙ own_same s.id s.pass steps i.actors t.same))

pub went_left : (was lent p turn : View) (steps : List Step) (fixed : Option Terms) → lent ≡ record was { actors = [] } → turn.actors ≡ was.actors
    → Turned was steps fixed → turn.seen ≡ steps → p ≡ record lent { actors = turn.actors; seen = turn.seen } → Went was p
went_left was lent p turn steps fixed l a t st e =
    let b = given_back was lent p turn.actors turn.seen l a e in
    went_to was p steps t.begins (b ∙ ap (λ (l : List Step). record was { seen = l }) st)
