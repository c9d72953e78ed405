-- What an attempt that begins declares, and how many installs are to come where the attempts that run are listed.
use Rattle.std.proofs.Common.{ℕ, zero, suc, ◌+◌, ◌-◌, ◌<◌, ◌≤◌, ◌≡◌, ◌==◌, Bool, true, false, cond, if◌then◌else◌}
use Rattle.std.proofs.Common.{List, [], ◌∷◌, Option, Some, None, length, map}
use Rattle.std.proofs.Common.{refl, sym, ap, ◌∙◌, subst, arith, unwrap_or}
use Rattle.std.proofs.lemmas.Bool.{false≢true, eq-eqb, eqb-true, ne_eqb, cond-false, and_parts}
use Rattle.std.proofs.lemmas.List.Sums.{sum_by-cons}
use Rattle.std.specs.List.{range_with_len, sum_by}
use Rattle.std.specs.Option.{option_or}
use Rattle.std.specs.Prelude.{option_map, filter}
use Rattle.dm_event.specs.Layout.{Layout, is_site}
use Rattle.dm_event.specs.Txns.{same_txn}
use Rattle.dm_event.specs.Vectors.{sites_to}
use Rattle.dm_event.specs.declared.step.Pending.{Pending}
use Rattle.dm_event.specs.declared.step.Pending.TheVariants as pending
use Rattle.dm_event.specs.declared.step.Step.{Step}
use Rattle.dm_event.specs.declared.step.Step.TheVariants.{Route, Begin}
use Rattle.dm_event.specs.declared.step.TxnId.{TxnId}
use Rattle.dm_event.specs.declared.step.Want.{Want}
use Rattle.dm_index.specs.Rooms.{room_at}
use Rattle.dm_kept.proofs.RoomKept.{sum_at_most}
use Rattle.dm_kept.specs.Roomy.{all_to_come, KnowsKeys, MayBegin}
use Rattle.dm_kept.specs.Ledger.{Ledger, past}
use Rattle.dm_model.proofs.Judged.{shape_of}
use Rattle.dm_model.proofs.LegalSteps.{in_range, legal_begin}
use Rattle.dm_model.proofs.SameValues.{txn_same, txn_own}
use Rattle.dm_model.specs.Allowed.{Allowed}
use Rattle.dm_model.specs.Attempts.{Routing, routing_of, last_routing, wanted_keys, declared}
use Rattle.dm_model.specs.Doubts.{is_down, pending_at}
use Rattle.dm_model.specs.Runs.{running}
use Rattle.dm_model.specs.Words.{latest}
use Rattle.dm_room.proofs.Sums.{two_sums, flat_sum}
use Rattle.dm_room.specs.Installs.{doubted, installs_to_come}
use Rattle.dm_runs.specs.Running.{AreRuns, running_in}
use Rattle.dm_runs.specs.declared.run.Run.{Run}

-- ---- what is declared

module _ (p q : TxnId → Bool) (weaker : (t : TxnId) → p t ≡ true → q t ≡ true) (r : Routing) (passes : p r.txn ≡ true) where
  at_route : (s : Routing) (o o' : Option Routing) → (o ≡ Some r → o' ≡ Some r) → (a b : Bool) → p s.txn ≡ a → q s.txn ≡ b
      → option_or (if b then Some s else None) o ≡ Some r → option_or (if a then Some s else None) o' ≡ Some r
  at_route s o o' f true true e g h = h
  at_route s o o' f false true e g h = let z : s ≡ r = cc (h) in absurd (false≢true (sym e ∙ ap (λ (x : Routing). p x.txn) z ∙ passes))
  at_route s o o' f true false e g h = absurd (false≢true (sym g ∙ weaker s.txn e))
  at_route s o o' f false false e g h = f h

  narrow : (past : List Step) → latest (routing_of q) past ≡ Some r → latest (routing_of p) past ≡ Some r
  narrow [] h = absurd (cc (h))
  narrow (Route txn want min site choice ∷ past) h =
      at_route (record { txn = txn; want = want; min = min; site = site; choice = choice }) (latest (routing_of q) past) (latest (routing_of p) past)
      (narrow past) (p txn) (q txn) refl refl h
  narrow (other ∷ past) h = narrow past h

-- the attempt of the session's last Route declares what that Route wants
pub declared_last : (past : List Step) (t : TxnId) (r : Routing) → last_routing t.session past ≡ Some r → r.txn ≡ t → declared t past ≡ wanted_keys r.want
declared_last past t r e f =
    let own : same_txn t r.txn ≡ true = ap (λ (x : TxnId). same_txn t x) f ∙ txn_own t in
    let one = narrow (same_txn t) (λ u. u.session == t.session) (λ u g. eq-eqb u.session t.session (ap (λ (x : TxnId). x.session) (sym (txn_same t u g))))
    r own past e in
    ap (λ (o : Option Routing). unwrap_or (option_map (λ x. wanted_keys x.want) o) []) one

-- an attempt that may begin declares what its session's last Route wants
pub begin_declares : (layout : Layout) (past : List Step) (site : ℕ) (txn : TxnId) (begin : List ℕ) → Allowed layout past (Begin site txn begin)
    → (want : Option Want) → want ≡ option_map (λ r. r.want) (last_routing txn.session past)
    → declared txn past ≡ unwrap_or (option_map (λ w. wanted_keys w) want) []
begin_declares layout past site txn begin a want e =
    let stands = (legal_begin layout past site txn begin a).routed.stands in
    declared_last past txn stands.route stands.last (sym stands.same)
    ∙ sym (ap (λ (o : Option Want). unwrap_or (option_map (λ w. wanted_keys w) o) []) (e ∙ ap (λ (o : Option Routing). option_map (λ r. r.want) o) stands.last))

-- ---- how many installs are to come

beyond : (c a n : ℕ) → c < a → sum_by (λ k. if c == k then 1 else 0) (range_with_len a n) ≡ 0
beyond c a zero l = refl
beyond c a (suc n) l =
    let p = sum_by-cons (λ (k : ℕ). if c == k then 1 else 0) a (range_with_len (a + 1) n) in
    let rest = beyond c (a + 1) n (omega (arith, l)) in
    let none : ◌≡◌ {A = ℕ} (if c == a then 1 else 0) 0 = cond-false (c == a) 1 0 (ne_eqb c a (λ e. absurd (omega (arith, e, l)))) in
    omega (arith, p, rest, none)

at_most_one : (c a n : ℕ) → sum_by (λ k. if c == k then 1 else 0) (range_with_len a n) ≤ 1
at_most_one c a zero = omega arith
at_most_one c a (suc n) = by_test (c == a) refl (sum_by-cons (λ (k : ℕ). if c == k then 1 else 0) a (range_with_len (a + 1) n)) (at_most_one c (a + 1) n)
  where
    by_test : (b : Bool) → (c == a) ≡ b
        → sum_by (λ k. if c == k then 1 else 0) (range_with_len a (suc n))
        ≡ (if b then 1 else 0) + sum_by (λ k. if c == k then 1 else 0) (range_with_len (a + 1) n)
        → sum_by (λ k. if c == k then 1 else 0) (range_with_len (a + 1) n) ≤ 1
        → sum_by (λ k. if c == k then 1 else 0) (range_with_len a (suc n)) ≤ 1
    by_test true e p r = let same = eqb-true c a e in let rest = beyond c (a + 1) n (omega (arith, same)) in omega (arith, p, rest)
    by_test false e p r = omega (arith, p, r)

one_listed : (site : ℕ) (r : Run) (rs : List Run) → (if r.site == site then 1 else 0) + length (running_in site rs) ≡ length (running_in site (r ∷ rs))
one_listed site r rs = by_test (r.site == site)
  where
    by_test : (b : Bool) → (if b then 1 else 0) + length (running_in site rs)
        ≡ length (map (λ (x : Run). x.txn) (cond b (r ∷ filter (λ x. x.site == site) rs) (filter (λ x. x.site == site) rs)))
    by_test true = omega arith
    by_test false = omega arith

listed_there : (site : ℕ) (rs : List Run) → length (running_in site rs) ≤ length rs
listed_there site [] = omega arith
listed_there site (r ∷ rs) = by_test (r.site == site) (one_listed site r rs) (listed_there site rs)
  where
    by_test : (b : Bool) → (if b then 1 else 0) + length (running_in site rs) ≡ length (running_in site (r ∷ rs)) → length (running_in site rs) ≤ length rs
        → length (running_in site (r ∷ rs)) ≤ suc (length rs)
    by_test true e l = omega (arith, e, l)
    by_test false e l = omega (arith, e, l)

listed_everywhere : (n : ℕ) (rs : List Run) → sum_by (λ site. length (running_in site rs)) (sites_to n) ≤ length rs
listed_everywhere n [] = let none = flat_sum 0 1 n in omega (arith, none)
listed_everywhere n (r ∷ rs) =
    let parts = two_sums (λ site. length (running_in site (r ∷ rs))) (λ site. if r.site == site then 1 else 0)
    (λ site. length (running_in site rs)) (sites_to n)
    (λ site. one_listed site r rs) in
    let one = at_most_one r.site 1 n in
    let rest = listed_everywhere n rs in
    omega (arith, parts, one, rest)

doubted_one : (down : Bool) (left : Option Pending) → (if down then doubted left else 0) ≤ 1
doubted_one false left = omega arith
doubted_one true None = omega arith
doubted_one true (Some (pending.Commit e)) = omega arith
doubted_one true (Some (pending.Release part epoch to vector)) = omega arith
doubted_one true (Some (pending.Grant part epoch vector)) = omega arith

module _ (past : List Step) (rs : List Run) (are : AreRuns past rs) where
  come_there : (site : ℕ) → installs_to_come site past ≤ length (running_in site rs) + 1
  come_there site =
      let same : length (running_in site rs) ≡ length (running site past) = ap (λ (ts : List TxnId). length ts) (are.at_site site) in
      let one = doubted_one (is_down site past) (pending_at site past) in
      omega (arith, same, one)

  -- at one site
  pub come_at : (site : ℕ) → installs_to_come site past ≤ length rs + 1
  come_at site = let c = come_there site in let l = listed_there site rs in omega (arith, c, l)

  -- and at all of them
  pub come_everywhere : (layout : Layout) → all_to_come layout past ≤ length rs + layout.sites
  come_everywhere layout =
      let sites = sites_to layout.sites in
      let most = sum_at_most (λ site. installs_to_come site past) (λ site. length (running_in site rs) + 1) sites come_there in
      let parts = two_sums (λ site. length (running_in site rs) + 1) (λ site. length (running_in site rs)) (λ site. 1) sites (λ site. refl) in
      let ones = flat_sum 1 1 layout.sites in
      let listed = listed_everywhere layout.sites rs in
      omega (arith, most, parts, ones, listed)

-- ---- an attempt may begin

pub may_begin : (k : Ledger) (rs : List Run) → AreRuns (past k) rs → (site : ℕ) (txn : TxnId) (begin : List ℕ)
    → Allowed k.layout (past k) (Begin site txn begin) → (want : Option Want) → want ≡ option_map (λ r. r.want) (last_routing txn.session (past k))
    → (n : ℕ) → n ≡ k.layout.sites → 1 ≤ k.begins → ((i : ℕ) → i < n → length rs + 2 ≤ room_at k.places i) → length rs + n + 1 ≤ k.installs
    → KnowsKeys k.known (unwrap_or (option_map (λ w. wanted_keys w) want) []) → MayBegin k site txn
may_begin k rs are site txn begin a want e n many begins places installs known =
    let shape = (and_parts (is_site k.layout site) _ (shape_of k.layout (past k) (Begin site txn begin) a)).0 in
    let range = in_range k.layout site shape in
    let low = range.one in
    let high = range.top in
    let at = come_at (past k) rs are site in
    let all = come_everywhere (past k) rs are k.layout in
    let room = places (site - 1) (omega (arith, low, high, many)) in
    record {
      begins = begins;
      place = omega (arith, at, room);
      install = omega (arith, all, installs, many);
      known = subst (λ (keys : List ℕ). KnowsKeys k.known keys) (sym (begin_declares k.layout (past k) site txn begin a want e)) known;
    }
