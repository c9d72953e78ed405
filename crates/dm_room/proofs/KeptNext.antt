-- What is kept after one step more.
use Rattle.std.proofs.Common.{ℕ, suc, ◌+◌, ◌-◌, ◌≡◌, ◌≢◌, ◌==◌, Bool, true, false, if◌then◌else◌, List, ◌∷◌, Option, Some, None, length, refl, sym}
use Rattle.std.proofs.Common.{ap, ◌∙◌}
use Rattle.std.proofs.Common.{nat_le, subst, arith, unwrap_or, inl, inr}
use Rattle.std.proofs.lemmas.Bool.{eqb-true, eqb-false, eq-eqb, ne_eqb, false≢true, and_parts, leb-true, ltb-true, cond-true, cond-false}
use Rattle.std.specs.List.{range_with_len, sum_by}
use Rattle.std.specs.Prelude.{option_map, option_to_list, IfSome}
use Rattle.dm_event.specs.Layout.{Layout, is_session, is_site, is_part}
use Rattle.dm_event.specs.declared.attempt.AttemptState.{AttemptState}
use Rattle.dm_event.specs.declared.attempt.AttemptState.TheVariants as stands
use Rattle.dm_event.specs.declared.limits.TheConstants.{MAX_SESSIONS}
use Rattle.dm_event.specs.declared.placing.Placing.{Placing}
use Rattle.dm_event.specs.declared.step.Cause.{Cause}
use Rattle.dm_event.specs.declared.step.Choice.{Choice}
use Rattle.dm_event.specs.declared.step.Entry.{Entry}
use Rattle.dm_event.specs.declared.step.Found.{Found}
use Rattle.dm_event.specs.declared.step.Found.TheVariants.{Clean, Kept, Lost}
use Rattle.dm_event.specs.declared.step.Op.{Op}
use Rattle.dm_event.specs.declared.step.Pair.{Pair}
use Rattle.dm_event.specs.declared.step.Pending.{Pending}
use Rattle.dm_event.specs.declared.step.Pending.TheVariants as pending
use Rattle.dm_event.specs.declared.step.Said.{Said}
use Rattle.dm_event.specs.declared.step.Step.{Step}
use Rattle.dm_event.specs.declared.step.Step.TheVariants.{Route, Reply, Ask, Settle, Begin, Moved, Commit, End, Fail, Refresh, Release, Grant, Doubt, Restart}
use Rattle.dm_event.specs.declared.step.TxnId.{TxnId}
use Rattle.dm_event.specs.declared.step.Want.{Want}
use Rattle.dm_model.proofs.Judged.{shape_of}
use Rattle.dm_model.proofs.LegalSteps.{in_range, legal_route, legal_begin, legal_moved, legal_commit, legal_end, legal_fail, legal_restart, legal_ask}
use Rattle.dm_model.proofs.LegalSteps.{legal_release, legal_grant, legal_settle, doubted_commit, doubted_release, doubted_grant}
use Rattle.dm_model.proofs.MastershipKept.{Held}
use Rattle.dm_model.proofs.MastershipSound.{part_of, mastery, mastered_past}
use Rattle.dm_model.proofs.NumbersSound.{sound_past}
use Rattle.dm_model.proofs.RunningIsLast.{seated, other_session, own_session}
use Rattle.dm_model.specs.Allowed.{Allowed}
use Rattle.dm_model.specs.Attempts.{replies, state, is_routed, dropped_at}
use Rattle.dm_model.specs.Doubts.{is_down, pending_at, step_of}
use Rattle.dm_model.specs.Legal.{LegalPast}
use Rattle.dm_model.specs.Placings.{placing, asked, settled, after_acts}
use Rattle.dm_model.specs.Rows.{may_route}
use Rattle.dm_model.specs.Runs.{runs}
use Rattle.dm_model.specs.Shape.{is_txn, is_shaped}
use Rattle.dm_room.proofs.Sums.{two_sums, one_sum}
use Rattle.dm_room.specs.Room.{live, owed, up, items_of, unanswered, unanswered_items, live_attempts, sites_up, steps_owed, kept, runs_there, runners}
use Rattle.dm_room.specs.Room.{brought_on, comes_on, comes_off}
use Rattle.dm_steps.proofs.Legality.{pending_shaped}
use Rattle.dm_steps.proofs.Sites.{down_next}
use Rattle.dm_steps.specs.Pendings.{kept_of}

live_routed : (st : AttemptState) → is_routed st ≡ true → live st ≡ 1
live_routed (stands.Routed site choice) h = refl
live_routed other h = absurd (false≢true h)

live_new : (st : AttemptState) → may_route st ≡ true → live st ≡ 0
live_new stands.Unrouted h = refl
live_new stands.Moved h = refl
live_new stands.Dropped h = refl
live_new other h = absurd (false≢true h)

-- the session of an attempt of good shape
session_of : (layout : Layout) (t : TxnId) → is_txn layout t ≡ true → is_session t.session ≡ true
session_of layout t h = (and_parts (is_session t.session) _ h).0

module _ (layout : Layout) (items : List ℕ) (past : List Step) (legal : LegalPast layout past) where
  -- a step that brings one session to a state
  moves : (s : Step) (c : ℕ) (new : AttemptState) → ((k : ℕ) → state k (s ∷ past) ≡ unwrap_or (if c == k then Some new else None) (state k past))
      → is_session c ≡ true → live_attempts (s ∷ past) + live (state c past) ≡ live_attempts past + live new
  moves s c new h range =
      let p = and_parts _ _ range in
      let l = leb-true 1 c p.0 in
      let m = leb-true c MAX_SESSIONS p.1 in
      let sum = one_sum (λ k. live (state k past)) (λ k. live (state k (s ∷ past))) c 1 MAX_SESSIONS l (omega (arith, m))
      (λ k n. ap live (h k ∙ other_session (c == k) new (state k past) (ne_eqb c k (λ e. n (sym e))))) in
      let own : live (state c (s ∷ past)) ≡ live new = ap live (h c ∙ own_session (c == c) new (state c past) (eq-eqb c c refl)) in
      sum ∙ ap (λ (n : ℕ). live_attempts past + n) own

  -- a step that moves one partition
  places : (s : Step) (p : ℕ) → ((k : ℕ) → k ≢ p → placing layout (s ∷ past) k ≡ placing layout past k) → is_part layout p ≡ true
      → steps_owed layout (s ∷ past) + owed (placing layout past p) ≡ steps_owed layout past + owed (placing layout (s ∷ past) p)
  places s p h range =
      let l = ltb-true p (length layout.masters) range in
      one_sum (λ k. owed (placing layout past k)) (λ k. owed (placing layout (s ∷ past) k)) p 0 (length layout.masters) (omega arith) (omega (arith, l))
      (λ k n. ap owed (h k n))

  live_run : (site : ℕ) (t : TxnId) → runs site t past ≡ true → live (state t.session past) ≡ 1
  live_run site t r = ap live (seated layout past legal site t r).runs

  -- ---- what comes on

  pub route_next : (txn : TxnId) (want : Want) (least : List ℕ) (site : ℕ) (choice : Choice) → Allowed layout past (Route txn want least site choice)
      → kept layout items (Route txn want least site choice ∷ past) ≡ kept layout items past + 1
  route_next txn want least site choice a =
      let range = session_of layout txn (and_parts (is_txn layout txn) _ (shape_of layout past (Route txn want least site choice) a)).0 in
      let m = moves (Route txn want least site choice) txn.session (stands.Routed site choice) (λ k. refl) range in
      let z = live_new (state txn.session past) (legal_route layout past txn want least site choice a).further in
      omega (arith, m, z)

  pub begin_next : (site : ℕ) (txn : TxnId) (begin : List ℕ) → Allowed layout past (Begin site txn begin)
      → kept layout items (Begin site txn begin ∷ past) ≡ kept layout items past
  begin_next site txn begin a =
      let shape = and_parts (is_site layout site) _ (shape_of layout past (Begin site txn begin) a) in
      let range = session_of layout txn (and_parts (is_txn layout txn) _ shape.1).0 in
      let m = moves (Begin site txn begin) txn.session (stands.Running site) (λ k. refl) range in
      let z = live_routed (state txn.session past) (legal_begin layout past site txn begin a).routed.stands.state in
      omega (arith, m, z)

  pub ask_next : (part epoch to : ℕ) (txn : TxnId) → Allowed layout past (Ask part epoch to txn) → kept layout items (Ask part epoch to txn ∷ past)
      ≡ kept layout items past + 3
  ask_next part epoch to txn a =
      let l = legal_ask layout past part epoch to txn a in
      let range = (and_parts (is_part layout part) _ (shape_of layout past (Ask part epoch to txn) a)).0 in
      let m = places (Ask part epoch to txn) part (λ k n. cond-false (part == k) _ _ (ne_eqb part k (λ e. n (sym e)))) range in
      let now : owed (placing layout past part) ≡ 0 = ap owed l.settled in
      let after : owed (placing layout (Ask part epoch to txn ∷ past) part) ≡ 3 =
      ap owed (cond-true (part == part) _ _ (eq-eqb part part refl) ∙ ap (λ (p : Placing). asked p to) l.settled) in
      omega (arith, m, now, after)

  -- ---- what comes to its end

  pub moved_next : (site : ℕ) (txn : TxnId) → Allowed layout past (Moved site txn) → kept layout items (Moved site txn ∷ past) + 1 ≡ kept layout items past
  moved_next site txn a =
      let shape = and_parts (is_site layout site) _ (shape_of layout past (Moved site txn) a) in
      let m = moves (Moved site txn) txn.session stands.Moved (λ k. refl) (session_of layout txn shape.1) in
      let z = live_routed (state txn.session past) (legal_moved layout past site txn a).routed.stands.state in
      omega (arith, m, z)

  pub commit_next : (e : Entry) → Allowed layout past (Commit e) → kept layout items (Commit e ∷ past) + 1 ≡ kept layout items past
  commit_next e a =
      let range = session_of layout e.txn (and_parts (is_txn layout e.txn) _ (shape_of layout past (Commit e) a)).0 in
      let m = moves (Commit e) e.txn.session (stands.Committed e.origin e.seq) (λ k. refl) range in
      let z = live_run e.origin e.txn (legal_commit layout past e a).runs in
      omega (arith, m, z)

  pub end_next : (site : ℕ) (txn : TxnId) (ops : List Op) (reads : List Pair) → Allowed layout past (End site txn ops reads)
      → kept layout items (End site txn ops reads ∷ past) + 1 ≡ kept layout items past
  end_next site txn ops reads a =
      let shape = and_parts (is_site layout site) _ (shape_of layout past (End site txn ops reads) a) in
      let range = session_of layout txn (and_parts (is_txn layout txn) _ shape.1).0 in
      let m = moves (End site txn ops reads) txn.session (stands.Ended site) (λ k. refl) range in
      let z = live_run site txn (legal_end layout past site txn ops reads a).runs in
      omega (arith, m, z)

  pub fail_next : (site : ℕ) (txn : TxnId) (cause : Cause) → Allowed layout past (Fail site txn cause) → kept layout items (Fail site txn cause ∷ past) + 1
      ≡ kept layout items past
  fail_next site txn cause a =
      let shape = and_parts (is_site layout site) _ (shape_of layout past (Fail site txn cause) a) in
      let range = session_of layout txn (and_parts (is_txn layout txn) _ shape.1).0 in
      let m = moves (Fail site txn cause) txn.session (stands.Failed cause) (λ k. refl) range in
      let z : live (state txn.session past) ≡ 1 = elim (legal_fail layout past site txn cause a) [
        | inl stand ↦ live_routed (state txn.session past) stand.state
        | inr r ↦ live_run site txn r
      ] in
      omega (arith, m, z)

  pub release_next : (site part epoch to : ℕ) (vector : List ℕ) → Allowed layout past (Release site part epoch to vector)
      → kept layout items (Release site part epoch to vector ∷ past) + 1 ≡ kept layout items past
  release_next site part epoch to vector a =
      let shape = and_parts (is_site layout site) _ (shape_of layout past (Release site part epoch to vector) a) in
      let range = (and_parts (is_part layout part) _ shape.1).0 in
      let m = places (Release site part epoch to vector) part (λ k n. cond-false (part == k) _ _ (ne_eqb part k (λ e. n (sym e)))) range in
      let now : owed (placing layout past part) ≡ 3 = ap owed (legal_release layout past site part epoch to vector a).asked in
      let after : owed (placing layout (Release site part epoch to vector ∷ past) part) ≡ 2 = ap owed (cond-true (part == part) _ _ (eq-eqb part part refl)) in
      omega (arith, m, now, after)

  pub grant_next : (site part epoch : ℕ) (vector : List ℕ) → Allowed layout past (Grant site part epoch vector)
      → kept layout items (Grant site part epoch vector ∷ past) + 1 ≡ kept layout items past
  grant_next site part epoch vector a =
      let shape = and_parts (is_site layout site) _ (shape_of layout past (Grant site part epoch vector) a) in
      let range = (and_parts (is_part layout part) _ shape.1).0 in
      let m = places (Grant site part epoch vector) part (λ k n. cond-false (part == k) _ _ (ne_eqb part k (λ e. n (sym e)))) range in
      let now : owed (placing layout past part) ≡ 2 = ap owed (legal_grant layout past site part epoch vector a).between in
      let after : owed (placing layout (Grant site part epoch vector ∷ past) part) ≡ 1 = ap owed (cond-true (part == part) _ _ (eq-eqb part part refl)) in
      omega (arith, m, now, after)

  pub settle_next : (part epoch : ℕ) → Allowed layout past (Settle part epoch) → kept layout items (Settle part epoch ∷ past) + 1 ≡ kept layout items past
  settle_next part epoch a =
      let l = legal_settle layout past part epoch a in
      let m = places (Settle part epoch) part (λ k n. cond-false (part == k) _ _ (ne_eqb part k (λ e. n (sym e))))
      (shape_of layout past (Settle part epoch) a) in
      let now : owed (placing layout past part) ≡ 1 = ap owed l.granted in
      let after : owed (placing layout (Settle part epoch ∷ past) part) ≡ 0 =
      ap owed (cond-true (part == part) _ _ (eq-eqb part part refl) ∙ ap settled l.granted) in
      omega (arith, m, now, after)

  -- ---- Doubts

  -- a site that goes down, or up
  turns : (s : Step) (site : ℕ) (down : Bool) → ((k : ℕ) → is_down k (s ∷ past) ≡ unwrap_or (if site == k then Some down else None) (is_down k past))
      → is_site layout site ≡ true → sites_up layout (s ∷ past) + up (is_down site past) ≡ sites_up layout past + up down
  turns s site down h range =
      let r = in_range layout site range in
      let top = r.top in
      let sum = one_sum (λ k. up (is_down k past)) (λ k. up (is_down k (s ∷ past))) site 1 layout.sites r.one (omega (arith, top))
      (λ k n. ap up (h k ∙ ap (λ (o : Option Bool). unwrap_or o (is_down k past)) (cond-false (site == k) _ _ (ne_eqb site k (λ e. n (sym e)))))) in
      let own : up (is_down site (s ∷ past)) ≡ up down =
      ap up (h site ∙ ap (λ (o : Option Bool). unwrap_or o (is_down site past)) (cond-true (site == site) _ _ (eq-eqb site site refl))) in
      sum ∙ ap (λ (n : ℕ). sites_up layout past + n) own

  -- what runs at the site is dropped
  dropped : (s : Step) (site : ℕ) → ((k : ℕ) → live (state k (s ∷ past)) + runs_there site (state k past) ≡ live (state k past))
      → live_attempts (s ∷ past) + runners site past ≡ live_attempts past
  dropped s site h = two_sums (λ k. live (state k past)) (λ k. live (state k (s ∷ past))) (λ k. runs_there site (state k past))
      (range_with_len 1 MAX_SESSIONS) h

  live_parts : (i : ℕ) (st : AttemptState) → live (dropped_at i st) + runs_there i st ≡ live st
  live_parts i (stands.Running k) = by_site (k == i)
    where
      by_site : (b : Bool) → live (if b then stands.Dropped else stands.Running k) + (if b then 1 else 0) ≡ 1
      by_site true = refl
      by_site false = refl
  live_parts i stands.Unrouted = refl
  live_parts i (stands.Routed site choice) = refl
  live_parts i stands.Moved = refl
  live_parts i (stands.Committed site seq) = refl
  live_parts i (stands.Ended site) = refl
  live_parts i (stands.Failed cause) = refl
  live_parts i (stands.Doubted site) = refl
  live_parts i stands.Dropped = refl

  -- the attempt whose commit is in doubt ran there
  doubted_parts : (site : ℕ) (e : Entry) → Allowed layout past (Doubt site (pending.Commit e)) → (k : ℕ)
      → live (state k (Doubt site (pending.Commit e) ∷ past)) + runs_there site (state k past) ≡ live (state k past)
  doubted_parts site e a k = by_session (e.txn.session == k) refl
    where
      by_session : (b : Bool) → (e.txn.session == k) ≡ b
          → live (unwrap_or (if b then Some (stands.Doubted site) else None) (dropped_at site (state k past))) + runs_there site (state k past)
          ≡ live (state k past)
      by_session true f =
          let d = doubted_commit layout past site e a in
          let ran : state k past ≡ stands.Running e.origin =
          ap (λ (c : ℕ). state c past) (sym (eqb-true e.txn.session k f)) ∙ (seated layout past legal e.origin e.txn d.commit.runs).runs in
          let one : live (state k past) ≡ 1 = ap live ran in
          let there : runs_there site (state k past) ≡ 1 = ap (runs_there site) ran ∙ cond-true (e.origin == site) 1 0 (eq-eqb e.origin site d.own) in
          omega (arith, one, there)
      by_session false f = live_parts site (state k past)

  -- a Doubt takes its site down, and what runs there
  doubt_off : (site : ℕ) (p : Pending) → is_site layout site ≡ true → is_down site past ≡ false
      → live_attempts (Doubt site p ∷ past) + runners site past ≡ live_attempts past → kept layout items (Doubt site p ∷ past) + (1 + runners site past)
      ≡ kept layout items past
  doubt_off site p range stood l =
      let t = turns (Doubt site p) site true (λ k. down_next k (Doubt site p) past) range in
      let u : up (is_down site past) ≡ 1 = ap up stood in
      omega (arith, l, t, u)

  pub doubt_next : (site : ℕ) (p : Pending) → Allowed layout past (Doubt site p)
      → kept layout items (Doubt site p ∷ past) + (1 + runners site past) ≡ kept layout items past
  doubt_next site (pending.Commit e) a =
      let d = doubted_commit layout past site e a in
      doubt_off site (pending.Commit e) (and_parts (is_site layout site) _ (shape_of layout past (Doubt site (pending.Commit e)) a)).0
      (subst (λ (i : ℕ). is_down i past ≡ false) d.own ((sound_past layout past legal).up e.origin e.txn d.commit.runs))
      (dropped (Doubt site (pending.Commit e)) site (doubted_parts site e a))
  doubt_next site (pending.Release part epoch to vector) a =
      doubt_off site (pending.Release part epoch to vector)
      (and_parts (is_site layout site) _ (shape_of layout past (Doubt site (pending.Release part epoch to vector)) a)).0
      (doubted_release layout past site part epoch to vector a).up
      (dropped (Doubt site (pending.Release part epoch to vector)) site (λ k. live_parts site (state k past)))
  doubt_next site (pending.Grant part epoch vector) a =
      doubt_off site (pending.Grant part epoch vector)
      (and_parts (is_site layout site) _ (shape_of layout past (Doubt site (pending.Grant part epoch vector)) a)).0
      (doubted_grant layout past site part epoch vector a).up
      (dropped (Doubt site (pending.Grant part epoch vector)) site (λ k. live_parts site (state k past)))

  -- ---- Replies

  -- the answer takes an item, if one is left
  answered : (session number : ℕ) (said : Said) → is_session session ≡ true
      → unanswered_items items (Reply session number said ∷ past) + unanswered items past session
      ≡ unanswered_items items past + unanswered items (Reply session number said ∷ past) session
  answered session number said range =
      let p = and_parts (nat_le 1 session) (nat_le session MAX_SESSIONS) range in
      let top = leb-true session MAX_SESSIONS p.1 in
      one_sum (λ k. unanswered items past k) (λ k. unanswered items (Reply session number said ∷ past) k) session 1 MAX_SESSIONS (leb-true 1 session p.0)
      (omega (arith, top))
      (λ k n. ap (λ (m : ℕ). items_of items k - m) (cond-false (session == k) (suc (replies k past)) (replies k past) (ne_eqb session k (λ e. n (sym e)))))

  less_one : (left : ℕ) → (left - 1) + (if left == 0 then 0 else 1) ≡ left
  less_one left = by_none (left == 0) refl
    where
      by_none : (b : Bool) → (left == 0) ≡ b → (left - 1) + (if b then 0 else 1) ≡ left
      by_none true e = let none = eqb-true left 0 e in omega (arith, none)
      by_none false e = let some = eqb-false left 0 e in omega (arith, some)

  pub reply_next : (session number : ℕ) (said : Said) → Allowed layout past (Reply session number said)
      → kept layout items (Reply session number said ∷ past) + ((if unanswered items past session == 0 then 0 else 1) + live (state session past))
      ≡ kept layout items past
  reply_next session number said a =
      let range = (and_parts (is_session session) _ (shape_of layout past (Reply session number said) a)).0 in
      let l = moves (Reply session number said) session stands.Unrouted (λ k. refl) range in
      let u = answered session number said range in
      let after : unanswered items (Reply session number said ∷ past) session ≡ unanswered items past session - 1 =
      ap (λ (m : ℕ). items_of items session - m)
      (cond-true (session == session) (suc (replies session past)) (replies session past) (eq-eqb session session refl))
      ∙ further (items_of items session) (replies session past) in
      let one = less_one (unanswered items past session) in
      omega (arith, l, u, after, one)
    where
      further : (all n : ℕ) → all - suc n ≡ (all - n) - 1
      further all n = omega arith

  -- ---- Restarts

  abbrev owed_with : ℕ → Option Pending → ℕ → ℕ
  owed_with site o k = owed (after_acts k (option_to_list (option_map (step_of site) o)) (placing layout past k))

  -- one partition's hand-over is brought on by one step
  brought : (site : ℕ) (o : Option Pending) (part : ℕ) → is_part layout part ≡ true → ((k : ℕ) → k ≢ part → owed_with site o k ≡ owed (placing layout past k))
      → owed_with site o part + 1 ≡ owed (placing layout past part)
      → sum_by (λ k. owed_with site o k) (range_with_len 0 (length layout.masters)) + 1 ≡ steps_owed layout past
  brought site o part range h e =
      let l = ltb-true part (length layout.masters) range in
      let sum = one_sum (λ k. owed (placing layout past k)) (λ k. owed_with site o k) part 0 (length layout.masters) (omega arith) (omega (arith, l)) h in
      omega (arith, sum, e)

  kept_on : (site : ℕ) (o : Option Pending) → Held (part_of layout) (mastery layout past) site o → IfSome o (λ p. is_shaped layout (Doubt site p) ≡ true)
      → sum_by (λ k. owed_with site o k) (range_with_len 0 (length layout.masters)) + brought_on o ≡ steps_owed layout past
  kept_on site None h s = omega arith
  kept_on site (Some (pending.Commit e)) h s = omega arith
  kept_on site (Some (pending.Release part epoch to vector)) h s =
      let range = (and_parts (is_part layout part) _ (and_parts (is_site layout site) _ s).1).0 in
      let now : owed (placing layout past part) ≡ 3 = ap owed h.asked in
      let after : owed_with site (Some (pending.Release part epoch to vector)) part ≡ 2 = ap owed (cond-true (part == part) _ _ (eq-eqb part part refl)) in
      brought site (Some (pending.Release part epoch to vector)) part range
      (λ k n. ap owed (cond-false (part == k) _ _ (ne_eqb part k (λ e. n (sym e))))) (omega (arith, now, after))
  kept_on site (Some (pending.Grant part epoch vector)) h s =
      let range = (and_parts (is_part layout part) _ (and_parts (is_site layout site) _ s).1).0 in
      let now : owed (placing layout past part) ≡ 2 = ap owed h.between in
      let after : owed_with site (Some (pending.Grant part epoch vector)) part ≡ 1 = ap owed (cond-true (part == part) _ _ (eq-eqb part part refl)) in
      brought site (Some (pending.Grant part epoch vector)) part range
      (λ k n. ap owed (cond-false (part == k) _ _ (ne_eqb part k (λ e. n (sym e))))) (omega (arith, now, after))

  restart_owed : (site : ℕ) (vector : List ℕ) (found : Found) → Allowed layout past (Restart site vector found)
      → steps_owed layout (Restart site vector found ∷ past) + brought_on (kept_of (Restart site vector found) past) ≡ steps_owed layout past
  restart_owed site vector Clean a = omega arith
  restart_owed site vector Lost a = omega arith
  restart_owed site vector Kept a =
      kept_on site (pending_at site past) ((mastered_past layout past legal).held site (legal_restart layout past site vector Kept a).fits)
      (pending_shaped layout site past legal)

  pub restart_next : (site : ℕ) (vector : List ℕ) (found : Found) → Allowed layout past (Restart site vector found)
      → kept layout items (Restart site vector found ∷ past) + (runners site past + brought_on (kept_of (Restart site vector found) past))
      ≡ kept layout items past + (if is_down site past then 1 else 0)
  restart_next site vector found a =
      let range = (and_parts (is_site layout site) _ (shape_of layout past (Restart site vector found) a)).0 in
      let l = dropped (Restart site vector found) site (λ k. live_parts site (state k past)) in
      let t = turns (Restart site vector found) site false (λ k. down_next k (Restart site vector found) past) range in
      let o = restart_owed site vector found a in
      let d = turned (is_down site past) in
      omega (arith, l, t, o, d)
    where
      turned : (down : Bool) → up down + (if down then 1 else 0) ≡ 1
      turned true = refl
      turned false = refl

  -- ---- each kind

  pub kept_next : (s : Step) → Allowed layout past s
      → kept layout items (s ∷ past)
      + comes_off s (λ session. unanswered items past session) (λ session. state session past) (λ site. runners site past) (kept_of s past)
      ≡ kept layout items past + comes_on s (λ site. is_down site past)
  kept_next (Route txn want least site choice) a = let e = route_next txn want least site choice a in omega (arith, e)
  kept_next (Reply session number said) a = let e = reply_next session number said a in omega (arith, e)
  kept_next (Ask part epoch to txn) a = let e = ask_next part epoch to txn a in omega (arith, e)
  kept_next (Settle part epoch) a = let e = settle_next part epoch a in omega (arith, e)
  kept_next (Begin site txn begin) a = let e = begin_next site txn begin a in omega (arith, e)
  kept_next (Moved site txn) a = let e = moved_next site txn a in omega (arith, e)
  kept_next (Commit entry) a = let e = commit_next entry a in omega (arith, e)
  kept_next (End site txn ops reads) a = let e = end_next site txn ops reads a in omega (arith, e)
  kept_next (Fail site txn cause) a = let e = fail_next site txn cause a in omega (arith, e)
  kept_next (Refresh site origin) a = omega arith
  kept_next (Release site part epoch to vector) a = let e = release_next site part epoch to vector a in omega (arith, e)
  kept_next (Grant site part epoch vector) a = let e = grant_next site part epoch vector a in omega (arith, e)
  kept_next (Doubt site p) a = let e = doubt_next site p a in omega (arith, e)
  kept_next (Restart site vector found) a = let e = restart_next site vector found a in omega (arith, e)
