-- What a session's last own step says, where the steps of others since then keep it.
use Rattle.std.proofs.Common.{ℕ, ◌≡◌, Bool, true, false, ◌==◌, cond, List, [], ◌∷◌, ◌++◌, Option, Some, None, refl, sym, ap, ◌∙◌, subst, append-nil, unwrap_or}
use Rattle.std.proofs.lemmas.Bool.{eqb-false, eqb-true, eq-eqb, false≢true, false_from_ne_true, ne_eqb, or_parts}
use Rattle.std.proofs.lemmas.List.{reverse-append, reverse-reverse}
use Rattle.std.specs.Option.{option_or}
use Rattle.std.specs.Prelude.{reverse}
use Rattle.dm_chronicle.proofs.Lists.{mine_append}
use Rattle.dm_chronicle.specs.Belongs.{belongs}
use Rattle.dm_chronicle.specs.Rule.{keep_if}
use Rattle.dm_event.specs.Actors.{actors}
use Rattle.dm_event.specs.Txns.{same_txn}
use Rattle.dm_event.specs.declared.actor.Actor.TheVariants.{Session}
use Rattle.dm_event.specs.declared.attempt.AttemptState.{AttemptState}
use Rattle.dm_event.specs.declared.attempt.AttemptState.TheVariants as stands
use Rattle.dm_event.specs.declared.step.Choice.{Choice}
use Rattle.dm_event.specs.declared.step.Pending.TheVariants as pending
use Rattle.dm_event.specs.declared.step.Step.{Step}
use Rattle.dm_event.specs.declared.step.Step.TheVariants.{Route, Reply, Begin, Moved, Commit, End, Fail, Doubt, Restart}
use Rattle.dm_event.specs.declared.step.TxnId.{TxnId}
use Rattle.dm_event.specs.declared.step.Want.{Want}
use Rattle.dm_model.proofs.RunningIsLast.{other_session}
use Rattle.dm_model.proofs.SameValues.{txn_own, txn_same}
use Rattle.dm_model.specs.Attempts.{Routing, dropped_at, is_routed, last_routing, routed, state}
use Rattle.dm_model.specs.Runs.{runs, runs_after}
use Rattle.dm_model.specs.Words.{latest, option_filter}
use Rattle.dm_next.proofs.Routed.{routed_other}
use Rattle.dm_invariant.specs.Stations.{own}

-- ---- the last own step

same_end : (xs ys : List Step) (s t : Step) → xs ++ s ∷ [] ≡ ys ++ t ∷ [] → s ≡ t
same_end xs ys s t h = ap first (sym (reverse-append xs (s ∷ [])) ∙ (ap (λ (l : List Step). reverse l) h ∙ reverse-append ys (t ∷ [])))
  where
    first : List Step → Step
    first [] = s
    first (x ∷ l) = x

nothing_ends : (ys : List Step) (t : Step) → [] ≡ ys ++ t ∷ [] → ⊥
nothing_ends [] t h = cc (h)
nothing_ends (y ∷ ys) t h = cc (h)

module _ (c : ℕ) (P : List Step → Type 0) (keeps : (past : List Step) (x : Step) → belongs actors x (Session c) ≡ false → P past → P (x ∷ past)) where
  last_past : (past before : List Step) (s : Step) → ((q : List Step) → P (s ∷ q)) → own (Session c) (reverse past) ≡ before ++ s ∷ [] → P past
  last_past [] before s here h = absurd (nothing_ends before s h)
  last_past (t ∷ past) before s here h =
      by (belongs actors t (Session c)) refl
      (sym (ap (own (Session c)) (reverse-append (t ∷ []) past) ∙ mine_append (belongs actors) (Session c) (reverse past) (t ∷ [])) ∙ h)
      (λ g. last_past past before s here g)
    where
      by : (b : Bool) → belongs actors t (Session c) ≡ b → own (Session c) (reverse past) ++ keep_if b t [] ≡ before ++ s ∷ []
          → (own (Session c) (reverse past) ≡ before ++ s ∷ [] → P past) → P (t ∷ past)
      by true q g go = subst (λ (x : Step). P (x ∷ past)) (sym (same_end (own (Session c) (reverse past)) before t s g)) (here past)
      by false q g go = keeps past t q (go (sym (append-nil (own (Session c) (reverse past))) ∙ g))

  -- what it makes so is still so
  pub by_last : (steps before : List Step) (s : Step) → ((q : List Step) → P (s ∷ q)) → own (Session c) steps ≡ before ++ s ∷ [] → P (reverse steps)
  by_last steps before s here h = last_past (reverse steps) before s here (ap (own (Session c)) (reverse-reverse steps) ∙ h)

-- ---- a Route

pub last_route : (steps before : List Step) (txn : TxnId) (wanted : Want) (min : List ℕ) (site : ℕ) (choice : Choice)
    → own (Session txn.session) steps ≡ before ++ Route txn wanted min site choice ∷ []
    → routed txn (reverse steps) ≡ Some (record { txn = txn; want = wanted; min = min; site = site; choice = choice })
last_route steps before txn wanted min site choice e =
    by_last txn.session (λ past. routed txn past ≡ Some route) (λ past x b q. routed_other past x txn route b q) steps before
    (Route txn wanted min site choice) here e
  where
    route : Routing
    route = record { txn = txn; want = wanted; min = min; site = site; choice = choice }

    after : List Step → Bool → Option Routing
    after q b =
        option_filter (λ (r : Routing). same_txn txn r.txn)
        (cond (is_routed (unwrap_or (cond b (Some (stands.Routed site choice)) None) (state txn.session q)))
        (option_or (cond b (Some route) None) (last_routing txn.session q)) None)

    here : (q : List Step) → routed txn (Route txn wanted min site choice ∷ q) ≡ Some route
    here q = ap (after q) (eq-eqb txn.session txn.session refl) ∙ ap (λ (b : Bool). cond b (Some route) None) (txn_own txn)

-- ---- a Begin

other_txn : (t u : TxnId) → (u.session == t.session) ≡ false → same_txn t u ≡ false
other_txn t u e = false_from_ne_true (same_txn t u) (λ m. eqb-false u.session t.session e (ap (λ (x : TxnId). x.session) (sym (txn_same t u m))))

-- The session's state follows whether the attempt runs: while no step of the session comes, a Doubt or a Restart of the attempt's site,
-- and nothing else, ends both.
module _ (site : ℕ) (txn : TxnId) where
  abbrev by_run : Bool → AttemptState
  by_run b = cond b (stands.Running site) stands.Dropped

  abbrev Follows : List Step → Type 0
  Follows past = state txn.session past ≡ by_run (runs site txn past)

  -- another's step begins or ends no run of the attempt
  moves : (s b here : Bool) (x st : AttemptState) (o : Option Bool) → s ≡ false → b ≡ false → st ≡ by_run (unwrap_or o false)
      → unwrap_or (cond s (Some x) None) st ≡ by_run (unwrap_or (option_or (cond b (Some here) None) o) false)
  moves false false here x st o e f h = h
  moves true b here x st o e f h = absurd (false≢true (sym e))
  moves s true here x st o e f h = absurd (false≢true (sym f))

  -- what runs at the site is dropped there, and else nothing
  drops : (at : ℕ) (st : AttemptState) (o : Option Bool) → st ≡ by_run (unwrap_or o false)
      → dropped_at at st ≡ by_run (unwrap_or (option_or (cond (at == site) (Some false) None) o) false)
  drops at st o h = by_site (at == site) refl
    where
      all : (b : Bool) → (site == at) ≡ true → dropped_at at (by_run b) ≡ stands.Dropped
      all true e = ap (λ (s : Bool). cond s stands.Dropped (stands.Running site)) e
      all false e = refl

      none : (b : Bool) → (site == at) ≡ false → dropped_at at (by_run b) ≡ by_run b
      none true e = ap (λ (s : Bool). cond s stands.Dropped (stands.Running site)) e
      none false e = refl

      by_site : (b : Bool) → (at == site) ≡ b → dropped_at at st ≡ by_run (unwrap_or (option_or (cond b (Some false) None) o) false)
      by_site true e = ap (dropped_at at) h ∙ all (unwrap_or o false) (eq-eqb site at (sym (eqb-true at site e)))
      by_site false e = ap (dropped_at at) h ∙ none (unwrap_or o false) (ne_eqb site at (λ p. eqb-false at site e (sym p)))

  follows_other : (past : List Step) (x : Step) → belongs actors x (Session txn.session) ≡ false → Follows past → Follows (x ∷ past)
  follows_other past (Route u want min at choice) b h =
      other_session (u.session == txn.session) (stands.Routed at choice) (state txn.session past) (or_parts _ _ b).0 ∙ h
  follows_other past (Reply session number said) b h =
      other_session (session == txn.session) stands.Unrouted (state txn.session past) (or_parts _ _ b).0 ∙ h
  follows_other past (Begin at u begin) b h =
      moves (u.session == txn.session) (same_txn txn u) (at == site) (stands.Running at) (state txn.session past) (latest (runs_after site txn) past)
      b (other_txn txn u b) h
  follows_other past (Moved at u) b h = other_session (u.session == txn.session) stands.Moved (state txn.session past) b ∙ h
  follows_other past (Commit e) b h =
      moves (e.txn.session == txn.session) (same_txn txn e.txn) false (stands.Committed e.origin e.seq) (state txn.session past)
      (latest (runs_after site txn) past) b (other_txn txn e.txn b) h
  follows_other past (End at u ops reads) b h =
      moves (u.session == txn.session) (same_txn txn u) false (stands.Ended at) (state txn.session past) (latest (runs_after site txn) past)
      b (other_txn txn u b) h
  follows_other past (Fail at u cause) b h =
      moves (u.session == txn.session) (same_txn txn u) false (stands.Failed cause) (state txn.session past) (latest (runs_after site txn) past)
      b (other_txn txn u b) h
  follows_other past (Doubt at (pending.Commit e)) b h =
      other_session (e.txn.session == txn.session) (stands.Doubted at) (dropped_at at (state txn.session past)) b
      ∙ drops at (state txn.session past) (latest (runs_after site txn) past) h
  follows_other past (Doubt at (pending.Release part epoch to vector)) b h = drops at (state txn.session past) (latest (runs_after site txn) past) h
  follows_other past (Doubt at (pending.Grant part epoch vector)) b h = drops at (state txn.session past) (latest (runs_after site txn) past) h
  follows_other past (Restart at vector found) b h = drops at (state txn.session past) (latest (runs_after site txn) past) h
  follows_other past other b h = h

  starts : (s b here : Bool) (st : AttemptState) (o : Option Bool) → s ≡ true → b ≡ true → here ≡ true
      → unwrap_or (cond s (Some (stands.Running site)) None) st ≡ by_run (unwrap_or (option_or (cond b (Some here) None) o) false)
  starts true true true st o e f g = refl
  starts false b here st o e f g = absurd (false≢true e)
  starts s false here st o e f g = absurd (false≢true f)
  starts s b false st o e f g = absurd (false≢true g)

  pub last_begin : (steps before : List Step) (begin : List ℕ) → own (Session txn.session) steps ≡ before ++ Begin site txn begin ∷ []
      → state txn.session (reverse steps) ≡ cond (runs site txn (reverse steps)) (stands.Running site) stands.Dropped
  last_begin steps before begin e =
      by_last txn.session Follows follows_other steps before (Begin site txn begin)
      (λ q.
      starts (txn.session == txn.session) (same_txn txn txn) (site == site) (state txn.session q) (latest (runs_after site txn) q)
      (eq-eqb txn.session txn.session refl) (txn_own txn) (eq-eqb site site refl))
      e
