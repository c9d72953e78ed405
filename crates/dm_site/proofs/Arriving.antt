-- What an attempt that was sent to a site finds in its turn, and what its begin leaves.
use Rattle.std.proofs.Common.{ℕ, ◌≡◌, ◌≤◌, Bool, true, false, List, [], ◌∷◌, ◌++◌, Option, Some, None, refl, sym, ap, ◌∙◌, subst, inl, inr}
use Rattle.std.proofs.lemmas.Bool.{false≢true}
use Rattle.std.specs.List.{list_all}
use Rattle.std.specs.Prelude.{reverse, is_some, unwrap_or, IfSome, IsFalse, IsSome, IsSomeAnd}
use Rattle.atomic_table.specs.Seated.{TableId}
use mathlib.Core.List.{IsPrefix}
use Rattle.dm_body.specs.Progress.{Progress, nothing_done}
use Rattle.dm_chronicle.specs.Belongs.{belongs}
use Rattle.dm_chronicle.specs.Rule.{In}
use Rattle.dm_core.specs.Lawful.{Terms, may_follow}
use Rattle.dm_event.specs.Actors.{actors}
use Rattle.dm_event.specs.Layout.{Layout, is_key}
use Rattle.dm_event.specs.Vectors.{AtMost}
use Rattle.dm_event.specs.declared.actor.Actor.{Actor}
use Rattle.dm_event.specs.declared.actor.Actor.TheVariants.{Session, Site}
use Rattle.dm_event.specs.declared.limits.TheConstants.{MAX_SESSIONS}
use Rattle.dm_event.specs.declared.step.Step.{Step}
use Rattle.dm_event.specs.declared.step.Step.TheVariants.{Begin, Moved}
use Rattle.dm_event.specs.declared.step.TxnId.{TxnId}
use Rattle.dm_event.specs.declared.step.Want.TheVariants as want
use Rattle.dm_locks.specs.Claims.{claim_of, is_of_session}
use Rattle.dm_locks.specs.Line.{IsServed, IsHeldUp}
use Rattle.dm_locks.specs.Locks.{Locks, left_line}
use Rattle.dm_locks.specs.declared.claim.Claim.{Claim}
use Rattle.dm_model.proofs.Histories.{legal_push}
use Rattle.dm_model.specs.Allowed.{Allowed, elsewhere}
use Rattle.dm_model.specs.Attempts.{Routing, declared, routed}
use Rattle.dm_model.specs.Doubts.{is_down}
use Rattle.dm_model.specs.Legal.{Legal}
use Rattle.dm_model.specs.Progress.{site_vector}
use Rattle.dm_model.specs.Words.{count_of}
use Rattle.dm_next.proofs.Reading.{run_begins}
use Rattle.dm_next.proofs.Routed.{may_move}
use Rattle.dm_next.specs.Routed.{IsRouted}
use Rattle.dm_next.specs.Running.{Began}
use Rattle.dm_others.proofs.Growing.{reverse_snoc, unchanged}
use Rattle.dm_others.proofs.Logs.{down_other}
use Rattle.dm_others.proofs.Others.{vector_other}
use Rattle.dm_others.specs.Locking.{claimed}
use Rattle.dm_invariant.proofs.Passing.{adds_one, did, rested_in}
use Rattle.dm_invariant.proofs.Sessions.{claims_these, held_up_holders, held_up_waiters, holds_nothing, keys_in_range, routed_here, served_may_begin}
use Rattle.dm_invariant.proofs.Sessions.{served_waiters, session_in_range, waits_for_these}
use Rattle.dm_invariant.proofs.Steps.{keeps_begin, keeps_line, keeps_moved, others_sent}
use Rattle.dm_invariant.proofs.Turned.{after_step, after_turn, in_turn, turn_adds, turn_legal}
use Rattle.dm_site.specs.Answers.{HasReached, IsUpIn}
use Rattle.dm_site.specs.Begins.{Begins}
use Rattle.dm_invariant.specs.Keeping.{IsSite, Keeps, Parts}
use Rattle.dm_invariant.specs.Running.{IsRun, RoutedFor}
use Rattle.dm_invariant.specs.Stations.{Did, Rested, Station, View, Went, layout_of, no_terms}
use Rattle.dm_invariant.specs.Turning.{Turned}

-- what the schema says, of a fixed part
abbrev pub layout_in : Option Terms → Layout
layout_in fixed = (unwrap_or fixed no_terms).layout

-- ---- the passes

-- who took the turn and pushed a step in it
pub own_pushing : (own0 lent own1 turn now : View) (step : Step) → lent ≡ record own0 { actors = [] } → turn.actors ≡ own0.actors → now ≡ turn
    → own1 ≡ record lent { actors = now.actors; seen = now.seen ++ step ∷ [] } → own1 ≡ record own0 { seen = turn.seen ++ step ∷ [] }
own_pushing own0 lent own1 turn now step l a n e =
    e ∙ (λ j. record (l j) { actors = (n j).actors; seen = (n j).seen ++ step ∷ [] })
    ∙ ap (λ (held : List Actor). record own0 { actors = held; seen = turn.seen ++ step ∷ [] }) a

-- who took the turn and left it
pub own_leaving : (own0 lent own1 turn now : View) → lent ≡ record own0 { actors = [] } → turn.actors ≡ own0.actors → now ≡ turn
    → own1 ≡ record lent { actors = now.actors; seen = now.seen } → own1 ≡ record own0 { seen = turn.seen }
own_leaving own0 lent own1 turn now l a n e =
    e ∙ (λ j. record (l j) { actors = (n j).actors; seen = (n j).seen }) ∙ ap (λ (held : List Actor). record own0 { actors = held; seen = turn.seen }) a

-- who met it, and saw the step
pub pass_pushing : (pass0 lent pass1 turn now : View) (step : Step) → lent ≡ record pass0 { seen = turn.seen } → now ≡ turn
    → pass1 ≡ record lent { seen = now.seen ++ step ∷ [] } → pass1 ≡ record pass0 { seen = turn.seen ++ step ∷ [] }
pass_pushing pass0 lent pass1 turn now step l n e = e ∙ (λ j. record (l j) { seen = (n j).seen ++ step ∷ [] })

-- both passes are of the turn's table
pub turn_tables : (table at : TableId) (own0 lent pass0 met : View) (turn : TableId) → at ≡ table → turn ≡ at → own0.table ≡ table → pass0.table ≡ table
    → lent ≡ record own0 { actors = [] } → (steps : List Step) → met ≡ record pass0 { seen = steps } → (lent.table ≡ turn) × (met.table ≡ turn)
turn_tables table at own0 lent pass0 met turn c t o p l steps m =
    (ap (λ (w : View). w.table) l ∙ (o ∙ (sym c ∙ sym t)), ap (λ (w : View). w.table) m ∙ (p ∙ (sym c ∙ sym t)))

-- who lent it the actors is of the turn's table
pub lent_table : (table at : TableId) (own0 lent turn now : View) → at ≡ table → turn.table ≡ at → own0.table ≡ table → lent ≡ record own0 { actors = [] }
    → now ≡ turn → lent.table ≡ now.table
lent_table table at own0 lent turn now c t o l n = ap (λ (w : View). w.table) l ∙ (o ∙ (sym c ∙ sym (ap (λ (w : View). w.table) n ∙ t)))

-- a step of the session and the site is covered by the actors of both
pub covers_both : (session site : ℕ) (own0 pass0 met : View) (held : List Actor) (steps : List Step) → held ≡ own0.actors → own0.actors ≡ Session session ∷ []
    → met ≡ record pass0 { seen = steps } → pass0.actors ≡ Site site ∷ [] → In (Site site) (held ++ met.actors) × In (Session session) (held ++ met.actors)
covers_both session site own0 pass0 met held steps h o m p =
    subst (λ (all : List Actor). In (Site site) all × In (Session session) all)
    (λ j. sym (h ∙ o) j ++ sym (ap (λ (w : View). w.actors) m ∙ p) j) (inr (inl refl), inl refl)

-- ---- an attempt that was sent to the site, which is up and has its minimum

pub record Arrived (table : TableId) (opened : List ℕ) (site : ℕ) (pass : View) (parts : Parts) (turn : List Step) (fixed : Option Terms) (txn : TxnId)
    (keys min : List ℕ) : Type 0 where
  pub site_is : IsSite table opened site pass parts
  pub turned : Turned pass turn fixed
  pub routed : IsRouted site txn keys min (reverse turn)
  pub up : IsFalse (is_down site (reverse turn))
  pub reached : AtMost min (site_vector (layout_in fixed).sites (reverse turn) site)

layout_turned : (pass : View) (turn : List Step) (fixed : Option Terms) → Turned pass turn fixed → layout_in fixed ≡ layout_of pass
layout_turned pass turn fixed t = ap layout_in t.fixed_is

-- a site that is up and has the vector is so in the turn too
still_reached : (table : TableId) (opened : List ℕ) (site : ℕ) (pass : View) (parts : Parts) (turn : List Step) (fixed : Option Terms) (min : List ℕ)
    → IsSite table opened site pass parts → Turned pass turn fixed → HasReached site min pass
    → IsFalse (is_down site (reverse turn)) × AtMost min (site_vector (layout_of pass).sites (reverse turn) site)
still_reached table opened site pass parts turn fixed min s t h =
    let l = turn_legal table opened site pass parts turn fixed s t in
    let a = turn_adds table opened site pass parts turn fixed s t in (
      unchanged (layout_of pass) (Site site) (λ past. is_down site past) (λ past x legal b. down_other site past x b) pass.seen turn a.0 a.1 l ∙ h.0,
      subst (λ (v : List ℕ). AtMost min v)
          (sym (unchanged (layout_of pass) (Site site) (λ past. site_vector (layout_of pass).sites past site)
          (λ past x legal b. vector_other (layout_of pass) site past legal.0 x legal.1 b) pass.seen turn a.0 a.1 l)) h.1,
    )

pub arrived : {D : Type 0} (table : TableId) (opened : List ℕ) (here now : Station D) (own : View) (parts : Parts) (turn : List Step) (fixed : Option Terms)
    (txn : TxnId) (keys min : List ℕ) → here ≡ now → IsSite table opened here.number here.pass parts → own.actors ≡ Session txn.session ∷ []
    → RoutedFor txn (want.Txn keys) min now.number own → HasReached now.number min now.pass → Turned own turn fixed → Turned here.pass turn fixed
    → Arrived table opened here.number here.pass parts turn fixed txn keys min
arrived {D} table opened here now own parts turn fixed txn keys min e s a r h o t =
    let sent = subst (λ (station : Station D). RoutedFor txn (want.Txn keys) min station.number own) (sym e) r in
    let route : RoutedFor txn (want.Txn keys) min here.number (record own { seen = turn }) =
    (sent.0, sent.1, (adds_one (Session txn.session) own turn fixed a o).1 ∙ sent.2) in
    let still = still_reached table opened here.number here.pass parts turn fixed min s t
    (subst (λ (station : Station D). HasReached station.number min station.pass) (sym e) h) in
    record {
      site_is = s;
      turned = t;
      routed = (sent.1, routed_here txn (want.Txn keys) min here.number (record own { seen = turn }) route);
      up = still.0;
      reached = subst (λ (l : Layout). AtMost min (site_vector l.sites (reverse turn) here.number)) (sym (layout_turned here.pass turn fixed t)) still.1;
    }

none_of : {X : Type 0} (o : Option X) → is_some o ≡ false → o ≡ None
none_of None h = refl
none_of (Some x) h = absurd (false≢true (sym h))

module _ {table : TableId} {opened : List ℕ} {site : ℕ} {pass : View} {parts : Parts} {turn : List Step} {fixed : Option Terms} {txn : TxnId}
    {keys min : List ℕ} (a : Arrived table opened site pass parts turn fixed txn keys min) where
  -- ---- in the turn

  layout_same : layout_in fixed ≡ layout_of pass
  layout_same = layout_turned pass turn fixed a.turned

  pub keeps_here : Keeps (layout_in fixed) opened site (reverse turn) parts
  keeps_here =
      subst (λ (l : Layout). Keeps l opened site (reverse turn) parts) (sym layout_same) (in_turn table opened site pass parts turn fixed a.site_is a.turned)

  pub sent_here : IsSome (routed txn (reverse turn))
  sent_here = ap (λ (o : Option Routing). is_some o) a.routed.1

  -- the keys are in range
  pub keys_here : list_all (is_key (layout_in fixed)) keys ≡ true
  keys_here = keys_in_range (layout_in fixed) (reverse turn) site txn keys min keeps_here.legal a.routed

  pub session_here : (1 ≤ txn.session) × (txn.session ≤ MAX_SESSIONS)
  session_here = session_in_range (layout_in fixed) (reverse turn) txn keeps_here.legal sent_here

  pub free_here : count_of (is_of_session txn.session) parts.locks.holders ≡ 0
  free_here = holds_nothing (layout_in fixed) opened site (reverse turn) parts keeps_here txn sent_here

  pub waiting_here : IfSome (claim_of txn parts.locks.waiters) (λ waiting. waiting.keys ≡ keys)
  waiting_here = waits_for_these (layout_in fixed) opened site (reverse turn) parts keeps_here txn keys min a.routed

  -- a step that is allowed may follow
  pub follows : (step : Step) → Allowed (layout_in fixed) (reverse turn) step → IsSomeAnd fixed (λ f. may_follow f turn step)
  follows step h =
      let e : fixed ≡ Some a.site_is.terms = a.turned.fixed_is ∙ a.site_is.fixed in
      subst (λ (o : Option Terms). IsSomeAnd o (λ f. may_follow f turn step)) (sym e)
      (subst (λ (o : Option Terms). Allowed (layout_in o) (reverse turn) step) e h)

  pub moves : (slice : List ℕ) (b : Bool) → slice ≡ keys → b ≡ is_some (elsewhere (layout_in fixed) (reverse turn) site slice) → b ≡ true
      → Allowed (layout_in fixed) (reverse turn) (Moved site txn)
  moves slice b s e t =
      may_move (layout_in fixed) (reverse turn) keeps_here.legal site keeps_here.there txn keys min a.routed a.up
      (ap (λ (ks : List ℕ). is_some (elsewhere (layout_in fixed) (reverse turn) site ks)) (sym s) ∙ (sym e ∙ t))

  pub nowhere_else : (slice : List ℕ) (b : Bool) → slice ≡ keys → b ≡ is_some (elsewhere (layout_in fixed) (reverse turn) site slice) → b ≡ false
      → elsewhere (layout_in fixed) (reverse turn) site keys ≡ None
  nowhere_else slice b s e t =
      none_of (elsewhere (layout_in fixed) (reverse turn) site keys)
      (ap (λ (ks : List ℕ). is_some (elsewhere (layout_in fixed) (reverse turn) site ks)) (sym s) ∙ (sym e ∙ t))

  pub begins_here : (now : Locks) (begin : List ℕ) → elsewhere (layout_in fixed) (reverse turn) site keys ≡ None
      → IsServed (record { txn = txn; keys = keys }) parts.locks now → begin ≡ site_vector (layout_in fixed).sites (reverse turn) site
      → Allowed (layout_in fixed) (reverse turn) (Begin site txn begin)
  begins_here now begin here s e =
      subst (λ (v : List ℕ). Allowed (layout_in fixed) (reverse turn) (Begin site txn v)) (sym e)
      (served_may_begin (layout_in fixed) opened site (reverse turn) parts keeps_here txn keys min a.routed now a.up here a.reached s)

  pub reaches : (begin : List ℕ) → begin ≡ site_vector (layout_in fixed).sites (reverse turn) site → AtMost min begin
  reaches begin e = subst (λ (v : List ℕ). AtMost min v) (sym e) a.reached

  -- ---- what it leaves

  keeps_of : (past : List Step) (now : Parts) → Keeps (layout_in fixed) opened site past now → Keeps (layout_of pass) opened site past now
  keeps_of past now k = subst (λ (l : Layout). Keeps l opened site past now) layout_same k

  pub after_moved : (after : View) (locks : Locks) → Allowed (layout_in fixed) (reverse turn) (Moved site txn) → locks ≡ left_line parts.locks txn.session
      → after ≡ record pass { seen = turn ++ Moved site txn ∷ [] } → IsSite table opened site after (record parts { locks = locks })
  after_moved after locks may l e =
      after_step table opened site pass after parts (record parts { locks = locks }) turn (Moved site txn) a.site_is e
      (keeps_of (Moved site txn ∷ reverse turn) (record parts { locks = locks })
      (subst (λ (locks : Locks). Keeps (layout_in fixed) opened site (Moved site txn ∷ reverse turn) (record parts { locks = locks })) (sym l)
      (keeps_moved (layout_in fixed) opened site (reverse turn) parts keeps_here txn may (left_line parts.locks txn.session) refl
      (others_sent (layout_in fixed) opened site (reverse turn) parts keeps_here txn.session))))

  pub after_nothing : (after : View) → after ≡ record pass { seen = turn } → IsSite table opened site after parts
  after_nothing after e = after_turn table opened site pass after parts parts turn a.site_is e (keeps_of (reverse turn) parts keeps_here)

  pub after_waits : (after : View) (locks : Locks) (by : TxnId) (key : ℕ) → IsHeldUp (record { txn = txn; keys = keys }) parts.locks locks by key
      → after ≡ record pass { seen = turn } → IsSite table opened site after (record parts { locks = locks })
  after_waits after locks by key h e =
      after_turn table opened site pass after parts (record parts { locks = locks }) turn a.site_is e
      (keeps_of (reverse turn) (record parts { locks = locks })
      (keeps_line (layout_in fixed) opened site (reverse turn) parts keeps_here locks
      (held_up_holders (layout_in fixed) opened site (reverse turn) parts keeps_here txn keys min a.routed locks by key h)
      (held_up_waiters (layout_in fixed) opened site (reverse turn) parts keeps_here txn keys min a.routed locks by key h)))

  pub after_begin : (after : View) (locks : Locks) (begin : List ℕ) → Allowed (layout_in fixed) (reverse turn) (Begin site txn begin)
      → IsServed (record { txn = txn; keys = keys }) parts.locks locks → after ≡ record pass { seen = turn ++ Begin site txn begin ∷ [] }
      → IsSite table opened site after (record parts { locks = locks })
  after_begin after locks begin may s e =
      after_step table opened site pass after parts (record parts { locks = locks }) turn (Begin site txn begin) a.site_is e
      (keeps_of (Begin site txn begin ∷ reverse turn) (record parts { locks = locks })
      (keeps_begin (layout_in fixed) opened site (reverse turn) parts keeps_here txn begin may locks
      (s.holders ∙ ap (λ (claim : Claim). parts.locks.holders ++ claim ∷ []) (sym its_claim))
      (served_waiters (layout_in fixed) opened site (reverse turn) parts keeps_here txn keys min a.routed locks s)))
    where
      its_claim : claimed (reverse turn) txn ≡ record { txn = txn; keys = keys }
      its_claim = claims_these (layout_in fixed) opened site (reverse turn) parts keeps_here txn keys min a.routed

  -- ---- the run

  pub run_starts : (own was : View) (begin declares : List ℕ) (done : Progress) → Turned own turn fixed
      → Allowed (layout_in fixed) (reverse turn) (Begin site txn begin) → was ≡ record own { seen = turn ++ Begin site txn begin ∷ [] }
      → declares ≡ keys → done ≡ nothing_done → IsRun txn begin declares done was
  run_starts own was begin declares done o may e d n =
      subst (λ (w : View). IsRun txn begin declares done w) (sym e)
      (subst (λ (p : Progress). IsRun txn begin declares p (record own { seen = turn ++ step ∷ [] })) (sym n) begun)
    where
      step : Step
      step = Begin site txn begin

      same : layout_in fixed ≡ layout_of own
      same = layout_turned own turn fixed o

      began : Began (layout_in fixed) (step ∷ reverse turn) txn begin nothing_done
      began = (run_begins (layout_in fixed) (reverse turn) site txn begin may).began

      its_keys : declared txn (reverse turn) ≡ keys
      its_keys = ap (λ (claim : Claim). claim.keys) (claims_these (layout_in fixed) opened site (reverse turn) parts keeps_here txn keys min a.routed)

      begun : IsRun txn begin declares nothing_done (record own { seen = turn ++ step ∷ [] })
      begun = record {
        legal = subst (λ (l : Layout). Legal l (turn ++ step ∷ [])) same (legal_push (layout_in fixed) turn step keeps_here.legal may);
        began = subst (λ (past : List Step). Began (layout_of own) past txn begin nothing_done) (sym (reverse_snoc turn step))
            (subst (λ (l : Layout). Began l (step ∷ reverse turn) txn begin nothing_done) same began);
        declares = d ∙ (sym its_keys ∙ ap (λ (past : List Step). declared txn past) (sym (reverse_snoc turn step)));
      }

-- ---- the site

-- what a turn leaves of a site whose parts were these
pub begins_from : {D : Type 0} (here old new : Station D) → here ≡ old → new.number ≡ here.number → IsPrefix here.installed new.installed
    → new.live ≡ here.live → Went here.pass new.pass → new.disk ≡ here.disk → Begins old new
begins_from {D} here old new e number installed live pass disk =
    subst (λ (station : Station D). Begins station new) e (record { number = number; installed = installed; live = live; pass = pass; disk = disk })

-- the session has a step more, at the site's number
pub did_at : {D : Type 0} (here old : Station D) (own0 own1 : View) (turn : List Step) (fixed : Option Terms) (session : ℕ) (step : ℕ → Step) → here ≡ old
    → own0.actors ≡ Session session ∷ [] → Turned own0 turn fixed → own1 ≡ record own0 { seen = turn ++ step here.number ∷ [] }
    → ((site : ℕ) → belongs actors (step site) (Session session) ≡ true) → Did (Session session) own0 own1 (step old.number)
did_at {D} here old own0 own1 turn fixed session step e a o p b =
    subst (λ (station : Station D). Did (Session session) own0 own1 (step station.number)) e
    (did (Session session) own0 own1 turn (step here.number) (adds_one (Session session) own0 turn fixed a o) p (b here.number))

-- the session goes on to wait, and the site is up and may begin on the keys
pub held_at : {D : Type 0} {table : TableId} {opened : List ℕ} {pass : View} {parts : Parts} {turn : List Step} {fixed : Option Terms} {txn : TxnId}
    {keys min : List ℕ} (here old : Station D) (own0 own1 : View) → Arrived table opened here.number pass parts turn fixed txn keys min → here ≡ old
    → own0.actors ≡ Session txn.session ∷ [] → Turned own0 turn fixed → own1 ≡ record own0 { seen = turn }
    → elsewhere (layout_in fixed) (reverse turn) here.number keys ≡ None
    → Rested (Session txn.session) own0 own1 × IsUpIn own1 old.number × (elsewhere (layout_of own1) (reverse own1.seen) old.number keys ≡ None)
held_at {D} {turn} {fixed} {txn} {keys} here old own0 own1 a e actors t p none =
    let nowhere : elsewhere (layout_of own0) (reverse turn) here.number keys ≡ None =
    ap (λ (l : Layout). elsewhere l (reverse turn) here.number keys) (sym (layout_turned own0 turn fixed t)) ∙ none in (
      rested_in (Session txn.session) own0 own1 turn (adds_one (Session txn.session) own0 turn fixed actors t) p,
      subst (λ (station : Station D). IsUpIn own1 station.number) e (subst (λ (w : View). IsUpIn w here.number) (sym p) a.up),
      subst (λ (station : Station D). elsewhere (layout_of own1) (reverse own1.seen) station.number keys ≡ None) e
          (subst (λ (w : View). elsewhere (layout_of w) (reverse w.seen) here.number keys ≡ None) (sym p) nowhere),
    )
