-- What an attempt at its site comes to.
use Rattle.std.proofs.Common.{◌≡◌, ⊎_elim, ℕ, Bool, true, ◌==◌, List, [], ◌∷◌, ◌++◌, Option, Some, None, refl, sym, ap, ◌∙◌, subst, append-nil, append_assoc, if◌then◌else◌, unwrap_or}
use Rattle.std.proofs.lemmas.Bool.{eq-eqb, and_from}
use Rattle.std.specs.Prelude.{reverse}
use Rattle.dm_desk.specs.declared.answers.CommitAnswer.{CommitAnswer}
use Rattle.dm_desk.specs.declared.answers.CommitAnswer.TheVariants as commits
use Rattle.dm_event.specs.declared.actor.Actor.TheVariants.{Session}
use Rattle.dm_invariant.specs.Running.{Going, RoutedFor}
use Rattle.dm_invariant.specs.Stations.{Did, Rested, View, Went, layout_of, no_terms, own}
use Rattle.dm_session.proofs.Carried.{Stays, state_last, state_stays, routed_last}
use Rattle.dm_site.specs.Answers.{GaveUp, WasDropped}
use Rattle.dm_answers.specs.Answers.{EachTries, FitsBody}
use Rattle.dm_answers.specs.declared.item.Item.TheVariants.{Txn}
use Rattle.dm_sites.proofs.Ways.{steps_two, ready_memory, ready_failed}
use Rattle.dm_sites.specs.Telling.{IsRoutable, CameAs, bare, came_of, cause_of, refused_for}
use Rattle.dm_sites.specs.declared.told.Came.{Came}
use Rattle.dm_sites.specs.declared.told.Came.TheVariants as came
use Rattle.dm_event.specs.Vectors.{AtMost}
use Rattle.dm_event.specs.declared.attempt.AttemptState.{AttemptState}
use Rattle.dm_event.specs.declared.attempt.AttemptState.TheVariants as stands
use Rattle.dm_event.specs.declared.step.Body.{Body}
use Rattle.dm_event.specs.declared.step.Cause.{Cause}
use Rattle.dm_event.specs.declared.step.Cause.TheVariants as cause
use Rattle.dm_event.specs.declared.step.Pending.TheVariants as pending
use Rattle.dm_event.specs.declared.step.Said.TheVariants as said
use Rattle.dm_event.specs.declared.step.Step.{Step}
use Rattle.dm_event.specs.declared.step.Step.TheVariants.{Begin, Moved, Commit, End, Fail, Doubt}
use Rattle.dm_event.specs.declared.step.TxnId.{TxnId}
use Rattle.dm_model.specs.Attempts.{state, state_by}
use Rattle.dm_model.specs.Outcomes.{may_give_up, is_committed, is_ended, is_doubted}
use Rattle.dm_model.specs.Rows.{may_route}
use Rattle.dm_event.specs.Layout.{Layout, is_site}
use Rattle.dm_session.specs.Sitting.{Between}
use Rattle.dm_sites.specs.Stages.{EndedAs, FailedAt, IsLogCause, StoppedAs}
use Rattle.dm_sites.specs.declared.stop.Stop.{Stop}
use Rattle.dm_sites.specs.declared.stop.Stop.TheVariants as stop
use Rattle.dm_desk.specs.Causing.{IsCaused}
use Rattle.dm_logdisk.specs.Story.{Story}
use Rattle.dm_core.specs.Lawful.{Terms}
use Rattle.dm_event.specs.declared.step.Op.{Op}
use Rattle.dm_event.specs.declared.step.Want.{Want}

-- the session's state after its last step
last_state : (c : ℕ) (st : AttemptState) → Stays st → (old new : List Step) (x s : Step) → own (Session c) new ≡ own (Session c) old ++ (x ∷ s ∷ []) → state_by c s ≡ Some st → state c (reverse new) ≡ st
last_state c st stays old new x s h e = state_last c st stays new (own (Session c) old ++ x ∷ []) s (h ∙ sym (append_assoc (own (Session c) old) (x ∷ []) (s ∷ []))) e

one_state : (c : ℕ) (st : AttemptState) → Stays st → (old new : List Step) (s : Step) → own (Session c) new ≡ own (Session c) old ++ s ∷ [] → state_by c s ≡ Some st → state c (reverse new) ≡ st
one_state c st stays old new s h e = state_last c st stays new (own (Session c) old) s h e

of_session : (c d : ℕ) (st : AttemptState) → d ≡ c → (if d == c then Some st else None) ≡ Some st
of_session c d st e = ap (λ (b : Bool). if b then Some st else None) (eq-eqb d c e)

module _ (body : Body) (r : IsRoutable (Txn body)) (txn : TxnId) (to : ℕ) (least : List ℕ) (old new : View) (went : Went old new) (there : is_site (layout_of new) to ≡ true) where
  abbrev Comes : Came → Type 0
  Comes x = CameAs txn.session txn.number (Txn body) least (Some txn) old new x × Between txn.session old.seen new.seen

  -- ---- after its Begin

  module _ (mid late : View) (begin : List ℕ) (began : Did (Session txn.session) old mid (Begin to txn begin)) (kept : Rested (Session txn.session) mid late) (least_is : AtMost least begin) where
    both : (s : Step) → Did (Session txn.session) late new s → own (Session txn.session) new.seen ≡ own (Session txn.session) old.seen ++ (Begin to txn begin ∷ s ∷ [])
    both s d = steps_two txn.session old.seen late.seen new.seen (Begin to txn begin ∷ []) (s ∷ []) (kept ∙ began) d

    alone : Rested (Session txn.session) late new → own (Session txn.session) new.seen ≡ own (Session txn.session) old.seen ++ Begin to txn begin ∷ []
    alone k = k ∙ (kept ∙ began)

    pub came_dropped : WasDropped txn late new → Comes (came.Again txn)
    came_dropped d = (
      (record { went = went; way = Begin to txn begin ∷ []; steps = alone d.0; tries = ((refl, refl), tt); last_is = refl }, ap may_route d.1),
      (Begin to txn begin ∷ [], alone d.0, ((refl, refl), tt)),
    )

    pub came_failed : (why : Cause) → FailedAt to txn why late new → Comes (came.Say (record { said = said.Refused why; txn = Some txn; reads = []; vector = None }))
    came_failed why d = (
      ready_failed txn.session txn.number (Txn body) least (Some txn) old new (record { said = said.Refused why; txn = Some txn; reads = []; vector = None }) r went (Begin to txn begin ∷ Fail to txn why ∷ []) (both (Fail to txn why) d.0)
          ((refl, refl), ((refl, refl), tt)) refl refl refl to txn why (Begin to txn begin ∷ []) refl refl d.1 there refl,
      (Begin to txn begin ∷ Fail to txn why ∷ [], both (Fail to txn why) d.0, ((refl, refl), ((refl, refl), tt))),
    )

    -- it found no memory
    pub came_gave_up : (keys : List ℕ) (was : View) (ops : List Op) → GaveUp (record { txn = txn; site = to; begin = begin; declared = keys; ops = ops; was = was }) late new → Comes (came.Say (record { said = said.Refused cause.Memory; txn = Some txn; reads = []; vector = None }))
    came_gave_up keys was ops h = ⊎_elim
        (λ (d : Did (Session txn.session) late new (Fail to txn cause.Memory)).
        let failed = last_state txn.session (stands.Failed cause.Memory) tt old.seen new.seen (Begin to txn begin) (Fail to txn cause.Memory) (both (Fail to txn cause.Memory) d) (of_session txn.session txn.session (stands.Failed cause.Memory) refl) in (
          ready_memory txn.session txn.number (Txn body) least (Some txn) old new (record { said = said.Refused cause.Memory; txn = Some txn; reads = []; vector = None }) r went (Begin to txn begin ∷ Fail to txn cause.Memory ∷ []) (both (Fail to txn cause.Memory) d)
              ((refl, refl), ((refl, refl), tt)) refl refl refl refl (ap may_give_up failed),
          (Begin to txn begin ∷ Fail to txn cause.Memory ∷ [], both (Fail to txn cause.Memory) d, ((refl, refl), ((refl, refl), tt))),
        ))
        (λ (d : WasDropped txn late new). (
          ready_memory txn.session txn.number (Txn body) least (Some txn) old new (record { said = said.Refused cause.Memory; txn = Some txn; reads = []; vector = None }) r went (Begin to txn begin ∷ []) (alone d.0)
              ((refl, refl), tt) refl refl refl refl (ap may_give_up d.1),
          (Begin to txn begin ∷ [], alone d.0, ((refl, refl), tt)),
        ))
        h

    pub came_closed : (keys : List ℕ) (was : View) (answer : CommitAnswer)
        → EndedAs to (record { txn = txn; site = to; begin = begin; declared = keys; ops = body.ops; was = was }) late new answer → Comes (came_of txn to answer)
    came_closed keys was (commits.Committed seq vector reads) h =
        let e = h.0 in
        let steps = both (Commit e) h.1 in
        let mine : e.txn.session ≡ txn.session = ap (λ (t : TxnId). t.session) h.2.0 in
        let tries : EachTries txn.session txn.number (Txn body) (Begin to txn begin ∷ Commit e ∷ []) =
        ((refl, refl), (((mine, ap (λ (t : TxnId). t.number) h.2.0), h.2.3), tt)) in
        let committed : state txn.session (reverse new.seen) ≡ stands.Committed e.origin e.seq =
        last_state txn.session (stands.Committed e.origin e.seq) tt old.seen new.seen (Begin to txn begin) (Commit e) steps
        (of_session txn.session e.txn.session (stands.Committed e.origin e.seq) mine) in (
          record {
            went = went;
            way = Begin to txn begin ∷ Commit e ∷ [];
            steps = steps;
            tries = tries;
            last_is = refl;
            fits = subst (λ (x : Option ℕ). FitsBody x body.ops (said.Committed to seq) (Begin to txn begin ∷ Commit e ∷ [])) (sym r)
                (e, (Begin to txn begin ∷ [], refl), h.2.1, sym h.3, h.2.3);
            tells = (
              [],
              txn,
              e,
              ap (λ (b : List ℕ). Begin to txn b ∷ Commit e ∷ []) (sym h.2.2),
              h.2.1,
              sym h.3,
              h.5,
              ap (λ (v : List ℕ). Some v) h.4,
              subst (λ (b : List ℕ). AtMost least b) (sym h.2.2) least_is,
            );
            shaped = there;
            may = ap (λ (st : AttemptState). is_committed st to seq) committed
                ∙ and_from _ _ (eq-eqb e.origin to h.2.1) (eq-eqb e.seq seq (sym h.3));
          },
          (Begin to txn begin ∷ Commit e ∷ [], steps, ((refl, refl), ((refl, refl), tt))),
        )
    came_closed keys was (commits.Ended b reads) h =
        let steps = both (End to txn body.ops reads) h.0 in
        let ended : state txn.session (reverse new.seen) ≡ stands.Ended to =
        last_state txn.session (stands.Ended to) tt old.seen new.seen (Begin to txn begin) (End to txn body.ops reads) steps
        (of_session txn.session txn.session (stands.Ended to) refl) in (
          record {
            went = went;
            way = Begin to txn begin ∷ End to txn body.ops reads ∷ [];
            steps = steps;
            tries = ((refl, refl), (((refl, refl), refl), tt));
            last_is = refl;
            fits = subst (λ (x : Option ℕ). FitsBody x body.ops (said.Read to) (Begin to txn begin ∷ End to txn body.ops reads ∷ [])) (sym r)
                (txn, reads, (Begin to txn begin ∷ [], refl));
            tells = ([], txn, begin, body.ops, refl, ap (λ (v : List ℕ). Some v) h.1, least_is);
            shaped = there;
            may = ap (λ (st : AttemptState). is_ended st to) ended ∙ eq-eqb to to refl;
          },
          (Begin to txn begin ∷ End to txn body.ops reads ∷ [], steps, ((refl, refl), ((refl, refl), tt))),
        )
    came_closed keys was commits.InDoubt h =
        let e = h.0 in
        let steps = both (Doubt to (pending.Commit e)) h.1 in
        let mine : e.txn.session ≡ txn.session = ap (λ (t : TxnId). t.session) h.2.0 in
        let doubted : state txn.session (reverse new.seen) ≡ stands.Doubted to =
        last_state txn.session (stands.Doubted to) tt old.seen new.seen (Begin to txn begin) (Doubt to (pending.Commit e)) steps
        (of_session txn.session e.txn.session (stands.Doubted to) mine) in (
          record {
            went = went;
            way = Begin to txn begin ∷ Doubt to (pending.Commit e) ∷ [];
            steps = steps;
            tries = ((refl, refl), (((mine, ap (λ (t : TxnId). t.number) h.2.0), h.2.3), tt));
            last_is = refl;
            fits = subst (λ (x : Option ℕ). FitsBody x body.ops (said.InDoubt to) (Begin to txn begin ∷ Doubt to (pending.Commit e) ∷ [])) (sym r)
                (e, (Begin to txn begin ∷ [], refl), h.2.3);
            tells = (refl, refl);
            shaped = there;
            may = ap (λ (st : AttemptState). is_doubted st to) doubted ∙ eq-eqb to to refl;
          },
          (Begin to txn begin ∷ Doubt to (pending.Commit e) ∷ [], steps, ((refl, refl), ((refl, refl), tt))),
        )
    came_closed keys was (commits.Failed why) h = came_failed why h
    came_closed keys was commits.Dropped h = came_dropped h

  -- ---- where it didn't begin

  pub came_moved : Did (Session txn.session) old new (Moved to txn) → Comes (came.Again txn)
  came_moved d = (
    (
      record { went = went; way = Moved to txn ∷ []; steps = d; tries = ((refl, refl), tt); last_is = refl },
      ap may_route (one_state txn.session stands.Moved tt old.seen new.seen (Moved to txn) d (of_session txn.session txn.session stands.Moved refl)),
    ),
    (Moved to txn ∷ [], d, ((refl, refl), tt)),
  )

  came_refused : (site : ℕ) (why : Cause) → FailedAt site txn why old new → Comes (refused_for why txn)
  came_refused site why d = (
    ready_failed txn.session txn.number (Txn body) least (Some txn) old new (bare (said.Refused why) txn) r went (Fail site txn why ∷ []) d.0
        ((refl, refl), tt) refl refl refl site txn why [] refl refl d.1 d.2 refl,
    (Fail site txn why ∷ [], d.0, ((refl, refl), tt)),
  )

  pub came_unfit : (wanted : Want) (min : List ℕ) → RoutedFor txn wanted min to old → Rested (Session txn.session) old new → Comes (came.Say (record { said = said.Refused cause.Memory; txn = Some txn; reads = []; vector = None }))
  came_unfit wanted min routed k =
      let st = (routed_last txn.session (record { txn = txn; want = wanted; min = min; site = to; choice = routed.1 }) old.seen routed.0 refl routed.2).0 in
      let same = state_stays txn.session (stands.Routed to routed.1) tt old.seen new.seen went.begins k st in (
        ready_memory txn.session txn.number (Txn body) least (Some txn) old new (record { said = said.Refused cause.Memory; txn = Some txn; reads = []; vector = None }) r went [] (k ∙ sym (append-nil (own (Session txn.session) old.seen)))
            tt refl refl refl refl (ap may_give_up same),
        ([], k ∙ sym (append-nil (own (Session txn.session) old.seen)), tt),
      )

  -- what stopped it is the answer
  pub came_stopped : (s : Stop) (wanted : Want) (min : List ℕ) → RoutedFor txn wanted min to old → StoppedAs txn old new s → Comes (refused_for (cause_of s) txn)
  came_stopped (stop.Failed why) wanted min routed h = came_refused h.0 why h.1
  came_stopped stop.NoMemory wanted min routed h = came_unfit wanted min routed h

-- the run's ops were the body's
pub as_run : (run : Going) (txn : TxnId) (to : ℕ) (keys : List ℕ) (ops ops' : List Op) (was late new : View) (answer : CommitAnswer)
    → run ≡ record { txn = txn; site = to; begin = run.begin; declared = keys; ops = []; was = was } → ops' ≡ ops
    → EndedAs to (record run { ops = ops' }) late new answer
    → EndedAs to (record { txn = txn; site = to; begin = run.begin; declared = keys; ops = ops; was = was }) late new answer
as_run run txn to keys ops ops' was late new answer e q h =
    let p : record run { ops = ops' } ≡ record { txn = txn; site = to; begin = run.begin; declared = keys; ops = ops; was = was } =
    λ i. record (e i) { ops = q i } in
    subst (λ (x : Going). EndedAs to x late new answer) p h

pub there_on : (old new : View) (to : ℕ) → Went old new → is_site (layout_of old) to ≡ true → is_site (layout_of new) to ≡ true
there_on old new to w h = subst (λ (o : Option Terms). is_site (unwrap_or o no_terms).layout to ≡ true) (sym w.fixed) h

pub there_in : (old new : View) (layout : Layout) (to : ℕ) → layout_of old ≡ layout → Went old new → is_site layout to ≡ true
    → is_site (layout_of new) to ≡ true
there_in old new layout to e w h = there_on old new to w (subst (λ (l : Layout). is_site l to ≡ true) (sym e) h)

-- ---- what fails for its log

pub failed_at : (site to : ℕ) (txn : TxnId) (why : Cause) (told : Option Story) (before now : ℕ) (old new : View) → site ≡ to
    → Did (Session txn.session) old new (Fail site txn why) → IsCaused site why told before now → is_site (layout_of new) to ≡ true → FailedAt to txn why old new
failed_at site to txn why told before now old new e did is there =
    subst (λ (k : ℕ). is_site (layout_of new) k ≡ true → FailedAt k txn why old new) e (λ t. (did, log why is, t)) there
  where
    log : (w : Cause) → IsCaused site w told before now → IsLogCause site w
    log (cause.Log at) h = h.0
    log (cause.Damage at place read written) h = (h.0, h.1)
    log (cause.Undeclared key) h = absurd h
    log cause.Memory h = absurd h

pub failed_after : (on : TxnId) (old mid new : View) (s : Stop) → Rested (Session on.session) old mid → StoppedAs on mid new s → StoppedAs on old new s
failed_after on old mid new (stop.Failed why) k h = (h.0, (h.1.0 ∙ ap (λ (l : List Step). l ++ Fail h.0 on why ∷ []) k, h.1.1, h.1.2))
failed_after on old mid new stop.NoMemory k h = h ∙ k
