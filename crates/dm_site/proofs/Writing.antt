-- A site that makes its log live and appends a hand-over's record to it, as its callers see it.
use Rattle.std.proofs.Common.{ℕ, ◌≡◌, false, List, [], ◌∷◌, Option, Some, None, Result, Ok, Err, refl, sym, ap, ◌∙◌, subst}
use Rattle.std.proofs.lemmas.Result.{IfErr-at_err, IfOk-at_ok}
use Rattle.std.specs.Prelude.{reverse, IfErr, IfOk, OnErr}
use Rattle.atomic_table.specs.Seated.{TableId}
use Rattle.dm_core.specs.Lawful.{Terms}
use Rattle.dm_event.specs.Layout.{Layout}
use Rattle.dm_event.specs.declared.actor.Actor.TheVariants.{Session, Site}
use Rattle.dm_event.specs.declared.step.Cause.{Cause}
use Rattle.dm_event.specs.declared.step.Pending.{Pending}
use Rattle.dm_event.specs.declared.step.Pending.TheVariants as pending
use Rattle.dm_event.specs.declared.step.Step.{Step}
use Rattle.dm_event.specs.declared.step.Step.TheVariants.{Fail}
use Rattle.dm_event.specs.declared.step.TxnId.{TxnId}
use Rattle.dm_locks.specs.Locks.{Locks}
use Rattle.dm_logdisk.specs.Story.{Both, Story}
use Rattle.dm_model.specs.Doubts.{is_down}
use Rattle.dm_model.specs.Legal.{Legal}
use Rattle.dm_others.specs.Adding.{AddsOthers}
use Rattle.dm_redo.specs.declared.appending.Appended.{Appended}
use Rattle.dm_site.proofs.Finishing.{crash_later, met_here, met_there}
use Rattle.dm_site.proofs.Outcomes.{went_still}
use Rattle.dm_invariant.proofs.Lively.{appends_on, down_on, fails_on, keeps_now, none_doubted, on_err}
use Rattle.dm_invariant.proofs.Passing.{adds_met, adds_one, came_pass, met_came, met_pass, met_seen, went_layout}
use Rattle.dm_invariant.proofs.Turned.{turn_legal}
use Rattle.dm_invariant.specs.Keeping.{IsSite, Parts}
use Rattle.dm_invariant.specs.Logs.{Crashes, doubted}
use Rattle.dm_invariant.specs.Stations.{Station, View, Went, layout_of}
use Rattle.dm_invariant.specs.Turning.{Came, Met, Turned}
use Rattle.dm_invariant.specs.Writing.{MayAppend, MayFail, installed_after, let_go}
use Rattle.dm_site.specs.Handing.{Hands, IsHandOver}
use Rattle.dm_site.specs.Loading.{MadeLive}
use Rattle.dm_store.specs.declared.past.Past.{Past}

-- an error within a value
err_in_ok : {A E F : Type 0} (P : E → Type 0) (r : Result (Result A E) F) (x : Result A E) (y : E) → r ≡ Ok x → x ≡ Err y
    → IfOk r (λ x. IfErr x P) → P y
err_in_ok P r x y p q h = IfErr-at_err P q (IfOk-at_ok (λ x. IfErr x P) p h)

-- ---- a log that is loaded again, after a turn

module _ {D : Type 0} {table : TableId} {opened : List ℕ} (here old : Station D) (own0 : View) {parts : Parts} {turn : List Step} {fixed : Option Terms}
    (e : here ≡ old) (s : IsSite table opened here.number here.pass parts) (o : Turned own0 turn fixed) (t : Turned here.pass turn fixed)
    (after : View) (p : after ≡ record here.pass { seen = turn }) where
  site_adds : AddsOthers (Site here.number) here.pass.seen turn
  site_adds = adds_one (Site here.number) here.pass turn fixed s.actors t

  -- for each of the site's causes the attempt may still fail
  pub fails_met : (txn : TxnId) → own0.actors ≡ Session txn.session ∷ [] → own0.seen ≡ old.pass.seen
      → MayFail (layout_of old.pass) old.number txn old.pass.seen → MayFail (layout_of after) here.number txn after.seen
  fails_met txn a m may =
      subst (λ (v : View). MayFail (layout_of v) here.number txn v.seen) (sym p)
      (fails_on (layout_of here.pass) here.number txn here.pass.seen turn site_adds
      (subst (λ (steps : List Step). AddsOthers (Session txn.session) steps turn) (m ∙ ap (λ (at : Station D). at.pass.seen) (sym e))
      (adds_one (Session txn.session) own0 turn fixed a o))
      (subst (λ (at : Station D). MayFail (layout_of at.pass) at.number txn at.pass.seen) (sym e) may))

  -- nothing is in doubt
  pub none_met : is_down old.number (reverse old.pass.seen) ≡ false → None ≡ doubted here.number (reverse after.seen)
  none_met up =
      none_doubted here.number (reverse after.seen)
      (ap (λ (v : View). is_down here.number (reverse v.seen)) p
      ∙ (down_on (layout_of here.pass) here.number here.pass.seen turn (turn_legal table opened here.number here.pass parts turn fixed s t) site_adds
      ∙ (ap (λ (at : Station D). is_down at.number (reverse at.pass.seen)) e ∙ up)))

  module _ (session : ℕ) (a : own0.actors ≡ Session session ∷ []) (own1 : View) (q : own1 ≡ record own0 { seen = turn }) where
    -- a later step, as its caller sees it
    pub came_later : (step : ℕ → Step) (own2 pass2 : View) → Came (Site here.number) (Session session) own1 after own2 pass2 (step here.number)
        → Came (Site old.number) (Session session) own0 old.pass own2 pass2 (step old.number)
    came_later step own2 pass2 c =
        subst (λ (at : Station D). Came (Site at.number) (Session session) own0 at.pass own2 pass2 (step at.number)) e
        (met_came (Site here.number) (Session session) own0 here.pass own1 after own2 pass2 (step here.number)
        (met_there here old own0 e s o t session a own1 after q p) c)

    -- no step, where memory is wanting
    pub left_err : {A E : Type 0} (r : Result A E)
        → OnErr r (Met (Site old.number) (Session session) own0 old.pass own1 after × (here.locks ≡ old.locks))
    left_err r =
        on_err r (Met (Site old.number) (Session session) own0 old.pass own1 after × (here.locks ≡ old.locks))
        (met_here here old own0 e s o t session a own1 after q p, ap (λ (at : Station D). at.locks) e)

    -- a load, as its caller sees it
    module _ {A E : Type 0} (txn : TxnId) (locks1 locks2 : Locks) (own2 pass2 : View) (r : Result (Result A Cause) E)
        (ok : IfOk r (λ r. IfOk r (λ _. (own2 ≡ own1) × (pass2 ≡ after) × (locks2 ≡ locks1))))
        (failed : IfOk r (λ r. IfErr r (λ why. Came (Site here.number) (Session session) own1 after own2 pass2 (Fail here.number txn why))))
        (err : OnErr r ((own2 ≡ own1) × (pass2 ≡ after) × (locks2 ≡ locks1))) where
      loaded_went : Went after pass2
      loaded_went = by r ok failed err
        where
          by : (r : Result (Result A Cause) E) → IfOk r (λ r. IfOk r (λ _. (own2 ≡ own1) × (pass2 ≡ after) × (locks2 ≡ locks1)))
              → IfOk r (λ r. IfErr r (λ why. Came (Site here.number) (Session session) own1 after own2 pass2 (Fail here.number txn why)))
              → OnErr r ((own2 ≡ own1) × (pass2 ≡ after) × (locks2 ≡ locks1)) → Went after pass2
          by (Ok (Ok found)) h f x = subst (λ (v : View). Went after v) (sym h.1) (went_still after)
          by (Ok (Err why)) h f x = came_pass (Site here.number) (Session session) own1 after own2 pass2 (Fail here.number txn why) f
          by (Err x) h f e = subst (λ (v : View). Went after v) (sym e.1) (went_still after)

      pub crash_loaded : (story : D → Option Story) → parts.told ≡ story here.disk → (now : Option Story)
          → Both (Crashes here.number after pass2) parts.told now → Both (Crashes old.number old.pass pass2) (story old.disk) now
      crash_loaded story d now c = crash_later story here old e s d t after pass2 p parts.told now refl loaded_went c

      pub loaded_fails : (x : Result A Cause) (why : Cause) → r ≡ Ok x → x ≡ Err why → IfOk r (λ r. IfErr r (λ _. locks2 ≡ let_go txn locks1))
          → locks1 ≡ here.locks
          → (locks2 ≡ let_go txn old.locks) × Came (Site old.number) (Session session) own0 old.pass own2 pass2 (Fail old.number txn why)
      loaded_fails x why f g l h = (
        err_in_ok (λ _. locks2 ≡ let_go txn locks1) r x why f g l
            ∙ (ap (λ (locks : Locks). let_go txn locks) h ∙ ap (λ (at : Station D). let_go txn at.locks) e),
        came_later (λ site. Fail site txn why) own2 pass2
            (err_in_ok (λ why. Came (Site here.number) (Session session) own1 after own2 pass2 (Fail here.number txn why)) r x why f g failed),
      )

-- ---- a hand-over's record in a live log

-- the store takes nothing
pub installs_none : (p : Pending) (how : Appended) (installed : List Past) → IsHandOver p → installed_after p how installed ≡ installed
installs_none (pending.Commit entry) how installed h = absurd h
installs_none (pending.Release part epoch to vector) how installed h = refl
installs_none (pending.Grant part epoch vector) how installed h = refl

-- no step came, where the log was made live
pub made_live : {D : Type 0} (old live : Station D) (txn : TxnId) (own0 own1 : View) (o : Option Cause) → o ≡ None → MadeLive txn old live own0 own1 o
    → Met (Site old.number) (Session txn.session) own0 old.pass own1 live.pass
made_live old live txn own0 own1 o n made = (subst (λ (o : Option Cause). MadeLive txn old live own0 own1 o) n made).2

-- and else the site has what it had
pub fails_live : {D : Type 0} (old live : Station D) (txn : TxnId) (own0 own1 : View) (o : Option Cause) (why : Cause) → o ≡ Some why
    → live.number ≡ old.number → live.installed ≡ old.installed → MadeLive txn old live own0 own1 o → Hands old live
fails_live old live txn own0 own1 o why e n i made = record {
  number = n;
  installed = i;
  pass = came_pass (Site old.number) (Session txn.session) own0 old.pass own1 live.pass (Fail old.number txn why)
      (subst (λ (o : Option Cause). MadeLive txn old live own0 own1 o) e made).1;
}

-- ---- a hand-over's record in a log that was made live before

module _ {D : Type 0} {table : TableId} {opened : List ℕ} (old here live : Station D) {parts : Parts} (e : here ≡ live)
    (s : IsSite table opened here.number here.pass parts) (n : live.number ≡ old.number) (txn : TxnId) (own0 own1 : View)
    (m : Met (Site old.number) (Session txn.session) own0 old.pass own1 live.pass) where
  layout_same : layout_of live.pass ≡ layout_of old.pass
  layout_same = went_layout old.pass live.pass (met_pass (Site old.number) (Session txn.session) own0 old.pass own1 live.pass m)

  legal_there : Legal (layout_of live.pass) live.pass.seen
  legal_there =
      subst (λ (at : Station D). Legal (layout_of at.pass) at.pass.seen) e (keeps_now table opened here.number here.pass parts s).legal

  -- the step may still be appended
  pub appends_live : (p : Pending) → own0.seen ≡ old.pass.seen → MayAppend (layout_of old.pass) old.number txn p old.pass.seen
      → MayAppend (layout_of live.pass) live.number txn p live.pass.seen
  appends_live p q may =
      subst (λ (site : ℕ). MayAppend (layout_of live.pass) site txn p live.pass.seen) (sym n)
      (subst (λ (layout : Layout). MayAppend layout old.number txn p live.pass.seen) (sym layout_same)
      (appends_on (layout_of old.pass) old.number txn p old.pass.seen live.pass.seen
      (subst (λ (layout : Layout). Legal layout live.pass.seen) layout_same legal_there)
      (adds_met (Site old.number) old.pass live.pass m.turn m.of_site m.pass)
      (subst (λ (steps : List Step). AddsOthers (Session txn.session) steps live.pass.seen) q
      (subst (λ (steps : List Step). AddsOthers (Session txn.session) own0.seen steps)
      (met_seen (Site old.number) (Session txn.session) own0 old.pass own1 live.pass m)
      (adds_met (Session txn.session) own0 own1 m.turn m.of_session m.own)))
      may))

  -- what came then, as its caller sees it
  pub came_live : (step : ℕ → Step) (own2 pass2 : View) → Came (Site live.number) (Session txn.session) own1 live.pass own2 pass2 (step live.number)
      → Came (Site old.number) (Session txn.session) own0 old.pass own2 pass2 (step old.number)
  came_live step own2 pass2 c =
      met_came (Site old.number) (Session txn.session) own0 old.pass own1 live.pass own2 pass2 (step old.number) m
      (subst (λ (site : ℕ). Came (Site site) (Session txn.session) own1 live.pass own2 pass2 (step site)) n c)
