-- What a driver's fields say of its sessions.
use Rattle.std.proofs.Common.{ℕ, zero, suc, ◌-◌, ◌<◌, ◌≤◌, ◌≡◌, List, [], ◌∷◌, ◌++◌, length, arith, Option, Some, None, get_or, replicate, refl, sym, ap, ◌∙◌}
use Rattle.std.proofs.Common.{subst}
use Rattle.std.proofs.Math.ListN.{set}
use Rattle.std.specs.Prelude.{reverse, Result, Ok, Err, IfOk}
use Rattle.dm_body.specs.Progress.{Progress, nothing_done, turn}
use Rattle.dm_core.specs.Ledger.{Ledger}
use Rattle.dm_event.specs.Layout.{Layout}
use Rattle.dm_event.specs.declared.attempt.AttemptState.{AttemptState}
use Rattle.dm_event.specs.declared.attempt.AttemptState.TheVariants as stands
use Rattle.dm_event.specs.declared.limits.TheConstants.{MAX_SESSIONS}
use Rattle.dm_event.specs.declared.step.Op.{Op}
use Rattle.dm_event.specs.declared.step.Step.{Step}
use Rattle.dm_event.specs.declared.step.TxnId.{TxnId}
use Rattle.dm_model.specs.Allowed.{Allowed}
use Rattle.dm_model.specs.Attempts.{attempt}
use Rattle.dm_model.specs.Bodies.{ran_at}
use Rattle.dm_model.specs.Legal.{Legal}
use Rattle.dm_model.specs.Values.{value}
use Rattle.dm_schedule.specs.Drive.{Drive, start, past, refusal_of, ops_of, routed_at, routed_of, running_of, with_ops}
use Rattle.dm_schedule.specs.Drivers.{ops_in, overlay_of, began, AreBodies}
use Rattle.dm_schedule.specs.declared.driver.Run.{Run}
use Rattle.dm_schedule.proofs.BodiesKept.{ops_at, ops_set, bodies_op}
use Rattle.dm_schedule.proofs.LastBegins.{attempt_session, run_began}

-- ---- at the start

same_at : {X : Type 0} (x : X) (n i : ℕ) → get_or (replicate n x) i x ≡ x
same_at x zero zero = refl
same_at x zero (suc i) = refl
same_at x (suc n) zero = refl
same_at x (suc n) (suc i) = same_at x n i

pub bodies_new : (layout : Layout) (past : List Step) (overlays : List Progress) → overlays ≡ replicate MAX_SESSIONS nothing_done
    → AreBodies layout past overlays
bodies_new layout past overlays e session one =
    subst (λ (p : Progress). p.ran ≡ ran_at layout past (began session past) p.ops)
    (sym (ap (λ (l : List Progress). get_or l (session - 1) nothing_done) e ∙ same_at nothing_done MAX_SESSIONS (session - 1))) refl

no_ops : (n : ℕ) → ops_in (replicate n nothing_done) ≡ replicate n []
no_ops zero = refl
no_ops (suc n) = ap (λ (l : List (List Op)). [] ∷ l) (no_ops n)

pub drive_new : (layout schema : Layout) (steps : List Step) (overlays : List Progress) → layout ≡ schema → steps ≡ []
    → overlays ≡ replicate MAX_SESSIONS nothing_done
    → ◌≡◌ {A = Drive} (record { layout = layout; history = steps; ops = ops_in overlays }) (start schema)
drive_new layout schema steps overlays same none fresh =
    λ i. record { layout = same i; history = none i; ops = (ap ops_in fresh ∙ no_ops MAX_SESSIONS) i }

-- ---- a step more

-- against a step that is allowed there is no reason
pub allowed_why : (d : Drive) (step : Step) → Allowed d.layout (past d) step → refusal_of d step ≡ None
unfolding refusal_of
allowed_why d step allowed = allowed

-- ---- the session of an attempt

pub routed_session : (d : Drive) (session : ℕ) (txn : TxnId) (site : ℕ) → routed_of d session ≡ Some (txn, site) → txn.session ≡ session
unfolding routed_of
routed_session d session txn site e = by (attempt session (past d)).txn (attempt session (past d)).state refl e
  where
    by : (t : Option TxnId) (state : AttemptState) → (attempt session (past d)).txn ≡ t → routed_at t state ≡ Some (txn, site) → txn.session ≡ session
    by (Some t) (stands.Routed s choice) p f =
        let same : (t, s) ≡ (txn, site) = cc (f) in
        attempt_session session (past d) txn (p ∙ ap (λ (x : TxnId × ℕ). Some x.0) same)
    by other state p f = absurd (cc (f))

-- ---- an attempt that runs

pub run_at : (d : Drive) (session : ℕ) (run : Run) → Legal d.layout d.history → running_of d session ≡ Some run → run.begin ≡ began session (past d)
unfolding running_of
run_at d session run h e = run_began d.layout (past d) h session run e

-- what it has read and written is what its ops do on the values at its begin vector
pub ran_here : (d : Drive) (overlays : List Progress) (session : ℕ) (run : Run) → Legal d.layout d.history → AreBodies d.layout (past d) overlays
    → d.ops ≡ ops_in overlays → running_of d session ≡ Some run
    → 1 ≤ session → (overlay_of session overlays).ran ≡ ran_at d.layout (past d) run.begin (ops_of d session)
ran_here d overlays session run h b same running one =
    b session one
    ∙ ap (λ (v : List ℕ). ran_at d.layout (past d) v (overlay_of session overlays).ops) (sym (run_at d session run h running))
    ∙ ap (λ (ops : List Op). ran_at d.layout (past d) run.begin ops) (sym (ops_here d overlays session same))
  where
    ops_here : (d : Drive) (overlays : List Progress) (session : ℕ) → d.ops ≡ ops_in overlays → ops_of d session ≡ (overlay_of session overlays).ops
    ops_here d overlays session same = ap (λ (l : List (List Op)). get_or l (session - 1) []) same ∙ ops_at overlays session

-- ---- the place of a session

elem : {X : Type 0} (xs : List X) (i : ℕ) (x d : X) → i < length xs → x ≡ get_or xs i x → x ≡ get_or xs i d
elem [] i x d h e = absurd (omega (arith, h))
elem (y ∷ ys) zero x d h e = e
elem (y ∷ ys) (suc i) x d h e = elem ys i x d (omega (arith, h)) e

module _ (book : Ledger) (overlays : List Progress) (session : ℕ) (x : Progress) (d : Drive)
    (v : record { layout = book.layout; history = book.steps; ops = ops_in overlays } ≡ d)
    (one : 1 ≤ session) (few : session ≤ length overlays) (is : x ≡ get_or overlays (session - 1) x) where
  pub here : x ≡ overlay_of session overlays
  here = elem overlays (session - 1) x nothing_done (omega (arith, one, few)) is

  pub ops_told : x.ops ≡ ops_of d session
  ops_told = ap (λ (p : Progress). p.ops) here ∙ sym (ops_at overlays session) ∙ ap (λ (e : Drive). ops_of e session) v

  pub ran_told : (run : Run) → Legal book.layout book.steps → AreBodies book.layout (reverse book.steps) overlays → running_of d session ≡ Some run
      → x.ran ≡ ran_at d.layout (past d) run.begin (ops_of d session)
  ran_told run h b running =
      ap (λ (p : Progress). p.ran) here
      ∙ subst (λ (e : Drive). running_of e session ≡ Some run → (overlay_of session overlays).ran ≡ ran_at e.layout (past e) run.begin (ops_of e session)) v
      (λ r. ran_here (record { layout = book.layout; history = book.steps; ops = ops_in overlays }) overlays session run h b refl r one) running

  pub bodies_after : (run : Run) (op : Op) (new : Progress) → Legal book.layout book.steps → AreBodies book.layout (reverse book.steps) overlays
      → running_of d session ≡ Some run
      → new ≡ turn (λ key. value book.layout (reverse book.steps) key run.begin) x op
      → AreBodies book.layout (reverse book.steps) (set overlays (session - 1) new)
  bodies_after run op new h b running e =
      let began_there = run_at (record { layout = book.layout; history = book.steps; ops = ops_in overlays }) session run h
      (subst (λ (f : Drive). running_of f session ≡ Some run) (sym v) running) in
      subst (λ (p : Progress). AreBodies book.layout (reverse book.steps) (set overlays (session - 1) p))
      (sym (e ∙ ap (λ (p : Progress). turn (λ key. value book.layout (reverse book.steps) key run.begin) p op) here))
      (bodies_op book.layout (reverse book.steps) overlays session run.begin op b began_there one few)

  pub op_drive : (op : Op) (new : Progress) → new.ops ≡ x.ops ++ op ∷ []
      → record { layout = book.layout; history = book.steps; ops = ops_in (set overlays (session - 1) new) } ≡ with_ops d session (ops_of d session ++ op ∷ [])
  op_drive op new e =
      let same : ops_in (set overlays (session - 1) new) ≡ set (ops_in overlays) (session - 1) (ops_of d session ++ op ∷ []) =
      ops_set overlays (session - 1) new ∙ ap (λ (ops : List Op). set (ops_in overlays) (session - 1) ops) (e ∙ ap (λ (ops : List Op). ops ++ op ∷ []) ops_told)
      in
      (λ i. record { layout = book.layout; history = book.steps; ops = same i }) ∙ ap (λ (f : Drive). with_ops f session (ops_of d session ++ op ∷ [])) v

-- what holds of a part of what a call answers, where it answers this
pub if_ran : {X E Y : Type 0} (o : Result X E) (part : X → Y) (x : X) (y : Y) → IfOk o (λ z. z ≡ x) → part x ≡ y → IfOk o (λ z. part z ≡ y)
if_ran (Ok z) part x y e f = ap part e ∙ f
if_ran (Err error) part x y e f = tt
