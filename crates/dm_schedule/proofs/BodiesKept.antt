-- What each session's attempt has read and written stays what its ops do, as the history and its ops grow.
use Rattle.std.proofs.Common.{ℕ, ℤ, ◌-◌, ◌≤◌, ◌≡◌, ◌≢◌, false, ◌==◌, List, [], ◌∷◌, ◌++◌, length}
use Rattle.std.proofs.Common.{refl, sym, ap, ◌∙◌, subst, arith, inl, inr, true≢false}
use Rattle.std.proofs.Math.ListN.{set, get_or-map}
use Rattle.std.proofs.lemmas.Bool.{cases_eq, ne_eqb}
use Rattle.std.proofs.lemmas.List.{reverse-append, get_or-set_same, get_or-set_other, map-set}
use Rattle.std.specs.Prelude.{reverse, slice_index_or}
use Rattle.dm_core.specs.Ledger.{Ledger}
use Rattle.dm_body.specs.Progress.{Progress, nothing_done, turn}
use Rattle.dm_event.specs.Layout.{Layout}
use Rattle.dm_event.specs.declared.step.Op.{Op}
use Rattle.dm_event.specs.declared.step.Step.{Step}
use Rattle.dm_event.specs.declared.step.Step.TheVariants.{Begin}
use Rattle.dm_event.specs.declared.step.TxnId.{TxnId}
use Rattle.dm_model.proofs.Histories.{legal_push}
use Rattle.dm_model.proofs.StepTests.{passed}
use Rattle.dm_model.specs.Allowed.{Allowed}
use Rattle.dm_model.specs.Bodies.{Ran, after_op, run_from, ran_at}
use Rattle.dm_model.specs.Legal.{Legal}
use Rattle.dm_model.specs.Runs.{last_begin}
use Rattle.dm_model.specs.Values.{value}
use Rattle.dm_schedule.specs.Drive.{Drive, extended, with_ops}
use Rattle.dm_schedule.specs.Drivers.{ops_in, overlay_of, began, AreBodies, is_begin}
use Rattle.dm_schedule.proofs.LastBegins.{bodies_more}

-- ---- the ops of one session

-- what an attempt has done is what its ops do on these values
abbrev IsBody : Layout → List Step → ℕ → Progress → Type 0
IsBody layout past session overlay = overlay.ran ≡ ran_at layout past (began session past) overlay.ops

pub ops_at : (overlays : List Progress) (session : ℕ) → slice_index_or (ops_in overlays) (session - 1) [] ≡ (overlay_of session overlays).ops
ops_at overlays session = get_or-map (λ (p : Progress). p.ops) overlays (session - 1) nothing_done

pub ops_set : (overlays : List Progress) (i : ℕ) (overlay : Progress) → ops_in (set overlays i overlay) ≡ set (ops_in overlays) i overlay.ops
ops_set overlays i overlay = map-set (λ (p : Progress). p.ops) overlays i overlay

-- ---- one session's attempt in place of another

set_bodies : (layout : Layout) (past : List Step) (overlays : List Progress) (session : ℕ) (overlay : Progress) → 1 ≤ session → session ≤ length overlays
    → IsBody layout past session overlay
    → ((other : ℕ) → 1 ≤ other → other ≢ session → IsBody layout past other (overlay_of other overlays))
    → AreBodies layout past (set overlays (session - 1) overlay)
set_bodies layout past overlays session overlay one few own others other first = elim (cases_eq other session) [
  | inl e ↦ subst (λ (k : ℕ). IsBody layout past k (overlay_of k (set overlays (session - 1) overlay))) (sym e)
      (subst (λ (p : Progress). IsBody layout past session p) (sym (get_or-set_same overlays (session - 1) overlay nothing_done (omega (arith, one, few)))) own)
  | inr n ↦ subst (λ (p : Progress). IsBody layout past other p) (sym
      (get_or-set_other overlays (session - 1) (other - 1) overlay nothing_done (λ e. n (omega (arith, e, one, first)))))
      (others other first n)
]

-- ---- a step more

not_begin : (c : ℕ) (s : Step) (past : List Step) → is_begin s ≡ false → last_begin c (s ∷ past) ≡ last_begin c past
not_begin c (Begin site txn begin) past h = absurd (true≢false h)
not_begin c s past h = refl

module _ (layout : Layout) (steps longer : List Step) (s : Step) (h : Legal layout steps) (a : Allowed layout (reverse steps) s) (e : longer ≡ steps ++ s ∷ [])
    (overlays : List Progress)
    (b : AreBodies layout (reverse steps) overlays) where
  last_first : reverse longer ≡ s ∷ reverse steps
  last_first = ap (λ (l : List Step). reverse l) e ∙ reverse-append steps (s ∷ [])

  more : (c : ℕ) → 1 ≤ c → last_begin c (s ∷ reverse steps) ≡ last_begin c (reverse steps) → IsBody layout (s ∷ reverse steps) c (overlay_of c overlays)
  more c one f = bodies_more layout (reverse steps) s (h, a) c f (overlay_of c overlays).ran (overlay_of c overlays).ops (b c one)

  pub bodies_pushed : is_begin s ≡ false → AreBodies layout (reverse longer) overlays
  bodies_pushed n = subst (λ (past : List Step). AreBodies layout past overlays) (sym last_first) (λ c one. more c one (not_begin c s (reverse steps) n))

  -- an attempt that begins has done nothing
  pub bodies_begun : (site session : ℕ) (txn : TxnId) (begin : List ℕ) → s ≡ Begin site txn begin → txn.session ≡ session → 1 ≤ session
      → session ≤ length overlays
      → AreBodies layout (reverse longer) (set overlays (session - 1) nothing_done)
  bodies_begun site session txn begin is own one few =
      subst (λ (past : List Step). AreBodies layout past (set overlays (session - 1) nothing_done)) (sym last_first)
      (set_bodies layout (s ∷ reverse steps) overlays session nothing_done one few refl
      (λ other first n. more other first (subst (λ (t : Step). last_begin other (t ∷ reverse steps) ≡ last_begin other (reverse steps)) (sym is)
      (passed (txn.session == other) begin (last_begin other (reverse steps)) (ne_eqb txn.session other (λ f. n (sym f ∙ own)))))))

-- ---- an op more

run_more : (f : ℕ → ℤ) (ran : Ran) (ops : List Op) (op : Op) → run_from f ran (ops ++ op ∷ []) ≡ after_op f (run_from f ran ops) op
run_more f ran [] op = refl
run_more f ran (x ∷ ops) op = run_more f (after_op f ran x) ops op

pub bodies_op : (layout : Layout) (past : List Step) (overlays : List Progress) (session : ℕ) (begin : List ℕ) (op : Op) → AreBodies layout past overlays
    → begin ≡ began session past → 1 ≤ session → session ≤ length overlays
    → AreBodies layout past (set overlays (session - 1) (turn (λ key. value layout past key begin) (overlay_of session overlays) op))
bodies_op layout past overlays session begin op b e one few =
    let old = overlay_of session overlays in
    set_bodies layout past overlays session (turn (λ key. value layout past key begin) old op) one few
    (subst (λ (v : List ℕ). after_op (λ key. value layout past key v) old.ran op ≡ ran_at layout past (began session past) (old.ops ++ op ∷ [])) (sym e)
    (ap (λ (ran : Ran). after_op (λ key. value layout past key (began session past)) ran op) (b session one)
    ∙ sym (run_more (λ key. value layout past key (began session past)) nothing_done.ran old.ops op)))
    (λ other first n. b other first)

-- ---- the same of the book before and after a step

module _ (before after : Ledger) (s : Step) (h : Legal before.layout before.steps) (a : Allowed before.layout (reverse before.steps) s)
    (l : after.layout ≡ before.layout)
    (e : after.steps ≡ before.steps ++ s ∷ []) where
  pub legal_after : Legal after.layout after.steps
  legal_after = subst (λ (layout : Layout). Legal layout after.steps) (sym l)
      (subst (λ (steps : List Step). Legal before.layout steps) (sym e) (legal_push before.layout before.steps s h a))

  pub pushed_after : (overlays : List Progress) → AreBodies before.layout (reverse before.steps) overlays → is_begin s ≡ false
      → AreBodies after.layout (reverse after.steps) overlays
  pushed_after overlays b n = subst (λ (layout : Layout). AreBodies layout (reverse after.steps) overlays) (sym l)
      (bodies_pushed before.layout before.steps after.steps s h a e overlays b n)

  pub begun_after : (overlays overlays' : List Progress) → AreBodies before.layout (reverse before.steps) overlays
      → (site session : ℕ) (txn : TxnId) (begin : List ℕ) → s ≡ Begin site txn begin
      → txn.session ≡ session → 1 ≤ session → session ≤ length overlays → overlays' ≡ set overlays (session - 1) nothing_done
      → AreBodies after.layout (reverse after.steps) overlays'
  begun_after overlays overlays' b site session txn begin is own one few o =
      subst (λ (layout : Layout). AreBodies layout (reverse after.steps) overlays') (sym l)
      (subst (λ (list : List Progress). AreBodies before.layout (reverse after.steps) list) (sym o)
      (bodies_begun before.layout before.steps after.steps s h a e overlays b site session txn begin is own one few))

pub begun_drive : (before after : Ledger) (s : Step) (overlays overlays' : List Progress) (session : ℕ) → after.layout ≡ before.layout
    → after.steps ≡ before.steps ++ s ∷ []
    → overlays' ≡ set overlays (session - 1) nothing_done → (d : Drive) → record { layout = before.layout; history = before.steps; ops = ops_in overlays } ≡ d
    → record { layout = after.layout; history = after.steps; ops = ops_in overlays' } ≡ with_ops (extended d s) session []
begun_drive before after s overlays overlays' session l e o d v =
    let same : ops_in overlays' ≡ set (ops_in overlays) (session - 1) [] = ap (λ (list : List Progress). ops_in list) o
    ∙ ops_set overlays (session - 1) nothing_done in
    (λ i. record { layout = l i; history = e i; ops = same i }) ∙ ap (λ (x : Drive). with_ops (extended x s) session []) v
