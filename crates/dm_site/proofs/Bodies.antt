-- What a meeting of a session's pass and a site's tells of the session's run, and what an op makes of it.
use Rattle.std.proofs.Common.{ℕ, ◌<◌, ◌≡◌, ◌≢◌, Bool, true, false, List, [], ◌∷◌, ◌++◌, Option, length, refl, sym, ap, ◌∙◌, subst}
use Rattle.std.specs.List.{list_any}
use Rattle.std.specs.Prelude.{reverse, unwrap_or, IfSome, IsSomeAnd}
use Rattle.atomic_table.specs.Seated.{TableId}
use mathlib.Core.List.{IsPrefix}
use Rattle.dm_body.specs.Answer.{answer_of}
use Rattle.dm_body.specs.Progress.{Progress}
use Rattle.dm_body.specs.Progress.{turn as turn_by}
use Rattle.dm_body.specs.declared.overlay.OpResult.{OpResult}
use Rattle.dm_body.specs.declared.overlay.OpResult.TheVariants as result_of
use Rattle.dm_chronicle.proofs.Lists.{prefix_trans}
use Rattle.dm_chronicle.specs.Belongs.{belongs}
use Rattle.dm_chronicle.specs.Rule.{Legal as Follows}
use Rattle.dm_chronicle.specs.Standing.{SameSteps, Sees}
use Rattle.dm_core.specs.Lawful.{Terms, may_follow}
use Rattle.dm_event.specs.Actors.{actors}
use Rattle.dm_event.specs.Layout.{Layout}
use Rattle.dm_event.specs.declared.actor.Actor.TheVariants.{Session}
use Rattle.dm_event.specs.declared.attempt.AttemptState.TheVariants as stands
use Rattle.dm_event.specs.declared.limits.TheConstants.{MAX_OPS}
use Rattle.dm_event.specs.declared.step.Op.{Op}
use Rattle.dm_event.specs.declared.step.Step.{Step}
use Rattle.dm_event.specs.declared.step.TxnId.{TxnId}
use Rattle.dm_locks.specs.Claims.{is_of}
use Rattle.dm_locks.specs.declared.claim.Claim.{Claim}
use Rattle.dm_model.specs.Attempts.{state}
use Rattle.dm_model.specs.Bodies.{written_key}
use Rattle.dm_model.specs.Runs.{runs}
use Rattle.dm_model.specs.Shape.{is_op}
use Rattle.dm_model.specs.Tests.{is_among}
use Rattle.dm_model.specs.Values.{value}
use Rattle.dm_next.proofs.Reading.{op_more, reads_stay}
use Rattle.dm_next.specs.Running.{Began}
use Rattle.dm_others.proofs.Runs.{holds_runs}
use Rattle.dm_invariant.proofs.Passing.{adds_one}
use Rattle.dm_invariant.proofs.Sessions.{dropped_here}
use Rattle.dm_invariant.proofs.Turned.{after_turn, in_turn}
use Rattle.dm_site.specs.Answers.{OpDone, WasDropped}
use Rattle.dm_site.specs.Ends.{told_of}
use Rattle.dm_invariant.specs.Keeping.{IsSite, Keeps, Parts}
use Rattle.dm_invariant.specs.Running.{Going, IsHere, IsRun}
use Rattle.dm_invariant.specs.Stations.{Rested, Station, View, layout_of, no_terms, own}
use Rattle.dm_invariant.specs.Turning.{Turned}
use Rattle.dm_desk.specs.declared.answers.OpAnswer.{OpAnswer}
use Rattle.dm_store.specs.Reads.{value_of}
use Rattle.dm_stores.proofs.Reading.{stores_value}

-- ---- two passes that met

-- each has seen the other's list, as in a turn
pub met_alike : (own0 own1 pass0 pass1 : View) → Sees (belongs actors) own0 own1 → own0.fixed ≡ pass0.fixed
    → IsSomeAnd own1.fixed (λ f. Follows may_follow f [] own1.seen) → Sees (belongs actors) pass0 pass1 → pass1.seen ≡ own1.seen
    → Turned own0 own1.seen own1.fixed × Turned pass0 own1.seen own1.fixed × (pass1 ≡ record pass0 { seen = own1.seen })
met_alike own0 own1 pass0 pass1 a f l b s =
    let fixed_is : own1.fixed ≡ own0.fixed = ap (λ (v : View). v.fixed) a.same in (
      record { begins = a.begins; same = a.own; fixed_is = fixed_is; follows = l },
      record {
        begins = subst (λ (steps : List Step). IsPrefix pass0.seen steps) s b.begins;
        same = subst (λ (steps : List Step). SameSteps (belongs actors) pass0.actors pass0.seen steps) s b.own;
        fixed_is = fixed_is ∙ f;
        follows = l;
      },
      b.same ∙ ap (λ (steps : List Step). record pass0 { seen = steps }) s,
    )

-- ---- whether it runs

-- who holds keys at the site runs there
pub holding_runs : (layout : Layout) (opened : List ℕ) (site : ℕ) (past : List Step) (parts : Parts) (txn : TxnId) (holds : Bool)
    → Keeps layout opened site past parts → holds ≡ list_any (is_of txn) parts.locks.holders → runs site txn past ≡ holds
holding_runs layout opened site past parts txn holds k e =
    sym (holds_runs site past txn) ∙ (ap (λ (claims : List Claim). list_any (is_of txn) claims) (sym k.holders) ∙ sym e)

module _ {D : Type 0} {table : TableId} {opened : List ℕ} (here old : Station D) (own0 : View) {parts : Parts} {turn : List Step} {fixed : Option Terms}
    (e : here ≡ old) (s : IsSite table opened here.number here.pass parts) (o : Turned own0 turn fixed) (t : Turned here.pass turn fixed) where
  met_keeps : Keeps (layout_of here.pass) opened here.number (reverse turn) parts
  met_keeps = in_turn table opened here.number here.pass parts turn fixed s t

  -- the site, which saw the other's list
  pub site_met : (after : View) → after ≡ record here.pass { seen = turn } → IsSite table opened here.number after parts
  site_met after p = after_turn table opened here.number here.pass after parts parts turn s p met_keeps

  -- a run that the site's locks don't know was dropped
  pub dropped_at : (own1 : View) (inside run : Going) (holds : Bool) → own1.seen ≡ turn → inside ≡ run → own0.actors ≡ Session run.txn.session ∷ []
      → IsHere old.number own0 run → holds ≡ list_any (is_of inside.txn) parts.locks.holders → holds ≡ false → WasDropped run.txn own0 own1
  dropped_at own1 inside run holds p v a h l n =
      subst (λ (steps : List Step). (own (Session run.txn.session) steps ≡ own (Session run.txn.session) own0.seen)
      × (state run.txn.session (reverse steps) ≡ stands.Dropped)) (sym p) (same, dropped)
    where
      same : own (Session run.txn.session) turn ≡ own (Session run.txn.session) own0.seen
      same = (adds_one (Session run.txn.session) own0 turn fixed a o).1

      idle : runs here.number inside.txn (reverse turn) ≡ false
      idle = holding_runs (layout_of here.pass) opened here.number (reverse turn) parts inside.txn holds met_keeps l ∙ n

      at_here : run.site ≡ here.number
      at_here = h.site_is ∙ ap (λ (station : Station D). station.number) (sym e)

      idle_there : runs run.site run.txn (reverse turn) ≡ false
      idle_there = (λ j. runs (at_here j) (sym v j).txn (reverse turn)) ∙ idle

      dropped : state run.txn.session (reverse turn) ≡ stands.Dropped
      dropped =
          dropped_here (layout_of here.pass) turn h.last.0 run.site run.txn run.begin met_keeps.legal (same ∙ h.last.1) idle_there

-- ---- an op of a run

-- the run as its caller sees it
abbrev pub going : TxnId → ℕ → List ℕ → List ℕ → Progress → View → Going
going txn site begin declares done was = record { txn = txn; site = site; begin = begin; declared = declares; ops = done.ops; was = was }

module _ {D : Type 0} {table : TableId} {opened : List ℕ} (here old : Station D) (own0 : View) {parts : Parts} {turn : List Step} {fixed : Option Terms}
    (e : here ≡ old) (s : IsSite table opened here.number here.pass parts) (o : Turned own0 turn fixed) (t : Turned here.pass turn fixed)
    {txn : TxnId} {site : ℕ} {begin declares : List ℕ} {done : Progress} {was : View} {run : Going} (v : going txn site begin declares done was ≡ run)
    (h : IsHere old.number own0 run) (r : IsRun txn begin declares done was) (holds : Bool) (l : holds ≡ list_any (is_of txn) parts.locks.holders)
    (n : holds ≡ true) where
  keeps_met : Keeps (layout_of here.pass) opened here.number (reverse turn) parts
  keeps_met = met_keeps here old own0 e s o t

  is_here : IsHere old.number own0 (going txn site begin declares done was)
  is_here = subst (λ (run : Going). IsHere old.number own0 run) (sym v) h

  layout_own : layout_of own0 ≡ layout_of here.pass
  layout_own = ap (λ (f : Option Terms). (unwrap_or f no_terms).layout) (sym o.fixed_is ∙ t.fixed_is)

  layout_was : layout_of was ≡ layout_of own0
  layout_was = ap (λ (f : Option Terms). (unwrap_or f no_terms).layout) is_here.fixed

  here_runs : runs here.number txn (reverse turn) ≡ true
  here_runs = holding_runs (layout_of here.pass) opened here.number (reverse turn) parts txn holds keeps_met l ∙ n

  longer : IsPrefix was.seen turn
  longer = prefix_trans was.seen own0.seen turn is_here.begins o.begins

  began : Began (layout_of here.pass) (reverse was.seen) txn begin done
  began = subst (λ (layout : Layout). Began layout (reverse was.seen) txn begin done) (layout_was ∙ layout_own) r.began

  -- the store has the values that the run's list has
  pub reads_same : (key : ℕ) → value_of parts.store.layout parts.store.installed key begin ≡ value (layout_of was) (reverse was.seen) key begin
  reads_same key =
      let stays = reads_stay (layout_of here.pass) was.seen turn here.number txn begin longer keeps_met.legal here_runs began.begun in
      ap (λ (layout : Layout). value_of layout parts.store.installed key begin) keeps_met.layout_is
      ∙ (stores_value (layout_of here.pass) (reverse turn) here.number parts.store.installed keeps_met.stores begin key stays.within
      ∙ (stays.values key ∙ ap (λ (layout : Layout). value layout (reverse was.seen) key begin) (sym (layout_was ∙ layout_own))))

  pub run_goes : (after : Progress) (op : Op) → after ≡ turn_by (λ key. value_of parts.store.layout parts.store.installed key begin) done op
      → length run.ops < MAX_OPS → is_op (layout_of own0) op ≡ true → IfSome (written_key op) (λ key. is_among run.declared key ≡ true)
      → IsRun txn begin declares after was
  run_goes after op a few fits keys =
      subst (λ (done : Progress). IsRun txn begin declares done was) (sym a) (record {
        legal = r.legal;
        began = op_more (layout_of was) (reverse was.seen) txn begin done op (λ key. value_of parts.store.layout parts.store.installed key begin) r.began
            (subst (λ (run : Going). length run.ops < MAX_OPS) (sym v) few) (ap (λ (layout : Layout). is_op layout op) layout_was ∙ fits)
            (subst (λ (keys : List ℕ). IfSome (written_key op) (λ key. is_among keys key ≡ true)) r.declares
            (subst (λ (run : Going). IfSome (written_key op) (λ key. is_among run.declared key ≡ true)) (sym v) keys)) reads_same;
        declares = r.declares;
      })

  module _ (own1 : View) (p : own1.seen ≡ turn) (a : own0.actors ≡ Session run.txn.session ∷ []) (after : Progress) (op : Op)
      (more : after ≡ turn_by (λ key. value_of parts.store.layout parts.store.installed key begin) done op) where
    abbrev pub before : Going
    before = going txn site begin declares done was

    abbrev pub now : Going
    now = going txn site begin declares after was

    rests : Rested (Session txn.session) own0 own1
    rests =
        ap (λ (steps : List Step). own (Session txn.session) steps) p
        ∙ (adds_one (Session txn.session) own0 turn fixed (a ∙ ap (λ (run : Going). Session run.txn.session ∷ []) (sym v)) o).1

    now_is : now ≡ record before { ops = done.ops ++ op ∷ [] }
    now_is = ap (λ (done : Progress). going txn site begin declares done was) more

    runs_there : runs before.site txn (reverse own1.seen) ≡ true
    runs_there = (λ j. runs ((is_here.site_is ∙ sym (ap (λ (at : Station D). at.number) e)) j) txn (reverse (p j))) ∙ here_runs

    answers : (result : OpResult) → result ≢ result_of.Full
        → result ≡ answer_of (λ key. value_of parts.store.layout parts.store.installed key begin) done.ran op → OpDone before now op own0 own1 (told_of result)
    answers (result_of.Value x) f q = (rests, now_is, q ∙ (λ j. answer_of (λ key. reads_same key j) (r.began.ran j) op), runs_there)
    answers result_of.Done f q = (rests, now_is, tt, runs_there)
    answers result_of.Full f q = absurd (f refl)

    pub op_told : (result : OpResult) (told : OpAnswer) → told ≡ told_of result → result ≢ result_of.Full
        → result ≡ answer_of (λ key. value_of parts.store.layout parts.store.installed key begin) done.ran op → OpDone run now op own0 own1 told
    op_told result told g f q =
        subst (λ (run : Going). OpDone run now op own0 own1 told) v (subst (λ (told : OpAnswer). OpDone before now op own0 own1 told) (sym g)
        (answers result f q))
