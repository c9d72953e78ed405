-- What an attempt that runs at a site may do in a turn, and what comes of it.
use Rattle.std.proofs.Common.{ℕ, ◌+◌, ◌≡◌, ◌≤◌, ◌⊎◌, Bool, true, false, cond, List, [], ◌∷◌, ◌++◌, Option, Some, None, length}
use Rattle.std.proofs.Common.{refl, sym, ap, ◌∙◌, subst, inl, inr}
use Rattle.std.proofs.lemmas.Bool.{and_parts, eq-eqb, eqb-true, false≢true}
use Rattle.std.specs.List.{list_any}
use Rattle.std.specs.Option.{option_or}
use Rattle.std.specs.Prelude.{◌==◌, reverse, unwrap_or, IfSome, IsSomeAnd}
use Rattle.atomic_table.specs.Seated.{TableId}
use mathlib.Core.List.{IsPrefix}
use Rattle.dm_body.specs.Progress.{Progress}
use Rattle.dm_chronicle.proofs.Lists.{prefix_refl, prefix_trans}
use Rattle.dm_core.specs.Lawful.{Terms, may_follow}
use Rattle.dm_desk.specs.Telling.{told_commit}
use Rattle.dm_event.specs.Entries.{commit_vector}
use Rattle.dm_event.specs.Layout.{Layout}
use Rattle.dm_event.specs.Txns.{same_txn}
use Rattle.dm_event.specs.declared.actor.Actor.TheVariants.{Session, Site}
use Rattle.dm_event.specs.declared.limits.TheConstants.{MAX_PARTS, MAX_SITES, MAX_WIDTH}
use Rattle.dm_event.specs.declared.step.Cause.TheVariants.{Log, Memory}
use Rattle.dm_event.specs.declared.step.Entry.{Entry}
use Rattle.dm_event.specs.declared.step.Op.{Op}
use Rattle.dm_event.specs.declared.step.Pair.{Pair}
use Rattle.dm_event.specs.declared.step.Pending.{Pending}
use Rattle.dm_event.specs.declared.step.Pending.TheVariants as pending
use Rattle.dm_event.specs.declared.step.Step.{Step}
use Rattle.dm_event.specs.declared.step.Step.TheVariants.{Begin, Commit, End, Fail, Doubt, Restart}
use Rattle.dm_event.specs.declared.step.TxnId.{TxnId}
use Rattle.dm_frames.proofs.Ranges.{pending_in}
use Rattle.dm_frames.specs.Records.{commit_record, pending_record}
use Rattle.dm_locks.specs.Claims.{is_of}
use Rattle.dm_locks.specs.Locks.{Locks}
use Rattle.dm_logdisk.specs.Story.{Both, Story}
use Rattle.dm_model.proofs.Judged.{shape_of}
use Rattle.dm_model.proofs.LegalSteps.{in_range, legal_begin}
use Rattle.dm_model.specs.Allowed.{Allowed}
use Rattle.dm_model.specs.Bodies.{has_writes}
use Rattle.dm_model.specs.Doubts.{down_after, is_down, pending_at}
use Rattle.dm_model.specs.Legal.{LegalPast}
use Rattle.dm_model.specs.Progress.{entry_count}
use Rattle.dm_model.specs.Runs.{runs, runs_after}
use Rattle.dm_model.specs.Words.{latest}
use Rattle.dm_next.proofs.Doubts.{may_doubt}
use Rattle.dm_next.proofs.Reading.{runs_on}
use Rattle.dm_next.proofs.Running.{may_commit, may_end, may_forget}
use Rattle.dm_next.specs.Running.{Began, Runs, entry_of_run}
use Rattle.dm_record.specs.Bytes.{IsInRange}
use Rattle.dm_record.specs.declared.record.Record.TheVariants as record_is
use Rattle.dm_redo.specs.declared.appending.Appended.{Appended}
use Rattle.dm_site.proofs.Bodies.{going, holding_runs}
use Rattle.dm_desk.proofs.Desks.{may_push}
use Rattle.dm_invariant.proofs.Lasting.{lasts_commit, lasts_run_fail}
use Rattle.dm_invariant.proofs.Letting.{holds_nothing}
use Rattle.dm_invariant.proofs.Lively.{keeps_now, then_crash}
use Rattle.dm_invariant.proofs.Passing.{came, met, met_came, went_layout}
use Rattle.dm_invariant.proofs.Steps.{keeps_end, keeps_fail, keeps_log, keeps_store}
use Rattle.dm_invariant.proofs.Turned.{after_step, after_turn, in_turn}
use Rattle.dm_invariant.proofs.Written.{crash_still}
use Rattle.dm_site.specs.Answers.{IsEntryOf}
use Rattle.dm_invariant.specs.Keeping.{IsSite, Keeps, Parts}
use Rattle.dm_invariant.specs.Logs.{Crashes}
use Rattle.dm_invariant.specs.Running.{Going, IsHere, IsRun}
use Rattle.dm_invariant.specs.Stations.{Station, View, Went, layout_of, no_terms}
use Rattle.dm_invariant.specs.Turning.{Came, Met, Turned}
use Rattle.dm_invariant.specs.Writing.{MayAppend, MayFail, installed_after, let_go, locks_after, step_after}
use Rattle.dm_desk.specs.declared.answers.CommitAnswer.{CommitAnswer}
use Rattle.dm_store.specs.Contents.{Contents}
use Rattle.dm_store.specs.declared.past.Past.{Past}

-- ---- where an attempt runs, the site is up

-- what ends the run of an attempt, or leaves all as it is
ends : (b : Bool) (o : Option Bool) → unwrap_or (option_or (cond b (Some false) None) o) false ≡ true → unwrap_or o false ≡ true
ends true o h = absurd (false≢true h)
ends false o h = h

-- what takes the site down or up ends its runs
stops : (b now : Bool) (o d : Option Bool) → unwrap_or (option_or (cond b (Some false) None) o) false ≡ true
    → (unwrap_or o false ≡ true → unwrap_or d false ≡ false) → unwrap_or (option_or (cond b (Some now) None) d) false ≡ false
stops true now o d h up = absurd (false≢true h)
stops false now o d h up = up h

begins : (b here : Bool) (o : Option Bool) → unwrap_or (option_or (cond b (Some here) None) o) false ≡ true → (here ≡ true) ⊎ (unwrap_or o false ≡ true)
begins true here o h = inl h
begins false here o h = inr h

pub runs_up : (layout : Layout) (past : List Step) (site : ℕ) (txn : TxnId) → LegalPast layout past → runs site txn past ≡ true → is_down site past ≡ false
runs_up layout [] site txn l h = refl
runs_up layout (Begin at u begin ∷ past) site txn l h =
    elim (begins (same_txn txn u) (at == site) (latest (runs_after site txn) past) h) [
      | inl here ↦ ap (λ (i : ℕ). is_down i past) (sym (eqb-true at site here)) ∙ (legal_begin layout past at u begin l.1).up
      | inr before ↦ runs_up layout past site txn l.0 before
    ]
runs_up layout (Commit e ∷ past) site txn l h = runs_up layout past site txn l.0 (ends (same_txn txn e.txn) (latest (runs_after site txn) past) h)
runs_up layout (End at u ops reads ∷ past) site txn l h = runs_up layout past site txn l.0 (ends (same_txn txn u) (latest (runs_after site txn) past) h)
runs_up layout (Fail at u cause ∷ past) site txn l h = runs_up layout past site txn l.0 (ends (same_txn txn u) (latest (runs_after site txn) past) h)
runs_up layout (Doubt at p ∷ past) site txn l h =
    stops (at == site) true (latest (runs_after site txn) past) (latest (down_after site) past) h (λ r. runs_up layout past site txn l.0 r)
runs_up layout (Restart at vector found ∷ past) site txn l h =
    stops (at == site) false (latest (runs_after site txn) past) (latest (down_after site) past) h (λ r. runs_up layout past site txn l.0 r)
runs_up layout (other ∷ past) site txn l h = runs_up layout past site txn l.0 h

-- ---- an attempt that runs in a turn of its site

-- what it has done so far
pub record Serves (table : TableId) (opened : List ℕ) (site : ℕ) (pass : View) (parts : Parts) (turn : List Step) (fixed : Option Terms) (txn : TxnId)
    (begin : List ℕ) (done : Progress) : Type 0 where
  pub site_is : IsSite table opened site pass parts
  pub turned : Turned pass turn fixed
  pub runs : Runs (layout_of pass) (reverse turn) site txn begin done

-- what the schema says, of a fixed part
abbrev layout_in : Option Terms → Layout
layout_in fixed = (unwrap_or fixed no_terms).layout

-- the limits of a schema
pub record Limits (layout : Layout) : Type 0 where
  pub sites : layout.sites ≤ MAX_SITES
  pub parts : length layout.masters ≤ MAX_PARTS
  pub width : layout.width ≤ MAX_WIDTH

module _ {table : TableId} {opened : List ℕ} {site : ℕ} {pass : View} {parts : Parts} {turn : List Step} {fixed : Option Terms} {txn : TxnId}
    {begin : List ℕ} {done : Progress} (a : Serves table opened site pass parts turn fixed txn begin done) where
  keeps : Keeps (layout_of pass) opened site (reverse turn) parts
  keeps = in_turn table opened site pass parts turn fixed a.site_is a.turned

  up : is_down site (reverse turn) ≡ false
  up = runs_up (layout_of pass) (reverse turn) site txn keeps.legal a.runs.running

  layout_same : layout_in fixed ≡ layout_of pass
  layout_same = ap layout_in a.turned.fixed_is

  -- what is allowed may follow in the turn
  follows : (step : Step) → Allowed (layout_of pass) (reverse turn) step → IsSomeAnd fixed (λ f. may_follow f turn step)
  follows step may = may_push table opened site pass parts turn fixed step a.site_is a.turned may

  -- ---- an End

  ends_here : has_writes done.ops ≡ false → Allowed (layout_of pass) (reverse turn) (End site txn done.ops done.ran.reads)
  ends_here w = may_end (layout_of pass) (reverse turn) keeps.legal site txn begin done a.runs w

  pub end_follows : (step : Step) → step ≡ End site txn done.ops done.ran.reads → has_writes done.ops ≡ false → IsSomeAnd fixed (λ f. may_follow f turn step)
  end_follows step e w =
      subst (λ (step : Step). IsSomeAnd fixed (λ f. may_follow f turn step)) (sym e) (follows (End site txn done.ops done.ran.reads) (ends_here w))

  pub after_end : (after : View) (step : Step) (locks : Locks) → step ≡ End site txn done.ops done.ran.reads → has_writes done.ops ≡ false
      → locks ≡ let_go txn parts.locks → after ≡ record pass { seen = turn ++ step ∷ [] } → IsSite table opened site after (record parts { locks = locks })
  after_end after step locks e w l p =
      after_step table opened site pass after parts (record parts { locks = locks }) turn (End site txn done.ops done.ran.reads) a.site_is
      (p ∙ ap (λ (step : Step). record pass { seen = turn ++ step ∷ [] }) e)
      (subst (λ (locks : Locks). Keeps (layout_of pass) opened site (End site txn done.ops done.ran.reads ∷ reverse turn) (record parts { locks = locks }))
      (sym l)
      (keeps_end (layout_of pass) opened site (reverse turn) parts keeps txn done.ops done.ran.reads (ends_here w)))

  -- ---- a Fail for want of memory

  fails_here : Allowed (layout_of pass) (reverse turn) (Fail site txn Memory)
  fails_here = may_forget (layout_of pass) (reverse turn) keeps.legal site txn begin done a.runs

  pub fail_follows : IsSomeAnd fixed (λ f. may_follow f turn (Fail site txn Memory))
  fail_follows = follows (Fail site txn Memory) fails_here

  pub after_fail : (after : View) (locks : Locks) → locks ≡ let_go txn parts.locks → after ≡ record pass { seen = turn ++ Fail site txn Memory ∷ [] }
      → IsSite table opened site after (record parts { locks = locks })
  after_fail after locks l p =
      after_step table opened site pass after parts (record parts { locks = locks }) turn (Fail site txn Memory) a.site_is p
      (subst (λ (locks : Locks). Keeps (layout_of pass) opened site (Fail site txn Memory ∷ reverse turn) (record parts { locks = locks })) (sym l)
      (keeps_fail (layout_of pass) opened site (reverse turn) parts keeps txn fails_here))

  -- ---- after the turn

  -- for each of the site's causes it may fail
  fails : MayFail (layout_of pass) site txn turn
  fails cause fits of_site =
      lasts_run_fail (layout_of pass) turn turn site txn begin done cause (prefix_refl turn) a.runs.there a.runs.running a.runs.began fits of_site

  pub fails_after : (after : View) → after ≡ record pass { seen = turn } → MayFail (layout_of after) site txn after.seen
  fails_after after e = subst (λ (v : View). MayFail (layout_of v) site txn v.seen) (sym e) fails

  pub up_after : (after : View) → after ≡ record pass { seen = turn } → is_down site (reverse after.seen) ≡ false
  up_after after e = ap (λ (v : View). is_down site (reverse v.seen)) e ∙ up

  module _ (w : has_writes done.ops ≡ true) where
    abbrev due : Entry
    due = entry_of_run site (entry_count site (reverse turn) + 1) txn begin done

    commits_here : Allowed (layout_of pass) (reverse turn) (Commit due)
    commits_here = may_commit (layout_of pass) (reverse turn) keeps.legal site txn begin done a.runs w

    appends : MayAppend (layout_of pass) site txn (pending.Commit due) turn
    appends = record {
      up = up;
      is_own = refl;
      is_for = λ new l s. refl;
      lasts = lasts_commit (layout_of pass) turn turn site txn begin done (prefix_refl turn) a.runs.there a.runs.running a.runs.began w;
      may_fail = fails (Log site) a.runs.there (eq-eqb site site refl);
    }

    pub appends_after : (after : View) (entry : Entry) (seq : ℕ) → entry ≡ entry_of_run site seq txn begin done → seq ≡ entry_count site (reverse turn) + 1
        → after ≡ record pass { seen = turn } → MayAppend (layout_of after) site txn (pending.Commit entry) after.seen
    appends_after after entry seq e n p =
        subst (λ (v : View). MayAppend (layout_of v) site txn (pending.Commit entry) v.seen) (sym p)
        (subst (λ (entry : Entry). MayAppend (layout_of pass) site txn (pending.Commit entry) turn)
        (sym (e ∙ ap (λ (n : ℕ). entry_of_run site n txn begin done) n)) appends)

    -- its record's numbers are in range, as those of the step in doubt would be
    ranges : Limits (layout_in fixed) → IsInRange (commit_record due)
    ranges l =
        let m : Limits (layout_of pass) = subst (λ (layout : Layout). Limits layout) layout_same l in
        subst (λ (o : Option Pending). IfSome o (λ p. IsInRange (pending_record p)))
        (ap (λ (b : Bool). option_or (cond b (Some (pending.Commit due)) None) (pending_at site (reverse turn))) (eq-eqb site site refl))
        (pending_in (layout_of pass) m.sites m.parts m.width (Doubt site (pending.Commit due) ∷ reverse turn)
        (keeps.legal, may_doubt (layout_of pass) (reverse turn) site (pending.Commit due) refl commits_here) site)

    pub record_in_range : (seq : ℕ) (writes : List Pair) → Limits (layout_in fixed) → seq ≡ entry_count site (reverse turn) + 1 → writes ≡ done.ran.writes
        → IsInRange (record_is.Commit txn seq begin writes)
    record_in_range seq writes l n e =
        subst (λ (writes : List Pair). IsInRange (record_is.Commit txn seq begin writes)) (sym e)
        (subst (λ (n : ℕ). IsInRange (record_is.Commit txn n begin done.ran.writes)) (sym n) (ranges l))

    pub origin_in : (entry : Entry) (seq : ℕ) → entry ≡ entry_of_run site seq txn begin done → (1 ≤ entry.origin) × (entry.origin ≤ length entry.begin)
    origin_in entry seq e =
        let range = in_range (layout_of pass) site a.runs.there in
        let shape = shape_of (layout_of pass) (reverse turn) (Commit due) commits_here in
        let long = eqb-true (length begin) (layout_of pass).sites (and_parts _ _ (and_parts _ _ (and_parts _ _ shape).1).1).0 in
        subst (λ (entry : Entry). (1 ≤ entry.origin) × (entry.origin ≤ length entry.begin)) (sym e)
        (range.one, subst (λ (n : ℕ). site ≤ n) (sym long) range.top)

  -- room in the store and in the log
  pub after_room : (after : View) (store : Contents) (live : Bool) (gate : ℕ) (told : Option Story) (faults : ℕ) (locks : Locks)
      → after ≡ record pass { seen = turn } → store.layout ≡ parts.store.layout → store.installed ≡ parts.store.installed → locks ≡ parts.locks
      → live ≡ parts.live → gate ≡ parts.gate → told ≡ parts.told → faults ≡ parts.faults
      → IsSite table opened site after (record { store = store; locks = locks; live = live; gate = gate; told = told; faults = faults })
  after_room after store live gate told faults locks p l i k v g t f =
      after_turn table opened site pass after parts (record { store = store; locks = locks; live = live; gate = gate; told = told; faults = faults }) turn
      a.site_is p
      (subst (λ (locks : Locks). Keeps (layout_of pass) opened site (reverse turn)
      (record { store = store; locks = locks; live = live; gate = gate; told = told; faults = faults })) (sym k)
      (keeps_log (layout_of pass) opened site (reverse turn) (record parts { store = store })
      (keeps_store (layout_of pass) opened site (reverse turn) parts keeps store l i) live gate told faults v g t f))

-- the step of an End that tells a copy of the reads
pub end_reads : (step : Step) (site : ℕ) (txn : TxnId) (ops : List Op) (reads copy : List Pair) → step ≡ End site txn ops reads → copy ≡ reads
    → step ≡ End site txn ops copy
end_reads step site txn ops reads copy e c = e ∙ ap (λ (reads : List Pair). End site txn ops reads) (sym c)

-- ---- a run at its site

module _ {D : Type 0} {table : TableId} {opened : List ℕ} (here old : Station D) (own0 : View) {parts : Parts} {turn : List Step} {fixed : Option Terms}
    (e : here ≡ old) (s : IsSite table opened here.number here.pass parts) (o : Turned own0 turn fixed) (t : Turned here.pass turn fixed) where
  keeps_met : Keeps (layout_of here.pass) opened here.number (reverse turn) parts
  keeps_met = in_turn table opened here.number here.pass parts turn fixed s t

  module _ {txn : TxnId} {site : ℕ} {begin declares : List ℕ} {done : Progress} {was : View} {run : Going} (v : going txn site begin declares done was ≡ run)
      (h : IsHere old.number own0 run) (r : IsRun txn begin declares done was) where
    is_here : IsHere old.number own0 (going txn site begin declares done was)
    is_here = subst (λ (run : Going). IsHere old.number own0 run) (sym v) h

    layout_was : layout_of was ≡ layout_of here.pass
    layout_was = ap layout_in (is_here.fixed ∙ (sym o.fixed_is ∙ t.fixed_is))

    longer : IsPrefix was.seen turn
    longer = prefix_trans was.seen own0.seen turn is_here.begins o.begins

    where_runs : runs here.number txn (reverse turn) ≡ true → Serves table opened here.number here.pass parts turn fixed txn begin done
    where_runs q = record {
      site_is = s;
      turned = t;
      runs = runs_on (layout_of here.pass) was.seen turn here.number txn begin done longer keeps_met.legal keeps_met.there q
          (subst (λ (layout : Layout). Began layout (reverse was.seen) txn begin done) layout_was r.began);
    }

    -- it runs where it holds its keys
    pub serves : (holds : Bool) → holds ≡ list_any (is_of txn) parts.locks.holders → holds ≡ true
        → Serves table opened here.number here.pass parts turn fixed txn begin done
    serves holds l n = where_runs (holding_runs (layout_of here.pass) opened here.number (reverse turn) parts txn holds keeps_met l ∙ n)

    pub serves_held : parts.locks ≡ here.locks → list_any (is_of run.txn) old.locks.holders ≡ true
        → Serves table opened here.number here.pass parts turn fixed txn begin done
    serves_held p q =
        serves true (sym (ap (λ (locks : Locks). list_any (is_of txn) locks.holders) p ∙ ((λ j. list_any (is_of (v j).txn) (e j).locks.holders) ∙ q))) refl

  -- what came, as its caller sees it
  pub came_here : {inside run : Going} → inside ≡ run → own0.actors ≡ Session run.txn.session ∷ [] → (step : ℕ → Going → Step) → (own1 pass1 : View)
      → (pushed : Step) → pushed ≡ step here.number inside → own1 ≡ record own0 { seen = turn ++ pushed ∷ [] }
      → pass1 ≡ record here.pass { seen = turn ++ pushed ∷ [] }
      → Came (Site old.number) (Session run.txn.session) own0 old.pass own1 pass1 (step old.number run)
  came_here {inside} {run} v a step own1 pass1 pushed f p q =
      subst (λ (at : Station D). Came (Site at.number) (Session run.txn.session) own0 at.pass own1 pass1 (step at.number run)) e
      (subst (λ (run : Going). Came (Site here.number) (Session run.txn.session) own0 here.pass own1 pass1 (step here.number run)) v
      (came (Site here.number) (Session inside.txn.session) own0 here.pass own1 pass1 turn fixed fixed (step here.number inside)
      (a ∙ ap (λ (run : Going). Session run.txn.session ∷ []) (sym v)) s.actors o t
      (p ∙ ap (λ (step : Step). record own0 { seen = turn ++ step ∷ [] }) f) (q ∙ ap (λ (step : Step). record here.pass { seen = turn ++ step ∷ [] }) f)))

  pub met_there : (session : ℕ) → own0.actors ≡ Session session ∷ [] → (own1 pass1 : View) → own1 ≡ record own0 { seen = turn }
      → pass1 ≡ record here.pass { seen = turn } → Met (Site here.number) (Session session) own0 here.pass own1 pass1
  met_there session a own1 pass1 p q = met (Site here.number) (Session session) own0 here.pass own1 pass1 turn fixed fixed a s.actors o t p q

  pub met_here : (session : ℕ) → own0.actors ≡ Session session ∷ [] → (own1 pass1 : View) → own1 ≡ record own0 { seen = turn }
      → pass1 ≡ record here.pass { seen = turn } → Met (Site old.number) (Session session) own0 old.pass own1 pass1
  met_here session a own1 pass1 p q =
      subst (λ (at : Station D). Met (Site at.number) (Session session) own0 at.pass own1 pass1) e (met_there session a own1 pass1 p q)

  -- an append that came after the turn, as its caller sees it
  pub wrote_here : {txn : TxnId} {site : ℕ} {begin declares : List ℕ} {done : Progress} {was : View} {run : Going}
      → going txn site begin declares done was ≡ run → own0.actors ≡ Session run.txn.session ∷ [] → run.site ≡ old.number
      → (own1 pass1 own2 pass2 : View) → own1 ≡ record own0 { seen = turn }
      → pass1 ≡ record here.pass { seen = turn } → (entry : Entry) (how : Appended) (seq : ℕ) → entry ≡ entry_of_run here.number seq txn begin done
      → Came (Site here.number) (Session txn.session) own1 pass1 own2 pass2 (step_after here.number txn (pending.Commit entry) how)
      → (told : CommitAnswer) (vector : List ℕ) (reads : List Pair) → told ≡ told_commit how here.number seq vector reads → vector ≡ commit_vector entry
      → reads ≡ done.ran.reads → (ready installed : List Past) (held locks : Locks) → ready ≡ here.installed → held ≡ here.locks
      → installed ≡ installed_after (pending.Commit entry) how ready → locks ≡ locks_after (pending.Commit entry) how held
      → (entry : Entry) × (how : Appended) × IsEntryOf run entry × (told ≡ told_commit how old.number entry.seq (commit_vector entry) entry.reads)
      × Came (Site old.number) (Session run.txn.session) own0 old.pass own2 pass2 (step_after old.number run.txn (pending.Commit entry) how)
      × (installed ≡ installed_after (pending.Commit entry) how old.installed) × (locks ≡ locks_after (pending.Commit entry) how old.locks)
  wrote_here {txn} {site} {begin} {declares} {done} {was} {run} v a here_is own1 pass1 own2 pass2 p q entry how seq n c told vector reads z x y ready installed
      held locks i l f h = (
        entry,
        how,
        (
          (λ j. (n j).txn) ∙ (λ j. (v j).txn),
          (λ j. (n j).origin) ∙ ((λ j. (e j).number) ∙ sym here_is),
          (λ j. (n j).begin) ∙ (λ j. (v j).begin),
          (λ j. (n j).ops) ∙ (λ j. (v j).ops),
        ),
        z
            ∙ (λ j. told_commit how (e j).number (sym n j).seq (x j) (y j))
            ∙ ap (λ (reads : List Pair). told_commit how old.number entry.seq (commit_vector entry) reads) (λ j. (sym n j).reads),
        subst (λ (at : Station D). Came (Site at.number) (Session run.txn.session) own0 at.pass own2 pass2
            (step_after at.number run.txn (pending.Commit entry) how)) e
            (subst (λ (run : Going). Came (Site here.number) (Session run.txn.session) own0 here.pass own2 pass2
            (step_after here.number run.txn (pending.Commit entry) how)) v
            (met_came (Site here.number) (Session txn.session) own0 here.pass own1 pass1 own2 pass2 (step_after here.number txn (pending.Commit entry) how)
            (met_there txn.session (a ∙ ap (λ (run : Going). Session run.txn.session ∷ []) (sym v)) own1 pass1 p q) c)),
        f ∙ ap (λ (before : List Past). installed_after (pending.Commit entry) how before) (i ∙ ap (λ (at : Station D). at.installed) e),
        h ∙ ap (λ (before : Locks). locks_after (pending.Commit entry) how before) (l ∙ ap (λ (at : Station D). at.locks) e),
      )

-- ---- a dropped run

pub seen_is : (own0 own1 : View) (steps : List Step) → own1 ≡ record own0 { seen = steps } → own1.seen ≡ steps
seen_is own0 own1 steps e = ap (λ (v : View). v.seen) e

-- who holds nothing has nothing to let go
pub still_let_go : {D : Type 0} (here old : Station D) {inside run : Going} → here ≡ old → inside ≡ run → (holds : Bool)
    → holds ≡ list_any (is_of inside.txn) here.locks.holders → holds ≡ false → (pass : View)
    → record here { pass = pass } ≡ record old { pass = pass; locks = let_go run.txn old.locks }
still_let_go {D} here old {inside} {run} e v holds l n pass =
    ap (λ (locks : Locks). record here { pass = pass; locks = locks }) (holds_nothing inside.txn here.locks (sym l ∙ n))
    ∙ (λ j. record (e j) { pass = pass; locks = let_go (v j).txn (e j).locks })

-- ---- a crash

-- where nothing was written, whatever came
pub crash_here : {D : Type 0} {table : TableId} {opened : List ℕ} (story : D → Option Story) (here old : Station D) {parts : Parts} → here ≡ old
    → IsSite table opened here.number here.pass parts → parts.told ≡ story here.disk → (new : View) (told : Option Story) → told ≡ parts.told
    → Both (Crashes old.number old.pass new) (story old.disk) told
crash_here {D} {table} {opened} story here old {parts} e s d new told t =
    subst (λ (at : Station D). Both (Crashes at.number at.pass new) (story at.disk) told) e
    (subst (λ (o : Option Story). Both (Crashes here.number here.pass new) o told) d
    (crash_still (layout_of here.pass) opened here.number parts here.pass new told (keeps_now table opened here.number here.pass parts s) t))

-- where something was, after a turn in which the site did nothing
pub crash_later : {D : Type 0} {table : TableId} {opened : List ℕ} (story : D → Option Story) (here old : Station D) {parts : Parts} {turn : List Step}
    {fixed : Option Terms} → here ≡ old → IsSite table opened here.number here.pass parts → parts.told ≡ story here.disk → Turned here.pass turn fixed
    → (met new : View) → met ≡ record here.pass { seen = turn } → (between now : Option Story) → between ≡ parts.told → Went met new
    → Both (Crashes here.number met new) between now → Both (Crashes old.number old.pass new) (story old.disk) now
crash_later {D} {table} {opened} story here old {parts} {turn} {fixed} e s d t met new m between now b w c =
    subst (λ (at : Station D). Both (Crashes at.number at.pass new) (story at.disk) now) e
    (subst (λ (o : Option Story). Both (Crashes here.number here.pass new) o now) d
    (then_crash table opened here.number here.pass met parts turn fixed s t m new now (sym (went_layout met new w)) w.begins
    (subst (λ (o : Option Story). Both (Crashes here.number met new) o now) b c)))
