-- What a site starts again with.
use Rattle.std.proofs.Common.{ℕ, ◌≡◌, Bool, false, List, [], ◌∷◌, ◌++◌, map, Option, Some, None, refl, sym, ap, ap₂, ◌∙◌, subst}
use Rattle.std.proofs.lemmas.List.{reverse-reverse}
use Rattle.std.specs.List.{AllByRecursion as Each, filter_map}
use Rattle.std.specs.Prelude.{IfSome, IsSomeAnd, IsTrue, option_map, option_to_list, reverse, unwrap_or}
use Rattle.atomic_table.specs.Seated.{TableId}
use Rattle.dm_core.specs.Lawful.{Terms, may_follow}
use Rattle.dm_core.specs.Ledger.{Ledger}
use Rattle.dm_event.specs.Actors.{actors}
use Rattle.dm_event.specs.Layout.{Layout, is_site}
use Rattle.dm_chronicle.specs.Belongs.{belongs}
use Rattle.dm_event.specs.declared.actor.Actor.TheVariants.{Session, Site}
use Rattle.dm_event.specs.declared.step.Choice.{Choice}
use Rattle.dm_event.specs.declared.step.Found.{Found}
use Rattle.dm_event.specs.declared.step.Found.TheVariants.{Clean, Kept, Lost}
use Rattle.dm_event.specs.declared.step.Pending.{Pending}
use Rattle.dm_event.specs.declared.step.Pending.TheVariants as pending
use Rattle.dm_event.specs.declared.step.Step.{Step}
use Rattle.dm_event.specs.declared.step.Step.TheVariants.{Restart}
use Rattle.dm_event.specs.declared.step.TxnId.{TxnId}
use Rattle.dm_event.specs.declared.step.Want.TheVariants as want
use Rattle.dm_frames.proofs.Adding.{records_more}
use Rattle.dm_frames.proofs.Telling.{same_records}
use Rattle.dm_frames.specs.Records.{frames_of, pending_record, record_of, records_by, records_of}
use Rattle.dm_locks.specs.Locks.{Locks, no_locks}
use Rattle.dm_logdisk.specs.Story.{IsDurable}
use Rattle.dm_model.specs.Acts.{acts}
use Rattle.dm_model.specs.Allowed.{Allowed, with_kept}
use Rattle.dm_model.specs.Attempts.{routed}
use Rattle.dm_model.specs.Doubts.{is_down, pending_at, step_of}
use Rattle.dm_model.specs.Floors.{floor}
use Rattle.dm_model.specs.Legal.{Legal, LegalPast}
use Rattle.dm_model.specs.Rows.{found_fits}
use Rattle.dm_next.proofs.Restarts.{may_restart_at_floor}
use Rattle.dm_others.proofs.Growing.{unchanged}
use Rattle.dm_others.proofs.Logs.{down_other, pending_other, records_kept, records_other}
use Rattle.dm_others.specs.Adding.{AddsOthers}
use Rattle.dm_record.specs.Bytes.{HasRanges, frame_of}
use Rattle.dm_record.specs.declared.record.Record.{Record}
use Rattle.dm_redo.specs.Comparing.{stood}
use Rattle.dm_redo.specs.Finding.{AreRecords}
use Rattle.dm_redo.specs.Holding.{IsAt}
use Rattle.dm_restart.proofs.Recorded.{floor_recorded}
use Rattle.dm_restart.proofs.Restarting.{whole_plan}
use Rattle.dm_restart.specs.Floors.{floor_of}
use Rattle.dm_restart.specs.Histories.{logged}
use Rattle.dm_restart.specs.Plans.{completed, ReachesFloor}
use Rattle.dm_desk.proofs.Desks.{came_in, doubted_lasting, frames_lasting, may_push}
use Rattle.dm_invariant.proofs.Loaded.{frames_found, restarted}
use Rattle.dm_invariant.proofs.Passing.{adds_one}
use Rattle.dm_invariant.proofs.Sessions.{routed_here}
use Rattle.dm_invariant.proofs.Turned.{after_step, in_turn, turn_adds, turn_legal}
use Rattle.dm_invariant.specs.Keeping.{Parts, Keeps, IsSite}
use Rattle.dm_invariant.specs.Logs.{doubted}
use Rattle.dm_desk.specs.Restarting.{IsCleanFor}
use Rattle.dm_invariant.specs.Stations.{View, IsPassOf, layout_of, no_terms}
use Rattle.dm_invariant.specs.Turning.{Came, Turned}
use Rattle.dm_store.specs.Contents.{Contents}
use Rattle.dm_store.specs.Histories.{committed_inside}
use Rattle.dm_store.specs.Rising.{may_install}
use Rattle.dm_store.specs.declared.past.Past.{Past}

-- ---- the plan, of the book in hand

module _ (view : View) (book : Ledger) (steps : List Step) (site : ℕ) (found : Found)
    (f : view.fixed ≡ Some (record { layout = book.layout; items = book.items })) (h : book.steps ≡ view.seen) (e : steps ≡ book.steps)
    (l : Legal book.layout steps) (there : IsTrue (is_site (layout_of view) site)) (fits : IsTrue (found_fits found (is_down site (reverse view.seen)))) where
  here : layout_of view ≡ book.layout
  here = ap (λ (o : Option Terms). (unwrap_or o no_terms).layout) f

  legal : Legal book.layout book.steps
  legal = subst (λ (ss : List Step). Legal book.layout ss) e l

  there_in : IsTrue (is_site book.layout site)
  there_in = subst (λ (y : Layout). IsTrue (is_site y site)) here there

  fits_in_book : IsTrue (found_fits found (is_down site (reverse book.steps)))
  fits_in_book = subst (λ (ss : List Step). IsTrue (found_fits found (is_down site (reverse ss)))) (sym h) fits

  pub plan_past : ((layout : Layout) (history : List Step) → Legal layout history → (v : List ℕ) → IsTrue (may_install [] (committed_inside history v)))
      → (upto : List ℕ) (past items : List Past) → past ≡ items → items ≡ committed_inside book.steps upto → IsTrue (may_install [] past)
  plan_past law upto past items p i =
      subst (λ (ps : List Past). IsTrue (may_install [] ps)) (sym (p ∙ i)) (law book.layout book.steps legal upto)

  pub plan_whole : (upto : List ℕ) (past items : List Past) (own : List Record) (schema : Layout) → past ≡ items → items ≡ committed_inside book.steps upto
      → upto ≡ floor book.layout.sites (with_kept site found (reverse book.steps)) site → own ≡ logged site found (reverse view.seen)
      → schema ≡ book.layout → ReachesFloor schema.sites site own past
  plan_whole upto past items own schema p i u o s =
      let logs = logged site found (reverse book.steps) in
      let own_is : own ≡ logs = o ∙ sym (ap (λ (ss : List Step). logged site found (reverse ss)) h) in
      let past_is : past ≡ committed_inside book.steps (floor_of book.layout.sites site logs) =
      p ∙ i ∙ ap (λ (v : List ℕ). committed_inside book.steps v)
      (u ∙ sym (floor_recorded book.layout.sites (with_kept site found (reverse book.steps)) site)) in
      subst (λ (y : Layout). ReachesFloor y.sites site own past) (sym s)
      (subst (λ (os : List Record). ReachesFloor book.layout.sites site os past) (sym own_is)
      (subst (λ (ps : List Past). ReachesFloor book.layout.sites site logs ps) (sym past_is)
      (whole_plan book.layout book.steps legal site there_in found fits_in_book)))

  pub plan_vector : (vector : List ℕ) (own : List Record) (schema : Layout) → vector ≡ floor_of schema.sites site own
      → own ≡ logged site found (reverse view.seen) → schema ≡ book.layout
      → vector ≡ floor (layout_of view).sites (with_kept site found (reverse view.seen)) site
  plan_vector vector own schema v o s =
      v ∙ ap (λ (y : Layout). floor_of y.sites site own) (s ∙ sym here)
      ∙ ap (λ (os : List Record). floor_of (layout_of view).sites site os) o
      ∙ floor_recorded (layout_of view).sites (with_kept site found (reverse view.seen)) site

  pub plan_installed : (upto : List ℕ) (past items installed : List Past) (own : List Record) (vector : List ℕ) → installed ≡ completed site own past
      → past ≡ items → items ≡ committed_inside book.steps upto → upto ≡ floor book.layout.sites (with_kept site found (reverse book.steps)) site
      → own ≡ logged site found (reverse view.seen) → vector ≡ floor (layout_of view).sites (with_kept site found (reverse view.seen)) site
      → installed ≡ completed site (logged site found (reverse view.seen)) (committed_inside view.seen vector)
  plan_installed upto past items installed own vector n p i u o v =
      n ∙ ap (λ (os : List Record). completed site os past) o
      ∙ ap (λ (ps : List Past). completed site (logged site found (reverse view.seen)) ps)
      (p ∙ i ∙ ap (λ (ss : List Step). committed_inside ss upto) h
      ∙ ap (λ (w : List ℕ). committed_inside view.seen w)
      (u ∙ ap (λ (y : Layout). floor y.sites (with_kept site found (reverse book.steps)) site) (sym here)
      ∙ ap (λ (ss : List Step). floor (layout_of view).sites (with_kept site found (reverse ss)) site) h ∙ sym v))

-- ---- a start

-- the records that a Restart finds are the site's after it
logged_is : (site : ℕ) (past : List Step) (vector : List ℕ) (found : Found) → logged site found past ≡ records_of site (Restart site vector found ∷ past)
logged_is site past vector Clean = refl
logged_is site past vector Lost = refl
logged_is site past vector Kept = by (pending_at site past)
  where
    by : (o : Option Pending) → records_of site (option_to_list (option_map (step_of site) o) ++ past)
        ≡ filter_map (record_of site) (reverse (option_to_list (option_map (step_of site) o) ++ acts past))
    by None = refl
    by (Some (pending.Commit e)) = refl
    by (Some (pending.Release part epoch to v)) = refl
    by (Some (pending.Grant part epoch v)) = refl

-- what others do leaves them
logged_lasting : (layout : Layout) (site : ℕ) (found : Found) (old new : List Step) → Legal layout new → AddsOthers (Site site) old new
    → logged site found (reverse new) ≡ logged site found (reverse old)
logged_lasting layout site found old new l a =
    unchanged layout (Site site) (logged site found) (λ past x k b. one past x k b) old new a.0 a.1 l
  where
    more : (f : Found) (past : List Step) (x : Step) → belongs actors x (Site site) ≡ false
        → records_by site (Restart site [] f) (x ∷ past) ≡ records_by site (Restart site [] f) past
    more Clean past x b = refl
    more Lost past x b = refl
    more Kept past x b = ap (λ (o : Option Pending). filter_map (record_of site) (option_to_list (option_map (step_of site) o))) (pending_other site past x b)

    one : (past : List Step) (x : Step) → LegalPast layout (x ∷ past) → belongs actors x (Site site) ≡ false
        → logged site found (x ∷ past) ≡ logged site found past
    one past x k b =
        logged_is site (x ∷ past) [] found ∙ records_more site (Restart site [] found) (x ∷ past)
        ∙ ap₂ (λ (rs more : List Record). rs ++ more) (records_other layout site past k.0 x k.1 b) (more found past x b)
        ∙ sym (records_more site (Restart site [] found) past) ∙ sym (logged_is site past [] found)

pub each_ranges : (recs : List Record) → AreRecords recs → Each HasRanges recs
each_ranges [] h = tt
each_ranges (rec ∷ recs) h = (h.0, each_ranges recs h.1)

each_both : (P : Record → Type 0) (recs more : List Record) → Each P recs → Each P more → Each P (recs ++ more)
each_both P [] more h k = k
each_both P (rec ∷ recs) more h k = (h.0, each_both P recs more h.1 k)

each_some : (o : Option Pending) → IfSome o (λ p. HasRanges (pending_record p)) → Each HasRanges (option_to_list (option_map pending_record o))
each_some None h = tt
each_some (Some p) h = (h, tt)

-- the records that stand in the log have their ranges
pub known_logged : (layout : Layout) (site : ℕ) (past : List Step) (found : Found) → LegalPast layout past → IsTrue (is_site layout site)
    → IsTrue (found_fits found (is_down site past)) → Each HasRanges (records_of site past)
    → (IsTrue (is_down site past) → IfSome (pending_at site past) (λ p. HasRanges (pending_record p))) → Each HasRanges (logged site found past)
known_logged layout site past Clean l there fits r p = r
known_logged layout site past Lost l there fits r p = r
known_logged layout site past Kept l there fits r p =
    let v = floor layout.sites (with_kept site Kept past) site in
    subst (λ (recs : List Record). Each HasRanges recs)
    (sym (logged_is site past v Kept ∙ records_kept layout site past l v (may_restart_at_floor layout past l site there Kept fits)))
    (each_both HasRanges (records_of site past) (option_to_list (option_map pending_record (pending_at site past))) r
    (each_some (pending_at site past) (p fits)))

module _ (table : TableId) (opened : List ℕ) (site session : ℕ) (found : Found) (own pass : View) (parts : Parts) (turn : List Step)
    (own_fixed fixed : Option Terms) (s : IsSite table opened site pass parts) (o : IsPassOf table session own)
    (t : Turned own turn own_fixed) (u : Turned pass turn fixed) (fits : IsTrue (found_fits found (is_down site (reverse pass.seen)))) where
  legal_in : Legal (layout_of pass) turn
  legal_in = turn_legal table opened site pass parts turn fixed s u

  adds : AddsOthers (Site site) pass.seen turn
  adds = turn_adds table opened site pass parts turn fixed s u

  keeps : Keeps (layout_of pass) opened site (reverse turn) parts
  keeps = in_turn table opened site pass parts turn fixed s u

  pub fits_turn : IsTrue (found_fits found (is_down site (reverse turn)))
  fits_turn =
      subst (λ (b : Bool). IsTrue (found_fits found b))
      (sym (unchanged (layout_of pass) (Site site) (is_down site) (λ past x k b. down_other site past x b) pass.seen turn adds.0 adds.1 legal_in)) fits

  allowed : (vector : List ℕ) → vector ≡ floor (layout_of pass).sites (with_kept site found (reverse turn)) site
      → Allowed (layout_of pass) (reverse turn) (Restart site vector found)
  allowed vector v =
      subst (λ (w : List ℕ). Allowed (layout_of pass) (reverse turn) (Restart site w found)) (sym v)
      (may_restart_at_floor (layout_of pass) (reverse turn) keeps.legal site keeps.there found fits_turn)

  same_stood : stood found (frames_of site (reverse pass.seen)) (doubted site (reverse pass.seen))
      ≡ stood found (frames_of site (reverse turn)) (doubted site (reverse turn))
  same_stood =
      ap₂ (λ (fs : List (List ℕ)) (d : Option (List ℕ)). stood found fs d) (sym (frames_lasting (layout_of pass) site pass.seen turn legal_in adds))
      (sym (doubted_lasting (layout_of pass) site pass.seen turn legal_in adds))

  -- the records that were read are those of the history
  pub own_logged : (recs now : List Record) → now ≡ recs → AreRecords recs → Each HasRanges (logged site found (reverse pass.seen))
      → map frame_of recs ≡ stood found (frames_of site (reverse pass.seen)) (doubted site (reverse pass.seen)) → now ≡ logged site found (reverse turn)
  own_logged recs now n a k e =
      let v = floor (layout_of pass).sites (with_kept site found (reverse turn)) site in
      n ∙ same_records recs (logged site found (reverse turn)) (each_ranges recs a)
      (subst (λ (rs : List Record). Each HasRanges rs) (sym (logged_lasting (layout_of pass) site found pass.seen turn legal_in adds)) k)
      (e ∙ same_stood ∙ frames_found (layout_of pass) opened site (reverse turn) parts keeps found v (allowed v refl)
      ∙ sym (ap (λ (rs : List Record). map frame_of rs) (logged_is site (reverse turn) v found)))

  -- the turn as what was planned in it leaves it
  module _ (held now : View) (vector : List ℕ) (here : held.fixed ≡ fixed) (seen_is : held.seen ≡ turn) (same : now ≡ held)
      (v : vector ≡ floor (layout_of held).sites (with_kept site found (reverse held.seen)) site) where
    layout_held : layout_of held ≡ layout_of pass
    layout_held = ap (λ (f : Option Terms). (unwrap_or f no_terms).layout) (here ∙ u.fixed_is)

    vector_is : vector ≡ floor (layout_of pass).sites (with_kept site found (reverse turn)) site
    vector_is =
        v ∙ ap (λ (l : Layout). floor l.sites (with_kept site found (reverse held.seen)) site) layout_held
        ∙ ap (λ (ss : List Step). floor (layout_of pass).sites (with_kept site found (reverse ss)) site) seen_is

    now_seen : now.seen ≡ turn
    now_seen = ap (λ (w : View). w.seen) same ∙ seen_is

    follows_here : IsSomeAnd fixed (λ f. may_follow f turn (Restart site vector found))
    follows_here = may_push table opened site pass parts turn fixed (Restart site vector found) s u (allowed vector vector_is)

    pub start_follows : IsSomeAnd now.fixed (λ f. may_follow f now.seen (Restart site vector found))
    start_follows =
        subst (λ (f : Option Terms). IsSomeAnd f (λ f. may_follow f now.seen (Restart site vector found))) (sym (ap (λ (w : View). w.fixed) same ∙ here))
        (subst (λ (ss : List Step). IsSomeAnd fixed (λ f. may_follow f ss (Restart site vector found))) (sym now_seen) follows_here)

    pub start_held : IsSomeAnd held.fixed (λ f. may_follow f held.seen (Restart site vector found))
    start_held =
        subst (λ (f : Option Terms). IsSomeAnd f (λ f. may_follow f held.seen (Restart site vector found))) (sym here)
        (subst (λ (ss : List Step). IsSomeAnd fixed (λ f. may_follow f ss (Restart site vector found))) (sym seen_is) follows_here)

    pub start_came : (own_lent pass_met own1 pass1 : View) → held.actors ≡ own.actors → own_lent ≡ record own { actors = [] }
        → pass_met ≡ record pass { seen = turn } → own1 ≡ record own_lent { actors = now.actors; seen = now.seen ++ Restart site vector found ∷ [] }
        → pass1 ≡ record pass_met { seen = now.seen ++ Restart site vector found ∷ [] }
        → Came (Site site) (Session session) own pass own1 pass1 (Restart site vector found)
    start_came own_lent pass_met own1 pass1 h l n e f =
        came_in table site session own pass own_lent pass_met own1 pass1 turn own_fixed fixed now.actors (Restart site vector found) o s.actors t u l n
        (ap (λ (w : View). w.actors) same ∙ h)
        (e ∙ ap (λ (ss : List Step). record own_lent { actors = now.actors; seen = ss ++ Restart site vector found ∷ [] }) now_seen)
        (f ∙ ap (λ (ss : List Step). record pass_met { seen = ss ++ Restart site vector found ∷ [] }) now_seen)

    clean_in : IsCleanFor site found session pass own → found ≡ Clean → (txn : TxnId) × (min : List ℕ) × (choice : Choice)
        × (routed txn (reverse turn) ≡ Some (record { txn = txn; want = want.Restart; min = min; site = site; choice = choice }))
    clean_in c e =
        let w = c e in
        let r = w.2.1 in
        let a = adds_one (Session session) own turn own_fixed o.1 t in
        let a' = subst (λ (n : ℕ). AddsOthers (Session n) own.seen turn) (sym w.1) a in
        (w.0, w.2.0, r.1, routed_here w.0 want.Restart w.2.0 site (record own { seen = turn }) (r.0, r.1, a'.1 ∙ r.2))

    pub start_keeps : (pass_met pass1 : View) (store : Contents) (clear_locks : Locks) → pass_met ≡ record pass { seen = turn }
        → pass1 ≡ record pass_met { seen = now.seen ++ Restart site vector found ∷ [] }
        → IsCleanFor site found session pass own
        → IfSome parts.told (λ st. IsAt (stood found (frames_of site (reverse pass.seen)) (doubted site (reverse pass.seen))) parts.gate st × IsDurable st)
        → store.layout ≡ layout_of held
        → store.installed ≡ completed site (logged site found (reverse held.seen)) (committed_inside held.seen vector) → clear_locks ≡ no_locks
        → IsSite table opened site pass1 (record parts { store = store; locks = clear_locks })
    start_keeps pass_met pass1 store clear_locks n f c at_end l i clear =
        after_step table opened site pass pass1 parts (record parts { store = store; locks = clear_locks }) turn (Restart site vector found) s
        (f ∙ ap (λ (ss : List Step). record pass_met { seen = ss ++ Restart site vector found ∷ [] }) now_seen
        ∙ ap (λ (w : View). record w { seen = turn ++ Restart site vector found ∷ [] }) n)
        (subst (λ (ls : Locks). Keeps (layout_of pass) opened site (Restart site vector found ∷ reverse turn) (record parts { store = store; locks = ls }))
        (sym clear)
        (restarted (layout_of pass) opened site (reverse turn) parts keeps found vector store
        (subst (λ (fs : List (List ℕ)). IfSome parts.told (λ st. IsAt fs parts.gate st × IsDurable st)) same_stood at_end) (allowed vector vector_is)
        (clean_in c) (l ∙ layout_held)
        (i ∙ ap (λ (ss : List Step). completed site (logged site found (reverse ss)) (committed_inside ss vector)) seen_is
        ∙ ap (λ (ss : List Step). completed site (logged site found (reverse turn)) (committed_inside ss vector)) (sym (reverse-reverse turn)))))
