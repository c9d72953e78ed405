-- What a desk's calls know in their turn, and what they leave of a site.
use Rattle.std.proofs.Common.{ℕ, ◌≡◌, ◌+◌, ◌≤◌, Bool, List, [], ◌∷◌, ◌++◌, map, Option, Some, None, refl, sym, ap, ◌∙◌, subst, inl, inr}
use Rattle.std.proofs.lemmas.Bool.{eq-eqb}
use Rattle.std.specs.Prelude.{◌≢◌, ◌↔◌, Result, Ok, Err, IfOk, IsNone, IsTrue, IsSomeAnd, length, option_map, reverse}
use Rattle.atomic_table.specs.Seated.{TableId}
use mathlib.Core.List.{IsPrefix}
use Rattle.dm_chronicle.proofs.Lists.{prefix_refl, prefix_more}
use Rattle.dm_chronicle.specs.Standing.{Covers}
use Rattle.dm_core.specs.Lawful.{Terms, may_follow}
use Rattle.dm_disk.specs.Faults.{Rose}
use Rattle.dm_event.specs.Actors.{actors}
use Rattle.dm_event.specs.Layout.{Layout, is_site}
use Rattle.dm_event.specs.declared.actor.Actor.{Actor}
use Rattle.dm_event.specs.declared.actor.Actor.TheVariants.{Session, Site}
use Rattle.dm_event.specs.declared.step.Cause.{Cause}
use Rattle.dm_event.specs.declared.step.Cause.TheVariants.{Log, Damage}
use Rattle.dm_event.specs.declared.step.Found.{Found}
use Rattle.dm_event.specs.declared.step.Found.TheVariants.{Clean}
use Rattle.dm_event.specs.declared.step.Pending.{Pending}
use Rattle.dm_event.specs.declared.step.Pending.TheVariants as pending
use Rattle.dm_event.specs.declared.step.Step.{Step}
use Rattle.dm_event.specs.declared.step.Step.TheVariants.{Fail}
use Rattle.dm_event.specs.declared.step.TxnId.{TxnId}
use Rattle.dm_frames.specs.Records.{frames_of, pending_record}
use Rattle.dm_locks.specs.Locks.{Locks}
use Rattle.dm_logdisk.specs.Story.{Story, Both}
use Rattle.dm_model.specs.Allowed.{Allowed}
use Rattle.dm_model.specs.Doubts.{is_down}
use Rattle.dm_model.specs.Legal.{Legal}
use Rattle.dm_next.proofs.Doubts.{IsDamage, is_damage}
use Rattle.dm_others.proofs.Growing.{unchanged}
use Rattle.dm_others.proofs.Logs.{down_other, records_other}
use Rattle.dm_others.specs.Adding.{AddsOthers}
use Rattle.dm_record.specs.Bytes.{frame_of}
use Rattle.dm_record.specs.declared.record.Record.{Record}
use Rattle.dm_redo.specs.Appending.{Appends}
use Rattle.dm_redo.specs.Log.{Log as RedoLog}
use Rattle.dm_redo.specs.declared.appending.Appended.{Appended}
use Rattle.dm_redo.specs.declared.appending.Appended.TheVariants as append
use Rattle.dm_redo.specs.declared.comparing.AgainstFault.{AgainstFault}
use Rattle.dm_redo.specs.declared.comparing.AgainstFault.TheVariants as fault
use Rattle.dm_invariant.proofs.Loaded.{crash_loaded, failed_for_damage, failed_for_log, loaded, may_hold, no_difference, of_err}
use Rattle.dm_invariant.specs.Loading.{LoadedAgainst}
use Rattle.dm_invariant.proofs.Passing.{adds_one, came, given_back}
use Rattle.dm_invariant.proofs.Staying.{log_other, same_doubted}
use Rattle.dm_invariant.proofs.Turned.{after_step, after_turn, in_turn, layout_is, turn_adds, turn_legal}
use Rattle.dm_invariant.proofs.Written.{crash_written, may_follow_append, written}
use Rattle.dm_invariant.specs.Appending.{AppendedTo, MayWrite}
use Rattle.dm_desk.specs.Causing.{IsCaused}
use Rattle.dm_invariant.specs.Keeping.{Parts, Keeps, IsSite, parts_of}
use Rattle.dm_invariant.specs.Logs.{Crashes, doubted}
use Rattle.dm_invariant.specs.Stations.{View, IsPassOf, layout_of}
use Rattle.dm_invariant.specs.Turning.{Came, Turned, is_ending}
use Rattle.dm_invariant.specs.Writing.{step_after, installed_after, locks_after, cause_of, let_go, FitsBehind, MayAppend, MayFail}
use Rattle.dm_store.specs.Contents.{Contents}
use Rattle.dm_stores.proofs.Fitting.{fits_commit}

-- ---- a turn of both passes

-- a pass of which a turn was met, and that then has seen more
pub met_and : (pass0 met pass1 : View) (turn steps : List Step) → met ≡ record pass0 { seen = turn } → pass1 ≡ record met { seen = steps }
    → pass1 ≡ record pass0 { seen = steps }
met_and pass0 met pass1 turn steps a e = e ∙ ap (λ (v : View). record v { seen = steps }) a

-- a step came, of which the session's pass took the turn and the site's met it
pub came_in : (table : TableId) (site session : ℕ) (own pass own_lent pass_met own1 pass1 : View) (turn : List Step) (own_fixed fixed : Option Terms)
    (held : List Actor) (step : Step) → IsPassOf table session own → pass.actors ≡ Site site ∷ [] → Turned own turn own_fixed → Turned pass turn fixed
    → own_lent ≡ record own { actors = [] } → pass_met ≡ record pass { seen = turn } → held ≡ own.actors
    → own1 ≡ record own_lent { actors = held; seen = turn ++ step ∷ [] } → pass1 ≡ record pass_met { seen = turn ++ step ∷ [] }
    → Came (Site site) (Session session) own pass own1 pass1 step
came_in table site session own pass own_lent pass_met own1 pass1 turn own_fixed fixed held step o a t u l n h e f =
    came (Site site) (Session session) own pass own1 pass1 turn own_fixed fixed step o.1 a t u
    (given_back own own_lent own1 held (turn ++ step ∷ []) l h e) (met_and pass pass_met pass1 turn (turn ++ step ∷ []) n f)

-- both passes' actors are covered
pub covers_both : (site session : ℕ) (held others : List Actor) (step : Step) → held ≡ Session session ∷ [] → others ≡ Site site ∷ []
    → Covers actors (Session session ∷ Site site ∷ []) step → Covers actors (held ++ others) step
covers_both site session held others step h o c =
    subst (λ (as' : List Actor). Covers actors as' step)
    (ap (λ (as' : List Actor). as' ++ Site site ∷ []) (sym h) ∙ ap (λ (as' : List Actor). held ++ as') (sym o)) c

-- a site's parts as the schema of its pass says
pub keeps_here : (table : TableId) (opened : List ℕ) (site : ℕ) (pass : View) (parts : Parts) → IsSite table opened site pass parts
    → Keeps (layout_of pass) opened site (reverse pass.seen) parts
keeps_here table opened site pass parts s =
    subst (λ (l : Layout). Keeps l opened site (reverse pass.seen) parts) (sym (layout_is pass s.terms s.fixed)) s.keeps

-- what is allowed in the turn may follow there
pub may_push : (table : TableId) (opened : List ℕ) (site : ℕ) (pass : View) (parts : Parts) (turn : List Step) (fixed : Option Terms) (step : Step)
    → IsSite table opened site pass parts → Turned pass turn fixed → Allowed (layout_of pass) (reverse turn) step
    → IsSomeAnd fixed (λ f. may_follow f turn step)
may_push table opened site pass parts turn fixed step s t a =
    subst (λ (o : Option Terms). IsSomeAnd o (λ f. may_follow f turn step)) (sym (t.fixed_is ∙ s.fixed))
    (subst (λ (l : Layout). Allowed l (reverse turn) step) (layout_is pass s.terms s.fixed) a)

-- the session did nothing either, since both passes had seen one list
pub session_adds : (table : TableId) (session : ℕ) (own pass : View) (turn : List Step) (fixed : Option Terms) → IsPassOf table session own
    → own.seen ≡ pass.seen → Turned own turn fixed → AddsOthers (Session session) pass.seen turn
session_adds table session own pass turn fixed o m t =
    subst (λ (old : List Step). AddsOthers (Session session) old turn) m (adds_one (Session session) own turn fixed o.1 t)

-- ---- an append

pub ends_after : (site : ℕ) (txn : TxnId) (p : Pending) (done : Appended) → IsTrue (is_ending (step_after site txn p done))
ends_after site txn (pending.Commit e) append.Done = refl
ends_after site txn (pending.Release part epoch to vector) append.Done = refl
ends_after site txn (pending.Grant part epoch vector) append.Done = refl
ends_after site txn p append.Undone = refl
ends_after site txn p append.Doubt = refl

pub covers_after : (layout : Layout) (site : ℕ) (past : List Step) (txn : TxnId) (p : Pending) (done : Appended) → MayWrite layout site past txn p
    → Covers actors (Session txn.session ∷ Site site ∷ []) (step_after site txn p done)
covers_after layout site past txn (pending.Commit e) append.Done m =
    (inr (inl (ap Site (sym m.is_own))), inl (ap (λ (t : TxnId). Session t.session) (sym m.is_for)))
covers_after layout site past txn (pending.Release part epoch to vector) append.Done m = (inr (inl refl), tt)
covers_after layout site past txn (pending.Grant part epoch vector) append.Done m = (inr (inl refl), tt)
covers_after layout site past txn p append.Undone m = (inr (inl refl), inl refl)
covers_after layout site past txn (pending.Commit e) append.Doubt m = (inr (inl refl), inl (ap (λ (t : TxnId). Session t.session) (sym m.is_for)))
covers_after layout site past txn (pending.Release part epoch to vector) append.Doubt m = (inr (inl refl), tt)
covers_after layout site past txn (pending.Grant part epoch vector) append.Doubt m = (inr (inl refl), tt)

-- what an append says, of a log that stays as it left it
pub appended : {D : Type 0} (story : D → Option Story) (faults : D → ℕ) (store : Contents) (locks : Locks) (log0 log1 log2 : RedoLog D) (frame due : List ℕ)
    (done : Appended) → frame ≡ due → log2 ≡ log1 → Both (Appends log0.gate frame done) (story log0.disk) (story log1.disk)
    → IsTrue log1.live ↔ done ≡ append.Done → (done ≡ append.Done → log1.gate ≡ log0.gate + length frame + 1)
    → faults log0.disk ≤ faults log1.disk → (done ≢ append.Done → Rose (faults log0.disk) (faults log1.disk))
    → AppendedTo (parts_of story faults store locks log0) due done log2.live log2.gate (story log2.disk) (faults log2.disk)
appended {D} story faults store locks log0 log1 log2 frame due done f l a live gate count cause =
    subst (λ (log : RedoLog D). AppendedTo (parts_of story faults store locks log0) due done log.live log.gate (story log.disk) (faults log.disk)) (sym l)
    (subst (λ (bytes : List ℕ). AppendedTo (parts_of story faults store locks log0) bytes done log1.live log1.gate (story log1.disk) (faults log1.disk)) f
    (record { story = a; is_live = live; at_gate = gate; count = count; cause = cause }))

-- what may be appended may be written in the turn
may_write : (layout : Layout) (site : ℕ) (txn : TxnId) (p : Pending) (old turn : List Step) → MayAppend layout site txn p old → Legal layout turn
    → AddsOthers (Site site) old turn → AddsOthers (Session txn.session) old turn → MayWrite layout site (reverse turn) txn p
may_write layout site txn p old turn m l a s = record {
  up = unchanged layout (Site site) (is_down site) (λ past x k b. down_other site past x b) old turn a.0 a.1 l ∙ m.up;
  is_own = m.is_own;
  is_for = m.is_for turn l s;
  allowed = m.lasts turn l a s;
  may_fail = m.may_fail turn l a s;
}

fits_after : (layout : Layout) (opened : List ℕ) (site : ℕ) (past : List Step) (parts : Parts) (txn : TxnId) (p : Pending)
    → Keeps layout opened site past parts → MayWrite layout site past txn p → FitsBehind parts.store.installed p
fits_after layout opened site past parts txn (pending.Commit e) k m =
    fits_commit layout past site e parts.store.installed k.legal m.allowed m.is_own k.stores
fits_after layout opened site past parts txn (pending.Release part epoch to vector) k m = tt
fits_after layout opened site past parts txn (pending.Grant part epoch vector) k m = tt

module _ (table : TableId) (opened : List ℕ) (site : ℕ) (txn : TxnId) (p : Pending) (own pass : View) (parts : Parts) (turn : List Step)
    (own_fixed fixed : Option Terms) (s : IsSite table opened site pass parts) (o : IsPassOf table txn.session own) (m : own.seen ≡ pass.seen)
    (t : Turned own turn own_fixed) (u : Turned pass turn fixed) (may : MayAppend (layout_of pass) site txn p pass.seen) where
  pub writes : MayWrite (layout_of pass) site (reverse turn) txn p
  writes =
      may_write (layout_of pass) site txn p pass.seen turn may (turn_legal table opened site pass parts turn fixed s u)
      (turn_adds table opened site pass parts turn fixed s u) (session_adds table txn.session own pass turn own_fixed o m t)

  pub fits_in : FitsBehind parts.store.installed p
  fits_in = fits_after (layout_of pass) opened site (reverse turn) parts txn p (in_turn table opened site pass parts turn fixed s u) writes

  pub follows_append : (step : Step) (done : Appended) → step ≡ step_after site txn p done → IsSomeAnd fixed (λ f. may_follow f turn step)
  follows_append step done e =
      may_push table opened site pass parts turn fixed step s u
      (subst (λ (x : Step). Allowed (layout_of pass) (reverse turn) x) (sym e)
      (may_follow_append (layout_of pass) site (reverse turn) txn p done writes))

  pub covers_append : (held : List Actor) (other : View) (step : Step) (done : Appended) → held ≡ own.actors → other ≡ record pass { seen = turn }
      → step ≡ step_after site txn p done → Covers actors (held ++ other.actors) step
  covers_append held other step done h i e =
      covers_both site txn.session held other.actors step (h ∙ o.1) (ap (λ (v : View). v.actors) i ∙ s.actors)
      (subst (λ (x : Step). Covers actors (Session txn.session ∷ Site site ∷ []) x) (sym e)
      (covers_after (layout_of pass) site (reverse turn) txn p done writes))

  pub came_append : (own_lent pass_met own1 pass1 : View) (held : List Actor) (step : Step) (done : Appended) → own_lent ≡ record own { actors = [] }
      → pass_met ≡ record pass { seen = turn } → held ≡ own.actors → own1 ≡ record own_lent { actors = held; seen = turn ++ step ∷ [] }
      → pass1 ≡ record pass_met { seen = turn ++ step ∷ [] } → step ≡ step_after site txn p done
      → Came (Site site) (Session txn.session) own pass own1 pass1 (step_after site txn p done)
  came_append own_lent pass_met own1 pass1 held step done l n h e f is =
      subst (λ (x : Step). Came (Site site) (Session txn.session) own pass own1 pass1 x) is
      (came_in table site txn.session own pass own_lent pass_met own1 pass1 turn own_fixed fixed held step o s.actors t u l n h e f)

  pub keeps_append : (done : Appended) (store : Contents) (locks : Locks) (live : Bool) (gate : ℕ) (told : Option Story) (faults : ℕ) (now : View) (step : Step)
      → IsTrue parts.live → AppendedTo parts (frame_of (pending_record p)) done live gate told faults → store.layout ≡ parts.store.layout
      → store.installed ≡ installed_after p done parts.store.installed → locks ≡ locks_after p done parts.locks
      → step ≡ step_after site txn p done → now ≡ record pass { seen = turn ++ step ∷ [] }
      → IsSite table opened site now (record { store = store; locks = locks; live = live; gate = gate; told = told; faults = faults })
  keeps_append done store locks live gate told faults now step on a l i h e w =
      after_step table opened site pass now parts (record { store = store; locks = locks; live = live; gate = gate; told = told; faults = faults })
      turn step s w
      (subst (λ (x : Step). Keeps (layout_of pass) opened site (x ∷ reverse turn)
      (record { store = store; locks = locks; live = live; gate = gate; told = told; faults = faults })) (sym e)
      (subst (λ (ls : Locks). Keeps (layout_of pass) opened site (step_after site txn p done ∷ reverse turn)
      (record { store = store; locks = ls; live = live; gate = gate; told = told; faults = faults })) (sym h)
      (written (layout_of pass) opened site (reverse turn) parts txn p done store live gate told faults
      (in_turn table opened site pass parts turn fixed s u) writes on a l i)))

  pub crash_append : (done : Appended) (live : Bool) (gate : ℕ) (told : Option Story) (faults : ℕ) (now : View) (step : Step)
      → IsTrue parts.live → AppendedTo parts (frame_of (pending_record p)) done live gate told faults
      → now ≡ record pass { seen = turn ++ step ∷ [] } → Both (Crashes site pass now) parts.told told
  crash_append done live gate told faults now step on a w =
      crash_written (layout_of pass) opened site parts pass now turn txn p done live gate told faults (keeps_here table opened site pass parts s) on
      (ap layout_of w) u.begins
      (subst (λ (steps : List Step). IsPrefix turn steps) (sym (ap (λ (v : View). v.seen) w)) (prefix_more turn turn (step ∷ []) (prefix_refl turn)))
      may.up writes a

-- ---- a load

-- what others do leaves the site's frames, and that of its step in doubt
pub frames_lasting : (layout : Layout) (site : ℕ) (old new : List Step) → Legal layout new → AddsOthers (Site site) old new
    → frames_of site (reverse new) ≡ frames_of site (reverse old)
frames_lasting layout site old new l a =
    unchanged layout (Site site) (frames_of site) (λ past x k b. ap (λ (rs : List Record). map frame_of rs) (records_other layout site past k.0 x k.1 b))
    old new a.0 a.1 l

pub doubted_lasting : (layout : Layout) (site : ℕ) (old new : List Step) → Legal layout new → AddsOthers (Site site) old new
    → doubted site (reverse new) ≡ doubted site (reverse old)
doubted_lasting layout site old new l a =
    unchanged layout (Site site) (doubted site) (λ past x k b. same_doubted site past x (log_other layout [] site past x k b)) old new a.0 a.1 l

some_same : {X : Type 0} (x y : X) → Some x ≡ Some y → x ≡ y
some_same x y e = cc (e)

-- a load that gives a cause failed for the disk or for a byte
by_fault : (site : ℕ) (P : Cause → Type 0) (e : AgainstFault) (cause : Cause) → cause_of site e ≡ Some cause → (e ≡ fault.Log → P (Log site))
    → ((place : ℕ) (read written : Option ℕ) → e ≡ fault.Differs place read written → P (Damage site place read written)) → P cause
by_fault site P fault.Log cause c log damage = subst P (some_same (Log site) cause c) (log refl)
by_fault site P (fault.Differs place read written) cause c log damage =
    subst P (some_same (Damage site place read written) cause c) (damage place read written refl)
by_fault site P fault.Memory cause c log damage = absurd (cc (c))

-- what is said of whether something is in doubt is said of its frame
none_mapped : {X : Type 0} (f : X → List ℕ) (o : Option X) → IsNone o → IsNone (option_map f o)
none_mapped f None n = refl
none_mapped f (Some x) n = absurd (cc (n))

none_unmapped : {X : Type 0} (f : X → List ℕ) (o : Option X) → IsNone (option_map f o) → IsNone o
none_unmapped f None n = refl
none_unmapped f (Some x) n = absurd (cc (n))

pub clean_mapped : {X : Type 0} (f : X → List ℕ) (o : Option X) (result : Result Found AgainstFault) → IfOk result (λ found. found ≡ Clean → IsNone o)
    → IfOk result (λ found. found ≡ Clean → IsNone (option_map f o))
clean_mapped f o (Ok found) h = λ e. none_mapped f o (h e)
clean_mapped f o (Err e) h = tt

pub no_doubt_mapped : {X : Type 0} (f : X → List ℕ) (o : Option X) (result : Result Found AgainstFault) → IfOk result (λ found. IsNone o → found ≡ Clean)
    → IfOk result (λ found. IsNone (option_map f o) → found ≡ Clean)
no_doubt_mapped f o (Ok found) h = λ n. h (none_unmapped f o n)
no_doubt_mapped f o (Err e) h = tt

-- the same load, at what is the same
pub load_at : (parts : Parts) (frames due : List (List ℕ)) (pending expected : Option (List ℕ)) (result : Result Found AgainstFault) (live : Bool)
    (gate : ℕ) (told : Option Story) (faults : ℕ) → frames ≡ due → pending ≡ expected
    → LoadedAgainst parts frames pending result live gate told faults → LoadedAgainst parts due expected result live gate told faults
load_at parts frames due pending expected result live gate told faults e f a =
    subst (λ (o : Option (List ℕ)). LoadedAgainst parts due o result live gate told faults) f
    (subst (λ (fs : List (List ℕ)). LoadedAgainst parts fs pending result live gate told faults) e a)

module _ (table : TableId) (opened : List ℕ) (site : ℕ) (pass : View) (parts : Parts) (s : IsSite table opened site pass parts)
    (result : Result Found AgainstFault) (live : Bool) (gate : ℕ) (told : Option Story) (faults : ℕ)
    (a : LoadedAgainst parts (frames_of site (reverse pass.seen)) (doubted site (reverse pass.seen)) result live gate told faults) where
  pub load_keeps : IsSite table opened site pass (record parts { live = live; gate = gate; told = told; faults = faults })
  load_keeps =
      after_turn table opened site pass pass parts (record parts { live = live; gate = gate; told = told; faults = faults }) pass.seen s refl
      (loaded (layout_of pass) opened site (reverse pass.seen) parts (keeps_here table opened site pass parts s) result live gate told faults a)

  pub load_crash : (now : View) → Both (Crashes site pass now) parts.told told
  load_crash now = crash_loaded (layout_of pass) opened site parts pass now result live gate told faults (keeps_here table opened site pass parts s) a

  -- what an attempt's cause says of the disk
  pub load_caused : (e : AgainstFault) (cause : Cause) → result ≡ Err e → cause_of site e ≡ Some cause → IsCaused site cause parts.told parts.faults faults
  load_caused e cause is c =
      by_fault site (λ x. IsCaused site x parts.told parts.faults faults) e cause c
      (λ f. (refl, of_err (λ x. x ≡ fault.Log → Rose parts.faults faults) result e is a.cause f))
      (λ place read written f. (
        refl,
        differs e is place read written f,
        no_difference (frames_of site (reverse pass.seen)) (doubted site (reverse pass.seen)) result place read written
            (is ∙ ap (λ (x : AgainstFault). Err x) f) parts.told a.says
            (may_hold site (reverse pass.seen) parts.live parts.gate parts.told s.keeps.logged),
      ))
    where
      differs : (e : AgainstFault) → result ≡ Err e → (place : ℕ) (read written : Option ℕ) → e ≡ fault.Differs place read written → read ≢ written
      differs e is = of_err (λ x. (place : ℕ) (read written : Option ℕ) → x ≡ fault.Differs place read written → read ≢ written) result e is a.apart

  -- it is one of the site's own
  load_cause : (e : AgainstFault) (cause : Cause) → result ≡ Err e → cause_of site e ≡ Some cause → IsDamage (layout_of pass) site cause
  load_cause e cause is c =
      by_fault site (λ x. IsDamage (layout_of pass) site x) e cause c (λ f. record { fits = there; of_site = eq-eqb site site refl })
      (λ place read written f. is_damage (layout_of pass) site place read written there
      (of_err (λ x. (place : ℕ) (read written : Option ℕ) → x ≡ fault.Differs place read written → read ≢ written) result e is a.apart place read written f))
    where
      there : IsTrue (is_site (layout_of pass) site)
      there = (keeps_here table opened site pass parts s).there

  module _ (txn : TxnId) (own : View) (turn : List Step) (own_fixed fixed : Option Terms) (o : IsPassOf table txn.session own) (m : own.seen ≡ pass.seen)
      (t : Turned own turn own_fixed) (u : Turned pass turn fixed) (may : MayFail (layout_of pass) site txn pass.seen)
      (e : AgainstFault) (cause : Cause) (is : result ≡ Err e) (c : cause_of site e ≡ Some cause) where
    legal : Legal (layout_of pass) turn
    legal = turn_legal table opened site pass parts turn fixed s u

    adds : AddsOthers (Site site) pass.seen turn
    adds = turn_adds table opened site pass parts turn fixed s u

    fails : Allowed (layout_of pass) (reverse turn) (Fail site txn cause)
    fails =
        may cause (load_cause e cause is c).fits (load_cause e cause is c).of_site turn legal adds
        (session_adds table txn.session own pass turn own_fixed o m t)

    pub load_follows : IsSomeAnd fixed (λ f. may_follow f turn (Fail site txn cause))
    load_follows = may_push table opened site pass parts turn fixed (Fail site txn cause) s u fails

    -- the load, against what the site has in the turn
    against_turn : LoadedAgainst parts (frames_of site (reverse turn)) (doubted site (reverse turn)) result live gate told faults
    against_turn =
        load_at parts (frames_of site (reverse pass.seen)) (frames_of site (reverse turn)) (doubted site (reverse pass.seen)) (doubted site (reverse turn))
        result live gate told faults (sym (frames_lasting (layout_of pass) site pass.seen turn legal adds))
        (sym (doubted_lasting (layout_of pass) site pass.seen turn legal adds)) a

    pub load_fails : (locks : Locks) (now : View) → locks ≡ let_go txn parts.locks → now ≡ record pass { seen = turn ++ Fail site txn cause ∷ [] }
        → IsSite table opened site now (record parts { locks = locks; live = live; gate = gate; told = told; faults = faults })
    load_fails locks now l w =
        after_step table opened site pass now parts (record parts { locks = locks; live = live; gate = gate; told = told; faults = faults })
        turn (Fail site txn cause) s w
        (by_fault site (λ x. Allowed (layout_of pass) (reverse turn) (Fail site txn x) → Keeps (layout_of pass) opened site (Fail site txn x ∷ reverse turn)
        (record parts { locks = locks; live = live; gate = gate; told = told; faults = faults })) e cause c
        (λ f ok. failed_for_log (layout_of pass) opened site (reverse turn) parts there result live gate told faults against_turn txn locks
        (is ∙ ap (λ (x : AgainstFault). Err x) f) ok (ap (λ (ls : Locks). ls.holders) l) (ap (λ (ls : Locks). ls.waiters) l))
        (λ place read written f ok. failed_for_damage (layout_of pass) opened site (reverse turn) parts there result live gate told faults against_turn
        txn locks place read written (is ∙ ap (λ (x : AgainstFault). Err x) f) ok (ap (λ (ls : Locks). ls.holders) l) (ap (λ (ls : Locks). ls.waiters) l))
        fails)
      where
        there : Keeps (layout_of pass) opened site (reverse turn) parts
        there = in_turn table opened site pass parts turn fixed s u
