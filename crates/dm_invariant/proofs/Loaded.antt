-- What a site keeps through a load of its log, and what comes of it.
use Rattle.std.proofs.Common.{ℕ, suc, ◌≡◌, ◌⊎◌, ◌+◌, ◌-◌, ◌^◌, ◌≤◌, Bool, false, cond, List, [], ◌∷◌, ◌++◌, Option, Some, None}
use Rattle.std.proofs.Common.{map, refl, sym, ap, ◌∙◌, subst, arith, inl, inr}
use Rattle.std.proofs.lemmas.Bool.{cases_Bool, cases_lt, eq-eqb, false≢true}
use Rattle.std.proofs.lemmas.List.{append-nil, map-append, reverse-reverse}
use Rattle.std.specs.List.{AllByRecursion as Each}
use Rattle.std.specs.Option.{option_or}
use Rattle.std.specs.Prelude.{Result, Ok, Err, IsTrue, IsFalse, IsNone, IfSome, IfOk, IfErr, option_map, option_to_list, reverse, unwrap_or, min}
use Rattle.dm_disk.specs.Faults.{Rose}
use Rattle.dm_event.specs.Layout.{Layout}
use Rattle.dm_event.specs.Vectors.{at}
use Rattle.dm_event.specs.declared.step.Cause.TheVariants.{Log, Damage}
use Rattle.dm_event.specs.declared.step.Found.{Found}
use Rattle.dm_event.specs.declared.step.Found.TheVariants.{Clean, Kept, Lost}
use Rattle.dm_event.specs.declared.step.Pending.{Pending}
use Rattle.dm_event.specs.declared.step.Step.{Step}
use Rattle.dm_event.specs.declared.step.Step.TheVariants.{Fail, Restart}
use Rattle.dm_event.specs.declared.step.TxnId.{TxnId}
use Rattle.dm_event.specs.declared.step.Choice.{Choice}
use Rattle.dm_event.specs.declared.step.Want.TheVariants as want
use Rattle.dm_frames.specs.Records.{frames_of, pending_record, records_of}
use Rattle.dm_locks.specs.Claims.{without}
use Rattle.dm_locks.specs.declared.claim.Claim.{Claim}
use Rattle.dm_locks.specs.Locks.{Locks, no_locks}
use Rattle.dm_logdisk.proofs.Images.{leaves_weaker, read_is_image}
use Rattle.dm_logdisk.specs.Story.{Change, Story, Both, EachImage, EachMoment, IsDurable, LeavesOnly, after, bytes_of}
use Rattle.dm_model.proofs.LegalSteps.{legal_restart}
use Rattle.dm_model.proofs.ListFacts.{each_map}
use Rattle.dm_model.specs.Allowed.{Allowed}
use Rattle.dm_model.specs.Attempts.{routed}
use Rattle.dm_model.specs.Doubts.{down_after, is_down, pending_at}
use Rattle.dm_model.specs.Legal.{LegalPast}
use Rattle.dm_model.specs.Words.{latest}
use Rattle.dm_others.proofs.Logs.{faults_fail, records_kept}
use Rattle.dm_others.proofs.Runs.{running_ends, running_restarts}
use Rattle.dm_others.specs.Faults.{faults as faults_so_far}
use Rattle.dm_others.specs.Locking.{claimed, IsSent}
use Rattle.dm_record.specs.Bytes.{frame_of}
use Rattle.dm_redo.proofs.Agreeing.{agreed}
use Rattle.dm_redo.specs.Comparing.{Shows, TellsExpected, compared, stood}
use Rattle.dm_redo.specs.Holding.{framed, Holds, IsAt, IsFirm}
use Rattle.dm_redo.specs.Settling.{Keeps as Tidies, MayHold, Stood}
use Rattle.dm_redo.specs.declared.comparing.AgainstFault.{AgainstFault}
use Rattle.dm_redo.specs.declared.comparing.AgainstFault.TheVariants as fault
use Rattle.dm_restart.specs.Histories.{logged}
use Rattle.dm_restart.specs.Plans.{completed}
use Rattle.dm_invariant.specs.Causes.{Caused, HasCause, HaveCauses}
use Rattle.dm_invariant.specs.Loading.{LoadedAgainst}
use Rattle.dm_invariant.specs.Keeping.{Parts, Keeps}
use Rattle.dm_invariant.specs.Logs.{Crashes, HoldsWith, Logged, MayCome, doubted}
use Rattle.dm_invariant.specs.Stations.{View}
use Rattle.dm_store.specs.Contents.{Contents}
use Rattle.dm_store.specs.Histories.{committed_inside}
use Rattle.dm_store.specs.declared.past.Past.{Past}
use Rattle.dm_stores.proofs.Restarting.{stores_restart}
use Rattle.dm_stores.proofs.Steps.{stores_still}
use Rattle.dm_stores.specs.Stores.{Stores}

-- ---- what the disk may hold

if_some : {X : Type 0} (P Q : X → Type 0) → ((x : X) → P x → Q x) → (o : Option X) → IfSome o P → IfSome o Q
if_some P Q to None h = tt
if_some P Q to (Some x) h = to x h

-- what a crash leaves in the end
images_after : (P : List ℕ → Type 0) (old new : Story) → LeavesOnly P old new → EachImage P new
images_after P old new l = subst (λ (s : Story). EachImage P s) (sym l.1) (last l.0 l.2)
  where
    last : (changes : List Change) → EachMoment P changes old → EachImage P (after changes old)
    last [] m = m
    last (change ∷ changes) m = m.1

-- the frames and perhaps the one in doubt, in either way of saying it
as_may : (frames : List (List ℕ)) (pending : Option (List ℕ)) (bytes : List ℕ) → HoldsWith frames (λ next. pending ≡ Some next) bytes
    → MayHold frames pending bytes
as_may frames None bytes (inl h) = h
as_may frames None bytes (inr (next, e, h)) = absurd (cc e)
as_may frames (Some frame) bytes (inl h) = inl h
as_may frames (Some frame) bytes (inr (next, e, h)) = let same : next ≡ frame = cc e in inr (subst (λ (f : List ℕ). Holds (frames ++ f ∷ []) bytes) same h)

as_with : (frames : List (List ℕ)) (pending : Option (List ℕ)) (Next : List ℕ → Type 0) → ((next : List ℕ) → pending ≡ Some next → Next next)
    → (bytes : List ℕ) → MayHold frames pending bytes → HoldsWith frames Next bytes
as_with frames None Next to bytes h = inl h
as_with frames (Some frame) Next to bytes (inl h) = inl h
as_with frames (Some frame) Next to bytes (inr h) = inr (frame, to frame refl, h)

-- a load keeps that each image holds them
images_kept : (frames : List (List ℕ)) (pending : Option (List ℕ)) (before told : Option Story) → Both (Tidies frames pending) before told
    → IfSome before (EachImage (MayHold frames pending)) → IfSome told (EachImage (MayHold frames pending))
images_kept frames pending None None b h = tt
images_kept frames pending None (Some new) b h = absurd b
images_kept frames pending (Some old) None b h = absurd b
images_kept frames pending (Some old) (Some new) b h = images_after (MayHold frames pending) old new (b h)

crash_kept : (frames : List (List ℕ)) (pending : Option (List ℕ)) (Q : List ℕ → Type 0) → ((c : List ℕ) → MayHold frames pending c → Q c)
    → (before told : Option Story) → Both (Tidies frames pending) before told → IfSome before (EachImage (MayHold frames pending))
    → Both (LeavesOnly Q) before told
crash_kept frames pending Q to None None b h = tt
crash_kept frames pending Q to None (Some new) b h = absurd b
crash_kept frames pending Q to (Some old) None b h = absurd b
crash_kept frames pending Q to (Some old) (Some new) b h = leaves_weaker (MayHold frames pending) Q to old new (b h)

-- a disk that told nothing before a load tells nothing after it
tells_still : (R : Story → Story → Type 0) (before told : Option Story) → Both R before told → IsNone before → IsNone told
tells_still R None None b n = n
tells_still R None (Some new) b n = absurd b
tells_still R (Some old) None b n = absurd b
tells_still R (Some old) (Some new) b n = n

-- ---- where the disk stands after it

pub stands_at : (frames : List (List ℕ)) (pending : Option (List ℕ)) (found : Found) (gate : ℕ) (before told : Option Story)
    → Both (Stood frames pending found gate) before told → IfSome told (λ s. IsAt (stood found frames pending) gate s × IsDurable s)
stands_at frames pending found gate None None b = tt
stands_at frames pending found gate None (Some new) b = absurd b
stands_at frames pending found gate (Some old) None b = absurd b
stands_at frames pending found gate (Some old) (Some new) b = b

-- nothing is in doubt, so nothing more is found
stood_none : (found : Found) (frames : List (List ℕ)) → stood found frames None ≡ frames
stood_none Clean frames = refl
stood_none Kept frames = refl
stood_none Lost frames = refl

is_firm : (frames : List (List ℕ)) (gate : ℕ) (s : Story) → IsAt frames gate s × IsDurable s → IsAt frames gate s × IsFirm frames s
is_firm frames gate s h = (h.0, λ c i. ([], h.1 c i ∙ h.0.reads))

is_held : (frames : List (List ℕ)) (gate : ℕ) (s : Story) → IsAt frames gate s × IsDurable s → EachImage (Holds frames) s
is_held frames gate s h = λ c i. (0 ∷ [], h.1 c i ∙ h.0.reads, tt)

-- a load after which the log is live was answered, and the disk stands at what was found
live_stands : (frames : List (List ℕ)) (pending : Option (List ℕ)) (result : Result Found AgainstFault) (live : Bool) (gate : ℕ) (before told : Option Story)
    → IfErr result (λ _. IsTrue live → ⊥) → IfOk result (λ found. Both (Stood frames pending found gate) before told) → pending ≡ None → IsTrue live
    → IfSome told (λ s. IsAt frames gate s × IsDurable s)
live_stands frames pending (Err e) live gate before told dead stands none on = absurd (dead on)
live_stands frames pending (Ok found) live gate before told dead stands none on =
    subst (λ (fs : List (List ℕ)). IfSome told (λ s. IsAt fs gate s × IsDurable s))
    (ap (λ (o : Option (List ℕ)). stood found frames o) none ∙ stood_none found frames) (stands_at frames pending found gate before told stands)

-- ---- what the site kept

module _ (site : ℕ) (past : List Step) where
  -- nothing is in doubt of a site that is up
  none_doubted : IsFalse (is_down site past) → doubted site past ≡ None
  none_doubted up = ap (λ (b : Bool). cond b (option_map (λ p. frame_of (pending_record p)) (pending_at site past)) None) up

  one_doubted : IsTrue (is_down site past) → doubted site past ≡ option_map (λ p. frame_of (pending_record p)) (pending_at site past)
  one_doubted down = ap (λ (b : Bool). cond b (option_map (λ p. frame_of (pending_record p)) (pending_at site past)) None) down

  -- each image holds the frames, with the one in doubt or without it
  pub may_hold : (live : Bool) (gate : ℕ) (told : Option Story) → Logged site past live gate told
      → IfSome told (EachImage (MayHold (frames_of site past) (doubted site past)))
  may_hold live gate told l = elim (cases_Bool (is_down site past)) [
    | inl down ↦ if_some (EachImage (HoldsWith (frames_of site past) (λ next. doubted site past ≡ Some next)))
        (EachImage (MayHold (frames_of site past) (doubted site past)))
        (λ s h c i. as_may (frames_of site past) (doubted site past) c (h c i)) told (l.doubtful down)
    | inr up ↦ subst (λ (o : Option (List ℕ)). IfSome told (EachImage (MayHold (frames_of site past) o))) (sym (none_doubted up)) (l.held up)
  ]

  -- the log that such a load leaves
  logged_after : (live : Bool) (gate : ℕ) (told : Option Story) → (IsFalse (is_down site past) → IsTrue live
      → IfSome told (λ s. IsAt (frames_of site past) gate s × IsDurable s))
      → IfSome told (EachImage (MayHold (frames_of site past) (doubted site past))) → Logged site past live gate told
  logged_after live gate told stands held = record {
    settled = λ up on. if_some (λ s. IsAt (frames_of site past) gate s × IsDurable s) (λ s. IsAt (frames_of site past) gate s × IsFirm (frames_of site past) s)
        (is_firm (frames_of site past) gate) told (stands up on);
    held = λ up. subst (λ (o : Option (List ℕ)). IfSome told (EachImage (MayHold (frames_of site past) o))) (none_doubted up) held;
    doubtful = λ down. if_some (EachImage (MayHold (frames_of site past) (doubted site past)))
        (EachImage (HoldsWith (frames_of site past) (λ next. doubted site past ≡ Some next)))
        (λ s h c i. as_with (frames_of site past) (doubted site past) (λ next. doubted site past ≡ Some next) (λ next e. e) c (h c i)) told held;
  }

-- ---- causes

-- a cause stays one on a disk that tells no more than the other
causes_still : (site : ℕ) (before told : Option Story) → (IsNone before → IsNone told) → (past : List Step) → HaveCauses site before past
    → HaveCauses site told past
causes_still site before told to [] h = tt
causes_still site before told to (step ∷ past) h = (one step h.0, causes_still site before told to past h.1)
  where
    one : (x : Step) → HasCause site before x past → HasCause site told x past
    one (Fail here txn (Damage place_at place read written)) c = λ e. ((c e).0, to (c e).1)
    one (Restart here vector Clean) c = c
    one other c = tt

-- the count is no less, with `top` its last value
few_still : (top opened count before now : ℕ) → (opened + count ≤ before) ⊎ (top ≤ before) → before ≤ now → (opened + count ≤ now) ⊎ (top ≤ now)
few_still top opened count before now (inl h) le = inl (omega (arith, h, le))
few_still top opened count before now (inr h) le = inr (omega (arith, h, le))

few_more : (top opened count before now : ℕ) → (opened + count ≤ before) ⊎ (top ≤ before) → before ≤ now → min (before + 1) top ≤ now
    → (opened + suc count ≤ now) ⊎ (top ≤ now)
few_more top opened count before now (inr h) le rose = inr (omega (arith, h, le))
few_more top opened count before now (inl h) le rose = elim (cases_lt now top) [
  | inl below ↦ inl (omega (arith, h, rose, below))
  | inr last ↦ inr last
]

caused_after : (opened site : ℕ) (past : List Step) (before told : Option Story) (was now : ℕ) → Caused opened site past before was → was ≤ now
    → (IsNone before → IsNone told) → Caused opened site past told now
caused_after opened site past before told was now c le to = record {
  few = few_still (2 ^ 64 - 1) opened (faults_so_far site past) was now c.few le;
  each = causes_still site before told to past c.each;
}

-- ---- answers

-- what an answer says where it is known
pub of_err : {X E : Type 0} (P : E → Type 0) (result : Result X E) (e : E) → result ≡ Err e → IfErr result P → P e
of_err {X} {E} P result e is h = let i : IfErr {T = X} (Err e) P = subst (λ (r : Result X E). IfErr r P) is h in i

of_ok : {X E : Type 0} (P : X → Type 0) (result : Result X E) (x : X) → result ≡ Ok x → IfOk result P → P x
of_ok {X} {E} P result x is h = let i : IfOk {E = E} (Ok x) P = subst (λ (r : Result X E). IfOk r P) is h in i

-- where the disk told, each image agrees with what was written, and so nothing differs
pub no_difference : (frames : List (List ℕ)) (pending : Option (List ℕ)) (result : Result Found AgainstFault) (place : ℕ) (read written : Option ℕ)
    → result ≡ Err (fault.Differs place read written) → (before : Option Story) → Shows frames pending result before
    → IfSome before (EachImage (MayHold frames pending)) → IsNone before
no_difference frames pending result place read written e None shows held = refl
no_difference frames pending result place read written e (Some s) shows held =
    let differs : compared (framed frames) pending (bytes_of s) ≡ Err (fault.Differs place read written) =
    subst (λ (r : Result Found AgainstFault). Shows frames pending r (Some s)) e shows in
    let agrees = agreed frames pending (bytes_of s) (held (bytes_of s) (read_is_image s)) in
    let both : Ok agrees.0 ≡ Err (fault.Differs place read written) = sym agrees.1 ∙ differs in
    absurd (cc both)

module _ (layout : Layout) (opened : List ℕ) (site : ℕ) (past : List Step) (parts : Parts) (k : Keeps layout opened site past parts)
    (result : Result Found AgainstFault) (live : Bool) (gate : ℕ) (told : Option Story) (faults : ℕ)
    (a : LoadedAgainst parts (frames_of site past) (doubted site past) result live gate told faults) where
  -- the parts after it
  abbrev pub loaded_parts : Parts
  loaded_parts = record parts { live = live; gate = gate; told = told; faults = faults }

  -- each image still holds the frames, with the one in doubt or without it
  holds_still : IfSome told (EachImage (MayHold (frames_of site past) (doubted site past)))
  holds_still =
      images_kept (frames_of site past) (doubted site past) parts.told told a.keeps (may_hold site past parts.live parts.gate parts.told k.logged)

  logged_now : Logged site past live gate told
  logged_now =
      logged_after site past live gate told
      (λ up on. live_stands (frames_of site past) (doubted site past) result live gate parts.told told a.dead a.stands (none_doubted site past up) on)
      holds_still

  tells : IsNone parts.told → IsNone told
  tells = tells_still (Tidies (frames_of site past) (doubted site past)) parts.told told a.keeps

  caused_now : Caused (at opened site) site past told faults
  caused_now = caused_after (at opened site) site past parts.told told parts.faults faults k.caused a.count tells

  -- whatever the answer, with no step
  pub loaded : Keeps layout opened site past loaded_parts
  loaded = record {
    there = k.there;
    legal = k.legal;
    layout_is = k.layout_is;
    stores = k.stores;
    holders = k.holders;
    waiters = k.waiters;
    logged = logged_now;
    caused = caused_now;
  }

  sent_still : (step : Step) (locks : Locks) → locks.waiters ≡ parts.locks.waiters → Each (IsSent site (step ∷ past)) locks.waiters
  sent_still step locks w =
      each_map (IsSent site past) (IsSent site (step ∷ past)) (λ claim s. (s.0, s.1, inr s.2)) locks.waiters
      (subst (λ (cs : List Claim). Each (IsSent site past) cs) (sym w) k.waiters)

  -- the disk failed, and an attempt fails for it, of which the locks are `locks`
  pub failed_for_log : (txn : TxnId) (locks : Locks) → result ≡ Err fault.Log → Allowed layout past (Fail site txn (Log site))
      → locks.holders ≡ without txn parts.locks.holders → locks.waiters ≡ parts.locks.waiters
      → Keeps layout opened site (Fail site txn (Log site) ∷ past) (record loaded_parts { locks = locks })
  failed_for_log txn locks e f h w =
      let rose = of_err (λ x. x ≡ fault.Log → Rose parts.faults faults) result fault.Log e a.cause refl in
      record {
        there = k.there;
        legal = (k.legal, f);
        layout_is = k.layout_is;
        stores = stores_still layout past (Fail site txn (Log site)) site parts.store.installed refl k.stores;
        holders = h ∙ ap (without txn) k.holders ∙ sym (running_ends layout site past (Fail site txn (Log site)) txn (k.legal, f) (λ ts. refl) (λ u. refl));
        waiters = sent_still (Fail site txn (Log site)) locks w;
        logged = record { settled = logged_now.settled; held = logged_now.held; doubtful = logged_now.doubtful };
        caused = record {
          few = subst (λ (n : ℕ). (at opened site + n ≤ faults) ⊎ (2 ^ 64 - 1 ≤ faults)) (sym (faults_fail site past txn site))
              (few_more (2 ^ 64 - 1) (at opened site) (faults_so_far site past) parts.faults faults k.caused.few a.count rose);
          each = (tt, caused_now.each);
        };
      }

  -- the bytes differ
  pub failed_for_damage : (txn : TxnId) (locks : Locks) (place : ℕ) (read written : Option ℕ) → result ≡ Err (fault.Differs place read written)
      → Allowed layout past (Fail site txn (Damage site place read written))
      → locks.holders ≡ without txn parts.locks.holders → locks.waiters ≡ parts.locks.waiters
      → Keeps layout opened site (Fail site txn (Damage site place read written) ∷ past) (record loaded_parts { locks = locks })
  failed_for_damage txn locks place read written e f h w =
      let step = Fail site txn (Damage site place read written) in
      let expected = of_err (TellsExpected (frames_of site past) (doubted site past)) result (fault.Differs place read written) e a.expected
      place read written refl in
      let silent = no_difference (frames_of site past) (doubted site past) result place read written e parts.told a.says
      (may_hold site past parts.live parts.gate parts.told k.logged) in
      record {
        there = k.there;
        legal = (k.legal, f);
        layout_is = k.layout_is;
        stores = stores_still layout past step site parts.store.installed refl k.stores;
        holders = h ∙ ap (without txn) k.holders ∙ sym (running_ends layout site past step txn (k.legal, f) (λ ts. refl) (λ u. refl));
        waiters = sent_still step locks w;
        logged = record { settled = logged_now.settled; held = logged_now.held; doubtful = logged_now.doubtful };
        caused = record {
          few = caused_now.few;
          each = (λ same. (expected, tells silent), caused_now.each);
        };
      }

  -- what stands in a log that agrees
  pub stands_loaded : (found : Found) → result ≡ Ok found
      → IfSome told (λ s. IsAt (stood found (frames_of site past) (doubted site past)) gate s × IsDurable s)
  stands_loaded found e =
      stands_at (frames_of site past) (doubted site past) found gate parts.told told
      (of_ok (λ x. Both (Stood (frames_of site past) (doubted site past) x gate) parts.told told) result found e a.stands)

-- ---- a start

module _ (layout : Layout) (opened : List ℕ) (site : ℕ) (past : List Step) (parts : Parts) (k : Keeps layout opened site past parts) where
  -- what a Restart finds is what the site's records are after it
  pub frames_found : (found : Found) (vector : List ℕ) → Allowed layout past (Restart site vector found)
      → stood found (frames_of site past) (doubted site past) ≡ frames_of site (Restart site vector found ∷ past)
  frames_found Clean vector f = refl
  frames_found Lost vector f = refl
  frames_found Kept vector f =
      ap (λ (o : Option (List ℕ)). stood Kept (frames_of site past) o) (one_doubted site past (legal_restart layout past site vector Kept f).fits)
      ∙ one_more (pending_at site past)
      ∙ ap (map frame_of) (sym (records_kept layout site past k.legal vector f))
    where
      one_more : (o : Option Pending) → stood Kept (frames_of site past) (option_map (λ p. frame_of (pending_record p)) o)
          ≡ map frame_of (records_of site past ++ option_to_list (option_map pending_record o))
      one_more None = ap (map frame_of) (sym (append-nil (records_of site past)))
      one_more (Some p) = sym (map-append frame_of (records_of site past) (pending_record p ∷ []))

  -- the plan's store has what is inside the vector
  filled : (found : Found) (vector : List ℕ) → Allowed layout past (Restart site vector found)
      → Stores layout (Restart site vector found ∷ past) site (completed site (logged site found past) (committed_inside (reverse past) vector))
  filled found vector f =
      subst (λ (before : List Step). LegalPast layout (Restart site vector found ∷ before)
      → Stores layout (Restart site vector found ∷ before) site (completed site (logged site found before) (committed_inside (reverse past) vector)))
      (reverse-reverse past) (stores_restart layout (reverse past) site vector found) (k.legal, f)

  -- the site starts again, with a store that has what a plan installs
  pub restarted : (found : Found) (vector : List ℕ) (store : Contents)
      → IfSome parts.told (λ s. IsAt (stood found (frames_of site past) (doubted site past)) parts.gate s × IsDurable s)
      → Allowed layout past (Restart site vector found)
      → (found ≡ Clean → (txn : TxnId) × (min : List ℕ) × (choice : Choice)
      × (routed txn past ≡ Some (record { txn = txn; want = want.Restart; min = min; site = site; choice = choice })))
      → store.layout ≡ layout → store.installed ≡ completed site (logged site found past) (committed_inside (reverse past) vector)
      → Keeps layout opened site (Restart site vector found ∷ past) (record parts { store = store; locks = no_locks })
  restarted found vector store at_end f c l i =
      let step = Restart site vector found in
      let stands : IfSome parts.told (λ s. IsAt (frames_of site (step ∷ past)) parts.gate s × IsDurable s) =
      subst (λ (fs : List (List ℕ)). IfSome parts.told (λ s. IsAt fs parts.gate s × IsDurable s)) (frames_found found vector f) at_end in
      let up : is_down site (step ∷ past) ≡ false =
      ap (λ (b : Bool). unwrap_or (option_or (cond b (Some false) None) (latest (down_after site) past)) false) (eq-eqb site site refl) in
      record {
        there = k.there;
        legal = (k.legal, f);
        layout_is = l;
        stores = subst (λ (ps : List Past). Stores layout (step ∷ past) site ps) (sym i) (filled found vector f);
        holders = sym (ap (map (claimed past)) (running_restarts site past vector found));
        waiters = tt;
        logged = record {
          settled = λ _ on. if_some (λ s. IsAt (frames_of site (step ∷ past)) parts.gate s × IsDurable s)
              (λ s. IsAt (frames_of site (step ∷ past)) parts.gate s × IsFirm (frames_of site (step ∷ past)) s)
              (is_firm (frames_of site (step ∷ past)) parts.gate) parts.told stands;
          held = λ _. if_some (λ s. IsAt (frames_of site (step ∷ past)) parts.gate s × IsDurable s) (EachImage (Holds (frames_of site (step ∷ past))))
              (is_held (frames_of site (step ∷ past)) parts.gate) parts.told stands;
          doubtful = λ down. absurd (false≢true (sym up ∙ down));
        };
        caused = record {
          few = k.caused.few;
          each = (cause found c, k.caused.each);
        };
      }
    where
      cause : (x : Found) → (x ≡ Clean → (txn : TxnId) × (min : List ℕ) × (choice : Choice)
          × (routed txn past ≡ Some (record { txn = txn; want = want.Restart; min = min; site = site; choice = choice })))
          → HasCause site parts.told (Restart site vector x) past
      cause Clean why = λ _. why refl
      cause Kept why = tt
      cause Lost why = tt

-- a crash inside it leaves what it left before
pub crash_loaded : (layout : Layout) (opened : List ℕ) (site : ℕ) (parts : Parts) (old new : View) (result : Result Found AgainstFault)
    (live : Bool) (gate : ℕ) (told : Option Story) (faults : ℕ) → Keeps layout opened site (reverse old.seen) parts
    → LoadedAgainst parts (frames_of site (reverse old.seen)) (doubted site (reverse old.seen)) result live gate told faults
    → Both (Crashes site old new) parts.told told
crash_loaded layout opened site parts old new result live gate told faults k a =
    let past = reverse old.seen in
    crash_kept (frames_of site past) (doubted site past) (HoldsWith (frames_of site past) (MayCome site old new))
    (λ c h. as_with (frames_of site past) (doubted site past) (MayCome site old new) (λ next e. inr e) c h) parts.told told a.keeps
    (may_hold site past parts.live parts.gate parts.told k.logged)
