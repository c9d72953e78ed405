-- The values at the vector at which a session's last attempt began stay as they are, whatever comes.
use Rattle.std.proofs.Common.{ℕ, zero, suc, ℤ, ◌≡◌, Bool, true, false, ◌==◌, if◌then◌else◌, List, [], ◌∷◌, ◌++◌, Option, Some, None, refl, sym, ap, ap₂, ◌∙◌}
use Rattle.std.proofs.Common.{subst, arith, unwrap_or}
use Rattle.std.proofs.lemmas.Bool.{eqb-true}
use Rattle.std.proofs.lemmas.List.Elements.{filter_map-append}
use Rattle.std.specs.Option.{option_or}
use Rattle.std.specs.Prelude.{filter_map, option_map}
use Rattle.dm_event.specs.Layout.{Layout}
use Rattle.dm_event.specs.Txns.{same_txn}
use Rattle.dm_event.specs.Vectors.{at}
use Rattle.dm_event.specs.declared.attempt.AttemptState.{AttemptState}
use Rattle.dm_event.specs.declared.attempt.AttemptState.TheVariants as stands
use Rattle.dm_event.specs.declared.step.Entry.{Entry}
use Rattle.dm_event.specs.declared.step.Op.{Op}
use Rattle.dm_event.specs.declared.step.Step.{Step}
use Rattle.dm_event.specs.declared.step.Step.TheVariants.{Route, Begin}
use Rattle.dm_event.specs.declared.step.TxnId.{TxnId}
use Rattle.dm_model.proofs.Numbering.{Numbered}
use Rattle.dm_model.proofs.NumbersSound.{sound_past}
use Rattle.dm_model.proofs.RunningStates.{tells_runs}
use Rattle.dm_model.proofs.SameValues.{txn_own}
use Rattle.dm_model.proofs.SessionsRise.{last_begins}
use Rattle.dm_model.proofs.Snapshots.{WithinCounts, value_in, value_more, within_more}
use Rattle.dm_model.proofs.StepTests.{taken}
use Rattle.dm_model.specs.Acts.{acts, acts_of, entry_of, entries}
use Rattle.dm_model.specs.Attempts.{Routing, last_routing, is_reply, attempt}
use Rattle.dm_model.specs.Bodies.{Ran, body, ran_at}
use Rattle.dm_model.specs.Legal.{LegalPast}
use Rattle.dm_model.specs.Runs.{begin_vector, last_begin}
use Rattle.dm_model.specs.Words.{since}
use Rattle.dm_schedule.specs.Drivers.{began}
use Rattle.dm_schedule.specs.Drive.{running_at}
use Rattle.dm_schedule.specs.declared.driver.Run.{Run}

-- ---- entries that come are inside no vector that is within the counts

values_more : (layout : Layout) (news es : List Entry) (v : List ℕ) → Numbered (news ++ es) → WithinCounts es v
    → (value_in layout (news ++ es) v ≡ value_in layout es v) × WithinCounts (news ++ es) v
values_more layout [] es v n w = (refl, w)
values_more layout (d ∷ news) es v n w =
    let h = values_more layout news es v n.1 w in
    (value_more layout d (news ++ es) v n h.1 ∙ h.0, within_more d (news ++ es) v h.1)

module _ (layout : Layout) (past : List Step) (s : Step) (h : LegalPast layout (s ∷ past)) (v : List ℕ) (w : WithinCounts (entries past) v) where
  abbrev news : List Entry
  news = filter_map entry_of (acts_of s past)

  grown : entries (s ∷ past) ≡ news ++ entries past
  grown = filter_map-append entry_of (acts_of s past) (acts past)

  numbered : Numbered (news ++ entries past)
  numbered = subst (λ (es : List Entry). Numbered es) grown (sound_past layout (s ∷ past) h).numbered

  same_values : value_in layout (entries (s ∷ past)) v ≡ value_in layout (entries past) v
  same_values = ap (λ (es : List Entry). value_in layout es v) grown ∙ (values_more layout news (entries past) v numbered w).0

  still_within : WithinCounts (entries (s ∷ past)) v
  still_within = subst (λ (es : List Entry). WithinCounts es v) (sym grown) (values_more layout news (entries past) v numbered w).1

-- ---- so is a vector at which an attempt began

at_nil : (j : ℕ) → at [] j ≡ 0
at_nil zero = refl
at_nil (suc j) = refl

begin_or : (P : List ℕ → Type 0) (b : Bool) (x : List ℕ) (o : Option (List ℕ)) → P x → P (unwrap_or o [])
    → P (unwrap_or (option_or (if b then Some x else None) o) [])
begin_or P true x o f g = f
begin_or P false x o f g = g

began_within : (layout : Layout) (past : List Step) → LegalPast layout past → (c : ℕ) → WithinCounts (entries past) (began c past)
began_within layout [] h c = λ j. (let zero = at_nil j in omega (arith, zero))
began_within layout (Begin site txn begin ∷ past) h c =
    let own = (sound_past layout (Begin site txn begin ∷ past) h).begins txn begin (taken (same_txn txn txn) begin (begin_vector txn past) (txn_own txn)) in
    begin_or (λ v. WithinCounts (entries past) v) (txn.session == c) begin (last_begin c past) own.within (began_within layout past h.0 c)
began_within layout (s ∷ past) h c = still_within layout past s h (began c past) (began_within layout past h.0 c)

-- what ops do there is the same after a step that is no Begin of the session
pub bodies_more : (layout : Layout) (past : List Step) (s : Step) → LegalPast layout (s ∷ past) → (c : ℕ) → last_begin c (s ∷ past) ≡ last_begin c past
    → (ran : Ran) (ops : List Op)
    → ran ≡ ran_at layout past (began c past) ops → ran ≡ ran_at layout (s ∷ past) (began c (s ∷ past)) ops
bodies_more layout past s h c e ran ops f =
    f ∙ ap (λ (g : ℕ → ℤ). body ops g) (sym (same_values layout past s h (began c past) (began_within layout past h.0 c)))
    ∙ ap (λ (o : Option (List ℕ)). ran_at layout (s ∷ past) (unwrap_or o []) ops) (sym e)

-- ---- a session's attempt is its own

own_routing : (c : ℕ) (past : List Step) (r : Routing) → last_routing c past ≡ Some r → (r.txn.session == c) ≡ true
own_routing c [] r e = absurd (cc (e))
own_routing c (Route txn want min site choice ∷ past) r e = by (own_routing c past r) (txn.session == c) refl e
  where
    route : Routing
    route = record { txn = txn; want = want; min = min; site = site; choice = choice }

    by : (last_routing c past ≡ Some r → (r.txn.session == c) ≡ true) → (b : Bool) → (txn.session == c) ≡ b
        → option_or (if b then Some route else None) (last_routing c past) ≡ Some r → (r.txn.session == c) ≡ true
    by go true q f = let same : route ≡ r = cc (f) in ap (λ (x : Routing). x.txn.session == c) (sym same) ∙ q
    by go false q f = go f
own_routing c (s ∷ past) r e = own_routing c past r e

pub attempt_session : (c : ℕ) (past : List Step) (txn : TxnId) → (attempt c past).txn ≡ Some txn → txn.session ≡ c
attempt_session c past txn e = by (last_routing c (since (is_reply c) past)) refl e
  where
    by : (o : Option Routing) → last_routing c (since (is_reply c) past) ≡ o → option_map (λ (r : Routing). r.txn) o ≡ Some txn → txn.session ≡ c
    by None f g = absurd (cc (g))
    by (Some r) f g = let same : r.txn ≡ txn = cc (g) in ap (λ (x : TxnId). x.session) (sym same)
        ∙ eqb-true r.txn.session c (own_routing c (since (is_reply c) past) r f)

-- an attempt that runs began at the vector at which its session's last one did
pub run_began : (layout : Layout) (past : List Step) → LegalPast layout past → (c : ℕ) (run : Run)
    → running_at (λ txn. begin_vector txn past) (attempt c past).txn (attempt c past).state ≡ Some run → run.begin ≡ began c past
run_began layout past h c run e = by (attempt c past).txn (attempt c past).state refl refl e
  where
    begun : (txn : TxnId) (site : ℕ) → begin_vector txn past ≡ last_begin c past → (o : Option (List ℕ)) → begin_vector txn past ≡ o
        → option_map (λ begin. record { txn = txn; site = site; begin = begin }) o ≡ Some run → run.begin ≡ began c past
    begun txn site last None g f = absurd (cc (f))
    begun txn site last (Some v) g f =
        let same : record { txn = txn; site = site; begin = v } ≡ run = cc (f) in
        ap (λ (x : Run). x.begin) (sym same) ∙ ap (λ (o : Option (List ℕ)). unwrap_or o []) (sym g ∙ last)

    by : (txn : Option TxnId) (st : AttemptState) → (attempt c past).txn ≡ txn → (attempt c past).state ≡ st
        → running_at (λ txn. begin_vector txn past) txn st ≡ Some run → run.begin ≡ began c past
    by (Some txn) (stands.Running site) p q f =
        let own = attempt_session c past txn p in
        let told : attempt txn.session past ≡ record { txn = Some txn; state = stands.Running site } = ap (λ (k : ℕ). attempt k past) own
        ∙ ap₂ (λ (o : Option TxnId) (x : AttemptState). record { txn = o; state = x }) p q in
        let last = last_begins layout past h site txn (tells_runs layout past h site txn told) ∙ ap (λ (k : ℕ). last_begin k past) own in
        begun txn site last (begin_vector txn past) refl f
    by other st p q f = absurd (cc (f))
