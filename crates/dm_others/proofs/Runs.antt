-- Which runs begin and end, and what a site's lock table holds of them.
use Rattle.std.proofs.Common.{ℕ, ◌≡◌, ◌≢◌, Bool, true, false, ◌==◌, not, ◌&&◌, ◌||◌, cond, if◌then◌else◌, List, [], ◌∷◌, ◌++◌, Some, None, refl, sym, ap}
use Rattle.std.proofs.Common.{◌∙◌, subst, inl, inr}
use Rattle.std.proofs.Common.{map, filter, unwrap_or}
use Rattle.std.proofs.lemmas.Bool.{eq-eqb, false≢true, true≢false, cases_Bool, ne_eqb}
use Rattle.std.proofs.lemmas.List.{map-append}
use Rattle.std.proofs.lemmas.List.Elements.{filter_agree}
use Rattle.std.proofs.lemmas.Map.Views.{any-filter_same}
use Rattle.std.specs.List.{AllByRecursion as Each, list_any}
use Rattle.std.specs.Option.{option_or}
use Rattle.std.specs.Prelude.{reverse, filter_map, option_map}
use Rattle.dm_chronicle.specs.Belongs.{belongs}
use Rattle.dm_event.specs.Actors.{actors}
use Rattle.dm_event.specs.Layout.{Layout}
use Rattle.dm_event.specs.Txns.{same_txn}
use Rattle.dm_event.specs.declared.actor.Actor.TheVariants.{Site}
use Rattle.dm_event.specs.declared.step.Found.{Found}
use Rattle.dm_event.specs.declared.step.Pending.{Pending}
use Rattle.dm_event.specs.declared.step.Pending.TheVariants as pending
use Rattle.dm_event.specs.declared.step.Step.{Step}
use Rattle.dm_event.specs.declared.step.Step.TheVariants.{Route, Begin, Commit, End, Fail, Doubt, Restart}
use Rattle.dm_event.specs.declared.step.TxnId.{TxnId}
use Rattle.dm_locks.specs.Claims.{is_of}
use Rattle.dm_locks.specs.Claims as locks
use Rattle.dm_locks.specs.declared.claim.Claim.{Claim}
use Rattle.dm_model.proofs.LegalSteps.{legal_route, legal_commit, legal_end, legal_fail}
use Rattle.dm_model.proofs.RunningIsLast.{seated, one_seat, not_routed}
use Rattle.dm_model.proofs.RunningList.{each_running}
use Rattle.dm_model.proofs.SameValues.{txn_same, txn_own}
use Rattle.dm_model.specs.Allowed.{Allowed}
use Rattle.dm_model.specs.Attempts.{Routing, declared, routing, wanted_keys, state}
use Rattle.dm_model.specs.Legal.{LegalPast}
use Rattle.dm_model.specs.Rows.{may_route}
use Rattle.dm_model.specs.Runs.{runs, running, runs_after, begun_at}
use Rattle.dm_model.specs.Words.{latest}
use Rattle.dm_others.proofs.Others.{other_site}
use Rattle.dm_others.specs.Locking.{claimed, claims}
use Rattle.dm_steps.proofs.Running.{filter_twice, running_next}
use Rattle.dm_steps.specs.Next.{without, next_running}

-- ---- lists of attempts

map_filter : (p : TxnId → Bool) (f g : TxnId → Claim) → ((u : TxnId) → p u ≡ true → f u ≡ g u) → (ts : List TxnId) → map f (filter p ts) ≡ map g (filter p ts)
map_filter p f g h [] = refl
map_filter p f g h (u ∷ us) = by (p u) refl (map_filter p f g h us)
  where
    by : (b : Bool) → p u ≡ b → map f (filter p us) ≡ map g (filter p us)
        → map f (cond b (u ∷ filter p us) (filter p us)) ≡ map g (cond b (u ∷ filter p us) (filter p us))
    by true e q = λ j. h u e j ∷ q j
    by false e q = q

-- the claims but for one attempt's
claims_without : (past : List Step) (t : TxnId) (us : List TxnId) → map (claimed past) (without t us) ≡ locks.without t (map (claimed past) us)
claims_without past t [] = refl
claims_without past t (u ∷ us) = by (not (same_txn u t)) (claims_without past t us)
  where
    by : (b : Bool) → map (claimed past) (without t us) ≡ locks.without t (map (claimed past) us)
        → map (claimed past) (cond b (u ∷ without t us) (without t us))
        ≡ cond b (claimed past u ∷ locks.without t (map (claimed past) us)) (locks.without t (map (claimed past) us))
    by true q = ap (λ (cs : List Claim). claimed past u ∷ cs) q
    by false q = q

any_claim : (past : List Step) (t : TxnId) (us : List TxnId) → list_any (is_of t) (map (claimed past) us) ≡ list_any (λ u. same_txn u t) us
any_claim past t [] = refl
any_claim past t (u ∷ us) = ap (λ (b : Bool). same_txn u t || b) (any_claim past t us)

none_is : (t : TxnId) (us : List TxnId) → list_any (λ u. same_txn u t) us ≡ false → Each (λ u. same_txn u t ≡ false) us
none_is t [] h = tt
none_is t (u ∷ us) h = by (same_txn u t) refl h (none_is t us)
  where
    by : (b : Bool) → same_txn u t ≡ b → (b || list_any (λ v. same_txn v t) us) ≡ false
        → (list_any (λ v. same_txn v t) us ≡ false → Each (λ v. same_txn v t ≡ false) us) → Each (λ v. same_txn v t ≡ false) (u ∷ us)
    by true e g rest = absurd (true≢false g)
    by false e g rest = (e, rest g)

none_left : (ts : List TxnId) → filter (λ u. false) ts ≡ []
none_left [] = refl
none_left (u ∷ us) = none_left us

-- ---- who holds runs

pub holds_runs : (i : ℕ) (past : List Step) (t : TxnId) → list_any (is_of t) (claims i past) ≡ runs i t past
holds_runs i past t = any_claim past t (running i past) ∙ by (runs i t past) refl
  where
    begun : List TxnId
    begun = reverse (filter_map (begun_at i) past)

    same : list_any (λ u. same_txn u t) (running i past) ≡ (runs i t past && list_any (λ u. same_txn u t) begun)
    same = any-filter_same (λ u. same_txn u t) (λ u. runs i u past) (runs i t past) (λ u e. ap (λ (v : TxnId). runs i v past) (txn_same u t e)) begun

    by : (b : Bool) → runs i t past ≡ b → list_any (λ u. same_txn u t) (running i past) ≡ b
    by false e = same ∙ ap (λ (r : Bool). r && list_any (λ u. same_txn u t) begun) e
    by true e = elim (cases_Bool (list_any (λ u. same_txn u t) (running i past))) [
      | inl p ↦ p
      | inr p ↦ absurd (false≢true (sym (each_running (λ u. same_txn u t ≡ false) i past t (none_is t (running i past) p) e) ∙ txn_own t))
    ]

-- ---- steps of others

module _ (layout : Layout) (i : ℕ) (past : List Step) (l : LegalPast layout past) where
  -- who runs elsewhere doesn't run here
  runs_once : (t : TxnId) (k : ℕ) → k ≢ i → runs k t past ≡ true → runs i t past ≡ false
  runs_once t k n r = elim (cases_Bool (runs i t past)) [
    | inl q ↦ absurd (n (sym (one_seat past i k t t (seated layout past l i t q) (seated layout past l k t r) refl).site))
    | inr q ↦ q
  ]

  -- the end of an attempt that doesn't run here leaves those that do
  idle_stays : (t : TxnId) → runs i t past ≡ false → without t (running i past) ≡ running i past
  idle_stays t r =
      filter_twice (λ u. not (same_txn u t)) (λ u. runs i u past) begun ∙ filter_agree _ _ (λ u. by u (same_txn u t) (runs i u past) refl refl) begun
    where
      begun : List TxnId
      begun = reverse (filter_map (begun_at i) past)

      by : (u : TxnId) (s b : Bool) → same_txn u t ≡ s → runs i u past ≡ b → (if not s then b else false) ≡ b
      by u false b e f = refl
      by u true false e f = refl
      by u true true e f = absurd (false≢true (sym r ∙ subst (λ (v : TxnId). runs i v past ≡ true) (txn_same u t e) f))

  leaves : (x : Step) → Allowed layout past x → belongs actors x (Site i) ≡ false → next_running i x (running i past) ≡ running i past
  leaves (Begin site txn begin) h b = rw (ne_eqb site i (other_site i site _ b)) refl
  leaves (Commit e) h b = idle_stays e.txn (runs_once e.txn e.origin (other_site i e.origin _ b) (legal_commit layout past e h).runs)
  leaves (End site txn ops reads) h b = idle_stays txn (runs_once txn site (other_site i site _ b) (legal_end layout past site txn ops reads h).runs)
  leaves (Fail site txn cause) h b = elim (legal_fail layout past site txn cause h) [
    | inl q ↦ idle_stays txn (elim (cases_Bool (runs i txn past)) [
      | inl r ↦ absurd (not_routed layout past (seated layout past l) i txn txn r q.state refl)
      | inr r ↦ r
    ])
    | inr r ↦ idle_stays txn (runs_once txn site (other_site i site _ b) r)
  ]
  leaves (Doubt site (pending.Commit e)) h b = rw (ne_eqb site i (other_site i site _ b)) refl
  leaves (Doubt site (pending.Release part epoch to v)) h b = rw (ne_eqb site i (other_site i site _ b)) refl
  leaves (Doubt site (pending.Grant part epoch v)) h b = rw (ne_eqb site i (other_site i site _ b)) refl
  leaves (Restart site vector found) h b = rw (ne_eqb site i (other_site i site _ b)) refl
  leaves other h b = refl

  -- a running attempt keeps its keys
  pub declared_stays : (x : Step) → Allowed layout past x → (t : TxnId) → runs i t past ≡ true → declared t (x ∷ past) ≡ declared t past
  declared_stays (Route txn want min site choice) h t r = by (same_txn t txn) refl
    where
      new : Routing
      new = record { txn = txn; want = want; min = min; site = site; choice = choice }

      by : (s : Bool) → same_txn t txn ≡ s
          → unwrap_or (option_map (λ r. wanted_keys r.want) (option_or (cond s (Some new) None) (routing t past))) [] ≡ declared t past
      by false e = refl
      by true e = absurd (false≢true (ap may_route (sym (seated layout past l i t r).runs)
          ∙ (ap (λ (u : TxnId). may_route (state u.session past)) (txn_same t txn e) ∙ (legal_route layout past txn want min site choice h).further)))
  declared_stays other h t r = refl

  pub running_other : (x : Step) → Allowed layout past x → belongs actors x (Site i) ≡ false → running i (x ∷ past) ≡ running i past
  running_other x h b = running_next layout past l x h i ∙ leaves x h b

  pub claims_other : (x : Step) → Allowed layout past x → belongs actors x (Site i) ≡ false → claims i (x ∷ past) ≡ claims i past
  claims_other x h b =
      ap (λ (ts : List TxnId). map (claimed (x ∷ past)) ts) (running_other x h b)
      ∙ map_filter (λ u. runs i u past) (claimed (x ∷ past)) (claimed past) (λ u r j. record { txn = u; keys = declared_stays x h u r j })
      (reverse (filter_map (begun_at i) past))

-- ---- the site's own

module _ (layout : Layout) (i : ℕ) (past : List Step) where
  -- an attempt that begins stands behind those that run already
  pub running_begins : (t : TxnId) (b : List ℕ) → LegalPast layout (Begin i t b ∷ past) → claims i (Begin i t b ∷ past) ≡ claims i past ++ claimed past t ∷ []
  running_begins t b l =
      ap (λ (ts : List TxnId). map (claimed past) ts)
      (running_next layout past l.0 (Begin i t b) l.1 i ∙ ap (λ (s : Bool). cond s (running i past ++ t ∷ []) (running i past)) (eq-eqb i i refl))
      ∙ map-append (claimed past) (running i past) (t ∷ [])

  -- a step that ends an attempt's run takes its claim, and no other
  pub running_ends : (x : Step) (t : TxnId) → LegalPast layout (x ∷ past) → ((ts : List TxnId) → next_running i x ts ≡ without t ts)
      → ((u : TxnId) → declared u (x ∷ past) ≡ declared u past) → claims i (x ∷ past) ≡ locks.without t (claims i past)
  running_ends x t l e d =
      ap (λ (f : TxnId → Claim). map f (running i (x ∷ past))) (λ j u. record { txn = u; keys = d u j })
      ∙ ap (λ (ts : List TxnId). map (claimed past) ts) (running_next layout past l.0 x l.1 i ∙ e (running i past))
      ∙ claims_without past t (running i past)

module _ (i : ℕ) (past : List Step) where
  abbrev begun : List TxnId
  begun = reverse (filter_map (begun_at i) past)

  -- nothing runs after a step that ends each run
  abbrev runs_less : Bool → TxnId → Bool
  runs_less b t = unwrap_or (option_or (cond b (Some false) None) (latest (runs_after i t) past)) false

  dropped : filter (runs_less (i == i)) begun ≡ []
  dropped = ap (λ (b : Bool). filter (runs_less b) begun) (eq-eqb i i refl) ∙ none_left begun

  -- a Doubt or a Restart of the site takes all
  pub running_none : (p : Pending) → running i (Doubt i p ∷ past) ≡ []
  running_none p = dropped

  pub running_restarts : (vector : List ℕ) (found : Found) → running i (Restart i vector found ∷ past) ≡ []
  running_restarts vector found = dropped
