-- The list of the attempts that run at a site has each of them.
use Rattle.std.proofs.Common.{ℕ, ◌≡◌, Bool, true, false, ◌==◌, cond, if◌then◌else◌, List, [], ◌∷◌, Option, Some, None, refl, sym, ◌∙◌, subst, inl, inr, ◌⊎◌}
use Rattle.std.proofs.Common.{unwrap_or}
use Rattle.std.proofs.lemmas.Bool.{false≢true, or_cases, or_left, or_right}
use Rattle.std.specs.List.{AllByRecursion as Each, list_any, cons_option}
use Rattle.std.specs.Option.{option_or}
use Rattle.std.specs.Prelude.{filter, filter_map, reverse}
use Rattle.dm_event.specs.Txns.{same_txn}
use Rattle.dm_event.specs.declared.step.Step.{Step}
use Rattle.dm_event.specs.declared.step.Step.TheVariants.{Route, Reply, Ask, Settle, Begin, Moved, Commit, End, Fail, Refresh, Release, Grant, Doubt, Restart}
use Rattle.dm_event.specs.declared.step.TxnId.{TxnId}
use Rattle.dm_model.proofs.ClausesHold.{none_parts, map_none}
use Rattle.dm_model.proofs.ListFacts.{each_reverse}
use Rattle.dm_model.proofs.SameValues.{txn_same}
use Rattle.dm_model.specs.Allowed.{holder_among, common_key}
use Rattle.dm_model.specs.Attempts.{declared}
use Rattle.dm_model.specs.Runs.{runs, runs_after, running, begun_at}
use Rattle.dm_model.specs.Words.{latest}

each_any : (P : TxnId → Type 0) (ts : List TxnId) (t : TxnId) → Each P ts → list_any (same_txn t) ts ≡ true → P t
each_any P [] t h m = absurd (false≢true m)
each_any P (u ∷ us) t h m = elim (or_cases (same_txn t u) (list_any (same_txn t) us) m)
    [ inl e ↦ subst P (sym (txn_same t u e)) h.0 | inr n ↦ each_any P us t h.1 n ]

each_filter : {X : Type 0} (P : X → Type 0) (p : X → Bool) (xs : List X) → Each P (filter p xs) → Each (λ x. p x ≡ true → P x) xs
each_filter P p [] h = tt
each_filter P p (x ∷ xs) h = by_test (λ g. each_filter P p xs g) (p x) refl h
  where
    by_test : (Each P (filter p xs) → Each (λ y. p y ≡ true → P y) xs) → (b : Bool) → p x ≡ b → Each P (cond b (x ∷ filter p xs) (filter p xs))
        → Each (λ y. p y ≡ true → P y) (x ∷ xs)
    by_test rest true e g = ((λ q. g.0), rest g.1)
    by_test rest false e g = ((λ q. absurd (false≢true (sym e ∙ q))), rest g)

run_step : (o : Option Bool) (rest : Bool) → unwrap_or o rest ≡ true → (o ≡ Some true) ⊎ (rest ≡ true)
run_step None rest h = inr h
run_step (Some true) rest h = inl refl
run_step (Some false) rest h = absurd (false≢true h)

latest_step : (h : Step → Option Bool) (s : Step) (past : List Step) → unwrap_or (latest h (s ∷ past)) false ≡ unwrap_or (h s) (unwrap_or (latest h past) false)
latest_step h s past = by_case (h s)
  where
    by_case : (o : Option Bool) → unwrap_or (option_or o (latest h past)) false ≡ unwrap_or o (unwrap_or (latest h past) false)
    by_case None = refl
    by_case (Some b) = refl

ends : (b : Bool) → (if b then Some false else None) ≡ Some true → ⊥
ends true h = false≢true (cc (h))
ends false h = absurd (cc (h))

-- only a Begin at the site starts a run there
begins_only : (i : ℕ) (t : TxnId) (s : Step) → runs_after i t s ≡ Some true → (ts : List TxnId) → list_any (same_txn t) (cons_option (begun_at i s) ts) ≡ true
begins_only i t (Begin site txn begin) h ts = by_test (same_txn t txn) refl h
  where
    by_site : (x : Bool) → same_txn t txn ≡ true → x ≡ true → list_any (same_txn t) (cons_option (if x then Some txn else None) ts) ≡ true
    by_site true e f = or_left (same_txn t txn) _ e
    by_site false e f = absurd (false≢true f)

    by_test : (b : Bool) → same_txn t txn ≡ b → (if b then Some (site == i) else None) ≡ Some true
        → list_any (same_txn t) (cons_option (if site == i then Some txn else None) ts) ≡ true
    by_test true e g = by_site (site == i) e (cc (g))
    by_test false e g = absurd (cc (g))
begins_only i t (Commit e) h ts = absurd (ends (same_txn t e.txn) h)
begins_only i t (End site txn ops reads) h ts = absurd (ends (same_txn t txn) h)
begins_only i t (Fail site txn cause) h ts = absurd (ends (same_txn t txn) h)
begins_only i t (Doubt site p) h ts = absurd (ends (site == i) h)
begins_only i t (Restart site vector found) h ts = absurd (ends (site == i) h)
begins_only i t (Route txn want min site choice) h ts = absurd (cc (h))
begins_only i t (Reply session number said) h ts = absurd (cc (h))
begins_only i t (Ask part epoch to txn) h ts = absurd (cc (h))
begins_only i t (Settle part epoch) h ts = absurd (cc (h))
begins_only i t (Moved site txn) h ts = absurd (cc (h))
begins_only i t (Refresh site origin) h ts = absurd (cc (h))
begins_only i t (Release site part epoch to vector) h ts = absurd (cc (h))
begins_only i t (Grant site part epoch vector) h ts = absurd (cc (h))

any_more : (t : TxnId) (o : Option TxnId) (ts : List TxnId) → list_any (same_txn t) ts ≡ true → list_any (same_txn t) (cons_option o ts) ≡ true
any_more t None ts h = h
any_more t (Some u) ts h = or_right (same_txn t u) _ h

begun_any : (i : ℕ) (t : TxnId) (past : List Step) → runs i t past ≡ true → list_any (same_txn t) (filter_map (begun_at i) past) ≡ true
begun_any i t [] h = absurd (false≢true h)
begun_any i t (s ∷ past) h = elim (run_step (runs_after i t s) (runs i t past) (sym (latest_step (runs_after i t) s past) ∙ h)) [
  | inl e ↦ begins_only i t s e (filter_map (begun_at i) past)
  | inr r ↦ any_more t (begun_at i s) (filter_map (begun_at i) past) (begun_any i t past r)
]

-- what holds of each attempt in the list of running ones holds of each that runs
pub each_running : (P : TxnId → Type 0) (i : ℕ) (past : List Step) (t : TxnId) → Each P (running i past) → runs i t past ≡ true → P t
each_running P i past t h r =
    each_any (λ u. runs i u past ≡ true → P u) (filter_map (begun_at i) past) t
    (each_reverse (λ u. runs i u past ≡ true → P u) (filter_map (begun_at i) past)
    (each_filter P (λ u. runs i u past) (reverse (filter_map (begun_at i) past)) h))
    (begun_any i t past r) r

pub no_holder : (past : List Step) (keys : List ℕ) (ts : List TxnId) → holder_among keys ts past ≡ None
    → Each (λ t. common_key keys (declared t past) ≡ None) ts
no_holder past keys [] h = tt
no_holder past keys (t ∷ ts) h = (let p = none_parts _ (holder_among keys ts past) h in (map_none _ _ p.0, no_holder past keys ts p.1))
