-- What an attempt that stands routed or runs declares, and where it began, by its session's last Route and Begin.
use Rattle.std.proofs.Common.{ℕ, ◌≡◌, ◌==◌, ◌||◌, Bool, true, false, if◌then◌else◌, List, [], ◌∷◌, Option, Some, None, refl, sym, ap, ◌∙◌, unwrap_or}
use Rattle.std.proofs.lemmas.Bool.{false≢true, eq-eqb}
use Rattle.std.specs.Option.{option_or}
use Rattle.std.specs.Prelude.{is_some, option_map}
use Rattle.dm_event.specs.Layout.{Layout}
use Rattle.dm_event.specs.Txns.{same_txn}
use Rattle.dm_event.specs.Vectors.{sites_to}
use Rattle.dm_event.specs.declared.step.Step.{Step}
use Rattle.dm_event.specs.declared.step.Step.TheVariants.{Route}
use Rattle.dm_event.specs.declared.step.TxnId.{TxnId}
use Rattle.dm_kept.specs.Telling.{last_keys}
use Rattle.dm_model.proofs.ListFacts.{found_holds}
use Rattle.dm_model.proofs.RunningIsLast.{seated}
use Rattle.dm_model.proofs.SameValues.{txn_same, txn_own}
use Rattle.dm_model.proofs.SessionsRise.{last_begins}
use Rattle.dm_model.proofs.StandingRoutes.{routed_stands}
use Rattle.dm_model.specs.Attempts.{Routing, routing_of, last_routing, wanted_keys, declared, routed}
use Rattle.dm_model.specs.Legal.{LegalPast}
use Rattle.dm_model.specs.Runs.{runs, run_site, begin_vector, last_begin}
use Rattle.dm_model.specs.Words.{latest}
use Rattle.dm_told.specs.Asking.{is_current, is_running}

module _ (p q : TxnId → Bool) (weaker : (t : TxnId) → p t ≡ true → q t ≡ true) (r : Routing) (passes : p r.txn ≡ true) where
  at_route : (s : Routing) (o o' : Option Routing) → (o ≡ Some r → o' ≡ Some r) → (a b : Bool) → p s.txn ≡ a → q s.txn ≡ b
      → option_or (if b then Some s else None) o ≡ Some r → option_or (if a then Some s else None) o' ≡ Some r
  at_route s o o' f true true e g h = h
  at_route s o o' f false true e g h = (let z : s ≡ r = cc (h) in absurd (false≢true (sym e ∙ ap (λ (x : Routing). p x.txn) z ∙ passes)))
  at_route s o o' f true false e g h = absurd (false≢true (sym g ∙ weaker s.txn e))
  at_route s o o' f false false e g h = f h

  -- the latest Route of the wider kind, where it is of the narrower kind, is the latest of that
  narrow : (past : List Step) → latest (routing_of q) past ≡ Some r → latest (routing_of p) past ≡ Some r
  narrow [] h = absurd (cc (h))
  narrow (Route txn want min site choice ∷ past) h =
      at_route (record { txn = txn; want = want; min = min; site = site; choice = choice }) (latest (routing_of q) past) (latest (routing_of p) past)
      (narrow past) (p txn) (q txn) refl refl h
  narrow (other ∷ past) h = narrow past h

-- the attempt of the session's last Route declares what that Route wants
declared_last : (past : List Step) (t : TxnId) (r : Routing) → last_routing t.session past ≡ Some r → r.txn ≡ t → declared t past ≡ last_keys t.session past
declared_last past t r e f =
    let own : same_txn t r.txn ≡ true = ap (λ (x : TxnId). same_txn t x) f ∙ txn_own t in
    let one = narrow (same_txn t) (λ u. u.session == t.session)
    (λ u g. eq-eqb u.session t.session (ap (λ (x : TxnId). x.session) (sym (txn_same t u g)))) r own past e in
    ap (λ (o : Option Routing). unwrap_or (option_map (λ x. wanted_keys x.want) o) []) (one ∙ sym e)

module _ (layout : Layout) (past : List Step) (legal : LegalPast layout past) where
  pub runner_declares : (site : ℕ) (t : TxnId) → runs site t past ≡ true → declared t past ≡ last_keys t.session past
  runner_declares site t r = (let s = seated layout past legal site t r in declared_last past t s.last s.routed s.same)

  pub runs_somewhere : (t : TxnId) → is_running layout past t ≡ true → (site : ℕ) × (runs site t past ≡ true)
  runs_somewhere t h = by (run_site layout past t) refl h
    where
      by : (o : Option ℕ) → run_site layout past t ≡ o → is_some o ≡ true → (site : ℕ) × (runs site t past ≡ true)
      by None e g = absurd (false≢true g)
      by (Some i) e g = (i, found_holds (λ k. runs k t past) (sites_to layout.sites) i e)

  pub current_declares : (t : TxnId) → is_current layout past t ≡ true → declared t past ≡ last_keys t.session past
  current_declares t c = by (is_some (routed t past)) refl c
    where
      by : (b : Bool) → is_some (routed t past) ≡ b → (b || is_running layout past t) ≡ true → declared t past ≡ last_keys t.session past
      by true e g = (let s = routed_stands past t e in declared_last past t s.route s.last (sym s.same))
      by false e g = (let r = runs_somewhere t g in runner_declares r.0 t r.1)

  pub runner_began : (t : TxnId) → is_running layout past t ≡ true → begin_vector t past ≡ last_begin t.session past
  runner_began t h = (let r = runs_somewhere t h in last_begins layout past legal r.0 t r.1)
