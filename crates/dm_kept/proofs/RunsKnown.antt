-- The keys of the attempts that run, and of the commits in doubt, stay known over a step.
use Rattle.std.proofs.Common.{ℕ, ◌≡◌, ◌==◌, Bool, true, false, if◌then◌else◌, List, [], ◌∷◌, Option, Some, None, refl, sym, ap, ◌∙◌, subst, inl, inr, unwrap_or}
use Rattle.std.proofs.lemmas.Bool.{false≢true}
use Rattle.std.specs.Option.{option_or}
use Rattle.std.specs.Prelude.{option_map, IfSome}
use Rattle.dm_event.specs.Layout.{Layout}
use Rattle.dm_event.specs.Txns.{same_txn}
use Rattle.dm_event.specs.declared.attempt.AttemptState.{AttemptState}
use Rattle.dm_event.specs.declared.step.Choice.{Choice}
use Rattle.dm_event.specs.declared.step.Pending.{Pending}
use Rattle.dm_event.specs.declared.step.Pending.TheVariants as pending
use Rattle.dm_event.specs.declared.step.Step.{Step}
use Rattle.dm_event.specs.declared.step.Step.TheVariants.{Route, Begin, Commit, End, Fail, Doubt, Restart}
use Rattle.dm_event.specs.declared.step.TxnId.{TxnId}
use Rattle.dm_event.specs.declared.step.Want.{Want}
use Rattle.dm_kept.proofs.Installing.{known_pairs}
use Rattle.dm_kept.specs.Roomy.{KnowsKeys, KnowsPending}
use Rattle.dm_model.proofs.LegalSteps.{legal_route, doubted_commit}
use Rattle.dm_model.proofs.RunningIsLast.{seated}
use Rattle.dm_model.proofs.SameValues.{txn_same}
use Rattle.dm_model.proofs.StepTests.{ran, went_on, passed}
use Rattle.dm_model.specs.Allowed.{Allowed}
use Rattle.dm_model.specs.Attempts.{Routing, declared, state, wanted_keys}
use Rattle.dm_model.specs.Doubts.{pending_at}
use Rattle.dm_model.specs.Legal.{LegalPast}
use Rattle.dm_model.specs.Rows.{may_route}
use Rattle.dm_model.specs.Runs.{runs}
use Rattle.dm_plain.proofs.Written.{written_declared}

not_true : (b : Bool) → (b ≡ true → ⊥) → b ≡ false
not_true true h = absurd (h refl)
not_true false h = refl

module _ (layout : Layout) (past : List Step) (legal : LegalPast layout past) (known : List ℕ)
    (running : (site : ℕ) (txn : TxnId) → runs site txn past ≡ true → KnowsKeys known (declared txn past)) where
  -- no attempt is routed again while it runs
  still_declares : (txn : TxnId) (want : Want) (least : List ℕ) (site : ℕ) (choice : Choice) → Allowed layout past (Route txn want least site choice)
      → (i : ℕ) (t : TxnId) → runs i t past ≡ true → declared t (Route txn want least site choice ∷ past) ≡ declared t past
  still_declares txn want least site choice a i t r =
      let further = (legal_route layout past txn want least site choice a).further in
      let seat = seated layout past legal i t r in
      let other : same_txn t txn ≡ false = not_true (same_txn t txn) (λ e.
      false≢true (subst (λ (x : AttemptState). may_route x ≡ true) (ap (λ (u : TxnId). state u.session past) (sym (txn_same t txn e))
      ∙ seat.runs) further)) in
      ap (λ (o : Option Routing). unwrap_or (option_map (λ r. wanted_keys r.want) o) []) (passed (same_txn t txn) _ _ other)

  -- what a Begin must have known
  abbrev pub KnowsBegun : Step → Type 0
  KnowsBegun (Begin site txn begin) = KnowsKeys known (declared txn past)
  KnowsBegun s = Unit {0}

  pub running_known : (s : Step) → Allowed layout past s → KnowsBegun s → (i : ℕ) (t : TxnId) → runs i t (s ∷ past) ≡ true
      → KnowsKeys known (declared t (s ∷ past))
  running_known (Route txn want least site choice) a b i t r =
      subst (λ (keys : List ℕ). KnowsKeys known keys) (sym (still_declares txn want least site choice a i t r)) (running i t r)
  running_known (Begin site txn begin) a b i t r = elim (ran (same_txn t txn) (site == i) _ r) [
    | inl p ↦ subst (λ (u : TxnId). KnowsKeys known (declared u past)) (sym (txn_same t txn p.test)) b
    | inr q ↦ running i t q.before
  ]
  running_known (Commit e) a b i t r = running i t (went_on (same_txn t e.txn) _ r).before
  running_known (End site txn ops reads) a b i t r = running i t (went_on (same_txn t txn) _ r).before
  running_known (Fail site txn cause) a b i t r = running i t (went_on (same_txn t txn) _ r).before
  running_known (Doubt site p) a b i t r = running i t (went_on (site == i) _ r).before
  running_known (Restart site vector found) a b i t r = running i t (went_on (site == i) _ r).before
  running_known other a b i t r = running i t r

  -- a commit in doubt ran, and writes what it declared
  doubt_known : (site : ℕ) (p : Pending) → Allowed layout past (Doubt site p) → KnowsPending known p
  doubt_known site (pending.Commit e) a =
      let c = (doubted_commit layout past site e a).commit in
      known_pairs known e.writes (λ key m. running e.origin e.txn c.runs key (written_declared layout past legal e c key m))
  doubt_known site (pending.Release part epoch to vector) a = tt
  doubt_known site (pending.Grant part epoch vector) a = tt

  pub doubted_known : ((i : ℕ) → IfSome (pending_at i past) (KnowsPending known)) → (s : Step) → Allowed layout past s
      → (i : ℕ) → IfSome (pending_at i (s ∷ past)) (KnowsPending known)
  doubted_known h (Doubt site p) a i = by_test (site == i) (doubt_known site p a) (h i)
    where
      by_test : (b : Bool) → KnowsPending known p → IfSome (pending_at i past) (KnowsPending known)
          → IfSome (option_or (if b then Some p else None) (pending_at i past)) (KnowsPending known)
      by_test true x y = x
      by_test false x y = y
  doubted_known h other a i = h i
