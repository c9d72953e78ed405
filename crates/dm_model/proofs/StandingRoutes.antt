-- An attempt that stands routed does so by its session's last Route.
use Rattle.std.proofs.Common.{◌≡◌, Bool, true, false, if◌then◌else◌, List, Option, Some, None, refl, ap, ◌∙◌}
use Rattle.std.proofs.lemmas.Bool.{false≢true}
use Rattle.std.specs.Prelude.{is_some, option_map}
use Rattle.dm_event.specs.Txns.{same_txn}
use Rattle.dm_event.specs.declared.step.Step.{Step}
use Rattle.dm_event.specs.declared.step.TxnId.{TxnId}
use Rattle.dm_model.proofs.SameValues.{txn_same}
use Rattle.dm_model.specs.Attempts.{routed, is_routed, state, last_routing, Routing, standing, routed_txn, wants_txn}
use Rattle.dm_model.specs.Words.{option_filter}

-- what there is passes
record Passes {X : Type 0} (p : X → Bool) (o : Option X) : Type 0 where
  it : X
  is : o ≡ Some it
  passes : p it ≡ true
  left : option_filter p o ≡ Some it

filtered : {X : Type 0} (p : X → Bool) (o : Option X) → is_some (option_filter p o) ≡ true → Passes p o
filtered p None h = absurd (false≢true h)
filtered p (Some x) h = by_test (p x) refl h
  where
    by_test : (b : Bool) → p x ≡ b → is_some (if b then Some x else None) ≡ true → Passes p (Some x)
    by_test true e g = record { it = x; is = refl; passes = e; left = rw e refl }
    by_test false e g = absurd (false≢true g)

chosen : {X : Type 0} (b : Bool) (o : Option X) (x : X) → (if b then o else None) ≡ Some x → (b ≡ true) × (o ≡ Some x)
chosen true o x h = (refl, h)
chosen false o x h = absurd (cc (h))

-- the attempt stands routed by the Route, which is its session's last
pub record Stands (past : List Step) (txn : TxnId) : Type 0 where
  pub route : Routing
  pub by : routed txn past ≡ Some route
  pub state : is_routed (state txn.session past) ≡ true
  pub last : last_routing txn.session past ≡ Some route
  pub same : txn ≡ route.txn

pub routed_stands : (past : List Step) (txn : TxnId) → is_some (routed txn past) ≡ true → Stands past txn
routed_stands past txn h =
    let f = filtered (λ r. same_txn txn r.txn) (standing txn.session past) h in
    let s = chosen (is_routed (state txn.session past)) (last_routing txn.session past) f.it f.is in
    record { route = f.it; by = f.left; state = s.0; last = s.1; same = txn_same txn f.it.txn f.passes }

mapped : {X Y : Type 0} (f : X → Y) (o : Option X) → is_some (option_map f o) ≡ true → is_some o ≡ true
mapped f None h = h
mapped f (Some x) h = refl

-- the same of a Route for a transaction
pub record StandsForTxn (past : List Step) (txn : TxnId) : Type 0 where
  pub stands : Stands past txn
  pub by : routed_txn txn past ≡ Some stands.route

pub routed_txn_stands : (past : List Step) (txn : TxnId) → is_some (option_map (λ r. r.site) (routed_txn txn past)) ≡ true → StandsForTxn past txn
routed_txn_stands past txn h =
    let f = filtered (λ r. wants_txn r.want) (routed txn past) (mapped (λ r. r.site) (routed_txn txn past) h) in
    let s = routed_stands past txn (ap is_some f.is) in
    let same : f.it ≡ s.route = cc (s.by, f.is) in
    record { stands = s; by = f.left ∙ ap (λ (r : Routing). Some r) same }
