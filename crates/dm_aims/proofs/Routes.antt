-- Which steps are Routes of a session, and what is read of a list of what may not be there.
use Rattle.std.proofs.Common.{ℕ, ◌≡◌, ◌==◌, Bool, true, false, if◌then◌else◌, ◌∷◌, Option, Some, None, refl, sym, ◌∙◌, subst, unwrap_or}
use Rattle.std.proofs.lemmas.Bool.{eqb-true, false≢true, and_parts}
use Rattle.std.specs.Option.{option_flatten}
use Rattle.std.specs.Prelude.{is_some}
use Rattle.dm_event.specs.Layout.{Layout, is_session}
use Rattle.dm_event.specs.declared.step.Step.{Step}
use Rattle.dm_event.specs.declared.step.Step.TheVariants.{Route}
use Rattle.dm_event.specs.declared.step.TxnId.{TxnId}
use Rattle.dm_model.specs.Attempts.{Routing, routing_of, is_route}
use Rattle.dm_model.specs.Shape.{is_shaped}

pub flat : {X : Type 0} (o : Option (Option X)) → option_flatten o ≡ unwrap_or o None
flat None = refl
flat (Some x) = refl

-- ---- no Route is of a session that doesn't exist

differs : (p : ℕ → Bool) (c x : ℕ) → p c ≡ false → p x ≡ true → (x == c) ≡ false
differs p c x none h = by (x == c) refl
  where
    by : (b : Bool) → (x == c) ≡ b → b ≡ false
    by false e = refl
    by true e = absurd (false≢true (sym none ∙ subst (λ (y : ℕ). p y ≡ true) (eqb-true x c e) h))

pub foreign_route : (layout : Layout) (c : ℕ) → is_session c ≡ false → (s : Step) → is_shaped layout s ≡ true → is_some (routing_of (λ (t : TxnId). t.session == c) s) ≡ false
foreign_route layout c none (Route txn want min site choice) h = (let e = differs is_session c txn.session none (and_parts _ _ (and_parts _ _ h).0).0 in rw e refl)
foreign_route layout c none other h = refl

-- ---- what a step is

pub route_is : (c : ℕ) (s : Step) → is_route c s ≡ is_some (routing_of (λ (t : TxnId). t.session == c) s)
route_is c (Route txn want min site choice) = by (txn.session == c)
  where
    by : (b : Bool) → b ≡ is_some {T = Routing} (if b then Some (record { txn = txn; want = want; min = min; site = site; choice = choice }) else None)
    by true = refl
    by false = refl
route_is c other = refl
