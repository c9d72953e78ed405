-- What a test of the latest step leaves of the steps before it.
use Rattle.std.proofs.Common.{◌≡◌, Bool, true, false, if◌then◌else◌, Option, Some, None, refl, sym, inl, inr, ◌⊎◌, unwrap_or}
use Rattle.std.proofs.lemmas.Bool.{false≢true}
use Rattle.std.specs.Option.{option_or}
use Rattle.dm_event.specs.declared.attempt.AttemptState.{AttemptState}

-- a run that goes on after a step which would end it where the test passes
pub record Passed (b : Bool) (o : Option Bool) : Type 0 where
  pub test : b ≡ false
  pub before : unwrap_or o false ≡ true

pub went_on : (b : Bool) (o : Option Bool) → unwrap_or (option_or (if b then Some false else None) o) false ≡ true → Passed b o
went_on true o h = absurd (false≢true h)
went_on false o h = record { test = refl; before = h }

-- a run after a step which decides it where the test passes
pub record Decided (b here : Bool) : Type 0 where
  pub test : b ≡ true
  pub now : here ≡ true

pub ran : (b here : Bool) (o : Option Bool) → unwrap_or (option_or (if b then Some here else None) o) false ≡ true → Decided b here ⊎ Passed b o
ran true here o h = inl (record { test = refl; now = h })
ran false here o h = inr (record { test = refl; before = h })

-- the latest step of which a test passes gives what is looked for
pub taken : {X : Type 0} (b : Bool) (x : X) (o : Option X) → b ≡ true → option_or (if b then Some x else None) o ≡ Some x
taken true x o h = refl
taken false x o h = absurd (false≢true h)

-- else the steps before it do
pub passed : {X : Type 0} (b : Bool) (x : X) (o : Option X) → b ≡ false → option_or (if b then Some x else None) o ≡ o
passed true x o h = absurd (false≢true (sym h))
passed false x o h = refl

-- what holds of a session's state after a step that changes it where the test passes
pub state_or : (P : AttemptState → Type 0) (b : Bool) (new old : AttemptState) → (b ≡ true → P new) → (b ≡ false → P old)
    → P (unwrap_or (if b then Some new else None) old)
state_or P true new old f g = f refl
state_or P false new old f g = g refl
