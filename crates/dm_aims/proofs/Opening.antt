-- What is kept of no steps.
use Rattle.std.proofs.Common.{ℕ, ◌≡◌, List, [], Option, None, ap, ◌∙◌, unwrap_or}
use Rattle.std.specs.Option.{option_flatten}
use Rattle.std.specs.Prelude.{replicate}
use Rattle.dm_event.specs.Layout.{Layout}
use Rattle.dm_event.specs.declared.limits.TheConstants.{MAX_SESSIONS}
use Rattle.dm_aims.proofs.Routes.{flat}
use Rattle.dm_aims.specs.Aiming.{AreAims}
use Rattle.dm_aims.specs.declared.aim.Aim.{Aim}
use Rattle.dm_steps.proofs.Slots.{numbered_same}
use Rattle.dm_steps.specs.Slots.{numbered_in}

none_in : {X : Type 0} (n c : ℕ) (list : List (Option X)) → list ≡ replicate n None → option_flatten (numbered_in list c) ≡ None
none_in {X = X} n c list e = flat (numbered_in list c) ∙ ap (λ (l : List (Option X)). unwrap_or (numbered_in l c) None) e ∙ numbered_same {X = Option X} None n c

pub no_aims : (layout : Layout) (n : ℕ) (list : List (Option Aim)) → list ≡ replicate n None → AreAims layout [] list
no_aims layout n list e c = none_in n c list e

pub unaimed : (list : List (Option Aim)) → list ≡ replicate MAX_SESSIONS None → (layout : Layout) → AreAims layout [] list
unaimed list e layout = no_aims layout MAX_SESSIONS list e
