-- Sessions that may be served.
use Rattle.std.specs.List.{list_all}
use Rattle.std.specs.Prelude.{◌≡◌, ◌≤◌, length, reverse, Some, IsTrue}
use Rattle.dm_core.specs.Lawful.{Terms}
use Rattle.dm_event.specs.Layout.{Layout}
use Rattle.dm_event.specs.declared.attempt.AttemptState.TheVariants.{Unrouted}
use Rattle.dm_event.specs.declared.limits.TheConstants.{MAX_OPS}
use Rattle.dm_event.specs.declared.step.Body.{Body}
use Rattle.dm_event.specs.declared.step.Want.TheVariants.{Txn}
use Rattle.dm_model.specs.Attempts.{state}
use Rattle.dm_model.specs.Shape.{is_op, is_want}
use Rattle.dm_session.specs.Sitting.{Sitting}

-- the session is one of these terms, and its next item has no Route
abbrev pub Serves : Terms → Sitting → Type 0
Serves terms s = (s.pass.fixed ≡ Some terms) × (state s.id (reverse s.pass.seen) ≡ Unrouted)

abbrev pub FitsSchema : Layout → Body → Type 0
FitsSchema layout body =
    IsTrue (is_want layout (Txn body.declared)) × (length body.ops ≤ MAX_OPS) × IsTrue (list_all (is_op layout) body.ops)
