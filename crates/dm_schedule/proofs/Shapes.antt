-- What the shape of a step says.
use Rattle.std.proofs.Common.{◌≡◌, ◌≤◌, length, true, arith, eqb-true}
use Rattle.std.specs.Prelude.{nat_le, ◌==◌}
use Rattle.std.proofs.lemmas.Bool.{and_parts, leb-true}
use Rattle.dm_event.specs.Layout.{Layout}
use Rattle.dm_event.specs.declared.step.Entry.{Entry}
use Rattle.dm_event.specs.declared.step.Step.TheVariants.{Commit}
use Rattle.dm_model.specs.Shape.{is_shaped}

-- an entry's begin vector has a component for its origin
pub entry_sized : (layout : Layout) (e : Entry) → is_shaped layout (Commit e) ≡ true → (1 ≤ e.origin) × (e.origin ≤ length e.begin)
entry_sized layout e h =
    let more = (and_parts _ _ h).1 in
    let site = and_parts (nat_le 1 e.origin) (nat_le e.origin layout.sites) (and_parts _ _ more).0 in
    let vector = (and_parts (length e.begin == layout.sites) _ (and_parts _ _ more).1).0 in
    let most = leb-true e.origin layout.sites site.1 in
    let long = eqb-true (length e.begin) layout.sites vector in
    (leb-true 1 e.origin site.0, omega (arith, most, long))
