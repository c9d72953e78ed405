-- What the fields of an opening say.
use Rattle.std.specs.Prelude.{◌≡◌, true}
use Rattle.dm_event.specs.Layout.{Layout, is_layout}
use Rattle.dm_lines.specs.declared.opening.Opening.TheInside.{Inside}

abbrev pub layout_in : Inside → Layout
layout_in o = record { sites = o.sites; width = o.width; masters = o.masters.items; weights = o.weights; values = o.values.items }

abbrev pub KeepsLimits : Inside → Type 0
KeepsLimits o = is_layout (layout_in o) ≡ true
