-- What a schema's fields say.
use Rattle.std.specs.Prelude.{◌≡◌, true}
use Rattle.dm_event.specs.Layout.{Layout, is_layout}
use Rattle.dm_event.specs.declared.schema.Schema.TheInside.{Inside}

abbrev pub layout_of : Inside → Layout
layout_of s = record { sites = s.sites; width = s.width; masters = s.masters.items; weights = s.weights; values = s.values.items }

abbrev pub KeepsLimits : Inside → Type 0
KeepsLimits s = is_layout (layout_of s) ≡ true
