use Rattle.std.proofs.Common.{◌≡◌, ◌++◌, List, vec_len}
use Rattle.std.specs.Prelude.{reverse}
use Rattle.dm_closing.specs.Joining.{Grew}
use Rattle.dm_invariant.specs.Stations.{View}
use Rattle.dm_table.specs.Starts.{ArePasses}
use Rattle.dm_closing.proofs.closing.take_parts.Given as goal

abbrev pub invariant-loop-pass : goal.invariant-loop-pass
invariant-loop-pass g l =
    Grew l.fn.bundle.pass l.bundle.pass × (l.bundle.pass.actors ++ l.bundle.rest.now ≡ l.fn.bundle.pass.actors ++ l.fn.bundle.rest.now)
    × ((left : List View) × (l.passes.items ≡ reverse left) × ArePasses l.chron.table l.part left)

abbrev pub decreases-loop-pass : goal.decreases-loop-pass
decreases-loop-pass g l = vec_len l.passes
