use Rattle.std.proofs.Common.{◌≡◌, ◌+◌, ◌++◌, length, vec_len}
use Rattle.dm_closing.specs.Joining.{HaveLeft}
use Rattle.dm_closing.proofs.closing.take_sites.Given as goal

abbrev pub invariant-loop-next : goal.invariant-loop-next
invariant-loop-next g l =
    (l.bundle.pass.table ≡ g.N.Named.table) × (l.bundle.pass.actors ++ l.bundle.rest.now ≡ l.all) × (l.number ≡ length l.disks.items)
    × HaveLeft g.D.LogDisk.story g.D.LogDisk.faults g.N.Named.table g.N.Named.faults 1 l.bundle.pass l.disks.items
    × (length l.disks.items + vec_len l.locks ≡ vec_len l.fn.locks)

abbrev pub decreases-loop-next : goal.decreases-loop-next
decreases-loop-next g l = vec_len l.locks
