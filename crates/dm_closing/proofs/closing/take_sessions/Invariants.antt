use Rattle.std.proofs.Common.{◌≡◌, ◌++◌, vec_len}
use Rattle.dm_closing.proofs.Joins.{IsPartly}
use Rattle.dm_closing.specs.Joining.{Grew}
use Rattle.dm_closing.proofs.closing.take_sessions.Given as goal

abbrev pub invariant-loop-session : goal.invariant-loop-session
invariant-loop-session g l =
    Grew l.fn.bundle.pass l.bundle.pass × (l.bundle.pass.actors ++ l.bundle.rest.now ≡ l.fn.bundle.pass.actors ++ l.fn.bundle.rest.now)
    × IsPartly l.bundle.pass l.sessions.items l.fn.sessions.items

abbrev pub decreases-loop-session : goal.decreases-loop-session
decreases-loop-session g l = vec_len l.sessions
