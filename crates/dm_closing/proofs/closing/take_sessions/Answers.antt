use Rattle.std.proofs.Common.{◌∙◌}
use Rattle.dm_closing.proofs.Joins.{grew_on, session_in}
use Rattle.dm_closing.proofs.closing.take_sessions.Goals as goal

pub loop-session-preserved : goal.loop-session-preserved
loop-session-preserved g c =
    let was = c.loop-session.invariant in let e = c.join-bundle.ensures in (
      grew_on _ _ _ was.0 e.grew,
      e.rest ∙ was.1,
      session_in c.loop-session.bundle.pass c.join-bundle.result.pass c.id-id.result c.in-Some.session c.part-pass.result.1 _ _ _ c.id-id.ensures
          c.part-pass.ensures.pass e.came e.grew c.in-Some.ensures.items was.2,
    )
