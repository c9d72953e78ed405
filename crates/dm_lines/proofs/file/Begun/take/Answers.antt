use Rattle.std.proofs.Common.{List, All, subst, sym}
use Rattle.dm_lines.specs.File.{AllFit, so_far}
use Rattle.dm_lines.specs.Ranges.{Fits}
use Rattle.dm_lines.specs.declared.file.Begun.{Begun}
use Rattle.dm_lines.specs.declared.line.Line.{Line}
use Rattle.dm_lines.proofs.Steps.{one_more}
use Rattle.dm_lines.proofs.file.Begun.take.Goals as goal

pub returns-clause-fit : goal.returns-clause-fit
returns-clause-fit c h =
    let before = subst (λ (b : Begun). AllFit (so_far b)) c.in-Commands.is h in (
      before.0,
      subst (λ (ls : List Line). All (λ line. Fits c.in-Commands.schema line) ls) (sym c.in_ok-push-in-Commands.ensures.items)
          (one_more (λ line. Fits c.in-Commands.schema line) c.in-Commands.lines.items c.in_ok-line-in-Commands.line before.1 c.in_ok-line-in-Commands.ensures.fit),
    )
