use Rattle.std.proofs.Common.{◌≡◌, List, reverse, length, sym, subst, replicate, ap, ◌∙◌, arith}
use Rattle.std.proofs.lemmas.List.{length-replicate}
use Rattle.dm_body.specs.Progress.{Progress, nothing_done}
use Rattle.dm_event.specs.declared.limits.TheConstants.{MAX_SESSIONS}
use Rattle.dm_event.specs.declared.step.Step.{Step}
use Rattle.dm_model.specs.Legal.{Legal}
use Rattle.dm_schedule.proofs.DriversKept.{bodies_new, drive_new}
use Rattle.dm_schedule.proofs.driver.Driver.new.Goals as goal

pub invariant_of-result : goal.invariant_of-result
invariant_of-result c =
    let book = c.in_ok-new-2.field-0 in
    let all : c.loop-session._session ≡ MAX_SESSIONS = omega (arith, c.loop-session-test.false, c.loop-session.auto._session-end) in
    let fresh = c.loop-session.invariant ∙ ap (λ n. replicate n nothing_done) all in
    let many = ap (λ (l : List Progress). length l) c.loop-session.invariant ∙ length-replicate c.loop-session._session nothing_done in
    record {
      sessions = omega (arith, c.loop-session.overlays.ok.0, many, all);
      legal = subst (λ (steps : List Step). Legal book.layout steps) (sym c.in_ok-new-2.ensures.empty) _;
      bodies = bodies_new book.layout (reverse book.steps) c.loop-session.overlays.items fresh;
    }

pub returns : goal.returns
returns c =
    let book = c.in_ok-new-2.field-0 in
    let all : c.loop-session._session ≡ MAX_SESSIONS = omega (arith, c.loop-session-test.false, c.loop-session.auto._session-end) in
    let fresh = c.loop-session.invariant ∙ ap (λ n. replicate n nothing_done) all in
    drive_new book.layout c.args.schema.now book.steps c.loop-session.overlays.items c.in_ok-new-2.ensures.schema c.in_ok-new-2.ensures.empty fresh
