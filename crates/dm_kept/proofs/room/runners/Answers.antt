use Rattle.std.proofs.Common.{ℕ, ◌-◌, ◌≡◌, arith, ap, ◌∙◌}
use Rattle.std.specs.List.{range_with_len, sum_by}
use Rattle.dm_event.specs.declared.limits.TheConstants.{MAX_SESSIONS}
use Rattle.dm_kept.proofs.Ranges.{sum_to}
use Rattle.dm_kept.proofs.room.runners.Goals as goal
use Rattle.dm_event.specs.declared.attempt.Attempt.{Attempt}
use Rattle.dm_room.specs.Room.{runs_there}
use Rattle.dm_state.specs.Standings.{attempt_in}

pub loop-session-preserved : goal.loop-session-preserved
loop-session-preserved c =
    let before = c.loop-session.invariant.few in
    let one = c.runs_there-count.ensures.few in
    let from = c.loop-session.auto.session in
    record {
      sum = sum_to (λ session. runs_there c.args.site (attempt_in c.args.states.now session).state) c.loop-session.session c.loop-session.count
          c.runs_there-count.result from c.loop-session.invariant.sum
          (c.runs_there-count.ensures.exact ∙ ap (λ (a : Attempt). runs_there c.args.site a.state) c.attempt.ensures);
      few = omega (arith, before, one, from);
    }

pub returns-clause-exact : goal.returns-clause-exact
returns-clause-exact c =
    let from = c.loop-session.auto.session in
    let end = c.loop-session.auto.session-end in
    let over = c.loop-session-test.false in
    let whole : c.loop-session.session - 1 ≡ MAX_SESSIONS = omega (arith, from, end, over) in
    c.loop-session.invariant.sum
    ∙ ap (λ (n : ℕ). sum_by (λ session. runs_there c.args.site (attempt_in c.args.states.now session).state) (range_with_len 1 n)) whole
