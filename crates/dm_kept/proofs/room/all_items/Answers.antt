use Rattle.std.proofs.Common.{ℕ, ◌-◌, ◌≡◌, arith, ap, ◌∙◌}
use Rattle.std.specs.List.{range_with_len, sum_by}
use Rattle.dm_event.specs.declared.limits.TheConstants.{MAX_SESSIONS}
use Rattle.dm_kept.proofs.Ranges.{sum_to}
use Rattle.dm_kept.proofs.room.all_items.Goals as goal
use Rattle.dm_room.specs.Room.{items_of}

pub loop-session-preserved : goal.loop-session-preserved
loop-session-preserved c =
    let before = c.loop-session.invariant.few in
    let one = c.items_of.type_inv in
    let from = c.loop-session.auto.session in
    record {
      sum = sum_to (λ session. items_of c.args.items.now session) c.loop-session.session c.loop-session.count
          c.items_of.result from c.loop-session.invariant.sum c.items_of.ensures;
      few = omega (arith, before, one, from);
    }

pub returns-clause-exact : goal.returns-clause-exact
returns-clause-exact c =
    let from = c.loop-session.auto.session in
    let end = c.loop-session.auto.session-end in
    let over = c.loop-session-test.false in
    let whole : c.loop-session.session - 1 ≡ MAX_SESSIONS = omega (arith, from, end, over) in
    c.loop-session.invariant.sum ∙ ap (λ (n : ℕ). sum_by (λ session. items_of c.args.items.now session) (range_with_len 1 n)) whole
