use Rattle.std.proofs.Common.{arith, subst, sym, ap, ◌∙◌, ◌≡◌, List, length, vec_len}
use Rattle.std.specs.List.{position_or_len}
use Rattle.std.specs.Prelude.{IsSome}
use Rattle.dm_locks.proofs.Sound.{few_claims, moved_by}
use Rattle.dm_locks.specs.Claims.{claim_of, is_of}
use Rattle.dm_locks.specs.Locks.{Locks, answer_at_poll, polled}
use Rattle.dm_locks.specs.declared.claim.Claim.{Claim}
use Rattle.dm_locks.specs.declared.table.LockAnswer.TheVariants.{Got}
use Rattle.dm_locks.proofs.table.LockTable.poll.Goals as goal

pub push_reserved-requires : goal.push_reserved-requires
push_reserved-requires c =
    let few = few_claims (record { holders = c.self.inside.holders.items; waiters = c.self.inside.waiters.items }) c.self.invariant.sound in
    let within = c.answer_in_line-at.ensures.within in
    let hs : length c.self.inside.holders.items ≡ vec_len c.self.inside.holders = sym (ap length c.deref.ensures.value) ∙ c.deref.ensures.len in
    let ws : length c.deref-2.result.now ≡ length c.self.inside.waiters.items = ap length c.deref-2.ensures.value in
    let room = c.self.invariant.holders in
    omega arith

pub invariant_of-self : goal.invariant_of-self
invariant_of-self c =
    let hs = c.self.inside.holders.items in
    let ws = c.self.inside.waiters.items in
    let waits : IsSome (claim_of c.args.txn ws) = subst (λ (locks : Locks). IsSome (claim_of c.args.txn locks.waiters)) (sym c.self.view_is) c.requires.waits in
    let place : c.answer_in_line-at.result.0 ≡ position_or_len (is_of c.args.txn) ws = c.answer_in_line-at.ensures.place
    ∙ ap (λ (xs : List Claim). position_or_len (is_of c.args.txn) xs) c.deref-2.ensures.value in
    let got : answer_at_poll (record { holders = hs; waiters = ws }) c.args.txn ≡ Got =
    sym (c.answer_in_line-at.ensures.answer ∙ ap (λ (xs : List Claim). answer_at_poll (record { holders = xs; waiters = c.deref-2.result.now }) c.args.txn)
    c.deref.ensures.value
    ∙ ap (λ (xs : List Claim). answer_at_poll (record { holders = hs; waiters = xs }) c.args.txn) c.deref-2.ensures.value) ∙ c.in-Got.is in
    record {
      sound = (moved_by c.args.txn c.remove.result c.answer_in_line-at.result.0 hs ws c.push_reserved.new.self.items c.remove.new.self.items
          c.self.invariant.sound waits got place c.remove.ensures.value c.push_reserved.ensures.items c.remove.ensures.items).sound;
      holders = omega (arith, c.push_reserved.ensures.capacity, c.self.invariant.holders);
      waiters = omega (arith, c.remove.ensures.capacity, c.self.invariant.waiters);
    }

pub returns-in-Got-clause-locks : goal.returns-in-Got-clause-locks
returns-in-Got-clause-locks c =
    let hs = c.self.inside.holders.items in
    let ws = c.self.inside.waiters.items in
    let waits : IsSome (claim_of c.args.txn ws) = subst (λ (locks : Locks). IsSome (claim_of c.args.txn locks.waiters)) (sym c.self.view_is) c.requires.waits in
    let place : c.answer_in_line-at.result.0 ≡ position_or_len (is_of c.args.txn) ws = c.answer_in_line-at.ensures.place
    ∙ ap (λ (xs : List Claim). position_or_len (is_of c.args.txn) xs) c.deref-2.ensures.value in
    let got : answer_at_poll (record { holders = hs; waiters = ws }) c.args.txn ≡ Got =
    sym (c.answer_in_line-at.ensures.answer ∙ ap (λ (xs : List Claim). answer_at_poll (record { holders = xs; waiters = c.deref-2.result.now }) c.args.txn)
    c.deref.ensures.value
    ∙ ap (λ (xs : List Claim). answer_at_poll (record { holders = hs; waiters = xs }) c.args.txn) c.deref-2.ensures.value) ∙ c.in-Got.is in
    (moved_by c.args.txn c.remove.result c.answer_in_line-at.result.0 hs ws c.push_reserved.new.self.items c.remove.new.self.items c.self.invariant.sound waits
    got place c.remove.ensures.value c.push_reserved.ensures.items c.remove.ensures.items).polled
    ∙ ap (λ (locks : Locks). polled locks c.args.txn) c.self.view_is
