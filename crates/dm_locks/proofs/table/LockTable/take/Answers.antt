use Rattle.std.proofs.Common.{sym, ◌∙◌, subst, List, ℕ}
use Rattle.std.specs.List.Sorted.{IsStrictlyIncreasing}
use Rattle.dm_locks.proofs.Line.{asks, left_all, polls}
use Rattle.dm_locks.specs.Calls.{MayTake}
use Rattle.dm_locks.specs.declared.claim.Claim.{Claim}
use Rattle.dm_locks.proofs.table.LockTable.take.Goals as goal

pub returns-then-waits-clause-tells : goal.returns-then-waits-clause-tells
returns-then-waits-clause-tells c =
    let claim : Claim = record { txn = c.args.txn; keys = c.args.keys } in
    let up : IsStrictlyIncreasing c.args.keys = subst (λ (keys : List ℕ). IsStrictlyIncreasing keys) c.keys.view_is c.keys.invariant in
    let may : MayTake c.args.self.now claim = record { session = c.requires.session; free = c.requires.free; keys = c.requires.keys } in
    (polls claim c.args.self.now c.poll.new.self c.poll.result up c.is_sound.ensures may (sym c.waits.ensures ∙ c.if-waits.true) c.poll.ensures.answer
    c.poll.ensures.locks).tells

pub ask-requires-clause-no_claim : goal.ask-requires-clause-no_claim
ask-requires-clause-no_claim c = left_all c.args.self.now c.leave_line.new.self c.args.txn.session c.leave_line.ensures c.requires.free

pub returns-clause-answer : goal.returns-clause-answer
returns-clause-answer c =
    let claim : Claim = record { txn = c.args.txn; keys = c.args.keys } in
    let up : IsStrictlyIncreasing c.args.keys = subst (λ (keys : List ℕ). IsStrictlyIncreasing keys) c.keys.view_is c.keys.invariant in
    let may : MayTake c.args.self.now claim = record { session = c.requires.session; free = c.requires.free; keys = c.requires.keys } in
    (asks claim c.args.self.now c.leave_line.new.self c.ask.new.self c.ask.result up c.is_sound.ensures may (sym c.waits.ensures ∙ c.if-waits.false)
    c.leave_line.ensures c.ask.ensures.answer c.ask.ensures.locks).answer

pub returns-clause-locks : goal.returns-clause-locks
returns-clause-locks c =
    let claim : Claim = record { txn = c.args.txn; keys = c.args.keys } in
    let up : IsStrictlyIncreasing c.args.keys = subst (λ (keys : List ℕ). IsStrictlyIncreasing keys) c.keys.view_is c.keys.invariant in
    let may : MayTake c.args.self.now claim = record { session = c.requires.session; free = c.requires.free; keys = c.requires.keys } in
    (asks claim c.args.self.now c.leave_line.new.self c.ask.new.self c.ask.result up c.is_sound.ensures may (sym c.waits.ensures ∙ c.if-waits.false)
    c.leave_line.ensures c.ask.ensures.answer c.ask.ensures.locks).locks

pub returns-clause-tells : goal.returns-clause-tells
returns-clause-tells c =
    let claim : Claim = record { txn = c.args.txn; keys = c.args.keys } in
    let up : IsStrictlyIncreasing c.args.keys = subst (λ (keys : List ℕ). IsStrictlyIncreasing keys) c.keys.view_is c.keys.invariant in
    let may : MayTake c.args.self.now claim = record { session = c.requires.session; free = c.requires.free; keys = c.requires.keys } in
    (asks claim c.args.self.now c.leave_line.new.self c.ask.new.self c.ask.result up c.is_sound.ensures may (sym c.waits.ensures ∙ c.if-waits.false)
    c.leave_line.ensures c.ask.ensures.answer c.ask.ensures.locks).tells
