use Rattle.std.proofs.Common.{arith, ap, ◌∙◌, ◌≡◌, get_or, ℕ}
use Rattle.dm_locks.proofs.Places.{some_of, answered_at, place_at, place_within}
use Rattle.dm_locks.specs.Claims.{claim_of, is_of}
use Rattle.dm_locks.specs.declared.claim.Claim.{Claim}
use Rattle.dm_locks.proofs.table.answer_in_line.Goals as goal

pub returns-clause-answer : goal.returns-clause-answer
returns-clause-answer c =
    let ws = c.args.waiters.now in
    let at = c.place-at.result in
    let f = some_of (claim_of c.args.txn ws) c.requires in
    let d = c.index-waiters-at.result in
    let there : get_or ws at d ≡ f.0 = ap (λ (n : ℕ). get_or ws n d) c.place-at.ensures.place ∙ place_at (is_of c.args.txn) f.0 d ws f.1 in
    c.answer_beside-answer.ensures
    ∙ answered_at c.args.txn f.0 c.args.holders.now ws at (get_or ws at d).keys f.1 c.place-at.ensures.place (ap (λ (claim : Claim). claim.keys) there)

pub bounds-waiters-at : goal.bounds-waiters-at
bounds-waiters-at c =
    let f = some_of (claim_of c.args.txn c.args.waiters.now) c.requires in
    let within = place_within (is_of c.args.txn) f.0 c.args.waiters.now f.1 in
    let place = c.place-at.ensures.place in
    omega arith

pub returns-clause-within : goal.returns-clause-within
returns-clause-within c =
    let f = some_of (claim_of c.args.txn c.args.waiters.now) c.requires in
    let within = place_within (is_of c.args.txn) f.0 c.args.waiters.now f.1 in
    let place = c.place-at.ensures.place in
    omega arith
