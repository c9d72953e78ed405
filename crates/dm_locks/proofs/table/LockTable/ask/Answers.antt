use Rattle.std.proofs.Common.{arith, ap, ◌∙◌, ◌≡◌, [], ◌∷◌, ◌++◌, length, vec_len}
use Rattle.std.proofs.lemmas.List.{length-append}
use Rattle.dm_locks.proofs.Sound.{few_claims, got_holds, waits_more}
use Rattle.dm_locks.specs.Claims.{answer, is_of_session}
use Rattle.dm_locks.specs.Locks.{Locks, everyone}
use Rattle.dm_locks.specs.declared.claim.Claim.{Claim}
use Rattle.dm_locks.specs.declared.table.LockAnswer.TheVariants.{Got}
use Rattle.dm_model.specs.Words.{count_of}
use Rattle.dm_locks.proofs.table.LockTable.ask.Goals as goal

pub push_reserved-requires : goal.push_reserved-requires
push_reserved-requires c =
    let hs = c.self.inside.holders.items in
    let ws = c.self.inside.waiters.items in
    let claim : Claim = record { txn = c.args.txn; keys = c.args.keys } in
    let got : answer c.args.keys (hs ++ ws) ≡ Got = cc in
    let free : count_of (is_of_session c.args.txn.session) (hs ++ ws) ≡ 0 =
    ap (λ (locks : Locks). count_of (is_of_session c.args.txn.session) (everyone locks)) c.self.view_is ∙ c.requires.no_claim in
    let s = few_claims (record { holders = hs ++ claim ∷ []; waiters = ws }) (got_holds claim hs ws c.self.invariant.sound c.requires.session free got) in
    let l = length-append hs (claim ∷ []) in
    let n : length hs ≡ vec_len c.self.inside.holders = cc in
    let room = c.self.invariant.holders in
    omega arith

pub invariant_of-self : goal.invariant_of-self
invariant_of-self c =
    let hs = c.self.inside.holders.items in
    let ws = c.self.inside.waiters.items in
    let claim : Claim = record { txn = c.args.txn; keys = c.args.keys } in
    let got : answer c.args.keys (hs ++ ws) ≡ Got = cc in
    let free : count_of (is_of_session c.args.txn.session) (hs ++ ws) ≡ 0 =
    ap (λ (locks : Locks). count_of (is_of_session c.args.txn.session) (everyone locks)) c.self.view_is ∙ c.requires.no_claim in
    let s = got_holds claim hs ws c.self.invariant.sound c.requires.session free got in
    record {
      sound = rw (c.push_reserved.ensures.items) s;
      holders = omega (arith, c.push_reserved.ensures.capacity, c.self.invariant.holders);
      waiters = c.self.invariant.waiters;
    }

pub push_reserved-requires-in-Waits : goal.push_reserved-requires-in-Waits
push_reserved-requires-in-Waits c =
    let hs = c.self.inside.holders.items in
    let ws = c.self.inside.waiters.items in
    let claim : Claim = record { txn = c.args.txn; keys = c.args.keys } in
    let free : count_of (is_of_session c.args.txn.session) (hs ++ ws) ≡ 0 =
    ap (λ (locks : Locks). count_of (is_of_session c.args.txn.session) (everyone locks)) c.self.view_is ∙ c.requires.no_claim in
    let s = few_claims (record { holders = hs; waiters = ws ++ claim ∷ [] }) (waits_more claim hs ws c.self.invariant.sound c.requires.session free) in
    let l = length-append ws (claim ∷ []) in
    let n : length ws ≡ vec_len c.self.inside.waiters = cc in
    let room = c.self.invariant.waiters in
    omega arith

pub invariant_of-self-in-Waits : goal.invariant_of-self-in-Waits
invariant_of-self-in-Waits c =
    let hs = c.self.inside.holders.items in
    let ws = c.self.inside.waiters.items in
    let claim : Claim = record { txn = c.args.txn; keys = c.args.keys } in
    let free : count_of (is_of_session c.args.txn.session) (hs ++ ws) ≡ 0 =
    ap (λ (locks : Locks). count_of (is_of_session c.args.txn.session) (everyone locks)) c.self.view_is ∙ c.requires.no_claim in
    let s = waits_more claim hs ws c.self.invariant.sound c.requires.session free in
    record {
      sound = rw (c.push_reserved-in-Waits.ensures.items) s;
      holders = c.self.invariant.holders;
      waiters = omega (arith, c.push_reserved-in-Waits.ensures.capacity, c.self.invariant.waiters);
    }
