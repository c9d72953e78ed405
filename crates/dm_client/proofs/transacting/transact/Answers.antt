use Rattle.std.proofs.Common.{◌≡◌, ◌+◌, ℕ, sym, ◌∙◌, subst, true, reverse}
use Rattle.dm_answers.specs.declared.item.Item.TheVariants.{Txn}
use Rattle.dm_client.proofs.Answering.{answered_is, loop_came}
use Rattle.dm_model.specs.Attempts.{state}
use Rattle.dm_model.specs.Rows.{may_route}
use Rattle.dm_sites.specs.Telling.{CameAs}
use Rattle.dm_sites.specs.declared.told.Came.{Came}
use Rattle.dm_sites.specs.declared.told.Came.TheVariants as came
use Rattle.dm_client.proofs.transacting.transact.Goals as goal

pub returns-in-Say : goal.returns-in-Say
returns-in-Say g c =
    let a = c.args.session in
    let l = c.loop.session in
    let b = c.attempt-next.result.0 in
    let inv = c.loop.invariant in
    let s = c.attempt-next.ensures.same in
    let x = subst (λ (y : Came). CameAs l.id (l.count + 1) (Txn c.args.body.now) l.vector c.loop.last l.pass b.pass y) c.in-Say.is c.attempt-next.ensures.came in
    let ready = loop_came (Txn c.args.body.now) a l b.pass c.loop.last (came.Say c.in-Say.told) (sym c.in_default.ensures) inv.0.0 inv.0.1 inv.0.2 inv.1 x in
    let r = c.reply.ensures in
    answered_is (Txn c.args.body.now) c.in-Say.told a b c.reply.new.self (s.0 ∙ inv.0.0) (s.1 ∙ inv.0.1) ready r.id r.count r.went r.reply

pub loop-preserved : goal.loop-preserved
loop-preserved g c =
    let a = c.args.session in
    let l = c.loop.session in
    let b = c.attempt-next.result.0 in
    let inv = c.loop.invariant in
    let s = c.attempt-next.ensures.same in
    let x = subst (λ (y : Came). CameAs l.id (l.count + 1) (Txn c.args.body.now) l.vector c.loop.last l.pass b.pass y) c.in-Again.is c.attempt-next.ensures.came in
    let again = loop_came (Txn c.args.body.now) a l b.pass c.loop.last (came.Again c.in-Again.txn) (sym c.in_default.ensures) inv.0.0 inv.0.1 inv.0.2 inv.1 x in
    let id = s.0 ∙ inv.0.0 in
    ((id, s.1 ∙ inv.0.1, s.2 ∙ inv.0.2), again.0, subst (λ (k : ℕ). may_route (state k (reverse b.pass.seen)) ≡ true) (sym id) again.1)
