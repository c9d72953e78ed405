use Rattle.std.proofs.Common.{rules, ◌≡◌, ◌<◌, ℕ, sym, ap, take, length, List, subst}
use Rattle.std.specs.Prelude.{slice_index_or}
use Rattle.dm_event.specs.declared.actor.Actor.TheVariants.{Session}
use Rattle.dm_event.specs.declared.step.Op.TheVariants.{Read}
use Rattle.dm_invariant.specs.Running.{Going, IsHere}
use Rattle.dm_invariant.specs.Stations.{Rested}
use Rattle.dm_sites.proofs.Going.{WritesDeclared, declared_at, did_some, goes_on, here_on, rested_twice}
use Rattle.dm_invariant.proofs.Passing.{went_twice}
use Rattle.dm_sites.proofs.sites.Sites.end_at.Goals as goal

pub body_op-requires-clause-here : goal.body_op-requires-clause-here
body_op-requires-clause-here g c =
    let inv = c.loop-i.invariant in
    let n : c.args.to ≡ c.deref_mut.result.now.site.number = search rules in
    let h = here_on c.args.to c.args.run c.loop-i.run c.args.own.now c.loop-i.own (take c.loop-i.i c.args.ops.now) inv.2 c.requires.here inv.0 inv.1 in
    subst (λ (k : ℕ). IsHere k c.loop-i.own c.loop-i.run) n h

pub body_op-requires-clause-declared : goal.body_op-requires-clause-declared
body_op-requires-clause-declared g c =
    let inv = c.loop-i.invariant in
    let m : c.loop-i.i < length c.args.ops.now = search rules in
    let d = declared_at c.args.run.declared c.args.ops.now c.loop-i.i (Read 0) c.requires.declared m in
    subst (λ (k : List ℕ). WritesDeclared k (slice_index_or c.args.ops.now c.loop-i.i (Read 0))) (sym (ap (λ (r : Going). r.declared) inv.2)) d

pub loop-i-preserved : goal.loop-i-preserved
loop-i-preserved g c =
    let inv = c.loop-i.invariant in
    let m : c.loop-i.i < length c.args.ops.now = search rules in
    goes_on c.args.run c.loop-i.run c.body_op.new.run c.args.ops.now c.loop-i.i (Read 0) c.args.own.now c.loop-i.own c.body_op.new.own m inv.2 inv.0 inv.1
    c.body_op.ensures.own
    (did_some (slice_index_or c.args.ops.now c.loop-i.i (Read 0)) c.loop-i.run c.body_op.new.run c.loop-i.own c.body_op.new.own c.body_op.result c.in-Value.is
    c.body_op.ensures.done)

pub commit-requires-clause-here : goal.commit-requires-clause-here
commit-requires-clause-here g c =
    let inv = c.loop-i.invariant in
    let n : c.args.to ≡ c.deref_mut-2.result.now.site.number = search rules in
    let h = here_on c.args.to c.args.run c.loop-i.run c.args.own.now c.loop-i.own (take c.loop-i.i c.args.ops.now) inv.2 c.requires.here inv.0 inv.1 in
    subst (λ (k : ℕ). IsHere k c.loop-i.own c.loop-i.run) n h

pub fail-requires-clause-here : goal.fail-requires-clause-here
fail-requires-clause-here g c =
    let inv = c.loop-i.invariant in
    let n : c.args.to ≡ c.deref_mut-in-Err.result.now.site.number = search rules in
    let e : c.in-Err.run' ≡ c.loop-i.run = search rules in
    let k : Rested (Session c.loop-i.run.txn.session) c.loop-i.own c.commit.new.own = search rules in
    let s : c.loop-i.run.txn.session ≡ c.args.run.txn.session = ap (λ (r : Going). r.txn.session) inv.2 in
    let k' = subst (λ (x : ℕ). Rested (Session x) c.loop-i.own c.commit.new.own) s k in
    let h = here_on c.args.to c.args.run c.loop-i.run c.args.own.now c.commit.new.own (take c.loop-i.i c.args.ops.now) inv.2 c.requires.here
    (went_twice c.args.own.now c.loop-i.own c.commit.new.own inv.0 c.commit.ensures.own)
    (rested_twice c.args.run.txn.session c.args.own.now c.loop-i.own c.commit.new.own inv.1 k') in
    let h' = subst (λ (k : ℕ). IsHere k c.commit.new.own c.loop-i.run) n h in
    subst (λ (r : Going). IsHere c.deref_mut-in-Err.result.now.site.number c.commit.new.own r) (sym e) h'
