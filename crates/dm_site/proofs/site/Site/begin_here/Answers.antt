use Rattle.std.proofs.Common.{ℕ, ◌<◌, ◌≡◌, true, List, length, refl, sym, ap, ◌∙◌, subst, arith}
use Rattle.std.proofs.lemmas.Bool.{eq-eqb}
use Rattle.std.specs.List.{list_all}
use Rattle.std.specs.Prelude.{IsSomeAnd}
use Rattle.dm_chronicle.proofs.Lists.{prefix_refl}
use Rattle.dm_chronicle.specs.Standing.{standing}
use Rattle.dm_core.specs.Lawful.{may_follow}
use Rattle.dm_event.specs.Layout.{is_key}
use Rattle.dm_event.specs.declared.actor.Actor.{Actor}
use Rattle.dm_event.specs.declared.actor.Actor.TheVariants.{Session}
use Rattle.dm_event.specs.declared.step.Step.TheVariants.{Begin, Moved}
use Rattle.dm_locks.specs.Line.{IsHeldUp, IsServed}
use Rattle.dm_locks.specs.Locks.{left_line}
use Rattle.dm_site.proofs.Arriving.{arrived, after_begin, after_moved, after_nothing, after_waits, begins_from, begins_here, covers_both, did_at, follows}
use Rattle.dm_site.proofs.Arriving.{free_here, held_at, keys_here, lent_table, moves}
use Rattle.dm_site.proofs.Arriving.{nowhere_else, own_leaving, own_pushing, pass_pushing, reaches, run_starts, session_here, turn_tables, waiting_here}
use Rattle.dm_invariant.proofs.Passing.{adds_one, rested_in, went_on, went_to}
use Rattle.dm_invariant.specs.Stations.{Station, View, layout_of}
use Rattle.dm_site.proofs.site.Site.begin_here.Goals as goal

pub is_elsewhere-requires : goal.is_elsewhere-requires
is_elsewhere-requires g c =
    let t = c.enter_both-turn in
    let a = arrived {D = g.row.D.Denot} _ _ _ _ _ _ _ _ _ _ _ c.self.view_is c.self.invariant c.requires.own.1 c.requires.routed
    c.requires.reached t.ensures.turned t.ensures.met in
    subst (λ (keys : List ℕ). list_all (is_key (layout_of (standing t.result))) keys ≡ true) (sym c.as_slice.ensures.same) (keys_here a)

pub push_ending-requires-clause-follows : goal.push_ending-requires-clause-follows
push_ending-requires-clause-follows g c =
    let t = c.enter_both-turn in
    let a = arrived {D = g.row.D.Denot} _ _ _ _ _ _ _ _ _ _ _ c.self.view_is c.self.invariant c.requires.own.1 c.requires.routed
    c.requires.reached t.ensures.turned t.ensures.met in
    follows a (Moved c.self.inside.number c.args.txn) (moves a _ _ c.as_slice.ensures.same c.is_elsewhere.ensures c.if-is_elsewhere.true)

pub invariant_of-self : goal.invariant_of-self
invariant_of-self g c =
    let t = c.enter_both-turn in
    let a = arrived {D = g.row.D.Denot} _ _ _ _ _ _ _ _ _ _ _ c.self.view_is c.self.invariant c.requires.own.1 c.requires.routed
    c.requires.reached t.ensures.turned t.ensures.met in
    after_moved a _ _ (moves a _ _ c.as_slice.ensures.same c.is_elsewhere.ensures c.if-is_elsewhere.true) c.leave_line.ensures
    (pass_pushing c.self.inside.pass t.new.other _ (standing t.result) (standing t.result) _ t.ensures.other refl c.push_ending.ensures.other)

pub returns-then-is_elsewhere-clause-same : goal.returns-then-is_elsewhere-clause-same
returns-then-is_elsewhere-clause-same g c =
    let t = c.enter_both-turn in
    begins_from {D = g.row.D.Denot} _ _ _ c.self.view_is refl (prefix_refl _) refl
    (went_on _ _ t.result.seen _ t.ensures.met.begins
    (pass_pushing c.self.inside.pass t.new.other _ (standing t.result) (standing t.result) _ t.ensures.other refl c.push_ending.ensures.other)) refl

pub returns-then-is_elsewhere-clause-own : goal.returns-then-is_elsewhere-clause-own
returns-then-is_elsewhere-clause-own g c =
    let t = c.enter_both-turn in
    went_on _ _ t.result.seen _ t.ensures.turned.begins
    (own_pushing _ t.new.own _ (standing t.result) (standing t.result) _ t.ensures.own t.ensures.actors refl c.push_ending.ensures.own)

pub returns-then-is_elsewhere-clause-ok : goal.returns-then-is_elsewhere-clause-ok
returns-then-is_elsewhere-clause-ok g c =
    let t = c.enter_both-turn in
    did_at {D = g.row.D.Denot} _ _ _ _ t.result.seen t.result.fixed c.args.txn.session (λ site. Moved site c.args.txn) c.self.view_is c.requires.own.1
    t.ensures.turned
    (own_pushing _ t.new.own _ (standing t.result) (standing t.result) _ t.ensures.own t.ensures.actors refl c.push_ending.ensures.own)
    (λ site. eq-eqb c.args.txn.session c.args.txn.session refl)

pub invariant_of-self-in-Err : goal.invariant_of-self-in-Err
invariant_of-self-in-Err g c =
    let t = c.enter_both-turn in
    let a = arrived {D = g.row.D.Denot} _ _ _ _ _ _ _ _ _ _ _ c.self.view_is c.self.invariant c.requires.own.1 c.requires.routed
    c.requires.reached t.ensures.turned t.ensures.met in
    after_nothing a _ t.ensures.other

pub take-requires-clause-session : goal.take-requires-clause-session
take-requires-clause-session g c =
    let t = c.enter_both-turn in
    let a = arrived {D = g.row.D.Denot} _ _ _ _ _ _ _ _ _ _ _ c.self.view_is c.self.invariant c.requires.own.1 c.requires.routed
    c.requires.reached t.ensures.turned t.ensures.met in
    session_here a

pub take-requires-clause-free : goal.take-requires-clause-free
take-requires-clause-free g c =
    let t = c.enter_both-turn in
    let a = arrived {D = g.row.D.Denot} _ _ _ _ _ _ _ _ _ _ _ c.self.view_is c.self.invariant c.requires.own.1 c.requires.routed
    c.requires.reached t.ensures.turned t.ensures.met in
    free_here a

pub take-requires-clause-keys : goal.take-requires-clause-keys
take-requires-clause-keys g c =
    let t = c.enter_both-turn in
    let a = arrived {D = g.row.D.Denot} _ _ _ _ _ _ _ _ _ _ _ c.self.view_is c.self.invariant c.requires.own.1 c.requires.routed
    c.requires.reached t.ensures.turned t.ensures.met in
    waiting_here a

pub push_roomy-requires-clause-follows : goal.push_roomy-requires-clause-follows
push_roomy-requires-clause-follows g c =
    let t = c.enter_both-turn in
    let a = arrived {D = g.row.D.Denot} _ _ _ _ _ _ _ _ _ _ _ c.self.view_is c.self.invariant c.requires.own.1 c.requires.routed
    c.requires.reached t.ensures.turned t.ensures.met in
    let nowhere = nowhere_else a _ _ c.as_slice.ensures.same c.is_elsewhere.ensures c.if-is_elsewhere.false in
    subst (λ (w : View). IsSomeAnd w.fixed (λ f. may_follow f w.seen (Begin c.self.inside.number c.args.txn c.vector-begin.result)))
    (sym c.reserve_begin.ensures.same)
    (follows a (Begin c.self.inside.number c.args.txn c.vector-begin.result) (begins_here a _ _ nowhere c.in-Got.ensures.tells c.vector-begin.ensures))

pub push_roomy-requires-clause-room : goal.push_roomy-requires-clause-room
push_roomy-requires-clause-room g c =
    let t = c.enter_both-turn in
    let a = arrived {D = g.row.D.Denot} _ _ _ _ _ _ _ _ _ _ _ c.self.view_is c.self.invariant c.requires.own.1 c.requires.routed
    c.requires.reached t.ensures.turned t.ensures.met in
    let nowhere = nowhere_else a _ _ c.as_slice.ensures.same c.is_elsewhere.ensures c.if-is_elsewhere.false in
    c.in_default.ensures.room (follows a (Begin c.self.inside.number c.args.txn c.vector-begin.result)
    (begins_here a _ _ nowhere c.in-Got.ensures.tells c.vector-begin.ensures))

pub invariant_of-result : goal.invariant_of-result
invariant_of-result g c =
    let t = c.enter_both-turn in
    let a = arrived {D = g.row.D.Denot} _ _ _ _ _ _ _ _ _ _ _ c.self.view_is c.self.invariant c.requires.own.1 c.requires.routed
    c.requires.reached t.ensures.turned t.ensures.met in
    let nowhere = nowhere_else a _ _ c.as_slice.ensures.same c.is_elsewhere.ensures c.if-is_elsewhere.false in
    run_starts a c.args.own.now _ _ _ _ t.ensures.turned (begins_here a _ _ nowhere c.in-Got.ensures.tells c.vector-begin.ensures)
    (c.of-was.ensures ∙ (own_pushing _ t.new.own _ (standing t.result) (standing c.reserve_begin.new.turn) _ t.ensures.own t.ensures.actors
    c.reserve_begin.ensures.same c.push_roomy.ensures.own))
    c.requires.declared c.requires.overlay

pub invariant_of-self-in-Got : goal.invariant_of-self-in-Got
invariant_of-self-in-Got g c =
    let t = c.enter_both-turn in
    let a = arrived {D = g.row.D.Denot} _ _ _ _ _ _ _ _ _ _ _ c.self.view_is c.self.invariant c.requires.own.1 c.requires.routed
    c.requires.reached t.ensures.turned t.ensures.met in
    let nowhere = nowhere_else a _ _ c.as_slice.ensures.same c.is_elsewhere.ensures c.if-is_elsewhere.false in
    after_begin a _ _ _ (begins_here a _ _ nowhere c.in-Got.ensures.tells c.vector-begin.ensures) c.in-Got.ensures.tells
    (pass_pushing c.self.inside.pass t.new.other _ (standing t.result) (standing c.reserve_begin.new.turn) _ t.ensures.other c.reserve_begin.ensures.same
    c.push_roomy.ensures.other)

pub invariant_of-self-in-Waits-1 : goal.invariant_of-self-in-Waits-1
invariant_of-self-in-Waits-1 g c =
    let t = c.enter_both-turn in
    let a = arrived {D = g.row.D.Denot} _ _ _ _ _ _ _ _ _ _ _ c.self.view_is c.self.invariant c.requires.own.1 c.requires.routed
    c.requires.reached t.ensures.turned t.ensures.met in
    after_waits a _ _ c.in-Waits.by c.in-Waits.key c.in-Waits.ensures.tells t.ensures.other

pub returns-in-Got-clause-same : goal.returns-in-Got-clause-same
returns-in-Got-clause-same g c =
    let t = c.enter_both-turn in
    begins_from {D = g.row.D.Denot} _ _ _ c.self.view_is refl (prefix_refl _) refl
    (went_on _ _ t.result.seen _ t.ensures.met.begins
    (pass_pushing c.self.inside.pass t.new.other _ (standing t.result) (standing c.reserve_begin.new.turn) _ t.ensures.other c.reserve_begin.ensures.same
    c.push_roomy.ensures.other)) refl

pub returns-in-Got-clause-own : goal.returns-in-Got-clause-own
returns-in-Got-clause-own g c =
    let t = c.enter_both-turn in
    went_on _ _ t.result.seen _ t.ensures.turned.begins
    (own_pushing _ t.new.own _ (standing t.result) (standing c.reserve_begin.new.turn) _ t.ensures.own t.ensures.actors c.reserve_begin.ensures.same
    c.push_roomy.ensures.own)

pub returns-in-Got-clause-ok : goal.returns-in-Got-clause-ok
returns-in-Got-clause-ok g c =
    let t = c.enter_both-turn in
    let a = arrived {D = g.row.D.Denot} _ _ _ _ _ _ _ _ _ _ _ c.self.view_is c.self.invariant c.requires.own.1 c.requires.routed
    c.requires.reached t.ensures.turned t.ensures.met in (
      did_at {D = g.row.D.Denot} _ _ _ _ t.result.seen t.result.fixed c.args.txn.session (λ site. Begin site c.args.txn c.vector-begin.result)
          c.self.view_is c.requires.own.1 t.ensures.turned
          (own_pushing _ t.new.own _ (standing t.result) (standing c.reserve_begin.new.turn) _ t.ensures.own t.ensures.actors c.reserve_begin.ensures.same
          c.push_roomy.ensures.own)
          (λ site. eq-eqb c.args.txn.session c.args.txn.session refl),
      (λ j. record {
        txn = c.args.txn;
        site = (c.self.view_is j).number;
        begin = c.vector-begin.result;
        declared = c.requires.declared j;
        ops = (c.requires.overlay j).ops;
        was = c.of-was.ensures j;
      }),
      reaches a _ c.vector-begin.ensures,
    )

pub returns-in-Waits-clause-ok : goal.returns-in-Waits-clause-ok
returns-in-Waits-clause-ok g c =
    let t = c.enter_both-turn in
    let a = arrived {D = g.row.D.Denot} _ _ _ _ _ _ _ _ _ _ _ c.self.view_is c.self.invariant c.requires.own.1 c.requires.routed
    c.requires.reached t.ensures.turned t.ensures.met in
    let nowhere = nowhere_else a _ _ c.as_slice.ensures.same c.is_elsewhere.ensures c.if-is_elsewhere.false in
    held_at {D = g.row.D.Denot} _ _ _ _ a c.self.view_is c.requires.own.1 t.ensures.turned
    (own_leaving _ t.new.own _ (standing t.result) (standing c.reserve_begin.new.turn) t.ensures.own t.ensures.actors c.reserve_begin.ensures.same
    c.leave-in-Waits.ensures.own) nowhere

pub returns-in-Err-clause-same : goal.returns-in-Err-clause-same
returns-in-Err-clause-same g c =
    let t = c.enter_both-turn in
    begins_from {D = g.row.D.Denot} _ _ _ c.self.view_is refl (prefix_refl _) refl (went_to _ _ t.result.seen t.ensures.met.begins t.ensures.other) refl

pub returns-in-Err-clause-own : goal.returns-in-Err-clause-own
returns-in-Err-clause-own g c =
    let t = c.enter_both-turn in
    went_to _ _ t.result.seen t.ensures.turned.begins
    (own_leaving _ t.new.own _ (standing t.result) (standing c.reserve_begin.new.turn) t.ensures.own t.ensures.actors c.reserve_begin.ensures.same
    c.leave.ensures.own)

pub returns-in-Err-clause-err : goal.returns-in-Err-clause-err
returns-in-Err-clause-err g c =
    let t = c.enter_both-turn in
    rested_in (Session c.args.txn.session) _ _ t.result.seen (adds_one (Session c.args.txn.session) _ _ t.result.fixed c.requires.own.1 t.ensures.turned)
    (own_leaving _ t.new.own _ (standing t.result) (standing c.reserve_begin.new.turn) t.ensures.own t.ensures.actors c.reserve_begin.ensures.same
    c.leave.ensures.own)

pub returns-in-Waits-clause-same : goal.returns-in-Waits-clause-same
returns-in-Waits-clause-same g c =
    let t = c.enter_both-turn in
    begins_from {D = g.row.D.Denot} _ _ _ c.self.view_is refl (prefix_refl _) refl (went_to _ _ t.result.seen t.ensures.met.begins t.ensures.other) refl

pub returns-in-Waits-clause-own : goal.returns-in-Waits-clause-own
returns-in-Waits-clause-own g c =
    let t = c.enter_both-turn in
    went_to _ _ t.result.seen t.ensures.turned.begins
    (own_leaving _ t.new.own _ (standing t.result) (standing c.reserve_begin.new.turn) t.ensures.own t.ensures.actors c.reserve_begin.ensures.same
    c.leave-in-Waits.ensures.own)

pub push_ending-requires-clause-tables : goal.push_ending-requires-clause-tables
push_ending-requires-clause-tables g c =
    let t = c.enter_both-turn in
    turn_tables _ _ c.args.own.now t.new.own c.self.inside.pass t.new.other _ c.requires.chron t.ensures.table c.requires.own.0 c.self.invariant.table_is
    t.ensures.own t.result.seen t.ensures.other

pub push_roomy-requires-clause-tables : goal.push_roomy-requires-clause-tables
push_roomy-requires-clause-tables g c =
    let t = c.enter_both-turn in
    turn_tables _ _ c.args.own.now t.new.own c.self.inside.pass t.new.other _ c.requires.chron
    (ap (λ (w : View). w.table) c.reserve_begin.ensures.same ∙ t.ensures.table) c.requires.own.0 c.self.invariant.table_is t.ensures.own t.result.seen
    t.ensures.other

pub push_ending-requires-clause-covers : goal.push_ending-requires-clause-covers
push_ending-requires-clause-covers g c =
    let t = c.enter_both-turn in
    covers_both c.args.txn.session c.self.inside.number c.args.own.now c.self.inside.pass t.new.other t.result.actors t.result.seen t.ensures.actors
    c.requires.own.1 t.ensures.other c.self.invariant.actors

pub push_roomy-requires-clause-covers : goal.push_roomy-requires-clause-covers
push_roomy-requires-clause-covers g c =
    let t = c.enter_both-turn in
    covers_both c.args.txn.session c.self.inside.number c.args.own.now c.self.inside.pass t.new.other c.reserve_begin.new.turn.actors t.result.seen
    (ap (λ (w : View). w.actors) c.reserve_begin.ensures.same ∙ t.ensures.actors) c.requires.own.1 t.ensures.other c.self.invariant.actors

pub enter_both-turn-requires-clause-own : goal.enter_both-turn-requires-clause-own
enter_both-turn-requires-clause-own g c = c.requires.own.0 ∙ sym c.requires.chron

pub enter_both-turn-requires-clause-other : goal.enter_both-turn-requires-clause-other
enter_both-turn-requires-clause-other g c = c.self.invariant.table_is ∙ sym c.requires.chron

pub enter_both-turn-requires-clause-actor : goal.enter_both-turn-requires-clause-actor
enter_both-turn-requires-clause-actor g c = subst (λ (held : List Actor). 0 < length held) (sym c.requires.own.1) (omega arith)

pub push_ending-requires-clause-lent : goal.push_ending-requires-clause-lent
push_ending-requires-clause-lent g c = ap (λ (w : View). w.actors) c.enter_both-turn.ensures.own

pub push_roomy-requires-clause-lent : goal.push_roomy-requires-clause-lent
push_roomy-requires-clause-lent g c = ap (λ (w : View). w.actors) c.enter_both-turn.ensures.own

pub leave-requires-clause-lent : goal.leave-requires-clause-lent
leave-requires-clause-lent g c = ap (λ (w : View). w.actors) c.enter_both-turn.ensures.own

pub leave-requires-in-Waits-clause-lent : goal.leave-requires-in-Waits-clause-lent
leave-requires-in-Waits-clause-lent g c = ap (λ (w : View). w.actors) c.enter_both-turn.ensures.own

pub leave-requires-clause-table : goal.leave-requires-clause-table
leave-requires-clause-table g c =
    let t = c.enter_both-turn in
    lent_table _ _ c.args.own.now t.new.own (standing t.result) (standing c.reserve_begin.new.turn) c.requires.chron t.ensures.table c.requires.own.0
    t.ensures.own c.reserve_begin.ensures.same

pub leave-requires-in-Waits-clause-table : goal.leave-requires-in-Waits-clause-table
leave-requires-in-Waits-clause-table g c =
    let t = c.enter_both-turn in
    lent_table _ _ c.args.own.now t.new.own (standing t.result) (standing c.reserve_begin.new.turn) c.requires.chron t.ensures.table c.requires.own.0
    t.ensures.own c.reserve_begin.ensures.same

pub returns-then-is_elsewhere-clause-line : goal.returns-then-is_elsewhere-clause-line
returns-then-is_elsewhere-clause-line g c =
    c.leave_line.ensures ∙ ap (λ (station : Station g.row.D.Denot). left_line station.locks c.args.txn.session) c.self.view_is

pub returns-in-Got-clause-line : goal.returns-in-Got-clause-line
returns-in-Got-clause-line g c =
    subst (λ (station : Station g.row.D.Denot). IsServed (record { txn = c.args.txn; keys = c.args.keys }) station.locks c.take.new.self) c.self.view_is
    c.in-Got.ensures.tells

pub returns-in-Waits-clause-line : goal.returns-in-Waits-clause-line
returns-in-Waits-clause-line g c =
    subst (λ (station : Station g.row.D.Denot). IsHeldUp (record { txn = c.args.txn; keys = c.args.keys }) station.locks c.take.new.self c.in-Waits.by
    c.in-Waits.key) c.self.view_is c.in-Waits.ensures.tells

pub returns-in-Err-clause-unchanged : goal.returns-in-Err-clause-unchanged
returns-in-Err-clause-unchanged g c = ap (λ (station : Station g.row.D.Denot). station.locks) c.self.view_is
