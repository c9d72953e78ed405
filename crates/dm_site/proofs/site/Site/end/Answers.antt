use Rattle.std.proofs.Common.{[], ◌∷◌, ◌++◌, refl, ap, ◌∙◌}
use Rattle.dm_event.specs.declared.step.Step.TheVariants.{End}
use Rattle.dm_model.specs.Bodies.{has_writes}
use Rattle.dm_desk.proofs.Desks.{met_and}
use Rattle.dm_site.proofs.Finishing.{after_end, came_here, end_follows, end_reads, serves_held}
use Rattle.dm_invariant.proofs.Passing.{given_back}
use Rattle.dm_invariant.specs.Running.{Going}
use Rattle.dm_site.proofs.site.Site.end.Goals as goal

pub push_ending-requires-clause-follows : goal.push_ending-requires-clause-follows
push_ending-requires-clause-follows g c =
    let t = c.enter_both-turn in
    end_follows
    (serves_held {D = g.row.D.Denot} _ _ _ c.self.view_is c.self.invariant t.ensures.turned t.ensures.met c.run.view_is c.requires.here
    c.run.invariant refl c.requires.holds)
    c.end_step.result c.end_step.ensures (ap (λ (run : Going). has_writes run.ops) c.run.view_is ∙ c.requires.reads_only)

pub invariant_of-self : goal.invariant_of-self
invariant_of-self g c =
    let t = c.enter_both-turn in
    after_end
    (serves_held {D = g.row.D.Denot} _ _ _ c.self.view_is c.self.invariant t.ensures.turned t.ensures.met c.run.view_is c.requires.here
    c.run.invariant refl c.requires.holds)
    c.push_ending.new.other c.end_step.result c.let_go.new.locks c.end_step.ensures
    (ap (λ (run : Going). has_writes run.ops) c.run.view_is ∙ c.requires.reads_only) c.let_go.ensures
    (met_and c.self.inside.pass t.new.other c.push_ending.new.other t.result.seen (t.result.seen ++ c.end_step.result ∷ []) t.ensures.other
    c.push_ending.ensures.other)

pub returns-clause-ok : goal.returns-clause-ok
returns-clause-ok g c =
    let t = c.enter_both-turn in
    let x = c.push_ending in
    came_here {D = g.row.D.Denot} _ _ _ c.self.view_is c.self.invariant t.ensures.turned t.ensures.met c.run.view_is c.requires.own.1
    (λ site run. End site run.txn run.ops c.in-Ok.reads) x.new.own x.new.other c.end_step.result
    (end_reads c.end_step.result c.self.inside.number c.run.inside.txn c.run.inside.overlay.ops _ c.in-Ok.reads c.end_step.ensures
    (c.in-Ok.ensures ∙ c.reads.ensures))
    (given_back c.args.own.now t.new.own x.new.own t.result.actors (t.result.seen ++ c.end_step.result ∷ []) t.ensures.own t.ensures.actors x.ensures.own)
    (met_and c.self.inside.pass t.new.other x.new.other t.result.seen (t.result.seen ++ c.end_step.result ∷ []) t.ensures.other x.ensures.other)
