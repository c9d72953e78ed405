use Rattle.std.proofs.Common.{ℕ, List, Option, ap, sym, ◌∙◌}
use Rattle.std.specs.Prelude.{is_some}
use Rattle.dm_model.specs.Bodies.{ran_at}
use Rattle.dm_steps.proofs.Legality.{runner_began}
use Rattle.dm_clauses.proofs.judging.commit_why.Goals as goal

pub commit_refusal-requires-clause-begun : goal.commit_refusal-requires-clause-begun
commit_refusal-requires-clause-begun g c h =
    ap (λ (o : Option (List ℕ)). is_some o) c.begin_vector.ensures
    ∙ runner_began (g.T.Told.layout c.args.told.now) (g.T.Told.past c.args.told.now) c.is_legal.ensures.legal c.args.entry.now.txn (sym (ap (λ (o : Option ℕ). is_some o) c.run_site-runs.ensures) ∙ h)

pub returns : goal.returns
returns g c =
    rw (c.run_site-runs.ensures, c.entry_count.ensures.exact, c.begin_vector.ensures, c.undeclared_in.ensures, c.declared.ensures, c.as_slice-ops.ensures) at
    (c.commit_refusal.ensures (ran_at (g.T.Told.layout c.args.told.now) (g.T.Told.past c.args.told.now) c.args.entry.now.begin c.args.entry.now.ops)
    (rw (c.as_slice-ops.ensures, c.as_slice.ensures, c.as_slice-2.ensures) at c.body_fits.ensures.fits))
