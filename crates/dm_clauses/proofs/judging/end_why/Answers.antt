use Rattle.std.proofs.Common.{◌≡◌, ℕ, List, Option, ap, sym, ◌∙◌}
use Rattle.std.specs.Prelude.{[], unwrap_or}
use Rattle.dm_model.specs.Bodies.{ran_at}
use Rattle.dm_model.specs.Clauses.{first}
use Rattle.dm_model.specs.Rows.{end_row}
use Rattle.dm_model.specs.Runs.{began_at}
use Rattle.dm_model.specs.Tests.{same_pairs}
use Rattle.dm_steps.proofs.Legality.{unbegun_idle}
use Rattle.dm_clauses.proofs.judging.end_why.Goals as goal

pub returns-in_default : goal.returns-in_default
returns-in_default g c =
    let layout = g.T.Told.layout c.args.told.now in
    let past = g.T.Told.past c.args.told.now in
    let txn = c.args.txn in
    sym (ap (λ (o : Option ℕ). first (end_row o (ran_at layout past (began_at txn past) c.args.ops.now).reads c.args.site c.args.ops.now c.args.reads.now))
    (unbegun_idle layout past c.is_legal.ensures.legal txn (sym c.begin_vector.ensures ∙ c.in_default.is)))

pub returns : goal.returns
returns g c =
    let layout = g.T.Told.layout c.args.told.now in
    let past = g.T.Told.past c.args.told.now in
    let txn = c.args.txn in
    let ops = c.args.ops.now in
    let began : began_at txn past ≡ c.in-Some.begin = ap (λ (o : Option (List ℕ)). unwrap_or o []) (sym c.begin_vector.ensures ∙ c.in-Some.is) in
    c.end_refusal.ensures ops c.args.reads.now (ran_at layout past (began_at txn past) ops).reads c.has_writes.ensures
    (c.reads_fit.ensures.fits ∙ ap (λ (v : List ℕ). same_pairs c.args.reads.now (ran_at layout past v ops).reads) (sym began))
    ∙ ap (λ (o : Option ℕ). first (end_row o (ran_at layout past (began_at txn past) ops).reads c.args.site ops c.args.reads.now)) c.run_site-runs.ensures
