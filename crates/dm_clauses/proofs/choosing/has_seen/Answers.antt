use Rattle.std.proofs.Common.{◌≡◌, ℕ, List, ap, ◌∙◌, rules}
use Rattle.dm_event.specs.Vectors.{is_at_most}
use Rattle.dm_model.specs.Progress.{site_vector}
use Rattle.dm_model.specs.Sessions.{session_vector}
use Rattle.dm_clauses.proofs.choosing.has_seen.Goals as goal

pub returns : goal.returns
returns g c =
    let sites = (g.T.Told.layout c.args.told.now).sites in
    let past = g.T.Told.past c.args.told.now in
    let seen : c.is_none.result ≡ is_at_most c.session_vector.result c.vector-own.result = search rules in
    seen
    ∙ ap (λ (u : List ℕ). is_at_most u c.vector-own.result) c.session_vector.ensures
    ∙ ap (λ (v : List ℕ). is_at_most (session_vector sites past c.args.session) v)
    (c.vector-own.ensures ∙ ap (λ (i : ℕ). site_vector sites past i) c.around.ensures)
