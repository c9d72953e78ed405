use Rattle.std.proofs.Common.{rules, ◌≡◌, ◌∷◌, ◌++◌, [], subst}
use Rattle.dm_core.specs.Lawful.{Terms}
use Rattle.dm_opening.specs.Dealing.{ids_from}
use Rattle.dm_opening.specs.Opening.{AreNew}
use Rattle.dm_served.proofs.Again.{all_serve, last_serves}
use Rattle.dm_served.specs.Clients.{Serves}
use Rattle.dm_served.proofs.serving.serve_all.Goals as goal

pub serve_jobs-requires-clause-second : goal.serve_jobs-requires-clause-second
serve_jobs-requires-clause-second g c =
    let terms = c.args.start.terms in
    let t : terms ≡ c.in-Ok.shared = search rules in
    let n : AreNew g.N.Named.table terms (ids_from 1 terms.items) c.in-Ok.sessions.items = search rules in
    let e : c.in-Ok.sessions.items ≡ c.pop.new.self.items ++ c.in-Some.second ∷ [] = c.in-Some.ensures.items in
    let all = all_serve g.N.Named.table terms (ids_from 1 terms.items) c.in-Ok.sessions.items n in
    subst (λ (x : Terms). Serves x c.in-Some.second) t (last_serves terms c.in-Ok.sessions.items c.pop.new.self.items c.in-Some.second e all).0

pub serve_jobs-requires-clause-first : goal.serve_jobs-requires-clause-first
serve_jobs-requires-clause-first g c =
    let terms = c.args.start.terms in
    let t : terms ≡ c.in-Ok.shared = search rules in
    let n : AreNew g.N.Named.table terms (ids_from 1 terms.items) c.in-Ok.sessions.items = search rules in
    let e : c.in-Ok.sessions.items ≡ c.pop.new.self.items ++ c.in-Some.second ∷ [] = c.in-Some.ensures.items in
    let d : c.pop.new.self.items ≡ c.pop-2.new.self.items ++ c.in-Some-pop.first ∷ [] = c.in-Some-pop.ensures.items in
    let all = all_serve g.N.Named.table terms (ids_from 1 terms.items) c.in-Ok.sessions.items n in
    let rest = (last_serves terms c.in-Ok.sessions.items c.pop.new.self.items c.in-Some.second e all).1 in
    subst (λ (x : Terms). Serves x c.in-Some-pop.first) t (last_serves terms c.pop.new.self.items c.pop-2.new.self.items c.in-Some-pop.first d rest).0
