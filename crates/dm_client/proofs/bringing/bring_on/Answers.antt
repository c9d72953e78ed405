use Rattle.std.proofs.Common.{rules, ◌≡◌, ℕ, true, sym, ap, subst}
use Rattle.dm_client.proofs.Carrying.{wants_on}
use Rattle.dm_table.specs.Places.{Placed, WantsPart}
use Rattle.dm_client.proofs.bringing.bring_on.Goals as goal

pub ask-requires-clause-wanted : goal.ask-requires-clause-wanted
ask-requires-clause-wanted g c =
    let t : c.args.wanted ≡ true = search rules in
    let p : c.args.place.now.part ≡ c.meet.new.self.part = sym (ap (λ (q : Placed). q.part) c.meet.ensures.same) in
    let o = c.meet.ensures.own in
    subst (λ (n : ℕ). WantsPart c.args.on n c.args.to c.meet.new.own) p
    (wants_on c.args.on c.args.place.now.part c.args.to c.args.own.now c.meet.new.own o.0 (o.1 c.args.on.session c.requires.own.1) (c.requires.wants t))
