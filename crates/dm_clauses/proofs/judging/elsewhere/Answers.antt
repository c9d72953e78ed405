use Rattle.std.proofs.Common.{◌+◌, ℕ, List, Option, ap, sym, ◌∙◌, drop}
use Rattle.std.specs.Option.{option_or}
use Rattle.dm_clauses.proofs.KeysAway.{left, left_at, key_in}
use Rattle.dm_steps.proofs.Past.{drop_all}
use Rattle.dm_clauses.proofs.judging.elsewhere.Goals as goal

pub away-requires : goal.away-requires
away-requires g c = key_in (g.T.Told.layout c.args.told.now) c.args.keys.now c.requires c.loop-key.key-index c.loop-key-test.true

pub returns-in-Some : goal.returns-in-Some
returns-in-Some g c =
    sym (sym c.loop-key.invariant ∙ left_at (g.T.Told.layout c.args.told.now) (g.T.Told.past c.args.told.now) c.args.site c.args.keys.now c.loop-key.key-index c.loop-key-test.true
    ∙ ap (λ (o : Option ℕ). option_or o (left (g.T.Told.layout c.args.told.now) (g.T.Told.past c.args.told.now) c.args.site (drop (c.loop-key.key-index + 1) c.args.keys.now)))
    (sym c.away.ensures ∙ c.in-Some.is))

pub loop-key-preserved : goal.loop-key-preserved
loop-key-preserved g c =
    sym (left_at (g.T.Told.layout c.args.told.now) (g.T.Told.past c.args.told.now) c.args.site c.args.keys.now c.loop-key.key-index c.loop-key-test.true
    ∙ ap (λ (o : Option ℕ). option_or o (left (g.T.Told.layout c.args.told.now) (g.T.Told.past c.args.told.now) c.args.site (drop (c.loop-key.key-index + 1) c.args.keys.now)))
    (sym c.away.ensures ∙ c.in_default.is))
    ∙ c.loop-key.invariant

pub returns : goal.returns
returns g c =
    sym (sym c.loop-key.invariant ∙ ap (λ (l : List ℕ). left (g.T.Told.layout c.args.told.now) (g.T.Told.past c.args.told.now) c.args.site l)
    (drop_all c.args.keys.now c.loop-key.key-index c.loop-key-test.false))
