use Rattle.std.proofs.Common.{◌≡◌, ℕ, sym, ◌∙◌, arith, length}
use Rattle.std.specs.Prelude.{map}
use Rattle.dm_event.specs.declared.step.Pair.{Pair}
use Rattle.std.proofs.lemmas.List.{length-map}
use Rattle.dm_clauses.proofs.Ascending.{ascends_on, ascends_not, ascends_last}
use Rattle.dm_clauses.proofs.shape.pairs_ascend.Goals as goal

pub returns-then-key_at : goal.returns-then-key_at
returns-then-key_at c =
    let f : Pair → ℕ = λ p. p.key in
    let long : length (map f c.args.pairs.now) ≡ length c.args.pairs.now = length-map c.args.pairs.now f in
    sym (sym c.loop-i.invariant ∙ ascends_not (map f c.args.pairs.now) c.loop-i.i (omega (arith, long))
    (omega (arith, c.key_at.ensures, c.key_at-in-loop-i.ensures)))

pub loop-i-preserved : goal.loop-i-preserved
loop-i-preserved c =
    let f : Pair → ℕ = λ p. p.key in
    let long : length (map f c.args.pairs.now) ≡ length c.args.pairs.now = length-map c.args.pairs.now f in
    ascends_on (map f c.args.pairs.now) c.loop-i.i (omega (arith, long)) (omega (arith, c.key_at.ensures, c.key_at-in-loop-i.ensures)) ∙ c.loop-i.invariant

pub returns : goal.returns
returns c =
    let f : Pair → ℕ = λ p. p.key in
    let long : length (map f c.args.pairs.now) ≡ length c.args.pairs.now = length-map c.args.pairs.now f in
    sym (ascends_last (map f c.args.pairs.now) c.loop-i.i (omega (arith, long))) ∙ c.loop-i.invariant
