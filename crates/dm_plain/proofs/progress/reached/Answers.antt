use Rattle.std.proofs.Common.{◌≡◌, ℕ, List, Option, ap, arith, length, []}
use Rattle.std.specs.Prelude.{reverse}
use Rattle.std.specs.Prelude.{unwrap_or}
use Rattle.std.proofs.lemmas.List.{length-reverse}
use Rattle.dm_event.specs.Vectors.{at}
use Rattle.dm_steps.proofs.Legality.{refreshed_few}
use Rattle.dm_plain.proofs.progress.reached.Goals as goal

pub overflow_add-result : goal.overflow_add-result
overflow_add-result c =
    let few = refreshed_few c.args.schema.now (reverse c.args.steps.now) c.requires c.args.site c.args.origin c.if-site-origin.false in
    let long : length (reverse c.args.steps.now) ≡ length c.args.steps.now = length-reverse c.args.steps.now in
    let set = ap (λ (o : Option (List ℕ)). at (unwrap_or o []) c.args.origin) c.last_restart.ensures in
    omega (arith, few, long, set, c.component.ensures, c.refreshes.ensures.memory, c.refreshes.ensures.exact)

pub returns-else-site-origin-clause-few : goal.returns-else-site-origin-clause-few
returns-else-site-origin-clause-few c =
    let few = refreshed_few c.args.schema.now (reverse c.args.steps.now) c.requires c.args.site c.args.origin c.if-site-origin.false in
    let long : length (reverse c.args.steps.now) ≡ length c.args.steps.now = length-reverse c.args.steps.now in
    let set = ap (λ (o : Option (List ℕ)). at (unwrap_or o []) c.args.origin) c.last_restart.ensures in
    omega (arith, few, long, set, c.component.ensures, c.refreshes.ensures.exact)
