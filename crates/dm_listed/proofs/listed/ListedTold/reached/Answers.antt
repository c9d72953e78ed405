use Rattle.std.proofs.Common.{ap, sym, ◌∙◌}
use Rattle.std.specs.Prelude.{nat_le}
use Rattle.std.proofs.lemmas.Bool.{and_parts, leb-true}
use Rattle.dm_listed.specs.Tales.{Tale}
use Rattle.dm_model.proofs.VectorFacts.{at_by}
use Rattle.dm_model.specs.Progress.{reached}
use Rattle.dm_listed.proofs.listed.ListedTold.reached.Goals as goal

pub returns-clause-exact : goal.returns-clause-exact
returns-clause-exact c =
    let told = c.args.self.now in
    let origin = c.args.origin in
    let r = and_parts (nat_le 1 origin) (nat_le origin told.layout.sites) c.requires in
    c.reached.ensures.exact
    ∙ ap (λ (t : Tale). reached c.args.site origin t.past) c.self.view_is
    ∙ sym (at_by told.layout.sites (λ j. reached c.args.site j told.past) origin (leb-true 1 origin r.0) (leb-true origin told.layout.sites r.1))
