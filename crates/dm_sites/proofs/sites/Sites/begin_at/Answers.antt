use Rattle.std.proofs.Common.{rules, inl}
use Rattle.dm_site.specs.Answers.{IsDownIn}
use Rattle.dm_sites.proofs.sites.Sites.begin_at.Goals as goal

pub bring_up-requires-clause-may : goal.bring_up-requires-clause-may
bring_up-requires-clause-may g c =
    let d : IsDownIn c.deref_mut-in-Ok-Down.result.now.site.pass c.deref_mut-in-Ok-Down.result.now.site.number = search rules in
    inl d
