use Rattle.std.proofs.Common.{◌+◌, ◌<◌, length, refl, arith}
use Rattle.std.specs.Prelude.{option_copied}
use Rattle.std.proofs.lemmas.Option.{slice_get_read}
use Rattle.dm_steps.proofs.Slots.{slot_more, slots_done}
use Rattle.dm_numbers.specs.Counted.{told_site}
use Rattle.dm_numbers.specs.declared.site.SiteNumbers.{SiteNumbers}
use Rattle.dm_numbers.proofs.site.advance.Goals as goal

pub loop-i-preserved : goal.loop-i-preserved
loop-i-preserved c =
    let inside : c.loop-i.i < length c.loop-i.sites = omega arith in
    slot_more (λ k (a : SiteNumbers). told_site (k + 1) c.args.step.now (option_copied c.args.pending) a) c.args.sites.now c.loop-i.sites
    c.loop-i.i (c.loop-i.i + 1) _ c.next_site.result refl inside
    (slice_get_read c.loop-i.sites _ c.loop-i.i c.index-sites-i.result refl inside c.index-sites-i.is) c.next_site.ensures c.loop-i.invariant

pub returns-clause-each : goal.returns-clause-each
returns-clause-each c =
    slots_done (λ k (a : SiteNumbers). told_site (k + 1) c.args.step.now (option_copied c.args.pending) a) c.args.sites.now c.loop-i.sites
    c.loop-i.i c.loop-i.auto.sites (omega arith) c.loop-i.invariant
