use Rattle.std.proofs.Common.{Some, ◌≡◌, refl, ap, ◌∙◌, rules, arith}
use Rattle.std.specs.Prelude.{reverse}
use Rattle.std.proofs.lemmas.Int.{to_z-of_z}
use Rattle.std.proofs.lemmas.List.{length-reverse}
use Rattle.dm_store.specs.Chained.{Chained}
use Rattle.dm_store.specs.Versions.{latest_version}
use Rattle.dm_store.proofs.Following.{stop, in_bounds, answer, onward, lower}
use Rattle.dm_store.proofs.chains.Chains.value.Goals as goal

pub index-link-requires : goal.index-link-requires
index-link-requires c =
    let below = in_bounds (reverse c.self.inside.links.items) c.args.key c.args.begin.now c.loop-next.next c.in-Some.place c.loop-next.invariant c.in-Some.is in
    omega (arith, length-reverse c.self.inside.links.items, c.self.inside.links.ok)

pub returns-then-version-get : goal.returns-then-version-get
returns-then-version-get c =
    let same : Some c.index-link.result.now.version.value ≡ latest_version c.args.self.now.versions c.args.key c.args.begin.now =
    answer (reverse c.self.inside.links.items) c.args.key c.args.begin.now c.loop-next.next c.in-Some.place c.loop-next.invariant c.in-Some.is
    c.self.inside.links.items refl
    c.index-link.result.now c.index-link.ensures (omega (arith, c.get-in-Some.ensures))
    ∙ ap (λ (w : Chained). latest_version w.versions c.args.key c.args.begin.now) c.self.view_is in
    search (rules, same, to_z-of_z)

pub loop-next-smaller : goal.loop-next-smaller
loop-next-smaller c =
    lower (reverse c.self.inside.links.items) c.args.key c.args.begin.now c.loop-next.next c.in-Some.place c.loop-next.invariant c.in-Some.is
    c.self.inside.links.items refl
    c.index-link.result.now c.index-link.ensures

pub loop-next-preserved : goal.loop-next-preserved
loop-next-preserved c =
    onward (reverse c.self.inside.links.items) c.args.key c.args.begin.now c.loop-next.next c.in-Some.place c.loop-next.invariant c.in-Some.is
    c.self.inside.links.items refl
    c.index-link.result.now c.index-link.ensures (omega (arith, c.get-in-Some.ensures))

pub returns : goal.returns
returns c =
    stop (reverse c.self.inside.links.items) c.args.key c.args.begin.now c.loop-next.next c.loop-next.invariant c.in_default.is
    ∙ ap (λ (w : Chained). latest_version w.versions c.args.key c.args.begin.now) c.self.view_is
