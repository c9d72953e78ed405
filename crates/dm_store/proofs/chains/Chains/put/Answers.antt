use Rattle.std.proofs.Common.{◌≡◌, ap, sym, subst, true, ◌∙◌, true≢false, is_some, nat_eq}
use Rattle.std.specs.Map.{keys_of}
use Rattle.indexmap.proofs.CallerLemmas.{keys-insert_entry-present}
use Rattle.dm_model.specs.Tests.{is_among}
use Rattle.dm_store.specs.Chained.{Chained}
use Rattle.dm_store.proofs.Knowing.{known_stands}
use Rattle.dm_store.proofs.chains.Chains.put.Goals as goal

pub unreachable-requires : goal.unreachable-requires
unreachable-requires c =
    let known = subst (λ (w : Chained). is_among w.known c.args.version.key ≡ true) (sym c.self.view_is) c.requires.known in
    true≢false (sym (known_stands c.self.inside.newest c.args.version.key known) ∙ ap is_some c.in-Err.ensures.absent)

pub returns-clause-known : goal.returns-clause-known
returns-clause-known c =
    let known = subst (λ (w : Chained). is_among w.known c.args.version.key ≡ true) (sym c.self.view_is) c.requires.known in
    ap keys_of c.in-Ok.ensures.entries
    ∙ keys-insert_entry-present nat_eq c.self.inside.newest c.args.version.key _ (known_stands c.self.inside.newest c.args.version.key known)
    ∙ ap (λ (w : Chained). w.known) c.self.view_is
