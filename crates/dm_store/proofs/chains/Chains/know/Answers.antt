use Rattle.std.proofs.Common.{◌≡◌, true, true≢false, subst, ap, sym, ◌∙◌}
use Rattle.dm_model.specs.Tests.{is_among}
use Rattle.std.specs.Map.{keys_of}
use Rattle.dm_store.specs.Chained.{Chained}
use Rattle.dm_store.specs.Known.{with_known}
use Rattle.dm_store.proofs.Knowing.{known_new, known_old, known_stands}
use Rattle.dm_store.proofs.chains.Chains.know.Goals as goal

pub returns-in_ok-insert-clause-known : goal.returns-in_ok-insert-clause-known
returns-in_ok-insert-clause-known c =
    ap keys_of c.in_ok-insert.ensures.entries
    ∙ known_new c.self.inside.newest c.args.key _ (sym c.contains_key.ensures ∙ c.if-not-contains_key.true)
    ∙ ap (λ (w : Chained). with_known w.known c.args.key) c.self.view_is

pub returns-else-not-contains_key-clause-known : goal.returns-else-not-contains_key-clause-known
returns-else-not-contains_key-clause-known c =
    ap (λ (w : Chained). w.known) (sym c.self.view_is)
    ∙ known_old c.self.inside.newest c.args.key (sym c.contains_key.ensures ∙ c.if-not-contains_key.false)
    ∙ ap (λ (w : Chained). with_known w.known c.args.key) c.self.view_is

pub returns-in_err-insert-clause-again : goal.returns-in_err-insert-clause-again
returns-in_err-insert-clause-again c = λ known.
    let there = subst (λ (w : Chained). is_among w.known c.args.key ≡ true) (sym c.self.view_is) known in
    absurd (true≢false (sym (known_stands c.self.inside.newest c.args.key there) ∙ sym c.contains_key.ensures ∙ c.if-not-contains_key.true))
