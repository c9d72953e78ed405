use Rattle.std.proofs.Common.{◌≡◌, Some, None, ap, ◌∙◌, rules}
use Rattle.std.proofs.lemmas.Int.{to_z-of_z}
use Rattle.dm_event.specs.Layout.{opening_value}
use Rattle.dm_store.specs.Contents.{Contents}
use Rattle.dm_store.specs.Reads.{value_of}
use Rattle.dm_store.specs.Stores.{latest_first}
use Rattle.dm_store.proofs.Installing.{read_of}
use Rattle.dm_store.proofs.store.Store.read.Goals as goal

pub returns-in-Some : goal.returns-in-Some
returns-in-Some c =
    let same : c.in-Some.value ≡ value_of c.args.self.now.layout c.args.self.now.installed c.args.key c.args.begin.now =
    read_of c.self.inside.schema (latest_first c.self.inside) c.self.inside.chains.versions c.args.key c.args.begin.now (Some c.in-Some.value)
    c.self.invariant.whole c.in-Some.ensures
    ∙ ap (λ (w : Contents). value_of w.layout w.installed c.args.key c.args.begin.now) c.self.view_is in
    search (rules, same)

pub returns-in-None : goal.returns-in-None
returns-in-None c =
    let same : opening_value c.self.inside.schema c.args.key ≡ value_of c.args.self.now.layout c.args.self.now.installed c.args.key c.args.begin.now =
    read_of c.self.inside.schema (latest_first c.self.inside) c.self.inside.chains.versions c.args.key c.args.begin.now None c.self.invariant.whole
    c.in-None.ensures
    ∙ ap (λ (w : Contents). value_of w.layout w.installed c.args.key c.args.begin.now) c.self.view_is in
    search (rules, same, to_z-of_z, c.opening.ensures)
