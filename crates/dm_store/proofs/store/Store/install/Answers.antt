use Rattle.std.proofs.Common.{List, ◌∷◌, ◌++◌, [], ap, sym, ◌∙◌, arith, map, length}
use Rattle.std.specs.Prelude.{reverse}
use Rattle.dm_event.specs.declared.step.Pair.{Pair}
use Rattle.dm_store.specs.Contents.{Contents}
use Rattle.dm_store.specs.Stores.{latest_first, versions_by}
use Rattle.dm_store.specs.Versions.{version_by}
use Rattle.dm_store.specs.declared.past.Past.{Past}
use Rattle.dm_store.proofs.Installing.{pushed, last_in}
use Rattle.dm_store.proofs.store.Store.install.Goals as goal

pub invariant_of-self : goal.invariant_of-self
invariant_of-self c =
    let new = pushed c.args.origin c.args.seq c.as_slice-pairs.result.now c.args.writes.now c.self.inside.installed.items c.push_reserved.new.self.items
    c.self.inside.chains.versions c.put_all.new.self.versions c.as_slice-pairs.ensures c.push_reserved.ensures.items c.put_all.ensures.versions in
    record {
      whole =
          c.put_all.ensures.versions
          ∙ (λ i. map (version_by c.args.origin c.args.seq) (c.as_slice-pairs.ensures i) ++ c.self.invariant.whole i)
          ∙ ap (λ (ts : List Past). versions_by ts) (sym new);
      room_for_versions =
          let few = c.requires.few in let same = ap (λ (ps : List Pair). length ps) c.as_slice-pairs.ensures in
          (omega arith);
      room_for_installs = (omega arith);
    }

pub returns-clause-installed : goal.returns-clause-installed
returns-clause-installed c =
    let t : Past = record { origin = c.args.origin; seq = c.args.seq; writes = c.args.writes.now } in
    ap (λ (ts : List Past). reverse ts)
    (pushed c.args.origin c.args.seq c.as_slice-pairs.result.now c.args.writes.now c.self.inside.installed.items c.push_reserved.new.self.items
    c.self.inside.chains.versions c.put_all.new.self.versions c.as_slice-pairs.ensures c.push_reserved.ensures.items c.put_all.ensures.versions)
    ∙ last_in t (latest_first c.self.inside)
    ∙ ap (λ (w : Contents). w.installed ++ t ∷ []) c.self.view_is
