use Rattle.std.proofs.Common.{◌≡◌, List, ◌∷◌, [], ◌++◌, ap, sym, ◌∙◌, subst, true}
use Rattle.std.specs.List.{AllByRecursion}
use Rattle.dm_restart.proofs.Lacking.{own_found, rising, completed_by, completed_none}
use Rattle.dm_restart.proofs.plans.plan.Goals as goal
use Rattle.dm_restart.proofs.plans.plan.Goals.{in-Some+in_ok-install, in_default}
use Rattle.dm_store.specs.Contents.{Contents}
use Rattle.dm_store.specs.Known.{AreKnown}
use Rattle.dm_store.specs.Rising.{is_above}
use Rattle.dm_store.specs.declared.past.Past.{Past}

-- the keys of all installed transactions are known
abbrev AllKnown : Contents → Type 0
AllKnown s = AllByRecursion (λ t. AreKnown s.known t.writes) s.installed

pub install-requires-clause-few : goal.install-requires-clause-few
install-requires-clause-few c =
    let o = own_found c.args.schema.now.sites c.args.site c.args.own.now c.args.past.now c.requires.own c.requires.whole c.count_of.result c.count_of.ensures.exact
    (record { origin = c.args.site; seq = c.in-Some.seq; writes = c.in-Some.writes.now }) (c.in-Some.ensures c.args.site) in
    o.few

pub install-requires-clause-ascending : goal.install-requires-clause-ascending
install-requires-clause-ascending c =
    let o = own_found c.args.schema.now.sites c.args.site c.args.own.now c.args.past.now c.requires.own c.requires.whole c.count_of.result c.count_of.ensures.exact
    (record { origin = c.args.site; seq = c.in-Some.seq; writes = c.in-Some.writes.now }) (c.in-Some.ensures c.args.site) in
    o.ascending

pub install-requires-clause-rising : goal.install-requires-clause-rising
install-requires-clause-rising c =
    subst (λ (ts : List Past). is_above ts c.args.site c.in-Some.seq ≡ true) (sym c.in_ok-store.ensures.installed)
    (rising c.args.schema.now.sites c.args.site c.args.own.now c.args.past.now c.requires.own c.requires.whole c.count_of.result c.count_of.ensures.exact
    (record { origin = c.args.site; seq = c.in-Some.seq; writes = c.in-Some.writes.now }) (c.in-Some.ensures c.args.site))

pub returns-clause-installed : goal.returns-clause-installed
returns-clause-installed c =
    elim c.match-above.branch [
      | in-Some+in_ok-install w ↦ (let t : Past = record { origin = c.args.site; seq = w.in-Some.seq; writes = w.in-Some.writes.now } in
          ap (λ (s : Contents). s.installed) w.store-is
          ∙ w.in_ok-install.ensures.installed
          ∙ ap (λ (ts : List Past). ts ++ t ∷ []) c.in_ok-store.ensures.installed
          ∙ sym (completed_by c.args.schema.now.sites c.args.site c.args.own.now c.args.past.now c.requires.own c.requires.whole c.count_of.result
          c.count_of.ensures.exact t (w.in-Some.ensures c.args.site)))
      | in_default w
          ↦ ap (λ (s : Contents). s.installed) w.store-is
          ∙ c.in_ok-store.ensures.installed
          ∙ sym (completed_none c.args.schema.now.sites c.args.site c.args.own.now c.args.past.now c.requires.own c.requires.whole c.count_of.result
          c.count_of.ensures.exact (w.in_default.ensures c.args.site))
    ]

pub returns-clause-known : goal.returns-clause-known
returns-clause-known c =
    elim c.match-above.branch [
      | in-Some+in_ok-install w ↦ subst AllKnown (sym w.store-is) w.in_ok-install.ensures.known
      | in_default w ↦ subst AllKnown (sym w.store-is)
          (subst (λ (ts : List Past). AllByRecursion (λ (t : Past). AreKnown c.in_ok-store.store.known t.writes) ts) (sym c.in_ok-store.ensures.installed)
          c.in_ok-store.ensures.known)
    ]
