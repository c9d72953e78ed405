use Rattle.dm_chronicle.specs.Belongs.{belongs}
use Rattle.std.proofs.Common.{[], ◌∷◌, None, Some, ◌∙◌, refl, arith}
use Rattle.atomic_table.specs.Table.{rest}
use Rattle.dm_chronicle.specs.Rule.{first_view}
use Rattle.dm_chronicle.proofs.Keeps.{opens}
use Rattle.dm_chronicle.proofs.Turns.{open_allowed, give_allowed}
use Rattle.dm_chronicle.proofs.chronicle.Chronicle.open.Goals as goal

pub vacant-made-requires : goal.vacant-made-requires
vacant-made-requires g c = opens _ _ _ _ _ c.requires.apart c.requires.some c.requires.lawful

pub store-requires : goal.store-requires
store-requires g c = let e = c.in-Ok.ensures in let L = g.L.Law in (
  e.2,
  omega (arith, e.0),
  open_allowed L.list L.fixed (belongs L.actors) L.may_follow _ _ _ (first_view L.list L.fixed (belongs L.actors) L.may_follow c.args.kept c.args.actors.items)
      _ e.4 refl,
)

pub store-requires-2 : goal.store-requires-2
store-requires-2 g c =
    let e = c.in-Ok.ensures in
    let L = g.L.Law in
    let first = first_view L.list L.fixed (belongs L.actors) L.may_follow c.args.kept c.args.actors.items in
    let x = c.exchange-empty.ensures in
    let v = record first { mark = 1 } in
    let opened = c.store.ensures.2 ∙ (λ i. (record (e.4 i).0 { mark = 1 }, (0, None) ∷ [])) in (
      x.0 ∙ (c.store.ensures.0 ∙ e.2),
      omega (arith, e.0),
      give_allowed L.list L.fixed (belongs L.actors) L.may_follow _ _ _ v _ c.args.kept (x.3 ∙ (λ i. ((opened i).0, (0, Some c.args.kept) ∷ rest (opened i).1)))
          refl refl refl,
    )
