use Rattle.std.proofs.Common.{ℕ, ◌<◌, ◌≤◌, List, Vec, Global, Ok, Err, length, ap, sym, subst, ◌∙◌, arith}
use Rattle.std.proofs.lemmas.List.{length-map, with_items_is}
use Rattle.std.specs.Prelude.{Result, OnOk}
use Rattle.std.specs.Vec.{with_items}
use Rattle.dm_index.proofs.index.Index.reserve.Goals as goal
use Rattle.dm_index.specs.Places.{Places}
use Rattle.dm_index.specs.Rooms.{rooms_of, room_at}

on_ok : {A E : Type 0} (r : Result A E) (P Q : Type 0) → OnOk r P → (P → Q) → OnOk r Q
on_ok (Ok x) P Q h f = f h
on_ok (Err e) P Q h f = tt

pub returns-clause-all : goal.returns-clause-all
returns-clause-all c =
    let shown = ap (λ (p : Places). length p.entries) c.self.view_is in
    let items = length-map c.self.inside.entries.items (λ (v : Vec ℕ Global). v.items) in
    let read = ap (λ (xs : List (Vec ℕ Global)). length xs) c.deref_mut.ensures.value in
    let long = c.reserve.ensures.long ∙ c.deref_mut.ensures.len in
    on_ok c.reserve.result ((k : ℕ) → k < length c.deref_mut.result.now → c.args.count ≤ room_at (rooms_of c.reserve.new.places) k)
    ((i : ℕ) → i < length c.args.self.now.entries → c.args.count ≤ room_at (rooms_of (with_items c.self.inside.entries c.reserve.new.places).items) i)
    c.reserve.ensures.all
    (λ h i l.
    subst (λ (xs : List (Vec ℕ Global)). c.args.count ≤ room_at (rooms_of xs) i) (sym (with_items_is c.self.inside.entries c.reserve.new.places long))
    (h i (omega (arith, l, shown, items, read))))
