use Rattle.std.proofs.Common.{ℕ, ◌-◌, [], ◌∷◌, ◌++◌, ap, sym, arith, Vec, Global, ◌∙◌}
use Rattle.std.specs.Prelude.{vec_len, vec_capacity}
use Rattle.dm_index.proofs.Reading.{appended}
use Rattle.dm_index.proofs.Rooms.{one_less}
use Rattle.dm_index.proofs.entries.append_at.Goals as goal

pub returns-clause-items : goal.returns-clause-items
returns-clause-items c =
    appended (λ (v : Vec ℕ Global). v.items) c.args.places.now c.args.i c.args.place c.index-places-i.result c.push.new.self c.requires.here c.index-places-i.is
    (c.in-Ok.ensures.items ∙ ap (λ (v : Vec ℕ Global). v.items ++ c.args.place ∷ []) (sym c.index-places-i.is))

pub returns-clause-room : goal.returns-clause-room
returns-clause-room c =
    let len = ap (λ (v : Vec ℕ Global). vec_len v) c.index-places-i.is in
    let capacity = ap (λ (v : Vec ℕ Global). vec_capacity v) c.index-places-i.is in
    let longer = c.in-Ok.ensures.len in
    let more = c.in-Ok.ensures.capacity in
    one_less (λ (v : Vec ℕ Global). vec_capacity v - vec_len v) c.args.places.now c.args.i c.index-places-i.result c.push.new.self c.requires.here
    c.index-places-i.is (omega (arith, len, capacity, longer, more))
