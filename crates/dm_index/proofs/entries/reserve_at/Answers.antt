use Rattle.std.proofs.Common.{ℕ, ◌-◌, ◌∙◌, ap, sym, arith, Vec, Global}
use Rattle.std.specs.Prelude.{vec_len, vec_capacity}
use Rattle.dm_index.proofs.Rooms.{own_read, none_less, same_items}
use Rattle.dm_index.proofs.entries.reserve_at.Goals as goal

pub returns-in_err-reserve-clause-items : goal.returns-in_err-reserve-clause-items
returns-in_err-reserve-clause-items c =
    same_items (λ (v : Vec ℕ Global). v.items) c.args.places.now c.args.i c.index-places-i.result c.reserve.new.self c.requires c.index-places-i.is
    (c.reserve.ensures.items ∙ ap (λ (v : Vec ℕ Global). v.items) (sym c.index-places-i.is))

pub returns-in_err-reserve-clause-room : goal.returns-in_err-reserve-clause-room
returns-in_err-reserve-clause-room c =
    let len = ap (λ (v : Vec ℕ Global). vec_len v) c.index-places-i.is in
    let capacity = ap (λ (v : Vec ℕ Global). vec_capacity v) c.index-places-i.is in
    let same = c.reserve.ensures.len in
    let more = c.reserve.ensures.capacity in
    none_less (λ (v : Vec ℕ Global). vec_capacity v - vec_len v) c.args.places.now c.args.i c.index-places-i.result c.reserve.new.self c.requires
    c.index-places-i.is (omega (arith, len, capacity, same, more))

pub returns-clause-own : goal.returns-clause-own
returns-clause-own c =
    let own = own_read (λ (v : Vec ℕ Global). vec_capacity v - vec_len v) c.args.places.now c.args.i c.reserve.new.self c.requires in
    let room = c.in_ok-reserve.ensures.ok in
    omega (arith, own, room)

pub returns-clause-items : goal.returns-clause-items
returns-clause-items c =
    same_items (λ (v : Vec ℕ Global). v.items) c.args.places.now c.args.i c.index-places-i.result c.reserve.new.self c.requires c.index-places-i.is
    (c.reserve.ensures.items ∙ ap (λ (v : Vec ℕ Global). v.items) (sym c.index-places-i.is))

pub returns-clause-room : goal.returns-clause-room
returns-clause-room c =
    let len = ap (λ (v : Vec ℕ Global). vec_len v) c.index-places-i.is in
    let capacity = ap (λ (v : Vec ℕ Global). vec_capacity v) c.index-places-i.is in
    let same = c.reserve.ensures.len in
    let more = c.reserve.ensures.capacity in
    none_less (λ (v : Vec ℕ Global). vec_capacity v - vec_len v) c.args.places.now c.args.i c.index-places-i.result c.reserve.new.self c.requires
    c.index-places-i.is (omega (arith, len, capacity, same, more))
