use Rattle.std.proofs.Common.{ℕ, ◌≡◌, ◌-◌, ◌<◌, ◌≤◌, List, [], length, get_or, sym, ap, ◌∙◌, arith}
use Rattle.std.specs.Prelude.{map, filter}
use Rattle.std.specs.List.{range_with_len}
use Rattle.std.proofs.lemmas.List.{get_or_read}
use Rattle.dm_event.specs.Vectors.{join_all}
use Rattle.dm_model.proofs.VectorFacts.{long_by}
use Rattle.dm_model.specs.Tests.{is_among}
use Rattle.dm_placement.specs.Scored.{home_in, vector_in}
use Rattle.dm_placement.proofs.Needs.{need_add, need_skip, parts_below}
use Rattle.dm_placement.proofs.lag.need.Goals as goal
use Rattle.dm_placement.proofs.lag.need.Goals.{then-holds, else-holds}

pub join-requires : goal.join-requires
join-requires c =
    let home = get_or c.args.homes.now c.loop-index.index 0 in
    let at_home : (1 ≤ home) × (home ≤ length c.args.vectors.now) = c.requires.homes c.loop-index.index 0 (omega arith) in
    let as_long : length (get_or c.args.vectors.now (home - 1) c.index-vectors-home.result) ≡ length c.args.vectors.now =
    c.requires.components (home - 1) c.index-vectors-home.result (omega (arith, at_home)) in
    ap (λ (v : List ℕ). length v) c.loop-index.invariant.joined ∙ long_by (length c.args.vectors.now) _
    ∙ sym (ap (λ (v : List ℕ). length v) c.index-vectors-home.is ∙ as_long)

pub loop-index-preserved : goal.loop-index-preserved
loop-index-preserved c =
    let vectors = c.args.vectors.now in
    let home = get_or c.args.homes.now c.loop-index.index 0 in
    let at_home : (1 ≤ home) × (home ≤ length vectors) = c.requires.homes c.loop-index.index 0 (omega arith) in
    record {
      joined = elim c.if-holds.branch [
        | then-holds w ↦
            let within : home - 1 < length vectors = omega (arith, at_home) in
            let is : w.index-vectors-home.result ≡ get_or vectors (home - 1) [] =
            get_or_read vectors (home - 1) w.index-vectors-home.result within w.index-vectors-home.is [] in
            let as_long : length (get_or vectors (home - 1) []) ≡ length vectors = c.requires.components (home - 1) [] within in
            w.need-is ∙ w.join.ensures ∙
            need_add (length vectors) (is_among c.args.wanted.now) (λ p. vector_in vectors (home_in c.args.homes.now p)) c.loop-index.index c.loop-index.need
            w.index-vectors-home.result
            c.loop-index.invariant.joined (sym w.if-holds.ensures.exact) is (ap (λ (v : List ℕ). length v) is ∙ as_long)
        | else-holds w ↦
            w.need-is ∙
            need_skip (length vectors) (is_among c.args.wanted.now) (λ p. vector_in vectors (home_in c.args.homes.now p)) c.loop-index.index c.loop-index.need
            c.loop-index.invariant.joined (sym w.if-holds.ensures.exact)
      ];
      ascends = λ some. c.holds.ensures.ascends;
    }

pub returns : goal.returns
returns c =
    let at_end : c.loop-index.index ≡ length c.args.homes.now = omega arith in
    c.loop-index.invariant.joined
    ∙ ap (λ (n : ℕ). join_all (length c.args.vectors.now) (map (λ p. vector_in c.args.vectors.now (home_in c.args.homes.now p))
    (filter (is_among c.args.wanted.now) (range_with_len 0 n)))) at_end
    ∙ ap (λ (xs : List ℕ). join_all (length c.args.vectors.now) (map (λ p. vector_in c.args.vectors.now (home_in c.args.homes.now p)) xs))
    (parts_below c.args.wanted.now (length c.args.homes.now) c.requires.few c.requires.wanted_homes
    (λ some. c.loop-index.invariant.ascends (omega (arith, some, at_end))))
