use Rattle.std.proofs.Common.{ℕ, ◌+◌, ◌-◌, ◌<◌, ◌≡◌, List, [], length, get_or, set, map, sym, ap, ◌∙◌, arith, subst, take, length-set, to_z, of_z}
use Rattle.std.specs.Prelude.{pos, sum_by}
use Rattle.std.proofs.lemmas.Int.{to_z-of_z}
use Rattle.std.proofs.lemmas.List.{get_or_read}
use Rattle.std.specs.Int.{w128}
use Rattle.dm_event.specs.Vectors.{at, sites_to, join_all}
use Rattle.dm_model.specs.Scores.{load, moved_to, uneven, lag, together}
use Rattle.dm_placement.specs.Scored.{home_in, vector_in, score_in}
use Rattle.dm_placement.proofs.Evens.{first_loads, uneven_is, moved_loads}
use Rattle.dm_placement.proofs.ScoreParts.{IsSmall, small_size, one_score, write_next, write_past, write_keeps}
use Rattle.dm_placement.proofs.scoring.scores.Goals as goal

pub loop-index-preserved : goal.loop-index-preserved
loop-index-preserved c =
    let window = c.args.window.now in
    let homes = c.args.homes.now in
    let vectors = c.args.vectors.now in
    let sites = length vectors in
    let parts = length homes in
    let wanted = c.args.wanted in
    let site = c.loop-index.index + 1 in
    let within : c.loop-index.index < length c.loop-index.scores = omega (arith, c.loop-index.invariant.eight, c.requires.sites) in
    let now_is : c.uneven-uneven_now.result ≡ uneven sites parts window (home_in homes) =
    uneven_is sites parts window (home_in homes) (take sites c.new-loads.result.held) c.uneven-uneven_now.result
    (first_loads c.new-loads.result.held sites (load sites parts window (home_in homes)) (omega (arith, c.new-loads.ensures.eight, c.requires.sites))
    (λ i lo hi. c.new-loads.ensures.held i lo (omega (arith, hi, c.requires.sites))))
    c.uneven-uneven_now.ensures.exact in
    let moved = set c.new-loads.result.others (site - 1) (get_or c.new-loads.result.others (site - 1) 0 + c.new-loads.result.wanted) in
    let there_is : c.uneven-uneven_there.result ≡ uneven sites parts window (moved_to sites parts window (home_in homes) wanted site) =
    uneven_is sites parts window (moved_to sites parts window (home_in homes) wanted site) (take sites c.moved_to.result) c.uneven-uneven_there.result
    (ap (λ (xs : List ℕ). take sites xs) c.moved_to.ensures.exact
    ∙ first_loads moved sites (load sites parts window (moved_to sites parts window (home_in homes) wanted site))
    (omega (
      arith,
      length-set c.new-loads.result.others (site - 1) (get_or c.new-loads.result.others (site - 1) 0 + c.new-loads.result.wanted),
      c.new-loads.ensures.eight,
      c.requires.sites,
    ))
    (λ i lo hi. moved_loads sites parts window (home_in homes) wanted c.new-loads.result.others c.new-loads.result.wanted site c.new-loads.ensures.eight.1
    (omega arith) (omega (arith, c.requires.sites))
    c.new-loads.ensures.others c.new-loads.ensures.wanted i lo (omega (arith, hi, c.requires.sites))))
    c.uneven-uneven_there.ensures.exact in
    let as_place : c.loop-index.index ≡ site - 1 = omega arith in
    let vector_is : c.index-vectors-index.result ≡ vector_in vectors site =
    get_or_read vectors c.loop-index.index c.index-vectors-index.result (omega arith) c.index-vectors-index.is []
    ∙ ap (λ (i : ℕ). get_or vectors i []) as_place in
    let behind_is : c.lag-lag.result ≡ lag sites (home_in homes) (vector_in vectors) wanted site =
    c.lag-lag.ensures.exact
    ∙ ap (λ (u : List ℕ). sum_by (λ j. at u j - at c.index-vectors-index.result j) (sites_to sites)) c.need-need.ensures
    ∙ ap (λ (v : List ℕ). sum_by (λ j. at (join_all sites (map (λ p. vector_in vectors (home_in homes p)) wanted)) j - at v j) (sites_to sites)) vector_is in
    let beside_is : get_or c.together-together.result c.loop-index.index 0 ≡ together window (home_in homes) wanted site =
    ap (λ (i : ℕ). get_or c.together-together.result i 0) as_place ∙ c.together-together.ensures.exact site (omega arith) (omega (arith, c.requires.sites)) in
    let is : c.score.result ≡ score_in c.args.weights c.args.window.now homes vectors c.args.wanted site =
    one_score c.args.weights sites parts window (home_in homes) (vector_in vectors) wanted site c.uneven-uneven_now.result c.uneven-uneven_there.result
    c.lag-lag.result (get_or c.together-together.result c.loop-index.index 0) c.score.result
    c.score.ensures.exact now_is there_is behind_is beside_is in
    let value : to_z w128 (of_z w128 c.score.result) ≡ c.score.result = to_z-of_z w128 c.score.result (record { sfits = c.score.type_inv }) in
    record {
      each = write_next c.loop-index.scores c.loop-index.index _ (λ i. score_in c.args.weights c.args.window.now homes vectors c.args.wanted i) within
          (value ∙ is) c.loop-index.invariant.each;
      past = write_past c.loop-index.scores c.loop-index.index _ c.loop-index.invariant.past;
      bound = write_keeps IsSmall c.loop-index.scores c.loop-index.index _ within (subst IsSmall (sym value) c.score.ensures.bound)
          c.loop-index.invariant.bound;
      eight = length-set c.loop-index.scores c.loop-index.index _ ∙ c.loop-index.invariant.eight;
    }

pub returns-clause-each : goal.returns-clause-each
returns-clause-each c = λ site lo hi.
    let place : site - 1 < c.loop-index.index = omega arith in
    c.loop-index.invariant.each (site - 1) place
    ∙ ap (λ (i : ℕ). score_in c.args.weights c.args.window.now c.args.homes.now c.args.vectors.now c.args.wanted i)
    (let e : site - 1 + 1 ≡ site = omega arith in e)

pub returns-clause-bound : goal.returns-clause-bound
returns-clause-bound c = λ site. small_size (get_or c.loop-index.scores (site - 1) (pos 0)) (c.loop-index.invariant.bound (site - 1))
