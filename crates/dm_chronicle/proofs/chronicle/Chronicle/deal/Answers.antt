use Rattle.std.proofs.Common.{rules, ◌≡◌, [], ◌∷◌, ◌++◌, Some, take, sym, ap, ◌∙◌, refl, arith}
use mathlib.Core.List.{map-append}
use Rattle.dm_chronicle.specs.Rule.{names}
use Rattle.dm_chronicle.specs.Standing.{Standing, starts}
use Rattle.dm_chronicle.proofs.Keeps.{splits_first}
use Rattle.dm_chronicle.proofs.Turns.{cut, named_first, others_in, first_in}
use Rattle.dm_chronicle.proofs.chronicle.Chronicle.deal.Goals as goal

pub split_seat-first-requires : goal.split_seat-first-requires
split_seat-first-requires g c = let i = c.loop.invariant in (
  i.table ∙ sym (ap (λ v. v.table) c.self.view_is),
  omega (arith, c.self.invariant.words),
  splits_first _ _ _ _ _ _ _ i.mark,
)

pub invariant_of-push : goal.invariant_of-push
invariant_of-push g c = let i = c.loop.invariant in let s = c.split_seat-first.ensures in let h = c.loop.seat.me.0.held in
    rw s.4 (record {
      hands = refl;
      mark = i.mark;
      olds = i.olds;
      live = (c.args.self.now.fixed, i.fixed);
      steps = λ a l q. i.shows.steps a l (first_in h (a, l) q);
      lawful = i.shows.lawful;
    })

pub loop-preserved : goal.loop-preserved
loop-preserved g c = let i = c.loop.invariant in let s = c.split_seat-first.ensures in let h = c.loop.seat.me.0.held in
    let t = c.args.self.now.table in
    let f = c.args.self.now.fixed in
    let xs = c.args.seat.me.0.seen in
    let more = cut c.args.actors.now c.loop.counter (search rules) in
    let two = named_first h more.0 _ (i.names ∙ more.1) in
    let e = s.4 in
    let fresh : Standing _ _ = record {
      table = c.split_seat-first.result.table_id;
      fixed = c.split_seat-first.result.me.0.fixed;
      actors = names
          c.split_seat-first.result.me.0.held;
      seen = c.split_seat-first.result.me.0.seen;
    } in
    let is : fresh ≡ record { table = t; fixed = Some f; actors = more.0 ∷ []; seen = xs } = λ j.
    record {
      table = (s.3 ∙ i.table) j;
      fixed = (ap (λ m. m.0.fixed) e ∙ i.fixed) j;
      actors = (ap (λ m. names m.0.held) e ∙ two.0) j;
      seen =
          (ap (λ m. m.0.seen) e ∙ i.seen) j;
    } in
    let pushed : c.push.new.self.items ≡ c.loop.passes.items ++ fresh ∷ [] = search rules in record {
      passes = pushed ∙ (ap (λ l. l ++ fresh ∷ []) i.passes ∙ (ap (λ p. starts t f xs (take c.loop.counter c.args.actors.now) ++ p ∷ []) is
          ∙ (sym (map-append _ (take c.loop.counter c.args.actors.now) (more.0 ∷ [])) ∙ ap (starts t f xs) (sym more.2))));
      room = search rules;
      names = ap (λ m. names m.0.held) s.2 ∙ two.1;
      table = s.0 ∙ i.table;
      hands = ap (λ m. m.1) s.2 ∙ i.hands;
      mark = ap (λ m. m.0.mark) s.2 ∙ i.mark;
      olds = ap (λ m. m.0.older) s.2 ∙ i.olds;
      fixed = ap (λ m. m.0.fixed) s.2 ∙ i.fixed;
      seen = ap (λ m. m.0.seen) s.2 ∙ i.seen;
      shows = rw s.2 (record { steps = λ a l q. i.shows.steps a l (others_in h (a, l) q); lawful = i.shows.lawful });
    }
