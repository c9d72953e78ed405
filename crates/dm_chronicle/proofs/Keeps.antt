-- Each step keeps the rule.
use Rattle.std.proofs.Common.{◌≡◌, ◌≢◌, ◌⊎◌, ℕ, zero, suc, ◌+◌, ◌%◌, ◌^◌, ◌<◌, ◌≤◌, eqb, List, [], ◌∷◌, ◌++◌, length, get_or, set, Some, None, Option, Bool}
use Rattle.std.proofs.Common.{true, true≢false, is_some, refl, sym, ap, ◌∙◌, subst, inl, inr, ⊎_elim, arith, length-append, length-set, get_or-set_other}
use Rattle.std.proofs.Common.{get_or-set_same, eq-eqb, ne_eqb}
use mathlib.Core.Logic.{dite}
use mathlib.Core.Option as opt
use mathlib.Core.Option.{some-injective, some-ne-none}
use mathlib.Core.List.{IsPrefix}
use native.Mathlib.Decide.{ℕ_discrete}
use lib.ListN.{get_elem?}
use lib.Seq.{set-get_or}
use prog.Atomic.{either}
use Rattle.atomic_table.specs.Table.{State, Me, step, keeps, takes as takes_slot, gives, stepped, Allows, Splits, Joins, opening, Final, Seen}
use Rattle.atomic_table.proofs.Lists.{at_set, at_longer, set_else}
use Rattle.dm_event.specs.declared.actor.Actor.{Actor}
use Rattle.dm_chronicle.specs.declared.view.View.{View}
use Rattle.dm_chronicle.specs.declared.view.About.{About}
use Rattle.dm_chronicle.specs.Rule.{In, Apart as Distinct, first_of, others_of, first_view, mine, Holding, Once, Legal, spent, joined, note, without, keeps_own}
use Rattle.dm_chronicle.specs.Rule.{gives_back, later, Fits, Free, Taken, Holds, takes, tries, pushes, pushed, gave, opened, looked}
use Rattle.dm_chronicle.proofs.Lists.{prefix_refl, prefix_trans, prefix_more, mine_other, held_again, holding_again, once_again, legal_snoc, legal_begins}
use Rattle.dm_chronicle.proofs.Lists.{set_there, at_end, not_true, count_up, mine_between, in_append, in_left, holding_append, once_append, later_all}
use Rattle.dm_chronicle.proofs.Lists.{later_marked, dealt_in, dealt_once, dealt_some, in_take, in_drop, once_cut}

module _ {L I F : Type 0} (list : L → List I) (fixed : L → F) (has : I → Actor → Bool) (may : F → List I → I → Type 0) (about : About L) where
  abbrev W : Type 0
  W = View I F

  abbrev St : Type 0
  St = State (Option L) W

  abbrev Mine : Type 0
  Mine = Me (Option L) W

  abbrev Fit : List I → W → Type 0
  Fit = Fits list fixed has may about

  abbrev Rule : St → Type 0
  Rule = Holds list fixed has may about

  abbrev Apart : List W → Type 0
  Apart vs = (j k : ℕ) (v w : W) (a : Actor) → get_elem? vs j ≡ opt.some v → get_elem? vs k ≡ opt.some w → Holding a v.held → Holding a w.held → j ≡ k

  views_set : (h : List I) (vs : List W) (id : ℕ) (w : W) → Fit h w → ((k : ℕ) (v : W) → k ≢ id → get_elem? vs k ≡ opt.some v → Fit h v) → (k : ℕ) (v : W)
      → get_elem? (set vs id w) k ≡ opt.some v → Fit h v
  views_set h vs id w mine others k v e = ⊎_elim (λ (t : (k ≡ id) × (w ≡ v)). subst (Fit h) t.1 mine) (λ (t : (k ≢ id) × (get_elem? vs k ≡ opt.some v)).
      others k v t.0 t.1) (at_set vs id k w v e)

  -- who stands at k, with its actors, after a seat has got a view whose actors it had
  was_at : (vs : List W) (id : ℕ) (u w : W) → get_elem? vs id ≡ opt.some u → ((a : Actor) → Holding a w.held → Holding a u.held) → (k : ℕ) (v : W) (a : Actor)
      → get_elem? (set vs id w) k ≡ opt.some v → Holding a v.held
      → (x : W) × (get_elem? vs k ≡ opt.some x) × Holding a x.held
  was_at vs id u w at fewer k v a e h = ⊎_elim
      (λ (t : (k ≡ id) × (w ≡ v)). (u, subst (λ (n : ℕ). get_elem? vs n ≡ opt.some u) (sym t.0) at, fewer a (subst (λ (x : W). Holding a x.held) (sym t.1) h)))
      (λ (t : (k ≢ id) × (get_elem? vs k ≡ opt.some v)). (v, t.1, h))
      (at_set vs id k w v e)

  apart_set : (vs : List W) (id : ℕ) (u w : W) → get_elem? vs id ≡ opt.some u → ((a : Actor) → Holding a w.held → Holding a u.held) → Apart vs
      → Apart (set vs id w)
  apart_set vs id u w at fewer apart j k v x a p q hv hx = let s = was_at vs id u w at fewer j v a p hv in let t = was_at vs id u w at fewer k x a q hx in
      apart j k s.0 t.0 a s.1 t.1 s.2 t.2

  -- a seat with a mark is the one that has the turn
  has_turn : (s : St) (r : Rule s) (id : ℕ) (v : W) → get_elem? s.views id ≡ opt.some v → v.mark ≢ 0 → (t : Taken list fixed has may r.now s) × (id ≡ t.seat)
      × (t.view ≡ v)
  has_turn s r id v at marked = ⊎_elim
      (λ (f : Free list fixed has may about r.now s). absurd (marked (f.nobody id v at)))
      (λ (t : Taken list fixed has may r.now s). dite (ℕ_discrete id t.seat)
      (λ same. (t, same, some-injective _ _ (sym t.there ∙ (ap (λ (n : ℕ). get_elem? s.views n) (sym same) ∙ at))))
      (λ other. absurd (marked (t.others id v at other))))
      r.turn

  word_set : (ws : List ℕ) (n : ℕ) → length ws ≡ 2 → get_or (set ws 0 n) 0 0 ≡ n
  word_set ws n wide = get_or-set_same ws 0 n 0 (omega arith)

  count_stays : (ws : List ℕ) (n : ℕ) → get_or (set ws 0 n) 1 0 ≡ get_or ws 1 0
  count_stays ws n = get_or-set_other ws 0 1 n 0 (λ e. omega arith)

  -- take: the free turn
  take_free : (s : St) (r : Rule s) (f : Free list fixed has may about r.now s) (id : ℕ) (me : Mine) → get_elem? s.views id ≡ opt.some me.0
      → ((a : Actor) × Holding a me.0.held)
      → Rule (stepped s 0 1 id me.1 (takes list fixed has may me.0 (list f.object)) (takes_slot 0 (Some f.object)))
  take_free s r f id me at acts =
      let fit = r.views id me.0 at in
      let w : W = takes list fixed has may me.0 (list f.object) in
      record {
        now = r.now;
        wide = length-set s.words 0 1 ∙ r.wide;
        lawful = r.lawful;
        count = r.count ∙ ap (λ (n : ℕ). (length (list about.kept) + n) % 2 ^ 64) (sym (count_stays s.words 1));
        views = views_set r.now s.views id w record {
          begins = subst (λ (l : List I). IsPrefix l r.now) (sym f.its_list) (prefix_refl r.now);
          steps = λ a l i. let k = (fit.steps a l i).0 in (k, k ∙ ap (mine has a) (sym f.its_list));
          once = fit.once;
          known = fit.known;
          olds = λ o g i. let k = fit.olds o g i in (
            prefix_trans o me.0.seen (list f.object) k.0 (subst (IsPrefix me.0.seen) (sym f.its_list) fit.begins),
            k.1,
          );
          live = fit.live;
        } (λ k v _ e. r.views k v e);
        apart = apart_set s.views id me.0 w at (λ a h. h) r.apart;
        turn = inr record {
          word = let e = word_set s.words 1 r.wide in (omega arith, omega arith);
          home = ((λ _. ap (λ (hs : List (opt.Option (Option L))). set hs 0 opt.none) f.home), λ e. absurd (omega (arith, word_set s.words 1 r.wide)));
          seat = id;
          view = w;
          there = set_there s.views id me.0 w at;
          mark = sym (word_set s.words 1 r.wide);
          whole = f.its_list;
          acts = acts;
          others = λ k v e other. ⊎_elim (λ (t : (k ≡ id) × (w ≡ v)). absurd (other t.0))
              (λ (t : (k ≢ id) × (get_elem? s.views k ≡ opt.some v)). f.nobody k v t.1) (at_set s.views id k w v e);
        };
      }

  -- a step that changes no word and no slot, where the seat's new view has the same list, mark and actors
  stays : (s : St) (r : Rule s) (i id : ℕ) (cs : List (ℕ × Option L)) (u w : W) → get_elem? s.views id ≡ opt.some u → w.seen ≡ u.seen → w.mark ≡ u.mark
      → w.held ≡ u.held → Fit r.now w
      → Rule (stepped s i (get_or s.words i 0) id cs w keeps)
  stays s r i id cs u w at seen mark held mine =
      subst (λ (ws : List ℕ). Rule record { words = ws; homes = s.homes; views = set s.views id w }) (sym (set-get_or s.words i 0)) record {
        now = r.now;
        wide = r.wide;
        lawful = r.lawful;
        count = r.count;
        views = views_set r.now s.views id w mine (λ k v _ e. r.views k v e);
        apart = apart_set s.views id u w at (λ a h. subst (Holding a) held h) r.apart;
        turn = ⊎_elim
            (λ (f : Free list fixed has may about r.now s). inl record {
              word = f.word;
              object = f.object;
              home = f.home;
              its_list = f.its_list;
              its_fixed = f.its_fixed;
              nobody = λ k v e. ⊎_elim (λ (t : (k ≡ id) × (w ≡ v)). ap (λ (x : W). x.mark) (sym t.1) ∙ (mark ∙ f.nobody id u at))
                  (λ (t : (k ≢ id) × (get_elem? s.views k ≡ opt.some v)). f.nobody k v t.1) (at_set s.views id k w v e);
            })
            (λ (t : Taken list fixed has may r.now s). inr (dite (ℕ_discrete id t.seat)
            (λ same. let is : t.view ≡ u = some-injective _ _ (sym t.there ∙ (ap (λ (n : ℕ). get_elem? s.views n) (sym same) ∙ at)) in
            let goal : Taken list fixed has may r.now record { words = s.words; homes = s.homes; views = set s.views id w } = record {
              word = t.word;
              home = t.home;
              seat = id;
              view = w;
              there = set_there s.views id u w at;
              mark = mark ∙ (ap (λ (x : W). x.mark) (sym is) ∙ t.mark);
              whole = seen ∙ (ap (λ (x : W). x.seen) (sym is) ∙ t.whole);
              acts = (t.acts.0, subst (Holding t.acts.0) (ap (λ (x : W). x.held) is ∙ sym held) t.acts.1);
              others = λ k v e other. ⊎_elim (λ (x : (k ≡ id) × (w ≡ v)). absurd (other x.0))
                  (λ (x : (k ≢ id) × (get_elem? s.views k ≡ opt.some v)). t.others k v x.1 (λ q. other (q ∙ sym same))) (at_set s.views id k w v e);
            } in goal)
            (λ apart. let goal : Taken list fixed has may r.now record { words = s.words; homes = s.homes; views = set s.views id w } = record {
              word = t.word;
              home = t.home;
              seat = t.seat;
              view = t.view;
              there = set_else s.views id t.seat w (λ q. apart (sym q)) ∙ t.there;
              mark = t.mark;
              whole = t.whole;
              acts = t.acts;
              others = λ k v e other. ⊎_elim (λ (x : (k ≡ id) × (w ≡ v)). ap (λ (y : W). y.mark) (sym x.1) ∙ (mark ∙ t.others id u at apart))
                  (λ (x : (k ≢ id) × (get_elem? s.views k ≡ opt.some v)). t.others k v x.1 other) (at_set s.views id k w v e);
            } in goal)))
            r.turn;
      }

  -- take, and the failed take
  pub takes_turn : (slots id : ℕ) (me : Mine) → ((a : Actor) × Holding a me.0.held) → (said : opt.Option (Option L))
      → Allows Rule slots id me 0 (λ n. either (eqb n 0) 1 n) (tries list fixed has may (step slots 0 0 1 said) me)
  takes_turn slots id me acts said s r long at small = dite (ℕ_discrete (get_or s.words 0 0) 0)
      (λ free. ⊎_elim
      (λ (f : Free list fixed has may about r.now s).
      let w : W = takes list fixed has may me.0 (list f.object) in
      let fit = r.views id me.0 at in (
        w,
        takes_slot 0 (Some f.object),
        ap (λ (hs : List (opt.Option (Option L))). get_elem? hs 0) f.home,
        subst (λ b. Rule (stepped s 0 (either b 1 (get_or s.words 0 0)) id me.1 w (takes_slot 0 (Some f.object)))) (sym (eq-eqb (get_or s.words 0 0) 0 free))
            (take_free s r f id me at acts),
        (
          (λ _. record {
            object = f.object;
            slot = refl;
            lawful = subst (λ (q : F × List I). Legal may q.0 [] q.1) (λ i. (sym f.its_fixed i, sym f.its_list i)) r.lawful;
            view = refl;
            its_fixed = λ g e. f.its_fixed ∙ sym ((fit.live g e).0);
            begins = subst (IsPrefix me.0.seen) (sym f.its_list) fit.begins;
            steps = λ a l i. (fit.steps a l i).0 ∙ ap (mine has a) (sym f.its_list);
          }),
          λ not. absurd (not free),
        ),
      ))
      (λ (t : Taken list fixed has may r.now s). absurd (omega (arith, t.word.0)))
      r.turn)
      (λ held. (
        me.0,
        keeps,
        tt,
        subst (λ b. Rule (stepped s 0 (either b 1 (get_or s.words 0 0)) id me.1 me.0 keeps)) (sym (ne_eqb (get_or s.words 0 0) 0 held))
            (stays s r 0 id me.1 me.0 me.0 at refl refl refl (r.views id me.0 at)),
        ((λ free. absurd (held free)), λ _. refl),
      ))

  -- push: the object in hand has one step more than was seen
  pub pushes_step : (slots id : ℕ) (v : W) (o : L) (x : I) → v.mark ≡ 1 → list o ≡ v.seen ++ x ∷ [] → v.fixed ≡ Some (fixed o) → may (fixed o) v.seen x
      → ((a : Actor) → has x a ≡ true → Holding a v.held)
      → Allows Rule slots id (v, (0, Some o) ∷ []) 1 (λ n. (n + 1) % 2 ^ 64) (pushed list fixed has may (step slots 1 1 0 opt.none) (v, (0, Some o) ∷ []))
  pushes_step slots id v o x marked adds its_fixed follows covered s r long at small =
      let c : ℕ = get_or s.words 1 0 in
      let n : ℕ = (c + 1) % 2 ^ 64 in
      let have = has_turn s r id v at (λ e. absurd (omega arith)) in
      let t = have.0 in
      let fit = r.views id v at in
      let whole : v.seen ≡ r.now = ap (λ (z : W). z.seen) (sym have.2) ∙ t.whole in
      let E : list o ≡ r.now ++ x ∷ [] = adds ∙ ap (λ (l : List I). l ++ x ∷ []) whole in
      let live = fit.live (fixed o) its_fixed in
      let w : W = pushes list fixed has may v (list o) in
      let f : Actor → List I = λ a. mine has a (list o) in
      let word : get_or (set s.words 1 n) 0 0 ≡ get_or s.words 0 0 = get_or-set_other s.words 1 0 n 0 (λ e. omega arith) in (
        w,
        keeps,
        tt,
        record {
          now = list o;
          wide = length-set s.words 1 n ∙ r.wide;
          lawful = subst (Legal may (fixed about.kept) []) (sym E) (legal_snoc may (fixed about.kept) [] r.now x r.lawful
              (subst (λ (q : F × List I). may q.0 q.1 x) (λ i. (live.0 i, whole i)) follows));
          count = let e : get_or (set s.words 1 n) 1 0 ≡ n = get_or-set_same s.words 1 n 0 (omega (arith, r.wide)) in
              let longer : length (list o) ≡ length r.now + 1 = ap (λ (l : List I). length l) E ∙ length-append r.now (x ∷ []) in
              ap (λ (z : ℕ). z % 2 ^ 64) longer ∙ (count_up (length r.now) (length (list about.kept)) c r.count
              ∙ ap (λ (z : ℕ). (length (list about.kept) + z) % 2 ^ 64) (sym e));
          views = views_set (list o) s.views id w record {
            begins = prefix_refl (list o);
            steps = λ a l i. let k = (held_again f v.held a l i).0 in (k, k);
            once = once_again f v.held fit.once;
            known = λ a h. fit.known a (held_again f v.held a h.0 h.1).1;
            olds = λ q g i. let k = fit.olds q g i in (prefix_trans q v.seen (list o) k.0 (x ∷ [], sym adds), k.1);
            live = fit.live;
          } (λ k u other e. let was = r.views k u e in
              record {
                begins = subst (IsPrefix u.seen) (sym E) (prefix_more u.seen r.now (x ∷ []) was.begins);
                steps = λ a l i. let st = was.steps a l i in
                    let not = not_true (has x a) (λ yes. other (r.apart k id u v a e at (l, i) (covered a yes))) in
                    (st.0 ∙ sym (ap (mine has a) E ∙ mine_other has a r.now x not), st.1);
                once = was.once;
                known = was.known;
                olds = was.olds;
                live = was.live;
              });
          apart = apart_set s.views id v w at (λ a h. (held_again f v.held a h.0 h.1).1) r.apart;
          turn = inr record {
            word = subst (λ (z : ℕ). (0 < z) × (z ≤ 2)) (sym word) t.word;
            home = subst (λ (z : ℕ). (z ≡ 1 → s.homes ≡ opt.none ∷ []) × (z ≡ 2 → s.homes ≡ opt.some None ∷ [])) (sym word) t.home;
            seat = id;
            view = w;
            there = set_there s.views id v w at;
            mark = ap (λ (z : W). z.mark) (sym have.2) ∙ (t.mark ∙ sym word);
            whole = refl;
            acts = let a = t.acts in (a.0, holding_again f v.held a.0 (subst (λ (z : W). Holding a.0 z.held) have.2 a.1));
            others = λ k u e other. ⊎_elim (λ (q : (k ≡ id) × (w ≡ u)). absurd (other q.0))
                (λ (q : (k ≢ id) × (get_elem? s.views k ≡ opt.some u)). t.others k u q.1 (λ z. other (z ∙ sym have.1))) (at_set s.views id k w u e);
          };
        },
        (refl, λ p e. ap (λ (q : L). pushes list fixed has may v (list q)) (same_object o p e)),
      )
    where
      object_or : L → Option L → L
      object_or d (Some q) = q
      object_or d None = d

      first_or : L → List (ℕ × Option L) → L
      first_or d [] = d
      first_or d (z ∷ zs) = object_or d z.1

      in_hand : L → List (ℕ × Option L)
      in_hand p = (0, Some p) ∷ []

      same_object : (p q : L) → in_hand p ≡ in_hand q → p ≡ q
      same_object p q e = ap (first_or p) e

  -- give back
  pub gives_turn : (slots id : ℕ) (v : W) (o : L) → v.mark ≡ 1 → list o ≡ v.seen → v.fixed ≡ Some (fixed o)
      → Allows Rule slots id (v, (0, Some o) ∷ []) 0 (λ _. 0) (λ _. gave list fixed has may (step slots 0 0 0 opt.none) (v, (0, Some o) ∷ []) 0)
  gives_turn slots id v o marked same its_fixed s r long at small =
      let have = has_turn s r id v at (λ e. absurd (omega arith)) in
      let t = have.0 in
      let fit = r.views id v at in
      let w : W = record v { mark = 0 } in
      let one : get_or s.words 0 0 ≡ 1 = sym t.mark ∙ (ap (λ (z : W). z.mark) have.2 ∙ marked) in (
        w,
        gives,
        tt,
        record {
          now = r.now;
          wide = length-set s.words 0 0 ∙ r.wide;
          lawful = r.lawful;
          count = r.count ∙ ap (λ (n : ℕ). (length (list about.kept) + n) % 2 ^ 64) (sym (count_stays s.words 0));
          views = views_set r.now s.views id w record {
            begins = fit.begins;
            steps = fit.steps;
            once = fit.once;
            known = fit.known;
            olds = fit.olds;
            live =
                fit.live;
          } (λ k u _ e. r.views k u e);
          apart = apart_set s.views id v w at (λ a h. h) r.apart;
          turn = inl record {
            word = word_set s.words 0 r.wide;
            object = o;
            home = ap (λ (hs : List (opt.Option (Option L))). set hs 0 (opt.some (Some o))) (t.home.0 one);
            its_list = same ∙ (ap (λ (z : W). z.seen) (sym have.2) ∙ t.whole);
            its_fixed = (fit.live (fixed o) its_fixed).0;
            nobody = λ k u e. ⊎_elim (λ (q : (k ≡ id) × (w ≡ u)). ap (λ (z : W). z.mark) (sym q.1))
                (λ (q : (k ≢ id) × (get_elem? s.views k ≡ opt.some u)). t.others k u q.1 (λ z. q.0 (z ∙ sym have.1))) (at_set s.views id k w u e);
          };
        },
        refl,
      )

  -- load
  pub looks : (slots id i : ℕ) (me : Mine) → Allows Rule slots id me i (λ n. n) (looked list fixed has may (step slots i 0 0 opt.none) me)
  looks slots id i me s r long at small =
      let fit = r.views id me.0 at in
      let w : W = record me.0 { older = [] } in (
        w,
        keeps,
        tt,
        stays s r i id me.1 me.0 w at refl refl refl record {
          begins = fit.begins;
          steps = fit.steps;
          once = fit.once;
          known = fit.known;
          olds = λ o g q. absurd
              q;
          live = fit.live;
        },
        record {
          view = refl;
          olds = λ o g q. let k = fit.olds o g q in (k.0, λ f h e d. k.1 f e ∙ sym (fit.live h d).0);
          steps = λ a l q. (fit.steps a l q).1;
          lawful = λ f e p q. let z = prefix_trans p me.0.seen r.now q fit.begins in
              legal_begins may f [] p z.0 (subst (λ (y : F × List I). Legal may y.0 [] y.1) (λ j. (sym (fit.live f e).0 j, sym z.1 j)) r.lawful);
        },
      )

  split_views : (h : List I) (vs : List W) (id : ℕ) (left right : W) → Fit h left → Fit h right → ((k : ℕ) (v : W) → get_elem? vs k ≡ opt.some v → Fit h v)
      → (k : ℕ) (u : W) → get_elem? (set vs id left ++ right ∷ []) k ≡ opt.some u → Fit h u
  split_views h vs id left right fl fr old k u e = ⊎_elim (λ q. views_set h vs id left fl (λ j x _ p. old j x p) k u q)
      (λ (q : (k ≡ length (set vs id left)) × (right ≡ u)). subst (Fit h) q.1 fr) (at_end (set vs id left) right u k e)

  split_apart : (vs : List W) (id : ℕ) (v left right : W) → get_elem? vs id ≡ opt.some v → ((a : Actor) → Holding a left.held → Holding a v.held)
      → ((a : Actor) → Holding a right.held → Holding a v.held) → ((a : Actor) → Holding a left.held → Holding a right.held → ⊥) → Apart vs
      → Apart (set vs id left ++ right ∷ [])
  split_apart vs id v left right at fl fr disjoint apart j k x y a p q hx hy =
      let old = apart_set vs id v left at fl apart in
      let meets : (i : ℕ) (z : W) → get_elem? (set vs id left) i ≡ opt.some z → Holding a z.held → Holding a right.held → ⊥ = λ i z e h hr.
      let b = was_at vs id v left at fl i z a e h in
      let same : i ≡ id = apart i id b.0 v a b.1 at b.2 (fr a hr) in
      let here : z ≡ left = some-injective _ _ (sym e ∙ (ap (λ (n : ℕ). get_elem? (set vs id left) n) same ∙ set_there vs id v left at)) in
      disjoint a (subst (λ (u : W). Holding a u.held) here h) hr in
      ⊎_elim
      (λ p'. ⊎_elim (λ q'. old j k x y a p' q' hx hy) (λ (t : (k ≡ length (set vs id left)) × (right ≡ y)). absurd
      (meets j x p' hx (subst (λ (u : W). Holding a u.held) (sym t.1) hy))) (at_end (set vs id left) right y k q))
      (λ (s : (j ≡ length (set vs id left)) × (right ≡ x)). ⊎_elim (λ q'. absurd (meets k y q' hy (subst (λ (u : W). Holding a u.held) (sym s.1) hx)))
      (λ (t : (k ≡ length (set vs id left)) × (right ≡ y)). s.0 ∙ sym t.0) (at_end (set vs id left) right y k q))
      (at_end (set vs id left) right x j p)

  -- a split of a seat that keeps its mark and its list
  splits_at : (id : ℕ) (v left right : W) → ((h : List I) → Fit h v → Fit h left × Fit h right) → ((a : Actor) → Holding a left.held → Holding a v.held)
      → ((a : Actor) → Holding a right.held → Holding a v.held) → ((h : List I) → Fit h v → (a : Actor) → Holding a left.held → Holding a right.held → ⊥)
      → left.mark ≡ v.mark → left.seen ≡ v.seen → right.mark ≡ 0 → (v.mark ≢ 0 → (a : Actor) × Holding a left.held) → Splits Rule id v left right
  splits_at id v left right fits fl fr disjoint mark seen none acts s r at =
      let two = fits r.now (r.views id v at) in
      let after : St = record { words = s.words; homes = s.homes; views = set s.views id left ++ right ∷ [] } in
      record {
        now = r.now;
        wide = r.wide;
        lawful = r.lawful;
        count = r.count;
        views = split_views r.now s.views id left right two.0 two.1 r.views;
        apart = split_apart s.views id v left right at fl fr (disjoint r.now (r.views id v at)) r.apart;
        turn = ⊎_elim
            (λ (f : Free list fixed has may about r.now s). let goal : Free list fixed has may about r.now after = record {
              word = f.word;
              object = f.object;
              home = f.home;
              its_list = f.its_list;
              its_fixed = f.its_fixed;
              nobody = λ k u e. ⊎_elim
                  (λ q. ⊎_elim (λ (t : (k ≡ id) × (left ≡ u)). ap (λ (x : W). x.mark) (sym t.1) ∙ (mark ∙ f.nobody id v at))
                  (λ (t : (k ≢ id) × (get_elem? s.views k ≡ opt.some u)). f.nobody k u t.1) (at_set s.views id k left u q))
                  (λ (t : (k ≡ length (set s.views id left)) × (right ≡ u)). ap (λ (x : W). x.mark) (sym t.1) ∙ none)
                  (at_end (set s.views id left) right u k e);
            } in inl goal)
            (λ (t : Taken list fixed has may r.now s). inr (dite (ℕ_discrete id t.seat)
            (λ same.
            let is : t.view ≡ v = some-injective _ _ (sym t.there ∙ (ap (λ (n : ℕ). get_elem? s.views n) (sym same) ∙ at)) in
            let its : v.mark ≡ get_or s.words 0 0 = ap (λ (x : W). x.mark) (sym is) ∙ t.mark in
            let goal : Taken list fixed has may r.now after = record {
              word = t.word;
              home = t.home;
              seat = id;
              view = left;
              there = at_longer (set s.views id left) (right ∷ []) id left (set_there s.views id v left at);
              mark = mark ∙ its;
              whole = seen ∙ (ap (λ (x : W). x.seen) (sym is) ∙ t.whole);
              acts = acts (λ z. let w = t.word.0 in absurd (omega arith));
              others = λ k u e other. ⊎_elim
                  (λ q. ⊎_elim (λ (x : (k ≡ id) × (left ≡ u)). absurd (other x.0))
                  (λ (x : (k ≢ id) × (get_elem? s.views k ≡ opt.some u)). t.others k u x.1 (λ z. other (z ∙ sym same))) (at_set s.views id k left u q))
                  (λ (x : (k ≡ length (set s.views id left)) × (right ≡ u)). ap (λ (y : W). y.mark) (sym x.1) ∙ none)
                  (at_end (set s.views id left) right u k e);
            } in goal)
            (λ apart. let goal : Taken list fixed has may r.now after = record {
              word = t.word;
              home = t.home;
              seat = t.seat;
              view = t.view;
              there = at_longer (set s.views id left) (right ∷ []) t.seat t.view (set_else s.views id t.seat left (λ q. apart (sym q)) ∙ t.there);
              mark = t.mark;
              whole = t.whole;
              acts = t.acts;
              others = λ k u e other. ⊎_elim
                  (λ q. ⊎_elim (λ (x : (k ≡ id) × (left ≡ u)). ap (λ (y : W). y.mark) (sym x.1) ∙ (mark ∙ t.others id v at apart))
                  (λ (x : (k ≢ id) × (get_elem? s.views k ≡ opt.some u)). t.others k u x.1 other) (at_set s.views id k left u q))
                  (λ (x : (k ≡ length (set s.views id left)) × (right ≡ u)). ap (λ (y : W). y.mark) (sym x.1) ∙ none)
                  (at_end (set s.views id left) right u k e);
            } in goal)))
            r.turn;
      }

  -- all actors go to the new seat
  pub splits_actors : (id : ℕ) (v : W) → v.mark ≡ 0 → Splits Rule id v (without v) v
  splits_actors id v unmarked = splits_at id v (without v) v
      (λ h fit. (record { begins = fit.begins; steps = λ a l q. absurd q; once = tt; known = λ a q. absurd q.1; olds = fit.olds; live = fit.live }, fit))
      (λ a q. absurd q.1) (λ a q. q) (λ _ _ a q _. absurd q.1) refl refl unmarked (λ no. absurd (no unmarked))

  -- a note without actors
  pub splits_note : (id : ℕ) (v : W) → (v.mark ≢ 0 → (a : Actor) × Holding a v.held) → Splits Rule id v v (note v)
  splits_note id v acts = splits_at id v v (note v)
      (λ h fit. (fit, record { begins = fit.begins; steps = λ a l q. absurd q; once = tt; known = λ a q. absurd q.1; olds = fit.olds; live = fit.live }))
      (λ a q. q) (λ a q. absurd q.1) (λ _ _ a _ q. absurd q.1) refl refl refl acts

  nothing_there : (f : F) → None ≡ Some f → ⊥
  nothing_there f e = true≢false (sym (ap (λ (o : Option F). is_some o) e))

  fit_spent : (h : List I) → Fit h spent
  fit_spent h = record {
    begins = (h, refl);
    steps = λ a l q. absurd q;
    once = tt;
    known = λ a q. absurd q.1;
    olds = λ o g q. absurd q;
    live = λ f e.
        absurd (nothing_there f e);
  }

  abbrev Entry : Type 0
  Entry = List I × Option F

  abbrev entry : List I → Option F → Entry
  entry l g = (l, g)

  fit_joined : (h : List I) (v w : W) → Fit h v → Fit h w → (v.mark ≢ 0 → v.seen ≡ h) → ((a : Actor) → Holding a v.held → Holding a w.held → ⊥)
      → Fit h (joined v w)
  fit_joined h v w fv fw whole disjoint =
      let z = later_all v.mark v.seen w.seen h fv.begins fw.begins whole in
      let m : List I = later v.mark v.seen w.seen in
      record {
        begins = z.0;
        steps = λ a l i. ⊎_elim
            (λ q. let k = fv.steps a l q in (k.0, k.0 ∙ sym (mine_between has a v.seen m h z.1 z.0 (sym k.1 ∙ k.0))))
            (λ q. let k = fw.steps a l q in (k.0, k.0 ∙ sym (mine_between has a w.seen m h z.2 z.0 (sym k.1 ∙ k.0))))
            (in_append (a, l) v.held w.held i);
        once = once_append v.held w.held fv.once fw.once disjoint;
        known = λ a q. ⊎_elim (fv.known a) (fw.known a) (holding_append v.held w.held a q);
        olds = λ o g q. ⊎_elim
            (λ (e : entry v.seen v.fixed ≡ entry o g). (
              subst (λ (y : List I). IsPrefix y m) (ap (λ (y : Entry). y.0) e) z.1,
              λ f d.
                  (fv.live f (ap (λ (y : Entry). y.1) e ∙ d)).0,
            ))
            (λ q'. ⊎_elim
            (λ (e : entry w.seen w.fixed ≡ entry o g). (
              subst (λ (y : List I). IsPrefix y m) (ap (λ (y : Entry). y.0) e) z.2,
              λ f d.
                  (fw.live f (ap (λ (y : Entry). y.1) e ∙ d)).0,
            ))
            (λ q''. ⊎_elim
            (λ j. let k = fv.olds o g j in (prefix_trans o v.seen m k.0 z.1, k.1))
            (λ j. let k = fw.olds o g j in (prefix_trans o w.seen m k.0 z.2, k.1))
            (in_append (entry o g) v.older w.older q''))
            q')
            q;
        live = fv.live;
      }

  -- whose actors a view has after a join
  was_before : (vs : List W) (id other : ℕ) (v w : W) → get_elem? vs id ≡ opt.some v → get_elem? vs other ≡ opt.some w → ¬ (other ≡ id)
      → (k : ℕ) (x : W) (a : Actor) → get_elem? (set (set vs id (joined v w)) other spent) k ≡ opt.some x → Holding a x.held
      → (i : ℕ) × (y : W) × (get_elem? vs i ≡ opt.some y) × Holding a y.held × (((i ≡ other) × (k ≡ id)) ⊎ ((i ≢ other) × (k ≡ i)))
  was_before vs id other v w at there apart k x a e h = ⊎_elim
      (λ (t : (k ≡ other) × (spent ≡ x)). let none : Holding a [] = subst (λ (z : W). Holding a z.held) (sym t.1) h in absurd none.1)
      (λ (t : (k ≢ other) × (get_elem? (set vs id (joined v w)) k ≡ opt.some x)). ⊎_elim
      (λ (q : (k ≡ id) × (joined v w ≡ x)). ⊎_elim
      (λ hv. (id, v, at, hv, inr ((λ z. apart (sym z)), q.0)))
      (λ hw. (other, w, there, hw, inl (refl, q.0)))
      (holding_append v.held w.held a (subst (λ (z : W). Holding a z.held) (sym q.1) h)))
      (λ (q : (k ≢ id) × (get_elem? vs k ≡ opt.some x)). (k, x, q.1, h, inr (t.0, refl)))
      (at_set vs id k (joined v w) x t.1))
      (at_set (set vs id (joined v w)) other k spent x e)

  pub joins_seats : (id : ℕ) (v : W) (other : ℕ) (w : W) → w.mark ≡ 0 → Joins Rule id v other w (joined v w) spent
  joins_seats id v other w unmarked s r at apart there' =
      let there : get_elem? s.views other ≡ opt.some w = sym (set_else s.views id other (joined v w) apart) ∙ there' in
      let fv = r.views id v at in
      let fw = r.views other w there in
      let disjoint : (a : Actor) → Holding a v.held → Holding a w.held → ⊥ = λ a p q. apart (r.apart other id w v a there at q p) in
      let whole : v.mark ≢ 0 → v.seen ≡ r.now = λ n. let have = has_turn s r id v at n in ap (λ (z : W). z.seen) (sym have.2) ∙ have.0.whole in
      let both : W = joined v w in
      let vs : List W = set (set s.views id both) other spent in
      let after : St = record { words = s.words; homes = s.homes; views = vs } in
      let cases : (P : ℕ → W → Type 0) → P other spent → P id both → ((k : ℕ) (u : W) → k ≢ id → k ≢ other → get_elem? s.views k ≡ opt.some u → P k u)
      → (k : ℕ) (u : W) → get_elem? vs k ≡ opt.some u → P k u = λ P a b d k u e. ⊎_elim
      (λ (t : (k ≡ other) × (spent ≡ u)). subst (λ (z : ℕ × W). P z.0 z.1) (λ i. (sym t.0 i, t.1 i)) a)
      (λ (t : (k ≢ other) × (get_elem? (set s.views id both) k ≡ opt.some u)). ⊎_elim
      (λ (q : (k ≡ id) × (both ≡ u)). subst (λ (z : ℕ × W). P z.0 z.1) (λ i. (sym q.0 i, q.1 i)) b)
      (λ (q : (k ≢ id) × (get_elem? s.views k ≡ opt.some u)). d k u q.0 t.0 q.1)
      (at_set s.views id k both u t.1))
      (at_set (set s.views id both) other k spent u e) in
      record {
        now = r.now;
        wide = r.wide;
        lawful = r.lawful;
        count = r.count;
        views = cases (λ _ u. Fit r.now u) (fit_spent r.now) (fit_joined r.now v w fv fw whole disjoint) (λ k u _ _ e. r.views k u e);
        apart = λ j k x y a p q hx hy.
            let b = was_before s.views id other v w at there apart j x a p hx in
            let d = was_before s.views id other v w at there apart k y a q hy in
            let same : b.0 ≡ d.0 = r.apart b.0 d.0 b.1 d.1 a b.2 d.2 b.3 d.3 in
            ⊎_elim
            (λ (t : (b.0 ≡ other) × (j ≡ id)). ⊎_elim (λ (u : (d.0 ≡ other) × (k ≡ id)). t.1 ∙ sym u.1) (λ (u : (d.0 ≢ other) × (k ≡ d.0)).
            absurd (u.0 (sym same ∙ t.0))) d.4)
            (λ (t : (b.0 ≢ other) × (j ≡ b.0)). ⊎_elim (λ (u : (d.0 ≡ other) × (k ≡ id)). absurd (t.0 (same ∙ u.0))) (λ (u : (d.0 ≢ other) × (k ≡ d.0)). t.1
            ∙ (same ∙ sym u.1)) d.4)
            b.4;
        turn = ⊎_elim
            (λ (f : Free list fixed has may about r.now s). let goal : Free list fixed has may about r.now after = record {
              word = f.word;
              object = f.object;
              home = f.home;
              its_list = f.its_list;
              its_fixed = f.its_fixed;
              nobody = cases (λ _ u. u.mark ≡ 0) refl (f.nobody id v at) (λ k u _ _ e. f.nobody k u e);
            } in inl goal)
            (λ (t : Taken list fixed has may r.now s). inr (dite (ℕ_discrete id t.seat)
            (λ same.
            let is : t.view ≡ v = some-injective _ _ (sym t.there ∙ (ap (λ (n : ℕ). get_elem? s.views n) (sym same) ∙ at)) in
            let its : v.mark ≡ get_or s.words 0 0 = ap (λ (x : W). x.mark) (sym is) ∙ t.mark in
            let marked : v.mark ≢ 0 = λ z. let p = t.word.0 in absurd (omega arith) in
            let goal : Taken list fixed has may r.now after = record {
              word = t.word;
              home = t.home;
              seat = id;
              view = both;
              there = set_else (set s.views id both) other id spent (λ q. apart (sym q)) ∙ set_there s.views id v both at;
              mark = its;
              whole = later_marked v.mark v.seen w.seen marked ∙ whole marked;
              acts = let a = t.acts in let h = subst (λ (x : W). Holding a.0 x.held) is a.1 in (a.0, (h.0, in_left (a.0, h.0) v.held w.held h.1));
              others = cases (λ k u. k ≢ id → u.mark ≡ 0) (λ _. refl) (λ no. absurd (no refl)) (λ k u no _ e _. t.others k u e (λ z. no (z ∙ sym same)));
            } in goal)
            (λ away.
            let elsewhere : t.seat ≢ other = λ z. let is : t.view ≡ w = some-injective _ _ (sym t.there ∙ (ap (λ (n : ℕ). get_elem? s.views n) z ∙ there)) in
            let its : w.mark ≡ get_or s.words 0 0 = ap (λ (x : W). x.mark) (sym is) ∙ t.mark in
            let p = t.word.0 in absurd (omega arith) in
            let goal : Taken list fixed has may r.now after = record {
              word = t.word;
              home = t.home;
              seat = t.seat;
              view = t.view;
              there = set_else (set s.views id both) other t.seat spent elsewhere ∙ (set_else s.views id t.seat both (λ q. away (sym q)) ∙ t.there);
              mark = t.mark;
              whole = t.whole;
              acts = t.acts;
              others = cases (λ k u. k ≢ t.seat → u.mark ≡ 0) (λ _. refl) (λ _. t.others id v at away) (λ k u _ _ e no. t.others k u e no);
            } in goal)))
            r.turn;
      }

  abbrev first_half : W → W
  first_half v = record v { held = first_of v.held }

  abbrev second_half : W → W
  second_half v = record v { held = others_of v.held }

  in_first : (held : List (Actor × List I)) (e : Actor × List I) → In e (first_of held) → In e held
  in_first [] e i = absurd i
  in_first (x ∷ xs) e i = ⊎_elim (λ (t : x ≡ e). inl t) (λ q. absurd q) i

  in_others : (held : List (Actor × List I)) (e : Actor × List I) → In e (others_of held) → In e held
  in_others [] e i = absurd i
  in_others (x ∷ xs) e i = inr i

  once_first : (held : List (Actor × List I)) → Once held → Once (first_of held) × Once (others_of held)
      × ((a : Actor) → Holding a (others_of held) → Holding a (first_of held) → ⊥)
  once_first [] o = (tt, tt, λ a q _. absurd q.1)
  once_first (x ∷ xs) o = (
    ((λ q. absurd q.1), tt),
    o.1,
    λ a p q. ⊎_elim (λ (t : x ≡ (a, q.0)).
        o.0 (subst (λ (b : Actor). Holding b xs) (sym (ap (λ (z : Actor × List I). z.0) t)) p)) (λ z. absurd z) q.1,
  )

  -- the first actor goes to the new seat
  pub splits_first : (id : ℕ) (v : W) → v.mark ≡ 0 → Splits Rule id v (second_half v) (first_half v)
  splits_first id v unmarked = splits_at id v (second_half v) (first_half v)
      (λ h fit. let o = once_first v.held fit.once in (
        record {
          begins = fit.begins;
          steps = λ a l q. fit.steps a l (in_others v.held (a, l) q);
          once = o.1;
          known = λ a q.
              fit.known a (q.0, in_others v.held (a, q.0) q.1);
          olds = fit.olds;
          live = fit.live;
        },
        record {
          begins = fit.begins;
          steps = λ a l q. fit.steps a l (in_first v.held (a, l) q);
          once = o.0;
          known = λ a q.
              fit.known a (q.0, in_first v.held (a, q.0) q.1);
          olds = fit.olds;
          live = fit.live;
        },
      ))
      (λ a q. (q.0, in_others v.held (a, q.0) q.1)) (λ a q. (q.0, in_first v.held (a, q.0) q.1)) (λ h fit a p q. (once_first v.held fit.once).2 a p q) refl refl
      unmarked (λ no. absurd (no unmarked))

  -- the object is put into the slot at first: the slot is taken
  pub opens_turn : (slots id : ℕ) (v : W) → v.mark ≡ 2 → Allows Rule slots id (v, []) 0 (λ _. 1) (λ _.
      opened list fixed has may (step slots 0 1 0 opt.none) (v, []) 1)
  opens_turn slots id v marked s r long at small =
      let have = has_turn s r id v at (λ e. absurd (omega arith)) in
      let t = have.0 in
      let fit = r.views id v at in
      let w : W = record v { mark = 1 } in
      let two : get_or s.words 0 0 ≡ 2 = sym t.mark ∙ (ap (λ (z : W). z.mark) have.2 ∙ marked) in (
        w,
        takes_slot 0 None,
        ap (λ (hs : List (opt.Option (Option L))). get_elem? hs 0) (t.home.1 two),
        record {
          now = r.now;
          wide = length-set s.words 0 1 ∙ r.wide;
          lawful = r.lawful;
          count = r.count ∙ ap (λ (n : ℕ). (length (list about.kept) + n) % 2 ^ 64) (sym (count_stays s.words 1));
          views = views_set r.now s.views id w record {
            begins = fit.begins;
            steps = fit.steps;
            once = fit.once;
            known = fit.known;
            olds = fit.olds;
            live =
                fit.live;
          } (λ k u _ e. r.views k u e);
          apart = apart_set s.views id v w at (λ a h. h) r.apart;
          turn = inr record {
            word = let e = word_set s.words 1 r.wide in (omega arith, omega arith);
            home = (
              (λ _. ap (λ (hs : List (opt.Option (Option L))). set hs 0 opt.none) (t.home.1 two)),
              λ e.
                  absurd (omega (arith, word_set s.words 1 r.wide)),
            );
            seat = id;
            view = w;
            there = set_there s.views id v w at;
            mark = sym (word_set s.words 1 r.wide);
            whole = ap (λ (z : W). z.seen) (sym have.2) ∙ t.whole;
            acts = let a = t.acts in (a.0, subst (λ (z : W). Holding a.0 z.held) have.2 a.1);
            others = λ k u e other. ⊎_elim (λ (q : (k ≡ id) × (w ≡ u)). absurd (other q.0))
                (λ (q : (k ≢ id) × (get_elem? s.views k ≡ opt.some u)). t.others k u q.1 (λ z. other (z ∙ sym have.1))) (at_set s.views id k w u e);
          };
        },
        refl,
      )

  fixed_or : F → Option F → F
  fixed_or d (Some x) = x
  fixed_or d None = d

  some_fixed : (p q : F) → Some p ≡ Some q → p ≡ q
  unfolding fixed_or
  some_fixed p q e = ap (fixed_or p) e

  one_view : (v : W) (k : ℕ) (u : W) → get_elem? (v ∷ []) k ≡ opt.some u → (k ≡ 0) × (v ≡ u)
  one_view v zero u e = (refl, some-injective v u e)
  one_view v (suc k) u e = absurd (some-ne-none u (sym e))

  -- the table at the start
  pub opens : Distinct about.actors.items → 0 < length about.actors.items → Legal may (fixed about.kept) [] (list about.kept)
      → Rule (opening (2 ∷ 0 ∷ []) (None ∷ []) (first_view list fixed has may about.kept about.actors.items))
  opens apart some lawful =
      let o : L = about.kept in
      let v : W = first_view list fixed has may o about.actors.items in
      let f : Actor → List I = λ a. mine has a (list o) in
      record {
        now = list o;
        wide = refl;
        lawful = lawful;
        count = ap (λ (n : ℕ). n % 2 ^ 64) (omega arith);
        views = λ k u e. subst (Fit (list o)) (one_view v k u e).1 record {
          begins = prefix_refl (list o);
          steps = λ a l i. let h = (dealt_in f about.actors.items a l i).0 in (h, h);
          once = dealt_once f about.actors.items apart;
          known = λ a h. (dealt_in f about.actors.items a h.0 h.1).1;
          olds = λ q g i. absurd i;
          live = λ g e. (sym (some_fixed (fixed o) g e), refl);
        };
        apart = λ j k u w a p q _ _. (one_view v j u p).0 ∙ sym (one_view v k w q).0;
        turn = inr record {
          word = (omega arith, omega arith);
          home = ((λ e. absurd (omega arith)), λ _. refl);
          seat = 0;
          view = v;
          there = refl;
          mark = refl;
          whole = refl;
          acts = dealt_some f about.actors.items some;
          others = λ k u e other. absurd (other (one_view v k u e).0);
        };
      }

  -- the object at the end, where the pass has every actor
  pub closes : (id : ℕ) (v : W) (ws : List ℕ) (xs : List (Option L)) (r : Option L) → Final (Seen Rule id v) ws xs → v.mark ≡ 0
      → ((a : Actor) → In a about.actors.items → Holding a v.held) → get_elem? xs 0 ≡ opt.some r
      → (o : L) × (r ≡ Some o) × IsPrefix v.seen (list o) × ((a : Actor) (l : List I) → In (a, l) v.held → l ≡ mine has a (list o))
      × (fixed o ≡ fixed about.kept) × Legal may (fixed o) [] (list o)
  closes id v ws xs r last unmarked all here =
      let s = last.0 in
      let rule = last.1.0 in
      let at = last.1.1 in
      let fit = rule.views id v at in
      ⊎_elim
      (λ (f : Free list fixed has may about rule.now s).
      let there : get_elem? xs 0 ≡ opt.some (Some f.object) = last.4 0 (Some f.object) (ap (λ (hs : List (opt.Option (Option L))). get_elem? hs 0) f.home) in (
        f.object,
        some-injective _ _ (sym here ∙ there),
        subst (IsPrefix v.seen) (sym f.its_list) fit.begins,
        (λ a l i. (fit.steps a l i).0 ∙ ap (mine has a) (sym f.its_list)),
        f.its_fixed,
        subst (λ (q : F × List I). Legal may q.0 [] q.1) (λ i. (sym f.its_fixed i, sym f.its_list i)) rule.lawful,
      ))
      (λ (t : Taken list fixed has may rule.now s).
      let a = t.acts in
      let known = (rule.views t.seat t.view t.there).known a.0 a.1 in
      let same : t.seat ≡ id = rule.apart t.seat id t.view v a.0 t.there at a.1 (all a.0 known) in
      let is : t.view ≡ v = some-injective _ _ (sym t.there ∙ (ap (λ (n : ℕ). get_elem? s.views n) same ∙ at)) in
      let its : v.mark ≡ get_or s.words 0 0 = ap (λ (x : W). x.mark) (sym is) ∙ t.mark in
      let p = t.word.0 in
      absurd (omega arith))
      rule.turn

  -- the actors that the last join brought go back
  pub splits_back : (id : ℕ) (v : W) → (v.mark ≢ 0 → (a : Actor) × Holding a (keeps_own v).held) → Splits Rule id v (keeps_own v) (gives_back v)
  splits_back id v acts = splits_at id v (keeps_own v) (gives_back v)
      (λ h fit. let o = once_cut v.own v.held fit.once in (
        record {
          begins = fit.begins;
          steps = λ a l q. fit.steps a l (in_take v.own v.held (a, l) q);
          once = o.0;
          known = λ a q.
              fit.known a (q.0, in_take v.own v.held (a, q.0) q.1);
          olds = fit.olds;
          live = fit.live;
        },
        record {
          begins = fit.begins;
          steps = λ a l q. fit.steps a l (in_drop v.own v.held (a, l) q);
          once = o.1;
          known = λ a q.
              fit.known a (q.0, in_drop v.own v.held (a, q.0) q.1);
          olds = fit.olds;
          live = fit.live;
        },
      ))
      (λ a q. (q.0, in_take v.own v.held (a, q.0) q.1)) (λ a q. (q.0, in_drop v.own v.held (a, q.0) q.1))
      (λ h fit a p q. (once_cut v.own v.held fit.once).2 a p q) refl refl refl acts
