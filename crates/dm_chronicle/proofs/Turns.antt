-- What a turn knows once it has taken the object, and what a pass knows after a join.
use Rattle.std.proofs.Common.{append-nil, ◌≡◌, ℕ, zero, suc, length, nat_lt, take, drop, ◌<◌, ⊎_elim, arith, ◌+◌, ◌%◌, ◌^◌, List, [], ◌∷◌, ◌++◌, Some, None}
use Rattle.std.proofs.Common.{IsSomeAnd, IfSome, ◌||◌, true≢false, Option, Bool, true, false, refl, sym, ap, ◌∙◌, subst, inl, inr}
use mathlib.Core.List.{IsPrefix, cons≢nil}
use mathlib.Core.Option as opt
use Rattle.atomic_table.specs.Table.{Me, rest, step, Allows}
use Rattle.dm_event.specs.declared.actor.Actor.{Actor}
use Rattle.dm_event.specs.declared.actor.Actor.TheVariants.{Session, Partition, Site}
use Rattle.dm_chronicle.specs.Belongs.{is_same, is_other, belongs}
use Rattle.dm_chronicle.specs.declared.view.View.{View}
use Rattle.dm_chronicle.specs.declared.view.About.{About}
use Rattle.dm_chronicle.specs.Rule.{In, mine, note, Holding, Legal, names, takes, Took, Rests, Acts, Shows, Holds, joined, gathered, keeps_own, gives_back}
use Rattle.dm_chronicle.specs.Rule.{Looked, pushes, pushed, gave, opened, longer, later, first_of, others_of, first_view}
use Rattle.dm_chronicle.specs.Standing.{SameSteps, Covers, SameFixed}
use Rattle.dm_chronicle.proofs.Lists.{held_named, held_again, holding_again, again, prefix_refl, legal_snoc, in_left, in_right, later_marked, prefix_whole}
use Rattle.dm_chronicle.proofs.Lists.{dealt_in}
use Rattle.std.proofs.lemmas.Bool.Decides.{nat_tests}
use Rattle.dm_chronicle.proofs.Keeps.{pushes_step, gives_turn, opens_turn}

module _ {I : Type 0} where
  pub names_again : (f : Actor → List I) (held : List (Actor × List I)) → names (again f held) ≡ names held
  names_again f [] = refl
  names_again f (e ∷ es) = ap (λ (l : List Actor). e.0 ∷ l) (names_again f es)

module _ {L I F : Type 0} (list : L → List I) (fixed : L → F) (has : I → Actor → Bool) (may : F → List I → I → Type 0) where
  abbrev pub Mine : Type 0
  Mine = Me (Option L) (View I F)

  first_or : List (ℕ × Option L) → Option L
  first_or [] = None
  first_or (z ∷ zs) = z.1

  abbrev pub in_hand : Option L → List (ℕ × Option L) → List (ℕ × Option L)
  in_hand r more = (0, r) ∷ more

  pub slot_same : (p q : Option L) (xs ys : List (ℕ × Option L)) → in_hand p xs ≡ in_hand q ys → p ≡ q
  unfolding first_or
  slot_same p q xs ys e = ap first_or e

  -- of the seat before the take, after it, and after the exchange
  pub turn_taken : (me after end : Mine) (r : Option L) → Rests list fixed has may me → ((a : Actor) × Holding a me.0.held) → Took list fixed has may me after
      → after.1 ≡ in_hand r (rest after.1) → end ≡ (after.0, in_hand None (rest after.1)) → (k : L) × (r ≡ Some k) × Acts list fixed has may end k
  turn_taken me after end r rests acts t out ends =
      let k = t.object in
      let same : r ≡ Some k = slot_same r (Some k) (rest after.1) me.1 (sym out ∙ t.slot) in
      let nothing : rest after.1 ≡ [] = ap rest t.slot ∙ rests.hands in
      let known : Mine = (takes list fixed has may me.0 (list k), in_hand None []) in
      let whole : end ≡ known = ends ∙ (λ i. (t.view i, in_hand None (nothing i))) in (
        k,
        same,
        subst (λ (m : Mine). Acts list fixed has may m k) (sym whole) record {
          hands = refl;
          mark = refl;
          olds = rests.olds;
          live = rests.live.1 ∙ ap (λ (f : F). Some f) (sym (t.its_fixed rests.live.0 rests.live.1));
          whole = refl;
          steps = t.steps;
          lawful = t.lawful;
          acts = acts;
        },
      )

  pub turn_sees : (me after end : Mine) → Rests list fixed has may me → Took list fixed has may me after → end.0 ≡ after.0 → IsPrefix me.0.seen end.0.seen
      × SameSteps has (names me.0.held) me.0.seen end.0.seen
  turn_sees me after end rests t ends =
      let whole : end.0 ≡ takes list fixed has may me.0 (list t.object) = ends ∙ t.view in
      let P : View I F → Type 0 = λ v. IsPrefix me.0.seen v.seen × SameSteps has (names me.0.held) me.0.seen v.seen in
      let at : P (takes list fixed has may me.0 (list t.object)) = (
        t.begins,
        λ a i. let h = held_named me.0.held a i in sym (t.steps a h.0 h.1)
            ∙ rests.steps a h.0 h.1,
      ) in
      subst P (sym whole) at

  -- what a join and a load tell of the seat that stays
  pub record Gathers (v w now : View I F) : Type 0 where
    pub begins_into : IsPrefix v.seen now.seen
    pub begins_other : IsPrefix w.seen now.seen
    pub shows : Shows list fixed has may now
    pub still : SameFixed w.fixed v.fixed

  pub gathers : (v w : View I F) (cs : List (ℕ × Option L)) (before after : Mine) → before ≡ (joined v w, cs) → Looked list fixed has may before after
      → Gathers v w after.0
  gathers v w cs before after is looked =
      let look : Looked list fixed has may (joined v w, cs) after = subst (λ (m : Mine). Looked list fixed has may m after) is looked in
      let at : Gathers v w (gathered v w) = record {
        begins_into = (look.olds v.seen v.fixed (inl refl)).0;
        begins_other = (look.olds w.seen w.fixed (inr (inl refl))).0;
        shows = record { steps = look.steps; lawful = λ f e. look.lawful f e (joined v w).seen (prefix_refl (joined v w).seen) };
        still = (look.olds w.seen w.fixed (inr (inl refl))).1;
      } in
      subst (λ (m : Mine). Gathers v w m.0) (sym look.view) at

  pub push_allowed : (about : About L) (slots id : ℕ) (was me : Mine) (k o : L) (x : I) → Acts list fixed has may was k
      → me ≡ (was.0, in_hand (Some o) (rest was.1)) → list o ≡ list k ++ x ∷ [] → fixed o ≡ fixed k → may (fixed k) (list k) x
      → ((a : Actor) → has x a ≡ true → In a (names was.0.held))
      → Allows (Holds list fixed has may about) slots id me 1 (λ n. (n + 1) % 2 ^ 64) (pushed list fixed has may (step slots 1 1 0 opt.none) me)
  push_allowed about slots id was me k o x acts is adds same follows covers =
      let E : me ≡ (was.0, in_hand (Some o) []) = is ∙ (λ i. (was.0, in_hand (Some o) (ap rest acts.hands i))) in
      subst (λ (m : Mine). Allows (Holds list fixed has may about) slots id m 1 (λ n. (n + 1) % 2 ^ 64)
      (pushed list fixed has may (step slots 1 1 0 opt.none) m)) (sym E)
      (pushes_step list fixed has may about slots id was.0 o x acts.mark (adds ∙ ap (λ (l : List I). l ++ x ∷ []) (sym acts.whole))
      (acts.live ∙ ap (λ (f : F). Some f) (sym same))
      (subst (λ (q : F × List I). may q.0 q.1 x) (λ i. (sym same i, sym acts.whole i)) follows) (λ a yes. held_named was.0.held a (covers a yes)))

  -- the turn after a push
  pub push_acts : (was end : Mine) (k o : L) (x : I) → Acts list fixed has may was k → end ≡ (pushes list fixed has may was.0 (list o), in_hand None [])
      → list o ≡ list k ++ x ∷ [] → fixed o ≡ fixed k → may (fixed k) (list k) x → Acts list fixed has may end o
  push_acts was end k o x acts is adds same follows =
      let f : Actor → List I = λ a. mine has a (list o) in
      subst (λ (m : Mine). Acts list fixed has may m o) (sym is) record {
        hands = refl;
        mark = acts.mark;
        olds = acts.olds;
        live = acts.live ∙ ap (λ (f : F). Some f) (sym same);
        whole = refl;
        steps = λ a l i. (held_again f was.0.held a l i).0;
        lawful = subst (λ (q : F × List I). Legal may q.0 [] q.1) (λ i. (sym same i, sym adds i)) (legal_snoc may (fixed k) [] (list k) x acts.lawful follows);
        acts = let a = acts.acts in (a.0, holding_again f was.0.held a.0 a.1);
      }

  pub give_allowed : (about : About L) (slots id : ℕ) (v : View I F) (me : Mine) (o : L) → me ≡ (v, in_hand (Some o) []) → v.mark ≡ 1 → v.seen ≡ list o
      → v.fixed ≡ Some (fixed o)
      → Allows (Holds list fixed has may about) slots id me 0 (λ _. 0) (λ _. gave list fixed has may (step slots 0 0 0 opt.none) me 0)
  give_allowed about slots id v me o is mark whole live =
      subst (λ (m : Mine). Allows (Holds list fixed has may about) slots id m 0 (λ _. 0) (λ _. gave list fixed has may (step slots 0 0 0 opt.none) m 0))
      (sym is) (gives_turn list fixed has may about slots id v o mark (sym whole) live)

  object_or : L → Option L → L
  object_or d (Some q) = q
  object_or d None = d

  pub some_same : (p q : L) → Some p ≡ Some q → p ≡ q
  unfolding object_or
  some_same p q e = ap (object_or p) e

  pub hand_of : (l xs : List (ℕ × Option L)) (o : Option L) → l ≡ in_hand o xs → (x : Option L) × (l ≡ in_hand x (rest l))
  hand_of l xs o e = (o, e ∙ ap (in_hand o) (sym (ap rest e)))

  -- the seat after a push, with the object taken out of the slot again
  pub push_ends : (was me after end : Mine) (k o : L) (r : Option L) → Acts list fixed has may was k → me ≡ (was.0, in_hand (Some o) (rest was.1))
      → (after.1 ≡ me.1) × ((q : L) → me.1 ≡ in_hand (Some q) [] → after.0 ≡ pushes list fixed has may me.0 (list q)) → after.1 ≡ in_hand r (rest after.1)
      → end ≡ (after.0, in_hand None (rest after.1))
      → (r ≡ Some o) × (end ≡ (pushes list fixed has may was.0 (list o), in_hand None []))
  push_ends was me after end k o r acts is told out ends =
      let E : me ≡ (was.0, in_hand (Some o) []) = is ∙ (λ i. (was.0, in_hand (Some o) (ap rest acts.hands i))) in
      let slot : after.1 ≡ in_hand (Some o) [] = told.0 ∙ ap (λ (m : Mine). m.1) E in
      let seen : after.0 ≡ pushes list fixed has may was.0 (list o) = told.1 o (ap (λ (m : Mine). m.1) E)
      ∙ ap (λ (m : Mine). pushes list fixed has may m.0 (list o)) E in
      (slot_same r (Some o) (rest after.1) [] (sym out ∙ slot), ends ∙ (λ i. (seen i, in_hand None (ap rest slot i))))

  later_longer : (b : Bool) (xs ys : List I) → nat_lt (length xs) (length ys) ≡ b → IsPrefix xs ys → longer b xs ys ≡ ys
  later_longer true xs ys is p = refl
  later_longer false xs ys is p = prefix_whole xs ys p (grind (arith, nat_tests))

  pub later_free : (m : ℕ) (xs ys : List I) → m ≡ 0 → IsPrefix xs ys → later m xs ys ≡ ys
  later_free zero xs ys e p = later_longer (nat_lt (length xs) (length ys)) xs ys refl p
  later_free (suc m) xs ys e p = absurd (omega arith)

  -- a pass that has taken in a seat which has seen no less
  pub pass_after : (p t m : View I F) → p.mark ≡ 0 → IsPrefix p.seen t.seen → m ≡ gathered p t → Shows list fixed has may m
      → ((a : Actor) (l : List I) → In (a, l) p.held → l ≡ mine has a p.seen) → (m.seen ≡ t.seen) × SameSteps has (names p.held) p.seen t.seen
  pass_after p t m free begins is shows steps =
      let seen : m.seen ≡ t.seen = ap (λ (v : View I F). v.seen) is ∙ later_free p.mark p.seen t.seen free begins in (
        seen,
        λ a i. let h = held_named p.held a i in
            let there : In (a, h.0) m.held = subst (λ (v : View I F). In (a, h.0) v.held) (sym is) (in_left (a, h.0) p.held t.held h.1) in
            ap (mine has a) (sym seen) ∙ (sym (shows.steps a h.0 there) ∙ steps a h.0 h.1),
      )

  pub joined_steps : (v w m : View I F) → m ≡ gathered v w → Shows list fixed has may m → ((a : Actor) (l : List I) → In (a, l) v.held → l ≡ mine has a v.seen)
      → ((a : Actor) (l : List I) → In (a, l) w.held → l ≡ mine has a w.seen)
      → SameSteps has (names v.held) v.seen m.seen × SameSteps has (names w.held) w.seen m.seen
  joined_steps v w m is shows sv sw = (
    (λ a i. let h = held_named v.held a i in sym
        (shows.steps a h.0 (subst (λ (x : View I F). In (a, h.0) x.held) (sym is) (in_left (a, h.0) v.held w.held h.1))) ∙ sv a h.0 h.1),
    λ a i. let h = held_named w.held a i in sym
        (shows.steps a h.0 (subst (λ (x : View I F). In (a, h.0) x.held) (sym is) (in_right (a, h.0) v.held w.held h.1))) ∙ sw a h.0 h.1,
  )

  pub gather_rests : (me after : Mine) (w : View I F) → Rests list fixed has may me → after ≡ (gathered me.0 w, me.1) → Shows list fixed has may after.0
      → Rests list fixed has may after
  gather_rests me after w rests is shows = record {
    hands = ap (λ (m : Mine). m.1) is ∙ rests.hands;
    mark = ap (λ (m : Mine). m.0.mark) is ∙ rests.mark;
    olds = ap (λ (m : Mine). m.0.older) is;
    live = (rests.live.0, ap (λ (m : Mine). m.0.fixed) is ∙ rests.live.1);
    steps = shows.steps;
    lawful = shows.lawful;
  }

  pub open_allowed : (about : About L) (slots id : ℕ) (v : View I F) (me : Mine) → me ≡ (v, []) → v.mark ≡ 2
      → Allows (Holds list fixed has may about) slots id me 0 (λ _. 1) (λ _. opened list fixed has may (step slots 0 1 0 opt.none) me 1)
  open_allowed about slots id v me is mark = subst (λ (m : Mine).
      Allows (Holds list fixed has may about) slots id m 0 (λ _. 1) (λ _. opened list fixed has may (step slots 0 1 0 opt.none) m 1)) (sym is)
      (opens_turn list fixed has may about slots id v mark)

  pub close_steps : (v : View I F) (end : List I) → ((a : Actor) (l : List I) → In (a, l) v.held → l ≡ mine has a v.seen)
      → ((a : Actor) (l : List I) → In (a, l) v.held → l ≡ mine has a end) → SameSteps has (names v.held) v.seen end
  close_steps v end was now a i = let h = held_named v.held a i in sym (now a h.0 h.1) ∙ was a h.0 h.1

  -- a pass that was told
  pub told_view : (p w : View I F) → names (gathered p (note w)).held ≡ names p.held
  told_view p w = ap (λ (h : List (Actor × List I)). names h) (append-nil p.held)

module _ {A : Type 0} where
  cut_suc : (xs : List A) (i : ℕ) → i < length xs → (a : A) × (drop i xs ≡ a ∷ drop (suc i) xs) × (take (suc i) xs ≡ take i xs ++ a ∷ [])
  cut_suc [] i h = absurd (omega arith)
  cut_suc (x ∷ xs) zero h = (x, refl, refl)
  cut_suc (x ∷ xs) (suc i) h = let r = cut_suc xs i (omega arith) in (r.0, r.1, ap (λ (l : List A). x ∷ l) r.2)

  pub cut : (xs : List A) (i : ℕ) → i < length xs → (a : A) × (drop i xs ≡ a ∷ drop (i + 1) xs) × (take (i + 1) xs ≡ take i xs ++ a ∷ [])
  cut xs i h = let e : suc i ≡ i + 1 = omega arith in subst (λ (n : ℕ). (a : A) × (drop i xs ≡ a ∷ drop n xs) × (take n xs ≡ take i xs ++ a ∷ [])) e
      (cut_suc xs i h)

abbrev head_of : Actor → List Actor → Actor
head_of d [] = d
head_of d (x ∷ xs) = x

abbrev tail_of : List Actor → List Actor
tail_of [] = []
tail_of (x ∷ xs) = xs

module _ {I : Type 0} where
  pub named_first : (held : List (Actor × List I)) (a : Actor) (more : List Actor) → names held ≡ a ∷ more → (names (first_of held) ≡ a ∷ [])
      × (names (others_of held) ≡ more)
  named_first [] a more e = absurd (cons≢nil (sym e))
  named_first (x ∷ xs) a more e = (ap (λ (l : List Actor). head_of a l ∷ []) e, ap tail_of e)

  pub others_in : (held : List (Actor × List I)) (e : Actor × List I) → In e (others_of held) → In e held
  others_in [] e i = absurd i
  others_in (x ∷ xs) e i = inr i

  pub first_in : (held : List (Actor × List I)) (e : Actor × List I) → In e (first_of held) → In e held
  first_in [] e i = absurd i
  first_in (x ∷ xs) e i = ⊎_elim (λ (t : x ≡ e). inl t) (λ q. absurd q) i

module _ {A : Type 0} where
  value_or : A → Option A → A
  value_or d (Some x) = x
  value_or d None = d

  pub some_equal : (p q : A) → Some p ≡ Some q → p ≡ q
  unfolding value_or
  some_equal p q e = ap (value_or p) e

module _ {L I F : Type 0} (list : L → List I) (fixed : L → F) (has : I → Actor → Bool) (may : F → List I → I → Type 0) where
  -- what is so of the first view
  pub first_shows : (o : L) (actors : List Actor) → Legal may (fixed o) [] (list o)
      → Shows list fixed has may (record (first_view list fixed has may o actors) { mark = 0 })
  first_shows o actors lawful = record {
    steps = λ a l i. (dealt_in (λ b. mine has b (list o)) actors a l i).0;
    lawful = λ f e. subst (λ (g : F). Legal may g [] (list o)) (some_equal (fixed o) f e) lawful;
  }

  -- a turn that has taken in a seat without a mark
  pub gather_acts : (me after : Mine list fixed has may) (w : View I F) (k : L) → Acts list fixed has may me k
      → ((a : Actor) → Holding a w.held → Holding a w.held) → after ≡ (gathered me.0 w, me.1) → Shows list fixed has may after.0
      → Acts list fixed has may after k
  gather_acts me after w k acts _ is shows =
      let same : after.0.seen ≡ me.0.seen = ap (λ (m : Mine list fixed has may). m.0.seen) is
      ∙ later_marked me.0.mark me.0.seen w.seen (λ z. let one = acts.mark in absurd (omega arith)) in
      record {
        hands = ap (λ (m : Mine list fixed has may). m.1) is ∙ acts.hands;
        mark = ap (λ (m : Mine list fixed has may). m.0.mark) is ∙ acts.mark;
        olds = ap (λ (m : Mine list fixed has may). m.0.older) is;
        live = ap (λ (m : Mine list fixed has may). m.0.fixed) is ∙ acts.live;
        whole = same ∙ acts.whole;
        steps = shows.steps;
        lawful = acts.lawful;
        acts = let a = acts.acts in (
          a.0,
          (
            a.1.0,
            subst (λ (m : Mine list fixed has may). In (a.0, a.1.0) m.0.held) (sym is) (in_left (a.0, a.1.0) me.0.held w.held a.1.1),
          ),
        );
      }

  -- the turn's list, after it was told
  pub gather_seen : (me after : Mine list fixed has may) (w : View I F) (k : L) → Acts list fixed has may me k → after ≡ (gathered me.0 w, me.1)
      → after.0.seen ≡ me.0.seen
  gather_seen me after w k acts is = ap (λ (m : Mine list fixed has may). m.0.seen) is
      ∙ later_marked me.0.mark me.0.seen w.seen (λ z. let one = acts.mark in absurd (omega arith))

module _ {I : Type 0} where
  pub take_again : (f : Actor → List I) (xs ys : List (Actor × List I)) → take (length xs) (again f (xs ++ ys)) ≡ again f xs
  take_again f [] [] = refl
  take_again f [] (y ∷ ys) = refl
  take_again f (x ∷ xs) ys = ap (λ (l : List (Actor × List I)). (x.0, f x.0) ∷ l) (take_again f xs ys)

  pub drop_again : (f : Actor → List I) (xs ys : List (Actor × List I)) → drop (length xs) (again f (xs ++ ys)) ≡ again f ys
  drop_again f [] [] = refl
  drop_again f [] (y ∷ ys) = refl
  drop_again f (x ∷ xs) ys = drop_again f xs ys

module _ {L I F : Type 0} (list : L → List I) (fixed : L → F) (has : I → Actor → Bool) (may : F → List I → I → Type 0) where
  -- the turn's view with the other's actors, after a push of which the list is l
  abbrev pub lent : View I F → View I F → List I → View I F
  lent v p l = pushes list fixed has may (gathered v p) l

  pub lent_own : (v p : View I F) (l : List I) → (keeps_own (lent v p l)).held ≡ again (λ a. mine has a l) v.held
  lent_own v p l = take_again (λ a. mine has a l) v.held p.held

  pub lent_back : (v p : View I F) (l : List I) → (gives_back (lent v p l)).held ≡ again (λ a. mine has a l) p.held
  lent_back v p l = drop_again (λ a. mine has a l) v.held p.held

  pub lent_acts : (me end : Me (Option L) (View I F)) (v p : View I F) (o : L) → Acts list fixed has may me o → me.0 ≡ lent v p (list o)
      → ((a : Actor) × Holding a v.held) → end ≡ (keeps_own me.0, me.1) → Acts list fixed has may end o
  lent_acts me end v p o acts is own ends =
      let f : Actor → List I = λ a. mine has a (list o) in
      let held : end.0.held ≡ again f v.held = ap (λ (m : Me (Option L) (View I F)). m.0.held) ends
      ∙ (ap (λ (x : View I F). (keeps_own x).held) is ∙ lent_own v p (list o)) in
      record {
        hands = ap (λ (m : Me (Option L) (View I F)). m.1) ends ∙ acts.hands;
        mark = ap (λ (m : Me (Option L) (View I F)). m.0.mark) ends ∙ acts.mark;
        olds = ap (λ (m : Me (Option L) (View I F)). m.0.older) ends ∙ acts.olds;
        live = ap (λ (m : Me (Option L) (View I F)). m.0.fixed) ends ∙ acts.live;
        whole = ap (λ (m : Me (Option L) (View I F)). m.0.seen) ends ∙ acts.whole;
        steps = λ a l i. (held_again f v.held a l (subst (λ (h : List (Actor × List I)). In (a, l) h) held i)).0
            ∙ ap (mine has a) (sym (ap (λ (m : Me (Option L) (View I F)). m.0.seen) ends ∙ acts.whole));
        lawful = acts.lawful;
        acts = (own.0, subst (λ (h : List (Actor × List I)). Holding own.0 h) (sym held) (holding_again f v.held own.0 own.1));
      }

  pub lent_holds : (me : View I F) (v p : View I F) (l : List I) → me ≡ lent v p l → ((a : Actor) × Holding a v.held) → (a : Actor)
      × Holding a (keeps_own me).held
  lent_holds me v p l is own = (
    own.0,
    subst (λ (x : View I F). Holding own.0 (keeps_own x).held) (sym is)
        (subst (λ (h : List (Actor × List I)). Holding own.0 h) (sym (lent_own v p l)) (holding_again (λ a. mine has a l) v.held own.0 own.1)),
  )

  -- what a caller says of the turn's list is so of the object
  pub acts_may : (me : Me (Option L) (View I F)) (k : L) (x : I) (g : Option F) (xs : List I) → Acts list fixed has may me k → me.0.fixed ≡ g → me.0.seen ≡ xs
      → IsSomeAnd g (λ f. may f xs x) → may (fixed k) (list k) x
  acts_may me k x g xs acts is seen follows =
      subst (λ (l : List I). may (fixed k) l x) (sym seen ∙ acts.whole) (subst (λ (o : Option F). IsSomeAnd o (λ f. may f xs x)) (sym is ∙ acts.live) follows)

same_is : (x y : Actor) → is_same x y ≡ true → x ≡ y
same_is (Session a) (Session b) e = let n : a ≡ b = grind (arith, nat_tests) in ap Session n
same_is (Partition a) (Partition b) e = let n : a ≡ b = grind (arith, nat_tests) in ap Partition n
same_is (Site a) (Site b) e = let n : a ≡ b = grind (arith, nat_tests) in ap Site n
same_is (Session a) (Partition b) e = absurd (true≢false (sym e))
same_is (Session a) (Site b) e = absurd (true≢false (sym e))
same_is (Partition a) (Session b) e = absurd (true≢false (sym e))
same_is (Partition a) (Site b) e = absurd (true≢false (sym e))
same_is (Site a) (Session b) e = absurd (true≢false (sym e))
same_is (Site a) (Partition b) e = absurd (true≢false (sym e))

either_in : (b : Bool) (x : Actor) (o : Option Actor) (held : List Actor) (a : Actor) → is_same x a ≡ b → In x held → IfSome o (λ q. In q held)
    → (b || is_other o a) ≡ true → In a held
either_in true x o held a is i j e = subst (λ (q : Actor). In q held) (same_is x a is) i
either_in false x (Some y) held a is i j e = subst (λ (q : Actor). In q held) (same_is y a e) j
either_in false x None held a is i j e = absurd (true≢false (sym e))

pub covers_all : {I : Type 0} (actors : I → Actor × Option Actor) (held : List Actor) (x : I) → Covers actors held x → (a : Actor) → belongs actors x a ≡ true
    → In a held
covers_all actors held x c a e = either_in (is_same (actors x).0 a) (actors x).0 (actors x).1 held a refl c.0 c.1 e
