-- In every legal past each partition has one master, and none only during its hand-over.
use Rattle.std.proofs.Common.{ℕ, zero, suc, ◌<◌, ◌≡◌, Bool, true, false, not, ◌==◌, ◌&&◌, ◌||◌, if◌then◌else◌, List, [], ◌∷◌, ◌++◌, Option, Some, None, refl}
use Rattle.std.proofs.Common.{sym, ap, ◌∙◌, subst, arith, inl, inr, unwrap_or}
use Rattle.std.proofs.lemmas.Bool.{eqb-true, eq-eqb, ne_eqb, false≢true, and_parts, and_from, or_cases, false_from_ne_true}
use Rattle.std.specs.List.{list_any}
use Rattle.std.specs.Prelude.{option_map, option_to_list, slice_index}
use Rattle.dm_event.specs.Layout.{Layout}
use Rattle.dm_event.specs.declared.placing.Placing.{Placing}
use Rattle.dm_event.specs.declared.placing.Placing.TheVariants.{Settled, Asked, Between, Granted}
use Rattle.dm_event.specs.declared.step.Entry.{Entry}
use Rattle.dm_event.specs.declared.step.Found.TheVariants.{Kept}
use Rattle.dm_event.specs.declared.step.Pending.{Pending}
use Rattle.dm_event.specs.declared.step.Pending.TheVariants as pending
use Rattle.dm_event.specs.declared.step.Step.{Step}
use Rattle.dm_event.specs.declared.step.Step.TheVariants.{Ask, Settle, Commit, Release, Grant, Restart}
use Rattle.dm_model.proofs.LegalSteps.{legal_commit, legal_release, legal_grant, legal_restart}
use Rattle.dm_model.proofs.MastershipKept.{Held}
use Rattle.dm_model.proofs.MastershipSound.{MasteredPast, mastered_past, mastery, part_of, commit_holds}
use Rattle.dm_model.proofs.NumbersKept.{InDoubt}
use Rattle.dm_model.proofs.NumbersSound.{SoundPast, sound_past, counts}
use Rattle.dm_model.proofs.RunningIsLast.{Seated, seated}
use Rattle.dm_model.proofs.StepTests.{taken, passed}
use Rattle.dm_model.specs.Acts.{acts, acts_of}
use Rattle.dm_model.specs.Allowed.{Allowed}
use Rattle.dm_model.specs.Doubts.{step_of, pending_at}
use Rattle.dm_model.specs.Legal.{LegalPast}
use Rattle.dm_model.specs.Masters.{opens_with, grants, releases}
use Rattle.dm_model.specs.OneMaster.{takes, HasOneMaster, WritesMastered, OneMasterPast}
use Rattle.dm_model.specs.Placings.{placing, after_acts, asked, settled, masters_now}
use Rattle.dm_model.specs.Words.{latest}

-- the placing gives the partition to the site under the epoch
abbrev pub gives : Placing → ℕ → ℕ → Bool
gives (Settled site epoch) i e = (site == i) && (epoch == e)
gives (Asked site epoch to) i e = (site == i) && (epoch == e)
gives (Between site epoch to vector) i e = false
gives (Granted site epoch) i e = (site == i) && (epoch == e)

-- the least epoch that was not released
abbrev pub bound : Placing → ℕ
bound (Settled site epoch) = epoch
bound (Asked site epoch to) = epoch
bound (Between site epoch to vector) = suc epoch
bound (Granted site epoch) = epoch

abbrev pub is_free : Placing → Bool
is_free (Settled site epoch) = false
is_free (Asked site epoch to) = false
is_free (Between site epoch to vector) = true
is_free (Granted site epoch) = false

-- the acts and the placing of a partition agree
pub record Agree (layout : Layout) (ds : List Step) (p : ℕ) (pl : Placing) : Type 0 where
  pub same : (i e : ℕ) → ((opens_with layout i p e || list_any (grants i p e) ds) && not (list_any (releases i p e) ds)) ≡ gives pl i e
  pub before : (i e : ℕ) → list_any (releases i p e) ds ≡ true → e < bound pl
  pub free : unwrap_or (latest (takes p) ds) false ≡ is_free pl

-- the two placings say the same of the master
record Alike (x y : Placing) : Type 0 where
  gives : (i e : ℕ) → gives y i e ≡ gives x i e
  bound : bound y ≡ bound x
  free : is_free y ≡ is_free x

asked_same : (p : Placing) (to : ℕ) → Alike p (asked p to)
asked_same (Settled site epoch) to = record { gives = λ i e. refl; bound = refl; free = refl }
asked_same (Asked site epoch t) to = record { gives = λ i e. refl; bound = refl; free = refl }
asked_same (Between site epoch t vector) to = record { gives = λ i e. refl; bound = refl; free = refl }
asked_same (Granted site epoch) to = record { gives = λ i e. refl; bound = refl; free = refl }

settled_same : (p : Placing) → Alike p (settled p)
settled_same (Settled site epoch) = record { gives = λ i e. refl; bound = refl; free = refl }
settled_same (Asked site epoch t) = record { gives = λ i e. refl; bound = refl; free = refl }
settled_same (Between site epoch t vector) = record { gives = λ i e. refl; bound = refl; free = refl }
settled_same (Granted site epoch) = record { gives = λ i e. refl; bound = refl; free = refl }

replaced : (layout : Layout) (ds : List Step) (p : ℕ) (x y : Placing) → Alike x y → Agree layout ds p x → Agree layout ds p y
replaced layout ds p x y h a = record {
  same = λ i e. a.same i e ∙ sym (h.gives i e);
  before = λ i e r. (let b = a.before i e r in let c = h.bound in omega arith);
  free = a.free ∙ sym h.free;
}

by_test : (layout : Layout) (ds : List Step) (p : ℕ) (f : Placing → Placing) (b : Bool) (x : Placing) → Agree layout ds p x → Agree layout ds p (f x)
    → Agree layout ds p (if b then f x else x)
by_test layout ds p f true x a c = c
by_test layout ds p f false x a c = a

-- a Release of the partition by its master, and one of another
release_agrees : (layout : Layout) (ds : List Step) (p site part epoch to : ℕ) (vector : List ℕ) (x : Placing) (to' : ℕ) → Agree layout ds p x
    → (part ≡ p → x ≡ Asked site epoch to')
    → Agree layout (Release site part epoch to vector ∷ ds) p (if part == p then Between site epoch to vector else x)
release_agrees layout ds p site part epoch to vector x to' a h = by (part == p) refl
  where
    cut : (g r y : Bool) (site' i epoch' e : Bool) → (g && not r) ≡ (y) → y ≡ (site' && epoch') → (g && not ((site' && (true && epoch')) || r)) ≡ false
    cut g r y true i true e q w = and_false g
      where
        and_false : (g : Bool) → (g && false) ≡ false
        and_false true = refl
        and_false false = refl
    cut g r y true i false e q w = q ∙ w
    cut g r y false i epoch' e q w = q ∙ w

    other : (g r s e : Bool) → (g && not ((s && (false && e)) || r)) ≡ (g && not r)
    other g r true e = refl
    other g r false e = refl

    none : (s e : Bool) → (s && (false && e)) ≡ true → ⊥
    none true e q = false≢true q
    none false e q = false≢true q

    by : (b : Bool) → (part == p) ≡ b → Agree layout (Release site part epoch to vector ∷ ds) p (if b then Between site epoch to vector else x)
    by true q =
        let w = h (eqb-true part p q) in
        record {
          same = λ i e. subst (λ (t : Bool). ((opens_with layout i p e || list_any (grants i p e) ds)
              && not (((site == i) && (t && (epoch == e))) || list_any (releases i p e) ds)) ≡ false) (sym q)
              (cut (opens_with layout i p e || list_any (grants i p e) ds) (list_any (releases i p e) ds) (gives x i e) (site == i) true (epoch == e) true
              (a.same i e) (ap (λ (z : Placing). gives z i e) w));
          before = λ i e r. elim (or_cases ((site == i) && ((part == p) && (epoch == e))) (list_any (releases i p e) ds) r) [
            | inl k ↦ (let f = eqb-true epoch e (and_parts (part == p) (epoch == e) (and_parts (site == i) _ k).1).1 in omega arith)
            | inr k ↦ (let f = a.before i e k in let g = ap bound w in omega arith)
          ];
          free = ap (λ (o : Option Bool). unwrap_or o false) (taken (part == p) true (latest (takes p) ds) q);
        }
    by false q = record {
      same = λ i e. subst (λ (t : Bool). ((opens_with layout i p e || list_any (grants i p e) ds)
          && not (((site == i) && (t && (epoch == e))) || list_any (releases i p e) ds)) ≡ gives x i e) (sym q)
          (other (opens_with layout i p e || list_any (grants i p e) ds) (list_any (releases i p e) ds) (site == i) (epoch == e) ∙ a.same i e);
      before = λ i e r. elim (or_cases ((site == i) && ((part == p) && (epoch == e))) (list_any (releases i p e) ds) r) [
        | inl k ↦ absurd (none (site == i) (epoch == e) (subst (λ (t : Bool). ((site == i) && (t && (epoch == e))) ≡ true) q k))
        | inr k ↦ a.before i e k
      ];
      free = ap (λ (o : Option Bool). unwrap_or o false) (passed (part == p) true (latest (takes p) ds) q) ∙ a.free;
    }

grant_agrees : (layout : Layout) (ds : List Step) (p site part epoch s b to : ℕ) (vector v : List ℕ) (x : Placing) → Agree layout ds p x
    → (part ≡ p → x ≡ Between s b to v) → epoch ≡ suc b
    → Agree layout (Grant site part epoch vector ∷ ds) p (if part == p then Granted site epoch else x)
grant_agrees layout ds p site part epoch s b to vector v x a h next = by (part == p) refl
  where
    put' : (o g r here : Bool) → ((o || g) && not r) ≡ false → (here ≡ true → r ≡ false) → ((o || (here || g)) && not r) ≡ here
    put' true g r true q w = ap not (w refl)
    put' true g r false q w = q
    put' false g r true q w = ap not (w refl)
    put' false g r false q w = q

    other : (o g r s e : Bool) → ((o || ((s && (false && e)) || g)) && not r) ≡ ((o || g) && not r)
    other o g r true e = refl
    other o g r false e = refl

    by : (t : Bool) → (part == p) ≡ t → Agree layout (Grant site part epoch vector ∷ ds) p (if t then Granted site epoch else x)
    by true q =
        let w = h (eqb-true part p q) in
        record {
          same = λ i e. subst (λ (t : Bool). ((opens_with layout i p e || (((site == i) && (t && (epoch == e))) || list_any (grants i p e) ds))
              && not (list_any (releases i p e) ds)) ≡ ((site == i) && (epoch == e))) (sym q)
              (put' (opens_with layout i p e) (list_any (grants i p e) ds) (list_any (releases i p e) ds) ((site == i) && (epoch == e))
              (a.same i e ∙ ap (λ (z : Placing). gives z i e) w)
              (λ k. false_from_ne_true _ (λ r. absurd (let f = a.before i e r in let g = ap bound w in let m =
              eqb-true epoch e (and_parts (site == i) (epoch == e) k).1 in omega arith))));
          before = λ i e r. (let f = a.before i e r in let g = ap bound w in omega arith);
          free = ap (λ (o : Option Bool). unwrap_or o false) (taken (part == p) false (latest (takes p) ds) q);
        }
    by false q = record {
      same = λ i e. subst (λ (t : Bool). ((opens_with layout i p e || (((site == i) && (t && (epoch == e))) || list_any (grants i p e) ds))
          && not (list_any (releases i p e) ds)) ≡ gives x i e) (sym q)
          (other (opens_with layout i p e) (list_any (grants i p e) ds) (list_any (releases i p e) ds) (site == i) (epoch == e) ∙ a.same i e);
      before = a.before;
      free = ap (λ (o : Option Bool). unwrap_or o false) (passed (part == p) false (latest (takes p) ds) q) ∙ a.free;
    }

commit_agrees : (layout : Layout) (ds : List Step) (p : ℕ) (e : Entry) (x : Placing) → Agree layout ds p x → Agree layout (Commit e ∷ ds) p x
commit_agrees layout ds p e x a = record { same = a.same; before = a.before; free = a.free }

abbrev pub AgreePast : Layout → List Step → Type 0
AgreePast layout past = (p : ℕ) → Agree layout (acts past) p (placing layout past p)

kept_agrees : (layout : Layout) (past : List Step) (site : ℕ) (o : Option Pending) → Held (part_of layout) (mastery layout past) site o → AgreePast layout past
    → (p : ℕ) → Agree layout (option_to_list (option_map (step_of site) o) ++ acts past) p
    (after_acts p (option_to_list (option_map (step_of site) o)) (placing layout past p))
kept_agrees layout past site None h a p = a p
kept_agrees layout past site (Some (pending.Commit e)) h a p = commit_agrees layout (acts past) p e (placing layout past p) (a p)
kept_agrees layout past site (Some (pending.Release part epoch to v)) h a p =
    release_agrees layout (acts past) p site part epoch to v (placing layout past p) to (a p) (λ q. ap (placing layout past) (sym q) ∙ h.asked)
kept_agrees layout past site (Some (pending.Grant part epoch v)) h a p =
    grant_agrees layout (acts past) p site part epoch h.from h.old site v v (placing layout past p) (a p) (λ q. ap (placing layout past) (sym q) ∙ h.between)
    h.next

pub agree_step : (layout : Layout) (past : List Step) (s : Step) → SoundPast layout past → Seated past → MasteredPast layout past → Allowed layout past s
    → AgreePast layout past → AgreePast layout (s ∷ past)
agree_step layout past (Ask part epoch to txn) n seat m h a =
    λ p. by_test layout (acts past) p (λ x. asked x to) (part == p) (placing layout past p) (a p)
    (replaced layout (acts past) p (placing layout past p) (asked (placing layout past p) to) (asked_same (placing layout past p) to) (a p))
agree_step layout past (Settle part epoch) n seat m h a =
    λ p. by_test layout (acts past) p settled (part == p) (placing layout past p) (a p)
    (replaced layout (acts past) p (placing layout past p) (settled (placing layout past p)) (settled_same (placing layout past p)) (a p))
agree_step layout past (Commit e) n seat m h a = λ p. commit_agrees layout (acts past) p e (placing layout past p) (a p)
agree_step layout past (Release site part epoch to vector) n seat m h a =
    let legal = legal_release layout past site part epoch to vector h in
    λ p. release_agrees layout (acts past) p site part epoch to vector (placing layout past p) to (a p) (λ q. ap (placing layout past) (sym q) ∙ legal.asked)
agree_step layout past (Grant site part epoch vector) n seat m h a =
    let legal = legal_grant layout past site part epoch vector h in
    λ p. grant_agrees layout (acts past) p site part epoch legal.from legal.old site vector vector (placing layout past p) (a p)
    (λ q. ap (placing layout past) (sym q) ∙ legal.between) legal.next
agree_step layout past (Restart site vector Kept) n seat m h a =
    kept_agrees layout past site (pending_at site past) (m.held site (legal_restart layout past site vector Kept h).fits) a
agree_step layout past other n seat m h a = a

nothing_yet : (layout : Layout) (p : ℕ) → Agree layout [] p (placing layout [] p)
nothing_yet layout p = record {
  same = λ i e. opening (slice_index layout.masters p == i) (e == 0) (0 == e) (flip e);
  before = λ i e r. absurd (false≢true r);
  free = refl;
}
  where
    flip : (e : ℕ) → (e == 0) ≡ (0 == e)
    flip zero = refl
    flip (suc e) = ne_eqb (suc e) 0 (λ p. absurd (omega arith)) ∙ sym (ne_eqb 0 (suc e) (λ p. absurd (omega arith)))

    opening : (a b c : Bool) → b ≡ c → (((a && b) || false) && true) ≡ (a && c)
    opening true true c q = q
    opening true false c q = q
    opening false b c q = refl

pub agree_past : (layout : Layout) (past : List Step) → LegalPast layout past → AgreePast layout past
agree_past layout [] h = nothing_yet layout
agree_past layout (s ∷ past) h = agree_step layout past s (sound_past layout past h.0) (seated layout past h.0) (mastered_past layout past h.0) h.1
    (agree_past layout past h.0)

one_given : (pl : Placing) (i k e f : ℕ) → gives pl i e ≡ true → gives pl k f ≡ true → (i ≡ k) × (e ≡ f)
one_given (Settled site epoch) i k e f g h = (let a = and_parts (site == i) (epoch == e) g in let b = and_parts (site == k) (epoch == f) h in
    (sym (eqb-true site i a.0) ∙ eqb-true site k b.0, sym (eqb-true epoch e a.1) ∙ eqb-true epoch f b.1))
one_given (Asked site epoch to) i k e f g h = (let a = and_parts (site == i) (epoch == e) g in let b = and_parts (site == k) (epoch == f) h in
    (sym (eqb-true site i a.0) ∙ eqb-true site k b.0, sym (eqb-true epoch e a.1) ∙ eqb-true epoch f b.1))
one_given (Between site epoch to vector) i k e f g h = absurd (false≢true g)
one_given (Granted site epoch) i k e f g h = (let a = and_parts (site == i) (epoch == e) g in let b = and_parts (site == k) (epoch == f) h in
    (sym (eqb-true site i a.0) ∙ eqb-true site k b.0, sym (eqb-true epoch e a.1) ∙ eqb-true epoch f b.1))

none_given : (pl : Placing) → is_free pl ≡ true → (i e : ℕ) → gives pl i e ≡ false
none_given (Settled site epoch) h i e = absurd (false≢true h)
none_given (Asked site epoch to) h i e = absurd (false≢true h)
none_given (Between site epoch to vector) h i e = refl
none_given (Granted site epoch) h i e = absurd (false≢true h)

-- the placing gives the partition to this site under this epoch
record Given (pl : Placing) (i : ℕ) : Type 0 where
  epoch : ℕ
  is : gives pl i epoch ≡ true

some_given : (pl : Placing) → is_free pl ≡ false → (i : ℕ) × Given pl i
some_given (Settled site epoch) h = (site, record { epoch = epoch; is = and_from _ _ (eq-eqb site site refl) (eq-eqb epoch epoch refl) })
some_given (Asked site epoch to) h = (site, record { epoch = epoch; is = and_from _ _ (eq-eqb site site refl) (eq-eqb epoch epoch refl) })
some_given (Between site epoch to vector) h = absurd (false≢true (sym h))
some_given (Granted site epoch) h = (site, record { epoch = epoch; is = and_from _ _ (eq-eqb site site refl) (eq-eqb epoch epoch refl) })

master_given : (pl : Placing) (i : ℕ) → masters_now pl i ≡ true → Given pl i
master_given (Settled site epoch) i h = record { epoch = epoch; is = and_from _ _ h (eq-eqb epoch epoch refl) }
master_given (Asked site epoch to) i h = record { epoch = epoch; is = and_from _ _ h (eq-eqb epoch epoch refl) }
master_given (Between site epoch to vector) i h = absurd (false≢true h)
master_given (Granted site epoch) i h = record { epoch = epoch; is = and_from _ _ h (eq-eqb epoch epoch refl) }

one_here : (layout : Layout) (past : List Step) → AgreePast layout past → (p : ℕ) → HasOneMaster layout past p
one_here layout past a p = record {
  only = λ i k e f g h. one_given (placing layout past p) i k e f (sym ((a p).same i e) ∙ g) (sym ((a p).same k f) ∙ h);
  none = λ b i e. (a p).same i e ∙ none_given (placing layout past p) (sym (a p).free ∙ b) i e;
  some = λ b. (let x = some_given (placing layout past p) (sym (a p).free ∙ b) in (x.0, x.1.epoch, (a p).same x.0 x.1.epoch ∙ x.1.is));
}

writes_here : (layout : Layout) (past : List Step) (s : Step) → SoundPast layout past → Seated past → MasteredPast layout past → Allowed layout past s
    → AgreePast layout past → WritesMastered layout past (acts_of s past)
writes_here layout past (Commit e) n seat m h a = λ key w. (
    let masters = (commit_holds layout past n seat m e (legal_commit layout past e h) key w).masters in
    let x = master_given (placing layout past (part_of layout key)) e.origin masters in
    (x.epoch, (a (part_of layout key)).same e.origin x.epoch ∙ x.is))
writes_here layout past (Restart site vector Kept) n seat m h a =
    let fits = (legal_restart layout past site vector Kept h).fits in
    kept (pending_at site past) (m.held site fits) (n.in_doubt site fits)
  where
    kept : (o : Option Pending) → Held (part_of layout) (mastery layout past) site o → InDoubt layout.sites (counts past) site o
        → WritesMastered layout past (option_to_list (option_map (step_of site) o))
    kept None d f = tt
    kept (Some (pending.Release part epoch to v)) d f = tt
    kept (Some (pending.Grant part epoch v)) d f = tt
    kept (Some (pending.Commit e)) d f = λ key w. (
        let now = placing layout past (part_of layout key) in
        let x = master_given now e.origin (subst (λ (i : ℕ). masters_now now i ≡ true) (sym f.own) (d key w).masters) in
        (x.epoch, (a (part_of layout key)).same e.origin x.epoch ∙ x.is))
writes_here layout past other n seat m h a = tt

pub one_master_past : (layout : Layout) (past : List Step) → LegalPast layout past → OneMasterPast layout past
one_master_past layout [] h = one_here layout [] (agree_past layout [] h)
one_master_past layout (s ∷ past) h = (
  one_here layout (s ∷ past) (agree_past layout (s ∷ past) h),
  writes_here layout past s (sound_past layout past h.0) (seated layout past h.0) (mastered_past layout past h.0) h.1 (agree_past layout past h.0),
  one_master_past layout past h.0,
)
