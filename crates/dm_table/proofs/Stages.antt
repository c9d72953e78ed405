-- How far a hand-over may have come, where the partition's own steps state this.
use Rattle.std.proofs.Common.{ℕ, suc, ◌+◌, ◌≤◌, ◌≡◌, ◌⊎◌, inl, inr, Bool, true, false, ◌==◌, ◌||◌, cond, List, [], ◌∷◌, Option, Some, None, refl, sym, ap, ◌∙◌, subst, arith}
use Rattle.std.proofs.lemmas.Bool.{eqb-true, false≢true}
use Rattle.std.specs.Prelude.{option_map, option_to_list, unwrap_or}
use Rattle.dm_chronicle.specs.Belongs.{belongs}
use Rattle.dm_event.specs.Actors.{actors}
use Rattle.dm_event.specs.Layout.{Layout}
use Rattle.dm_event.specs.declared.actor.Actor.TheVariants.{Partition}
use Rattle.dm_event.specs.declared.placing.Placing.{Placing}
use Rattle.dm_event.specs.declared.placing.Placing.TheVariants.{Settled, Asked, Between, Granted}
use Rattle.dm_event.specs.declared.step.Found.TheVariants.{Kept}
use Rattle.dm_event.specs.declared.step.Pending.{Pending}
use Rattle.dm_event.specs.declared.step.Pending.TheVariants as pending
use Rattle.dm_event.specs.declared.step.Step.{Step}
use Rattle.dm_event.specs.declared.step.Step.TheVariants.{Ask, Settle, Release, Grant, Doubt, Restart}
use Rattle.dm_model.proofs.LegalSteps.{legal_ask, legal_grant, legal_release, legal_restart, legal_settle}
use Rattle.dm_model.proofs.MastershipKept.{Held}
use Rattle.dm_model.proofs.MastershipSound.{mastered_past, mastery, part_of}
use Rattle.dm_model.specs.Doubts.{pending_at, step_of}
use Rattle.dm_model.specs.Legal.{LegalPast}
use Rattle.dm_model.specs.Placings.{after_acts, asked, placing, settled}
use Rattle.dm_table.specs.Stated.{Stated, stated, stated_by}

-- ---- what steps that aren't the partition's do

abbrev pub IsOther : ℕ → Step → Type 0
IsOther part step = belongs actors step (Partition part) ≡ false

-- an asked partition is released
pub record Releases (before now : Placing) : Type 0 where
  pub site : ℕ
  pub epoch : ℕ
  pub to : ℕ
  pub vector : List ℕ
  pub was : before ≡ Asked site epoch to
  pub is : now ≡ Between site epoch to vector

-- a released one is granted
pub record Grants (before now : Placing) : Type 0 where
  pub from : ℕ
  pub epoch : ℕ
  pub to : ℕ
  pub vector : List ℕ
  pub was : before ≡ Between from epoch to vector
  pub is : now ≡ Granted to (suc epoch)

abbrev pub Moves : Placing → Placing → Type 0
Moves before now = (now ≡ before) ⊎ (Releases before now ⊎ Grants before now)

not_this : {X : Type 0} (b : Bool) (x y : X) → (b || false) ≡ false → cond b x y ≡ y
not_this true x y h = absurd (false≢true (sym h))
not_this false x y h = refl

module _ (part p : ℕ) (before : Placing) where
  release_moves : (site epoch to : ℕ) (vector : List ℕ) → (p ≡ part → before ≡ Asked site epoch to) → Moves before (cond (p == part) (Between site epoch to vector) before)
  release_moves site epoch to vector was = by (p == part) refl
    where
      by : (b : Bool) → (p == part) ≡ b → Moves before (cond b (Between site epoch to vector) before)
      by true e = inr (inl (record { site = site; epoch = epoch; to = to; vector = vector; was = was (eqb-true p part e); is = refl }))
      by false e = inl refl

  grant_moves : (site epoch from old : ℕ) (vector : List ℕ) → (p ≡ part → before ≡ Between from old site vector) → epoch ≡ suc old
      → Moves before (cond (p == part) (Granted site epoch) before)
  grant_moves site epoch from old vector was next = by (p == part) refl
    where
      by : (b : Bool) → (p == part) ≡ b → Moves before (cond b (Granted site epoch) before)
      by true e =
          inr (inr (record { from = from; epoch = old; to = site; vector = vector; was = was (eqb-true p part e); is = ap (λ (n : ℕ). Granted site n) next }))
      by false e = inl refl

module _ (layout : Layout) (past : List Step) (part : ℕ) where
  here : (p : ℕ) (now : Placing) → placing layout past p ≡ now → p ≡ part → placing layout past part ≡ now
  here p now h e = ap (placing layout past) (sym e) ∙ h

  kept_moves : (site : ℕ) (o : Option Pending) → Held (part_of layout) (mastery layout past) site o
      → Moves (placing layout past part) (after_acts part (option_to_list (option_map (step_of site) o)) (placing layout past part))
  kept_moves site None h = inl refl
  kept_moves site (Some (pending.Commit e)) h = inl refl
  kept_moves site (Some (pending.Release p epoch to vector)) h =
      release_moves part p (placing layout past part) site epoch to vector (here p (Asked site epoch to) h.asked)
  kept_moves site (Some (pending.Grant p epoch vector)) h =
      grant_moves part p (placing layout past part) site epoch h.from h.old vector (here p (Between h.from h.old site vector) h.between) h.next

  pub others_move : (step : Step) → LegalPast layout (step ∷ past) → IsOther part step → Moves (placing layout past part) (placing layout (step ∷ past) part)
  others_move (Ask p epoch to txn) l other = inl (not_this (p == part) (asked (placing layout past part) to) (placing layout past part) other)
  others_move (Settle p epoch) l other = inl (not_this (p == part) (settled (placing layout past part)) (placing layout past part) other)
  others_move (Release site p epoch to vector) l other =
      release_moves part p (placing layout past part) site epoch to vector
      (here p (Asked site epoch to) (legal_release layout past site p epoch to vector l.1).asked)
  others_move (Grant site p epoch vector) l other =
      let legal = legal_grant layout past site p epoch vector l.1 in
      grant_moves part p (placing layout past part) site epoch legal.from legal.old vector
      (here p (Between legal.from legal.old site vector) legal.between) legal.next
  others_move (Restart site vector Kept) l other =
      kept_moves site (pending_at site past) ((mastered_past layout past l.0).held site (legal_restart layout past site vector Kept l.1).fits)
  others_move step l other = inl refl

-- ---- what the partition's own steps state

abbrev pub Stage : Stated → Placing → Type 0
Stage so_far (Settled site epoch) = (so_far.asked ≡ None) × (site ≡ so_far.site) × (epoch ≡ so_far.epoch)
Stage so_far (Asked site epoch to) = (so_far.asked ≡ Some to) × (site ≡ so_far.site) × (epoch ≡ so_far.epoch)
Stage so_far (Between site epoch to vector) = (so_far.asked ≡ Some to) × (site ≡ so_far.site) × (epoch ≡ so_far.epoch)
Stage so_far (Granted site epoch) = (so_far.asked ≡ Some site) × (epoch ≡ so_far.epoch + 1)

stage_moves : (so_far : Stated) (before now : Placing) → Moves before now → Stage so_far before → Stage so_far now
stage_moves so_far before now (inl same) h = subst (Stage so_far) (sym same) h
stage_moves so_far before now (inr (inl m)) h = subst (Stage so_far) (sym m.is) (subst (Stage so_far) m.was h)
stage_moves so_far before now (inr (inr m)) h =
    let g = subst (Stage so_far) m.was h in
    subst (Stage so_far) (sym m.is) (g.0, (let e = g.2 in omega (arith, e)))

module _ (so_far : Stated) (now : Placing) (part p : ℕ) (h : Stage so_far now) where
  ask_stage : (to site epoch : ℕ) → (p ≡ part → now ≡ Settled site epoch)
      → Stage (cond (p == part) (record { site = so_far.site; epoch = so_far.epoch; asked = Some to }) so_far) (cond (p == part) (asked now to) now)
  ask_stage to site epoch is = by (p == part) refl
    where
      next : Stated
      next = record { site = so_far.site; epoch = so_far.epoch; asked = Some to }

      by : (b : Bool) → (p == part) ≡ b → Stage (cond b next so_far) (cond b (asked now to) now)
      by true e =
          let s = is (eqb-true p part e) in
          let g = subst (Stage so_far) s h in
          subst (λ (x : Placing). Stage next (asked x to)) (sym s) (refl, g.1, g.2)
      by false e = h

  settle_stage : (site epoch : ℕ) → (p ≡ part → now ≡ Granted site epoch)
      → Stage (cond (p == part) (record { site = unwrap_or so_far.asked so_far.site; epoch = epoch; asked = None }) so_far) (cond (p == part) (settled now) now)
  settle_stage site epoch is = by (p == part) refl
    where
      next : Stated
      next = record { site = unwrap_or so_far.asked so_far.site; epoch = epoch; asked = None }

      by : (b : Bool) → (p == part) ≡ b → Stage (cond b next so_far) (cond b (settled now) now)
      by true e =
          let s = is (eqb-true p part e) in
          let g = subst (Stage so_far) s h in
          subst (λ (x : Placing). Stage next (settled x)) (sym s) (refl, sym (ap (λ (o : Option ℕ). unwrap_or o so_far.site) g.0), refl)
      by false e = h

-- in a legal past the partition is as far as its own steps state
pub stage_past : (layout : Layout) (past : List Step) → LegalPast layout past → (part : ℕ) → Stage (stated layout past part) (placing layout past part)
stage_past layout [] l part = (refl, refl, refl)
stage_past layout (Ask p epoch to txn ∷ past) l part =
    let legal = legal_ask layout past p epoch to txn l.1 in
    ask_stage (stated layout past part) (placing layout past part) part p (stage_past layout past l.0 part) to legal.home epoch
    (here layout past part p (Settled legal.home epoch) legal.settled)
stage_past layout (Settle p epoch ∷ past) l part =
    let legal = legal_settle layout past p epoch l.1 in
    settle_stage (stated layout past part) (placing layout past part) part p (stage_past layout past l.0 part) legal.site epoch
    (here layout past part p (Granted legal.site epoch) legal.granted)
stage_past layout (Doubt site p ∷ past) l part = stage_past layout past l.0 part
stage_past layout (step ∷ past) l part =
    stage_moves (stated layout past part) (placing layout past part) (placing layout (step ∷ past) part) (others_move layout past part step l refl)
    (stage_past layout past l.0 part)

-- settled where they state it, where no hand-over is under way
pub settled_stage : (so_far : Stated) (now : Placing) → Stage so_far now → so_far.asked ≡ None → now ≡ Settled so_far.site so_far.epoch
settled_stage so_far (Settled site epoch) h none = λ i. Settled (h.1 i) (h.2 i)
settled_stage so_far (Asked site epoch to) h none = absurd (cc (h.0, none))
settled_stage so_far (Between site epoch to vector) h none = absurd (cc (h.0, none))
settled_stage so_far (Granted site epoch) h none = absurd (cc (h.0, none))

-- ---- what stays until the partition's next own step

pub stated_other : (part : ℕ) (step : Step) (so_far : Stated) → IsOther part step → stated_by part step so_far ≡ so_far
stated_other part (Ask p epoch to txn) so_far h = not_this (p == part) _ so_far h
stated_other part (Settle p epoch) so_far h = not_this (p == part) _ so_far h
stated_other part step so_far h = refl

granted_on : (before now : Placing) (site epoch : ℕ) → Moves before now → before ≡ Granted site epoch → now ≡ Granted site epoch
granted_on before now site epoch (inl same) h = same ∙ h
granted_on before now site epoch (inr (inl m)) h = absurd (cc (m.was, h))
granted_on before now site epoch (inr (inr m)) h = absurd (cc (m.was, h))

pub granted_other : (layout : Layout) (past : List Step) (step : Step) (part site epoch : ℕ) → LegalPast layout (step ∷ past) → IsOther part step
    → placing layout past part ≡ Granted site epoch → placing layout (step ∷ past) part ≡ Granted site epoch
granted_other layout past step part site epoch l other h =
    granted_on (placing layout past part) (placing layout (step ∷ past) part) site epoch (others_move layout past part step l other) h

-- ---- a grant under an epoch

-- Once the partition is granted under an epoch, it is so still, or was settled under that epoch or a later one.
module _ (layout : Layout) (part site epoch : ℕ) where
  abbrev pub Came : List Step → Type 0
  Came past = (placing layout past part ≡ Granted site epoch) ⊎ (epoch ≤ (stated layout past part).epoch)

  same_epoch : (at : ℕ) (n : ℕ) → Granted at n ≡ Granted site epoch → epoch ≤ n
  same_epoch at n e = let q : n ≡ epoch = cc (e) in omega (arith, q)

  pub came_on : (past : List Step) (step : Step) → LegalPast layout (step ∷ past) → Came past → Came (step ∷ past)
  came_on past (Ask p n to txn) l h = by (p == part) refl h
    where
      so_far : Stated
      so_far = stated layout past part

      by : (b : Bool) → (p == part) ≡ b → Came past
          → (cond b (asked (placing layout past part) to) (placing layout past part) ≡ Granted site epoch)
          ⊎ (epoch ≤ (cond b (record { site = so_far.site; epoch = so_far.epoch; asked = Some to }) so_far).epoch)
      by true e (inl g) =
          let legal = legal_ask layout past p n to txn l.1 in
          let now = here layout past part p (Settled legal.home n) legal.settled (eqb-true p part e) in absurd (cc (now, g))
      by true e (inr k) = inr k
      by false e k = k
  came_on past (Settle p n) l h = by (p == part) refl h
    where
      so_far : Stated
      so_far = stated layout past part

      by : (b : Bool) → (p == part) ≡ b → Came past
          → (cond b (settled (placing layout past part)) (placing layout past part) ≡ Granted site epoch)
          ⊎ (epoch ≤ (cond b (record { site = unwrap_or so_far.asked so_far.site; epoch = n; asked = None }) so_far).epoch)
      by true e h =
          let legal = legal_settle layout past p n l.1 in
          let now : placing layout past part ≡ Granted legal.site n = here layout past part p (Granted legal.site n) legal.granted (eqb-true p part e) in
          inr (later legal.site now h)
        where
          later : (at : ℕ) → placing layout past part ≡ Granted at n → Came past → epoch ≤ n
          later at now (inl g) = same_epoch at n (sym now ∙ g)
          later at now (inr k) = let s = (subst (Stage so_far) now (stage_past layout past l.0 part)).1 in omega (arith, s, k)
      by false e k = k
  came_on past (Doubt at p) l h = h
  came_on past step l (inl g) = inl (granted_other layout past step part site epoch l refl g)
  came_on past step l (inr k) = inr k
