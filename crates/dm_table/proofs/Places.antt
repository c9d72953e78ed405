-- An entry in a turn, and after it.
use Rattle.std.proofs.Common.{ℕ, ◌+◌, ◌≡◌, ◌≢◌, ◌≤◌, Bool, cond, List, [], ◌∷◌, ◌++◌, Option, Some, None, length, refl, sym, ap, ◌∙◌, subst, inl}
use Rattle.std.proofs.Common.{◌⊎◌, inr, arith, unwrap_or}
use Rattle.std.proofs.lemmas.Bool.{eq-eqb}
use Rattle.std.specs.Prelude.{reverse, IsSomeAnd, IsTrue}
use Rattle.atomic_table.specs.Seated.{TableId}
use Rattle.dm_chronicle.proofs.Lists.{mine_prefix, prefix_length, prefix_whole}
use Rattle.dm_chronicle.specs.Belongs.{belongs}
use Rattle.dm_chronicle.specs.Rule.{In, Legal as Follows}
use Rattle.dm_chronicle.specs.Standing.{Sees}
use Rattle.dm_core.proofs.LawLegal.{legal_seen}
use Rattle.dm_core.specs.Lawful.{Terms, may_follow}
use Rattle.dm_event.specs.Actors.{actors}
use Rattle.dm_event.specs.Layout.{Layout, is_part}
use Rattle.dm_event.specs.declared.actor.Actor.{Actor}
use Rattle.dm_event.specs.declared.actor.Actor.TheVariants.{Partition, Session}
use Rattle.dm_event.specs.declared.placing.Placing.{Placing}
use Rattle.dm_event.specs.declared.placing.Placing.TheVariants.{Settled, Granted}
use Rattle.dm_event.specs.declared.step.Step.{Step}
use Rattle.dm_event.specs.declared.step.Step.TheVariants.{Ask, Settle}
use Rattle.dm_event.specs.declared.step.TxnId.{TxnId}
use Rattle.dm_invariant.specs.Stations.{View, layout_of, no_terms, own}
use Rattle.dm_invariant.specs.Turning.{Turned}
use Rattle.dm_model.specs.Allowed.{Allowed, wants_part}
use Rattle.dm_model.specs.Legal.{Legal}
use Rattle.dm_model.specs.Placings.{placing, settled}
use Rattle.dm_others.proofs.Growing.{grown, longer, reverse_snoc, unchanged}
use Rattle.dm_table.proofs.Allowing.{ask_may, settle_may}
use Rattle.dm_table.proofs.Stages.{Came, Stage, came_on, granted_other, settled_stage, stage_past, stated_other}
use Rattle.dm_table.specs.Places.{Placed, IsPlace, says, Knows, IsGranted, IsGrantedNext, IsSettledAt, IsSettledUnasked, WantsPart, placing_seen}
use Rattle.dm_table.specs.Stated.{Stated, stated, stated_by}

-- ---- what a turn shows

legal_in : (fixed : Option Terms) (steps : List Step) → IsSomeAnd fixed (λ f. Follows may_follow f [] steps) → Legal (unwrap_or fixed no_terms).layout steps
legal_in None steps h = absurd h
legal_in (Some f) steps h = legal_seen f steps h

-- where there is a fixed part, what is allowed may follow
may_in : (fixed : Option Terms) (steps : List Step) (step : Step) → IsSomeAnd fixed (λ f. Follows may_follow f [] steps)
    → Allowed (unwrap_or fixed no_terms).layout (reverse steps) step → IsSomeAnd fixed (λ f. may_follow f steps step)
may_in None steps step h a = absurd h
may_in (Some f) steps step h a = a

pub turn_layout : (pass : View) (turn : List Step) (fixed : Option Terms) → Turned pass turn fixed → (unwrap_or fixed no_terms).layout ≡ layout_of pass
turn_layout pass turn fixed t = ap (λ (o : Option Terms). (unwrap_or o no_terms).layout) t.fixed_is

pub turn_may : (pass : View) (turn : List Step) (fixed : Option Terms) (step : Step) → Turned pass turn fixed → Allowed (layout_of pass) (reverse turn) step
    → IsSomeAnd fixed (λ f. may_follow f turn step)
turn_may pass turn fixed step t a =
    may_in fixed turn step t.follows (subst (λ (l : Layout). Allowed l (reverse turn) step) (sym (turn_layout pass turn fixed t)) a)

-- a pass with one actor
only : (actor : Actor) (pass : View) (turn : List Step) (fixed : Option Terms) → pass.actors ≡ actor ∷ [] → Turned pass turn fixed → own actor turn ≡ own actor pass.seen
only actor pass turn fixed a t = t.same actor (subst (λ (held : List Actor). In actor held) (sym a) (inl refl))

-- ---- the entry

module _ {table : TableId} {place : Placed} (is : IsPlace table place) {turn : List Step} {fixed : Option Terms} (t : Turned place.pass turn fixed) where
  turn_legal : Legal (layout_of place.pass) turn
  turn_legal = subst (λ (l : Layout). Legal l turn) (turn_layout place.pass turn fixed t) (legal_in fixed turn t.follows)

  same_steps : own (Partition place.part) turn ≡ own (Partition place.part) place.pass.seen
  same_steps = only (Partition place.part) place.pass turn fixed is.actors t

  stated_now : says place ≡ stated (layout_of place.pass) (reverse turn) place.part
  stated_now =
      is.stated_is ∙ sym (unchanged (layout_of place.pass) (Partition place.part) (λ past. stated (layout_of place.pass) past place.part)
      (λ past step l other. stated_other place.part step (stated (layout_of place.pass) past place.part) other) place.pass.seen turn t.begins same_steps
      turn_legal)

  stage_now : Stage (says place) (placing (layout_of place.pass) (reverse turn) place.part)
  stage_now =
      subst (λ (so_far : Stated). Stage so_far (placing (layout_of place.pass) (reverse turn) place.part)) (sym stated_now)
      (stage_past (layout_of place.pass) (reverse turn) turn_legal place.part)

  pub settled_now : place.asked ≡ None → placing (layout_of place.pass) (reverse turn) place.part ≡ Settled place.site place.epoch
  settled_now none = settled_stage (says place) (placing (layout_of place.pass) (reverse turn) place.part) stage_now none

  -- with the list that it has then
  with_list : (now : Placed) (steps : List Step) → now.part ≡ place.part → now.pass ≡ record place.pass { seen = steps }
      → says now ≡ stated (layout_of place.pass) (reverse steps) place.part → IsPlace table now
  with_list now steps p e s = record {
    table_is = ap (λ (v : View). v.table) e ∙ is.table_is;
    actors = ap (λ (v : View). v.actors) e ∙ is.actors ∙ ap (λ (part : ℕ). Partition part ∷ []) (sym p);
    there = subst (λ (part : ℕ). IsTrue (is_part (layout_of now.pass) part)) (sym p)
        (subst (λ (v : View). IsTrue (is_part (layout_of v) place.part)) (sym e) is.there);
    stated_is = s ∙ sym (ap (λ (part : ℕ). stated (layout_of now.pass) (reverse now.pass.seen) part) p
        ∙ ap (λ (v : View). stated (layout_of v) (reverse v.seen) place.part) e);
  }

  pub still_place : (after : View) → after ≡ record place.pass { seen = turn } → IsPlace table (record place { pass = after })
  still_place after e = with_list (record place { pass = after }) turn refl e stated_now

  own_stated : (step : Step) → stated (layout_of place.pass) (reverse (turn ++ step ∷ [])) place.part
      ≡ stated_by place.part step (stated (layout_of place.pass) (reverse turn) place.part)
  own_stated step = ap (λ (past : List Step). stated (layout_of place.pass) past place.part) (reverse_snoc turn step)

  -- ---- an Ask

  pub asked_place : (after : View) (to : ℕ) (txn : TxnId) → after ≡ record place.pass { seen = turn ++ Ask place.part place.epoch to txn ∷ [] }
      → IsPlace table (record place { asked = Some to; pass = after })
  asked_place after to txn e =
      with_list (record place { asked = Some to; pass = after }) (turn ++ Ask place.part place.epoch to txn ∷ []) refl e
      (sym (own_stated (Ask place.part place.epoch to txn)
      ∙ ap (λ (so_far : Stated). stated_by place.part (Ask place.part place.epoch to txn) so_far) (sym stated_now)
      ∙ ap (λ (b : Bool). cond b (record { site = place.site; epoch = place.epoch; asked = Some to }) (says place)) (eq-eqb place.part place.part refl)))

  pub may_ask : (own0 : View) (to : ℕ) (txn : TxnId) → Turned own0 turn fixed → own0.actors ≡ Session txn.session ∷ [] → place.asked ≡ None → place.site ≢ to
      → WantsPart txn place.part to own0 → IsSomeAnd fixed (λ f. may_follow f turn (Ask place.part place.epoch to txn))
  may_ask own0 to txn u a free away wants =
      let route = wants.2 in
      let same : layout_of own0 ≡ layout_of place.pass = sym (turn_layout own0 turn fixed u) ∙ turn_layout place.pass turn fixed t in
      turn_may place.pass turn fixed (Ask place.part place.epoch to txn) t
      (ask_may (layout_of place.pass) turn route.0 place.part place.epoch place.site to txn wants.0 wants.1 route.1 turn_legal is.there
      (only (Session txn.session) own0 turn fixed a u ∙ route.2) (subst (λ (l : Layout). IsTrue (wants_part l place.part route.1 wants.0)) same wants.3) (settled_now free) away)

  -- ---- a Settle

  pub still_granted : (own0 : View) → Turned own0 turn fixed → Knows place own0 → (site epoch : ℕ) → placing_seen own0 place.part ≡ Granted site epoch
      → placing (layout_of place.pass) (reverse turn) place.part ≡ Granted site epoch
  still_granted own0 u knows site epoch g =
      let same : layout_of own0 ≡ layout_of place.pass = sym (turn_layout own0 turn fixed u) ∙ turn_layout place.pass turn fixed t in
      let all : own (Partition place.part) own0.seen ≡ own (Partition place.part) turn =
      prefix_whole (own (Partition place.part) own0.seen) (own (Partition place.part) turn)
      (mine_prefix (belongs actors) (Partition place.part) own0.seen turn u.begins)
      (subst (λ (steps : List Step). length steps ≤ length (own (Partition place.part) own0.seen)) (sym same_steps)
      (prefix_length (own (Partition place.part) place.pass.seen) (own (Partition place.part) own0.seen) knows)) in
      grown (layout_of place.pass) (Partition place.part) (λ past. placing (layout_of place.pass) past place.part ≡ Granted site epoch)
      (λ past step l other h. granted_other (layout_of place.pass) past step place.part site epoch l other h) own0.seen turn u.begins (sym all) turn_legal
      (subst (λ (l : Layout). placing l (reverse own0.seen) place.part ≡ Granted site epoch) same g)

  -- what was granted under the next epoch is so still, since the entry has that epoch to come
  pub granted_still : (own0 : View) → Turned own0 turn fixed → (site : ℕ) → placing_seen own0 place.part ≡ Granted site (place.epoch + 1)
      → placing (layout_of place.pass) (reverse turn) place.part ≡ Granted site (place.epoch + 1)
  granted_still own0 u site g =
      not_later (longer (layout_of place.pass) (Came (layout_of place.pass) place.part site (place.epoch + 1))
      (came_on (layout_of place.pass) place.part site (place.epoch + 1)) own0.seen turn u.begins turn_legal
      (inl (subst (λ (l : Layout). placing l (reverse own0.seen) place.part ≡ Granted site (place.epoch + 1)) same g)))
    where
      same : layout_of own0 ≡ layout_of place.pass
      same = sym (turn_layout own0 turn fixed u) ∙ turn_layout place.pass turn fixed t

      not_later : Came (layout_of place.pass) place.part site (place.epoch + 1) (reverse turn)
          → placing (layout_of place.pass) (reverse turn) place.part ≡ Granted site (place.epoch + 1)
      not_later (inl h) = h
      not_later (inr k) = absurd (let e = ap (λ (s : Stated). s.epoch) stated_now in omega (arith, e, k))

  module _ (site epoch : ℕ) (g : placing (layout_of place.pass) (reverse turn) place.part ≡ Granted site epoch) where
    granted_stage : Stage (says place) (Granted site epoch)
    granted_stage = subst (λ (now : Placing). Stage (says place) now) g stage_now

    pub asked_for : place.asked ≡ Some site
    asked_for = granted_stage.0

    pub next_epoch : epoch ≡ place.epoch + 1
    next_epoch = granted_stage.1

    pub may_settle : IsSomeAnd fixed (λ f. may_follow f turn (Settle place.part epoch))
    may_settle =
        turn_may place.pass turn fixed (Settle place.part epoch) t (settle_may (layout_of place.pass) (reverse turn) place.part epoch site is.there g)

    pub settled_place : (after : View) → after ≡ record place.pass { seen = turn ++ Settle place.part epoch ∷ [] }
        → IsPlace table (record { part = place.part; site = site; epoch = epoch; asked = None; pass = after })
    settled_place after e =
        with_list (record { part = place.part; site = site; epoch = epoch; asked = None; pass = after }) (turn ++ Settle place.part epoch ∷ []) refl e
        (sym (own_stated (Settle place.part epoch)
        ∙ ap (λ (so_far : Stated). stated_by place.part (Settle place.part epoch) so_far) (sym stated_now)
        ∙ ap (λ (b : Bool). cond b (record { site = unwrap_or place.asked place.site; epoch = epoch; asked = None }) (says place))
        (eq-eqb place.part place.part refl)
        ∙ ap (λ (o : Option ℕ). record { site = unwrap_or o place.site; epoch = epoch; asked = None }) asked_for))

    -- where the partition is then, for all who have seen the Settle
    pub is_settled : (pass : View) → layout_of pass ≡ layout_of place.pass → pass.seen ≡ turn ++ Settle place.part epoch ∷ [] → IsSettledAt place.part site epoch pass
    is_settled pass l e =
        ap (λ (layout : Layout). placing layout (reverse pass.seen) place.part) l
        ∙ ap (λ (steps : List Step). placing (layout_of place.pass) (reverse steps) place.part) e
        ∙ ap (λ (past : List Step). placing (layout_of place.pass) past place.part) (reverse_snoc turn (Settle place.part epoch))
        ∙ ap (λ (b : Bool). cond b (settled (placing (layout_of place.pass) (reverse turn) place.part)) (placing (layout_of place.pass) (reverse turn) place.part))
        (eq-eqb place.part place.part refl)
        ∙ ap settled g

-- ---- a meeting without a turn

pub met : (pass now : View) → Sees (belongs actors) pass now → IsSomeAnd now.fixed (λ f. Follows may_follow f [] now.seen) → Turned pass now.seen now.fixed
met pass now s f = record { begins = s.begins; same = s.own; fixed_is = ap (λ (v : View). v.fixed) s.same; follows = f }

pub met_place : {table : TableId} {place : Placed} (is : IsPlace table place) (now : View) → Sees (belongs actors) place.pass now
    → IsSomeAnd now.fixed (λ f. Follows may_follow f [] now.seen) → IsPlace table (record place { pass = now })
met_place {table} {place} is now s f = still_place is (met place.pass now s f) now s.same

-- the pass that it met knows where the partition is settled
pub met_settled : {table : TableId} {place : Placed} (is : IsPlace table place) (now own0 own1 : View) → Sees (belongs actors) place.pass now
    → IsSomeAnd now.fixed (λ f. Follows may_follow f [] now.seen) → place.pass.fixed ≡ own0.fixed → Sees (belongs actors) own0 own1 → own1.seen ≡ now.seen
    → IsSettledUnasked (record place { pass = now }) own1
met_settled {table} {place} is now own0 own1 s f same u e none =
    (λ j. placing (unwrap_or ((ap (λ (v : View). v.fixed) u.same ∙ sym same) j) no_terms).layout (reverse (e j)) place.part)
    ∙ settled_now is (met place.pass now s f) none

-- ---- the calls

pub ask_follows : {table : TableId} {place : Placed} (is : IsPlace table place) (v : Placed) → place ≡ v → {turn : List Step} {fixed : Option Terms}
    → Turned place.pass turn fixed → (own0 : View) → Turned own0 turn fixed → (to : ℕ) (txn : TxnId) → own0.actors ≡ Session txn.session ∷ []
    → v.asked ≡ None → v.site ≢ to → WantsPart txn v.part to own0 → IsSomeAnd fixed (λ f. may_follow f turn (Ask place.part place.epoch to txn))
ask_follows {table} {place} is v e t own0 u to txn a free away wants =
    may_ask is t own0 to txn u a (ap (λ (p : Placed). p.asked) e ∙ free) (λ q. away (sym (ap (λ (p : Placed). p.site) e) ∙ q))
    (subst (λ (p : Placed). WantsPart txn p.part to own0) (sym e) wants)

-- the turn finds the partition granted
pub granted_in : {table : TableId} {place : Placed} (is : IsPlace table place) (v : Placed) → place ≡ v → {turn : List Step} {fixed : Option Terms}
    → Turned place.pass turn fixed → (own0 : View) → Turned own0 turn fixed → IsGranted v.part own0 → Knows v own0 ⊎ IsGrantedNext v own0
    → (site : ℕ) × (epoch : ℕ) × (placing (layout_of place.pass) (reverse turn) place.part ≡ Granted site epoch)
granted_in {table} {place} is v e t own0 u g (inl knows) = (
  g.0,
  g.1,
  still_granted is t own0 u (subst (λ (p : Placed). Knows p own0) (sym e) knows) g.0 g.1
      (ap (λ (p : Placed). placing_seen own0 p.part) e ∙ g.2),
)
granted_in {table} {place} is v e t own0 u g (inr next) =
    let n = subst (λ (p : Placed). IsGrantedNext p own0) (sym e) next in
    (n.0, place.epoch + 1, granted_still is t own0 u n.0 n.1)

-- as it shows it
pub shown_in : (pass : View) (part : ℕ) (turn : List Step) (fixed : Option Terms) → Turned pass turn fixed → (now shown : Placing)
    → shown ≡ placing (unwrap_or fixed no_terms).layout (reverse turn) part → shown ≡ now → placing (layout_of pass) (reverse turn) part ≡ now
shown_in pass part turn fixed t now shown e h =
    ap (λ (l : Layout). placing l (reverse turn) part) (sym (turn_layout pass turn fixed t)) ∙ (sym e ∙ h)

-- the two passes know one schema
pub one_layout : (pass own0 new : View) (turn steps : List Step) (fixed : Option Terms) → Turned pass turn fixed → Turned own0 turn fixed
    → new ≡ record own0 { seen = steps } → layout_of new ≡ layout_of pass
one_layout pass own0 new turn steps fixed t u e =
    ap (λ (v : View). layout_of v) e ∙ sym (turn_layout own0 turn fixed u) ∙ turn_layout pass turn fixed t
