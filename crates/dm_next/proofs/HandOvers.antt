-- When a hand-over may go on.
use Rattle.std.proofs.Common.{ℕ, ◌+◌, ◌≤◌, ◌≡◌, ◌==◌, Bool, true, false, not, ◌&&◌, cond, List, [], ◌∷◌, Option, Some, None, length, refl, ap, ◌∙◌, subst}
use Rattle.std.proofs.Common.{inl, inr}
use Rattle.std.proofs.lemmas.Bool.{eq-eqb, eqb-true, and_parts, and_from, leb-true}
use Rattle.std.specs.Prelude.{option_map, option_to_list, IfSome}
use Rattle.dm_chronicle.specs.Rule.{In}
use Rattle.dm_event.specs.Layout.{Layout, is_site, is_part}
use Rattle.dm_event.specs.Vectors.{at, first_above, AtMost}
use Rattle.dm_event.specs.declared.placing.Placing.{Placing}
use Rattle.dm_event.specs.declared.placing.Placing.TheVariants.{Settled, Asked, Between, Granted}
use Rattle.dm_event.specs.declared.step.Found.TheVariants.{Clean, Kept, Lost}
use Rattle.dm_event.specs.declared.step.Pending.{Pending}
use Rattle.dm_event.specs.declared.step.Pending.TheVariants as pending
use Rattle.dm_event.specs.declared.step.Step.{Step}
use Rattle.dm_event.specs.declared.step.Step.TheVariants.{Ask, Settle, Release, Grant, Doubt, Restart}
use Rattle.dm_event.specs.declared.step.TxnId.{TxnId}
use Rattle.dm_event.specs.declared.why.Why.TheVariants as why
use Rattle.dm_model.proofs.ClausesHold.{first_none, holds_none}
use Rattle.dm_model.proofs.FloorsClosed.{firm_past}
use Rattle.dm_model.proofs.Judged.{judged, shape_of}
use Rattle.dm_model.proofs.ListFacts.{each_map}
use Rattle.dm_model.proofs.LegalSteps.{legal_release}
use Rattle.dm_model.proofs.Numbering.{ClosedBy}
use Rattle.dm_model.proofs.NumbersSound.{sound_past, vector_closed}
use Rattle.dm_model.proofs.VectorFacts.{long_by}
use Rattle.dm_model.specs.Acts.{entries}
use Rattle.dm_model.specs.Allowed.{Allowed, runner}
use Rattle.dm_model.specs.Clauses.{first}
use Rattle.dm_model.specs.Closed.{Closed, is_inside}
use Rattle.dm_model.specs.Doubts.{is_down, pending_at, step_of}
use Rattle.dm_model.specs.Legal.{LegalPast}
use Rattle.dm_model.specs.Placings.{placing, after_acts, asked, settled}
use Rattle.dm_model.specs.Progress.{site_vector, reached}
use Rattle.dm_model.specs.Rows.{release_row, grant_row}
use Rattle.dm_model.specs.Shape.{is_shaped, is_vector}
use Rattle.dm_next.proofs.Growing.{closed_step}
use Rattle.dm_next.proofs.Routed.{none_above, shaped_in}
use Rattle.dm_next.proofs.Running.{numbers_own}
use Rattle.dm_next.specs.Counted.{Counts}
use Rattle.dm_steps.proofs.Legality.{pending_shaped}

-- ---- what is asked for or released is in range

pub record AskedIn (layout : Layout) (part to : ℕ) : Type 0 where
  pub part_in : is_part layout part ≡ true
  pub to_in : is_site layout to ≡ true

pub record BetweenIn (layout : Layout) (part to : ℕ) (vector : List ℕ) : Type 0 where
  pub part_in : is_part layout part ≡ true
  pub to_in : is_site layout to ≡ true
  pub long : length vector ≡ layout.sites

abbrev PlacedIn : Layout → ℕ → Placing → Type 0
PlacedIn layout p (Settled site epoch) = Unit {0}
PlacedIn layout p (Asked site epoch to) = AskedIn layout p to
PlacedIn layout p (Between site epoch to vector) = BetweenIn layout p to vector
PlacedIn layout p (Granted site epoch) = Unit {0}

module _ (layout : Layout) where
  either : (p : ℕ) (b : Bool) (x y : Placing) → (b ≡ true → PlacedIn layout p x) → PlacedIn layout p y → PlacedIn layout p (cond b x y)
  either p true x y h k = h refl
  either p false x y h k = k

  asked_in : (p : ℕ) (now : Placing) (to : ℕ) → AskedIn layout p to → PlacedIn layout p now → PlacedIn layout p (asked now to)
  asked_in p (Settled site epoch) to a h = a
  asked_in p (Asked site epoch t) to a h = h
  asked_in p (Between site epoch t vector) to a h = h
  asked_in p (Granted site epoch) to a h = h

  settled_in : (p : ℕ) (now : Placing) → PlacedIn layout p now → PlacedIn layout p (settled now)
  settled_in p (Settled site epoch) h = h
  settled_in p (Asked site epoch t) h = h
  settled_in p (Between site epoch t vector) h = h
  settled_in p (Granted site epoch) h = tt

  released_in : (p site part to : ℕ) (vector : List ℕ) → (is_site layout site && (is_part layout part && (is_site layout to && is_vector layout vector))) ≡ true
      → (part == p) ≡ true → BetweenIn layout p to vector
  released_in p site part to vector s e =
      let a = and_parts (is_part layout part) _ (and_parts (is_site layout site) _ s).1 in
      let b = and_parts (is_site layout to) (is_vector layout vector) a.1 in
      record {
        part_in = subst (λ (k : ℕ). is_part layout k ≡ true) (eqb-true part p e) a.0;
        to_in = b.0;
        long = eqb-true (length vector) layout.sites b.1;
      }

  kept_in : (site p : ℕ) (o : Option Pending) (now : Placing) → IfSome o (λ q. is_shaped layout (Doubt site q) ≡ true) → PlacedIn layout p now
      → PlacedIn layout p (after_acts p (option_to_list (option_map (step_of site) o)) now)
  kept_in site p None now s h = h
  kept_in site p (Some (pending.Commit e)) now s h = h
  kept_in site p (Some (pending.Release part epoch to vector)) now s h =
      either p (part == p) (Between site epoch to vector) now (λ e. released_in p site part to vector s e) h
  kept_in site p (Some (pending.Grant part epoch vector)) now s h = either p (part == p) (Granted site epoch) now (λ e. tt) h

placed_in : (layout : Layout) (past : List Step) → LegalPast layout past → (p : ℕ) → PlacedIn layout p (placing layout past p)
placed_in layout [] h p = tt
placed_in layout (Ask part epoch to txn ∷ past) h p =
    let f = placed_in layout past h.0 p in
    let s = and_parts (is_part layout part) _ (shape_of layout past (Ask part epoch to txn) h.1) in
    either layout p (part == p) (asked (placing layout past p) to) (placing layout past p)
    (λ e. asked_in layout p (placing layout past p) to
    (record { part_in = subst (λ (k : ℕ). is_part layout k ≡ true) (eqb-true part p e) s.0; to_in = (and_parts (is_site layout to) _ s.1).0 }) f) f
placed_in layout (Settle part epoch ∷ past) h p =
    let f = placed_in layout past h.0 p in
    either layout p (part == p) (settled (placing layout past p)) (placing layout past p) (λ e. settled_in layout p (placing layout past p) f) f
placed_in layout (Release site part epoch to vector ∷ past) h p =
    either layout p (part == p) (Between site epoch to vector) (placing layout past p)
    (λ e. released_in layout p site part to vector (shape_of layout past (Release site part epoch to vector) h.1) e) (placed_in layout past h.0 p)
placed_in layout (Grant site part epoch vector ∷ past) h p =
    either layout p (part == p) (Granted site epoch) (placing layout past p) (λ e. tt) (placed_in layout past h.0 p)
placed_in layout (Restart site vector Kept ∷ past) h p =
    kept_in layout site p (pending_at site past) (placing layout past p) (pending_shaped layout site past h.0) (placed_in layout past h.0 p)
placed_in layout (Restart site vector Clean ∷ past) h p = placed_in layout past h.0 p
placed_in layout (Restart site vector Lost ∷ past) h p = placed_in layout past h.0 p
placed_in layout (other ∷ past) h p = placed_in layout past h.0 p

pub asked_is_in : (layout : Layout) (past : List Step) (site part epoch to : ℕ) → LegalPast layout past → placing layout past part ≡ Asked site epoch to
    → AskedIn layout part to
asked_is_in layout past site part epoch to l e = subst (λ (now : Placing). PlacedIn layout part now) e (placed_in layout past l part)

pub between_is_in : (layout : Layout) (past : List Step) (from part epoch to : ℕ) (vector : List ℕ) → LegalPast layout past
    → placing layout past part ≡ Between from epoch to vector → BetweenIn layout part to vector
between_is_in layout past from part epoch to vector l e = subst (λ (now : Placing). PlacedIn layout part now) e (placed_in layout past l part)

-- ---- the vector of a release

-- closed by the entries is closed
pub closed_past : (past : List Step) (v : List ℕ) → ClosedBy (entries past) (at v) → Closed v past
closed_past past v c = record {
  within = c.within;
  begun = each_map (λ e. e.seq ≤ at v e.origin → (j : ℕ) → at e.begin j ≤ at v j) (λ e. is_inside v e ≡ true → AtMost e.begin v)
      (λ e f inside. f (leb-true e.seq (at v e.origin) inside)) (entries past) c.begun;
}

pub closed_counts : (layout : Layout) (past : List Step) (v : List ℕ) → length v ≡ layout.sites → Closed v past → Counts layout past v
closed_counts layout past v long c = record { long = long; within = c.within }

pub record Released (layout : Layout) (past : List Step) (v : List ℕ) : Type 0 where
  pub closed : Closed v past
  pub counts : Counts layout past v

pub between_closed : (layout : Layout) (past : List Step) (from part epoch to : ℕ) (vector : List ℕ) → LegalPast layout past
    → placing layout past part ≡ Between from epoch to vector → Released layout past vector
between_closed layout past from part epoch to vector l e =
    let c = closed_past past vector ((firm_past layout past l).between part from epoch to vector e) in
    record { closed = c; counts = closed_counts layout past vector (between_is_in layout past from part epoch to vector l e).long c }

-- a release's vector in each later list
released_by : (layout : Layout) (past : List Step) (site part epoch to : ℕ) (vector : List ℕ) → LegalPast layout past
    → In (Release site part epoch to vector) past → ClosedBy (entries past) (at vector)
released_by layout [] site part epoch to vector l h = absurd h
released_by layout (s ∷ past) site part epoch to vector l (inl e) =
    let legal = legal_release layout past site part epoch to vector (subst (λ (x : Step). Allowed layout past x) e l.1) in
    closed_step layout past s (at vector) l (vector_closed layout past (sound_past layout past l.0) site vector legal.at_vector)
released_by layout (s ∷ past) site part epoch to vector l (inr h) =
    closed_step layout past s (at vector) l (released_by layout past site part epoch to vector l.0 h)

pub release_closed : (layout : Layout) (past : List Step) (site part epoch to : ℕ) (vector : List ℕ) → LegalPast layout past
    → In (Release site part epoch to vector) past → Released layout past vector
release_closed layout past site part epoch to vector l h =
    let c = closed_past past vector (released_by layout past site part epoch to vector l h) in
    let shape = shaped_in layout past (Release site part epoch to vector) l h in
    let long = eqb-true (length vector) layout.sites
    (and_parts (is_site layout to) (is_vector layout vector) (and_parts (is_part layout part) _ (and_parts (is_site layout site) _ shape).1).1).1 in
    record { closed = c; counts = closed_counts layout past vector long c }

-- ---- a Release and a Grant

-- the site is up, the partition is asked away from it, and nothing there runs on it
pub may_release : (layout : Layout) (past : List Step) (site part epoch to : ℕ) → LegalPast layout past → is_site layout site ≡ true → is_down site past ≡ false
    → placing layout past part ≡ Asked site epoch to → runner layout past site part ≡ None
    → Allowed layout past (Release site part epoch to (site_vector layout.sites past site))
may_release layout past site part epoch to l there up now free =
    let range = asked_is_in layout past site part epoch to l now in
    judged layout past (Release site part epoch to v) (Release site part epoch to v) refl
    (and_from _ _ there (and_from _ _ range.part_in (and_from _ _ range.to_in
    (eq-eqb (length v) layout.sites (long_by layout.sites (λ j. reached site j past))))))
    ∙ (ap (λ (p : Placing). first (release_row p (is_down site past) (runner layout past site part) v site epoch to v)) now
    ∙ first_none (release_row (Asked site epoch to) (is_down site past) (runner layout past site part) v site epoch to v) (
      holds_none _ _ (eq-eqb site site refl),
      (
        holds_none _ _ (eq-eqb epoch epoch refl),
        (
          holds_none _ _ (eq-eqb to to refl),
          (
            holds_none _ _ (ap (λ (b : Bool). not b) up),
            (
              ap (λ (o : Option TxnId). option_map why.Running o) free,
              (
                holds_none _ _ (numbers_own v),
                tt,
              ),
            ),
          ),
        ),
      ),
    ))
  where
    v : List ℕ
    v = site_vector layout.sites past site

-- the site is up, the partition is released to it, and it has all of the release's vector
pub may_grant : (layout : Layout) (past : List Step) (from site part epoch : ℕ) (vector : List ℕ) → LegalPast layout past → is_down site past ≡ false
    → placing layout past part ≡ Between from epoch site vector → AtMost vector (site_vector layout.sites past site)
    → Allowed layout past (Grant site part (epoch + 1) vector)
may_grant layout past from site part epoch vector l up now most =
    let range = between_is_in layout past from part epoch site vector l now in
    judged layout past (Grant site part (epoch + 1) vector) (Grant site part (epoch + 1) vector) refl
    (and_from _ _ range.to_in (and_from _ _ range.part_in (eq-eqb (length vector) layout.sites range.long)))
    ∙ (ap (λ (p : Placing). first (grant_row p (is_down site past) (first_above vector (site_vector layout.sites past site)) site (epoch + 1) vector)) now
    ∙ first_none
    (grant_row (Between from epoch site vector) (is_down site past) (first_above vector (site_vector layout.sites past site)) site (epoch + 1) vector) (
      holds_none _ _ (eq-eqb site site refl),
      (
        holds_none _ _ (eq-eqb (epoch + 1) (epoch + 1) refl),
        (
          holds_none _ _ (numbers_own vector),
          (
            holds_none _ _ (ap (λ (b : Bool). not b) up),
            (
              ap (λ (o : Option ℕ). option_map why.Behind o) (none_above vector (site_vector layout.sites past site) most),
              tt,
            ),
          ),
        ),
      ),
    ))
