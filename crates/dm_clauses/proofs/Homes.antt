-- The home of a partition is one of the sites.
use Rattle.std.proofs.Common.{ℕ, zero, suc, ◌<◌, ◌≤◌, ◌≡◌, Bool, true, false, cond, List, [], ◌∷◌, Option, Some, None, length, refl, sym, arith, subst}
use Rattle.std.specs.Prelude.{◌==◌, nat_le, option_map, option_to_list, IfSome, slice_index}
use Rattle.std.specs.List.{list_all}
use Rattle.std.proofs.lemmas.Bool.{and_parts, leb-true}
use Rattle.dm_event.specs.Layout.{Layout, is_between}
use Rattle.dm_event.specs.declared.placing.Placing.{Placing}
use Rattle.dm_event.specs.declared.placing.Placing.TheVariants.{Settled, Asked, Between, Granted}
use Rattle.dm_event.specs.declared.step.Found.TheVariants.{Clean, Kept, Lost}
use Rattle.dm_event.specs.declared.step.Pending.{Pending}
use Rattle.dm_event.specs.declared.step.Pending.TheVariants as pending
use Rattle.dm_event.specs.declared.step.Step.{Step}
use Rattle.dm_event.specs.declared.step.Step.TheVariants.{Route, Reply, Ask, Settle, Begin, Moved, Commit, End, Fail, Refresh, Release, Grant, Doubt, Restart}
use Rattle.dm_model.specs.Choices.{home}
use Rattle.dm_model.specs.Doubts.{step_of, pending_at}
use Rattle.dm_model.specs.Legal.{LegalPast}
use Rattle.dm_model.specs.Placings.{placing, home_now, asked, settled, after_acts}
use Rattle.dm_model.specs.Shape.{is_shaped}
use Rattle.dm_model.proofs.LegalSteps.{legal_release, legal_grant}
use Rattle.dm_steps.proofs.Legality.{pending_shaped}

-- the number is a site's
abbrev pub InSites : ℕ → ℕ → Type 0
InSites sites i = (1 ≤ i) × (i ≤ sites)

in_sites : (sites i : ℕ) → is_between 1 sites i ≡ true → InSites sites i
in_sites sites i h = let r = and_parts (nat_le 1 i) (nat_le i sites) h in (leb-true 1 i r.0, leb-true i sites r.1)

opening_in : (sites : ℕ) (masters : List ℕ) → list_all (is_between 1 sites) masters ≡ true → (p : ℕ) → p < length masters
    → InSites sites (slice_index masters p)
opening_in sites [] h p l = absurd (omega (arith, l))
opening_in sites (m ∷ masters) h zero l = in_sites sites m (and_parts (is_between 1 sites m) (list_all (is_between 1 sites) masters) h).0
opening_in sites (m ∷ masters) h (suc p) l = opening_in sites masters (and_parts (is_between 1 sites m) (list_all (is_between 1 sites) masters) h).1 p
    (omega (arith, l))

home_asked : (p : Placing) (to : ℕ) → home_now (asked p to) ≡ home_now p
home_asked (Settled site epoch) to = refl
home_asked (Asked site epoch t) to = refl
home_asked (Between site epoch t vector) to = refl
home_asked (Granted site epoch) to = refl

home_settled : (p : Placing) → home_now (settled p) ≡ home_now p
home_settled (Settled site epoch) = refl
home_settled (Asked site epoch to) = refl
home_settled (Between site epoch to vector) = refl
home_settled (Granted site epoch) = refl

module _ (layout : Layout) where
  either : (b : Bool) (x y : Placing) → InSites layout.sites (home_now x) → InSites layout.sites (home_now y) → InSites layout.sites (home_now (cond b x y))
  either true x y h k = h
  either false x y h k = k

  -- what a kept step of a site makes of a placing
  kept_in : (site p : ℕ) (o : Option Pending) (now : Placing) → IfSome o (λ q. is_shaped layout (Doubt site q) ≡ true) → InSites layout.sites (home_now now)
      → InSites layout.sites (home_now (after_acts p (option_to_list (option_map (step_of site) o)) now))
  kept_in site p None now s h = h
  kept_in site p (Some (pending.Commit e)) now s h = h
  kept_in site p (Some (pending.Release part epoch to vector)) now s h =
      either (part == p) (Between site epoch to vector) now (in_sites layout.sites to (and_parts _ _ (and_parts _ _ (and_parts _ _ s).1).1).0) h
  kept_in site p (Some (pending.Grant part epoch vector)) now s h = either (part == p) (Granted site epoch) now (in_sites layout.sites site (and_parts _ _ s).0)
      h

pub homes_in : (layout : Layout) (past : List Step) → LegalPast layout past → list_all (is_between 1 layout.sites) layout.masters ≡ true → (p : ℕ)
    → p < length layout.masters
    → InSites layout.sites (home layout past p)
homes_in layout [] h m p l = opening_in layout.sites layout.masters m p l
homes_in layout (Ask part epoch to txn ∷ past) h m p l =
    let f = homes_in layout past h.0 m p l in
    either layout (part == p) (asked (placing layout past p) to) (placing layout past p)
    (subst (InSites layout.sites) (sym (home_asked (placing layout past p) to)) f) f
homes_in layout (Settle part epoch ∷ past) h m p l =
    let f = homes_in layout past h.0 m p l in
    either layout (part == p) (settled (placing layout past p)) (placing layout past p)
    (subst (InSites layout.sites) (sym (home_settled (placing layout past p))) f) f
homes_in layout (Release site part epoch to vector ∷ past) h m p l =
    either layout (part == p) (Between site epoch to vector) (placing layout past p)
    (let r = (legal_release layout past site part epoch to vector h.1).there in (r.one, r.top)) (homes_in layout past h.0 m p l)
homes_in layout (Grant site part epoch vector ∷ past) h m p l =
    either layout (part == p) (Granted site epoch) (placing layout past p) (let r = (legal_grant layout past site part epoch vector h.1).here in (r.one, r.top))
    (homes_in layout past h.0 m p l)
homes_in layout (Restart site vector Kept ∷ past) h m p l =
    kept_in layout site p (pending_at site past) (placing layout past p) (pending_shaped layout site past h.0) (homes_in layout past h.0 m p l)
homes_in layout (Route txn want min at choice ∷ past) h m p l = homes_in layout past h.0 m p l
homes_in layout (Reply session number said ∷ past) h m p l = homes_in layout past h.0 m p l
homes_in layout (Begin at txn begin ∷ past) h m p l = homes_in layout past h.0 m p l
homes_in layout (Moved at txn ∷ past) h m p l = homes_in layout past h.0 m p l
homes_in layout (Commit entry ∷ past) h m p l = homes_in layout past h.0 m p l
homes_in layout (End at txn ops reads ∷ past) h m p l = homes_in layout past h.0 m p l
homes_in layout (Fail at txn cause ∷ past) h m p l = homes_in layout past h.0 m p l
homes_in layout (Refresh at origin ∷ past) h m p l = homes_in layout past h.0 m p l
homes_in layout (Doubt at q ∷ past) h m p l = homes_in layout past h.0 m p l
homes_in layout (Restart at vector Clean ∷ past) h m p l = homes_in layout past h.0 m p l
homes_in layout (Restart at vector Lost ∷ past) h m p l = homes_in layout past h.0 m p l
