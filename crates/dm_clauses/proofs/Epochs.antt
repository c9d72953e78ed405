-- The epochs of partitions in a legal past: there are no more than steps.
use Rattle.std.proofs.Common.{ℕ, suc, ◌≤◌, ◌≡◌, Bool, true, false, cond, List, [], ◌∷◌, Option, Some, None, length, refl, ap, arith}
use Rattle.std.specs.Prelude.{◌==◌, option_map, option_to_list}
use Rattle.dm_event.specs.Layout.{Layout}
use Rattle.dm_event.specs.declared.placing.Placing.{Placing}
use Rattle.dm_event.specs.declared.placing.Placing.TheVariants.{Settled, Asked, Between, Granted}
use Rattle.dm_event.specs.declared.step.Found.TheVariants.{Clean, Kept, Lost}
use Rattle.dm_event.specs.declared.step.Pending.{Pending}
use Rattle.dm_event.specs.declared.step.Pending.TheVariants as pending
use Rattle.dm_event.specs.declared.step.Step.{Step}
use Rattle.dm_event.specs.declared.step.Step.TheVariants.{Route, Reply, Ask, Settle, Begin, Moved, Commit, End, Fail, Refresh, Release, Grant, Doubt, Restart}
use Rattle.dm_model.specs.Doubts.{step_of, pending_at}
use Rattle.dm_model.specs.Legal.{LegalPast}
use Rattle.dm_model.specs.Placings.{placing, asked, settled, after_acts}
use Rattle.dm_model.proofs.LegalSteps.{legal_release, legal_grant, legal_restart}
use Rattle.dm_model.proofs.MastershipKept.{Held}
use Rattle.dm_model.proofs.MastershipSound.{part_of, mastery, mastered_past}
use Rattle.dm_clauses.specs.Judging.{epoch_now}

epoch_asked : (p : Placing) (to : ℕ) → epoch_now (asked p to) ≡ epoch_now p
epoch_asked (Settled site epoch) to = refl
epoch_asked (Asked site epoch t) to = refl
epoch_asked (Between site epoch t vector) to = refl
epoch_asked (Granted site epoch) to = refl

epoch_settled : (p : Placing) → epoch_now (settled p) ≡ epoch_now p
epoch_settled (Settled site epoch) = refl
epoch_settled (Asked site epoch to) = refl
epoch_settled (Between site epoch to vector) = refl
epoch_settled (Granted site epoch) = refl

either : (b : Bool) (x y : Placing) (n : ℕ) → epoch_now x ≤ n → epoch_now y ≤ n → epoch_now (cond b x y) ≤ n
either true x y n h k = h
either false x y n h k = k

-- the epoch of a placing that is known
epoch_is : (p q : Placing) (n : ℕ) → p ≡ q → epoch_now p ≤ n → epoch_now q ≤ n
epoch_is p q n e h = let same : epoch_now p ≡ epoch_now q = ap epoch_now e in omega (arith, same, h)

module _ (layout : Layout) (past : List Step) (few : (q : ℕ) → epoch_now (placing layout past q) ≤ length past) where
  few_released : (site part epoch to p : ℕ) (vector : List ℕ) → epoch ≤ length past
      → epoch_now (cond (part == p) (Between site epoch to vector) (placing layout past p)) ≤ suc (length past)
  few_released site part epoch to p vector h =
      either (part == p) (Between site epoch to vector) (placing layout past p) (suc (length past)) (omega (arith, h)) (let f = few p in omega (arith, f))

  few_granted : (site part epoch p : ℕ) → epoch ≤ suc (length past) → epoch_now (cond (part == p) (Granted site epoch) (placing layout past p)) ≤ suc
      (length past)
  few_granted site part epoch p h = either (part == p) (Granted site epoch) (placing layout past p) (suc (length past)) h (let f = few p in omega (arith, f))

  -- a pending step that is kept raises an epoch by one at most
  few_kept : (site p : ℕ) (o : Option Pending) → Held (part_of layout) (mastery layout past) site o
      → epoch_now (after_acts p (option_to_list (option_map (step_of site) o)) (placing layout past p)) ≤ suc (length past)
  few_kept site p None h = let f = few p in omega (arith, f)
  few_kept site p (Some (pending.Commit e)) h = let f = few p in omega (arith, f)
  few_kept site p (Some (pending.Release part epoch to vector)) h = few_released site part epoch to p vector
      (epoch_is (placing layout past part) (Asked site epoch to) (length past) h.asked (few part))
  few_kept site p (Some (pending.Grant part epoch vector)) h =
      few_granted site part epoch p (let f = epoch_is (placing layout past part) (Between h.from h.old site vector) (length past) h.between (few part) in
      let g = h.next in omega (arith, f, g))

-- there are no more epochs than steps
pub few_epochs : (layout : Layout) (past : List Step) → LegalPast layout past → (p : ℕ) → epoch_now (placing layout past p) ≤ length past
few_epochs layout [] h p = omega arith
few_epochs layout (Ask part epoch to txn ∷ past) h p =
    let f = few_epochs layout past h.0 p in
    either (part == p) (asked (placing layout past p) to) (placing layout past p) (suc (length past))
    (let e = epoch_asked (placing layout past p) to in omega (arith, e, f)) (omega (arith, f))
few_epochs layout (Settle part epoch ∷ past) h p =
    let f = few_epochs layout past h.0 p in
    either (part == p) (settled (placing layout past p)) (placing layout past p) (suc (length past))
    (let e = epoch_settled (placing layout past p) in omega (arith, e, f)) (omega (arith, f))
few_epochs layout (Release site part epoch to vector ∷ past) h p =
    let legal = legal_release layout past site part epoch to vector h.1 in
    few_released layout past (few_epochs layout past h.0) site part epoch to p vector
    (epoch_is (placing layout past part) (Asked site epoch to) (length past) legal.asked (few_epochs layout past h.0 part))
few_epochs layout (Grant site part epoch vector ∷ past) h p =
    let legal = legal_grant layout past site part epoch vector h.1 in
    let next = legal.next in
    let f = epoch_is (placing layout past part) (Between legal.from legal.old site vector) (length past) legal.between (few_epochs layout past h.0 part) in
    few_granted layout past (few_epochs layout past h.0) site part epoch p (omega (arith, next, f))
few_epochs layout (Restart site vector Kept ∷ past) h p =
    let legal = legal_restart layout past site vector Kept h.1 in
    few_kept layout past (few_epochs layout past h.0) site p (pending_at site past) ((mastered_past layout past h.0).held site legal.fits)
few_epochs layout (Restart site vector Clean ∷ past) h p = let f = few_epochs layout past h.0 p in omega (arith, f)
few_epochs layout (Restart site vector Lost ∷ past) h p = let f = few_epochs layout past h.0 p in omega (arith, f)
few_epochs layout (Route txn want min site choice ∷ past) h p = let f = few_epochs layout past h.0 p in omega (arith, f)
few_epochs layout (Reply session number said ∷ past) h p = let f = few_epochs layout past h.0 p in omega (arith, f)
few_epochs layout (Begin site txn begin ∷ past) h p = let f = few_epochs layout past h.0 p in omega (arith, f)
few_epochs layout (Moved site txn ∷ past) h p = let f = few_epochs layout past h.0 p in omega (arith, f)
few_epochs layout (Commit e ∷ past) h p = let f = few_epochs layout past h.0 p in omega (arith, f)
few_epochs layout (End site txn ops reads ∷ past) h p = let f = few_epochs layout past h.0 p in omega (arith, f)
few_epochs layout (Fail site txn cause ∷ past) h p = let f = few_epochs layout past h.0 p in omega (arith, f)
few_epochs layout (Refresh site origin ∷ past) h p = let f = few_epochs layout past h.0 p in omega (arith, f)
few_epochs layout (Doubt site q ∷ past) h p = let f = few_epochs layout past h.0 p in omega (arith, f)
