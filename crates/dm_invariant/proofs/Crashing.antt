-- What a crash leaves through two calls, one after the other.
use Rattle.std.proofs.Common.{ℕ, ◌≡◌, List, ◌∷◌, Option, None, map, sym, ap, ◌∙◌, subst, inl, inr, Bool, false, cond}
use Rattle.std.specs.Prelude.{reverse, option_map}
use mathlib.Core.List.{IsPrefix}
use Rattle.dm_chronicle.proofs.Lists.{prefix_trans}
use Rattle.dm_chronicle.specs.Belongs.{belongs}
use Rattle.dm_event.specs.Actors.{actors}
use Rattle.dm_event.specs.Layout.{Layout}
use Rattle.dm_event.specs.declared.actor.Actor.TheVariants.{Site}
use Rattle.dm_event.specs.declared.step.Pending.{Pending}
use Rattle.dm_event.specs.declared.step.Step.{Step}
use Rattle.dm_frames.specs.Records.{frames_of, pending_record, records_of}
use Rattle.dm_logdisk.proofs.Images.{leaves_then, leaves_weaker, both_then}
use Rattle.dm_logdisk.specs.Story.{Story, Both, LeavesOnly}
use Rattle.dm_model.specs.Allowed.{Allowed}
use Rattle.dm_model.specs.Legal.{Legal, LegalPast}
use Rattle.dm_others.proofs.Growing.{unchanged}
use Rattle.dm_others.proofs.Logs.{down_other, pending_other, records_other}
use Rattle.dm_others.specs.Adding.{AddsOthers}
use Rattle.dm_record.specs.Bytes.{frame_of}
use Rattle.dm_record.specs.declared.record.Record.{Record}
use Rattle.dm_invariant.specs.Logs.{HoldsWith, Crashes, MayCome, doubted}
use Rattle.dm_invariant.specs.Stations.{View, layout_of}

-- ---- what others leave of a site's log

module _ (layout : Layout) (site : ℕ) (old new : List Step) (l : Legal layout new) (a : AddsOthers (Site site) old new) where
  pub frames_on : frames_of site (reverse new) ≡ frames_of site (reverse old)
  frames_on = ap (λ (rs : List Record). map frame_of rs)
      (unchanged layout (Site site) (λ past. records_of site past) (λ past s k b. records_other layout site past k.0 s k.1 b) old new a.0 a.1 l)

  pub doubted_on : doubted site (reverse new) ≡ doubted site (reverse old)
  doubted_on = unchanged layout (Site site) (λ past. doubted site past) one old new a.0 a.1 l
    where
      of : Bool → Option Pending → Option (List ℕ)
      of down p = cond down (option_map (λ p. frame_of (pending_record p)) p) None

      one : (past : List Step) (s : Step) → LegalPast layout (s ∷ past) → belongs actors s (Site site) ≡ false → doubted site (s ∷ past) ≡ doubted site past
      one past s k b = (λ i. of (down_other site past s b i) (pending_other site past s b i))

-- ---- two calls

-- A crash through the first call, in which no step of the site came, or through the second leaves the site's records at the beginning,
-- or these and one further.
pub crashes_add_up : (site : ℕ) (old mid new : View) (before between now : Option Story) → layout_of mid ≡ layout_of new
    → AddsOthers (Site site) old.seen mid.seen → Legal (layout_of new) mid.seen → IsPrefix mid.seen new.seen
    → Both (Crashes site old mid) before between → Both (Crashes site mid new) between now → Both (Crashes site old new) before now
crashes_add_up site old mid new before between now e a l p =
    both_then (Crashes site old mid) (Crashes site mid new) (Crashes site old new) through before between now
  where
    frames : List (List ℕ)
    frames = frames_of site (reverse old.seen)

    After : List ℕ → Type 0
    After = HoldsWith frames (MayCome site old new)

    -- what may come through either may come through both
    comes_first : (next : List ℕ) → MayCome site old mid next → MayCome site old new next
    comes_first next (inl h) =
        inl (
          h.0,
          h.1,
          h.2,
          h.3,
          prefix_trans h.0 mid.seen new.seen h.4 p,
          subst (λ (schema : Layout). Allowed schema (reverse h.0) h.1) e h.5,
          h.6,
          h.7,
        )
    comes_first next (inr h) = inr h

    comes_then : (next : List ℕ) → MayCome site mid new next → MayCome site old new next
    comes_then next (inl h) = inl (h.0, h.1, h.2, prefix_trans old.seen mid.seen h.0 a.0 h.3, h.4, h.5, h.6, h.7)
    comes_then next (inr h) = inr (sym (doubted_on (layout_of new) site old.seen mid.seen l a) ∙ h)

    first : (c : List ℕ) → HoldsWith frames (MayCome site old mid) c → After c
    first c (inl h) = inl h
    first c (inr h) = inr (h.0, comes_first h.0 h.1, h.2)

    then_one : (c : List ℕ) → HoldsWith frames (MayCome site mid new) c → After c
    then_one c (inl h) = inl h
    then_one c (inr h) = inr (h.0, comes_then h.0 h.1, h.2)

    through : (x y z : Story) → Crashes site old mid x y → Crashes site mid new y z → Crashes site old new x z
    through x y z s t =
        leaves_then After x y z (leaves_weaker (HoldsWith frames (MayCome site old mid)) After first x y s)
        (leaves_weaker (HoldsWith frames (MayCome site mid new)) After then_one y z
        (subst (λ (fs : List (List ℕ)). LeavesOnly (HoldsWith fs (MayCome site mid new)) y z) (frames_on (layout_of new) site old.seen mid.seen l a) t))
