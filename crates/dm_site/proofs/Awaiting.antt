-- What a restart finds, and what it may come to.
use Rattle.std.proofs.Common.{ℕ, ◌≡◌, ◌==◌, Bool, true, false, cond, List, [], ◌∷◌, Option, Some, None, refl, sym, ap, ◌∙◌, subst, inl, inr}
use Rattle.std.proofs.lemmas.Bool.{cases_Bool, false≢true}
use Rattle.std.specs.Option.{option_or}
use Rattle.std.specs.Prelude.{IsSome, IsTrue, not, option_map, reverse, unwrap_or}
use Rattle.dm_event.specs.Layout.{Layout, is_site}
use Rattle.dm_event.specs.declared.actor.Actor.TheVariants.{Session}
use Rattle.dm_event.specs.declared.step.Found.{Found}
use Rattle.dm_event.specs.declared.step.Found.TheVariants.{Clean, Kept, Lost}
use Rattle.dm_event.specs.declared.step.Pending.{Pending}
use Rattle.dm_event.specs.declared.step.Step.{Step}
use Rattle.dm_event.specs.declared.step.Step.TheVariants.{Doubt, Restart}
use Rattle.dm_event.specs.declared.step.TxnId.{TxnId}
use Rattle.dm_frames.specs.Records.{pending_record}
use Rattle.dm_model.specs.Attempts.{routed}
use Rattle.dm_model.specs.Doubts.{doubt_at, down_after, is_down, pending_at}
use Rattle.dm_model.specs.Rows.{found_fits}
use Rattle.dm_model.specs.Words.{latest}
use Rattle.dm_record.specs.Bytes.{frame_of}
use Rattle.dm_invariant.proofs.Lasting.{lasts_routed_fail}
use Rattle.dm_invariant.proofs.Sessions.{routed_here}
use Rattle.dm_site.specs.Answers.{IsRoutedIn, MayRestart}
use Rattle.dm_invariant.specs.Logs.{doubted}
use Rattle.dm_desk.specs.Restarting.{IsCleanFor}
use Rattle.dm_invariant.specs.Stations.{View, own}
use Rattle.dm_invariant.specs.Writing.{MayFail}

-- of a site that is down a step is in doubt
down_pends : (site : ℕ) (past : List Step) → is_down site past ≡ true → pending_at site past ≡ None → ⊥
down_pends site [] d n = false≢true d
down_pends site (Doubt at p ∷ past) d n = by (at == site) (down_pends site past) d n
  where
    by : (b : Bool) → (unwrap_or (latest (down_after site) past) false ≡ true → latest (doubt_at site) past ≡ None → ⊥)
        → unwrap_or (option_or (cond b (Some true) None) (latest (down_after site) past)) false ≡ true
        → option_or (cond b (Some p) None) (latest (doubt_at site) past) ≡ None → ⊥
    by true before d n = absurd (cc (n))
    by false before d n = before d n
down_pends site (Restart at vector found ∷ past) d n = by (at == site) (down_pends site past) d n
  where
    by : (b : Bool) → (unwrap_or (latest (down_after site) past) false ≡ true → latest (doubt_at site) past ≡ None → ⊥)
        → unwrap_or (option_or (cond b (Some false) None) (latest (down_after site) past)) false ≡ true
        → latest (doubt_at site) past ≡ None → ⊥
    by true before d n = false≢true d
    by false before d n = before d n
down_pends site (other ∷ past) d n = down_pends site past d n

-- so its frame is awaited
down_awaits : (site : ℕ) (past : List Step) → is_down site past ≡ true → doubted site past ≡ None → ⊥
down_awaits site past d n =
    by (pending_at site past) refl
    (sym (ap (λ (b : Bool). cond b (option_map (λ p. frame_of (pending_record p)) (pending_at site past)) None) d) ∙ n)
  where
    by : (o : Option Pending) → pending_at site past ≡ o → option_map (λ p. frame_of (pending_record p)) o ≡ None → ⊥
    by None e n = down_pends site past d e
    by (Some p) e n = absurd (cc (n))

up_awaits_none : (site : ℕ) (past : List Step) → is_down site past ≡ false → doubted site past ≡ None
up_awaits_none site past up =
    ap (λ (b : Bool). cond b (option_map (λ p. frame_of (pending_record p)) (pending_at site past)) None) up

-- what is found fits whether the site is down
pub found_in : (site : ℕ) (past : List Step) (found : Found) → (found ≡ Clean → doubted site past ≡ None) → (doubted site past ≡ None → found ≡ Clean)
    → IsTrue (found_fits found (is_down site past))
found_in site past found clean none = elim (cases_Bool (is_down site past)) [
  | inl down ↦ of found down clean
  | inr up ↦ subst (λ (f : Found). IsTrue (found_fits f (is_down site past))) (sym (none (up_awaits_none site past up))) (ap (λ (b : Bool). not b) up)
]
  where
    of : (f : Found) → is_down site past ≡ true → (f ≡ Clean → doubted site past ≡ None) → IsTrue (found_fits f (is_down site past))
    of Clean down c = absurd (down_awaits site past down (c refl))
    of Kept down c = down
    of Lost down c = down

-- where nothing was in doubt, the attempt stands routed for it
pub clean_for : (site : ℕ) (on : TxnId) (found : Found) (pass0 own0 pass1 own1 : View)
    → is_down site (reverse pass1.seen) ≡ is_down site (reverse pass0.seen) → own (Session on.session) own1.seen ≡ own (Session on.session) own0.seen
    → MayRestart site pass0 on own0 → (found ≡ Clean → doubted site (reverse pass1.seen) ≡ None) → IsCleanFor site found on.session pass1 own1
clean_for site on found pass0 own0 pass1 own1 same rests (inl down) clean =
    λ e. absurd (down_awaits site (reverse pass1.seen) (same ∙ down) (clean e))
clean_for site on found pass0 own0 pass1 own1 same rests (inr (min, r)) clean = λ e. (on, refl, (min, (r.0, r.1, rests ∙ r.2)))

pub some_there : {X : Type 0} (o : Option X) (x : X) → o ≡ Some x → IsSome o
some_there {X} o x e = subst (λ (o : Option X). IsSome o) (sym e) refl

-- an attempt that stands routed may fail for each of the site's causes
pub routed_may_fail : (layout : Layout) (site : ℕ) (txn : TxnId) (own1 pass1 : View) → IsTrue (is_site layout site) → IsRoutedIn own1 txn
    → own1.seen ≡ pass1.seen → MayFail layout site txn pass1.seen
routed_may_fail layout site txn own1 pass1 there (wanted, min, at, r) m cause fits of_site =
    lasts_routed_fail layout pass1.seen site txn cause there
    (subst (λ (ss : List Step). IsSome (routed txn (reverse ss))) m
    (some_there (routed txn (reverse own1.seen)) _ (routed_here txn wanted min at own1 r))) fits of_site
