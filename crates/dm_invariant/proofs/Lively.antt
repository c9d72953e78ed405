-- A site that looks at its log in a turn, and goes on later.
use Rattle.std.proofs.Common.{ℕ, ◌≡◌, Bool, false, List, Option, Some, None, Result, Ok, Err, refl, sym, ap, ◌∙◌, subst, cond}
use Rattle.std.specs.Prelude.{reverse, unwrap_or, OnErr}
use Rattle.atomic_table.specs.Seated.{TableId}
use mathlib.Core.List.{IsPrefix}
use Rattle.dm_chronicle.proofs.Lists.{prefix_refl}
use Rattle.dm_core.specs.Lawful.{Terms}
use Rattle.dm_event.specs.Layout.{Layout}
use Rattle.dm_event.specs.declared.actor.Actor.{Actor}
use Rattle.dm_event.specs.declared.actor.Actor.TheVariants.{Session, Site}
use Rattle.dm_event.specs.declared.step.Pending.{Pending}
use Rattle.dm_event.specs.declared.step.Step.{Step}
use Rattle.dm_event.specs.declared.step.TxnId.{TxnId}
use Rattle.dm_frames.specs.Records.{pending_record}
use Rattle.dm_logdisk.specs.Story.{Story, Both}
use Rattle.dm_model.specs.Doubts.{is_down, pending_at}
use Rattle.dm_model.specs.Legal.{Legal}
use Rattle.dm_others.proofs.Growing.{unchanged}
use Rattle.dm_others.proofs.Logs.{down_other}
use Rattle.dm_others.specs.Adding.{AddsOthers}
use Rattle.dm_record.specs.Bytes.{frame_of}
use Rattle.dm_invariant.proofs.Crashing.{crashes_add_up}
use Rattle.dm_invariant.proofs.Passing.{adds_one, adds_twice}
use Rattle.dm_invariant.proofs.Turned.{in_turn, turn_legal, after_turn}
use Rattle.dm_invariant.proofs.Written.{crash_still}
use Rattle.dm_invariant.specs.Keeping.{Parts, Keeps, IsSite}
use Rattle.dm_invariant.specs.Lasting.{Lasts}
use Rattle.dm_invariant.specs.Logs.{Crashes, doubted}
use Rattle.dm_invariant.specs.Stations.{View, layout_of, no_terms}
use Rattle.dm_invariant.specs.Turning.{Turned, Met}
use Rattle.dm_invariant.specs.Writing.{MayAppend, MayFail}

-- both passes have seen one list already
pub met_still : (site session : Actor) (own pass : View) → own.seen ≡ pass.seen → Met site session own pass own pass
met_still site session own pass e = record {
  turn = pass.seen;
  of_site = (prefix_refl pass.seen, refl);
  of_session = subst (λ (l : List Step). AddsOthers session own.seen l) e (prefix_refl own.seen, refl);
  own = ap (λ (l : List Step). record own { seen = l }) e;
  pass = refl;
}

pub on_err : {A E : Type 0} (r : Result A E) (P : Type 0) → P → OnErr r P
on_err (Ok x) P p = tt
on_err (Err e) P p = p

-- nothing is in doubt at a site that is up
pub none_doubted : (site : ℕ) (past : List Step) → is_down site past ≡ false → None ≡ doubted site past
none_doubted site past up = sym (ap (λ (down : Bool). cond down (doubt (pending_at site past)) None) up)
  where
    doubt : Option Pending → Option (List ℕ)
    doubt None = None
    doubt (Some p) = Some (frame_of (pending_record p))

pub down_on : (layout : Layout) (site : ℕ) (old new : List Step) → Legal layout new → AddsOthers (Site site) old new
    → is_down site (reverse new) ≡ is_down site (reverse old)
down_on layout site old new l a = unchanged layout (Site site) (λ past. is_down site past) (λ past s k b. down_other site past s b) old new a.0 a.1 l

-- ---- what lasts goes on to last

pub lasts_on : (layout : Layout) (site session : Actor) (old mid : List Step) (step : Step) → AddsOthers site old mid → AddsOthers session old mid
    → Lasts layout site session old step → Lasts layout site session mid step
lasts_on layout site session old mid step a b h new l c d = h new l (adds_twice site old mid new a c) (adds_twice session old mid new b d)

pub fails_on : (layout : Layout) (site : ℕ) (txn : TxnId) (old mid : List Step) → AddsOthers (Site site) old mid → AddsOthers (Session txn.session) old mid
    → MayFail layout site txn old → MayFail layout site txn mid
fails_on layout site txn old mid a b h cause fits of_site new l c d =
    h cause fits of_site new l (adds_twice (Site site) old mid new a c) (adds_twice (Session txn.session) old mid new b d)

pub appends_on : (layout : Layout) (site : ℕ) (txn : TxnId) (p : Pending) (old mid : List Step) → Legal layout mid → AddsOthers (Site site) old mid
    → AddsOthers (Session txn.session) old mid → MayAppend layout site txn p old → MayAppend layout site txn p mid
appends_on layout site txn p old mid l a b m = record {
  up = down_on layout site old mid l a ∙ m.up;
  is_own = m.is_own;
  is_for = λ new k c. m.is_for new k (adds_twice (Session txn.session) old mid new b c);
  lasts = λ new k c d. m.lasts new k (adds_twice (Site site) old mid new a c) (adds_twice (Session txn.session) old mid new b d);
  may_fail = λ new k c d. m.may_fail new k (adds_twice (Site site) old mid new a c) (adds_twice (Session txn.session) old mid new b d);
}

-- the parts at rest
pub keeps_now : (table : TableId) (opened : List ℕ) (site : ℕ) (pass : View) (parts : Parts) → IsSite table opened site pass parts
    → Keeps (layout_of pass) opened site (reverse pass.seen) parts
keeps_now table opened site pass parts s =
    subst (λ (f : Option Terms). Keeps (unwrap_or f no_terms).layout opened site (reverse pass.seen) parts) (sym s.fixed) s.keeps

-- ---- after a turn in which the site did nothing

module _ (table : TableId) (opened : List ℕ) (site : ℕ) (pass after : View) (parts : Parts) (turn : List Step) (fixed : Option Terms)
    (s : IsSite table opened site pass parts) (t : Turned pass turn fixed) (e : after ≡ record pass { seen = turn }) where
  pub left_turn : IsSite table opened site after parts
  left_turn = after_turn table opened site pass after parts parts turn s e (in_turn table opened site pass parts turn fixed s t)

  pub left_adds : AddsOthers (Site site) pass.seen after.seen
  left_adds = subst (λ (l : List Step). AddsOthers (Site site) pass.seen l) (sym (ap (λ (v : View). v.seen) e))
      (adds_one (Site site) pass turn fixed s.actors t)

  pub left_legal : Legal (layout_of pass) after.seen
  left_legal = subst (λ (l : List Step). Legal (layout_of pass) l) (sym (ap (λ (v : View). v.seen) e)) (turn_legal table opened site pass parts turn fixed s t)

  pub left_layout : layout_of after ≡ layout_of pass
  left_layout = ap layout_of e

  -- a crash
  pub left_crash : (told : Option Story) → told ≡ parts.told → Both (Crashes site pass after) parts.told told
  left_crash told u = crash_still (layout_of pass) opened site parts pass after told (keeps_now table opened site pass parts s) u

  -- and what a later call leaves is what both leave
  pub then_crash : (new : View) (told : Option Story) → layout_of after ≡ layout_of new → IsPrefix after.seen new.seen
      → Both (Crashes site after new) parts.told told
      → Both (Crashes site pass new) parts.told told
  then_crash new told l p c =
      crashes_add_up site pass after new parts.told parts.told told l left_adds
      (subst (λ (schema : Layout). Legal schema after.seen) (sym left_layout ∙ l) left_legal) p
      (left_crash parts.told refl) c
