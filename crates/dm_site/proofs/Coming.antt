-- What an attempt that was sent to a site may ask it to catch up to, and what its answer says from before that.
use Rattle.std.proofs.Common.{ℕ, ◌≡◌, List, [], ◌∷◌, ◌++◌, Option, Some, refl, sym, ap, ◌∙◌, subst, inl}
use Rattle.std.specs.Prelude.{reverse, unwrap_or, IfOk, Result, Ok, Err}
use Rattle.atomic_table.specs.Seated.{TableId}
use Rattle.dm_chronicle.proofs.Lists.{prefix_refl, prefix_trans}
use Rattle.dm_chronicle.specs.Belongs.{belongs}
use Rattle.dm_chronicle.specs.Rule.{In}
use Rattle.dm_chronicle.specs.Standing.{Sees}
use Rattle.dm_core.specs.Lawful.{Terms}
use Rattle.dm_event.specs.Actors.{actors}
use Rattle.dm_event.specs.Layout.{Layout}
use Rattle.dm_event.specs.declared.actor.Actor.{Actor}
use Rattle.dm_event.specs.declared.actor.Actor.TheVariants.{Session}
use Rattle.dm_event.specs.declared.step.Step.{Step}
use Rattle.dm_event.specs.declared.step.Step.TheVariants.{Begin, Moved}
use Rattle.dm_event.specs.declared.step.TxnId.{TxnId}
use Rattle.dm_event.specs.declared.step.Want.TheVariants as want
use Rattle.dm_locks.specs.Locks.{Locks}
use Rattle.dm_model.specs.Legal.{LegalPast}
use Rattle.dm_next.proofs.Minima.{routed_counts}
use Rattle.dm_next.specs.Counted.{Counts}
use Rattle.dm_invariant.proofs.Passing.{went_to, went_twice}
use Rattle.dm_invariant.proofs.Sessions.{routed_here}
use Rattle.dm_site.specs.Answers.{BeganAs}
use Rattle.dm_site.specs.Begins.{Begins}
use Rattle.dm_site.specs.Catching.{Refreshes}
use Rattle.dm_invariant.specs.Keeping.{IsSite, Parts}
use Rattle.dm_invariant.specs.Running.{RoutedFor}
use Rattle.dm_invariant.specs.Stations.{Station, View, Went, layout_of, no_terms, own}
use Rattle.dm_site.specs.declared.answers.BeginAnswer.{BeginAnswer}
use Rattle.dm_site.specs.declared.answers.BeginAnswer.TheVariants as begun

-- what a pass sees more is no step of its actor
sees_own : (actor : Actor) (old new : View) → old.actors ≡ actor ∷ [] → Sees (belongs actors) old new → own actor new.seen ≡ own actor old.seen
sees_own actor old new a s = s.own actor (subst (λ (held : List Actor). In actor held) (sym a) (inl refl))

pub sees_twice : (actor : Actor) (first second third : View) → first.actors ≡ actor ∷ [] → Sees (belongs actors) first second
    → Sees (belongs actors) second third → own actor third.seen ≡ own actor first.seen
sees_twice actor first second third a s t =
    sees_own actor second third (ap (λ (w : View). w.actors) s.same ∙ a) t ∙ sees_own actor first second a s

-- Of two passes that have seen one list, the site's tells that it is legal. So the minimum of an attempt that stands routed counts entries
-- that there are.
pub counted_met : {D : Type 0} {table : TableId} {opened : List ℕ} {parts : Parts} (old met here : Station D) (own0 own1 : View) (txn : TxnId)
    (keys min : List ℕ) (site : ℕ) → here ≡ met → IsSite table opened here.number here.pass parts → Refreshes old met → own0.fixed ≡ old.pass.fixed
    → own1.seen ≡ met.pass.seen → own0.actors ≡ Session txn.session ∷ [] → Sees (belongs actors) own0 own1 → RoutedFor txn (want.Txn keys) min site own0
    → Counts (layout_of own1) (reverse own1.seen) min
counted_met {D} old met here own0 own1 txn keys min site e s f o m a v r =
    subst (λ (layout : Layout). Counts layout (reverse own1.seen) min) (sym layout_is)
    (routed_counts s.terms.layout (reverse own1.seen) site txn keys min legal (r.1, routed_here txn (want.Txn keys) min site own1 route))
  where
    fixed_is : own1.fixed ≡ Some s.terms
    fixed_is =
        ap (λ (w : View). w.fixed) v.same ∙ (o ∙ (sym f.pass.fixed ∙ (ap (λ (station : Station D). station.pass.fixed) (sym e) ∙ s.fixed)))

    layout_is : layout_of own1 ≡ s.terms.layout
    layout_is = ap (λ (fixed : Option Terms). (unwrap_or fixed no_terms).layout) fixed_is

    legal : LegalPast s.terms.layout (reverse own1.seen)
    legal =
        subst (λ (steps : List Step). LegalPast s.terms.layout (reverse steps)) (ap (λ (station : Station D). station.pass.seen) e ∙ sym m) s.keeps.legal

    route : RoutedFor txn (want.Txn keys) min site own1
    route = (r.0, r.1, sees_own (Session txn.session) own0 own1 a v ∙ r.2)

-- the answer says the same of what the session's pass was before, where no step of the session came since
began_since : (site : ℕ) (pass : View) (txn : TxnId) (keys min : List ℕ) (own0 own1 own2 : View)
    → own (Session txn.session) own1.seen ≡ own (Session txn.session) own0.seen → (a : BeginAnswer) → BeganAs site pass txn keys min own1 own2 a
    → BeganAs site pass txn keys min own0 own2 a
began_since site pass txn keys min own0 own1 own2 e (begun.Begun run) b =
    (b.0 ∙ ap (λ (steps : List Step). steps ++ Begin site txn run.begin ∷ []) e, b.1, b.2)
began_since site pass txn keys min own0 own1 own2 e begun.Moved b = b ∙ ap (λ (steps : List Step). steps ++ Moved site txn ∷ []) e
began_since site pass txn keys min own0 own1 own2 e (begun.Held by key) b = (b.0 ∙ e, b.1, b.2)
began_since site pass txn keys min own0 own1 own2 e begun.Down b = (b.0 ∙ e, b.1)

pub answered_since : {E : Type 0} (before site : ℕ) (pass : View) (txn : TxnId) (keys min : List ℕ) (own0 own1 own2 : View) (r : Result BeginAnswer E)
    → site ≡ before → own (Session txn.session) own1.seen ≡ own (Session txn.session) own0.seen → IfOk r (BeganAs site pass txn keys min own1 own2)
    → IfOk r (BeganAs before pass txn keys min own0 own2)
answered_since before site pass txn keys min own0 own1 own2 (Ok a) n e b =
    subst (λ (site : ℕ). BeganAs site pass txn keys min own0 own2 a) n (began_since site pass txn keys min own0 own1 own2 e a b)
answered_since before site pass txn keys min own0 own1 own2 (Err x) n e b = tt

-- the session's Route is its last step still
pub routed_since : (before site : ℕ) (txn : TxnId) (keys min : List ℕ) (own0 own1 : View) → site ≡ before
    → own (Session txn.session) own1.seen ≡ own (Session txn.session) own0.seen → RoutedFor txn (want.Txn keys) min before own0
    → RoutedFor txn (want.Txn keys) min site own1
routed_since before site txn keys min own0 own1 n e r =
    subst (λ (site : ℕ). RoutedFor txn (want.Txn keys) min site own1) (sym n) (r.0, r.1, e ∙ r.2)

-- ---- what it leaves

pub went_seeing : (old new : View) → Sees (belongs actors) old new → Went old new
went_seeing old new s = went_to old new new.seen s.begins s.same

pub went_nowhere : (pass : View) → Went pass pass
went_nowhere pass = record { table = refl; fixed = refl; actors = refl; begins = prefix_refl pass.seen }

pub begins_nothing : {D : Type 0} (old : Station D) → Begins old old
begins_nothing old = record { number = refl; installed = prefix_refl old.installed; live = refl; pass = went_nowhere old.pass; disk = refl }

pub begins_after : {D : Type 0} (old met up new : Station D) → Refreshes old met → Refreshes met up → Begins up new → Begins old new
begins_after old met up new r s b = record {
  number = b.number ∙ (s.number ∙ r.number);
  installed = prefix_trans old.installed met.installed new.installed r.installed (prefix_trans met.installed up.installed new.installed s.installed
      b.installed);
  live = b.live ∙ (s.live ∙ r.live);
  pass = went_twice old.pass met.pass new.pass r.pass (went_twice met.pass up.pass new.pass s.pass b.pass);
  disk = b.disk ∙ (s.disk ∙ r.disk);
}

-- other locks are no part of it
pub begins_locked : {D : Type 0} (old met up : Station D) (locks : Locks) → Refreshes old met → Refreshes met up → Begins old (record up { locks = locks })
begins_locked {D} old met up locks r s = begins_after old met up (record up { locks = locks }) r s (record {
  number = refl;
  installed = prefix_refl up.installed;
  live = refl;
  pass = went_nowhere up.pass;
  disk = refl;
})
