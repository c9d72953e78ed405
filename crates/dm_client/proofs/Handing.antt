-- Hand-overs.
use Rattle.std.proofs.Common.{◌≡◌, ℕ, true, refl, sym, ◌∙◌, subst}
use Rattle.std.proofs.lemmas.Bool.{false≢true}
use Rattle.dm_chronicle.proofs.Lists.{prefix_trans, mine_prefix}
use Rattle.dm_chronicle.specs.Belongs.{belongs}
use Rattle.dm_client.specs.Moves.{BroughtAs, is_given, is_granted_now, is_over}
use Rattle.dm_client.specs.declared.bringing.Brought.{Brought}
use Rattle.dm_client.specs.declared.bringing.Brought.TheVariants as brought
use Rattle.dm_event.specs.Actors.{actors}
use Rattle.dm_event.specs.declared.actor.Actor.TheVariants.{Partition, Session}
use Rattle.dm_event.specs.declared.placing.Placing.{Placing}
use Rattle.dm_event.specs.declared.placing.Placing.TheVariants.{Settled, Asked, Between, Granted}
use Rattle.dm_event.specs.declared.step.TxnId.{TxnId}
use Rattle.dm_invariant.specs.Stations.{Rested, View, Went, own}
use Rattle.dm_site.specs.Answers.{placing_in}
use Rattle.dm_sites.specs.Stages.{FreedAs, GivenAs, IsGrantedNow}
use Rattle.dm_sites.specs.declared.handing.Freed.{Freed}
use Rattle.dm_sites.specs.declared.handing.Freed.TheVariants as freed
use Rattle.dm_sites.specs.declared.handing.Given.{Given}
use Rattle.dm_sites.specs.declared.handing.Given.TheVariants as given
use Rattle.dm_table.specs.Places.{IsGranted, Knows, Placed}

-- who has seen more knows it too
pub knows_on : (place : Placed) (old new : View) → Knows place old → Went old new → Knows place new
knows_on place old new k w =
    prefix_trans (own (Partition place.part) place.pass.seen) (own (Partition place.part) old.seen) (own (Partition place.part) new.seen) k
    (mine_prefix (belongs actors) (Partition place.part) old.seen new.seen w.begins)

granted_is : (now : Placing) → is_granted_now now ≡ true → (site : ℕ) × (epoch : ℕ) × (now ≡ Granted site epoch)
granted_is (Settled site epoch) h = absurd (false≢true h)
granted_is (Asked site epoch to) h = absurd (false≢true h)
granted_is (Between site epoch to vector) h = absurd (false≢true h)
granted_is (Granted site epoch) h = (site, epoch, refl)

passed : (pass : View) (part : ℕ) (now : Placing) → is_granted_now now ≡ true → placing_in pass part ≡ now → IsGranted part pass
passed pass part now t h = subst (λ (x : Placing). (site : ℕ) × (epoch : ℕ) × (x ≡ Granted site epoch)) (sym h) (granted_is now t)

granted_now : (pass : View) (part : ℕ) → IsGrantedNow (placing_in pass part) → IsGranted part pass
granted_now pass part h = by (placing_in pass part) h
  where
    by : (now : Placing) → IsGrantedNow now → (site : ℕ) × (epoch : ℕ) × (now ≡ Granted site epoch)
    by (Granted site epoch) h = (site, epoch, refl)
    by (Settled site epoch) h = absurd h
    by (Asked site epoch to) h = absurd h
    by (Between site epoch to vector) h = absurd h

pub over_granted : (on : TxnId) (part : ℕ) (old new : View) (f : Freed) → is_over f ≡ true → FreedAs on part old new f → IsGranted part new
over_granted on part old new freed.Released t h = absurd (false≢true t)
over_granted on part old new (freed.Passed now) t h = passed new part now t h.1

pub given_granted : (on : TxnId) (part : ℕ) (old new : View) (x : Given) → is_given x ≡ true → GivenAs on part old new x → IsGranted part new
given_granted on part old new given.Granted t h = granted_now new part h.1
given_granted on part old new (given.Passed now) t h = passed new part now t h.1

pub freed_rested : (on : TxnId) (part : ℕ) (old new : View) (f : Freed) → FreedAs on part old new f → Rested (Session on.session) old new
freed_rested on part old new freed.Released h = h
freed_rested on part old new (freed.Passed now) h = h.0

pub given_rested : (on : TxnId) (part : ℕ) (old new : View) (x : Given) → GivenAs on part old new x → Rested (Session on.session) old new
given_rested on part old new given.Granted h = h.0
given_rested on part old new (given.Passed now) h = h.0

pub brought_after : (on : TxnId) (part to : ℕ) (old mid new : View) (b : Brought) → Rested (Session on.session) old mid
    → BroughtAs on part to mid new b → BroughtAs on part to old new b
brought_after on part to old mid new (brought.There epoch) k h = (h.0 ∙ k, h.1)
brought_after on part to old mid new brought.Elsewhere k h = h ∙ k

pub brought_rested : (on : TxnId) (part to : ℕ) (old new : View) (b : Brought) → BroughtAs on part to old new b → Rested (Session on.session) old new
brought_rested on part to old new (brought.There epoch) h = h.0
brought_rested on part to old new brought.Elsewhere h = h
