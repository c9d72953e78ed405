-- Attempts whose partitions are brought to their site first.
use Rattle.std.proofs.Common.{◌≡◌, ℕ, ◌<◌, Bool, true, ◌||◌, List, [], ◌++◌, length, Option, Some, refl, sym, ap, ◌∙◌, subst, append-nil, unwrap_or}
use Rattle.std.proofs.lemmas.Bool.{and_from, lt-ltb}
use Rattle.dm_answers.specs.declared.item.Item.TheVariants.{Txn}
use Rattle.dm_client.specs.Client.{IsSent}
use Rattle.dm_client.specs.Moves.{MayMove}
use Rattle.dm_core.specs.Lawful.{Terms}
use Rattle.dm_event.specs.Layout.{Layout, is_part}
use Rattle.dm_event.specs.declared.actor.Actor.TheVariants.{Session}
use Rattle.dm_event.specs.declared.step.Body.{Body}
use Rattle.dm_event.specs.declared.step.Choice.TheVariants.{Best, Hand}
use Rattle.dm_event.specs.declared.step.Step.{Step}
use Rattle.dm_event.specs.declared.step.TxnId.{TxnId}
use Rattle.dm_event.specs.declared.step.Want.TheVariants as want
use Rattle.dm_invariant.specs.Stations.{Rested, View, Went, layout_of, no_terms, own}
use Rattle.dm_model.specs.Allowed.{wants_part}
use Rattle.dm_model.specs.Choices.{parts_in_order, parts_of}
use Rattle.dm_model.specs.Tests.{is_among, same_choice}
use Rattle.dm_placement.proofs.Distinct.{among_distinct}
use Rattle.dm_session.specs.Sitting.{Between, Sitting}
use Rattle.dm_sites.proofs.Ways.{came_after}
use Rattle.dm_sites.specs.Telling.{CameAs, IsRoutable}
use Rattle.dm_sites.specs.declared.told.Came.{Came}
use Rattle.dm_table.specs.Places.{WantsPart}

pub came_rested : (txn : TxnId) (body : Body) (least : List ℕ) (old mid new : View) (x : Came) → IsRoutable (Txn body) → Went old mid
    → Rested (Session txn.session) old mid → CameAs txn.session txn.number (Txn body) least (Some txn) mid new x
    → CameAs txn.session txn.number (Txn body) least (Some txn) old new x
came_rested txn body least old mid new x r w k h = came_after txn.session txn.number (Txn body) least (Some txn) (Some txn) old mid new x r
    (record { went = w; way = []; steps = k ∙ sym (append-nil (own (Session txn.session) old.seen)); tries = tt; last_is = refl }) h

pub between_after : (c : ℕ) (old mid new : View) → Rested (Session c) old mid → Between c mid.seen new.seen → Between c old.seen new.seen
between_after c old mid new k b = (b.0, b.1 ∙ ap (λ (l : List Step). l ++ b.0) k, b.2)

-- each partition of the declared keys may be moved
pub may_move : (txn : TxnId) (keys : List ℕ) (s : Sitting) (set : List ℕ) (wanted : Bool) (layout : Layout) → IsSent txn (want.Txn keys) s
    → layout_of s.pass ≡ layout → set ≡ parts_of layout keys → ((p : ℕ) → is_among set p ≡ true → p < length layout.masters)
    → (wanted ≡ true → (same_choice s.by Best || same_choice s.by Hand) ≡ true) → MayMove txn s.to set wanted s.pass
may_move txn keys s set wanted layout sent e is within choice part h = (
  subst (λ (l : Layout). is_part l part ≡ true) (sym e) (lt-ltb part (length layout.masters) (within part h)),
  (λ w. (
    want.Txn keys,
    s.vector,
    (sent.0, s.by, sent.1),
    and_from _ _ (choice w) (subst (λ (l : Layout). is_among (parts_in_order l keys) part ≡ true) (sym e)
        (sym (among_distinct (parts_in_order layout keys) part) ∙ (ap (λ (l : List ℕ). is_among l part) (sym is) ∙ h))),
  )),
)

pub wants_on : (txn : TxnId) (part to : ℕ) (old new : View) → Went old new → Rested (Session txn.session) old new → WantsPart txn part to old
    → WantsPart txn part to new
wants_on txn part to old new w k q =
    (q.0, q.1, (q.2.0, q.2.1, k ∙ q.2.2), subst (λ (o : Option Terms). wants_part (unwrap_or o no_terms).layout part q.2.1 q.0 ≡ true) (sym w.fixed) q.3)

pub may_move_on : (txn : TxnId) (to : ℕ) (set : List ℕ) (wanted : Bool) (old new : View) → Went old new → Rested (Session txn.session) old new
    → MayMove txn to set wanted old → MayMove txn to set wanted new
may_move_on txn to set wanted old new w k m part h =
    let r = m part h in (
      subst (λ (o : Option Terms). is_part (unwrap_or o no_terms).layout part ≡ true) (sym w.fixed) r.0,
      (λ (t : wanted ≡ true). wants_on txn part to old new w k (r.1 t)),
    )
