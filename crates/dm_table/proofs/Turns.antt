-- Both passes after a turn, in which a step came or none.
use Rattle.std.proofs.Common.{ℕ, ◌≡◌, ◌==◌, ◌||◌, Bool, true, false, List, [], ◌∷◌, ◌++◌, refl, sym, ap, ◌∙◌, subst}
use Rattle.std.proofs.lemmas.Bool.{eq-eqb}
use Rattle.std.specs.Prelude.{Option}
use mathlib.Core.List.{IsPrefix}
use Rattle.dm_chronicle.proofs.Lists.{prefix_refl}
use Rattle.dm_chronicle.specs.Belongs.{belongs}
use Rattle.dm_core.specs.Lawful.{Terms}
use Rattle.dm_event.specs.Actors.{actors}
use Rattle.dm_event.specs.declared.actor.Actor.{Actor}
use Rattle.dm_event.specs.declared.actor.Actor.TheVariants.{Partition, Session}
use Rattle.dm_event.specs.declared.step.Step.{Step}
use Rattle.dm_invariant.proofs.Passing.{adds_one, rested, rested_in, went_on, went_to}
use Rattle.dm_invariant.specs.Stations.{View, own}
use Rattle.dm_invariant.specs.Turning.{Turned}
use Rattle.dm_table.specs.Places.{Placed, Knows, Stayed}

-- who took the turn and pushed a step in it
pub pushing : (own0 lent own1 turn now : View) (step : Step) → lent ≡ record own0 { actors = [] } → turn.actors ≡ own0.actors → now ≡ turn
    → own1 ≡ record lent { actors = now.actors; seen = now.seen ++ step ∷ [] } → own1 ≡ record own0 { seen = turn.seen ++ step ∷ [] }
pushing own0 lent own1 turn now step l a n e =
    e ∙ (λ j. record (l j) { actors = (n j).actors; seen = (n j).seen ++ step ∷ [] })
    ∙ ap (λ (held : List Actor). record own0 { actors = held; seen = turn.seen ++ step ∷ [] }) a

-- who took the turn and left it
pub leaving : (own0 lent own1 turn now : View) → lent ≡ record own0 { actors = [] } → turn.actors ≡ own0.actors → now ≡ turn
    → own1 ≡ record lent { actors = now.actors; seen = now.seen } → own1 ≡ record own0 { seen = turn.seen }
leaving own0 lent own1 turn now l a n e =
    e ∙ (λ j. record (l j) { actors = (n j).actors; seen = (n j).seen }) ∙ ap (λ (held : List Actor). record own0 { actors = held; seen = turn.seen }) a

-- both have seen the turn's list
pub same_seen : (own1 lent now1 turn now : View) (own0 : View) → own1 ≡ record own0 { seen = turn.seen } → now ≡ turn
    → now1 ≡ record lent { actors = now.actors; seen = now.seen } → own1.seen ≡ now1.seen
same_seen own1 lent now1 turn now own0 e n f = ap (λ (v : View). v.seen) e ∙ sym (ap (λ (v : View). v.seen) f ∙ ap (λ (v : View). v.seen) n)

-- who met it, and saw the step
pub meeting : (pass0 lent pass1 turn now : View) (step : Step) → lent ≡ record pass0 { seen = turn.seen } → now ≡ turn
    → pass1 ≡ record lent { seen = now.seen ++ step ∷ [] } → pass1 ≡ record pass0 { seen = turn.seen ++ step ∷ [] }
meeting pass0 lent pass1 turn now step l n e = e ∙ (λ j. record (l j) { seen = (n j).seen ++ step ∷ [] })

-- ---- the session's pass

pub stayed_in : (old new : View) (turn : List Step) (fixed : Option Terms) → Turned old turn fixed → new ≡ record old { seen = turn } → Stayed old new
stayed_in old new turn fixed t e =
    (went_to old new turn t.begins e, λ session a. rested_in (Session session) old new turn (adds_one (Session session) old turn fixed a t) e)

-- through a step that is no session's
pub stayed_through : (old new : View) (turn : List Step) (fixed : Option Terms) (step : Step) → Turned old turn fixed → new ≡ record old { seen = turn ++ step ∷ [] }
    → ((session : ℕ) → belongs actors step (Session session) ≡ false) → Stayed old new
stayed_through old new turn fixed step t e none = (
  went_on old new turn step t.begins e,
  λ session a. rested (Session session) old new turn step (adds_one (Session session) old turn fixed a t) e (none session),
)

-- ---- the partition's pass

-- its own step
pub of_part : (part : ℕ) → ((part == part) || false) ≡ true
of_part part = ap (λ (b : Bool). b || false) (eq-eqb part part refl)

pub knows_same : (place : Placed) (pass : View) → pass.seen ≡ place.pass.seen → Knows place pass
knows_same place pass e =
    subst (λ (steps : List Step). IsPrefix (own (Partition place.part) place.pass.seen) (own (Partition place.part) steps)) (sym e) (prefix_refl (own (Partition place.part) place.pass.seen))
