-- When an Ask and a Settle may come.
use Rattle.std.proofs.Common.{ℕ, ◌≡◌, ◌≢◌, Bool, true, false, not, ◌==◌, ◌&&◌, List, [], ◌∷◌, ◌++◌, Option, Some, None, refl, sym, ap, ◌∙◌, subst}
use Rattle.std.proofs.lemmas.Bool.{and_from, and_parts, eq-eqb, ne_eqb}
use Rattle.std.specs.List.{AllByRecursion as Each}
use Rattle.std.specs.Option.{option_map_or}
use Rattle.std.specs.Prelude.{is_some, reverse, IsTrue}
use Rattle.dm_event.specs.Layout.{Layout, is_part, is_site}
use Rattle.dm_event.specs.declared.actor.Actor.TheVariants.{Session}
use Rattle.dm_event.specs.declared.placing.Placing.{Placing}
use Rattle.dm_event.specs.declared.placing.Placing.TheVariants.{Settled, Granted}
use Rattle.dm_event.specs.declared.step.Choice.{Choice}
use Rattle.dm_event.specs.declared.step.Step.{Step}
use Rattle.dm_event.specs.declared.step.Step.TheVariants.{Route, Ask, Settle}
use Rattle.dm_event.specs.declared.step.TxnId.{TxnId}
use Rattle.dm_event.specs.declared.step.Want.{Want}
use Rattle.dm_event.specs.declared.why.Why.TheVariants as why
use Rattle.dm_invariant.proofs.LastSteps.{last_route}
use Rattle.dm_invariant.specs.Stations.{own}
use Rattle.dm_model.proofs.ClausesHold.{first_none, holds_none}
use Rattle.dm_model.proofs.Judged.{judged}
use Rattle.dm_model.specs.Allowed.{Allowed, ask_clauses, settle_clauses, wants_part}
use Rattle.dm_model.specs.Attempts.{Routing, routed}
use Rattle.dm_model.specs.Clauses.{holds}
use Rattle.dm_model.specs.Legal.{Legal, LegalPast}
use Rattle.dm_model.specs.Placings.{placing}
use Rattle.dm_model.specs.Rows.{when_granted, when_settled}
use Rattle.dm_model.specs.Shape.{is_shaped, is_txn, is_vector, is_want}
use Rattle.dm_next.proofs.Routed.{routed_sent, shaped_in}

the_same : {a b : Routing} → Some a ≡ Some b → a ≡ b
the_same e = cc (e)

-- its Route has its shape
route_shaped : (layout : Layout) (past : List Step) (txn : TxnId) (r : Routing) → LegalPast layout past → routed txn past ≡ Some r
    → is_shaped layout (Route txn r.want r.min r.site r.choice) ≡ true
route_shaped layout past txn r l e =
    let sent = routed_sent past txn (ap (λ (o : Option Routing). is_some o) e) in
    subst (λ (z : Routing). is_shaped layout (Route txn z.want z.min z.site z.choice) ≡ true) (the_same (sym sent.by ∙ e))
    (shaped_in layout past (Route txn sent.route.want sent.route.min sent.route.site sent.route.choice) l sent.stands_in)

-- a settled partition may be asked for another site, by an attempt that stands routed there and wants it
ask_allowed : (layout : Layout) (past : List Step) (part epoch site : ℕ) (txn : TxnId) (r : Routing) → LegalPast layout past → IsTrue (is_part layout part)
    → routed txn past ≡ Some r → IsTrue (wants_part layout part r.choice r.want) → placing layout past part ≡ Settled site epoch → site ≢ r.site
    → Allowed layout past (Ask part epoch r.site txn)
ask_allowed layout past part epoch site txn r l there stands wanted now away =
    let to : ℕ = r.site in
    let shape = and_parts (is_txn layout txn) _ (route_shaped layout past txn r l stands) in
    let ends = and_parts (is_vector layout r.min) (is_site layout to) (and_parts (is_want layout r.want) _ shape.1).1 in
    judged layout past (Ask part epoch to txn) (Ask part epoch to txn) refl
    (and_from (is_part layout part) _ there (and_from (is_site layout to) (is_txn layout txn) ends.1 shape.0))
    ∙ first_none (ask_clauses layout past part epoch to txn) (
      holds_none _ _ (ap (λ (o : Option Routing). is_some o) stands),
      (
        holds_none _ _ (ap (λ (o : Option Routing). option_map_or (λ q. (q.site == to) && wants_part layout part q.choice q.want) o false) stands
            ∙ and_from (to == to) _ (eq-eqb to to refl) wanted),
        subst (λ (x : Placing). Each (λ c. c ≡ None) (when_settled x part (λ i due.
            holds (epoch == due) (why.NotDue due) ∷ holds (not (i == to)) (why.Home i) ∷ []))) (sym now)
            (holds_none _ _ (eq-eqb epoch epoch refl), (holds_none _ _ (ap (λ (b : Bool). not b) (ne_eqb site to away)), tt)),
      ),
    )

-- by the session whose last own step is that Route
pub ask_may : (layout : Layout) (steps before : List Step) (part epoch site to : ℕ) (txn : TxnId) (wanted : Want) (min : List ℕ) (by : Choice)
    → Legal layout steps → IsTrue (is_part layout part) → own (Session txn.session) steps ≡ before ++ Route txn wanted min to by ∷ []
    → IsTrue (wants_part layout part by wanted) → placing layout (reverse steps) part ≡ Settled site epoch → site ≢ to
    → Allowed layout (reverse steps) (Ask part epoch to txn)
ask_may layout steps before part epoch site to txn wanted min by l there e wants now away =
    ask_allowed layout (reverse steps) part epoch site txn (record { txn = txn; want = wanted; min = min; site = to; choice = by }) l there
    (last_route steps before txn wanted min to by e) wants now away

-- a granted partition may be settled
pub settle_may : (layout : Layout) (past : List Step) (part epoch site : ℕ) → IsTrue (is_part layout part) → placing layout past part ≡ Granted site epoch
    → Allowed layout past (Settle part epoch)
settle_may layout past part epoch site there now =
    judged layout past (Settle part epoch) (Settle part epoch) refl there
    ∙ first_none (settle_clauses layout past part epoch)
    (subst (λ (x : Placing). Each (λ c. c ≡ None) (when_granted x (λ due. holds (epoch == due) (why.NotDue due) ∷ []))) (sym now)
    (holds_none _ _ (eq-eqb epoch epoch refl), tt))
