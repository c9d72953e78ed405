-- Sessions that were served may be served again.
use Rattle.std.proofs.Common.{◌≡◌, ℕ, ◌+◌, Bool, true, ◌&&◌, List, [], ◌∷◌, ◌++◌, length, Some, None, refl, sym, ap, ◌∙◌, subst, append_assoc, if◌then◌else◌}
use Rattle.std.proofs.lemmas.Bool.{and_parts, eq-eqb, leb-true}
use Rattle.std.specs.Prelude.{reverse}
use Rattle.atomic_table.specs.Seated.{TableId}
use Rattle.dm_answers.specs.declared.item.Item.{Item}
use Rattle.dm_client.specs.Client.{Answered}
use Rattle.dm_core.specs.Lawful.{Terms}
use Rattle.dm_event.specs.Layout.{Layout}
use Rattle.dm_event.specs.declared.actor.Actor.TheVariants.{Session}
use Rattle.dm_event.specs.declared.attempt.AttemptState.TheVariants.{Unrouted}
use Rattle.dm_event.specs.declared.step.Body.{Body}
use Rattle.dm_event.specs.declared.step.Choice.{Choice}
use Rattle.dm_event.specs.declared.step.Op.{Op}
use Rattle.dm_event.specs.declared.step.Pair.{Pair}
use Rattle.dm_event.specs.declared.step.Step.{Step}
use Rattle.dm_event.specs.declared.step.Step.TheVariants.{End, Reply, Route}
use Rattle.dm_event.specs.declared.step.TxnId.{TxnId}
use Rattle.dm_event.specs.declared.step.Want.TheVariants.{Txn}
use Rattle.dm_invariant.specs.Stations.{own}
use Rattle.dm_model.specs.Attempts.{state}
use Rattle.dm_model.specs.Shape.{is_shaped}
use Rattle.dm_opening.specs.Opening.{AreNew, IsNew}
use Rattle.dm_served.specs.Clients.{FitsSchema, Serves}
use Rattle.dm_session.proofs.Carried.{state_last}
use Rattle.dm_session.specs.Sitting.{Sitting}
use Rattle.dm_sites.specs.declared.told.Told.{Told}

pub answered_serves : (terms : Terms) (item : Item) (told : Told) (a b : Sitting) → Serves terms a → Answered item told a b → Serves terms b
answered_serves terms item told a b s h =
    let steps : own (Session a.id) b.pass.seen ≡ (own (Session a.id) a.pass.seen ++ h.way) ++ Reply a.id (a.count + 1) told.said ∷ [] =
    h.steps ∙ sym (append_assoc (own (Session a.id) a.pass.seen) h.way (Reply a.id (a.count + 1) told.said ∷ [])) in
    let st = state_last a.id Unrouted tt b.pass.seen (own (Session a.id) a.pass.seen ++ h.way) (Reply a.id (a.count + 1) told.said) steps
    (ap (λ (c : Bool). if c then Some Unrouted else None) (eq-eqb a.id a.id refl)) in
    (h.went.fixed ∙ s.0, subst (λ (k : ℕ). state k (reverse b.pass.seen) ≡ Unrouted) (sym h.same) st)

new_serves : (table : TableId) (terms : Terms) (id : ℕ) (s : Sitting) → IsNew table terms id s → Serves terms s
new_serves table terms id s h = (h.terms_are, ap (λ (l : List Step). state s.id (reverse l)) h.empty)

-- the last of sessions without steps may be served, and so may the others
abbrev pub AllServe : Terms → List Sitting → Type 0
AllServe terms [] = Unit {0}
AllServe terms (s ∷ ss) = Serves terms s × AllServe terms ss

pub all_serve : (table : TableId) (terms : Terms) (ids : List ℕ) (ss : List Sitting) → AreNew table terms ids ss → AllServe terms ss
all_serve table terms [] [] h = tt
all_serve table terms (id ∷ ids) (s ∷ ss) h = (new_serves table terms id s h.0, all_serve table terms ids ss h.1)
all_serve table terms [] (s ∷ ss) h = absurd h
all_serve table terms (id ∷ ids) [] h = absurd h

pub last_serves : (terms : Terms) (all ss : List Sitting) (s : Sitting) → all ≡ ss ++ s ∷ [] → AllServe terms all → Serves terms s × AllServe terms ss
last_serves terms all ss s e h = by ss (subst (AllServe terms) e h)
  where
    by : (ss : List Sitting) → AllServe terms (ss ++ s ∷ []) → Serves terms s × AllServe terms ss
    by [] h = (h.0, tt)
    by (x ∷ xs) h = (let r = by xs h.1 in (r.0, (h.0, r.1)))

pub shaped_fits : (layout : Layout) (body : Body) (txn : TxnId) (min : List ℕ) (site : ℕ) (choice : Choice) (ops : List Op) (keys : List ℕ) (reads : List Pair)
    → keys ≡ body.declared → ops ≡ body.ops
    → (is_shaped layout (Route txn (Txn keys) min site choice) && is_shaped layout (End site txn ops reads)) ≡ true → FitsSchema layout body
shaped_fits layout body txn min site choice ops keys reads k o h =
    let p = and_parts (is_shaped layout (Route txn (Txn keys) min site choice)) (is_shaped layout (End site txn ops reads)) h in
    let want = (and_parts _ _ (and_parts _ _ p.0).1).0 in
    let list = (and_parts _ _ (and_parts _ _ (and_parts _ _ p.1).1).1).0 in
    let parts = and_parts _ _ list in
    subst (λ (b : Body). FitsSchema layout b) (λ i. record { declared = k i; ops = o i }) (want, leb-true (length ops) 64 parts.0, parts.1)
