-- What a turn leaves of the two passes that met in it.
use Rattle.std.proofs.Common.{◌≡◌, Bool, true, false, List, [], ◌∷◌, ◌++◌, Option, refl, sym, ap, ◌∙◌, subst, inl}
use Rattle.std.specs.Prelude.{unwrap_or}
use mathlib.Core.List.{IsPrefix}
use Rattle.dm_chronicle.proofs.Lists.{prefix_more, prefix_trans, mine_append, mine_other}
use Rattle.dm_chronicle.specs.Belongs.{belongs}
use Rattle.dm_chronicle.specs.Rule.{keep_if}
use Rattle.dm_chronicle.specs.Standing.{SameSteps}
use Rattle.dm_core.specs.Lawful.{Terms}
use Rattle.dm_event.specs.Actors.{actors}
use Rattle.dm_event.specs.declared.actor.Actor.{Actor}
use Rattle.dm_event.specs.declared.step.Step.{Step}
use Rattle.dm_others.specs.Adding.{AddsOthers}
use Rattle.dm_invariant.specs.Stations.{View, Went, Rested, Did, own, layout_of, no_terms}
use Rattle.dm_invariant.specs.Turning.{Turned, Came, Met}

-- the pass that took the turn has its actors again
pub given_back : (own0 lent own1 : View) (held : List Actor) (steps : List Step) → lent ≡ record own0 { actors = [] } → held ≡ own0.actors
    → own1 ≡ record lent { actors = held; seen = steps } → own1 ≡ record own0 { seen = steps }
given_back own0 lent own1 held steps l h e =
    e ∙ (ap (λ (v : View). record v { actors = held; seen = steps }) l ∙
    ap (λ (held : List Actor). record own0 { actors = held; seen = steps }) h)

-- the actor of a pass with one did no step
pub adds_one : (actor : Actor) (pass : View) (turn : List Step) (fixed : Option Terms) → pass.actors ≡ actor ∷ [] → Turned pass turn fixed
    → AddsOthers actor pass.seen turn
adds_one actor pass turn fixed a t = (t.begins, subst (λ (held : List Actor). SameSteps (belongs actors) held pass.seen turn) a t.same actor (inl refl))

pub came : (site session : Actor) (own0 pass0 own1 pass1 : View) (turn : List Step) (own_fixed pass_fixed : Option Terms) (step : Step)
    → own0.actors ≡ session ∷ [] → pass0.actors ≡ site ∷ [] → Turned own0 turn own_fixed → Turned pass0 turn pass_fixed
    → own1 ≡ record own0 { seen = turn ++ step ∷ [] } → pass1 ≡ record pass0 { seen = turn ++ step ∷ [] } → Came site session own0 pass0 own1 pass1 step
came site session own0 pass0 own1 pass1 turn own_fixed pass_fixed step a b s t e f =
    record { turn = turn; of_site = adds_one site pass0 turn pass_fixed b t; of_session = adds_one session own0 turn own_fixed a s; own = e; pass = f }

pub met : (site session : Actor) (own0 pass0 own1 pass1 : View) (turn : List Step) (own_fixed pass_fixed : Option Terms)
    → own0.actors ≡ session ∷ [] → pass0.actors ≡ site ∷ [] → Turned own0 turn own_fixed → Turned pass0 turn pass_fixed
    → own1 ≡ record own0 { seen = turn } → pass1 ≡ record pass0 { seen = turn } → Met site session own0 pass0 own1 pass1
met site session own0 pass0 own1 pass1 turn own_fixed pass_fixed a b s t e f =
    record { turn = turn; of_site = adds_one site pass0 turn pass_fixed b t; of_session = adds_one session own0 turn own_fixed a s; own = e; pass = f }

-- ---- one pass

-- a longer list
pub went_to : (old new : View) (steps : List Step) → IsPrefix old.seen steps → new ≡ record old { seen = steps } → Went old new
went_to old new steps p e = record {
  table = ap (λ (v : View). v.table) e;
  fixed = ap (λ (v : View). v.fixed) e;
  actors = ap (λ (v : View). v.actors) e;
  begins = subst (λ (l : List Step). IsPrefix old.seen l) (sym (ap (λ (v : View). v.seen) e)) p;
}

pub went_on : (old new : View) (turn : List Step) (step : Step) → IsPrefix old.seen turn → new ≡ record old { seen = turn ++ step ∷ [] } → Went old new
went_on old new turn step p e = went_to old new (turn ++ step ∷ []) (prefix_more old.seen turn (step ∷ []) p) e

pub went_twice : (first second third : View) → Went first second → Went second third → Went first third
went_twice first second third a b = record {
  table = b.table ∙ a.table;
  fixed = b.fixed ∙ a.fixed;
  actors = b.actors ∙ a.actors;
  begins = prefix_trans first.seen second.seen third.seen a.begins b.begins;
}

pub went_layout : (old new : View) → Went old new → layout_of new ≡ layout_of old
went_layout old new w = ap (λ (f : Option Terms). (unwrap_or f no_terms).layout) w.fixed

-- the actor's steps with one more, which is its own or isn't
pub own_pushed : (actor : Actor) (steps : List Step) (step : Step) → belongs actors step actor ≡ true
    → own actor (steps ++ step ∷ []) ≡ own actor steps ++ step ∷ []
own_pushed actor steps step b = mine_append (belongs actors) actor steps (step ∷ []) ∙ ap (λ (b : Bool). own actor steps ++ keep_if b step []) b

pub own_passed : (actor : Actor) (steps : List Step) (step : Step) → belongs actors step actor ≡ false → own actor (steps ++ step ∷ []) ≡ own actor steps
own_passed actor steps step b = mine_other (belongs actors) actor steps step b

pub did : (actor : Actor) (old new : View) (turn : List Step) (step : Step) → AddsOthers actor old.seen turn → new ≡ record old { seen = turn ++ step ∷ [] }
    → belongs actors step actor ≡ true → Did actor old new step
did actor old new turn step a e b = ap (λ (v : View). own actor v.seen) e ∙ (own_pushed actor turn step b ∙ ap (λ (l : List Step). l ++ step ∷ []) a.1)

pub rested : (actor : Actor) (old new : View) (turn : List Step) (step : Step) → AddsOthers actor old.seen turn → new ≡ record old { seen = turn ++ step ∷ [] }
    → belongs actors step actor ≡ false → Rested actor old new
rested actor old new turn step a e b = ap (λ (v : View). own actor v.seen) e ∙ (own_passed actor turn step b ∙ a.1)

pub rested_in : (actor : Actor) (old new : View) (turn : List Step) → AddsOthers actor old.seen turn → new ≡ record old { seen = turn } → Rested actor old new
rested_in actor old new turn a e = ap (λ (v : View). own actor v.seen) e ∙ a.1

-- ---- both passes

module _ (site session : Actor) (own0 pass0 own1 pass1 : View) where
  pub came_own : (step : Step) → Came site session own0 pass0 own1 pass1 step → Went own0 own1
  came_own step c = went_on own0 own1 c.turn step c.of_session.0 c.own

  pub came_pass : (step : Step) → Came site session own0 pass0 own1 pass1 step → Went pass0 pass1
  came_pass step c = went_on pass0 pass1 c.turn step c.of_site.0 c.pass

  pub came_did : (step : Step) → Came site session own0 pass0 own1 pass1 step → belongs actors step session ≡ true → Did session own0 own1 step
  came_did step c b = did session own0 own1 c.turn step c.of_session c.own b

  pub came_rested : (step : Step) → Came site session own0 pass0 own1 pass1 step → belongs actors step session ≡ false → Rested session own0 own1
  came_rested step c b = rested session own0 own1 c.turn step c.of_session c.own b

  pub site_did : (step : Step) → Came site session own0 pass0 own1 pass1 step → belongs actors step site ≡ true → Did site pass0 pass1 step
  site_did step c b = did site pass0 pass1 c.turn step c.of_site c.pass b

  pub met_own : Met site session own0 pass0 own1 pass1 → Went own0 own1
  met_own m = went_to own0 own1 m.turn m.of_session.0 m.own

  pub met_pass : Met site session own0 pass0 own1 pass1 → Went pass0 pass1
  met_pass m = went_to pass0 pass1 m.turn m.of_site.0 m.pass

  pub met_rested : Met site session own0 pass0 own1 pass1 → Rested session own0 own1
  met_rested m = rested_in session own0 own1 m.turn m.of_session m.own

  pub site_rested : Met site session own0 pass0 own1 pass1 → Rested site pass0 pass1
  site_rested m = rested_in site pass0 pass1 m.turn m.of_site m.pass

  -- both have seen one list
  pub met_seen : Met site session own0 pass0 own1 pass1 → own1.seen ≡ pass1.seen
  met_seen m = ap (λ (v : View). v.seen) m.own ∙ sym (ap (λ (v : View). v.seen) m.pass)

  pub came_seen : (step : Step) → Came site session own0 pass0 own1 pass1 step → own1.seen ≡ pass1.seen
  came_seen step c = ap (λ (v : View). v.seen) c.own ∙ sym (ap (λ (v : View). v.seen) c.pass)

-- ---- one turn after another

pub adds_twice : (actor : Actor) (first second third : List Step) → AddsOthers actor first second → AddsOthers actor second third → AddsOthers actor first third
adds_twice actor first second third a b = (prefix_trans first second third a.0 b.0, b.1 ∙ a.1)

pub adds_met : (actor : Actor) (old new : View) (turn : List Step) → AddsOthers actor old.seen turn → new ≡ record old { seen = turn }
    → AddsOthers actor old.seen new.seen
adds_met actor old new turn a e = subst (λ (l : List Step). AddsOthers actor old.seen l) (sym (ap (λ (v : View). v.seen) e)) a

pub met_came : (site session : Actor) (own0 pass0 own1 pass1 own2 pass2 : View) (step : Step) → Met site session own0 pass0 own1 pass1
    → Came site session own1 pass1 own2 pass2 step → Came site session own0 pass0 own2 pass2 step
met_came site session own0 pass0 own1 pass1 own2 pass2 step m c = record {
  turn = c.turn;
  of_site = adds_twice site pass0.seen pass1.seen c.turn (adds_met site pass0 pass1 m.turn m.of_site m.pass) c.of_site;
  of_session = adds_twice session own0.seen own1.seen c.turn (adds_met session own0 own1 m.turn m.of_session m.own) c.of_session;
  own = c.own ∙ ap (λ (v : View). record v { seen = c.turn ++ step ∷ [] }) m.own;
  pass = c.pass ∙ ap (λ (v : View). record v { seen = c.turn ++ step ∷ [] }) m.pass;
}

pub met_met : (site session : Actor) (own0 pass0 own1 pass1 own2 pass2 : View) → Met site session own0 pass0 own1 pass1
    → Met site session own1 pass1 own2 pass2 → Met site session own0 pass0 own2 pass2
met_met site session own0 pass0 own1 pass1 own2 pass2 m n = record {
  turn = n.turn;
  of_site = adds_twice site pass0.seen pass1.seen n.turn (adds_met site pass0 pass1 m.turn m.of_site m.pass) n.of_site;
  of_session = adds_twice session own0.seen own1.seen n.turn (adds_met session own0 own1 m.turn m.of_session m.own) n.of_session;
  own = n.own ∙ ap (λ (v : View). record v { seen = n.turn }) m.own;
  pass = n.pass ∙ ap (λ (v : View). record v { seen = n.turn }) m.pass;
}
