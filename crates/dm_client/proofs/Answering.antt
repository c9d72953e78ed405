-- From attempts to the Reply.
use Rattle.std.proofs.Common.{◌≡◌, ℕ, ◌+◌, ◌<◌, Bool, true, false, not, cond, List, [], ◌∷◌, ◌++◌, Option, Some, None, refl, sym, ap, ◌∙◌, subst, append-nil, append_assoc, unwrap_or}
use Rattle.std.proofs.lemmas.Bool.{and_parts, false≢true}
use Rattle.std.specs.List.{list_all, cons_option}
use Rattle.std.specs.Prelude.{reverse, find, filter_map, ◌^◌}
use Rattle.dm_session.proofs.Carried.{may_route_stays}
use Rattle.dm_session.proofs.Following.{due_by_no_hand}
use Rattle.dm_answers.specs.Answers.{FitsBody}
use Rattle.dm_answers.specs.declared.item.Item.{Item}
use Rattle.dm_answers.specs.declared.item.Item.TheVariants.{Txn as TxnItem}
use Rattle.dm_invariant.proofs.Passing.{went_twice}
use Rattle.dm_sites.proofs.Going.{went_self}
use Rattle.dm_sites.proofs.Ways.{ready_memory, came_after}
use Rattle.dm_sites.specs.Telling.{IsRoutable, OnWay, IsReady, CameAs, IsBody}
use Rattle.dm_client.specs.Client.{Answered, IsSameOne, IsSent, untold}
use Rattle.dm_sites.specs.declared.told.Came.{Came}
use Rattle.dm_sites.specs.declared.told.Told.{Told}
use Rattle.dm_core.specs.Lawful.{Terms}
use Rattle.dm_event.specs.Layout.{Layout}
use Rattle.dm_event.specs.declared.attempt.AttemptState.{AttemptState}
use Rattle.dm_event.specs.declared.attempt.AttemptState.TheVariants as stands
use Rattle.dm_event.specs.declared.step.Body.{Body}
use Rattle.dm_event.specs.declared.step.Cause.TheVariants as cause
use Rattle.dm_event.specs.declared.step.Choice.{Choice}
use Rattle.dm_event.specs.declared.step.Choice.TheVariants.{Hand}
use Rattle.dm_event.specs.declared.step.Op.{Op}
use Rattle.dm_event.specs.declared.step.Op.TheVariants.{Read, Write, Add}
use Rattle.dm_event.specs.declared.step.Said.TheVariants as said
use Rattle.dm_event.specs.declared.step.Step.{Step}
use Rattle.dm_event.specs.declared.actor.Actor.TheVariants.{Session}
use Rattle.dm_invariant.specs.Stations.{Did, Rested, View, Went, layout_of, no_terms, own, terms_of}
use Rattle.dm_invariant.specs.Running.{RoutedFor}
use Rattle.dm_event.specs.declared.step.Step.TheVariants.{Route, Reply}
use Rattle.dm_event.specs.declared.step.TxnId.{TxnId}
use Rattle.dm_event.specs.declared.step.Want.{Want}
use Rattle.dm_event.specs.declared.step.Want.TheVariants as want
use Rattle.dm_model.specs.Attempts.{state}
use Rattle.dm_model.specs.Bodies.{first_undeclared, written_key}
use Rattle.dm_model.specs.Outcomes.{may_give_up, is_unrouted}
use Rattle.dm_model.specs.Rows.{may_route}
use Rattle.dm_event.specs.Layout.{is_key}
use Rattle.dm_model.specs.Shape.{is_op}
use Rattle.dm_room.specs.Room.{items_of}
use Rattle.dm_model.specs.Tests.{is_among}
use Rattle.dm_session.specs.Sitting.{Sitting, Same, Sent, IsCounted}

gives_up : (st : AttemptState) → may_route st ≡ true → may_give_up st ≡ true
gives_up stands.Unrouted h = refl
gives_up stands.Moved h = refl
gives_up stands.Dropped h = refl
gives_up (stands.Routed site choice) h = absurd (false≢true h)
gives_up (stands.Running site) h = absurd (false≢true h)
gives_up (stands.Committed site seq) h = absurd (false≢true h)
gives_up (stands.Ended site) h = absurd (false≢true h)
gives_up (stands.Failed why) h = absurd (false≢true h)
gives_up (stands.Doubted site) h = absurd (false≢true h)

-- there was no memory before a further Route
pub came_early : (c n : ℕ) (item : Item) (least : List ℕ) (o : Option TxnId) (old new : View) → IsRoutable item → Went old new → Rested (Session c) old new → may_route (state c (reverse old.seen)) ≡ true
    → IsReady c n item least o old new (record { said = said.Refused cause.Memory; txn = o; reads = []; vector = None })
came_early c n item least o old new r w k may =
    ready_memory c n item least o old new (record { said = said.Refused cause.Memory; txn = o; reads = []; vector = None }) r w [] (k ∙ sym (append-nil (own (Session c) old.seen))) tt refl refl refl refl
    (gives_up (state c (reverse new.seen)) (may_route_stays c old.seen new.seen w.begins k may))

-- a transaction was routed
pub sent_way : (body : Body) (a b : Sitting) (site : ℕ) (txn : TxnId) (o : Option TxnId) → IsRoutable (TxnItem body) → Went a.pass b.pass → Sent a (want.Txn body.declared) site txn b → OnWay a.id (a.count + 1) (TxnItem body) o a.pass b.pass (Some txn)
sent_way body a b site txn o r w s = record {
  went = w;
  way = Route txn (want.Txn body.declared) a.vector b.to b.by ∷ [];
  steps = s.did;
  tries = (((s.session, s.number), (refl, (λ (h : b.by ≡ Hand). due_by_no_hand (layout_of a.pass) (reverse s.turn) a.id body.declared (sym s.choice_due ∙ h)), r)), tt);
  last_is = refl;
}

pub sent_for : (wanted : Want) (a b : Sitting) (site : ℕ) (txn : TxnId) → Sent a wanted site txn b → RoutedFor txn wanted a.vector b.to b.pass
sent_for wanted a b site txn s = subst (λ (c : ℕ). (before : List Step) × (by : Choice) × (own (Session c) b.pass.seen ≡ before ++ Route txn wanted a.vector b.to by ∷ [])) (sym s.session) (own (Session a.id) a.pass.seen, b.by, s.did)

-- the session stands sent by it
pub sent_is : (wanted : Want) (a b : Sitting) (site : ℕ) (txn : TxnId) → b.id ≡ a.id → b.vector ≡ a.vector → Sent a wanted site txn b → IsSent txn wanted b
sent_is wanted a b site txn id v s = (
  own (Session a.id) a.pass.seen,
  subst (λ (c : ℕ). own (Session c) b.pass.seen ≡ own (Session a.id) a.pass.seen ++ Route txn wanted b.vector b.to b.by ∷ []) (sym s.session)
      (s.did ∙ ap (λ (m : List ℕ). own (Session a.id) a.pass.seen ++ Route txn wanted m b.to b.by ∷ []) (sym v)),
  s.session ∙ sym id,
)

-- an attempt after its Route
pub attempted : (body : Body) (a b : Sitting) (site : ℕ) (txn : TxnId) (o : Option TxnId) (new : View) (x : Came) → IsRoutable (TxnItem body) → Went a.pass b.pass → Sent a (want.Txn body.declared) site txn b
    → CameAs txn.session txn.number (TxnItem body) a.vector (Some txn) b.pass new x → CameAs a.id (a.count + 1) (TxnItem body) a.vector o a.pass new x
attempted body a b site txn o new x r w s h =
    let h1 = subst (λ (c : ℕ). CameAs c txn.number (TxnItem body) a.vector (Some txn) b.pass new x) s.session h in
    let h2 = subst (λ (n : ℕ). CameAs a.id n (TxnItem body) a.vector (Some txn) b.pass new x) s.number h1 in
    came_after a.id (a.count + 1) (TxnItem body) a.vector o (Some txn) a.pass b.pass new x r (sent_way body a b site txn o r w s) h2

pub body_on : (old new : View) (body : Body) → Went old new → IsBody (layout_of old) body → IsBody (layout_of new) body
body_on old new body w h = subst (λ (o : Option Terms). IsBody (unwrap_or o no_terms).layout body) (sym w.fixed) h

-- ---- the Reply

pub answered_is : (item : Item) (told : Told) (a b c : Sitting) → b.id ≡ a.id → b.count ≡ a.count
    → IsReady a.id (a.count + 1) item a.vector None a.pass b.pass told → c.id ≡ b.id → c.count ≡ b.count + 1 → Went b.pass c.pass
    → Did (Session b.id) b.pass c.pass (Reply b.id (b.count + 1) told.said) → Answered item told a c
answered_is item told a b c id count ready id' count' went did = record {
  same = id' ∙ id;
  count = count' ∙ ap (λ (n : ℕ). n + 1) count;
  went = went_twice a.pass b.pass c.pass ready.went went;
  way = ready.way;
  steps = (let d : own (Session a.id) c.pass.seen ≡ own (Session a.id) b.pass.seen ++ Reply a.id (a.count + 1) told.said ∷ [] =
      subst (λ (k : ℕ). own (Session k) c.pass.seen ≡ own (Session k) b.pass.seen ++ Reply k (a.count + 1) told.said ∷ []) id
      (subst (λ (n : ℕ). own (Session b.id) c.pass.seen ≡ own (Session b.id) b.pass.seen ++ Reply b.id (n + 1) told.said ∷ []) count did) in
      d ∙ (ap (λ (l : List Step). l ++ Reply a.id (a.count + 1) told.said ∷ []) ready.steps
      ∙ append_assoc (own (Session a.id) a.pass.seen) ready.way (Reply a.id (a.count + 1) told.said ∷ [])));
  tries = ready.tries;
  fits = ready.fits;
  tells = ready.tells;
  last_is = ready.last_is;
}

-- a transaction with an undeclared write
pub undeclared_key : (layout : Layout) (keys : List ℕ) (ops : List Op) (key : ℕ) → list_all (is_op layout) ops ≡ true → first_undeclared keys ops ≡ Some key → is_key layout key ≡ true
undeclared_key layout keys [] key all f = absurd (cc (f))
undeclared_key layout keys (op ∷ ops) key all f = by op (and_parts (is_op layout op) (list_all (is_op layout) ops) all).0 f (λ g. undeclared_key layout keys ops key (and_parts (is_op layout op) (list_all (is_op layout) ops) all).1 g)
  where
    p : ℕ → Bool
    p k = not (is_among keys k)

    found : (k : ℕ) (b : Bool) (rest : Option ℕ) → is_key layout k ≡ true → cond b (Some k) rest ≡ Some key → (rest ≡ Some key → is_key layout key ≡ true) → is_key layout key ≡ true
    found k true rest h g go = (let same : k ≡ key = cc (g) in subst (λ (x : ℕ). is_key layout x ≡ true) same h)
    found k false rest h g go = go g

    by : (op : Op) → is_op layout op ≡ true → find p (cons_option (written_key op) (filter_map written_key ops)) ≡ Some key → (first_undeclared keys ops ≡ Some key → is_key layout key ≡ true) → is_key layout key ≡ true
    by (Read k) h g go = go g
    by (Write k v) h g go = found k (p k) (first_undeclared keys ops) h g go
    by (Add k v) h g go = found k (p k) (first_undeclared keys ops) h g go

pub undeclared_ready : (c n : ℕ) (body : Body) (least : List ℕ) (old : View) (key : ℕ) → first_undeclared body.declared body.ops ≡ Some key → list_all (is_op (layout_of old)) body.ops ≡ true → state c (reverse old.seen) ≡ stands.Unrouted
    → IsReady c n (TxnItem body) least None old old (record { said = said.Refused (cause.Undeclared key); txn = None; reads = []; vector = None })
undeclared_ready c n body least old key f all st = record {
  went = went_self old;
  way = [];
  steps = sym (append-nil (own (Session c) old.seen));
  tries = tt;
  last_is = refl;
  fits = subst (λ (x : Option ℕ). FitsBody x body.ops (said.Refused (cause.Undeclared key)) []) (sym f) (refl, refl);
  tells = (refl, refl);
  shaped = undeclared_key (layout_of old) body.declared body.ops key all f;
  may = ap is_unrouted st;
}

-- the loop goes on
abbrev Counted : ℕ → ℕ → Terms → Type 0
Counted n k terms = (n < items_of terms.items k) × (n + 1 < 2 ^ 32)

pub counted_on : (a b : Sitting) → b.id ≡ a.id → b.count ≡ a.count → Went a.pass b.pass → IsCounted a → IsCounted b
counted_on a b id count w h =
    subst (λ (n : ℕ). Counted n b.id (terms_of b.pass)) (sym count) (subst (λ (k : ℕ). Counted a.count k (terms_of b.pass)) (sym id) (subst (λ (o : Option Terms). Counted a.count a.id (unwrap_or o no_terms)) (sym w.fixed) h))

pub loop_came : (item : Item) (a l : Sitting) (b : View) (o : Option TxnId) (x : Came) → IsRoutable item → l.id ≡ a.id → l.count ≡ a.count → l.vector ≡ a.vector → OnWay a.id (a.count + 1) item None a.pass l.pass o
    → CameAs l.id (l.count + 1) item l.vector o l.pass b x → CameAs a.id (a.count + 1) item a.vector None a.pass b x
loop_came item a l b o x r id count vector p h =
    let h1 = subst (λ (c : ℕ). CameAs c (l.count + 1) item l.vector o l.pass b x) id h in
    let h2 = subst (λ (n : ℕ). CameAs a.id (n + 1) item l.vector o l.pass b x) count h1 in
    let h3 = subst (λ (v : List ℕ). CameAs a.id (a.count + 1) item v o l.pass b x) vector h2 in
    came_after a.id (a.count + 1) item a.vector None o a.pass l.pass b x r p h3

pub undeclared_told : (c n : ℕ) (body : Body) (least : List ℕ) (old : View) (key : ℕ) (told : Told) → told ≡ record { said = said.Refused (cause.Undeclared key); txn = None; reads = []; vector = None }
    → Some key ≡ first_undeclared body.declared body.ops → list_all (is_op (layout_of old)) body.ops ≡ true → state c (reverse old.seen) ≡ stands.Unrouted → IsReady c n (TxnItem body) least None old old told
undeclared_told c n body least old key told e f all st = subst (λ (x : Told). IsReady c n (TxnItem body) least None old old x) (sym e) (undeclared_ready c n body least old key (sym f) all st)

-- ---- an attempt of a session that was sent

pub routed_of : (txn : TxnId) (wanted : Want) (s : Sitting) → IsSent txn wanted s → RoutedFor txn wanted s.vector s.to s.pass
routed_of txn wanted s h = (h.0, s.by, h.1)

-- what came of it came of the item
pub came_sent : (body : Body) (a b d : Sitting) (site : ℕ) (txn : TxnId) (o : Option TxnId) (x : Came) → IsRoutable (TxnItem body) → Same a b
    → Sent a (want.Txn body.declared) site txn b → CameAs txn.session txn.number (TxnItem body) b.vector (Some txn) b.pass d.pass x
    → CameAs a.id (a.count + 1) (TxnItem body) a.vector o a.pass d.pass x
came_sent body a b d site txn o x r same s h =
    attempted body a b site txn o d.pass x r same.went s
    (subst (λ (v : List ℕ). CameAs txn.session txn.number (TxnItem body) v (Some txn) b.pass d.pass x) same.vector h)

pub one_after : (a b d : Sitting) → Same a b → IsSameOne b d → IsSameOne a d
one_after a b d s h = (h.0 ∙ s.id, h.1 ∙ s.count, h.2 ∙ s.vector)

-- there was too little memory to route it again
pub came_untold : (body : Body) (a b : Sitting) (o : Option TxnId) (x : Came) → IsRoutable (TxnItem body) → Same a b → Rested (Session a.id) a.pass b.pass
    → may_route (state a.id (reverse a.pass.seen)) ≡ true → x ≡ untold o → CameAs a.id (a.count + 1) (TxnItem body) a.vector o a.pass b.pass x
came_untold body a b o x r same k may e =
    subst (λ (y : Came). CameAs a.id (a.count + 1) (TxnItem body) a.vector o a.pass b.pass y) (sym e)
    (came_early a.id (a.count + 1) (TxnItem body) a.vector o a.pass b.pass r same.went k may)
