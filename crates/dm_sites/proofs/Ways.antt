-- Ways to a Reply.
use Rattle.std.proofs.Common.{◌≡◌, ℕ, Bool, true, List, [], ◌∷◌, ◌++◌, Option, Some, None, refl, sym, ap, ◌∙◌, subst, append-nil, append_assoc, if◌then◌else◌}
use Rattle.std.proofs.lemmas.Bool.{eq-eqb}
use Rattle.std.specs.Prelude.{reverse}
use Rattle.dm_answers.proofs.Told.{each_append}
use Rattle.dm_answers.specs.Answers.{EachTries, EndsIn, Fits, FitsBody, FitsTxn, FitsRefused}
use Rattle.dm_event.specs.declared.actor.Actor.TheVariants.{Session}
use Rattle.dm_invariant.specs.Stations.{View, Went, layout_of, own}
use Rattle.dm_session.proofs.Carried.{state_last}
use Rattle.dm_answers.specs.declared.item.Item.{Item}
use Rattle.dm_answers.specs.declared.item.Item.TheVariants.{Txn, Place, Restart as RestartItem}
use Rattle.dm_invariant.proofs.Passing.{went_twice}
use Rattle.dm_next.proofs.Doubts.{is_damage}
use Rattle.dm_sites.proofs.Going.{went_self}
use Rattle.dm_sites.specs.Stages.{IsLogCause}
use Rattle.dm_sites.specs.Telling.{last_txn, Tells, IsRoutable, OnWay, IsReady, CameAs}
use Rattle.dm_sites.specs.declared.told.Came.{Came}
use Rattle.dm_sites.specs.declared.told.Came.TheVariants as came
use Rattle.dm_sites.specs.declared.told.Told.{Told}
use Rattle.dm_event.specs.declared.attempt.AttemptState.{AttemptState}
use Rattle.dm_event.specs.declared.attempt.AttemptState.TheVariants as stands
use Rattle.dm_event.specs.declared.step.Cause.{Cause}
use Rattle.dm_event.specs.declared.step.Cause.TheVariants as cause
use Rattle.dm_event.specs.declared.step.Op.{Op}
use Rattle.dm_event.specs.declared.step.Pair.{Pair}
use Rattle.dm_event.specs.declared.step.Said.{Said}
use Rattle.dm_event.specs.declared.step.Said.TheVariants as said
use Rattle.dm_event.specs.declared.step.Step.{Step}
use Rattle.dm_event.specs.declared.step.Step.TheVariants.{Route, Reply, Begin, Moved, Commit, End, Fail, Doubt}
use Rattle.dm_event.specs.declared.step.Step.TheVariants as steps
use Rattle.dm_event.specs.declared.step.TxnId.{TxnId}
use Rattle.dm_model.proofs.SameValues.{same_cause-own}
use Rattle.dm_model.specs.Attempts.{state}
use Rattle.dm_model.specs.Outcomes.{may_say, may_give_up, has_failed}
use Rattle.dm_event.specs.Layout.{is_site}
use Rattle.dm_model.specs.Shape.{is_said, is_cause}

-- ---- one way behind another

pub last_append : (o : Option TxnId) (xs ys : List Step) → last_txn o (xs ++ ys) ≡ last_txn (last_txn o xs) ys
last_append o [] ys = refl
last_append o (Route txn wanted min site by ∷ xs) ys = last_append (Some txn) xs ys
last_append o (steps.Reply session number s ∷ xs) ys = last_append o xs ys
last_append o (steps.Ask part epoch to txn ∷ xs) ys = last_append o xs ys
last_append o (steps.Settle part epoch ∷ xs) ys = last_append o xs ys
last_append o (Begin site txn begin ∷ xs) ys = last_append o xs ys
last_append o (Moved site txn ∷ xs) ys = last_append o xs ys
last_append o (Commit e ∷ xs) ys = last_append o xs ys
last_append o (End site txn ops reads ∷ xs) ys = last_append o xs ys
last_append o (Fail site txn why ∷ xs) ys = last_append o xs ys
last_append o (steps.Refresh site origin ∷ xs) ys = last_append o xs ys
last_append o (steps.Release site part epoch to vector ∷ xs) ys = last_append o xs ys
last_append o (steps.Grant site part epoch vector ∷ xs) ys = last_append o xs ys
last_append o (Doubt site p ∷ xs) ys = last_append o xs ys
last_append o (steps.Restart site vector found ∷ xs) ys = last_append o xs ys

pub steps_two : (c : ℕ) (a b d : List Step) (xs ys : List Step) → own (Session c) b ≡ own (Session c) a ++ xs → own (Session c) d ≡ own (Session c) b ++ ys → own (Session c) d ≡ own (Session c) a ++ (xs ++ ys)
steps_two c a b d xs ys p q = q ∙ (ap (λ (l : List Step). l ++ ys) p ∙ append_assoc (own (Session c) a) xs ys)

pub on_trans : (c n : ℕ) (item : Item) (o o' o'' : Option TxnId) (a b d : View) → OnWay c n item o a b o' → OnWay c n item o' b d o'' → OnWay c n item o a d o''
on_trans c n item o o' o'' a b d p q = record {
  went = went_twice a b d p.went q.went;
  way = p.way ++ q.way;
  steps = steps_two c a.seen b.seen d.seen p.way q.way p.steps q.steps;
  tries = each_append c n item p.way q.way p.tries q.tries;
  last_is = last_append o p.way q.way ∙ (ap (λ (x : Option TxnId). last_txn x q.way) p.last_is ∙ q.last_is);
}

pub on_self : (c n : ℕ) (item : Item) (o : Option TxnId) (a : View) → OnWay c n item o a a o
on_self c n item o a = record { went = went_self a; way = []; steps = sym (append-nil (own (Session c) a.seen)); tries = tt; last_is = refl }

front : (xs ys zs : List Step) (s : Step) → ys ≡ zs ++ s ∷ [] → EndsIn (xs ++ ys) s
front xs ys zs s e = (xs ++ zs, ap (λ (l : List Step). xs ++ l) e ∙ sym (append_assoc xs zs (s ∷ [])))

refused_front : (why : Cause) (xs ys : List Step) → FitsRefused why ys → FitsRefused why (xs ++ ys)
refused_front (cause.Undeclared key) xs ys h = h
refused_front (cause.Log site) xs ys h = (h.0, front xs ys h.1.0 _ h.1.1)
refused_front (cause.Damage site place read written) xs ys h = (h.0, front xs ys h.1.0 _ h.1.1)
refused_front cause.Memory xs ys h = tt

txn_front : (ops : List Op) (o : Said) (xs ys : List Step) → FitsTxn ops o ys → FitsTxn ops o (xs ++ ys)
txn_front ops (said.Committed site seq) xs ys h = (h.0, front xs ys h.1.0 _ h.1.1, h.2, h.3, h.4)
txn_front ops (said.Read site) xs ys h = (h.0, h.1, front xs ys h.2.0 _ h.2.1)
txn_front ops (said.InDoubt site) xs ys h = (h.0, front xs ys h.1.0 _ h.1.1, h.2)
txn_front ops (said.Refused why) xs ys h = refused_front why xs ys h
txn_front ops (said.Placed part site epoch) xs ys h = h
txn_front ops (said.Restarted site) xs ys h = h

pub fits_front : (item : Item) (o : Said) (xs ys : List Step) → IsRoutable item → Fits item o ys → Fits item o (xs ++ ys)
fits_front (Txn body) o xs ys r h =
    subst (λ (x : Option ℕ). FitsBody x body.ops o (xs ++ ys)) (sym r) (txn_front body.ops o xs ys (subst (λ (x : Option ℕ). FitsBody x body.ops o ys) r h))
fits_front (Place part to) (said.Placed p site epoch) xs ys r h = h
fits_front (Place part to) (said.Refused why) xs ys r h = refused_front why xs ys h
fits_front (Place part to) other xs ys r h = absurd h
fits_front (RestartItem to) (said.Restarted site) xs ys r h = h
fits_front (RestartItem to) (said.Refused why) xs ys r h = refused_front why xs ys h
fits_front (RestartItem to) other xs ys r h = absurd h

tells_front : (least : List ℕ) (o : Said) (reads : List Pair) (vector : Option (List ℕ)) (xs ys : List Step) → Tells least o reads vector ys → Tells least o reads vector (xs ++ ys)
tells_front least (said.Committed site seq) reads vector xs ys h = (xs ++ h.0, h.1, h.2, ap (λ (l : List Step). xs ++ l) h.3 ∙ sym (append_assoc xs h.0 _), h.4, h.5, h.6, h.7, h.8)
tells_front least (said.Read site) reads vector xs ys h = (xs ++ h.0, h.1, h.2, h.3, ap (λ (l : List Step). xs ++ l) h.4 ∙ sym (append_assoc xs h.0 _), h.5, h.6)
tells_front least (said.InDoubt site) reads vector xs ys h = h
tells_front least (said.Refused why) reads vector xs ys h = h
tells_front least (said.Placed part site epoch) reads vector xs ys h = h
tells_front least (said.Restarted site) reads vector xs ys h = h

-- it is ready after what came before, too
pub ready_after : (c n : ℕ) (item : Item) (least : List ℕ) (o o' : Option TxnId) (a b d : View) (told : Told) → IsRoutable item → OnWay c n item o a b o' → IsReady c n item least o' b d told → IsReady c n item least o a d told
ready_after c n item least o o' a b d told r p q = record {
  went = went_twice a b d p.went q.went;
  way = p.way ++ q.way;
  steps = steps_two c a.seen b.seen d.seen p.way q.way p.steps q.steps;
  tries = each_append c n item p.way q.way p.tries q.tries;
  last_is = last_append o p.way q.way ∙ (ap (λ (x : Option TxnId). last_txn x q.way) p.last_is ∙ q.last_is);
  fits = fits_front item told.said p.way q.way r q.fits;
  tells = tells_front least told.said told.reads told.vector p.way q.way q.tells;
  shaped = q.shaped;
  may = q.may;
}

pub came_after : (c n : ℕ) (item : Item) (least : List ℕ) (o o' : Option TxnId) (a b d : View) (came' : Came) → IsRoutable item → OnWay c n item o a b o' → CameAs c n item least o' b d came' → CameAs c n item least o a d came'
came_after c n item least o o' a b d (came.Say told) r p q = ready_after c n item least o o' a b d told r p q
came_after c n item least o o' a b d (came.Again txn) r p q = (on_trans c n item o o' (Some txn) a b d p q.0, q.1)

-- ---- refusals

pub fits_refused : (item : Item) (why : Cause) (way : List Step) → IsRoutable item → FitsRefused why way → Fits item (said.Refused why) way
fits_refused (Txn body) why way r h = subst (λ (x : Option ℕ). FitsBody x body.ops (said.Refused why) way) (sym r) h
fits_refused (Place part to) why way r h = h
fits_refused (RestartItem to) why way r h = h

bare_told : (o : Said) (told : Told) → told.said ≡ o → Told
bare_told o told e = record told { said = o }

module _ (c n : ℕ) (item : Item) (least : List ℕ) (o : Option TxnId) (old new : View) (told : Told) (r : IsRoutable item) (went : Went old new) (way : List Step) (steps : own (Session c) new.seen ≡ own (Session c) old.seen ++ way)
    (tries : EachTries c n item way) (last : last_txn o way ≡ told.txn) (reads : told.reads ≡ []) (vector : told.vector ≡ None) where
  pub ready_refused : (why : Cause) → told.said ≡ said.Refused why → FitsRefused why way → is_cause (layout_of new) why ≡ true → may_say (layout_of new) (reverse new.seen) c (said.Refused why) ≡ true → IsReady c n item least o old new told
  ready_refused why is fits shaped may = record {
    went = went;
    way = way;
    steps = steps;
    tries = tries;
    last_is = last;
    fits = subst (λ (x : Said). Fits item x way) (sym is) (fits_refused item why way r fits);
    tells = subst (λ (x : Said). Tells least x told.reads told.vector way) (sym is) (reads, vector);
    shaped = subst (λ (x : Said). is_said (layout_of new) x ≡ true) (sym is) shaped;
    may = subst (λ (x : Said). may_say (layout_of new) (reverse new.seen) c x ≡ true) (sym is) may;
  }

  pub ready_memory : told.said ≡ said.Refused cause.Memory → may_give_up (state c (reverse new.seen)) ≡ true → IsReady c n item least o old new told
  ready_memory is may = ready_refused cause.Memory is tt refl may

  -- its log failed
  pub ready_failed : (i : ℕ) (txn : TxnId) (why : Cause) (before : List Step) → told.said ≡ said.Refused why → txn.session ≡ c → IsLogCause i why → is_site (layout_of new) i ≡ true → way ≡ before ++ Fail i txn why ∷ [] → IsReady c n item least o old new told
  ready_failed i txn why before is mine log there e =
      let failed : state c (reverse new.seen) ≡ stands.Failed why = state_last c (stands.Failed why) tt new.seen (own (Session c) old.seen ++ before) (Fail i txn why)
      (steps ∙ (ap (λ (l : List Step). own (Session c) old.seen ++ l) e ∙ sym (append_assoc (own (Session c) old.seen) before (Fail i txn why ∷ []))))
      (ap (λ (b : Bool). if b then Some (stands.Failed why) else None) (eq-eqb txn.session c mine)) in
      by why log is e failed
    where
      by : (w : Cause) → IsLogCause i w → told.said ≡ said.Refused w → way ≡ before ++ Fail i txn w ∷ [] → state c (reverse new.seen) ≡ stands.Failed w → IsReady c n item least o old new told
      by (cause.Log site) l is' e' failed = ready_refused (cause.Log site) is' (txn, (before, e' ∙ ap (λ (k : ℕ). before ++ Fail k txn (cause.Log site) ∷ []) (sym l)))
          (subst (λ (k : ℕ). is_site (layout_of new) k ≡ true) (sym l) there) (ap (λ (st : AttemptState). has_failed st (cause.Log site)) failed ∙ same_cause-own (cause.Log site))
      by (cause.Damage site place read written) l is' e' failed = ready_refused (cause.Damage site place read written) is' (txn, (before, e' ∙ ap (λ (k : ℕ). before ++ Fail k txn (cause.Damage site place read written) ∷ []) (sym l.0)))
          (is_damage (layout_of new) site place read written (subst (λ (k : ℕ). is_site (layout_of new) k ≡ true) (sym l.0) there) l.1).fits (ap (λ (st : AttemptState). has_failed st (cause.Damage site place read written)) failed ∙ same_cause-own (cause.Damage site place read written))
      by other l is' e' failed = absurd l
