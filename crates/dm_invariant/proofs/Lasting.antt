-- Steps that stay allowed.
use Rattle.std.proofs.Common.{ℕ, ◌≡◌, ◌≢◌, ◌+◌, ◌==◌, Bool, true, false, cond, List, [], ◌∷◌, Option, Some, None, find, map, refl, sym, ap, ◌∙◌, subst}
use Rattle.std.proofs.lemmas.Bool.{eqb-true}
use Rattle.std.specs.List.{list_any}
use Rattle.std.specs.Prelude.{reverse, is_some, option_map, option_to_list, IsTrue, IsFalse, IsSome}
use mathlib.Core.List.{IsPrefix}
use Rattle.dm_body.specs.Progress.{Progress}
use Rattle.dm_chronicle.specs.Belongs.{belongs}
use Rattle.dm_event.specs.Actors.{actors}
use Rattle.dm_event.specs.Layout.{Layout, is_site}
use Rattle.dm_event.specs.Vectors.{AtMost}
use Rattle.dm_event.specs.declared.actor.Actor.TheVariants.{Site, Session}
use Rattle.dm_event.specs.declared.placing.Placing.{Placing}
use Rattle.dm_event.specs.declared.placing.Placing.TheVariants.{Asked, Between, Granted}
use Rattle.dm_event.specs.declared.step.Cause.{Cause}
use Rattle.dm_event.specs.declared.step.Found.TheVariants.{Clean, Kept, Lost}
use Rattle.dm_event.specs.declared.step.Pending.{Pending}
use Rattle.dm_event.specs.declared.step.Pending.TheVariants as pending
use Rattle.dm_event.specs.declared.step.Step.{Step}
use Rattle.dm_event.specs.declared.step.Step.TheVariants.{Ask, Settle, Commit, Fail, Release, Grant, Restart}
use Rattle.dm_event.specs.declared.step.TxnId.{TxnId}
use Rattle.dm_locks.specs.Claims.{is_of}
use Rattle.dm_locks.specs.declared.claim.Claim.{Claim}
use Rattle.dm_model.proofs.LegalSteps.{legal_release, legal_grant, legal_restart}
use Rattle.dm_model.proofs.MastershipKept.{Held}
use Rattle.dm_model.proofs.MastershipSound.{mastery, mastered_past, part_of}
use Rattle.dm_model.specs.Allowed.{Allowed, runner}
use Rattle.dm_model.specs.Attempts.{Routing, declared, routed}
use Rattle.dm_model.specs.Bodies.{has_writes}
use Rattle.dm_model.specs.Choices.{parts_in_order}
use Rattle.dm_model.specs.Doubts.{is_down, pending_at, step_of}
use Rattle.dm_model.specs.Legal.{Legal, LegalPast}
use Rattle.dm_model.specs.Placings.{placing, after_acts, asked, settled}
use Rattle.dm_model.specs.Progress.{entry_count, site_vector}
use Rattle.dm_model.specs.Runs.{runs, running}
use Rattle.dm_model.specs.Shape.{is_cause, is_cause_at}
use Rattle.dm_model.specs.Tests.{is_among}
use Rattle.dm_next.proofs.HandOvers.{may_release, may_grant}
use Rattle.dm_next.proofs.Reading.{began_on, legal_old}
use Rattle.dm_next.proofs.Reading as reading
use Rattle.dm_next.proofs.Routed.{may_fail_routed, routed_on, routed_sent}
use Rattle.dm_next.proofs.Running.{may_commit, may_fail_for}
use Rattle.dm_next.specs.Running.{Began, Runs, entry_of_run}
use Rattle.dm_others.proofs.Growing.{grown, unchanged}
use Rattle.dm_others.proofs.Logs.{down_other}
use Rattle.dm_others.proofs.Others.{other_site, entries_other, vector_other}
use Rattle.dm_others.proofs.Runs.{claims_other, holds_runs}
use Rattle.dm_others.specs.Adding.{AddsOthers}
use Rattle.dm_others.specs.Locking.{claimed, claims}
use Rattle.dm_invariant.specs.Lasting.{Lasts}

-- ---- one step of another

-- A placing that asks and settlings leave, and for which no other site may release or be granted the partition, stays.
module _ (layout : Layout) (past : List Step) (site part : ℕ) (now : Placing) (l : LegalPast layout past) (placed : placing layout past part ≡ now)
    (ask : (to : ℕ) → asked now to ≡ now) (settle : settled now ≡ now)
    (release : (i epoch to : ℕ) → i ≢ site → now ≢ Asked i epoch to)
    (grant : (i from epoch : ℕ) (vector : List ℕ) → i ≢ site → now ≢ Between from epoch i vector) where
  choose : (b : Bool) (other : Placing) → (b ≡ true → other ≡ now) → cond b other (placing layout past part) ≡ now
  choose true other h = h refl
  choose false other h = placed

  -- where the test passes, what is known of the step's partition is known of this one
  here : (p : ℕ) (other : Placing) → (p == part) ≡ true → placing layout past p ≡ other → now ≡ other
  here p other e h = sym placed ∙ (ap (placing layout past) (sym (eqb-true p part e)) ∙ h)

  kept : (i : ℕ) (o : Option Pending) → i ≢ site → Held (part_of layout) (mastery layout past) i o
      → after_acts part (option_to_list (option_map (step_of i) o)) (placing layout past part) ≡ now
  kept i None n h = placed
  kept i (Some (pending.Commit e)) n h = placed
  kept i (Some (pending.Release p epoch to v)) n h =
      choose (p == part) (Between i epoch to v) (λ e. absurd (release i epoch to n (here p (Asked i epoch to) e h.asked)))
  kept i (Some (pending.Grant p epoch v)) n h =
      choose (p == part) (Granted i epoch) (λ e. absurd (grant i h.from h.old v n (here p (Between h.from h.old i v) e h.between)))

  stays : (x : Step) → Allowed layout past x → belongs actors x (Site site) ≡ false → placing layout (x ∷ past) part ≡ now
  stays (Ask p epoch to txn) h b = choose (p == part) (asked (placing layout past part) to) (λ e. ap (λ (q : Placing). asked q to) placed ∙ ask to)
  stays (Settle p epoch) h b = choose (p == part) (settled (placing layout past part)) (λ e. ap settled placed ∙ settle)
  stays (Release i p epoch to v) h b =
      choose (p == part) (Between i epoch to v)
      (λ e. absurd (release i epoch to (other_site site i _ b) (here p (Asked i epoch to) e (legal_release layout past i p epoch to v h).asked)))
  stays (Grant i p epoch v) h b =
      let legal = legal_grant layout past i p epoch v h in
      choose (p == part) (Granted i epoch)
      (λ e. absurd (grant i legal.from legal.old v (other_site site i _ b) (here p (Between legal.from legal.old i v) e legal.between)))
  stays (Restart i v Kept) h b =
      kept i (pending_at i past) (other_site site i _ b) ((mastered_past layout past l).held i (legal_restart layout past i v Kept h).fits)
  stays (Restart i v Clean) h b = placed
  stays (Restart i v Lost) h b = placed
  stays other h b = placed

-- the site from which a partition is asked, and the one to which it is released
asked_from : {i epoch to j e t : ℕ} → Asked i epoch to ≡ Asked j e t → i ≡ j
asked_from q = cc (q)

between_to : {i epoch to j e t : ℕ} {v w : List ℕ} → Between i epoch to v ≡ Between j e t w → to ≡ t
between_to q = cc (q)

pub asked_other : (layout : Layout) (past : List Step) (x : Step) (site part epoch to : ℕ) → LegalPast layout (x ∷ past) → belongs actors x (Site site) ≡ false
    → placing layout past part ≡ Asked site epoch to → placing layout (x ∷ past) part ≡ Asked site epoch to
asked_other layout past x site part epoch to l b p =
    stays layout past site part (Asked site epoch to) l.0 p (λ other. refl) refl (λ i e t n q. n (sym (asked_from q))) (λ i f e v n q. absurd (cc (q)))
    x l.1 b

pub between_other : (layout : Layout) (past : List Step) (x : Step) (from part epoch site : ℕ) (vector : List ℕ) → LegalPast layout (x ∷ past)
    → belongs actors x (Site site) ≡ false
    → placing layout past part ≡ Between from epoch site vector → placing layout (x ∷ past) part ≡ Between from epoch site vector
between_other layout past x from part epoch site vector l b p =
    stays layout past site part (Between from epoch site vector) l.0 p (λ other. refl) refl (λ i e t n q. absurd (cc (q)))
    (λ i f e v n q. n (sym (between_to q))) x l.1 b

-- ---- longer lists

-- the first of the claims that has a key of the partition is the runner's
abbrev runner_among : Layout → ℕ → List Claim → Option TxnId
runner_among layout part held = option_map (λ (c : Claim). c.txn) (find (λ c. is_among (parts_in_order layout c.keys) part) held)

runner_claims : (layout : Layout) (past : List Step) (part : ℕ) (ts : List TxnId)
    → runner_among layout part (map (claimed past) ts) ≡ find (λ t. is_among (parts_in_order layout (declared t past)) part) ts
runner_claims layout past part [] = refl
runner_claims layout past part (t ∷ ts) = by (is_among (parts_in_order layout (declared t past)) part) (runner_claims layout past part ts)
  where
    by : (b : Bool) → runner_among layout part (map (claimed past) ts) ≡ find (λ u. is_among (parts_in_order layout (declared u past)) part) ts
        → option_map (λ (c : Claim). c.txn)
        (cond b (Some (claimed past t)) (find (λ c. is_among (parts_in_order layout c.keys) part) (map (claimed past) ts)))
        ≡ cond b (Some t) (find (λ u. is_among (parts_in_order layout (declared u past)) part) ts)
    by true e = refl
    by false e = e

module _ (layout : Layout) (old new : List Step) (site : ℕ) (l : Legal layout new) (a : AddsOthers (Site site) old new) where
  entries_on : entry_count site (reverse new) ≡ entry_count site (reverse old)
  entries_on = unchanged layout (Site site) (entry_count site) (λ past s k b. entries_other layout site past k.0 s k.1 b) old new a.0 a.1 l

  vector_on : site_vector layout.sites (reverse new) site ≡ site_vector layout.sites (reverse old) site
  vector_on =
      unchanged layout (Site site) (λ past. site_vector layout.sites past site) (λ past s k b. vector_other layout site past k.0 s k.1 b) old new a.0 a.1 l

  down_on : is_down site (reverse new) ≡ is_down site (reverse old)
  down_on = unchanged layout (Site site) (is_down site) (λ past s k b. down_other site past s b) old new a.0 a.1 l

  claims_on : claims site (reverse new) ≡ claims site (reverse old)
  claims_on = unchanged layout (Site site) (claims site) (λ past s k b. claims_other layout site past k.0 s k.1 b) old new a.0 a.1 l

  runner_on : (part : ℕ) → runner layout (reverse new) site part ≡ runner layout (reverse old) site part
  runner_on part =
      sym (runner_claims layout (reverse new) part (running site (reverse new)))
      ∙ (ap (runner_among layout part) claims_on ∙ runner_claims layout (reverse old) part (running site (reverse old)))

  asked_on : (part epoch to : ℕ) → placing layout (reverse old) part ≡ Asked site epoch to → placing layout (reverse new) part ≡ Asked site epoch to
  asked_on part epoch to p =
      grown layout (Site site) (λ past. placing layout past part ≡ Asked site epoch to) (λ past x k b q. asked_other layout past x site part epoch to k b q)
      old new a.0 a.1 l p

  between_on : (from part epoch : ℕ) (vector : List ℕ) → placing layout (reverse old) part ≡ Between from epoch site vector
      → placing layout (reverse new) part ≡ Between from epoch site vector
  between_on from part epoch vector p =
      grown layout (Site site) (λ past. placing layout past part ≡ Between from epoch site vector)
      (λ past x k b q. between_other layout past x from part epoch site vector k b q) old new a.0 a.1 l p

-- what runs at the site goes on to run there
pub runs_on : (layout : Layout) (old new : List Step) (site : ℕ) (txn : TxnId) → Legal layout new → AddsOthers (Site site) old new
    → runs site txn (reverse new) ≡ runs site txn (reverse old)
runs_on layout old new site txn l a =
    sym (holds_runs site (reverse new) txn)
    ∙ (ap (λ (held : List Claim). list_any (is_of txn) held) (claims_on layout old new site l a) ∙ holds_runs site (reverse old) txn)

-- `was` is the run's own list; the attempt runs at the end of `old`
pub runs_lasting : (layout : Layout) (was old new : List Step) (site : ℕ) (txn : TxnId) (begin : List ℕ) (done : Progress) → Legal layout new
    → AddsOthers (Site site) old new → IsPrefix was old → IsTrue (is_site layout site) → IsTrue (runs site txn (reverse old))
    → Began layout (reverse was) txn begin done → Runs layout (reverse new) site txn begin done
runs_lasting layout was old new site txn begin done l a p t r b =
    reading.runs_on layout old new site txn begin done a.0 l t (runs_on layout old new site txn l a ∙ r)
    (began_on layout was old txn begin done p (legal_old layout old new a.0 l) b)

-- what stands routed goes on to stand so
pub routed_lasting : (layout : Layout) (old new : List Step) (txn : TxnId) (r : Routing) → Legal layout new → AddsOthers (Session txn.session) old new
    → routed txn (reverse old) ≡ Some r → routed txn (reverse new) ≡ Some r
routed_lasting layout old new txn r l a e = routed_on layout old new txn r l a e

pub lasts_commit : (layout : Layout) (was old : List Step) (site : ℕ) (txn : TxnId) (begin : List ℕ) (done : Progress)
    → IsPrefix was old → IsTrue (is_site layout site) → IsTrue (runs site txn (reverse old))
    → Began layout (reverse was) txn begin done → IsTrue (has_writes done.ops)
    → Lasts layout (Site site) (Session txn.session) old (Commit (entry_of_run site (entry_count site (reverse old) + 1) txn begin done))
lasts_commit layout was old site txn begin done p t r b w new l a s =
    subst (λ (n : ℕ). Allowed layout (reverse new) (Commit (entry_of_run site (n + 1) txn begin done))) (entries_on layout old new site l a)
    (may_commit layout (reverse new) l site txn begin done (runs_lasting layout was old new site txn begin done l a p t r b) w)

pub lasts_run_fail : (layout : Layout) (was old : List Step) (site : ℕ) (txn : TxnId) (begin : List ℕ) (done : Progress) (cause : Cause)
    → IsPrefix was old → IsTrue (is_site layout site) → IsTrue (runs site txn (reverse old))
    → Began layout (reverse was) txn begin done → IsTrue (is_cause layout cause) → IsTrue (is_cause_at layout site cause)
    → Lasts layout (Site site) (Session txn.session) old (Fail site txn cause)
lasts_run_fail layout was old site txn begin done cause p t r b c d new l a s =
    may_fail_for layout (reverse new) l site txn begin done (runs_lasting layout was old new site txn begin done l a p t r b) cause c d

pub lasts_release : (layout : Layout) (old : List Step) (session site part epoch to : ℕ) → IsTrue (is_site layout site) → IsFalse (is_down site (reverse old))
    → placing layout (reverse old) part ≡ Asked site epoch to → runner layout (reverse old) site part ≡ None
    → Lasts layout (Site site) (Session session) old (Release site part epoch to (site_vector layout.sites (reverse old) site))
lasts_release layout old session site part epoch to t d p r new l a s =
    subst (λ (v : List ℕ). Allowed layout (reverse new) (Release site part epoch to v)) (vector_on layout old new site l a)
    (may_release layout (reverse new) site part epoch to l t (down_on layout old new site l a ∙ d) (asked_on layout old new site l a part epoch to p)
    (runner_on layout old new site l a part ∙ r))

pub lasts_grant : (layout : Layout) (old : List Step) (session from site part epoch : ℕ) (vector : List ℕ) → IsTrue (is_site layout site)
    → IsFalse (is_down site (reverse old))
    → placing layout (reverse old) part ≡ Between from epoch site vector → AtMost vector (site_vector layout.sites (reverse old) site)
    → Lasts layout (Site site) (Session session) old (Grant site part (epoch + 1) vector)
lasts_grant layout old session from site part epoch vector t d p r new l a s =
    may_grant layout (reverse new) from site part epoch vector l (down_on layout old new site l a ∙ d)
    (between_on layout old new site l a from part epoch vector p) (subst (λ (v : List ℕ). AtMost vector v) (sym (vector_on layout old new site l a)) r)

pub lasts_routed_fail : (layout : Layout) (old : List Step) (site : ℕ) (txn : TxnId) (cause : Cause) → IsTrue (is_site layout site)
    → IsSome (routed txn (reverse old)) → IsTrue (is_cause layout cause) → IsTrue (is_cause_at layout site cause)
    → Lasts layout (Site site) (Session txn.session) old (Fail site txn cause)
lasts_routed_fail layout old site txn cause t r c d new l a s =
    let sent = routed_sent (reverse old) txn r in
    may_fail_routed layout (reverse new) site txn cause l t
    (ap (λ (o : Option Routing). is_some o) (routed_lasting layout old new txn sent.route l s sent.by)) c d
