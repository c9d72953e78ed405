-- What legality says of the numbers in a list of steps.
use Rattle.std.proofs.Common.{ℕ, ◌≤◌, ◌≡◌, ◌≢◌, Bool, true, false, cond, List, [], ◌∷◌, Option, Some, None, length, refl, ap, sym, ◌∙◌, arith, subst, eqb-true}
use Rattle.std.specs.Prelude.{option_map, ◌==◌, ◌&&◌, is_some, unwrap_or, IfSome}
use Rattle.std.specs.List.{AllByRecursion as Each, list_all}
use Rattle.std.specs.Option.{option_or}
use Rattle.std.proofs.lemmas.Bool.{and_parts, cond-false, ne_eqb, both_ways}
use Rattle.dm_event.specs.Layout.{Layout, is_key}
use Rattle.dm_event.specs.Vectors.{sites_to}
use Rattle.dm_event.specs.declared.step.Entry.{Entry}
use Rattle.dm_event.specs.declared.step.Pending.{Pending}
use Rattle.dm_event.specs.declared.step.Step.{Step}
use Rattle.dm_event.specs.declared.step.Step.TheVariants.{Route, Reply, Ask, Settle, Begin, Moved, Commit, End, Fail, Refresh, Release, Grant, Doubt, Restart}
use Rattle.dm_event.specs.declared.step.TxnId.{TxnId}
use Rattle.dm_event.specs.declared.step.Want.{Want}
use Rattle.dm_event.specs.declared.step.Want.TheVariants as want
use Rattle.dm_event.specs.Entries.{commit_vector}
use Rattle.dm_model.specs.Acts.{entries, entry_at}
use Rattle.dm_model.specs.Attempts.{Routing, routing_of, last_routing, routing, declared, wanted_keys}
use Rattle.dm_model.specs.Doubts.{pending_at}
use Rattle.dm_model.specs.Legal.{LegalPast}
use Rattle.dm_model.specs.Progress.{entry_count, reached, refreshed}
use Rattle.dm_model.specs.Runs.{begin_of, runs, run_site, begin_vector}
use Rattle.dm_model.specs.Shape.{is_shaped, is_want, is_ascending}
use Rattle.dm_model.specs.Words.{latest}
use Rattle.dm_model.proofs.LaggingRefresh.{Grounded, grounded_past}
use Rattle.dm_model.proofs.VectorFacts.{long_raised}
use Rattle.dm_model.proofs.Judged.{shape_of}
use Rattle.dm_model.proofs.LegalSteps.{legal_route, legal_begin}
use Rattle.dm_model.proofs.ListFacts.{found_each, found_holds}
use Rattle.dm_model.proofs.NumbersSound.{sound_past}
use Rattle.dm_steps.proofs.Entries.{few_entries}

-- ---- entries

-- the entry has an origin among the sites, and a begin vector with a component for each
pub record Made (layout : Layout) (e : Entry) : Type 0 where
  pub one : 1 ≤ e.origin
  pub within : e.origin ≤ length e.begin
  pub long : length e.begin ≡ layout.sites

made_all : (layout : Layout) (es : List Entry) → Grounded layout es → Each (λ e. length e.begin ≡ layout.sites) es → Each (Made layout) es
made_all layout [] g l = tt
made_all layout (e ∷ es) g l =
    let top = g.0.site.top in
    let here = l.0 in
    (record { one = g.0.site.one; within = omega (arith, top, here); long = here }, made_all layout es g.1 l.1)

pub made_entry : (layout : Layout) (past : List Step) → LegalPast layout past → (j n : ℕ) (e : Entry) → entry_at j n past ≡ Some e → Made layout e
made_entry layout past h j n e f =
    found_each (Made layout) (λ d. (d.origin == j) && (d.seq == n)) (entries past) e f
    (made_all layout (entries past) (grounded_past layout past h) (sound_past layout past h).sized)

pub long_commit : (layout : Layout) (e : Entry) → Made layout e → length (commit_vector e) ≡ layout.sites
long_commit layout e m = long_raised e.begin e.origin e.seq ∙ m.long

-- a site has no more of an origin than there is
pub reached_few : (layout : Layout) (past : List Step) → LegalPast layout past → (i j : ℕ) → reached i j past ≤ length past
reached_few layout past h i j = let one : reached i j past ≤ entry_count j past = ((sound_past layout past h).closed i).within j in let two = few_entries j past
    in omega (arith, one, two)

pub refreshed_few : (layout : Layout) (past : List Step) → LegalPast layout past → (i j : ℕ) → i ≢ j → refreshed i j past ≤ length past
refreshed_few layout past h i j n = subst (λ (k : ℕ). k ≤ length past) (cond-false (i == j) _ _ (ne_eqb i j n)) (reached_few layout past h i j)

-- ---- Begins

by_begin : (b : Bool) (x y : List ℕ) (o : Option (List ℕ)) (count : ℕ) → length x ≡ count → (o ≡ Some y → length y ≡ count)
    → option_or (cond b (Some x) None) o ≡ Some y → length y ≡ count
by_begin true x y o count l f e = let same : x ≡ y = cc (e) in ap (λ (v : List ℕ). length v) (sym same) ∙ l
by_begin false x y o count l f e = f e

-- a begin vector has a component for each site
pub long_begin : (layout : Layout) (p : TxnId → Bool) (past : List Step) → LegalPast layout past → (v : List ℕ) → latest (begin_of p) past ≡ Some v
    → length v ≡ layout.sites
long_begin layout p [] h v e = absurd (cc (e))
long_begin layout p (Begin site txn begin ∷ past) h v e =
    by_begin (p txn) begin v (latest (begin_of p) past) layout.sites
    (legal_begin layout past site txn begin h.1).long
    (λ f. long_begin layout p past h.0 v f) e
long_begin layout p (Route txn want min site choice ∷ past) h v e = long_begin layout p past h.0 v e
long_begin layout p (Reply session number said ∷ past) h v e = long_begin layout p past h.0 v e
long_begin layout p (Ask part epoch to txn ∷ past) h v e = long_begin layout p past h.0 v e
long_begin layout p (Settle part epoch ∷ past) h v e = long_begin layout p past h.0 v e
long_begin layout p (Moved site txn ∷ past) h v e = long_begin layout p past h.0 v e
long_begin layout p (Commit entry ∷ past) h v e = long_begin layout p past h.0 v e
long_begin layout p (End site txn ops reads ∷ past) h v e = long_begin layout p past h.0 v e
long_begin layout p (Fail site txn cause ∷ past) h v e = long_begin layout p past h.0 v e
long_begin layout p (Refresh site origin ∷ past) h v e = long_begin layout p past h.0 v e
long_begin layout p (Release site part epoch to vector ∷ past) h v e = long_begin layout p past h.0 v e
long_begin layout p (Grant site part epoch vector ∷ past) h v e = long_begin layout p past h.0 v e
long_begin layout p (Doubt site q ∷ past) h v e = long_begin layout p past h.0 v e
long_begin layout p (Restart site vector found ∷ past) h v e = long_begin layout p past h.0 v e

-- ---- Routes

-- what a Route wants is in range, and its minimum has a component for each site
pub record Fitting (layout : Layout) (r : Routing) : Type 0 where
  pub wants : is_want layout r.want ≡ true
  pub long : length r.min ≡ layout.sites

by_route : (layout : Layout) (b : Bool) (x y : Routing) (o : Option Routing) → Fitting layout x → (o ≡ Some y → Fitting layout y)
    → option_or (cond b (Some x) None) o ≡ Some y → Fitting layout y
by_route layout true x y o l f e = let same : x ≡ y = cc (e) in subst (Fitting layout) same l
by_route layout false x y o l f e = f e

pub fitting_route : (layout : Layout) (p : TxnId → Bool) (past : List Step) → LegalPast layout past → (r : Routing) → latest (routing_of p) past ≡ Some r
    → Fitting layout r
fitting_route layout p [] h r e = absurd (cc (e))
fitting_route layout p (Route txn want min site choice ∷ past) h r e =
    let legal = legal_route layout past txn want min site choice h.1 in
    by_route layout (p txn) (record { txn = txn; want = want; min = min; site = site; choice = choice }) r (latest (routing_of p) past)
    (record { wants = legal.wants; long = legal.long })
    (λ f. fitting_route layout p past h.0 r f) e
fitting_route layout p (Begin site txn begin ∷ past) h r e = fitting_route layout p past h.0 r e
fitting_route layout p (Reply session number said ∷ past) h r e = fitting_route layout p past h.0 r e
fitting_route layout p (Ask part epoch to txn ∷ past) h r e = fitting_route layout p past h.0 r e
fitting_route layout p (Settle part epoch ∷ past) h r e = fitting_route layout p past h.0 r e
fitting_route layout p (Moved site txn ∷ past) h r e = fitting_route layout p past h.0 r e
fitting_route layout p (Commit entry ∷ past) h r e = fitting_route layout p past h.0 r e
fitting_route layout p (End site txn ops reads ∷ past) h r e = fitting_route layout p past h.0 r e
fitting_route layout p (Fail site txn cause ∷ past) h r e = fitting_route layout p past h.0 r e
fitting_route layout p (Refresh site origin ∷ past) h r e = fitting_route layout p past h.0 r e
fitting_route layout p (Release site part epoch to vector ∷ past) h r e = fitting_route layout p past h.0 r e
fitting_route layout p (Grant site part epoch vector ∷ past) h r e = fitting_route layout p past h.0 r e
fitting_route layout p (Doubt site q ∷ past) h r e = fitting_route layout p past h.0 r e
fitting_route layout p (Restart site vector found ∷ past) h r e = fitting_route layout p past h.0 r e

pub wanted_fits : (layout : Layout) (c : ℕ) (past : List Step) → LegalPast layout past → (w : Want) → option_map (λ r. r.want) (last_routing c past) ≡ Some w
    → is_want layout w ≡ true
wanted_fits layout c past h w e = by_last (last_routing c past) refl e
  where
    by_last : (o : Option Routing) → last_routing c past ≡ o → option_map (λ r. r.want) o ≡ Some w → is_want layout w ≡ true
    by_last None f g = absurd (cc (g))
    by_last (Some r) f g = let same : r.want ≡ w = cc (g) in ap (is_want layout) (sym same) ∙ (fitting_route layout _ past h r f).wants

-- ---- running attempts

some_is : {X : Type 0} (o : Option X) → is_some o ≡ true → (x : X) × (o ≡ Some x)
some_is None h = absurd (cc (h))
some_is (Some x) h = (x, refl)

-- an attempt that runs has begun
pub runner_began : (layout : Layout) (past : List Step) → LegalPast layout past → (t : TxnId) → is_some (run_site layout past t) ≡ true
    → is_some (begin_vector t past) ≡ true
runner_began layout past h t r =
    let at = some_is (run_site layout past t) r in
    let b = (sound_past layout past h).running at.0 t (found_holds (λ i. runs i t past) (sites_to layout.sites) at.0 at.1) in
    ap (λ (o : Option (List ℕ)). is_some o) b.is

-- an attempt that hasn't begun doesn't run
pub unbegun_idle : (layout : Layout) (past : List Step) → LegalPast layout past → (t : TxnId) → begin_vector t past ≡ None → run_site layout past t ≡ None
unbegun_idle layout past h t e = by_site (run_site layout past t) refl
  where
    by_site : (o : Option ℕ) → run_site layout past t ≡ o → run_site layout past t ≡ None
    by_site None f = f
    by_site (Some i) f = absurd (both_ways false refl (sym (ap (λ (o : Option (List ℕ)). is_some o) e) ∙ runner_began layout past h t
        (ap (λ (o : Option ℕ). is_some o) f)))

-- the keys that an attempt declares are in range
pub declared_in : (layout : Layout) (past : List Step) → LegalPast layout past → (t : TxnId) → list_all (is_key layout) (declared t past) ≡ true
declared_in layout past h t = by_route (routing t past) refl
  where
    keys_in : (w : Want) → is_want layout w ≡ true → list_all (is_key layout) (wanted_keys w) ≡ true
    keys_in (want.Txn keys) f = (and_parts _ (list_all (is_key layout) keys) (and_parts (is_ascending keys) _ f).1).1
    keys_in (want.Place part) f = refl
    keys_in want.Restart f = refl

    by_route : (o : Option Routing) → routing t past ≡ o → list_all (is_key layout) (unwrap_or (option_map (λ r. wanted_keys r.want) o) []) ≡ true
    by_route None e = refl
    by_route (Some r) e = keys_in r.want (fitting_route layout _ past h r e).wants

-- ---- pending steps

by_doubt : (layout : Layout) (site i : ℕ) (q p : Pending) (o : Option Pending) (b : Bool) → (b ≡ true → i ≡ site) → is_shaped layout (Doubt i q) ≡ true
    → (o ≡ Some p → is_shaped layout (Doubt site p) ≡ true) → option_or (cond b (Some q) None) o ≡ Some p → is_shaped layout (Doubt site p) ≡ true
by_doubt layout site i q p o true e s f h =
    let same : q ≡ p = cc (h) in subst (λ (j : ℕ). is_shaped layout (Doubt j p) ≡ true) (e refl)
    (subst (λ (r : Pending). is_shaped layout (Doubt i r) ≡ true) same s)
by_doubt layout site i q p o false e s f h = f h

-- the pending step of a site has its shape
shaped_pending : (layout : Layout) (site : ℕ) (past : List Step) → LegalPast layout past → (p : Pending) → pending_at site past ≡ Some p
    → is_shaped layout (Doubt site p) ≡ true
shaped_pending layout site [] h p e = absurd (cc (e))
shaped_pending layout site (Doubt i q ∷ past) h p e =
    by_doubt layout site i q p (pending_at site past) (i == site) (eqb-true i site) (shape_of layout past (Doubt i q) h.1)
    (λ f. shaped_pending layout site past h.0 p f) e
shaped_pending layout site (Route txn want min at choice ∷ past) h p e = shaped_pending layout site past h.0 p e
shaped_pending layout site (Reply session number said ∷ past) h p e = shaped_pending layout site past h.0 p e
shaped_pending layout site (Ask part epoch to txn ∷ past) h p e = shaped_pending layout site past h.0 p e
shaped_pending layout site (Settle part epoch ∷ past) h p e = shaped_pending layout site past h.0 p e
shaped_pending layout site (Begin at txn begin ∷ past) h p e = shaped_pending layout site past h.0 p e
shaped_pending layout site (Moved at txn ∷ past) h p e = shaped_pending layout site past h.0 p e
shaped_pending layout site (Commit entry ∷ past) h p e = shaped_pending layout site past h.0 p e
shaped_pending layout site (End at txn ops reads ∷ past) h p e = shaped_pending layout site past h.0 p e
shaped_pending layout site (Fail at txn cause ∷ past) h p e = shaped_pending layout site past h.0 p e
shaped_pending layout site (Refresh at origin ∷ past) h p e = shaped_pending layout site past h.0 p e
shaped_pending layout site (Release at part epoch to vector ∷ past) h p e = shaped_pending layout site past h.0 p e
shaped_pending layout site (Grant at part epoch vector ∷ past) h p e = shaped_pending layout site past h.0 p e
shaped_pending layout site (Restart at vector found ∷ past) h p e = shaped_pending layout site past h.0 p e

pub pending_shaped : (layout : Layout) (site : ℕ) (past : List Step) → LegalPast layout past
    → IfSome (pending_at site past) (λ p. is_shaped layout (Doubt site p) ≡ true)
pending_shaped layout site past h = by_last (pending_at site past) refl
  where
    by_last : (o : Option Pending) → pending_at site past ≡ o → IfSome o (λ p. is_shaped layout (Doubt site p) ≡ true)
    by_last None e = tt
    by_last (Some p) e = shaped_pending layout site past h p e
