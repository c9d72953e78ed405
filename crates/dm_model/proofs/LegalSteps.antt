-- What a legal step of each kind has, by name. Only this file takes the clauses of a row in their order: in each proof here a λ names them as
-- the row lists them, so that a further clause is one more name in one λ.
use Rattle.std.proofs.Common.{ℕ, suc, ◌+◌, ◌≤◌, ◌≡◌, ◌≢◌, Bool, true, false, ◌==◌, nat_le, ◌&&◌, List, [], ◌∷◌, Option, Some, None, length, refl, sym, ap, ◌∙◌}
use Rattle.std.proofs.Common.{arith}
use Rattle.std.proofs.Common.{inl, inr, ◌⊎◌}
use Rattle.std.proofs.lemmas.Bool.{not-true, eqb-true, eqb-false, ne_eqb, not_from_false, false≢true, and_parts, and_from, or_cases, leb-true, le-leb}
use Rattle.std.specs.Prelude.{option_map, option_and_then, reverse, is_some}
use Rattle.dm_event.specs.Layout.{Layout, is_site, is_part}
use Rattle.dm_event.specs.Vectors.{at, first_above, raised}
use Rattle.dm_event.specs.declared.placing.Placing.{Placing}
use Rattle.dm_event.specs.declared.placing.Placing.TheVariants.{Settled, Asked, Between, Granted}
use Rattle.dm_event.specs.declared.step.Cause.{Cause}
use Rattle.dm_event.specs.declared.step.Choice.{Choice}
use Rattle.dm_event.specs.declared.step.Entry.{Entry}
use Rattle.dm_event.specs.declared.step.Found.{Found}
use Rattle.dm_event.specs.declared.step.Op.{Op}
use Rattle.dm_event.specs.declared.step.Pair.{Pair}
use Rattle.dm_event.specs.declared.step.Pending.TheVariants as pending
use Rattle.dm_event.specs.declared.step.Said.{Said}
use Rattle.dm_event.specs.declared.step.Step.{Step}
use Rattle.dm_event.specs.declared.step.Step.TheVariants.{Route, Reply, Ask, Settle, Begin, Moved, Commit, End, Fail, Refresh, Release, Grant, Doubt, Restart}
use Rattle.dm_event.specs.declared.step.TxnId.{TxnId}
use Rattle.dm_event.specs.declared.step.Want.{Want}
use Rattle.dm_event.specs.declared.why.Why.TheVariants as why
use Rattle.dm_model.proofs.ClausesHold.{none_parts, holds_true, map_none, at_due, runs_due, first_none, holds_none}
use Rattle.dm_model.proofs.Judged.{shape_of}
use Rattle.dm_model.proofs.SameValues.{pairs_same}
use Rattle.dm_model.proofs.StandingRoutes.{Stands, StandsForTxn, routed_stands, routed_txn_stands}
use Rattle.dm_model.proofs.VectorFacts.{numbers_same}
use Rattle.dm_model.specs.Acts.{entries}
use Rattle.dm_model.specs.Allowed.{Allowed, clauses, commit_clauses, begin_clauses, moved_clauses, end_clauses, fail_clauses, refresh_clauses, restart_clauses}
use Rattle.dm_model.specs.Allowed.{route_clauses, reply_clauses, release_clauses, grant_clauses}
use Rattle.dm_model.specs.Allowed.{elsewhere, holder, runner, next_entry, missing_for, with_kept}
use Rattle.dm_model.specs.Attempts.{Routing, replies, routes, state, declared, routed, routed_txn}
use Rattle.dm_model.specs.Bodies.{ran_at, first_undeclared, has_writes}
use Rattle.dm_model.specs.Choices.{due_for}
use Rattle.dm_model.specs.Clauses.{Clause, holds, none_of, first}
use Rattle.dm_model.specs.Closed.{unclosed}
use Rattle.dm_model.specs.Doubts.{is_down}
use Rattle.dm_model.specs.Floors.{floor}
use Rattle.dm_model.specs.Outcomes.{may_say}
use Rattle.dm_model.specs.Placings.{placing}
use Rattle.dm_model.specs.Progress.{entry_count, site_vector}
use Rattle.dm_model.specs.Rows.{may_route, may_choose, found_fits, when_settled, when_asked, when_between, when_granted}
use Rattle.dm_model.specs.Runs.{runs, run_site, began_at}
use Rattle.dm_model.specs.Sessions.{session_vector}
use Rattle.dm_model.specs.Shape.{is_txn, is_want, is_vector, is_entry, is_shaped}
use Rattle.dm_model.specs.Tests.{same_pairs}

-- ---- from a list of clauses

-- no clause gives a reason
record Hold (cs : List Clause) : Type 0 where
  none : first cs ≡ None

record Parts (c : Clause) (cs : List Clause) : Type 0 where
  head : c ≡ None
  rest : Hold cs

parts : (c : Clause) (cs : List Clause) → Hold (c ∷ cs) → Parts c cs
parts c cs h = let p = none_parts c (first cs) h.none in record { head = p.0; rest = record { none = p.1 } }

-- what follows where each of the clauses holds
abbrev Where : List Clause → Type 0 → Type 0
Where [] R = R
Where (c ∷ cs) R = c ≡ None → Where cs R

given : (R : Type 0) (cs : List Clause) → Hold cs → Where cs R → R
given R [] h f = f
given R (c ∷ cs) h f = let p = parts c cs h in given R cs p.rest (f p.head)

-- the row of a step that is allowed holds
row_holds : (layout : Layout) (past : List Step) (s : Step) → Allowed layout past s → Hold (clauses layout past s)
row_holds layout past s h = (parts (holds (is_shaped layout s) why.Shape) (clauses layout past s) (record { none = h })).rest

-- ---- what shapes say

pub record InRange (layout : Layout) (site : ℕ) : Type 0 where
  pub one : 1 ≤ site
  pub top : site ≤ layout.sites

pub in_range : (layout : Layout) (site : ℕ) → is_site layout site ≡ true → InRange layout site
in_range layout site h =
    let p = and_parts (nat_le 1 site) (nat_le site layout.sites) h in
    record { one = leb-true 1 site p.0; top = leb-true site layout.sites p.1 }

from_range : (layout : Layout) (site : ℕ) → InRange layout site → is_site layout site ≡ true
from_range layout site r = and_from (nat_le 1 site) (nat_le site layout.sites) (le-leb 1 site r.one) (le-leb site layout.sites r.top)

long_vector : (layout : Layout) (v : List ℕ) → is_vector layout v ≡ true → length v ≡ layout.sites
long_vector layout v h = eqb-true (length v) layout.sites h

second : (a b : Bool) → (a && b) ≡ true → b ≡ true
second a b h = (and_parts a b h).1

third : (a b c : Bool) → (a && (b && c)) ≡ true → c ≡ true
third a b c h = second b c (second a (b && c) h)

-- ---- steps of a session

pub record LegalRoute (layout : Layout) (past : List Step) (txn : TxnId) (want : Want) (min : List ℕ) (site : ℕ) (choice : Choice) : Type 0 where
  pub wants : is_want layout want ≡ true
  pub long : length min ≡ layout.sites
  pub number : txn.number ≡ replies txn.session past + 1
  pub further : may_route (state txn.session past) ≡ true
  pub attempt : txn.attempt ≡ routes txn.session past + 1
  pub least : min ≡ session_vector layout.sites past txn.session
  pub due : may_choose (due_for layout past txn.session want site) site choice ≡ true

pub legal_route : (layout : Layout) (past : List Step) (txn : TxnId) (want : Want) (min : List ℕ) (site : ℕ) (choice : Choice)
    → Allowed layout past (Route txn want min site choice) → LegalRoute layout past txn want min site choice
legal_route layout past txn want min site choice h =
    let rest = second (is_txn layout txn) _ (shape_of layout past (Route txn want min site choice) h) in
    let parts = and_parts (is_want layout want) (is_vector layout min && is_site layout site) rest in
    given (LegalRoute layout past txn want min site choice) (route_clauses layout past txn want min site choice)
    (row_holds layout past (Route txn want min site choice) h)
    (λ number further attempt least due. record {
      wants = parts.0;
      long = long_vector layout min (and_parts (is_vector layout min) _ parts.1).0;
      number = eqb-true txn.number (replies txn.session past + 1) (holds_true _ _ number);
      further = holds_true _ _ further;
      attempt = eqb-true txn.attempt (routes txn.session past + 1) (holds_true _ _ attempt);
      least = numbers_same min (session_vector layout.sites past txn.session) (holds_true _ _ least);
      due = holds_true _ _ due;
    })

pub record LegalReply (layout : Layout) (past : List Step) (session number : ℕ) (said : Said) : Type 0 where
  pub due : number ≡ replies session past + 1
  pub says : may_say layout past session said ≡ true

pub legal_reply : (layout : Layout) (past : List Step) (session number : ℕ) (said : Said) → Allowed layout past (Reply session number said)
    → LegalReply layout past session number said
legal_reply layout past session number said h =
    given (LegalReply layout past session number said) (reply_clauses layout past session number said) (row_holds layout past (Reply session number said) h)
    (λ due says. record { due = eqb-true number (replies session past + 1) (holds_true _ _ due); says = holds_true _ _ says })

-- ---- steps of an attempt

routed_to : (past : List Step) (txn : TxnId) (site : ℕ) (s : StandsForTxn past txn) → option_map (λ (r : Routing). r.site) (routed_txn txn past) ≡ Some site
    → s.stands.route.site ≡ site
routed_to past txn site s h = cc (ap (λ (o : Option Routing). option_map (λ (r : Routing). r.site) o) s.by, h)

pub record LegalBegin (layout : Layout) (past : List Step) (site : ℕ) (txn : TxnId) (begin : List ℕ) : Type 0 where
  pub long : length begin ≡ layout.sites
  pub routed : StandsForTxn past txn
  pub at_site : routed.stands.route.site ≡ site
  pub up : is_down site past ≡ false
  pub here : elsewhere layout past site (declared txn past) ≡ None
  pub at_vector : begin ≡ site_vector layout.sites past site
  pub not_behind : first_above routed.stands.route.min begin ≡ None
  pub unheld : holder site (declared txn past) past ≡ None

pub legal_begin : (layout : Layout) (past : List Step) (site : ℕ) (txn : TxnId) (begin : List ℕ) → Allowed layout past (Begin site txn begin)
    → LegalBegin layout past site txn begin
legal_begin layout past site txn begin h =
    let due : Option ℕ = option_map (λ r. r.site) (routed_txn txn past) in
    given (LegalBegin layout past site txn begin) (begin_clauses layout past site txn begin) (row_holds layout past (Begin site txn begin) h)
    (λ routed at_site up here at_vector not_behind unheld.
    let s = routed_txn_stands past txn (holds_true _ _ routed) in
    record {
      long = long_vector layout begin (third _ _ _ (shape_of layout past (Begin site txn begin) h));
      routed = s;
      at_site = routed_to past txn site s (at_due due site (holds_true _ _ routed) at_site);
      up = not-true (is_down site past) (holds_true _ _ up);
      here = map_none _ _ here;
      at_vector = numbers_same begin (site_vector layout.sites past site) (holds_true _ _ at_vector);
      not_behind = ap (λ (o : Option Routing). option_and_then (λ r. first_above r.min begin) o) (sym s.by) ∙ map_none _ _ not_behind;
      unheld = map_none _ _ unheld;
    })

pub record LegalMoved (layout : Layout) (past : List Step) (site : ℕ) (txn : TxnId) : Type 0 where
  pub routed : StandsForTxn past txn
  pub at_site : routed.stands.route.site ≡ site
  pub up : is_down site past ≡ false
  pub away : is_some (elsewhere layout past site (declared txn past)) ≡ true

pub legal_moved : (layout : Layout) (past : List Step) (site : ℕ) (txn : TxnId) → Allowed layout past (Moved site txn) → LegalMoved layout past site txn
legal_moved layout past site txn h =
    let due : Option ℕ = option_map (λ r. r.site) (routed_txn txn past) in
    given (LegalMoved layout past site txn) (moved_clauses layout past site txn) (row_holds layout past (Moved site txn) h)
    (λ routed at_site up away.
    let s = routed_txn_stands past txn (holds_true _ _ routed) in
    record {
      routed = s;
      at_site = routed_to past txn site s (at_due due site (holds_true _ _ routed) at_site);
      up = not-true (is_down site past) (holds_true _ _ up);
      away = holds_true _ _ away;
    })

-- of an entry that may be committed, or be in doubt
pub record LegalCommit (layout : Layout) (past : List Step) (e : Entry) : Type 0 where
  pub origin : InRange layout e.origin
  pub runs : runs e.origin e.txn past ≡ true
  pub seq : e.seq ≡ suc (entry_count e.origin past)
  pub began : e.begin ≡ began_at e.txn past
  pub declares : first_undeclared (declared e.txn past) e.ops ≡ None
  pub reads : e.reads ≡ (ran_at layout past e.begin e.ops).reads
  pub writes : e.writes ≡ (ran_at layout past e.begin e.ops).writes
  pub changes : has_writes e.ops ≡ true

by_entry : (layout : Layout) (past : List Step) (e : Entry) → is_entry layout e ≡ true → Hold (commit_clauses layout past e) → LegalCommit layout past e
by_entry layout past e shape h =
    let ran = ran_at layout past e.begin e.ops in
    given (LegalCommit layout past e) (commit_clauses layout past e) h
    (λ runs at_site seq began declares fits changes.
    let same = and_parts (same_pairs e.reads ran.reads) (same_pairs e.writes ran.writes) (holds_true _ _ fits) in
    record {
      origin = in_range layout e.origin (and_parts (is_site layout e.origin) _ (second (is_txn layout e.txn) _ shape)).0;
      runs = runs_due layout past e.txn e.origin (holds_true _ _ runs) at_site;
      seq = (let q = eqb-true e.seq (entry_count e.origin past + 1) (holds_true _ _ seq) in omega arith);
      began = numbers_same e.begin (began_at e.txn past) (holds_true _ _ began);
      declares = map_none _ _ declares;
      reads = pairs_same e.reads ran.reads same.0;
      writes = pairs_same e.writes ran.writes same.1;
      changes = holds_true _ _ changes;
    })

pub legal_commit : (layout : Layout) (past : List Step) (e : Entry) → Allowed layout past (Commit e) → LegalCommit layout past e
legal_commit layout past e h = by_entry layout past e (shape_of layout past (Commit e) h) (row_holds layout past (Commit e) h)

pub record LegalEnd (layout : Layout) (past : List Step) (site : ℕ) (txn : TxnId) (ops : List Op) (reads : List Pair) : Type 0 where
  pub runs : runs site txn past ≡ true
  pub only_reads : has_writes ops ≡ false
  pub read : reads ≡ (ran_at layout past (began_at txn past) ops).reads

pub legal_end : (layout : Layout) (past : List Step) (site : ℕ) (txn : TxnId) (ops : List Op) (reads : List Pair) → Allowed layout past (End site txn ops reads)
    → LegalEnd layout past site txn ops reads
legal_end layout past site txn ops reads h =
    given (LegalEnd layout past site txn ops reads) (end_clauses layout past site txn ops reads) (row_holds layout past (End site txn ops reads) h)
    (λ runs at_site only_reads fits. record {
      runs = runs_due layout past txn site (holds_true _ _ runs) at_site;
      only_reads = not-true (has_writes ops) (holds_true _ _ only_reads);
      read = pairs_same reads (ran_at layout past (began_at txn past) ops).reads (holds_true _ _ fits);
    })

-- the attempt stands routed, or it runs at the site
pub legal_fail : (layout : Layout) (past : List Step) (site : ℕ) (txn : TxnId) (cause : Cause) → Allowed layout past (Fail site txn cause)
    → Stands past txn ⊎ (runs site txn past ≡ true)
legal_fail layout past site txn cause h =
    given (Stands past txn ⊎ (runs site txn past ≡ true)) (fail_clauses layout past site txn) (row_holds layout past (Fail site txn cause) h)
    (λ either at_site. elim (or_cases (is_some (routed txn past)) (is_some (run_site layout past txn)) (holds_true _ _ either)) [
      | inl q ↦ inl (routed_stands past txn q)
      | inr q ↦ inr (runs_due layout past txn site q at_site)
    ])

-- ---- steps of a site

found_by : {X Y : Type 0} (f : X → Option Y) (o : Option X) (x : X) → o ≡ Some x → option_and_then f o ≡ None → f x ≡ None
found_by f o x e h = ap (λ (q : Option _). option_and_then f q) (sym e) ∙ h

pub record LegalRefresh (layout : Layout) (past : List Step) (site origin : ℕ) : Type 0 where
  pub here : InRange layout site
  pub there : InRange layout origin
  pub other : site ≢ origin
  pub up : is_down site past ≡ false
  pub entry : Entry
  pub next : next_entry layout past site origin ≡ Some entry
  pub has : missing_for layout.sites (site_vector layout.sites past site) entry ≡ None

-- what there is
record Is {X : Type 0} (o : Option X) : Type 0 where
  it : X
  is : o ≡ Some it

there_is : {X : Type 0} (o : Option X) → is_some o ≡ true → Is o
there_is None h = absurd (false≢true h)
there_is (Some x) h = record { it = x; is = refl }

pub legal_refresh : (layout : Layout) (past : List Step) (site origin : ℕ) → Allowed layout past (Refresh site origin) → LegalRefresh layout past site origin
legal_refresh layout past site origin h =
    let shape = and_parts (is_site layout site) (is_site layout origin) (shape_of layout past (Refresh site origin) h) in
    given (LegalRefresh layout past site origin) (refresh_clauses layout past site origin) (row_holds layout past (Refresh site origin) h)
    (λ other up next has.
    let n = there_is (next_entry layout past site origin) (holds_true _ _ next) in
    record {
      here = in_range layout site shape.0;
      there = in_range layout origin shape.1;
      other = eqb-false site origin (not-true (site == origin) (holds_true _ _ other));
      up = not-true (is_down site past) (holds_true _ _ up);
      entry = n.it;
      next = n.is;
      has = found_by (missing_for layout.sites (site_vector layout.sites past site)) (next_entry layout past site origin) n.it n.is (map_none _ _ has);
    })

-- and the other way round
pub may_refresh : (layout : Layout) (past : List Step) (site origin : ℕ) → LegalRefresh layout past site origin → Allowed layout past (Refresh site origin)
may_refresh layout past site origin r =
    first_none (holds (is_shaped layout (Refresh site origin)) why.Shape ∷ refresh_clauses layout past site origin) (
      holds_none _ _ (and_from _ _ (from_range layout site r.here) (from_range layout origin r.there)),
      (
        holds_none _ _ (not_from_false (site == origin) (ne_eqb site origin r.other)),
        (
          holds_none _ _ (not_from_false (is_down site past) r.up),
          (
            holds_none _ _ (ap is_some r.next),
            (
              ap (λ (o : Option Entry). none_of (option_and_then (missing_for layout.sites (site_vector layout.sites past site)) o) why.Behind) r.next
                  ∙ ap (λ (o : Option ℕ). none_of o why.Behind) r.has,
              tt,
            ),
          ),
        ),
      ),
    )

-- of a vector that the site may be set to, where the second past has the kept step too
pub record MaySet (layout : Layout) (past : List Step) (site : ℕ) (vector : List ℕ) (kept : List Step) : Type 0 where
  pub here : InRange layout site
  pub long : length vector ≡ layout.sites
  pub own : at vector site ≡ entry_count site kept
  pub not_behind : first_above (floor layout.sites kept site) vector ≡ None
  pub not_ahead : first_above vector (raised (site_vector layout.sites past site) site (entry_count site kept)) ≡ None
  pub closed : unclosed vector (reverse (entries kept)) ≡ None

pub record LegalRestart (layout : Layout) (past : List Step) (site : ℕ) (vector : List ℕ) (found : Found) : Type 0 where
  pub fits : found_fits found (is_down site past) ≡ true
  pub may_set : MaySet layout past site vector (with_kept site found past)

pub legal_restart : (layout : Layout) (past : List Step) (site : ℕ) (vector : List ℕ) (found : Found) → Allowed layout past (Restart site vector found)
    → LegalRestart layout past site vector found
legal_restart layout past site vector found h =
    let shape = and_parts (is_site layout site) (is_vector layout vector) (shape_of layout past (Restart site vector found) h) in
    given (LegalRestart layout past site vector found) (restart_clauses layout past site vector found) (row_holds layout past (Restart site vector found) h)
    (λ fits own not_behind not_ahead closed. record {
      fits = holds_true _ _ fits;
      may_set = record {
        here = in_range layout site shape.0;
        long = long_vector layout vector shape.1;
        own = eqb-true (at vector site) (entry_count site (with_kept site found past)) (holds_true _ _ own);
        not_behind = map_none _ _ not_behind;
        not_ahead = map_none _ _ not_ahead;
        closed = map_none _ _ (map_none _ _ closed);
      };
    })

-- ---- steps of a hand-over

-- the partition is placed so, and the other clauses hold

record WhenSettled (now : Placing) (go : ℕ → ℕ → List Clause) : Type 0 where
  site : ℕ
  epoch : ℕ
  is : now ≡ Settled site epoch
  row : Hold (go site epoch)

by_settled : (now : Placing) (part : ℕ) (go : ℕ → ℕ → List Clause) → Hold (when_settled now part go) → WhenSettled now go
by_settled (Settled site epoch) part go h = record { site = site; epoch = epoch; is = refl; row = h }
by_settled (Asked site epoch to) part go h = absurd (cc (h.none))
by_settled (Between site epoch to vector) part go h = absurd (cc (h.none))
by_settled (Granted site epoch) part go h = absurd (cc (h.none))

record WhenAsked (now : Placing) (go : ℕ → ℕ → ℕ → List Clause) : Type 0 where
  site : ℕ
  epoch : ℕ
  to : ℕ
  is : now ≡ Asked site epoch to
  row : Hold (go site epoch to)

by_asked : (now : Placing) (go : ℕ → ℕ → ℕ → List Clause) → Hold (when_asked now go) → WhenAsked now go
by_asked (Settled site epoch) go h = absurd (cc (h.none))
by_asked (Asked site epoch to) go h = record { site = site; epoch = epoch; to = to; is = refl; row = h }
by_asked (Between site epoch to vector) go h = absurd (cc (h.none))
by_asked (Granted site epoch) go h = absurd (cc (h.none))

record WhenBetween (now : Placing) (go : ℕ → ℕ → List ℕ → List Clause) : Type 0 where
  site : ℕ
  epoch : ℕ
  to : ℕ
  vector : List ℕ
  is : now ≡ Between site epoch to vector
  row : Hold (go epoch to vector)

by_between : (now : Placing) (go : ℕ → ℕ → List ℕ → List Clause) → Hold (when_between now go) → WhenBetween now go
by_between (Settled site epoch) go h = absurd (cc (h.none))
by_between (Asked site epoch to) go h = absurd (cc (h.none))
by_between (Between site epoch to vector) go h = record { site = site; epoch = epoch; to = to; vector = vector; is = refl; row = h }
by_between (Granted site epoch) go h = absurd (cc (h.none))

record WhenGranted (now : Placing) (go : ℕ → List Clause) : Type 0 where
  site : ℕ
  epoch : ℕ
  is : now ≡ Granted site epoch
  row : Hold (go epoch)

by_granted : (now : Placing) (go : ℕ → List Clause) → Hold (when_granted now go) → WhenGranted now go
by_granted (Settled site epoch) go h = absurd (cc (h.none))
by_granted (Asked site epoch to) go h = absurd (cc (h.none))
by_granted (Between site epoch to vector) go h = absurd (cc (h.none))
by_granted (Granted site epoch) go h = record { site = site; epoch = epoch; is = refl; row = h }

pub record LegalAsk (layout : Layout) (past : List Step) (part epoch to : ℕ) (txn : TxnId) : Type 0 where
  pub routed : Stands past txn
  pub home : ℕ
  pub settled : placing layout past part ≡ Settled home epoch
  pub away : home ≢ to

pub legal_ask : (layout : Layout) (past : List Step) (part epoch to : ℕ) (txn : TxnId) → Allowed layout past (Ask part epoch to txn)
    → LegalAsk layout past part epoch to txn
legal_ask layout past part epoch to txn h =
    let row = parts _ _ (row_holds layout past (Ask part epoch to txn) h) in
    let now = by_settled (placing layout past part) part _ (parts _ _ row.rest).rest in
    given (LegalAsk layout past part epoch to txn) _ now.row
    (λ due away. record {
      routed = routed_stands past txn (holds_true _ _ row.head);
      home = now.site;
      settled = now.is ∙ ap (λ (e : ℕ). Settled now.site e) (sym (eqb-true epoch now.epoch (holds_true _ _ due)));
      away = eqb-false now.site to (not-true (now.site == to) (holds_true _ _ away));
    })

pub record LegalRelease (layout : Layout) (past : List Step) (site part epoch to : ℕ) (vector : List ℕ) : Type 0 where
  pub there : InRange layout to
  pub asked : placing layout past part ≡ Asked site epoch to
  pub up : is_down site past ≡ false
  pub unused : runner layout past site part ≡ None
  pub at_vector : vector ≡ site_vector layout.sites past site

by_release : (layout : Layout) (past : List Step) (site part epoch to : ℕ) (vector : List ℕ) → is_site layout to ≡ true
    → Hold (release_clauses layout past site part epoch to vector)
    → LegalRelease layout past site part epoch to vector
by_release layout past site part epoch to vector there h =
    let now = by_asked (placing layout past part) _ h in
    given (LegalRelease layout past site part epoch to vector) _ now.row
    (λ master due wanted up unused at_vector.
    let a = eqb-true now.site site (holds_true _ _ master) in
    let b = eqb-true epoch now.epoch (holds_true _ _ due) in
    let c = eqb-true to now.to (holds_true _ _ wanted) in
    record {
      there = in_range layout to there;
      asked = now.is ∙ (λ i. Asked (a i) (sym b i) (sym c i));
      up = not-true (is_down site past) (holds_true _ _ up);
      unused = map_none _ _ unused;
      at_vector = numbers_same vector (site_vector layout.sites past site) (holds_true _ _ at_vector);
    })

to_site : (layout : Layout) (site part to : ℕ) (vector : List ℕ) → (is_site layout site
    && (is_part layout part && (is_site layout to && is_vector layout vector))) ≡ true
    → is_site layout to ≡ true
to_site layout site part to vector h = (and_parts (is_site layout to) _ (third (is_site layout site) (is_part layout part) _ h)).0

pub legal_release : (layout : Layout) (past : List Step) (site part epoch to : ℕ) (vector : List ℕ) → Allowed layout past (Release site part epoch to vector)
    → LegalRelease layout past site part epoch to vector
legal_release layout past site part epoch to vector h =
    by_release layout past site part epoch to vector (to_site layout site part to vector (shape_of layout past (Release site part epoch to vector) h))
    (row_holds layout past (Release site part epoch to vector) h)

pub record LegalGrant (layout : Layout) (past : List Step) (site part epoch : ℕ) (vector : List ℕ) : Type 0 where
  pub here : InRange layout site
  pub long : length vector ≡ layout.sites
  -- the site that released the partition, and the epoch under which it had it
  pub from : ℕ
  pub old : ℕ
  pub between : placing layout past part ≡ Between from old site vector
  pub next : epoch ≡ suc old
  pub up : is_down site past ≡ false
  pub not_ahead : first_above vector (site_vector layout.sites past site) ≡ None

by_grant : (layout : Layout) (past : List Step) (site part epoch : ℕ) (vector : List ℕ)
    → (is_site layout site && (is_part layout part && is_vector layout vector)) ≡ true
    → Hold (grant_clauses layout past site part epoch vector) → LegalGrant layout past site part epoch vector
by_grant layout past site part epoch vector shape h =
    let now = by_between (placing layout past part) _ h in
    given (LegalGrant layout past site part epoch vector) _ now.row
    (λ to next due up not_ahead.
    let a = eqb-true now.to site (holds_true _ _ to) in
    let v = numbers_same vector now.vector (holds_true _ _ due) in
    record {
      here = in_range layout site (and_parts (is_site layout site) _ shape).0;
      long = long_vector layout vector (third _ _ _ shape);
      from = now.site;
      old = now.epoch;
      between = now.is ∙ (λ i. Between now.site now.epoch (a i) (sym v i));
      next = (let q = eqb-true epoch (now.epoch + 1) (holds_true _ _ next) in omega arith);
      up = not-true (is_down site past) (holds_true _ _ up);
      not_ahead = map_none _ _ not_ahead;
    })

pub legal_grant : (layout : Layout) (past : List Step) (site part epoch : ℕ) (vector : List ℕ) → Allowed layout past (Grant site part epoch vector)
    → LegalGrant layout past site part epoch vector
legal_grant layout past site part epoch vector h =
    by_grant layout past site part epoch vector (shape_of layout past (Grant site part epoch vector) h)
    (row_holds layout past (Grant site part epoch vector) h)

pub record LegalSettle (layout : Layout) (past : List Step) (part epoch : ℕ) : Type 0 where
  pub site : ℕ
  pub granted : placing layout past part ≡ Granted site epoch

pub legal_settle : (layout : Layout) (past : List Step) (part epoch : ℕ) → Allowed layout past (Settle part epoch) → LegalSettle layout past part epoch
legal_settle layout past part epoch h =
    let now = by_granted (placing layout past part) _ (row_holds layout past (Settle part epoch) h) in
    given (LegalSettle layout past part epoch) _ now.row
    (λ due. record { site = now.site; granted = now.is ∙ ap (λ (e : ℕ). Granted now.site e) (sym (eqb-true epoch now.epoch (holds_true _ _ due))) })

-- ---- Doubts, which are judged as their pending steps

pub record DoubtedCommit (layout : Layout) (past : List Step) (site : ℕ) (e : Entry) : Type 0 where
  pub own : e.origin ≡ site
  pub commit : LegalCommit layout past e

pub doubted_commit : (layout : Layout) (past : List Step) (site : ℕ) (e : Entry) → Allowed layout past (Doubt site (pending.Commit e))
    → DoubtedCommit layout past site e
doubted_commit layout past site e h =
    let shape = and_parts (is_entry layout e) (e.origin == site) (second (is_site layout site) _ (shape_of layout past (Doubt site (pending.Commit e)) h)) in
    record { own = eqb-true e.origin site shape.1; commit = by_entry layout past e shape.0 (row_holds layout past (Doubt site (pending.Commit e)) h) }

pub doubted_release : (layout : Layout) (past : List Step) (site part epoch to : ℕ) (vector : List ℕ)
    → Allowed layout past (Doubt site (pending.Release part epoch to vector)) → LegalRelease layout past site part epoch to vector
doubted_release layout past site part epoch to vector h =
    by_release layout past site part epoch to vector (to_site layout site part to vector
    (shape_of layout past (Doubt site (pending.Release part epoch to vector)) h))
    (row_holds layout past (Doubt site (pending.Release part epoch to vector)) h)

pub doubted_grant : (layout : Layout) (past : List Step) (site part epoch : ℕ) (vector : List ℕ)
    → Allowed layout past (Doubt site (pending.Grant part epoch vector))
    → LegalGrant layout past site part epoch vector
doubted_grant layout past site part epoch vector h =
    by_grant layout past site part epoch vector (shape_of layout past (Doubt site (pending.Grant part epoch vector)) h)
    (row_holds layout past (Doubt site (pending.Grant part epoch vector)) h)
