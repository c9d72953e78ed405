-- What the records of a history's acts say.
use Rattle.std.proofs.Common.{ℕ, zero, suc, ◌<◌, ◌≤◌, ◌≡◌, List, [], ◌∷◌, length, refl, ap, ap₂, sym, ◌∙◌, subst, arith, map, Bool, true, false, cond, ◌==◌, filter}
use Rattle.std.proofs.Common.{Option, Some, None, get_or, le_trans}
use Rattle.std.proofs.lemmas.Bool.{eqb-true}
use Rattle.std.specs.List.{cons_option}
use Rattle.std.specs.Prelude.{reverse, filter_map, option_and_then}
use Rattle.dm_event.specs.Vectors.{at, join_all, raised}
use Rattle.dm_event.specs.declared.step.Entry.{Entry}
use Rattle.dm_event.specs.declared.step.Step.{Step}
use Rattle.dm_event.specs.declared.step.Step.TheVariants.{Route, Reply, Ask, Settle, Begin, Moved, Commit, End, Fail, Refresh, Release, Grant, Doubt, Restart}
use Rattle.dm_frames.specs.Records.{record_of, records_of}
use Rattle.dm_model.proofs.VectorFacts.{join_has, join_keeps}
use Rattle.dm_model.specs.Acts.{acts, entry_of, entries}
use Rattle.dm_model.specs.Floors.{floor_vector, floor_vectors, floor}
use Rattle.dm_record.specs.declared.record.Record.{Record}
use Rattle.dm_record.specs.declared.record.Record.TheVariants as rec
use Rattle.dm_restart.proofs.Reversing.{filter_map_reverse, filter_map_both, join_reverse}
use Rattle.dm_restart.specs.Floors.{counted, floor_of}
use Rattle.dm_restart.specs.Plans.{commit_of, commits_of}
use Rattle.dm_store.specs.Histories.{past_of}
use Rattle.dm_store.specs.declared.past.Past.{Past}

-- a record counts what its act does
counts_same : (site : ℕ) (s : Step) → option_and_then (counted site) (record_of site s) ≡ floor_vector site s
counts_same i (Commit e) = by (e.origin == i) refl
  where
    by : (b : Bool) → (e.origin == i) ≡ b
        → option_and_then (counted i) (cond b (Some (rec.Commit e.txn e.seq e.begin e.writes)) None) ≡ cond b (Some (raised e.begin e.origin e.seq)) None
    by true h = ap (λ (site : ℕ). Some (raised e.begin site e.seq)) (sym (eqb-true e.origin i h))
    by false h = refl
counts_same i (Release site part epoch to vector) = by (site == i)
  where
    by : (b : Bool) → option_and_then (counted i) (cond b (Some (rec.Release part epoch to vector)) None) ≡ None
    by true = refl
    by false = refl
counts_same i (Grant site part epoch vector) = by (site == i)
  where
    by : (b : Bool) → option_and_then (counted i) (cond b (Some (rec.Grant part epoch vector)) None) ≡ cond b (Some vector) None
    by true = refl
    by false = refl
counts_same i (Route txn want min site choice) = refl
counts_same i (Reply session number said) = refl
counts_same i (Ask part epoch to txn) = refl
counts_same i (Settle part epoch) = refl
counts_same i (Begin site txn begin) = refl
counts_same i (Moved site txn) = refl
counts_same i (End site txn ops reads) = refl
counts_same i (Fail site txn cause) = refl
counts_same i (Refresh site origin) = refl
counts_same i (Doubt site p) = refl
counts_same i (Restart site vector found) = refl

-- the floor of the records is that of the history
pub floor_recorded : (sites : ℕ) (past : List Step) (site : ℕ) → floor_of sites site (records_of site past) ≡ floor sites past site
floor_recorded sites past site =
    ap (λ (vs : List (List ℕ)). join_all sites vs)
    (filter_map_both (record_of site) (counted site) (floor_vector site) (counts_same site) (reverse (acts past))
    ∙ filter_map_reverse (floor_vector site) (acts past))
    ∙ join_reverse sites (floor_vectors site past)

-- the commits of the records are the site's entries
own_commits : (site : ℕ) (ds : List Step)
    → filter_map (commit_of site) (filter_map (record_of site) ds) ≡ map past_of (filter (λ e. e.origin == site) (filter_map entry_of ds))
own_commits site [] = refl
own_commits site (Commit e ∷ ds) = by (e.origin == site) refl (own_commits site ds)
  where
    by : (b : Bool) → (e.origin == site) ≡ b
        → filter_map (commit_of site) (filter_map (record_of site) ds) ≡ map past_of (filter (λ e. e.origin == site) (filter_map entry_of ds))
        → filter_map (commit_of site) (cons_option (cond b (Some (rec.Commit e.txn e.seq e.begin e.writes)) None) (filter_map (record_of site) ds))
        ≡ map past_of (cond b (e ∷ filter (λ e. e.origin == site) (filter_map entry_of ds)) (filter (λ e. e.origin == site) (filter_map entry_of ds)))
    by true h r = ap₂ (λ (t : Past) (ts : List Past). t ∷ ts)
        (ap (λ (i : ℕ). record { origin = i; seq = e.seq; writes = e.writes }) (sym (eqb-true e.origin site h))) r
    by false h r = r
own_commits site (Release i part epoch to vector ∷ ds) = by (i == site) (own_commits site ds)
  where
    by : (b : Bool) → filter_map (commit_of site) (filter_map (record_of site) ds) ≡ map past_of (filter (λ e. e.origin == site) (filter_map entry_of ds))
        → filter_map (commit_of site) (cons_option (cond b (Some (rec.Release part epoch to vector)) None) (filter_map (record_of site) ds))
        ≡ map past_of (filter (λ e. e.origin == site) (filter_map entry_of ds))
    by true r = r
    by false r = r
own_commits site (Grant i part epoch vector ∷ ds) = by (i == site) (own_commits site ds)
  where
    by : (b : Bool) → filter_map (commit_of site) (filter_map (record_of site) ds) ≡ map past_of (filter (λ e. e.origin == site) (filter_map entry_of ds))
        → filter_map (commit_of site) (cons_option (cond b (Some (rec.Grant part epoch vector)) None) (filter_map (record_of site) ds))
        ≡ map past_of (filter (λ e. e.origin == site) (filter_map entry_of ds))
    by true r = r
    by false r = r
own_commits site (s ∷ ds) = own_commits site ds

pub commits_recorded : (site : ℕ) (past : List Step)
    → commits_of site (records_of site past) ≡ map past_of (filter (λ e. e.origin == site) (reverse (entries past)))
commits_recorded site past =
    own_commits site (reverse (acts past))
    ∙ ap (λ (es : List Entry). map past_of (filter (λ e. e.origin == site) es)) (filter_map_reverse entry_of (acts past))

-- what a record counts is within the floor
floor_keeps : (sites site : ℕ) (r : Record) (own : List Record) (j : ℕ) → at (floor_of sites site own) j ≤ at (floor_of sites site (r ∷ own)) j
floor_keeps sites site (rec.Commit txn seq begin writes) own j = join_keeps sites (raised begin site seq) (filter_map (counted site) own) j
floor_keeps sites site (rec.Release part epoch to vector) own j = omega arith
floor_keeps sites site (rec.Grant part epoch vector) own j = join_keeps sites vector (filter_map (counted site) own) j

pub floor_has : (sites site : ℕ) (own : List Record) (r : Record) (v : List ℕ) → counted site r ≡ Some v → length v ≡ sites → (k : ℕ) → k < length own
    → get_or own k r ≡ r → (j : ℕ) → at v j ≤ at (floor_of sites site own) j
floor_has sites site [] r v e l k m h j = absurd (omega (arith, m))
floor_has sites site (x ∷ own) r v e l zero m h j =
    subst (λ (o : Option (List ℕ)). at v j ≤ at (join_all sites (cons_option o (filter_map (counted site) own))) j) (sym (ap (λ (y : Record). counted site y) h ∙ e))
    (join_has sites v (filter_map (counted site) own) l j)
floor_has sites site (x ∷ own) r v e l (suc k) m h j =
    le_trans (floor_has sites site own r v e l k (omega (arith, m)) h j) (floor_keeps sites site x own j)
