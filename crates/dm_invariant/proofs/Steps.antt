-- What a site keeps through its own steps that write no record.
use Rattle.std.proofs.Common.{ℕ, ◌≡◌, Bool, true, false, not, ◌||◌, cond, List, [], ◌∷◌, ◌++◌, Some, refl, sym, ap, ◌∙◌, subst, inl, inr}
use Rattle.std.proofs.lemmas.Bool.{cases_Bool, true≢false}
use Rattle.std.specs.List.{AllByRecursion as Each, list_any}
use Rattle.std.specs.Prelude.{Option, IsSome}
use Rattle.dm_event.specs.Layout.{Layout}
use Rattle.dm_event.specs.declared.step.Cause.TheVariants.{Memory}
use Rattle.dm_event.specs.declared.step.Entry.{Entry}
use Rattle.dm_event.specs.declared.step.Op.{Op}
use Rattle.dm_event.specs.declared.step.Pair.{Pair}
use Rattle.dm_event.specs.declared.step.Step.{Step}
use Rattle.dm_event.specs.declared.step.Step.TheVariants.{Begin, Moved, End, Fail, Refresh}
use Rattle.dm_event.specs.declared.step.TxnId.{TxnId}
use Rattle.dm_locks.proofs.Counts.{each_filter}
use Rattle.dm_locks.specs.Claims.{is_of, is_of_session, of_others, without}
use Rattle.dm_locks.specs.Locks.{Locks}
use Rattle.dm_locks.specs.declared.claim.Claim.{Claim}
use Rattle.dm_logdisk.specs.Story.{Story}
use Rattle.dm_model.proofs.RunningIsLast.{seated, not_routed}
use Rattle.dm_model.proofs.StandingRoutes.{routed_stands}
use Rattle.dm_model.specs.Acts.{acts_of}
use Rattle.dm_model.specs.Allowed.{Allowed, next_entry}
use Rattle.dm_model.specs.Attempts.{routed}
use Rattle.dm_model.specs.Doubts.{is_down, pending_at}
use Rattle.dm_model.specs.Legal.{LegalPast}
use Rattle.dm_model.specs.Runs.{runs}
use Rattle.dm_others.proofs.Logs.{records_stay}
use Rattle.dm_others.proofs.Runs.{holds_runs, running_begins, running_ends}
use Rattle.dm_others.specs.Faults.{faults}
use Rattle.dm_others.specs.Locking.{claimed, claims, IsSent}
use Rattle.dm_invariant.proofs.Staying.{LeavesLog, keeps_more}
use Rattle.dm_invariant.specs.Causes.{HasCause}
use Rattle.dm_invariant.specs.Keeping.{Parts, Keeps}
use Rattle.dm_invariant.specs.Writing.{let_go}
use Rattle.dm_store.specs.Contents.{Contents}
use Rattle.dm_store.specs.Histories.{past_of}
use Rattle.dm_store.specs.declared.past.Past.{Past}
use Rattle.dm_stores.proofs.Steps.{stores_refresh, stores_still}
use Rattle.dm_stores.specs.Stores.{Stores, is_still}

module _ (layout : Layout) (opened : List ℕ) (site : ℕ) (past : List Step) (parts : Parts) (k : Keeps layout opened site past parts) where
  -- ---- no step

  -- more room in the store, and more known keys
  pub keeps_store : (store : Contents) → store.layout ≡ parts.store.layout → store.installed ≡ parts.store.installed
      → Keeps layout opened site past (record parts { store = store })
  keeps_store store l i = record {
    there = k.there;
    legal = k.legal;
    layout_is = l ∙ k.layout_is;
    stores = subst (λ (installed : List Past). Stores layout past site installed) (sym i) k.stores;
    holders = k.holders;
    waiters = k.waiters;
    logged = k.logged;
    caused = k.caused;
  }

  -- room in the log
  pub keeps_log : (live : Bool) (gate : ℕ) (told : Option Story) (faults : ℕ) → live ≡ parts.live → gate ≡ parts.gate → told ≡ parts.told
      → faults ≡ parts.faults → Keeps layout opened site past (record parts { live = live; gate = gate; told = told; faults = faults })
  keeps_log live gate told faults a b c d =
      subst (λ (p : Parts). Keeps layout opened site past p)
      (λ j. record parts { live = sym a j; gate = sym b j; told = sym c j; faults = sym d j }) k

  -- other waiters
  pub keeps_line : (locks : Locks) → locks.holders ≡ parts.locks.holders → Each (IsSent site past) locks.waiters
      → Keeps layout opened site past (record parts { locks = locks })
  keeps_line locks h w = record {
    there = k.there;
    legal = k.legal;
    layout_is = k.layout_is;
    stores = k.stores;
    holders = h ∙ k.holders;
    waiters = w;
    logged = k.logged;
    caused = k.caused;
  }

  pub others_sent : (session : ℕ) → Each (IsSent site past) (of_others session parts.locks.waiters)
  others_sent session = each_filter (IsSent site past) (λ claim. not (is_of_session session claim)) parts.locks.waiters k.waiters

  -- ---- a step

  -- a step that is no act, no fault and no doubt
  log_stays : (x : Step) → acts_of x past ≡ [] → is_down site (x ∷ past) ≡ is_down site past → pending_at site (x ∷ past) ≡ pending_at site past
      → faults site (x ∷ past) ≡ faults site past → LeavesLog site past x
  log_stays x a d p f = record { records = records_stay site past x a; down = d; pending = p; faults = f }

  pub keeps_begin : (txn : TxnId) (begin : List ℕ) → Allowed layout past (Begin site txn begin) → (locks : Locks)
      → locks.holders ≡ parts.locks.holders ++ claimed past txn ∷ [] → Each (IsSent site past) locks.waiters
      → Keeps layout opened site (Begin site txn begin ∷ past) (record parts { locks = locks })
  keeps_begin txn begin a locks h w =
      keeps_more layout opened site past parts (Begin site txn begin) k a (log_stays (Begin site txn begin) refl refl refl refl) tt parts.store locks refl
      (stores_still layout past (Begin site txn begin) site parts.store.installed refl k.stores)
      (h ∙ (ap (λ (cs : List Claim). cs ++ claimed past txn ∷ []) k.holders ∙ sym (running_begins layout site past txn begin (k.legal, a)))) w

  pub keeps_moved : (txn : TxnId) → Allowed layout past (Moved site txn) → (locks : Locks)
      → locks.holders ≡ parts.locks.holders → Each (IsSent site past) locks.waiters
      → Keeps layout opened site (Moved site txn ∷ past) (record parts { locks = locks })
  keeps_moved txn a locks h w =
      keeps_more layout opened site past parts (Moved site txn) k a (log_stays (Moved site txn) refl refl refl refl) tt parts.store locks refl
      (stores_still layout past (Moved site txn) site parts.store.installed refl k.stores) (h ∙ k.holders) w

  -- a step that ends an attempt's run gives its keys back
  ends : (x : Step) (txn : TxnId) → Allowed layout past x → LeavesLog site past x → HasCause site parts.told x past → is_still x ≡ true
      → claims site (x ∷ past) ≡ without txn (claims site past) → Keeps layout opened site (x ∷ past) (record parts { locks = let_go txn parts.locks })
  ends x txn a same h still e =
      keeps_more layout opened site past parts x k a same h parts.store (let_go txn parts.locks) refl
      (stores_still layout past x site parts.store.installed still k.stores)
      (ap (λ (cs : List Claim). without txn cs) k.holders ∙ sym e)
      k.waiters

  pub keeps_end : (txn : TxnId) (ops : List Op) (reads : List Pair) → Allowed layout past (End site txn ops reads)
      → Keeps layout opened site (End site txn ops reads ∷ past) (record parts { locks = let_go txn parts.locks })
  keeps_end txn ops reads a =
      ends (End site txn ops reads) txn a (log_stays (End site txn ops reads) refl refl refl refl) tt refl
      (running_ends layout site past (End site txn ops reads) txn (k.legal, a) (λ ts. refl) (λ u. refl))

  pub keeps_fail : (txn : TxnId) → Allowed layout past (Fail site txn Memory)
      → Keeps layout opened site (Fail site txn Memory ∷ past) (record parts { locks = let_go txn parts.locks })
  keeps_fail txn a =
      ends (Fail site txn Memory) txn a (log_stays (Fail site txn Memory) refl refl refl refl) tt refl
      (running_ends layout site past (Fail site txn Memory) txn (k.legal, a) (λ ts. refl) (λ u. refl))

  pub keeps_refresh : (origin : ℕ) (entry : Entry) → Allowed layout past (Refresh site origin) → next_entry layout past site origin ≡ Some entry
      → (store : Contents) → store.layout ≡ parts.store.layout → store.installed ≡ parts.store.installed ++ past_of entry ∷ []
      → Keeps layout opened site (Refresh site origin ∷ past) (record parts { store = store })
  keeps_refresh origin entry a n store l i =
      keeps_more layout opened site past parts (Refresh site origin) k a (log_stays (Refresh site origin) refl refl refl refl) tt store parts.locks l
      (subst (λ (installed : List Past). Stores layout (Refresh site origin ∷ past) site installed) (sym i)
      (stores_refresh layout past site origin entry parts.store.installed (k.legal, a) n k.stores))
      k.holders k.waiters

-- the claims of others are all, where the attempt has none
pub none_to_drop : (txn : TxnId) (cs : List Claim) → list_any (is_of txn) cs ≡ false → without txn cs ≡ cs
none_to_drop txn [] h = refl
none_to_drop txn (c ∷ cs) h = by (is_of txn c) h (none_to_drop txn cs)
  where
    by : (b : Bool) → (b || list_any (is_of txn) cs) ≡ false → (list_any (is_of txn) cs ≡ false → without txn cs ≡ cs)
        → cond (not b) (c ∷ without txn cs) (without txn cs) ≡ c ∷ cs
    by true e rest = absurd (true≢false e)
    by false e rest = ap (λ (ds : List Claim). c ∷ ds) (rest e)

-- an attempt that stands routed holds nothing
pub routed_holds_nothing : (layout : Layout) (past : List Step) (site : ℕ) (txn : TxnId) → LegalPast layout past → IsSome (routed txn past)
    → without txn (claims site past) ≡ claims site past
routed_holds_nothing layout past site txn l r =
    none_to_drop txn (claims site past) (holds_runs site past txn ∙ (elim (cases_Bool (runs site txn past)) [
      | inl q ↦ absurd (not_routed layout past (seated layout past l) site txn txn q (routed_stands past txn r).state refl)
      | inr q ↦ q
    ]))
