-- What stores have of small histories, worked out by computation.
use Rattle.std.proofs.Common.{◌≡◌, List, [], ◌∷◌, ◌++◌, None, ap, refl, arith}
use Rattle.std.specs.Prelude.{ℕ, pos, reverse}
use Rattle.dm_event.specs.declared.step.Entry.{Entry}
use Rattle.dm_event.specs.declared.step.Found.TheVariants.{Kept}
use Rattle.dm_event.specs.declared.step.Op.TheVariants.{Write}
use Rattle.dm_event.specs.declared.step.Step.{Step}
use Rattle.dm_event.specs.declared.step.Step.TheVariants.{Begin, Commit, Refresh, Restart}
use Rattle.dm_model.proofs.Worked.{judge, two_sites, three_sites, txn, pair, route}
use Rattle.dm_model.proofs.Worked.Restarts.{in_doubt}
use Rattle.dm_model.specs.Legal.{LegalPast}
use Rattle.dm_store.specs.Histories.{past_of, committed}
use Rattle.dm_store.specs.Reads.{value_of}
use Rattle.dm_store.specs.declared.past.Past.{Past}
use Rattle.dm_stores.proofs.Others.{stores_other}
use Rattle.dm_stores.proofs.Restarting.{stores_restart}
use Rattle.dm_stores.proofs.Steps.{stores_refresh}
use Rattle.dm_stores.specs.Stores.{Has, Stores}

-- session 1 writes key 3 at site 1, and session 2 writes key 15 at site 2
abbrev first : Entry
first = record { txn = txn 1 1 1; origin = 1; seq = 1; begin = 0 ∷ 0 ∷ 0 ∷ []; ops = Write 3 (pos 5) ∷ []; reads = []; writes = pair 3 5 ∷ [] }

abbrev second : Entry
second = record { txn = txn 2 1 1; origin = 2; seq = 1; begin = 0 ∷ 0 ∷ 0 ∷ []; ops = Write 15 (pos 6) ∷ []; reads = []; writes = pair 15 6 ∷ [] }

abbrev begun : List Step
begun =
    route (txn 1 1 1) (3 ∷ []) (0 ∷ 0 ∷ 0 ∷ []) 1
    ∷ Begin 1 (txn 1 1 1) (0 ∷ 0 ∷ 0 ∷ [])
    ∷ route (txn 2 1 1) (15 ∷ []) (0 ∷ 0 ∷ 0 ∷ []) 2
    ∷ Begin 2 (txn 2 1 1) (0 ∷ 0 ∷ 0 ∷ [])
    ∷ []

-- site 3 takes over first what was committed last
abbrev taken : List Step
taken = begun ++ (Commit second ∷ Commit first ∷ Refresh 3 1 ∷ Refresh 3 2 ∷ [])

they_may_be_taken_over_in_another_order : judge three_sites [] taken ≡ None
they_may_be_taken_over_in_another_order = refl

the_history_has_the_second_first : committed taken ≡ past_of second ∷ past_of first ∷ []
the_history_has_the_second_first = refl

legal : LegalPast three_sites (reverse taken)
legal = ((((((((tt, refl), refl), refl), refl), refl), refl), refl), refl)

the_store_has_the_first_first : Stores three_sites (reverse taken) 3 (past_of first ∷ past_of second ∷ [])
the_store_has_the_first_first =
    stores_refresh three_sites (Refresh 3 1 ∷ Commit first ∷ Commit second ∷ reverse begun) 3 2 second (past_of first ∷ []) legal refl
    (stores_refresh three_sites (Commit first ∷ Commit second ∷ reverse begun) 3 1 first [] legal.0 refl
    (stores_other three_sites (Commit second ∷ reverse begun) (Commit first) 3 [] legal.0.0 refl
    (stores_other three_sites (reverse begun) (Commit second) 3 [] legal.0.0.0 refl
    (record { has = λ key. refl; within = tt }))))

it_reads_both : (value_of three_sites (past_of first ∷ past_of second ∷ []) 3 (1 ∷ 1 ∷ 0 ∷ []) ≡ pos 5)
    × (value_of three_sites (past_of first ∷ past_of second ∷ []) 15 (1 ∷ 1 ∷ 0 ∷ []) ≡ pos 6)
it_reads_both = (refl, refl)

-- ---- a Restart

-- site 1 has its commit in doubt, and its log has the record
abbrev restarted : List Step
restarted = Restart 1 (1 ∷ 0 ∷ []) Kept ∷ reverse in_doubt

abbrev kept : Past
kept = record { origin = 1; seq = 1; writes = pair 3 9 ∷ [] }

may_restart : LegalPast two_sites restarted
may_restart = (((((((tt, refl), refl), refl), refl), refl), refl), refl)

a_kept_commit_is_in_the_store : Stores two_sites restarted 1 (kept ∷ [])
a_kept_commit_is_in_the_store = stores_restart two_sites in_doubt 1 (1 ∷ 0 ∷ []) Kept may_restart

-- ---- what no store has

-- a later writer of key 3
abbrev later : Entry
later = record first { seq = 2; begin = 1 ∷ 0 ∷ 0 ∷ [] }

abbrev last_number : List Past → ℕ
last_number [] = 0
last_number (t ∷ []) = t.seq
last_number (t ∷ ts) = last_number ts

the_writers_of_a_key_keep_their_order : Has (later ∷ first ∷ []) (2 ∷ 0 ∷ 0 ∷ []) (past_of later ∷ past_of first ∷ []) → ⊥
the_writers_of_a_key_keep_their_order has = let same : 1 ≡ 2 = ap last_number (has 3) in omega (arith, same)

none_is_left_out : Has (later ∷ first ∷ []) (2 ∷ 0 ∷ 0 ∷ []) (past_of first ∷ []) → ⊥
none_is_left_out has = let same : 1 ≡ 2 = ap last_number (has 3) in omega (arith, same)

nothing_is_above_the_vector : Stores two_sites [] 1 (past_of first ∷ []) → ⊥
nothing_is_above_the_vector stores = let within = stores.within.0 in omega (arith, within)
