-- One history of eight steps, and what the vectors, a value, the floors and a placing are after each: the table that opens the
-- page on the definitions.
use Rattle.std.specs.Prelude.{ℕ, ℤ, pos, ◌≡◌, List, [], ◌∷◌, None, map, take, reverse, refl}
use Rattle.dm_event.specs.declared.placing.Placing.{Placing}
use Rattle.dm_event.specs.declared.placing.Placing.TheVariants.{Settled, Asked, Between, Granted}
use Rattle.dm_event.specs.declared.step.Choice.TheVariants.{Hand}
use Rattle.dm_event.specs.declared.step.Op.TheVariants.{Write}
use Rattle.dm_event.specs.declared.step.Step.{Step}
use Rattle.dm_event.specs.declared.step.Step.TheVariants.{Route, Ask, Begin, Refresh, Release, Grant}
use Rattle.dm_event.specs.declared.step.Want.TheVariants as want
use Rattle.dm_model.proofs.Worked.{judge, two_sites, txn, pair, route, commit}
use Rattle.dm_model.specs.Floors.{floor}
use Rattle.dm_model.specs.Placings.{placing}
use Rattle.dm_model.specs.Progress.{site_vector}
use Rattle.dm_model.specs.Values.{value}

-- session 1 writes at site 1, site 2 takes that over, and session 2 has the partition placed there
abbrev pub eight : List Step
eight =
    route (txn 1 1 1) (3 ∷ []) (0 ∷ 0 ∷ []) 1
    ∷ Begin 1 (txn 1 1 1) (0 ∷ 0 ∷ [])
    ∷ commit (txn 1 1 1) 1 1 (0 ∷ 0 ∷ []) (Write 3 (pos 5) ∷ []) [] (pair 3 5 ∷ [])
    ∷ Refresh 2 1
    ∷ Route (txn 2 1 1) (want.Place 0) (0 ∷ 0 ∷ []) 2 Hand
    ∷ Ask 0 0 2 (txn 2 1 1)
    ∷ Release 1 0 0 2 (1 ∷ 0 ∷ [])
    ∷ Grant 2 0 1 (1 ∷ 0 ∷ [])
    ∷ []

each_may_follow : judge two_sites [] eight ≡ None
each_may_follow = refl

-- what the function gives at the opening and after each step
abbrev pub after_each : {A : Type 0} → (List Step → A) → List A
after_each f = map (λ n. f (reverse (take n eight))) (0 ∷ 1 ∷ 2 ∷ 3 ∷ 4 ∷ 5 ∷ 6 ∷ 7 ∷ 8 ∷ [])

abbrev pub none : List ℕ
none = 0 ∷ 0 ∷ []

abbrev pub one : List ℕ
one = 1 ∷ 0 ∷ []

vector_of_site_1 : after_each (λ past. site_vector 2 past 1) ≡ none ∷ none ∷ none ∷ one ∷ one ∷ one ∷ one ∷ one ∷ one ∷ []
vector_of_site_1 = refl

vector_of_site_2 : after_each (λ past. site_vector 2 past 2) ≡ none ∷ none ∷ none ∷ none ∷ one ∷ one ∷ one ∷ one ∷ one ∷ []
vector_of_site_2 = refl

key_3_at_site_2 : after_each (λ past. value two_sites past 3 (site_vector 2 past 2))
    ≡ pos 0 ∷ pos 0 ∷ pos 0 ∷ pos 0 ∷ pos 5 ∷ pos 5 ∷ pos 5 ∷ pos 5 ∷ pos 5 ∷ []
key_3_at_site_2 = refl

floor_of_site_1 : after_each (λ past. floor 2 past 1) ≡ none ∷ none ∷ none ∷ one ∷ one ∷ one ∷ one ∷ one ∷ one ∷ []
floor_of_site_1 = refl

floor_of_site_2 : after_each (λ past. floor 2 past 2) ≡ none ∷ none ∷ none ∷ none ∷ none ∷ none ∷ none ∷ none ∷ one ∷ []
floor_of_site_2 = refl

partition_0 : after_each (λ past. placing two_sites past 0)
    ≡ Settled 1 0 ∷ Settled 1 0 ∷ Settled 1 0 ∷ Settled 1 0 ∷ Settled 1 0 ∷ Settled 1 0 ∷ Asked 1 0 2 ∷ Between 1 0 2 one ∷ Granted 2 1 ∷ []
partition_0 = refl
