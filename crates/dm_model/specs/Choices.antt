-- To which site a transaction is routed.
use Rattle.std.specs.List.{list_all, range_with_len}
use Rattle.std.specs.Prelude.{ℕ, ◌+◌, ◌-◌, ◌/◌, ◌%◌, ℤ, if◌then◌else◌, List, [], ◌∷◌, Option, Some, None, unwrap_or, find, take, filter_map, map, length}
use Rattle.dm_event.specs.Layout.{Layout}
use Rattle.dm_event.specs.Vectors.{sites_to, is_at_most}
use Rattle.dm_event.specs.declared.limits.TheConstants.{WINDOW}
use Rattle.dm_event.specs.declared.step.Choice.{Choice}
use Rattle.dm_event.specs.declared.step.Choice.TheVariants.{Master, Best, Reader, Hand}
use Rattle.dm_event.specs.declared.step.Step.{Step}
use Rattle.dm_event.specs.declared.step.Step.TheVariants.{Route}
use Rattle.dm_event.specs.declared.step.Want.{Want}
use Rattle.dm_event.specs.declared.step.Want.TheVariants as want
use Rattle.dm_model.specs.Placings.{placing, home_now, settled_at}
use Rattle.dm_model.specs.Progress.{site_vector}
use Rattle.dm_model.specs.Scores.{score_of, best_site}
use Rattle.dm_model.specs.Sessions.{session_vector}
use Rattle.dm_model.specs.Tests.{is_among}

-- the elements, of those that stand twice the last only
abbrev pub distinct : List ℕ → List ℕ
distinct [] = []
distinct (x ∷ xs) = if is_among xs x then distinct xs else x ∷ distinct xs

-- the partition of each key
abbrev pub parts_in_order : Layout → List ℕ → List ℕ
parts_in_order layout keys = map (λ key. key / layout.width) keys

-- the set of the partitions of the keys
abbrev pub parts_of : Layout → List ℕ → List ℕ
parts_of layout keys = distinct (parts_in_order layout keys)

-- the partitions of a Route with declared keys
abbrev pub declared_parts : Layout → Step → Option (List ℕ)
declared_parts layout (Route txn (want.Txn []) min site choice) = None
declared_parts layout (Route txn (want.Txn (key ∷ keys)) min site choice) = Some (parts_of layout (key ∷ keys))
declared_parts layout s = None

-- the sets of partitions of the last Routes with declared keys
abbrev pub window : Layout → List Step → List (List ℕ)
window layout past = take WINDOW (filter_map (declared_parts layout) past)

abbrev pub home : Layout → List Step → ℕ → ℕ
home layout past part = home_now (placing layout past part)

-- the site's score for the wanted partitions
abbrev pub score : Layout → List Step → List ℕ → ℕ → ℤ
score layout past wanted site =
    score_of layout.weights layout.sites (length layout.masters) (window layout past) (home layout past) (site_vector layout.sites past) wanted site

-- the least site of greatest score
abbrev pub choose : Layout → List Step → List ℕ → ℕ
choose layout past wanted = best_site (score layout past wanted) (sites_to layout.sites) 1

-- the site at which all the partitions are settled
abbrev pub settled_site : Layout → List Step → List ℕ → Option ℕ
settled_site layout past parts = find (λ site. list_all (λ p. settled_at (placing layout past p) site) parts) (sites_to layout.sites)

-- the sites in a circle from the session's own on
abbrev pub circle : ℕ → ℕ → List ℕ
circle sites session = map (λ k. 1 + (session - 1 + k) % sites) (range_with_len 0 sites)

-- the first site of the circle that has what the session has seen, or the first of all where none has
abbrev pub reader_site : Layout → List Step → ℕ → ℕ
reader_site layout past session =
    unwrap_or (find (λ site. is_at_most (session_vector layout.sites past session) (site_vector layout.sites past site))
    (circle layout.sites session))
    (1 + (session - 1) % layout.sites)

abbrev pub writer_choice : Option ℕ → ℕ → ℕ × Choice
writer_choice (Some site) best = (site, Master)
writer_choice None best = (best, Best)

-- the site and the choice that are due for a transaction of the session with these declared keys
abbrev pub choice_due : Layout → List Step → ℕ → List ℕ → ℕ × Choice
choice_due layout past session [] = (reader_site layout past session, Reader)
choice_due layout past session (key ∷ keys) =
    let parts = parts_of layout (key ∷ keys) in
    writer_choice (settled_site layout past parts) (choose layout past parts)

-- the site and the choice that are due for a Route to the site: a partition is placed, and a site restarted, by hand only
abbrev pub due_for : Layout → List Step → ℕ → Want → ℕ → ℕ × Choice
due_for layout past session (want.Txn keys) site = choice_due layout past session keys
due_for layout past session (want.Place part) site = (site, Hand)
due_for layout past session want.Restart site = (site, Hand)
