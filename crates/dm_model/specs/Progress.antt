-- How far each site has come.
use Rattle.std.specs.Prelude.{ℕ, ◌+◌, Bool, false, ◌==◌, ◌&&◌, if◌then◌else◌, List, [], Option, Some, None, unwrap_or}
use Rattle.dm_event.specs.Vectors.{at, vector_by}
use Rattle.dm_event.specs.declared.step.Step.{Step}
use Rattle.dm_event.specs.declared.step.Step.TheVariants.{Refresh, Restart}
use Rattle.dm_model.specs.Acts.{entries}
use Rattle.dm_model.specs.Words.{latest, since, count_of}

-- how many entries the origin has
abbrev pub entry_count : ℕ → List Step → ℕ
entry_count origin past = count_of (λ e. e.origin == origin) (entries past)

-- the number of entries of each origin
abbrev pub full : ℕ → List Step → List ℕ
full count past = vector_by count (λ origin. entry_count origin past)

abbrev pub is_restart : ℕ → Step → Bool
is_restart i (Restart site vector found) = site == i
is_restart i s = false

abbrev pub restart_vector : ℕ → Step → Option (List ℕ)
restart_vector i (Restart site vector found) = if site == i then Some vector else None
restart_vector i s = None

abbrev pub is_refresh : ℕ → ℕ → Step → Bool
is_refresh i j (Refresh site origin) = (site == i) && (origin == j)
is_refresh i j s = false

-- what the site's last Restart set, 0 before any, plus the site's Refreshes from the origin since then
abbrev pub refreshed : ℕ → ℕ → List Step → ℕ
refreshed site origin past =
    at (unwrap_or (latest (restart_vector site) past) []) origin + count_of (is_refresh site origin) (since (is_restart site) past)

-- how many entries of the origin the site has: all of its own, and of another origin those that it took over
abbrev pub reached : ℕ → ℕ → List Step → ℕ
reached site origin past = if site == origin then entry_count site past else refreshed site origin past

-- the site's vector
abbrev pub site_vector : ℕ → List Step → ℕ → List ℕ
site_vector count past site = vector_by count (λ origin. reached site origin past)
