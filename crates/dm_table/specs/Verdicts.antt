-- What is made of entries that were looked at.
use Rattle.std.specs.Prelude.{ℕ, ◌≡◌, ◌≢◌, ◌≤◌, if◌then◌else◌, min, List, Option, Some, None, is_some, IsSome}
use Rattle.dm_chronicle.specs.Rule.{In}
use Rattle.dm_table.specs.declared.looks.Glance.{Glance}
use Rattle.dm_table.specs.declared.looks.Verdict.{Verdict}
use Rattle.dm_table.specs.declared.looks.Verdict.TheVariants.{Agreed, Mixed, Unsettled}

-- one of them is the partition's, and is asked
abbrev pub IsAsked : ℕ → List Glance → Type 0
IsAsked part seen = (glance : Glance) × In glance seen × (glance.part ≡ part) × IsSome glance.asked

-- the site masters one of them
abbrev pub Masters : ℕ → List Glance → Type 0
Masters site seen = (glance : Glance) × In glance seen × (glance.site ≡ site)

abbrev pub NoneAsked : List Glance → Type 0
NoneAsked seen = (part : ℕ) → IsAsked part seen → ⊥

-- the least partition of them that is asked, if one is
abbrev pub IsLeastAsked : List Glance → Option ℕ → Type 0
IsLeastAsked seen (Some part) = IsAsked part seen × ((other : ℕ) → IsAsked other seen → part ≤ other)
IsLeastAsked seen None = NoneAsked seen

-- the same of one more, where it is known of the others
abbrev pub least_with : Glance → Option ℕ → Option ℕ
least_with first None = if is_some first.asked then Some first.part else None
least_with first (Some part) = if is_some first.asked then Some (min part first.part) else Some part

-- the least partition that is asked, or two masters that differ, or the one master
abbrev pub IsVerdict : List Glance → Verdict → Type 0
IsVerdict seen (Unsettled part) = IsLeastAsked seen (Some part)
IsVerdict seen (Mixed one other) = NoneAsked seen × Masters one seen × Masters other seen × (one ≢ other)
IsVerdict seen (Agreed site) = NoneAsked seen × Masters site seen × ((other : ℕ) → Masters other seen → other ≡ site)
