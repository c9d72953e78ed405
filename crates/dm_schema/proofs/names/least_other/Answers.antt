use Rattle.std.proofs.Common.{◌≡◌, ◌∙◌, ap, refl, Option, Some, None, option_map, String, Global, string_bytes, Bor}
use Rattle.std.specs.Option.{option_copied}
use Rattle.dm_schema.proofs.LeastNames.{first_other_is_least}
use Rattle.dm_schema.proofs.names.least_other.Goals as goal

-- the bytes behind the reference
bytes_behind : (r : Option (Bor (String Global))) → option_map (λ name. string_bytes name.now) r ≡ option_map (λ name. string_bytes name) (option_copied r)
bytes_behind None = refl
bytes_behind (Some name) = refl

pub returns : goal.returns
returns c =
    bytes_behind c.first_other.result ∙ ap (option_map (λ name. string_bytes name)) c.first_other.ensures.first
    ∙ first_other_is_least c.args.names.now c.args.table.now.entries c.first_other.ensures.ascending
