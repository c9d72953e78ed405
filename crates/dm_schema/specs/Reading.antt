-- The schema that a document says, or its first flaw.
use Rattle.std.specs.Prelude.{◌≡◌, ℕ, ◌*◌, List, [], ◌∷◌, length, Option, Some, None, option_and_then, Result, Ok, Err, codes, if◌then◌else◌}
use Rattle.std.specs.Str.{is_utf8}
use Rattle.toml.specs.Data.{Data, Members, get_member, as_integer}
use Rattle.toml.specs.Parse.{parse_document}
use Rattle.dm_event.specs.Layout.{Layout}
use Rattle.dm_event.specs.declared.limits.TheConstants.{MAX_SITES, MAX_WIDTH}
use Rattle.dm_event.specs.declared.schema.Weights.{Weights}
use Rattle.dm_event.specs.declared.schema.ValueRange.{ValueRange}
use Rattle.dm_schema.specs.declared.error.SchemaError.{SchemaError}
use Rattle.dm_schema.specs.declared.error.SchemaError.TheVariants as errors
use Rattle.dm_schema.specs.declared.error.SchemaFlaw.{SchemaFlaw}
use Rattle.dm_schema.specs.declared.error.SchemaFlaw.TheVariants.{NotToml, Unknown, Missing, WrongType, Range}
use Rattle.dm_schema.specs.Names.{least_other}
use Rattle.dm_schema.specs.Parts.{integers, three, spans, within, masters_in, weights_in, ranges_in}

-- one thing after the other, up to the first flaw
infixl 10 ◌>>=◌
abbrev pub ◌>>=◌ : {A B : Type 0} → Result A SchemaFlaw → (A → Result B SchemaFlaw) → Result B SchemaFlaw
(Ok x) >>= f = f x
(Err flaw) >>= f = Err flaw

-- a value, or a flaw where there is none
abbrev pub or_flaw : {A : Type 0} → SchemaFlaw → Option A → Result A SchemaFlaw
or_flaw flaw (Some x) = Ok x
or_flaw flaw None = Err flaw

abbrev pub required : {A : Type 0} → List ℕ → Option A → Result A SchemaFlaw
required name found = or_flaw (Missing name) found

abbrev pub typed : {A : Type 0} → List ℕ → Option A → Result A SchemaFlaw
typed name found = or_flaw (WrongType name) found

abbrev pub ranged : {A : Type 0} → List ℕ → Option A → Result A SchemaFlaw
ranged name found = or_flaw (Range name) found

-- the document that the bytes are
unfoldable pub document_of : List ℕ → Result Members SchemaFlaw
document_of bytes = or_flaw NotToml (if is_utf8 bytes then parse_document bytes else None)

abbrev pub schema_names : List (List ℕ)
schema_names = codes "sites" ∷ codes "width" ∷ codes "masters" ∷ codes "weights" ∷ codes "values" ∷ []

-- a flaw where there is a name that isn't known
abbrev pub none_unknown : Option (List ℕ) → Result (Unit {0}) SchemaFlaw
none_unknown None = Ok tt
none_unknown (Some name) = Err (Unknown name)

-- a number from 1 up
unfoldable pub number_of : List ℕ → ℕ → Members → Result ℕ SchemaFlaw
number_of name most ms = do
  d ← required name (get_member name ms)
  z ← typed name (as_integer d)
  ranged name (within 1 most z)

unfoldable pub masters_of : ℕ → Members → Result (List ℕ) SchemaFlaw
masters_of sites ms = do
  d ← required (codes "masters") (get_member (codes "masters") ms)
  zs ← typed (codes "masters") (integers d)
  ranged (codes "masters") (masters_in sites zs)

-- the weights of a schema that names none
abbrev pub even : Weights
even = record { balance = 1; delay = 1; together = 1 }

abbrev pub weights_at : Option Data → Result Weights SchemaFlaw
weights_at None = Ok even
weights_at (Some d) = do
  zs ← typed (codes "weights") (option_and_then three (integers d))
  ranged (codes "weights") (weights_in zs)

unfoldable pub weights_of : Members → Result Weights SchemaFlaw
weights_of ms = weights_at (get_member (codes "weights") ms)

abbrev pub values_at : ℕ → Option Data → Result (List ValueRange) SchemaFlaw
values_at keys None = Ok []
values_at keys (Some d) = do
  found ← typed (codes "values") (spans d)
  ranged (codes "values") (ranges_in keys found)

unfoldable pub values_of : ℕ → Members → Result (List ValueRange) SchemaFlaw
values_of keys ms = values_at keys (get_member (codes "values") ms)

-- what a document says
unfoldable pub schema_in : Members → Result Layout SchemaFlaw
schema_in ms = do
  known ← none_unknown (least_other schema_names ms)
  sites ← number_of (codes "sites") MAX_SITES ms
  width ← number_of (codes "width") MAX_WIDTH ms
  masters ← masters_of sites ms
  weights ← weights_of ms
  values ← values_of (length masters * width) ms
  Ok (record { sites = sites; width = width; masters = masters; weights = weights; values = values })

-- what the bytes of a file say
unfoldable pub schema_of : List ℕ → Result Layout SchemaFlaw
schema_of bytes = document_of bytes >>= schema_in

-- What a function answered, seen by view, is what is read, unless memory ran out.

abbrev pub Fails : {Y : Type 0} → SchemaError → Result Y SchemaFlaw → Type 0
Fails errors.Memory read = Unit {0}
Fails (errors.Fault flaw) read = read ≡ Err flaw

abbrev pub Gives : {X Y : Type 0} → (X → Y) → Result X SchemaError → Result Y SchemaFlaw → Type 0
Gives view (Ok x) read = read ≡ Ok (view x)
Gives view (Err e) read = Fails e read
