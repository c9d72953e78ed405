use Rattle.std.proofs.Common.{◌≡◌, ◌∙◌, sym, ℕ, List, Some, None, Ok, Err, inl, inr}
use Rattle.std.proofs.lemmas.Bool.{cases_Bool, false≢true}
use Rattle.std.proofs.lemmas.Str.{IsUtf8-from_is_utf8, is_utf8-from_IsUtf8}
use Rattle.std.specs.Str.{IsUtf8, is_utf8}
use Rattle.toml.specs.Data.{Members}
use Rattle.toml.specs.Parse.{parse_document}
use Rattle.dm_schema.specs.declared.error.SchemaFlaw.TheVariants.{NotToml}
use Rattle.dm_schema.specs.Reading.{document_of}
use Rattle.dm_schema.proofs.reading.document_of.Goals as goal

parsed : (bytes : List ℕ) (ms : Members) → IsUtf8 bytes → parse_document bytes ≡ Some ms → document_of bytes ≡ Ok ms
unfolding document_of
parsed bytes ms text read = rw (is_utf8-from_IsUtf8 bytes text, read)

refused : (bytes : List ℕ) → (IsUtf8 bytes → parse_document bytes ≡ None) → document_of bytes ≡ Err NotToml
unfolding document_of
refused bytes none = elim (cases_Bool (is_utf8 bytes)) [
  | inl e ↦ rw (e, none (IsUtf8-from_is_utf8 bytes e))
  | inr e ↦ rw e
]

pub returns-in-Ok : goal.returns-in-Ok
returns-in-Ok c = parsed c.args.bytes.now _ c.in-Ok.ensures.ok.0 c.in-Ok.ensures.ok.1

pub returns-else-is_memory : goal.returns-else-is_memory
returns-else-is_memory c =
    refused c.args.bytes.now (c.in-Err.ensures.refused (λ memory. false≢true (sym c.if-is_memory.false ∙ c.is_memory.ensures.1 memory)))
