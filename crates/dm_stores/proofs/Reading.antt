-- What a store reads that has the history's writers.
use Rattle.std.proofs.Common.{ℕ, ◌≡◌, List, ap, sym, subst, ◌∙◌}
use Rattle.std.proofs.lemmas.List.{reverse-reverse}
use Rattle.std.specs.Prelude.{reverse}
use Rattle.dm_event.specs.Layout.{Layout}
use Rattle.dm_event.specs.Vectors.{AtMost}
use Rattle.dm_event.specs.declared.step.Step.{Step}
use Rattle.dm_model.specs.Acts.{entries}
use Rattle.dm_model.specs.Progress.{site_vector}
use Rattle.dm_model.specs.Values.{value}
use Rattle.dm_store.proofs.Joining.{reads_by_key}
use Rattle.dm_store.specs.Reads.{value_of}
use Rattle.dm_store.specs.declared.past.Past.{Past}
use Rattle.dm_stores.specs.Stores.{Has, Stores}

pub stores_value : (layout : Layout) (past : List Step) (i : ℕ) (ins : List Past) → Stores layout past i ins
    → (v : List ℕ) (key : ℕ) → AtMost v (site_vector layout.sites past i) → value_of layout ins key v ≡ value layout past key v
stores_value layout past i ins k v key most =
    let turned : reverse (reverse past) ≡ past = reverse-reverse past in
    let u = site_vector layout.sites past i in
    reads_by_key layout (reverse past) u v key ins (subst (λ (xs : List Step). Has (entries xs) u ins) (sym turned) k.has) most
    ∙ ap (λ (xs : List Step). value layout xs key v) turned
