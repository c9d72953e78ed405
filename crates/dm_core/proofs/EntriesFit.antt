-- An entry of a book has its origin among the components of its begin vector.
use Rattle.std.proofs.Common.{ℕ, ◌≡◌, ◌≤◌, Option, Some, None, Bor, length, sym}
use Rattle.std.specs.Prelude.{IfSome, option_copied, List}
use Rattle.dm_event.specs.Layout.{Layout}
use Rattle.dm_event.specs.declared.step.Entry.{Entry}
use Rattle.dm_event.specs.declared.step.Step.{Step}
use Rattle.dm_model.specs.Acts.{entry_at}
use Rattle.dm_model.specs.Legal.{LegalPast}
use Rattle.dm_steps.proofs.Legality.{made_entry}

pub entry_fits : (layout : Layout) (past : List Step) → LegalPast layout past → (j n : ℕ) (o : Option (Bor Entry)) → option_copied o ≡ entry_at j n past
    → IfSome o (λ entry. (1 ≤ entry.now.origin) × (entry.now.origin ≤ length entry.now.begin))
entry_fits layout past h j n None e = tt
entry_fits layout past h j n (Some entry) e = let made = made_entry layout past h j n entry.now (sym e) in (made.one, made.within)
