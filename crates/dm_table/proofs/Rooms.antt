-- There is room for a Settle.
use Rattle.std.proofs.Common.{ℕ, ◌≡◌, List, Option, Some, subst}
use Rattle.std.specs.Prelude.{IsSomeAnd}
use Rattle.dm_core.specs.Lawful.{Terms, may_follow}
use Rattle.dm_core.specs.Ledger.{Ledger, past}
use Rattle.dm_desk.proofs.Endings.{follows_book}
use Rattle.dm_event.specs.Layout.{Layout}
use Rattle.dm_event.specs.declared.step.Step.{Step}
use Rattle.dm_event.specs.declared.step.Step.TheVariants.{Settle}
use Rattle.dm_model.specs.Allowed.{Allowed}
use Rattle.dm_model.specs.Legal.{Legal, LegalPast}
use Rattle.dm_room.proofs.Needs.{need_is}
use Rattle.dm_room.specs.Room.{need}
use Rattle.dm_table.specs.Places.{IsSettle}

settle_needs_none : (layout : Layout) (items : List ℕ) (past : List Step) (step : Step) → LegalPast layout past → Allowed layout past step → IsSettle step
    → need layout items past step ≡ 0
settle_needs_none layout items past (Settle part epoch) l a s = need_is layout items past (Settle part epoch) (l, a)
settle_needs_none layout items past other l a s = absurd s

pub settle_fits : (book : Ledger) (steps : List Step) (fixed : Option Terms) (seen : List Step) (step : Step) → steps ≡ book.steps → Legal book.layout steps
    → fixed ≡ Some (record { layout = book.layout; items = book.items }) → book.steps ≡ seen → IsSomeAnd fixed (λ f. may_follow f seen step)
    → IsSettle step → need book.layout book.items (past book) step ≡ 0
settle_fits book steps fixed seen step e l f s h settles =
    settle_needs_none book.layout book.items (past book) step (subst (λ (steps : List Step). Legal book.layout steps) e l)
    (follows_book fixed seen book step f s h) settles
