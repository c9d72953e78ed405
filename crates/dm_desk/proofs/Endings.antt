-- There is room for a step by which something comes to its end.
use Rattle.std.proofs.Common.{ℕ, ◌≡◌, true, List, Option, Some, sym, subst}
use Rattle.std.proofs.lemmas.Bool.{false≢true}
use Rattle.std.specs.Prelude.{reverse, IsSomeAnd}
use Rattle.dm_core.specs.Lawful.{Terms, may_follow}
use Rattle.dm_core.specs.Ledger.{Ledger, past}
use Rattle.dm_event.specs.Layout.{Layout}
use Rattle.dm_event.specs.declared.step.Step.{Step}
use Rattle.dm_event.specs.declared.step.Step.TheVariants.{Moved, Commit, End, Fail, Release, Grant, Doubt}
use Rattle.dm_kept.specs.Roomy.{HasRoom}
use Rattle.dm_model.specs.Allowed.{Allowed}
use Rattle.dm_model.specs.Legal.{Legal, LegalPast}
use Rattle.dm_room.proofs.Needs.{need_is, doubt_free}
use Rattle.dm_room.specs.Room.{need}
use Rattle.dm_invariant.specs.Turning.{is_ending}

-- it needs none beside what is kept
pub ending_needs_none : (layout : Layout) (items : List ℕ) (past : List Step) (step : Step) → LegalPast layout past → Allowed layout past step
    → is_ending step ≡ true → need layout items past step ≡ 0
ending_needs_none layout items past (Moved site txn) l a e = need_is layout items past (Moved site txn) (l, a)
ending_needs_none layout items past (Commit entry) l a e = need_is layout items past (Commit entry) (l, a)
ending_needs_none layout items past (End site txn ops reads) l a e = need_is layout items past (End site txn ops reads) (l, a)
ending_needs_none layout items past (Fail site txn cause) l a e = need_is layout items past (Fail site txn cause) (l, a)
ending_needs_none layout items past (Release site part epoch to vector) l a e = need_is layout items past (Release site part epoch to vector) (l, a)
ending_needs_none layout items past (Grant site part epoch vector) l a e = need_is layout items past (Grant site part epoch vector) (l, a)
ending_needs_none layout items past (Doubt site p) l a e = doubt_free layout items past site p (l, a)
ending_needs_none layout items past other l a e = absurd (false≢true e)

-- a step that may come in a turn may come after the history of the book in hand
pub follows_book : (fixed : Option Terms) (seen : List Step) (book : Ledger) (step : Step) → fixed ≡ Some (record { layout = book.layout; items = book.items })
    → book.steps ≡ seen → IsSomeAnd fixed (λ f. may_follow f seen step) → Allowed book.layout (past book) step
follows_book fixed seen book step f s h =
    subst (λ (steps : List Step). Allowed book.layout (reverse steps) step) (sym s)
    (subst (λ (o : Option Terms). IsSomeAnd o (λ f. may_follow f seen step)) f h)

-- a book tells that its history is legal, so the step needs no room beside what is kept
pub ending_fits : (book : Ledger) (steps : List Step) (fixed : Option Terms) (seen : List Step) (step : Step) → steps ≡ book.steps → Legal book.layout steps
    → fixed ≡ Some (record { layout = book.layout; items = book.items }) → book.steps ≡ seen → IsSomeAnd fixed (λ f. may_follow f seen step)
    → is_ending step ≡ true → need book.layout book.items (past book) step ≡ 0
ending_fits book steps fixed seen step e l f s h ends =
    ending_needs_none book.layout book.items (past book) step (subst (λ (steps : List Step). Legal book.layout steps) e l)
    (follows_book fixed seen book step f s h) ends

-- what the book in hand has room for
pub in_hand : (kept : Option Ledger) (book : Ledger) (step : Step) → kept ≡ Some book → HasRoom book step → IsSomeAnd kept (λ book. HasRoom book step)
in_hand kept book step e h = subst (λ (o : Option Ledger). IsSomeAnd o (λ book. HasRoom book step)) (sym e) h
