-- There is room for the Reply to a counted item.
use Rattle.std.proofs.Common.{◌≡◌, List, Option, Some, ◌∷◌, sym, subst}
use Rattle.std.specs.Prelude.{reverse, IsSomeAnd}
use Rattle.dm_core.specs.Lawful.{Terms, may_follow}
use Rattle.dm_core.specs.Ledger.{Ledger, past}
use Rattle.dm_desk.proofs.Endings.{follows_book}
use Rattle.dm_event.specs.declared.step.Step.{Step}
use Rattle.dm_event.specs.declared.step.Step.TheVariants.{Reply}
use Rattle.dm_model.specs.Legal.{Legal, LegalPast}
use Rattle.dm_room.proofs.Needs.{reply_free}
use Rattle.dm_room.specs.Room.{need}
use Rattle.dm_session.specs.Sitting.{IsAnswer}

answer_free : (terms : Terms) (steps : List Step) (step : Step) → LegalPast terms.layout (step ∷ reverse steps) → IsAnswer terms steps step
    → need terms.layout terms.items (reverse steps) step ≡ 0
answer_free terms steps (Reply session number said) l a = reply_free terms.layout terms.items (reverse steps) session number said l a
answer_free terms steps other l a = absurd a

-- a book tells that its history is legal, so the Reply needs no room beside what is kept
pub answer_fits : (book : Ledger) (steps : List Step) (fixed : Option Terms) (seen : List Step) (step : Step) → steps ≡ book.steps
    → Legal book.layout steps → fixed ≡ Some (record { layout = book.layout; items = book.items }) → book.steps ≡ seen
    → IsSomeAnd fixed (λ f. may_follow f seen step) → IsSomeAnd fixed (λ f. IsAnswer f seen step)
    → need book.layout book.items (past book) step ≡ 0
answer_fits book steps fixed seen step e l f s h a =
    let terms : Terms = record { layout = book.layout; items = book.items } in
    let here : IsAnswer terms book.steps step =
    subst (λ (steps : List Step). IsAnswer terms steps step) (sym s) (subst (λ (o : Option Terms). IsSomeAnd o (λ f. IsAnswer f seen step)) f a) in
    answer_free terms book.steps step (subst (λ (steps : List Step). Legal book.layout steps) e l, follows_book fixed seen book step f s h) here
