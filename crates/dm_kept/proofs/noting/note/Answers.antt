use Rattle.std.proofs.Common.{ℕ, ◌≡◌, false, ◌==◌, List, [], ◌∷◌, Some, length, sym, ap, ap₂, ◌∙◌, true≢false}
use Rattle.dm_event.specs.Layout.{Layout}
use Rattle.dm_event.specs.declared.step.Choice.{Choice}
use Rattle.dm_event.specs.declared.step.Step.{Step}
use Rattle.dm_event.specs.declared.step.Step.TheVariants.{Route}
use Rattle.dm_event.specs.declared.step.TxnId.{TxnId}
use Rattle.dm_event.specs.declared.step.Want.{Want}
use Rattle.dm_event.specs.declared.step.Want.TheVariants.{Txn}
use Rattle.dm_model.specs.Choices.{declared_parts, parts_of}
use Rattle.dm_placement.specs.Sets.{noted}
use Rattle.dm_kept.proofs.noting.note.Goals as goal

-- a Route with a key declares the partitions of its keys
declares : (layout : Layout) (s : Step) (txn : TxnId) (want : Want) (min : List ℕ) (site : ℕ) (choice : Choice) (keys : List ℕ)
    → s ≡ Route txn want min site choice → want ≡ Txn keys → (length keys == 0) ≡ false
    → declared_parts layout s ≡ Some (parts_of layout keys)
declares layout s txn want min site choice [] e f some = absurd (true≢false some)
declares layout s txn want min site choice (key ∷ keys) e f some =
    ap (λ (t : Step). declared_parts layout t) e ∙ ap (λ (w : Want). declared_parts layout (Route txn w min site choice)) f

pub returns-in-Txn : goal.returns-in-Txn
returns-in-Txn c = λ past told.
    let layout = c.args.schema.now in
    let r = c.in-Route in
    let some : (length c.in-Txn.keys == 0) ≡ false = ap (λ (l : List ℕ). length l == 0) (sym c.as_slice.ensures.same) ∙ sym c.is_empty.ensures
    ∙ c.if-not-is_empty.true in
    c.note.ensures
    ∙ ap₂ (λ (sets : List (List ℕ)) (set : List ℕ). noted sets set) told c.parts_of.ensures.exact
    ∙ c.choices_due.ensures.noted layout past c.args.step.now (parts_of layout c.in-Txn.keys)
    (declares layout c.args.step.now r.txn r.want r.min r.site r.choice c.in-Txn.keys r.is c.in-Txn.is some)
