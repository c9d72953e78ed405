use Rattle.std.proofs.Common.{ℕ, ◌≡◌, List, sym, ap, ◌∙◌, subst}
use Rattle.std.specs.Prelude.{option_copied, reverse}
use Rattle.dm_event.specs.declared.step.Step.{Step}
use Rattle.dm_kept.proofs.KeptCount.{finds, off_by, told_need}
use Rattle.dm_kept.specs.Finding.{Finds}
use Rattle.dm_kept.specs.Ledger.{Ledger, past}
use Rattle.dm_model.specs.Allowed.{Allowed}
use Rattle.dm_room.specs.Room.{need}
use Rattle.dm_steps.specs.Pendings.{kept_of}
use Rattle.dm_kept.proofs.kept.Kept.need.Goals as goal

pub kept_of-pending-requires : goal.kept_of-pending-requires
kept_of-pending-requires c =
    let b = c.self.inside in
    subst (λ (l : List Step). Finds l b.index) (sym c.deref.ensures.value) (finds b.schema b.steps.items b.index c.self.invariant.places)

pub returns : goal.returns
returns c =
    let b = c.self.inside in
    let inv = c.self.invariant in
    let s = c.args.step.now in
    let p = reverse b.steps.items in
    let allowed : Allowed b.schema p s = subst (λ (k : Ledger). Allowed k.layout (past k) s) (sym c.self.view_is) c.requires in
    let left : option_copied c.kept_of-pending.result ≡ kept_of s p = c.kept_of-pending.ensures
    ∙ ap (λ (l : List Step). kept_of s (reverse l)) c.deref.ensures.value in
    let off : c.comes_off.result ≡ off_by s b.items.items b.states (option_copied c.kept_of-pending.result) =
    c.comes_off.ensures.exact ∙ ap (λ (l : List ℕ). off_by s l b.states (option_copied c.kept_of-pending.result)) c.deref-2.ensures.value in
    c.saturating_sub.ensures
    ∙ sym (told_need b.schema b.items.items p inv.legal s allowed b.states inv.states b.numbers inv.numbers c.comes_on-on.result c.comes_off.result
    (option_copied c.kept_of-pending.result) left c.comes_on-on.ensures.exact off)
    ∙ ap (λ (k : Ledger). need k.layout k.items (past k) s) c.self.view_is
