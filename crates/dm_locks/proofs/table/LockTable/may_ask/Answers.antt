use Rattle.std.proofs.Common.{sym, ap, ◌∙◌, ◌≡◌, List, not, true, false, ◌==◌}
use Rattle.std.specs.List.{list_any}
use Rattle.dm_model.specs.Words.{count_of}
use Rattle.dm_locks.proofs.Counts.{none_of_both}
use Rattle.dm_locks.specs.Claims.{is_of_session}
use Rattle.dm_locks.specs.Locks.{Locks, everyone}
use Rattle.dm_locks.specs.declared.claim.Claim.{Claim}
use Rattle.dm_locks.proofs.table.LockTable.may_ask.Goals as goal

pub returns-then-not-is_of_any : goal.returns-then-not-is_of_any
returns-then-not-is_of_any c =
    let p = is_of_session c.args.session in
    let hs = c.self.inside.holders.items in
    let ws = c.self.inside.waiters.items in
    let held : list_any p hs ≡ false = ap (λ (cs : List Claim). list_any p cs) (sym c.deref.ensures.value) ∙ sym c.is_of_any.ensures ∙ c.if-not-is_of_any.true in
    let waits : c.is_of_any-then-not-is_of_any.result ≡ list_any p ws = c.is_of_any-then-not-is_of_any.ensures
    ∙ ap (λ (cs : List Claim). list_any p cs) c.deref-then-not-is_of_any.ensures.value in
    ap not waits ∙ none_of_both p hs ws false held ∙ ap (λ (locks : Locks). count_of p (everyone locks) == 0) c.self.view_is

pub returns-else-not-is_of_any : goal.returns-else-not-is_of_any
returns-else-not-is_of_any c =
    let p = is_of_session c.args.session in
    let hs = c.self.inside.holders.items in
    let held : list_any p hs ≡ true = ap (λ (cs : List Claim). list_any p cs) (sym c.deref.ensures.value) ∙ sym c.is_of_any.ensures ∙ c.if-not-is_of_any.false in
    ap not c.if-not-is_of_any.false ∙ none_of_both p hs c.self.inside.waiters.items true held
    ∙ ap (λ (locks : Locks). count_of p (everyone locks) == 0) c.self.view_is
