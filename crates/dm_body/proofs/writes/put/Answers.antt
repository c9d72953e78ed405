use Rattle.std.proofs.Common.{ℤ, List, ◌≡◌, ◌<◌, length, set, rules, arith, sym, ap, ◌∙◌, w64}
use Rattle.std.specs.Prelude.{insert}
use Rattle.std.proofs.lemmas.Int.{to_z-of_z}
use Rattle.std.proofs.lemmas.List.{get_or_read}
use Rattle.dm_event.specs.declared.step.Pair.{Pair}
use Rattle.dm_body.proofs.Puts.{place, put_same_at, put_new_at}
use Rattle.dm_body.proofs.writes.put.Goals as goal
use Rattle.dm_body.proofs.writes.put.Goals.{else-at-len-via-then-at-len+else-index-key, else-at-len-via-else-at-len}

pub returns-then-index-key-clause-put : goal.returns-then-index-key-clause-put
returns-then-index-key-clause-put c =
    let ps = c.args.writes.now.items in
    let at : c.place-at.result ≡ place ps c.args.key = c.place-at.ensures.place ∙ ap (λ (xs : List Pair). place xs c.args.key) c.deref.ensures.value in
    let within : c.place-at.result < length ps = omega arith in
    ap (λ (v : ℤ). set ps c.place-at.result (record { key = c.args.key; value = v })) (to_z-of_z w64 c.args.value c.ranges.value)
    ∙ put_same_at ps c.args.key c.args.value c.index.result.now c.place-at.result at within
    (ap (λ (p : Pair). p.key) (sym c.index.ensures) ∙ c.if-index-key.true)

pub returns-else-is_err-clause-put : goal.returns-else-is_err-clause-put
returns-else-is_err-clause-put c =
    let ps = c.args.writes.now.items in
    let at : c.place-at.result ≡ place ps c.args.key = c.place-at.ensures.place ∙ ap (λ (xs : List Pair). place xs c.args.key) c.deref.ensures.value in
    let inserted : c.insert.new.self.items ≡ insert ps c.place-at.result (record { key = c.args.key; value = c.args.value }) = search (rules, to_z-of_z) in
    inserted ∙ put_new_at ps c.args.key c.args.value (record { key = 0; value = c.args.value }) c.place-at.result at (elim c.else-at-len.branch [
      | else-at-len-via-then-at-len+else-index-key w ↦ λ l e. w.if-index-key.false
          (ap (λ (p : Pair). p.key) (get_or_read ps c.place-at.result w.index.result.now l w.index.ensures (record { key = 0; value = c.args.value })) ∙ e)
      | else-at-len-via-else-at-len w ↦ λ l e. absurd (omega arith)
    ])
