use Rattle.std.proofs.Common.{◌∙◌, sym, ap, ◌+◌, ◌*◌, List, eqb}
use Rattle.dm_record.specs.Form.{done}
use Rattle.dm_event.specs.declared.step.Pair.{Pair}
use Rattle.dm_record.specs.declared.record.Record.TheVariants.{Commit}
use Rattle.dm_record.specs.Grammar.{is_commit_vector}
use Rattle.dm_record.specs.declared.record.Decoded.{Decoded}
use Rattle.dm_record.proofs.Walks.{walk_byte, walk_bad, walk_done, stops_on}
use Rattle.dm_record.proofs.parts.commit.Goals as goal

pub returns-then-not-is_commit_vector-clause-err : goal.returns-then-not-is_commit_vector-clause-err
returns-then-not-is_commit_vector-clause-err c =
    let is = c.in-Ok-byte.ensures.ok in
    c.in-Ok.ensures.ok _ ∙ c.in-Ok-number.ensures.ok _ ∙ c.in-Ok-number-2.ensures.ok _ ∙ c.in-Ok-number-3.ensures.ok _
    ∙ walk_bad (is_commit_vector c.args.n) _ c.args.bytes.now (c.args.at + 4 + 4 + 8 + 8) is.1 (ap (is_commit_vector c.args.n) (sym is.0)
    ∙ sym c.is_commit_vector.ensures.exact ∙ c.if-not-is_commit_vector.true)

pub returns-in-Err-pairs-clause-err : goal.returns-in-Err-pairs-clause-err
returns-in-Err-pairs-clause-err c =
    let chain =
    c.in-Ok.ensures.ok _ ∙ c.in-Ok-number.ensures.ok _ ∙ c.in-Ok-number-2.ensures.ok _ ∙ c.in-Ok-number-3.ensures.ok _
    ∙ walk_byte (is_commit_vector c.args.n) _ c.args.bytes.now (c.args.at + 4 + 4 + 8 + 8) c.in-Ok-byte.b c.in-Ok-byte.ensures.ok
    (sym c.is_commit_vector.ensures.exact ∙ c.if-not-is_commit_vector.false)
    ∙ c.in-Ok-vector.ensures.ok _
    ∙ walk_byte (λ count. eqb c.args.n (27 + 8 * c.in-Ok-byte.b + 12 * count)) _ c.args.bytes.now (c.args.at + 4 + 4 + 8 + 8 + 1 + 8 * c.in-Ok-byte.b)
    c.in-Ok-byte-2.b c.in-Ok-byte-2.ensures.ok (sym c.adds_up.ensures.exact ∙ c.if-not-adds_up.false) in
    stops_on c.in-Err-pairs.fault _ _ chain (c.in-Err-pairs.ensures.err _)

pub returns-clause-ok : goal.returns-clause-ok
returns-clause-ok c =
    c.in-Ok.ensures.ok _ ∙ c.in-Ok-number.ensures.ok _ ∙ c.in-Ok-number-2.ensures.ok _ ∙ c.in-Ok-number-3.ensures.ok _
    ∙ walk_byte (is_commit_vector c.args.n) _ c.args.bytes.now (c.args.at + 4 + 4 + 8 + 8) c.in-Ok-byte.b c.in-Ok-byte.ensures.ok
    (sym c.is_commit_vector.ensures.exact ∙ c.if-not-is_commit_vector.false)
    ∙ c.in-Ok-vector.ensures.ok _
    ∙ walk_byte (λ count. eqb c.args.n (27 + 8 * c.in-Ok-byte.b + 12 * count)) _ c.args.bytes.now (c.args.at + 4 + 4 + 8 + 8 + 1 + 8 * c.in-Ok-byte.b)
    c.in-Ok-byte-2.b c.in-Ok-byte-2.ensures.ok (sym c.adds_up.ensures.exact ∙ c.if-not-adds_up.false)
    ∙ c.in-Ok-pairs.ensures.ok (λ writes. done
    (Commit (record { session = c.in-Ok.n; number = c.in-Ok-number.n; attempt = c.in-Ok-number-2.n }) c.in-Ok-number-3.n c.in-Ok-vector.v writes))
    ∙ walk_done _ c.args.bytes.now _
    ∙ ap (λ (l : List Pair). Decoded.Whole (Commit (record { session = c.in-Ok.n; number = c.in-Ok-number.n; attempt = c.in-Ok-number-2.n })
    c.in-Ok-number-3.n c.in-Ok-vector.v l) (c.args.at + 4 + 4 + 8 + 8 + 1 + 8 * c.in-Ok-byte.b + 1 + 12 * c.in-Ok-byte-2.b)) (sym c.new-writes.ensures)
