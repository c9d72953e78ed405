use Rattle.std.proofs.Common.{◌≡◌, refl, sym, subst, Ok, [], ◌∷◌, ◌++◌, ◌+◌}
use Rattle.dm_fields.specs.Faults.{Stops}
use Rattle.dm_past.specs.Histories.{Unread, read_on}
use Rattle.dm_past.proofs.Pieces.{no_lines}
use Rattle.dm_past.proofs.Lines.{read_more, read_stops, read_end}
use Rattle.dm_past.proofs.reading.Reader.next.Goals as goal

pub returns-then-is_empty-clause-none : goal.returns-then-is_empty-clause-none
returns-then-is_empty-clause-none c = λ _ so_far. subst (λ (unread : Unread). read_on c.args.schema.now so_far unread ≡ Ok so_far) c.self.view_is
    (sym (read_end c.args.schema.now so_far (c.self.inside.lines + 1) _ _ (no_lines c.self.inside.rest.now (sym c.if-is_empty.ensures)) refl))

pub returns-in-Err-clause-err : goal.returns-in-Err-clause-err
returns-in-Err-clause-err c = λ so_far. subst (λ (unread : Unread). Stops c.at.result (read_on c.args.schema.now so_far unread)) c.self.view_is
    (rw c.at.ensures (read_stops c.in-Err.error c.args.schema.now so_far (c.self.inside.lines + 1) _ _ _ _ c.first_line-ended.ensures.first c.in-Err.ensures
    refl))

pub returns-clause-some : goal.returns-clause-some
returns-clause-some c = λ so_far.
    let after : Unread = record { text = c.first_line-ended.result.2.now; lines = c.self.inside.lines + 1 } in
    subst (λ (unread : Unread). read_on c.args.schema.now so_far unread ≡ read_on c.args.schema.now (so_far ++ c.in-Ok.step ∷ []) after) c.self.view_is
    (sym (read_more c.args.schema.now so_far (c.self.inside.lines + 1) _ _ _ c.in-Ok.step _ c.first_line-ended.ensures.first c.in-Ok.ensures refl))
