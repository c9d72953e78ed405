use Rattle.std.proofs.Common.{◌≡◌, Bool, List, ℕ, true, ap, sym, ◌∙◌}
use Rattle.std.specs.Prelude.{reverse}
use Rattle.dm_kept.specs.Ledger.{past}
use Rattle.dm_model.proofs.VectorFacts.{numbers_same}
use Rattle.dm_model.specs.Acts.{entries}
use Rattle.dm_model.specs.Allowed.{with_kept}
use Rattle.dm_model.specs.Closed.{unclosed}
use Rattle.dm_model.specs.Doubts.{is_down}
use Rattle.dm_model.specs.Rows.{found_fits}
use Rattle.dm_steps.proofs.KeptFloors.{none_at_floor}
use Rattle.dm_kept.proofs.restarting.is_floor.Goals as goal

pub returns-then-found_fits : goal.returns-then-found_fits
returns-then-found_fits c same =
    let kept = c.args.kept.now in
    let counted = with_kept c.args.site c.args.found (past kept) in
    let fits : found_fits c.args.found (is_down c.args.site (past kept)) ≡ true =
    ap (λ (b : Bool). found_fits c.args.found b) (sym c.is_down.ensures) ∙ sym c.found_fits.ensures ∙ c.if-found_fits.true in
    let floor = numbers_same c.args.vector.now c.floor_with_kept.result (sym c.same.ensures ∙ same) ∙ c.floor_with_kept.ensures in
    ap (λ (v : List ℕ). unclosed v (reverse (entries counted))) floor
    ∙ none_at_floor kept.layout (past kept) c.is_legal.ensures.legal c.args.site c.args.found fits
