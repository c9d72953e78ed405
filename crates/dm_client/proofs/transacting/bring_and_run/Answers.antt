use Rattle.std.proofs.Common.{◌≡◌, ℕ, ◌||◌, true, sym, ap, ◌∙◌, subst}
use Rattle.dm_client.proofs.Carrying.{may_move}
use Rattle.dm_client.specs.Moves.{MayMove}
use Rattle.dm_event.specs.declared.step.Choice.{Choice}
use Rattle.dm_event.specs.declared.step.Choice.TheVariants.{Best, Hand}
use Rattle.dm_invariant.specs.Stations.{View}
use Rattle.dm_model.specs.Tests.{same_choice}
use Rattle.dm_client.proofs.transacting.bring_and_run.Goals as goal

pub run_brought-came-requires-clause-parts : goal.run_brought-came-requires-clause-parts
run_brought-came-requires-clause-parts g c =
    let s = c.args.session in
    let wanted = c.wants_moves-wanted.result in
    let to : c.sent-to.result.0 ≡ s.to = ap (λ (r : ℕ × Choice). r.0) c.sent-to.ensures in
    let by : c.sent-to.result.1 ≡ s.by = ap (λ (r : ℕ × Choice). r.1) c.sent-to.ensures in
    let m = may_move c.args.txn c.args.body.now.declared s c.args.parts wanted c.args.shared.now.layout c.requires.sent c.requires.schema c.requires.parts
    c.requires.there
    (λ (t : wanted ≡ true). subst (λ (b : Choice). (same_choice b Best || same_choice b Hand) ≡ true) by (sym c.wants_moves-wanted.ensures ∙ t)) in
    let m' = subst (λ (k : ℕ). MayMove c.args.txn k c.args.parts wanted s.pass) (sym to) m in
    subst (λ (p : View). MayMove c.args.txn c.sent-to.result.0 c.args.parts wanted p) (sym c.part-rest.ensures.pass) m'
