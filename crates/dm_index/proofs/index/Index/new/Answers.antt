use Rattle.std.proofs.Common.{ℕ, List, [], None, Option, ap, ◌∙◌}
use Rattle.std.specs.Prelude.{replicate}
use Rattle.dm_index.proofs.Opening.{opening}
use Rattle.dm_index.proofs.index.Index.new.Goals as goal

pub returns : goal.returns
returns c =
    opening c.args.schema.now _ c.in_ok-opening.ensures
    (c.in_ok-opening-2.ensures ∙ ap (λ (n : ℕ). replicate {A = Option ℕ} n None) c.sites.ensures.same)
    (c.in_ok-opening-3.ensures ∙ ap (λ (n : ℕ). replicate {A = List ℕ} n []) c.sites-2.ensures.same)
