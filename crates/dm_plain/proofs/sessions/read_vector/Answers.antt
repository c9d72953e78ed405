use Rattle.std.proofs.Common.{◌≡◌, ℕ, List, Option, Some, None, sym, ◌∙◌, refl, length}
use Rattle.std.specs.Prelude.{reverse}
use Rattle.std.specs.Prelude.{IfSome}
use Rattle.dm_steps.proofs.Legality.{long_begin}
use Rattle.dm_plain.proofs.sessions.read_vector.Goals as goal

pub returns-clause-sites : goal.returns-clause-sites
returns-clause-sites c = by_last c.last_begin.result (λ v e. long_begin c.args.schema.now _ (reverse c.args.steps.now) c.requires v
    (sym c.last_begin.ensures ∙ e))
  where
    by_last : (o : Option (List ℕ)) → ((v : List ℕ) → o ≡ Some v → length v ≡ c.args.schema.now.sites) → IfSome o (λ v. length v ≡ c.args.schema.now.sites)
    by_last None f = tt
    by_last (Some v) f = f v refl
