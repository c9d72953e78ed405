-- Sites that are level, one after the other.
use Rattle.std.proofs.Common.{◌≡◌, ℕ, ◌+◌, ◌≤◌, Bool, true, false, ◌==◌, List, refl, sym, ◌∙◌, subst, arith}
use Rattle.std.proofs.lemmas.Bool.{eq-eqb, eqb-true, false≢true}
use Rattle.std.specs.Prelude.{IsTrue}
use Rattle.dm_closing.specs.Closed.{IsLevel}
use Rattle.dm_event.specs.Layout.{Layout}
use Rattle.dm_event.specs.declared.step.Step.{Step}

pub one_more : (layout : Layout) (history : List Step) (before : ℕ) (b : Bool) → ((site : ℕ) → 1 ≤ site → site ≤ before → IsLevel layout history site)
    → (IsTrue b → IsLevel layout history (before + 1)) → b ≡ true → (site : ℕ) → 1 ≤ site → site ≤ before + 1 → IsLevel layout history site
one_more layout history before b all next e site low high = by (site == before + 1) refl
  where
    by : (c : Bool) → (site == before + 1) ≡ c → IsLevel layout history site
    by true f = subst (λ (k : ℕ). IsLevel layout history k) (sym (eqb-true site (before + 1) f)) (next e)
    by false f = all site low (below f)
      where
        below : (site == before + 1) ≡ false → site ≤ before
        below f = omega (arith, high, apart)
          where
            apart : site ≡ before + 1 → ⊥
            apart g = false≢true (sym f ∙ eq-eqb site (before + 1) g)
