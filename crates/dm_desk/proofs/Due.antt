-- What is due of a partition on its way.
use Rattle.std.proofs.Common.{ℕ, ◌≡◌, Bool, true, false, cond, List, Option, Some, None, length, refl, sym, ap, ◌∙◌}
use Rattle.std.proofs.lemmas.Bool.{eq-eqb, false≢true}
use Rattle.std.specs.Prelude.{◌↔◌, is_none, IsTrue}
use Rattle.dm_desk.specs.Telling.{grant_due}
use Rattle.dm_desk.specs.declared.answers.GrantAnswer.TheVariants as granted
use Rattle.dm_desk.specs.declared.telling.GrantDue.TheVariants as grants
use Rattle.dm_event.specs.Vectors.{AtMost, first_above, is_at_most}
use Rattle.dm_event.specs.declared.placing.Placing.{Placing}
use Rattle.dm_event.specs.declared.placing.Placing.TheVariants.{Between}
use Rattle.dm_model.proofs.VectorFacts.{at_most}
use Rattle.dm_next.proofs.Routed.{none_above}

-- a vector that is found to be at most another
pub at_most_found : (u v : List ℕ) → is_at_most u v ≡ true → AtMost u v
at_most_found u v h = at_most (length u) u v refl (none (first_above u v) h)
  where
    none : (o : Option ℕ) → is_none o ≡ true → o ≡ None
    none None h = refl
    none (Some x) h = absurd (false≢true h)

covers_is : (covers : Bool) (u v : List ℕ) → (IsTrue covers ↔ AtMost u v) → covers ≡ is_at_most u v
covers_is true u v h = sym (ap (λ (o : Option ℕ). is_none o) (none_above u v (h.0 refl)))
covers_is false u v h = by (is_at_most u v) refl
  where
    by : (b : Bool) → is_at_most u v ≡ b → false ≡ b
    by true e = h.1 (at_most_found u v e)
    by false e = refl

-- what comes of a partition that is on its way to a site that is up
pub due_on_way : (site : ℕ) (down : Bool) (now : Placing) (has : List ℕ) (from epoch to : ℕ) (vector : List ℕ) (covers found : Bool) → down ≡ false
    → now ≡ Between from epoch to vector → to ≡ site → (IsTrue covers ↔ AtMost vector has) → covers ≡ found
    → cond found (grants.Ready epoch vector) (grants.Behind vector) ≡ grant_due site down now has
due_on_way site down now has from epoch to vector covers found d n t c f =
    ap (λ (b : Bool). cond b (grants.Ready epoch vector) (grants.Behind vector)) (sym f ∙ covers_is covers vector has c)
    ∙ (ap (λ (b : Bool). cond b (cond (is_at_most vector has) (grants.Ready epoch vector) (grants.Behind vector))
    (grants.Not (granted.Passed (Between from epoch to vector)))) (sym (eq-eqb to site t))
    ∙ (λ j. grant_due site (sym d j) (sym n j) has))
