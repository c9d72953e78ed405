-- What the passes that are dealt are to those who take them.
use Rattle.std.proofs.Common.{◌≡◌, ℕ, zero, suc, ◌+◌, ◌≤◌, List, [], ◌∷◌, length, map, refl, sym, ap, ◌∙◌, subst, arith}
use Rattle.std.proofs.lemmas.Bool.{lt-ltb}
use Rattle.atomic_table.specs.Seated.{TableId}
use Rattle.dm_chronicle.specs.Standing.{starts}
use Rattle.dm_core.specs.Lawful.{Terms}
use Rattle.dm_event.specs.Layout.{Layout}
use Rattle.dm_invariant.specs.Stations.{View}
use Rattle.dm_opening.specs.Dealing.{parts_from}
use Rattle.dm_redo.specs.Log.{Log}
use Rattle.dm_table.specs.Starts.{AreNew}

parts_new : (table : TableId) (terms : Terms) (n k : ℕ) → n + k ≤ length terms.layout.masters
    → AreNew table terms.layout n (starts table terms [] (parts_from n k))
parts_new table terms n zero h = tt
parts_new table terms n (suc k) h =
    (record { own = (refl, refl); layout_is = refl; there = lt-ltb n (length terms.layout.masters) (omega (arith, h)); empty = refl }, parts_new table terms (suc n) k (omega (arith, h)))

pub parts_dealt : (table named : TableId) (terms : Terms) (schema : Layout) (passes : List View) → table ≡ named → schema ≡ terms.layout
    → passes ≡ starts table terms [] (parts_from 0 (length terms.layout.masters)) → AreNew named schema 0 passes
parts_dealt table named terms schema passes t s p =
    subst (λ (l : Layout). AreNew named l 0 passes) (sym s) (subst (λ (x : TableId). AreNew x terms.layout 0 passes) t
    (subst (λ (l : List View). AreNew table terms.layout 0 l) (sym p) (parts_new table terms 0 (length terms.layout.masters) (omega arith))))

module _ {D : Type 0} (faults : D → ℕ) where
  each_faults : (logs : List (Log D)) → map faults (map (λ (l : Log D). l.disk) logs) ≡ map (λ (l : Log D). faults l.disk) logs
  each_faults [] = refl
  each_faults (l ∷ logs) = ap (λ (u : List ℕ). faults l.disk ∷ u) (each_faults logs)

  pub opened_faults : (opened : List ℕ) (logs : List (Log D)) (disks : List D) → opened ≡ map faults disks → map (λ (l : Log D). l.disk) logs ≡ disks
      → opened ≡ map (λ (l : Log D). faults l.disk) logs
  opened_faults opened logs disks o e = o ∙ (ap (λ (l : List D). map faults l) (sym e) ∙ each_faults logs)
