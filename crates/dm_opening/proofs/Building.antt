-- Sites that are made, the last first.
use Rattle.std.proofs.Common.{◌≡◌, ℕ, zero, suc, ◌+◌, ◌≤◌, List, [], ◌∷◌, ◌++◌, length, map, Option, Some, true, refl, sym, ap, ◌∙◌, subst, arith}
use Rattle.std.proofs.lemmas.Bool.{and_from, le-leb}
use Rattle.std.proofs.lemmas.List.{append_assoc, append-nil, length-append, map-append, reverse-append}
use Rattle.std.specs.Prelude.{nat_le, reverse, slice_index}
use Rattle.atomic_table.specs.Seated.{TableId}
use Rattle.dm_chronicle.specs.Standing.{starts}
use Rattle.dm_core.specs.Lawful.{Terms}
use Rattle.dm_event.specs.Layout.{Layout, is_site}
use Rattle.dm_event.specs.Vectors.{at}
use Rattle.dm_event.specs.declared.actor.Actor.{Actor}
use Rattle.dm_event.specs.declared.actor.Actor.TheVariants.{Site}
use Rattle.dm_event.specs.declared.step.Step.{Step}
use Rattle.dm_invariant.specs.Stations.{Station, View}
use Rattle.dm_logdisk.specs.Story.{Story}
use Rattle.dm_opening.proofs.Lists.{sites_more}
use Rattle.dm_opening.proofs.Sitting.{same_ends}
use Rattle.dm_opening.specs.Dealing.{sites_from}
use Rattle.dm_opening.specs.Making.{AreNumbered}
use Rattle.dm_opening.specs.Opening.{AllEmpty, IsEmpty}
use Rattle.dm_redo.specs.Log.{Log}

module _ {D : Type 0} (story : D → Option Story) (faults : D → ℕ) (table : TableId) (terms : Terms) where
  abbrev pub disk_of : Log D → D
  disk_of log = log.disk

  abbrev pub kept_disk : Station D → D
  kept_disk site = site.disk

  abbrev pub pass_of : ℕ → View
  pass_of site = record { table = table; fixed = Some terms; actors = Site site ∷ []; seen = [] }

  -- the logs from the first on are left, with their passes, and the sites of the others are made, the last first
  pub record Partly (all logs : List (Log D)) (passes : List View) (sites : List (Station D)) : Type 0 where
    pub rest : List (Log D)
    pub whole : logs ++ rest ≡ all
    pub disks : map disk_of rest ≡ map kept_disk (reverse sites)
    pub numbered : AreNumbered (length logs + 1) (reverse sites)
    pub dealt : passes ≡ starts table terms [] (sites_from 1 (length logs))
    pub long : length rest ≡ length sites

  -- ---- the next log and its pass

  module _ (all logs firsts : List (Log D)) (log : Log D) (passes others : List View) (pass : View) (sites : List (Station D)) (p : Partly all logs passes sites)
      (e : logs ≡ firsts ++ log ∷ []) (f : passes ≡ others ++ pass ∷ []) where
    count_more : length logs ≡ suc (length firsts)
    count_more = ap (λ (l : List (Log D)). length l) e ∙ (length-append firsts (log ∷ []) ∙ (let r : length firsts + 1 ≡ suc (length firsts) = omega arith in r))

    pub next_site : (others ≡ starts table terms [] (sites_from 1 (length firsts))) × (pass ≡ pass_of (length firsts + 1))
    next_site =
        let one : passes ≡ starts table terms [] (sites_from 1 (length firsts)) ++ pass_of (1 + length firsts) ∷ [] =
        p.dealt ∙ (ap (λ (n : ℕ). starts table terms [] (sites_from 1 n)) count_more
        ∙ (ap (λ (l : List Actor). starts table terms [] l) (sym (sites_more 1 (length firsts)))
        ∙ map-append (λ a. record { table = table; fixed = Some terms; actors = a ∷ []; seen = [] }) (sites_from 1 (length firsts)) (Site (1 + length firsts) ∷ []))) in
        let both = same_ends others (starts table terms [] (sites_from 1 (length firsts))) pass (pass_of (1 + length firsts)) (sym f ∙ one) in
        (both.0, both.1 ∙ ap (λ (n : ℕ). pass_of n) (let r : 1 + length firsts ≡ length firsts + 1 = omega arith in r))

    placed : firsts ++ log ∷ p.rest ≡ all
    placed = sym (append_assoc firsts (log ∷ []) p.rest) ∙ (ap (λ (l : List (Log D)). l ++ p.rest) (sym e) ∙ p.whole)

    pub its_log : AllEmpty story all → IsEmpty story log
    its_log h = by firsts (subst (λ (l : List (Log D)). AllEmpty story l) (sym placed) h)
      where
        by : (xs : List (Log D)) → AllEmpty story (xs ++ log ∷ p.rest) → IsEmpty story log
        by [] k = k.0
        by (x ∷ xs) k = by xs k.1

    pub its_faults : (opened : List ℕ) → opened ≡ map (λ l. faults (disk_of l)) all → at opened (length firsts + 1) ≤ faults log.disk
    its_faults opened o =
        let here : slice_index opened (length firsts) ≡ faults log.disk =
        ap (λ (u : List ℕ). slice_index u (length firsts)) (o ∙ ap (λ (l : List (Log D)). map (λ x. faults (disk_of x)) l) (sym placed)) ∙ by firsts in
        let there : at opened (length firsts + 1) ≡ slice_index opened (length firsts) =
        ap (λ (n : ℕ). at opened n) (let r : length firsts + 1 ≡ suc (length firsts) = omega arith in r) in
        let e = there ∙ here in omega (arith, e)
      where
        by : (xs : List (Log D)) → slice_index (map (λ x. faults (disk_of x)) (xs ++ log ∷ p.rest)) (length xs) ≡ faults log.disk
        by [] = refl
        by (x ∷ xs) = by xs

    pub there : (layout : Layout) → length all ≡ layout.sites → is_site layout (length firsts + 1) ≡ true
    there layout n = and_from (nat_le 1 (length firsts + 1)) (nat_le (length firsts + 1) layout.sites) (le-leb 1 (length firsts + 1) (omega arith))
        (le-leb (length firsts + 1) layout.sites (let l = ap (λ (l : List (Log D)). length l) (sym placed) ∙ length-append firsts (log ∷ p.rest) in omega (arith, l, n)))

    -- the site is made
    pub made_more : (site : Station D) (more : List (Station D)) → more ≡ sites ++ site ∷ [] → site.number ≡ length firsts + 1 → site.disk ≡ log.disk
        → Partly all firsts others more
    made_more site more m k d =
        let turned : reverse more ≡ site ∷ reverse sites = ap (λ (l : List (Station D)). reverse l) m ∙ reverse-append sites (site ∷ []) in
        record {
          rest = log ∷ p.rest;
          whole = placed;
          disks = ap (λ (l : List D). log.disk ∷ l) p.disks ∙ (ap (λ (x : D). x ∷ map kept_disk (reverse sites)) (sym d) ∙ ap (λ (l : List (Station D)). map kept_disk l) (sym turned));
          numbered = subst (λ (l : List (Station D)). AreNumbered (length firsts + 1) l) (sym turned)
              (k, subst (λ (n : ℕ). AreNumbered n (reverse sites)) (let c = count_more in let r : length logs + 1 ≡ (length firsts + 1) + 1 = omega (arith, c) in r) p.numbered);
          dealt = next_site.0;
          long = (let l = p.long in let n = ap (λ (l : List (Station D)). length l) m ∙ length-append sites (site ∷ []) in omega (arith, l, n));
        }

  -- none is made yet
  pub none_made : (all : List (Log D)) (passes : List View) (sites : List (Station D)) → passes ≡ starts table terms [] (sites_from 1 (length all)) → sites ≡ []
      → Partly all all passes sites
  none_made all passes sites d n = record {
    rest = [];
    whole = append-nil all;
    disks = ap (λ (l : List (Station D)). map kept_disk (reverse l)) (sym n);
    numbered = subst (λ (l : List (Station D)). AreNumbered (length all + 1) (reverse l)) (sym n) tt;
    dealt = d;
    long = ap (λ (l : List (Station D)). length l) (sym n);
  }

  -- where a log is left, a pass is
  pub pass_left : (all logs firsts : List (Log D)) (log : Log D) (passes : List View) (sites : List (Station D)) → Partly all logs passes sites
      → logs ≡ firsts ++ log ∷ [] → length passes ≡ 0 → ⊥
  pass_left all logs firsts log passes sites p e n =
      let long : length logs ≡ length firsts + 1 = ap (λ (l : List (Log D)). length l) e ∙ length-append firsts (log ∷ []) in
      let short : 0 ≡ length logs = sym n ∙ (ap (λ (l : List View). length l) p.dealt ∙ count (length logs) 1) in
      absurd (omega (arith, long, short))
    where
      count : (n a : ℕ) → length (starts {I = Step} table terms [] (sites_from a n)) ≡ n
      count zero a = refl
      count (suc n) a = ap (λ (k : ℕ). suc k) (count n (suc a))

-- ---- locks

pub numbered_last : {D : Type 0} (n : ℕ) (all firsts : List (Station D)) (site : Station D) → all ≡ firsts ++ site ∷ [] → AreNumbered n all
    → AreNumbered n firsts × (site.number ≡ n + length firsts)
numbered_last {D} n all firsts site e h = by n firsts (subst (λ (l : List (Station D)). AreNumbered n l) e h)
  where
    by : (n : ℕ) (xs : List (Station D)) → AreNumbered n (xs ++ site ∷ []) → AreNumbered n xs × (site.number ≡ n + length xs)
    by n [] k = (tt, k.0 ∙ (let r : n ≡ n + 0 = omega arith in r))
    by n (x ∷ xs) k =
        let r = by (n + 1) xs k.1 in ((k.0, r.0), r.1 ∙ (let q : (n + 1) + length xs ≡ n + suc (length xs) = omega arith in q))
