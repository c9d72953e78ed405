use Rattle.std.proofs.Common.{ℕ, ◌≤◌, ◌≡◌, true, List, length, get_or, ap, ◌∙◌, arith, sym, take}
use Rattle.std.specs.Prelude.{reverse, Option}
use Rattle.std.specs.List.{cons_option, filter_map}
use Rattle.dm_event.specs.Layout.{Layout}
use Rattle.dm_event.specs.Vectors.{sites_to}
use Rattle.dm_event.specs.declared.step.Step.{Step}
use Rattle.dm_model.specs.Choices.{window as window_of, declared_parts, home, score}
use Rattle.dm_model.specs.Legal.{LegalPast}
use Rattle.dm_model.specs.Progress.{site_vector}
use Rattle.dm_model.specs.Scores.{score_of, best_site}
use Rattle.dm_model.specs.Tests.{is_among}
use Rattle.dm_placement.specs.Scored.{home_in, vector_in, AreSites, HaveHomes, score_in}
use Rattle.dm_placement.specs.Tells.{Tells}
use Rattle.dm_placement.proofs.Distinct.{part_more}
use Rattle.dm_placement.proofs.Existing.{window_below}
use Rattle.dm_placement.proofs.Joined.{score_same, best_same}
use Rattle.dm_placement.proofs.Windows.{noted_is}
use Rattle.dm_placement.proofs.law.choices_due.Goals as goal

one_score_due : (layout : Layout) (past : List Step) (window : List (List ℕ)) (homes : List ℕ) (vectors : List (List ℕ)) (wanted : List ℕ)
    → LegalPast layout past → Tells layout past window homes vectors → AreSites (length vectors) homes → HaveHomes (length homes) wanted
    → (site : ℕ) → 1 ≤ site → site ≤ layout.sites → score_in layout.weights window homes vectors wanted site ≡ score layout past wanted site
one_score_due layout past window homes vectors wanted legal t are have site lo hi =
    ap (λ (n : ℕ). score_of layout.weights n (length homes) window (home_in homes) (vector_in vectors) wanted site) t.sites
    ∙ ap (λ (n : ℕ). score_of layout.weights layout.sites n window (home_in homes) (vector_in vectors) wanted site) t.parts
    ∙ ap (λ (sets : List (List ℕ)). score_of layout.weights layout.sites (length layout.masters) sets (home_in homes) (vector_in vectors) wanted site) t.sets
    ∙ score_same layout.weights layout.sites (length layout.masters) (window_of layout past) (home_in homes) (home layout past) (vector_in vectors)
    (site_vector layout.sites past) wanted site (window_below layout past legal) t.home_of needed (t.vector_of site lo hi)
  where
    needed : (p : ℕ) → is_among wanted p ≡ true → vector_in vectors (home_in homes p) ≡ site_vector layout.sites past (home layout past p)
    needed = λ p e.
        let at_home : (1 ≤ get_or homes p 0) × (get_or homes p 0 ≤ length vectors) = are p 0 (have p e) in
        t.vector_of (home_in homes p) at_home.0 (omega (arith, at_home, t.sites))
        ∙ ap (site_vector layout.sites past) (t.home_of p (omega (arith, have p e, t.parts)))

pub returns-clause-scores : goal.returns-clause-scores
returns-clause-scores c = one_score_due

pub returns-clause-choice : goal.returns-clause-choice
returns-clause-choice c = λ layout past window homes vectors wanted legal t are have one.
    let due = one_score_due layout past window homes vectors wanted legal t are have in
    ap (λ (n : ℕ). best_site (score_in layout.weights window homes vectors wanted) (sites_to n) 1) t.sites
    ∙ best_same (score_in layout.weights window homes vectors wanted) (score layout past wanted) 1 layout.sites 1 (λ s lo hi. due s lo (omega (arith, hi)))
    (due 1 (omega arith) one)

pub returns-clause-noted : goal.returns-clause-noted
returns-clause-noted c = λ layout past step parts e.
    let rest = filter_map (declared_parts layout) past in
    noted_is 255 rest parts ∙ sym (ap (λ (o : Option (List ℕ)). reverse (take 256 (cons_option o rest))) e)

pub returns-clause-unnoted : goal.returns-clause-unnoted
returns-clause-unnoted c = λ layout past step e. ap (λ (o : Option (List ℕ)). take 256 (cons_option o (filter_map (declared_parts layout) past))) e

pub returns-clause-listed : goal.returns-clause-listed
returns-clause-listed c = part_more
