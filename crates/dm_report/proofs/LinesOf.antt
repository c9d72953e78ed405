-- Lines of numbered things, one more at a time.
use Rattle.std.proofs.Common.{ℕ, suc, ◌+◌, ◌-◌, ◌≤◌, ◌≡◌, List, [], ◌∷◌, ◌++◌, ap, sym, ◌∙◌, arith, append_assoc}
use Rattle.std.proofs.lemmas.List.{append-nil}
use Rattle.std.proofs.lemmas.List.Concat.{flat_map-append}
use Rattle.std.specs.List.{flat_map, range_with_len}
use Rattle.dm_event.proofs.Ranges.{range_more}
use Rattle.dm_event.specs.declared.step.Step.{Step}
use Rattle.dm_event.specs.Layout.{Layout}
use Rattle.dm_text.specs.Text.{Begins}
use Rattle.dm_report.specs.Rest.{site_text, sites_text, part_text, parts_text}

lines_more : (f : ℕ → List ℕ) (a n j : ℕ) → a + n ≡ j → flat_map f (range_with_len a (suc n)) ≡ flat_map f (range_with_len a n) ++ f j
lines_more f a n j e =
    ap (λ (l : List ℕ). flat_map f l) (range_more a n ∙ ap (λ (k : ℕ). range_with_len a n ++ k ∷ []) e)
    ∙ flat_map-append f (range_with_len a n) (j ∷ [])
    ∙ ap (λ (l : List ℕ). flat_map f (range_with_len a n) ++ l) (append-nil (f j))

-- the line of one site more
pub sites_more : (layout : Layout) (past : List Step) (site : ℕ) → 1 ≤ site → sites_text layout past (site + 1 - 1) ≡ sites_text layout past (site - 1)
    ++ site_text layout past site
unfolding sites_text
sites_more layout past site h =
    let e : site + 1 - 1 ≡ suc (site - 1) = omega (arith, h) in
    ap (λ (n : ℕ). flat_map (site_text layout past) (range_with_len 1 n)) e ∙ lines_more (site_text layout past) 1 (site - 1) site (omega (arith, h))

-- the line of one partition more
pub parts_more : (layout : Layout) (past : List Step) (part : ℕ) → parts_text layout past (part + 1) ≡ parts_text layout past part ++ part_text layout past part
unfolding parts_text
parts_more layout past part =
    let e : part + 1 ≡ suc part = omega arith in
    ap (λ (n : ℕ). flat_map (part_text layout past) (range_with_len 0 n)) e ∙ lines_more (part_text layout past) 0 part part (omega arith)

-- what begins with a longer text begins with its front
pub begins_more : (old mid new text : List ℕ) → mid ≡ old ++ text → Begins new mid → Begins new old
begins_more old mid new text e b = record {
  rest = text ++ b.rest;
  whole = b.whole ∙ ap (λ (l : List ℕ). l ++ b.rest) e ∙ append_assoc old text b.rest;
}

pub sites_step : (layout : Layout) (past : List Step) (site : ℕ) (old mid new : List ℕ) → 1 ≤ site → mid ≡ old ++ sites_text layout past (site - 1) → new ≡ mid
    ++ site_text layout past site
    → new ≡ old ++ sites_text layout past (site + 1 - 1)
sites_step layout past site old mid new h e f =
    f ∙ ap (λ (l : List ℕ). l ++ site_text layout past site) e ∙ append_assoc old (sites_text layout past (site - 1)) (site_text layout past site)
    ∙ ap (λ (l : List ℕ). old ++ l) (sym (sites_more layout past site h))

pub parts_step : (layout : Layout) (past : List Step) (part : ℕ) (old mid new : List ℕ) → mid ≡ old ++ parts_text layout past part → new ≡ mid
    ++ part_text layout past part
    → new ≡ old ++ parts_text layout past (part + 1)
parts_step layout past part old mid new e f =
    f ∙ ap (λ (l : List ℕ). l ++ part_text layout past part) e ∙ append_assoc old (parts_text layout past part) (part_text layout past part)
    ∙ ap (λ (l : List ℕ). old ++ l) (sym (parts_more layout past part))
