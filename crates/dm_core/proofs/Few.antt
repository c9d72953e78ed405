-- What a history of few steps counts.
use Rattle.std.proofs.Common.{ℕ, suc, ◌≤◌, ◌≡◌, Bool, true, false, if◌then◌else◌, List, [], ◌∷◌, length, refl, arith, ◌∙◌, inl, inr, ap, sym, nat_le, Some, None}
use Rattle.std.proofs.lemmas.Bool.{cases_eq, false≢true, ne_eqb, and_from, le-leb}
use Rattle.std.specs.Prelude.{find, ◌==◌, ◌&&◌}
use Rattle.dm_event.specs.Layout.{Layout, is_site}
use Rattle.dm_event.specs.declared.step.Entry.{Entry}
use Rattle.dm_event.specs.declared.step.Step.{Step}
use Rattle.dm_model.proofs.LaggingRefresh.{Grounded, grounded_past}
use Rattle.dm_model.proofs.Numbering.{count_other, count_at}
use Rattle.dm_model.proofs.LegalSteps.{InRange}
use Rattle.dm_model.specs.Acts.{entries, entry_at}
use Rattle.dm_model.specs.Attempts.{is_reply, replies}
use Rattle.dm_model.specs.Legal.{LegalPast}
use Rattle.dm_model.specs.Progress.{entry_count}

pub few_replies : (session : ℕ) (past : List Step) → replies session past ≤ length past
few_replies c [] = omega arith
few_replies c (s ∷ past) = by (is_reply c s) (few_replies c past)
  where
    by : (b : Bool) → replies c past ≤ length past → (if b then suc (replies c past) else replies c past) ≤ suc (length past)
    by true h = omega arith
    by false h = omega (arith, h)

site_of : (layout : Layout) (site : ℕ) → InRange layout site → is_site layout site ≡ true
site_of layout site r = and_from (nat_le 1 site) (nat_le site layout.sites) (le-leb 1 site r.one) (le-leb site layout.sites r.top)

-- what isn't a site has no entries
pub strange_count : (layout : Layout) (past : List Step) (j : ℕ) → LegalPast layout past → is_site layout j ≡ false → entry_count j past ≡ 0
strange_count layout past j h n = by (entries past) (grounded_past layout past h)
  where
    by : (es : List Entry) → Grounded layout es → count_at j es ≡ 0
    by [] g = refl
    by (e ∷ es) g = elim (cases_eq e.origin j) [
      | inl p ↦ absurd (false≢true (sym n ∙ ap (is_site layout) (sym p) ∙ site_of layout e.origin g.0.site))
      | inr ne ↦ count_other e es j ne ∙ by es g.1
    ]

-- and none with any number
pub strange_entry : (layout : Layout) (past : List Step) (j n : ℕ) → LegalPast layout past → is_site layout j ≡ false → entry_at j n past ≡ None
strange_entry layout past j n h none = by (entries past) (grounded_past layout past h)
  where
    by : (es : List Entry) → Grounded layout es → find (λ e. (e.origin == j) && (e.seq == n)) es ≡ None
    by [] g = refl
    by (e ∷ es) g = elim (cases_eq e.origin j) [
      | inl p ↦ absurd (false≢true (sym none ∙ ap (is_site layout) (sym p) ∙ site_of layout e.origin g.0.site))
      | inr ne ↦ ap (λ (b : Bool). if b && (e.seq == n) then Some e else find (λ d. (d.origin == j) && (d.seq == n)) es) (ne_eqb e.origin j ne)
          ∙ by es g.1
    ]
