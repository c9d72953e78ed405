-- What stays as a history grows: the entries, and the values and numbers at a vector that was counted.
use Rattle.std.proofs.Common.{ℕ, ℤ, ◌≤◌, ◌≡◌, List, [], ◌∷◌, ◌++◌, Option, Some, None, refl, sym, ap, ◌∙◌, subst, arith, le_trans}
use Rattle.std.proofs.lemmas.List.{reverse-append}
use Rattle.std.specs.List.{cons_option}
use Rattle.std.specs.Prelude.{reverse}
use mathlib.Core.List.{IsPrefix}
use Rattle.dm_event.specs.Layout.{Layout}
use Rattle.dm_event.specs.declared.step.Entry.{Entry}
use Rattle.dm_event.specs.declared.step.Step.{Step}
use Rattle.dm_model.proofs.Numbering.{Numbered, ClosedBy, closed_more, count_at, count_more}
use Rattle.dm_model.proofs.NumbersSound.{sound_past}
use Rattle.dm_model.proofs.Snapshots.{value_more, within_more, value_in, WithinCounts}
use Rattle.dm_model.specs.Acts.{entries}
use Rattle.dm_model.specs.Legal.{Legal, LegalPast}
use Rattle.dm_model.specs.Progress.{entry_count}
use Rattle.dm_model.specs.Values.{value}
use Rattle.dm_others.proofs.Growing.{longer}
use Rattle.dm_next.specs.Counted.{Counts}
use Rattle.dm_steps.proofs.Sites.{entries_next}
use Rattle.dm_steps.specs.Pendings.{kept_of, entry_by}

-- ---- entries don't go

more_entry : (j : ℕ) (o : Option Entry) (es : List Entry) → count_at j es ≤ count_at j (cons_option o es)
more_entry j None es = omega arith
more_entry j (Some e) es = count_more e es j

pub no_fewer : (j : ℕ) (past : List Step) (s : Step) → entry_count j past ≤ entry_count j (s ∷ past)
no_fewer j past s =
    subst (λ (es : List Entry). count_at j (entries past) ≤ count_at j es) (sym (entries_next s past))
    (more_entry j (entry_by s (kept_of s past)) (entries past))

pub counts_more : (layout : Layout) (past : List Step) (s : Step) (to : List ℕ) → Counts layout past to → Counts layout (s ∷ past) to
counts_more layout past s to c = record { long = c.long; within = λ j. le_trans (c.within j) (no_fewer j past s) }

-- what was counted is counted in every longer list
counts_past : (layout : Layout) (more past : List Step) (to : List ℕ) → Counts layout past to → Counts layout (more ++ past) to
counts_past layout [] past to c = c
counts_past layout (s ∷ more) past to c = counts_more layout (more ++ past) s to (counts_past layout more past to c)

pub counts_on : (layout : Layout) (old new : List Step) (to : List ℕ) → IsPrefix old new → Counts layout (reverse old) to → Counts layout (reverse new) to
counts_on layout old new to p c =
    subst (λ (past : List Step). Counts layout past to) (sym (reverse-append old p.0) ∙ ap reverse p.1)
    (counts_past layout (reverse p.0) (reverse old) to c)

-- what is closed stays closed
closed_with : (f : ℕ → ℕ) (o : Option Entry) (es : List Entry) → Numbered (cons_option o es) → ClosedBy es f → ClosedBy (cons_option o es) f
closed_with f None es n c = c
closed_with f (Some e) es n c = closed_more e es f n c

pub closed_step : (layout : Layout) (past : List Step) (s : Step) (f : ℕ → ℕ) → LegalPast layout (s ∷ past) → ClosedBy (entries past) f
    → ClosedBy (entries (s ∷ past)) f
closed_step layout past s f l c =
    subst (λ (es : List Entry). ClosedBy es f) (sym (entries_next s past))
    (closed_with f (entry_by s (kept_of s past)) (entries past) (subst Numbered (entries_next s past) (sound_past layout (s ∷ past) l).numbered) c)

-- ---- values at a vector that was counted

pub record Stays (layout : Layout) (first : List Step) (v : List ℕ) (past : List Step) : Type 0 where
  pub counted : WithinCounts (entries past) v
  pub values : (key : ℕ) → value layout past key v ≡ value layout first key v

pub stays_step : (layout : Layout) (first : List Step) (v : List ℕ) (past : List Step) (s : Step) → LegalPast layout (s ∷ past) → Stays layout first v past
    → Stays layout first v (s ∷ past)
stays_step layout first v past s l k =
    by (entry_by s (kept_of s past)) (entries (s ∷ past)) refl (entries_next s past) (sound_past layout (s ∷ past) l).numbered
  where
    by : (o : Option Entry) (es : List Entry) → entries (s ∷ past) ≡ es → es ≡ cons_option o (entries past) → Numbered es → Stays layout first v (s ∷ past)
    by None es e f n = record {
      counted = subst (λ (ds : List Entry). WithinCounts ds v) (sym (e ∙ f)) k.counted;
      values = λ key. ap (λ (ds : List Entry). value_in layout ds v key) (e ∙ f) ∙ k.values key;
    }
    by (Some d) es e f n = record {
      counted = subst (λ (ds : List Entry). WithinCounts ds v) (sym (e ∙ f)) (within_more d (entries past) v k.counted);
      values = λ key. ap (λ (ds : List Entry). value_in layout ds v key) (e ∙ f)
          ∙ (ap (λ (g : ℕ → ℤ). g key) (value_more layout d (entries past) v (subst Numbered f n) k.counted) ∙ k.values key);
    }

pub values_stay : (layout : Layout) (old new : List Step) (v : List ℕ) → IsPrefix old new → Legal layout new → WithinCounts (entries (reverse old)) v
    → (key : ℕ) → value layout (reverse new) key v ≡ value layout (reverse old) key v
values_stay layout old new v p l c =
    (longer layout (Stays layout (reverse old) v) (λ past s m k. stays_step layout (reverse old) v past s m k) old new p l
    (record { counted = c; values = λ key. refl })).values
