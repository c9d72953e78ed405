-- What a further step of a list adds to the entries.
use Rattle.std.proofs.Common.{ℕ, ◌+◌, ◌<◌, ◌≡◌, List, ◌++◌, Option, length, take, get_or, ap}
use Rattle.std.proofs.Common.{◌∙◌}
use Rattle.std.specs.Prelude.{reverse, find, filter_map, option_map, option_to_list, ◌==◌, ◌&&◌}
use Rattle.std.specs.Option.{option_or}
use Rattle.dm_event.specs.declared.step.Entry.{Entry}
use Rattle.dm_event.specs.declared.step.Step.{Step}
use Rattle.dm_model.specs.Acts.{acts_of, entry_of, entries, entry_at}
use Rattle.dm_model.specs.Closed.{unclosed}
use Rattle.dm_model.specs.Progress.{entry_count}
use Rattle.dm_model.specs.Values.{newest}
use Rattle.dm_model.specs.Words.{count_of}
use Rattle.dm_steps.specs.Adding.{of_origin, with_number, written_by, unclosed_one}
use Rattle.dm_event.proofs.Backwards.{past_more}
use Rattle.dm_steps.proofs.Entries.{named, entries_more, count_one, find_one, newest_one, unclosed_more}

module _ (steps : List Step) (i : ℕ) (s : Step) (o : Option Entry) (h : i < length steps) (e : s ≡ get_or steps i s)
    (f : option_to_list o ≡ filter_map entry_of (acts_of s (reverse (take i steps)))) where
  after : entries (reverse (take (i + 1) steps)) ≡ option_to_list o ++ entries (reverse (take i steps))
  after = ap entries (past_more steps i s h e) ∙ entries_more s (reverse (take i steps)) o f

  pub count_after : (j : ℕ) → entry_count j (reverse (take (i + 1) steps)) ≡ entry_count j (reverse (take i steps)) + of_origin j o
  count_after j = ap (λ (es : List Entry). count_of (λ d. d.origin == j) es) after ∙ count_one j o (entries (reverse (take i steps)))

  pub find_after : (j n : ℕ) → entry_at j n (reverse (take (i + 1) steps)) ≡ option_or (with_number j n o) (entry_at j n (reverse (take i steps)))
  find_after j n = ap (λ (es : List Entry). find (λ d. (d.origin == j) && (d.seq == n)) es) after ∙ find_one j n o (entries (reverse (take i steps)))

  pub newest_after : (key : ℕ) (v : List ℕ) → newest (entries (reverse (take (i + 1) steps))) key v ≡ option_or (written_by key v o)
      (newest (entries (reverse (take i steps))) key v)
  newest_after key v = ap (λ (es : List Entry). newest es key v) after ∙ newest_one key v o (entries (reverse (take i steps)))

  pub unclosed_after : (v : List ℕ)
      → option_map named (unclosed v (reverse (entries (reverse (take (i + 1) steps)))))
      ≡ option_or (option_map named (unclosed v (reverse (entries (reverse (take i steps)))))) (unclosed_one v o)
  unclosed_after v =
      ap (λ (es : List Entry). option_map named (unclosed v (reverse es))) after ∙ unclosed_more v o (entries (reverse (take i steps)))
