-- The entry that comes into a site's store fits behind what is installed.
use Rattle.std.proofs.Common.{ℕ, ◌+◌, ◌≡◌, true, ◌==◌, nat_le, ◌&&◌, List, Some, length, map}
use Rattle.std.proofs.lemmas.Bool.{and_from, le-leb}
use Rattle.dm_event.specs.Layout.{Layout}
use Rattle.dm_event.specs.Vectors.{at}
use Rattle.dm_event.specs.declared.limits.TheConstants.{MAX_KEYS}
use Rattle.dm_event.specs.declared.step.Entry.{Entry}
use Rattle.dm_event.specs.declared.step.Pair.{Pair}
use Rattle.dm_event.specs.declared.step.Step.{Step}
use Rattle.dm_event.specs.declared.step.Step.TheVariants.{Commit, Refresh}
use Rattle.dm_model.proofs.ListFacts.{found_each}
use Rattle.dm_model.specs.Acts.{entries}
use Rattle.dm_model.specs.Allowed.{Allowed, next_entry}
use Rattle.dm_model.specs.Legal.{LegalPast}
use Rattle.dm_model.specs.Progress.{site_vector}
use Rattle.dm_model.specs.Shape.{is_ascending}
use Rattle.dm_plain.proofs.Written.{Small, commit_small, entries_small}
use Rattle.dm_store.specs.Histories.{past_of}
use Rattle.dm_store.specs.Rising.{fits, is_above}
use Rattle.dm_store.specs.declared.past.Past.{Past}
use Rattle.dm_stores.proofs.Steps.{rising, rising_commit}
use Rattle.dm_stores.specs.Stores.{Stores}

fits_by : (e : Entry) (ins : List Past) → Small e → is_above ins e.origin e.seq ≡ true → fits ins (past_of e) ≡ true
fits_by e ins few above =
    and_from (nat_le (length e.writes) MAX_KEYS) _ (le-leb (length e.writes) MAX_KEYS few.few)
    (and_from (is_ascending (map (λ (p : Pair). p.key) e.writes)) (is_above ins e.origin e.seq) few.ascends above)

pub fits_refresh : (layout : Layout) (past : List Step) (i o : ℕ) (e : Entry) (ins : List Past) → LegalPast layout past → Allowed layout past (Refresh i o)
    → next_entry layout past i o ≡ Some e → Stores layout past i ins → fits ins (past_of e) ≡ true
fits_refresh layout past i o e ins l h f k =
    fits_by e ins
    (found_each Small (λ d. (d.origin == o) && (d.seq == at (site_vector layout.sites past i) o + 1)) (entries past) e f (entries_small layout past l))
    (rising layout past i o e ins l h f k)

pub fits_commit : (layout : Layout) (past : List Step) (i : ℕ) (e : Entry) (ins : List Past) → LegalPast layout past → Allowed layout past (Commit e)
    → e.origin ≡ i → Stores layout past i ins → fits ins (past_of e) ≡ true
fits_commit layout past i e ins l h o k = fits_by e ins (commit_small layout past l e h) (rising_commit layout past i e ins h o k)
