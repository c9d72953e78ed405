-- What the steps of others leave at a site: its vector.
use Rattle.std.proofs.Common.{ℕ, suc, ◌≡◌, ◌≢◌, Bool, true, false, ◌==◌, nat_eq, ◌||◌, cond, List, ◌∷◌, ◌++◌, Option, Some, None, refl, sym, ap, ◌∙◌}
use Rattle.std.proofs.lemmas.Bool.{eqb-false, ne_eqb, false≢true}
use Rattle.std.specs.Prelude.{option_map, option_to_list, filter_map}
use Rattle.dm_chronicle.specs.Belongs.{belongs}
use Rattle.dm_event.specs.Actors.{actors}
use Rattle.dm_event.specs.Layout.{Layout}
use Rattle.dm_event.specs.Vectors.{vector_by}
use Rattle.dm_event.specs.declared.actor.Actor.TheVariants.{Site}
use Rattle.dm_event.specs.declared.step.Entry.{Entry}
use Rattle.dm_event.specs.declared.step.Found.TheVariants.{Clean, Kept, Lost}
use Rattle.dm_event.specs.declared.step.Pending.{Pending}
use Rattle.dm_event.specs.declared.step.Pending.TheVariants as pending
use Rattle.dm_event.specs.declared.step.Step.{Step}
use Rattle.dm_event.specs.declared.step.Step.TheVariants.{Commit, Refresh, Restart}
use Rattle.dm_model.proofs.LegalSteps.{legal_commit, legal_restart}
use Rattle.dm_model.proofs.ListFacts.{map_same}
use Rattle.dm_model.proofs.Numbering.{count_at, count_other}
use Rattle.dm_model.proofs.NumbersKept.{InDoubt}
use Rattle.dm_model.proofs.NumbersSound.{counts, sound_past}
use Rattle.dm_model.specs.Acts.{acts, entries, entry_of}
use Rattle.dm_model.specs.Allowed.{Allowed}
use Rattle.dm_model.specs.Doubts.{pending_at, step_of}
use Rattle.dm_model.specs.Legal.{LegalPast}
use Rattle.dm_model.specs.Progress.{reached, refreshed, entry_count, site_vector}

or_left : (b c : Bool) → (b || c) ≡ false → b ≡ false
or_left true c e = absurd (false≢true (sym e))
or_left false c e = refl

-- a step of the site k isn't the site's
pub other_site : (i k : ℕ) (c : Bool) → (nat_eq k i || c) ≡ false → k ≢ i
other_site i k c e = eqb-false k i (or_left (nat_eq k i) c e)

-- What a step brings that isn't the site's: no entry, or the next one of another origin.
pub data Brings (i : ℕ) (es : List Entry) : List Entry → Type 0 where
  nothing : Brings i es es
  entry : (e : Entry) → e.origin ≢ i → e.seq ≡ suc (count_at e.origin es) → Brings i es (e ∷ es)

vector_same : (count : ℕ) (f g : ℕ → ℕ) → ((j : ℕ) → f j ≡ g j) → vector_by count f ≡ vector_by count g
vector_same count f g e = map_same f g 1 count (λ j a b. e j)

module _ (layout : Layout) (i : ℕ) (past : List Step) (l : LegalPast layout past) where
  kept : (site : ℕ) (o : Option Pending) → site ≢ i → InDoubt layout.sites (counts past) site o
      → Brings i (entries past) (filter_map entry_of (option_to_list (option_map (step_of site) o) ++ acts past))
  kept site None n d = nothing
  kept site (Some (pending.Commit e)) n d = entry e (λ p. n (sym d.own ∙ p)) (d.seq ∙ ap (λ (x : ℕ). suc (count_at x (entries past))) (sym d.own))
  kept site (Some (pending.Release part epoch to v)) n d = nothing
  kept site (Some (pending.Grant part epoch v)) n d = nothing

  pub brings : (x : Step) → Allowed layout past x → belongs actors x (Site i) ≡ false → Brings i (entries past) (entries (x ∷ past))
  brings (Commit e) h b = entry e (other_site i e.origin false b) (legal_commit layout past e h).seq
  brings (Restart site vector Kept) h b =
      kept site (pending_at site past) (other_site i site false b)
      ((sound_past layout past l).in_doubt site (legal_restart layout past site vector Kept h).fits)
  brings (Restart site vector Clean) h b = nothing
  brings (Restart site vector Lost) h b = nothing
  brings other h b = nothing

  refreshed_other : (x : Step) (j : ℕ) → belongs actors x (Site i) ≡ false → refreshed i j (x ∷ past) ≡ refreshed i j past
  refreshed_other (Restart site vector found) j b = rw (ne_eqb site i (other_site i site false b)) refl
  refreshed_other (Refresh site origin) j b = rw (ne_eqb site i (other_site i site false b)) refl
  refreshed_other other j b = refl

  counted : (es : List Entry) → Brings i (entries past) es → count_at i es ≡ entry_count i past
  counted es nothing = refl
  counted es (entry e n q) = count_other e (entries past) i n

  -- the site's own entries stay as many
  pub entries_other : (x : Step) → Allowed layout past x → belongs actors x (Site i) ≡ false → entry_count i (x ∷ past) ≡ entry_count i past
  entries_other x h b = counted (entries (x ∷ past)) (brings x h b)

  -- how far the site has come stays
  pub vector_other : (x : Step) → Allowed layout past x → belongs actors x (Site i) ≡ false
      → site_vector layout.sites (x ∷ past) i ≡ site_vector layout.sites past i
  vector_other x h b =
      vector_same layout.sites (λ j. reached i j (x ∷ past)) (λ j. reached i j past)
      (λ j. ap (λ (n : ℕ). cond (i == j) n (refreshed i j (x ∷ past))) (entries_other x h b)
      ∙ ap (λ (n : ℕ). cond (i == j) (entry_count i past) n) (refreshed_other x j b))
