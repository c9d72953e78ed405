-- What a step adds can be installed: its number is above those installed, and what it writes are known keys.
use Rattle.std.proofs.Common.{ℕ, ◌+◌, ◌<◌, ◌≤◌, ◌≡◌, ◌==◌, ◌&&◌, Bool, true, false, if◌then◌else◌, List, [], ◌∷◌, Option}
use Rattle.std.proofs.Common.{Some, None, map, refl, sym, ap}
use Rattle.std.proofs.Common.{subst, arith, nat_lt}
use Rattle.std.proofs.lemmas.Bool.{eqb-true, eq-eqb, or_left, or_right, lt-ltb}
use Rattle.std.proofs.lemmas.List.{reverse-reverse}
use Rattle.std.specs.List.{AllByRecursion as Each, list_all}
use Rattle.std.specs.Prelude.{reverse, IfSome, IsTrue}
use Rattle.dm_event.specs.Layout.{Layout}
use Rattle.dm_event.specs.declared.step.Entry.{Entry}
use Rattle.dm_event.specs.declared.step.Pair.{Pair}
use Rattle.dm_event.specs.declared.step.Pending.{Pending}
use Rattle.dm_event.specs.declared.step.Pending.TheVariants as pending
use Rattle.dm_event.specs.declared.step.Step.{Step}
use Rattle.dm_kept.specs.Roomy.{KnowsKeys, KnowsPending}
use Rattle.dm_model.proofs.ListFacts.{each_reverse}
use Rattle.dm_model.proofs.Numbering.{within_count}
use Rattle.dm_model.proofs.NumbersSound.{sound_past}
use Rattle.dm_model.specs.Acts.{entries}
use Rattle.dm_model.specs.Legal.{LegalPast}
use Rattle.dm_model.specs.Progress.{entry_count}
use Rattle.dm_model.specs.Tests.{is_among}
use Rattle.dm_store.specs.Histories.{past_of, committed}
use Rattle.dm_store.specs.Known.{AreKnown}
use Rattle.dm_store.specs.Rising.{is_above}
use Rattle.dm_store.specs.declared.past.Past.{Past}

-- ---- its number

below_all : (origin seq : ℕ) (es : List Entry) → Each (λ d. d.origin ≡ origin → d.seq < seq) es
    → list_all (λ (t : Past). if t.origin == origin then nat_lt t.seq seq else true) (map past_of es) ≡ true
below_all origin seq [] h = refl
below_all origin seq (d ∷ es) h = by_test (d.origin == origin) refl (below_all origin seq es h.1)
  where
    by_test : (b : Bool) → (d.origin == origin) ≡ b → list_all (λ (t : Past). if t.origin == origin then nat_lt t.seq seq else true) (map past_of es) ≡ true
        → ((if b then nat_lt d.seq seq else true) && list_all (λ (t : Past). if t.origin == origin then nat_lt t.seq seq else true) (map past_of es)) ≡ true
    by_test true e r = rw (lt-ltb d.seq seq (h.0 (eqb-true d.origin origin e))) r
    by_test false e r = r

each_turned : {X : Type 0} (P : X → Type 0) (xs : List X) → Each P xs → Each P (reverse xs)
each_turned P xs h = each_reverse P (reverse xs) (subst (λ l. Each P l) (sym (reverse-reverse xs)) h)

-- it is above those installed
pub rising_due : (layout : Layout) (steps : List Step) → LegalPast layout (reverse steps) → (e : Entry) → e.seq ≡ entry_count e.origin (reverse steps) + 1
    → is_above (committed steps) e.origin e.seq ≡ true
rising_due layout steps legal e due =
    let w = within_count (entries (reverse steps)) (sound_past layout (reverse steps) legal).numbered in
    below_all e.origin e.seq (reverse (entries (reverse steps)))
    (each_turned (λ d. d.origin ≡ e.origin → d.seq < e.seq) (entries (reverse steps)) (lower (entries (reverse steps)) w))
  where
    lower : (es : List Entry) → Each (λ d. d.seq ≤ entry_count d.origin (reverse steps)) es → Each (λ d. d.origin ≡ e.origin → d.seq < e.seq) es
    lower [] h = tt
    lower (d ∷ es) h =
        ((λ f. (let x = h.0 in let y = ap (λ (j : ℕ). entry_count j (reverse steps)) f in omega (arith, x, y, due))), lower es h.1)

-- ---- known keys

-- pairs whose keys are known
pub known_pairs : (known : List ℕ) (ps : List Pair) → KnowsKeys known (map (λ (p : Pair). p.key) ps) → AreKnown known ps
known_pairs known [] h = tt
known_pairs known (p ∷ ps) h =
    (h p.key (or_left (p.key == p.key) _ (eq-eqb p.key p.key refl)), known_pairs known ps (λ key m. h key (or_right (p.key == key) _ m)))

-- keys that are known stay so
pub known_more : (a b : List ℕ) → ((key : ℕ) → IsTrue (is_among a key) → IsTrue (is_among b key)) → (ps : List Pair) → AreKnown a ps → AreKnown b ps
known_more a b h [] k = tt
known_more a b h (p ∷ ps) k = (h p.key k.0, known_more a b h ps k.1)

pub pending_more : (a b : List ℕ) → ((key : ℕ) → IsTrue (is_among a key) → IsTrue (is_among b key)) → (o : Option Pending)
    → IfSome o (KnowsPending a) → IfSome o (KnowsPending b)
pending_more a b h None k = tt
pending_more a b h (Some (pending.Commit e)) k = known_more a b h e.writes k
pending_more a b h (Some (pending.Release part epoch to v)) k = tt
pending_more a b h (Some (pending.Grant part epoch v)) k = tt
