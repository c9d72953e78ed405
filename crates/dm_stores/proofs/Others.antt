-- What the steps of others leave in a site's store.
use Rattle.std.proofs.Common.{ℕ, ◌≤◌, ◌≡◌, false, List, ◌∷◌, sym, subst, arith}
use Rattle.std.proofs.lemmas.Bool.{lt-leb}
use Rattle.std.specs.List.{AllByRecursion as Each}
use Rattle.dm_chronicle.specs.Belongs.{belongs}
use Rattle.dm_event.specs.Actors.{actors}
use Rattle.dm_event.specs.Layout.{Layout}
use Rattle.dm_event.specs.Vectors.{at}
use Rattle.dm_event.specs.declared.actor.Actor.TheVariants.{Site}
use Rattle.dm_event.specs.declared.step.Entry.{Entry}
use Rattle.dm_event.specs.declared.step.Step.{Step}
use Rattle.dm_model.proofs.NumbersSound.{sound_past}
use Rattle.dm_model.proofs.VectorFacts.{at_by_below}
use Rattle.dm_model.specs.Acts.{entries}
use Rattle.dm_model.specs.Legal.{LegalPast}
use Rattle.dm_model.specs.Progress.{reached, site_vector}
use Rattle.dm_others.proofs.Others.{Brings, nothing, entry, brings, vector_other}
use Rattle.dm_store.specs.declared.past.Past.{Past}
use Rattle.dm_stores.proofs.Inside.{has_out}
use Rattle.dm_stores.specs.Stores.{Has, Stores}

-- an entry of another origin that comes isn't inside the site's vector
pub stores_other : (layout : Layout) (past : List Step) (x : Step) (i : ℕ) (ins : List Past) → LegalPast layout (x ∷ past) → belongs actors x (Site i) ≡ false
    → Stores layout past i ins → Stores layout (x ∷ past) i ins
stores_other layout past x i ins l b k =
    let v = vector_other layout i past l.0 x l.1 b in
    record {
      has = subst (λ (u : List ℕ). Has (entries (x ∷ past)) u ins) (sym v) (by (entries (x ∷ past)) (brings layout i past l.0 x l.1 b));
      within = subst (λ (u : List ℕ). Each (λ t. t.seq ≤ at u t.origin) ins) (sym v) k.within;
    }
  where
    by : (es : List Entry) → Brings i (entries past) es → Has es (site_vector layout.sites past i) ins
    by es nothing = k.has
    by es (entry e n q) =
        has_out (site_vector layout.sites past i) e (entries past) ins
        (lt-leb e.seq (at (site_vector layout.sites past i) e.origin)
        (let a = at_by_below layout.sites (λ j. reached i j past) e.origin in let c = ((sound_past layout past l.0).closed i).within e.origin in
        omega (arith, a, c, q))) k.has
