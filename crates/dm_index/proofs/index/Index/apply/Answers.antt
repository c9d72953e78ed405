use Rattle.std.proofs.Common.{ℕ, ◌≡◌, ◌++◌, ◌∷◌, [], List, Vec, Global, Option, map, sym, ◌∙◌, ap, subst, length}
use Rattle.std.proofs.lemmas.List.{with_items_is}
use Rattle.std.specs.Prelude.{option_copied}
use Rattle.std.specs.Vec.{with_items}
use Rattle.dm_event.specs.declared.step.Entry.{Entry}
use Rattle.dm_index.proofs.Advancing.{Advanced, advanced}
use Rattle.dm_index.proofs.index.Index.apply.Goals as goal
use Rattle.dm_index.specs.Places.{Places, ArePlaces, entry_place, with_place}
use Rattle.dm_index.specs.Rooms.{rooms_of}
use Rattle.dm_index.specs.contracts.index.Index.{the_view}
use Rattle.dm_steps.specs.Pendings.{entry_by}

abbrev items_of : List (Vec ℕ Global) → List (List ℕ)
items_of lists = map (λ (v : Vec ℕ Global). v.items) lists

pub returns-clause-follows : goal.returns-clause-follows
returns-clause-follows c = λ layout steps legal allowed k here are.
    let s = c.args.step.now in
    let kept = option_copied c.args.pending in
    let before : Places = the_view c.self.inside in
    let after : Places = record {
      routes = c.mark_route.new.routes;
      doubts = c.mark_doubt.new.doubts;
      entries = items_of c.append.new.places;
      rooms = rooms_of c.append.new.places;
    } in
    let routes_long : length c.mark_route.new.routes ≡ c.self.inside.routes.len = c.mark_route.ensures.long ∙ c.deref_mut-2.ensures.len in
    let doubts_long : length c.mark_doubt.new.doubts ≡ c.self.inside.doubts.len = c.mark_doubt.ensures.long ∙ c.deref_mut-3.ensures.len in
    let entries_long : length c.append.new.places ≡ c.self.inside.entries.len = c.append.ensures.long ∙ c.deref_mut.ensures.len in
    let up : Advanced before after s kept c.args.place = record {
      sessions = c.mark_route.ensures.long ∙ ap (λ (l : List (Option ℕ)). length l) c.deref_mut-2.ensures.value;
      sites = c.mark_doubt.ensures.long ∙ ap (λ (l : List (Option ℕ)). length l) c.deref_mut-3.ensures.value;
      routes = rw c.deref_mut-2.ensures.value at c.mark_route.ensures.each;
      doubts = rw c.deref_mut-3.ensures.value at c.mark_doubt.ensures.each;
      entries = c.append.ensures.items
          ∙ ap (λ (l : List (Vec ℕ Global)). with_place (items_of l) (option_copied c.entry_by.result) c.entry_place-stands.result) c.deref_mut.ensures.value
          ∙ ap (λ (o : Option Entry). with_place (items_of c.self.inside.entries.items) o c.entry_place-stands.result) c.entry_by.ensures
          ∙ ap (λ (n : ℕ). with_place (items_of c.self.inside.entries.items) (entry_by s kept) n)
          (c.entry_place-stands.ensures ∙ ap (λ (l : List (Option ℕ)). entry_place l s c.args.place) c.deref.ensures.value);
    } in
    let seen : after ≡ the_view (record {
      routes = with_items c.self.inside.routes c.mark_route.new.routes;
      doubts = with_items c.self.inside.doubts c.mark_doubt.new.doubts;
      entries = with_items c.self.inside.entries c.append.new.places;
    }) = sym (λ i. record {
      routes = with_items_is c.self.inside.routes c.mark_route.new.routes routes_long i;
      doubts = with_items_is c.self.inside.doubts c.mark_doubt.new.doubts doubts_long i;
      entries = items_of (with_items_is c.self.inside.entries c.append.new.places entries_long i);
      rooms = rooms_of (with_items_is c.self.inside.entries c.append.new.places entries_long i);
    }) in
    subst (λ (p : Places). ArePlaces layout (steps ++ s ∷ []) p) seen
    (advanced layout steps s legal allowed before after kept k c.args.place here up (rw (← c.self.view_is) at are))
