use Rattle.std.proofs.Common.{ℕ, ◌≡◌, ◌≤◌, ◌+◌, List, [], sym, ap, ◌∙◌, subst, length, arith}
use Rattle.std.specs.List.{range_with_len, sum_by}
use Rattle.std.specs.Prelude.{reverse, vec_len, vec_capacity}
use Rattle.dm_aims.specs.Aiming.{AreAims}
use Rattle.dm_event.specs.Layout.{Layout}
use Rattle.dm_event.specs.declared.limits.TheConstants.{MAX_SESSIONS}
use Rattle.dm_event.specs.declared.step.Step.{Step}
use Rattle.dm_index.specs.Places.{ArePlaces}
use Rattle.dm_kept.proofs.RoomKept.{room_opening}
use Rattle.dm_model.specs.Choices.{window as window_of}
use Rattle.dm_model.specs.Legal.{Legal}
use Rattle.dm_numbers.specs.Counted.{AreNumbers}
use Rattle.dm_room.proofs.Needs.{opening}
use Rattle.dm_room.specs.Room.{items_of, kept}
use Rattle.dm_runs.specs.Running.{AreRuns}
use Rattle.dm_state.specs.Standings.{AreStates}
use Rattle.dm_store.specs.Histories.{committed}
use Rattle.dm_kept.proofs.kept.Kept.new.Goals as goal

pub invariant_of-result : goal.invariant_of-result
invariant_of-result c =
    let S = c.in_ok-try_clone.field-0 in
    let items = c.in_ok-from_slice.field-0 in
    let listed = c.in_ok-with_capacity.field-0 in
    let schema : c.args.schema.now ≡ S = sym c.in_ok-try_clone.ensures in
    let steps : [] ≡ listed.items = sym c.in_ok-with_capacity.ensures.items in
    let counted : c.all_items.result ≡ sum_by (λ session. items_of items.items session) (range_with_len 1 MAX_SESSIONS) =
    c.all_items.ensures.exact ∙ ap (λ (l : List ℕ). sum_by (λ session. items_of l session) (range_with_len 1 MAX_SESSIONS))
    (sym c.in_ok-from_slice.ensures.items) in
    let sites : c.sites.result ≡ S.sites = c.sites.ensures.same ∙ ap (λ (l : Layout). l.sites) schema in
    let first = opening S items.items in
    let count : c.all_items.result + c.sites.result ≡ kept S items.items [] = (λ i. counted i + sites i) ∙ sym first in
    let none : vec_len listed ≡ 0 = c.in_ok-with_capacity.ensures.len in
    let capacity : c.all_items.result + c.sites.result ≤ vec_capacity listed = c.in_ok-with_capacity.ensures.capacity in
    record {
      legal = subst (λ (l : List Step). Legal S l) steps tt;
      states = subst (λ (l : List Step). AreStates S (reverse l) c.in_ok-new.field-0) steps
          (subst (λ (x : Layout). AreStates x [] c.in_ok-new.field-0) schema c.in_ok-new.ensures);
      numbers = subst (λ (l : List Step). AreNumbers S (reverse l) c.in_ok-new-2.field-0) steps
          (subst (λ (x : Layout). AreNumbers x [] c.in_ok-new-2.field-0) schema c.in_ok-new-2.ensures);
      places = subst (λ (l : List Step). ArePlaces S l c.in_ok-new-3.field-0) steps
          (subst (λ (x : Layout). ArePlaces x [] c.in_ok-new-3.field-0) schema c.in_ok-new-3.ensures);
      aims = subst (λ (l : List Step). AreAims S (reverse l) c.in_ok-new-4.field-0) steps (c.in_ok-new-4.ensures S);
      runs = subst (λ (l : List Step). AreRuns (reverse l) c.new-5.result.runs) steps c.new-5.ensures.opening;
      layout = c.in_ok-new-5.ensures.layout ∙ schema;
      installed = c.in_ok-new-5.ensures.installed ∙ ap (λ (l : List Step). committed l) steps;
      window = c.in_ok-new-6.ensures ∙ ap (λ (l : List Step). reverse (window_of S (reverse l))) steps;
      sessions = ap (λ (l : List ℕ). length l) c.in_ok-from_slice.ensures.items ∙ c.requires;
      count = count ∙ ap (λ (l : List Step). kept S items.items (reverse l)) steps;
      room = room_opening _ (sym steps) (omega (arith, count, none, capacity));
    }
