use Rattle.std.proofs.Common.{ℕ, ◌≡◌, ◌<◌, ◌≤◌, ◌^◌, ◌+◌, ◌-◌, List, [], ◌∷◌, ◌++◌, Option, refl, ap, sym, ◌∙◌, subst, length, arith}
use Rattle.std.proofs.lemmas.List.{reverse-append}
use Rattle.std.specs.Prelude.{reverse, option_copied, map, option_to_list, IfSome}
use Rattle.dm_aims.specs.Aiming.{AreAims}
use Rattle.dm_event.specs.declared.step.Entry.{Entry}
use Rattle.dm_event.specs.declared.step.Pending.{Pending}
use Rattle.dm_event.specs.declared.step.Step.{Step}
use Rattle.dm_index.proofs.Stored.{committed_next}
use Rattle.dm_index.specs.Places.{ArePlaces}
use Rattle.dm_index.specs.Rooms.{room_at, takes, CanTake}
use Rattle.dm_kept.proofs.KeptCount.{finds, few_steps, off_by, told_kept}
use Rattle.dm_kept.proofs.RoomKept.{room_next, fits}
use Rattle.dm_kept.specs.Finding.{Finds}
use Rattle.dm_kept.specs.KeptFields.{shown}
use Rattle.dm_kept.specs.Roomy.{HasRoom, MayInstall}
use Rattle.dm_kept.specs.Ledger.{Ledger, past}
use Rattle.dm_model.proofs.Judged.{shape_of}
use Rattle.dm_model.specs.Allowed.{Allowed}
use Rattle.dm_model.specs.Choices.{window as window_of}
use Rattle.dm_model.specs.Legal.{LegalPast}
use Rattle.dm_numbers.specs.Counted.{AreNumbers}
use Rattle.dm_room.specs.Room.{kept}
use Rattle.dm_runs.specs.Running.{AreRuns}
use Rattle.dm_state.specs.Standings.{AreStates}
use Rattle.dm_steps.specs.Naming.{named_in}
use Rattle.dm_steps.specs.Pendings.{kept_of, entry_by}
use Rattle.dm_store.specs.Histories.{past_of, committed}
use Rattle.dm_store.specs.declared.past.Past.{Past}
use Rattle.dm_kept.proofs.kept.Kept.push.Goals as goal

pub kept_of-pending-requires : goal.kept_of-pending-requires
kept_of-pending-requires c =
    let b = c.self.inside in
    subst (λ (l : List Step). Finds l b.index) (sym c.deref.ensures.value) (finds b.schema b.steps.items b.index c.self.invariant.places)

pub named_in-named-requires : goal.named_in-named-requires
named_in-named-requires c =
    let b = c.self.inside in
    subst (λ (l : List Step). Finds l b.index) (sym c.deref-2.ensures.value) (finds b.schema b.steps.items b.index c.self.invariant.places)

pub overflow_sub-self : goal.overflow_sub-self
overflow_sub-self c =
    let b = c.self.inside in
    let inv = c.self.invariant in
    let s = c.args.step in
    let p = reverse b.steps.items in
    let allowed : Allowed b.schema p s = subst (λ (k : Ledger). Allowed k.layout (past k) s) (sym c.self.view_is) c.requires.allowed in
    let left : option_copied c.kept_of-pending.result ≡ kept_of s p = c.kept_of-pending.ensures
    ∙ ap (λ (l : List Step). kept_of s (reverse l)) c.deref.ensures.value in
    let off : c.comes_off-off.result ≡ off_by s b.items.items b.states (option_copied c.kept_of-pending.result) =
    c.comes_off-off.ensures.exact ∙ ap (λ (l : List ℕ). off_by s l b.states (option_copied c.kept_of-pending.result)) c.deref-3.ensures.value in
    let told = told_kept b.schema b.items.items p inv.legal s allowed b.states inv.states b.numbers inv.numbers c.comes_on.result c.comes_off-off.result
    (option_copied c.kept_of-pending.result) left c.comes_on.ensures.exact off in
    let count = inv.count in
    omega (arith, told, count)

pub install-requires : goal.install-requires
install-requires c =
    let b = c.self.inside in
    let s = c.args.step in
    let k = shown b in
    let p = past k in
    let allowed : Allowed b.schema p s = subst (λ (r : Ledger). Allowed r.layout (past r) s) (sym c.self.view_is) c.requires.allowed in
    let left : option_copied c.kept_of-pending.result ≡ kept_of s p = c.kept_of-pending.ensures
    ∙ ap (λ (l : List Step). kept_of s (reverse l)) c.deref.ensures.value in
    let added : option_copied c.entry_by.result ≡ entry_by s (kept_of s p) = c.entry_by.ensures ∙ ap (λ (o : Option Pending). entry_by s o) left in
    subst (λ (o : Option Entry). IfSome o (MayInstall b.store)) (sym added)
    (fits k c.self.invariant.legal c.self.invariant.room s allowed b.store b.index refl refl c.self.invariant.installed refl
    c.self.invariant.places.entries.long).install

pub apply-requires : goal.apply-requires
apply-requires c =
    let b = c.self.inside in
    let s = c.args.step in
    let k = shown b in
    let p = past k in
    let allowed : Allowed b.schema p s = subst (λ (r : Ledger). Allowed r.layout (past r) s) (sym c.self.view_is) c.requires.allowed in
    let left : option_copied c.kept_of-pending.result ≡ kept_of s p = c.kept_of-pending.ensures
    ∙ ap (λ (l : List Step). kept_of s (reverse l)) c.deref.ensures.value in
    subst (λ (o : Option Pending). IfSome (entry_by s o) (CanTake b.index)) (sym left)
    (fits k c.self.invariant.legal c.self.invariant.room s allowed b.store b.index refl refl c.self.invariant.installed refl
    c.self.invariant.places.entries.long).place

pub note-requires : goal.note-requires
note-requires c =
    let allowed = subst (λ (r : Ledger). Allowed r.layout (past r) c.args.step) (sym c.self.view_is) c.requires.allowed in
    shape_of c.self.inside.schema (past (shown c.self.inside)) c.args.step allowed

pub invariant_of-self : goal.invariant_of-self
invariant_of-self c =
    let b = c.self.inside in
    let inv = c.self.invariant in
    let s = c.args.step in
    let steps = b.steps.items in
    let p = reverse steps in
    let k = shown b in
    let allowed : Allowed b.schema p s = subst (λ (r : Ledger). Allowed r.layout (past r) s) (sym c.self.view_is) c.requires.allowed in
    let has : HasRoom k s = subst (λ (r : Ledger). HasRoom r s) (sym c.self.view_is) c.requires.room in
    let shaped = shape_of b.schema p s allowed in
    let new : steps ++ s ∷ [] ≡ c.push_reserved.new.self.items = sym c.push_reserved.ensures.items in
    let last : s ∷ p ≡ reverse c.push_reserved.new.self.items = sym (ap (λ (l : List Step). reverse l) c.push_reserved.ensures.items
    ∙ reverse-append steps (s ∷ [])) in
    let here : c.len-place.result ≡ length steps = c.len-place.ensures ∙ b.steps.ok.0 in
    let left : option_copied c.kept_of-pending.result ≡ kept_of s p = c.kept_of-pending.ensures
    ∙ ap (λ (l : List Step). kept_of s (reverse l)) c.deref.ensures.value in
    let named : option_copied c.named_in-named.result ≡ named_in s p = c.named_in-named.ensures
    ∙ ap (λ (l : List Step). named_in s (reverse l)) c.deref-2.ensures.value in
    let added : option_copied c.entry_by.result ≡ entry_by s (kept_of s p) = c.entry_by.ensures ∙ ap (λ (o : Option Pending). entry_by s o) left in
    let few : length p < 2 ^ 63 = few_steps b.steps in
    let states : AreStates b.schema (s ∷ p) c.apply-3.new.self = c.apply-3.ensures.follows b.schema p inv.legal allowed left inv.states in
    let off : c.comes_off-off.result ≡ off_by s b.items.items b.states (option_copied c.kept_of-pending.result) =
    c.comes_off-off.ensures.exact ∙ ap (λ (l : List ℕ). off_by s l b.states (option_copied c.kept_of-pending.result)) c.deref-3.ensures.value in
    let told = told_kept b.schema b.items.items p inv.legal s allowed b.states inv.states b.numbers inv.numbers c.comes_on.result c.comes_off-off.result
    (option_copied c.kept_of-pending.result) left c.comes_on.ensures.exact off in
    let counted : b.kept + c.comes_on.result - c.comes_off-off.result ≡ kept b.schema b.items.items (s ∷ p) =
    (let count = inv.count in omega (arith, told, count)) in
    let more : c.push_reserved.new.self.len ≡ b.steps.len + 1 = c.push_reserved.ensures.len in
    let same : c.push_reserved.new.self.cap ≡ b.steps.cap = c.push_reserved.ensures.capacity in
    record {
      legal = subst (λ (l : List Step). LegalPast b.schema l) last (inv.legal, allowed);
      states = subst (λ (l : List Step). AreStates b.schema l c.apply-3.new.self) last states;
      numbers = subst (λ (l : List Step). AreNumbers b.schema l c.apply-4.new.self) last
          (c.apply-4.ensures.follows b.schema p inv.legal allowed few left named inv.numbers);
      places = subst (λ (l : List Step). ArePlaces b.schema l c.apply.new.self) new
          (c.apply.ensures.follows b.schema steps inv.legal allowed left here inv.places);
      aims = subst (λ (l : List Step). AreAims b.schema l c.apply-5.new.self) last (c.apply-5.ensures.follows b.schema p shaped states inv.aims);
      runs = subst (λ (l : List Step). AreRuns l c.apply-2.new.self.runs) last (c.apply-2.ensures.follows b.schema p (inv.legal, allowed) inv.runs);
      layout = c.install.ensures.layout ∙ inv.layout;
      installed = c.install.ensures.installed
          ∙ ap (λ (l : List Past). l ++ map past_of (option_to_list (option_copied c.entry_by.result))) inv.installed
          ∙ ap (λ (o : Option Entry). committed steps ++ map past_of (option_to_list o)) added
          ∙ sym (committed_next steps s) ∙ ap (λ (l : List Step). committed l) new;
      window = c.note.ensures p inv.window ∙ ap (λ (l : List Step). reverse (window_of b.schema l)) last;
      sessions = inv.sessions;
      count = counted ∙ ap (λ (l : List Step). kept b.schema b.items.items l) last;
      room = room_next k inv.legal inv.room s allowed has _ (record {
        layout = refl;
        items = refl;
        steps = sym last;
        room = omega (arith, more, same);
        places = λ i. subst (λ (o : Option Pending). room_at b.index.rooms i ≤ room_at c.apply.new.self.rooms i + takes i (entry_by s o)) left
            (c.apply.ensures.rooms i);
        installs = subst (λ (o : Option Entry). c.install.new.store.spare + length (option_to_list o) ≡ b.store.spare) added c.install.ensures.spare;
        known = c.install.ensures.known;
      });
    }
