-- What is kept stays so where there is more room.
use Rattle.std.proofs.Common.{ℕ, ◌+◌, ◌-◌, ◌≤◌, ◌≡◌, ◌==◌, true, List, ◌∷◌, Option, Vec, Global, length, refl, sym, ap, ◌∙◌, subst, arith}
use Rattle.std.specs.Prelude.{reverse, vec_len, vec_capacity, IfSome, IsTrue, OnOk, Ok, Err, Result, Some, None, SomeIff}
use Rattle.dm_aims.specs.Aiming.{AreAims}
use Rattle.dm_event.specs.Layout.{Layout, is_site}
use Rattle.dm_event.specs.declared.step.Step.{Step}
use Rattle.dm_event.specs.declared.step.Step.TheVariants.{Begin}
use Rattle.dm_event.specs.declared.step.TxnId.{TxnId}
use Rattle.dm_index.specs.Places.{AreEntries, AreMarks, ArePlaces, Places}
use Rattle.dm_index.specs.Rooms.{room_at}
use Rattle.dm_kept.proofs.Installing.{pending_more}
use Rattle.dm_kept.specs.KeptFields.{shown, IsKept}
use Rattle.dm_kept.specs.Roomy.{all_to_come, HasBegin, KeepsRoom, KnowsPending}
use Rattle.dm_kept.specs.Ledger.{Ledger, past}
use Rattle.dm_kept.specs.declared.kept.Kept.TheInside.{Inside}
use Rattle.dm_model.specs.Attempts.{declared, last_routing, routing_of}
use Rattle.dm_model.specs.Choices.{window as window_of}
use Rattle.dm_model.specs.Doubts.{doubt_at, pending_at}
use Rattle.dm_model.specs.Legal.{Legal, LegalPast}
use Rattle.dm_model.specs.Runs.{runs}
use Rattle.dm_model.specs.Tests.{is_among}
use Rattle.dm_numbers.specs.Counted.{AreNumbers}
use Rattle.dm_room.proofs.Needs.{need_is}
use Rattle.dm_room.specs.Installs.{installs_to_come}
use Rattle.dm_room.specs.Room.{kept, need}
use Rattle.dm_runs.specs.Running.{AreRuns}
use Rattle.dm_runs.specs.Shown.{Shown as Listed}
use Rattle.dm_runs.specs.declared.run.Run.{Run}
use Rattle.dm_state.specs.Standings.{AreStates}
use Rattle.dm_store.specs.Contents.{Contents}
use Rattle.dm_store.specs.Histories.{committed}

-- the same with as much room or more
pub record More (k k' : Ledger) : Type 0 where
  pub room : k.room ≤ k'.room
  pub places : (i : ℕ) → room_at k.places i ≤ room_at k'.places i
  pub installs : k.installs ≤ k'.installs
  pub known : (key : ℕ) → IsTrue (is_among k.known key) → IsTrue (is_among k'.known key)

-- where the history is this
keeps_more : (k k' : Ledger) → k'.layout ≡ k.layout → k'.items ≡ k.items → k'.steps ≡ k.steps → KeepsRoom k → More k k' → KeepsRoom k'
keeps_more k k' e f g keeps more = record {
  steps =
      let l = keeps.steps in
      let m = more.room in
      let same : kept k'.layout k'.items (past k') ≡ kept k.layout k.items (past k) = (λ i. kept (e i) (f i) (reverse (g i))) in
      omega (arith, l, m, same);
  places = λ site here.
      let l = keeps.places site (subst (λ (x : Layout). is_site x site ≡ true) e here) in
      let m = more.places (site - 1) in
      let same : installs_to_come site (past k') ≡ installs_to_come site (past k) = (λ i. installs_to_come site (reverse (g i))) in
      omega (arith, l, m, same);
  installs =
      let l = keeps.installs in
      let m = more.installs in
      let same : all_to_come k'.layout (past k') ≡ all_to_come k.layout (past k) = (λ i. all_to_come (e i) (reverse (g i))) in
      omega (arith, l, m, same);
  running = λ site txn r key h. more.known key (keeps.running site txn (subst (λ (l : List Step). runs site txn (reverse l) ≡ true) g r) key
      (subst (λ (l : List Step). is_among (declared txn (reverse l)) key ≡ true) g h));
  doubted = λ site. subst (λ (l : List Step). IfSome (pending_at site (reverse l)) (KnowsPending k'.known)) (sym g)
      (pending_more k.known k'.known more.known (pending_at site (past k)) (keeps.doubted site));
}

-- what else has to stay
pub record Same (b : Inside) (steps : Vec Step Global) (index : Places) (listed : Listed) (store : Contents) : Type 0 where
  pub items : steps.items ≡ b.steps.items
  pub routes : index.routes ≡ b.index.routes
  pub doubts : index.doubts ≡ b.index.doubts
  pub entries : index.entries ≡ b.index.entries
  pub runs : listed.runs ≡ b.runs.runs
  pub layout : store.layout ≡ b.store.layout
  pub installed : store.installed ≡ b.store.installed

module _ (b : Inside) (steps : Vec Step Global) (index : Places) (listed : Listed) (store : Contents) (same : Same b steps index listed store) where
  same_places : ArePlaces b.schema b.steps.items b.index → ArePlaces b.schema b.steps.items index
  same_places are = record {
    sessions = ap (λ (l : List (Option ℕ)). length l) same.routes ∙ are.sessions;
    sites = ap (λ (l : List (Option ℕ)). length l) same.doubts ∙ are.sites;
    routes = subst (λ (l : List (Option ℕ)). AreMarks (λ c. routing_of (λ (t : TxnId). t.session == c)) b.steps.items l
        (λ c. last_routing c (reverse b.steps.items)))
        (sym same.routes) are.routes;
    doubts = subst (λ (l : List (Option ℕ)). AreMarks doubt_at b.steps.items l (λ i. pending_at i (reverse b.steps.items))) (sym same.doubts) are.doubts;
    entries = subst (λ (l : List (List ℕ)). AreEntries b.schema b.steps.items l) (sym same.entries) are.entries;
  }

  pub still_kept : IsKept b → More (shown b) (shown (record b { steps = steps; index = index; runs = listed; store = store }))
      → IsKept (record b { steps = steps; index = index; runs = listed; store = store })
  still_kept inv more =
      let back = sym same.items in
      record {
        legal = subst (λ (l : List Step). Legal b.schema l) back inv.legal;
        states = subst (λ (l : List Step). AreStates b.schema (reverse l) b.states) back inv.states;
        numbers = subst (λ (l : List Step). AreNumbers b.schema (reverse l) b.numbers) back inv.numbers;
        places = subst (λ (l : List Step). ArePlaces b.schema l index) back (same_places inv.places);
        aims = subst (λ (l : List Step). AreAims b.schema (reverse l) b.aims) back inv.aims;
        runs = subst (λ (l : List Step). AreRuns (reverse l) listed.runs) back
            (subst (λ (rs : List Run). AreRuns (reverse b.steps.items) rs) (sym same.runs) inv.runs);
        layout = same.layout ∙ inv.layout;
        installed = same.installed ∙ inv.installed ∙ ap (λ (l : List Step). committed l) back;
        window = inv.window ∙ ap (λ (l : List Step). reverse (window_of b.schema (reverse l))) back;
        sessions = inv.sessions;
        count = inv.count ∙ ap (λ (l : List Step). kept b.schema b.items.items (reverse l)) back;
        room = keeps_more (shown b) (shown (record b { steps = steps; index = index; runs = listed; store = store })) refl refl same.items inv.room more;
      }

  pub only_more : (room : vec_capacity b.steps - vec_len b.steps ≤ vec_capacity steps - vec_len steps)
      → ((i : ℕ) → room_at b.index.rooms i ≤ room_at index.rooms i)
      → b.store.spare ≤ store.spare → ((key : ℕ) → IsTrue (is_among b.store.known key) → IsTrue (is_among store.known key))
      → IsKept b → IsKept (record b { steps = steps; index = index; runs = listed; store = store })
  only_more room places installs known inv = still_kept inv (record { room = room; places = places; installs = installs; known = known })

-- where only steps have more room
pub steps_more : (b : Inside) (steps : Vec Step Global) → steps.items ≡ b.steps.items → vec_len steps ≡ vec_len b.steps
    → vec_capacity b.steps ≤ vec_capacity steps
    → IsKept b → IsKept (record b { steps = steps; index = b.index; runs = b.runs; store = b.store })
steps_more b steps items len capacity inv =
    only_more b steps b.index b.runs b.store (record {
      items = items;
      routes = refl;
      doubts = refl;
      entries = refl;
      runs = refl;
      layout = refl;
      installed = refl;
    })
    (omega (arith, len, capacity)) (λ i. omega arith) (omega arith) (λ key h. h) inv

-- what follows from four facts of an Ok
pub on_ok : {A E : Type 0} (r : Result A E) (P Q R S T : Type 0) → OnOk r P → OnOk r Q → OnOk r R → OnOk r S → (P → Q → R → S → T) → OnOk r T
on_ok (Ok x) P Q R S T p q r s f = f p q r s
on_ok (Err e) P Q R S T p q r s f = tt

-- a checked sum that is there is the sum
pub some_value : (o : Option ℕ) (C : Type 0) (v m : ℕ) → SomeIff o C v → o ≡ Some m → m ≡ v
some_value None C v m h e = absurd (cc (e))
some_value (Some x) C v m h e = let same : x ≡ m = cc (e) in sym same ∙ h.1

-- any step but a Begin takes nothing else
pub no_begin : (k : Ledger) (s : Step) → ((site : ℕ) (txn : TxnId) (begin : List ℕ) → s ≡ Begin site txn begin → ⊥) → HasBegin k s
no_begin k (Begin site txn begin) n = absurd (n site txn begin refl)
no_begin k other n = tt

-- where steps were reserved, there is room for the step beside those that are kept
pub room_for : (b : Inside) → IsKept b → (steps : Vec Step Global) → steps.items ≡ b.steps.items → (s : Step) (n m : ℕ)
    → n ≡ need b.schema b.items.items (reverse b.steps.items) s → m ≡ b.kept + n → vec_len steps + m ≤ vec_capacity steps
    → kept b.schema b.items.items (reverse steps.items) + need b.schema b.items.items (reverse steps.items) s ≤ vec_capacity steps - vec_len steps
room_for b inv steps items s n m needs sum room =
    let count = inv.count in
    subst (λ (l : List Step). kept b.schema b.items.items (reverse l) + need b.schema b.items.items (reverse l) s ≤ vec_capacity steps - vec_len steps)
    (sym items) (omega (arith, count, needs, sum, room))

-- the room that is kept is there
pub kept_fits : (b : Inside) → IsKept b → b.kept ≤ vec_capacity b.steps - vec_len b.steps
kept_fits b inv = let count = inv.count in let room = inv.room.steps in omega (arith, count, room)

-- a sum that isn't there is too large
pub no_value : (o : Option ℕ) (C : Type 0) (v : ℕ) → SomeIff o C v → o ≡ None → C → ⊥
no_value None C v h e x = h x
no_value (Some y) C v h e x = absurd (cc (e))

-- a Begin needs room
pub begin_needs : (layout : Layout) (items : List ℕ) (past : List Step) (s : Step) → LegalPast layout (s ∷ past) → (site : ℕ) (txn : TxnId) (begin : List ℕ)
    → s ≡ Begin site txn begin → need layout items past s ≡ 1
begin_needs layout items past s h site txn begin e =
    subst (λ (t : Step). need layout items past t ≡ 1) (sym e)
    (need_is layout items past (Begin site txn begin) (subst (λ (t : Step). LegalPast layout (t ∷ past)) e h))
