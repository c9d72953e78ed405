-- The rule of the chronicle: what holds between any two steps of its table.
use Rattle.std.specs.Prelude.{◌≡◌, ◌≢◌, ℕ, zero, suc, ◌+◌, ◌^◌, ◌%◌, ◌<◌, ◌≤◌, List, [], ◌∷◌, ◌++◌, map, length, take, drop, slice_index, Some, None, Option}
use Rattle.std.specs.Prelude.{Bool, true, false, ◌⊎◌, nat_lt}
use mathlib.Core.Option as opt
use mathlib.Core.List.{IsPrefix}
use lib.ListN.{get_elem?}
use Rattle.atomic_table.specs.Table.{State, Me, Step}
use Rattle.dm_event.specs.declared.actor.Actor.{Actor}
use Rattle.dm_chronicle.specs.declared.view.View.{View}
use Rattle.dm_chronicle.specs.declared.view.About.{About}

module _ {A : Type 0} where
  -- x stands in the list
  abbrev pub In : A → List A → Type 0
  In x [] = ⊥
  In x (y ∷ ys) = (y ≡ x) ⊎ In x ys

  -- no two are the same
  abbrev pub Apart : List A → Type 0
  Apart [] = Unit {0}
  Apart (x ∷ xs) = (¬ In x xs) × Apart xs

  abbrev pub keep_if : Bool → A → List A → List A
  keep_if true x xs = x ∷ xs
  keep_if false x xs = xs

module _ {I : Type 0} (has : I → Actor → Bool) where
  -- the steps of the actor
  abbrev pub mine : Actor → List I → List I
  mine a [] = []
  mine a (x ∷ xs) = keep_if (has x a) x (mine a xs)

module _ {I : Type 0} where
  abbrev pub Holding : Actor → List (Actor × List I) → Type 0
  Holding a held = (l : List I) × In (a, l) held

  -- each actor stands once
  abbrev pub Once : List (Actor × List I) → Type 0
  Once [] = Unit {0}
  Once (e ∷ es) = (¬ (Holding e.0 es)) × Once es

  abbrev pub longer : Bool → List I → List I → List I
  longer true xs ys = ys
  longer false xs ys = xs

  -- the list that a join keeps
  abbrev pub later : ℕ → List I → List I → List I
  later zero xs ys = longer (nat_lt (length xs) (length ys)) xs ys
  later (suc m) xs ys = xs

  abbrev pub first_of : List (Actor × List I) → List (Actor × List I)
  first_of [] = []
  first_of (e ∷ es) = e ∷ []

  abbrev pub others_of : List (Actor × List I) → List (Actor × List I)
  others_of [] = []
  others_of (e ∷ es) = es

  abbrev pub names : List (Actor × List I) → List Actor
  names held = map (λ e. e.0) held

-- each step may follow those before it
module _ {I F : Type 0} (may : F → List I → I → Type 0) (f : F) where
  abbrev pub Legal : List I → List I → Type 0
  Legal before [] = Unit {0}
  Legal before (x ∷ xs) = may f before x × Legal (before ++ x ∷ []) xs

module _ {I F : Type 0} where
  abbrev pub spent : View I F
  spent = record { seen = []; held = []; mark = 0; older = []; fixed = None; opening = 0; own = 0 }

  abbrev pub joined : View I F → View I F → View I F
  joined v w = record {
    seen = later v.mark v.seen w.seen;
    held = v.held ++ w.held;
    mark = v.mark;
    older = (v.seen, v.fixed) ∷ (w.seen, w.fixed)
        ∷ (v.older ++ w.older);
    fixed = v.fixed;
    opening = v.opening;
    own = length v.held;
  }

  abbrev pub gathered : View I F → View I F → View I F
  gathered v w = record (joined v w) { older = [] }

  -- a view with nothing in it but the list
  abbrev pub note : View I F → View I F
  note v = record v { held = []; mark = 0 }

  abbrev pub keeps_own : View I F → View I F
  keeps_own v = record v { held = take v.own v.held }

  abbrev pub gives_back : View I F → View I F
  gives_back v = record v { held = drop v.own v.held; mark = 0 }

  abbrev pub without : View I F → View I F
  without v = record v { held = [] }

module _ {L I F : Type 0} (list : L → List I) (fixed : L → F) (has : I → Actor → Bool) (may : F → List I → I → Type 0) where
  abbrev pub V : Type 0
  V = View I F

  abbrev pub M : Type 0
  M = Me (Option L) V

  abbrev pub first_view : L → List Actor → V
  first_view o actors = record {
    seen = list o;
    held = map (λ a. (a, mine has a (list o))) actors;
    mark = 2;
    older = [];
    fixed = Some (fixed o);
    opening =
        length (list o);
    own = 0;
  }

  -- what the rule says of one view, where the list is now h
  pub record Fits (about : About L) (h : List I) (v : V) : Type 0 where
    pub begins : IsPrefix v.seen h
    pub steps : (a : Actor) (l : List I) → In (a, l) v.held → (l ≡ mine has a h) × (l ≡ mine has a v.seen)
    pub once : Once v.held
    pub known : (a : Actor) → Holding a v.held → In a about.actors.items
    pub olds : (o : List I) (g : Option F) → In (o, g) v.older → IsPrefix o v.seen × ((f : F) → g ≡ Some f → f ≡ fixed about.kept)
    pub live : (f : F) → v.fixed ≡ Some f → (f ≡ fixed about.kept) × (v.opening ≡ length (list about.kept))

  -- the object is at home, and no view has the mark
  pub record Free (about : About L) (h : List I) (s : State (Option L) V) : Type 0 where
    pub word : slice_index s.words 0 ≡ 0
    pub object : L
    pub home : s.homes ≡ opt.some (Some object) ∷ []
    pub its_list : list object ≡ h
    pub its_fixed : fixed object ≡ fixed about.kept
    pub nobody : (k : ℕ) (v : V) → get_elem? s.views k ≡ opt.some v → v.mark ≡ 0

  -- one view has the mark, and has seen all
  pub record Taken (h : List I) (s : State (Option L) V) : Type 0 where
    pub word : (0 < slice_index s.words 0) × (slice_index s.words 0 ≤ 2)
    pub home : (slice_index s.words 0 ≡ 1 → s.homes ≡ opt.none ∷ []) × (slice_index s.words 0 ≡ 2 → s.homes ≡ opt.some None ∷ [])
    pub seat : ℕ
    pub view : V
    pub there : get_elem? s.views seat ≡ opt.some view
    pub mark : view.mark ≡ slice_index s.words 0
    pub whole : view.seen ≡ h
    pub acts : (a : Actor) × Holding a view.held
    pub others : (k : ℕ) (v : V) → get_elem? s.views k ≡ opt.some v → k ≢ seat → v.mark ≡ 0

  pub record Holds (about : About L) (s : State (Option L) V) : Type 0 where
    pub now : List I
    pub wide : length s.words ≡ 2
    pub lawful : Legal may (fixed about.kept) [] now
    pub count : length now % 2 ^ 64 ≡ (length (list about.kept) + slice_index s.words 1) % 2 ^ 64
    pub views : (k : ℕ) (v : V) → get_elem? s.views k ≡ opt.some v → Fits about now v
    pub apart : (j k : ℕ) (v w : V) (a : Actor) → get_elem? s.views j ≡ opt.some v → get_elem? s.views k ≡ opt.some w → Holding a v.held → Holding a w.held
        → j ≡ k
    pub turn : Free about now s ⊎ Taken now s

  -- what the steps tell

  abbrev pub takes : V → List I → V
  takes v l = record v { seen = l; mark = 1 }

  pub record Took (me after : M) : Type 0 where
    pub object : L
    pub slot : after.1 ≡ (0, Some object) ∷ me.1
    pub lawful : Legal may (fixed object) [] (list object)
    pub view : after.0 ≡ takes me.0 (list object)
    pub its_fixed : (f : F) → me.0.fixed ≡ Some f → fixed object ≡ f
    pub begins : IsPrefix me.0.seen (list object)
    pub steps : (a : Actor) (l : List I) → In (a, l) me.0.held → l ≡ mine has a (list object)

  abbrev pub tries : Step (Option L) → M → ℕ → M → Type 0
  tries st me found after = (found ≡ 0 → Took me after) × (found ≢ 0 → after ≡ me)

  abbrev pub pushes : V → List I → V
  pushes v l = record v { seen = l; held = map (λ e. (e.0, mine has e.0 l)) v.held }

  abbrev pub pushed : Step (Option L) → M → ℕ → M → Type 0
  pushed st me found after = (after.1 ≡ me.1) × ((o : L) → me.1 ≡ (0, Some o) ∷ [] → after.0 ≡ pushes me.0 (list o))

  abbrev pub gave : Step (Option L) → M → ℕ → M → Type 0
  gave st me found after = after ≡ (record me.0 { mark = 0 }, [])

  abbrev pub opened : Step (Option L) → M → ℕ → M → Type 0
  opened st me found after = after ≡ (record me.0 { mark = 1 }, (0, None) ∷ [])

  pub record Looked (me after : M) : Type 0 where
    pub view : after ≡ (record me.0 { older = [] }, me.1)
    pub olds : (o : List I) (g : Option F) → In (o, g) me.0.older → IsPrefix o me.0.seen × ((f h : F) → g ≡ Some f → me.0.fixed ≡ Some h → f ≡ h)
    pub steps : (a : Actor) (l : List I) → In (a, l) me.0.held → l ≡ mine has a me.0.seen
    pub lawful : (f : F) → me.0.fixed ≡ Some f → (p : List I) → IsPrefix p me.0.seen → Legal may f [] p

  abbrev pub looked : Step (Option L) → M → ℕ → M → Type 0
  looked st me found after = Looked me after

  -- what a load has shown of a view
  pub record Shows (v : V) : Type 0 where
    pub steps : (a : Actor) (l : List I) → In (a, l) v.held → l ≡ mine has a v.seen
    pub lawful : (f : F) → v.fixed ≡ Some f → Legal may f [] v.seen

  -- what a pass knows of itself
  pub record Rests (me : M) : Type 0 where
    pub hands : me.1 ≡ []
    pub mark : me.0.mark ≡ 0
    pub olds : me.0.older ≡ []
    pub live : (f : F) × (me.0.fixed ≡ Some f)
    pub steps : (a : Actor) (l : List I) → In (a, l) me.0.held → l ≡ mine has a me.0.seen
    pub lawful : (f : F) → me.0.fixed ≡ Some f → Legal may f [] me.0.seen

  -- what a turn knows of itself, with the object in its hands
  pub record Acts (me : M) (o : L) : Type 0 where
    pub hands : me.1 ≡ (0, None) ∷ []
    pub mark : me.0.mark ≡ 1
    pub olds : me.0.older ≡ []
    pub live : me.0.fixed ≡ Some (fixed o)
    pub whole : me.0.seen ≡ list o
    pub steps : (a : Actor) (l : List I) → In (a, l) me.0.held → l ≡ mine has a me.0.seen
    pub lawful : Legal may (fixed o) [] (list o)
    pub acts : (a : Actor) × Holding a me.0.held

  -- the object in hand may take the step: it is the one of the seat, the step may follow its list, and it has room
  pub record Ready (has_room : L → I → Type 0) (me : M) (kept : Option L) (step : I) : Type 0 where
    pub object : L
    pub in_hand : kept ≡ Some object
    pub acts : Acts me object
    pub follows : may (fixed object) (list object) step
    pub room : has_room object step

  -- the seat, and the object in hand, once the step is appended
  pub record Appended (me after : M) (kept : Option L) (step : I) : Type 0 where
    pub object : L
    pub in_hand : kept ≡ Some object
    pub acts : Acts after object
    pub grown : list object ≡ me.0.seen ++ step ∷ []
    pub view : after.0 ≡ pushes me.0 (list object)
