-- What tidying leaves.
use Rattle.std.proofs.Common.{◌≡◌, inl, inr, refl, sym, ◌∙◌, ap, subst, ℕ, zero, suc, ◌+◌, ◌≤◌, Bool, true, false, List, [], ◌∷◌, ◌++◌, length, take, drop, arith, length-append, length-drop, take-append-drop, min}
use Rattle.std.proofs.lemmas.List.{take_at, take_all, append-nil}
use Rattle.std.specs.Prelude.{Option, Some, None, Result, Ok, Err, IfSome, OnOk}
use Rattle.dm_logdisk.specs.Story.{wrote, cut_to, synced, Story, noted, bytes_of, EachImage, IsDurable, after, LeavesOnly, Both, Torn, overwritten}
use Rattle.dm_logdisk.proofs.Images.{sync_keeps, leaves_then, overwritten_end, overwritten_within}
use Rattle.dm_redo.specs.Holding.{framed, IsEnd, Holds, Stands, IsBeforeOrAfter}
use Rattle.dm_redo.proofs.Places.{framed_push}
use Rattle.dm_redo.specs.Tidying.{IsCut, Shortens, Closes, Tidies}

stands_holds : (frames : List (List ℕ)) (gate : ℕ) (s : Story) → Stands frames gate s → Holds frames (bytes_of s)
stands_holds frames gate s stands = (stands.rest, stands.reads, stands.ends)

durable_holds : (frames : List (List ℕ)) (gate : ℕ) (s : Story) → Stands frames gate s → IsDurable s → EachImage (Holds frames) s
durable_holds frames gate s stands durable c left = subst (Holds frames) (sym (durable c left)) (stands_holds frames gate s stands)

cut_short : (front rest : List ℕ) (n : ℕ) → n ≡ length front + 1 → take n (front ++ rest) ≡ front ++ take 1 rest
cut_short [] rest n is = ap (λ (k : ℕ). take k rest) is
cut_short (x ∷ front) rest zero is = absurd (omega arith)
cut_short (x ∷ front) rest (suc n) is = ap (λ (l : List ℕ). x ∷ l) (cut_short front rest n (omega arith))

one_ends : (rest : List ℕ) → IsEnd (take 1 rest)
one_ends [] = tt
one_ends (x ∷ rest) = tt

one_short : (rest : List ℕ) → length (take 1 rest) ≤ 1
one_short [] = omega arith
one_short (x ∷ rest) = omega arith

cut_len : {a b c d g : ℕ} → a ≡ b → b ≡ c + d → d ≤ 1 → g ≡ c → a ≤ g + 1
cut_len e f h i = omega arith

module _ (gate : ℕ) where
  pub cut_stands : (frames : List (List ℕ)) (s : Story) → Stands frames gate s → Stands frames gate (noted (cut_to (gate + 1) true) s)
  cut_stands frames s stands = record {
    rest = take 1 stands.rest;
    reads = ap (λ (l : List ℕ). take (gate + 1) l) stands.reads ∙ cut_short (framed frames) stands.rest (gate + 1) (omega (arith, stands.place));
    ends = one_ends stands.rest;
    place = stands.place;
  }

  cut_holds : (frames : List (List ℕ)) (s : Story) (effect : Bool) → Stands frames gate s → IsDurable s
      → EachImage (Holds frames) (noted (cut_to (gate + 1) effect) s)
  cut_holds frames s effect stands durable c (inl left) = durable_holds frames gate s stands durable c left
  cut_holds frames s effect stands durable c (inr (d, left, is)) =
      subst (Holds frames) (sym (is ∙ ap (λ (l : List ℕ). take (gate + 1) l) (durable d left))) (stands_holds frames gate _ (cut_stands frames s stands))

  pub short_after : (frames : List (List ℕ)) (s : Story) (stands : Stands frames gate s) → length (bytes_of (noted (cut_to (gate + 1) true) s)) ≤ gate + 1
  unfolding cut_stands
  short_after frames s stands =
      cut_len (ap length (cut_stands frames s stands).reads) (length-append (framed frames) (take 1 stands.rest)) (one_short stands.rest) stands.place

  pub shorten_none : (E : Type 0) (o : Option Story) (len : ℕ) → len ≤ gate + 1 → IfSome o (λ s. len ≡ length (bytes_of s))
      → Both (Shortens {E = E} gate (Ok tt)) o o
  shorten_none E None len short is = tt
  shorten_none E (Some s) len short is =
      λ frames stands. ((stands, omega (arith, short, is)), λ durable. (([], refl, durable_holds frames gate s stands durable), durable))

  pub shorten_cut : {E : Type 0} (e : E) (effect : Bool) (s : Story) → Shortens gate (Err e) s (after (cut_to (gate + 1) effect ∷ []) s)
  shorten_cut e effect s =
      λ frames stands. (
        tt,
        λ durable.
            ((cut_to (gate + 1) effect ∷ [], refl, (durable_holds frames gate s stands durable, cut_holds frames s effect stands durable)), tt),
      )

  shorten_moments : (frames : List (List ℕ)) (s : Story) (effect : Bool) → Stands frames gate s → IsDurable s
      → LeavesOnly (Holds frames) s (after (synced effect ∷ cut_to (gate + 1) true ∷ []) s)
  shorten_moments frames s effect stands durable =
      let cut = cut_holds frames s true stands durable in (
        synced effect ∷ cut_to (gate + 1) true ∷ [],
        refl,
        ((durable_holds frames gate s stands durable, cut), sync_keeps (Holds frames) (noted (cut_to (gate + 1) true) s) effect cut),
      )

  pub shorten_sync : {E : Type 0} (result : Result (Unit {0}) E) (effect : Bool) → OnOk result (effect ≡ true) → (s : Story)
      → Shortens gate result s (after (synced effect ∷ cut_to (gate + 1) true ∷ []) s)
  shorten_sync (Ok x) true has s = λ frames stands. (
    (
      record {
        rest =
            (cut_stands frames s stands).rest;
        reads = (cut_stands frames s stands).reads;
        ends = (cut_stands frames s stands).ends;
        place = stands.place;
      },
      short_after frames s stands,
    ),
    λ durable. (shorten_moments frames s true stands durable, λ c left. left),
  )
  shorten_sync (Ok x) false has s = absurd (cc has)
  shorten_sync (Err e) effect has s = λ frames stands. (tt, λ durable. (shorten_moments frames s effect stands durable, tt))

  pub short_is_cut : (o : Option Story) (len : ℕ) → len ≤ gate + 1 → IfSome o (λ s. len ≡ length (bytes_of s)) → Both (IsCut gate) o o
  short_is_cut None len short is = tt
  short_is_cut (Some s) len short is = sym (take_all (gate + 1) (bytes_of s) (omega (arith, short, is)))

  torn_zero : (front rest c : List ℕ) → gate ≡ length front → length rest ≤ 1 → Torn gate 1 (front ++ rest) c
      → (tail : List ℕ) × (c ≡ front ++ tail) × IsEnd tail
  torn_zero front rest c place short torn =
      let long = length-append front rest in
      let least : min gate (length (front ++ rest)) ≡ gate = omega (arith, long, place) in
      let head : take gate c ≡ front = ap (λ (n : ℕ). take n c) (sym least) ∙ torn.before ∙ take_at front rest gate (sym place) in
      let few : length (drop gate c) ≤ 1 = omega (arith, length-drop gate c, torn.no_longer, long, place, short) in
      (drop gate c, sym (take-append-drop gate c) ∙ ap (λ (l : List ℕ). l ++ drop gate c) head, few_ends (drop gate c) few)
    where
      few_ends : (tail : List ℕ) → length tail ≤ 1 → IsEnd tail
      few_ends [] few = tt
      few_ends (x ∷ []) few = tt
      few_ends (x ∷ y ∷ tail) few = absurd (omega arith)

  zero_written : (front rest : List ℕ) → gate ≡ length front → length rest ≤ 1 → overwritten gate (0 ∷ []) (front ++ rest) ≡ front ++ 0 ∷ []
  zero_written front [] place short = ap (λ (l : List ℕ). overwritten gate (0 ∷ []) l) (append-nil front) ∙ overwritten_end front (0 ∷ []) gate place
  zero_written front (x ∷ []) place short = overwritten_within front (x ∷ []) (0 ∷ []) [] gate place refl
  zero_written front (x ∷ y ∷ rest) place short = absurd (omega arith)

  rest_short : (frames : List (List ℕ)) (s : Story) (stands : Stands frames gate s) → length (bytes_of s) ≤ gate + 1 → length stands.rest ≤ 1
  rest_short frames s stands short = rest_few (ap length stands.reads) (length-append (framed frames) stands.rest) stands.place short
    where
      rest_few : {a b c d g : ℕ} → a ≡ b → b ≡ c + d → g ≡ c → a ≤ g + 1 → d ≤ 1
      rest_few e f h i = omega arith

  zero_holds : (frames : List (List ℕ)) (s : Story) (effect : Bool) → Stands frames gate s → IsDurable s → length (bytes_of s) ≤ gate + 1
      → EachImage (Holds frames) (noted (wrote gate (0 ∷ []) effect) s)
  zero_holds frames s effect stands durable short c left =
      torn_zero (framed frames) stands.rest c stands.place (rest_short frames s stands short)
      (subst (λ (d : List ℕ). Torn gate 1 d c) (durable left.0 left.1 ∙ stands.reads) left.2)

  zero_reads : (frames : List (List ℕ)) (s : Story) → Stands frames gate s → length (bytes_of s) ≤ gate + 1
      → bytes_of (noted (wrote gate (0 ∷ []) true) s) ≡ framed frames ++ 0 ∷ []
  zero_reads frames s stands short =
      ap (λ (l : List ℕ). overwritten gate (0 ∷ []) l) stands.reads ∙ zero_written (framed frames) stands.rest stands.place (rest_short frames s stands short)

  pub close_none : (E : Type 0) (closed : Type 0) (o : Option Story) → closed → IfSome o (λ s. closed → bytes_of s ≡ take gate (bytes_of s) ++ 0 ∷ [])
      → Both (Closes {E = E} gate (Ok tt)) o o
  close_none E closed None shut is = tt
  close_none E closed (Some s) shut is = λ frames stands short. (
    record {
      reads =
          is shut ∙ ap (λ (l : List ℕ). l ++ 0 ∷ [])
          (ap (λ (l : List ℕ). take gate l) stands.reads ∙ take_at (framed frames) stands.rest gate (sym stands.place));
      place = stands.place;
    },
    λ durable. (([], refl, durable_holds frames gate s stands durable), durable),
  )

  pub close_write : {E : Type 0} (e : E) (effect : Bool) (s : Story) → Closes gate (Err e) s (after (wrote gate (0 ∷ []) effect ∷ []) s)
  close_write e effect s =
      λ frames stands short. (
        tt,
        λ durable. (
          (wrote gate (0 ∷ []) effect ∷ [], refl, (durable_holds frames gate s stands durable, zero_holds frames s effect stands durable short)),
          tt,
        ),
      )

  close_moments : (frames : List (List ℕ)) (s : Story) (effect : Bool) → Stands frames gate s → IsDurable s → length (bytes_of s) ≤ gate + 1
      → LeavesOnly (Holds frames) s (after (synced effect ∷ wrote gate (0 ∷ []) true ∷ []) s)
  close_moments frames s effect stands durable short =
      let zero_is = zero_holds frames s true stands durable short in (
        synced effect ∷ wrote gate (0 ∷ []) true ∷ [],
        refl,
        ((durable_holds frames gate s stands durable, zero_is), sync_keeps (Holds frames) (noted (wrote gate (0 ∷ []) true) s) effect zero_is),
      )

  pub close_sync : {E : Type 0} (result : Result (Unit {0}) E) (effect : Bool) → OnOk result (effect ≡ true) → (s : Story)
      → Closes gate result s (after (synced effect ∷ wrote gate (0 ∷ []) true ∷ []) s)
  close_sync (Ok x) true has s =
      λ frames stands short.
      (record { reads = zero_reads frames s stands short; place = stands.place }, λ durable. (close_moments frames s true stands durable short, λ c left. left))
  close_sync (Ok x) false has s = absurd (cc has)
  close_sync (Err e) effect has s = λ frames stands short. (tt, λ durable. (close_moments frames s effect stands durable short, tt))

  -- cut first, then closed
  pub tidied : {E : Type 0} (result : Result (Unit {0}) E) (a b c : Story) → Shortens {E = E} gate (Ok tt) a b → Closes gate result b c → Tidies gate result a c
  tidied result a b c short close = λ frames stands.
      let first = short frames stands in
      let then_close = close frames first.0.0 first.0.1 in (
        then_close.0,
        λ durable.
            let cut = first.1 durable in
            let shut = then_close.1 cut.1 in
            (leaves_then (Holds frames) a b c cut.0 shut.0, shut.1),
      )

-- A disk whose images hold the frames, with one more or without it, is cut behind the gate of that one: they go on to.
cut_front : (front rest : List ℕ) (gate : ℕ) → gate ≡ length front → take (gate + 1) (front ++ rest) ≡ front ++ take 1 rest
cut_front front rest gate place = cut_short front rest (gate + 1) (omega (arith, place))

pub cut_image : (frames : List (List ℕ)) (frame c : List ℕ) (gate : ℕ) → gate ≡ length (framed frames) → IsBeforeOrAfter frames frame c
    → Holds frames (take (gate + 1) c)
cut_image frames frame c gate place (inl (rest, is, ends)) =
    (take 1 rest, ap (λ (l : List ℕ). take (gate + 1) l) is ∙ cut_front (framed frames) rest gate place, one_ends rest)
cut_image frames frame c gate place (inr (rest, is, ends)) =
    (1 ∷ [], ap (λ (l : List ℕ). take (gate + 1) l) (is ∙ framed_push frames frame rest) ∙ cut_front (framed frames) (1 ∷ (frame ++ rest)) gate place, tt)

pub cut_in_doubt : (frames : List (List ℕ)) (frame : List ℕ) (gate : ℕ) (s : Story) (effect : Bool) → gate ≡ length (framed frames)
    → EachImage (IsBeforeOrAfter frames frame) s → EachImage (IsBeforeOrAfter frames frame) (noted (cut_to (gate + 1) effect) s)
cut_in_doubt frames frame gate s effect place each c (inl left) = each c left
cut_in_doubt frames frame gate s effect place each c (inr (d, left, is)) =
    inl (subst (Holds frames) (sym is) (cut_image frames frame d gate place (each d left)))
