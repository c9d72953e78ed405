-- What a cut and a sync leave of a file with bytes pending.
use Rattle.std.proofs.Common.{◌≡◌, inl, inr, refl, sym, ◌∙◌, ap, subst, ℕ, zero, suc, ◌+◌, ◌-◌, ◌≤◌, Bool, true, false, List, [], ◌∷◌, ◌++◌, length, take, arith}
use Rattle.std.specs.Prelude.{Option, Some, None, option_map, Result, Ok, Err, IfSome, OnOk}
use Rattle.dm_event.specs.declared.step.Found.{Found}
use Rattle.dm_event.specs.declared.step.Found.TheVariants as found
use Rattle.dm_logdisk.specs.Story.{cut_to, synced, Story, noted, bytes_of, EachImage, IsDurable, after, LeavesOnly, Both}
use Rattle.dm_logdisk.proofs.Images.{sync_keeps, leaves_then, leaves_weaker}
use Rattle.dm_redo.specs.Holding.{framed, IsEnd, Holds, IsAt}
use Rattle.dm_redo.specs.Tidying.{Closes}
use Rattle.dm_redo.specs.Comparing.{stood}
use Rattle.dm_redo.specs.Settling.{MayHold, Cuts, Settles, Firms}
use Rattle.dm_redo.proofs.Finding.{framed_long}
use Rattle.dm_redo.proofs.Ending.{cut_stands, short_after, cut_image}

cut_long : (front rest : List ℕ) (n : ℕ) → length front ≤ n → take n (front ++ rest) ≡ front ++ take (n - length front) rest
cut_long [] rest n fits = let same : n ≡ n - 0 = omega arith in ap (λ (k : ℕ). take k rest) same
cut_long (x ∷ front) rest zero fits = absurd (omega (arith, fits))
cut_long (x ∷ front) rest (suc n) fits =
    let same : n - length front ≡ suc n - length (x ∷ front) = omega arith in
    ap (λ (l : List ℕ). x ∷ l) (cut_long front rest n (omega (arith, fits)) ∙ ap (λ (k : ℕ). front ++ take k rest) same)

ends_take : (k : ℕ) (rest : List ℕ) → IsEnd rest → IsEnd (take k rest)
ends_take zero rest ends = tt
ends_take (suc k) [] ends = tt
ends_take (suc zero) (g ∷ rest) ends = tt
ends_take (suc (suc k)) (g ∷ []) ends = tt
ends_take (suc (suc k)) (g ∷ x ∷ rest) ends = ends

cut_any : (frames : List (List ℕ)) (n : ℕ) (c : List ℕ) → length (framed frames) ≤ n → Holds frames c → Holds frames (take n c)
cut_any frames n c fits (rest, is, ends) = (
  take (n - length (framed frames)) rest,
  ap (λ (l : List ℕ). take n l) is
      ∙ cut_long (framed frames) rest n fits,
  ends_take (n - length (framed frames)) rest ends,
)

-- a cut behind the gate of the frames that stand there keeps what may stand there
pub cut_may : (f : Found) (written : List (List ℕ)) (pending : Option (List ℕ)) (gate : ℕ) (c : List ℕ) → gate ≡ length (framed (stood f written pending))
    → MayHold written pending c → MayHold written pending (take (gate + 1) c)
cut_may found.Kept written None gate c place h = cut_any written (gate + 1) c (omega (arith, place)) h
cut_may found.Clean written None gate c place h = cut_any written (gate + 1) c (omega (arith, place)) h
cut_may found.Lost written None gate c place h = cut_any written (gate + 1) c (omega (arith, place)) h
cut_may found.Clean written (Some frame) gate c place h = inl (cut_image written frame c gate place h)
cut_may found.Lost written (Some frame) gate c place h = inl (cut_image written frame c gate place h)
cut_may found.Kept written (Some frame) gate c place (inl h) = inl (cut_any written (gate + 1) c (omega (arith, place, framed_long written frame)) h)
cut_may found.Kept written (Some frame) gate c place (inr h) = inr (cut_any (written ++ frame ∷ []) (gate + 1) c (omega (arith, place)) h)

pub stood_may : (f : Found) (written : List (List ℕ)) (pending : Option (List ℕ)) (c : List ℕ) → Holds (stood f written pending) c → MayHold written pending c
stood_may found.Kept written None c h = h
stood_may found.Clean written None c h = h
stood_may found.Lost written None c h = h
stood_may found.Clean written (Some frame) c h = inl h
stood_may found.Lost written (Some frame) c h = inl h
stood_may found.Kept written (Some frame) c h = inr h

on_both : {E : Type 0} (result : Result (Unit {0}) E) (P Q : Type 0) → OnOk result P → OnOk result Q → OnOk result (P × Q)
on_both (Ok x) P Q p q = (p, q)
on_both (Err e) P Q p q = tt

module _ (gate : ℕ) where
  cut_each : (f : Found) (written : List (List ℕ)) (pending : Option (List ℕ)) (s : Story) (effect : Bool) → gate ≡ length (framed (stood f written pending))
      → EachImage (MayHold written pending) s → EachImage (MayHold written pending) (noted (cut_to (gate + 1) effect) s)
  cut_each f written pending s effect place each c (inl left) = each c left
  cut_each f written pending s effect place each c (inr (d, left, is)) =
      subst (MayHold written pending) (sym is) (cut_may f written pending gate d place (each d left))

  pub cuts_none : (E : Type 0) (o : Option Story) (len : ℕ) → len ≤ gate + 1 → IfSome o (λ s. len ≡ length (bytes_of s)) → Both (Cuts {E = E} gate (Ok tt)) o o
  cuts_none E None len short is = tt
  cuts_none E (Some s) len short is = λ f written pending stands. (λ each. ([], refl, each), (stands, omega (arith, short, is)))

  pub cuts_cut : {E : Type 0} (result : Result (Unit {0}) E) (effect : Bool) → OnOk result (effect ≡ true) → (s : Story)
      → Cuts gate result s (after (cut_to (gate + 1) effect ∷ []) s)
  cuts_cut (Ok x) true has s = λ f written pending stands. (
    λ each. (cut_to (gate + 1) true ∷ [], refl, (each, cut_each f written pending s true stands.place each)),
    (cut_stands gate (stood f written pending) s stands, short_after gate (stood f written pending) s stands),
  )
  cuts_cut (Ok x) false has s = absurd (cc has)
  cuts_cut (Err e) effect has s =
      λ f written pending stands. (λ each. (cut_to (gate + 1) effect ∷ [], refl, (each, cut_each f written pending s effect stands.place each)), tt)

  leaves_last : (P : List ℕ → Type 0) (s t : Story) → EachImage P s → LeavesOnly P s t → EachImage P t
  leaves_last P s t each ([], is, moments) = subst (EachImage P) (sym is) moments
  leaves_last P s t each (change ∷ changes, is, moments) = subst (EachImage P) (sym is) moments.1

  pub settles_sync : {E : Type 0} (F : Type 0) (result : Result (Unit {0}) E) (effect : Bool) → OnOk result (effect ≡ true) → (s t : Story)
      → Cuts {E = F} gate (Ok tt) s t → Settles gate result s (noted (synced effect) t)
  settles_sync F (Ok x) true has s t cuts = λ f written pending stands.
      let c = cuts f written pending stands in (
        λ each. leaves_then (MayHold written pending) s t (noted (synced true) t) (c.0 each) (
          synced true ∷ [],
          refl,
          (
            leaves_last (MayHold written pending) s t each (c.0 each),
            sync_keeps (MayHold written pending) t true
                (leaves_last (MayHold written pending) s t each (c.0 each)),
          ),
        ),
        (record { rest = c.1.0.rest; reads = c.1.0.reads; ends = c.1.0.ends; place = c.1.0.place }, λ d left. left, c.1.1),
      )
  settles_sync F (Ok x) false has s t cuts = absurd (cc has)
  settles_sync F (Err e) effect has s t cuts = λ f written pending stands.
      let c = cuts f written pending stands in (
        λ each. leaves_then (MayHold written pending) s t (noted (synced effect) t) (c.0 each) (
          synced effect ∷ [],
          refl,
          (
            leaves_last (MayHold written pending) s t each (c.0 each),
            sync_keeps (MayHold written pending) t effect
                (leaves_last (MayHold written pending) s t each (c.0 each)),
          ),
        ),
        tt,
      )

  pub cuts_fail : {E F : Type 0} (e : E) (x : F) (s t : Story) → Cuts gate (Err e) s t → Settles gate (Err x) s t
  cuts_fail e x s t cuts = λ f written pending stands. ((cuts f written pending stands).0, tt)

  pub settles_fail : {E F : Type 0} (e : E) (x : F) (s t : Story) → Settles gate (Err e) s t → Firms gate (Err x) s t
  settles_fail e x s t settles = λ f written pending stands. ((settles f written pending stands).0, tt)

  pub firms : {E : Type 0} (F : Type 0) (result : Result (Unit {0}) E) (a b c : Story) → Settles {E = F} gate (Ok tt) a b → Closes gate result b c
      → Firms gate result a c
  firms F result a b c settles closes = λ f written pending stands.
      let first = settles f written pending stands in
      let shut = closes (stood f written pending) first.1.0 first.1.2 in
      let keeps = shut.1 first.1.1 in (
        λ each. leaves_then (MayHold written pending) a b c (first.0 each)
            (leaves_weaker (Holds (stood f written pending)) (MayHold written pending) (stood_may f written pending) b c keeps.0),
        on_both result (IsAt (stood f written pending) gate c) (IsDurable c) shut.0 keeps.1,
      )

pub both_map : (R S : Story → Story → Type 0) → ((a b : Story) → R a b → S a b) → (o n : Option Story) → Both R o n → Both S o n
both_map R S to None None h = tt
both_map R S to None (Some n) h = h
both_map R S to (Some o) None h = h
both_map R S to (Some o) (Some n) h = to o n h

pub both_sync : (R S : Story → Story → Type 0) (effect : Bool) → ((a b : Story) → R a b → S a (noted (synced effect) b)) → (o m n : Option Story) → Both R o m
    → n ≡ option_map (λ s. noted (synced effect) s) m → Both S o n
both_sync R S effect to None None n h is = subst (Both S None) (sym is) tt
both_sync R S effect to None (Some m) n h is = absurd h
both_sync R S effect to (Some o) None n h is = absurd h
both_sync R S effect to (Some o) (Some m) n h is = subst (Both S (Some o)) (sym is) (to o m h)
