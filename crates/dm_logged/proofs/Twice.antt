-- One append after another.
use Rattle.std.proofs.Common.{◌≡◌, inl, inr, refl, sym, ◌∙◌, ap, subst, ℕ, ◌+◌, List, [], ◌∷◌, ◌++◌, length, append_assoc}
use Rattle.std.specs.Prelude.{Option, Some, None, Result, Ok, Err, IfOk, OnErr}
use Rattle.dm_logdisk.specs.Story.{Story, Both}
use Rattle.dm_logdisk.proofs.Images.{leaves_then, leaves_weaker, both_then}
use Rattle.dm_record.specs.declared.record.Record.{Record}
use Rattle.dm_record.specs.Bytes.{frame_of}
use Rattle.dm_redo.specs.declared.appending.Appended.{Appended}
use Rattle.dm_redo.specs.declared.appending.Appended.TheVariants.{Done}
use Rattle.dm_redo.specs.Holding.{Holds, IsAt, IsBeforeOrAfter}
use Rattle.dm_redo.specs.Appending.{Appends}
use Rattle.dm_redo.specs.Finding.{frames_of}
use Rattle.dm_redo.proofs.Places.{holds_closed}
use Rattle.dm_redo.proofs.Finding.{frames_push}
use Rattle.dm_redo.proofs.Settled.{both_map}
use Rattle.dm_logged.specs.Twice.{IsSettled, HoldsOneOf, LeavesOneOf, Settles}

-- an append that is Done leaves a log that is settled
settled_next : (recs : List Record) (a : Record) (frame : List ℕ) (gate : ℕ) (s t : Story) → frame ≡ frame_of a → Appends gate frame Done s t
    → IsSettled recs gate s → IsSettled (recs ++ a ∷ []) (gate + length frame + 1) t
settled_next recs a frame gate s t is appends settled =
    let ends = appends.ends (frames_of recs) settled.at in
    let push : frames_of recs ++ frame ∷ [] ≡ frames_of (recs ++ a ∷ []) = ap (λ (l : List ℕ). frames_of recs ++ l ∷ []) is ∙ sym (frames_push recs a) in
    let stands : IsAt (frames_of (recs ++ a ∷ [])) (gate + length frame + 1) t =
    subst (λ (fs : List (List ℕ)). IsAt fs (gate + length frame + 1) t) push ends.0 in
    record { at = stands; firm = λ c left. ([], ends.1 c left ∙ stands.reads) }

pub appends_as : (gate : ℕ) (frame : List ℕ) (x y : Appended) (o n : Option Story) → x ≡ y → Both (Appends gate frame x) o n → Both (Appends gate frame y) o n
appends_as gate frame x y o n is h = subst (λ (z : Appended). Both (Appends gate frame z) o n) is h

pub in_ok : {A : Type 0} (P : A → Type 0) {E : Type 0} (result : Result A E) (x : A) → result ≡ Ok x → IfOk result P → P x
in_ok {A} P {E} result x is h = subst (λ (r : Result A E). IfOk r P) is h

module _ (recs : List Record) (a b : Record) where
  abbrev lists : List (List Record)
  lists = recs ∷ (recs ++ a ∷ []) ∷ (recs ++ a ∷ b ∷ []) ∷ []

  frames_both : frames_of (recs ++ a ∷ b ∷ []) ≡ frames_of (recs ++ a ∷ []) ++ frame_of b ∷ []
  frames_both = ap frames_of (sym (append_assoc recs (a ∷ []) (b ∷ []))) ∙ frames_push (recs ++ a ∷ []) b

  first_holds : (c : List ℕ) → IsBeforeOrAfter (frames_of recs) (frame_of a) c → HoldsOneOf lists c
  first_holds c (inl h) = inl h
  first_holds c (inr h) = inr (inl (subst (λ (fs : List (List ℕ)). Holds fs c) (sym (frames_push recs a)) h))

  second_holds : (c : List ℕ) → IsBeforeOrAfter (frames_of (recs ++ a ∷ [])) (frame_of b) c → HoldsOneOf lists c
  second_holds c (inl h) = inr (inl h)
  second_holds c (inr h) = inr (inr (inl (subst (λ (fs : List (List ℕ)). Holds fs c) (sym frames_both) h)))

  module _ (gate : ℕ) (first second : List ℕ) (is_first : first ≡ frame_of a) (is_second : second ≡ frame_of b) where
    still : (s : Story) → LeavesOneOf lists recs gate s s
    still s = λ settled. ([], refl, λ c left. let was = settled.firm c left in inl (holds_closed (frames_of recs) was.0 c was.1))

    one_crash : (x : Appended) (s t : Story) → Appends gate first x s t → LeavesOneOf lists recs gate s t
    one_crash x s t appends = λ settled.
        leaves_weaker (IsBeforeOrAfter (frames_of recs) first) (HoldsOneOf lists)
        (λ c h. first_holds c (subst (λ (l : List ℕ). IsBeforeOrAfter (frames_of recs) l c) is_first h)) s t
        (appends.crash (frames_of recs) settled.at settled.firm)

    two_crash : (x : Appended) (s m t : Story) → Appends gate first Done s m → Appends (gate + length first + 1) second x m t → LeavesOneOf lists recs gate s t
    two_crash x s m t one two = λ settled.
        let next = settled_next recs a first gate s m is_first one settled in
        leaves_then (HoldsOneOf lists) s m t (one_crash Done s m one settled)
        (leaves_weaker (IsBeforeOrAfter (frames_of (recs ++ a ∷ [])) second) (HoldsOneOf lists)
        (λ c h. second_holds c (subst (λ (l : List ℕ). IsBeforeOrAfter (frames_of (recs ++ a ∷ [])) l c) is_second h)) m t
        (two.crash (frames_of (recs ++ a ∷ [])) next.at next.firm))

    two_done : (s m t : Story) → Appends gate first Done s m → Appends (gate + length first + 1) second Done m t
        → Settles recs gate (recs ++ a ∷ b ∷ []) (gate + length first + 1 + length second + 1) s t
    two_done s m t one two = λ settled.
        let next = settled_next recs a first gate s m is_first one settled in
        subst (λ (l : List Record). IsSettled l (gate + length first + 1 + length second + 1) t) (append_assoc recs (a ∷ []) (b ∷ []))
        (settled_next (recs ++ a ∷ []) b second (gate + length first + 1) m t is_second two next)

    -- the disk wasn't changed
    pub stays : (o n : Option Story) → n ≡ o → Both (LeavesOneOf lists recs gate) o n
    stays None n same = subst (Both (LeavesOneOf lists recs gate) None) (sym same) tt
    stays (Some s) n same = subst (Both (LeavesOneOf lists recs gate) (Some s)) (sym same) (still s)

    -- only the first was appended
    pub once : (x : Appended) (o n : Option Story) → Both (Appends gate first x) o n → Both (LeavesOneOf lists recs gate) o n
    once x o n h = both_map (Appends gate first x) (LeavesOneOf lists recs gate) (one_crash x) o n h

    -- the second was appended too, or there was no room for it
    pub twice : {E : Type 0} (result : Result Appended E) (then_gate : ℕ) (o m n : Option Story) → then_gate ≡ gate + length first + 1
        → Both (Appends gate first Done) o m → IfOk result (λ x. Both (Appends then_gate second x) m n) → OnErr result (n ≡ m) → Both (LeavesOneOf lists recs gate) o n
    twice (Ok x) then_gate o m n place one two same =
        both_then (Appends gate first Done) (Appends (gate + length first + 1) second x) (LeavesOneOf lists recs gate) (two_crash x) o m n one
        (subst (λ (g : ℕ). Both (Appends g second x) m n) place two)
    twice (Err e) then_gate o m n place one two same =
        subst (λ (p : Option Story). Both (LeavesOneOf lists recs gate) o p) (sym same) (once Done o m one)

    pub twice_done : (then_gate last_gate : ℕ) (o m n : Option Story) → then_gate ≡ gate + length first + 1 → last_gate ≡ then_gate + length second + 1
        → Both (Appends gate first Done) o m → Both (Appends then_gate second Done) m n → Both (Settles recs gate (recs ++ a ∷ b ∷ []) last_gate) o n
    twice_done then_gate last_gate o m n place last one two =
        subst (λ (g : ℕ). Both (Settles recs gate (recs ++ a ∷ b ∷ []) g) o n) (sym (last ∙ ap (λ (g : ℕ). g + length second + 1) place))
        (both_then (Appends gate first Done) (Appends (gate + length first + 1) second Done)
        (Settles recs gate (recs ++ a ∷ b ∷ []) (gate + length first + 1 + length second + 1)) two_done o m n one
        (subst (λ (g : ℕ). Both (Appends g second Done) m n) place two))
