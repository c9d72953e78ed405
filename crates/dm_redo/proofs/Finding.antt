-- One frame more is found.
use Rattle.std.proofs.Common.{◌≡◌, inl, inr, refl, sym, ◌∙◌, ap, subst, ℕ, ◌+◌, ◌≤◌, ◌<◌, List, [], ◌∷◌, ◌++◌, length, take, drop, get_or, arith, length-append, length-drop, length-take-le, take-append-drop}
use Rattle.std.proofs.lemmas.List.{drop_more, drop-drop}
use Rattle.dm_redo.specs.Holding.{framed, Holds, Stands}
use Rattle.dm_redo.specs.Finding.{AreRecords, frames_of, Finds, IsBad, IsBadAt, IsGood, Has, KeepsRecords, Loads}
use Rattle.dm_record.specs.declared.record.Record.{Record}
use Rattle.dm_record.specs.Bytes.{frame_of, HasRanges, IsFrame}
use Rattle.std.specs.Prelude.{Option, Some, None, Result, Ok, IfSome}
use Rattle.dm_logdisk.specs.Story.{Story, bytes_of, LeavesOnly, Both}
use Rattle.dm_redo.specs.Tidying.{Tidies}
use Rattle.dm_redo.proofs.Places.{framed_push}
use Rattle.dm_redo.proofs.OneLog.{one_log_holds, either_end_holds}
use Rattle.dm_record.specs.Judging.{NoFrame}
use Rattle.dm_redo.specs.declared.loading.LoadFault.{LoadFault}
use Rattle.dm_redo.specs.declared.loading.LoadFault.TheVariants as fault

pub framed_long : (frames : List (List ℕ)) (frame : List ℕ) → length (framed (frames ++ frame ∷ [])) ≡ length (framed frames) + (length frame + 1)
framed_long [] frame = omega (arith, length-append frame [])
framed_long (f ∷ frames) frame = omega (arith, length-append f (framed (frames ++ frame ∷ [])), length-append f (framed frames), framed_long frames frame)

pub found_none : (bytes : List ℕ) → Finds bytes 0 []
found_none bytes = record { are = tt; split = refl; place = refl; within = omega arith }

are_push : (recs : List Record) (rec : Record) → AreRecords recs → HasRanges rec → AreRecords (recs ++ rec ∷ [])
are_push [] rec are is = (is, tt)
are_push (r ∷ recs) rec are is = (are.0, are_push recs rec are.1 is)

pub frames_push : (recs : List Record) (rec : Record) → frames_of (recs ++ rec ∷ []) ≡ frames_of recs ++ frame_of rec ∷ []
frames_push [] rec = refl
frames_push (r ∷ recs) rec = ap (λ (l : List (List ℕ)). frame_of r ∷ l) (frames_push recs rec)

pub found_more : (bytes : List ℕ) (gate n : ℕ) (recs : List Record) (rec : Record) → Finds bytes gate recs → gate < length bytes → get_or bytes gate 0 ≡ 1
    → n ≤ length (drop (gate + 1) bytes) → IsFrame (take n (drop (gate + 1) bytes)) rec → Finds bytes (gate + (n + 1)) (recs ++ rec ∷ [])
found_more bytes gate n recs rec found more is_open fits is =
    let frame = frame_of rec in
    let frames = frames_of recs in
    let next : drop (gate + (n + 1)) bytes ≡ drop n (drop (gate + 1) bytes) = ap (λ (k : ℕ). drop k bytes) (reorder gate n)
    ∙ sym (drop-drop n (gate + 1) bytes) in
    let rest : drop gate bytes ≡ 1 ∷ (frame ++ drop (gate + (n + 1)) bytes) =
    drop_more bytes gate 0 more ∙ ap (λ (b : ℕ). b ∷ drop (gate + 1) bytes) is_open
    ∙ ap (λ (l : List ℕ). 1 ∷ l)
    (sym (take-append-drop n (drop (gate + 1) bytes)) ∙ ap (λ (l : List ℕ). l ++ drop n (drop (gate + 1) bytes)) is.1
    ∙ ap (λ (l : List ℕ). frame ++ l) (sym next)) in
    let size : length frame ≡ n = ap length (sym is.1) ∙ length-take-le n (drop (gate + 1) bytes) fits in
    record {
      are = are_push recs rec found.are is.0;
      split =
          found.split ∙ ap (λ (l : List ℕ). framed frames ++ l) rest ∙ sym (framed_push frames frame (drop (gate + (n + 1)) bytes))
          ∙ ap (λ (fs : List (List ℕ)). framed fs ++ drop (gate + (n + 1)) bytes) (sym (frames_push recs rec));
      place =
          place_of gate n (length (framed frames)) (length frame) (length (framed (frames ++ frame ∷ []))) found.place size (framed_long frames frame)
          ∙ ap (λ (fs : List (List ℕ)). length (framed fs)) (sym (frames_push recs rec));
      within = omega (arith, fits, length-drop (gate + 1) bytes, more);
    }
  where
    reorder : (g k : ℕ) → g + (k + 1) ≡ g + 1 + k
    reorder g k = omega arith

    place_of : (g k a b c : ℕ) → g ≡ a → b ≡ k → c ≡ a + (b + 1) → g + (k + 1) ≡ c
    place_of g k a b c e f h = omega (arith, e, f, h)

-- a log that ends well ends badly nowhere
good_so : (bytes : List ℕ) (gate : ℕ) (recs : List Record) → Has bytes gate recs → IsGood bytes
good_so bytes gate recs has place (others, found, bad) =
    let same = one_log_holds bytes gate place recs others has.0 (inl has.1) found (inr bad) in
    either_end_holds (drop gate bytes) has.1 (subst (λ (g : ℕ). IsBad (drop g bytes)) (sym same.1) bad)

stands_at : (gate : ℕ) (recs : List Record) (s : Story) → Has (bytes_of s) gate recs → Stands (frames_of recs) gate s
stands_at gate recs s has = record { rest = drop gate (bytes_of s); reads = has.0.split; ends = has.1; place = has.0.place }

keeps_so : {E : Type 0} (result : Result (Unit {0}) E) (gate : ℕ) (recs : List Record) (s t : Story) → Has (bytes_of s) gate recs → Tidies gate result s t
    → KeepsRecords s t
keeps_so result gate recs s t has tidies g others other durable =
    let same = one_log_holds (bytes_of s) gate g recs others has.0 (inl has.1) other.0 (inl other.1) in
    subst (λ (l : List Record). LeavesOnly (Holds (frames_of l)) s t) same.0 ((tidies (frames_of recs) (stands_at gate recs s has)).1 durable).0

loaded_story : (E : Type 0) (gate : ℕ) (recs : List Record) (s t : Story) → Has (bytes_of s) gate recs → Tidies {E = E} gate (Ok tt) s t → Loads gate recs s t
loaded_story E gate recs s t has tidies =
    let all = tidies (frames_of recs) (stands_at gate recs s has) in
    record {
      has = has;
      good = good_so (bytes_of s) gate recs has;
      at = all.0;
      crash = keeps_so {E = E} (Ok tt) gate recs s t has tidies;
      durable = λ durable. (all.1 durable).1;
    }

has_told : (gate : ℕ) (recs : List Record) (bytes : List ℕ) (s : Story) → bytes ≡ bytes_of s → Has bytes gate recs → Has (bytes_of s) gate recs
has_told gate recs bytes s is has = subst (λ (b : List ℕ). Has b gate recs) is has

module _ (gate : ℕ) (recs : List Record) (bytes : List ℕ) (has : Has bytes gate recs) where
  pub loaded : (E : Type 0) (o n : Option Story) → IfSome o (λ s. bytes ≡ bytes_of s) → Both (Tidies {E = E} gate (Ok tt)) o n → Both (Loads gate recs) o n
  loaded E None None is tidies = tt
  loaded E None (Some t) is tidies = tidies
  loaded E (Some s) None is tidies = tidies
  loaded E (Some s) (Some t) is tidies = loaded_story E gate recs s t (has_told gate recs bytes s is has) tidies

  pub failed : {E : Type 0} (result : Result (Unit {0}) E) (o n : Option Story) → IfSome o (λ s. bytes ≡ bytes_of s) → Both (Tidies gate result) o n
      → Both KeepsRecords o n
  failed result None None is tidies = tt
  failed result None (Some t) is tidies = tidies
  failed result (Some s) None is tidies = tidies
  failed result (Some s) (Some t) is tidies = keeps_so result gate recs s t (has_told gate recs bytes s is has) tidies

pub is_bad : (bytes : List ℕ) (gate : ℕ) (recs : List Record) → Finds bytes gate recs → gate + 1 < length bytes → get_or bytes gate 0 ≡ 1
    → NoFrame (drop (gate + 1) bytes) → IsBadAt bytes gate
is_bad bytes gate recs found more is_open none = (
  recs,
  found,
  subst IsBad (sym (drop_more bytes gate 0 (omega (arith, more)) ∙ ap (λ (b : ℕ). b ∷ drop (gate + 1) bytes) is_open))
      (bad (drop (gate + 1) bytes) some none),
)
  where
    some : 0 < length (drop (gate + 1) bytes)
    some = omega (arith, more, length-drop (gate + 1) bytes)

    bad : (rest : List ℕ) → 0 < length rest → NoFrame rest → IsBad (1 ∷ rest)
    bad [] long none = absurd (omega (arith, long))
    bad (x ∷ rest) long none = (refl, none)

place_in : LoadFault → ℕ
place_in (fault.Bad place) = place
place_in fault.Log = 0
place_in fault.Memory = 0

pub bad_there : (bytes : List ℕ) (gate : ℕ) → IsBadAt bytes gate → (place : ℕ) → fault.Bad gate ≡ fault.Bad place → IsBadAt bytes place
unfolding place_in
bad_there bytes gate bad place same = subst (IsBadAt bytes) (ap place_in same) bad
