-- From a comparison and the tidying behind it to what load_against leaves.
use Rattle.std.proofs.Common.{◌≡◌, sym, ◌∙◌, ap, subst, ℕ, ◌+◌, ◌<◌, List, [], ◌∷◌, ◌++◌, length, take, drop, get_or, arith}
use Rattle.std.proofs.lemmas.List.{same_lists, places}
use Rattle.std.specs.Prelude.{Option, Some, None, Result, Ok, Err, IfSome, IfOk}
use Rattle.dm_event.specs.declared.step.Found.{Found}
use Rattle.dm_event.specs.declared.step.Found.TheVariants as found
use Rattle.dm_logdisk.specs.Story.{Story, bytes_of, Both}
use Rattle.dm_record.specs.declared.record.Record.{Record}
use Rattle.dm_record.specs.Frames.{IsSomeFrame}
use Rattle.dm_redo.specs.Holding.{framed, Stands}
use Rattle.dm_redo.specs.Comparing.{compared, stood, AreFrames}
use Rattle.dm_redo.specs.Finding.{Has, frames_of}
use Rattle.dm_redo.specs.Settling.{Firms, Keeps, Stood}
use Rattle.dm_redo.proofs.Compared.{framed_one, compared_agrees}
use Rattle.dm_redo.proofs.OneLog.{frames_are}

pub kept_gate : (written : List (List ℕ)) (pending : Option (List ℕ)) (frame expected : List ℕ) (r : Found × ℕ) → pending ≡ Some frame
    → expected ≡ framed written ++ 1 ∷ frame → r ≡ (found.Kept, length expected) → r.1 ≡ length (framed (stood r.0 written pending))
kept_gate written pending frame expected r is long same =
    subst (λ (p : Found × ℕ). p.1 ≡ length (framed (stood p.0 written pending))) (sym same)
    (ap length (long ∙ sym (framed_one written frame)) ∙ ap (λ (p : Option (List ℕ)). length (framed (stood found.Kept written p))) (sym is))

taken : (frames : List (List ℕ)) (d : List ℕ) (n : ℕ) → n < length frames → take (n + 1) frames ≡ take n frames ++ get_or frames n d ∷ []
taken frames d n within = same_lists _ _ (grind (arith, places)) (λ k e h. grind (arith, places))

frames_one : (frames : List (List ℕ)) (frame : List ℕ) → AreFrames frames → IsSomeFrame frame → AreFrames (frames ++ frame ∷ [])
frames_one [] frame are is = (is, tt)
frames_one (f ∷ frames) frame are is = (are.0, frames_one frames frame are.1 is)

-- one frame more of the joined ones
module _ (frames : List (List ℕ)) (d : List ℕ) (n : ℕ) (frame : List ℕ) (within : n < length frames) (is : frame ≡ get_or frames n d) where
  taken_frame : take (n + 1) frames ≡ take n frames ++ frame ∷ []
  taken_frame = taken frames d n within ∙ ap (λ (l : List ℕ). take n frames ++ l ∷ []) (sym is)

  pub framed_next : (out new : List ℕ) → out ≡ framed (take n frames) → new ≡ out ++ 1 ∷ frame → new ≡ framed (take (n + 1) frames)
  framed_next out new so_far made = made ∙ ap (λ (l : List ℕ). l ++ 1 ∷ frame) so_far ∙ sym (framed_one (take n frames) frame) ∙ ap framed (sym taken_frame)

  pub are_next : AreFrames (take n frames) → IsSomeFrame frame → AreFrames (take (n + 1) frames)
  are_next are some = subst AreFrames (sym taken_frame) (frames_one (take n frames) frame are some)

pub kept_frames : (written : List (List ℕ)) (pending : Option (List ℕ)) (frame expected : List ℕ) (r : Found × ℕ) → pending ≡ Some frame → AreFrames written
    → IsSomeFrame frame
    → r ≡ (found.Kept, length expected) → AreFrames (stood r.0 written pending)
kept_frames written pending frame expected r is are some same =
    subst (λ (p : Found × ℕ). AreFrames (stood p.0 written pending)) (sym same)
    (subst (λ (p : Option (List ℕ)). AreFrames (stood found.Kept written p)) (sym is) (frames_one written frame are some))

pub ok_on : {A E : Type 0} → (P Q : A → Type 0) (result : Result A E) → IfOk result P → ((a : A) → P a → Q a) → IfOk result Q
ok_on P Q (Ok a) holds to = to a holds
ok_on P Q (Err e) holds to = tt

module _ (written : List (List ℕ)) (pending : Option (List ℕ)) (bytes : List ℕ) (f : Found) (gate : ℕ) (due : compared (framed written) pending bytes ≡ Ok f)
    (place : gate ≡ length (framed (stood f written pending))) where
  stands_so : (s : Story) → bytes ≡ bytes_of s → Stands (stood f written pending) gate s
  stands_so s is =
      let a = compared_agrees written pending bytes f due in
      record { rest = drop (length (framed (stood f written pending))) bytes; reads = sym is ∙ a.0; ends = a.1; place = place }

  pub firm_keeps : {E : Type 0} (result : Result (Unit {0}) E) (o n : Option Story) → IfSome o (λ s. bytes ≡ bytes_of s) → Both (Firms gate result) o n
      → Both (Keeps written pending) o n
  firm_keeps result None None is h = tt
  firm_keeps result None (Some t) is h = h
  firm_keeps result (Some s) None is h = h
  firm_keeps result (Some s) (Some t) is h = (h f written pending (stands_so s is)).0

  pub firm_stands : (E : Type 0) (o n : Option Story) → IfSome o (λ s. bytes ≡ bytes_of s) → Both (Firms {E = E} gate (Ok tt)) o n
      → Both (Stood written pending f gate) o n
  firm_stands E None None is h = tt
  firm_stands E None (Some t) is h = h
  firm_stands E (Some s) None is h = h
  firm_stands E (Some s) (Some t) is h = (h f written pending (stands_so s is)).1

  -- the file's records are those of the frames
  pub records_so : AreFrames (stood f written pending) → (g : ℕ) (recs : List Record) → Has bytes g recs → frames_of recs ≡ stood f written pending
  records_so are g recs has =
      let a = compared_agrees written pending bytes f due in
      frames_are (stood f written pending) bytes (drop (length (framed (stood f written pending))) bytes) g recs are a.0 a.1 has
