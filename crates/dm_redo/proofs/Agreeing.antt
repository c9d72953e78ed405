-- A file that holds what was written agrees with it; and where one doesn't, two bytes differ.
use Rattle.std.proofs.Common.{◌≡◌, ◌≢◌, inl, inr, refl, sym, ◌∙◌, ap, subst, ℕ, suc, Bool, true, false, cond, eqb, ◌&&◌, List, [], ◌∷◌, ◌++◌, length, drop, append_assoc, le_refl}
use Rattle.std.proofs.lemmas.Bool.{eqb-false, eq-eqb, ne_eqb}
use Rattle.std.proofs.lemmas.List.{drop_at}
use Rattle.std.proofs.lemmas.Option.{slice_get_past}
use Rattle.std.specs.Prelude.{Option, Some, None, Result, Ok, Err, IfErr, slice_get}
use Rattle.dm_event.specs.declared.step.Found.{Found}
use Rattle.dm_event.specs.declared.step.Found.TheVariants as found
use Rattle.dm_redo.specs.declared.comparing.AgainstFault.{AgainstFault}
use Rattle.dm_redo.specs.declared.comparing.AgainstFault.TheVariants as fault
use Rattle.dm_redo.specs.Holding.{framed, IsEnd, Holds}
use Rattle.dm_redo.specs.Comparing.{common, begins, is_open, judged, compared, stood, Says, TellsExpected}
use Rattle.dm_redo.specs.Settling.{Agrees, IsAgreed}
use Rattle.dm_redo.proofs.Compared.{framed_one}
use Rattle.dm_redo.proofs.Places.{framed_push}

-- where the expected bytes don't all stand in the file, the first that differs is another there, or isn't there
common_differs : (expected file : List ℕ) → (common expected file ≡ length expected → ⊥)
    → slice_get file (common expected file) ≡ slice_get expected (common expected file) → ⊥
common_differs [] file not same = not refl
common_differs (x ∷ expected) [] not same = absurd (cc same)
common_differs (x ∷ expected) (y ∷ file) not same = by (common_differs expected file) (eqb x y) refl
  where
    by : ((common expected file ≡ length expected → ⊥) → slice_get file (common expected file) ≡ slice_get expected (common expected file) → ⊥)
        → (b : Bool) → eqb x y ≡ b → ⊥
    by shorter true is =
        let count : common (x ∷ expected) (y ∷ file) ≡ suc (common expected file) = ap (λ (b : Bool). cond b (suc (common expected file)) 0) is in
        let here : slice_get (y ∷ file) (suc (common expected file)) ≡ slice_get (x ∷ expected) (suc (common expected file)) =
        subst (λ (n : ℕ). slice_get (y ∷ file) n ≡ slice_get (x ∷ expected) n) count same in
        shorter (λ all. not (count ∙ ap suc all)) here
    by shorter false is =
        let count : common (x ∷ expected) (y ∷ file) ≡ 0 = ap (λ (b : Bool). cond b (suc (common expected file)) 0) is in
        let here : Some y ≡ Some x = subst (λ (n : ℕ). slice_get (y ∷ file) n ≡ slice_get (x ∷ expected) n) count same in
        let equal : x ≡ y = cc here in
        eqb-false x y is equal

some_none : (n : ℕ) → Some n ≡ None → ⊥
some_none n is = absurd (cc is)

apart_by : (a b : Bool) (p1 p2 : ℕ) (r2 w2 : Option ℕ) (f : Found) (e : AgainstFault)
    → cond a (cond b (Err (fault.Differs p1 (Some 1) None)) (Ok f)) (Err (fault.Differs p2 r2 w2)) ≡ Err e → (a ≡ false → r2 ≡ w2 → ⊥)
    → (place : ℕ) (read written : Option ℕ) → e ≡ fault.Differs place read written → read ≢ written
apart_by true true p1 p2 r2 w2 f e is differ place read written same equal =
    let whole : Err (fault.Differs p1 (Some 1) None) ≡ Err (fault.Differs place read written) = is ∙ ap Err same in
    some_none 1 (cc (whole, equal))
apart_by true false p1 p2 r2 w2 f e is differ place read written same equal = absurd (cc is)
apart_by false b p1 p2 r2 w2 f e is differ place read written same equal =
    let whole : Err (fault.Differs p2 r2 w2) ≡ Err (fault.Differs place read written) = is ∙ ap Err same in
    let both : r2 ≡ w2 = cc (whole, equal) in
    differ refl both

pub judged_apart : (expected file : List ℕ) (f : Found) (e : AgainstFault) → judged expected f file ≡ Err e
    → (place : ℕ) (read written : Option ℕ) → e ≡ fault.Differs place read written → read ≢ written
judged_apart expected file f e is =
    apart_by (begins expected file) (is_open (drop (length expected) file)) (length expected) (common expected file) (slice_get file (common expected file))
    (slice_get expected (common expected file)) f e is (λ not. common_differs expected file (eqb-false (common expected file) (length expected) not))

common_front : (expected rest : List ℕ) → common expected (expected ++ rest) ≡ length expected
common_front [] rest = refl
common_front (x ∷ expected) rest =
    ap (λ (b : Bool). cond b (suc (common expected (expected ++ rest))) 0) (eq-eqb x x refl) ∙ ap suc (common_front expected rest)

begins_so : (expected rest : List ℕ) → begins expected (expected ++ rest) ≡ true
begins_so expected rest = eq-eqb (common expected (expected ++ rest)) (length expected) (common_front expected rest)

ends_closed : (rest : List ℕ) → IsEnd rest → is_open rest ≡ false
ends_closed [] ends = refl
ends_closed (g ∷ []) ends = refl
ends_closed (g ∷ next ∷ rest) ends = ne_eqb g 1 ends

judged_so : (expected rest : List ℕ) (f : Found) → IsEnd rest → judged expected f (expected ++ rest) ≡ Ok f
judged_so expected rest f ends =
    let behind : is_open (drop (length expected) (expected ++ rest)) ≡ false =
    ap is_open (drop_at expected rest (length expected) refl) ∙ ends_closed rest ends in
    ap (λ (b : Bool). cond b (cond (is_open (drop (length expected) (expected ++ rest))) (Err (fault.Differs (length expected) (Some 1) None)) (Ok f))
    (Err (fault.Differs (common expected (expected ++ rest)) (slice_get (expected ++ rest) (common expected (expected ++ rest)))
    (slice_get expected (common expected (expected ++ rest)))))) (begins_so expected rest)
    ∙ ap (λ (b : Bool). cond b (Err (fault.Differs (length expected) (Some 1) None)) (Ok f)) behind

-- which way a comparison with a pending frame goes
abbrev way : List ℕ → List ℕ → List ℕ → Bool → Result Found AgainstFault
way written frame file b = cond b (judged (written ++ 1 ∷ frame) found.Kept file) (judged written found.Lost file)

lost_so : (written frame rest : List ℕ) → IsEnd rest → compared written (Some frame) (written ++ rest) ≡ Ok found.Lost
lost_so written frame rest ends =
    let behind : is_open (drop (length written) (written ++ rest)) ≡ false =
    ap is_open (drop_at written rest (length written) refl) ∙ ends_closed rest ends in
    let test : (begins written (written ++ rest) && is_open (drop (length written) (written ++ rest))) ≡ false =
    ap (λ (b : Bool). b && is_open (drop (length written) (written ++ rest))) (begins_so written rest) ∙ behind in
    ap (way written frame (written ++ rest)) test ∙ judged_so written rest found.Lost ends

kept_so : (written frame rest : List ℕ) (next : ℕ) (more : List ℕ) → frame ++ rest ≡ next ∷ more → IsEnd rest
    → compared written (Some frame) (written ++ 1 ∷ (frame ++ rest)) ≡ Ok found.Kept
kept_so written frame rest next more some ends =
    let file = written ++ 1 ∷ (frame ++ rest) in
    let behind : is_open (drop (length written) file) ≡ true =
    ap is_open (drop_at written (1 ∷ (frame ++ rest)) (length written) refl ∙ ap (λ (l : List ℕ). 1 ∷ l) some) in
    let test : (begins written file && is_open (drop (length written) file)) ≡ true =
    ap (λ (b : Bool). b && is_open (drop (length written) file)) (begins_so written (1 ∷ (frame ++ rest))) ∙ behind in
    let same : file ≡ (written ++ 1 ∷ frame) ++ rest = sym (append_assoc written (1 ∷ frame) rest) in
    ap (way written frame file) test ∙ ap (judged (written ++ 1 ∷ frame) found.Kept) same ∙ judged_so (written ++ 1 ∷ frame) rest found.Kept ends

agrees_lost : (written : List (List ℕ)) (frame file : List ℕ) → Holds written file → Agrees written (Some frame) file
agrees_lost written frame file (rest, is, ends) =
    (found.Lost, ap (compared (framed written) (Some frame)) is ∙ lost_so (framed written) frame rest ends, (rest, is, ends))

agrees_kept : (written : List (List ℕ)) (frame file rest : List ℕ) → file ≡ framed written ++ 1 ∷ (frame ++ rest) → IsEnd rest
    → Agrees written (Some frame) file
agrees_kept written frame file rest is ends = by (frame ++ rest) refl
  where
    by : (more : List ℕ) → frame ++ rest ≡ more → Agrees written (Some frame) file
    by [] none = agrees_lost written frame file (1 ∷ [], is ∙ ap (λ (l : List ℕ). framed written ++ 1 ∷ l) none, tt)
    by (next ∷ more) some = (
      found.Kept,
      ap (compared (framed written) (Some frame)) is ∙ kept_so (framed written) frame rest next more some ends,
      (rest, is ∙ sym (framed_push written frame rest), ends),
    )

pub agreed : IsAgreed
agreed written None file (rest, is, ends) =
    (found.Clean, ap (compared (framed written) None) is ∙ judged_so (framed written) rest found.Clean ends, (rest, is, ends))
agreed written (Some frame) file (inl holds) = agrees_lost written frame file holds
agreed written (Some frame) file (inr (rest, is, ends)) = agrees_kept written frame file rest (is ∙ framed_push written frame rest) ends

-- ---- the expected byte

expects_by : (a b : Bool) (p1 p2 : ℕ) (r2 w2 : Option ℕ) (f : Found) (expected : List ℕ) (place : ℕ) (read due : Option ℕ)
    → cond a (cond b (Err (fault.Differs p1 (Some 1) None)) (Ok f)) (Err (fault.Differs p2 r2 w2)) ≡ Err (fault.Differs place read due)
    → None ≡ slice_get expected p1 → w2 ≡ slice_get expected p2 → due ≡ slice_get expected place
expects_by true true p1 p2 r2 w2 f expected place read due is end other =
    let byte : None ≡ due = cc (is) in let at : p1 ≡ place = cc (is) in sym byte ∙ end ∙ ap (slice_get expected) at
expects_by true false p1 p2 r2 w2 f expected place read due is end other = absurd (cc is)
expects_by false b p1 p2 r2 w2 f expected place read due is end other =
    let byte : w2 ≡ due = cc (is) in let at : p2 ≡ place = cc (is) in sym byte ∙ other ∙ ap (slice_get expected) at

judged_expects : (expected file : List ℕ) (f : Found) (place : ℕ) (read due : Option ℕ) → judged expected f file ≡ Err (fault.Differs place read due)
    → due ≡ slice_get expected place
judged_expects expected file f place read due is =
    expects_by (begins expected file) (is_open (drop (length expected) file)) (length expected) (common expected file) (slice_get file (common expected file))
    (slice_get expected (common expected file)) f expected place read due is (sym (slice_get_past expected (length expected) (le_refl (length expected)))) refl

-- where the pending frame stood there too
pub kept_expects : {A : Type 0} (written : List (List ℕ)) (pending : Option (List ℕ)) (frame expected file : List ℕ) (result : Result A AgainstFault) → pending ≡ Some frame
    → expected ≡ framed written ++ 1 ∷ frame → IfErr result (λ e. Says (Err e) (judged expected found.Kept file) × (e ≡ fault.Log → ⊥)) → IfErr result (TellsExpected written pending)
kept_expects written pending frame expected file (Ok x) is long h = tt
kept_expects written pending frame expected file (Err e) is long h = λ place read due same. (
  found.Kept,
  judged_expects expected file found.Kept place read due (subst (λ (x : AgainstFault). Says (Err x) (judged expected found.Kept file)) same h.0)
      ∙ ap (λ (l : List ℕ). slice_get l place) (long ∙ sym (framed_one written frame)) ∙ ap (λ (p : Option (List ℕ)). slice_get (framed (stood found.Kept written p)) place) (sym is),
)
