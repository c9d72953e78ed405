-- What stands in a file that agrees.
use Rattle.std.proofs.Common.{◌≡◌, refl, sym, ◌∙◌, ap, subst, ℕ, suc, ◌+◌, ◌<◌, Bool, true, false, cond, eqb, ◌&&◌, List, [], ◌∷◌, ◌++◌, length, drop, get_or, arith, append_assoc, length-drop}
use Rattle.std.proofs.lemmas.Bool.{eqb-true, eqb-false}
use Rattle.std.proofs.lemmas.List.{append-nil, drop_more}
use Rattle.std.specs.Prelude.{Option, Some, None, Result, Ok, Err}
use Rattle.dm_event.specs.declared.step.Found.{Found}
use Rattle.dm_event.specs.declared.step.Found.TheVariants as found
use Rattle.dm_redo.specs.declared.comparing.AgainstFault.{AgainstFault}
use Rattle.dm_redo.specs.declared.comparing.AgainstFault.TheVariants as fault
use Rattle.dm_redo.specs.Holding.{framed, IsEnd}
use Rattle.dm_redo.specs.Comparing.{common, begins, is_open, judged, compared, Says, stood}

ok_in : Found → Result Found AgainstFault → Found
ok_in f (Ok r) = r
ok_in f (Err e) = f

judged_by : (a b : Bool) (d1 d2 : AgainstFault) (f r : Found) → cond a (cond b (Err d1) (Ok f)) (Err d2) ≡ Ok r → (f ≡ r) × (a ≡ true) × (b ≡ false)
unfolding ok_in
judged_by true true d1 d2 f r is = absurd (cc is)
judged_by true false d1 d2 f r is = (ap (ok_in f) is, refl, refl)
judged_by false b d1 d2 f r is = absurd (cc is)

begins_split : (expected file : List ℕ) → common expected file ≡ length expected → file ≡ expected ++ drop (length expected) file
begins_split [] file is = refl
begins_split (x ∷ expected) [] is = absurd (omega (arith, is))
begins_split (x ∷ expected) (y ∷ file) is = by (begins_split expected file) (eqb x y) refl
  where
    by : (common expected file ≡ length expected → file ≡ expected ++ drop (length expected) file) → (b : Bool) → eqb x y ≡ b
        → (y ∷ file) ≡ (x ∷ expected) ++ drop (length expected) file
    by more true same =
        let count : suc (common expected file) ≡ suc (length expected) = sym (ap (λ (b : Bool). cond b (suc (common expected file)) 0) same) ∙ is in
        ap (λ (l : List ℕ). y ∷ l) (more (omega (arith, count))) ∙ ap (λ (k : ℕ). k ∷ (expected ++ drop (length expected) file)) (sym (eqb-true x y same))
    by more false same =
        let count : 0 ≡ suc (length expected) = sym (ap (λ (b : Bool). cond b (suc (common expected file)) 0) same) ∙ is in
        absurd (omega (arith, count))

pub closed_ends : (rest : List ℕ) → is_open rest ≡ false → IsEnd rest
closed_ends [] is = tt
closed_ends (g ∷ []) is = tt
closed_ends (g ∷ next ∷ rest) is = eqb-false g 1 is

-- an open gate is no last byte
pub open_within : (file : List ℕ) (at : ℕ) → is_open (drop at file) ≡ true → at + 1 < length file
open_within file at is = by (drop at file) refl is
  where
    by : (rest : List ℕ) → drop at file ≡ rest → is_open rest ≡ true → at + 1 < length file
    by [] same opens = absurd (cc opens)
    by (g ∷ []) same opens = absurd (cc opens)
    by (g ∷ next ∷ rest) same opens = omega (arith, ap length same, length-drop at file)

-- it is the byte 1
pub open_is : (file : List ℕ) (at : ℕ) → is_open (drop at file) ≡ true → get_or file at 0 ≡ 1
open_is file at is = by (drop at file) refl is
  where
    by : (rest : List ℕ) → drop at file ≡ rest → is_open rest ≡ true → get_or file at 0 ≡ 1
    by [] same opens = absurd (cc opens)
    by (g ∷ []) same opens = absurd (cc opens)
    by (g ∷ next ∷ rest) same opens =
        let more : at < length file = omega (arith, open_within file at is) in
        let first : get_or file at 0 ∷ drop (at + 1) file ≡ g ∷ next ∷ rest = sym (drop_more file at 0 more) ∙ same in
        let here : get_or file at 0 ≡ g = cc first in
        here ∙ eqb-true g 1 opens

judged_ok : (expected file : List ℕ) (f r : Found) → judged expected f file ≡ Ok r
    → (f ≡ r) × (file ≡ expected ++ drop (length expected) file) × IsEnd (drop (length expected) file)
judged_ok expected file f r is =
    let h = judged_by (begins expected file) (is_open (drop (length expected) file)) _ _ f r is in
    (h.0, begins_split expected file (eqb-true (common expected file) (length expected) h.1), closed_ends (drop (length expected) file) h.2)

pub judged_same : (expected file : List ℕ) (f r : Found) → judged expected f file ≡ Ok r → judged expected f file ≡ Ok f
judged_same expected file f r is = is ∙ ap Ok (sym (judged_ok expected file f r is).0)

not_log : (a b : Bool) (p1 p2 : ℕ) (r1 r2 w1 w2 : Option ℕ) (f : Found) (e : AgainstFault)
    → cond a (cond b (Err (fault.Differs p1 r1 w1)) (Ok f)) (Err (fault.Differs p2 r2 w2)) ≡ Err e → e ≡ fault.Log → ⊥
not_log true true p1 p2 r1 r2 w1 w2 f e is log = absurd (cc (is, log))
not_log true false p1 p2 r1 r2 w1 w2 f e is log = absurd (cc is)
not_log false b p1 p2 r1 r2 w1 w2 f e is log = absurd (cc (is, log))

judged_not_log : (expected file : List ℕ) (f : Found) (e : AgainstFault) → judged expected f file ≡ Err e → e ≡ fault.Log → ⊥
judged_not_log expected file f e is log = not_log (begins expected file) (is_open (drop (length expected) file)) _ _ _ _ _ _ f e is log

says_err : (e : AgainstFault) (due : Result Found AgainstFault) → due ≡ Err e → Says (Err e) due
says_err (fault.Differs place read written) due is = is
says_err fault.Log due is = tt
says_err fault.Memory due is = tt

pub judged_err : (expected file : List ℕ) (f : Found) (e : AgainstFault) → judged expected f file ≡ Err e
    → Says (Err e) (judged expected f file) × (e ≡ fault.Log → ⊥)
judged_err expected file f e is = (says_err e (judged expected f file) is, judged_not_log expected file f e is)

pub framed_one : (frames : List (List ℕ)) (frame : List ℕ) → framed (frames ++ frame ∷ []) ≡ framed frames ++ 1 ∷ frame
framed_one [] frame = ap (λ (l : List ℕ). 1 ∷ l) (append-nil frame)
framed_one (f ∷ frames) frame =
    ap (λ (l : List ℕ). 1 ∷ (f ++ l)) (framed_one frames frame) ∙ ap (λ (l : List ℕ). 1 ∷ l) (sym (append_assoc f (framed frames) (1 ∷ frame)))

abbrev pub Stand : List (List ℕ) → List ℕ → Type 0
Stand frames file = (file ≡ framed frames ++ drop (length (framed frames)) file) × IsEnd (drop (length (framed frames)) file)

agrees_so : (written : List (List ℕ)) (frame file : List ℕ) (f : Found) (b : Bool)
    → cond b (judged (framed written ++ 1 ∷ frame) found.Kept file) (judged (framed written) found.Lost file) ≡ Ok f → Stand (stood f written (Some frame)) file
agrees_so written frame file f true is =
    let h = judged_ok (framed written ++ 1 ∷ frame) file found.Kept f is in
    let whole : (file ≡ (framed written ++ 1 ∷ frame) ++ drop (length (framed written ++ 1 ∷ frame)) file) × IsEnd
    (drop (length (framed written ++ 1 ∷ frame)) file) = (h.1, h.2) in
    subst (λ (g : Found). Stand (stood g written (Some frame)) file) h.0
    (subst (λ (l : List ℕ). (file ≡ l ++ drop (length l) file) × IsEnd (drop (length l) file)) (sym (framed_one written frame)) whole)
agrees_so written frame file f false is =
    let h = judged_ok (framed written) file found.Lost f is in
    subst (λ (g : Found). Stand (stood g written (Some frame)) file) h.0 (h.1, h.2)

pub compared_agrees : (written : List (List ℕ)) (pending : Option (List ℕ)) (file : List ℕ) (f : Found) → compared (framed written) pending file ≡ Ok f
    → Stand (stood f written pending) file
compared_agrees written None file f is =
    let h = judged_ok (framed written) file found.Clean f is in
    subst (λ (g : Found). Stand (stood g written None) file) h.0 (h.1, h.2)
compared_agrees written (Some frame) file f is =
    agrees_so written frame file f (begins (framed written) file && is_open (drop (length (framed written)) file)) is
