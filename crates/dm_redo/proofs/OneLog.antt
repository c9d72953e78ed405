-- The records of a log are those of its bytes.
use Rattle.std.proofs.Common.{◌≡◌, inl, inr, refl, sym, ◌∙◌, ap, subst, ℕ, List, [], ◌∷◌, ◌++◌, length, drop, append_assoc}
use Rattle.std.proofs.lemmas.List.{take_at, drop_at}
use Rattle.dm_record.specs.declared.record.Record.{Record}
use Rattle.dm_record.specs.declared.record.Decoded.{Decoded}
use Rattle.dm_record.specs.declared.record.Decoded.TheVariants as decoded
use Rattle.dm_record.specs.Bytes.{frame_of, HasRanges}
use Rattle.dm_record.specs.Form.{walk}
use Rattle.dm_record.specs.Grammar.{frame_form}
use Rattle.dm_record.proofs.Telling.{again}
use Rattle.dm_redo.specs.Holding.{framed, IsEnd}
use Rattle.dm_redo.specs.Finding.{AreRecords, frames_of, Has, Halts, IsOneLog, IsEitherEnd}
use Rattle.dm_redo.specs.Comparing.{AreFrames}

rec_in : Record → Decoded → Record
rec_in r (decoded.Whole rec used) = rec
rec_in r decoded.Short = r
rec_in r (decoded.Bad place) = r

same_rec : (a b : Record) (x y : List ℕ) → HasRanges a → HasRanges b → frame_of a ++ x ≡ frame_of b ++ y → a ≡ b
unfolding rec_in
same_rec a b x y ha hb is = ap (rec_in a) (sym (again a x ha) ∙ ap (λ (l : List ℕ). walk frame_form l 0) is ∙ again b y hb)

same_rest : (a b : Record) (x y : List ℕ) → a ≡ b → frame_of a ++ x ≡ frame_of b ++ y → x ≡ y
same_rest a b x y same is =
    sym (drop_at (frame_of a) x (length (frame_of a)) refl)
    ∙ ap (λ (l : List ℕ). drop (length (frame_of a)) l) (is ∙ ap (λ (r : Record). frame_of r ++ y) (sym same))
    ∙ drop_at (frame_of a) y (length (frame_of a)) refl

goes_on : (b : Record) (rest : List ℕ) → HasRanges b → Halts (1 ∷ (frame_of b ++ rest)) → ⊥
goes_on b rest has (inl ends) = ends refl
goes_on b rest has (inr bad) = bad.1 (length (frame_of b)) b (has, take_at (frame_of b) rest (length (frame_of b)) refl)

one : (recs others : List Record) (x y : List ℕ) → AreRecords recs → AreRecords others → framed (frames_of recs) ++ x ≡ framed (frames_of others) ++ y
    → Halts x → Halts y → recs ≡ others
one [] [] x y ha hb is hx hy = refl
one [] (b ∷ others) x y ha hb is hx hy =
    absurd (goes_on b (framed (frames_of others) ++ y) hb.0
    (subst Halts (is ∙ ap (λ (l : List ℕ). 1 ∷ l) (append_assoc (frame_of b) (framed (frames_of others)) y)) hx))
one (a ∷ recs) [] x y ha hb is hx hy =
    absurd (goes_on a (framed (frames_of recs) ++ x) ha.0
    (subst Halts (sym is ∙ ap (λ (l : List ℕ). 1 ∷ l) (append_assoc (frame_of a) (framed (frames_of recs)) x)) hy))
one (a ∷ recs) (b ∷ others) x y ha hb is hx hy =
    let split : frame_of a ++ (framed (frames_of recs) ++ x) ≡ frame_of b ++ (framed (frames_of others) ++ y) =
    sym (append_assoc (frame_of a) (framed (frames_of recs)) x) ∙ ap (λ (l : List ℕ). drop 1 l) is ∙ append_assoc (frame_of b) (framed (frames_of others)) y in
    let same = same_rec a b (framed (frames_of recs) ++ x) (framed (frames_of others) ++ y) ha.0 hb.0 split in
    let rest = same_rest a b (framed (frames_of recs) ++ x) (framed (frames_of others) ++ y) same split in
    ap (λ (r : Record). r ∷ recs) same ∙ ap (λ (l : List Record). b ∷ l) (one recs others x y ha.1 hb.1 rest hx hy)

pub one_log_holds : IsOneLog
one_log_holds bytes g h recs others f hg f' hh =
    let same = one recs others (drop g bytes) (drop h bytes) f.are f'.are (sym f.split ∙ f'.split) hg hh in
    (same, f.place ∙ ap (λ (l : List Record). length (framed (frames_of l))) same ∙ sym f'.place)

pub either_end_holds : IsEitherEnd
either_end_holds [] ends bad = bad
either_end_holds (g ∷ []) ends bad = bad
either_end_holds (g ∷ next ∷ rest) ends bad = ends bad.0

-- the records of frames
recs_of : (frames : List (List ℕ)) → AreFrames frames → (recs : List Record) × AreRecords recs × (frames_of recs ≡ frames)
recs_of [] are = ([], tt, refl)
recs_of (f ∷ frames) are =
    let more = recs_of frames are.1 in
    (are.0.0 ∷ more.0, (are.0.1.0, more.1), ap (λ (l : List ℕ). l ∷ frames_of more.0) (sym are.0.1.1) ∙ ap (λ (l : List (List ℕ)). f ∷ l) more.2)

-- where these frames stand in a file and then the log ends, they are the frames of its records
pub frames_are : (frames : List (List ℕ)) (bytes rest : List ℕ) (g : ℕ) (recs : List Record) → AreFrames frames → bytes ≡ framed frames ++ rest → IsEnd rest
    → Has bytes g recs → frames_of recs ≡ frames
frames_are frames bytes rest g recs are is ends has =
    let due = recs_of frames are in
    let split : framed (frames_of recs) ++ drop g bytes ≡ framed (frames_of due.0) ++ rest =
    sym has.0.split ∙ is ∙ ap (λ (fs : List (List ℕ)). framed fs ++ rest) (sym due.2) in
    ap frames_of (one recs due.0 (drop g bytes) rest has.0.are due.1 split (inl has.1) (inl ends)) ∙ due.2
