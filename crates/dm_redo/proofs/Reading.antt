-- Reading a whole file in pieces.
use Rattle.std.proofs.Common.{◌≡◌, refl, sym, ◌∙◌, ap, ℕ, ◌+◌, ◌-◌, ◌≤◌, ◌<◌, List, ◌++◌, length, take, drop, min, arith, length-drop}
use Rattle.std.proofs.lemmas.List.{take_all, same_lists, places}
use Rattle.std.specs.Prelude.{Option, Some, None, IfSome}
use Rattle.dm_logdisk.specs.Story.{Story, bytes_of}
use Rattle.dm_logdisk.specs.Calls.{Reads}
use Rattle.dm_redo.specs.Reading.{ReadsAll}

-- so many bytes of the buffer are the file's, if it is as long
abbrev pub Front : Option Story → List ℕ → ℕ → Type 0
Front o into done = IfSome o (λ s. length into ≡ length (bytes_of s) → take done into ≡ take done (bytes_of s))

pub front_none : (o : Option Story) (into : List ℕ) → Front o into 0
front_none None into = tt
front_none (Some s) into = λ long. refl

more : (bytes into new piece : List ℕ) (done n : ℕ) → length into ≡ length bytes → done ≤ length into → take done into ≡ take done bytes
    → Reads bytes done (drop done into) piece n → new ≡ take done into ++ piece → take (done + n) new ≡ take (done + n) bytes
more bytes into new piece done n long within front reads is =
    let whole : new ≡ take done bytes ++ (take n (drop done bytes) ++ drop n (drop done into)) =
    is ∙ ap (λ (l : List ℕ). l ++ piece) front ∙ ap (λ (l : List ℕ). take done bytes ++ l) reads.taken in
    let few : n ≤ length bytes - done = few_of n (length (drop done into)) (length bytes - done) reads.count in
    ap (λ (l : List ℕ). take (done + n) l) whole ∙ same_lists _ _ (grind (arith, places)) (λ k e h. grind (arith, places))
  where
    few_of : (a b c : ℕ) → a ≡ min b c → a ≤ c
    few_of a b c is = omega (arith, is)

pub front_more : (o : Option Story) (into new piece : List ℕ) (done n : ℕ) → done ≤ length into → Front o into done
    → IfSome o (λ s. Reads (bytes_of s) done (drop done into) piece n) → new ≡ take done into ++ piece → length new ≡ length into → Front o new (done + n)
front_more None into new piece done n within front reads is same = tt
front_more (Some s) into new piece done n within front reads is same = λ long.
    let was : length into ≡ length (bytes_of s) = sym same ∙ long in
    more (bytes_of s) into new piece done n was within (front was) reads is

-- the buffer is full
pub front_all : (o : Option Story) (old into : List ℕ) (done : ℕ) → Front o into done → length into ≡ length old → done ≤ length into → length into ≤ done
    → IfSome o (λ s. ReadsAll (bytes_of s) old into done)
front_all None old into done front same within full = tt
front_all (Some s) old into done front same within full = λ long.
    let is : length into ≡ length (bytes_of s) = same ∙ long in
    (omega (arith, is), sym (take_all done into full) ∙ front is ∙ take_all done (bytes_of s) (omega (arith, is)))

-- a disk that tells gives a byte where there is one
pub front_ends : (o : Option Story) (old into piece : List ℕ) (done n : ℕ) → n ≡ 0 → done < length into → length into ≡ length old
    → IfSome o (λ s. Reads (bytes_of s) done (drop done into) piece n) → (new : List ℕ) → IfSome o (λ s. ReadsAll (bytes_of s) old new done)
front_ends None old into piece done n none more same reads new = tt
front_ends (Some s) old into piece done n none more same reads new = λ long. absurd (omega (arith, reads.count, length-drop done into))
