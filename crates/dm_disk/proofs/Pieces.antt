-- A text that is written piece by piece.
use Rattle.std.proofs.Common.{◌≡◌, ◌∙◌, ap, sym, ℕ, ◌+◌, List, ◌++◌, take, drop, append_assoc}
use Rattle.std.specs.Prelude.{Option, Some, None}
use Rattle.std.proofs.Math.Seq.{take-add}
use Rattle.dm_disk.specs.Putting.{appended}

pub appended_more : (o mid new : Option (List ℕ)) (d n : ℕ) (t : List ℕ) → mid ≡ appended o (take d t) → new ≡ appended mid (take n (drop d t))
    → new ≡ appended o (take (d + n) t)
appended_more None mid new d n t e f = f ∙ ap (λ (m : Option (List ℕ)). appended m (take n (drop d t))) e
appended_more (Some old) mid new d n t e f =
    f ∙ ap (λ (m : Option (List ℕ)). appended m (take n (drop d t))) e
    ∙ ap (λ (x : List ℕ). Some x) (append_assoc old (take d t) (take n (drop d t)) ∙ ap (λ (x : List ℕ). old ++ x) (sym (take-add d n t)))
