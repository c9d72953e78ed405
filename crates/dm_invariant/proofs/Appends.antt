-- What an append leaves of a log, and what the count of faults then allows.
use Rattle.std.proofs.Common.{ℕ, suc, ◌+◌, ◌-◌, ◌^◌, ◌≤◌, ◌≡◌, List, [], ◌∷◌, ◌++◌, Option, Some, None, length, refl, sym, ◌∙◌, subst, arith, inl, inr, ◌⊎◌}
use Rattle.std.proofs.lemmas.Bool.{cases_lt}
use Rattle.std.specs.Prelude.{IfSome, IsNone}
use Rattle.dm_disk.specs.Faults.{Rose}
use Rattle.dm_logdisk.proofs.Images.{leaves_weaker}
use Rattle.dm_logdisk.specs.Story.{Story, Change, after, EachImage, EachMoment, LeavesOnly, Both}
use Rattle.dm_redo.specs.Appending.{Appends}
use Rattle.dm_redo.specs.Holding.{Holds, IsAt, IsFirm, IsEnd, IsBeforeOrAfter}
use Rattle.dm_redo.specs.declared.appending.Appended.{Appended}
use Rattle.dm_redo.specs.declared.appending.Appended.TheVariants.{Done, Undone}
use Rattle.dm_invariant.specs.Logs.{HoldsWith}

-- a live log
abbrev pub Settled : List (List ℕ) → ℕ → Option Story → Type 0
Settled frames gate told = IfSome told (λ s. IsAt frames gate s × IsFirm frames s)

-- ---- after an append

pub settled_done : (frames : List (List ℕ)) (gate now : ℕ) (frame : List ℕ) (o n : Option Story) → now ≡ gate + length frame + 1
    → Both (Appends gate frame Done) o n → Settled frames gate o → Settled (frames ++ frame ∷ []) now n
settled_done frames gate now frame None None e a s = tt
settled_done frames gate now frame None (Some t) e a s = absurd a
settled_done frames gate now frame (Some x) None e a s = absurd a
settled_done frames gate now frame (Some x) (Some t) e a s =
    let d = a.ends frames s.0 in
    (subst (λ (g : ℕ). IsAt (frames ++ frame ∷ []) g t) (sym e) d.0, λ c im. ([], d.1 c im ∙ d.0.reads))

end_closed : (tail : List ℕ) → IsEnd (0 ∷ tail)
end_closed [] = tt
end_closed (x ∷ xs) = λ p. absurd (omega (arith, p))

pub held_settled : (frames : List (List ℕ)) (gate : ℕ) (o : Option Story) → Settled frames gate o → IfSome o (EachImage (Holds frames))
held_settled frames gate None s = tt
held_settled frames gate (Some x) s = λ c im. (let f = s.1 c im in (0 ∷ f.0, f.1, end_closed f.0))

pub held_undone : (frames : List (List ℕ)) (gate : ℕ) (frame : List ℕ) (o n : Option Story) → Both (Appends gate frame Undone) o n → Settled frames gate o
    → IfSome n (EachImage (Holds frames))
held_undone frames gate frame None None a s = tt
held_undone frames gate frame None (Some t) a s = absurd a
held_undone frames gate frame (Some x) None a s = absurd a
held_undone frames gate frame (Some x) (Some t) a s = (a.ends frames s.0).1 s.1

-- ---- through an append

before_or_after : (Next : List ℕ → Type 0) (frames : List (List ℕ)) (frame : List ℕ) → Next frame → (c : List ℕ)
    → IsBeforeOrAfter frames frame c → HoldsWith frames Next c
before_or_after Next frames frame next c (inl before) = inl before
before_or_after Next frames frame next c (inr behind) = inr (frame, next, behind)

pub leaves_append : (Next : List ℕ → Type 0) (frames : List (List ℕ)) (gate : ℕ) (frame : List ℕ) (result : Appended) (o n : Option Story) → Next frame
    → Both (Appends gate frame result) o n → Settled frames gate o → Both (LeavesOnly (HoldsWith frames Next)) o n
leaves_append Next frames gate frame result None None next a s = tt
leaves_append Next frames gate frame result None (Some t) next a s = a
leaves_append Next frames gate frame result (Some x) None next a s = a
leaves_append Next frames gate frame result (Some x) (Some t) next a s =
    leaves_weaker (IsBeforeOrAfter frames frame) (HoldsWith frames Next) (before_or_after Next frames frame next) x t (a.crash frames s.0 s.1)

leaves_now : (P : List ℕ → Type 0) (s : Story) (changes : List Change) → EachMoment P changes s → EachImage P (after changes s)
leaves_now P s [] m = m
leaves_now P s (x ∷ xs) m = m.1

pub left_now : (P : List ℕ → Type 0) (o n : Option Story) → Both (LeavesOnly P) o n → IfSome n (EachImage P)
left_now P None None l = tt
left_now P None (Some t) l = absurd l
left_now P (Some x) None l = absurd l
left_now P (Some x) (Some t) l = subst (λ (s : Story). EachImage P s) (sym l.1) (leaves_now P x l.0 l.2)

-- where the disk stays as it was
pub leaves_still : (P : List ℕ → Type 0) (o : Option Story) → IfSome o (EachImage P) → Both (LeavesOnly P) o o
leaves_still P None h = tt
leaves_still P (Some x) h = ([], refl, h)

pub some_weaker : (P Q : List ℕ → Type 0) (o : Option Story) → ((c : List ℕ) → P c → Q c) → IfSome o (EachImage P) → IfSome o (EachImage Q)
some_weaker P Q None to h = tt
some_weaker P Q (Some x) to h = λ c im. to c (h c im)

-- a disk that doesn't tell goes on so
pub tells_not : (R : Story → Story → Type 0) (o n : Option Story) → Both R o n → IsNone o → IsNone n
tells_not R None None b h = h
tells_not R None (Some t) b h = absurd b
tells_not R (Some x) None b h = refl
tells_not R (Some x) (Some t) b h = h

-- ---- faults

pub risen : (a n b now : ℕ) → (a + n ≤ b) ⊎ (2 ^ 64 - 1 ≤ b) → b ≤ now → (a + n ≤ now) ⊎ (2 ^ 64 - 1 ≤ now)
risen a n b now (inl h) le = inl (omega (arith, h, le))
risen a n b now (inr h) le = inr (omega (arith, h, le))

pub rose : (a n b now : ℕ) → (a + n ≤ b) ⊎ (2 ^ 64 - 1 ≤ b) → b ≤ now → Rose b now → (a + suc n ≤ now) ⊎ (2 ^ 64 - 1 ≤ now)
rose a n b now (inr h) le r = inr (omega (arith, h, le))
rose a n b now (inl h) le r = elim (cases_lt b (2 ^ 64 - 1)) [
  | inl below ↦ inl (omega (arith, h, r, below))
  | inr top ↦ inr (omega (arith, le, top))
]
