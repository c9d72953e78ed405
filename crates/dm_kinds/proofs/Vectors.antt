-- The numbers of a vector as its words are read.
use Rattle.std.proofs.Common.{◌≡◌, ◌∙◌, ap, sym, refl, ℕ, ◌+◌, ◌-◌, ◌<◌, ◌^◌, List, [], ◌∷◌, ◌++◌, length, get_or, drop, map, add-one, drop-cons, Bor, Result, Some}
use Rattle.std.proofs.lemmas.Bool.{eq-eqb}
use Rattle.dm_event.specs.Layout.{Layout}
use Rattle.dm_event.specs.declared.why.LineFault.{LineFault}
use Rattle.dm_fields.specs.declared.fault.LineError.{LineError}
use Rattle.dm_fields.specs.declared.fault.LineError.TheVariants as errors
use Rattle.dm_fields.specs.Fields.{Fails, canonical, ◌>>=◌}
use Rattle.dm_kinds.specs.Values.{sized, closed_numbers}

pub sized_same : (layout : Layout) (v numbers : List ℕ) → length numbers ≡ layout.sites → v ≡ numbers → Some v ≡ sized layout numbers
unfolding sized
sized_same layout v numbers e f = rw (f, eq-eqb (length numbers) layout.sites e) refl

-- a word before the last one is no number
pub numbers_stop : (error : LineError) (so_far : List ℕ) (word : List ℕ) (i : ℕ) (behind : List (Bor (List ℕ))) (d : Bor (List ℕ)) (all : Result (List ℕ) LineFault)
    → i < length behind → Fails error (canonical (2 ^ 64 - 1) word) → closed_numbers so_far word (map (λ w. w.now) (drop i behind)) ≡ all → Fails error all
unfolding closed_numbers
numbers_stop errors.Memory so_far word i behind d all lt fails before = tt
numbers_stop (errors.Fault fault) so_far word i behind d all lt fails before =
    let e : drop i behind ≡ get_or behind i d ∷ drop (i + 1) behind = rw (add-one, drop-cons behind i d lt) refl in
    sym before ∙ ap (λ (ws : List (Bor (List ℕ))). closed_numbers so_far word (map (λ w. w.now) ws)) e
    ∙ ap (λ (r : Result ℕ LineFault). r >>= λ n. closed_numbers (so_far ++ n ∷ []) (get_or behind i d).now (map (λ w. w.now) (drop (i + 1) behind))) fails
