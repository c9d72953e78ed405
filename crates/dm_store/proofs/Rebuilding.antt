-- Past transactions, one after another.
use Rattle.std.proofs.Common.{ℕ, suc, nat_le, ◌&&◌, ◌≤◌, map, arith, true, ◌+◌, ◌<◌, ◌≡◌, List, [], ◌∷◌, ◌++◌, length, get_or, take, drop, sym, ap, subst, ◌∙◌}
use Rattle.std.proofs.Common.{drop-cons}
use Rattle.std.proofs.lemmas.Bool.{and_parts, leb-true}
use Rattle.std.proofs.lemmas.List.{take_more}
use Rattle.dm_event.specs.declared.limits.TheConstants.{MAX_KEYS}
use Rattle.dm_event.specs.declared.step.Pair.{Pair}
use Rattle.dm_model.specs.Shape.{is_ascending}
use Rattle.dm_store.specs.Rising.{fits, may_install, is_above}
use Rattle.dm_store.specs.declared.past.Past.{Past}

module _ (past : List Past) (i : ℕ) (t : Past) (l : i < length past) (read : t ≡ get_or past i t) where
  pub next_fits : (installed : List Past) → may_install installed (drop i past) ≡ true → (fits installed t ≡ true)
      × (may_install (installed ++ t ∷ []) (drop (i + 1) past) ≡ true)
  next_fits installed h =
      let next : suc i ≡ i + 1 = omega arith in
      and_parts (fits installed t) (may_install (installed ++ t ∷ []) (drop (i + 1) past))
      (subst (λ (us : List Past). may_install installed us ≡ true) (drop-cons past i t l ∙ (λ j. sym read j ∷ drop (next j) past)) h)

  pub next_taken : (installed : List Past) → installed ≡ take i past → installed ++ t ∷ [] ≡ take (i + 1) past
  next_taken installed e = ap (λ (us : List Past). us ++ t ∷ []) e ∙ sym (take_more past i t l ∙ ap (λ (u : Past). take i past ++ u ∷ []) (sym read))

-- what fits, part by part
pub record Parts (installed : List Past) (t : Past) : Type 0 where
  pub few : length t.writes ≤ MAX_KEYS
  pub ascending : is_ascending (map (λ (p : Pair). p.key) t.writes) ≡ true
  pub rising : is_above installed t.origin t.seq ≡ true

pub parts : (installed : List Past) (t : Past) → fits installed t ≡ true → Parts installed t
parts installed t h =
    let a = and_parts (nat_le (length t.writes) MAX_KEYS) (is_ascending (map (λ (p : Pair). p.key) t.writes) && is_above installed t.origin t.seq) h in
    let b = and_parts (is_ascending (map (λ (p : Pair). p.key) t.writes)) (is_above installed t.origin t.seq) a.1 in
    record { few = leb-true (length t.writes) MAX_KEYS a.0; ascending = b.0; rising = b.1 }
