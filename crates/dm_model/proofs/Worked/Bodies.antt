-- What ops read and write, and the values before any write.
use Rattle.std.specs.Prelude.{ℕ, ◌*◌, ℤ, pos, negsuc, ◌≡◌, [], ◌∷◌, Some, None, refl}
use Rattle.dm_event.specs.Layout.{Layout, opening_value}
use Rattle.dm_event.specs.declared.step.Op.TheVariants.{Read, Write, Add}
use Rattle.dm_model.proofs.Worked.{pair}
use Rattle.dm_model.specs.Bodies.{body, first_undeclared}
use Rattle.dm_model.specs.Values.{value}

-- ---- opening values

-- 100 for the keys 0 to 9, of which key 5 has 7
abbrev pub ranges : Layout
ranges = record {
  sites = 1;
  width = 10;
  masters = 1 ∷ 1 ∷ [];
  weights = record { balance = 1; delay = 1; together = 1 };
  values = record { first = 0; last = 9; value = pos 100 } ∷ record { first = 5; last = 5; value = pos 7 } ∷ [];
}

a_range_gives_the_opening_value : (opening_value ranges 0 ≡ pos 100) × (opening_value ranges 9 ≡ pos 100)
a_range_gives_the_opening_value = (refl, refl)

a_later_range_wins : opening_value ranges 5 ≡ pos 7
a_later_range_wins = refl

without_a_range_it_is_0 : opening_value ranges 10 ≡ pos 0
without_a_range_it_is_0 = refl

an_unwritten_key_has_its_opening_value : value ranges [] 5 (3 ∷ []) ≡ pos 7
an_unwritten_key_has_its_opening_value = refl

-- ---- bodies

-- each key has ten times its number
abbrev pub tens : ℕ → ℤ
tens key = pos (10 * key)

reads_come_in_order_and_each_time : (body (Read 3 ∷ Read 1 ∷ Read 3 ∷ []) tens).reads ≡ pair 3 30 ∷ pair 1 10 ∷ pair 3 30 ∷ []
reads_come_in_order_and_each_time = refl

an_own_write_is_read_back : (body (Read 3 ∷ Write 3 (pos 5) ∷ Read 3 ∷ []) tens).reads ≡ pair 3 30 ∷ pair 3 5 ∷ []
an_own_write_is_read_back = refl

an_addition_adds_to_what_a_read_would_give : (body (Add 3 (pos 5) ∷ Add 3 (pos 1) ∷ []) tens).writes ≡ pair 3 36 ∷ []
an_addition_adds_to_what_a_read_would_give = refl

additions_take_away_too : (body (Add 3 (negsuc 4) ∷ []) tens).writes ≡ pair 3 25 ∷ []
additions_take_away_too = refl

additions_wrap_at_64_bits : (body (Add 0 (pos 1) ∷ Read 0 ∷ []) (λ key. pos 9223372036854775807)).reads ≡ record { key = 0; value = negsuc 9223372036854775807 }
    ∷ []
additions_wrap_at_64_bits = refl

writes_ascend_with_the_last_value_of_each_key : (body (Write 15 (pos 1) ∷ Write 3 (pos 2) ∷ Write 15 (pos 4) ∷ Write 9 (pos 3) ∷ []) tens).writes ≡ pair 3 2
    ∷ pair 9 3 ∷ pair 15 4 ∷ []
writes_ascend_with_the_last_value_of_each_key = refl

the_first_undeclared_write_is_found : (first_undeclared (3 ∷ 5 ∷ []) (Read 7 ∷ Write 3 (pos 1) ∷ Add 8 (pos 1) ∷ Write 7 (pos 1) ∷ []) ≡ Some 8)
    × (first_undeclared (3 ∷ []) (Read 7 ∷ Write 3 (pos 1) ∷ []) ≡ None)
the_first_undeclared_write_is_found = (refl, refl)
