-- What frames tell.
use Rattle.std.proofs.Common.{ℕ, ◌≡◌, List, [], ◌∷◌, ◌++◌, map, refl, sym, ap, ap₂, ◌∙◌}
use Rattle.std.specs.List.{AllByRecursion as Each}
use Rattle.dm_record.proofs.Telling.{again}
use Rattle.dm_record.specs.Bytes.{HasRanges, frame_of}
use Rattle.dm_record.specs.Form.{walk}
use Rattle.dm_record.specs.Grammar.{frame_form}
use Rattle.dm_record.specs.declared.record.Decoded.{Decoded}
use Rattle.dm_record.specs.declared.record.Decoded.TheVariants as decoded
use Rattle.dm_record.specs.declared.record.Record.{Record}

-- the record that was read, and this one where none was
record_in : Record → Decoded → Record
record_in r (decoded.Whole rec used) = rec
record_in r decoded.Short = r
record_in r (decoded.Bad place) = r

one_record : (a b : Record) → HasRanges a → HasRanges b → frame_of a ≡ frame_of b → a ≡ b
unfolding record_in
one_record a b ha hb e = ap (record_in a) (sym (again a [] ha) ∙ ap (λ (bytes : List ℕ). walk frame_form (bytes ++ []) 0) e ∙ again b [] hb)

pub same_records : (recs others : List Record) → Each HasRanges recs → Each HasRanges others → map frame_of recs ≡ map frame_of others → recs ≡ others
same_records [] [] h k e = refl
same_records [] (b ∷ others) h k e = absurd (cc (e))
same_records (a ∷ recs) [] h k e = absurd (cc (e))
same_records (a ∷ recs) (b ∷ others) h k e =
    let first : frame_of a ≡ frame_of b = cc (e) in
    let rest : map frame_of recs ≡ map frame_of others = cc (e) in
    ap₂ (λ (r : Record) (rs : List Record). r ∷ rs) (one_record a b h.0 k.0 first) (same_records recs others h.1 k.1 rest)
