-- Each pick of a crash is an image.
use Rattle.std.proofs.Common.{◌≡◌, ◌⊎◌, inl, inr, refl, sym, ◌∙◌, ap, ℕ, zero, suc, ◌+◌, ◌≤◌, ◌<◌, Bool, true, false, List, [], ◌∷◌, ◌++◌, length, take, drop, get_or, arith}
use Rattle.std.proofs.lemmas.Grind.{get_or_default_zero}
use Rattle.std.proofs.lemmas.Bool.{cases_lt}
use Rattle.std.proofs.lemmas.List.{same_lists, places}
use Rattle.dm_logdisk.specs.Story.{Story, opened, noted, wrote, cut_to, synced, bytes_of, IsImage, Torn, overwritten}
use Rattle.dm_logdisk.proofs.Images.{torn_not}
use Rattle.dm_logdisk.specs.Picks.{kept_of, Mixes, mixed}

pub kept_is_image : (s : Story) → IsImage s (kept_of s)
kept_is_image (opened bytes) = refl
kept_is_image (noted (wrote at piece effect) s) = (kept_of s, kept_is_image s, torn_not at (length piece) (kept_of s))
kept_is_image (noted (cut_to len effect) s) = inl (kept_is_image s)
kept_is_image (noted (synced true) s) = refl
kept_is_image (noted (synced false) s) = kept_is_image s

same_mix : (b c : List ℕ) → Mixes b b c → c ≡ b
same_mix b c (long, each) = same_lists c b long (λ p d h. at p d h)
  where
    at : (p d : ℕ) → p < length c → get_or c p d ≡ get_or b p d
    at p d h = by (each p (omega (arith, long, h)))
      where
        by : (get_or c p 0 ≡ get_or b p 0) ⊎ (((p < length b) × (get_or c p 0 ≡ get_or b p 0)) ⊎ (length b ≤ p)) → get_or c p d ≡ get_or b p d
        by (inl is) = get_or_default_zero c p d h ∙ is ∙ sym (get_or_default_zero b p d (omega (arith, long, h)))
        by (inr (inl (_, is))) = get_or_default_zero c p d h ∙ is ∙ sym (get_or_default_zero b p d (omega (arith, long, h)))
        by (inr (inr past)) = absurd (omega (arith, past, long, h))

-- what the range of the write held before, and else the bytes of the crash
under : (at n : ℕ) (old c : List ℕ) → List ℕ
under at n old c = take (length old) (take at c ++ (take n (drop at old) ++ drop (at + n) c))

torn_under : (at : ℕ) (piece old c : List ℕ) → length c ≡ length (overwritten at piece old) → Torn at (length piece) (under at (length piece) old c) c
unfolding under
torn_under at piece old c long = record {
  before = same_lists _ _ (grind (arith, places)) (λ k d h. grind (arith, places));
  after = same_lists _ _ (grind (arith, places)) (λ k d h. grind (arith, places));
  no_shorter = grind (arith, places);
  no_longer = grind (arith, places);
}

length-under : (at : ℕ) (piece old c : List ℕ) → length c ≡ length (overwritten at piece old) → length (under at (length piece) old c) ≡ length old
unfolding under
length-under at piece old c long = grind (arith, places)

under_in : (at : ℕ) (piece old c : List ℕ) (p : ℕ) → length c ≡ length (overwritten at piece old) → at ≤ p → p < at + length piece → p < length old
    → get_or (under at (length piece) old c) p 0 ≡ get_or old p 0
unfolding under
under_in at piece old c p long low high within = grind (arith, places)

under_out : (at : ℕ) (piece old c : List ℕ) (p : ℕ) → length c ≡ length (overwritten at piece old) → (p < at) ⊎ (at + length piece ≤ p) → p < length old
    → get_or (under at (length piece) old c) p 0 ≡ get_or c p 0
unfolding under
under_out at piece old c p long (inl low) within = grind (arith, places)
under_out at piece old c p long (inr high) within = grind (arith, places)

read_out : (at : ℕ) (piece old : List ℕ) (p : ℕ) → (p < at) ⊎ (at + length piece ≤ p) → p < length old → get_or (overwritten at piece old) p 0 ≡ get_or old p 0
read_out at piece old p (inl low) within = grind (arith, places)
read_out at piece old p (inr high) within = grind (arith, places)

longer : (at : ℕ) (piece old : List ℕ) → length old ≤ length (overwritten at piece old)
longer at piece old = grind (arith, places)

under_mixes : (kept : List ℕ) (at : ℕ) (piece old c : List ℕ) → Mixes kept (overwritten at piece old) c → Mixes kept old (under at (length piece) old c)
under_mixes kept at piece old c (long, each) = (length-under at piece old c long, λ p within. by p within (cases_lt p at) (cases_lt p (at + length piece)))
  where
    out : (p : ℕ) → p < length old → (p < at) ⊎ (at + length piece ≤ p) → (get_or c p 0 ≡ get_or (overwritten at piece old) p 0)
        ⊎ (((p < length kept) × (get_or c p 0 ≡ get_or kept p 0)) ⊎ (length kept ≤ p))
        → (get_or (under at (length piece) old c) p 0 ≡ get_or old p 0)
        ⊎ (((p < length kept) × (get_or (under at (length piece) old c) p 0 ≡ get_or kept p 0)) ⊎ (length kept ≤ p))
    out p within outside (inl is) = inl (under_out at piece old c p long outside within ∙ is ∙ read_out at piece old p outside within)
    out p within outside (inr (inl (few, is))) = inr (inl (few, under_out at piece old c p long outside within ∙ is))
    out p within outside (inr (inr past)) = inr (inr past)

    by : (p : ℕ) → p < length old → (p < at) ⊎ (at ≤ p) → (p < at + length piece) ⊎ (at + length piece ≤ p)
        → (get_or (under at (length piece) old c) p 0 ≡ get_or old p 0)
        ⊎ (((p < length kept) × (get_or (under at (length piece) old c) p 0 ≡ get_or kept p 0)) ⊎ (length kept ≤ p))
    by p within (inl low) more = out p within (inl low) (each p (omega (arith, within, longer at piece old)))
    by p within (inr high) (inr past) = out p within (inr past) (each p (omega (arith, within, longer at piece old)))
    by p within (inr high) (inl low) = inl (under_in at piece old c p long high low within)

cut_back : (n : ℕ) (old c : List ℕ) → length c ≡ length (take n old) → c ≡ take n (c ++ drop (length c) old)
cut_back n old c long = same_lists _ _ (grind (arith, places)) (λ k d h. grind (arith, places))

length-cut : (n : ℕ) (old c : List ℕ) → length c ≡ length (take n old) → length (c ++ drop (length c) old) ≡ length old
length-cut n old c long = grind (arith, places)

cut_in : (n : ℕ) (old c : List ℕ) (p : ℕ) → p < length c → get_or (c ++ drop (length c) old) p 0 ≡ get_or c p 0
cut_in n old c p h = grind (arith, places)

cut_out : (n : ℕ) (old c : List ℕ) (p : ℕ) → length c ≤ p → p < length old → get_or (c ++ drop (length c) old) p 0 ≡ get_or old p 0
cut_out n old c p h within = grind (arith, places)

taken : (n : ℕ) (old : List ℕ) (p : ℕ) → p < length (take n old) → get_or (take n old) p 0 ≡ get_or old p 0
taken n old p h = grind (arith, places)

cut_mixes : (kept : List ℕ) (n : ℕ) (old c : List ℕ) → Mixes kept (take n old) c → Mixes kept old (c ++ drop (length c) old)
cut_mixes kept n old c (long, each) = (length-cut n old c long, λ p within. by p within (cases_lt p (length c)))
  where
    inside : (p : ℕ) → p < length c → (get_or c p 0 ≡ get_or (take n old) p 0) ⊎ (((p < length kept) × (get_or c p 0 ≡ get_or kept p 0)) ⊎ (length kept ≤ p))
        → (get_or (c ++ drop (length c) old) p 0 ≡ get_or old p 0) ⊎ (((p < length kept) × (get_or (c ++ drop (length c) old) p 0 ≡ get_or kept p 0))
        ⊎ (length kept ≤ p))
    inside p h (inl is) = inl (cut_in n old c p h ∙ is ∙ taken n old p (omega (arith, h, long)))
    inside p h (inr (inl (few, is))) = inr (inl (few, cut_in n old c p h ∙ is))
    inside p h (inr (inr past)) = inr (inr past)

    by : (p : ℕ) → p < length old → (p < length c) ⊎ (length c ≤ p)
        → (get_or (c ++ drop (length c) old) p 0 ≡ get_or old p 0) ⊎ (((p < length kept) × (get_or (c ++ drop (length c) old) p 0 ≡ get_or kept p 0))
        ⊎ (length kept ≤ p))
    by p within (inl h) = inside p h (each p (omega (arith, h, long)))
    by p within (inr h) = inl (cut_out n old c p h within)

-- a crash may leave each such mixture
pub mixes_image : (s : Story) (c : List ℕ) → Mixes (kept_of s) (bytes_of s) c → IsImage s c
mixes_image (opened bytes) c mix = same_mix bytes c mix
mixes_image (noted (wrote at piece true) s) c mix = (
  under at (length piece) (bytes_of s) c,
  mixes_image s (under at (length piece) (bytes_of s) c) (under_mixes (kept_of s) at piece (bytes_of s) c mix),
  torn_under at piece (bytes_of s) c mix.0,
)
mixes_image (noted (wrote at piece false) s) c mix = (c, mixes_image s c mix, torn_not at (length piece) c)
mixes_image (noted (cut_to n true) s) c mix =
    inr (
      c ++ drop (length c) (bytes_of s),
      mixes_image s (c ++ drop (length c) (bytes_of s)) (cut_mixes (kept_of s) n (bytes_of s) c mix),
      cut_back n (bytes_of s) c mix.0,
    )
mixes_image (noted (cut_to n false) s) c mix = inl (mixes_image s c mix)
mixes_image (noted (synced true) s) c mix = same_mix (bytes_of s) c mix
mixes_image (noted (synced false) s) c mix = mixes_image s c mix

pub mixed_mixes : (odd : Bool) (kept read : List ℕ) → Mixes kept read (mixed odd kept read)
mixed_mixes odd kept [] = (refl, λ p h. absurd (omega (arith, h)))
mixed_mixes false [] (r ∷ read) = (ap suc (mixed_mixes true [] read).0, λ p h. inr (inr (omega arith)))
mixed_mixes true [] (r ∷ read) = (ap suc (mixed_mixes false [] read).0, λ p h. inr (inr (omega arith)))
mixed_mixes false (k ∷ kept) (r ∷ read) = (ap suc (mixed_mixes true kept read).0, step (mixed_mixes true kept read).1)
  where
    step : ((p : ℕ) → p < length read → (get_or (mixed true kept read) p 0 ≡ get_or read p 0)
        ⊎ (((p < length kept) × (get_or (mixed true kept read) p 0 ≡ get_or kept p 0)) ⊎ (length kept ≤ p)))
        → (p : ℕ) → p < length (r ∷ read) → (get_or (r ∷ mixed true kept read) p 0 ≡ get_or (r ∷ read) p 0)
        ⊎ (((p < length (k ∷ kept)) × (get_or (r ∷ mixed true kept read) p 0 ≡ get_or (k ∷ kept) p 0)) ⊎ (length (k ∷ kept) ≤ p))
    step more zero h = inl refl
    step more (suc p) h = on (more p (omega (arith, h)))
      where
        on : (get_or (mixed true kept read) p 0 ≡ get_or read p 0) ⊎ (((p < length kept) × (get_or (mixed true kept read) p 0 ≡ get_or kept p 0))
            ⊎ (length kept ≤ p)) → (get_or (mixed true kept read) p 0 ≡ get_or read p 0)
            ⊎ (((suc p < length (k ∷ kept)) × (get_or (mixed true kept read) p 0 ≡ get_or kept p 0)) ⊎ (length (k ∷ kept) ≤ suc p))
        on (inl is) = inl is
        on (inr (inl (few, is))) = inr (inl (omega (arith, few), is))
        on (inr (inr past)) = inr (inr (omega (arith, past)))
mixed_mixes true (k ∷ kept) (r ∷ read) = (ap suc (mixed_mixes false kept read).0, step (mixed_mixes false kept read).1)
  where
    step : ((p : ℕ) → p < length read → (get_or (mixed false kept read) p 0 ≡ get_or read p 0)
        ⊎ (((p < length kept) × (get_or (mixed false kept read) p 0 ≡ get_or kept p 0)) ⊎ (length kept ≤ p)))
        → (p : ℕ) → p < length (r ∷ read) → (get_or (k ∷ mixed false kept read) p 0 ≡ get_or (r ∷ read) p 0)
        ⊎ (((p < length (k ∷ kept)) × (get_or (k ∷ mixed false kept read) p 0 ≡ get_or (k ∷ kept) p 0)) ⊎ (length (k ∷ kept) ≤ p))
    step more zero h = inr (inl (omega arith, refl))
    step more (suc p) h = on (more p (omega (arith, h)))
      where
        on : (get_or (mixed false kept read) p 0 ≡ get_or read p 0) ⊎ (((p < length kept) × (get_or (mixed false kept read) p 0 ≡ get_or kept p 0))
            ⊎ (length kept ≤ p)) → (get_or (mixed false kept read) p 0 ≡ get_or read p 0)
            ⊎ (((suc p < length (k ∷ kept)) × (get_or (mixed false kept read) p 0 ≡ get_or kept p 0)) ⊎ (length (k ∷ kept) ≤ suc p))
        on (inl is) = inl is
        on (inr (inl (few, is))) = inr (inl (omega (arith, few), is))
        on (inr (inr past)) = inr (inr (omega (arith, past)))

pub torn_is_image : (s : Story) → IsImage s (mixed false (kept_of s) (bytes_of s))
torn_is_image s = mixes_image s (mixed false (kept_of s) (bytes_of s)) (mixed_mixes false (kept_of s) (bytes_of s))
