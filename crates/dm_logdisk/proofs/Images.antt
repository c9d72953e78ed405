-- What a crash may leave, through changes.
use Rattle.std.proofs.Common.{◌≡◌, inl, inr, refl, sym, ◌∙◌, ap, subst, ℕ, ◌+◌, ◌-◌, ◌≤◌, Bool, true, false, List, [], ◌∷◌, ◌++◌, length, take, drop, arith, rules, replicate, append_assoc, length-append}
use Rattle.std.proofs.lemmas.List.{take_all, take_at, drop_at, drop_all, append-nil, same_lists, places, length-replicate}
use Rattle.std.specs.Prelude.{Option, Some, None, option_map}
use Rattle.dm_logdisk.specs.Story.{Change, wrote, cut_to, synced, Story, opened, noted, filled, overwritten, bytes_of, Torn, IsImage, EachImage, after, EachMoment, LeavesOnly, Both}

-- a piece that is written at the end of the bytes
pub overwritten_end : (bytes piece : List ℕ) (at : ℕ) → at ≡ length bytes → overwritten at piece bytes ≡ bytes ++ piece
overwritten_end bytes piece at is =
    let fill = replicate (at + length piece - length bytes) 0 in
    let long : length (bytes ++ fill) ≤ at + length piece =
    omega (arith, length-append bytes fill, length-replicate {A = ℕ} (at + length piece - length bytes) 0) in
    ap (λ (l : List ℕ). l ++ piece ++ drop (at + length piece) (bytes ++ fill)) (take_at bytes fill at (sym is))
    ∙ ap (λ (l : List ℕ). bytes ++ piece ++ l) (drop_all (at + length piece) (bytes ++ fill) long)
    ∙ append-nil (bytes ++ piece)

-- a piece that is written within the bytes
pub overwritten_within : (front old piece back : List ℕ) (at : ℕ) → at ≡ length front → length piece ≡ length old
    → overwritten at piece (front ++ (old ++ back)) ≡ front ++ (piece ++ back)
overwritten_within front old piece back at is same =
    let bytes = front ++ (old ++ back) in
    let none : at + length piece - length bytes ≡ 0 = omega (arith, length-append front (old ++ back), length-append old back) in
    let short : filled bytes (at + length piece) ≡ bytes = ap (λ (n : ℕ). bytes ++ replicate n 0) none ∙ append-nil bytes in
    ap (λ (l : List ℕ). take at l ++ piece ++ drop (at + length piece) l) short
    ∙ ap (λ (l : List ℕ). l ++ piece ++ drop (at + length piece) bytes) (take_at front (old ++ back) at (sym is))
    ∙ ap (λ (l : List ℕ). front ++ piece ++ drop (at + length piece) l) (sym (append_assoc front old back))
    ∙ ap (λ (l : List ℕ). front ++ piece ++ l) (drop_at (front ++ old) back (at + length piece) (omega (arith, length-append front old)))
    ∙ append_assoc front piece back

-- a failed write may have left all as it was
pub torn_not : (at n : ℕ) (bytes : List ℕ) → Torn at n bytes bytes
torn_not at n bytes = record {
  before = same_lists _ _ (search (rules, places)) (λ k d h. grind (arith, places));
  after = ap (λ (l : List ℕ). drop (at + n) l) (take_all (length bytes) bytes (omega arith));
  no_shorter = omega arith;
  no_longer = omega arith;
}

pub torn_whole : (at : ℕ) (piece bytes : List ℕ) → Torn at (length piece) bytes (overwritten at piece bytes)
torn_whole at piece bytes = record {
  before = same_lists _ _ (search (rules, places)) (λ k d h. grind (arith, places));
  after = same_lists _ _ (search (rules, places)) (λ k d h. grind (arith, places));
  no_shorter = grind (arith, places);
  no_longer = grind (arith, places);
}

-- what a read gives is what a crash may leave
pub read_is_image : (s : Story) → IsImage s (bytes_of s)
read_is_image (opened bytes) = refl
read_is_image (noted (wrote at piece true) s) = (bytes_of s, read_is_image s, torn_whole at piece (bytes_of s))
read_is_image (noted (wrote at piece false) s) = (bytes_of s, read_is_image s, torn_not at (length piece) (bytes_of s))
read_is_image (noted (cut_to len true) s) = inr (bytes_of s, read_is_image s, refl)
read_is_image (noted (cut_to len false) s) = inl (read_is_image s)
read_is_image (noted (synced true) s) = refl
read_is_image (noted (synced false) s) = read_is_image s

-- a sync takes outcomes away, whatever it answers
pub sync_keeps : (P : List ℕ → Type 0) (s : Story) (effect : Bool) → EachImage P s → EachImage P (noted (synced effect) s)
sync_keeps P s true each c left = subst P (sym left) (each (bytes_of s) (read_is_image s))
sync_keeps P s false each c left = each c left

-- a disk goes through these changes, where it tells
abbrev pub Goes : List Change → Option Story → Option Story → Type 0
Goes changes old new = new ≡ option_map (after changes) old

pub goes_not : (o : Option Story) → Goes [] o o
goes_not None = refl
goes_not (Some s) = refl

pub goes_on : (changes : List Change) (change : Change) (old mid new : Option Story) → Goes changes old mid → new ≡ option_map (λ s. noted change s) mid
    → Goes (change ∷ changes) old new
goes_on changes change None mid new goes next = next ∙ ap (λ (o : Option Story). option_map (λ s. noted change s) o) goes
goes_on changes change (Some s) mid new goes next = next ∙ ap (λ (o : Option Story). option_map (λ s. noted change s) o) goes

pub both_goes : (R : Story → Story → Type 0) (changes : List Change) (old new : Option Story) → Goes changes old new → ((s : Story) → R s (after changes s))
    → Both R old new
both_goes R changes None new goes each = subst (Both R None) (sym goes) tt
both_goes R changes (Some s) new goes each = subst (Both R (Some s)) (sym goes) (each s)

-- One run of changes behind another.
pub after_append : (more changes : List Change) (s : Story) → after (more ++ changes) s ≡ after more (after changes s)
after_append [] changes s = refl
after_append (change ∷ more) changes s = ap (λ (t : Story). noted change t) (after_append more changes s)

pub moments_append : (P : List ℕ → Type 0) (more changes : List Change) (s : Story) → EachMoment P changes s → EachMoment P more (after changes s)
    → EachMoment P (more ++ changes) s
moments_append P [] changes s first then_more = first
moments_append P (change ∷ more) changes s first then_more =
    (moments_append P more changes s first then_more.0, subst (λ (t : Story). EachImage P (noted change t)) (sym (after_append more changes s)) then_more.1)

pub leaves_then : (P : List ℕ → Type 0) (old mid new : Story) → LeavesOnly P old mid → LeavesOnly P mid new → LeavesOnly P old new
leaves_then P old mid new a b = (
  b.0 ++ a.0,
  b.1 ∙ ap (λ (t : Story). after b.0 t) a.1 ∙ sym (after_append b.0 a.0 old),
  moments_append P b.0 a.0 old a.2 (subst (λ (t : Story). EachMoment P b.0 t) a.1 b.2),
)

pub leaves_weaker : (P Q : List ℕ → Type 0) → ((c : List ℕ) → P c → Q c) → (old new : Story) → LeavesOnly P old new → LeavesOnly Q old new
leaves_weaker P Q to old new a = (a.0, a.1, each a.0 old a.2)
  where
    each : (changes : List Change) (s : Story) → EachMoment P changes s → EachMoment Q changes s
    each [] s h = λ c left. to c (h c left)
    each (change ∷ changes) s h = (each changes s h.0, λ c left. to c (h.1 c left))

pub both_then : (R S T : Story → Story → Type 0) → ((a b c : Story) → R a b → S b c → T a c) → (a b c : Option Story) → Both R a b → Both S b c → Both T a c
both_then R S T to None None None r s = tt
both_then R S T to None None (Some c) r s = s
both_then R S T to None (Some b) c r s = absurd r
both_then R S T to (Some a) None c r s = absurd r
both_then R S T to (Some a) (Some b) None r s = s
both_then R S T to (Some a) (Some b) (Some c) r s = to a b c r s
