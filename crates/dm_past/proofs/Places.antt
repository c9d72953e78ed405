-- The words of a line by their places.
use Rattle.std.proofs.Common.{◌≡◌, ◌∙◌, refl, ap, Bool, true, false, List, Ok, ◌++◌, [], ◌∷◌, arith, ℕ, suc, ◌+◌, ◌-◌, ◌*◌, ◌^◌, ◌<◌, ◌≤◌, length, drop, nat_lt, drop-cons, append-nil}
use Rattle.std.specs.Prelude.{◌&&◌, ◌||◌, ◌==◌, nat_le}
use Rattle.std.specs.Str.{bytes_eq}
use Rattle.std.specs.Fmt.{decimal}
use Rattle.std.proofs.lemmas.Bool.{eqb-true, eq-eqb, ltb-true, lt-ltb, leb-true, lt-leb}
use Rattle.std.proofs.Math.Nat.{mul-le-mul}
use Rattle.std.proofs.lemmas.List.{drop_all}
use Rattle.std.proofs.lemmas.Slice.Eq.{bytes_eq-Decides}
use Rattle.dm_event.specs.Layout.{Layout, is_layout, is_site, is_part, is_key, is_session, is_between, key_count}
use Rattle.dm_event.specs.declared.limits.TheConstants.{MAX_SITES, MAX_PARTS, MAX_WIDTH, MAX_SESSIONS}
use Rattle.dm_event.specs.declared.step.TxnId.{TxnId}
use Rattle.dm_event.specs.declared.why.LineFault.TheVariants.{Word, Count}
use Rattle.dm_text.specs.Texts.{txn_text}
use Rattle.dm_fields.specs.Fields.{Words, canonical, word_at, fixed_word, u8_at, u16_at, u32_at, u64_at}
use Rattle.dm_past.specs.Fits.{is_u64, txn_fits}
use Rattle.dm_kinds.specs.Kinds.{word_count}
use Rattle.dm_kinds.specs.Values.{txn_of}
use Rattle.dm_kinds.proofs.Chains.{check_ok, and_true, and_from}
use Rattle.dm_past.proofs.Texts.{canonical_is, canonical_again, u64_from, TxnRead, txn_again}

-- ---- all words of a line

next_word : (ws : Words) (i : ℕ) → i < length ws → drop i ws ≡ word_at ws i ∷ drop (suc i) ws
unfolding word_at
next_word ws i lt = drop-cons ws i [] lt

pub no_back : (ws : Words) (m : ℕ) → length ws ≡ m → drop m ws ≡ []
no_back ws m e = drop_all m ws (omega arith)

-- ---- single fields

pub count_is : (neat : Bool) (ws : Words) (n : ℕ) (u : Unit {0}) → word_count neat ws n ≡ Ok u → (length ws ≡ n) × (neat ≡ true)
unfolding word_count
count_is neat ws n u e = let t = and_true (length ws == n) neat (check_ok Count ((length ws == n) && neat) u e) in (eqb-true (length ws) n t.0, t.1)

pub count_again : (ws : Words) (n : ℕ) → length ws ≡ n → word_count true ws n ≡ Ok tt
unfolding word_count
count_again ws n e = rw (eq-eqb (length ws) n e) refl

pub fixed_is : (ws : Words) (n : ℕ) (text : List ℕ) (u : Unit {0}) → fixed_word ws n text ≡ Ok u → n < length ws → word_at ws n ≡ text
unfolding fixed_word
fixed_is ws n text u e lt =
    let t = check_ok Word (nat_le (length ws) n || bytes_eq (word_at ws n) text) u e in
    (bytes_eq-Decides (word_at ws n) text).0 (rw (lt-leb (length ws) n lt) at t)

or_true : (a b : Bool) → b ≡ true → (a || b) ≡ true
or_true true b e = refl
or_true false b e = e

pub fixed_again : (ws : Words) (n : ℕ) (text : List ℕ) → word_at ws n ≡ text → fixed_word ws n text ≡ Ok tt
unfolding fixed_word
fixed_again ws n text e =
    let t : bytes_eq (word_at ws n) text ≡ true = (bytes_eq-Decides (word_at ws n) text).1 e in
    rw (or_true (nat_le (length ws) n) (bytes_eq (word_at ws n) text) t) refl

pub u8_is : (ws : Words) (n x : ℕ) → u8_at ws n ≡ Ok x → word_at ws n ≡ decimal x
unfolding u8_at
u8_is ws n x e = (canonical_is (2 ^ 8 - 1) (word_at ws n) x e).0

pub u16_is : (ws : Words) (n x : ℕ) → u16_at ws n ≡ Ok x → word_at ws n ≡ decimal x
unfolding u16_at
u16_is ws n x e = (canonical_is (2 ^ 16 - 1) (word_at ws n) x e).0

pub u32_is : (ws : Words) (n x : ℕ) → u32_at ws n ≡ Ok x → (word_at ws n ≡ decimal x) × (nat_lt x (2 ^ 32) ≡ true)
unfolding u32_at
u32_is ws n x e = let h = canonical_is (2 ^ 32 - 1) (word_at ws n) x e in (h.0, lt-ltb x (2 ^ 32) (omega (arith, h.1)))

pub u64_is : (ws : Words) (n x : ℕ) → u64_at ws n ≡ Ok x → (word_at ws n ≡ decimal x) × (is_u64 x ≡ true)
unfolding u64_at
u64_is ws n x e = let h = canonical_is (2 ^ 64 - 1) (word_at ws n) x e in (h.0, u64_from x h.1)

pub u8_again : (ws : Words) (n x : ℕ) → word_at ws n ≡ decimal x → x ≤ 2 ^ 8 - 1 → u8_at ws n ≡ Ok x
unfolding u8_at
u8_again ws n x e le = ap (λ (w : List ℕ). canonical (2 ^ 8 - 1) w) e ∙ canonical_again (2 ^ 8 - 1) x le (omega arith)

pub u16_again : (ws : Words) (n x : ℕ) → word_at ws n ≡ decimal x → x ≤ 2 ^ 16 - 1 → u16_at ws n ≡ Ok x
unfolding u16_at
u16_again ws n x e le = ap (λ (w : List ℕ). canonical (2 ^ 16 - 1) w) e ∙ canonical_again (2 ^ 16 - 1) x le (omega arith)

pub u32_again : (ws : Words) (n x : ℕ) → word_at ws n ≡ decimal x → nat_lt x (2 ^ 32) ≡ true → u32_at ws n ≡ Ok x
unfolding u32_at
u32_again ws n x e h =
    let lt = ltb-true x (2 ^ 32) h in
    ap (λ (w : List ℕ). canonical (2 ^ 32 - 1) w) e ∙ canonical_again (2 ^ 32 - 1) x (omega arith) (omega arith)

pub u64_again : (ws : Words) (n x : ℕ) → word_at ws n ≡ decimal x → is_u64 x ≡ true → u64_at ws n ≡ Ok x
unfolding u64_at
u64_again ws n x e h =
    let lt = ltb-true x (2 ^ 64) h in
    ap (λ (w : List ℕ). canonical (2 ^ 64 - 1) w) e ∙ canonical_again (2 ^ 64 - 1) x (omega arith) lt

-- ---- ranges

-- the limits of a layout, as far as they bound the numbers of a line
pub record Limits (layout : Layout) : Type 0 where
  pub some_site : 1 ≤ layout.sites
  pub sites : layout.sites ≤ 8
  pub parts : length layout.masters ≤ 256
  pub width : layout.width ≤ 65536

between : (least most n : ℕ) → is_between least most n ≡ true → (least ≤ n) × (n ≤ most)
between least most n h = let t = and_true (nat_le least n) (nat_le n most) h in (leb-true least n t.0, leb-true n most t.1)

pub limits_of : (layout : Layout) → is_layout layout ≡ true → Limits layout
limits_of layout h =
    let a = and_true (is_between 1 MAX_SITES layout.sites) _ h in
    let b = and_true (is_between 1 MAX_WIDTH layout.width) _ a.1 in
    let c = and_true (is_between 1 MAX_PARTS (length layout.masters)) _ b.1 in
    let sites = between 1 MAX_SITES layout.sites a.0 in
    let width = between 1 MAX_WIDTH layout.width b.0 in
    let parts = between 1 MAX_PARTS (length layout.masters) c.0 in
    record { some_site = sites.0; sites = sites.1; parts = parts.1; width = width.1 }

pub site_small : (layout : Layout) (site : ℕ) → Limits layout → is_site layout site ≡ true → site ≤ 2 ^ 8 - 1
site_small layout site l h = let b = between 1 layout.sites site h in omega (arith, l.sites, b.1)

pub part_small : (layout : Layout) (part : ℕ) → Limits layout → is_part layout part ≡ true → part ≤ 2 ^ 16 - 1
part_small layout part l h = let lt = ltb-true part (length layout.masters) h in omega (arith, l.parts, lt)

product : (a b m n : ℕ) → a ≤ m → b ≤ n → a * b ≤ m * n
product a b m n h k = mul-le-mul h k

pub key_small : (layout : Layout) (key : ℕ) → Limits layout → is_key layout key ≡ true → key ≤ 2 ^ 32 - 1
key_small layout key l h =
    let lt = ltb-true key (key_count layout) h in
    let few : length layout.masters * layout.width ≤ 256 * 65536 = product (length layout.masters) layout.width 256 65536 l.parts l.width in
    omega (arith, lt, few)

pub session_small : (session : ℕ) → is_session session ≡ true → session ≤ 32
session_small session h = (between 1 MAX_SESSIONS session h).1

-- ---- attempts

pub txn_fitting : (word : List ℕ) (txn : TxnId) → TxnRead word txn → is_session txn.session ≡ true → txn_fits txn ≡ true
unfolding txn_fits
txn_fitting word txn r h = and_from (is_session txn.session) (nat_lt txn.number (2 ^ 32) && is_u64 txn.attempt) h (and_from (nat_lt txn.number (2 ^ 32)) (is_u64 txn.attempt) r.number r.attempt)

pub txn_session : (txn : TxnId) → txn_fits txn ≡ true → is_session txn.session ≡ true
unfolding txn_fits
txn_session txn h = (and_true (is_session txn.session) (nat_lt txn.number (2 ^ 32) && is_u64 txn.attempt) h).0

pub txn_back : (txn : TxnId) → txn_fits txn ≡ true → txn_of (txn_text txn) ≡ Ok txn
unfolding txn_fits
txn_back txn h =
    let a = and_true (is_session txn.session) (nat_lt txn.number (2 ^ 32) && is_u64 txn.attempt) h in
    let b = and_true (nat_lt txn.number (2 ^ 32)) (is_u64 txn.attempt) a.1 in
    let s = session_small txn.session a.0 in
    let n = ltb-true txn.number (2 ^ 32) b.0 in
    let t = ltb-true txn.attempt (2 ^ 64) b.1 in
    txn_again txn (omega arith) (omega arith) (omega arith)

-- ---- these words stand there

-- the words stand from the place i on
abbrev pub AreAt : Words → ℕ → Words → Type 0
AreAt ws i [] = Unit {0}
AreAt ws i (a ∷ bs) = (word_at ws i ≡ a) × AreAt ws (suc i) bs

-- the same, from the place m + i on
abbrev pub AreBehind : Words → ℕ → ℕ → Words → Type 0
AreBehind ws m i [] = Unit {0}
AreBehind ws m i (a ∷ bs) = (word_at ws (m + i) ≡ a) × AreBehind ws m (suc i) bs

more : (w a : List ℕ) (r s : Words) → w ≡ a → r ≡ s → w ∷ r ≡ a ∷ s
more w a r s e f = cc

at_front : (ws : Words) (i : ℕ) (bs : Words) (n : ℕ) → i + length bs ≡ n → n ≤ length ws → AreAt ws i bs → drop i ws ≡ bs ++ drop n ws
at_front ws i [] n e le h = ap (λ (j : ℕ). drop j ws) (omega arith)
at_front ws i (a ∷ bs) n e le h =
    next_word ws i (omega arith) ∙ more (word_at ws i) a (drop (suc i) ws) (bs ++ drop n ws) h.0 (at_front ws (suc i) bs n (omega arith) le h.1)

pub are_front : (ws bs : Words) → length bs ≤ length ws → AreAt ws 0 bs → ws ≡ bs ++ drop (length bs) ws
are_front ws bs le h = at_front ws 0 bs (length bs) (omega arith) le h

pub are_all : (ws bs : Words) → length ws ≡ length bs → AreAt ws 0 bs → ws ≡ bs
are_all ws bs e h = are_front ws bs (omega arith) h ∙ ap (λ (r : Words). bs ++ r) (drop_all (length bs) ws (omega arith)) ∙ append-nil bs

at_back : (ws : Words) (m i : ℕ) (bs : Words) → length ws ≡ (m + i) + length bs → AreBehind ws m i bs → drop (m + i) ws ≡ bs
at_back ws m i [] e h = drop_all (m + i) ws (omega arith)
at_back ws m i (a ∷ bs) e h =
    let n : suc (m + i) ≡ m + suc i = omega arith in
    next_word ws (m + i) (omega arith)
    ∙ more (word_at ws (m + i)) a (drop (suc (m + i)) ws) bs h.0 (ap (λ (j : ℕ). drop j ws) n ∙ at_back ws m (suc i) bs (omega arith) h.1)

pub are_back : (ws : Words) (m : ℕ) (a : List ℕ) (bs : Words) → length ws ≡ m + suc (length bs) → word_at ws m ≡ a → AreBehind ws m 1 bs → drop m ws ≡ a ∷ bs
are_back ws m a bs e f h =
    let n : suc m ≡ m + 1 = omega arith in
    next_word ws m (omega arith) ∙ more (word_at ws m) a (drop (suc m) ws) bs f (ap (λ (j : ℕ). drop j ws) n ∙ at_back ws m 1 bs (omega arith) h)
