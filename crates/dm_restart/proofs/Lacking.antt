-- The commit that a past lacks.
use Rattle.std.proofs.Common.{ℕ, ◌+◌, ◌<◌, ◌≤◌, ◌≡◌, List, [], ◌∷◌, ◌++◌, length, refl, ap, sym, ◌∙◌, arith, map, take, drop, get_or}
use Rattle.std.proofs.Common.{Bool, true, false, not, cond, nat_lt, ◌&&◌, Option, Some, None, take-append-drop}
use Rattle.std.proofs.lemmas.Bool.{lt-ltb, ltb-true}
use Rattle.std.proofs.lemmas.List.{append-nil, take_more, take_all}
use Rattle.std.proofs.lemmas.List.Elements.{filter_map-append}
use Rattle.std.proofs.lemmas.List.Folds.{find-append}
use Rattle.std.specs.List.{AllByRecursion as Each, cons_option, range_with_len}
use Rattle.std.specs.Option.{option_or}
use Rattle.std.specs.Prelude.{find, option_to_list}
use Rattle.dm_event.specs.declared.limits.TheConstants.{MAX_KEYS}
use Rattle.dm_event.specs.declared.step.Pair.{Pair}
use Rattle.dm_event.specs.declared.step.TxnId.{TxnId}
use Rattle.dm_event.specs.Vectors.{at}
use Rattle.dm_model.proofs.ListFacts.{found_each, found_holds}
use Rattle.dm_model.specs.Shape.{is_ascending}
use Rattle.dm_record.specs.Bytes.{HasRanges, AreKeys}
use Rattle.dm_record.specs.declared.record.Record.{Record}
use Rattle.dm_record.specs.declared.record.Record.TheVariants.{Commit, Release, Grant}
use Rattle.dm_restart.proofs.Numbers.{numbers-append, front_range, above_range, one_of_range}
use Rattle.dm_restart.specs.Floors.{floor_of}
use Rattle.dm_restart.specs.Plans.{commit_of, commits_of, is_one_of, lacking, completed, numbers_of, is_numbered_above, ReachesFloor}
use Rattle.dm_store.specs.Rising.{is_above}
use Rattle.dm_store.specs.declared.past.Past.{Past}

-- the commits of one record more
commits_more : (site : ℕ) (own : List Record) (i : ℕ) (r : Record) → i < length own → r ≡ get_or own i r
    → commits_of site (take (i + 1) own) ≡ commits_of site (take i own) ++ cons_option (commit_of site r) []
commits_more site own i r l read =
    ap (λ (rs : List Record). commits_of site rs) (take_more own i r l ∙ ap (λ (x : Record). take i own ++ x ∷ []) (sym read))
    ∙ filter_map-append (commit_of site) (take i own) (r ∷ [])

module _ (last site : ℕ) (own : List Record) (i : ℕ) (r : Record) (l : i < length own) (read : r ≡ get_or own i r)
    (none : find (is_numbered_above last) (commits_of site (take i own)) ≡ None) where
  behind : find (is_numbered_above last) (commits_of site (take (i + 1) own)) ≡ find (is_numbered_above last) (cons_option (commit_of site r) [])
  behind =
      ap (λ (ts : List Past). find (is_numbered_above last) ts) (commits_more site own i r l read)
      ∙ find-append (is_numbered_above last) (commits_of site (take i own)) (cons_option (commit_of site r) [])
      ∙ ap (λ (o : Option Past). option_or o (find (is_numbered_above last) (cons_option (commit_of site r) []))) none

  -- the record is no commit that is numbered above
  pub none_next : (find (is_numbered_above last) (cons_option (commit_of site r) []) ≡ None) → find (is_numbered_above last) (commits_of site (take (i + 1) own)) ≡ None
  none_next h = behind ∙ h

  -- the record is the first one
  pub found_first : (txn : TxnId) (seq : ℕ) (begin : List ℕ) (writes : List Pair) → r ≡ Commit txn seq begin writes → last < seq
      → Some (record { origin = site; seq = seq; writes = writes }) ≡ find (is_numbered_above last) (commits_of site own)
  found_first txn seq begin writes e more =
      let whole : own ≡ take (i + 1) own ++ drop (i + 1) own = sym (take-append-drop (i + 1) own) in
      let t : Past = record { origin = site; seq = seq; writes = writes } in
      let here : find (is_numbered_above last) (cons_option (commit_of site r) []) ≡ Some t =
      ap (λ (x : Record). find (is_numbered_above last) (cons_option (commit_of site x) [])) e
      ∙ ap (λ (b : Bool). cond b (Some t) None) (lt-ltb last seq more) in
      sym (ap (λ (rs : List Record). find (is_numbered_above last) (commits_of site rs)) whole
      ∙ ap (λ (ts : List Past). find (is_numbered_above last) ts) (filter_map-append (commit_of site) (take (i + 1) own) (drop (i + 1) own))
      ∙ find-append (is_numbered_above last) (commits_of site (take (i + 1) own)) (commits_of site (drop (i + 1) own))
      ∙ ap (λ (o : Option Past). option_or o (find (is_numbered_above last) (commits_of site (drop (i + 1) own)))) (behind ∙ here))

pub not_above : (last site : ℕ) (txn : TxnId) (seq : ℕ) (begin : List ℕ) (writes : List Pair) → nat_lt last seq ≡ false
    → find (is_numbered_above last) (cons_option (commit_of site (Commit txn seq begin writes)) []) ≡ None
not_above last site txn seq begin writes h =
    let t : Past = record { origin = site; seq = seq; writes = writes } in
    ap (λ (b : Bool). cond b (Some t) None) h

pub no_commit : (last site : ℕ) (r : Record) → ((txn : TxnId) (seq : ℕ) (begin : List ℕ) (writes : List Pair) → r ≡ Commit txn seq begin writes → ⊥)
    → find (is_numbered_above last) (cons_option (commit_of site r) []) ≡ None
no_commit last site (Commit txn seq begin writes) h = absurd (h txn seq begin writes refl)
no_commit last site (Release part epoch to vector) h = refl
no_commit last site (Grant part epoch vector) h = refl

pub none_in_all : (last site : ℕ) (own : List Record) (i : ℕ) → length own ≤ i → find (is_numbered_above last) (commits_of site (take i own)) ≡ None
    → None ≡ find (is_numbered_above last) (commits_of site own)
none_in_all last site own i l h = sym (sym (ap (λ (rs : List Record). find (is_numbered_above last) (commits_of site rs)) (take_all i own l)) ∙ h)

-- what the ranges of its record say of a commit of the site
pub record IsOwn (site : ℕ) (t : Past) : Type 0 where
  pub origin : t.origin ≡ site
  pub counts : 1 ≤ t.seq
  pub few : length t.writes ≤ MAX_KEYS
  pub ascending : is_ascending (map (λ (p : Pair). p.key) t.writes) ≡ true

keys_ascend : (least : ℕ) (ps : List Pair) → AreKeys least ps → is_ascending (map (λ (p : Pair). p.key) ps) ≡ true
keys_ascend least [] h = refl
keys_ascend least (p ∷ []) h = refl
keys_ascend least (p ∷ q ∷ ps) h =
    ap (λ (b : Bool). b && is_ascending (map (λ (x : Pair). x.key) (q ∷ ps))) (lt-ltb p.key q.key (let a = h.1.0.0 in omega (arith, a)))
    ∙ keys_ascend (p.key + 1) (q ∷ ps) h.1

pub each_own : (site : ℕ) (own : List Record) → Each HasRanges own → Each (IsOwn site) (commits_of site own)
each_own site [] h = tt
each_own site (Commit txn seq begin writes ∷ own) h =
    (record { origin = refl; counts = h.0.0.3; few = h.0.0.5.1; ascending = keys_ascend 0 writes h.0.0.6 }, each_own site own h.1)
each_own site (Release part epoch to vector ∷ own) h = each_own site own h.1
each_own site (Grant part epoch vector ∷ own) h = each_own site own h.1

pub find_same : {X : Type 0} (p q : X → Bool) (P : X → Type 0) → ((x : X) → P x → p x ≡ q x) → (xs : List X) → Each P xs → find p xs ≡ find q xs
find_same p q P same [] h = refl
find_same p q P same (x ∷ xs) h = λ i. cond (same x h.0 i) (Some x) (find_same p q P same xs h.1 i)

module _ (sites site : ℕ) (own : List Record) (past : List Past) (ranges : Each HasRanges own) (whole : ReachesFloor sites site own past) where
  -- the past has of the site the numbers from 1 on
  pub front : numbers_of site past ≡ range_with_len 1 (length (numbers_of site past))
  front = front_range (numbers_of site past) (numbers_of site (option_to_list (lacking site own past))) 1 (at (floor_of sites site own) site)
      (sym (numbers-append site past (option_to_list (lacking site own past))) ∙ whole site)

  -- so a commit is lacking exactly where its number is above these
  pub lacking_above : (last : ℕ) → last ≡ length (numbers_of site past) → lacking site own past ≡ find (is_numbered_above last) (commits_of site own)
  lacking_above last e =
      find_same (λ t. not (is_one_of past t)) (is_numbered_above last) (IsOwn site)
      (λ t o. one_of_range past t last (ap (λ (i : ℕ). numbers_of i past) o.origin ∙ front ∙ ap (λ (n : ℕ). range_with_len 1 n) (sym e)) o.counts)
      (commits_of site own) (each_own site own ranges)

  module _ (last : ℕ) (e : last ≡ length (numbers_of site past)) (t : Past) (found : Some t ≡ find (is_numbered_above last) (commits_of site own)) where
    pub own_found : IsOwn site t
    own_found = found_each (IsOwn site) (is_numbered_above last) (commits_of site own) t (sym found) (each_own site own ranges)

    pub rising : is_above past site t.seq ≡ true
    rising = above_range past site t.seq last (front ∙ ap (λ (n : ℕ). range_with_len 1 n) (sym e))
        (ltb-true last t.seq (found_holds (is_numbered_above last) (commits_of site own) t (sym found)))

    pub completed_by : completed site own past ≡ past ++ t ∷ []
    completed_by = ap (λ (o : Option Past). past ++ option_to_list o) (lacking_above last e ∙ sym found)

  pub completed_none : (last : ℕ) → last ≡ length (numbers_of site past) → None ≡ find (is_numbered_above last) (commits_of site own) → completed site own past ≡ past
  completed_none last e none = ap (λ (o : Option Past). past ++ option_to_list o) (lacking_above last e ∙ sym none) ∙ append-nil past
