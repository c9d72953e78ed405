-- The words of a step that fits a layout are words of a line, and are read as that step.
use Rattle.std.proofs.Common.{◌≡◌, ◌∙◌, refl, sym, ap, Bool, true, false, List, Ok, [], ◌∷◌, arith, ℕ, ◌+◌, ◌-◌, ◌^◌, length, nat_lt, subst}
use Rattle.std.specs.Prelude.{◌&&◌, ◌==◌, nat_le, codes}
use Rattle.std.specs.List.{list_all}
use Rattle.std.specs.Fmt.{decimal}
use Rattle.std.proofs.lemmas.Bool.{eqb-true, ltb-true, lt-ltb, le-leb}
use Rattle.dm_event.specs.Layout.{Layout, is_site, is_part, is_key, is_session}
use Rattle.dm_event.specs.declared.limits.TheConstants.{MAX_KEYS, MAX_OPS}
use Rattle.dm_event.specs.declared.step.Cause.{Cause}
use Rattle.dm_event.specs.declared.step.Cause.TheVariants.{Undeclared, Log, Damage, Memory}
use Rattle.dm_event.specs.declared.step.Choice.{Choice}
use Rattle.dm_event.specs.declared.step.Choice.TheVariants.{Master, Best, Reader, Hand}
use Rattle.dm_event.specs.declared.step.Found.{Found}
use Rattle.dm_event.specs.declared.step.Found.TheVariants.{Clean, Kept, Lost}
use Rattle.dm_event.specs.declared.step.Op.{Op}
use Rattle.dm_event.specs.declared.step.Pair.{Pair}
use Rattle.dm_event.specs.declared.step.Said.{Said}
use Rattle.dm_event.specs.declared.step.Said.TheVariants as saids
use Rattle.dm_event.specs.declared.step.Step.{Step}
use Rattle.dm_event.specs.declared.step.Step.TheVariants as steps
use Rattle.dm_event.specs.declared.step.TxnId.{TxnId}
use Rattle.dm_text.specs.Texts.{txn_text, pair_text, pairs_text}
use Rattle.dm_history.specs.Parts.{keys_text, op_text, ops_text, choice_text, found_text}
use Rattle.dm_fields.specs.Fields.{Words, word_at}
use Rattle.dm_kinds.specs.declared.act.Act.{Act}
use Rattle.dm_past.specs.Fits.{is_u64, is_op, is_pair, is_byte, txn_fits, vector_fits, ops_fit, pairs_fit, said_typed, step_fits}
use Rattle.dm_kinds.specs.Kinds as kinds
use Rattle.dm_kinds.specs.Kinds.{word_count}
use Rattle.dm_kinds.specs.Ranges.{fit_ops, fit_pairs, fit_keys, fits_cause, fits_said, op_key}
use Rattle.dm_kinds.specs.Values.{key_of, pair_of, op_of, list_of, choice_at, found_at}
use Rattle.dm_kinds.proofs.Chains.{and_true, and_from, all_weaker}
use Rattle.dm_past.proofs.Texts.{list_again, key_again, pair_again, op_again, byte_again, pair_typed, op_typed, is_u32}
use Rattle.dm_past.proofs.VectorWords.{vector_words, vector_again, first_after, length_after}
use Rattle.dm_past.proofs.Places.{count_again, fixed_again, u8_again, u16_again, u32_again, u64_again, txn_back, txn_session, session_small, site_small, part_small, key_small, Limits}
use Rattle.dm_past.proofs.StepWords.{act_words, step_words, said_words}
use Rattle.dm_past.proofs.Tells.{ops_same, pairs_same, keys_same}
use Rattle.dm_past.proofs.Inked.{IsWord, AreWords, no_words, word_then, words_then, decimal_word, txn_word, byte_word, found_word, list_word, key_items, key_begins, pair_items, pair_begins, op_items, op_begins, no_comma, vector_are_words}

pub record Back (layout : Layout) (step : Step) : Type 0 where
  pub words : AreWords (step_words step)
  pub read : kinds.step_of layout true (step_words step) ≡ Ok step

pub record ActBack (layout : Layout) (act : Act) : Type 0 where
  pub words : AreWords (act_words act.site act.pending)
  pub read : kinds.act_of layout true (act_words act.site act.pending) ≡ Ok act

found_again : (ws : Words) (n : ℕ) (found : Found) → word_at ws n ≡ found_text found → found_at ws n ≡ Ok found
unfolding found_at found_text
found_again ws n Clean e = rw e refl
found_again ws n Kept e = rw e refl
found_again ws n Lost e = rw e refl

pub choice_again : (ws : Words) (n : ℕ) (choice : Choice) → word_at ws n ≡ choice_text choice → choice_at ws n ≡ Ok choice
unfolding choice_at choice_text
choice_again ws n Master e = rw e refl
choice_again ws n Best e = rw e refl
choice_again ws n Reader e = rw e refl
choice_again ws n Hand e = rw e refl

all_both : {A : Type 0} (p q r : A → Bool) (xs : List A) → ((x : A) → p x ≡ true → q x ≡ true → r x ≡ true) → list_all p xs ≡ true → list_all q xs ≡ true → list_all r xs ≡ true
all_both p q r [] f h k = refl
all_both p q r (x ∷ xs) f h k =
    let a = and_true (p x) (list_all p xs) h in
    let b = and_true (q x) (list_all q xs) k in
    and_from (r x) (list_all r xs) (f x a.0 b.0) (all_both p q r xs f a.1 b.1)

module _ (layout : Layout) (limits : Limits layout) where
  pub site_word : (site : ℕ) → is_site layout site ≡ true → IsWord (decimal site)
  site_word site h = let le = site_small layout site limits h in decimal_word site (omega arith)

  pub part_word : (part : ℕ) → is_part layout part ≡ true → IsWord (decimal part)
  part_word part h = let le = part_small layout part limits h in decimal_word part (omega arith)

  pub u64_word : (n : ℕ) → is_u64 n ≡ true → IsWord (decimal n)
  u64_word n h = decimal_word n (ltb-true n (2 ^ 64) h)

  pub attempt_word : (txn : TxnId) → txn_fits txn ≡ true → IsWord (txn_text txn)
  unfolding txn_fits
  attempt_word txn h =
      let a = and_true (is_session txn.session) (nat_lt txn.number (2 ^ 32) && is_u64 txn.attempt) h in
      let b = and_true (nat_lt txn.number (2 ^ 32)) (is_u64 txn.attempt) a.1 in
      let s = session_small txn.session a.0 in
      let n = ltb-true txn.number (2 ^ 32) b.0 in
      let t = ltb-true txn.attempt (2 ^ 64) b.1 in
      txn_word txn (omega arith) (omega arith) (omega arith)

  -- ---- plain lines

  pub moved_back : (site : ℕ) (txn : TxnId) → step_fits layout (steps.Moved site txn) ≡ true → Back layout (steps.Moved site txn)
  unfolding step_fits kinds.step_of kinds.site_step_of kinds.moved_of word_at
  moved_back site txn h =
      let a = and_true (is_site layout site) (txn_fits txn) h in
      let ws : Words = step_words (steps.Moved site txn) in
      record {
        words = word_then (record { is = refl }) (word_then (site_word site a.0) (word_then (attempt_word txn a.1) no_words));
        read = rw (count_again ws 3 refl, u8_again ws 1 site refl (site_small layout site limits a.0), txn_back txn a.1, a.0, txn_session txn a.1) refl;
      }

  pub refresh_back : (site origin : ℕ) → step_fits layout (steps.Refresh site origin) ≡ true → Back layout (steps.Refresh site origin)
  unfolding step_fits kinds.step_of kinds.site_step_of kinds.refresh_of word_at
  refresh_back site origin h =
      let a = and_true (is_site layout site) (is_site layout origin) h in
      let ws : Words = step_words (steps.Refresh site origin) in
      record {
        words = word_then (record { is = refl }) (word_then (site_word site a.0) (word_then (site_word origin a.1) no_words));
        read = rw (count_again ws 3 refl, u8_again ws 1 site refl (site_small layout site limits a.0), u8_again ws 2 origin refl (site_small layout origin limits a.1), a.0, a.1) refl;
      }

  pub settle_back : (part epoch : ℕ) → step_fits layout (steps.Settle part epoch) ≡ true → Back layout (steps.Settle part epoch)
  unfolding step_fits kinds.step_of kinds.site_step_of kinds.settle_of word_at
  settle_back part epoch h =
      let a = and_true (is_part layout part) (is_u64 epoch) h in
      let ws : Words = step_words (steps.Settle part epoch) in
      record {
        words = word_then (record { is = refl }) (word_then (part_word part a.0) (word_then (u64_word epoch a.1) no_words));
        read = rw (count_again ws 3 refl, u16_again ws 1 part refl (part_small layout part limits a.0), u64_again ws 2 epoch refl a.1, a.0) refl;
      }

  pub ask_back : (part epoch to : ℕ) (txn : TxnId) → step_fits layout (steps.Ask part epoch to txn) ≡ true → Back layout (steps.Ask part epoch to txn)
  unfolding step_fits kinds.step_of kinds.site_step_of kinds.ask_of word_at
  ask_back part epoch to txn h =
      let a = and_true (is_part layout part) (is_u64 epoch && (is_site layout to && txn_fits txn)) h in
      let b = and_true (is_u64 epoch) (is_site layout to && txn_fits txn) a.1 in
      let c = and_true (is_site layout to) (txn_fits txn) b.1 in
      let ws : Words = step_words (steps.Ask part epoch to txn) in
      record {
        words = word_then (record { is = refl }) (word_then (part_word part a.0) (word_then (u64_word epoch b.0) (word_then (site_word to c.0) (word_then (attempt_word txn c.1) no_words))));
        read = rw (
          count_again ws 5 refl,
          u16_again ws 1 part refl (part_small layout part limits a.0),
          u64_again ws 2 epoch refl b.0,
          u8_again ws 3 to refl (site_small layout to limits c.0),
          txn_back txn c.1,
          a.0,
          c.0,
          txn_session txn c.1,
        ) refl;
      }

  -- ---- lines with a vector

  pub vector_typed : (v : List ℕ) → vector_fits layout v ≡ true → AreWords (vector_words v)
  unfolding vector_fits
  vector_typed v h = vector_are_words v (and_true (length v == layout.sites) (list_all is_u64 v) h).1

  pub begin_back : (site : ℕ) (txn : TxnId) (begin : List ℕ) → step_fits layout (steps.Begin site txn begin) ≡ true → Back layout (steps.Begin site txn begin)
  unfolding step_fits kinds.step_of kinds.site_step_of kinds.begin_of word_at
  begin_back site txn begin h =
      let a = and_true (is_site layout site) (txn_fits txn && vector_fits layout begin) h in
      let b = and_true (txn_fits txn) (vector_fits layout begin) a.1 in
      let front : Words = codes "begin" ∷ decimal site ∷ txn_text txn ∷ [] in
      let ws : Words = step_words (steps.Begin site txn begin) in
      let w = vector_again layout front begin [] limits.some_site b.1 in
      let long : length ws ≡ 3 + length (vector_words begin) = length_after front (vector_words begin) [] ∙ omega arith in
      record {
        words = word_then (record { is = refl }) (word_then (site_word site a.0) (word_then (attempt_word txn b.0) (words_then (vector_typed begin b.1) no_words)));
        read = rw (w.end, count_again ws (3 + length (vector_words begin)) long, u8_again ws 1 site refl (site_small layout site limits a.0), txn_back txn b.0, w.numbers, a.0, txn_session txn b.0) refl;
      }

  pub restart_back : (site : ℕ) (vector : List ℕ) (found : Found) → step_fits layout (steps.Restart site vector found) ≡ true → Back layout (steps.Restart site vector found)
  unfolding step_fits kinds.step_of kinds.site_step_of kinds.restart_of word_at
  restart_back site vector found h =
      let a = and_true (is_site layout site) (vector_fits layout vector) h in
      let front : Words = codes "restart" ∷ decimal site ∷ [] in
      let back : Words = found_text found ∷ [] in
      let ws : Words = step_words (steps.Restart site vector found) in
      let w = vector_again layout front vector back limits.some_site a.1 in
      let last = first_after front (vector_words vector) back in
      let long = length_after front (vector_words vector) back in
      record {
        words = word_then (record { is = refl }) (word_then (site_word site a.0) (words_then (vector_typed vector a.1) (word_then (found_word found) no_words)));
        read = rw (
          w.end,
          found_again ws (2 + length (vector_words vector)) found last,
          count_again ws ((2 + length (vector_words vector)) + 1) long,
          u8_again ws 1 site refl (site_small layout site limits a.0),
          w.numbers,
          a.0,
        ) refl;
      }

  -- ---- lists

  key_fits : (key : ℕ) → is_key layout key ≡ true → is_u32 key ≡ true
  key_fits key h = le-leb key (2 ^ 32 - 1) (key_small layout key limits h)

  ops_typed : (ops : List Op) → ops_fit layout ops ≡ true → list_all op_typed ops ≡ true
  unfolding ops_fit fit_ops
  ops_typed ops h =
      let a = and_true (nat_le (length ops) MAX_OPS && list_all (λ op. is_key layout (op_key op)) ops) (list_all is_op ops) h in
      let b = and_true (nat_le (length ops) MAX_OPS) (list_all (λ op. is_key layout (op_key op)) ops) a.0 in
      all_both (λ op. is_key layout (op_key op)) is_op op_typed ops (λ op k v. and_from (is_u32 (op_key op)) (is_op op) (key_fits (op_key op) k) v) b.1 a.1

  pairs_typed : (pairs : List Pair) → pairs_fit layout pairs ≡ true → list_all pair_typed pairs ≡ true
  unfolding pairs_fit fit_pairs
  pairs_typed pairs h =
      let a = and_true (list_all (λ pair. is_key layout pair.key) pairs) (list_all is_pair pairs) h in
      all_both (λ pair. is_key layout pair.key) is_pair pair_typed pairs (λ pair k v. and_from (is_u32 pair.key) (is_pair pair) (key_fits pair.key k) v) a.0 a.1

  keys_typed : (keys : List ℕ) → fit_keys layout keys ≡ true → list_all is_u32 keys ≡ true
  unfolding fit_keys
  keys_typed keys h = all_weaker (is_key layout) is_u32 keys key_fits (and_true (nat_le (length keys) MAX_KEYS) (list_all (is_key layout) keys) h).1

  pub ops_back : (ops : List Op) → ops_fit layout ops ≡ true → list_of op_of (ops_text ops) ≡ Ok ops
  ops_back ops h =
      ap (λ (t : List ℕ). list_of op_of t) (sym (ops_same ops))
      ∙ list_again op_of op_text op_typed op_again op_begins (λ op t. no_comma (op_text op) (op_items op t)) ops (ops_typed ops h)

  pub pairs_back : (pairs : List Pair) → pairs_fit layout pairs ≡ true → list_of pair_of (pairs_text pairs) ≡ Ok pairs
  pairs_back pairs h =
      ap (λ (t : List ℕ). list_of pair_of t) (sym (pairs_same pairs))
      ∙ list_again pair_of pair_text pair_typed pair_again pair_begins (λ pair t. no_comma (pair_text pair) (pair_items pair t)) pairs (pairs_typed pairs h)

  pub keys_back : (keys : List ℕ) → fit_keys layout keys ≡ true → list_of key_of (keys_text keys) ≡ Ok keys
  keys_back keys h =
      ap (λ (t : List ℕ). list_of key_of t) (sym (keys_same keys))
      ∙ list_again key_of decimal is_u32 key_again key_begins (λ key t. no_comma (decimal key) (key_items key t)) keys (keys_typed keys h)

  pub ops_word : (ops : List Op) → ops_fit layout ops ≡ true → IsWord (ops_text ops)
  ops_word ops h = subst IsWord (ops_same ops) (list_word op_text op_typed op_items op_begins ops (ops_typed ops h))

  pub pairs_word : (pairs : List Pair) → pairs_fit layout pairs ≡ true → IsWord (pairs_text pairs)
  pairs_word pairs h = subst IsWord (pairs_same pairs) (list_word pair_text pair_typed pair_items pair_begins pairs (pairs_typed pairs h))

  pub keys_word : (keys : List ℕ) → fit_keys layout keys ≡ true → IsWord (keys_text keys)
  keys_word keys h = subst IsWord (keys_same keys) (list_word decimal is_u32 key_items key_begins keys (keys_typed keys h))

  pub ops_range : (ops : List Op) → ops_fit layout ops ≡ true → fit_ops layout ops ≡ true
  unfolding ops_fit
  ops_range ops h = (and_true (fit_ops layout ops) (list_all is_op ops) h).0

  pub pairs_range : (pairs : List Pair) → pairs_fit layout pairs ≡ true → fit_pairs layout pairs ≡ true
  unfolding pairs_fit
  pairs_range pairs h = (and_true (fit_pairs layout pairs) (list_all is_pair pairs) h).0

  pub end_back : (site : ℕ) (txn : TxnId) (ops : List Op) (reads : List Pair) → step_fits layout (steps.End site txn ops reads) ≡ true → Back layout (steps.End site txn ops reads)
  unfolding step_fits kinds.step_of kinds.site_step_of kinds.end_of word_at
  end_back site txn ops reads h =
      let a = and_true (is_site layout site) (txn_fits txn && (ops_fit layout ops && pairs_fit layout reads)) h in
      let b = and_true (txn_fits txn) (ops_fit layout ops && pairs_fit layout reads) a.1 in
      let c = and_true (ops_fit layout ops) (pairs_fit layout reads) b.1 in
      let ws : Words = step_words (steps.End site txn ops reads) in
      record {
        words = word_then (record { is = refl }) (word_then (site_word site a.0) (word_then (attempt_word txn b.0) (word_then (record { is = refl })
            (word_then (ops_word ops c.0) (word_then (record { is = refl }) (word_then (pairs_word reads c.1) no_words))))));
        read = rw (
          fixed_again ws 3 (codes "ops") refl,
          fixed_again ws 5 (codes "reads") refl,
          count_again ws 7 refl,
          u8_again ws 1 site refl (site_small layout site limits a.0),
          txn_back txn b.0,
          ops_back ops c.0,
          pairs_back reads c.1,
          a.0,
          txn_session txn b.0,
          ops_range ops c.0,
          pairs_range reads c.1,
        ) refl;
      }

  -- ---- causes and outcomes

  pub fail_back : (site : ℕ) (txn : TxnId) (cause : Cause) → step_fits layout (steps.Fail site txn cause) ≡ true → Back layout (steps.Fail site txn cause)
  unfolding step_fits kinds.step_of kinds.site_step_of kinds.fail_of kinds.cause_of kinds.own_log_of kinds.memory_of kinds.own_damage_of kinds.damage_at word_at
  fail_back site txn (Undeclared key) h =
      let a = and_true (is_site layout site) (txn_fits txn && (false && true)) h in
      let b = and_true (txn_fits txn) (false && true) a.1 in absurd cc
  fail_back site txn (Log log) h =
      let a = and_true (is_site layout site) (txn_fits txn && ((log == site) && true)) h in
      let b = and_true (txn_fits txn) ((log == site) && true) a.1 in
      let c = and_true (log == site) true b.1 in
      let ws : Words = step_words (steps.Fail site txn (Log log)) in
      record {
        words = word_then (record { is = refl }) (word_then (site_word site a.0) (word_then (attempt_word txn b.0) (word_then (record { is = refl }) no_words)));
        read = rw (count_again ws 4 refl, u8_again ws 1 site refl (site_small layout site limits a.0), txn_back txn b.0, a.0, txn_session txn b.0)
            (ap (λ (s : ℕ). Ok (steps.Fail site txn (Log s))) (sym (eqb-true log site c.0)));
      }
  fail_back site txn (Damage log place read written) h =
      let a = and_true (is_site layout site) (txn_fits txn && ((log == site) && (is_u64 place && (is_byte read && is_byte written)))) h in
      let b = and_true (txn_fits txn) ((log == site) && (is_u64 place && (is_byte read && is_byte written))) a.1 in
      let c = and_true (log == site) (is_u64 place && (is_byte read && is_byte written)) b.1 in
      let d = and_true (is_u64 place) (is_byte read && is_byte written) c.1 in
      let f = and_true (is_byte read) (is_byte written) d.1 in
      let ws : Words = step_words (steps.Fail site txn (Damage log place read written)) in
      record {
        words = word_then (record { is = refl }) (word_then (site_word site a.0) (word_then (attempt_word txn b.0) (word_then (record { is = refl })
            (word_then (u64_word place d.0) (word_then (byte_word read f.0) (word_then (byte_word written f.1) no_words))))));
        read = rw (
          count_again ws 7 refl,
          u8_again ws 1 site refl (site_small layout site limits a.0),
          u64_again ws 4 place refl d.0,
          byte_again read f.0,
          byte_again written f.1,
          txn_back txn b.0,
          a.0,
          txn_session txn b.0,
        ) (ap (λ (s : ℕ). Ok (steps.Fail site txn (Damage s place read written))) (sym (eqb-true log site c.0)));
      }
  fail_back site txn Memory h =
      let a = and_true (is_site layout site) (txn_fits txn && (true && true)) h in
      let b = and_true (txn_fits txn) (true && true) a.1 in
      let ws : Words = step_words (steps.Fail site txn Memory) in
      record {
        words = word_then (record { is = refl }) (word_then (site_word site a.0) (word_then (attempt_word txn b.0) (word_then (record { is = refl }) no_words)));
        read = rw (count_again ws 4 refl, u8_again ws 1 site refl (site_small layout site limits a.0), txn_back txn b.0, a.0, txn_session txn b.0) refl;
      }

  -- what a Reply has beside its outcome
  record Answered (session number : ℕ) (said : Said) : Type 0 where
    session_fits : is_session session ≡ true
    session_typed : nat_lt session (2 ^ 32) ≡ true
    number_typed : nat_lt number (2 ^ 32) ≡ true
    session_word : IsWord (decimal session)
    number_word : IsWord (decimal number)
    fits : fits_said layout said ≡ true
    typed : said_typed said ≡ true

  answered : (session number : ℕ) (said : Said) → (is_session session && (nat_lt number (2 ^ 32) && (fits_said layout said && said_typed said))) ≡ true → Answered session number said
  answered session number said h =
      let a = and_true (is_session session) (nat_lt number (2 ^ 32) && (fits_said layout said && said_typed said)) h in
      let b = and_true (nat_lt number (2 ^ 32)) (fits_said layout said && said_typed said) a.1 in
      let c = and_true (fits_said layout said) (said_typed said) b.1 in
      let few = session_small session a.0 in
      let lt = ltb-true number (2 ^ 32) b.0 in
      record {
        session_fits = a.0;
        session_typed = lt-ltb session (2 ^ 32) (omega arith);
        number_typed = b.0;
        session_word = decimal_word session (omega arith);
        number_word = decimal_word number (omega arith);
        fits = c.0;
        typed = c.1;
      }

  reply_words : (session number : ℕ) (said : Said) → Answered session number said → AreWords (said_words said) → AreWords (step_words (steps.Reply session number said))
  reply_words session number said a h = word_then (record { is = refl }) (word_then a.session_word (word_then a.number_word (words_then h no_words)))

  refused_back : (session number : ℕ) (cause : Cause) → step_fits layout (steps.Reply session number (saids.Refused cause)) ≡ true → Back layout (steps.Reply session number (saids.Refused cause))
  unfolding step_fits fits_said fits_cause kinds.step_of kinds.site_step_of kinds.reply_of kinds.said_of kinds.refusal_of kinds.undeclared_of kinds.log_of kinds.damage_of kinds.memory_of kinds.damage_at word_at
  refused_back session number (Undeclared key) h =
      let a = answered session number (saids.Refused (Undeclared key)) h in
      let k = key_fits key a.fits in
      let le = key_small layout key limits a.fits in
      let ws : Words = step_words (steps.Reply session number (saids.Refused (Undeclared key))) in
      record {
        words = reply_words session number (saids.Refused (Undeclared key)) a (word_then (record { is = refl }) (word_then (record { is = refl }) (word_then (decimal_word key (omega arith)) no_words)));
        read = rw (count_again ws 6 refl, key_again key k, u32_again ws 1 session refl a.session_typed, u32_again ws 2 number refl a.number_typed, a.session_fits, a.fits) refl;
      }
  refused_back session number (Log site) h =
      let a = answered session number (saids.Refused (Log site)) h in
      let ws : Words = step_words (steps.Reply session number (saids.Refused (Log site))) in
      record {
        words = reply_words session number (saids.Refused (Log site)) a (word_then (record { is = refl }) (word_then (record { is = refl }) (word_then (site_word site a.fits) no_words)));
        read = rw (count_again ws 6 refl, u8_again ws 5 site refl (site_small layout site limits a.fits), u32_again ws 1 session refl a.session_typed, u32_again ws 2 number refl a.number_typed, a.session_fits, a.fits) refl;
      }
  refused_back session number (Damage site place read written) h =
      let a = answered session number (saids.Refused (Damage site place read written)) h in
      let d = and_true (is_u64 place) (is_byte read && is_byte written) a.typed in
      let f = and_true (is_byte read) (is_byte written) d.1 in
      let ws : Words = step_words (steps.Reply session number (saids.Refused (Damage site place read written))) in
      record {
        words = reply_words session number (saids.Refused (Damage site place read written)) a (word_then (record { is = refl }) (word_then (record { is = refl })
            (word_then (site_word site a.fits) (word_then (u64_word place d.0) (word_then (byte_word read f.0) (word_then (byte_word written f.1) no_words))))));
        read = rw (
          count_again ws 9 refl,
          u8_again ws 5 site refl (site_small layout site limits a.fits),
          u64_again ws 6 place refl d.0,
          byte_again read f.0,
          byte_again written f.1,
          u32_again ws 1 session refl a.session_typed,
          u32_again ws 2 number refl a.number_typed,
          a.session_fits,
          a.fits,
        ) refl;
      }
  refused_back session number Memory h =
      let a = answered session number (saids.Refused Memory) h in
      let ws : Words = step_words (steps.Reply session number (saids.Refused Memory)) in
      record {
        words = reply_words session number (saids.Refused Memory) a (word_then (record { is = refl }) (word_then (record { is = refl }) no_words));
        read = rw (count_again ws 5 refl, u32_again ws 1 session refl a.session_typed, u32_again ws 2 number refl a.number_typed, a.session_fits) refl;
      }

  pub reply_back : (session number : ℕ) (said : Said) → step_fits layout (steps.Reply session number said) ≡ true → Back layout (steps.Reply session number said)
  unfolding step_fits fits_said kinds.step_of kinds.site_step_of kinds.reply_of kinds.said_of kinds.committed_of kinds.said_site kinds.settled_of word_at
  reply_back session number (saids.Committed site seq) h =
      let a = answered session number (saids.Committed site seq) h in
      let ws : Words = step_words (steps.Reply session number (saids.Committed site seq)) in
      record {
        words = reply_words session number (saids.Committed site seq) a (word_then (record { is = refl }) (word_then (site_word site a.fits) (word_then (u64_word seq a.typed) no_words)));
        read = rw (
          count_again ws 6 refl,
          u8_again ws 4 site refl (site_small layout site limits a.fits),
          u64_again ws 5 seq refl a.typed,
          u32_again ws 1 session refl a.session_typed,
          u32_again ws 2 number refl a.number_typed,
          a.session_fits,
          a.fits,
        ) refl;
      }
  reply_back session number (saids.Read site) h =
      let a = answered session number (saids.Read site) h in
      let ws : Words = step_words (steps.Reply session number (saids.Read site)) in
      record {
        words = reply_words session number (saids.Read site) a (word_then (record { is = refl }) (word_then (site_word site a.fits) no_words));
        read = rw (count_again ws 5 refl, u8_again ws 4 site refl (site_small layout site limits a.fits), u32_again ws 1 session refl a.session_typed, u32_again ws 2 number refl a.number_typed, a.session_fits, a.fits) refl;
      }
  reply_back session number (saids.InDoubt site) h =
      let a = answered session number (saids.InDoubt site) h in
      let ws : Words = step_words (steps.Reply session number (saids.InDoubt site)) in
      record {
        words = reply_words session number (saids.InDoubt site) a (word_then (record { is = refl }) (word_then (site_word site a.fits) no_words));
        read = rw (count_again ws 5 refl, u8_again ws 4 site refl (site_small layout site limits a.fits), u32_again ws 1 session refl a.session_typed, u32_again ws 2 number refl a.number_typed, a.session_fits, a.fits) refl;
      }
  reply_back session number (saids.Placed part site epoch) h =
      let a = answered session number (saids.Placed part site epoch) h in
      let b = and_true (is_part layout part) (is_site layout site) a.fits in
      let ws : Words = step_words (steps.Reply session number (saids.Placed part site epoch)) in
      record {
        words = reply_words session number (saids.Placed part site epoch) a (word_then (record { is = refl }) (word_then (part_word part b.0) (word_then (site_word site b.1) (word_then (u64_word epoch a.typed) no_words))));
        read = rw (
          count_again ws 7 refl,
          u16_again ws 4 part refl (part_small layout part limits b.0),
          u8_again ws 5 site refl (site_small layout site limits b.1),
          u64_again ws 6 epoch refl a.typed,
          u32_again ws 1 session refl a.session_typed,
          u32_again ws 2 number refl a.number_typed,
          a.session_fits,
          b.0,
          b.1,
        ) refl;
      }
  reply_back session number (saids.Restarted site) h =
      let a = answered session number (saids.Restarted site) h in
      let ws : Words = step_words (steps.Reply session number (saids.Restarted site)) in
      record {
        words = reply_words session number (saids.Restarted site) a (word_then (record { is = refl }) (word_then (site_word site a.fits) no_words));
        read = rw (count_again ws 5 refl, u8_again ws 4 site refl (site_small layout site limits a.fits), u32_again ws 1 session refl a.session_typed, u32_again ws 2 number refl a.number_typed, a.session_fits, a.fits) refl;
      }
  reply_back session number (saids.Refused cause) h = refused_back session number cause h
