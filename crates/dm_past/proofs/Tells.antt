-- What is read of a line has that line, and has its ranges.
use Rattle.std.proofs.Common.{◌≡◌, ◌∙◌, refl, sym, ap, Bool, true, List, Ok, Option, ◌++◌, [], ◌∷◌, arith, ℕ, suc, ◌+◌, ◌^◌, ◌≤◌, length, drop, nat_lt, append-nil, subst}
use Rattle.std.specs.Prelude.{◌&&◌, ◌==◌, codes}
use Rattle.std.specs.List.{list_all}
use Rattle.std.specs.Fmt.{decimal}
use Rattle.std.proofs.lemmas.Bool.{eq-eqb}
use Rattle.dm_event.specs.Layout.{Layout, is_site, is_part, is_session}
use Rattle.dm_event.specs.declared.step.Cause.{Cause}
use Rattle.dm_event.specs.declared.step.Cause.TheVariants.{Undeclared, Log, Damage, Memory}
use Rattle.dm_event.specs.declared.step.Found.{Found}
use Rattle.dm_event.specs.declared.step.Found.TheVariants.{Clean, Kept, Lost}
use Rattle.dm_event.specs.declared.step.Op.{Op}
use Rattle.dm_event.specs.declared.step.Pair.{Pair}
use Rattle.dm_event.specs.declared.step.Said.{Said}
use Rattle.dm_event.specs.declared.step.Said.TheVariants as saids
use Rattle.dm_event.specs.declared.step.Step.{Step}
use Rattle.dm_event.specs.declared.step.Step.TheVariants as steps
use Rattle.dm_event.specs.declared.why.LineFault.TheVariants.{Range}
use Rattle.dm_text.specs.Texts.{txn_text, pair_text, pairs_text}
use Rattle.dm_history.specs.Parts.{keys_text, op_text, ops_text, found_text, byte_text}
use Rattle.dm_fields.specs.Fields.{Words, made, word_at, unknown_at, u8_at}
use Rattle.dm_past.specs.Fits.{is_u64, is_op, is_pair, is_byte, txn_fits, vector_fits, ops_fit, pairs_fit, cause_typed, said_typed, is_own, step_fits}
use Rattle.dm_kinds.specs.Kinds as kinds
use Rattle.dm_kinds.specs.Kinds.{word_count, moved_of, refresh_of, settle_of, ask_of, begin_of, end_of, fail_of, restart_of}
use Rattle.dm_kinds.specs.Ranges.{fit_ops, fit_pairs, fits_said}
use Rattle.dm_kinds.specs.Values.{pair_of, op_of, list_of, vector_end, found_at}
use Rattle.dm_kinds.proofs.Chains.{by_bind, made_ok, check_ok, same_ok, no_ok, and_true, and_from, told_by, all_weaker}
use Rattle.dm_past.proofs.Texts.{list_text, list_is, key_is, pair_is, op_is, byte_is, txn_is, pair_typed, op_typed, is_u32}
use Rattle.dm_past.proofs.VectorWords.{vector_words, vector_is, vector_end_from}
use Rattle.dm_past.proofs.Places.{AreAt, are_front, are_all, are_back, no_back, count_is, fixed_is, u8_is, u16_is, u32_is, u64_is, txn_fitting}
use Rattle.dm_past.proofs.StepWords.{step_words, cause_words, refusal_words, said_words}

pub record Tells (layout : Layout) (neat : Bool) (ws : Words) (step : Step) : Type 0 where
  pub neat_line : neat ≡ true
  pub words : ws ≡ step_words step
  pub fits : step_fits layout step ≡ true

-- ---- plain lines

pub moved_is : (layout : Layout) (neat : Bool) (ws : Words) (step : Step) → word_at ws 0 ≡ codes "moved" → moved_of layout neat ws ≡ Ok step → Tells layout neat ws step
unfolding moved_of step_fits
moved_is layout neat ws step kind e =
    by_bind _ _ step e (λ u count e1.
    by_bind _ _ step e1 (λ site site_is e2.
    by_bind _ _ step e2 (λ txn txn_read e3.
    by_bind _ _ step e3 (λ v range e4.
    let c = count_is neat ws 3 u count in
    let t = txn_is (word_at ws 2) txn txn_read in
    let r = and_true (is_site layout site) (is_session txn.session) (check_ok Range _ v range) in
    subst (Tells layout neat ws) (same_ok (steps.Moved site txn) step e4) (record {
      neat_line = c.1;
      words = are_all ws (step_words (steps.Moved site txn)) c.0 (kind, (u8_is ws 1 site site_is, (t.text, tt)));
      fits = and_from (is_site layout site) (txn_fits txn) r.0 (txn_fitting (word_at ws 2) txn t r.1);
    })))))

pub refresh_is : (layout : Layout) (neat : Bool) (ws : Words) (step : Step) → word_at ws 0 ≡ codes "refresh" → refresh_of layout neat ws ≡ Ok step → Tells layout neat ws step
unfolding refresh_of step_fits
refresh_is layout neat ws step kind e =
    by_bind _ _ step e (λ u count e1.
    by_bind _ _ step e1 (λ site site_is e2.
    by_bind _ _ step e2 (λ origin origin_is e3.
    by_bind _ _ step e3 (λ v range e4.
    let c = count_is neat ws 3 u count in
    subst (Tells layout neat ws) (same_ok (steps.Refresh site origin) step e4) (record {
      neat_line = c.1;
      words = are_all ws (step_words (steps.Refresh site origin)) c.0 (kind, (u8_is ws 1 site site_is, (u8_is ws 2 origin origin_is, tt)));
      fits = check_ok Range (is_site layout site && is_site layout origin) v range;
    })))))

pub settle_is : (layout : Layout) (neat : Bool) (ws : Words) (step : Step) → word_at ws 0 ≡ codes "settle" → settle_of layout neat ws ≡ Ok step → Tells layout neat ws step
unfolding settle_of step_fits
settle_is layout neat ws step kind e =
    by_bind _ _ step e (λ u count e1.
    by_bind _ _ step e1 (λ part part_is e2.
    by_bind _ _ step e2 (λ epoch epoch_is e3.
    by_bind _ _ step e3 (λ v range e4.
    let c = count_is neat ws 3 u count in
    let w2 = u64_is ws 2 epoch epoch_is in
    subst (Tells layout neat ws) (same_ok (steps.Settle part epoch) step e4) (record {
      neat_line = c.1;
      words = are_all ws (step_words (steps.Settle part epoch)) c.0 (kind, (u16_is ws 1 part part_is, (w2.0, tt)));
      fits = and_from (is_part layout part) (is_u64 epoch) (check_ok Range (is_part layout part) v range) w2.1;
    })))))

pub ask_is : (layout : Layout) (neat : Bool) (ws : Words) (step : Step) → word_at ws 0 ≡ codes "ask" → ask_of layout neat ws ≡ Ok step → Tells layout neat ws step
unfolding ask_of step_fits
ask_is layout neat ws step kind e =
    by_bind _ _ step e (λ u count e1.
    by_bind _ _ step e1 (λ part part_is e2.
    by_bind _ _ step e2 (λ epoch epoch_is e3.
    by_bind _ _ step e3 (λ to to_is e4.
    by_bind _ _ step e4 (λ txn txn_read e5.
    by_bind _ _ step e5 (λ v range e6.
    let c = count_is neat ws 5 u count in
    let w2 = u64_is ws 2 epoch epoch_is in
    let t = txn_is (word_at ws 4) txn txn_read in
    let r = and_true (is_part layout part) (is_site layout to && is_session txn.session) (check_ok Range _ v range) in
    let s = and_true (is_site layout to) (is_session txn.session) r.1 in
    subst (Tells layout neat ws) (same_ok (steps.Ask part epoch to txn) step e6) (record {
      neat_line = c.1;
      words = are_all ws (step_words (steps.Ask part epoch to txn)) c.0 (kind, (u16_is ws 1 part part_is, (w2.0, (u8_is ws 3 to to_is, (t.text, tt)))));
      fits = and_from (is_part layout part) (is_u64 epoch && (is_site layout to && txn_fits txn)) r.0 (and_from (is_u64 epoch) (is_site layout to && txn_fits txn) w2.1
          (and_from (is_site layout to) (txn_fits txn) s.0 (txn_fitting (word_at ws 4) txn t s.1)));
    })))))))

-- ---- lines with a vector

-- the words in front of a vector, the vector, and the words behind it
pub around : (ws front back vector : Words) (m : ℕ) → length front ≤ length ws → AreAt ws 0 front → drop (length front) ws ≡ vector ++ drop m ws → drop m ws ≡ back
    → ws ≡ front ++ (vector ++ back)
around ws front back vector m le h e f = are_front ws front le h ∙ ap (λ (r : Words). front ++ r) (e ∙ ap (λ (r : Words). vector ++ r) f)

pub begin_is : (layout : Layout) (neat : Bool) (ws : Words) (step : Step) → word_at ws 0 ≡ codes "begin" → begin_of layout neat ws ≡ Ok step → Tells layout neat ws step
unfolding begin_of step_fits
begin_is layout neat ws step kind e =
    by_bind _ _ step e (λ u count e1.
    by_bind _ _ step e1 (λ site site_is e2.
    by_bind _ _ step e2 (λ txn txn_read e3.
    by_bind _ _ step e3 (λ begin begin_read e4.
    by_bind _ _ step e4 (λ w range e5.
    by_bind _ _ step e5 (λ vector sized e6.
    let c = count_is neat ws (vector_end ws 3) u count in
    let long = vector_end_from ws 3 in
    let t = txn_is (word_at ws 2) txn txn_read in
    let v = vector_is layout ws 3 begin vector begin_read sized in
    let r = and_true (is_site layout site) (is_session txn.session) (check_ok Range _ w range) in
    subst (Tells layout neat ws) (same_ok (steps.Begin site txn vector) step e6) (record {
      neat_line = c.1;
      words = around ws (codes "begin" ∷ decimal site ∷ txn_text txn ∷ []) [] (vector_words vector) (vector_end ws 3) (omega (arith, c.0, long))
          (kind, (u8_is ws 1 site site_is, (t.text, tt))) v.words (no_back ws (vector_end ws 3) c.0);
      fits = and_from (is_site layout site) (txn_fits txn && vector_fits layout vector) r.0
          (and_from (txn_fits txn) (vector_fits layout vector) (txn_fitting (word_at ws 2) txn t r.1) v.fits);
    })))))))

found_is : (ws : Words) (n : ℕ) (found : Found) → found_at ws n ≡ Ok found → word_at ws n ≡ found_text found
unfolding found_at found_text
found_is ws n found e =
    told_by (word_at ws n) (codes "clean") _ _ found e (λ w f. subst (λ (c : Found). word_at ws n ≡ found_text c) (same_ok Clean found f) w) (λ e1.
    told_by (word_at ws n) (codes "kept") _ _ found e1 (λ w f. subst (λ (c : Found). word_at ws n ≡ found_text c) (same_ok Kept found f) w) (λ e2.
    told_by (word_at ws n) (codes "lost") _ _ found e2 (λ w f. subst (λ (c : Found). word_at ws n ≡ found_text c) (same_ok Lost found f) w) (λ e3.
    no_ok (unknown_at ws n) found e3)))

pub restart_is : (layout : Layout) (neat : Bool) (ws : Words) (step : Step) → word_at ws 0 ≡ codes "restart" → restart_of layout neat ws ≡ Ok step → Tells layout neat ws step
unfolding restart_of step_fits
restart_is layout neat ws step kind e =
    by_bind _ _ step e (λ found found_read e1.
    by_bind _ _ step e1 (λ u count e2.
    by_bind _ _ step e2 (λ site site_is e3.
    by_bind _ _ step e3 (λ numbers read e4.
    by_bind _ _ step e4 (λ w range e5.
    by_bind _ _ step e5 (λ vector sized e6.
    let c = count_is neat ws (vector_end ws 2 + 1) u count in
    let long = vector_end_from ws 2 in
    let v = vector_is layout ws 2 numbers vector read sized in
    subst (Tells layout neat ws) (same_ok (steps.Restart site vector found) step e6) (record {
      neat_line = c.1;
      words = around ws (codes "restart" ∷ decimal site ∷ []) (found_text found ∷ []) (vector_words vector) (vector_end ws 2) (omega (arith, c.0, long))
          (kind, (u8_is ws 1 site site_is, tt)) v.words (are_back ws (vector_end ws 2) (found_text found) [] c.0 (found_is ws (vector_end ws 2) found found_read) tt);
      fits = and_from (is_site layout site) (vector_fits layout vector) (check_ok Range (is_site layout site) w range) v.fits;
    })))))))

-- ---- lists

pub ops_same : (ops : List Op) → list_text op_text ops ≡ ops_text ops
unfolding ops_text
ops_same [] = refl
ops_same (op ∷ ops) = refl

pub pairs_same : (pairs : List Pair) → list_text pair_text pairs ≡ pairs_text pairs
unfolding pairs_text
pairs_same [] = refl
pairs_same (pair ∷ pairs) = refl

pub keys_same : (keys : List ℕ) → list_text decimal keys ≡ keys_text keys
unfolding keys_text
keys_same [] = refl
keys_same (key ∷ keys) = refl

op_values : (op : Op) → op_typed op ≡ true → is_op op ≡ true
op_values op h = (and_true (is_u32 _) (is_op op) h).1

pair_values : (pair : Pair) → pair_typed pair ≡ true → is_pair pair ≡ true
pair_values pair h = (and_true (is_u32 pair.key) (is_pair pair) h).1

pub ops_is : (layout : Layout) (word : List ℕ) (ops : List Op) → list_of op_of word ≡ Ok ops → fit_ops layout ops ≡ true → (word ≡ ops_text ops) × (ops_fit layout ops ≡ true)
unfolding ops_fit
ops_is layout word ops e fit =
    let h = list_is op_of op_text op_typed op_is word ops e in
    (h.0 ∙ ops_same ops, and_from (fit_ops layout ops) (list_all is_op ops) fit (all_weaker op_typed is_op ops op_values h.1))

pub pairs_is : (layout : Layout) (word : List ℕ) (pairs : List Pair) → list_of pair_of word ≡ Ok pairs → fit_pairs layout pairs ≡ true
    → (word ≡ pairs_text pairs) × (pairs_fit layout pairs ≡ true)
unfolding pairs_fit
pairs_is layout word pairs e fit =
    let h = list_is pair_of pair_text pair_typed pair_is word pairs e in
    (h.0 ∙ pairs_same pairs, and_from (fit_pairs layout pairs) (list_all is_pair pairs) fit (all_weaker pair_typed is_pair pairs pair_values h.1))

pub end_is : (layout : Layout) (neat : Bool) (ws : Words) (step : Step) → word_at ws 0 ≡ codes "end" → end_of layout neat ws ≡ Ok step → Tells layout neat ws step
unfolding end_of step_fits
end_is layout neat ws step kind e =
    by_bind _ _ step e (λ f3 fixed3 e1.
    by_bind _ _ step e1 (λ f5 fixed5 e2.
    by_bind _ _ step e2 (λ u count e3.
    by_bind _ _ step e3 (λ site site_is e4.
    by_bind _ _ step e4 (λ txn txn_read e5.
    by_bind _ _ step e5 (λ ops ops_read e6.
    by_bind _ _ step e6 (λ reads reads_read e7.
    by_bind _ _ step e7 (λ w range e8.
    let c = count_is neat ws 7 u count in
    let t = txn_is (word_at ws 2) txn txn_read in
    let r = and_true (is_site layout site) (is_session txn.session && (fit_ops layout ops && fit_pairs layout reads)) (check_ok Range _ w range) in
    let s = and_true (is_session txn.session) (fit_ops layout ops && fit_pairs layout reads) r.1 in
    let q = and_true (fit_ops layout ops) (fit_pairs layout reads) s.1 in
    let o = ops_is layout (word_at ws 4) ops ops_read q.0 in
    let p = pairs_is layout (word_at ws 6) reads reads_read q.1 in
    let w3 = fixed_is ws 3 (codes "ops") f3 fixed3 (omega (arith, c.0)) in
    let w5 = fixed_is ws 5 (codes "reads") f5 fixed5 (omega (arith, c.0)) in
    subst (Tells layout neat ws) (same_ok (steps.End site txn ops reads) step e8) (record {
      neat_line = c.1;
      words = are_all ws (step_words (steps.End site txn ops reads)) c.0 (kind, (u8_is ws 1 site site_is, (t.text, (w3, (o.0, (w5, (p.0, tt)))))));
      fits = and_from (is_site layout site) (txn_fits txn && (ops_fit layout ops && pairs_fit layout reads)) r.0
          (and_from (txn_fits txn) (ops_fit layout ops && pairs_fit layout reads) (txn_fitting (word_at ws 2) txn t s.0) (and_from (ops_fit layout ops) (pairs_fit layout reads) o.1 p.1));
    })))))))))

-- ---- causes

record DamageRead (ws : Words) (site n : ℕ) (cause : Cause) : Type 0 where
  place : ℕ
  read : Option ℕ
  written : Option ℕ
  is : Damage site place read written ≡ cause
  first : word_at ws n ≡ decimal place
  second : word_at ws (n + 1) ≡ byte_text read
  third : word_at ws (n + 2) ≡ byte_text written
  typed : (is_u64 place && (is_byte read && is_byte written)) ≡ true

damage_is : (ws : Words) (site n : ℕ) (cause : Cause) → kinds.damage_at ws site n ≡ Ok cause → DamageRead ws site n cause
unfolding kinds.damage_at
damage_is ws site n cause e =
    by_bind _ _ cause e (λ place place_is e1.
    by_bind _ _ cause e1 (λ read read_is e2.
    by_bind _ _ cause e2 (λ written written_is e3.
    let p = u64_is ws n place place_is in
    let r = byte_is (word_at ws (n + 1)) read read_is in
    let w = byte_is (word_at ws (n + 2)) written written_is in
    record {
      place = place;
      read = read;
      written = written;
      is = same_ok (Damage site place read written) cause e3;
      first = p.0;
      second = r.0;
      third = w.0;
      typed = and_from (is_u64 place) (is_byte read && is_byte written) p.1 (and_from (is_byte read) (is_byte written) r.1 w.1);
    })))

-- the cause of a Fail, from the fourth word on
record OwnCause (neat : Bool) (ws : Words) (cause : Cause) : Type 0 where
  neat_line : neat ≡ true
  count : length ws ≡ suc (suc (suc (length (cause_words cause))))
  words : AreAt ws 3 (cause_words cause)
  typed : cause_typed cause ≡ true
  own : (site : ℕ) → u8_at ws 1 ≡ Ok site → is_own site cause ≡ true

same_site : (ws : Words) (a b : ℕ) → u8_at ws 1 ≡ Ok a → u8_at ws 1 ≡ Ok b → (a == b) ≡ true
same_site ws a b e f = eq-eqb a b (same_ok a b (sym e ∙ f))

own_log_is : (neat : Bool) (ws : Words) (cause : Cause) → word_at ws 3 ≡ codes "log" → kinds.own_log_of neat ws ≡ Ok cause → OwnCause neat ws cause
unfolding kinds.own_log_of
own_log_is neat ws cause w3 e =
    by_bind _ _ cause e (λ u count e1.
    by_bind _ _ cause e1 (λ site site_is e2.
    let c = count_is neat ws 4 u count in
    subst (OwnCause neat ws) (same_ok (Log site) cause e2) (record { neat_line = c.1; count = c.0; words = (w3, tt); typed = refl; own = λ other other_is. same_site ws site other site_is other_is })))

own_memory_is : (neat : Bool) (ws : Words) (cause : Cause) → word_at ws 3 ≡ codes "memory" → kinds.memory_of neat ws 4 ≡ Ok cause → OwnCause neat ws cause
unfolding kinds.memory_of
own_memory_is neat ws cause w3 e =
    by_bind _ _ cause e (λ u count e1.
    let c = count_is neat ws 4 u count in
    subst (OwnCause neat ws) (same_ok Memory cause e1) (record { neat_line = c.1; count = c.0; words = (w3, tt); typed = refl; own = λ other other_is. refl }))

own_damage_is : (neat : Bool) (ws : Words) (cause : Cause) → word_at ws 3 ≡ codes "damage" → kinds.own_damage_of neat ws ≡ Ok cause → OwnCause neat ws cause
unfolding kinds.own_damage_of
own_damage_is neat ws cause w3 e =
    by_bind _ _ cause e (λ u count e1.
    by_bind _ _ cause e1 (λ site site_is e2.
    let c = count_is neat ws 7 u count in
    let d = damage_is ws site 4 cause e2 in
    subst (OwnCause neat ws) (d.is) (record { neat_line = c.1; count = c.0; words = (w3, (d.first, (d.second, (d.third, tt)))); typed = d.typed; own = λ other other_is. same_site ws site other site_is other_is })))

cause_is : (neat : Bool) (ws : Words) (cause : Cause) → kinds.cause_of neat ws ≡ Ok cause → OwnCause neat ws cause
unfolding kinds.cause_of
cause_is neat ws cause e =
    told_by (word_at ws 3) (codes "log") _ _ cause e (own_log_is neat ws cause) (λ e1.
    told_by (word_at ws 3) (codes "memory") _ _ cause e1 (own_memory_is neat ws cause) (λ e2.
    told_by (word_at ws 3) (codes "damage") _ _ cause e2 (own_damage_is neat ws cause) (λ e3.
    no_ok (unknown_at ws 3) cause e3)))

pub fail_is : (layout : Layout) (neat : Bool) (ws : Words) (step : Step) → word_at ws 0 ≡ codes "fail" → fail_of layout neat ws ≡ Ok step → Tells layout neat ws step
unfolding fail_of step_fits
fail_is layout neat ws step kind e =
    by_bind _ _ step e (λ cause cause_read e1.
    by_bind _ _ step e1 (λ site site_is e2.
    by_bind _ _ step e2 (λ txn txn_read e3.
    by_bind _ _ step e3 (λ w range e4.
    let c = cause_is neat ws cause cause_read in
    let t = txn_is (word_at ws 2) txn txn_read in
    let r = and_true (is_site layout site) (is_session txn.session) (check_ok Range _ w range) in
    subst (Tells layout neat ws) (same_ok (steps.Fail site txn cause) step e4) (record {
      neat_line = c.neat_line;
      words = are_all ws (codes "fail" ∷ decimal site ∷ txn_text txn ∷ cause_words cause) c.count (kind, (u8_is ws 1 site site_is, (t.text, c.words)))
          ∙ ap (λ (r : Words). codes "fail" ∷ decimal site ∷ txn_text txn ∷ r) (sym (append-nil (cause_words cause)));
      fits = and_from (is_site layout site) (txn_fits txn && (is_own site cause && cause_typed cause)) r.0
          (and_from (txn_fits txn) (is_own site cause && cause_typed cause) (txn_fitting (word_at ws 2) txn t r.1) (and_from (is_own site cause) (cause_typed cause) (c.own site site_is) c.typed));
    })))))

-- ---- replies

record RefusalRead (neat : Bool) (ws : Words) (cause : Cause) : Type 0 where
  neat_line : neat ≡ true
  count : length ws ≡ suc (suc (suc (suc (length (refusal_words cause)))))
  words : AreAt ws 4 (refusal_words cause)
  typed : cause_typed cause ≡ true

undeclared_is : (neat : Bool) (ws : Words) (cause : Cause) → word_at ws 4 ≡ codes "undeclared" → kinds.undeclared_of neat ws ≡ Ok cause → RefusalRead neat ws cause
unfolding kinds.undeclared_of
undeclared_is neat ws cause w4 e =
    by_bind _ _ cause e (λ u count e1.
    by_bind _ _ cause e1 (λ key key_read e2.
    let c = count_is neat ws 6 u count in
    subst (RefusalRead neat ws) (same_ok (Undeclared key) cause e2) (record { neat_line = c.1; count = c.0; words = (w4, ((key_is (word_at ws 5) key key_read).0, tt)); typed = refl })))

log_is : (neat : Bool) (ws : Words) (cause : Cause) → word_at ws 4 ≡ codes "log" → kinds.log_of neat ws ≡ Ok cause → RefusalRead neat ws cause
unfolding kinds.log_of
log_is neat ws cause w4 e =
    by_bind _ _ cause e (λ u count e1.
    by_bind _ _ cause e1 (λ site site_is e2.
    let c = count_is neat ws 6 u count in
    subst (RefusalRead neat ws) (same_ok (Log site) cause e2) (record { neat_line = c.1; count = c.0; words = (w4, (u8_is ws 5 site site_is, tt)); typed = refl })))

damaged_is : (neat : Bool) (ws : Words) (cause : Cause) → word_at ws 4 ≡ codes "damage" → kinds.damage_of neat ws ≡ Ok cause → RefusalRead neat ws cause
unfolding kinds.damage_of
damaged_is neat ws cause w4 e =
    by_bind _ _ cause e (λ u count e1.
    by_bind _ _ cause e1 (λ site site_is e2.
    let c = count_is neat ws 9 u count in
    let d = damage_is ws site 6 cause e2 in
    subst (RefusalRead neat ws) (d.is) (record { neat_line = c.1; count = c.0; words = (w4, (u8_is ws 5 site site_is, (d.first, (d.second, (d.third, tt))))); typed = d.typed })))

memory_is : (neat : Bool) (ws : Words) (cause : Cause) → word_at ws 4 ≡ codes "memory" → kinds.memory_of neat ws 5 ≡ Ok cause → RefusalRead neat ws cause
unfolding kinds.memory_of
memory_is neat ws cause w4 e =
    by_bind _ _ cause e (λ u count e1.
    let c = count_is neat ws 5 u count in
    subst (RefusalRead neat ws) (same_ok Memory cause e1) (record { neat_line = c.1; count = c.0; words = (w4, tt); typed = refl }))

refusal_is : (neat : Bool) (ws : Words) (cause : Cause) → kinds.refusal_of neat ws ≡ Ok cause → RefusalRead neat ws cause
unfolding kinds.refusal_of
refusal_is neat ws cause e =
    told_by (word_at ws 4) (codes "undeclared") _ _ cause e (undeclared_is neat ws cause) (λ e1.
    told_by (word_at ws 4) (codes "log") _ _ cause e1 (log_is neat ws cause) (λ e2.
    told_by (word_at ws 4) (codes "damage") _ _ cause e2 (damaged_is neat ws cause) (λ e3.
    told_by (word_at ws 4) (codes "memory") _ _ cause e3 (memory_is neat ws cause) (λ e4.
    no_ok (unknown_at ws 4) cause e4))))

record SaidRead (neat : Bool) (ws : Words) (said : Said) : Type 0 where
  neat_line : neat ≡ true
  count : length ws ≡ suc (suc (suc (length (said_words said))))
  words : AreAt ws 3 (said_words said)
  typed : said_typed said ≡ true

committed_is : (neat : Bool) (ws : Words) (said : Said) → word_at ws 3 ≡ codes "committed" → kinds.committed_of neat ws ≡ Ok said → SaidRead neat ws said
unfolding kinds.committed_of
committed_is neat ws said w3 e =
    by_bind _ _ said e (λ u count e1.
    by_bind _ _ said e1 (λ site site_is e2.
    by_bind _ _ said e2 (λ seq seq_is e3.
    let c = count_is neat ws 6 u count in
    let s = u64_is ws 5 seq seq_is in
    subst (SaidRead neat ws) (same_ok (saids.Committed site seq) said e3) (record { neat_line = c.1; count = c.0; words = (w3, (u8_is ws 4 site site_is, (s.0, tt))); typed = s.1 }))))

settled_is : (neat : Bool) (ws : Words) (said : Said) → word_at ws 3 ≡ codes "placed" → kinds.settled_of neat ws ≡ Ok said → SaidRead neat ws said
unfolding kinds.settled_of
settled_is neat ws said w3 e =
    by_bind _ _ said e (λ u count e1.
    by_bind _ _ said e1 (λ part part_is e2.
    by_bind _ _ said e2 (λ site site_is e3.
    by_bind _ _ said e3 (λ epoch epoch_is e4.
    let c = count_is neat ws 7 u count in
    let s = u64_is ws 6 epoch epoch_is in
    subst (SaidRead neat ws) (same_ok (saids.Placed part site epoch) said e4) (record {
      neat_line = c.1;
      count = c.0;
      words = (w3, (u16_is ws 4 part part_is, (u8_is ws 5 site site_is, (s.0, tt))));
      typed = s.1;
    })))))

site_said : (neat : Bool) (ws : Words) (site : ℕ) → kinds.said_site neat ws ≡ Ok site → (neat ≡ true) × (length ws ≡ 5) × (word_at ws 4 ≡ decimal site)
unfolding kinds.said_site
site_said neat ws site e = by_bind _ _ site e (λ u count e1. let c = count_is neat ws 5 u count in (c.1, c.0, u8_is ws 4 site e1))

read_is : (neat : Bool) (ws : Words) (said : Said) → word_at ws 3 ≡ codes "read" → made saids.Read (kinds.said_site neat ws) ≡ Ok said → SaidRead neat ws said
read_is neat ws said w3 e =
    let m = made_ok saids.Read (kinds.said_site neat ws) said e in
    let s = site_said neat ws m.0 m.1 in
    subst (SaidRead neat ws) m.2 (record { neat_line = s.0; count = s.1; words = (w3, (s.2, tt)); typed = refl })

doubt_is : (neat : Bool) (ws : Words) (said : Said) → word_at ws 3 ≡ codes "doubt" → made saids.InDoubt (kinds.said_site neat ws) ≡ Ok said → SaidRead neat ws said
doubt_is neat ws said w3 e =
    let m = made_ok saids.InDoubt (kinds.said_site neat ws) said e in
    let s = site_said neat ws m.0 m.1 in
    subst (SaidRead neat ws) m.2 (record { neat_line = s.0; count = s.1; words = (w3, (s.2, tt)); typed = refl })

restarted_is : (neat : Bool) (ws : Words) (said : Said) → word_at ws 3 ≡ codes "restarted" → made saids.Restarted (kinds.said_site neat ws) ≡ Ok said → SaidRead neat ws said
restarted_is neat ws said w3 e =
    let m = made_ok saids.Restarted (kinds.said_site neat ws) said e in
    let s = site_said neat ws m.0 m.1 in
    subst (SaidRead neat ws) m.2 (record { neat_line = s.0; count = s.1; words = (w3, (s.2, tt)); typed = refl })

refused_is : (neat : Bool) (ws : Words) (said : Said) → word_at ws 3 ≡ codes "refused" → made saids.Refused (kinds.refusal_of neat ws) ≡ Ok said → SaidRead neat ws said
refused_is neat ws said w3 e =
    let m = made_ok saids.Refused (kinds.refusal_of neat ws) said e in
    let r = refusal_is neat ws m.0 m.1 in
    subst (SaidRead neat ws) m.2 (record { neat_line = r.neat_line; count = r.count; words = (w3, r.words); typed = r.typed })

said_is : (neat : Bool) (ws : Words) (said : Said) → kinds.said_of neat ws ≡ Ok said → SaidRead neat ws said
unfolding kinds.said_of
said_is neat ws said e =
    told_by (word_at ws 3) (codes "committed") _ _ said e (committed_is neat ws said) (λ e1.
    told_by (word_at ws 3) (codes "read") _ _ said e1 (read_is neat ws said) (λ e2.
    told_by (word_at ws 3) (codes "doubt") _ _ said e2 (doubt_is neat ws said) (λ e3.
    told_by (word_at ws 3) (codes "placed") _ _ said e3 (settled_is neat ws said) (λ e4.
    told_by (word_at ws 3) (codes "restarted") _ _ said e4 (restarted_is neat ws said) (λ e5.
    told_by (word_at ws 3) (codes "refused") _ _ said e5 (refused_is neat ws said) (λ e6.
    no_ok (unknown_at ws 3) said e6))))))

pub reply_is : (layout : Layout) (neat : Bool) (ws : Words) (step : Step) → word_at ws 0 ≡ codes "reply" → kinds.reply_of layout neat ws ≡ Ok step → Tells layout neat ws step
unfolding kinds.reply_of step_fits
reply_is layout neat ws step kind e =
    by_bind _ _ step e (λ said said_read e1.
    by_bind _ _ step e1 (λ session session_is e2.
    by_bind _ _ step e2 (λ number number_is e3.
    by_bind _ _ step e3 (λ w range e4.
    let s = said_is neat ws said said_read in
    let w1 = u32_is ws 1 session session_is in
    let w2 = u32_is ws 2 number number_is in
    let r = and_true (is_session session) (fits_said layout said) (check_ok Range _ w range) in
    subst (Tells layout neat ws) (same_ok (steps.Reply session number said) step e4) (record {
      neat_line = s.neat_line;
      words = are_all ws (codes "reply" ∷ decimal session ∷ decimal number ∷ said_words said) s.count (kind, (w1.0, (w2.0, s.words)))
          ∙ ap (λ (r : Words). codes "reply" ∷ decimal session ∷ decimal number ∷ r) (sym (append-nil (said_words said)));
      fits = and_from (is_session session) (nat_lt number (2 ^ 32) && (fits_said layout said && said_typed said)) r.0
          (and_from (nat_lt number (2 ^ 32)) (fits_said layout said && said_typed said) w2.1 (and_from (fits_said layout said) (said_typed said) r.1 s.typed));
    })))))
