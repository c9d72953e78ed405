-- What is read of a line has that line: acts, doubts and routes, and then any line.
use Rattle.std.proofs.Common.{◌≡◌, ◌∙◌, refl, ap, Bool, true, List, Ok, ◌++◌, [], ◌∷◌, arith, ℕ, ◌+◌, length, drop, subst}
use Rattle.std.specs.Prelude.{◌&&◌, ◌==◌, codes}
use Rattle.std.specs.Fmt.{decimal}
use Rattle.std.proofs.lemmas.Bool.{eq-eqb}
use Rattle.dm_event.specs.Layout.{Layout, is_site, is_part, is_session}
use Rattle.dm_event.specs.declared.step.Choice.{Choice}
use Rattle.dm_event.specs.declared.step.Choice.TheVariants.{Master, Best, Reader, Hand}
use Rattle.dm_event.specs.declared.step.Entry.{Entry}
use Rattle.dm_event.specs.declared.step.Pending.{Pending}
use Rattle.dm_event.specs.declared.step.Pending.TheVariants as pendings
use Rattle.dm_event.specs.declared.step.Step.{Step}
use Rattle.dm_event.specs.declared.step.Step.TheVariants as steps
use Rattle.dm_event.specs.declared.step.Want.TheVariants as wants
use Rattle.dm_event.specs.declared.why.LineFault.TheVariants.{Range, Repeat}
use Rattle.dm_text.specs.Texts.{txn_text, pairs_text}
use Rattle.dm_history.specs.Parts.{keys_text, ops_text, choice_text}
use Rattle.dm_fields.specs.Fields.{Words, ◌>>=◌, made, check, or_fault, word_at, unknown_at}
use Rattle.dm_kinds.specs.declared.act.Act.{Act}
use Rattle.dm_kinds.specs.declared.route.Way.{Way}
use Rattle.dm_past.specs.Fits.{is_u64, txn_fits, vector_fits, ops_fit, pairs_fit, want_fits, entry_fits, pending_fits, step_fits}
use Rattle.dm_kinds.specs.Kinds as kinds
use Rattle.dm_kinds.specs.Ranges.{fit_ops, fit_pairs, fit_keys, ascends}
use Rattle.dm_kinds.specs.Values.{key_of, pair_of, op_of, list_of, vector_end, choice_at}
use Rattle.dm_kinds.proofs.Chains.{by_bind, made_ok, check_ok, same_ok, no_ok, and_true, and_from, told_by}
use Rattle.dm_past.proofs.Texts.{list_is, key_is, is_u32, txn_is, TxnRead}
use Rattle.dm_past.proofs.VectorWords.{vector_words, vector_is, vector_end_from, Located}
use Rattle.dm_past.proofs.Places.{AreAt, are_back, no_back, count_is, fixed_is, u8_is, u16_is, u64_is, txn_fitting}
use Rattle.dm_past.proofs.StepWords.{act_words}
use Rattle.dm_past.proofs.Tells.{Tells, around, keys_same, ops_is, pairs_is, moved_is, refresh_is, settle_is, ask_is, begin_is, restart_is, end_is, fail_is, reply_is}

-- ---- acts

pub record ActTold (layout : Layout) (neat : Bool) (ws : Words) (act : Act) : Type 0 where
  pub neat_line : neat ≡ true
  pub words : ws ≡ act_words act.site act.pending
  pub fits : pending_fits layout act.site act.pending ≡ true

release_is : (layout : Layout) (neat : Bool) (ws : Words) (act : Act) → word_at ws 0 ≡ codes "release" → kinds.release_of layout neat ws ≡ Ok act → ActTold layout neat ws act
unfolding kinds.release_of pending_fits
release_is layout neat ws act kind e =
    by_bind _ _ act e (λ f4 fixed4 e1.
    by_bind _ _ act e1 (λ u count e2.
    by_bind _ _ act e2 (λ site site_is e3.
    by_bind _ _ act e3 (λ part part_is e4.
    by_bind _ _ act e4 (λ epoch epoch_is e5.
    by_bind _ _ act e5 (λ to to_is e6.
    by_bind _ _ act e6 (λ numbers read e7.
    by_bind _ _ act e7 (λ w range e8.
    by_bind _ _ act e8 (λ vector sized e9.
    let c = count_is neat ws (vector_end ws 6) u count in
    let long = vector_end_from ws 6 in
    let w3 = u64_is ws 3 epoch epoch_is in
    let w4 = fixed_is ws 4 (codes "to") f4 fixed4 (omega (arith, c.0, long)) in
    let v = vector_is layout ws 6 numbers vector read sized in
    let r = and_true (is_site layout site) (is_part layout part && is_site layout to) (check_ok Range _ w range) in
    let s = and_true (is_part layout part) (is_site layout to) r.1 in
    subst (ActTold layout neat ws) (same_ok (record { site = site; pending = pendings.Release part epoch to vector }) act e9) (record {
      neat_line = c.1;
      words = around ws (codes "release" ∷ decimal site ∷ decimal part ∷ decimal epoch ∷ codes "to" ∷ decimal to ∷ []) [] (vector_words vector) (vector_end ws 6) (omega (arith, c.0, long))
          (kind, (u8_is ws 1 site site_is, (u16_is ws 2 part part_is, (w3.0, (w4, (u8_is ws 5 to to_is, tt)))))) v.words (no_back ws (vector_end ws 6) c.0);
      fits = and_from (is_site layout site) (is_part layout part && (is_u64 epoch && (is_site layout to && vector_fits layout vector))) r.0
          (and_from (is_part layout part) (is_u64 epoch && (is_site layout to && vector_fits layout vector)) s.0
          (and_from (is_u64 epoch) (is_site layout to && vector_fits layout vector) w3.1 (and_from (is_site layout to) (vector_fits layout vector) s.1 v.fits)));
    }))))))))))

grant_is : (layout : Layout) (neat : Bool) (ws : Words) (act : Act) → word_at ws 0 ≡ codes "grant" → kinds.grant_of layout neat ws ≡ Ok act → ActTold layout neat ws act
unfolding kinds.grant_of pending_fits
grant_is layout neat ws act kind e =
    by_bind _ _ act e (λ u count e1.
    by_bind _ _ act e1 (λ site site_is e2.
    by_bind _ _ act e2 (λ part part_is e3.
    by_bind _ _ act e3 (λ epoch epoch_is e4.
    by_bind _ _ act e4 (λ numbers read e5.
    by_bind _ _ act e5 (λ w range e6.
    by_bind _ _ act e6 (λ vector sized e7.
    let c = count_is neat ws (vector_end ws 4) u count in
    let long = vector_end_from ws 4 in
    let w3 = u64_is ws 3 epoch epoch_is in
    let v = vector_is layout ws 4 numbers vector read sized in
    let r = and_true (is_site layout site) (is_part layout part) (check_ok Range _ w range) in
    subst (ActTold layout neat ws) (same_ok (record { site = site; pending = pendings.Grant part epoch vector }) act e7) (record {
      neat_line = c.1;
      words = around ws (codes "grant" ∷ decimal site ∷ decimal part ∷ decimal epoch ∷ []) [] (vector_words vector) (vector_end ws 4) (omega (arith, c.0, long))
          (kind, (u8_is ws 1 site site_is, (u16_is ws 2 part part_is, (w3.0, tt)))) v.words (no_back ws (vector_end ws 4) c.0);
      fits = and_from (is_site layout site) (is_part layout part && (is_u64 epoch && vector_fits layout vector)) r.0
          (and_from (is_part layout part) (is_u64 epoch && vector_fits layout vector) r.1 (and_from (is_u64 epoch) (vector_fits layout vector) w3.1 v.fits));
    }))))))))

record CommitWords (neat : Bool) (ws : Words) (n : ℕ) : Type 0 where
  neat_line : neat ≡ true
  count : length ws ≡ n + 6
  ops : word_at ws n ≡ codes "ops"
  reads : word_at ws (n + 2) ≡ codes "reads"
  writes : word_at ws (n + 4) ≡ codes "writes"

commit_words_are : (neat : Bool) (ws : Words) (n : ℕ) (u : Unit {0}) → kinds.commit_words neat ws n ≡ Ok u → CommitWords neat ws n
unfolding kinds.commit_words
commit_words_are neat ws n u e =
    by_bind _ _ u e (λ f1 ops e1.
    by_bind _ _ u e1 (λ f2 reads e2.
    by_bind _ _ u e2 (λ f3 writes e3.
    let c = count_is neat ws (n + 6) u e3 in
    record {
      neat_line = c.1;
      count = c.0;
      ops = fixed_is ws n (codes "ops") f1 ops (omega (arith, c.0));
      reads = fixed_is ws (n + 2) (codes "reads") f2 reads (omega (arith, c.0));
      writes = fixed_is ws (n + 4) (codes "writes") f3 writes (omega (arith, c.0));
    })))

record EntryRead (layout : Layout) (ws : Words) (n : ℕ) (entry : Entry) : Type 0 where
  origin : word_at ws 1 ≡ decimal entry.origin
  txn : TxnRead (word_at ws 2) entry.txn
  seq : (word_at ws 3 ≡ decimal entry.seq) × (is_u64 entry.seq ≡ true)
  begin : Located layout ws 4 entry.begin
  ops : list_of op_of (word_at ws (n + 1)) ≡ Ok entry.ops
  reads : list_of pair_of (word_at ws (n + 3)) ≡ Ok entry.reads
  writes : list_of pair_of (word_at ws (n + 5)) ≡ Ok entry.writes

entry_is : (layout : Layout) (ws : Words) (n : ℕ) (entry : Entry) → kinds.entry_at layout ws n ≡ Ok entry → EntryRead layout ws n entry
unfolding kinds.entry_at
entry_is layout ws n entry e =
    by_bind _ _ entry e (λ origin origin_is e1.
    by_bind _ _ entry e1 (λ txn txn_read e2.
    by_bind _ _ entry e2 (λ seq seq_is e3.
    by_bind _ _ entry e3 (λ numbers read e4.
    by_bind _ _ entry e4 (λ ops ops_read e5.
    by_bind _ _ entry e5 (λ reads reads_read e6.
    by_bind _ _ entry e6 (λ writes writes_read e7.
    by_bind _ _ entry e7 (λ begin sized e8.
    subst (EntryRead layout ws n) (same_ok (record { txn = txn; origin = origin; seq = seq; begin = begin; ops = ops; reads = reads; writes = writes }) entry e8) (record {
      origin = u8_is ws 1 origin origin_is;
      txn = txn_is (word_at ws 2) txn txn_read;
      seq = u64_is ws 3 seq seq_is;
      begin = vector_is layout ws 4 numbers begin read sized;
      ops = ops_read;
      reads = reads_read;
      writes = writes_read;
    })))))))))

commit_is : (layout : Layout) (neat : Bool) (ws : Words) (act : Act) → word_at ws 0 ≡ codes "commit" → kinds.commit_of layout neat ws ≡ Ok act → ActTold layout neat ws act
unfolding kinds.commit_of pending_fits entry_fits
commit_is layout neat ws act kind e =
    by_bind _ _ act e (λ u fixed e1.
    by_bind _ _ act e1 (λ entry entry_read e2.
    by_bind _ _ act e2 (λ w range e3.
    let m = vector_end ws 4 in
    let long = vector_end_from ws 4 in
    let c = commit_words_are neat ws m u fixed in
    let n = entry_is layout ws m entry entry_read in
    let r = and_true (is_site layout entry.origin) (is_session entry.txn.session && (fit_ops layout entry.ops && (fit_pairs layout entry.reads && fit_pairs layout entry.writes))) (check_ok Range _ w range) in
    let s = and_true (is_session entry.txn.session) (fit_ops layout entry.ops && (fit_pairs layout entry.reads && fit_pairs layout entry.writes)) r.1 in
    let q = and_true (fit_ops layout entry.ops) (fit_pairs layout entry.reads && fit_pairs layout entry.writes) s.1 in
    let p = and_true (fit_pairs layout entry.reads) (fit_pairs layout entry.writes) q.1 in
    let ops = ops_is layout (word_at ws (m + 1)) entry.ops n.ops q.0 in
    let reads = pairs_is layout (word_at ws (m + 3)) entry.reads n.reads p.0 in
    let writes = pairs_is layout (word_at ws (m + 5)) entry.writes n.writes p.1 in
    subst (ActTold layout neat ws) (same_ok (record { site = entry.origin; pending = pendings.Commit entry }) act e3) (record {
      neat_line = c.neat_line;
      words = around ws (codes "commit" ∷ decimal entry.origin ∷ txn_text entry.txn ∷ decimal entry.seq ∷ [])
          (codes "ops" ∷ ops_text entry.ops ∷ codes "reads" ∷ pairs_text entry.reads ∷ codes "writes" ∷ pairs_text entry.writes ∷ []) (vector_words entry.begin) m (omega (arith, c.count, long))
          (kind, (n.origin, (n.txn.text, (n.seq.0, tt)))) n.begin.words
          (are_back ws m (codes "ops") (ops_text entry.ops ∷ codes "reads" ∷ pairs_text entry.reads ∷ codes "writes" ∷ pairs_text entry.writes ∷ []) c.count c.ops (ops.0, (c.reads, (reads.0, (c.writes, (writes.0, tt))))));
      fits = and_from (entry.origin == entry.origin) _ (eq-eqb entry.origin entry.origin refl)
          (and_from (is_site layout entry.origin) (txn_fits entry.txn && (is_u64 entry.seq && (vector_fits layout entry.begin && (ops_fit layout entry.ops && (pairs_fit layout entry.reads && pairs_fit layout entry.writes))))) r.0
          (and_from (txn_fits entry.txn) (is_u64 entry.seq && (vector_fits layout entry.begin && (ops_fit layout entry.ops && (pairs_fit layout entry.reads && pairs_fit layout entry.writes)))) (txn_fitting (word_at ws 2) entry.txn n.txn s.0)
          (and_from (is_u64 entry.seq) (vector_fits layout entry.begin && (ops_fit layout entry.ops && (pairs_fit layout entry.reads && pairs_fit layout entry.writes))) n.seq.1
          (and_from (vector_fits layout entry.begin) (ops_fit layout entry.ops && (pairs_fit layout entry.reads && pairs_fit layout entry.writes)) n.begin.fits
          (and_from (ops_fit layout entry.ops) (pairs_fit layout entry.reads && pairs_fit layout entry.writes) ops.1 (and_from (pairs_fit layout entry.reads) (pairs_fit layout entry.writes) reads.1 writes.1))))));
    }))))

act_is : (layout : Layout) (neat : Bool) (ws : Words) (act : Act) → kinds.act_of layout neat ws ≡ Ok act → ActTold layout neat ws act
unfolding kinds.act_of
act_is layout neat ws act e =
    told_by (word_at ws 0) (codes "commit") _ _ act e (commit_is layout neat ws act) (λ e1.
    told_by (word_at ws 0) (codes "release") _ _ act e1 (release_is layout neat ws act) (λ e2.
    told_by (word_at ws 0) (codes "grant") _ _ act e2 (grant_is layout neat ws act) (λ e3.
    no_ok (unknown_at ws 0) act e3)))

taken_is : (layout : Layout) (neat : Bool) (ws : Words) (site : ℕ) (pending : Pending) → ActTold layout neat ws (record { site = site; pending = pending }) → Tells layout neat ws (kinds.taken site pending)
unfolding step_fits pending_fits
taken_is layout neat ws site (pendings.Commit entry) t =
    record { neat_line = t.neat_line; words = t.words; fits = (and_true (site == entry.origin) (entry_fits layout entry) t.fits).1 }
taken_is layout neat ws site (pendings.Release part epoch to vector) t = record { neat_line = t.neat_line; words = t.words; fits = t.fits }
taken_is layout neat ws site (pendings.Grant part epoch vector) t = record { neat_line = t.neat_line; words = t.words; fits = t.fits }

acted_is : (layout : Layout) (neat : Bool) (ws : Words) (step : Step) → made (λ (act : Act). kinds.taken act.site act.pending) (kinds.act_of layout neat ws) ≡ Ok step → Tells layout neat ws step
acted_is layout neat ws step e =
    let m = made_ok (λ (act : Act). kinds.taken act.site act.pending) (kinds.act_of layout neat ws) step e in
    subst (Tells layout neat ws) m.2 (taken_is layout neat ws m.0.site m.0.pending (act_is layout neat ws m.0 m.1))

first_word : (ws : Words) (c : ℕ) (cs : List ℕ) → word_at ws 0 ≡ c ∷ cs → ws ≡ (c ∷ cs) ∷ drop 1 ws
unfolding word_at
first_word [] c cs e = absurd cc
first_word (w ∷ ws) c cs e = ap (λ (v : List ℕ). v ∷ ws) e

doubted_is : (layout : Layout) (neat : Bool) (ws : Words) (step : Step) → word_at ws 0 ≡ codes "doubt" → made (λ (act : Act). steps.Doubt act.site act.pending) (kinds.act_of layout neat (drop 1 ws)) ≡ Ok step
    → Tells layout neat ws step
unfolding step_fits
doubted_is layout neat ws step kind e =
    let m = made_ok (λ (act : Act). steps.Doubt act.site act.pending) (kinds.act_of layout neat (drop 1 ws)) step e in
    let t = act_is layout neat (drop 1 ws) m.0 m.1 in
    subst (Tells layout neat ws) m.2 (record {
      neat_line = t.neat_line;
      words = first_word ws 100 (codes "oubt") kind ∙ ap (λ (r : Words). codes "doubt" ∷ r) t.words;
      fits = t.fits;
    })

-- ---- routes

choice_is : (ws : Words) (n : ℕ) (choice : Choice) → choice_at ws n ≡ Ok choice → word_at ws n ≡ choice_text choice
unfolding choice_at choice_text
choice_is ws n choice e =
    told_by (word_at ws n) (codes "master") _ _ choice e (λ w f. subst (λ (c : Choice). word_at ws n ≡ choice_text c) (same_ok Master choice f) w) (λ e1.
    told_by (word_at ws n) (codes "best") _ _ choice e1 (λ w f. subst (λ (c : Choice). word_at ws n ≡ choice_text c) (same_ok Best choice f) w) (λ e2.
    told_by (word_at ws n) (codes "reader") _ _ choice e2 (λ w f. subst (λ (c : Choice). word_at ws n ≡ choice_text c) (same_ok Reader choice f) w) (λ e3.
    told_by (word_at ws n) (codes "hand") _ _ choice e3 (λ w f. subst (λ (c : Choice). word_at ws n ≡ choice_text c) (same_ok Hand choice f) w) (λ e4.
    no_ok (unknown_at ws n) choice e4))))

record WayWords (neat : Bool) (ws : Words) (n : ℕ) (choice : Choice) : Type 0 where
  neat_line : neat ≡ true
  count : length ws ≡ vector_end ws (n + 1) + 3
  min : word_at ws n ≡ codes "min"
  to : word_at ws (vector_end ws (n + 1)) ≡ codes "to"
  last : word_at ws (vector_end ws (n + 1) + 2) ≡ choice_text choice

way_words_are : (neat : Bool) (ws : Words) (n : ℕ) (choice : Choice) → kinds.way_words neat ws n ≡ Ok choice → WayWords neat ws n choice
unfolding kinds.way_words
way_words_are neat ws n choice e =
    by_bind _ _ choice e (λ f1 min e1.
    by_bind _ _ choice e1 (λ f2 to e2.
    by_bind _ _ choice e2 (λ found choice_read e3.
    by_bind _ _ choice e3 (λ u count e4.
    let c = count_is neat ws (vector_end ws (n + 1) + 3) u count in
    let long = vector_end_from ws (n + 1) in
    subst (WayWords neat ws n) (same_ok found choice e4) (record {
      neat_line = c.1;
      count = c.0;
      min = fixed_is ws n (codes "min") f1 min (omega (arith, c.0, long));
      to = fixed_is ws (vector_end ws (n + 1)) (codes "to") f2 to (omega (arith, c.0));
      last = choice_is ws (vector_end ws (n + 1) + 2) found choice_read;
    })))))

record WayRead (layout : Layout) (ws : Words) (n : ℕ) (way : Way) (min : List ℕ) : Type 0 where
  txn : word_at ws 1 ≡ txn_text way.txn
  txn_fit : txn_fits way.txn ≡ true
  vector : Located layout ws (n + 1) min
  site : word_at ws (vector_end ws (n + 1) + 1) ≡ decimal way.site
  site_fit : is_site layout way.site ≡ true

way_is : (layout : Layout) (ws : Words) (n : ℕ) (way : Way) (min : List ℕ) → kinds.way_at layout ws n ≡ Ok way → kinds.way_min layout way ≡ Ok min → WayRead layout ws n way min
unfolding kinds.way_at kinds.way_min
way_is layout ws n way min e f =
    by_bind _ _ way e (λ txn txn_read e1.
    by_bind _ _ way e1 (λ numbers read e2.
    by_bind _ _ way e2 (λ site site_is e3.
    subst (λ (w : Way). (check Range (is_session w.txn.session && is_site layout w.site) >>= λ u. or_fault Range w.min) ≡ Ok min → WayRead layout ws n w min)
    (same_ok (record { txn = txn; min = numbers; site = site }) way e3) (λ g.
    by_bind _ _ min g (λ w range sized.
    let t = txn_is (word_at ws 1) txn txn_read in
    let r = and_true (is_session txn.session) (is_site layout site) (check_ok Range _ w range) in
    record {
      txn = t.text;
      txn_fit = txn_fitting (word_at ws 1) txn t r.0;
      vector = vector_is layout ws (n + 1) numbers min read sized;
      site = u8_is ws (vector_end ws (n + 1) + 1) site site_is;
      site_fit = r.1;
    })) f)))

-- the words of a Route, where its want is told by the words between the attempt and `min`
route_words : (layout : Layout) (neat : Bool) (ws front : Words) (n : ℕ) (way : Way) (min : List ℕ) (choice : Choice) → length front ≡ n + 1 → AreAt ws 0 front
    → WayWords neat ws n choice → WayRead layout ws n way min
    → ws ≡ front ++ (vector_words min ++ (codes "to" ∷ decimal way.site ∷ choice_text choice ∷ []))
route_words layout neat ws front n way min choice e at w r =
    let m = vector_end ws (n + 1) in
    let long = vector_end_from ws (n + 1) in
    around ws front (codes "to" ∷ decimal way.site ∷ choice_text choice ∷ []) (vector_words min) m (omega (arith, e, w.count, long)) at
    (ap (λ (i : ℕ). drop i ws) e ∙ r.vector.words) (are_back ws m (codes "to") (decimal way.site ∷ choice_text choice ∷ []) w.count w.to (r.site, (w.last, tt)))

sent_is : (layout : Layout) (neat : Bool) (ws : Words) (step : Step) → word_at ws 0 ≡ codes "route" → word_at ws 2 ≡ codes "txn" → kinds.sent_of layout neat ws ≡ Ok step → Tells layout neat ws step
unfolding kinds.sent_of kinds.declared_of step_fits want_fits
sent_is layout neat ws step kind want e =
    by_bind _ _ step e (λ choice choice_read e1.
    by_bind _ _ step e1 (λ way way_read e2.
    by_bind _ _ step e2 (λ keys keys_read e3.
    by_bind _ _ step e3 (λ min min_read e4.
    by_bind _ _ step e4 (λ declared declared_read e5.
    by_bind _ _ declared declared_read (λ u range g1.
    by_bind _ _ declared g1 (λ v repeat g2.
    let w = way_words_are neat ws 4 choice choice_read in
    let r = way_is layout ws 4 way min way_read min_read in
    let k = list_is key_of decimal is_u32 key_is (word_at ws 3) keys keys_read in
    let s : keys ≡ declared = same_ok keys declared g2 in
    subst (Tells layout neat ws) (ap (λ (ks : List ℕ). steps.Route way.txn (wants.Txn ks) min way.site choice) s ∙ same_ok (steps.Route way.txn (wants.Txn declared) min way.site choice) step e5) (record {
      neat_line = w.neat_line;
      words = route_words layout neat ws (codes "route" ∷ txn_text way.txn ∷ codes "txn" ∷ keys_text keys ∷ codes "min" ∷ []) 4 way min choice refl
          (kind, (r.txn, (want, (k.0 ∙ keys_same keys, (w.min, tt))))) w r;
      fits = and_from (txn_fits way.txn) ((fit_keys layout keys && ascends keys) && (vector_fits layout min && is_site layout way.site)) r.txn_fit
          (and_from (fit_keys layout keys && ascends keys) (vector_fits layout min && is_site layout way.site)
          (and_from (fit_keys layout keys) (ascends keys) (check_ok Range (fit_keys layout keys) u range) (check_ok Repeat (ascends keys) v repeat))
          (and_from (vector_fits layout min) (is_site layout way.site) r.vector.fits r.site_fit));
    }))))))))

placed_is : (layout : Layout) (neat : Bool) (ws : Words) (step : Step) → word_at ws 0 ≡ codes "route" → word_at ws 2 ≡ codes "place" → kinds.placed_of layout neat ws ≡ Ok step → Tells layout neat ws step
unfolding kinds.placed_of step_fits want_fits
placed_is layout neat ws step kind want e =
    by_bind _ _ step e (λ choice choice_read e1.
    by_bind _ _ step e1 (λ way way_read e2.
    by_bind _ _ step e2 (λ part part_is e3.
    by_bind _ _ step e3 (λ min min_read e4.
    by_bind _ _ step e4 (λ u range e5.
    let w = way_words_are neat ws 4 choice choice_read in
    let r = way_is layout ws 4 way min way_read min_read in
    subst (Tells layout neat ws) (same_ok (steps.Route way.txn (wants.Place part) min way.site choice) step e5) (record {
      neat_line = w.neat_line;
      words = route_words layout neat ws (codes "route" ∷ txn_text way.txn ∷ codes "place" ∷ decimal part ∷ codes "min" ∷ []) 4 way min choice refl
          (kind, (r.txn, (want, (u16_is ws 3 part part_is, (w.min, tt))))) w r;
      fits = and_from (txn_fits way.txn) (is_part layout part && (vector_fits layout min && is_site layout way.site)) r.txn_fit
          (and_from (is_part layout part) (vector_fits layout min && is_site layout way.site) (check_ok Range (is_part layout part) u range)
          (and_from (vector_fits layout min) (is_site layout way.site) r.vector.fits r.site_fit));
    }))))))

restarted_is : (layout : Layout) (neat : Bool) (ws : Words) (step : Step) → word_at ws 0 ≡ codes "route" → word_at ws 2 ≡ codes "restart" → kinds.restarted_of layout neat ws ≡ Ok step → Tells layout neat ws step
unfolding kinds.restarted_of step_fits want_fits
restarted_is layout neat ws step kind want e =
    by_bind _ _ step e (λ choice choice_read e1.
    by_bind _ _ step e1 (λ way way_read e2.
    by_bind _ _ step e2 (λ min min_read e3.
    let w = way_words_are neat ws 3 choice choice_read in
    let r = way_is layout ws 3 way min way_read min_read in
    subst (Tells layout neat ws) (same_ok (steps.Route way.txn wants.Restart min way.site choice) step e3) (record {
      neat_line = w.neat_line;
      words = route_words layout neat ws (codes "route" ∷ txn_text way.txn ∷ codes "restart" ∷ codes "min" ∷ []) 3 way min choice refl (kind, (r.txn, (want, (w.min, tt)))) w r;
      fits = and_from (txn_fits way.txn) (true && (vector_fits layout min && is_site layout way.site)) r.txn_fit
          (and_from (vector_fits layout min) (is_site layout way.site) r.vector.fits r.site_fit);
    }))))

route_is : (layout : Layout) (neat : Bool) (ws : Words) (step : Step) → word_at ws 0 ≡ codes "route" → kinds.route_of layout neat ws ≡ Ok step → Tells layout neat ws step
unfolding kinds.route_of
route_is layout neat ws step kind e =
    told_by (word_at ws 2) (codes "txn") _ _ step e (sent_is layout neat ws step kind) (λ e1.
    told_by (word_at ws 2) (codes "place") _ _ step e1 (placed_is layout neat ws step kind) (λ e2.
    told_by (word_at ws 2) (codes "restart") _ _ step e2 (restarted_is layout neat ws step kind) (λ e3.
    no_ok (unknown_at ws 2) step e3)))

-- ---- any line

site_step_is : (layout : Layout) (neat : Bool) (ws : Words) (step : Step) → kinds.site_step_of layout neat ws ≡ Ok step → Tells layout neat ws step
unfolding kinds.site_step_of
site_step_is layout neat ws step e =
    told_by (word_at ws 0) (codes "end") _ _ step e (end_is layout neat ws step) (λ e1.
    told_by (word_at ws 0) (codes "fail") _ _ step e1 (fail_is layout neat ws step) (λ e2.
    told_by (word_at ws 0) (codes "refresh") _ _ step e2 (refresh_is layout neat ws step) (λ e3.
    told_by (word_at ws 0) (codes "restart") _ _ step e3 (restart_is layout neat ws step) (λ e4.
    told_by (word_at ws 0) (codes "doubt") _ _ step e4 (doubted_is layout neat ws step) (λ e5.
    acted_is layout neat ws step e5)))))

pub step_is : (layout : Layout) (neat : Bool) (ws : Words) (step : Step) → kinds.step_of layout neat ws ≡ Ok step → Tells layout neat ws step
unfolding kinds.step_of
step_is layout neat ws step e =
    told_by (word_at ws 0) (codes "route") _ _ step e (route_is layout neat ws step) (λ e1.
    told_by (word_at ws 0) (codes "reply") _ _ step e1 (reply_is layout neat ws step) (λ e2.
    told_by (word_at ws 0) (codes "ask") _ _ step e2 (ask_is layout neat ws step) (λ e3.
    told_by (word_at ws 0) (codes "settle") _ _ step e3 (settle_is layout neat ws step) (λ e4.
    told_by (word_at ws 0) (codes "begin") _ _ step e4 (begin_is layout neat ws step) (λ e5.
    told_by (word_at ws 0) (codes "moved") _ _ step e5 (moved_is layout neat ws step) (λ e6.
    site_step_is layout neat ws step e6))))))
