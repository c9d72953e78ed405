-- The words of a step that fits a layout are read as that step: acts, doubts and routes, and then any step.
use Rattle.std.proofs.Common.{◌≡◌, ◌∙◌, refl, sym, true, List, ◌++◌, [], ◌∷◌, arith, ℕ, ◌+◌, length, subst}
use Rattle.std.specs.Prelude.{◌&&◌, ◌==◌, codes}
use Rattle.std.specs.Fmt.{decimal}
use Rattle.std.proofs.lemmas.Bool.{eqb-true}
use Rattle.dm_event.specs.Layout.{Layout, is_site, is_part}
use Rattle.dm_event.specs.declared.step.Choice.{Choice}
use Rattle.dm_event.specs.declared.step.Entry.{Entry}
use Rattle.dm_event.specs.declared.step.Pending.{Pending}
use Rattle.dm_event.specs.declared.step.Pending.TheVariants as pendings
use Rattle.dm_event.specs.declared.step.Step.{Step}
use Rattle.dm_event.specs.declared.step.Step.TheVariants as steps
use Rattle.dm_event.specs.declared.step.TxnId.{TxnId}
use Rattle.dm_event.specs.declared.step.Want.{Want}
use Rattle.dm_event.specs.declared.step.Want.TheVariants as wants
use Rattle.dm_text.specs.Texts.{txn_text, pairs_text}
use Rattle.dm_history.specs.Parts.{keys_text, ops_text, choice_text}
use Rattle.dm_fields.specs.Fields.{Words, word_at}
use Rattle.dm_past.specs.Fits.{is_u64, txn_fits, vector_fits, ops_fit, pairs_fit, want_fits, entry_fits, pending_fits, step_fits}
use Rattle.dm_kinds.specs.Kinds as kinds
use Rattle.dm_kinds.specs.Kinds.{word_count}
use Rattle.dm_kinds.specs.Ranges.{fit_keys, ascends}
use Rattle.dm_kinds.proofs.Chains.{and_true}
use Rattle.dm_past.proofs.VectorWords.{vector_words, vector_again, word_after, first_after, length_after}
use Rattle.dm_past.proofs.Places.{count_again, fixed_again, u8_again, u16_again, u64_again, txn_back, txn_session, site_small, part_small, Limits}
use Rattle.dm_past.proofs.StepWords.{act_words, step_words}
use Rattle.dm_past.proofs.Inked.{AreWords, no_words, word_then, words_then, choice_word}
use Rattle.dm_past.proofs.Again as again
use Rattle.dm_past.proofs.Again.{Back, ActBack, choice_again}

module _ (layout : Layout) (limits : Limits layout) where
  release_back : (site part epoch to : ℕ) (vector : List ℕ) → pending_fits layout site (pendings.Release part epoch to vector) ≡ true
      → ActBack layout (record { site = site; pending = pendings.Release part epoch to vector })
  unfolding pending_fits kinds.act_of kinds.release_of word_at
  release_back site part epoch to vector h =
      let a = and_true (is_site layout site) (is_part layout part && (is_u64 epoch && (is_site layout to && vector_fits layout vector))) h in
      let b = and_true (is_part layout part) (is_u64 epoch && (is_site layout to && vector_fits layout vector)) a.1 in
      let c = and_true (is_u64 epoch) (is_site layout to && vector_fits layout vector) b.1 in
      let d = and_true (is_site layout to) (vector_fits layout vector) c.1 in
      let front : Words = codes "release" ∷ decimal site ∷ decimal part ∷ decimal epoch ∷ codes "to" ∷ decimal to ∷ [] in
      let ws : Words = act_words site (pendings.Release part epoch to vector) in
      let w = vector_again layout front vector [] limits.some_site d.1 in
      let long : length ws ≡ 6 + length (vector_words vector) = length_after front (vector_words vector) [] ∙ omega arith in
      record {
        words = word_then (record { is = refl }) (word_then (again.site_word layout limits site a.0) (word_then (again.part_word layout limits part b.0) (word_then (again.u64_word layout limits epoch c.0)
            (word_then (record { is = refl }) (word_then (again.site_word layout limits to d.0) (words_then (again.vector_typed layout limits vector d.1) no_words))))));
        read = rw (
          fixed_again ws 4 (codes "to") refl,
          w.end,
          count_again ws (6 + length (vector_words vector)) long,
          u8_again ws 1 site refl (site_small layout site limits a.0),
          u16_again ws 2 part refl (part_small layout part limits b.0),
          u64_again ws 3 epoch refl c.0,
          u8_again ws 5 to refl (site_small layout to limits d.0),
          w.numbers,
          a.0,
          b.0,
          d.0,
        ) refl;
      }

  grant_back : (site part epoch : ℕ) (vector : List ℕ) → pending_fits layout site (pendings.Grant part epoch vector) ≡ true
      → ActBack layout (record { site = site; pending = pendings.Grant part epoch vector })
  unfolding pending_fits kinds.act_of kinds.grant_of word_at
  grant_back site part epoch vector h =
      let a = and_true (is_site layout site) (is_part layout part && (is_u64 epoch && vector_fits layout vector)) h in
      let b = and_true (is_part layout part) (is_u64 epoch && vector_fits layout vector) a.1 in
      let c = and_true (is_u64 epoch) (vector_fits layout vector) b.1 in
      let front : Words = codes "grant" ∷ decimal site ∷ decimal part ∷ decimal epoch ∷ [] in
      let ws : Words = act_words site (pendings.Grant part epoch vector) in
      let w = vector_again layout front vector [] limits.some_site c.1 in
      let long : length ws ≡ 4 + length (vector_words vector) = length_after front (vector_words vector) [] ∙ omega arith in
      record {
        words = word_then (record { is = refl }) (word_then (again.site_word layout limits site a.0) (word_then (again.part_word layout limits part b.0) (word_then (again.u64_word layout limits epoch c.0)
            (words_then (again.vector_typed layout limits vector c.1) no_words))));
        read = rw (
          w.end,
          count_again ws (4 + length (vector_words vector)) long,
          u8_again ws 1 site refl (site_small layout site limits a.0),
          u16_again ws 2 part refl (part_small layout part limits b.0),
          u64_again ws 3 epoch refl c.0,
          w.numbers,
          a.0,
          b.0,
        ) refl;
      }

  -- what an entry that fits has
  record EntryParts (e : Entry) : Type 0 where
    origin : is_site layout e.origin ≡ true
    txn : txn_fits e.txn ≡ true
    seq : is_u64 e.seq ≡ true
    begin : vector_fits layout e.begin ≡ true
    ops : ops_fit layout e.ops ≡ true
    reads : pairs_fit layout e.reads ≡ true
    writes : pairs_fit layout e.writes ≡ true

  entry_parts : (e : Entry) → entry_fits layout e ≡ true → EntryParts e
  unfolding entry_fits
  entry_parts e h =
      let a = and_true (is_site layout e.origin) (txn_fits e.txn && (is_u64 e.seq && (vector_fits layout e.begin && (ops_fit layout e.ops && (pairs_fit layout e.reads && pairs_fit layout e.writes))))) h in
      let b = and_true (txn_fits e.txn) (is_u64 e.seq && (vector_fits layout e.begin && (ops_fit layout e.ops && (pairs_fit layout e.reads && pairs_fit layout e.writes)))) a.1 in
      let c = and_true (is_u64 e.seq) (vector_fits layout e.begin && (ops_fit layout e.ops && (pairs_fit layout e.reads && pairs_fit layout e.writes))) b.1 in
      let d = and_true (vector_fits layout e.begin) (ops_fit layout e.ops && (pairs_fit layout e.reads && pairs_fit layout e.writes)) c.1 in
      let f = and_true (ops_fit layout e.ops) (pairs_fit layout e.reads && pairs_fit layout e.writes) d.1 in
      let g = and_true (pairs_fit layout e.reads) (pairs_fit layout e.writes) f.1 in
      record { origin = a.0; txn = b.0; seq = c.0; begin = d.0; ops = f.0; reads = g.0; writes = g.1 }

  commit_back : (e : Entry) → entry_fits layout e ≡ true → ActBack layout (record { site = e.origin; pending = pendings.Commit e })
  unfolding kinds.act_of kinds.commit_of kinds.commit_words kinds.entry_at word_at
  commit_back e h =
      let p = entry_parts e h in
      let front : Words = codes "commit" ∷ decimal e.origin ∷ txn_text e.txn ∷ decimal e.seq ∷ [] in
      let back : Words = codes "ops" ∷ ops_text e.ops ∷ codes "reads" ∷ pairs_text e.reads ∷ codes "writes" ∷ pairs_text e.writes ∷ [] in
      let ws : Words = act_words e.origin (pendings.Commit e) in
      let w = vector_again layout front e.begin back limits.some_site p.begin in
      let vw : Words = vector_words e.begin in
      let long = length_after front vw back in
      record {
        words = word_then (record { is = refl }) (word_then (again.site_word layout limits e.origin p.origin) (word_then (again.attempt_word layout limits e.txn p.txn) (word_then (again.u64_word layout limits e.seq p.seq)
            (words_then (again.vector_typed layout limits e.begin p.begin) (word_then (record { is = refl }) (word_then (again.ops_word layout limits e.ops p.ops) (word_then (record { is = refl })
            (word_then (again.pairs_word layout limits e.reads p.reads) (word_then (record { is = refl }) (word_then (again.pairs_word layout limits e.writes p.writes) no_words))))))))));
        read = rw (
          w.end,
          fixed_again ws (4 + length vw) (codes "ops") (first_after front vw back),
          fixed_again ws ((4 + length vw) + 2) (codes "reads") (word_after front vw back 2),
          fixed_again ws ((4 + length vw) + 4) (codes "writes") (word_after front vw back 4),
          count_again ws ((4 + length vw) + 6) long,
          u8_again ws 1 e.origin refl (site_small layout e.origin limits p.origin),
          txn_back e.txn p.txn,
          u64_again ws 3 e.seq refl p.seq,
          w.numbers,
          word_after front vw back 1,
          word_after front vw back 3,
          word_after front vw back 5,
          again.ops_back layout limits e.ops p.ops,
          again.pairs_back layout limits e.reads p.reads,
          again.pairs_back layout limits e.writes p.writes,
          p.origin,
          txn_session e.txn p.txn,
          again.ops_range layout limits e.ops p.ops,
          again.pairs_range layout limits e.reads p.reads,
          again.pairs_range layout limits e.writes p.writes,
        ) refl;
      }

  act_back : (site : ℕ) (pending : Pending) → pending_fits layout site pending ≡ true → ActBack layout (record { site = site; pending = pending })
  unfolding pending_fits
  act_back site (pendings.Commit e) h =
      let a = and_true (site == e.origin) (entry_fits layout e) h in
      subst (λ (s : ℕ). ActBack layout (record { site = s; pending = pendings.Commit e })) (sym (eqb-true site e.origin a.0)) (commit_back e a.1)
  act_back site (pendings.Release part epoch to vector) h = release_back site part epoch to vector h
  act_back site (pendings.Grant part epoch vector) h = grant_back site part epoch vector h

  commit_step : (e : Entry) → step_fits layout (steps.Commit e) ≡ true → Back layout (steps.Commit e)
  unfolding step_fits kinds.step_of kinds.site_step_of word_at
  commit_step e h = let a = commit_back e h in record { words = a.words; read = rw (a.read) refl }

  release_step : (site part epoch to : ℕ) (vector : List ℕ) → step_fits layout (steps.Release site part epoch to vector) ≡ true → Back layout (steps.Release site part epoch to vector)
  unfolding step_fits kinds.step_of kinds.site_step_of word_at
  release_step site part epoch to vector h = let a = release_back site part epoch to vector h in record { words = a.words; read = rw (a.read) refl }

  grant_step : (site part epoch : ℕ) (vector : List ℕ) → step_fits layout (steps.Grant site part epoch vector) ≡ true → Back layout (steps.Grant site part epoch vector)
  unfolding step_fits kinds.step_of kinds.site_step_of word_at
  grant_step site part epoch vector h = let a = grant_back site part epoch vector h in record { words = a.words; read = rw (a.read) refl }

  pub doubt_back : (site : ℕ) (pending : Pending) → step_fits layout (steps.Doubt site pending) ≡ true → Back layout (steps.Doubt site pending)
  unfolding step_fits kinds.step_of kinds.site_step_of word_at
  doubt_back site pending h =
      let a = act_back site pending h in
      record { words = word_then (record { is = refl }) a.words; read = rw (a.read) refl }

  -- ---- routes

  -- what a Route that fits has
  record RouteParts (txn : TxnId) (want : Want) (min : List ℕ) (site : ℕ) : Type 0 where
    txn_fit : txn_fits txn ≡ true
    want_fit : want_fits layout want ≡ true
    min_fit : vector_fits layout min ≡ true
    site_fit : is_site layout site ≡ true

  route_parts : (txn : TxnId) (want : Want) (min : List ℕ) (site : ℕ) (choice : Choice) → step_fits layout (steps.Route txn want min site choice) ≡ true → RouteParts txn want min site
  unfolding step_fits
  route_parts txn want min site choice h =
      let a = and_true (txn_fits txn) (want_fits layout want && (vector_fits layout min && is_site layout site)) h in
      let b = and_true (want_fits layout want) (vector_fits layout min && is_site layout site) a.1 in
      let c = and_true (vector_fits layout min) (is_site layout site) b.1 in
      record { txn_fit = a.0; want_fit = b.0; min_fit = c.0; site_fit = c.1 }

  -- the words from `min` on
  way_words : (min : List ℕ) (site : ℕ) (choice : Choice) → vector_fits layout min ≡ true → is_site layout site ≡ true
      → AreWords (codes "min" ∷ (vector_words min ++ (codes "to" ∷ decimal site ∷ choice_text choice ∷ [])))
  way_words min site choice v s =
      word_then (record { is = refl }) (words_then (again.vector_typed layout limits min v) (word_then (record { is = refl }) (word_then (again.site_word layout limits site s) (word_then (choice_word choice) no_words))))

  txn_route : (txn : TxnId) (keys min : List ℕ) (site : ℕ) (choice : Choice) → step_fits layout (steps.Route txn (wants.Txn keys) min site choice) ≡ true
      → Back layout (steps.Route txn (wants.Txn keys) min site choice)
  unfolding want_fits kinds.step_of kinds.route_of kinds.sent_of kinds.way_words kinds.way_at kinds.way_min kinds.declared_of word_at
  txn_route txn keys min site choice h =
      let p = route_parts txn (wants.Txn keys) min site choice h in
      let k = and_true (fit_keys layout keys) (ascends keys) p.want_fit in
      let front : Words = codes "route" ∷ txn_text txn ∷ codes "txn" ∷ keys_text keys ∷ codes "min" ∷ [] in
      let back : Words = codes "to" ∷ decimal site ∷ choice_text choice ∷ [] in
      let ws : Words = step_words (steps.Route txn (wants.Txn keys) min site choice) in
      let w = vector_again layout front min back limits.some_site p.min_fit in
      let vw : Words = vector_words min in
      record {
        words = word_then (record { is = refl }) (word_then (again.attempt_word layout limits txn p.txn_fit) (word_then (record { is = refl }) (word_then (again.keys_word layout limits keys k.0) (way_words min site choice p.min_fit p.site_fit))));
        read = rw (
          w.end,
          fixed_again ws 4 (codes "min") refl,
          fixed_again ws (5 + length vw) (codes "to") (first_after front vw back),
          choice_again ws ((5 + length vw) + 2) choice (word_after front vw back 2),
          count_again ws ((5 + length vw) + 3) (length_after front vw back),
          txn_back txn p.txn_fit,
          w.numbers,
          u8_again ws ((5 + length vw) + 1) site (word_after front vw back 1) (site_small layout site limits p.site_fit),
          again.keys_back layout limits keys k.0,
          txn_session txn p.txn_fit,
          p.site_fit,
          k.0,
          k.1,
        ) refl;
      }

  place_route : (txn : TxnId) (part : ℕ) (min : List ℕ) (site : ℕ) (choice : Choice) → step_fits layout (steps.Route txn (wants.Place part) min site choice) ≡ true
      → Back layout (steps.Route txn (wants.Place part) min site choice)
  unfolding want_fits kinds.step_of kinds.route_of kinds.placed_of kinds.way_words kinds.way_at kinds.way_min word_at
  place_route txn part min site choice h =
      let p = route_parts txn (wants.Place part) min site choice h in
      let front : Words = codes "route" ∷ txn_text txn ∷ codes "place" ∷ decimal part ∷ codes "min" ∷ [] in
      let back : Words = codes "to" ∷ decimal site ∷ choice_text choice ∷ [] in
      let ws : Words = step_words (steps.Route txn (wants.Place part) min site choice) in
      let w = vector_again layout front min back limits.some_site p.min_fit in
      let vw : Words = vector_words min in
      record {
        words = word_then (record { is = refl }) (word_then (again.attempt_word layout limits txn p.txn_fit) (word_then (record { is = refl }) (word_then (again.part_word layout limits part p.want_fit) (way_words min site choice p.min_fit p.site_fit))));
        read = rw (
          w.end,
          fixed_again ws 4 (codes "min") refl,
          fixed_again ws (5 + length vw) (codes "to") (first_after front vw back),
          choice_again ws ((5 + length vw) + 2) choice (word_after front vw back 2),
          count_again ws ((5 + length vw) + 3) (length_after front vw back),
          txn_back txn p.txn_fit,
          w.numbers,
          u8_again ws ((5 + length vw) + 1) site (word_after front vw back 1) (site_small layout site limits p.site_fit),
          u16_again ws 3 part refl (part_small layout part limits p.want_fit),
          txn_session txn p.txn_fit,
          p.site_fit,
          p.want_fit,
        ) refl;
      }

  restart_route : (txn : TxnId) (min : List ℕ) (site : ℕ) (choice : Choice) → step_fits layout (steps.Route txn wants.Restart min site choice) ≡ true
      → Back layout (steps.Route txn wants.Restart min site choice)
  unfolding want_fits kinds.step_of kinds.route_of kinds.restarted_of kinds.way_words kinds.way_at kinds.way_min word_at
  restart_route txn min site choice h =
      let p = route_parts txn wants.Restart min site choice h in
      let front : Words = codes "route" ∷ txn_text txn ∷ codes "restart" ∷ codes "min" ∷ [] in
      let back : Words = codes "to" ∷ decimal site ∷ choice_text choice ∷ [] in
      let ws : Words = step_words (steps.Route txn wants.Restart min site choice) in
      let w = vector_again layout front min back limits.some_site p.min_fit in
      let vw : Words = vector_words min in
      record {
        words = word_then (record { is = refl }) (word_then (again.attempt_word layout limits txn p.txn_fit) (word_then (record { is = refl }) (way_words min site choice p.min_fit p.site_fit)));
        read = rw (
          w.end,
          fixed_again ws 3 (codes "min") refl,
          fixed_again ws (4 + length vw) (codes "to") (first_after front vw back),
          choice_again ws ((4 + length vw) + 2) choice (word_after front vw back 2),
          count_again ws ((4 + length vw) + 3) (length_after front vw back),
          txn_back txn p.txn_fit,
          w.numbers,
          u8_again ws ((4 + length vw) + 1) site (word_after front vw back 1) (site_small layout site limits p.site_fit),
          txn_session txn p.txn_fit,
          p.site_fit,
        ) refl;
      }

  -- ---- any step

  pub step_back : (step : Step) → step_fits layout step ≡ true → Back layout step
  step_back (steps.Route txn (wants.Txn keys) min site choice) h = txn_route txn keys min site choice h
  step_back (steps.Route txn (wants.Place part) min site choice) h = place_route txn part min site choice h
  step_back (steps.Route txn wants.Restart min site choice) h = restart_route txn min site choice h
  step_back (steps.Reply session number said) h = again.reply_back layout limits session number said h
  step_back (steps.Ask part epoch to txn) h = again.ask_back layout limits part epoch to txn h
  step_back (steps.Settle part epoch) h = again.settle_back layout limits part epoch h
  step_back (steps.Begin site txn begin) h = again.begin_back layout limits site txn begin h
  step_back (steps.Moved site txn) h = again.moved_back layout limits site txn h
  step_back (steps.Commit entry) h = commit_step entry h
  step_back (steps.End site txn ops reads) h = again.end_back layout limits site txn ops reads h
  step_back (steps.Fail site txn cause) h = again.fail_back layout limits site txn cause h
  step_back (steps.Refresh site origin) h = again.refresh_back layout limits site origin h
  step_back (steps.Release site part epoch to vector) h = release_step site part epoch to vector h
  step_back (steps.Grant site part epoch vector) h = grant_step site part epoch vector h
  step_back (steps.Doubt site pending) h = doubt_back site pending h
  step_back (steps.Restart site vector found) h = again.restart_back layout limits site vector found h
