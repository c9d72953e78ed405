-- What a line says by its words, or its first fault. The faults come in the order word, count, number, range, repeat. Each
-- definition has the words from the kind's own word on, and whether the line is neat: a line feed ends it, and one space stands
-- between each two words.
use Rattle.std.specs.Prelude.{ℕ, ◌+◌, List, length, drop, Result, Ok, Err, Bool, ◌==◌, ◌&&◌, if◌then◌else◌, codes}
use Rattle.std.specs.Str.{bytes_eq}
use Rattle.dm_event.specs.Layout.{Layout, is_site, is_part, is_session}
use Rattle.dm_event.specs.declared.step.Cause.{Cause}
use Rattle.dm_event.specs.declared.step.Cause.TheVariants.{Undeclared, Log, Damage, Memory}
use Rattle.dm_event.specs.declared.step.Choice.{Choice}
use Rattle.dm_event.specs.declared.step.Entry.{Entry}
use Rattle.dm_event.specs.declared.step.Pending.{Pending}
use Rattle.dm_event.specs.declared.step.Pending.TheVariants as pendings
use Rattle.dm_event.specs.declared.step.Said.{Said}
use Rattle.dm_event.specs.declared.step.Said.TheVariants as saids
use Rattle.dm_event.specs.declared.step.Step.{Step}
use Rattle.dm_event.specs.declared.step.Step.TheVariants as steps
use Rattle.dm_event.specs.declared.step.Want.TheVariants as wants
use Rattle.dm_event.specs.declared.why.LineFault.{LineFault}
use Rattle.dm_event.specs.declared.why.LineFault.TheVariants.{Count, Range, Repeat}
use Rattle.dm_fields.specs.Fields.{Words, ◌>>=◌, made, check, or_fault, word_at, fixed_word, unknown_at, u8_at, u16_at, u32_at, u64_at}
use Rattle.dm_kinds.specs.declared.act.Act.{Act}
use Rattle.dm_kinds.specs.declared.route.Way.{Way}
use Rattle.dm_kinds.specs.Values.{txn_of, key_of, pair_of, op_of, list_of, byte_of, vector_end, vector_at, choice_at, found_at}
use Rattle.dm_kinds.specs.Ranges.{fit_ops, fit_pairs, fit_keys, ascends, fits_said}

-- the line is neat and has so many words
unfoldable pub word_count : Bool → Words → ℕ → Result (Unit {0}) LineFault
word_count neat ws count = check Count ((length ws == count) && neat)

-- ---- routes

-- `min VEC to I CHOICE` from the place n on, to the end: the choice
unfoldable pub way_words : Bool → Words → ℕ → Result Choice LineFault
way_words neat ws n = do
  min ← fixed_word ws n (codes "min")
  to ← fixed_word ws (vector_end ws (n + 1)) (codes "to")
  choice ← choice_at ws (vector_end ws (n + 1) + 2)
  count ← word_count neat ws (vector_end ws (n + 1) + 3)
  Ok choice

unfoldable pub way_at : Layout → Words → ℕ → Result Way LineFault
way_at layout ws n = do
  txn ← txn_of (word_at ws 1)
  min ← vector_at layout ws (n + 1)
  site ← u8_at ws (vector_end ws (n + 1) + 1)
  Ok (record { txn = txn; min = min; site = site })

-- the least vector of a way in its ranges
unfoldable pub way_min : Layout → Way → Result (List ℕ) LineFault
way_min layout way = do
  range ← check Range (is_session way.txn.session && is_site layout way.site)
  or_fault Range way.min

-- keys in their ranges that ascend
unfoldable pub declared_of : Layout → List ℕ → Result (List ℕ) LineFault
declared_of layout keys = do
  range ← check Range (fit_keys layout keys)
  repeat ← check Repeat (ascends keys)
  Ok keys

-- `route TXN txn KEYS min VEC to I CHOICE`
unfoldable pub sent_of : Layout → Bool → Words → Result Step LineFault
sent_of layout neat ws = do
  choice ← way_words neat ws 4
  way ← way_at layout ws 4
  keys ← list_of key_of (word_at ws 3)
  min ← way_min layout way
  declared ← declared_of layout keys
  Ok (steps.Route way.txn (wants.Txn declared) min way.site choice)

-- `route TXN place P min VEC to I CHOICE`
unfoldable pub placed_of : Layout → Bool → Words → Result Step LineFault
placed_of layout neat ws = do
  choice ← way_words neat ws 4
  way ← way_at layout ws 4
  part ← u16_at ws 3
  min ← way_min layout way
  range ← check Range (is_part layout part)
  Ok (steps.Route way.txn (wants.Place part) min way.site choice)

-- `route TXN restart min VEC to I CHOICE`
unfoldable pub restarted_of : Layout → Bool → Words → Result Step LineFault
restarted_of layout neat ws = do
  choice ← way_words neat ws 3
  way ← way_at layout ws 3
  min ← way_min layout way
  Ok (steps.Route way.txn wants.Restart min way.site choice)

unfoldable pub route_of : Layout → Bool → Words → Result Step LineFault
route_of layout neat ws =
    if bytes_eq (word_at ws 2) (codes "txn") then sent_of layout neat ws
    else (if bytes_eq (word_at ws 2) (codes "place") then placed_of layout neat ws
    else (if bytes_eq (word_at ws 2) (codes "restart") then restarted_of layout neat ws
    else Err (unknown_at ws 2)))

-- ---- replies

-- `PLACE READ WRITTEN` from the place n on
unfoldable pub damage_at : Words → ℕ → ℕ → Result Cause LineFault
damage_at ws site n = do
  place ← u64_at ws n
  read ← byte_of (word_at ws (n + 1))
  written ← byte_of (word_at ws (n + 2))
  Ok (Damage site place read written)

-- `refused` is the third word behind the kind's, and the last part begins with the fourth

unfoldable pub undeclared_of : Bool → Words → Result Cause LineFault
undeclared_of neat ws = do
  count ← word_count neat ws 6
  key ← key_of (word_at ws 5)
  Ok (Undeclared key)

unfoldable pub log_of : Bool → Words → Result Cause LineFault
log_of neat ws = do
  count ← word_count neat ws 6
  site ← u8_at ws 5
  Ok (Log site)

unfoldable pub damage_of : Bool → Words → Result Cause LineFault
damage_of neat ws = do
  count ← word_count neat ws 9
  site ← u8_at ws 5
  damage_at ws site 6

unfoldable pub memory_of : Bool → Words → ℕ → Result Cause LineFault
memory_of neat ws n = do
  count ← word_count neat ws n
  Ok Memory

unfoldable pub refusal_of : Bool → Words → Result Cause LineFault
refusal_of neat ws =
    if bytes_eq (word_at ws 4) (codes "undeclared") then undeclared_of neat ws
    else (if bytes_eq (word_at ws 4) (codes "log") then log_of neat ws
    else (if bytes_eq (word_at ws 4) (codes "damage") then damage_of neat ws
    else (if bytes_eq (word_at ws 4) (codes "memory") then memory_of neat ws 5
    else Err (unknown_at ws 4))))

unfoldable pub committed_of : Bool → Words → Result Said LineFault
committed_of neat ws = do
  count ← word_count neat ws 6
  site ← u8_at ws 4
  seq ← u64_at ws 5
  Ok (saids.Committed site seq)

-- the site of `read I`, `doubt I` and `restarted I`
unfoldable pub said_site : Bool → Words → Result ℕ LineFault
said_site neat ws = do
  count ← word_count neat ws 5
  u8_at ws 4

unfoldable pub settled_of : Bool → Words → Result Said LineFault
settled_of neat ws = do
  count ← word_count neat ws 7
  part ← u16_at ws 4
  site ← u8_at ws 5
  epoch ← u64_at ws 6
  Ok (saids.Placed part site epoch)

-- the outcome, its ranges left open
unfoldable pub said_of : Bool → Words → Result Said LineFault
said_of neat ws =
    if bytes_eq (word_at ws 3) (codes "committed") then committed_of neat ws
    else (if bytes_eq (word_at ws 3) (codes "read") then made saids.Read (said_site neat ws)
    else (if bytes_eq (word_at ws 3) (codes "doubt") then made saids.InDoubt (said_site neat ws)
    else (if bytes_eq (word_at ws 3) (codes "placed") then settled_of neat ws
    else (if bytes_eq (word_at ws 3) (codes "restarted") then made saids.Restarted (said_site neat ws)
    else (if bytes_eq (word_at ws 3) (codes "refused") then made saids.Refused (refusal_of neat ws)
    else Err (unknown_at ws 3))))))

-- `reply C N SAID`
unfoldable pub reply_of : Layout → Bool → Words → Result Step LineFault
reply_of layout neat ws = do
  said ← said_of neat ws
  session ← u32_at ws 1
  number ← u32_at ws 2
  range ← check Range (is_session session && fits_said layout said)
  Ok (steps.Reply session number said)

-- ---- hand-overs

-- `ask P EPOCH TO TXN`
unfoldable pub ask_of : Layout → Bool → Words → Result Step LineFault
ask_of layout neat ws = do
  count ← word_count neat ws 5
  part ← u16_at ws 1
  epoch ← u64_at ws 2
  to ← u8_at ws 3
  txn ← txn_of (word_at ws 4)
  range ← check Range (is_part layout part && (is_site layout to && is_session txn.session))
  Ok (steps.Ask part epoch to txn)

-- `settle P EPOCH`
unfoldable pub settle_of : Layout → Bool → Words → Result Step LineFault
settle_of layout neat ws = do
  count ← word_count neat ws 3
  part ← u16_at ws 1
  epoch ← u64_at ws 2
  range ← check Range (is_part layout part)
  Ok (steps.Settle part epoch)

-- `release I P EPOCH to K VEC`
unfoldable pub release_of : Layout → Bool → Words → Result Act LineFault
release_of layout neat ws = do
  to ← fixed_word ws 4 (codes "to")
  count ← word_count neat ws (vector_end ws 6)
  site ← u8_at ws 1
  part ← u16_at ws 2
  epoch ← u64_at ws 3
  to ← u8_at ws 5
  vector ← vector_at layout ws 6
  range ← check Range (is_site layout site && (is_part layout part && is_site layout to))
  vector ← or_fault Range vector
  Ok (record { site = site; pending = pendings.Release part epoch to vector })

-- `grant I P EPOCH VEC`
unfoldable pub grant_of : Layout → Bool → Words → Result Act LineFault
grant_of layout neat ws = do
  count ← word_count neat ws (vector_end ws 4)
  site ← u8_at ws 1
  part ← u16_at ws 2
  epoch ← u64_at ws 3
  vector ← vector_at layout ws 4
  range ← check Range (is_site layout site && is_part layout part)
  vector ← or_fault Range vector
  Ok (record { site = site; pending = pendings.Grant part epoch vector })

-- ---- runs

-- `begin I TXN VEC`
unfoldable pub begin_of : Layout → Bool → Words → Result Step LineFault
begin_of layout neat ws = do
  count ← word_count neat ws (vector_end ws 3)
  site ← u8_at ws 1
  txn ← txn_of (word_at ws 2)
  begin ← vector_at layout ws 3
  range ← check Range (is_site layout site && is_session txn.session)
  begin ← or_fault Range begin
  Ok (steps.Begin site txn begin)

-- `moved I TXN`
unfoldable pub moved_of : Layout → Bool → Words → Result Step LineFault
moved_of layout neat ws = do
  count ← word_count neat ws 3
  site ← u8_at ws 1
  txn ← txn_of (word_at ws 2)
  range ← check Range (is_site layout site && is_session txn.session)
  Ok (steps.Moved site txn)

-- `commit I TXN SEQ VEC ops OPS reads PAIRS writes PAIRS`, the last six words from the place n on
unfoldable pub commit_words : Bool → Words → ℕ → Result (Unit {0}) LineFault
commit_words neat ws n = do
  ops ← fixed_word ws n (codes "ops")
  reads ← fixed_word ws (n + 2) (codes "reads")
  writes ← fixed_word ws (n + 4) (codes "writes")
  word_count neat ws (n + 6)

-- the entry of a commit, its ranges left open but for the length of its vector
unfoldable pub entry_at : Layout → Words → ℕ → Result Entry LineFault
entry_at layout ws n = do
  origin ← u8_at ws 1
  txn ← txn_of (word_at ws 2)
  seq ← u64_at ws 3
  begin ← vector_at layout ws 4
  ops ← list_of op_of (word_at ws (n + 1))
  reads ← list_of pair_of (word_at ws (n + 3))
  writes ← list_of pair_of (word_at ws (n + 5))
  begin ← or_fault Range begin
  Ok (record { txn = txn; origin = origin; seq = seq; begin = begin; ops = ops; reads = reads; writes = writes })

abbrev pub fits_entry : Layout → Entry → Bool
fits_entry layout e =
    is_site layout e.origin && (is_session e.txn.session && (fit_ops layout e.ops && (fit_pairs layout e.reads && fit_pairs layout e.writes)))

unfoldable pub commit_of : Layout → Bool → Words → Result Act LineFault
commit_of layout neat ws = do
  words ← commit_words neat ws (vector_end ws 4)
  entry ← entry_at layout ws (vector_end ws 4)
  range ← check Range (fits_entry layout entry)
  Ok (record { site = entry.origin; pending = pendings.Commit entry })

-- `end I TXN ops OPS reads PAIRS`
unfoldable pub end_of : Layout → Bool → Words → Result Step LineFault
end_of layout neat ws = do
  ops ← fixed_word ws 3 (codes "ops")
  reads ← fixed_word ws 5 (codes "reads")
  count ← word_count neat ws 7
  site ← u8_at ws 1
  txn ← txn_of (word_at ws 2)
  ops ← list_of op_of (word_at ws 4)
  reads ← list_of pair_of (word_at ws 6)
  range ← check Range (is_site layout site && (is_session txn.session && (fit_ops layout ops && fit_pairs layout reads)))
  Ok (steps.End site txn ops reads)

-- `log` and `damage` are of the step's own site
unfoldable pub own_log_of : Bool → Words → Result Cause LineFault
own_log_of neat ws = do
  count ← word_count neat ws 4
  site ← u8_at ws 1
  Ok (Log site)

unfoldable pub own_damage_of : Bool → Words → Result Cause LineFault
own_damage_of neat ws = do
  count ← word_count neat ws 7
  site ← u8_at ws 1
  damage_at ws site 4

unfoldable pub cause_of : Bool → Words → Result Cause LineFault
cause_of neat ws =
    if bytes_eq (word_at ws 3) (codes "log") then own_log_of neat ws
    else (if bytes_eq (word_at ws 3) (codes "memory") then memory_of neat ws 4
    else (if bytes_eq (word_at ws 3) (codes "damage") then own_damage_of neat ws
    else Err (unknown_at ws 3)))

-- `fail I TXN log`, `fail I TXN memory`, `fail I TXN damage PLACE READ WRITTEN`
unfoldable pub fail_of : Layout → Bool → Words → Result Step LineFault
fail_of layout neat ws = do
  cause ← cause_of neat ws
  site ← u8_at ws 1
  txn ← txn_of (word_at ws 2)
  range ← check Range (is_site layout site && is_session txn.session)
  Ok (steps.Fail site txn cause)

-- ---- sites

-- `refresh I ORIGIN`
unfoldable pub refresh_of : Layout → Bool → Words → Result Step LineFault
refresh_of layout neat ws = do
  count ← word_count neat ws 3
  site ← u8_at ws 1
  origin ← u8_at ws 2
  range ← check Range (is_site layout site && is_site layout origin)
  Ok (steps.Refresh site origin)

-- `restart I VEC FOUND`
unfoldable pub restart_of : Layout → Bool → Words → Result Step LineFault
restart_of layout neat ws = do
  found ← found_at ws (vector_end ws 2)
  count ← word_count neat ws (vector_end ws 2 + 1)
  site ← u8_at ws 1
  vector ← vector_at layout ws 2
  range ← check Range (is_site layout site)
  vector ← or_fault Range vector
  Ok (steps.Restart site vector found)

-- ---- all of them

-- the step that the site takes
abbrev pub taken : ℕ → Pending → Step
taken site (pendings.Commit entry) = steps.Commit entry
taken site (pendings.Release part epoch to vector) = steps.Release site part epoch to vector
taken site (pendings.Grant part epoch vector) = steps.Grant site part epoch vector

-- a commit, a release or a grant
unfoldable pub act_of : Layout → Bool → Words → Result Act LineFault
act_of layout neat ws =
    if bytes_eq (word_at ws 0) (codes "commit") then commit_of layout neat ws
    else (if bytes_eq (word_at ws 0) (codes "release") then release_of layout neat ws
    else (if bytes_eq (word_at ws 0) (codes "grant") then grant_of layout neat ws
    else Err (unknown_at ws 0)))

unfoldable pub site_step_of : Layout → Bool → Words → Result Step LineFault
site_step_of layout neat ws =
    if bytes_eq (word_at ws 0) (codes "end") then end_of layout neat ws
    else (if bytes_eq (word_at ws 0) (codes "fail") then fail_of layout neat ws
    else (if bytes_eq (word_at ws 0) (codes "refresh") then refresh_of layout neat ws
    else (if bytes_eq (word_at ws 0) (codes "restart") then restart_of layout neat ws
    else (if bytes_eq (word_at ws 0) (codes "doubt") then made (λ act. steps.Doubt act.site act.pending) (act_of layout neat (drop 1 ws))
    else made (λ act. taken act.site act.pending) (act_of layout neat ws)))))

unfoldable pub step_of : Layout → Bool → Words → Result Step LineFault
step_of layout neat ws =
    if bytes_eq (word_at ws 0) (codes "route") then route_of layout neat ws
    else (if bytes_eq (word_at ws 0) (codes "reply") then reply_of layout neat ws
    else (if bytes_eq (word_at ws 0) (codes "ask") then ask_of layout neat ws
    else (if bytes_eq (word_at ws 0) (codes "settle") then settle_of layout neat ws
    else (if bytes_eq (word_at ws 0) (codes "begin") then begin_of layout neat ws
    else (if bytes_eq (word_at ws 0) (codes "moved") then moved_of layout neat ws
    else site_step_of layout neat ws)))))
