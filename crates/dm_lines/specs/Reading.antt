-- How a line of a step file is read: by its words, for what it says or its first fault. The faults come in the order word,
-- count, number, range, repeat.
use Rattle.std.specs.Prelude.{ℕ, ℤ, ◌+◌, ◌-◌, ◌^◌, List, [], ◌∷◌, ◌++◌, length, drop, Option, Some, None, Result, Ok, Err, Bool, true, false, ◌==◌, ◌&&◌, ◌||◌}
use Rattle.std.specs.Prelude.{if◌then◌else◌, nat_le, nat_lt, codes}
use Rattle.std.specs.Str.{bytes_eq}
use Rattle.dm_event.specs.Ascending.{ascending}
use Rattle.dm_event.specs.Layout.{Layout, within_limits, fits_weights, is_between, is_site, is_part, is_key, is_session}
use Rattle.dm_event.specs.declared.limits.TheConstants.{MAX_KEYS, MAX_RANGES}
use Rattle.dm_event.specs.declared.schema.Weights.{Weights}
use Rattle.dm_event.specs.declared.step.Found.{Found}
use Rattle.dm_event.specs.declared.step.Found.TheVariants.{Clean, Kept, Lost}
use Rattle.dm_event.specs.declared.step.Want.TheVariants as want
use Rattle.dm_event.specs.declared.why.LineFault.{LineFault}
use Rattle.dm_event.specs.declared.why.LineFault.TheVariants.{Word, Count, Range, Repeat}
use Rattle.dm_text.specs.Text.{number_of}
use Rattle.dm_lines.specs.declared.line.Line.{Line}
use Rattle.dm_lines.specs.declared.line.Line.TheVariants as line
use Rattle.dm_fields.specs.Fields.{Words, ◌>>=◌, made, check, or_fault, word_at, fixed_word, unknown_at, word_count, u8_at, u16_at, u32_at, i64_at}
use Rattle.dm_lines.specs.Fields.{numbers_from}
use Rattle.dm_lines.specs.Ranges.{are_keys}

-- ---- the header

-- its fixed words
unfoldable pub header_words : Words → Result (Unit {0}) LineFault
header_words ws = do
  sites ← fixed_word ws 0 (codes "sites")
  parts ← fixed_word ws 2 (codes "parts")
  width ← fixed_word ws 4 (codes "width")
  fixed_word ws 6 (codes "masters")

-- the masters are as many as the partitions, where the number of partitions is a number
abbrev pub is_for_parts : Option ℕ → ℕ → Bool
is_for_parts None masters = true
is_for_parts (Some parts) masters = masters == parts

-- a header has a master for each partition, after its first seven words
unfoldable pub header_count : Words → Result (Unit {0}) LineFault
header_count ws = check Count (nat_le 7 (length ws) && is_for_parts (number_of (2 ^ 16 - 1) (word_at ws 3)) (length ws - 7))

-- weights of 1
abbrev pub even : Weights
even = record { balance = 1; delay = 1; together = 1 }

-- the opening of a header that has no further lines, where it keeps the limits
unfoldable pub opened : ℕ → ℕ → List ℕ → Result Layout LineFault
opened sites width masters =
    or_fault Range (within_limits (record { sites = sites; width = width; masters = masters; weights = even; values = [] }))

-- `sites M parts P width W masters m0 m1 ..`
unfoldable pub header_of : Words → Result Layout LineFault
header_of ws = do
  words ← header_words ws
  count ← header_count ws
  sites ← u8_at ws 1
  parts ← u16_at ws 3
  width ← u32_at ws 5
  masters ← numbers_from [] (2 ^ 8 - 1) (drop 7 ws)
  opened sites width masters

-- ---- the lines behind the header

-- the key has this value at the opening
abbrev pub valued : Layout → ℕ → ℤ → Layout
valued l key value = record {
  sites = l.sites;
  width = l.width;
  masters = l.masters;
  weights = l.weights;
  values = l.values ++ record { first = key; last = key; value = value } ∷ [];
}

-- `value K V`: of those for one key the last counts, and all of them are counted
unfoldable pub value_of : Layout → Words → Result Layout LineFault
value_of layout ws = do
  count ← word_count ws 3 3
  few ← check Count (nat_lt (length layout.values) MAX_RANGES)
  key ← u32_at ws 1
  value ← i64_at ws 2
  range ← check Range (is_key layout key)
  Ok (valued layout key value)

abbrev pub weighed : Layout → Weights → Layout
weighed l weights = record { sites = l.sites; width = l.width; masters = l.masters; weights = weights; values = l.values }

-- `weights B D C`: the last such line counts
unfoldable pub weights_of : Words → Result Weights LineFault
weights_of ws = do
  count ← word_count ws 4 4
  balance ← u32_at ws 1
  delay ← u32_at ws 2
  together ← u32_at ws 3
  range ← check Range (fits_weights (record { balance = balance; delay = delay; together = together }))
  Ok (record { balance = balance; delay = delay; together = together })

-- ---- routes

-- declared keys, in ascending order
unfoldable pub declared_of : Layout → List ℕ → Result (List ℕ) LineFault
declared_of layout keys = do
  range ← check Range (are_keys layout keys)
  or_fault Repeat (ascending keys)

-- the session at this place of a line of so many words
unfoldable pub session_of : Words → ℕ → ℕ → Result ℕ LineFault
session_of ws most n = do
  count ← word_count ws most most
  session ← u32_at ws n
  range ← check Range (is_session session)
  Ok session

-- four words, or 1 to 32 keys behind the word `keys`
unfoldable pub sent_count : Words → Result (Unit {0}) LineFault
sent_count ws = check Count ((length ws == 4) || is_between (5 + 1) (5 + MAX_KEYS) (length ws))

-- `route S at I keys K ..`, or `route S at I` where no key is declared
unfoldable pub sent_of : Layout → Words → Result Line LineFault
sent_of layout ws = do
  keys ← fixed_word ws 4 (codes "keys")
  count ← sent_count ws
  session ← u32_at ws 1
  site ← u8_at ws 3
  keys ← numbers_from [] (2 ^ 32 - 1) (drop 5 ws)
  range ← check Range (is_session session)
  range ← check Range (is_site layout site)
  declared ← declared_of layout keys
  Ok (line.Route session (want.Txn declared) (Some site))

-- `route S keys K ..`
unfoldable pub chosen_of : Layout → Words → Result Line LineFault
chosen_of layout ws = do
  count ← word_count ws (3 + 1) (3 + MAX_KEYS)
  session ← u32_at ws 1
  keys ← numbers_from [] (2 ^ 32 - 1) (drop 3 ws)
  range ← check Range (is_session session)
  declared ← declared_of layout keys
  Ok (line.Route session (want.Txn declared) None)

-- `route S place P I`
unfoldable pub place_of : Layout → Words → Result Line LineFault
place_of layout ws = do
  count ← word_count ws 5 5
  session ← u32_at ws 1
  part ← u16_at ws 3
  site ← u8_at ws 4
  range ← check Range (is_session session)
  range ← check Range (is_part layout part)
  range ← check Range (is_site layout site)
  Ok (line.Route session (want.Place part) (Some site))

-- `route S restart I`
unfoldable pub restarted_of : Layout → Words → Result Line LineFault
restarted_of layout ws = do
  count ← word_count ws 4 4
  session ← u32_at ws 1
  site ← u8_at ws 3
  range ← check Range (is_session session)
  range ← check Range (is_site layout site)
  Ok (line.Route session want.Restart (Some site))

-- the third word says what is routed and how; `route S` declares no key and leaves the choice
unfoldable pub route_of : Layout → Words → Result Line LineFault
route_of layout ws =
    if nat_le (length ws) 2 then made (λ session. line.Route session (want.Txn []) None) (session_of ws 2 1)
    else (if bytes_eq (word_at ws 2) (codes "at") then sent_of layout ws
    else (if bytes_eq (word_at ws 2) (codes "keys") then chosen_of layout ws
    else (if bytes_eq (word_at ws 2) (codes "place") then place_of layout ws
    else (if bytes_eq (word_at ws 2) (codes "restart") then restarted_of layout ws
    else Err Word))))

-- ---- the other lines of a session

-- `get S K`
unfoldable pub get_of : Layout → Words → Result Line LineFault
get_of layout ws = do
  count ← word_count ws 3 3
  session ← u32_at ws 1
  key ← u32_at ws 2
  range ← check Range (is_session session)
  range ← check Range (is_key layout key)
  Ok (line.Get session key)

-- the session, the key and the last number of `put S K V` and `add S K D`
unfoldable pub write_of : Layout → Words → Result (ℕ × ℕ × ℤ) LineFault
write_of layout ws = do
  count ← word_count ws 4 4
  session ← u32_at ws 1
  key ← u32_at ws 2
  number ← i64_at ws 3
  range ← check Range (is_session session)
  range ← check Range (is_key layout key)
  Ok (session, key, number)

-- whether it is for want of memory
unfoldable pub memory_of : Words → Result Bool LineFault
memory_of ws =
    if bytes_eq (word_at ws 2) (codes "log") then Ok false
    else (if bytes_eq (word_at ws 2) (codes "memory") then Ok true
    else Err (unknown_at ws 2))

-- `fail S log`, `fail S memory`
unfoldable pub fail_of : Words → Result (ℕ × Bool) LineFault
fail_of ws = do
  memory ← memory_of ws
  session ← session_of ws 3 1
  Ok (session, memory)

-- ---- the lines of a site or a partition

-- `refresh I J`
unfoldable pub refresh_of : Layout → Words → Result Line LineFault
refresh_of layout ws = do
  count ← word_count ws 3 3
  site ← u8_at ws 1
  origin ← u8_at ws 2
  range ← check Range (is_site layout site)
  range ← check Range (is_site layout origin)
  Ok (line.Refresh site origin)

-- `ask P S`
unfoldable pub ask_of : Layout → Words → Result Line LineFault
ask_of layout ws = do
  count ← word_count ws 3 3
  part ← u16_at ws 1
  session ← u32_at ws 2
  range ← check Range (is_part layout part)
  range ← check Range (is_session session)
  Ok (line.Ask part session)

-- the partition at this place of a line of so many words
unfoldable pub part_of : Layout → Words → ℕ → ℕ → Result ℕ LineFault
part_of layout ws most n = do
  count ← word_count ws most most
  part ← u16_at ws n
  range ← check Range (is_part layout part)
  Ok part

-- `doubt commit S`, `doubt release P`, `doubt grant P`
unfoldable pub doubt_of : Layout → Words → Result Line LineFault
doubt_of layout ws =
    if bytes_eq (word_at ws 1) (codes "commit") then made (λ session. line.DoubtCommit session) (session_of ws 3 2)
    else (if bytes_eq (word_at ws 1) (codes "release") then made (λ part. line.DoubtRelease part) (part_of layout ws 3 2)
    else (if bytes_eq (word_at ws 1) (codes "grant") then made (λ part. line.DoubtGrant part) (part_of layout ws 3 2)
    else Err (unknown_at ws 1)))

unfoldable pub found_of : Words → Result Found LineFault
found_of ws =
    if bytes_eq (word_at ws 2) (codes "clean") then Ok Clean
    else (if bytes_eq (word_at ws 2) (codes "kept") then Ok Kept
    else (if bytes_eq (word_at ws 2) (codes "lost") then Ok Lost
    else Err (unknown_at ws 2)))

-- `restart I clean`, `restart I kept`, `restart I lost`
unfoldable pub restart_of : Layout → Words → Result Line LineFault
restart_of layout ws = do
  found ← found_of ws
  count ← word_count ws 3 3
  site ← u8_at ws 1
  range ← check Range (is_site layout site)
  Ok (line.Restart site found)

unfoldable pub site_line_of : Layout → Words → Result Line LineFault
site_line_of layout ws =
    if bytes_eq (word_at ws 0) (codes "refresh") then refresh_of layout ws
    else (if bytes_eq (word_at ws 0) (codes "ask") then ask_of layout ws
    else (if bytes_eq (word_at ws 0) (codes "release") then made (λ part. line.Release part) (part_of layout ws 2 1)
    else (if bytes_eq (word_at ws 0) (codes "grant") then made (λ part. line.Grant part) (part_of layout ws 2 1)
    else (if bytes_eq (word_at ws 0) (codes "settle") then made (λ part. line.Settle part) (part_of layout ws 2 1)
    else (if bytes_eq (word_at ws 0) (codes "doubt") then doubt_of layout ws
    else (if bytes_eq (word_at ws 0) (codes "restart") then restart_of layout ws
    else Err Word))))))

-- ---- the command that the first word names

unfoldable pub line_of : Layout → Words → Result Line LineFault
line_of layout ws =
    if bytes_eq (word_at ws 0) (codes "route") then route_of layout ws
    else (if bytes_eq (word_at ws 0) (codes "begin") then made (λ session. line.Begin session) (session_of ws 2 1)
    else (if bytes_eq (word_at ws 0) (codes "get") then get_of layout ws
    else (if bytes_eq (word_at ws 0) (codes "put") then made (λ w. line.Put w.0 w.1 w.2) (write_of layout ws)
    else (if bytes_eq (word_at ws 0) (codes "add") then made (λ w. line.Add w.0 w.1 w.2) (write_of layout ws)
    else (if bytes_eq (word_at ws 0) (codes "commit") then made (λ session. line.Commit session) (session_of ws 2 1)
    else (if bytes_eq (word_at ws 0) (codes "reply") then made (λ session. line.Reply session) (session_of ws 2 1)
    else (if bytes_eq (word_at ws 0) (codes "fail") then made (λ f. line.Fail f.0 f.1) (fail_of ws)
    else site_line_of layout ws)))))))
