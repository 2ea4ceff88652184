-- Files and a sink that are held in memory. Their calls are counted from 0, and those whose numbers are listed fail.
use Rattle.std.specs.Prelude.{ℕ, ◌+◌, ◌-◌, ◌^◌, ◌==◌, ◌||◌, min, Bool, List, ◌++◌, drop, length, is_none, unwrap_or}
use Rattle.std.specs.List.{list_any}
use Rattle.std.specs.Option.{option_map}
use Rattle.std.specs.declared.option.Option.{Option}
use Rattle.rules_text.specs.streams.Known.{content_in}

-- one more, where a count stops at the end of its range
abbrev pub one_more : ℕ → ℕ
one_more n = min (n + 1) (2 ^ 64 - 1)

abbrev pub is_listed : List ℕ → ℕ → Bool
is_listed numbers n = list_any (λ m. m == n) numbers

-- ---- one file, no call of which fails

-- the path that may be started, what the file holds, and what is left of it
pub record HeldFile : Type 0 where
  pub path : List ℕ
  pub content : List ℕ
  pub left : List ℕ

-- ---- files

-- the paths that may be started, and the files that there are; the calls that fail; how many calls there were, and how
-- many of them failed; what is left of the file that was started
pub record HeldFiles : Type 0 where
  pub lent : List (List ℕ)
  pub files : List (List ℕ × List ℕ)
  pub fails : List ℕ
  pub calls : ℕ
  pub faults : ℕ
  pub left : Option (List ℕ)

-- a start fails where its number is listed, or where there is no file of that path
abbrev pub start_fails : HeldFiles → List ℕ → Bool
start_fails held path = is_listed held.fails held.calls || is_none (content_in held.files path)

abbrev pub read_fails : HeldFiles → Bool
read_fails held = is_listed held.fails held.calls

-- the files after a call that failed
abbrev pub call_failed : HeldFiles → HeldFiles
call_failed held = record held { calls = one_more held.calls; faults = one_more held.faults }

abbrev pub started : HeldFiles → List ℕ → HeldFiles
started held path = record held { calls = one_more held.calls; left = content_in held.files path }

-- how many bytes a read gives: as many as are left and there is room for
abbrev pub count_given : HeldFiles → ℕ → ℕ
count_given held room = min (unwrap_or (option_map (λ (bytes : List ℕ). length bytes) held.left) 0) room

abbrev pub read_from : HeldFiles → ℕ → HeldFiles
read_from held count = record held { calls = one_more held.calls; left = option_map (λ (bytes : List ℕ). drop count bytes) held.left }

-- ---- files of the system

-- the paths that may be started, and how many calls failed
pub record SystemFiles : Type 0 where
  pub lent : List (List ℕ)
  pub faults : ℕ

-- ---- a sink

-- all that was written; the calls that fail; how many calls there were, and how many of them failed
pub record HeldSink : Type 0 where
  pub bytes : List ℕ
  pub fails : List ℕ
  pub calls : ℕ
  pub faults : ℕ

abbrev pub write_fails : HeldSink → Bool
write_fails held = is_listed held.fails held.calls

abbrev pub write_failed : HeldSink → HeldSink
write_failed held = record held { calls = one_more held.calls; faults = one_more held.faults }

abbrev pub written_to : HeldSink → List ℕ → HeldSink
written_to held piece = record held { bytes = held.bytes ++ piece; calls = one_more held.calls }
