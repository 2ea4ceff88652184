-- What the host answers: a status and a text, by its words and by what the files hold.
use Rattle.std.specs.Prelude.{◌≡◌, ◌⊎◌, ℕ, ◌+◌, ◌-◌, ◌*◌, ◌==◌, ◌&&◌, not, nat_le, Bool, if◌then◌else◌, List, [], ◌∷◌, length, slice_index, codes, None, Some, IsSome, Result, Ok, Err}
use Rattle.std.specs.declared.option.Option.{Option}
use Rattle.std.specs.Char.{is_ascii_digit}
use Rattle.std.specs.Str.{bytes_eq, is_utf8}
use Rattle.rules_files.specs.workload.Workload.{scenario}
use Rattle.rules_world.specs.summary.Summary.{summary_line}
use Rattle.rules_world.specs.world.Receipts.{Receipt}
use Rattle.rules_world.specs.world.World.{World}
use Rattle.rules_files.specs.commands.Replay.{Replay, State, IsReplay}
use Rattle.rules_files.specs.commands.Answers.{Answer, done_with, replay_answer, usage_answer}
use Rattle.rules_files.specs.commands.Codec.{IsCodecAnswer, encode_node, decode_node}
use Rattle.rules_files.specs.commands.Scripts.{IsCheckAnswer}
use Rattle.rules_files.specs.commands.Audits.{IsAuditAnswer}
use Rattle.rules_files.specs.commands.Certificates.{IsCertifyAnswer, IsVerifyAnswer}
use Rattle.rules_files.specs.commands.Packs.{pack_node}
use Rattle.rules_files.specs.commands.Snapshots.{IsSnapshotAnswer}
use Rattle.rules_files.specs.commands.Resuming.{IsResumeAnswer}
use Rattle.rules_files.specs.snapshots.State as snapshots
use Rattle.rules_files.specs.snapshots.Loading.{LoadFault, loaded}

-- the commands that take a file
pub data Verb : Type 0 where
  Replaying : Verb
  Checking : Verb
  Encoding : Verb
  Decoding : Verb
  Packing : Verb
  Certifying : Verb
  Verifying : Verb
  Auditing : Verb
  Snapshotting : Verb

-- what the words ask for: a command with its file, a snapshot and the file that goes on from it, a workload of so many calls, or nothing
pub data Command : Type 0 where
  OnFile : Verb → (path : List ℕ) → Command
  Resuming : (snapshot : List ℕ) → (path : List ℕ) → Command
  Generating : (calls : ℕ) → Command
  NoCommand : Command

-- a word that is UTF-8 text and doesn't begin with `-`
abbrev pub is_path : List ℕ → Bool
is_path word = is_utf8 word && not (slice_index word 0 == 45)

abbrev pub verb_of : List ℕ → Option Verb
verb_of word =
    if bytes_eq word (codes "replay") then Some Replaying
    else if bytes_eq word (codes "check") then Some Checking
    else if bytes_eq word (codes "encode") then Some Encoding
    else if bytes_eq word (codes "decode") then Some Decoding
    else if bytes_eq word (codes "pack") then Some Packing
    else if bytes_eq word (codes "certify") then Some Certifying
    else if bytes_eq word (codes "verify") then Some Verifying
    else if bytes_eq word (codes "audit") then Some Auditing
    else if bytes_eq word (codes "snapshot") then Some Snapshotting
    else None

abbrev pub on_file : Option Verb → List ℕ → Command
on_file (Some verb) path = if is_path path then OnFile verb path else NoCommand
on_file None path = NoCommand

abbrev pub on_files : List ℕ → List ℕ → Command
on_files snapshot path = if is_path snapshot && is_path path then Resuming snapshot path else NoCommand

-- the value of digits behind others of a value
abbrev pub digits_behind : ℕ → List ℕ → Option ℕ
digits_behind value [] = Some value
digits_behind value (digit ∷ digits) = if is_ascii_digit digit then digits_behind (value * 10 + (digit - 48)) digits else None

-- a workload has 1 to 100,000 calls
abbrev pub in_range : Option ℕ → Option ℕ
in_range (Some calls) = if nat_le 1 calls && nat_le calls 100000 then Some calls else None
in_range None = None

-- the number of calls that a word of at most six digits tells
abbrev pub calls_of : List ℕ → Option ℕ
calls_of word = if nat_le (length word) 6 then in_range (digits_behind 0 word) else None

abbrev pub on_calls : Option ℕ → Command
on_calls (Some calls) = Generating calls
on_calls None = NoCommand

abbrev pub command_of : List (List ℕ) → Command
command_of (verb ∷ word ∷ []) = if bytes_eq verb (codes "generate") then on_calls (calls_of word) else on_file (verb_of verb) word
command_of [] = NoCommand
command_of (word ∷ []) = NoCommand
command_of (verb ∷ snapshot ∷ path ∷ []) = if bytes_eq verb (codes "resume") then on_files snapshot path else NoCommand
command_of (verb ∷ snapshot ∷ path ∷ word ∷ words) = NoCommand

-- the file that a command takes, or goes on with
abbrev pub file_of : Command → Option (List ℕ)
file_of (OnFile verb path) = Some path
file_of (Resuming snapshot path) = Some path
file_of (Generating calls) = None
file_of NoCommand = None

-- ---- answers

-- the answer to the bytes of a file
abbrev pub IsVerbAnswer : Verb → List ℕ → Answer → Type 0
IsVerbAnswer Replaying file answer = (done : Replay) × IsReplay file done × (answer ≡ replay_answer done)
IsVerbAnswer Checking file answer = IsCheckAnswer file answer
IsVerbAnswer Encoding file answer = IsCodecAnswer encode_node file answer
IsVerbAnswer Decoding file answer = IsCodecAnswer decode_node file answer
IsVerbAnswer Packing file answer = IsCodecAnswer pack_node file answer
IsVerbAnswer Certifying file answer = IsCertifyAnswer file answer
IsVerbAnswer Verifying file answer = IsVerifyAnswer file answer
IsVerbAnswer Auditing file answer = IsAuditAnswer file answer
IsVerbAnswer Snapshotting file answer = IsSnapshotAnswer file answer

-- the answer to a workload of so many calls: what its text comes to is summed up
abbrev pub IsWorkloadAnswer : ℕ → Answer → Type 0
IsWorkloadAnswer calls answer =
    (receipts : List Receipt) × (w : World) × IsReplay (scenario calls) (record { receipts = receipts; ending = State w }) × (answer ≡ done_with (summary_line calls receipts w))

-- the file that goes on from a snapshot is known, where the snapshot is loaded; else it isn't read
abbrev pub IsToldBehind : Result snapshots.State LoadFault → Option (List ℕ) → Type 0
IsToldBehind (Ok s) file = IsSome file
IsToldBehind (Err fault) file = Unit {0}

-- the snapshot is known, and so the file where it is read
abbrev pub AreTold : Option (List ℕ) → Option (List ℕ) → Type 0
AreTold (Some snapshot) file = IsToldBehind (loaded snapshot) file
AreTold None file = ⊥

-- it is known what a command reads
abbrev pub IsTold : Command → (List ℕ → Option (List ℕ)) → Type 0
IsTold (OnFile verb path) content = IsSome (content path)
IsTold (Resuming snapshot path) content = AreTold (content snapshot) (content path)
IsTold (Generating calls) content = Unit {0}
IsTold NoCommand content = Unit {0}

-- the answer to a command, of files that hold this
abbrev pub IsAnswer : Command → (List ℕ → Option (List ℕ)) → Answer → Type 0
IsAnswer (OnFile verb path) content answer = (file : List ℕ) × (content path ≡ Some file) × IsVerbAnswer verb file answer
IsAnswer (Resuming snapshot path) content answer = (bytes : List ℕ) × (content snapshot ≡ Some bytes) × IsResumeAnswer bytes (content path) answer
IsAnswer (Generating calls) content answer = IsWorkloadAnswer calls answer
IsAnswer NoCommand content answer = answer ≡ usage_answer

-- the statuses that a command's own answer may have
abbrev pub IsOwn : Command → ℕ → Type 0
IsOwn (OnFile verb path) status = (status ≡ 0) ⊎ (status ≡ 2)
IsOwn (Resuming snapshot path) status = (status ≡ 0) ⊎ (status ≡ 2)
IsOwn (Generating calls) status = status ≡ 0
IsOwn NoCommand status = status ≡ 1
