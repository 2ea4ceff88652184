-- How much is taken of a file, and the counts of faults.
use Rattle.std.specs.Prelude.{◌≡◌, ◌≤◌, ◌⊎◌, ℕ, ◌+◌, List, length, Some, Err}
use Rattle.std.specs.declared.option.Option.{Option}
use Rattle.std.specs.Io.KnownBytes.{Consumes}
use Rattle.rules_text.specs.nodes.Limits.{file_limit}
use Rattle.rules_files.specs.commands.Commands.{Verb, OnFile, Resuming, command_of}
use Rattle.rules_files.specs.snapshots.Loading.{LoadFault, loaded}
use Rattle.mich_replay.specs.Pace.{NotStarted, piece_limit}

-- the most bytes that are taken of a file: a piece more than it may have
abbrev pub read_limit : ℕ
read_limit = file_limit + piece_limit

-- at most so many bytes were taken of a file that holds this
abbrev pub HasTaken : (content left : Option (List ℕ)) → Type 0
HasTaken content left = (taken : List ℕ) × Consumes content left taken × (length taken ≤ read_limit)

-- the file wasn't started, or at most so many were taken of it
abbrev pub TakesFile : (content left_before left_now before now : Option (List ℕ)) → ℕ → Type 0
TakesFile content left_before left_now before now status = NotStarted left_before left_now before now status ⊎ HasTaken content left_now

-- so it is of the file that words name
abbrev pub TakesWords : List (List ℕ) → (List ℕ → Option (List ℕ)) → (left_before left_now before now : Option (List ℕ)) → ℕ → Type 0
TakesWords words content left_before left_now before now status =
    (verb : Verb) (path : List ℕ) → command_of words ≡ OnFile verb path → TakesFile (content path) left_before left_now before now status

-- At most so many bytes were taken of a snapshot, or it wasn't started; or of the file that goes on from it, which isn't started where the
-- snapshot isn't loaded.
pub record TakesBoth (snapshot content left_before left_now before now : Option (List ℕ)) (status : ℕ) : Type 0 where
  pub takes : TakesFile snapshot left_before left_now before now status ⊎ HasTaken content left_now
  pub refused : (bytes : List ℕ) (fault : LoadFault) → snapshot ≡ Some bytes → loaded bytes ≡ Err fault → TakesFile snapshot left_before left_now before now status

-- so it is of the snapshot and the file that words name
abbrev pub TakesResuming : List (List ℕ) → (List ℕ → Option (List ℕ)) → (left_before left_now before now : Option (List ℕ)) → ℕ → Type 0
TakesResuming words content left_before left_now before now status =
    (snapshot path : List ℕ) → command_of words ≡ Resuming snapshot path
    → TakesBoth (content snapshot) (content path) left_before left_now before now status

-- neither count of faults falls, that of the files or that of the sink
abbrev pub NoneFalls : (reads_before reads_now writes_before writes_now : ℕ) → Type 0
NoneFalls reads_before reads_now writes_before writes_now = (reads_before ≤ reads_now) × (writes_before ≤ writes_now)
