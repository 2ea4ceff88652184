-- How reading and writing keep step while a file is replayed.
use Rattle.std.specs.Prelude.{◌≡◌, ◌≤◌, ◌⊎◌, ℕ, ◌+◌, List, [], ◌++◌, length, None, Some, Ok}
use Rattle.std.specs.declared.option.Option.{Option}
use Rattle.std.specs.Io.KnownBytes.{Appends, Consumes}
use Rattle.rules_text.specs.nodes.Limits.{file_limit}
use Rattle.rules_files.specs.course.Course.{Course}
use Rattle.rules_files.specs.commands.Commands.{Verb, Replaying, OnFile, Resuming, command_of}
use Rattle.rules_files.specs.commands.Lines.{group_lines, text_of}
use Rattle.rules_files.specs.commands.Places.{Placed, IsNodeAt, AreStatements}
use Rattle.rules_files.specs.commands.Replay.{going, run_all}
use Rattle.rules_files.specs.snapshots.Course.{course_of}
use Rattle.rules_files.specs.snapshots.Loading.{loaded}
use Rattle.rules_files.specs.snapshots.State.{State}
use Rattle.rules_world.specs.world.Receipts.{Receipt}

-- the most bytes of a piece
abbrev pub piece_limit : ℕ
piece_limit = 65536

-- a statement is closed at a place of these bytes: it stands there whatever follows them, since they have its `;`
abbrev pub IsClosedAt : List ℕ → ℕ → Placed → ℕ → Type 0
IsClosedAt bytes place s behind = (more : List ℕ) → IsNodeAt (bytes ++ more) place s.node s.place behind

abbrev pub NoneIsClosedAt : List ℕ → ℕ → Type 0
NoneIsClosedAt bytes place = (s : Placed) (behind : ℕ) → IsClosedAt bytes place s behind → ⊥

-- how many groups there were before a file that goes on from a course, or from none
abbrev pub groups_in : Option Course → ℕ
groups_in None = 0
groups_in (Some c) = c.groups

-- What the front of a file gives, whatever follows it: all statements that are closed in it are taken, none is refused, and the groups
-- among them have these receipts.
pub record Gives (from : Option Course) (front : List ℕ) (receipts : List Receipt) : Type 0 where
  pub statements : List Placed
  pub to : ℕ
  pub stand : (more : List ℕ) → AreStatements (front ++ more) 0 statements to
  pub all : NoneIsClosedAt front to
  pub course : Option Course
  pub run : run_all (going [] from) statements ≡ going receipts course

-- Of what was taken of the file, all but the last piece was told: it isn't longer than a file may be, and the lines of all groups that
-- it gives were written. Where a piece couldn't be read, all that was taken was told, and nothing else.
pub record KeepsStep (from : Option Course) (taken : List ℕ) (before now : Option (List ℕ)) (status : ℕ) : Type 0 where
  pub front : List ℕ
  pub piece : List ℕ
  pub taken_is : taken ≡ front ++ piece
  pub within : length front ≤ file_limit
  pub short : length piece ≤ piece_limit
  pub receipts : List Receipt
  pub gives : Gives from front receipts
  pub rest : List ℕ
  pub lines : Appends before now (text_of (group_lines (groups_in from + 1) receipts) ++ rest)
  pub read_fault : status ≡ 3 → (piece ≡ []) × (rest ≡ [])

-- so it is with what was taken of a file that goes on from a course, or from none
abbrev pub TakesInStep : Option Course → (content left before now : Option (List ℕ)) → ℕ → Type 0
TakesInStep from content left before now status = (taken : List ℕ) × Consumes content left taken × KeepsStep from taken before now status

-- the file wasn't started, for a read fault or for want of memory: what is left of a former one stays, and nothing was written
abbrev pub NotStarted : (left_before left_now before now : Option (List ℕ)) → ℕ → Type 0
NotStarted left_before left_now before now status = (now ≡ before) × (left_now ≡ left_before) × ((status ≡ 3) ⊎ (status ≡ 5))

-- a file that goes on from a course, or from none, wasn't started, or it is so
abbrev pub WritesBehind : Option Course → (content left_before left_now before now : Option (List ℕ)) → ℕ → Type 0
WritesBehind from content left_before left_now before now status =
    NotStarted left_before left_now before now status ⊎ TakesInStep from content left_now before now status

-- The line of each group is written before more is read than the piece that closes the group. Whatever call of the files or of the
-- sink is the last one, and any may be, what was written by then keeps step with what was taken of the file.
abbrev pub WritesAsItReads : (content left_before left_now before now : Option (List ℕ)) → ℕ → Type 0
WritesAsItReads content left_before left_now before now status = WritesBehind None content left_before left_now before now status

-- so it is where the file is replayed
abbrev pub PacesVerb : Verb → (content left_before left_now before now : Option (List ℕ)) → ℕ → Type 0
PacesVerb verb content left_before left_now before now status =
    verb ≡ Replaying → WritesAsItReads content left_before left_now before now status

-- and where words ask for that
abbrev pub PacesWords : List (List ℕ) → (List ℕ → Option (List ℕ)) → (left_before left_now before now : Option (List ℕ)) → ℕ → Type 0
PacesWords words content left_before left_now before now status =
    (path : List ℕ) → command_of words ≡ OnFile Replaying path → WritesAsItReads (content path) left_before left_now before now status

-- A file that goes on from a snapshot is read so, behind the snapshot: nothing was written where one of them wasn't started or read, or for want
-- of memory.
abbrev pub PacesBehind : (snapshot content left before now : Option (List ℕ)) → ℕ → Type 0
PacesBehind snapshot content left before now status =
    (bytes : List ℕ) (s : State) → snapshot ≡ Some bytes → loaded bytes ≡ Ok s
    → ((now ≡ before) × ((status ≡ 3) ⊎ (status ≡ 5))) ⊎ TakesInStep (Some (course_of s)) content left before now status

-- so it is where words ask for that
abbrev pub PacesResuming : List (List ℕ) → (List ℕ → Option (List ℕ)) → (left before now : Option (List ℕ)) → ℕ → Type 0
PacesResuming words content left before now status =
    (snapshot path : List ℕ) → command_of words ≡ Resuming snapshot path → PacesBehind (content snapshot) (content path) left before now status
