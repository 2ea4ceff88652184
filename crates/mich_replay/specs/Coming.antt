-- A file that comes in pieces, and what was told of it so far.
use Rattle.std.specs.Prelude.{◌≡◌, ◌≤◌, ◌<◌, ◌+◌, ◌^◌, ℕ, List, [], ◌∷◌, ◌++◌, length, drop, Bool, true, false, Option, Some, None, Result, Ok, Err}
use Rattle.std.specs.Io.KnownBytes.{Appends, Consumes, IsAtEnd}
use Rattle.rules_text.specs.nodes.Limits.{file_limit}
use Rattle.rules_files.specs.course.Course.{Course as PlainCourse}
use Rattle.rules_files.specs.commands.Answers.{Answer, status_of}
use Rattle.rules_files.specs.commands.Commands.{Command, IsTold, IsAnswer, IsOwn}
use Rattle.rules_files.specs.commands.Lines.{group_lines, ending_lines}
use Rattle.rules_files.specs.commands.Places.{Placed, AreStatements, IsEndAt}
use Rattle.rules_files.specs.commands.Replay.{Replay, Ending, RefusedAt, FileFault, going, run_all}
use Rattle.rules_files.specs.commands.Replay as replay
use Rattle.rules_files.specs.commands.Snapshots.{statements_of}
use Rattle.rules_world.specs.world.Receipts.{Receipt}
use Rattle.mich_base.specs.declared.memory.Memory.{Memory}
use Rattle.mich_group.specs.declared.course.course.Course.{Course}
use Rattle.mich_text.specs.pieces.Held.{Held}
use Rattle.mich_replay.specs.Marks.{AreMarks}
use Rattle.mich_replay.specs.Output.{Output, Writes, WritesFront}
use Rattle.mich_replay.specs.Pace.{NoneIsClosedAt, groups_in, piece_limit}
use Rattle.mich_replay.specs.Steps.{FollowsIf, Stands, Tells}
use Rattle.mich_replay.specs.View.{file_fault_seen}
use Rattle.mich_replay.specs.declared.progress.Progress.{Progress}
use Rattle.mich_replay.specs.declared.replaying.Pause.{Pause}
use Rattle.mich_replay.specs.declared.replaying.Pause.TheVariants as pause
use Rattle.mich_replay.specs.declared.session.Session.{Session}
use Rattle.mich_replay.specs.declared.steps.Event.{Event}
use Rattle.mich_replay.specs.declared.steps.Event.TheVariants as event
use Rattle.mich_io.specs.declared.stop.Stop.{Stop}
use Rattle.mich_io.specs.declared.stop.Stop.TheVariants as stop

-- ---- files that go on from a course, or from none

-- the bytes of a file come to this
pub record ComesTo (from : Option PlainCourse) (file : List ℕ) (done : Replay) : Type 0 where
  pub statements : List Placed
  pub to : ℕ
  pub stand : AreStatements file 0 statements to
  pub closes : replay.Closes file to (run_all (going [] from) statements) done

-- the lines of that, behind so many groups
abbrev pub lines_behind : ℕ → Replay → List (List ℕ)
lines_behind groups done = group_lines (groups + 1) done.receipts ++ ending_lines done.ending

-- a replay may go on from the course that this one follows
pub record MayGoOn (from : Option PlainCourse) (c : Option Course) : Type 0 where
  pub follows : FollowsIf c from
  pub few : groups_in from < 2 ^ 63

-- ---- what these bytes come to, whatever follows them; nothing does where they are the last

-- these statements stand up to a place, and come to these receipts
pub record Begun (from : Option PlainCourse) (fed : List ℕ) (last : Bool) (ss : List Placed) (receipts : List Receipt) (plain : Option PlainCourse) (place : ℕ) : Type 0 where
  pub stand : (more : List ℕ) → (last ≡ true → more ≡ []) → AreStatements (fed ++ more) 0 ss place
  pub run : run_all (going [] from) ss ≡ going receipts plain

-- behind these receipts the file is refused
abbrev pub IsRefused : Option PlainCourse → List ℕ → Bool → List Receipt → FileFault → ℕ → Type 0
IsRefused from fed last receipts fault at = (more : List ℕ) → (last ≡ true → more ≡ []) → ComesTo from (fed ++ more) (record { receipts = receipts; ending = RefusedAt fault at })

-- ---- how far a replay has come

-- a reader that was fed these bytes has come behind these statements and receipts
pub record Reads (from : Option PlainCourse) (fed : List ℕ) (last : Bool) (r : Held) (ss : List Placed) (receipts : List Receipt) (plain : Option PlainCourse) : Type 0 where
  pub begun : Begun from fed last ss receipts plain r.place
  pub few : length receipts ≤ r.place
  pub bytes : drop r.place fed ≡ r.bytes
  pub within : r.place ≤ length fed
  pub short : r.place ≤ file_limit
  pub ends : r.ended ≡ true → last ≡ true

-- and so has a course, with the marks of the statements
pub record Came (from : Option PlainCourse) (fed : List ℕ) (last : Bool) (r : Held) (c : Progress) (receipts : List Receipt) : Type 0 where
  pub statements : List Placed
  pub plain : Option PlainCourse
  pub reads : Reads from fed last r statements receipts plain
  pub stands : Stands (groups_in from) receipts plain c.course
  pub marks : AreMarks (statements_of statements) c.marks
  pub room : groups_in from < 2 ^ 63

abbrev pub CameTo : Option PlainCourse → List ℕ → Bool → Session → List Receipt → Type 0
CameTo from fed last s receipts = Came from fed last s.reader s.progress receipts

-- what comes next, behind a place
abbrev pub Happens : Option PlainCourse → List ℕ → Bool → List Receipt → ℕ → Held → Progress → Result Event Memory → Type 0
Happens from fed last receipts place r c (Ok event.Taken) = Came from fed last r c receipts × (place < r.place)
Happens from fed last receipts place r c (Ok (event.Group told)) = (found : Receipt) × Tells told found × Came from fed last r c (receipts ++ found ∷ []) × (place < r.place)
Happens from fed last receipts place r c (Ok event.More) =
    (last ≡ false) × Came from fed false r c receipts × (length fed ≤ file_limit) × NoneIsClosedAt fed r.place
Happens from fed last receipts place r c (Ok event.End) = Came from fed true r c receipts × (last ≡ true) × IsEndAt fed r.place
Happens from fed last receipts place r c (Ok (event.Refused fault at)) = IsRefused from fed last receipts (file_fault_seen fault) at
Happens from fed last receipts place r c (Err e) = Unit {0}

abbrev pub HappensTo : Option PlainCourse → List ℕ → Bool → List Receipt → (before now : Session) → Result Event Memory → Type 0
HappensTo from fed last receipts before now result = Happens from fed last receipts before.reader.place now.reader now.progress result

-- ---- pieces

-- behind what was fed of a file this piece was taken of it
pub record IsFed (content left : Option (List ℕ)) (fed piece : List ℕ) : Type 0 where
  pub bytes : Consumes content left (fed ++ piece)
  pub short : length piece ≤ piece_limit

-- the next piece was fed, which is empty only at the end of the file; or it was given up, without a piece where it couldn't be read
abbrev pub Feeds : (content left : Option (List ℕ)) → (fed : List ℕ) → (before now : Session) → Result ℕ Stop → Type 0
Feeds content left fed before now (Ok count) =
    (piece : List ℕ) × IsFed content left fed piece × (count ≡ length piece) × (count ≡ 0 → IsAtEnd left)
    × ((from : Option PlainCourse) (receipts : List Receipt) (last : Bool) → CameTo from fed false before receipts → CameTo from (fed ++ piece) last now receipts)
Feeds content left fed before now (Err e) = (piece : List ℕ) × IsFed content left fed piece × (e ≡ stop.Read → piece ≡ [])

-- ---- what was written

-- something was, or nothing
abbrev pub Grows : Option (List ℕ) → Option (List ℕ) → Type 0
Grows before now = (more : List ℕ) × Appends before now more

-- the lines of all groups so far were
pub record Told (from : Option PlainCourse) (fed : List ℕ) (last : Bool) (before now : Output) (r : Held) (c : Progress) : Type 0 where
  pub receipts : List Receipt
  pub came : Came from fed last r c receipts
  pub lines : Writes before now (group_lines (groups_in from + 1) receipts)

-- a front of the lines of some groups was
pub record Cut (from : Option PlainCourse) (fed : List ℕ) (last : Bool) (before now : Output) : Type 0 where
  pub statements : List Placed
  pub receipts : List Receipt
  pub plain : Option PlainCourse
  pub place : ℕ
  pub begun : Begun from fed last statements receipts plain place
  pub lines : WritesFront before now (group_lines (groups_in from + 1) receipts)

-- what stands behind the groups that were told
abbrev pub Pauses : Option PlainCourse → List ℕ → Bool → Output → Output → Held → Progress → Result Pause Stop → Type 0
Pauses from fed last before now r c (Ok pause.More) =
    (last ≡ false) × Told from fed false before now r c × (length fed ≤ file_limit) × NoneIsClosedAt fed r.place
Pauses from fed last before now r c (Ok pause.End) = Told from fed true before now r c × (last ≡ true) × IsEndAt fed r.place
Pauses from fed last before now r c (Ok (pause.Refused fault at)) =
    (receipts : List Receipt) × IsRefused from fed last receipts (file_fault_seen fault) at × Writes before now (group_lines (groups_in from + 1) receipts)
Pauses from fed last before now r c (Err e) = Cut from fed last before now

-- what came of an event behind a place: on with more events, or what stands behind the groups that were told
abbrev pub Turns : Option PlainCourse → List ℕ → Bool → Output → Output → ℕ → Held → Progress → Result (Option Pause) Stop → Type 0
Turns from fed last before now place r c (Ok None) = Told from fed last before now r c × (place < r.place)
Turns from fed last before now place r c (Ok (Some p)) = Pauses from fed last before now r c (Ok p)
Turns from fed last before now place r c (Err e) = Cut from fed last before now

-- the lines of the groups before it were written: what comes of any event that came is that it is told
abbrev pub TellsEvent : Progress → Event → (before now : Output) → Result (Option Pause) Stop → Type 0
TellsEvent c e old now result =
    (from : Option PlainCourse) (fed : List ℕ) (last : Bool) (receipts : List Receipt) (place : ℕ) (r : Held) (before : Output)
    → Happens from fed last receipts place r c (Ok e) → Writes before old (group_lines (groups_in from + 1) receipts) → Turns from fed last before now place r c result

-- the lines of the groups so far were written, and then are those of all groups that stand
abbrev pub TellsGroups : Bool → (old now : Output) → (before behind : Session) → Result Pause Stop → Type 0
TellsGroups last old now s t result = (from : Option PlainCourse) (fed : List ℕ) (before : Output) → Told from fed last before old s.reader s.progress
    → Pauses from fed last before now t.reader t.progress result

-- so many bytes of the file were read, and their groups told
pub record IsUnderway (from : Option PlainCourse) (content left : Option (List ℕ)) (before now : Output) (r : Held) (c : Progress) (size : ℕ) : Type 0 where
  pub fed : List ℕ
  pub bytes : Consumes content left fed
  pub size_is : size ≡ length fed
  pub short : size ≤ file_limit
  pub told : Told from fed false before now r c
  pub all : NoneIsClosedAt fed r.place

-- the lines of an ending were written, and this is its status; or a front of them was
abbrev pub Closes : Output → Output → Ending → Result ℕ Stop → Type 0
Closes before now ending (Ok status) = (status ≡ status_of ending) × Writes before now (ending_lines ending)
Closes before now ending (Err e) = WritesFront before now (ending_lines ending)

-- what a file of this content comes to was written, and this is its status; or a front of it was
abbrev pub EndsAs : Option PlainCourse → Option (List ℕ) → Output → Output → Result ℕ Stop → Type 0
EndsAs from content before now (Ok status) =
    (done : Replay) × ((file : List ℕ) → content ≡ Some file → ComesTo from file done) × (status ≡ status_of done.ending)
    × Writes before now (lines_behind (groups_in from) done)
EndsAs from content before now (Err e) =
    (file : List ℕ) (done : Replay) → content ≡ Some file → ComesTo from file done → WritesFront before now (lines_behind (groups_in from) done)

-- ---- commands

-- this is the command's answer, where it is known what it reads
abbrev pub IsAnswerIfTold : Command → (List ℕ → Option (List ℕ)) → Answer → Type 0
IsAnswerIfTold command content answer = IsTold command content → IsAnswer command content answer

-- an answer of the command has this status, and its text was written; or a front of the text of each of its answers was
abbrev pub Comes : Command → (List ℕ → Option (List ℕ)) → Output → Output → Result ℕ Stop → Type 0
Comes command content before now (Ok status) = (answer : Answer) × IsAnswerIfTold command content answer × IsOwn command answer.status × (status ≡ answer.status)
    × Writes before now answer.lines
Comes command content before now (Err e) = (answer : Answer) → IsAnswer command content answer → WritesFront before now answer.lines
