-- What a file reaches is a sound state, which has a spelling.
use Rattle.std.specs.Prelude.{◌≡◌, ◌≤◌, ℕ, true, List, [], length, None, Some}
use Rattle.std.specs.List.{All}
use Rattle.rules_world.specs.world.Receipts.{Receipt}
use Rattle.rules_files.specs.course.Course.{Course}
use Rattle.rules_files.specs.commands.Places.{Placed, AreStatements}
use Rattle.rules_files.specs.commands.Replay.{going, run_all}
use Rattle.rules_files.specs.commands.Snapshots.{came_to, IsReached}
use Rattle.rules_files.specs.snapshots.State.{State}
use Rattle.rules_files.specs.snapshots.Spelt.{IsSpelt}
use Rattle.rules_files.specs.snapshots.Reading.{snapshot_limit}
use Rattle.rules_files.specs.snapshots.Rules.{is_sound}
use Rattle.rules_files.specs.snapshots.Loading.{saved}
use Rattle.laws_commands.specs.reached.Kept.{CanBeCounted}

-- lists in storages can be counted in eight bytes behind the statements of a file
abbrev pub ListsAreCounted : Type 0
ListsAreCounted = (file : List ℕ) (ss : List Placed) (to : ℕ) (receipts : List Receipt) (c : Course) → AreStatements file 0 ss to
    → run_all (going [] None) ss ≡ going receipts (Some c) → All (λ d. CanBeCounted d.1.storage) c.world.contracts

-- the state that a file comes to is sound and has a spelling, where it can be saved and isn't too long for a snapshot
abbrev pub ReachedAreSound : Type 0
ReachedAreSound = (file bytes : List ℕ) (s : State) → IsReached file (came_to s) → saved s ≡ Some bytes → length bytes ≤ snapshot_limit
    → IsSpelt s × (is_sound s ≡ true)
