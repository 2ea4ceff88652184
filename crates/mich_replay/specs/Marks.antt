-- Which statements stood in a file.
use Rattle.std.specs.Prelude.{◌≡◌, ◌||◌, List, Option, Some, None}
use Rattle.std.specs.List.{list_any}
use Rattle.rules_files.specs.snapshots.Course.{is_costs, is_start}
use Rattle.rules_files.specs.statements.Statements.{Statement}
use Rattle.mich_replay.specs.declared.progress.Marks.{Marks}

-- behind a node that is this statement, or none
abbrev pub marked : Marks → Option Statement → Marks
marked m (Some s) = record { costs_stood = m.costs_stood || is_costs s; started = m.started || is_start s }
marked m None = m

-- these are the marks of statements
pub record AreMarks (ss : List Statement) (m : Marks) : Type 0 where
  pub costs_stood : m.costs_stood ≡ list_any is_costs ss
  pub started : m.started ≡ list_any is_start ss
