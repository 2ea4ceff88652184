-- The agreement of what a run prints.
use Rattle.std.specs.Prelude.{◌≡◌, ◌≤◌, ℕ, List, length}
use Rattle.std.specs.List.{AllByRecursion}
use Rattle.rules_world.specs.world.World.{World}
use Rattle.rules_files.specs.commands.Replay.{Replay, State, IsReplay}
use Rattle.rules_files.specs.commands.Lines.{lines_of, text_of}
use Rattle.rules_audit.specs.Form.{audit_limit}
use Rattle.rules_audit.specs.Audits.{Agrees}
use Rattle.laws_commands.specs.audits.Written.{IsWritable}
use Rattle.laws_commands.specs.audits.Runs.{nodes_of}

-- The text that is written of a file that is applied to its end agrees, where each of its nodes can be written and it isn't
-- longer than an audit reads.
abbrev pub RunsAgree : Type 0
RunsAgree = (file : List ℕ) (done : Replay) (w : World) → IsReplay file done → done.ending ≡ State w →
    AllByRecursion IsWritable (nodes_of done.receipts w) → length (text_of (lines_of done)) ≤ audit_limit → Agrees (text_of (lines_of done))
