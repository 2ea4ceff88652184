-- What a file comes to is in order.
use Rattle.std.specs.Prelude.{◌≡◌, ◌≤◌, ℕ, List, length}
use Rattle.std.specs.List.{AllByRecursion}
use Rattle.rules_world.specs.world.World.{World}
use Rattle.rules_files.specs.commands.Replay.{Replay, State, IsReplay}
use Rattle.rules_files.specs.commands.Lines.{lines_of, text_of}
use Rattle.rules_audit.specs.Form.{audit_limit}
use Rattle.rules_audit.specs.Audits.{Agrees}
use Rattle.laws_world.specs.runs.Worlds.{IsWhole}
use Rattle.laws_commands.specs.audits.Receipts.{IsReceipt}
use Rattle.laws_commands.specs.audits.Follows.{IsPlainWorld}
use Rattle.laws_commands.specs.audits.Written.{IsWritable}
use Rattle.laws_commands.specs.audits.Runs.{nodes_of}

-- the world at a file's end is good, and the amounts in its receipts are in their ranges
abbrev pub FilesEndGood : Type 0
FilesEndGood = (file : List ℕ) (done : Replay) (w : World) → IsReplay file done → done.ending ≡ State w → IsWhole w × AllByRecursion IsReceipt done.receipts

-- What is printed of a file that is applied to its end agrees, where the contents of its tickets are comparable and its nodes can
-- be written, if it isn't longer than an audit reads.
abbrev pub PlainRunsAgree : Type 0
PlainRunsAgree = (file : List ℕ) (done : Replay) (w : World) → IsReplay file done → done.ending ≡ State w → IsPlainWorld w →
    AllByRecursion IsWritable (nodes_of done.receipts w) → length (text_of (lines_of done)) ≤ audit_limit → Agrees (text_of (lines_of done))
