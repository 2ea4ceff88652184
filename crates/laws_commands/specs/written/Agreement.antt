-- What a run prints agrees, where it is read.
use Rattle.std.specs.Prelude.{◌≡◌, ◌≤◌, ◌↔◌, ℕ, List, length}
use Rattle.std.specs.List.{AllByRecursion}
use Rattle.rules_text.specs.nodes.Limits.{depth_limit, statement_limit}
use Rattle.rules_text.specs.nodes.Tree.{Tree, depth}
use Rattle.rules_text.specs.text.Printed.{printed}
use Rattle.rules_world.specs.world.World.{World}
use Rattle.rules_files.specs.commands.Replay.{Replay, State, IsReplay}
use Rattle.rules_files.specs.commands.Lines.{lines_of, text_of}
use Rattle.rules_audit.specs.Form.{Holds, audit_limit}
use Rattle.rules_audit.specs.Audits.{Agrees}
use Rattle.mich_text.specs.Written.{HasTextForm}
use Rattle.laws_commands.specs.audits.Runs.{nodes_of}

-- All names, annotations, numbers, strings and bytes that are printed of a file that is applied to its end have the forms that a
-- text can give.
abbrev pub RunsHaveForms : Type 0
RunsHaveForms = (file : List ℕ) (done : Replay) (w : World) → IsReplay file done → done.ending ≡ State w →
    AllByRecursion HasTextForm (nodes_of done.receipts w)

-- the line of a node is read as one statement without `;`
abbrev pub IsRead : Tree → Type 0
IsRead t = (u : Tree) × Holds (printed t) u

-- within the limits of a statement
abbrev pub IsWithin : Tree → Type 0
IsWithin t = (depth t ≤ depth_limit) × (length (printed t) ≤ statement_limit)

-- Each line that is printed of a file that is applied to its end is read exactly where its node is within the limits of a statement.
abbrev pub RunsAreRead : Type 0
RunsAreRead = (file : List ℕ) (done : Replay) (w : World) → IsReplay file done → done.ending ≡ State w →
    AllByRecursion (λ t. IsRead t ↔ IsWithin t) (nodes_of done.receipts w)

-- What is printed of a file that is applied to its end agrees with its own numbers, where each of its lines is read and it isn't
-- longer than an audit reads.
abbrev pub ReadRunsAgree : Type 0
ReadRunsAgree = (file : List ℕ) (done : Replay) (w : World) → IsReplay file done → done.ending ≡ State w →
    AllByRecursion IsRead (nodes_of done.receipts w) → length (text_of (lines_of done)) ≤ audit_limit → Agrees (text_of (lines_of done))

-- and so it does where each of its nodes is within the limits of a statement
abbrev pub ShortRunsAgree : Type 0
ShortRunsAgree = (file : List ℕ) (done : Replay) (w : World) → IsReplay file done → done.ending ≡ State w →
    AllByRecursion IsWithin (nodes_of done.receipts w) → length (text_of (lines_of done)) ≤ audit_limit → Agrees (text_of (lines_of done))
