-- Texts of printed nodes, whose lines can follow one another.
use Rattle.std.specs.Prelude.{◌≡◌, ◌≤◌, true, List, [], ◌∷◌, map, reverse, length, Some}
use Rattle.std.specs.List.{AllByRecursion}
use Rattle.rules_text.specs.nodes.Limits.{statement_limit}
use Rattle.rules_text.specs.nodes.Tree.{Tree}
use Rattle.rules_text.specs.text.Printed.{printed}
use Rattle.mich_text.specs.Written.{CanBeWritten}
use Rattle.rules_world.specs.lines.Nodes.{line}
use Rattle.rules_files.specs.commands.Lines.{text_of}
use Rattle.rules_audit.specs.Form.{audit_limit, last_rank, can_follow}
use Rattle.rules_audit.specs.Lines.{Line, line_of}
use Rattle.rules_audit.specs.Verdicts.{verdict}
use Rattle.rules_audit.specs.Audits.{IsVerdict}

-- a node that can be written within the limits of a statement
abbrev pub IsWritable : Tree → Type 0
IsWritable t = CanBeWritten t × (length (printed t) ≤ statement_limit)

-- each line can follow those before it, of which the last stands first
abbrev pub CanAllFollow : List Line → List Line → Type 0
CanAllFollow before [] = Unit {0}
CanAllFollow before (l ∷ ls) = (can_follow before l ≡ true) × CanAllFollow (l ∷ before) ls

-- the verdict on the text of nodes, each of them a line, is that on the lines
abbrev pub TextsAreJudged : Type 0
TextsAreJudged = (ts : List Tree) (ls : List Line) → AllByRecursion IsWritable ts → length (text_of (map line ts)) ≤ audit_limit →
    map line_of ts ≡ map (λ l. Some l) ls → CanAllFollow [] ls → last_rank (reverse ls) ≡ 7 → IsVerdict (text_of (map line ts)) (verdict ls)
