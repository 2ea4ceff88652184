-- The lines that are told of a run agree.
use Rattle.std.specs.Prelude.{◌≡◌, true, List, None}
use Rattle.std.specs.List.{list_all}
use Rattle.rules_world.specs.world.Receipts.{Receipt}
use Rattle.rules_world.specs.world.World.{World}
use Rattle.rules_audit.specs.Verdicts.{first_wrong, has_line, verdict, agrees}
use Rattle.laws_commands.specs.audits.ToldLines.{told_lines}
use Rattle.laws_commands.specs.audits.Totals.{IsBehind, parts_of}

-- the line of each ticket agrees with all that is told of it
abbrev pub TicketLinesAgree : Type 0
TicketLinesAgree = (rs : List Receipt) (w : World) → IsBehind rs w → first_wrong (parts_of rs w) 1 (told_lines rs w) ≡ None

-- each ticket of which something is told has a line
abbrev pub TicketsHaveLines : Type 0
TicketsHaveLines = (rs : List Receipt) (w : World) → IsBehind rs w → list_all (has_line (told_lines rs w)) (parts_of rs w) ≡ true

-- all numbers of the lines agree
abbrev pub ToldLinesAgree : Type 0
ToldLinesAgree = (rs : List Receipt) (w : World) → IsBehind rs w → verdict (told_lines rs w) ≡ agrees
