-- The text that is written: lines, each a Micheline node and a newline.
use Rattle.std.specs.Prelude.{ℕ, ◌+◌, List, [], ◌∷◌, ◌++◌, map, codes}
use Rattle.std.specs.Fmt.{decimal}
use Rattle.std.specs.List.{flat_map}
use Rattle.rules_text.specs.declared.text.TextKind.{TextKind}
use Rattle.rules_text.specs.declared.text.TextKind.TheVariants as text
use Rattle.rules_world.specs.world.Receipts.{Receipt}
use Rattle.rules_world.specs.lines.Nodes.{line, group_node, state_nodes}
use Rattle.rules_files.specs.commands.Replay.{Replay, Ending, State, RefusedAt, FileFault, TextFault, BadStatement, BadOrder, BadCosts, RepeatedAccount, SupplyLimit}

-- groups are numbered from 1, refused ones too
abbrev pub group_lines : ℕ → List Receipt → List (List ℕ)
group_lines n [] = []
group_lines n (receipt ∷ receipts) = line (group_node n receipt) ∷ group_lines (n + 1) receipts

-- ---- refusals

abbrev pub text_kind_name : TextKind → List ℕ
text_kind_name text.BadChar = codes "BadChar"
text_kind_name text.BadString = codes "BadString"
text_kind_name text.BadBytes = codes "BadBytes"
text_kind_name text.BadNumber = codes "BadNumber"
text_kind_name text.Unclosed = codes "Unclosed"
text_kind_name text.Unexpected = codes "Unexpected"
text_kind_name text.TooDeep = codes "TooDeep"
text_kind_name text.TooLong = codes "TooLong"

abbrev pub file_fault_name : FileFault → List ℕ
file_fault_name (TextFault kind) = text_kind_name kind
file_fault_name BadStatement = codes "BadStatement"
file_fault_name BadOrder = codes "BadOrder"
file_fault_name BadCosts = codes "BadCosts"
file_fault_name RepeatedAccount = codes "RepeatedAccount"
file_fault_name SupplyLimit = codes "SupplyLimit"

-- a refusal by its name, and the place or location
abbrev pub refusal_line : List ℕ → ℕ → List ℕ
refusal_line name place = codes "Refused " ++ (name ++ (codes " " ++ (decimal place ++ codes "\n")))

-- ---- endings

abbrev pub ending_lines : Ending → List (List ℕ)
ending_lines (State w) = map line (state_nodes w)
ending_lines (RefusedAt fault place) = refusal_line (file_fault_name fault) place ∷ []

-- ---- all lines

abbrev pub lines_of : Replay → List (List ℕ)
lines_of done = group_lines 1 done.receipts ++ ending_lines done.ending

abbrev pub usage_line : List ℕ
usage_line = codes "usage: mich replay|check|encode|decode|pack|snapshot|certify|verify|audit FILE, or mich resume SNAP FILE, or mich generate N\n"

-- lines, one after another
abbrev pub text_of : List (List ℕ) → List ℕ
text_of lines = flat_map (λ line. line) lines
