-- The form of a text: its lines, and which line can follow those before it.
use Rattle.std.specs.Prelude.{◌≡◌, ◌⊎◌, ℕ, ◌+◌, ◌-◌, ◌==◌, ◌&&◌, ◌||◌, not, nat_le, Bool, true, false, if◌then◌else◌, pos, List, [], ◌∷◌, ◌++◌, length, Some, None}
use Rattle.std.specs.declared.option.Option.{Option}
use Rattle.std.specs.List.{list_all}
use Rattle.std.specs.Str.{bytes_eq}
use Rattle.rules_text.specs.nodes.Limits.{file_limit}
use Rattle.rules_text.specs.nodes.Tree.{Tree}
use Rattle.rules_text.specs.text.Text.{IsNode}
use Rattle.rules_audit.specs.Same.{same_number, same_tree}
use Rattle.rules_audit.specs.Fields.{Identity}
use Rattle.rules_audit.specs.Lines.{Line, group, account, contract, tickets, fees, storage_burn, supply, line_of}

-- ---- the order of lines

-- the kinds of lines in their order; 0 is before all lines
abbrev pub rank : Line → ℕ
rank (group n ps) = 1
rank (account b ps) = 2
rank (contract b ps fourth) = 3
rank (tickets id m b h) = 4
rank (fees n) = 5
rank (storage_burn n) = 6
rank (supply n) = 7

-- lines are told with the last one first
abbrev pub last_rank : List Line → ℕ
last_rank [] = 0
last_rank (l ∷ ls) = rank l

-- contracts have a fourth argument all or none
abbrev pub has_fourth : Bool → Line → Bool
has_fourth true (contract b ps fourth) = fourth
has_fourth false (contract b ps fourth) = not fourth
has_fourth expected l = true

abbrev pub same_identity : Identity → Identity → Bool
same_identity i j = bytes_eq i.issuer j.issuer && (same_tree i.kind j.kind && same_tree i.content j.content)

abbrev pub is_of : Identity → Line → Bool
is_of id (tickets j m b h) = same_identity id j
is_of id l = false

-- Groups are numbered from 1. Accounts, contracts and tickets follow, each ticket once, and then the fees. The storage
-- burn stands where contracts have a fourth argument, and the supply is the last.
abbrev pub can_follow : List Line → Line → Bool
can_follow before (group n ps) = nat_le (last_rank before) 1 && same_number n (pos (length before + 1))
can_follow before (account b ps) = nat_le (last_rank before) 2
can_follow before (contract b ps fourth) = nat_le (last_rank before) 3 && list_all (has_fourth fourth) before
can_follow before (tickets id m b h) = nat_le (last_rank before) 4 && list_all (λ l. not (is_of id l)) before
can_follow before (fees n) = nat_le (last_rank before) 4
can_follow before (storage_burn n) = last_rank before == 5 && list_all (has_fourth true) before
can_follow before (supply n) = (last_rank before == 5 && list_all (has_fourth false) before) || last_rank before == 6

-- ---- pieces

-- The file is cut at each line feed. What stands behind the last one, and what holds a byte past the limit, is no line.
abbrev pub audit_limit : ℕ
audit_limit = file_limit - 1

abbrev pub unfinished : List ℕ → List (Option (List ℕ))
unfinished [] = []
unfinished (c ∷ cs) = None ∷ []

-- the pieces of bytes, of which so many may be read; the first of them is begun
abbrev pub pieces : ℕ → List ℕ → List ℕ → List (Option (List ℕ))
pieces left begun [] = unfinished begun
pieces left begun (c ∷ cs) =
    if left == 0 then None ∷ []
    else if c == 10 then Some begun ∷ pieces (left - 1) [] cs
    else pieces (left - 1) (begun ++ c ∷ []) cs

abbrev pub pieces_of : List ℕ → List (Option (List ℕ))
pieces_of file = pieces audit_limit [] file

-- ---- the form

-- one statement without `;` stands in a piece
pub record Holds (piece : List ℕ) (t : Tree) : Type 0 where
  pub start : ℕ
  pub node : IsNode 0 piece t start 0
  pub bare : node.stands.rest ≡ []

abbrev pub Tells : Option (List ℕ) → Line → Type 0
Tells (Some piece) l = (t : Tree) × Holds piece t × (line_of t ≡ Some l)
Tells None l = ⊥

-- the lines, with the last one first; or the number of the first that can't follow those before it, which is one past
-- them all where the supply is missing
pub data Form : Type 0 where
  formed : List Line → Form
  bad_form : ℕ → Form

abbrev pub ended : List Line → Form
ended before = if last_rank before == 7 then formed before else bad_form (length before + 1)

-- the form of pieces behind lines
abbrev pub IsForm : List Line → List (Option (List ℕ)) → Form → Type 0
IsForm before [] form = form ≡ ended before
IsForm before (p ∷ ps) form =
    ((l : Line) × Tells p l × (can_follow before l ≡ true) × IsForm (l ∷ before) ps form)
    ⊎ (((l : Line) → Tells p l → can_follow before l ≡ false) × (form ≡ bad_form (length before + 1)))
