-- What code that is typed leaves (Michelson reference, "Semantics" and "Typing"; Octez "Tickets").
use Rattle.std.specs.Prelude.{◌<◌, ◌^◌, ℕ, ◌≤ℤ◌, List}
use Rattle.rules_text.specs.nodes.Tree.{Tree, size}
use Rattle.rules_data.specs.types.Kind.{Kind}
use Rattle.rules_data.specs.values.Val.{Val}
use Rattle.rules_data.specs.values.Tickets.{Identity}
use Rattle.rules_code.specs.typing.Typing.{Typing, goes}
use Rattle.rules_code.specs.typing.Nodes.{tree_type}
use Rattle.rules_code.specs.evaluation.Surroundings.{Surroundings}
use Rattle.rules_code.specs.evaluation.Operations.{Tally}
use Rattle.rules_code.specs.evaluation.Outcome.{Outcome, stack}
use Rattle.rules_code.specs.evaluation.Evaluation.{eval}
use Rattle.laws_code.specs.evaluation.Laws.{minted_by, most_tickets, Stands}
use Rattle.laws_code.specs.stacks.Sound.{seen, IsWell}

-- where operations are well and changes have their form before it, they are and have it behind it, and minted totals are ints
pub record StaysWell (e : Surroundings) (m n : Tally) : Type 0 where
  pub well : IsWell (seen e) m.issued m.changes → IsWell (seen e) n.issued n.changes
  pub minted : (id : Identity) → minted_by e n id ≤ℤ most_tickets

abbrev pub LeavesWell : Surroundings → Tally → Typing → Outcome → Type 0
LeavesWell e m (goes B) (stack C W n) = StaysWell e m n
LeavesWell e m typing o = Unit {0}

-- What code that is typed leaves: operations hand over values of their types, and changes of tickets have their form.
abbrev pub CodeLeavesWell : Type 0
CodeLeavesWell = (t : Tree) (e : Surroundings) (d : ℕ) (A : List Kind) (V : List Val) (m : Tally) →
    size t < 2 ^ 32 → Stands e m A V → LeavesWell e m (tree_type t e.context A) (eval t e d A V m)
