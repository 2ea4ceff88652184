-- Worlds that are printed, and what is written of them.
use Rattle.std.specs.List.Sorted.{IsStrictlySortedBy}
use Rattle.std.specs.Map.{keys_of}
use Rattle.std.specs.Prelude.{◌≡◌, ◌≤ℤ◌, ◌-ℤ◌, ℕ, ℤ, pos, List, [], ◌∷◌, ◌++◌, codes, map, Result, IfOk}
use Rattle.rules_text.specs.nodes.Tree.{Tree, int}
use Rattle.rules_world.specs.lines.Nodes.{account_node, burn_nodes, held_node, line, number, over, ticket_fields}
use Rattle.rules_data.specs.values.Tickets.{Identity}
use Rattle.rules_world.specs.world.Good.{IsGood}
use Rattle.rules_world.specs.world.World.{World as PlainWorld}
use Rattle.laws_world.specs.lines.Laws.{AreInOrder, amount_told}
use Rattle.mich_tickets.specs.Books.{Books}
use Rattle.mich_tickets.specs.Lines.{Lines, by_identity}
use Rattle.mich_tickets.specs.Sums.{totals_of, minted_of, burnt_of}
use Rattle.mich_tickets.specs.declared.totals.Totals.{Totals}
use Rattle.mich_world.specs.Holders.{Holders, total}
use Rattle.mich_world.specs.Standing.{StandsFor}
use Rattle.mich_world.specs.World.{World}
use Rattle.mich_report.specs.Amounts.{Amounts, Purses, amount_in, held_in, held_of_line, minted_of_line, settled}
use Rattle.mich_base.specs.View.{tree}
use Rattle.mich_base.specs.declared.memory.Memory.{Memory}
use Rattle.mich_base.specs.declared.node.Node.{Node}

-- a world stands for a good one in which nothing waits
pub record IsAtRest (v : World) (w : PlainWorld) : Type 0 where
  pub stands : StandsFor v w
  pub good : IsGood w []

-- what each account holds is what the lines, which are in order, tell of it
abbrev pub Gathers : Lines → Purses → Type 0
Gathers lines ps =
    IsStrictlySortedBy by_identity (keys_of lines) × ((who : List ℕ) (j : Identity) → held_in ps who j ≡ settled (held_of_line who) j lines (pos 0))

-- so it is of the lines of a world
abbrev pub GathersOf : World → Purses → Type 0
GathersOf v ps = Gathers v.ledger.books.present.lines ps

-- an account holds these tickets
abbrev pub Holds : Purses → List ℕ → List (Identity × ℤ) → Type 0
Holds ps who holdings = (j : Identity) → held_in ps who j ≡ amount_told j holdings

-- and the amounts are what they tell of mints
abbrev pub Mints : Lines → Amounts → Type 0
Mints lines es =
    IsStrictlySortedBy by_identity (keys_of lines) × ((j : Identity) → amount_in j es ≡ settled minted_of_line j lines (pos 0))

-- totals are not negative
abbrev pub AreTotals : Books → Type 0
AreTotals b = (j : Identity) → (pos 0 ≤ℤ minted_of b j) × (pos 0 ≤ℤ burnt_of b j)

-- a ticket with its totals, and the rest of what was minted
abbrev pub totals_node : Totals → Identity → Tree
totals_node t j =
    over (codes "Tickets") (ticket_fields j.issuer j.kind j.content ++ int t.minted ∷ int t.burnt ∷ int (t.minted -ℤ t.burnt) ∷ [])

abbrev pub ticket_of : Books → Identity × ℤ → Tree
ticket_of b e = totals_node (totals_of b e.0) e.0

-- ---- lines

-- that of an account
abbrev pub line_of : List ℕ → ℕ → List (Identity × ℤ) → List ℕ
line_of who balance holdings = line (account_node (who, record { balance = balance; holdings = holdings }))

-- whatever tickets an account holds, these are their nodes in order
abbrev pub PrintsHoldings : Purses → List ℕ → Result (List Node) Memory → Type 0
PrintsHoldings ps who r = (holdings : List (Identity × ℤ)) → AreInOrder holdings → Holds ps who holdings → IfOk r (λ ns. map tree ns ≡ map held_node holdings)

-- and this is its line
abbrev pub PrintsAccount : Purses → List ℕ → ℕ → Result (List ℕ) Memory → Type 0
PrintsAccount ps who balance r = (holdings : List (Identity × ℤ)) → AreInOrder holdings → Holds ps who holdings → IfOk r (λ t. t ≡ line_of who balance holdings)

-- those of all accounts
abbrev pub account_lines : PlainWorld → List (List ℕ)
account_lines w = map line (map account_node w.accounts)

-- those of the fees, of what was burnt for storage, and of all mutez
abbrev pub sum_lines : Holders → List (List ℕ)
sum_lines h =
    map line (over (codes "Fees") (number h.fees ∷ []) ∷ (burn_nodes h.rate h.storage_burn ++ over (codes "Supply") (number (total h) ∷ []) ∷ []))
