-- Sums over tickets.
use Rattle.std.specs.Prelude.{◌≡◌, ℕ, ℤ, pos, ◌+ℤ◌, ◌-ℤ◌, List, [], ◌∷◌, codes}
use Rattle.rules_text.specs.nodes.Tree.{Tree, int}
use Rattle.rules_world.specs.lines.Nodes.{number, over}
use Rattle.rules_data.specs.values.Tickets.{Identity}
use Rattle.mich_tickets.specs.Books.{Books}
use Rattle.mich_tickets.specs.Sums.{minted_of, burnt_of}
use Rattle.mich_report.specs.declared.summary.Sums.{Sums}

-- an amount of each ticket of a list, all together
abbrev pub over_entries : (Identity → ℤ) → List (Identity × ℤ) → ℤ
over_entries amount [] = pos 0
over_entries amount (e ∷ es) = amount e.0 +ℤ over_entries amount es

-- what books tell of tickets, all together
pub record AreSums (b : Books) (es : List (Identity × ℤ)) (s : Sums) : Type 0 where
  pub minted : s.minted ≡ over_entries (minted_of b) es
  pub burnt : s.burnt ≡ over_entries (burnt_of b) es
  pub held : s.held ≡ over_entries (λ j. minted_of b j -ℤ burnt_of b j) es

-- the summary of a workload with these sums
abbrev pub summary_with : (calls applied failed supply : ℕ) → Sums → Tree
summary_with calls applied failed supply s =
    over (codes "Summary") (number calls ∷ number applied ∷ number failed ∷ number supply ∷ int s.minted ∷ int s.burnt ∷ int s.held ∷ [])
