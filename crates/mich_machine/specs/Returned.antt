-- Issued operations, those of them that are picked by their numbers, and those that are left.
use Rattle.std.specs.Prelude.{◌≡◌, ◌<◌, ℕ, List, [], ◌∷◌, map, Option, Some, None}
use Rattle.std.specs.BTreeMap.{is_at}
use Rattle.std.specs.List.{AllByRecursion, flat_map}
use Rattle.std.specs.Map.{lookup, remove_entry}
use Rattle.std.specs.Ordering.{nat_cmp}
use Rattle.rules_code.specs.evaluation.Operations.{operation_tickets}
use Rattle.rules_data.specs.values.Tickets.{Held}
use Rattle.mich_ops.specs.Issued.{issued}
use Rattle.mich_ops.specs.declared.issued.Issued.{Issued}
use Rattle.mich_ops.specs.declared.issued.Issued.TheVariants as i

abbrev pub number_of : Issued → ℕ
number_of (i.Transfer number argument amount to) = number
number_of (i.Origination number delegate amount script storage hash) = number
number_of (i.Event number tag ty value) = number

-- each number is below those after it
abbrev pub AreRising : List Issued → Type 0
AreRising [] = Unit {0}
AreRising (x ∷ xs) = AllByRecursion (λ y. number_of x < number_of y) xs × AreRising xs

abbrev pub Numbered : Type 0
Numbered = List (ℕ × Issued)

abbrev pub numbered : Issued → ℕ × Issued
numbered x = (number_of x, x)

abbrev pub by_number : List Issued → Numbered
by_number xs = map numbered xs

-- the tickets that operations have with them
abbrev pub handed : List Issued → List Held
handed xs = flat_map (λ x. operation_tickets (issued x).operation) xs

-- ---- picks

pub record Pick : Type 0 where
  pub picked : List Issued
  pub left : Numbered

abbrev pub with_pick : Option Issued → Option Pick → Option Pick
with_pick (Some x) (Some p) = Some (record { picked = x ∷ p.picked; left = p.left })
with_pick x p = None

-- the operations of these numbers, in the order of the numbers, each once
abbrev pub picks : Numbered → List ℕ → Option Pick
picks all [] = Some (record { picked = []; left = all })
picks all (n ∷ ns) = with_pick (lookup (is_at (nat_cmp n)) all) (picks (remove_entry (is_at (nat_cmp n)) all) ns)

abbrev pub IsPicked : Option Pick → Option (List Issued) → Numbered → Type 0
IsPicked (Some p) (Some xs) left = (xs ≡ p.picked) × (left ≡ p.left)
IsPicked None None left = Unit {0}
IsPicked p xs left = ⊥
