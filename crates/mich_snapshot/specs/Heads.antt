-- The rules of the head, the costs and the sums of a state, by what was kept of it.
use Rattle.std.specs.Prelude.{◌≡◌, ℕ, ◌+◌, ◌-◌, ◌^◌, ◌==◌, nat_le, Bool, ◌&&◌, ◌||◌, not, List, [], ◌∷◌, length, if◌then◌else◌}
use Rattle.std.specs.List.{list_all, sum_by}
use Rattle.rules_text.specs.nodes.Limits.{most_level, most_mutez, most_rate}
use Rattle.rules_files.specs.snapshots.Rules.{Part, are_costs, are_sums, is_head, is_price, is_standard, part}
use Rattle.rules_files.specs.snapshots.Spelling.{costs_spelling, head_spelling, sums_spelling}
use Rattle.rules_files.specs.snapshots.State.{State}
use Rattle.mich_saved.specs.KeptStates.{head_of}
use Rattle.mich_saved.specs.Parts.{KeptState}
use Rattle.mich_saved.specs.Whole.{head}
use Rattle.mich_saved.specs.declared.reading.Head.{Head}

-- the head of a state is this one
abbrev pub HasHead : State → Head → Type 0
HasHead s h = head_of s ≡ head h

-- the parts before accounts
abbrev pub front_parts : State → List Part
front_parts s = part (head_spelling s) (is_head s) ∷ part (costs_spelling s) (are_costs s) ∷ part (sums_spelling s) (are_sums s) ∷ []

abbrev pub has_kept_begun : KeptState → Bool
has_kept_begun k = nat_le 1 k.head.groups || nat_le 1 (length k.accounts) || nat_le 1 (length k.contracts)

abbrev pub is_kept_head : KeptState → Bool
is_kept_head k =
    nat_le k.head.level most_level
    && nat_le k.head.groups (2 ^ 63 - 1)
    && nat_le k.head.rate (if k.head.pays then most_rate else 0)
    && (k.head.started || not (has_kept_begun k))
    && (k.head.costs_stood || list_all is_standard k.prices)

abbrev pub are_kept_costs : KeptState → Bool
are_kept_costs k = list_all is_price k.prices

abbrev pub all_kept_mutez : KeptState → ℕ
all_kept_mutez k = sum_by (λ a. a.1.1.balance) k.accounts + sum_by (λ c. c.1.1.balance) k.contracts + k.fees + k.storage_burn

abbrev pub are_kept_sums : KeptState → Bool
are_kept_sums k = nat_le (all_kept_mutez k) most_mutez && (k.head.pays || k.storage_burn == 0)
