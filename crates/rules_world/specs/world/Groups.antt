-- Groups of operations: all of a group is applied, or none but its fees (Octez "Operations", batches).
use Rattle.std.specs.Prelude.{ℕ, ◌-◌, nat_lt, not, is_some, Bool, pos, int_lt, unsigned_abs, List, [], ◌∷◌, map, Option, Some, None, if◌then◌else◌}
use Rattle.std.specs.List.{list_any, sum_by}
use Rattle.rules_text.specs.nodes.Limits.{most_gas}
use Rattle.rules_data.specs.forms.Spelling.{implicit_place}
use Rattle.rules_data.specs.gas.Prices.{Listed}
use Rattle.rules_world.specs.world.Contents.{Content}
use Rattle.rules_world.specs.world.Receipts.{Receipt, Refused, Done, GroupFault, UnknownSource, GasTooHigh, FeeTooHigh, Status, Applied, Backtracked, Failed, Skipped}
use Rattle.rules_world.specs.world.World.{World, account_at}
use Rattle.rules_world.specs.world.Balances.{balance_or_none, fee_taken}
use Rattle.rules_world.specs.world.Outcomes.{Setting, Counts, no_counts, ordered}
use Rattle.rules_world.specs.world.Trees.{Walk, completed, broken_off, stuck_walk, tree}

-- ---- refusals

abbrev pub all_fees : List Content → ℕ
all_fees contents = sum_by (λ c. c.fee) contents

abbrev pub is_over_gas : Content → Bool
is_over_gas c = int_lt (pos most_gas) c.gas

-- why a group is refused: the first of these that holds
abbrev pub refusal_of : World → List ℕ → List Content → Option GroupFault
refusal_of w source contents =
    if not (is_some (account_at w source)) then Some UnknownSource
    else if list_any is_over_gas contents then Some GasTooHigh
    else if nat_lt (balance_or_none w (implicit_place source)) (all_fees contents) then Some FeeTooHigh
    else None

-- ---- contents in turn

-- each content was applied; or one failed, and these are the statuses of all; or one was stuck
pub data Turn : Type 0 where
  all_applied : World → List Status → Turn
  one_failed : List Status → Turn
  stuck_turn : Turn

-- the content before was applied
abbrev pub behind_applied : Status → Turn → Turn
behind_applied status (all_applied w statuses) = all_applied w (status ∷ statuses)
behind_applied status (one_failed statuses) = one_failed (Backtracked ∷ statuses)
behind_applied status stuck_turn = stuck_turn

abbrev pub skipped : Content → Status
skipped c = Skipped

-- a content with so much gas came to this, and these are behind it
abbrev pub with_tree : ℕ → Walk → List Content → (World → Counts → Turn) → Turn
with_tree gas (completed last) contents again = behind_applied (Applied (gas - last.gas) last.effects) (again last.world last.counts)
with_tree gas (broken_off count failure) contents again = one_failed (Failed count failure ∷ map skipped contents)
with_tree gas stuck_walk contents again = stuck_turn

-- each content has gas of its own, and goes on in the world and with the counts that the one before left
abbrev pub in_turn : Setting → List Content → World → Counts → Turn
in_turn s [] w counts = all_applied w []
in_turn s (c ∷ contents) w counts =
    with_tree (unsigned_abs c.gas) (tree s w (ordered c.action ∷ []) (unsigned_abs c.gas) counts) contents (in_turn s contents)

-- ---- groups

-- a group's receipt, and the world after it
pub record Settled : Type 0 where
  pub receipt : Receipt
  pub world : World

-- the world after the fees; where a content fails this is what is left of the group
abbrev pub fees_taken : World → List ℕ → List Content → World
fees_taken w source contents = fee_taken w (implicit_place source) (all_fees contents)

abbrev pub settled_by : World → Turn → Option Settled
settled_by after_fees (all_applied w statuses) = Some (record { receipt = Done statuses; world = w })
settled_by after_fees (one_failed statuses) = Some (record { receipt = Done statuses; world = after_fees })
settled_by after_fees stuck_turn = None

abbrev pub setting_of : Listed → ℕ → List ℕ → Setting
setting_of prices number source = record { prices = prices; group = number; source = source }

-- a group that isn't refused: all fees first, then the contents
abbrev pub admitted : Setting → World → List Content → Option Settled
admitted s after_fees contents = settled_by after_fees (in_turn s contents after_fees no_counts)

abbrev pub unless_refused : Option GroupFault → Listed → ℕ → List ℕ → List Content → World → Option Settled
unless_refused (Some fault) prices number source contents w = Some (record { receipt = Refused fault; world = w })
unless_refused None prices number source contents w =
    admitted (setting_of prices number source) (fees_taken w source contents) contents

-- What becomes of a group with a number, of a source with contents, in a world. There is nothing where an operation is stuck,
-- which comes in no good world.
abbrev pub group : Listed → ℕ → List ℕ → List Content → World → Option Settled
group prices number source contents w = unless_refused (refusal_of w source contents) prices number source contents w
