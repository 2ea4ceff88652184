-- What is told of a workload that was replayed: how many of its calls were applied and how many failed, all mutez, and what was
-- minted, burnt and is held of all tickets (this host's own).
use Rattle.std.specs.Prelude.{ℕ, ℤ, pos, ◌+ℤ◌, ◌+◌, Bool, true, false, List, [], ◌∷◌, codes, if◌then◌else◌}
use Rattle.rules_text.specs.nodes.Tree.{Tree, int}
use Rattle.rules_world.specs.lines.Nodes.{line, number, over}
use Rattle.rules_data.specs.values.Tickets.{Identity}
use Rattle.rules_world.specs.world.Balances.{supply}
use Rattle.rules_world.specs.world.Holdings.{held, minted_ever, burnt_ever, identities}
use Rattle.rules_world.specs.world.Receipts.{Receipt, Done, Applied, Failed}
use Rattle.rules_world.specs.world.World.{World}

-- ---- calls: each is a group of one content

-- its content was applied
abbrev pub was_applied : Receipt → Bool
was_applied (Done (Applied gas effects ∷ [])) = true
was_applied receipt = false

-- its content failed
abbrev pub has_failed : Receipt → Bool
has_failed (Done (Failed count failure ∷ [])) = true
has_failed receipt = false

-- how many of the groups are so
abbrev pub count_of : (Receipt → Bool) → List Receipt → ℕ
count_of is_so [] = 0
count_of is_so (receipt ∷ receipts) = (if is_so receipt then 1 else 0) + count_of is_so receipts

-- the first group of a workload makes its contracts; those behind it are its calls
abbrev pub calls_in : List Receipt → List Receipt
calls_in [] = []
calls_in (first ∷ receipts) = receipts

-- ---- tickets

-- an amount of each ticket, all together
abbrev pub over_tickets : (Identity → ℤ) → List Identity → ℤ
over_tickets amount [] = pos 0
over_tickets amount (id ∷ ids) = amount id +ℤ over_tickets amount ids

-- an amount of each ticket that was ever minted in a world, all together
abbrev pub in_all : (Identity → ℤ) → World → ℤ
in_all amount w = over_tickets amount (identities w.log)

-- ---- the line

-- so many calls, of which so many were applied and so many failed, and then what the world holds
abbrev pub summary_node : (calls applied failed : ℕ) → World → Tree
summary_node calls applied failed w =
    over (codes "Summary") (number calls ∷ number applied ∷ number failed ∷ number (supply w)
    ∷ int (in_all (minted_ever w) w) ∷ int (in_all (burnt_ever w) w) ∷ int (in_all (held w) w) ∷ [])

-- a workload of so many calls came to these receipts and this world
abbrev pub summary_line : ℕ → List Receipt → World → List ℕ
summary_line calls receipts w = line (summary_node calls (count_of was_applied (calls_in receipts)) (count_of has_failed (calls_in receipts)) w)
