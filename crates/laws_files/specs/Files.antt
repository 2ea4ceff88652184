-- Laws of the worlds of a file, behind each statement and at its end (this host's own).
use Rattle.std.specs.Prelude.{◌≡◌, ◌≤◌, ◌+◌, ◌-ℤ◌, ℕ, List, [], ◌∷◌, Option, None, Some}
use Rattle.std.specs.List.{All}
use Rattle.rules_text.specs.nodes.Limits.{most_mutez}
use Rattle.rules_data.specs.values.Tickets.{Identity}
use Rattle.rules_files.specs.commands.Places.{Placed, AreStatements}
use Rattle.rules_files.specs.commands.Replay.{going, run_all}
use Rattle.rules_files.specs.course.Course.{Course}
use Rattle.rules_files.specs.statements.Statements.{Statement, form}
use Rattle.rules_world.specs.world.Balances.{supply}
use Rattle.rules_world.specs.world.Good.{IsGoodContract}
use Rattle.rules_world.specs.world.Holdings.{held, minted_ever, burnt_ever}
use Rattle.rules_world.specs.world.Receipts.{Receipt}
use Rattle.rules_world.specs.world.World.{World}
use Rattle.laws_files.specs.Laws.{IsPaid}
use Rattle.laws_files.specs.Laws as course

-- what a node of a file grants: nothing, where it is no statement
abbrev pub granted_by : Option Statement → ℕ
granted_by None = 0
granted_by (Some s) = course.granted_by s

-- what the accounts among statements are granted
abbrev pub granted_in : List Placed → ℕ
granted_in [] = 0
granted_in (s ∷ ss) = granted_by (form s.node) + granted_in ss

-- The world behind statements that granted so much mutez.
pub record IsInOrder (granted : ℕ) (w : World) : Type 0 where
  -- no mutez was made or lost: balances, fees and what was burnt are together what was granted, at most 2^63 - 1
  pub mutez : supply w ≡ granted
  pub most : supply w ≤ most_mutez
  -- the script of each contract is one that the typing rules accept, and its storage is of the type that the script declares
  pub contracts : All (IsGoodContract w) w.contracts
  -- no ticket was made or lost but by minting and burning
  pub tickets : (id : Identity) → held w id ≡ minted_ever w id -ℤ burnt_ever w id
  -- no storage is unpaid
  pub paid : IsPaid w

-- Statements that stand at the beginning of a file, all of them or fewer, leave the world in order behind the last of them.
abbrev pub WorldsAreInOrder : Type 0
WorldsAreInOrder = (file : List ℕ) (ss : List Placed) (to : ℕ) (receipts : List Receipt) (c : Course) → AreStatements file 0 ss to
    → run_all (going [] None) ss ≡ going receipts (Some c) → IsInOrder (granted_in ss) c.world
