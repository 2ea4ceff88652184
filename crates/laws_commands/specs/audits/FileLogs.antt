-- The log of a whole file.
use Rattle.std.specs.Prelude.{◌≡◌, ◌++◌, ℕ, List, [], ◌∷◌}
use Rattle.rules_code.specs.steps.Changes.{Change}
use Rattle.rules_world.specs.world.Receipts.{Receipt}
use Rattle.rules_world.specs.world.World.{World}
use Rattle.rules_files.specs.commands.Replay.{Replay, State, IsReplay}
use Rattle.laws_commands.specs.audits.Changes.{BurnsAtRate, receipt_changes}

abbrev pub receipts_changes : List Receipt → List Change
receipts_changes [] = []
receipts_changes (r ∷ rs) = receipt_changes r ++ receipts_changes rs

-- nothing is burnt in the world at a file's end where there is no rate
abbrev pub FilesBurnAtRate : Type 0
FilesBurnAtRate = (file : List ℕ) (done : Replay) (w : World) → IsReplay file done → done.ending ≡ State w → BurnsAtRate w

-- the log of the world at a file's end is what its receipts tell, in their order, and nothing else
abbrev pub FilesTellChanges : Type 0
FilesTellChanges = (file : List ℕ) (done : Replay) (w : World) → IsReplay file done → done.ending ≡ State w → w.log ≡ receipts_changes done.receipts
