-- Operations with all that they emit, depth first (Octez "Operations", the order of internal operations).
use Rattle.std.specs.Prelude.{ℕ, zero, suc, ◌+◌, List, [], ◌∷◌, ◌++◌}
use Rattle.rules_code.specs.steps.Failure.{Failure, out_of_gas}
use Rattle.rules_world.specs.world.Receipts.{Effect}
use Rattle.rules_world.specs.world.World.{World}
use Rattle.rules_world.specs.world.Outcomes.{Setting, Waiting, Counts, Outcome, applied, failed, stuck}
use Rattle.rules_world.specs.world.Application.{apply}

-- after the last operation: the world, what all of them did, and the gas and the counts that are left
pub record Last : Type 0 where
  pub world : World
  pub effects : List Effect
  pub gas : ℕ
  pub counts : Counts

-- all were applied, or one failed behind so many that were applied, or was stuck
pub data Walk : Type 0 where
  completed : Last → Walk
  broken_off : (count : ℕ) → Failure → Walk
  stuck_walk : Walk

-- one operation was applied before
abbrev pub behind_one : List Effect → Walk → Walk
behind_one effects (completed last) = completed (record last { effects = effects ++ last.effects })
behind_one effects (broken_off count failure) = broken_off (count + 1) failure
behind_one effects stuck_walk = stuck_walk

-- what an operation emitted goes before all that was waiting
abbrev pub with_emitted : Outcome → List Waiting → (World → List Waiting → ℕ → Counts → Walk) → Walk
with_emitted (applied a) waiting again = behind_one a.effects (again a.world (a.emitted ++ waiting) a.gas a.counts)
with_emitted (failed failure) waiting again = broken_off 0 failure
with_emitted stuck waiting again = stuck_walk

-- At most so many operations are applied before the gas is out.
abbrev pub tree_within : ℕ → Setting → World → List Waiting → ℕ → Counts → Walk
tree_within limit s w [] gas counts = completed (record { world = w; effects = []; gas = gas; counts = counts })
tree_within zero s w (op ∷ waiting) gas counts = broken_off 0 out_of_gas
tree_within (suc limit) s w (op ∷ waiting) gas counts = with_emitted (apply s w op gas counts) waiting (tree_within limit s)

-- The operations that wait, one after another. Each takes one unit of gas or more, so there are no more of them than units.
abbrev pub tree : Setting → World → List Waiting → ℕ → Counts → Walk
tree s w waiting gas counts = tree_within gas s w waiting gas counts
