-- The operations that a run issues are new (Octez "Operations", internal operations).
use Rattle.std.specs.Prelude.{◌≡◌, ◌≤◌, ◌+◌, ℕ, suc, List, [], ◌∷◌, ◌++◌}
use Rattle.rules_data.specs.types.Kind.{Kind}
use Rattle.rules_data.specs.values.Val.{Val}
use Rattle.rules_text.specs.nodes.Limits.{operation_limit}
use Rattle.rules_text.specs.nodes.Tree.{Tree}
use Rattle.rules_code.specs.evaluation.Surroundings.{Surroundings}
use Rattle.rules_code.specs.evaluation.Operations.{Operation, transfer, origination, event, Issued, Tally, new_contract}
use Rattle.rules_code.specs.evaluation.Outcome.{Outcome, stack, failed, stuck}
use Rattle.rules_code.specs.evaluation.Evaluation.{eval}

-- the count of originations behind an operation, which is that before it or more: an origination has the bytes of its own count
abbrev pub IsCounted : ℕ → ℕ → ℕ → Operation → Type 0
IsCounted group before behind (transfer argument amount destination) = before ≤ behind
IsCounted group before behind (origination delegate amount script storage hash) =
    (i : ℕ) × (before ≤ i) × (behind ≡ suc i) × (hash ≡ new_contract group i)
IsCounted group before behind (event tag kind value) = before ≤ behind

-- operations in order of issue, from these counts of operations and of originations up to those: numbers and counts rise
abbrev pub AreInTurn : ℕ → ℕ → ℕ → ℕ → ℕ → List Issued → Type 0
AreInTurn group operations originations last count [] = (operations ≤ last) × (originations ≤ count)
AreInTurn group operations originations last count (i ∷ is) =
    (operations ≤ i.number) × ((behind : ℕ) × IsCounted group originations behind i.operation × AreInTurn group
    (suc i.number) behind last count is)

-- counts only grow, and what was issued stands behind what there was, in turn
pub record Advances (group : ℕ) (m n : Tally) : Type 0 where
  pub issued : List Issued
  pub behind : n.issued ≡ m.issued ++ issued
  pub turns : AreInTurn group m.operations m.originations n.operations n.originations issued
  -- each origination is an operation too
  pub counted : n.originations + m.operations ≤ m.originations + n.operations
  pub limited : m.operations ≤ operation_limit → n.operations ≤ operation_limit

abbrev pub AdvancesTo : ℕ → Tally → Outcome → Type 0
AdvancesTo group m (stack A V n) = Advances group m n
AdvancesTo group m (failed f) = Unit {0}
AdvancesTo group m stuck = Unit {0}

-- whatever code is evaluated, and on whatever stack
abbrev pub OperationsAreNew : Type 0
OperationsAreNew = (t : Tree) (e : Surroundings) (d : ℕ) (A : List Kind) (V : List Val) (m : Tally) →
    AdvancesTo e.group m (eval t e d A V m)
