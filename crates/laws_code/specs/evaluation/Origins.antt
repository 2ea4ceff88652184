-- The contracts that code makes are new (this host's own choice of their addresses).
use Rattle.std.specs.Prelude.{◌≡◌, ◌≤◌, ℕ, suc, List, [], ◌∷◌, ◌++◌}
use Rattle.rules_text.specs.nodes.Tree.{Tree}
use Rattle.rules_data.specs.types.Kind.{Kind}
use Rattle.rules_data.specs.values.Val.{Val}
use Rattle.rules_code.specs.evaluation.Surroundings.{Surroundings}
use Rattle.rules_code.specs.evaluation.Operations.{Operation, transfer, origination, event, Issued, Tally, new_contract}
use Rattle.rules_code.specs.evaluation.Outcome.{Outcome, stack, failed, stuck}
use Rattle.rules_code.specs.evaluation.Evaluation.{eval}

-- an origination is of a number from `low` on, and what follows it of greater ones
abbrev pub IsNew : Operation → ℕ → ℕ → (ℕ → Type 0) → Type 0
IsNew (transfer argument amount destination) group low Rest = Rest low
IsNew (event tag kind value) group low Rest = Rest low
IsNew (origination delegate amount script storage hash) group low Rest =
    (i : ℕ) × (low ≤ i) × (hash ≡ new_contract group i) × Rest (suc i)

-- the originations among operations are of increasing numbers from `low` on and below `high`
abbrev pub AreNew : ℕ → ℕ → ℕ → List Issued → Type 0
AreNew group low high [] = low ≤ high
AreNew group low high (i ∷ issued) = IsNew i.operation group low (λ next. AreNew group next high issued)

-- what is issued stands behind what was, and its originations are new
abbrev pub Originates : ℕ → Tally → Outcome → Type 0
Originates group m (stack A V n) =
    (issued : List Issued) × (n.issued ≡ m.issued ++ issued) × AreNew group m.originations n.originations issued
Originates group m (failed f) = Unit {0}
Originates group m stuck = Unit {0}

-- Each contract that code makes has a number of its own in its group, among those that were counted meanwhile.
abbrev pub OriginationsAreNew : Type 0
OriginationsAreNew = (t : Tree) (e : Surroundings) (d : ℕ) (A : List Kind) (V : List Val) (m : Tally) →
    Originates e.group m (eval t e d A V m)
