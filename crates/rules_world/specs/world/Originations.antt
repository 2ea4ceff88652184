-- How originations are applied (Octez "Operations", originations). The tests of each rule are tried in their order.
use Rattle.std.specs.Prelude.{ℕ, ◌+◌, nat_lt, Bool, true, false, List, [], ◌∷◌, Option, Some, None}
use Rattle.rules_text.specs.nodes.Tree.{Tree}
use Rattle.rules_data.specs.forms.Spelling.{contract_place, implicit_place}
use Rattle.rules_data.specs.declared.gas.Kind.TheVariants as price
use Rattle.rules_data.specs.values.Val.{Val}
use Rattle.rules_code.specs.instructions.Arguments.{Found, found, fault}
use Rattle.rules_code.specs.typing.Scripts.{Script}
use Rattle.rules_code.specs.typing.Nodes.{script}
use Rattle.rules_code.specs.steps.Failure.{ill_typed, bad_storage, balance_too_low, unregistered_delegate}
use Rattle.rules_code.specs.evaluation.Operations.{new_contract}
use Rattle.rules_world.specs.world.Receipts.{Origination}
use Rattle.rules_world.specs.world.World.{World, with_contract}
use Rattle.rules_world.specs.world.Balances.{balance_or_none, with_less}
use Rattle.rules_world.specs.world.Growth.{growing}
use Rattle.rules_world.specs.world.Outcomes.{Setting, Counts, Outcome, applied, failed, charged}
use Rattle.rules_world.specs.world.Arguments.{literal_in}

-- a new contract: who pays its balance, its 20 bytes, the node of its script and its storage
pub record Founding : Type 0 where
  pub sender : List ℕ
  pub hash : List ℕ
  pub balance : ℕ
  pub script : Tree
  pub storage : Val

abbrev pub founded : World → Founding → World
founded w f =
    with_contract (with_less w f.sender f.balance) f.hash (record { balance = f.balance; paid = 0; script = f.script; storage = f.storage })

-- where the sender has the balance, the contract is made
abbrev pub founding_outcome : Bool → World → Founding → ℕ → Counts → Outcome
founding_outcome true w f gas counts = failed balance_too_low
founding_outcome false w f gas counts = applied (record {
  world = founded w f;
  emitted = [];
  effects = Origination f.sender (contract_place f.hash) f.balance ∷ [];
  gas = gas;
  counts = counts;
})

-- all that a new contract is counts as growth
abbrev pub found_contract : Setting → World → Founding → ℕ → Counts → Outcome
found_contract s w f gas counts = growing s f.hash (founding_outcome (nat_lt (balance_or_none w f.sender) f.balance) w f gas counts)

-- ---- by a content

-- the contract's 20 bytes are the group's number and how many originations the group had before, this one not counted
abbrev pub one_more : Counts → Counts
one_more counts = record counts { originations = counts.originations + 1 }

abbrev pub founding_of : Setting → Counts → ℕ → Tree → Val → Founding
founding_of s counts balance t v = record {
  sender = implicit_place s.source;
  hash = new_contract s.group counts.originations;
  balance = balance;
  script = t;
  storage = v;
}

abbrev pub with_storage : Found Val → Setting → World → ℕ → Tree → ℕ → Counts → Outcome
with_storage (found v) s w balance t gas counts = found_contract s w (founding_of s counts balance t v) gas (one_more counts)
with_storage (fault location) s w balance t gas counts = failed (bad_storage location)

abbrev pub with_script : Found Script → Setting → World → ℕ → Tree → Tree → ℕ → Counts → Outcome
with_script (found accepted) s w balance t storage gas counts =
    with_storage (literal_in w accepted.storage storage) s w balance t gas counts
with_script (fault location) s w balance t storage gas counts = failed (ill_typed location)

abbrev pub originated : Setting → World → ℕ → Tree → Tree → ℕ → Counts → Outcome
originated s w balance t storage gas counts =
    charged s.prices price.Origination gas (λ left. with_script (script t) s w balance t storage left counts)

-- ---- by a contract

abbrev pub unless_delegated : Setting → Option (List ℕ) → World → Founding → ℕ → Counts → Outcome
unless_delegated s (Some delegate) w f gas counts = failed unregistered_delegate
unless_delegated s None w f gas counts = found_contract s w f gas counts

abbrev pub originated_by_contract : Setting → World → Option (List ℕ) → Founding → ℕ → Counts → Outcome
originated_by_contract s w delegate f gas counts =
    charged s.prices price.Origination gas (λ left. unless_delegated s delegate w f left counts)
