-- The application of one operation to the world (Octez "Operations").
use Rattle.std.specs.Prelude.{ℕ, List, [], ◌∷◌}
use Rattle.rules_text.specs.nodes.Tree.{Tree}
use Rattle.rules_data.specs.forms.Spelling.{implicit_place, place_of, entrypoint_of}
use Rattle.rules_data.specs.declared.gas.Kind.TheVariants as price
use Rattle.rules_data.specs.types.Kind.{Kind}
use Rattle.rules_data.specs.types.Printing.{node_of}
use Rattle.rules_data.specs.values.Val.{Val}
use Rattle.rules_data.specs.values.Canonical.{canonical}
use Rattle.rules_code.specs.evaluation.Operations.{Operation, transfer, origination, event}
use Rattle.rules_world.specs.world.Contents.{Action, Originate, Call, Give}
use Rattle.rules_world.specs.world.Receipts.{Event}
use Rattle.rules_world.specs.world.World.{World}
use Rattle.rules_world.specs.world.Outcomes.{Setting, Waiting, ordered, issued, Counts, Outcome, applied, charged}
use Rattle.rules_world.specs.world.Arguments.{node, value}
use Rattle.rules_world.specs.world.Transfers.{Transaction, transferred}
use Rattle.rules_world.specs.world.Originations.{originated, originated_by_contract}
use Rattle.rules_world.specs.world.Gives.{given}

-- an event changes nothing
abbrev pub told : World → List ℕ → List ℕ → Kind → Val → ℕ → Counts → Outcome
told w sender tag kind v gas counts =
    applied (record { world = w; emitted = []; effects = Event sender tag (node_of kind) (canonical v) ∷ []; gas = gas; counts = counts })

-- what a source orders
abbrev pub ordered_transaction : Setting → ℕ → List ℕ → List ℕ → Tree → Transaction
ordered_transaction s amount destination entrypoint argument = record {
  sender = implicit_place s.source;
  destination = destination;
  entrypoint = entrypoint;
  amount = amount;
  argument = node argument;
}

abbrev pub apply_action : Setting → World → Action → ℕ → Counts → Outcome
apply_action s w (Originate balance script storage) gas counts = originated s w balance script storage gas counts
apply_action s w (Call amount destination entrypoint argument) gas counts =
    transferred s w (ordered_transaction s amount destination entrypoint argument) gas counts
apply_action s w (Give issuer kind content amount destination entrypoint) gas counts =
    given s w (record { issuer = issuer; kind = kind; content = content; amount = amount }) destination entrypoint gas counts

-- what the contract at a place issued
abbrev pub issued_transaction : List ℕ → Val → ℕ → List ℕ → Transaction
issued_transaction sender argument amount address = record {
  sender = sender;
  destination = place_of address;
  entrypoint = entrypoint_of address;
  amount = amount;
  argument = value argument;
}

abbrev pub apply_issued : Setting → World → List ℕ → Operation → ℕ → Counts → Outcome
apply_issued s w sender (transfer argument amount destination) gas counts =
    transferred s w (issued_transaction sender argument amount destination) gas counts
apply_issued s w sender (origination delegate amount script storage hash) gas counts =
    originated_by_contract s w delegate
    (record { sender = sender; hash = hash; balance = amount; script = script; storage = storage })
    gas counts
apply_issued s w sender (event tag kind v) gas counts = charged s.prices price.Event gas (λ left. told w sender tag kind v left counts)

abbrev pub apply : Setting → World → Waiting → ℕ → Counts → Outcome
apply s w (ordered action) gas counts = apply_action s w action gas counts
apply s w (issued sender op) gas counts = apply_issued s w sender op gas counts
