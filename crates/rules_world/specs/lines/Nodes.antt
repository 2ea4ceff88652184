-- The nodes that are written of a replay, a line for each: receipts of groups, and the world at the end.
use Rattle.std.specs.Prelude.{ℕ, ℤ, pos, List, [], ◌∷◌, ◌++◌, map, codes, Option, Some, None}
use Rattle.rules_text.specs.nodes.Tree.{Tree, int, str, bytes, prim, seq, trees_of}
use Rattle.rules_text.specs.text.Printed.{printed}
use Rattle.rules_data.specs.forms.Spelling.{contract_place}
use Rattle.rules_data.specs.types.Kind.{Kind}
use Rattle.rules_data.specs.types.Printing.{node_of}
use Rattle.rules_data.specs.values.Val.{Val}
use Rattle.rules_data.specs.values.Tickets.{Identity, Held}
use Rattle.rules_data.specs.values.Canonical.{canonical}
use Rattle.rules_code.specs.steps.Changes.{Change, minted, burnt}
use Rattle.rules_code.specs.steps.Failure.{Failure}
use Rattle.rules_code.specs.steps.Failure as f
use Rattle.rules_code.specs.evaluation.Surroundings.{Contract}
use Rattle.rules_world.specs.world.Receipts.{GroupFault, UnknownSource, GasTooHigh, FeeTooHigh, Effect, Transfer, Give, Origination, Event, Storage, Status, Applied, Backtracked, Failed, Skipped, Receipt, Refused, Done}
use Rattle.rules_world.specs.world.World.{World, Account}
use Rattle.rules_world.specs.world.Balances.{supply}
use Rattle.rules_world.specs.world.Holdings.{held, minted_ever, burnt_ever, identities}

-- a line: a node as it is printed, and a newline
abbrev pub line : Tree → List ℕ
line t = printed t ++ codes "\n"

-- a name with arguments, and one alone
abbrev pub over : List ℕ → List Tree → Tree
over name arguments = prim name [] (trees_of arguments)

abbrev pub word : List ℕ → Tree
word name = over name []

abbrev pub sequence : List Tree → Tree
sequence elements = seq (trees_of elements)

abbrev pub number : ℕ → Tree
number n = int (pos n)

-- ---- failures

-- a failure with the location of the node that it is about
abbrev pub located : List ℕ → ℕ → Tree
located name location = over name (number location ∷ [])

abbrev pub failure_node : Failure → Tree
failure_node (f.failed_with kind value) = over (codes "FailedWith") (node_of kind ∷ canonical value ∷ [])
failure_node f.out_of_gas = word (codes "OutOfGas")
failure_node f.integer_limit = word (codes "IntegerLimit")
failure_node f.mutez_overflow = word (codes "MutezOverflow")
failure_node f.shift_limit = word (codes "ShiftLimit")
failure_node f.size_limit = word (codes "SizeLimit")
failure_node f.depth_limit = word (codes "DepthLimit")
failure_node f.too_many_operations = word (codes "TooManyOperations")
failure_node f.operation_replay = word (codes "OperationReplay")
failure_node f.no_contract = word (codes "NoContract")
failure_node f.no_entrypoint = word (codes "NoEntrypoint")
failure_node (f.bad_parameter location) = located (codes "BadParameter") location
failure_node f.balance_too_low = word (codes "BalanceTooLow")
failure_node f.empty_transaction = word (codes "EmptyTransaction")
failure_node (f.ill_typed location) = located (codes "IllTyped") location
failure_node (f.bad_storage location) = located (codes "BadStorage") location
failure_node f.unregistered_delegate = word (codes "UnregisteredDelegate")
failure_node f.ticket_short = word (codes "TicketShort")
failure_node f.cannot_pay_burn = word (codes "CannotPayBurn")

-- ---- effects

-- a ticket's issuer, type and content
abbrev pub ticket_fields : List ℕ → Kind → Val → List Tree
ticket_fields issuer kind content = bytes issuer ∷ node_of kind ∷ canonical content ∷ []

abbrev pub change_over : List ℕ → Held → Tree
change_over name t = over name (ticket_fields t.issuer t.kind t.content ++ int t.amount ∷ [])

abbrev pub change_node : Change → Tree
change_node (minted t) = change_over (codes "Minted") t
change_node (burnt t) = change_over (codes "Burnt") t

abbrev pub changes_node : List Change → Tree
changes_node changes = sequence (map change_node changes)

abbrev pub effect_node : Effect → Tree
effect_node (Transfer sender destination amount argument changes) =
    over (codes "Transfer") (bytes sender ∷ bytes destination ∷ number amount ∷ argument ∷ changes_node changes ∷ [])
effect_node (Give sender destination issuer kind content amount changes) =
    over (codes "Give") (bytes sender ∷ bytes destination ∷ bytes issuer ∷ kind ∷ content ∷ int amount ∷ changes_node changes ∷ [])
effect_node (Origination sender address amount) = over (codes "Origination") (bytes sender ∷ bytes address ∷ number amount ∷ [])
effect_node (Event sender tag kind value) = over (codes "Event") (bytes sender ∷ str tag ∷ kind ∷ value ∷ [])
effect_node (Storage address count burn) = over (codes "Storage") (bytes address ∷ number count ∷ number burn ∷ [])

-- ---- receipts

abbrev pub status_node : Status → Tree
status_node (Applied gas effects) = over (codes "Applied") (number gas ∷ sequence (map effect_node effects) ∷ [])
status_node Backtracked = word (codes "Backtracked")
status_node (Failed count failure) = over (codes "Failed") (number count ∷ failure_node failure ∷ [])
status_node Skipped = word (codes "Skipped")

abbrev pub fault_node : GroupFault → Tree
fault_node UnknownSource = word (codes "UnknownSource")
fault_node GasTooHigh = word (codes "GasTooHigh")
fault_node FeeTooHigh = word (codes "FeeTooHigh")

abbrev pub receipt_node : Receipt → Tree
receipt_node (Refused fault) = over (codes "Refused") (fault_node fault ∷ [])
receipt_node (Done statuses) = sequence (map status_node statuses)

abbrev pub group_node : ℕ → Receipt → Tree
group_node n receipt = over (codes "Group") (number n ∷ receipt_node receipt ∷ [])

-- ---- the world

-- a ticket that an account holds
abbrev pub held_node : Identity × ℤ → Tree
held_node holding = over (codes "Held") (ticket_fields holding.0.issuer holding.0.kind holding.0.content ++ int holding.1 ∷ [])

abbrev pub account_node : List ℕ × Account → Tree
account_node account = over (codes "Account") (bytes account.0 ∷ number account.1.balance ∷ sequence (map held_node account.1.holdings) ∷ [])

-- the bytes that a contract has paid for, where there is a rate
abbrev pub paid_nodes : Option ℕ → Contract → List Tree
paid_nodes (Some rate) c = number c.paid ∷ []
paid_nodes None c = []

abbrev pub contract_node : Option ℕ → List ℕ × Contract → Tree
contract_node rate contract =
    over (codes "Contract")
    (bytes (contract_place contract.0) ∷ number contract.1.balance ∷ canonical contract.1.storage ∷ paid_nodes rate contract.1)

-- a ticket, with what was minted of it, what was burnt and what is held
abbrev pub ticket_node : World → Identity → Tree
ticket_node w id =
    over (codes "Tickets") (ticket_fields id.issuer id.kind id.content ++ int (minted_ever w id) ∷ int (burnt_ever w id) ∷ int (held w id) ∷ [])

abbrev pub burn_nodes : Option ℕ → ℕ → List Tree
burn_nodes (Some rate) burn = over (codes "StorageBurn") (number burn ∷ []) ∷ []
burn_nodes None burn = []

-- accounts and contracts in the order of their bytes, tickets in theirs, the fees, what was burnt for storage, and all mutez
abbrev pub state_nodes : World → List Tree
state_nodes w =
    map account_node w.accounts ++ (map (contract_node w.rate) w.contracts ++ (map (ticket_node w) (identities w.log)
    ++ over (codes "Fees") (number w.fees ∷ []) ∷ (burn_nodes w.rate w.storage_burn ++ over (codes "Supply") (number (supply w) ∷ []) ∷ [])))
