-- The effect on types: strings and bytes, packing and hashes, what surrounds a run, contracts and operations, tickets
-- (Michelson reference, "Instructions"; Octez "Tickets").
use Rattle.std.specs.Prelude.{◌&&◌, List, ◌∷◌, Option, None}
use Rattle.rules_data.specs.types.Kind.{Kind, operation, option, pair, list, contract, ticket}
use Rattle.rules_data.specs.types.Attributes.{comparable, pushable, packable}
use Rattle.rules_code.specs.instructions.Types.{unit, nat, string, bytes, mutez, timestamp, key, key_hash, chain_id, address}
use Rattle.rules_code.specs.instructions.Same.{same_kind}
use Rattle.rules_code.specs.instructions.Change.{Change, makes, where_true}
use Rattle.rules_code.specs.instructions.Straight.{TextRow, HashRow, EnvironmentRow, OperationRow, TicketRow}
use Rattle.rules_code.specs.instructions.Straight as i

-- ---- strings and bytes, packing and hashes

abbrev pub text_change : TextRow → List Kind → Option Change
text_change i.concat_strings (string ∷ string ∷ A) = makes string A
text_change i.concat_bytes (bytes ∷ bytes ∷ A) = makes bytes A
text_change i.concat_string_list (list string ∷ A) = makes string A
text_change i.concat_bytes_list (list bytes ∷ A) = makes bytes A
text_change i.slice_string (nat ∷ nat ∷ string ∷ A) = makes (option string) A
text_change i.slice_bytes (nat ∷ nat ∷ bytes ∷ A) = makes (option bytes) A
text_change i.size_string (string ∷ A) = makes nat A
text_change i.size_bytes (bytes ∷ A) = makes nat A
text_change r A = None

abbrev pub hash_change : HashRow → List Kind → Option Change
hash_change i.pack (a ∷ A) = where_true (packable a) (makes bytes A)
hash_change (i.unpack t) (bytes ∷ A) = makes (option t) A
hash_change i.blake2b (bytes ∷ A) = makes bytes A
hash_change i.sha256 (bytes ∷ A) = makes bytes A
hash_change i.sha512 (bytes ∷ A) = makes bytes A
hash_change i.hash_key (key ∷ A) = makes key_hash A
hash_change r A = None

-- ---- what surrounds a run, contracts and operations, tickets

abbrev pub environment_kind : EnvironmentRow → Kind
environment_kind i.amount = mutez
environment_kind i.balance = mutez
environment_kind i.sender = address
environment_kind i.source = address
environment_kind i.self_address = address
environment_kind i.now = timestamp
environment_kind i.level = nat
environment_kind i.chain_id = chain_id

abbrev pub operation_change : OperationRow → List Kind → Option Change
operation_change i.address (contract a ∷ A) = makes address A
operation_change i.implicit_account (key_hash ∷ A) = makes (contract unit) A
operation_change (i.contract name t) (address ∷ A) = makes (option (contract t)) A
operation_change i.transfer_tokens (a ∷ mutez ∷ contract b ∷ A) = where_true (same_kind a b) (makes operation A)
operation_change (i.emit tag t) (a ∷ A) = where_true (same_kind a t && pushable a) (makes operation A)
operation_change (i.view name a t) (b ∷ address ∷ A) = where_true (same_kind a b) (makes (option t) A)
operation_change r A = None

-- a ticket, by the type of its content, as READ_TICKET shows it
abbrev pub shown : Kind → Kind
shown k = pair address (pair k nat)

abbrev pub ticket_change : TicketRow → List Kind → Option Change
ticket_change (i.ticket k) (j ∷ nat ∷ A) = where_true (same_kind j k && comparable k) (makes (option (ticket k)) A)
ticket_change i.read_ticket (ticket k ∷ A) = makes (shown k) (ticket k ∷ A)
ticket_change i.split_ticket (ticket k ∷ pair nat nat ∷ A) = makes (option (pair (ticket k) (ticket k))) A
ticket_change i.join_tickets (pair (ticket j) (ticket k) ∷ A) = where_true (same_kind j k) (makes (option (ticket j)) A)
ticket_change r A = None
