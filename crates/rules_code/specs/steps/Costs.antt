-- What straight-line instructions cost: the kind of each, whose price the table tells, and its weight on the values of the
-- stack (this host's cost table).
use Rattle.std.specs.Prelude.{ℕ, pos, ◌+◌, ◌-◌, List, ◌∷◌, ◌++◌, length, take, sum_by, slice_get, Option, Some, None}
use Rattle.rules_data.specs.declared.gas.Kind.{Kind}
use Rattle.rules_data.specs.declared.gas.Kind.TheVariants as k
use Rattle.rules_data.specs.values.Val.{Val, number, text, bytes, list, table, big_table}
use Rattle.rules_data.specs.values.Weight.{weight}
use Rattle.rules_data.specs.values.Tables.{value_at}
use Rattle.rules_code.specs.instructions.Straight.{StackRow, PairRow, UnionRow, CollectionRow, NumberRow, LogicRow, TextRow, HashRow, EnvironmentRow, OperationRow, TicketRow, Straight, on_stack, on_pairs, on_unions, on_collections, on_numbers, on_truth, on_text, on_hashes, on_environment, on_operations, on_tickets}
use Rattle.rules_code.specs.instructions.Straight as i
use Rattle.rules_code.specs.steps.Sets.{element_count}
use Rattle.rules_code.specs.steps.Texts.{joined, slice}
use Rattle.rules_code.specs.steps.Packing.{packed}

-- ---- kinds

abbrev pub stack_kind : StackRow → Kind
stack_kind (i.drop n) = k.Drop
stack_kind (i.dup n) = k.Dup
stack_kind i.swap = k.Swap
stack_kind (i.dig n) = k.Dig
stack_kind (i.dug n) = k.Dug
stack_kind i.unit = k.Unit
stack_kind (i.cast a) = k.Cast
stack_kind i.rename = k.Rename

abbrev pub pair_kind : PairRow → Kind
pair_kind (i.pair n) = k.Pair
pair_kind (i.unpair n) = k.Unpair
pair_kind i.car = k.Car
pair_kind i.cdr = k.Cdr
pair_kind (i.get_part n) = k.Get
pair_kind (i.update_part n) = k.Update

abbrev pub union_kind : UnionRow → Kind
union_kind (i.left b) = k.Left
union_kind (i.right a) = k.Right
union_kind i.some = k.Some
union_kind (i.none a) = k.None
union_kind (i.nil a) = k.Nil
union_kind i.cons = k.Cons

abbrev pub collection_kind : CollectionRow → Kind
collection_kind (i.empty_set a) = k.EmptySet
collection_kind (i.empty_map a b) = k.EmptyMap
collection_kind (i.empty_big_map a b) = k.EmptyBigMap
collection_kind i.size_list = k.Size
collection_kind i.size_set = k.Size
collection_kind i.size_map = k.Size
collection_kind i.mem_set = k.Mem
collection_kind i.mem_map = k.Mem
collection_kind i.mem_big_map = k.Mem
collection_kind i.get_map = k.Get
collection_kind i.get_big_map = k.Get
collection_kind i.update_set = k.Update
collection_kind i.update_map = k.Update
collection_kind i.update_big_map = k.Update
collection_kind i.get_and_update_map = k.GetAndUpdate
collection_kind i.get_and_update_big_map = k.GetAndUpdate

abbrev pub number_kind : NumberRow → Kind
number_kind i.add_numbers = k.Add
number_kind i.add_amounts = k.Add
number_kind i.sub = k.Sub
number_kind i.sub_mutez = k.SubMutez
number_kind i.mul_numbers = k.Mul
number_kind i.mul_amounts = k.Mul
number_kind i.ediv = k.Ediv
number_kind i.abs = k.Abs
number_kind i.neg = k.Neg
number_kind i.int = k.Int
number_kind i.isnat = k.Isnat
number_kind i.lsl = k.Lsl
number_kind i.lsr = k.Lsr
number_kind i.nat_to_bytes = k.Bytes
number_kind i.int_to_bytes = k.Bytes
number_kind i.bytes_to_nat = k.Nat
number_kind i.bytes_to_int = k.Int

abbrev pub logic_kind : LogicRow → Kind
logic_kind i.and_bools = k.And
logic_kind i.or_bools = k.Or
logic_kind i.xor_bools = k.Xor
logic_kind i.not_bool = k.Not
logic_kind i.and_numbers = k.And
logic_kind i.or_numbers = k.Or
logic_kind i.xor_numbers = k.Xor
logic_kind i.not_number = k.Not
logic_kind i.compare = k.Compare
logic_kind i.eq = k.Eq
logic_kind i.neq = k.Neq
logic_kind i.lt = k.Lt
logic_kind i.gt = k.Gt
logic_kind i.le = k.Le
logic_kind i.ge = k.Ge

abbrev pub text_kind : TextRow → Kind
text_kind i.concat_strings = k.Concat
text_kind i.concat_bytes = k.Concat
text_kind i.concat_string_list = k.Concat
text_kind i.concat_bytes_list = k.Concat
text_kind i.slice_string = k.Slice
text_kind i.slice_bytes = k.Slice
text_kind i.size_string = k.Size
text_kind i.size_bytes = k.Size

abbrev pub hash_kind : HashRow → Kind
hash_kind i.pack = k.Pack
hash_kind (i.unpack a) = k.Unpack
hash_kind i.blake2b = k.Blake2b
hash_kind i.sha256 = k.Sha256
hash_kind i.sha512 = k.Sha512
hash_kind i.hash_key = k.HashKey

abbrev pub environment_kind : EnvironmentRow → Kind
environment_kind i.amount = k.Amount
environment_kind i.balance = k.Balance
environment_kind i.sender = k.Sender
environment_kind i.source = k.Source
environment_kind i.self_address = k.SelfAddress
environment_kind i.now = k.Now
environment_kind i.level = k.Level
environment_kind i.chain_id = k.ChainId

abbrev pub operation_kind : OperationRow → Kind
operation_kind i.address = k.Address
operation_kind i.implicit_account = k.ImplicitAccount
operation_kind (i.contract name a) = k.Contract
operation_kind i.transfer_tokens = k.TransferTokens
operation_kind (i.emit tag a) = k.Emit
operation_kind (i.view name a b) = k.View

abbrev pub ticket_kind : TicketRow → Kind
ticket_kind (i.ticket a) = k.Ticket
ticket_kind i.read_ticket = k.ReadTicket
ticket_kind i.split_ticket = k.SplitTicket
ticket_kind i.join_tickets = k.JoinTickets

abbrev pub kind_of : Straight → Kind
kind_of (on_stack row) = stack_kind row
kind_of (on_pairs row) = pair_kind row
kind_of (on_unions row) = union_kind row
kind_of (on_collections row) = collection_kind row
kind_of (on_numbers row) = number_kind row
kind_of (on_truth row) = logic_kind row
kind_of (on_text row) = text_kind row
kind_of (on_hashes row) = hash_kind row
kind_of (on_environment row) = environment_kind row
kind_of (on_operations row) = operation_kind row
kind_of (on_tickets row) = ticket_kind row

-- ---- weights: those of values, or numbers of bytes; 0 where none is told

-- of a value that may be there
abbrev pub weight_found : Option Val → ℕ
weight_found None = 0
weight_found (Some v) = weight v

abbrev pub length_found : Option (List ℕ) → ℕ
length_found None = 0
length_found (Some b) = length b

-- DROP weighs what is discarded, DUP what is copied
abbrev pub stack_weight : StackRow → List Val → ℕ
stack_weight (i.drop n) V = sum_by weight (take n V)
stack_weight (i.dup n) V = weight_found (slice_get V (n - 1))
stack_weight _ V = 0

-- GET weighs the value found
abbrev pub collection_weight : CollectionRow → List Val → ℕ
collection_weight i.get_map (k ∷ table ps ∷ V) = weight_found (value_at k ps)
collection_weight i.get_big_map (k ∷ big_table ps ∷ V) = weight_found (value_at k ps)
collection_weight _ _ = 0

-- NAT and INT weigh the bytes of the operand
abbrev pub number_weight : NumberRow → List Val → ℕ
number_weight i.bytes_to_nat (bytes b ∷ V) = length b
number_weight i.bytes_to_int (bytes b ∷ V) = length b
number_weight _ _ = 0

-- CONCAT weighs the bytes of its result, past the limit too, and the number of a list's elements; SLICE those of its result
abbrev pub text_weight : TextRow → List Val → ℕ
text_weight i.concat_strings (text s ∷ text t ∷ V) = length (s ++ t)
text_weight i.concat_bytes (bytes s ∷ bytes t ∷ V) = length (s ++ t)
text_weight i.concat_string_list (list vs ∷ V) = length (joined vs) + element_count vs
text_weight i.concat_bytes_list (list vs ∷ V) = length (joined vs) + element_count vs
text_weight i.slice_string (number (pos offset) ∷ number (pos count) ∷ text s ∷ V) = length_found (slice offset count s)
text_weight i.slice_bytes (number (pos offset) ∷ number (pos count) ∷ bytes s ∷ V) = length_found (slice offset count s)
text_weight _ _ = 0

-- PACK weighs the bytes of its result, past the limit too, and UNPACK and the hashes those of the operand
abbrev pub hash_weight : HashRow → List Val → ℕ
hash_weight i.pack (v ∷ V) = length (packed v)
hash_weight (i.unpack a) (bytes b ∷ V) = length b
hash_weight i.blake2b (bytes b ∷ V) = length b
hash_weight i.sha256 (bytes b ∷ V) = length b
hash_weight i.sha512 (bytes b ∷ V) = length b
hash_weight _ _ = 0

abbrev pub weight_of : Straight → List Val → ℕ
weight_of (on_stack row) V = stack_weight row V
weight_of (on_collections row) V = collection_weight row V
weight_of (on_numbers row) V = number_weight row V
weight_of (on_text row) V = text_weight row V
weight_of (on_hashes row) V = hash_weight row V
weight_of _ V = 0
