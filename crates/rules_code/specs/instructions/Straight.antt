-- The instructions that have no bodies, and for which types and arguments say all that is asked: each row is one rule of
-- evaluation, its overload chosen (Michelson reference, "Instructions"). The names are those of the instructions, with the
-- operands where these choose the rule.
use Rattle.std.specs.Prelude.{ℕ, List}
use Rattle.rules_data.specs.types.Kind.{Kind}

-- the order of the stack. DROP and DUP are DROP 1 and DUP 1
pub data StackRow : Type 0 where
  drop : ℕ → StackRow
  dup : ℕ → StackRow
  swap : StackRow
  dig : ℕ → StackRow
  dug : ℕ → StackRow
  unit : StackRow
  cast : Kind → StackRow
  rename : StackRow

-- pairs, and combs of pairs. PAIR and UNPAIR are PAIR 2 and UNPAIR 2
pub data PairRow : Type 0 where
  pair : ℕ → PairRow
  unpair : ℕ → PairRow
  car : PairRow
  cdr : PairRow
  get_part : ℕ → PairRow
  update_part : ℕ → PairRow

-- unions, options and lists. LEFT carries the right type, RIGHT the left one
pub data UnionRow : Type 0 where
  left : Kind → UnionRow
  right : Kind → UnionRow
  some : UnionRow
  none : Kind → UnionRow
  nil : Kind → UnionRow
  cons : UnionRow

-- sets, maps and big maps, and the sizes of lists
pub data CollectionRow : Type 0 where
  empty_set : Kind → CollectionRow
  empty_map : Kind → Kind → CollectionRow
  empty_big_map : Kind → Kind → CollectionRow
  size_list : CollectionRow
  size_set : CollectionRow
  size_map : CollectionRow
  mem_set : CollectionRow
  mem_map : CollectionRow
  mem_big_map : CollectionRow
  get_map : CollectionRow
  get_big_map : CollectionRow
  update_set : CollectionRow
  update_map : CollectionRow
  update_big_map : CollectionRow
  get_and_update_map : CollectionRow
  get_and_update_big_map : CollectionRow

-- Arithmetic. Numbers are int, nat and timestamp, amounts are mutez; EDIV divides amounts as it does numbers, and one of
-- the two factors of MUL on amounts is a nat. BYTES, NAT and INT turn numbers into bytes and back.
pub data NumberRow : Type 0 where
  add_numbers : NumberRow
  add_amounts : NumberRow
  sub : NumberRow
  sub_mutez : NumberRow
  mul_numbers : NumberRow
  mul_amounts : NumberRow
  ediv : NumberRow
  abs : NumberRow
  neg : NumberRow
  int : NumberRow
  isnat : NumberRow
  lsl : NumberRow
  lsr : NumberRow
  nat_to_bytes : NumberRow
  int_to_bytes : NumberRow
  bytes_to_nat : NumberRow
  bytes_to_int : NumberRow

-- truth values and bits, and comparison
pub data LogicRow : Type 0 where
  and_bools : LogicRow
  or_bools : LogicRow
  xor_bools : LogicRow
  not_bool : LogicRow
  and_numbers : LogicRow
  or_numbers : LogicRow
  xor_numbers : LogicRow
  not_number : LogicRow
  compare : LogicRow
  eq : LogicRow
  neq : LogicRow
  lt : LogicRow
  gt : LogicRow
  le : LogicRow
  ge : LogicRow

-- strings and bytes
pub data TextRow : Type 0 where
  concat_strings : TextRow
  concat_bytes : TextRow
  concat_string_list : TextRow
  concat_bytes_list : TextRow
  slice_string : TextRow
  slice_bytes : TextRow
  size_string : TextRow
  size_bytes : TextRow

-- packing and hashes. UNPACK carries its type
pub data HashRow : Type 0 where
  pack : HashRow
  unpack : Kind → HashRow
  blake2b : HashRow
  sha256 : HashRow
  sha512 : HashRow
  hash_key : HashRow

-- what surrounds a run
pub data EnvironmentRow : Type 0 where
  amount : EnvironmentRow
  balance : EnvironmentRow
  sender : EnvironmentRow
  source : EnvironmentRow
  self_address : EnvironmentRow
  now : EnvironmentRow
  level : EnvironmentRow
  chain_id : EnvironmentRow

-- Contracts and operations. CONTRACT carries the entrypoint of its annotation, or `default`, and its type; EMIT its tag, or
-- the empty one, and the type of what it tells; VIEW its name and the types of its input and output.
pub data OperationRow : Type 0 where
  address : OperationRow
  implicit_account : OperationRow
  contract : List ℕ → Kind → OperationRow
  transfer_tokens : OperationRow
  emit : List ℕ → Kind → OperationRow
  view : List ℕ → Kind → Kind → OperationRow

-- tickets. TICKET carries the type of the content
pub data TicketRow : Type 0 where
  ticket : Kind → TicketRow
  read_ticket : TicketRow
  split_ticket : TicketRow
  join_tickets : TicketRow

-- an instruction with its overload chosen
pub data Straight : Type 0 where
  on_stack : StackRow → Straight
  on_pairs : PairRow → Straight
  on_unions : UnionRow → Straight
  on_collections : CollectionRow → Straight
  on_numbers : NumberRow → Straight
  on_truth : LogicRow → Straight
  on_text : TextRow → Straight
  on_hashes : HashRow → Straight
  on_environment : EnvironmentRow → Straight
  on_operations : OperationRow → Straight
  on_tickets : TicketRow → Straight
