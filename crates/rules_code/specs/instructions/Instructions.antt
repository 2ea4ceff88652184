-- Which instruction without bodies a node is, by its name and arguments (Michelson reference, "Instructions"). A name
-- that has no line here is none.
use Rattle.std.specs.Prelude.{ℕ, ◌+◌, List, [], Option, Some}
use Rattle.rules_text.specs.nodes.Limits.{count_limit, part_limit}
use Rattle.rules_text.specs.nodes.Tree.{Trees, none, more, size}
use Rattle.rules_text.specs.declared.nodes.Primitive.{Primitive}
use Rattle.rules_text.specs.declared.nodes.Primitive.TheVariants as p
use Rattle.rules_data.specs.forms.Spelling.{default_name}
use Rattle.rules_data.specs.types.Kind.{Kind}
use Rattle.rules_data.specs.types.Attributes.{comparable, passable, pushable, packable, big_value}
use Rattle.rules_data.specs.types.Reading.{any_kind}
use Rattle.rules_code.specs.instructions.Straight.{Straight, on_stack, on_pairs, on_unions, on_collections, on_numbers, on_truth, on_hashes, on_environment, on_operations, on_tickets}
use Rattle.rules_code.specs.instructions.Straight as i
use Rattle.rules_code.specs.instructions.Overloads.{Overloaded, overload}
use Rattle.rules_code.specs.instructions.Overloads as o
use Rattle.rules_code.specs.instructions.Arguments.{Found, fault, and_then, found, no_argument, type_argument, one_type, two_types, one_count, count_or, annotated, view_name_argument}

-- one rule, or several of which the types choose
pub data Instruction : Type 0 where
  row : Straight → Instruction
  overloaded : Overloaded → Instruction

-- the rule on a stack of these types, if there is one
abbrev pub choose : Instruction → List Kind → Option Straight
choose (row r) A = Some r
choose (overloaded o) A = overload o A

-- EMIT with the type on the stack, or with that type written
abbrev pub emit_of : List ℕ → Trees → Found Instruction
emit_of tag none = found (overloaded (o.emit tag))
emit_of tag ts = one_type pushable ts (λ t. row (on_operations (i.emit tag t)))

-- VIEW with its name and the type of its output
abbrev pub view_of : Trees → Found Instruction
view_of (more n (more t none)) = and_then (view_name_argument 1 n) (λ name.
    and_then (type_argument packable (1 + size n) t) (λ a. found (overloaded (o.view name a))))
view_of ts = fault 0

-- the instruction of a name, with its annotations and arguments
abbrev pub instruction : Option Primitive → List (List ℕ) → Trees → Found Instruction
-- the order of the stack
instruction (Some p.OpDrop) annots ts = count_or (row (on_stack (i.drop 1))) 0 count_limit ts (λ n. row (on_stack (i.drop n)))
instruction (Some p.OpDup) annots ts = count_or (row (on_stack (i.dup 1))) 1 count_limit ts (λ n. row (on_stack (i.dup n)))
instruction (Some p.OpSwap) annots ts = no_argument ts (row (on_stack i.swap))
instruction (Some p.OpDig) annots ts = one_count 0 count_limit ts (λ n. row (on_stack (i.dig n)))
instruction (Some p.OpDug) annots ts = one_count 0 count_limit ts (λ n. row (on_stack (i.dug n)))
instruction (Some p.OpUnit) annots ts = no_argument ts (row (on_stack i.unit))
instruction (Some p.OpCast) annots ts = one_type any_kind ts (λ t. row (on_stack (i.cast t)))
instruction (Some p.OpRename) annots ts = no_argument ts (row (on_stack i.rename))
-- pairs and combs
instruction (Some p.OpPair) annots ts = count_or (row (on_pairs (i.pair 2))) 2 count_limit ts (λ n. row (on_pairs (i.pair n)))
instruction (Some p.OpUnpair) annots ts = count_or (row (on_pairs (i.unpair 2))) 2 count_limit ts (λ n. row (on_pairs (i.unpair n)))
instruction (Some p.OpCar) annots ts = no_argument ts (row (on_pairs i.car))
instruction (Some p.OpCdr) annots ts = no_argument ts (row (on_pairs i.cdr))
-- unions, options and lists
instruction (Some p.OpLeft) annots ts = one_type any_kind ts (λ b. row (on_unions (i.left b)))
instruction (Some p.OpRight) annots ts = one_type any_kind ts (λ a. row (on_unions (i.right a)))
instruction (Some p.OpSome) annots ts = no_argument ts (row (on_unions i.some))
instruction (Some p.OpNone) annots ts = one_type any_kind ts (λ a. row (on_unions (i.none a)))
instruction (Some p.OpNil) annots ts = one_type any_kind ts (λ a. row (on_unions (i.nil a)))
instruction (Some p.OpCons) annots ts = no_argument ts (row (on_unions i.cons))
-- sets, maps and big maps
instruction (Some p.OpEmptySet) annots ts = one_type comparable ts (λ k. row (on_collections (i.empty_set k)))
instruction (Some p.OpEmptyMap) annots ts = two_types comparable any_kind ts (λ k v. row (on_collections (i.empty_map k v)))
instruction (Some p.OpEmptyBigMap) annots ts = two_types comparable big_value ts (λ k v. row (on_collections (i.empty_big_map k v)))
instruction (Some p.OpSize) annots ts = no_argument ts (overloaded o.size)
instruction (Some p.OpMem) annots ts = no_argument ts (overloaded o.mem)
instruction (Some p.OpGet) annots ts = count_or (overloaded o.get) 0 part_limit ts (λ n. row (on_pairs (i.get_part n)))
instruction (Some p.OpUpdate) annots ts = count_or (overloaded o.update) 0 part_limit ts (λ n. row (on_pairs (i.update_part n)))
instruction (Some p.OpGetAndUpdate) annots ts = no_argument ts (overloaded o.get_and_update)
-- arithmetic
instruction (Some p.OpAdd) annots ts = no_argument ts (overloaded o.add)
instruction (Some p.OpSub) annots ts = no_argument ts (row (on_numbers i.sub))
instruction (Some p.OpMul) annots ts = no_argument ts (overloaded o.mul)
instruction (Some p.OpEdiv) annots ts = no_argument ts (row (on_numbers i.ediv))
instruction (Some p.OpSubMutez) annots ts = no_argument ts (row (on_numbers i.sub_mutez))
instruction (Some p.OpAbs) annots ts = no_argument ts (row (on_numbers i.abs))
instruction (Some p.OpNeg) annots ts = no_argument ts (row (on_numbers i.neg))
instruction (Some p.OpInt) annots ts = no_argument ts (overloaded o.to_int)
instruction (Some p.OpIsnat) annots ts = no_argument ts (row (on_numbers i.isnat))
instruction (Some p.OpLsl) annots ts = no_argument ts (row (on_numbers i.lsl))
instruction (Some p.OpLsr) annots ts = no_argument ts (row (on_numbers i.lsr))
instruction (Some p.OpBytes) annots ts = no_argument ts (overloaded o.to_bytes)
instruction (Some p.OpNat) annots ts = no_argument ts (row (on_numbers i.bytes_to_nat))
-- truth values and bits, comparison
instruction (Some p.OpAnd) annots ts = no_argument ts (overloaded o.and)
instruction (Some p.OpOr) annots ts = no_argument ts (overloaded o.or)
instruction (Some p.OpXor) annots ts = no_argument ts (overloaded o.xor)
instruction (Some p.OpNot) annots ts = no_argument ts (overloaded o.not)
instruction (Some p.OpCompare) annots ts = no_argument ts (row (on_truth i.compare))
instruction (Some p.OpEq) annots ts = no_argument ts (row (on_truth i.eq))
instruction (Some p.OpNeq) annots ts = no_argument ts (row (on_truth i.neq))
instruction (Some p.OpLt) annots ts = no_argument ts (row (on_truth i.lt))
instruction (Some p.OpGt) annots ts = no_argument ts (row (on_truth i.gt))
instruction (Some p.OpLe) annots ts = no_argument ts (row (on_truth i.le))
instruction (Some p.OpGe) annots ts = no_argument ts (row (on_truth i.ge))
-- strings and bytes, packing and hashes
instruction (Some p.OpConcat) annots ts = no_argument ts (overloaded o.concat)
instruction (Some p.OpSlice) annots ts = no_argument ts (overloaded o.slice)
instruction (Some p.OpPack) annots ts = no_argument ts (row (on_hashes i.pack))
instruction (Some p.OpUnpack) annots ts = one_type pushable ts (λ t. row (on_hashes (i.unpack t)))
instruction (Some p.OpBlake2b) annots ts = no_argument ts (row (on_hashes i.blake2b))
instruction (Some p.OpSha256) annots ts = no_argument ts (row (on_hashes i.sha256))
instruction (Some p.OpSha512) annots ts = no_argument ts (row (on_hashes i.sha512))
instruction (Some p.OpHashKey) annots ts = no_argument ts (row (on_hashes i.hash_key))
-- what surrounds a run
instruction (Some p.OpAmount) annots ts = no_argument ts (row (on_environment i.amount))
instruction (Some p.OpBalance) annots ts = no_argument ts (row (on_environment i.balance))
instruction (Some p.OpSender) annots ts = no_argument ts (row (on_environment i.sender))
instruction (Some p.OpSource) annots ts = no_argument ts (row (on_environment i.source))
instruction (Some p.OpSelfAddress) annots ts = no_argument ts (row (on_environment i.self_address))
instruction (Some p.OpNow) annots ts = no_argument ts (row (on_environment i.now))
instruction (Some p.OpLevel) annots ts = no_argument ts (row (on_environment i.level))
instruction (Some p.OpChainId) annots ts = no_argument ts (row (on_environment i.chain_id))
-- contracts and operations
instruction (Some p.OpAddress) annots ts = no_argument ts (row (on_operations i.address))
instruction (Some p.OpImplicitAccount) annots ts = no_argument ts (row (on_operations i.implicit_account))
instruction (Some p.OpContract) annots ts = and_then (annotated default_name annots) (λ name. one_type passable ts (λ t. row (on_operations (i.contract name t))))
instruction (Some p.OpTransferTokens) annots ts = no_argument ts (row (on_operations i.transfer_tokens))
instruction (Some p.OpEmit) annots ts = and_then (annotated [] annots) (λ tag. emit_of tag ts)
instruction (Some p.OpView) annots ts = view_of ts
-- tickets
instruction (Some p.OpTicket) annots ts = no_argument ts (overloaded o.ticket)
instruction (Some p.OpReadTicket) annots ts = no_argument ts (row (on_tickets i.read_ticket))
instruction (Some p.OpSplitTicket) annots ts = no_argument ts (row (on_tickets i.split_ticket))
instruction (Some p.OpJoinTickets) annots ts = no_argument ts (row (on_tickets i.join_tickets))
instruction name annots ts = fault 0
