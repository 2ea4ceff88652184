-- What an instruction's arguments say of the types that its rule carries.
use Rattle.std.proofs.Common.{◌≡◌, ℕ, ◌+◌, Bool, true, false, List, [], ◌∷◌, Option, Some, None, refl}
use Rattle.std.specs.Prelude.{if◌then◌else◌}
use Rattle.rules_text.specs.nodes.Limits.{count_limit, part_limit}
use Rattle.rules_text.specs.nodes.Tree.{Trees, none, more, size}
use Rattle.rules_text.specs.declared.nodes.Primitive.{Primitive}
use Rattle.rules_text.specs.declared.nodes.Primitive.TheVariants as p
use Rattle.rules_data.specs.forms.Spelling.{default_name}
use Rattle.rules_data.specs.types.Kind.{Kind}
use Rattle.rules_data.specs.types.Kind as k
use Rattle.rules_code.specs.instructions.Types as t
use Rattle.rules_data.specs.types.Attributes.{comparable, passable, pushable, packable, big_value}
use Rattle.rules_data.specs.types.Reading.{any_kind}
use Rattle.rules_code.specs.instructions.Straight.{Straight, on_stack, on_pairs, on_unions, on_collections, on_numbers, on_truth, on_hashes, on_environment, on_operations, on_tickets}
use Rattle.rules_code.specs.instructions.Straight as i
use Rattle.rules_code.specs.instructions.Overloads.{Overloaded, overload}
use Rattle.rules_code.specs.instructions.Overloads as o
use Rattle.rules_code.specs.instructions.Change.{Change, after, is_within_limit}
use Rattle.rules_code.specs.instructions.Effect.{change}
use Rattle.rules_code.specs.instructions.Arguments.{Found, found, fault, and_then, type_argument, one_type, annotated, view_name_argument}
use Rattle.rules_code.specs.instructions.Instructions.{Instruction, row, overloaded, choose, emit_of, view_of, instruction}
use Rattle.rules_code.specs.instructions.Rules.{Ruled, ruled, faulty, with_change, with_row, with_instruction, rule}
use Rattle.laws_data.specs.types.Laws.{IsWellFormed}
use Rattle.laws_tickets.proofs.totals.Arguments.{AllFound, HasAttribute, type_argument_all, and_then_all, and_then_both, no_argument_all, one_type_all, two_types_all, one_count_all, count_or_all}

-- ---- rules

-- what a rule carries: keys and elements are comparable, what is unpacked can be pushed, and what a view gives can be packed
abbrev pub IsFine : Straight → Type 0
IsFine (on_collections (i.empty_set a)) = comparable a ≡ true
IsFine (on_collections (i.empty_map a b)) = comparable a ≡ true
IsFine (on_collections (i.empty_big_map a b)) = comparable a ≡ true
IsFine (on_hashes (i.unpack a)) = (pushable a ≡ true) × IsWellFormed a
IsFine (on_operations (i.view name a b)) = packable b ≡ true
IsFine r = Unit {0}

abbrev pub IsFineOverloaded : Overloaded → Type 0
IsFineOverloaded (o.view name b) = packable b ≡ true
IsFineOverloaded w = Unit {0}

abbrev pub IsFineInstruction : Instruction → Type 0
IsFineInstruction (row r) = IsFine r
IsFineInstruction (overloaded w) = IsFineOverloaded w

fine_emit : (tag : List ℕ) (ts : Trees) → AllFound IsFineInstruction (emit_of tag ts)
fine_emit tag none = tt
fine_emit tag (more t ts) =
    one_type_all IsFineInstruction pushable (more t ts) (λ t. row (on_operations (i.emit tag t))) (λ a c w. tt)

fine_view : (ts : Trees) → AllFound IsFineInstruction (view_of ts)
fine_view (more n (more t none)) =
    and_then_all IsFineInstruction (view_name_argument 1 n)
    (λ name. and_then (type_argument packable (1 + size n) t) (λ a. found (overloaded (o.view name a))))
    (λ name. and_then_both (HasAttribute packable) IsFineInstruction (type_argument packable (1 + size n) t)
    (λ a. found (overloaded (o.view name a))) (type_argument_all packable (1 + size n) t) (λ a g. g.0))
fine_view none = tt
fine_view (more n none) = tt
fine_view (more n (more t (more u ts))) = tt

fine_instruction : (name : Option Primitive) (annots : List (List ℕ)) (ts : Trees) →
    AllFound IsFineInstruction (instruction name annots ts)
fine_instruction (Some p.OpDrop) annots ts =
    count_or_all IsFineInstruction (row (on_stack (i.drop 1))) 0 count_limit ts (λ n. row (on_stack (i.drop n))) tt (λ n. tt)
fine_instruction (Some p.OpDup) annots ts =
    count_or_all IsFineInstruction (row (on_stack (i.dup 1))) 1 count_limit ts (λ n. row (on_stack (i.dup n))) tt (λ n. tt)
fine_instruction (Some p.OpSwap) annots ts = no_argument_all IsFineInstruction ts (row (on_stack i.swap)) tt
fine_instruction (Some p.OpDig) annots ts =
    one_count_all IsFineInstruction 0 count_limit ts (λ n. row (on_stack (i.dig n))) (λ n. tt)
fine_instruction (Some p.OpDug) annots ts =
    one_count_all IsFineInstruction 0 count_limit ts (λ n. row (on_stack (i.dug n))) (λ n. tt)
fine_instruction (Some p.OpUnit) annots ts = no_argument_all IsFineInstruction ts (row (on_stack i.unit)) tt
fine_instruction (Some p.OpCast) annots ts =
    one_type_all IsFineInstruction any_kind ts (λ t. row (on_stack (i.cast t))) (λ a c w. tt)
fine_instruction (Some p.OpRename) annots ts = no_argument_all IsFineInstruction ts (row (on_stack i.rename)) tt
fine_instruction (Some p.OpPair) annots ts =
    count_or_all IsFineInstruction (row (on_pairs (i.pair 2))) 2 count_limit ts (λ n. row (on_pairs (i.pair n))) tt (λ n. tt)
fine_instruction (Some p.OpUnpair) annots ts =
    count_or_all IsFineInstruction (row (on_pairs (i.unpair 2))) 2 count_limit ts (λ n. row (on_pairs (i.unpair n))) tt (λ n. tt)
fine_instruction (Some p.OpCar) annots ts = no_argument_all IsFineInstruction ts (row (on_pairs i.car)) tt
fine_instruction (Some p.OpCdr) annots ts = no_argument_all IsFineInstruction ts (row (on_pairs i.cdr)) tt
fine_instruction (Some p.OpLeft) annots ts =
    one_type_all IsFineInstruction any_kind ts (λ b. row (on_unions (i.left b))) (λ a c w. tt)
fine_instruction (Some p.OpRight) annots ts =
    one_type_all IsFineInstruction any_kind ts (λ a. row (on_unions (i.right a))) (λ a c w. tt)
fine_instruction (Some p.OpSome) annots ts = no_argument_all IsFineInstruction ts (row (on_unions i.some)) tt
fine_instruction (Some p.OpNone) annots ts =
    one_type_all IsFineInstruction any_kind ts (λ a. row (on_unions (i.none a))) (λ a c w. tt)
fine_instruction (Some p.OpNil) annots ts =
    one_type_all IsFineInstruction any_kind ts (λ a. row (on_unions (i.nil a))) (λ a c w. tt)
fine_instruction (Some p.OpCons) annots ts = no_argument_all IsFineInstruction ts (row (on_unions i.cons)) tt
fine_instruction (Some p.OpEmptySet) annots ts =
    one_type_all IsFineInstruction comparable ts (λ k. row (on_collections (i.empty_set k))) (λ a c w. c)
fine_instruction (Some p.OpEmptyMap) annots ts =
    two_types_all IsFineInstruction comparable any_kind ts (λ k v. row (on_collections (i.empty_map k v))) (λ a b c. c)
fine_instruction (Some p.OpEmptyBigMap) annots ts =
    two_types_all IsFineInstruction comparable big_value ts (λ k v. row (on_collections (i.empty_big_map k v))) (λ a b c. c)
fine_instruction (Some p.OpSize) annots ts = no_argument_all IsFineInstruction ts (overloaded o.size) tt
fine_instruction (Some p.OpMem) annots ts = no_argument_all IsFineInstruction ts (overloaded o.mem) tt
fine_instruction (Some p.OpGet) annots ts =
    count_or_all IsFineInstruction (overloaded o.get) 0 part_limit ts (λ n. row (on_pairs (i.get_part n))) tt (λ n. tt)
fine_instruction (Some p.OpUpdate) annots ts =
    count_or_all IsFineInstruction (overloaded o.update) 0 part_limit ts (λ n. row (on_pairs (i.update_part n))) tt (λ n. tt)
fine_instruction (Some p.OpGetAndUpdate) annots ts = no_argument_all IsFineInstruction ts (overloaded o.get_and_update) tt
fine_instruction (Some p.OpAdd) annots ts = no_argument_all IsFineInstruction ts (overloaded o.add) tt
fine_instruction (Some p.OpSub) annots ts = no_argument_all IsFineInstruction ts (row (on_numbers i.sub)) tt
fine_instruction (Some p.OpMul) annots ts = no_argument_all IsFineInstruction ts (overloaded o.mul) tt
fine_instruction (Some p.OpEdiv) annots ts = no_argument_all IsFineInstruction ts (row (on_numbers i.ediv)) tt
fine_instruction (Some p.OpSubMutez) annots ts = no_argument_all IsFineInstruction ts (row (on_numbers i.sub_mutez)) tt
fine_instruction (Some p.OpAbs) annots ts = no_argument_all IsFineInstruction ts (row (on_numbers i.abs)) tt
fine_instruction (Some p.OpNeg) annots ts = no_argument_all IsFineInstruction ts (row (on_numbers i.neg)) tt
fine_instruction (Some p.OpInt) annots ts = no_argument_all IsFineInstruction ts (overloaded o.to_int) tt
fine_instruction (Some p.OpIsnat) annots ts = no_argument_all IsFineInstruction ts (row (on_numbers i.isnat)) tt
fine_instruction (Some p.OpLsl) annots ts = no_argument_all IsFineInstruction ts (row (on_numbers i.lsl)) tt
fine_instruction (Some p.OpLsr) annots ts = no_argument_all IsFineInstruction ts (row (on_numbers i.lsr)) tt
fine_instruction (Some p.OpBytes) annots ts = no_argument_all IsFineInstruction ts (overloaded o.to_bytes) tt
fine_instruction (Some p.OpNat) annots ts = no_argument_all IsFineInstruction ts (row (on_numbers i.bytes_to_nat)) tt
fine_instruction (Some p.OpAnd) annots ts = no_argument_all IsFineInstruction ts (overloaded o.and) tt
fine_instruction (Some p.OpOr) annots ts = no_argument_all IsFineInstruction ts (overloaded o.or) tt
fine_instruction (Some p.OpXor) annots ts = no_argument_all IsFineInstruction ts (overloaded o.xor) tt
fine_instruction (Some p.OpNot) annots ts = no_argument_all IsFineInstruction ts (overloaded o.not) tt
fine_instruction (Some p.OpCompare) annots ts = no_argument_all IsFineInstruction ts (row (on_truth i.compare)) tt
fine_instruction (Some p.OpEq) annots ts = no_argument_all IsFineInstruction ts (row (on_truth i.eq)) tt
fine_instruction (Some p.OpNeq) annots ts = no_argument_all IsFineInstruction ts (row (on_truth i.neq)) tt
fine_instruction (Some p.OpLt) annots ts = no_argument_all IsFineInstruction ts (row (on_truth i.lt)) tt
fine_instruction (Some p.OpGt) annots ts = no_argument_all IsFineInstruction ts (row (on_truth i.gt)) tt
fine_instruction (Some p.OpLe) annots ts = no_argument_all IsFineInstruction ts (row (on_truth i.le)) tt
fine_instruction (Some p.OpGe) annots ts = no_argument_all IsFineInstruction ts (row (on_truth i.ge)) tt
fine_instruction (Some p.OpConcat) annots ts = no_argument_all IsFineInstruction ts (overloaded o.concat) tt
fine_instruction (Some p.OpSlice) annots ts = no_argument_all IsFineInstruction ts (overloaded o.slice) tt
fine_instruction (Some p.OpPack) annots ts = no_argument_all IsFineInstruction ts (row (on_hashes i.pack)) tt
fine_instruction (Some p.OpUnpack) annots ts =
    one_type_all IsFineInstruction pushable ts (λ t. row (on_hashes (i.unpack t))) (λ a c w. (c, w))
fine_instruction (Some p.OpBlake2b) annots ts = no_argument_all IsFineInstruction ts (row (on_hashes i.blake2b)) tt
fine_instruction (Some p.OpSha256) annots ts = no_argument_all IsFineInstruction ts (row (on_hashes i.sha256)) tt
fine_instruction (Some p.OpSha512) annots ts = no_argument_all IsFineInstruction ts (row (on_hashes i.sha512)) tt
fine_instruction (Some p.OpHashKey) annots ts = no_argument_all IsFineInstruction ts (row (on_hashes i.hash_key)) tt
fine_instruction (Some p.OpAmount) annots ts = no_argument_all IsFineInstruction ts (row (on_environment i.amount)) tt
fine_instruction (Some p.OpBalance) annots ts = no_argument_all IsFineInstruction ts (row (on_environment i.balance)) tt
fine_instruction (Some p.OpSender) annots ts = no_argument_all IsFineInstruction ts (row (on_environment i.sender)) tt
fine_instruction (Some p.OpSource) annots ts = no_argument_all IsFineInstruction ts (row (on_environment i.source)) tt
fine_instruction (Some p.OpSelfAddress) annots ts = no_argument_all IsFineInstruction ts (row (on_environment i.self_address)) tt
fine_instruction (Some p.OpNow) annots ts = no_argument_all IsFineInstruction ts (row (on_environment i.now)) tt
fine_instruction (Some p.OpLevel) annots ts = no_argument_all IsFineInstruction ts (row (on_environment i.level)) tt
fine_instruction (Some p.OpChainId) annots ts = no_argument_all IsFineInstruction ts (row (on_environment i.chain_id)) tt
fine_instruction (Some p.OpAddress) annots ts = no_argument_all IsFineInstruction ts (row (on_operations i.address)) tt
fine_instruction (Some p.OpImplicitAccount) annots ts =
    no_argument_all IsFineInstruction ts (row (on_operations i.implicit_account)) tt
fine_instruction (Some p.OpContract) annots ts =
    and_then_all IsFineInstruction (annotated default_name annots)
    (λ name. one_type passable ts (λ t. row (on_operations (i.contract name t))))
    (λ name. one_type_all IsFineInstruction passable ts (λ t. row (on_operations (i.contract name t))) (λ a c w. tt))
fine_instruction (Some p.OpTransferTokens) annots ts =
    no_argument_all IsFineInstruction ts (row (on_operations i.transfer_tokens)) tt
fine_instruction (Some p.OpEmit) annots ts =
    and_then_all IsFineInstruction (annotated [] annots) (λ tag. emit_of tag ts) (λ tag. fine_emit tag ts)
fine_instruction (Some p.OpView) annots ts = fine_view ts
fine_instruction (Some p.OpTicket) annots ts = no_argument_all IsFineInstruction ts (overloaded o.ticket) tt
fine_instruction (Some p.OpReadTicket) annots ts = no_argument_all IsFineInstruction ts (row (on_tickets i.read_ticket)) tt
fine_instruction (Some p.OpSplitTicket) annots ts = no_argument_all IsFineInstruction ts (row (on_tickets i.split_ticket)) tt
fine_instruction (Some p.OpJoinTickets) annots ts = no_argument_all IsFineInstruction ts (row (on_tickets i.join_tickets)) tt
fine_instruction _ annots ts = tt

abbrev AllChosen : Option Straight → Type 0
AllChosen None = Unit {0}
AllChosen (Some r) = IsFine r

fine_overload : (w : Overloaded) (A : List Kind) → IsFineOverloaded w → AllChosen (overload w A)
fine_overload o.size (k.list a ∷ A) h = tt
fine_overload o.size (k.set k ∷ A) h = tt
fine_overload o.size (k.map k v ∷ A) h = tt
fine_overload o.size (t.string ∷ A) h = tt
fine_overload o.size (t.bytes ∷ A) h = tt
fine_overload o.mem (j ∷ k.set k ∷ A) h = tt
fine_overload o.mem (j ∷ k.map k v ∷ A) h = tt
fine_overload o.mem (j ∷ k.big_map k v ∷ A) h = tt
fine_overload o.get (j ∷ k.map k v ∷ A) h = tt
fine_overload o.get (j ∷ k.big_map k v ∷ A) h = tt
fine_overload o.update (j ∷ w ∷ k.set k ∷ A) h = tt
fine_overload o.update (j ∷ w ∷ k.map k v ∷ A) h = tt
fine_overload o.update (j ∷ w ∷ k.big_map k v ∷ A) h = tt
fine_overload o.get_and_update (j ∷ w ∷ k.map k v ∷ A) h = tt
fine_overload o.get_and_update (j ∷ w ∷ k.big_map k v ∷ A) h = tt
fine_overload o.add (t.mutez ∷ A) h = tt
fine_overload o.add (a ∷ A) h = tt
fine_overload o.mul (t.mutez ∷ A) h = tt
fine_overload o.mul (a ∷ t.mutez ∷ A) h = tt
fine_overload o.mul (a ∷ b ∷ A) h = tt
fine_overload o.to_int (t.nat ∷ A) h = tt
fine_overload o.to_int (t.bytes ∷ A) h = tt
fine_overload o.to_bytes (t.nat ∷ A) h = tt
fine_overload o.to_bytes (t.int ∷ A) h = tt
fine_overload o.and (t.bool ∷ A) h = tt
fine_overload o.and (a ∷ A) h = tt
fine_overload o.or (t.bool ∷ A) h = tt
fine_overload o.or (a ∷ A) h = tt
fine_overload o.xor (t.bool ∷ A) h = tt
fine_overload o.xor (a ∷ A) h = tt
fine_overload o.not (t.bool ∷ A) h = tt
fine_overload o.not (a ∷ A) h = tt
fine_overload o.concat (t.string ∷ A) h = tt
fine_overload o.concat (t.bytes ∷ A) h = tt
fine_overload o.concat (k.list t.string ∷ A) h = tt
fine_overload o.concat (k.list t.bytes ∷ A) h = tt
fine_overload o.slice (a ∷ b ∷ t.string ∷ A) h = tt
fine_overload o.slice (a ∷ b ∷ t.bytes ∷ A) h = tt
fine_overload (o.emit tag) (a ∷ A) h = tt
fine_overload (o.view name t) (a ∷ A) h = h
fine_overload o.ticket (k ∷ A) h = tt
fine_overload _ _ h = tt

fine_choice : (w : Instruction) (A : List Kind) → IsFineInstruction w → AllChosen (choose w A)
fine_choice (row r) A h = h
fine_choice (overloaded w) A h = fine_overload w A h

-- a rule that is fine, with the stack after it
abbrev pub IsRule : List Kind → Ruled → Type 0
IsRule A (ruled r B) = IsFine r × ((c : Change) × (change r A ≡ Some c) × (B ≡ after c))
IsRule A (faulty l) = Unit {0}

with_change_is : (r : Straight) (A : List Kind) (c : Option Change) → IsFine r → change r A ≡ c → IsRule A (with_change r c)
with_change_is r A None f e = tt
with_change_is r A (Some c) f e = by_test (is_within_limit c)
  where
    by_test : (b : Bool) → IsRule A (if b then ruled r (after c) else faulty 0)
    by_test true = (f, (c, e, refl))
    by_test false = tt

with_row_is : (r : Option Straight) (A : List Kind) → AllChosen r → IsRule A (with_row r A)
with_row_is None A f = tt
with_row_is (Some r) A f = with_change_is r A (change r A) f refl

with_instruction_is : (w : Found Instruction) (A : List Kind) → AllFound IsFineInstruction w → IsRule A (with_instruction w A)
with_instruction_is (found w) A f = with_row_is (choose w A) A (fine_choice w A f)
with_instruction_is (fault l) A f = tt

pub rule_is : (name : Option Primitive) (annots : List (List ℕ)) (ts : Trees) (A : List Kind) → IsRule A (rule name annots ts A)
rule_is name annots ts A = with_instruction_is (instruction name annots ts) A (fine_instruction name annots ts)
