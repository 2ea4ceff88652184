-- The names that instructions without bodies carry.
use Rattle.std.proofs.Common.{◌≡◌, ◌<◌, ◌≤◌, ℕ, ◌+◌, Bool, true, false, ◌&&◌, Option, Some, None, List, [], ◌∷◌, length, refl, arith}
use Rattle.std.specs.Prelude.{nat_le, if◌then◌else◌}
use Rattle.std.specs.List.{list_all}
use Rattle.std.proofs.lemmas.Bool.{and_parts, leb-true, and_from}
use Rattle.std.proofs.lemmas.Bool.Decides.{nat_tests}
use Rattle.rules_text.specs.nodes.Limits.{count_limit, part_limit}
use Rattle.rules_text.specs.nodes.Tree.{Trees, none, more, size}
use Rattle.rules_text.specs.declared.nodes.Primitive.{Primitive}
use Rattle.rules_text.specs.declared.nodes.Primitive.TheVariants as p
use Rattle.rules_data.specs.forms.Spelling.{default_name, is_name_byte, is_entrypoint}
use Rattle.rules_data.specs.types.Kind.{Kind}
use Rattle.rules_data.specs.types.Kind as k
use Rattle.rules_data.specs.types.Attributes.{comparable, passable, pushable, packable, big_value}
use Rattle.rules_data.specs.types.Entrypoints.{field_name}
use Rattle.rules_data.specs.types.Reading.{any_kind}
use Rattle.rules_code.specs.instructions.Types as t
use Rattle.rules_code.specs.instructions.Straight.{Straight, on_stack, on_pairs, on_unions, on_collections, on_numbers, on_truth, on_text, on_hashes, on_environment, on_operations, on_tickets}
use Rattle.rules_code.specs.instructions.Straight as i
use Rattle.rules_code.specs.instructions.Overloads.{Overloaded, overload}
use Rattle.rules_code.specs.instructions.Overloads as o
use Rattle.rules_code.specs.instructions.Change.{Change, after, is_within_limit}
use Rattle.rules_code.specs.instructions.Effect.{change}
use Rattle.rules_code.specs.instructions.Arguments.{Found, found, fault, and_then, no_argument, type_argument, one_type, two_types, count_argument, one_count, count_or, checked_name, annotated, view_name_argument}
use Rattle.rules_code.specs.instructions.Instructions.{Instruction, row, overloaded, choose, emit_of, view_of, instruction}
use Rattle.rules_code.specs.instructions.Rules.{Ruled, ruled, faulty, with_change, with_row, with_instruction, rule}
use Rattle.mich_text.specs.Written.{is_text, IsString}
use Rattle.laws_commands.specs.written.Written.{IsByte, AreBytes}
use Rattle.laws_commands.proofs.common.Lists.{all_test}

-- ---- names

named_small : (c : ℕ) → is_name_byte c ≡ true → c < 256
named_small c h = grind (arith, nat_tests)

named_text : (c : ℕ) → is_name_byte c ≡ true → is_text c ≡ true
named_text c h = grind (arith, nat_tests)

all_named : (name : List ℕ) → is_entrypoint name ≡ true → list_all is_name_byte name ≡ true
all_named name h = (and_parts (nat_le 1 (length name) && nat_le (length name) 31) (list_all is_name_byte name) h).1

pub name_bytes : (name : List ℕ) → is_entrypoint name ≡ true → AreBytes name
name_bytes name h = all_test IsByte is_name_byte name named_small (all_named name h)

-- a name's bytes are few
abbrev pub IsShortName : List ℕ → Type 0
IsShortName name = AreBytes name × (length name ≤ 31)

pub name_short : (name : List ℕ) → is_entrypoint name ≡ true → IsShortName name
name_short name h = (
  name_bytes name h,
  leb-true (length name) 31 (and_parts (nat_le 1 (length name)) (nat_le (length name) 31)
      (and_parts (nat_le 1 (length name) && nat_le (length name) 31) (list_all is_name_byte name) h).0).1,
)

texts : (name : List ℕ) → list_all is_name_byte name ≡ true → list_all is_text name ≡ true
texts [] h = refl
texts (c ∷ name) h =
    let hs = and_parts (is_name_byte c) (list_all is_name_byte name) h in and_from (is_text c) (list_all is_text name) (named_text c hs.0)
    (texts name hs.1)

name_string : (name : List ℕ) → is_entrypoint name ≡ true → IsString name
name_string name h =
    let short = leb-true (length name) 31 (and_parts (nat_le 1 (length name)) (nat_le (length name) 31)
    (and_parts (nat_le 1 (length name) && nat_le (length name) 31) (list_all is_name_byte name) h).0).1 in
    (texts name (all_named name h), omega (arith, short))

-- what is read has P
abbrev AllFound : {A : Type 0} → (A → Type 0) → Found A → Type 0
AllFound P (found x) = P x
AllFound P (fault l) = Unit {0}

checked_all : (P : List ℕ → Type 0) (other : List ℕ) (o : Option (List ℕ)) → P other →
    ((name : List ℕ) → is_entrypoint name ≡ true → P name) →
    AllFound P (checked_name other o)
checked_all P other None h f = h
checked_all P other (Some name) h f = by (is_entrypoint name) refl
  where
    by : (b : Bool) → is_entrypoint name ≡ b → AllFound P (if b then found name else fault 0)
    by true e = f name e
    by false e = tt

annotated_all : (P : List ℕ → Type 0) (other : List ℕ) (annots : List (List ℕ)) → P other →
    ((name : List ℕ) → is_entrypoint name ≡ true → P name) →
    AllFound P (annotated other annots)
annotated_all P other annots h f = checked_all P other (field_name annots) h f

-- ---- arguments

and_then_all : {A B : Type 0} (P : B → Type 0) (x : Found A) (next : A → Found B) → ((y : A) → AllFound P (next y)) →
    AllFound P (and_then x next)
and_then_all P (found y) next h = h y
and_then_all P (fault l) next h = tt

and_then_both : {A B : Type 0} (Q : A → Type 0) (P : B → Type 0) (x : Found A) (next : A → Found B) → AllFound Q x →
    ((y : A) → Q y → AllFound P (next y)) →
    AllFound P (and_then x next)
and_then_both Q P (found y) next q h = h y q
and_then_both Q P (fault l) next q h = tt

no_argument_all : {A : Type 0} (P : A → Type 0) (ts : Trees) (x : A) → P x → AllFound P (no_argument ts x)
no_argument_all P none x h = h
no_argument_all P (more t ts) x h = tt

one_type_all : {A : Type 0} (P : A → Type 0) (asked : Kind → Bool) (ts : Trees) (made : Kind → A) → ((a : Kind) → P (made a)) →
    AllFound P (one_type asked ts made)
one_type_all P asked (more t none) made h = and_then_all P (type_argument asked 1 t) (λ a. found (made a)) h
one_type_all P asked none made h = tt
one_type_all P asked (more t (more u ts)) made h = tt

two_types_all : {A : Type 0} (P : A → Type 0) (asked asked_too : Kind → Bool) (ts : Trees) (made : Kind → Kind → A) →
    ((a b : Kind) → P (made a b)) →
    AllFound P (two_types asked asked_too ts made)
two_types_all P asked asked_too (more t (more u none)) made h =
    and_then_all P (type_argument asked 1 t) (λ a. and_then (type_argument asked_too (1 + size t) u) (λ b. found (made a b))) (λ a.
    and_then_all P (type_argument asked_too (1 + size t) u) (λ b. found (made a b)) (h a))
two_types_all P asked asked_too none made h = tt
two_types_all P asked asked_too (more t none) made h = tt
two_types_all P asked asked_too (more t (more u (more x ts))) made h = tt

one_count_all : {A : Type 0} (P : A → Type 0) (least most : ℕ) (ts : Trees) (made : ℕ → A) → ((n : ℕ) → P (made n)) →
    AllFound P (one_count least most ts made)
one_count_all P least most (more t none) made h = and_then_all P (count_argument least most 1 t) (λ n. found (made n)) h
one_count_all P least most none made h = tt
one_count_all P least most (more t (more u ts)) made h = tt

count_or_all : {A : Type 0} (P : A → Type 0) (x : A) (least most : ℕ) (ts : Trees) (made : ℕ → A) → P x → ((n : ℕ) → P (made n)) →
    AllFound P (count_or x least most ts made)
count_or_all P x least most none made g h = g
count_or_all P x least most (more t ts) made g h = one_count_all P least most (more t ts) made h

-- ---- rules

-- an entrypoint's name has bytes, and a tag can be written
abbrev pub IsNamed : Straight → Type 0
IsNamed (on_operations (i.contract name a)) = IsShortName name
IsNamed (on_operations (i.emit tag a)) = IsString tag
IsNamed r = Unit {0}

abbrev IsNamedOverload : Overloaded → Type 0
IsNamedOverload (o.emit tag) = IsString tag
IsNamedOverload w = Unit {0}

abbrev IsNamedInstruction : Instruction → Type 0
IsNamedInstruction (row r) = IsNamed r
IsNamedInstruction (overloaded w) = IsNamedOverload w

named_emit : (tag : List ℕ) (ts : Trees) → IsString tag → AllFound IsNamedInstruction (emit_of tag ts)
named_emit tag none h = h
named_emit tag (more t ts) h = one_type_all IsNamedInstruction pushable (more t ts) (λ t. row (on_operations (i.emit tag t))) (λ a. h)

named_view : (ts : Trees) → AllFound IsNamedInstruction (view_of ts)
named_view (more n (more t none)) =
    and_then_all IsNamedInstruction (view_name_argument 1 n)
    (λ name. and_then (type_argument packable (1 + size n) t) (λ a. found (overloaded (o.view name a)))) (λ name.
    and_then_all IsNamedInstruction (type_argument packable (1 + size n) t) (λ a. found (overloaded (o.view name a))) (λ a. tt))
named_view none = tt
named_view (more n none) = tt
named_view (more n (more t (more u ts))) = tt

named_instruction : (name : Option Primitive) (annots : List (List ℕ)) (ts : Trees) →
    AllFound IsNamedInstruction (instruction name annots ts)
named_instruction (Some p.OpDrop) annots ts =
    count_or_all IsNamedInstruction (row (on_stack (i.drop 1))) 0 count_limit ts (λ n. row (on_stack (i.drop n))) tt (λ n. tt)
named_instruction (Some p.OpDup) annots ts =
    count_or_all IsNamedInstruction (row (on_stack (i.dup 1))) 1 count_limit ts (λ n. row (on_stack (i.dup n))) tt (λ n. tt)
named_instruction (Some p.OpSwap) annots ts = no_argument_all IsNamedInstruction ts (row (on_stack i.swap)) tt
named_instruction (Some p.OpDig) annots ts =
    one_count_all IsNamedInstruction 0 count_limit ts (λ n. row (on_stack (i.dig n))) (λ n. tt)
named_instruction (Some p.OpDug) annots ts =
    one_count_all IsNamedInstruction 0 count_limit ts (λ n. row (on_stack (i.dug n))) (λ n. tt)
named_instruction (Some p.OpUnit) annots ts = no_argument_all IsNamedInstruction ts (row (on_stack i.unit)) tt
named_instruction (Some p.OpCast) annots ts =
    one_type_all IsNamedInstruction any_kind ts (λ t. row (on_stack (i.cast t))) (λ a. tt)
named_instruction (Some p.OpRename) annots ts = no_argument_all IsNamedInstruction ts (row (on_stack i.rename)) tt
named_instruction (Some p.OpPair) annots ts =
    count_or_all IsNamedInstruction (row (on_pairs (i.pair 2))) 2 count_limit ts (λ n. row (on_pairs (i.pair n))) tt (λ n. tt)
named_instruction (Some p.OpUnpair) annots ts =
    count_or_all IsNamedInstruction (row (on_pairs (i.unpair 2))) 2 count_limit ts (λ n. row (on_pairs (i.unpair n))) tt (λ n. tt)
named_instruction (Some p.OpCar) annots ts = no_argument_all IsNamedInstruction ts (row (on_pairs i.car)) tt
named_instruction (Some p.OpCdr) annots ts = no_argument_all IsNamedInstruction ts (row (on_pairs i.cdr)) tt
named_instruction (Some p.OpLeft) annots ts =
    one_type_all IsNamedInstruction any_kind ts (λ b. row (on_unions (i.left b))) (λ a. tt)
named_instruction (Some p.OpRight) annots ts =
    one_type_all IsNamedInstruction any_kind ts (λ a. row (on_unions (i.right a))) (λ a. tt)
named_instruction (Some p.OpSome) annots ts = no_argument_all IsNamedInstruction ts (row (on_unions i.some)) tt
named_instruction (Some p.OpNone) annots ts =
    one_type_all IsNamedInstruction any_kind ts (λ a. row (on_unions (i.none a))) (λ a. tt)
named_instruction (Some p.OpNil) annots ts =
    one_type_all IsNamedInstruction any_kind ts (λ a. row (on_unions (i.nil a))) (λ a. tt)
named_instruction (Some p.OpCons) annots ts = no_argument_all IsNamedInstruction ts (row (on_unions i.cons)) tt
named_instruction (Some p.OpEmptySet) annots ts =
    one_type_all IsNamedInstruction comparable ts (λ k. row (on_collections (i.empty_set k))) (λ a. tt)
named_instruction (Some p.OpEmptyMap) annots ts =
    two_types_all IsNamedInstruction comparable any_kind ts (λ k v. row (on_collections (i.empty_map k v))) (λ a b. tt)
named_instruction (Some p.OpEmptyBigMap) annots ts =
    two_types_all IsNamedInstruction comparable big_value ts (λ k v. row (on_collections (i.empty_big_map k v))) (λ a b. tt)
named_instruction (Some p.OpSize) annots ts = no_argument_all IsNamedInstruction ts (overloaded o.size) tt
named_instruction (Some p.OpMem) annots ts = no_argument_all IsNamedInstruction ts (overloaded o.mem) tt
named_instruction (Some p.OpGet) annots ts =
    count_or_all IsNamedInstruction (overloaded o.get) 0 part_limit ts (λ n. row (on_pairs (i.get_part n))) tt (λ n. tt)
named_instruction (Some p.OpUpdate) annots ts =
    count_or_all IsNamedInstruction (overloaded o.update) 0 part_limit ts (λ n. row (on_pairs (i.update_part n))) tt (λ n. tt)
named_instruction (Some p.OpGetAndUpdate) annots ts = no_argument_all IsNamedInstruction ts (overloaded o.get_and_update) tt
named_instruction (Some p.OpAdd) annots ts = no_argument_all IsNamedInstruction ts (overloaded o.add) tt
named_instruction (Some p.OpSub) annots ts = no_argument_all IsNamedInstruction ts (row (on_numbers i.sub)) tt
named_instruction (Some p.OpMul) annots ts = no_argument_all IsNamedInstruction ts (overloaded o.mul) tt
named_instruction (Some p.OpEdiv) annots ts = no_argument_all IsNamedInstruction ts (row (on_numbers i.ediv)) tt
named_instruction (Some p.OpSubMutez) annots ts = no_argument_all IsNamedInstruction ts (row (on_numbers i.sub_mutez)) tt
named_instruction (Some p.OpAbs) annots ts = no_argument_all IsNamedInstruction ts (row (on_numbers i.abs)) tt
named_instruction (Some p.OpNeg) annots ts = no_argument_all IsNamedInstruction ts (row (on_numbers i.neg)) tt
named_instruction (Some p.OpInt) annots ts = no_argument_all IsNamedInstruction ts (overloaded o.to_int) tt
named_instruction (Some p.OpIsnat) annots ts = no_argument_all IsNamedInstruction ts (row (on_numbers i.isnat)) tt
named_instruction (Some p.OpLsl) annots ts = no_argument_all IsNamedInstruction ts (row (on_numbers i.lsl)) tt
named_instruction (Some p.OpLsr) annots ts = no_argument_all IsNamedInstruction ts (row (on_numbers i.lsr)) tt
named_instruction (Some p.OpBytes) annots ts = no_argument_all IsNamedInstruction ts (overloaded o.to_bytes) tt
named_instruction (Some p.OpNat) annots ts = no_argument_all IsNamedInstruction ts (row (on_numbers i.bytes_to_nat)) tt
named_instruction (Some p.OpAnd) annots ts = no_argument_all IsNamedInstruction ts (overloaded o.and) tt
named_instruction (Some p.OpOr) annots ts = no_argument_all IsNamedInstruction ts (overloaded o.or) tt
named_instruction (Some p.OpXor) annots ts = no_argument_all IsNamedInstruction ts (overloaded o.xor) tt
named_instruction (Some p.OpNot) annots ts = no_argument_all IsNamedInstruction ts (overloaded o.not) tt
named_instruction (Some p.OpCompare) annots ts = no_argument_all IsNamedInstruction ts (row (on_truth i.compare)) tt
named_instruction (Some p.OpEq) annots ts = no_argument_all IsNamedInstruction ts (row (on_truth i.eq)) tt
named_instruction (Some p.OpNeq) annots ts = no_argument_all IsNamedInstruction ts (row (on_truth i.neq)) tt
named_instruction (Some p.OpLt) annots ts = no_argument_all IsNamedInstruction ts (row (on_truth i.lt)) tt
named_instruction (Some p.OpGt) annots ts = no_argument_all IsNamedInstruction ts (row (on_truth i.gt)) tt
named_instruction (Some p.OpLe) annots ts = no_argument_all IsNamedInstruction ts (row (on_truth i.le)) tt
named_instruction (Some p.OpGe) annots ts = no_argument_all IsNamedInstruction ts (row (on_truth i.ge)) tt
named_instruction (Some p.OpConcat) annots ts = no_argument_all IsNamedInstruction ts (overloaded o.concat) tt
named_instruction (Some p.OpSlice) annots ts = no_argument_all IsNamedInstruction ts (overloaded o.slice) tt
named_instruction (Some p.OpPack) annots ts = no_argument_all IsNamedInstruction ts (row (on_hashes i.pack)) tt
named_instruction (Some p.OpUnpack) annots ts =
    one_type_all IsNamedInstruction pushable ts (λ t. row (on_hashes (i.unpack t))) (λ a. tt)
named_instruction (Some p.OpBlake2b) annots ts = no_argument_all IsNamedInstruction ts (row (on_hashes i.blake2b)) tt
named_instruction (Some p.OpSha256) annots ts = no_argument_all IsNamedInstruction ts (row (on_hashes i.sha256)) tt
named_instruction (Some p.OpSha512) annots ts = no_argument_all IsNamedInstruction ts (row (on_hashes i.sha512)) tt
named_instruction (Some p.OpHashKey) annots ts = no_argument_all IsNamedInstruction ts (row (on_hashes i.hash_key)) tt
named_instruction (Some p.OpAmount) annots ts = no_argument_all IsNamedInstruction ts (row (on_environment i.amount)) tt
named_instruction (Some p.OpBalance) annots ts = no_argument_all IsNamedInstruction ts (row (on_environment i.balance)) tt
named_instruction (Some p.OpSender) annots ts = no_argument_all IsNamedInstruction ts (row (on_environment i.sender)) tt
named_instruction (Some p.OpSource) annots ts = no_argument_all IsNamedInstruction ts (row (on_environment i.source)) tt
named_instruction (Some p.OpSelfAddress) annots ts = no_argument_all IsNamedInstruction ts (row (on_environment i.self_address)) tt
named_instruction (Some p.OpNow) annots ts = no_argument_all IsNamedInstruction ts (row (on_environment i.now)) tt
named_instruction (Some p.OpLevel) annots ts = no_argument_all IsNamedInstruction ts (row (on_environment i.level)) tt
named_instruction (Some p.OpChainId) annots ts = no_argument_all IsNamedInstruction ts (row (on_environment i.chain_id)) tt
named_instruction (Some p.OpAddress) annots ts = no_argument_all IsNamedInstruction ts (row (on_operations i.address)) tt
named_instruction (Some p.OpImplicitAccount) annots ts =
    no_argument_all IsNamedInstruction ts (row (on_operations i.implicit_account)) tt
named_instruction (Some p.OpContract) annots ts =
    and_then_both IsShortName IsNamedInstruction (annotated default_name annots)
    (λ name. one_type passable ts (λ t. row (on_operations (i.contract name t))))
    (annotated_all IsShortName default_name annots (name_short default_name refl) name_short)
    (λ name h. one_type_all IsNamedInstruction passable ts (λ t. row (on_operations (i.contract name t))) (λ a. h))
named_instruction (Some p.OpTransferTokens) annots ts =
    no_argument_all IsNamedInstruction ts (row (on_operations i.transfer_tokens)) tt
named_instruction (Some p.OpEmit) annots ts =
    and_then_both IsString IsNamedInstruction (annotated [] annots) (λ tag. emit_of tag ts) (annotated_all IsString [] annots (
      refl,
      omega arith,
    ) name_string) (λ tag h. named_emit tag ts h)
named_instruction (Some p.OpView) annots ts = named_view ts
named_instruction (Some p.OpTicket) annots ts = no_argument_all IsNamedInstruction ts (overloaded o.ticket) tt
named_instruction (Some p.OpReadTicket) annots ts = no_argument_all IsNamedInstruction ts (row (on_tickets i.read_ticket)) tt
named_instruction (Some p.OpSplitTicket) annots ts = no_argument_all IsNamedInstruction ts (row (on_tickets i.split_ticket)) tt
named_instruction (Some p.OpJoinTickets) annots ts = no_argument_all IsNamedInstruction ts (row (on_tickets i.join_tickets)) tt
named_instruction _ annots ts = tt

abbrev AllChosen : Option Straight → Type 0
AllChosen None = Unit {0}
AllChosen (Some r) = IsNamed r

named_overload : (w : Overloaded) (A : List Kind) → IsNamedOverload w → AllChosen (overload w A)
named_overload o.size (k.list a ∷ A) h = tt
named_overload o.size (k.set k ∷ A) h = tt
named_overload o.size (k.map k v ∷ A) h = tt
named_overload o.size (t.string ∷ A) h = tt
named_overload o.size (t.bytes ∷ A) h = tt
named_overload o.mem (j ∷ k.set k ∷ A) h = tt
named_overload o.mem (j ∷ k.map k v ∷ A) h = tt
named_overload o.mem (j ∷ k.big_map k v ∷ A) h = tt
named_overload o.get (j ∷ k.map k v ∷ A) h = tt
named_overload o.get (j ∷ k.big_map k v ∷ A) h = tt
named_overload o.update (j ∷ w ∷ k.set k ∷ A) h = tt
named_overload o.update (j ∷ w ∷ k.map k v ∷ A) h = tt
named_overload o.update (j ∷ w ∷ k.big_map k v ∷ A) h = tt
named_overload o.get_and_update (j ∷ w ∷ k.map k v ∷ A) h = tt
named_overload o.get_and_update (j ∷ w ∷ k.big_map k v ∷ A) h = tt
named_overload o.add (t.mutez ∷ A) h = tt
named_overload o.add (a ∷ A) h = tt
named_overload o.mul (t.mutez ∷ A) h = tt
named_overload o.mul (a ∷ t.mutez ∷ A) h = tt
named_overload o.mul (a ∷ b ∷ A) h = tt
named_overload o.to_int (t.nat ∷ A) h = tt
named_overload o.to_int (t.bytes ∷ A) h = tt
named_overload o.to_bytes (t.nat ∷ A) h = tt
named_overload o.to_bytes (t.int ∷ A) h = tt
named_overload o.and (t.bool ∷ A) h = tt
named_overload o.and (a ∷ A) h = tt
named_overload o.or (t.bool ∷ A) h = tt
named_overload o.or (a ∷ A) h = tt
named_overload o.xor (t.bool ∷ A) h = tt
named_overload o.xor (a ∷ A) h = tt
named_overload o.not (t.bool ∷ A) h = tt
named_overload o.not (a ∷ A) h = tt
named_overload o.concat (t.string ∷ A) h = tt
named_overload o.concat (t.bytes ∷ A) h = tt
named_overload o.concat (k.list t.string ∷ A) h = tt
named_overload o.concat (k.list t.bytes ∷ A) h = tt
named_overload o.slice (a ∷ b ∷ t.string ∷ A) h = tt
named_overload o.slice (a ∷ b ∷ t.bytes ∷ A) h = tt
named_overload (o.emit tag) (a ∷ A) h = h
named_overload (o.view name t) (a ∷ A) h = tt
named_overload o.ticket (k ∷ A) h = tt
named_overload _ _ h = tt

named_choice : (w : Instruction) (A : List Kind) → IsNamedInstruction w → AllChosen (choose w A)
named_choice (row r) A h = h
named_choice (overloaded w) A h = named_overload w A h

abbrev pub IsNamedRule : Ruled → Type 0
IsNamedRule (ruled r B) = IsNamed r
IsNamedRule (faulty l) = Unit {0}

with_change_named : (r : Straight) (c : Option Change) → IsNamed r → IsNamedRule (with_change r c)
with_change_named r None f = tt
with_change_named r (Some c) f = by (is_within_limit c)
  where
    by : (b : Bool) → IsNamedRule (if b then ruled r (after c) else faulty 0)
    by true = f
    by false = tt

with_row_named : (r : Option Straight) (A : List Kind) → AllChosen r → IsNamedRule (with_row r A)
with_row_named None A f = tt
with_row_named (Some r) A f = with_change_named r (change r A) f

with_instruction_named : (w : Found Instruction) (A : List Kind) → AllFound IsNamedInstruction w → IsNamedRule (with_instruction w A)
with_instruction_named (found w) A f = with_row_named (choose w A) A (named_choice w A f)
with_instruction_named (fault l) A f = tt

pub rule_named : (name : Option Primitive) (annots : List (List ℕ)) (ts : Trees) (A : List Kind) → IsNamedRule (rule name annots ts A)
rule_named name annots ts A = with_instruction_named (instruction name annots ts) A (named_instruction name annots ts)
