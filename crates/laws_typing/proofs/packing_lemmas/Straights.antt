-- Each name in the arguments of an instruction without bodies is a primitive's.
use Rattle.std.proofs.Common.{◌≡◌, ℕ, ◌+◌, Bool, Option, Some, List, [], refl}
use Rattle.rules_text.specs.nodes.Tree.{int, str, bytes, prim, seq, Trees, none, more, size}
use Rattle.rules_text.specs.declared.nodes.Primitive.{Primitive}
use Rattle.rules_text.specs.declared.nodes.Primitive.TheVariants as p
use Rattle.rules_data.specs.forms.Spelling.{default_name}
use Rattle.rules_data.specs.types.Kind.{Kind}
use Rattle.rules_data.specs.types.Attributes.{comparable, passable, pushable, packable, big_value}
use Rattle.rules_data.specs.types.Reading.{any_kind}
use Rattle.rules_code.specs.instructions.Straight as i
use Rattle.rules_code.specs.instructions.Straight.{on_stack, on_unions, on_collections, on_hashes, on_operations}
use Rattle.rules_code.specs.instructions.Overloads as o
use Rattle.rules_code.specs.instructions.Arguments.{Found, found, fault, and_then, no_argument, type_argument, one_type, two_types, one_count, count_or, annotated, view_name_argument}
use Rattle.rules_code.specs.instructions.Instructions.{Instruction, row, overloaded, emit_of, view_of, instruction}
use Rattle.rules_code.specs.instructions.Rules.{with_instruction, rule}
use Rattle.rules_code.specs.typing.Acts.{of_rule}
use Rattle.laws_typing.specs.packing.Laws.{IsTyped}
use Rattle.laws_typing.specs.packing.Names.{HaveCodes}
use Rattle.laws_typing.proofs.packing_lemmas.Types.{argument_codes}

module _ {A : Type 0} where
  no_argument_codes : (ts : Trees) (x w : A) → no_argument ts x ≡ found w → HaveCodes ts
  no_argument_codes none x w e = tt
  no_argument_codes (more t ts) x w e = absurd cc

  one_type_codes : (asked : Kind → Bool) (ts : Trees) (made : Kind → A) (w : A) → one_type asked ts made ≡ found w → HaveCodes ts
  one_type_codes asked none made w e = absurd cc
  one_type_codes asked (more t (more u ts)) made w e = absurd cc
  one_type_codes asked (more t none) made w e = by (type_argument asked 1 t) refl e
    where
      by : (f : Found Kind) → type_argument asked 1 t ≡ f → and_then f (λ a. found (made a)) ≡ found w → HaveCodes (more t none)
      by (found a) s e = (argument_codes asked 1 t a s, tt)
      by (fault l) s e = absurd cc

  two_types_codes : (asked asked_too : Kind → Bool) (ts : Trees) (made : Kind → Kind → A) (w : A) → two_types asked asked_too ts made ≡ found w → HaveCodes ts
  two_types_codes asked asked_too none made w e = absurd cc
  two_types_codes asked asked_too (more t none) made w e = absurd cc
  two_types_codes asked asked_too (more t (more u (more s ts))) made w e = absurd cc
  two_types_codes asked asked_too (more t (more u none)) made w e = by (type_argument asked 1 t) (type_argument asked_too (1 + size t) u) refl refl e
    where
      by : (f g : Found Kind) → type_argument asked 1 t ≡ f → type_argument asked_too (1 + size t) u ≡ g →
          and_then f (λ a. and_then g (λ b. found (made a b))) ≡ found w → HaveCodes (more t (more u none))
      by (found a) (found b) s r e = (argument_codes asked 1 t a s, (argument_codes asked_too (1 + size t) u b r, tt))
      by (found a) (fault l) s r e = absurd cc
      by (fault l) g s r e = absurd cc

  one_count_codes : (least most : ℕ) (ts : Trees) (made : ℕ → A) (w : A) → one_count least most ts made ≡ found w → HaveCodes ts
  one_count_codes least most none made w e = absurd cc
  one_count_codes least most (more t (more u ts)) made w e = absurd cc
  one_count_codes least most (more (int n) none) made w e = (tt, tt)
  one_count_codes least most (more (str s) none) made w e = absurd cc
  one_count_codes least most (more (bytes b) none) made w e = absurd cc
  one_count_codes least most (more (prim name annots ts) none) made w e = absurd cc
  one_count_codes least most (more (seq ts) none) made w e = absurd cc

  count_or_codes : (x : A) (least most : ℕ) (ts : Trees) (made : ℕ → A) (w : A) → count_or x least most ts made ≡ found w → HaveCodes ts
  count_or_codes x least most none made w e = tt
  count_or_codes x least most (more t ts) made w e = one_count_codes least most (more t ts) made w e

emit_codes : (tag : List ℕ) (ts : Trees) (w : Instruction) → emit_of tag ts ≡ found w → HaveCodes ts
emit_codes tag none w e = tt
emit_codes tag (more t ts) w e = one_type_codes pushable (more t ts) (λ t. row (on_operations (i.emit tag t))) w e

view_codes : (ts : Trees) (w : Instruction) → view_of ts ≡ found w → HaveCodes ts
view_codes none w e = absurd cc
view_codes (more n none) w e = absurd cc
view_codes (more n (more t (more u ts))) w e = absurd cc
view_codes (more (int n) (more t none)) w e = absurd cc
view_codes (more (bytes b) (more t none)) w e = absurd cc
view_codes (more (prim name annots ts) (more t none)) w e = absurd cc
view_codes (more (seq ts) (more t none)) w e = absurd cc
view_codes (more (str s) (more t none)) w e = by (view_name_argument 1 (str s)) (type_argument packable (1 + size (str s)) t) refl e
  where
    by : (f : Found (List ℕ)) (g : Found Kind) → type_argument packable (1 + size (str s)) t ≡ g →
        and_then f (λ name. and_then g (λ a. found (overloaded (o.view name a)))) ≡ found w → HaveCodes (more (str s) (more t none))
    by (found name) (found a) r e = (tt, (argument_codes packable (1 + size (str s)) t a r, tt))
    by (found name) (fault l) r e = absurd cc
    by (fault l) g r e = absurd cc

-- behind the name of an annotation
named_codes : (f : Found (List ℕ)) (next : List ℕ → Found Instruction) (ts : Trees) (w : Instruction) → and_then f next ≡ found w →
    ((name : List ℕ) → next name ≡ found w → HaveCodes ts) → HaveCodes ts
named_codes (found name) next ts w e h = h name e
named_codes (fault l) next ts w e h = absurd cc

instruction_codes : (name : Option Primitive) (annots : List (List ℕ)) (ts : Trees) (w : Instruction) → instruction name annots ts ≡ found w → HaveCodes ts
instruction_codes (Some p.OpDrop) annots ts w e = count_or_codes _ _ _ ts _ w e
instruction_codes (Some p.OpDup) annots ts w e = count_or_codes _ _ _ ts _ w e
instruction_codes (Some p.OpSwap) annots ts w e = no_argument_codes ts _ w e
instruction_codes (Some p.OpDig) annots ts w e = one_count_codes _ _ ts _ w e
instruction_codes (Some p.OpDug) annots ts w e = one_count_codes _ _ ts _ w e
instruction_codes (Some p.OpUnit) annots ts w e = no_argument_codes ts _ w e
instruction_codes (Some p.OpCast) annots ts w e = one_type_codes any_kind ts (λ t. row (on_stack (i.cast t))) w e
instruction_codes (Some p.OpRename) annots ts w e = no_argument_codes ts _ w e
instruction_codes (Some p.OpPair) annots ts w e = count_or_codes _ _ _ ts _ w e
instruction_codes (Some p.OpUnpair) annots ts w e = count_or_codes _ _ _ ts _ w e
instruction_codes (Some p.OpCar) annots ts w e = no_argument_codes ts _ w e
instruction_codes (Some p.OpCdr) annots ts w e = no_argument_codes ts _ w e
instruction_codes (Some p.OpLeft) annots ts w e = one_type_codes any_kind ts (λ b. row (on_unions (i.left b))) w e
instruction_codes (Some p.OpRight) annots ts w e = one_type_codes any_kind ts (λ a. row (on_unions (i.right a))) w e
instruction_codes (Some p.OpSome) annots ts w e = no_argument_codes ts _ w e
instruction_codes (Some p.OpNone) annots ts w e = one_type_codes any_kind ts (λ a. row (on_unions (i.none a))) w e
instruction_codes (Some p.OpNil) annots ts w e = one_type_codes any_kind ts (λ a. row (on_unions (i.nil a))) w e
instruction_codes (Some p.OpCons) annots ts w e = no_argument_codes ts _ w e
instruction_codes (Some p.OpEmptySet) annots ts w e = one_type_codes comparable ts (λ k. row (on_collections (i.empty_set k))) w e
instruction_codes (Some p.OpEmptyMap) annots ts w e = two_types_codes comparable any_kind ts (λ k v. row (on_collections (i.empty_map k v))) w e
instruction_codes (Some p.OpEmptyBigMap) annots ts w e = two_types_codes comparable big_value ts (λ k v. row (on_collections (i.empty_big_map k v))) w e
instruction_codes (Some p.OpSize) annots ts w e = no_argument_codes ts _ w e
instruction_codes (Some p.OpMem) annots ts w e = no_argument_codes ts _ w e
instruction_codes (Some p.OpGet) annots ts w e = count_or_codes _ _ _ ts _ w e
instruction_codes (Some p.OpUpdate) annots ts w e = count_or_codes _ _ _ ts _ w e
instruction_codes (Some p.OpGetAndUpdate) annots ts w e = no_argument_codes ts _ w e
instruction_codes (Some p.OpUnpack) annots ts w e = one_type_codes pushable ts (λ t. row (on_hashes (i.unpack t))) w e
instruction_codes (Some p.OpContract) annots ts w e =
    named_codes (annotated default_name annots) _ ts w e (λ name h. one_type_codes passable ts (λ t. row (on_operations (i.contract name t))) w h)
instruction_codes (Some p.OpEmit) annots ts w e = named_codes (annotated [] annots) _ ts w e (λ tag h. emit_codes tag ts w h)
instruction_codes (Some p.OpView) annots ts w e = view_codes ts w e
instruction_codes (Some p.OpAdd) annots ts w e = no_argument_codes ts _ w e
instruction_codes (Some p.OpSub) annots ts w e = no_argument_codes ts _ w e
instruction_codes (Some p.OpMul) annots ts w e = no_argument_codes ts _ w e
instruction_codes (Some p.OpEdiv) annots ts w e = no_argument_codes ts _ w e
instruction_codes (Some p.OpSubMutez) annots ts w e = no_argument_codes ts _ w e
instruction_codes (Some p.OpAbs) annots ts w e = no_argument_codes ts _ w e
instruction_codes (Some p.OpNeg) annots ts w e = no_argument_codes ts _ w e
instruction_codes (Some p.OpInt) annots ts w e = no_argument_codes ts _ w e
instruction_codes (Some p.OpIsnat) annots ts w e = no_argument_codes ts _ w e
instruction_codes (Some p.OpLsl) annots ts w e = no_argument_codes ts _ w e
instruction_codes (Some p.OpLsr) annots ts w e = no_argument_codes ts _ w e
instruction_codes (Some p.OpBytes) annots ts w e = no_argument_codes ts _ w e
instruction_codes (Some p.OpNat) annots ts w e = no_argument_codes ts _ w e
instruction_codes (Some p.OpAnd) annots ts w e = no_argument_codes ts _ w e
instruction_codes (Some p.OpOr) annots ts w e = no_argument_codes ts _ w e
instruction_codes (Some p.OpXor) annots ts w e = no_argument_codes ts _ w e
instruction_codes (Some p.OpNot) annots ts w e = no_argument_codes ts _ w e
instruction_codes (Some p.OpCompare) annots ts w e = no_argument_codes ts _ w e
instruction_codes (Some p.OpEq) annots ts w e = no_argument_codes ts _ w e
instruction_codes (Some p.OpNeq) annots ts w e = no_argument_codes ts _ w e
instruction_codes (Some p.OpLt) annots ts w e = no_argument_codes ts _ w e
instruction_codes (Some p.OpGt) annots ts w e = no_argument_codes ts _ w e
instruction_codes (Some p.OpLe) annots ts w e = no_argument_codes ts _ w e
instruction_codes (Some p.OpGe) annots ts w e = no_argument_codes ts _ w e
instruction_codes (Some p.OpConcat) annots ts w e = no_argument_codes ts _ w e
instruction_codes (Some p.OpSlice) annots ts w e = no_argument_codes ts _ w e
instruction_codes (Some p.OpPack) annots ts w e = no_argument_codes ts _ w e
instruction_codes (Some p.OpBlake2b) annots ts w e = no_argument_codes ts _ w e
instruction_codes (Some p.OpSha256) annots ts w e = no_argument_codes ts _ w e
instruction_codes (Some p.OpSha512) annots ts w e = no_argument_codes ts _ w e
instruction_codes (Some p.OpHashKey) annots ts w e = no_argument_codes ts _ w e
instruction_codes (Some p.OpAmount) annots ts w e = no_argument_codes ts _ w e
instruction_codes (Some p.OpBalance) annots ts w e = no_argument_codes ts _ w e
instruction_codes (Some p.OpSender) annots ts w e = no_argument_codes ts _ w e
instruction_codes (Some p.OpSource) annots ts w e = no_argument_codes ts _ w e
instruction_codes (Some p.OpSelfAddress) annots ts w e = no_argument_codes ts _ w e
instruction_codes (Some p.OpNow) annots ts w e = no_argument_codes ts _ w e
instruction_codes (Some p.OpLevel) annots ts w e = no_argument_codes ts _ w e
instruction_codes (Some p.OpChainId) annots ts w e = no_argument_codes ts _ w e
instruction_codes (Some p.OpAddress) annots ts w e = no_argument_codes ts _ w e
instruction_codes (Some p.OpImplicitAccount) annots ts w e = no_argument_codes ts _ w e
instruction_codes (Some p.OpTransferTokens) annots ts w e = no_argument_codes ts _ w e
instruction_codes (Some p.OpTicket) annots ts w e = no_argument_codes ts _ w e
instruction_codes (Some p.OpReadTicket) annots ts w e = no_argument_codes ts _ w e
instruction_codes (Some p.OpSplitTicket) annots ts w e = no_argument_codes ts _ w e
instruction_codes (Some p.OpJoinTickets) annots ts w e = no_argument_codes ts _ w e
instruction_codes name annots ts w e = absurd cc

pub rule_codes : (name : Option Primitive) (annots : List (List ℕ)) (ts : Trees) (A : List Kind) → IsTyped (of_rule (rule name annots ts A)) → HaveCodes ts
rule_codes name annots ts A h = by (instruction name annots ts) refl h
  where
    by : (f : Found Instruction) → instruction name annots ts ≡ f → IsTyped (of_rule (with_instruction f A)) → HaveCodes ts
    by (found w) s h = instruction_codes name annots ts w s
    by (fault l) s h = absurd h
