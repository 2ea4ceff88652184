-- Instructions carry types.
use Rattle.std.proofs.Common.{◌≡◌, ℕ, ◌+◌, Bool, true, false, List, [], Option, Some, None, refl}
use Rattle.std.specs.Prelude.{if◌then◌else◌}
use Rattle.std.proofs.lemmas.Bool.{leb-true}
use Rattle.rules_text.specs.nodes.Limits.{type_limit}
use Rattle.rules_text.specs.nodes.Tree.{Tree, Trees, none, more, size}
use Rattle.rules_text.specs.declared.nodes.Primitive.{Primitive}
use Rattle.rules_text.specs.declared.nodes.Primitive.TheVariants as p
use Rattle.rules_data.specs.forms.Spelling.{default_name, is_entrypoint}
use Rattle.rules_data.specs.types.Kind.{Kind, nodes}
use Rattle.rules_data.specs.types.Attributes.{comparable, passable, pushable, packable, big_value}
use Rattle.rules_data.specs.types.Reading.{typed, Reading, a_type, bad_type, too_large, type_at, any_kind}
use Rattle.rules_code.specs.instructions.Overloads as o
use Rattle.rules_code.specs.instructions.Arguments.{Found, found, fault, and_then, no_argument, with_attribute, type_argument, one_type, two_types, count_argument, one_count, count_or, checked_name, annotated, view_name_argument}
use Rattle.rules_code.specs.instructions.Instructions.{Instruction, row, overloaded, emit_of, view_of, instruction}
use Rattle.rules_data.specs.types.Entrypoints.{field_name}
use Rattle.laws_data.specs.types.Laws.{IsWellFormed}
use Rattle.laws_data.proofs.types_lemmas.ForCallers.{read_well, within}
use Rattle.laws_code.specs.evaluation.Laws.{IsType}
use Rattle.laws_code.proofs.typed.TypedData.{RowTypes}

abbrev pub FoundHas : {A : Type 0} → (A → Type 0) → Found A → Type 0
FoundHas P (found x) = P x
FoundHas P (fault l) = Unit {0}

pub found_then : {A B : Type 0} (P : A → Type 0) (Q : B → Type 0) (x : Found A) (next : A → Found B) → FoundHas P x →
    ((a : A) → P a → FoundHas Q (next a)) → FoundHas Q (and_then x next)
found_then P Q (found a) next h g = g a h
found_then P Q (fault l) next h g = tt

-- ---- types that are read

abbrev pub IsRead : (Kind → Bool) → Kind → Type 0
IsRead asked a = (asked a ≡ true) × IsType a

pub attribute_read : (asked : Kind → Bool) (at : ℕ) (r : Reading) → ((a : Kind) → r ≡ a_type a → IsType a) →
    FoundHas (IsRead asked) (with_attribute asked at r)
attribute_read asked at (a_type a) h = by_test (asked a) refl
  where
    by_test : (b : Bool) → asked a ≡ b → FoundHas (IsRead asked) (if b then found a else fault at)
    by_test true e = (e, h a refl)
    by_test false e = tt
attribute_read asked at (bad_type l) h = tt
attribute_read asked at too_large h = tt

pub argument_read : (asked : Kind → Bool) (at : ℕ) (t : Tree) → FoundHas (IsRead asked) (type_argument asked at t)
argument_read asked at t = attribute_read asked at (type_at at t)
    (λ a e. let h = within (typed at t) a e in (read_well at t a h.0, leb-true (nodes a) type_limit h.1))

-- ---- what instructions carry

abbrev pub Carries : Instruction → Type 0
Carries (row r) = RowTypes r
Carries (overloaded (o.view name a)) = (packable a ≡ true) × IsWellFormed a
Carries (overloaded w) = Unit {0}

pub no_types : (ts : Trees) (w : Instruction) → Carries w → FoundHas Carries (no_argument ts w)
no_types none w h = h
no_types (more t ts) w h = tt

pub of_one : (asked : Kind → Bool) (ts : Trees) (made : Kind → Instruction) →
    ((a : Kind) → asked a ≡ true → IsWellFormed a → Carries (made a)) → FoundHas Carries (one_type asked ts made)
of_one asked none made h = tt
of_one asked (more t none) made h = found_then (IsRead asked) Carries (type_argument asked 1 t) _ (argument_read asked 1 t)
    (λ a g. h a g.0 g.1.0)
of_one asked (more t (more u ts)) made h = tt

pub of_two : (asked too : Kind → Bool) (ts : Trees) (made : Kind → Kind → Instruction) →
    ((a b : Kind) → asked a ≡ true → too b ≡ true → IsWellFormed a → IsWellFormed b → Carries (made a b)) →
    FoundHas Carries (two_types asked too ts made)
of_two asked too none made h = tt
of_two asked too (more t none) made h = tt
of_two asked too (more t (more u none)) made h =
    found_then (IsRead asked) Carries (type_argument asked 1 t) _ (argument_read asked 1 t)
    (λ a g. found_then (IsRead too) Carries (type_argument too (1 + size t) u) _ (argument_read too (1 + size t) u)
    (λ b j. h a b g.0 j.0 g.1.0 j.1.0))
of_two asked too (more t (more u (more w ts))) made h = tt

pub of_count : (least most : ℕ) (ts : Trees) (made : ℕ → Instruction) → ((n : ℕ) → Carries (made n)) →
    FoundHas Carries (one_count least most ts made)
of_count least most none made h = tt
of_count least most (more t none) made h = found_then (λ n. Unit {0}) Carries (count_argument least most 1 t) _
    (any_count (count_argument least most 1 t)) (λ n g. h n)
  where
    any_count : (x : Found ℕ) → FoundHas (λ n. Unit {0}) x
    any_count (found n) = tt
    any_count (fault l) = tt
of_count least most (more t (more u ts)) made h = tt

pub of_count_or : (w : Instruction) (least most : ℕ) (ts : Trees) (made : ℕ → Instruction) → Carries w →
    ((n : ℕ) → Carries (made n)) → FoundHas Carries (count_or w least most ts made)
of_count_or w least most none made g h = g
of_count_or w least most (more t ts) made g h = of_count least most (more t ts) made h

pub any_name : (x : Found (List ℕ)) → FoundHas (λ n. Unit {0}) x
any_name (found n) = tt
any_name (fault l) = tt

pub checked_entrypoint : (other : List ℕ) (o : Option (List ℕ)) → is_entrypoint other ≡ true →
    FoundHas (λ name. is_entrypoint name ≡ true) (checked_name other o)
checked_entrypoint other None h = h
checked_entrypoint other (Some name) h = by_test (is_entrypoint name) refl
  where
    by_test : (b : Bool) → is_entrypoint name ≡ b → FoundHas (λ name. is_entrypoint name ≡ true)
        (if b then found name else fault 0)
    by_test true e = e
    by_test false e = tt

pub named_entrypoint : (other : List ℕ) (annots : List (List ℕ)) → is_entrypoint other ≡ true →
    FoundHas (λ name. is_entrypoint name ≡ true) (annotated other annots)
named_entrypoint other annots h = checked_entrypoint other (field_name annots) h

pub of_emit : (tag : List ℕ) (ts : Trees) → FoundHas Carries (emit_of tag ts)
of_emit tag none = tt
of_emit tag (more t ts) = of_one pushable (more t ts) _ (λ a e h. tt)

pub of_view : (ts : Trees) → FoundHas Carries (view_of ts)
of_view none = tt
of_view (more n none) = tt
of_view (more n (more t none)) =
    found_then (λ n. Unit {0}) Carries (view_name_argument 1 n) _ (any_name (view_name_argument 1 n))
    (λ name _. found_then (IsRead packable) Carries (type_argument packable (1 + size n) t) _
    (argument_read packable (1 + size n) t) (λ a g. (g.0, g.1.0)))
of_view (more n (more t (more u ts))) = tt

pub instruction_carries : (name : Option Primitive) (annots : List (List ℕ)) (ts : Trees) →
    FoundHas Carries (instruction name annots ts)
instruction_carries (Some p.OpDrop) annots ts = of_count_or _ _ _ ts _ tt (λ n. tt)
instruction_carries (Some p.OpDup) annots ts = of_count_or _ _ _ ts _ tt (λ n. tt)
instruction_carries (Some p.OpSwap) annots ts = no_types ts _ tt
instruction_carries (Some p.OpDig) annots ts = of_count _ _ ts _ (λ n. tt)
instruction_carries (Some p.OpDug) annots ts = of_count _ _ ts _ (λ n. tt)
instruction_carries (Some p.OpUnit) annots ts = no_types ts _ tt
instruction_carries (Some p.OpCast) annots ts = of_one any_kind ts _ (λ a e h. tt)
instruction_carries (Some p.OpRename) annots ts = no_types ts _ tt
instruction_carries (Some p.OpPair) annots ts = of_count_or _ _ _ ts _ tt (λ n. tt)
instruction_carries (Some p.OpUnpair) annots ts = of_count_or _ _ _ ts _ tt (λ n. tt)
instruction_carries (Some p.OpCar) annots ts = no_types ts _ tt
instruction_carries (Some p.OpCdr) annots ts = no_types ts _ tt
instruction_carries (Some p.OpLeft) annots ts = of_one any_kind ts _ (λ a e h. h)
instruction_carries (Some p.OpRight) annots ts = of_one any_kind ts _ (λ a e h. h)
instruction_carries (Some p.OpSome) annots ts = no_types ts _ tt
instruction_carries (Some p.OpNone) annots ts = of_one any_kind ts _ (λ a e h. h)
instruction_carries (Some p.OpNil) annots ts = of_one any_kind ts _ (λ a e h. h)
instruction_carries (Some p.OpCons) annots ts = no_types ts _ tt
instruction_carries (Some p.OpEmptySet) annots ts = of_one comparable ts _ (λ a e h. (e, h))
instruction_carries (Some p.OpEmptyMap) annots ts = of_two comparable any_kind ts _ (λ a b e f h j. (e, h, j))
instruction_carries (Some p.OpEmptyBigMap) annots ts = of_two comparable big_value ts _ (λ a b e f h j. (e, f, h, j))
instruction_carries (Some p.OpSize) annots ts = no_types ts _ tt
instruction_carries (Some p.OpMem) annots ts = no_types ts _ tt
instruction_carries (Some p.OpGet) annots ts = of_count_or _ _ _ ts _ tt (λ n. tt)
instruction_carries (Some p.OpUpdate) annots ts = of_count_or _ _ _ ts _ tt (λ n. tt)
instruction_carries (Some p.OpGetAndUpdate) annots ts = no_types ts _ tt
instruction_carries (Some p.OpAdd) annots ts = no_types ts _ tt
instruction_carries (Some p.OpSub) annots ts = no_types ts _ tt
instruction_carries (Some p.OpMul) annots ts = no_types ts _ tt
instruction_carries (Some p.OpEdiv) annots ts = no_types ts _ tt
instruction_carries (Some p.OpSubMutez) annots ts = no_types ts _ tt
instruction_carries (Some p.OpAbs) annots ts = no_types ts _ tt
instruction_carries (Some p.OpNeg) annots ts = no_types ts _ tt
instruction_carries (Some p.OpInt) annots ts = no_types ts _ tt
instruction_carries (Some p.OpIsnat) annots ts = no_types ts _ tt
instruction_carries (Some p.OpLsl) annots ts = no_types ts _ tt
instruction_carries (Some p.OpLsr) annots ts = no_types ts _ tt
instruction_carries (Some p.OpBytes) annots ts = no_types ts _ tt
instruction_carries (Some p.OpNat) annots ts = no_types ts _ tt
instruction_carries (Some p.OpAnd) annots ts = no_types ts _ tt
instruction_carries (Some p.OpOr) annots ts = no_types ts _ tt
instruction_carries (Some p.OpXor) annots ts = no_types ts _ tt
instruction_carries (Some p.OpNot) annots ts = no_types ts _ tt
instruction_carries (Some p.OpCompare) annots ts = no_types ts _ tt
instruction_carries (Some p.OpEq) annots ts = no_types ts _ tt
instruction_carries (Some p.OpNeq) annots ts = no_types ts _ tt
instruction_carries (Some p.OpLt) annots ts = no_types ts _ tt
instruction_carries (Some p.OpGt) annots ts = no_types ts _ tt
instruction_carries (Some p.OpLe) annots ts = no_types ts _ tt
instruction_carries (Some p.OpGe) annots ts = no_types ts _ tt
instruction_carries (Some p.OpConcat) annots ts = no_types ts _ tt
instruction_carries (Some p.OpSlice) annots ts = no_types ts _ tt
instruction_carries (Some p.OpPack) annots ts = no_types ts _ tt
instruction_carries (Some p.OpUnpack) annots ts = of_one pushable ts _ (λ a e h. (e, h))
instruction_carries (Some p.OpBlake2b) annots ts = no_types ts _ tt
instruction_carries (Some p.OpSha256) annots ts = no_types ts _ tt
instruction_carries (Some p.OpSha512) annots ts = no_types ts _ tt
instruction_carries (Some p.OpHashKey) annots ts = no_types ts _ tt
instruction_carries (Some p.OpAmount) annots ts = no_types ts _ tt
instruction_carries (Some p.OpBalance) annots ts = no_types ts _ tt
instruction_carries (Some p.OpSender) annots ts = no_types ts _ tt
instruction_carries (Some p.OpSource) annots ts = no_types ts _ tt
instruction_carries (Some p.OpSelfAddress) annots ts = no_types ts _ tt
instruction_carries (Some p.OpNow) annots ts = no_types ts _ tt
instruction_carries (Some p.OpLevel) annots ts = no_types ts _ tt
instruction_carries (Some p.OpChainId) annots ts = no_types ts _ tt
instruction_carries (Some p.OpAddress) annots ts = no_types ts _ tt
instruction_carries (Some p.OpImplicitAccount) annots ts = no_types ts _ tt
instruction_carries (Some p.OpContract) annots ts = found_then (λ name. is_entrypoint name ≡ true) Carries
    (annotated default_name annots) _ (named_entrypoint default_name annots refl)
    (λ name q. of_one passable ts _ (λ a e h. (e, h, q)))
instruction_carries (Some p.OpTransferTokens) annots ts = no_types ts _ tt
instruction_carries (Some p.OpEmit) annots ts = found_then (λ n. Unit {0}) Carries (annotated [] annots) _
    (any_name (annotated [] annots)) (λ tag _. of_emit tag ts)
instruction_carries (Some p.OpView) annots ts = of_view ts
instruction_carries (Some p.OpTicket) annots ts = no_types ts _ tt
instruction_carries (Some p.OpReadTicket) annots ts = no_types ts _ tt
instruction_carries (Some p.OpSplitTicket) annots ts = no_types ts _ tt
instruction_carries (Some p.OpJoinTickets) annots ts = no_types ts _ tt
instruction_carries _ annots ts = tt
