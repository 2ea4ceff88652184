-- The faults of types and of the arguments of instructions are at locations of their nodes.
use Rattle.std.proofs.Common.{◌<◌, ◌≤◌, ◌+◌, ℕ, pos, Bool, true, false, ◌&&◌, Option, Some, None, List, [], ◌∷◌, arith}
use Rattle.std.specs.Prelude.{nat_le, if◌then◌else◌, negsuc}
use Rattle.std.specs.List.{AllByRecursion}
use Rattle.rules_text.specs.nodes.Limits.{count_limit, part_limit, type_limit}
use Rattle.rules_text.specs.nodes.Tree.{Tree, int, str, bytes, prim, seq, Trees, none, more, size, sizes}
use Rattle.rules_text.specs.declared.nodes.Primitive.{Primitive}
use Rattle.rules_text.specs.declared.nodes.Primitive.TheVariants as p
use Rattle.rules_data.specs.forms.Spelling.{default_name, is_entrypoint}
use Rattle.rules_data.specs.types.Kind.{Kind, nodes}
use Rattle.rules_data.specs.types.Kind as k
use Rattle.rules_data.specs.types.Attributes.{comparable, passable, pushable, packable, big_value}
use Rattle.rules_data.specs.types.Entrypoints.{field_name}
use Rattle.rules_data.specs.types.Reading.{Former, simple_type, operation_type, one_argument, two_arguments, pair_type, no_type, former_of_name, any_kind, asked_of_argument, of_argument, asked_of_first, asked_of_second, of_arguments, Read, good, bad, Part, part, with_part, on_good, paired, applied, typed, parts, Reading, a_type, bad_type, too_large, limited, type_at}
use Rattle.rules_code.specs.instructions.Straight.{Straight, on_stack, on_pairs, on_unions, on_collections, on_numbers, on_truth, on_text, on_hashes, on_environment, on_operations, on_tickets}
use Rattle.rules_code.specs.instructions.Straight as i
use Rattle.rules_code.specs.instructions.Overloads as o
use Rattle.rules_code.specs.instructions.Change.{Change, after, is_within_limit}
use Rattle.rules_code.specs.instructions.Effect.{change}
use Rattle.rules_code.specs.instructions.Arguments.{Found, found, fault, and_then, no_argument, with_attribute, type_argument, one_type, two_types, count_argument, one_count, count_or, checked_name, annotated, is_view_name, view_name_argument}
use Rattle.rules_code.specs.instructions.Instructions.{Instruction, row, overloaded, choose, emit_of, view_of, instruction}
use Rattle.rules_code.specs.instructions.Rules.{Ruled, ruled, faulty, with_change, with_row, with_instruction, rule}

abbrev pub FoundBelow : {A : Type 0} → ℕ → Found A → Type 0
FoundBelow n (found x) = Unit {0}
FoundBelow n (fault l) = l < n

pub then_below : {A B : Type 0} (n : ℕ) (x : Found A) (next : A → Found B) → FoundBelow n x → ((y : A) → FoundBelow n (next y)) →
    FoundBelow n (and_then x next)
then_below n (found y) next h g = g y
then_below n (fault l) next h g = h

-- ---- sizes

pub size_some : (t : Tree) → 1 ≤ size t
size_some (int n) = omega arith
size_some (str s) = omega arith
size_some (bytes b) = omega arith
size_some (prim name annots ts) = omega arith
size_some (seq ts) = omega arith

-- ---- types

abbrev ReadBelow : ℕ → Read → Type 0
ReadBelow n (good a) = Unit {0}
ReadBelow n (bad l) = l < n

abbrev PartBelow : ℕ → Part → Type 0
PartBelow n (part at r) = (at < n) × ReadBelow n r

part_below : (n : ℕ) (asked : Kind → Bool) (q : Part) (next : Kind → Read) → PartBelow n q → ((a : Kind) → ReadBelow n (next a)) →
    ReadBelow n (with_part asked q next)
part_below n asked (part at (good a)) next h g = by (asked a)
  where
    by : (b : Bool) → ReadBelow n (if b then next a else bad at)
    by true = g a
    by false = h.0
part_below n asked (part at (bad l)) next h g = h.1

good_below : (n : ℕ) (f : Kind → Kind) (r : Read) → ReadBelow n r → ReadBelow n (on_good f r)
good_below n f (good a) h = tt
good_below n f (bad l) h = h

paired_below : (n : ℕ) (q : Part) (rs : List Part) → PartBelow n q → AllByRecursion (PartBelow n) rs → ReadBelow n (paired q rs)
paired_below n q [] h g = part_below n any_kind q good h (λ a. tt)
paired_below n q (r ∷ rs) h g = part_below n any_kind q _ h (λ a. good_below n (k.pair a) (paired r rs) (paired_below n r rs g.0 g.1))

applied_below : (n : ℕ) (f : Former) (at : ℕ) (ps : List Part) → at < n → AllByRecursion (PartBelow n) ps → ReadBelow n (applied f at ps)
applied_below n (simple_type s) at [] l h = tt
applied_below n (simple_type s) at (q ∷ qs) l h = l
applied_below n operation_type at [] l h = tt
applied_below n operation_type at (q ∷ qs) l h = l
applied_below n (one_argument f) at [] l h = l
applied_below n (one_argument f) at (q ∷ []) l h = part_below n (asked_of_argument f) q (λ a. good (of_argument f a)) h.0 (λ a. tt)
applied_below n (one_argument f) at (q ∷ r ∷ qs) l h = l
applied_below n (two_arguments f) at [] l h = l
applied_below n (two_arguments f) at (q ∷ []) l h = l
applied_below n (two_arguments f) at (q ∷ r ∷ []) l h =
    part_below n (asked_of_first f) q _ h.0 (λ a. part_below n (asked_of_second f) r (λ b. good (of_arguments f a b)) h.1.0 (λ b. tt))
applied_below n (two_arguments f) at (q ∷ r ∷ s ∷ qs) l h = l
applied_below n pair_type at [] l h = l
applied_below n pair_type at (q ∷ []) l h = l
applied_below n pair_type at (q ∷ r ∷ rs) l h = paired_below n q (r ∷ rs) h.0 h.1
applied_below n no_type at [] l h = l
applied_below n no_type at (q ∷ qs) l h = l

mutual
  typed_below : (t : Tree) (at n : ℕ) → at + size t ≤ n → ReadBelow n (typed at t)
  typed_below (int z) at n h = omega (arith, h)
  typed_below (str s) at n h = omega (arith, h)
  typed_below (bytes b) at n h = omega (arith, h)
  typed_below (seq ts) at n h = omega (arith, h)
  typed_below (prim name annots ts) at n h = applied_below n (former_of_name name) at (parts (at + 1) ts) (omega (arith, h))
      (parts_below ts (at + 1) n (omega (arith, h)))

  parts_below : (ts : Trees) (at n : ℕ) → at + sizes ts ≤ n → AllByRecursion (PartBelow n) (parts at ts)
  parts_below none at n h = tt
  parts_below (more t ts) at n h =
      let some = size_some t in (
        (omega (arith, h, some), typed_below t at n (omega (arith, h))),
        parts_below ts (at + size t) n (omega (arith, h)),
      )

abbrev pub ReadingBelow : ℕ → Reading → Type 0
ReadingBelow n (a_type a) = Unit {0}
ReadingBelow n (bad_type l) = l < n
ReadingBelow n too_large = Unit {0}

pub reading_below : (t : Tree) (at n : ℕ) → at + size t ≤ n → ReadingBelow n (type_at at t)
reading_below t at n h = by (typed at t) (typed_below t at n h)
  where
    limit : (a : Kind) (b : Bool) → ReadingBelow n (if b then a_type a else too_large)
    limit a true = tt
    limit a false = tt

    by : (r : Read) → ReadBelow n r → ReadingBelow n (limited r)
    by (good a) g = limit a (nat_le (nodes a) type_limit)
    by (bad l) g = g

pub type_below : (asked : Kind → Bool) (t : Tree) (at n : ℕ) → at + size t ≤ n → FoundBelow n (type_argument asked at t)
type_below asked t at n h = by (type_at at t) (reading_below t at n h)
  where
    some : at < n
    some = let s = size_some t in omega (arith, h, s)

    ask : (a : Kind) (b : Bool) → FoundBelow n (if b then found a else fault at)
    ask a true = tt
    ask a false = some

    by : (r : Reading) → ReadingBelow n r → FoundBelow n (with_attribute asked at r)
    by (a_type a) g = ask a (asked a)
    by (bad_type l) g = g
    by too_large g = some

-- ---- arguments of an instruction at 0

module _ (n : ℕ) where
  none_below : {A : Type 0} (ts : Trees) (x : A) → sizes ts < n → FoundBelow n (no_argument ts x)
  none_below none x h = tt
  none_below (more t ts) x h = omega (arith, h)

  one_below : {A : Type 0} (asked : Kind → Bool) (ts : Trees) (made : Kind → A) → sizes ts < n → FoundBelow n (one_type asked ts made)
  one_below asked (more t none) made h = then_below n (type_argument asked 1 t) (λ a. found (made a))
      (type_below asked t 1 n (omega (arith, h))) (λ a. tt)
  one_below asked none made h = h
  one_below asked (more t (more u ts)) made h = omega (arith, h)

  two_below : {A : Type 0} (asked asked_too : Kind → Bool) (ts : Trees) (made : Kind → Kind → A) → sizes ts < n →
      FoundBelow n (two_types asked asked_too ts made)
  two_below asked asked_too (more t (more u none)) made h =
      then_below n (type_argument asked 1 t) (λ a. and_then (type_argument asked_too (1 + size t) u) (λ b. found (made a b)))
      (type_below asked t 1 n (omega (arith, h)))
      (λ a. then_below n (type_argument asked_too (1 + size t) u) (λ b. found (made a b))
      (type_below asked_too u (1 + size t) n (omega (arith, h))) (λ b. tt))
  two_below asked asked_too none made h = h
  two_below asked asked_too (more t none) made h = omega (arith, h)
  two_below asked asked_too (more t (more u (more w ts))) made h = omega (arith, h)

  pub count_below : (least most at : ℕ) (t : Tree) → at < n → FoundBelow n (count_argument least most at t)
  count_below least most at (int (pos m)) h = by (nat_le least m && nat_le m most)
    where
      by : (b : Bool) → FoundBelow n (if b then found m else fault at)
      by true = tt
      by false = h
  count_below least most at (int (negsuc m)) h = h
  count_below least most at (str s) h = h
  count_below least most at (bytes b) h = h
  count_below least most at (prim name annots ts) h = h
  count_below least most at (seq ts) h = h

  number_below : {A : Type 0} (least most : ℕ) (ts : Trees) (made : ℕ → A) → sizes ts < n → FoundBelow n (one_count least most ts made)
  number_below least most (more t none) made h =
      let s = size_some t in then_below n (count_argument least most 1 t) (λ m. found (made m))
      (count_below least most 1 t (omega (arith, h, s))) (λ m. tt)
  number_below least most none made h = h
  number_below least most (more t (more u ts)) made h = omega (arith, h)

  number_or_below : {A : Type 0} (x : A) (least most : ℕ) (ts : Trees) (made : ℕ → A) → sizes ts < n →
      FoundBelow n (count_or x least most ts made)
  number_or_below x least most none made h = tt
  number_or_below x least most (more t ts) made h = number_below least most (more t ts) made h

  pub annotated_below : (other : List ℕ) (annots : List (List ℕ)) → 0 < n → FoundBelow n (annotated other annots)
  annotated_below other annots h = by (field_name annots)
    where
      checked : (name : List ℕ) (b : Bool) → FoundBelow n (if b then found name else fault 0)
      checked name true = tt
      checked name false = h

      by : (o : Option (List ℕ)) → FoundBelow n (checked_name other o)
      by None = tt
      by (Some name) = checked name (is_entrypoint name)

  view_name_below : (at : ℕ) (t : Tree) → at < n → FoundBelow n (view_name_argument at t)
  view_name_below at (str name) h = by (is_view_name name)
    where
      by : (b : Bool) → FoundBelow n (if b then found name else fault at)
      by true = tt
      by false = h
  view_name_below at (int m) h = h
  view_name_below at (bytes b) h = h
  view_name_below at (prim name annots ts) h = h
  view_name_below at (seq ts) h = h

  emit_below : (tag : List ℕ) (ts : Trees) → sizes ts < n → FoundBelow n (emit_of tag ts)
  emit_below tag none h = tt
  emit_below tag (more t ts) h = one_below pushable (more t ts) (λ t. row (on_operations (i.emit tag t))) h

  view_below : (ts : Trees) → sizes ts < n → FoundBelow n (view_of ts)
  view_below (more m (more t none)) h =
      let s = size_some m in
      then_below n (view_name_argument 1 m) (λ name. and_then (type_argument packable (1 + size m) t)
      (λ a. found (overloaded (o.view name a)))) (view_name_below 1 m (omega (arith, h, s)))
      (λ name. then_below n (type_argument packable (1 + size m) t) (λ a. found (overloaded (o.view name a)))
      (type_below packable t (1 + size m) n (omega (arith, h))) (λ a. tt))
  view_below none h = h
  view_below (more m none) h = omega (arith, h)
  view_below (more m (more t (more u ts))) h = omega (arith, h)

  no_fault : (ts : Trees) → sizes ts < n → 0 < n
  no_fault ts h = omega (arith, h)

  instruction_below : (name : Option Primitive) (annots : List (List ℕ)) (ts : Trees) → sizes ts < n →
      FoundBelow n (instruction name annots ts)
  instruction_below (Some p.OpDrop) annots ts h = number_or_below (row (on_stack (i.drop 1))) 0 count_limit ts
      (λ n. row (on_stack (i.drop n))) h
  instruction_below (Some p.OpDup) annots ts h = number_or_below (row (on_stack (i.dup 1))) 1 count_limit ts (λ n. row (on_stack (i.dup n)))
      h
  instruction_below (Some p.OpSwap) annots ts h = none_below ts (row (on_stack i.swap)) h
  instruction_below (Some p.OpDig) annots ts h = number_below 0 count_limit ts (λ n. row (on_stack (i.dig n))) h
  instruction_below (Some p.OpDug) annots ts h = number_below 0 count_limit ts (λ n. row (on_stack (i.dug n))) h
  instruction_below (Some p.OpUnit) annots ts h = none_below ts (row (on_stack i.unit)) h
  instruction_below (Some p.OpCast) annots ts h = one_below any_kind ts (λ t. row (on_stack (i.cast t))) h
  instruction_below (Some p.OpRename) annots ts h = none_below ts (row (on_stack i.rename)) h
  instruction_below (Some p.OpPair) annots ts h = number_or_below (row (on_pairs (i.pair 2))) 2 count_limit ts
      (λ n. row (on_pairs (i.pair n))) h
  instruction_below (Some p.OpUnpair) annots ts h = number_or_below (row (on_pairs (i.unpair 2))) 2 count_limit ts
      (λ n. row (on_pairs (i.unpair n))) h
  instruction_below (Some p.OpCar) annots ts h = none_below ts (row (on_pairs i.car)) h
  instruction_below (Some p.OpCdr) annots ts h = none_below ts (row (on_pairs i.cdr)) h
  instruction_below (Some p.OpLeft) annots ts h = one_below any_kind ts (λ b. row (on_unions (i.left b))) h
  instruction_below (Some p.OpRight) annots ts h = one_below any_kind ts (λ a. row (on_unions (i.right a))) h
  instruction_below (Some p.OpSome) annots ts h = none_below ts (row (on_unions i.some)) h
  instruction_below (Some p.OpNone) annots ts h = one_below any_kind ts (λ a. row (on_unions (i.none a))) h
  instruction_below (Some p.OpNil) annots ts h = one_below any_kind ts (λ a. row (on_unions (i.nil a))) h
  instruction_below (Some p.OpCons) annots ts h = none_below ts (row (on_unions i.cons)) h
  instruction_below (Some p.OpEmptySet) annots ts h = one_below comparable ts (λ k. row (on_collections (i.empty_set k))) h
  instruction_below (Some p.OpEmptyMap) annots ts h = two_below comparable any_kind ts (λ k v. row (on_collections (i.empty_map k v))) h
  instruction_below (Some p.OpEmptyBigMap) annots ts h = two_below comparable big_value ts (λ k v.
      row (on_collections (i.empty_big_map k v))) h
  instruction_below (Some p.OpSize) annots ts h = none_below ts (overloaded o.size) h
  instruction_below (Some p.OpMem) annots ts h = none_below ts (overloaded o.mem) h
  instruction_below (Some p.OpGet) annots ts h = number_or_below (overloaded o.get) 0 part_limit ts (λ n. row (on_pairs (i.get_part n))) h
  instruction_below (Some p.OpUpdate) annots ts h = number_or_below (overloaded o.update) 0 part_limit ts
      (λ n. row (on_pairs (i.update_part n))) h
  instruction_below (Some p.OpGetAndUpdate) annots ts h = none_below ts (overloaded o.get_and_update) h
  instruction_below (Some p.OpAdd) annots ts h = none_below ts (overloaded o.add) h
  instruction_below (Some p.OpSub) annots ts h = none_below ts (row (on_numbers i.sub)) h
  instruction_below (Some p.OpMul) annots ts h = none_below ts (overloaded o.mul) h
  instruction_below (Some p.OpEdiv) annots ts h = none_below ts (row (on_numbers i.ediv)) h
  instruction_below (Some p.OpSubMutez) annots ts h = none_below ts (row (on_numbers i.sub_mutez)) h
  instruction_below (Some p.OpAbs) annots ts h = none_below ts (row (on_numbers i.abs)) h
  instruction_below (Some p.OpNeg) annots ts h = none_below ts (row (on_numbers i.neg)) h
  instruction_below (Some p.OpInt) annots ts h = none_below ts (overloaded o.to_int) h
  instruction_below (Some p.OpIsnat) annots ts h = none_below ts (row (on_numbers i.isnat)) h
  instruction_below (Some p.OpLsl) annots ts h = none_below ts (row (on_numbers i.lsl)) h
  instruction_below (Some p.OpLsr) annots ts h = none_below ts (row (on_numbers i.lsr)) h
  instruction_below (Some p.OpBytes) annots ts h = none_below ts (overloaded o.to_bytes) h
  instruction_below (Some p.OpNat) annots ts h = none_below ts (row (on_numbers i.bytes_to_nat)) h
  instruction_below (Some p.OpAnd) annots ts h = none_below ts (overloaded o.and) h
  instruction_below (Some p.OpOr) annots ts h = none_below ts (overloaded o.or) h
  instruction_below (Some p.OpXor) annots ts h = none_below ts (overloaded o.xor) h
  instruction_below (Some p.OpNot) annots ts h = none_below ts (overloaded o.not) h
  instruction_below (Some p.OpCompare) annots ts h = none_below ts (row (on_truth i.compare)) h
  instruction_below (Some p.OpEq) annots ts h = none_below ts (row (on_truth i.eq)) h
  instruction_below (Some p.OpNeq) annots ts h = none_below ts (row (on_truth i.neq)) h
  instruction_below (Some p.OpLt) annots ts h = none_below ts (row (on_truth i.lt)) h
  instruction_below (Some p.OpGt) annots ts h = none_below ts (row (on_truth i.gt)) h
  instruction_below (Some p.OpLe) annots ts h = none_below ts (row (on_truth i.le)) h
  instruction_below (Some p.OpGe) annots ts h = none_below ts (row (on_truth i.ge)) h
  instruction_below (Some p.OpConcat) annots ts h = none_below ts (overloaded o.concat) h
  instruction_below (Some p.OpSlice) annots ts h = none_below ts (overloaded o.slice) h
  instruction_below (Some p.OpPack) annots ts h = none_below ts (row (on_hashes i.pack)) h
  instruction_below (Some p.OpUnpack) annots ts h = one_below pushable ts (λ t. row (on_hashes (i.unpack t))) h
  instruction_below (Some p.OpBlake2b) annots ts h = none_below ts (row (on_hashes i.blake2b)) h
  instruction_below (Some p.OpSha256) annots ts h = none_below ts (row (on_hashes i.sha256)) h
  instruction_below (Some p.OpSha512) annots ts h = none_below ts (row (on_hashes i.sha512)) h
  instruction_below (Some p.OpHashKey) annots ts h = none_below ts (row (on_hashes i.hash_key)) h
  instruction_below (Some p.OpAmount) annots ts h = none_below ts (row (on_environment i.amount)) h
  instruction_below (Some p.OpBalance) annots ts h = none_below ts (row (on_environment i.balance)) h
  instruction_below (Some p.OpSender) annots ts h = none_below ts (row (on_environment i.sender)) h
  instruction_below (Some p.OpSource) annots ts h = none_below ts (row (on_environment i.source)) h
  instruction_below (Some p.OpSelfAddress) annots ts h = none_below ts (row (on_environment i.self_address)) h
  instruction_below (Some p.OpNow) annots ts h = none_below ts (row (on_environment i.now)) h
  instruction_below (Some p.OpLevel) annots ts h = none_below ts (row (on_environment i.level)) h
  instruction_below (Some p.OpChainId) annots ts h = none_below ts (row (on_environment i.chain_id)) h
  instruction_below (Some p.OpAddress) annots ts h = none_below ts (row (on_operations i.address)) h
  instruction_below (Some p.OpImplicitAccount) annots ts h = none_below ts (row (on_operations i.implicit_account)) h
  instruction_below (Some p.OpContract) annots ts h = then_below n (annotated default_name annots) _ (annotated_below default_name annots
      (omega (arith, h))) (λ name. one_below passable ts (λ t. row (on_operations (i.contract name t))) h)
  instruction_below (Some p.OpTransferTokens) annots ts h = none_below ts (row (on_operations i.transfer_tokens)) h
  instruction_below (Some p.OpEmit) annots ts h = then_below n (annotated [] annots) _ (annotated_below [] annots (omega (arith, h)))
      (λ tag. emit_below tag ts h)
  instruction_below (Some p.OpView) annots ts h = view_below ts h
  instruction_below (Some p.OpTicket) annots ts h = none_below ts (overloaded o.ticket) h
  instruction_below (Some p.OpReadTicket) annots ts h = none_below ts (row (on_tickets i.read_ticket)) h
  instruction_below (Some p.OpSplitTicket) annots ts h = none_below ts (row (on_tickets i.split_ticket)) h
  instruction_below (Some p.OpJoinTickets) annots ts h = none_below ts (row (on_tickets i.join_tickets)) h
  instruction_below _ annots ts h = no_fault ts h

abbrev pub RuledBelow : ℕ → Ruled → Type 0
RuledBelow n (ruled r B) = Unit {0}
RuledBelow n (faulty l) = l < n

pub rule_below : (n : ℕ) (name : Option Primitive) (annots : List (List ℕ)) (ts : Trees) (A : List Kind) → sizes ts < n →
    RuledBelow n (rule name annots ts A)
rule_below n name annots ts A h = by (instruction name annots ts) (instruction_below n name annots ts h)
  where
    limit : (r : Straight) (c : Change) (b : Bool) → RuledBelow n (if b then ruled r (after c) else faulty 0)
    limit r c true = tt
    limit r c false = omega (arith, h)

    changed : (r : Straight) (c : Option Change) → RuledBelow n (with_change r c)
    changed r None = omega (arith, h)
    changed r (Some c) = limit r c (is_within_limit c)

    taken : (r : Option Straight) → RuledBelow n (with_row r A)
    taken None = omega (arith, h)
    taken (Some r) = changed r (change r A)

    by : (w : Found Instruction) → FoundBelow n w → RuledBelow n (with_instruction w A)
    by (found w) g = taken (choose w A)
    by (fault l) g = g
