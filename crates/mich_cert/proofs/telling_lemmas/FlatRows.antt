-- Instructions without bodies make at most two types; what stands below these on the stack was there before, or is a part of that.
use Rattle.std.proofs.Common.{◌≡◌, ℕ, ◌-◌, zero, suc, nat_le, Bool, true, false, ◌&&◌, List, [], ◌∷◌, ◌++◌, length, drop, take, Option, Some, None, refl, subst, arith}
use Rattle.std.specs.Prelude.{slice_get, insert, remove, option_map, option_and_then, if◌then◌else◌}
use Rattle.std.proofs.lemmas.Bool.Decides.{nat_tests}
use Rattle.rules_text.specs.nodes.Tree.{Trees}
use Rattle.rules_text.specs.declared.nodes.Primitive.{Primitive}
use Rattle.rules_data.specs.types.Kind.{Kind}
use Rattle.rules_data.specs.types.Kind as k
use Rattle.rules_data.specs.types.Attributes.{comparable, duplicable, packable, pushable}
use Rattle.rules_code.specs.instructions.Types as ty
use Rattle.rules_code.specs.instructions.Arguments.{Found, found, fault}
use Rattle.rules_code.specs.instructions.Change.{Change, after, where_true, is_within_limit}
use Rattle.rules_code.specs.instructions.StackChanges.{stack_change, comb, parts, part, with_part, pair_change}
use Rattle.rules_code.specs.instructions.DataChanges.{union_change, collection_change}
use Rattle.rules_code.specs.instructions.NumberChanges.{of_two, of_one, sum, difference, product, scaled, quotient, signed, number_change, conjunction, of_bools, of_nats, against_zero, logic_change}
use Rattle.rules_code.specs.instructions.OtherChanges.{text_change, hash_change, environment_kind, operation_change, ticket_change}
use Rattle.rules_code.specs.instructions.Effect.{change}
use Rattle.rules_code.specs.instructions.Straight.{Straight, StackRow, PairRow, UnionRow, CollectionRow, NumberRow, LogicRow, TextRow, HashRow, EnvironmentRow, OperationRow, TicketRow, on_stack, on_pairs, on_unions, on_collections, on_numbers, on_truth, on_text, on_hashes, on_environment, on_operations, on_tickets}
use Rattle.rules_code.specs.instructions.Straight as i
use Rattle.rules_code.specs.instructions.Instructions.{Instruction, choose, instruction}
use Rattle.rules_code.specs.instructions.Rules.{Ruled, ruled, faulty, with_change, with_row, with_instruction, rule}
use Rattle.rules_code.specs.instructions.Same.{same_kind}
use Rattle.rules_code.specs.certificates.Certificates.{is_flat}
use Rattle.mich_cert.specs.telling.Tops.{below}

-- each type has few enough levels
abbrev pub AllFlat : List Kind → Type 0
AllFlat [] = Unit {0}
AllFlat (a ∷ A) = (is_flat a ≡ true) × AllFlat A

-- so has each below the two on top
abbrev pub FlatBelow : List Kind → Type 0
FlatBelow A = AllFlat (below A)

pub under_one : (a : Kind) (A : List Kind) → AllFlat A → FlatBelow (a ∷ A)
under_one a [] h = tt
under_one a (b ∷ A) h = h.1

pub under_all : (A : List Kind) → AllFlat A → FlatBelow A
under_all [] h = tt
under_all (a ∷ A) h = under_one a A h.1

pub drop_flat : (n : ℕ) (A : List Kind) → AllFlat A → AllFlat (drop n A)
drop_flat zero A h = h
drop_flat (suc n) [] h = tt
drop_flat (suc n) (a ∷ A) h = drop_flat n A h.1

pub take_flat : (n : ℕ) (A : List Kind) → AllFlat A → AllFlat (take n A)
take_flat zero A h = tt
take_flat (suc n) [] h = tt
take_flat (suc n) (a ∷ A) h = (h.0, take_flat n A h.1)

pub both_flat : (A B : List Kind) → AllFlat A → AllFlat B → AllFlat (A ++ B)
both_flat [] B h g = g
both_flat (a ∷ A) B h g = (h.0, both_flat A B h.1 g)

remove_flat : (n : ℕ) (A : List Kind) → AllFlat A → AllFlat (remove A n)
remove_flat zero [] h = tt
remove_flat zero (a ∷ A) h = h.1
remove_flat (suc n) [] h = tt
remove_flat (suc n) (a ∷ A) h = (h.0, remove_flat n A h.1)

insert_flat : (n : ℕ) (A : List Kind) (a : Kind) → is_flat a ≡ true → AllFlat A → AllFlat (insert A n a)
insert_flat zero A a t h = (t, h)
insert_flat (suc n) [] a t h = (t, tt)
insert_flat (suc n) (b ∷ A) a t h = (h.0, insert_flat n A a t h.1)

-- ---- changes

-- what a change leaves below the two types on top
abbrev FlatBehind : Option Change → Type 0
FlatBehind None = Unit {0}
FlatBehind (Some c) = FlatBelow (after c)

when : (b : Bool) (c : Option Change) → FlatBehind c → FlatBehind (where_true b c)
when true c h = h
when false c h = tt

on_kind : (o : Option Kind) (f : Kind → Option Change) → ((a : Kind) → FlatBehind (f a)) → FlatBehind (option_and_then f o)
on_kind None f h = tt
on_kind (Some a) f h = h a

stack_flat : (r : StackRow) (A : List Kind) → AllFlat A → FlatBehind (stack_change r A)
stack_flat (i.drop n) A h = when (nat_le n (length A)) _ (under_all (drop n A) (drop_flat n A h))
stack_flat (i.dup n) A h = on_kind (slice_get A (n - 1)) _ (λ a. when (duplicable a) _ (under_one a A h))
stack_flat i.swap [] h = tt
stack_flat i.swap (a ∷ []) h = tt
stack_flat i.swap (a ∷ b ∷ A) h = h.1.1
stack_flat (i.dig n) A h = on_kind (slice_get A n) _ (λ a. under_one a (remove A n) (remove_flat n A h))
stack_flat (i.dug n) [] h = tt
stack_flat (i.dug n) (a ∷ A) h = when (nat_le n (length A)) _ (under_all (insert A n a) (insert_flat n A a h.0 h.1))
stack_flat i.unit A h = under_one ty.unit A h
stack_flat (i.cast t) [] h = tt
stack_flat (i.cast t) (a ∷ A) h = when (same_kind a t) _ (under_one a A h.1)
stack_flat i.rename [] h = tt
stack_flat i.rename (a ∷ A) h = under_one a A h.1

-- the parts of a pair have fewer levels
pair_flat : (a b : Kind) → is_flat (k.pair a b) ≡ true → (is_flat a ≡ true) × (is_flat b ≡ true)
pair_flat a b h = (grind (arith, nat_tests), grind (arith, nat_tests))

parts_flat : (n : ℕ) (a : Kind) → is_flat a ≡ true → (ps : List Kind) → parts n a ≡ Some ps → AllFlat ps
parts_flat zero a t ps e = let f : a ∷ [] ≡ ps = cc in subst AllFlat f (t, tt)
parts_flat (suc n) (k.pair a b) t ps e = let ts = pair_flat a b t in by_rest ts.0 (parts n b) (λ x f. parts_flat n b ts.1 x f) e
  where
    by_rest : is_flat a ≡ true → (o : Option (List Kind)) → ((x : List Kind) → o ≡ Some x → AllFlat x) → option_map (λ qs. a ∷ qs) o ≡ Some ps → AllFlat ps
    by_rest t None g e = absurd cc
    by_rest t (Some x) g e = let f : a ∷ x ≡ ps = cc in subst AllFlat f (t, g x refl)
parts_flat (suc n) _ t ps e = absurd cc

on_parts : (o : Option (List Kind)) (A : List Kind) → AllFlat A → ((ps : List Kind) → o ≡ Some ps → AllFlat ps) →
    FlatBehind (option_map (λ ps. record { made = ps; kept = A }) o)
on_parts None A h g = tt
on_parts (Some ps) A h g = under_all (ps ++ A) (both_flat ps A (g ps refl) h)

pairs_flat : (r : PairRow) (A : List Kind) → AllFlat A → FlatBehind (pair_change r A)
pairs_flat (i.pair n) (a ∷ A) h = on_kind (comb (n - 1) a A) _ (λ c. under_one c (drop (n - 1) A) (drop_flat (n - 1) A h.1))
pairs_flat (i.unpair n) (a ∷ A) h = on_parts (parts (n - 1) a) A h.1 (λ ps e. parts_flat (n - 1) a h.0 ps e)
pairs_flat i.car (k.pair a b ∷ A) h = under_one a A h.1
pairs_flat i.cdr (k.pair a b ∷ A) h = under_one b A h.1
pairs_flat (i.get_part n) (a ∷ A) h = on_kind (part n a) _ (λ c. under_one c A h.1)
pairs_flat (i.update_part n) (x ∷ a ∷ A) h = on_kind (with_part n x a) _ (λ c. under_one c A h.1.1)
pairs_flat _ _ h = tt

union_flat : (r : UnionRow) (A : List Kind) → AllFlat A → FlatBehind (union_change r A)
union_flat (i.left b) (a ∷ A) h = under_one (k.or a b) A h.1
union_flat (i.right a) (b ∷ A) h = under_one (k.or a b) A h.1
union_flat i.some (a ∷ A) h = under_one (k.option a) A h.1
union_flat (i.none a) A h = under_one (k.option a) A h
union_flat (i.nil a) A h = under_one (k.list a) A h
union_flat i.cons (a ∷ k.list b ∷ A) h = when (same_kind a b) _ (under_one (k.list b) A h.1.1)
union_flat _ _ h = tt

collection_flat : (r : CollectionRow) (A : List Kind) → AllFlat A → FlatBehind (collection_change r A)
collection_flat (i.empty_set a) A h = under_one (k.set a) A h
collection_flat (i.empty_map a b) A h = under_one (k.map a b) A h
collection_flat (i.empty_big_map a b) A h = under_one (k.big_map a b) A h
collection_flat i.size_list (k.list a ∷ A) h = under_one ty.nat A h.1
collection_flat i.size_set (k.set a ∷ A) h = under_one ty.nat A h.1
collection_flat i.size_map (k.map a b ∷ A) h = under_one ty.nat A h.1
collection_flat i.mem_set (j ∷ k.set a ∷ A) h = when (same_kind j a) _ (under_one ty.bool A h.1.1)
collection_flat i.mem_map (j ∷ k.map a b ∷ A) h = when (same_kind j a) _ (under_one ty.bool A h.1.1)
collection_flat i.mem_big_map (j ∷ k.big_map a b ∷ A) h = when (same_kind j a) _ (under_one ty.bool A h.1.1)
collection_flat i.get_map (j ∷ k.map a b ∷ A) h = when (same_kind j a) _ (when (duplicable b) _ (under_one (k.option b) A h.1.1))
collection_flat i.get_big_map (j ∷ k.big_map a b ∷ A) h = when (same_kind j a) _ (when (duplicable b) _ (under_one (k.option b) A h.1.1))
collection_flat i.update_set (j ∷ ty.bool ∷ k.set a ∷ A) h = when (same_kind j a) _ (under_one (k.set a) A h.1.1.1)
collection_flat i.update_map (j ∷ k.option w ∷ k.map a b ∷ A) h = when (same_kind j a && same_kind w b) _ (under_one (k.map a b) A h.1.1.1)
collection_flat i.update_big_map (j ∷ k.option w ∷ k.big_map a b ∷ A) h =
    when (same_kind j a && same_kind w b) _ (under_one (k.big_map a b) A h.1.1.1)
collection_flat i.get_and_update_map (j ∷ k.option w ∷ k.map a b ∷ A) h = when (same_kind j a && same_kind w b) _ h.1.1.1
collection_flat i.get_and_update_big_map (j ∷ k.option w ∷ k.big_map a b ∷ A) h = when (same_kind j a && same_kind w b) _ h.1.1.1
collection_flat _ _ h = tt

two_flat : (f : Kind → Kind → Option Kind) (A : List Kind) → AllFlat A → FlatBehind (of_two f A)
two_flat f [] h = tt
two_flat f (a ∷ []) h = tt
two_flat f (a ∷ b ∷ A) h = on_kind (f a b) _ (λ c. under_one c A h.1.1)

one_flat : (f : Kind → Option Kind) (A : List Kind) → AllFlat A → FlatBehind (of_one f A)
one_flat f [] h = tt
one_flat f (a ∷ A) h = on_kind (f a) _ (λ c. under_one c A h.1)

number_flat : (r : NumberRow) (A : List Kind) → AllFlat A → FlatBehind (number_change r A)
number_flat i.add_numbers A h = two_flat sum A h
number_flat i.add_amounts (ty.mutez ∷ ty.mutez ∷ A) h = under_one ty.mutez A h.1.1
number_flat i.sub A h = two_flat difference A h
number_flat i.sub_mutez (ty.mutez ∷ ty.mutez ∷ A) h = under_one (k.option ty.mutez) A h.1.1
number_flat i.mul_numbers A h = two_flat product A h
number_flat i.mul_amounts A h = two_flat scaled A h
number_flat i.ediv A h = two_flat (λ a b. option_map k.option (quotient a b)) A h
number_flat i.abs (ty.int ∷ A) h = under_one ty.nat A h.1
number_flat i.neg A h = one_flat signed A h
number_flat i.int (ty.nat ∷ A) h = under_one ty.int A h.1
number_flat i.isnat (ty.int ∷ A) h = under_one (k.option ty.nat) A h.1
number_flat i.lsl (ty.nat ∷ ty.nat ∷ A) h = under_one ty.nat A h.1.1
number_flat i.lsr (ty.nat ∷ ty.nat ∷ A) h = under_one ty.nat A h.1.1
number_flat i.nat_to_bytes (ty.nat ∷ A) h = under_one ty.bytes A h.1
number_flat i.int_to_bytes (ty.int ∷ A) h = under_one ty.bytes A h.1
number_flat i.bytes_to_nat (ty.bytes ∷ A) h = under_one ty.nat A h.1
number_flat i.bytes_to_int (ty.bytes ∷ A) h = under_one ty.int A h.1
number_flat _ _ h = tt

bools_flat : (A : List Kind) → AllFlat A → FlatBehind (of_bools A)
bools_flat (ty.bool ∷ ty.bool ∷ A) h = under_one ty.bool A h.1.1
bools_flat _ h = tt

nats_flat : (A : List Kind) → AllFlat A → FlatBehind (of_nats A)
nats_flat (ty.nat ∷ ty.nat ∷ A) h = under_one ty.nat A h.1.1
nats_flat _ h = tt

zero_flat : (A : List Kind) → AllFlat A → FlatBehind (against_zero A)
zero_flat (ty.int ∷ A) h = under_one ty.bool A h.1
zero_flat _ h = tt

logic_flat : (r : LogicRow) (A : List Kind) → AllFlat A → FlatBehind (logic_change r A)
logic_flat i.and_bools A h = bools_flat A h
logic_flat i.or_bools A h = bools_flat A h
logic_flat i.xor_bools A h = bools_flat A h
logic_flat i.not_bool (ty.bool ∷ A) h = under_one ty.bool A h.1
logic_flat i.and_numbers A h = two_flat conjunction A h
logic_flat i.or_numbers A h = nats_flat A h
logic_flat i.xor_numbers A h = nats_flat A h
logic_flat i.not_number A h = one_flat signed A h
logic_flat i.compare (a ∷ b ∷ A) h = when (same_kind a b && comparable a) _ (under_one ty.int A h.1.1)
logic_flat i.eq A h = zero_flat A h
logic_flat i.neq A h = zero_flat A h
logic_flat i.lt A h = zero_flat A h
logic_flat i.gt A h = zero_flat A h
logic_flat i.le A h = zero_flat A h
logic_flat i.ge A h = zero_flat A h
logic_flat _ _ h = tt

text_flat : (r : TextRow) (A : List Kind) → AllFlat A → FlatBehind (text_change r A)
text_flat i.concat_strings (ty.string ∷ ty.string ∷ A) h = under_one ty.string A h.1.1
text_flat i.concat_bytes (ty.bytes ∷ ty.bytes ∷ A) h = under_one ty.bytes A h.1.1
text_flat i.concat_string_list (k.list ty.string ∷ A) h = under_one ty.string A h.1
text_flat i.concat_bytes_list (k.list ty.bytes ∷ A) h = under_one ty.bytes A h.1
text_flat i.slice_string (ty.nat ∷ ty.nat ∷ ty.string ∷ A) h = under_one (k.option ty.string) A h.1.1.1
text_flat i.slice_bytes (ty.nat ∷ ty.nat ∷ ty.bytes ∷ A) h = under_one (k.option ty.bytes) A h.1.1.1
text_flat i.size_string (ty.string ∷ A) h = under_one ty.nat A h.1
text_flat i.size_bytes (ty.bytes ∷ A) h = under_one ty.nat A h.1
text_flat _ _ h = tt

hash_flat : (r : HashRow) (A : List Kind) → AllFlat A → FlatBehind (hash_change r A)
hash_flat i.pack (a ∷ A) h = when (packable a) _ (under_one ty.bytes A h.1)
hash_flat (i.unpack t) (ty.bytes ∷ A) h = under_one (k.option t) A h.1
hash_flat i.blake2b (ty.bytes ∷ A) h = under_one ty.bytes A h.1
hash_flat i.sha256 (ty.bytes ∷ A) h = under_one ty.bytes A h.1
hash_flat i.sha512 (ty.bytes ∷ A) h = under_one ty.bytes A h.1
hash_flat i.hash_key (ty.key ∷ A) h = under_one ty.key_hash A h.1
hash_flat _ _ h = tt

operation_flat : (r : OperationRow) (A : List Kind) → AllFlat A → FlatBehind (operation_change r A)
operation_flat i.address (k.contract a ∷ A) h = under_one ty.address A h.1
operation_flat i.implicit_account (ty.key_hash ∷ A) h = under_one (k.contract ty.unit) A h.1
operation_flat (i.contract name t) (ty.address ∷ A) h = under_one (k.option (k.contract t)) A h.1
operation_flat i.transfer_tokens (a ∷ ty.mutez ∷ k.contract b ∷ A) h = when (same_kind a b) _ (under_one k.operation A h.1.1.1)
operation_flat (i.emit tag t) (a ∷ A) h = when (same_kind a t && pushable a) _ (under_one k.operation A h.1)
operation_flat (i.view name a t) (b ∷ ty.address ∷ A) h = when (same_kind a b) _ (under_one (k.option t) A h.1.1)
operation_flat _ _ h = tt

ticket_flat : (r : TicketRow) (A : List Kind) → AllFlat A → FlatBehind (ticket_change r A)
ticket_flat (i.ticket c) (j ∷ ty.nat ∷ A) h = when (same_kind j c && comparable c) _ (under_one (k.option (k.ticket c)) A h.1.1)
ticket_flat i.read_ticket (k.ticket c ∷ A) h = h.1
ticket_flat i.split_ticket (k.ticket c ∷ k.pair ty.nat ty.nat ∷ A) h = under_one (k.option (k.pair (k.ticket c) (k.ticket c))) A h.1.1
ticket_flat i.join_tickets (k.pair (k.ticket j) (k.ticket c) ∷ A) h = when (same_kind j c) _ (under_one (k.option (k.ticket j)) A h.1)
ticket_flat _ _ h = tt

change_flat : (r : Straight) (A : List Kind) → AllFlat A → FlatBehind (change r A)
change_flat (on_stack r) A h = stack_flat r A h
change_flat (on_pairs r) A h = pairs_flat r A h
change_flat (on_unions r) A h = union_flat r A h
change_flat (on_collections r) A h = collection_flat r A h
change_flat (on_numbers r) A h = number_flat r A h
change_flat (on_truth r) A h = logic_flat r A h
change_flat (on_text r) A h = text_flat r A h
change_flat (on_hashes r) A h = hash_flat r A h
change_flat (on_environment r) A h = under_one (environment_kind r) A h
change_flat (on_operations r) A h = operation_flat r A h
change_flat (on_tickets r) A h = ticket_flat r A h

-- ---- rules

abbrev pub RuledFlat : Ruled → Type 0
RuledFlat (ruled r B) = FlatBelow B
RuledFlat (faulty l) = Unit {0}

changed : (r : Straight) (o : Option Change) → FlatBehind o → RuledFlat (with_change r o)
changed r None h = tt
changed r (Some c) h = by (is_within_limit c)
  where
    by : (b : Bool) → RuledFlat (if b then ruled r (after c) else faulty 0)
    by true = h
    by false = tt

row_flat : (o : Option Straight) (A : List Kind) → AllFlat A → RuledFlat (with_row o A)
row_flat None A h = tt
row_flat (Some r) A h = changed r (change r A) (change_flat r A h)

instruction_flat : (x : Found Instruction) (A : List Kind) → AllFlat A → RuledFlat (with_instruction x A)
instruction_flat (found w) A h = row_flat (choose w A) A h
instruction_flat (fault l) A h = tt

pub rule_flat : (name : Option Primitive) (annots : List (List ℕ)) (ts : Trees) (A : List Kind) → AllFlat A → RuledFlat (rule name annots ts A)
rule_flat name annots ts A h = instruction_flat (instruction name annots ts) A h
