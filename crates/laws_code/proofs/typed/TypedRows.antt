-- The types that instructions without bodies make are types.
use Rattle.std.proofs.Common.{◌&&◌, List, [], ◌∷◌, Option, Some, None, refl, subst}
use Rattle.std.specs.Prelude.{option_map}
use Rattle.std.proofs.lemmas.Bool.{and_parts}
use Rattle.rules_data.specs.types.Kind.{Kind}
use Rattle.rules_data.specs.types.Kind as k
use Rattle.rules_data.specs.types.Attributes.{comparable, packable, pushable}
use Rattle.rules_code.specs.instructions.Types as ty
use Rattle.rules_code.specs.instructions.Change.{makes}
use Rattle.rules_code.specs.instructions.NumberChanges.{of_two, of_one, sum, difference, product, scaled, quotient, signed, number_change, conjunction, of_bools, of_nats, against_zero, logic_change}
use Rattle.rules_code.specs.instructions.OtherChanges.{text_change, hash_change, environment_kind, operation_change, ticket_change}
use Rattle.rules_code.specs.instructions.Effect.{change}
use Rattle.rules_code.specs.instructions.Straight.{Straight, NumberRow, LogicRow, TextRow, HashRow, EnvironmentRow, OperationRow, TicketRow, on_stack, on_pairs, on_unions, on_collections, on_numbers, on_truth, on_text, on_hashes, on_environment, on_operations, on_tickets}
use Rattle.rules_code.specs.instructions.Straight as i
use Rattle.rules_code.specs.instructions.Same.{same_kind}
use Rattle.laws_data.specs.types.Laws.{IsWellFormed}
use Rattle.laws_code.specs.stacks.Sound.{AllTypes}
use Rattle.laws_data.proofs.types_lemmas.ForCallers.{same_kind_true}
use Rattle.laws_code.proofs.typed.TypedData.{RowTypes, ChangeTypes, when, always, on_kind, stack_types, pair_types, union_types, collection_types}

-- ---- numbers and truth values

abbrev WellIf : Option Kind → Type 0
WellIf None = Unit {0}
WellIf (Some a) = IsWellFormed a

two_types : (f : Kind → Kind → Option Kind) → ((a b : Kind) → WellIf (f a b)) → (A : List Kind) → AllTypes A →
    ChangeTypes (of_two f A)
two_types f g [] h = tt
two_types f g (a ∷ []) h = tt
two_types f g (a ∷ b ∷ A) h = on_kind (f a b) _ (λ c e. ((subst WellIf e (g a b), tt), h.1.1))

one_types : (f : Kind → Option Kind) → ((a : Kind) → WellIf (f a)) → (A : List Kind) → AllTypes A → ChangeTypes (of_one f A)
one_types f g [] h = tt
one_types f g (a ∷ A) h = on_kind (f a) _ (λ c e. ((subst WellIf e (g a), tt), h.1))

sum_well : (a b : Kind) → WellIf (sum a b)
sum_well ty.nat ty.nat = tt
sum_well ty.nat ty.int = tt
sum_well ty.int ty.nat = tt
sum_well ty.int ty.int = tt
sum_well ty.timestamp ty.int = tt
sum_well ty.int ty.timestamp = tt
sum_well _ _ = tt

difference_well : (a b : Kind) → WellIf (difference a b)
difference_well ty.nat ty.nat = tt
difference_well ty.nat ty.int = tt
difference_well ty.int ty.nat = tt
difference_well ty.int ty.int = tt
difference_well ty.timestamp ty.int = tt
difference_well ty.timestamp ty.timestamp = tt
difference_well _ _ = tt

product_well : (a b : Kind) → WellIf (product a b)
product_well ty.nat ty.nat = tt
product_well ty.nat ty.int = tt
product_well ty.int ty.nat = tt
product_well ty.int ty.int = tt
product_well _ _ = tt

scaled_well : (a b : Kind) → WellIf (scaled a b)
scaled_well ty.mutez ty.nat = tt
scaled_well ty.nat ty.mutez = tt
scaled_well _ _ = tt

quotient_well : (a b : Kind) → WellIf (option_map k.option (quotient a b))
quotient_well ty.nat ty.nat = (tt, tt)
quotient_well ty.nat ty.int = (tt, tt)
quotient_well ty.int ty.nat = (tt, tt)
quotient_well ty.int ty.int = (tt, tt)
quotient_well ty.mutez ty.nat = (tt, tt)
quotient_well ty.mutez ty.mutez = (tt, tt)
quotient_well _ _ = tt

signed_well : (a : Kind) → WellIf (signed a)
signed_well ty.nat = tt
signed_well ty.int = tt
signed_well _ = tt

conjunction_well : (a b : Kind) → WellIf (conjunction a b)
conjunction_well ty.nat ty.nat = tt
conjunction_well ty.int ty.nat = tt
conjunction_well _ _ = tt

number_types : (r : NumberRow) (A : List Kind) → AllTypes A → ChangeTypes (number_change r A)
number_types i.add_numbers A h = two_types sum sum_well A h
number_types i.add_amounts (ty.mutez ∷ ty.mutez ∷ A) h = ((tt, tt), h.1.1)
number_types i.sub A h = two_types difference difference_well A h
number_types i.sub_mutez (ty.mutez ∷ ty.mutez ∷ A) h = ((tt, tt), h.1.1)
number_types i.mul_numbers A h = two_types product product_well A h
number_types i.mul_amounts A h = two_types scaled scaled_well A h
number_types i.ediv A h = two_types (λ a b. option_map k.option (quotient a b)) quotient_well A h
number_types i.abs (ty.int ∷ A) h = ((tt, tt), h.1)
number_types i.neg A h = one_types signed signed_well A h
number_types i.int (ty.nat ∷ A) h = ((tt, tt), h.1)
number_types i.isnat (ty.int ∷ A) h = ((tt, tt), h.1)
number_types i.lsl (ty.nat ∷ ty.nat ∷ A) h = ((tt, tt), h.1.1)
number_types i.lsr (ty.nat ∷ ty.nat ∷ A) h = ((tt, tt), h.1.1)
number_types i.nat_to_bytes (ty.nat ∷ A) h = ((tt, tt), h.1)
number_types i.int_to_bytes (ty.int ∷ A) h = ((tt, tt), h.1)
number_types i.bytes_to_nat (ty.bytes ∷ A) h = ((tt, tt), h.1)
number_types i.bytes_to_int (ty.bytes ∷ A) h = ((tt, tt), h.1)
number_types _ _ h = tt

bools_types : (A : List Kind) → AllTypes A → ChangeTypes (of_bools A)
bools_types (ty.bool ∷ ty.bool ∷ A) h = ((tt, tt), h.1.1)
bools_types _ h = tt

nats_types : (A : List Kind) → AllTypes A → ChangeTypes (of_nats A)
nats_types (ty.nat ∷ ty.nat ∷ A) h = ((tt, tt), h.1.1)
nats_types _ h = tt

zero_types : (A : List Kind) → AllTypes A → ChangeTypes (against_zero A)
zero_types (ty.int ∷ A) h = ((tt, tt), h.1)
zero_types _ h = tt

logic_types : (r : LogicRow) (A : List Kind) → AllTypes A → ChangeTypes (logic_change r A)
logic_types i.and_bools A h = bools_types A h
logic_types i.or_bools A h = bools_types A h
logic_types i.xor_bools A h = bools_types A h
logic_types i.not_bool (ty.bool ∷ A) h = ((tt, tt), h.1)
logic_types i.and_numbers A h = two_types conjunction conjunction_well A h
logic_types i.or_numbers A h = nats_types A h
logic_types i.xor_numbers A h = nats_types A h
logic_types i.not_number A h = one_types signed signed_well A h
logic_types i.compare (a ∷ b ∷ A) h = always (same_kind a b && comparable a) _ ((tt, tt), h.1.1)
logic_types i.eq A h = zero_types A h
logic_types i.neq A h = zero_types A h
logic_types i.lt A h = zero_types A h
logic_types i.gt A h = zero_types A h
logic_types i.le A h = zero_types A h
logic_types i.ge A h = zero_types A h
logic_types _ _ h = tt

-- ---- the others

text_types : (r : TextRow) (A : List Kind) → AllTypes A → ChangeTypes (text_change r A)
text_types i.concat_strings (ty.string ∷ ty.string ∷ A) h = ((tt, tt), h.1.1)
text_types i.concat_bytes (ty.bytes ∷ ty.bytes ∷ A) h = ((tt, tt), h.1.1)
text_types i.concat_string_list (k.list ty.string ∷ A) h = ((tt, tt), h.1)
text_types i.concat_bytes_list (k.list ty.bytes ∷ A) h = ((tt, tt), h.1)
text_types i.slice_string (ty.nat ∷ ty.nat ∷ ty.string ∷ A) h = ((tt, tt), h.1.1.1)
text_types i.slice_bytes (ty.nat ∷ ty.nat ∷ ty.bytes ∷ A) h = ((tt, tt), h.1.1.1)
text_types i.size_string (ty.string ∷ A) h = ((tt, tt), h.1)
text_types i.size_bytes (ty.bytes ∷ A) h = ((tt, tt), h.1)
text_types _ _ h = tt

hash_types : (r : HashRow) (A : List Kind) → RowTypes (on_hashes r) → AllTypes A → ChangeTypes (hash_change r A)
hash_types i.pack (a ∷ A) t h = always (packable a) _ ((tt, tt), h.1)
hash_types (i.unpack a) (ty.bytes ∷ A) t h = ((t.1, tt), h.1)
hash_types i.blake2b (ty.bytes ∷ A) t h = ((tt, tt), h.1)
hash_types i.sha256 (ty.bytes ∷ A) t h = ((tt, tt), h.1)
hash_types i.sha512 (ty.bytes ∷ A) t h = ((tt, tt), h.1)
hash_types i.hash_key (ty.key ∷ A) t h = ((tt, tt), h.1)
hash_types _ _ t h = tt

environment_types : (r : EnvironmentRow) (A : List Kind) → AllTypes A → ChangeTypes (makes (environment_kind r) A)
environment_types i.amount A h = ((tt, tt), h)
environment_types i.balance A h = ((tt, tt), h)
environment_types i.sender A h = ((tt, tt), h)
environment_types i.source A h = ((tt, tt), h)
environment_types i.self_address A h = ((tt, tt), h)
environment_types i.now A h = ((tt, tt), h)
environment_types i.level A h = ((tt, tt), h)
environment_types i.chain_id A h = ((tt, tt), h)

operation_types : (r : OperationRow) (A : List Kind) → RowTypes (on_operations r) → AllTypes A →
    ChangeTypes (operation_change r A)
operation_types i.address (k.contract a ∷ A) t h = ((tt, tt), h.1)
operation_types i.implicit_account (ty.key_hash ∷ A) t h = (((refl, tt), tt), h.1)
operation_types (i.contract name a) (ty.address ∷ A) t h = (((t.0, t.1), tt), h.1)
operation_types i.transfer_tokens (a ∷ ty.mutez ∷ k.contract b ∷ A) t h = always (same_kind a b) _ ((tt, tt), h.1.1.1)
operation_types (i.emit tag a) (b ∷ A) t h = always (same_kind b a && pushable b) _ ((tt, tt), h.1)
operation_types (i.view name a c) (b ∷ ty.address ∷ A) t h = always (same_kind a b) _ ((t.1, tt), h.1.1)
operation_types _ _ t h = tt

ticket_types : (r : TicketRow) (A : List Kind) → AllTypes A → ChangeTypes (ticket_change r A)
ticket_types (i.ticket a) (j ∷ ty.nat ∷ A) h =
    when (same_kind j a && comparable a) _ (λ e. let f = and_parts (same_kind j a) (comparable a) e in
    (((f.1, subst IsWellFormed (same_kind_true j a f.0) h.0.0), tt), h.1.1))
ticket_types i.read_ticket (k.ticket a ∷ A) h = (((tt, (h.0.0.1, tt)), tt), h)
ticket_types i.split_ticket (k.ticket a ∷ k.pair ty.nat ty.nat ∷ A) h = (((h.0.0, h.0.0), tt), h.1.1)
ticket_types i.join_tickets (k.pair (k.ticket j) (k.ticket a) ∷ A) h = always (same_kind j a) _ ((h.0.0.0, tt), h.1)
ticket_types _ _ h = tt

pub change_types : (r : Straight) (A : List Kind) → RowTypes r → AllTypes A → ChangeTypes (change r A)
change_types (on_stack r) A t h = stack_types r A h
change_types (on_pairs r) A t h = pair_types r A h
change_types (on_unions r) A t h = union_types r A t h
change_types (on_collections r) A t h = collection_types r A t h
change_types (on_numbers r) A t h = number_types r A h
change_types (on_truth r) A t h = logic_types r A h
change_types (on_text r) A t h = text_types r A h
change_types (on_hashes r) A t h = hash_types r A t h
change_types (on_environment r) A t h = environment_types r A h
change_types (on_operations r) A t h = operation_types r A t h
change_types (on_tickets r) A t h = ticket_types r A h
