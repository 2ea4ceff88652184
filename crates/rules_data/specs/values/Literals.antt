-- How a node is read as a value of a type (Michelson reference, "Types", the literals of each). Locations are counted
-- in pre-order, and annotations are ignored.
use Rattle.std.specs.Prelude.{ℕ, ◌+◌, ◌-◌, ◌^◌, Bool, true, false, ◌==◌, ◌&&◌, ◌||◌, nat_le, ℤ, pos, int_le, if◌then◌else◌, List, [], ◌∷◌, ◌++◌, length, filter, not, Option, Some, None}
use Rattle.std.specs.List.{list_all}
use Rattle.std.specs.Ordering.{is_lt}
use Rattle.rules_text.specs.nodes.Limits.{byte_limit, most_mutez}
use Rattle.rules_text.specs.nodes.Tree.{Tree, int, str, bytes, prim, seq, Trees, none, more, size}
use Rattle.rules_text.specs.nodes.Primitives.{primitive_of_name}
use Rattle.rules_text.specs.declared.nodes.Primitive.{Primitive}
use Rattle.rules_text.specs.declared.nodes.Primitive.TheVariants as p
use Rattle.rules_data.specs.numbers.Limits.{is_int}
use Rattle.rules_data.specs.declared.types.Simple.{Simple}
use Rattle.rules_data.specs.declared.types.Simple.TheVariants as s
use Rattle.rules_data.specs.types.Kind.{Kind}
use Rattle.rules_data.specs.types.Kind as k
use Rattle.rules_data.specs.values.Val.{Val, Vals, no_val, more_vals, Pairs, no_pair, more_pairs, is_comparable}
use Rattle.rules_data.specs.values.Val as v
use Rattle.rules_data.specs.values.Order.{order}
use Rattle.rules_data.specs.forms.Spelling.{is_key_hash, is_key, is_signature, is_chain_id, is_address}

-- the names that literals are made with
pub data Word : Type 0 where
  unit_word : Word
  true_word : Word
  false_word : Word
  none_word : Word
  some_word : Word
  left_word : Word
  right_word : Word
  pair_word : Word
  entry_word : Word
  recursive_word : Word
  other_word : Word

abbrev pub word_of : Option Primitive → Word
word_of None = other_word
word_of (Some p.DataUnit) = unit_word
word_of (Some p.DataTrue) = true_word
word_of (Some p.DataFalse) = false_word
word_of (Some p.DataNone) = none_word
word_of (Some p.DataSome) = some_word
word_of (Some p.DataLeft) = left_word
word_of (Some p.DataRight) = right_word
word_of (Some p.DataPair) = pair_word
word_of (Some p.DataElt) = entry_word
word_of (Some p.DataLambdaRec) = recursive_word
word_of (Some _) = other_word

unfoldable pub word_of_name : List ℕ → Word
word_of_name name = word_of (primitive_of_name name)

-- What is still to be tried of a literal that was read, with its location: that the body of a lambda goes from its
-- argument's type to its result's, where it may be recursive; and that an address is one of a contract of that type.
pub data Pending : Type 0 where
  body : ℕ → Kind → Kind → Bool → Tree → Pending
  claim : ℕ → List ℕ → Kind → Pending

-- what is read, with what is still to be tried of it in pre-order; or the location of the first node that doesn't fit
pub data Literal (A : Type 0) : Type 0 where
  good : A → List Pending → Literal A
  bad : ℕ → Literal A

abbrev pub with_pending : {A : Type 0} → List Pending → Literal A → Literal A
with_pending ps (good x qs) = good x (ps ++ qs)
with_pending ps (bad l) = bad l

-- goes on with what is read; a fault of it comes before what stands behind it
abbrev pub and_then : {A B : Type 0} → Literal A → (A → Literal B) → Literal B
and_then (good x ps) next = with_pending ps (next x)
and_then (bad l) next = bad l

abbrev pub mapped : {A B : Type 0} → (A → B) → Literal A → Literal B
mapped f (good x ps) = good (f x) ps
mapped f (bad l) = bad l

-- how the node at a location is read
abbrev pub Reader : Type 0
Reader = ℕ → Tree → Literal Val

-- ---- types without arguments

-- text is printable, or ends a line (Michelson reference, "string")
abbrev pub is_text_byte : ℕ → Bool
is_text_byte c = (nat_le 32 c && nat_le c 126) || c == 10

abbrev pub is_text : List ℕ → Bool
is_text b = nat_le (length b) byte_limit && list_all is_text_byte b

abbrev pub is_nat : ℤ → Bool
is_nat n = int_le (pos 0) n && int_le n (pos (2 ^ 127 - 1))

-- amounts of mutez (Michelson reference, "mutez")
abbrev pub is_amount : ℤ → Bool
is_amount n = int_le (pos 0) n && int_le n (pos most_mutez)

abbrev pub is_short : List ℕ → Bool
is_short b = nat_le (length b) byte_limit

abbrev pub tested : Bool → Val → Option Val
tested b x = if b then Some x else None

abbrev pub number_value : (ℤ → Bool) → Tree → Option Val
number_value test (int n) = tested (test n) (v.number n)
number_value test t = None

abbrev pub text_value : (List ℕ → Bool) → Tree → Option Val
text_value test (str b) = tested (test b) (v.text b)
text_value test t = None

abbrev pub bytes_value : (List ℕ → Bool) → Tree → Option Val
bytes_value test (bytes b) = tested (test b) (v.bytes b)
bytes_value test t = None

abbrev pub bare_value : (Word → Option Val) → Tree → Option Val
bare_value of_word (prim name annots none) = of_word (word_of_name name)
bare_value of_word t = None

abbrev pub unit_of_word : Word → Option Val
unit_of_word unit_word = Some v.unit
unit_of_word w = None

abbrev pub truth_of_word : Word → Option Val
truth_of_word true_word = Some (v.truth true)
truth_of_word false_word = Some (v.truth false)
truth_of_word w = None

-- the value of a type without arguments that a node spells
abbrev pub simple_value : Simple → Tree → Option Val
simple_value s.Unit t = bare_value unit_of_word t
simple_value s.Never t = None
simple_value s.Bool t = bare_value truth_of_word t
simple_value s.Int t = number_value is_int t
simple_value s.Nat t = number_value is_nat t
simple_value s.Mutez t = number_value is_amount t
simple_value s.Timestamp t = number_value is_int t
simple_value s.String t = text_value is_text t
simple_value s.Bytes t = bytes_value is_short t
simple_value s.Key t = bytes_value is_key t
simple_value s.KeyHash t = bytes_value is_key_hash t
simple_value s.Signature t = bytes_value is_signature t
simple_value s.ChainId t = bytes_value is_chain_id t
simple_value s.Address t = bytes_value is_address t

abbrev pub on_value : ℕ → Option Val → Literal Val
on_value at (Some x) = good x []
on_value at None = bad at

abbrev pub read_simple : Simple → Reader
read_simple s at t = on_value at (simple_value s t)

-- ---- None and Some, Left and Right

abbrev pub option_named : Word → Reader → ℕ → Trees → Literal Val
option_named none_word r at none = good v.nothing []
option_named some_word r at (more t none) = mapped v.some (r (at + 1) t)
option_named w r at ts = bad at

abbrev pub read_option : Reader → Reader
read_option r at (prim name annots args) = option_named (word_of_name name) r at args
read_option r at t = bad at

abbrev pub or_named : Word → Reader → Reader → ℕ → Trees → Literal Val
or_named left_word r q at (more t none) = mapped v.left (r (at + 1) t)
or_named right_word r q at (more t none) = mapped v.right (q (at + 1) t)
or_named w r q at ts = bad at

abbrev pub read_or : Reader → Reader → Reader
read_or r q at (prim name annots args) = or_named (word_of_name name) r q at args
read_or r q at t = bad at

-- ---- pairs

-- The parts of a pair, the first of them at a location: the first, and the second type's reading of the rest. Past two
-- the rest is one literal of the second type, whose fault is at the location of the whole.
abbrev pub read_parts : Reader → Reader → (ℕ → Trees → Literal Val) → ℕ → ℕ → Trees → Literal Val
read_parts r q rest whole at (more t (more u none)) = and_then (r at t) (λ x. mapped (v.both x) (q (at + size t) u))
read_parts r q rest whole at (more t (more u (more w ts))) = and_then (r at t) (λ x. mapped (v.both x) (rest (at + size t) (more u (more w ts))))
read_parts r q rest whole at ts = bad whole

abbrev pub pair_named : Word → Trees → Trees
pair_named pair_word args = args
pair_named w args = none

-- the parts of a pair: of `Pair x1 .. xn` or of `{ x1 ; .. ; xn }`; none of another node
abbrev pub parts_of : Tree → Trees
parts_of (prim name annots args) = pair_named (word_of_name name) args
parts_of (seq ts) = ts
parts_of t = none

-- ---- lists, sets and maps

abbrev pub read_elements : Reader → ℕ → Trees → Literal Vals
read_elements r at none = good no_val []
read_elements r at (more t ts) = and_then (r at t) (λ x. mapped (more_vals x) (read_elements r (at + size t) ts))

abbrev pub read_list : Reader → Reader
read_list r at (seq ts) = mapped v.list (read_elements r (at + 1) ts)
read_list r at t = bad at

-- whether an element or key can stand behind this one: it is comparable, and above it
abbrev pub is_behind : Option Val → Val → Bool
is_behind None x = is_comparable x
is_behind (Some before) x = is_comparable x && is_lt (order before x)

-- elements that stand behind one, in increasing order; the fault of one that is out of order is at it
abbrev pub read_increasing : Reader → Option Val → ℕ → Trees → Literal Vals
read_increasing r before at none = good no_val []
read_increasing r before at (more t ts) = and_then (r at t) (λ x.
    if is_behind before x then mapped (more_vals x) (read_increasing r (Some x) (at + size t) ts) else bad at)

abbrev pub read_set : Reader → Reader
read_set r at (seq ts) = mapped v.set (read_increasing r None (at + 1) ts)
read_set r at t = bad at

-- a key with its value
pub record Entry : Type 0 where
  pub key : Val
  pub value : Val

-- the key and the value of an entry at a location; that the key is out of order is the entry's fault, after those of the
-- key and before those of the value
abbrev pub read_binding : Reader → Reader → Option Val → ℕ → Tree → Tree → Literal Entry
read_binding r q before at t u = and_then (r (at + 1) t) (λ x.
    if is_behind before x then mapped (λ y. record { key = x; value = y }) (q (at + 1 + size t) u) else bad at)

abbrev pub entry_named : Word → Reader → Reader → Option Val → ℕ → Trees → Literal Entry
entry_named entry_word r q before at (more t (more u none)) = read_binding r q before at t u
entry_named w r q before at ts = bad at

-- `Elt key value`
abbrev pub read_entry : Reader → Reader → Option Val → ℕ → Tree → Literal Entry
read_entry r q before at (prim name annots args) = entry_named (word_of_name name) r q before at args
read_entry r q before at t = bad at

-- entries whose keys stand behind one, in increasing order
abbrev pub read_entries : Reader → Reader → Option Val → ℕ → Trees → Literal Pairs
read_entries r q before at none = good no_pair []
read_entries r q before at (more t ts) = and_then (read_entry r q before at t) (λ e.
    mapped (more_pairs e.key e.value) (read_entries r q (Some e.key) (at + size t) ts))

abbrev pub read_table : (Pairs → Val) → Reader → Reader → Reader
read_table made r q at (seq ts) = mapped made (read_entries r q None (at + 1) ts)
read_table made r q at t = bad at

-- ---- lambdas and contracts

-- a body of a lambda, which is kept as it is written
abbrev pub read_body : Kind → Kind → Bool → Reader
read_body a b recursive at (seq ts) = good (v.lambda (seq ts) recursive) (body at a b recursive (seq ts) ∷ [])
read_body a b recursive at t = bad at

abbrev pub recursive_named : Word → Kind → Kind → ℕ → Trees → Literal Val
recursive_named recursive_word a b at (more t none) = read_body a b true (at + 1) t
recursive_named w a b at ts = bad at

abbrev pub read_lambda : Kind → Kind → Reader
read_lambda a b at (prim name annots args) = recursive_named (word_of_name name) a b at args
read_lambda a b at t = read_body a b false at t

abbrev pub read_contract : Kind → Reader
read_contract a at (bytes b) = if is_address b then good (v.bytes b) (claim at b a ∷ []) else bad at
read_contract a at t = bad at

-- ---- all types

abbrev mutual
  -- The node at a location as a value of a type.
  pub read : Kind → ℕ → Tree → Literal Val
  read (k.simple s) at t = read_simple s at t
  read k.operation at t = bad at
  read (k.option a) at t = read_option (read a) at t
  read (k.or a b) at t = read_or (read a) (read b) at t
  read (k.pair a b) at t = read_parts (read a) (read b) (read_rest b at) at (at + 1) (parts_of t)
  read (k.list a) at t = read_list (read a) at t
  read (k.set a) at t = read_set (read a) at t
  read (k.map a b) at t = read_table v.table (read a) (read b) at t
  read (k.big_map a b) at t = read_table v.big_table (read a) (read b) at t
  read (k.lambda a b) at t = read_lambda a b at t
  read (k.contract a) at t = read_contract a at t
  read (k.ticket a) at t = bad at

  -- Two nodes or more, the first of them at a location, as the parts of one pair, whose own location is the first.
  pub read_rest : Kind → ℕ → ℕ → Trees → Literal Val
  read_rest (k.pair a b) whole at ts = read_parts (read a) (read b) (read_rest b whole) whole at ts
  read_rest a whole at ts = bad whole

-- the bodies, and the claims, of what is still to be tried
abbrev pub is_body : Pending → Bool
is_body (body at a b recursive t) = true
is_body (claim at b a) = false

abbrev pub bodies : List Pending → List Pending
bodies = filter is_body

abbrev pub claims : List Pending → List Pending
claims = filter (λ p. not (is_body p))
