-- The instructions and the arguments that the code reads.
use Rattle.std.specs.Prelude.{◌≡◌, ℕ, ℤ, pos, negsuc, Bool, true, false, ◌&&◌, nat_le, if◌then◌else◌, List, Option, Some, None}
use Rattle.rules_text.specs.nodes.Limits.{count_limit, part_limit}
use Rattle.rules_text.specs.nodes.Tree.{Tree, str, Trees, none, more}
use Rattle.rules_text.specs.declared.nodes.Primitive.{Primitive}
use Rattle.rules_text.specs.declared.nodes.Primitive.TheVariants as p
use Rattle.rules_data.specs.types.Kind.{Kind}
use Rattle.rules_data.specs.types.Attributes as a
use Rattle.rules_data.specs.types.Reading.{any_kind}
use Rattle.rules_code.specs.instructions.Straight.{Straight, on_stack, on_pairs, on_unions, on_collections, on_hashes}
use Rattle.rules_code.specs.instructions.Straight as i
use Rattle.rules_code.specs.instructions.Overloads as o
use Rattle.rules_code.specs.instructions.Arguments.{Found, found, fault, type_argument, one_type, two_types, one_count}
use Rattle.rules_code.specs.instructions.Instructions as r
use Rattle.mich_base.specs.TypeView.{kind}
use Rattle.mich_overload.specs.View.{straight}
use Rattle.mich_overload.specs.Ops as ops
use Rattle.mich_stackrules.specs.declared.written.Written.{Written}
use Rattle.mich_stackrules.specs.declared.written.Written.TheVariants as w
use Rattle.mich_stackrules.specs.declared.written.OfType.{OfType}
use Rattle.mich_stackrules.specs.declared.written.OfType.TheVariants as of
use Rattle.mich_stackrules.specs.declared.written.OfCount.{OfCount}
use Rattle.mich_stackrules.specs.declared.written.OfCount.TheVariants as n

abbrev pub written : Written → r.Instruction
written (w.Row s) = r.row (straight s)
written (w.Overloaded op) = ops.instruction op
written (w.Emit tag) = r.overloaded (o.emit tag)
written (w.View name t) = r.overloaded (o.view name (kind t))
written w.Ticket = r.overloaded o.ticket

-- the rule of an instruction with one type, and the attribute that the type must have
abbrev pub of_type : OfType → Kind → Straight
of_type of.Cast t = on_stack (i.cast t)
of_type of.Left t = on_unions (i.left t)
of_type of.Right t = on_unions (i.right t)
of_type of.None t = on_unions (i.none t)
of_type of.Nil t = on_unions (i.nil t)
of_type of.EmptySet t = on_collections (i.empty_set t)
of_type of.Unpack t = on_hashes (i.unpack t)

abbrev pub asked_of_type : OfType → Kind → Bool
asked_of_type of.Cast = any_kind
asked_of_type of.Left = any_kind
asked_of_type of.Right = any_kind
asked_of_type of.None = any_kind
asked_of_type of.Nil = any_kind
asked_of_type of.EmptySet = a.comparable
asked_of_type of.Unpack = a.pushable

abbrev pub with_type : OfType → Trees → Found r.Instruction
with_type f ts = one_type (asked_of_type f) ts (λ t. r.row (of_type f t))

-- the one argument as a type that has an attribute
abbrev pub type_of : (Kind → Bool) → Trees → Found Kind
type_of asked (more t none) = type_argument asked 1 t
type_of asked ts = fault 0

-- the rule of an instruction with a count, and the least and the most that the count may be
abbrev pub of_count : OfCount → ℕ → Straight
of_count n.Drop k = on_stack (i.drop k)
of_count n.Dup k = on_stack (i.dup k)
of_count n.Dig k = on_stack (i.dig k)
of_count n.Dug k = on_stack (i.dug k)
of_count n.Pair k = on_pairs (i.pair k)
of_count n.Unpair k = on_pairs (i.unpair k)
of_count n.GetPart k = on_pairs (i.get_part k)
of_count n.UpdatePart k = on_pairs (i.update_part k)

abbrev pub least : OfCount → ℕ
least n.Drop = 0
least n.Dup = 1
least n.Dig = 0
least n.Dug = 0
least n.Pair = 2
least n.Unpair = 2
least n.GetPart = 0
least n.UpdatePart = 0

abbrev pub most : OfCount → ℕ
most n.Drop = count_limit
most n.Dup = count_limit
most n.Dig = count_limit
most n.Dug = count_limit
most n.Pair = count_limit
most n.Unpair = count_limit
most n.GetPart = part_limit
most n.UpdatePart = part_limit

abbrev pub with_count : OfCount → Trees → Found r.Instruction
with_count f ts = one_count (least f) (most f) ts (λ k. r.row (of_count f k))

-- EMPTY_MAP and EMPTY_BIG_MAP
abbrev pub asked_of_value : Bool → Kind → Bool
asked_of_value true = a.big_value
asked_of_value false = any_kind

abbrev pub empty_row : Bool → Kind → Kind → i.CollectionRow
empty_row true = i.empty_big_map
empty_row false = i.empty_map

abbrev pub empty_map : Bool → Trees → Found r.Instruction
empty_map big ts = two_types a.comparable (asked_of_value big) ts (λ k v. r.row (on_collections (empty_row big k v)))

-- a number from the least on to the most
abbrev pub within : ℕ → ℕ → ℤ → Option ℕ
within least most (pos k) = if nat_le least k && nat_le k most then Some k else None
within least most (negsuc k) = None

abbrev pub IsNoText : Tree → Type 0
IsNoText (str s) = ⊥
IsNoText t = Unit {0}

-- whether the annotations of an instruction matter
abbrev pub is_annotated : Primitive → Bool
is_annotated p.OpContract = true
is_annotated p.OpEmit = true
is_annotated q = false

-- the instruction of a primitive without arguments, where annotations don't matter
abbrev pub IsBare : Primitive → Option Written → Type 0
IsBare q (Some it) = (annots : List (List ℕ)) → is_annotated q ≡ false → r.instruction (Some q) annots none ≡ found (written it)
IsBare q None = (annots : List (List ℕ)) → is_annotated q ≡ false → r.instruction (Some q) annots none ≡ fault 0
