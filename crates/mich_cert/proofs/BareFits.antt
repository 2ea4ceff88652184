-- The tests of instructions by their arguments are the rules of these instructions.
use Rattle.std.proofs.Common.{◌≡◌, ℕ, ◌+◌, Bool, true, false, ◌&&◌, nat_le, cond, pos, negsuc, Option, Some, None, List, [], ◌∷◌, refl, sym, ap, ◌∙◌}
use Rattle.rules_text.specs.declared.nodes.Primitive.{Primitive}
use Rattle.rules_text.specs.declared.nodes.Primitive.TheVariants as p
use Rattle.rules_text.specs.nodes.Limits.{count_limit, part_limit}
use Rattle.rules_text.specs.nodes.Tree.{Tree, int, str, bytes, prim, seq, Trees, none, more, size}
use Rattle.rules_data.specs.forms.Spelling.{is_entrypoint, default_name}
use Rattle.rules_data.specs.types.Attributes.{comparable, passable, pushable, packable, big_value}
use Rattle.rules_data.specs.types.Entrypoints.{field_name}
use Rattle.rules_data.specs.types.Kind.{Kind}
use Rattle.rules_data.specs.types.Reading.{Reading, a_type, bad_type, too_large, type_at, any_kind}
use Rattle.rules_code.specs.instructions.Arguments.{Found, found, fault, and_then, with_attribute, count_argument, checked_name, is_view_name, view_name_argument}
use Rattle.rules_code.specs.instructions.Effect.{effect}
use Rattle.rules_code.specs.instructions.Instructions.{Instruction, row, overloaded, instruction, emit_of}
use Rattle.rules_code.specs.instructions.Overloads as o
use Rattle.rules_code.specs.instructions.Straight.{Straight, on_stack, on_pairs, on_unions, on_collections, on_hashes, on_operations}
use Rattle.rules_code.specs.instructions.Straight as i
use Rattle.mich_cert.specs.Arguments.{a_count, a_kind, is_named, names_view}
use Rattle.mich_cert.specs.Bodiless.{one_known, two_known, bare_fits, count_fits, type_fits, one_fits, view_fits, may_be_value, map_fits, two_fits}
use Rattle.mich_cert.specs.Leading.{leads, after_of, bare}
use Rattle.mich_cert.specs.Table as table
use Rattle.mich_cert.specs.Ways.{bodiless_of}
use Rattle.mich_cert.specs.declared.way.Bodiless.TheVariants as bodiless
use Rattle.mich_cert.proofs.CountedRows.{and_false, drops_rule, dups_rule, digs_rule, dugs_rule, pairs_rule, unpairs_rule, gets_rule, updates_rule}
use Rattle.mich_cert.proofs.Plain.{plain_rules}
use Rattle.mich_cert.proofs.WrittenRows.{cast_rules, left_rules, right_rules, none_rules, nil_rules, empty_set_rules, empty_map_rules, empty_big_map_rules, unpack_rules, contract_rules, emit_rules, view_rules}

-- ---- without arguments

-- the tag of an event changes no type
no_tag : (tag : List ℕ) (A : List Kind) → after_of (found (overloaded (o.emit tag))) A ≡ bare p.OpEmit A
no_tag tag [] = refl
no_tag tag (a ∷ A) = refl

emit_bare : (n : Option (List ℕ)) (A B : List Kind) →
    (is_named n && table.plain p.OpEmit A B) ≡ leads (after_of (and_then (checked_name [] n) (λ tag. emit_of tag none)) A) B
emit_bare None A B = plain_rules p.OpEmit A B
emit_bare (Some name) A B = by (is_entrypoint name)
  where
    by : (q : Bool) → (q && table.plain p.OpEmit A B) ≡ leads (after_of (and_then (cond q (found name) (fault 0)) (λ tag. emit_of tag none)) A) B
    by true = plain_rules p.OpEmit A B ∙ ap (λ C. leads C B) (sym (no_tag name A))
    by false = refl

-- a fault behind a name
pub faulty_name : (q : Found (List ℕ)) (A : List Kind) → after_of (and_then q (λ name. fault 0)) A ≡ None
faulty_name (found name) A = refl
faulty_name (fault l) A = refl

pub bare_leads : (op : Primitive) (annots : List (List ℕ)) (A B : List Kind) → bodiless_of op ≡ bodiless.Straight →
    bare_fits op (is_named (field_name annots)) A B ≡ leads (after_of (instruction (Some op) annots none) A) B
bare_leads p.OpDrop annots A B h = drops_rule 1 A B
bare_leads p.OpDup annots A B h = dups_rule 1 A B
bare_leads p.OpPair annots A B h = pairs_rule 2 A B
bare_leads p.OpUnpair annots A B h = unpairs_rule 2 A B
bare_leads p.OpEmit annots A B h = emit_bare (field_name annots) A B
bare_leads p.OpContract annots A B h = sym (ap (λ C. leads C B) (faulty_name (checked_name default_name (field_name annots)) A))
bare_leads p.OpExec annots A B h = absurd cc
bare_leads p.OpApply annots A B h = absurd cc
bare_leads op annots A B h = plain_rules op A B

-- ---- with a count

module _ (F : Option ℕ → Bool) (no : F None ≡ false) (made : ℕ → Straight) (A B : List Kind) (some : (n : ℕ) → F (Some n) ≡ leads (effect (made n) A) B) where
  count_by : (q : Bool) (n : ℕ) → F (cond q (Some n) None) ≡ leads (after_of (and_then (cond q (found n) (fault 1)) (λ n. found (row (made n)))) A) B
  count_by true n = some n
  count_by false n = no

  count_row : (least most : ℕ) (t : Tree) → F (a_count least most t) ≡ leads (after_of (and_then (count_argument least most 1 t) (λ n. found (row (made n)))) A) B
  count_row least most (int (pos n)) = count_by (nat_le least n && nat_le n most) n
  count_row least most (int (negsuc n)) = no
  count_row least most (str s) = no
  count_row least most (bytes b) = no
  count_row least most (prim name annots ts) = no
  count_row least most (seq ts) = no

-- ---- with a type

module _ (F : Option Kind → Bool) (no : F None ≡ false) where
  unwritten : ((x : Kind) → F (Some x) ≡ false) → (R : Reading) → F (a_kind R) ≡ false
  unwritten h (a_type x) = h x
  unwritten h (bad_type l) = no
  unwritten h too_large = no

  module _ (asked : Kind → Bool) (made : Kind → Instruction) (A B : List Kind) (W : Kind → Bool) (some : (x : Kind) → F (Some x) ≡ (asked x && W x))
      (same : (x : Kind) → W x ≡ leads (after_of (found (made x)) A) B) where
    type_by : (at : ℕ) (x : Kind) (q : Bool) → (q && W x) ≡ leads (after_of (and_then (cond q (found x) (fault at)) (λ a. found (made a))) A) B
    type_by at x true = same x
    type_by at x false = refl

    type_row : (at : ℕ) (R : Reading) → F (a_kind R) ≡ leads (after_of (and_then (with_attribute asked at R) (λ a. found (made a))) A) B
    type_row at (a_type x) = some x ∙ type_by at x (asked x)
    type_row at (bad_type l) = no
    type_row at too_large = no

abbrev written_by : Primitive → List Kind → List Kind → Kind → Bool
written_by op A B x = table.written op (one_known x) A B

-- CONTRACT, whose annotation gives a name or none
contract_leads : (n : Option (List ℕ)) (R : Reading) (A B : List Kind) →
    type_fits p.OpContract (is_named n) (a_kind R) A B
    ≡ leads (after_of (and_then (checked_name default_name n) (λ name. and_then (with_attribute passable 1 R) (λ a. found (row (on_operations (i.contract name a)))))) A) B
contract_leads None R A B =
    type_row (λ q. type_fits p.OpContract true q A B) refl passable (λ x. row (on_operations (i.contract default_name x))) A B (written_by p.OpContract A B)
    (λ x. refl) (λ x. contract_rules default_name x A B) 1 R
contract_leads (Some name) R A B = by (is_entrypoint name)
  where
    by : (q : Bool) →
        type_fits p.OpContract q (a_kind R) A B
        ≡ leads (after_of (and_then (cond q (found name) (fault 0)) (λ name. and_then (with_attribute passable 1 R) (λ a. found (row (on_operations (i.contract name a)))))) A) B
    by true =
        type_row (λ q. type_fits p.OpContract true q A B) refl passable (λ x. row (on_operations (i.contract name x))) A B (written_by p.OpContract A B)
        (λ x. refl) (λ x. contract_rules name x A B) 1 R
    by false = unwritten (λ q. type_fits p.OpContract false q A B) refl (λ x. and_false (passable x)) R

-- EMIT with a type
emit_leads : (n : Option (List ℕ)) (R : Reading) (A B : List Kind) →
    type_fits p.OpEmit (is_named n) (a_kind R) A B
    ≡ leads (after_of (and_then (checked_name [] n) (λ tag. and_then (with_attribute pushable 1 R) (λ a. found (row (on_operations (i.emit tag a)))))) A) B
emit_leads None R A B =
    type_row (λ q. type_fits p.OpEmit true q A B) refl pushable (λ x. row (on_operations (i.emit [] x))) A B (written_by p.OpEmit A B)
    (λ x. refl) (λ x. emit_rules [] x A B) 1 R
emit_leads (Some name) R A B = by (is_entrypoint name)
  where
    by : (q : Bool) →
        type_fits p.OpEmit q (a_kind R) A B
        ≡ leads (after_of (and_then (cond q (found name) (fault 0)) (λ tag. and_then (with_attribute pushable 1 R) (λ a. found (row (on_operations (i.emit tag a)))))) A) B
    by true =
        type_row (λ q. type_fits p.OpEmit true q A B) refl pushable (λ x. row (on_operations (i.emit name x))) A B (written_by p.OpEmit A B)
        (λ x. refl) (λ x. emit_rules name x A B) 1 R
    by false = unwritten (λ q. type_fits p.OpEmit false q A B) refl (λ x. and_false (pushable x)) R

-- ---- with one argument

module _ (annots : List (List ℕ)) (t : Tree) (A B : List Kind) where
  abbrev types : Primitive → Option Kind → Bool
  types op q = type_fits op (is_named (field_name annots)) q A B

  pub one_leads : (op : Primitive) → one_fits op (is_named (field_name annots)) t A B ≡ leads (after_of (instruction (Some op) annots (more t none)) A) B
  one_leads p.OpDrop = count_row (λ n. count_fits p.OpDrop n A B) refl (λ n. on_stack (i.drop n)) A B (λ n. drops_rule n A B) 0 count_limit t
  one_leads p.OpDup = count_row (λ n. count_fits p.OpDup n A B) refl (λ n. on_stack (i.dup n)) A B (λ n. dups_rule n A B) 1 count_limit t
  one_leads p.OpDig = count_row (λ n. count_fits p.OpDig n A B) refl (λ n. on_stack (i.dig n)) A B (λ n. digs_rule n A B) 0 count_limit t
  one_leads p.OpDug = count_row (λ n. count_fits p.OpDug n A B) refl (λ n. on_stack (i.dug n)) A B (λ n. dugs_rule n A B) 0 count_limit t
  one_leads p.OpPair = count_row (λ n. count_fits p.OpPair n A B) refl (λ n. on_pairs (i.pair n)) A B (λ n. pairs_rule n A B) 2 count_limit t
  one_leads p.OpUnpair = count_row (λ n. count_fits p.OpUnpair n A B) refl (λ n. on_pairs (i.unpair n)) A B (λ n. unpairs_rule n A B) 2 count_limit t
  one_leads p.OpGet = count_row (λ n. count_fits p.OpGet n A B) refl (λ n. on_pairs (i.get_part n)) A B (λ n. gets_rule n A B) 0 part_limit t
  one_leads p.OpUpdate = count_row (λ n. count_fits p.OpUpdate n A B) refl (λ n. on_pairs (i.update_part n)) A B (λ n. updates_rule n A B) 0 part_limit t
  one_leads p.OpCast = type_row (types p.OpCast) refl any_kind (λ x. row (on_stack (i.cast x))) A B (written_by p.OpCast A B) (λ x. refl) (λ x. cast_rules x A B) 1 (type_at 1 t)
  one_leads p.OpLeft = type_row (types p.OpLeft) refl any_kind (λ x. row (on_unions (i.left x))) A B (written_by p.OpLeft A B) (λ x. refl) (λ x. left_rules x A B) 1 (type_at 1 t)
  one_leads p.OpRight = type_row (types p.OpRight) refl any_kind (λ x. row (on_unions (i.right x))) A B (written_by p.OpRight A B) (λ x. refl) (λ x. right_rules x A B) 1 (type_at 1 t)
  one_leads p.OpNone = type_row (types p.OpNone) refl any_kind (λ x. row (on_unions (i.none x))) A B (written_by p.OpNone A B) (λ x. refl) (λ x. none_rules x A B) 1 (type_at 1 t)
  one_leads p.OpNil = type_row (types p.OpNil) refl any_kind (λ x. row (on_unions (i.nil x))) A B (written_by p.OpNil A B) (λ x. refl) (λ x. nil_rules x A B) 1 (type_at 1 t)
  one_leads p.OpEmptySet =
      type_row (types p.OpEmptySet) refl comparable (λ x. row (on_collections (i.empty_set x))) A B (written_by p.OpEmptySet A B) (λ x. refl) (λ x. empty_set_rules x A B) 1 (type_at 1 t)
  one_leads p.OpUnpack = type_row (types p.OpUnpack) refl pushable (λ x. row (on_hashes (i.unpack x))) A B (written_by p.OpUnpack A B) (λ x. refl) (λ x. unpack_rules x A B) 1 (type_at 1 t)
  one_leads p.OpContract = contract_leads (field_name annots) (type_at 1 t) A B
  one_leads p.OpEmit = emit_leads (field_name annots) (type_at 1 t) A B
  one_leads op = unwritten (types op) refl (λ x. refl) (type_at 1 t)

-- ---- with two arguments

module _ (F : Option Kind → Option Kind → Bool) (no : (q : Option Kind) → F None q ≡ false) (one : (x : Kind) → F (Some x) None ≡ false) where
  unmapped : ((x y : Kind) → F (Some x) (Some y) ≡ false) → (R S : Reading) → F (a_kind R) (a_kind S) ≡ false
  unmapped h (a_type x) (a_type y) = h x y
  unmapped h (a_type x) (bad_type l) = one x
  unmapped h (a_type x) too_large = one x
  unmapped h (bad_type l) S = no (a_kind S)
  unmapped h too_large S = no (a_kind S)

  module _ (asked asked_too : Kind → Bool) (made : Kind → Kind → Straight) (A B : List Kind) (W : Kind → Kind → Bool)
      (some : (x y : Kind) → F (Some x) (Some y) ≡ (asked x && (asked_too y && W x y))) (same : (x y : Kind) → W x y ≡ leads (effect (made x y) A) B) where
    both_by : (k l : ℕ) (x y : Kind) (q r : Bool) →
        (q && (r && W x y))
        ≡ leads (after_of (and_then (cond q (found x) (fault k)) (λ a. and_then (cond r (found y) (fault l)) (λ b. found (row (made a b))))) A) B
    both_by k l x y true true = same x y
    both_by k l x y true false = refl
    both_by k l x y false r = refl

    first_by : (k l : ℕ) (x : Kind) (q : Bool) →
        false ≡ leads (after_of (and_then (cond q (found x) (fault k)) (λ a. and_then (fault l) (λ (b : Kind). found (row (made a b))))) A) B
    first_by k l x true = refl
    first_by k l x false = refl

    map_row : (k l : ℕ) (R S : Reading) →
        F (a_kind R) (a_kind S)
        ≡ leads (after_of (and_then (with_attribute asked k R) (λ a. and_then (with_attribute asked_too l S) (λ b. found (row (made a b))))) A) B
    map_row k l (a_type x) (a_type y) = some x y ∙ both_by k l x y (asked x) (asked_too y)
    map_row k l (a_type x) (bad_type m) = one x ∙ first_by k m x (asked x)
    map_row k l (a_type x) too_large = one x ∙ first_by k l x (asked x)
    map_row k l (bad_type m) S = no (a_kind S)
    map_row k l too_large S = no (a_kind S)

-- VIEW, by whether its first argument names one
view_by : (q : Bool) (name : List ℕ) (at : ℕ) (R : Reading) (A B : List Kind) →
    view_fits q (a_kind R) A B
    ≡ leads (after_of (and_then (cond q (found name) (fault 1)) (λ name. and_then (with_attribute packable at R) (λ a. found (overloaded (o.view name a))))) A) B
view_by true name at R A B =
    type_row (λ q. view_fits true q A B) refl packable (λ x. overloaded (o.view name x)) A B (written_by p.OpView A B) (λ x. refl) (λ x. view_rules name x A B) at R
view_by false name at R A B = unwritten (λ q. view_fits false q A B) refl (λ x. refl) R

view_leads : (t : Tree) (at : ℕ) (R : Reading) (A B : List Kind) →
    view_fits (names_view t) (a_kind R) A B
    ≡ leads (after_of (and_then (view_name_argument 1 t) (λ name. and_then (with_attribute packable at R) (λ a. found (overloaded (o.view name a))))) A) B
view_leads (str s) at R A B = view_by (is_view_name s) s at R A B
view_leads (int n) at R A B = unwritten (λ q. view_fits false q A B) refl (λ x. refl) R
view_leads (bytes b) at R A B = unwritten (λ q. view_fits false q A B) refl (λ x. refl) R
view_leads (prim name annots ts) at R A B = unwritten (λ q. view_fits false q A B) refl (λ x. refl) R
view_leads (seq ts) at R A B = unwritten (λ q. view_fits false q A B) refl (λ x. refl) R

module _ (annots : List (List ℕ)) (t u : Tree) (A B : List Kind) where
  abbrev maps : Primitive → Option Kind → Option Kind → Bool
  maps op q r = map_fits op q r A B

  unnamed : (op : Primitive) → ((y : Kind) → may_be_value op y ≡ false) → map_fits op (a_kind (type_at 1 t)) (a_kind (type_at (1 + size t) u)) A B ≡ false
  unnamed op h =
      unmapped (maps op) (λ q. refl) (λ x. refl) (λ x y. ap (λ r. comparable x && (r && table.written op (two_known x y) A B)) (h y) ∙ and_false (comparable x))
      (type_at 1 t) (type_at (1 + size t) u)

  pub two_leads : (op : Primitive) → two_fits op t u A B ≡ leads (after_of (instruction (Some op) annots (more t (more u none))) A) B
  two_leads p.OpView = view_leads t (1 + size t) (type_at (1 + size t) u) A B
  two_leads p.OpEmptyMap =
      map_row (maps p.OpEmptyMap) (λ q. refl) (λ x. refl) comparable any_kind (λ x y. on_collections (i.empty_map x y)) A B (λ x y. table.written p.OpEmptyMap (two_known x y) A B)
      (λ x y. refl) (λ x y. empty_map_rules x y A B) 1 (1 + size t) (type_at 1 t) (type_at (1 + size t) u)
  two_leads p.OpEmptyBigMap =
      map_row (maps p.OpEmptyBigMap) (λ q. refl) (λ x. refl) comparable big_value (λ x y. on_collections (i.empty_big_map x y)) A B (λ x y. table.written p.OpEmptyBigMap (two_known x y) A B)
      (λ x y. refl) (λ x y. empty_big_map_rules x y A B) 1 (1 + size t) (type_at 1 t) (type_at (1 + size t) u)
  two_leads p.OpContract = unnamed p.OpContract (λ y. refl) ∙ sym (ap (λ C. leads C B) (faulty_name (checked_name default_name (field_name annots)) A))
  two_leads p.OpEmit = unnamed p.OpEmit (λ y. refl) ∙ sym (ap (λ C. leads C B) (faulty_name (checked_name [] (field_name annots)) A))
  two_leads op = unnamed op (λ y. refl)

-- ---- with more arguments

pub more_lead : (op : Primitive) (annots : List (List ℕ)) (t u v : Tree) (ts : Trees) (A B : List Kind) →
    false ≡ leads (after_of (instruction (Some op) annots (more t (more u (more v ts)))) A) B
more_lead p.OpContract annots t u v ts A B = sym (ap (λ C. leads C B) (faulty_name (checked_name default_name (field_name annots)) A))
more_lead p.OpEmit annots t u v ts A B = sym (ap (λ C. leads C B) (faulty_name (checked_name [] (field_name annots)) A))
more_lead op annots t u v ts A B = refl
