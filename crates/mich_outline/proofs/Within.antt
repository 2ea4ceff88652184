-- Faults of a parameter stand within its section.
use Rattle.std.proofs.Common.{◌≡◌, ℕ, ◌+◌, ◌<◌, ◌≤◌, Bool, true, false, List, [], ◌∷◌, ◌++◌, Option, Some, None, subst, arith}
use Rattle.std.specs.Prelude.{if◌then◌else◌, codes, nat_le}
use Rattle.std.specs.Str.{bytes_eq}
use Rattle.mich_types.specs.Entered.{IsParameterFault}
use Rattle.mich_types.specs.declared.error.TypeError.{TypeError}
use Rattle.mich_types.specs.declared.error.TypeError.TheVariants as error
use Rattle.rules_text.specs.nodes.Limits.{type_limit}
use Rattle.rules_text.specs.nodes.Tree.{Tree, int, str, bytes, prim, seq, Trees, none, more, size, sizes}
use Rattle.rules_data.specs.types.Kind.{Kind, nodes}
use Rattle.rules_data.specs.types.Kind as k
use Rattle.rules_data.specs.types.Attributes.{passable}
use Rattle.rules_data.specs.types.Reading.{Former, simple_type, operation_type, one_argument, two_arguments, pair_type, no_type, former_of_name, any_kind, asked_of_argument, of_argument, asked_of_first, asked_of_second, of_arguments, Read, good, bad, Part, part, with_part, on_good, paired, applied, typed, parts, Reading, a_type, bad_type, too_large, limited, type_at}
use Rattle.rules_data.specs.forms.Spelling.{is_entrypoint}
use Rattle.rules_data.specs.types.Entrypoints.{Entry, Branch, branch, field_name, in_order, below, find_entry, Entries, entries, bad_name, repeated, then_entries, with_new, with_named, with_branch, with_branches, root_by, with_default, entries_of, Parameter, a_parameter, bad_parameter, large_parameter, repeated_entrypoint, of_entries, of_reading, of_section, parameter}

-- ---- types

abbrev ReadWithin : ℕ → Read → Type 0
ReadWithin n (good a) = Unit {0}
ReadWithin n (bad l) = l < n

abbrev PartWithin : ℕ → Part → Type 0
PartWithin n (part at r) = (at < n) × ReadWithin n r

abbrev PartsWithin : ℕ → List Part → Type 0
PartsWithin n [] = Unit {0}
PartsWithin n (q ∷ qs) = PartWithin n q × PartsWithin n qs

read_further : (m n : ℕ) (r : Read) → m ≤ n → ReadWithin m r → ReadWithin n r
read_further m n (good a) h w = tt
read_further m n (bad l) h w = omega arith

parts_further : (m n : ℕ) (qs : List Part) → m ≤ n → PartsWithin m qs → PartsWithin n qs
parts_further m n [] h w = tt
parts_further m n (part at r ∷ qs) h w = ((omega (arith, w.0.0), read_further m n r h w.0.1), parts_further m n qs h w.1)

part_next : (n : ℕ) (asked : Kind → Bool) (q : Part) (next : Kind → Read) → PartWithin n q → ((a : Kind) → ReadWithin n (next a)) → ReadWithin n (with_part asked q next)
part_next n asked (part at (good a)) next w h = by (asked a)
  where
    by : (b : Bool) → ReadWithin n (if b then next a else bad at)
    by true = h a
    by false = w.0
part_next n asked (part at (bad l)) next w h = w.1

on_good_within : (n : ℕ) (f : Kind → Kind) (r : Read) → ReadWithin n r → ReadWithin n (on_good f r)
on_good_within n f (good a) w = tt
on_good_within n f (bad l) w = w

paired_within : (n : ℕ) (q : Part) (qs : List Part) → PartWithin n q → PartsWithin n qs → ReadWithin n (paired q qs)
paired_within n q [] w v = part_next n any_kind q good w (λ a. tt)
paired_within n q (r ∷ rs) w v = part_next n any_kind q (λ a. on_good (k.pair a) (paired r rs)) w (λ a. on_good_within n (k.pair a) (paired r rs) (paired_within n r rs v.0 v.1))

applied_within : (n at : ℕ) (f : Former) (qs : List Part) → at < n → PartsWithin n qs → ReadWithin n (applied f at qs)
applied_within n at (simple_type s) [] h w = tt
applied_within n at (simple_type s) (q ∷ qs) h w = h
applied_within n at operation_type [] h w = tt
applied_within n at operation_type (q ∷ qs) h w = h
applied_within n at (one_argument f) [] h w = h
applied_within n at (one_argument f) (q ∷ []) h w = part_next n (asked_of_argument f) q (λ a. good (of_argument f a)) w.0 (λ a. tt)
applied_within n at (one_argument f) (q ∷ r ∷ qs) h w = h
applied_within n at (two_arguments f) [] h w = h
applied_within n at (two_arguments f) (q ∷ []) h w = h
applied_within n at (two_arguments f) (q ∷ r ∷ []) h w =
    part_next n (asked_of_first f) q (λ a. with_part (asked_of_second f) r (λ b. good (of_arguments f a b))) w.0
    (λ a. part_next n (asked_of_second f) r (λ b. good (of_arguments f a b)) w.1.0 (λ b. tt))
applied_within n at (two_arguments f) (q ∷ r ∷ u ∷ qs) h w = h
applied_within n at pair_type [] h w = h
applied_within n at pair_type (q ∷ []) h w = h
applied_within n at pair_type (q ∷ r ∷ qs) h w = paired_within n q (r ∷ qs) w.0 w.1
applied_within n at no_type [] h w = h
applied_within n at no_type (q ∷ qs) h w = h

some_size : (t : Tree) → 1 ≤ size t
some_size (int n) = omega arith
some_size (str s) = omega arith
some_size (bytes b) = omega arith
some_size (prim name annots ts) = omega arith
some_size (seq ts) = omega arith

mutual
  typed_within : (at : ℕ) (t : Tree) → ReadWithin (at + size t) (typed at t)
  typed_within at (int n) = omega arith
  typed_within at (str s) = omega arith
  typed_within at (bytes b) = omega arith
  typed_within at (seq ts) = omega arith
  typed_within at (prim name annots args) =
      let e : at + 1 + sizes args ≡ at + (sizes args + 1) = omega arith in
      let inner : PartsWithin (at + (sizes args + 1)) (parts (at + 1) args) = subst (λ n. PartsWithin n (parts (at + 1) args)) e (parts_within (at + 1) args) in
      let here : at < at + (sizes args + 1) = omega arith in
      applied_within (at + (sizes args + 1)) at (former_of_name name) (parts (at + 1) args) here inner

  parts_within : (at : ℕ) (ts : Trees) → PartsWithin (at + sizes ts) (parts at ts)
  parts_within at none = tt
  parts_within at (more t ts) =
      let one : 1 ≤ size t = some_size t in
      let e : at + size t + sizes ts ≡ at + (size t + sizes ts) = omega arith in
      let here : at < at + (size t + sizes ts) = omega arith in
      let less : at + size t ≤ at + (size t + sizes ts) = omega arith in (
        (here, read_further (at + size t) (at + (size t + sizes ts)) (typed at t) less (typed_within at t)),
        subst (λ n. PartsWithin n (parts (at + size t) ts)) e (parts_within (at + size t) ts),
      )

abbrev ReadingWithin : ℕ → Reading → Type 0
ReadingWithin n (a_type a) = Unit {0}
ReadingWithin n (bad_type l) = l < n
ReadingWithin n too_large = Unit {0}

limited_within : (n : ℕ) (r : Read) → ReadWithin n r → ReadingWithin n (limited r)
limited_within n (good a) w = by (nat_le (nodes a) type_limit)
  where
    by : (b : Bool) → ReadingWithin n (if b then a_type a else too_large)
    by true = tt
    by false = tt
limited_within n (bad l) w = w

-- ---- entrypoints

abbrev FaultWithin : ℕ → Entries → Type 0
FaultWithin n (entries es) = Unit {0}
FaultWithin n (bad_name l) = l < n
FaultWithin n (repeated l) = l < n

abbrev BranchesWithin : ℕ → List Branch → Type 0
BranchesWithin n [] = Unit {0}
BranchesWithin n (b ∷ bs) = (b.location < n) × BranchesWithin n bs

branches_further : (m n : ℕ) (bs : List Branch) → m ≤ n → BranchesWithin m bs → BranchesWithin n bs
branches_further m n [] h w = tt
branches_further m n (b ∷ bs) h w = (omega (arith, w.0), branches_further m n bs h w.1)

branches_both : (n : ℕ) (xs ys : List Branch) → BranchesWithin n xs → BranchesWithin n ys → BranchesWithin n (xs ++ ys)
branches_both n [] ys w v = v
branches_both n (x ∷ xs) ys w v = (w.0, branches_both n xs ys w.1 v)

branches_in_order : (n : ℕ) (xs ys : List Branch) → BranchesWithin n xs → BranchesWithin n ys → BranchesWithin n (in_order xs ys)
unfolding in_order
branches_in_order n xs ys w v = branches_both n xs ys w v

then_within : (n : ℕ) (r : Entries) (next : List Entry → Entries) → FaultWithin n r → ((es : List Entry) → FaultWithin n (next es)) → FaultWithin n (then_entries r next)
then_within n (entries es) next w h = h es
then_within n (bad_name l) next w h = w
then_within n (repeated l) next w h = w

new_within : (n at : ℕ) (o : Option Entry) (es : List Entry) (name : List ℕ) (path : List Bool) (a : Kind) → at < n → FaultWithin n (with_new o es at name path a)
new_within n at None es name path a h = tt
new_within n at (Some e) es name path a h = h

named_within : (n at : ℕ) (es : List Entry) (o : Option (List ℕ)) (path : List Bool) (a : Kind) → at < n → FaultWithin n (with_named es at o path a)
named_within n at es None path a h = tt
named_within n at es (Some name) path a h = by (is_entrypoint name)
  where
    by : (b : Bool) → FaultWithin n (if b then with_new (find_entry name es) es at name path a else bad_name at)
    by true = new_within n at (find_entry name es) es name path a h
    by false = h

branches_within : (n : ℕ) (bs : List Branch) (es : List Entry) → BranchesWithin n bs → FaultWithin n (with_branches es bs)
branches_within n [] es w = tt
branches_within n (b ∷ bs) es w = then_within n (with_branch es b) (λ more. with_branches more bs) (named_within n b.location es b.name b.path b.kind w.0) (λ more. branches_within n bs more w.1)

below_within : (a : Kind) (at : ℕ) (t : Tree) (path : List Bool) → BranchesWithin (at + size t) (below a at t path)
below_within (k.simple s) at t path = tt
below_within k.operation at t path = tt
below_within (k.option a) at t path = tt
below_within (k.pair a b) at t path = tt
below_within (k.list a) at t path = tt
below_within (k.set a) at t path = tt
below_within (k.map a b) at t path = tt
below_within (k.big_map a b) at t path = tt
below_within (k.lambda a b) at t path = tt
below_within (k.contract a) at t path = tt
below_within (k.ticket a) at t path = tt
below_within (k.or a b) at (int n) path = tt
below_within (k.or a b) at (str s) path = tt
below_within (k.or a b) at (bytes s) path = tt
below_within (k.or a b) at (seq ts) path = tt
below_within (k.or a b) at (prim name annots none) path = tt
below_within (k.or a b) at (prim name annots (more l none)) path = tt
below_within (k.or a b) at (prim name annots (more l (more r (more u us)))) path = tt
below_within (k.or a b) at (prim name annots (more l (more r none))) path =
    let x : 1 ≤ size l = some_size l in
    let y : 1 ≤ size r = some_size r in
    let left : at + 1 < at + (size l + (size r + 0) + 1) = omega arith in
    let right : at + 1 + size l < at + (size l + (size r + 0) + 1) = omega arith in
    let left_end : at + 1 + size l ≤ at + (size l + (size r + 0) + 1) = omega arith in
    let right_end : at + 1 + size l + size r ≤ at + (size l + (size r + 0) + 1) = omega arith in
    branches_in_order (at + (size l + (size r + 0) + 1))
    (branch (at + 1) l (path ++ false ∷ []) a ∷ below a (at + 1) l (path ++ false ∷ []))
    (branch (at + 1 + size l) r (path ++ true ∷ []) b ∷ below b (at + 1 + size l) r (path ++ true ∷ []))
    (left, branches_further (at + 1 + size l) (at + (size l + (size r + 0) + 1)) (below a (at + 1) l (path ++ false ∷ [])) left_end (below_within a (at + 1) l (path ++ false ∷ [])))
    (right, branches_further (at + 1 + size l + size r) (at + (size l + (size r + 0) + 1)) (below b (at + 1 + size l) r (path ++ true ∷ [])) right_end (below_within b (at + 1 + size l) r (path ++ true ∷ [])))

root_within : (n : ℕ) (o : Option (List ℕ)) (t : Tree) (a : Kind) → 1 < n → (root_by o t a).location < n
root_within n None t a h = h
root_within n (Some name) t a h = omega arith

entries_within : (annots : List (List ℕ)) (t : Tree) (a : Kind) → FaultWithin (1 + size t) (entries_of annots t a)
entries_within annots t a =
    let one : 1 ≤ size t = some_size t in
    let more : 1 < 1 + size t = omega arith in
    then_within (1 + size t) (with_branches [] (root_by (field_name annots) t a ∷ below a 1 t [])) (with_default a)
    (branches_within (1 + size t) (root_by (field_name annots) t a ∷ below a 1 t []) [] (root_within (1 + size t) (field_name annots) t a more, below_within a 1 t []))
    (λ es. tt)

-- ---- sections

-- a fault of the parameter is within n nodes
abbrev pub ParameterWithin : ℕ → Parameter → Type 0
ParameterWithin n (a_parameter a es) = Unit {0}
ParameterWithin n (bad_parameter l) = l < n
ParameterWithin n large_parameter = 1 < n
ParameterWithin n (repeated_entrypoint l) = l < n

of_entries_within : (n : ℕ) (a : Kind) (r : Entries) → FaultWithin n r → ParameterWithin n (of_entries a r)
of_entries_within n a (entries es) w = tt
of_entries_within n a (bad_name l) w = w
of_entries_within n a (repeated l) w = w

reading_within : (annots : List (List ℕ)) (t : Tree) (r : Reading) → ReadingWithin (1 + size t) r → ParameterWithin (1 + size t) (of_reading annots t r)
reading_within annots t (a_type a) w = by (passable a)
  where
    by : (b : Bool) → ParameterWithin (1 + size t) (if b then of_entries a (entries_of annots t a) else bad_parameter 1)
    by true = of_entries_within (1 + size t) a (entries_of annots t a) (entries_within annots t a)
    by false = let one : 1 ≤ size t = some_size t in omega arith
reading_within annots t (bad_type l) w = w
reading_within annots t too_large w = let one : 1 ≤ size t = some_size t in omega arith

section_within : (b : Bool) (annots : List (List ℕ)) (args : Trees) → ParameterWithin (sizes args + 1) (of_section b annots args)
section_within true annots none = omega arith
section_within true annots (more t none) =
    let e : 1 + size t ≡ size t + 0 + 1 = omega arith in
    subst (λ n. ParameterWithin n (of_reading annots t (type_at 1 t))) e (reading_within annots t (type_at 1 t) (limited_within (1 + size t) (typed 1 t) (typed_within 1 t)))
section_within true annots (more t (more u us)) = omega arith
section_within false annots args = omega arith

pub parameter_within : (t : Tree) → ParameterWithin (size t) (parameter t)
parameter_within (int n) = omega arith
parameter_within (str s) = omega arith
parameter_within (bytes b) = omega arith
parameter_within (seq ts) = omega arith
parameter_within (prim name annots args) = section_within (bytes_eq name (codes "parameter")) annots args

-- an error's location is within so many nodes
abbrev pub ErrorWithin : ℕ → TypeError → Type 0
ErrorWithin n (error.BadType l) = l < n
ErrorWithin n error.TypeTooLarge = 1 < n
ErrorWithin n (error.RepeatedEntrypoint l) = l < n
ErrorWithin n error.Memory = Unit {0}

pub error_within : (t : Tree) (e : TypeError) → IsParameterFault (parameter t) e → ErrorWithin (size t) e
error_within t (error.BadType l) h = subst (ParameterWithin (size t)) h (parameter_within t)
error_within t error.TypeTooLarge h = subst (ParameterWithin (size t)) h (parameter_within t)
error_within t (error.RepeatedEntrypoint l) h = subst (ParameterWithin (size t)) h (parameter_within t)
error_within t error.Memory h = tt
