-- The types of the lambdas in a literal are parts of its type.
use Rattle.std.proofs.Common.{ℕ, ◌+◌, ◌≤◌, Bool, true, false, cond, Option, Some, None, List, [], ◌∷◌, ◌++◌, arith}
use Rattle.rules_text.specs.nodes.Limits.{type_limit}
use Rattle.rules_text.specs.nodes.Tree.{Tree, int, str, bytes, prim, seq, Trees, none, more, size}
use Rattle.rules_data.specs.forms.Spelling.{is_address}
use Rattle.rules_data.specs.declared.types.Simple.{Simple}
use Rattle.rules_data.specs.types.Kind.{Kind, nodes}
use Rattle.rules_data.specs.types.Kind as k
use Rattle.rules_data.specs.values.Val.{Val, more_vals, Pairs, more_pairs}
use Rattle.rules_data.specs.values.Val as v
use Rattle.rules_data.specs.values.Literals.{Word, none_word, some_word, left_word, right_word, entry_word, recursive_word, word_of_name, Pending, body, claim, Literal, good, bad, with_pending, and_then, mapped, Reader, on_value, simple_value, read_simple, option_named, read_option, or_named, read_or, read_parts, parts_of, read_elements, read_list, is_behind, read_increasing, read_set, entry_named, read_entry, read_entries, read_table, read_body, recursive_named, read_lambda, read_contract, read, read_rest}
use Rattle.laws_code.specs.evaluation.Laws.{IsType}
use Rattle.laws_code.proofs.stacks.ForCallers.{type_option, type_list, type_left, type_right, type_element}

-- the lambda's type is a type
abbrev pub HasType : Pending → Type 0
HasType (body at a r recursive t) = IsType (k.lambda a r)
HasType (claim at b a) = Unit {0}

abbrev pub HaveTypes : List Pending → Type 0
HaveTypes [] = Unit {0}
HaveTypes (p ∷ ps) = HasType p × HaveTypes ps

both : (ps qs : List Pending) → HaveTypes ps → HaveTypes qs → HaveTypes (ps ++ qs)
both [] qs h g = g
both (p ∷ ps) qs h g = (h.0, both ps qs h.1 g)

abbrev pub Fine : {A : Type 0} → Literal A → Type 0
Fine (good x ps) = HaveTypes ps
Fine (bad l) = Unit {0}

fine_mapped : {A B : Type 0} (f : A → B) (e : Literal A) → Fine e → Fine (mapped f e)
fine_mapped f (good x ps) h = h
fine_mapped f (bad l) h = tt

fine_with : {A : Type 0} (ps : List Pending) (e : Literal A) → HaveTypes ps → Fine e → Fine (with_pending ps e)
fine_with ps (good x qs) h g = both ps qs h g
fine_with ps (bad l) h g = tt

fine_then : {A B : Type 0} (e : Literal A) (next : A → Literal B) → Fine e → ((x : A) → Fine (next x)) → Fine (and_then e next)
fine_then (good x ps) next h g = fine_with ps (next x) h (g x)
fine_then (bad l) next h g = tt

fine_if : {A : Type 0} (b : Bool) (l : ℕ) (e : Literal A) → Fine e → Fine (cond b e (bad l))
fine_if true l e h = h
fine_if false l e h = tt

abbrev IsFine : Reader → Type 0
IsFine r = (at : ℕ) (t : Tree) → Fine (r at t)

abbrev AreFine : (ℕ → Trees → Literal Val) → Type 0
AreFine rest = (at : ℕ) (ts : Trees) → Fine (rest at ts)

fine_simple : (s : Simple) → IsFine (read_simple s)
fine_simple s at t = by (simple_value s t)
  where
    by : (o : Option Val) → Fine (on_value at o)
    by (Some x) = tt
    by None = tt

fine_option_named : (w : Word) (r : Reader) → IsFine r → (at : ℕ) (args : Trees) → Fine (option_named w r at args)
fine_option_named none_word r h at none = tt
fine_option_named some_word r h at (more t none) = fine_mapped v.some (r (at + 1) t) (h (at + 1) t)
fine_option_named _ r h at _ = tt

fine_option : (r : Reader) → IsFine r → IsFine (read_option r)
fine_option r h at (prim name annots args) = fine_option_named (word_of_name name) r h at args
fine_option r h at (int n) = tt
fine_option r h at (str s) = tt
fine_option r h at (bytes b) = tt
fine_option r h at (seq ts) = tt

fine_or_named : (w : Word) (r q : Reader) → IsFine r → IsFine q → (at : ℕ) (args : Trees) → Fine (or_named w r q at args)
fine_or_named left_word r q h g at (more t none) = fine_mapped v.left (r (at + 1) t) (h (at + 1) t)
fine_or_named right_word r q h g at (more t none) = fine_mapped v.right (q (at + 1) t) (g (at + 1) t)
fine_or_named _ r q h g at _ = tt

fine_or : (r q : Reader) → IsFine r → IsFine q → IsFine (read_or r q)
fine_or r q h g at (prim name annots args) = fine_or_named (word_of_name name) r q h g at args
fine_or r q h g at (int n) = tt
fine_or r q h g at (str s) = tt
fine_or r q h g at (bytes b) = tt
fine_or r q h g at (seq ts) = tt

fine_parts : (r q : Reader) (rest : ℕ → Trees → Literal Val) → IsFine r → IsFine q → AreFine rest → (whole : ℕ) → AreFine (read_parts r q rest whole)
fine_parts r q rest h g i whole at none = tt
fine_parts r q rest h g i whole at (more t none) = tt
fine_parts r q rest h g i whole at (more t (more u none)) =
    fine_then (r at t) (λ x. mapped (v.both x) (q (at + size t) u)) (h at t) (λ x. fine_mapped (v.both x) (q (at + size t) u) (g (at + size t) u))
fine_parts r q rest h g i whole at (more t (more u (more w ts))) =
    fine_then (r at t) (λ x. mapped (v.both x) (rest (at + size t) (more u (more w ts)))) (h at t)
    (λ x. fine_mapped (v.both x) (rest (at + size t) (more u (more w ts))) (i (at + size t) (more u (more w ts))))

fine_elements : (r : Reader) → IsFine r → (at : ℕ) (ts : Trees) → Fine (read_elements r at ts)
fine_elements r h at none = tt
fine_elements r h at (more t ts) =
    fine_then (r at t) (λ x. mapped (more_vals x) (read_elements r (at + size t) ts)) (h at t)
    (λ x. fine_mapped (more_vals x) (read_elements r (at + size t) ts) (fine_elements r h (at + size t) ts))

fine_list : (r : Reader) → IsFine r → IsFine (read_list r)
fine_list r h at (seq ts) = fine_mapped v.list (read_elements r (at + 1) ts) (fine_elements r h (at + 1) ts)
fine_list r h at (int n) = tt
fine_list r h at (str s) = tt
fine_list r h at (bytes b) = tt
fine_list r h at (prim name annots ts) = tt

fine_increasing : (r : Reader) → IsFine r → (before : Option Val) (at : ℕ) (ts : Trees) → Fine (read_increasing r before at ts)
fine_increasing r h before at none = tt
fine_increasing r h before at (more t ts) =
    fine_then (r at t) (λ x. cond (is_behind before x) (mapped (more_vals x) (read_increasing r (Some x) (at + size t) ts)) (bad at)) (h at t)
    (λ x. fine_if (is_behind before x) at (mapped (more_vals x) (read_increasing r (Some x) (at + size t) ts))
    (fine_mapped (more_vals x) (read_increasing r (Some x) (at + size t) ts) (fine_increasing r h (Some x) (at + size t) ts)))

fine_set : (r : Reader) → IsFine r → IsFine (read_set r)
fine_set r h at (seq ts) = fine_mapped v.set (read_increasing r None (at + 1) ts) (fine_increasing r h None (at + 1) ts)
fine_set r h at (int n) = tt
fine_set r h at (str s) = tt
fine_set r h at (bytes b) = tt
fine_set r h at (prim name annots ts) = tt

fine_entry_named : (w : Word) (r q : Reader) → IsFine r → IsFine q → (before : Option Val) (at : ℕ) (args : Trees) → Fine (entry_named w r q before at args)
fine_entry_named entry_word r q h g before at (more t (more u none)) =
    fine_then (r (at + 1) t) (λ x. cond (is_behind before x) (mapped (λ y. record { key = x; value = y }) (q (at + 1 + size t) u)) (bad at)) (h (at + 1) t)
    (λ x. fine_if (is_behind before x) at (mapped (λ y. record { key = x; value = y }) (q (at + 1 + size t) u))
    (fine_mapped (λ y. record { key = x; value = y }) (q (at + 1 + size t) u) (g (at + 1 + size t) u)))
fine_entry_named _ r q h g before at _ = tt

fine_entry : (r q : Reader) → IsFine r → IsFine q → (before : Option Val) (at : ℕ) (t : Tree) → Fine (read_entry r q before at t)
fine_entry r q h g before at (prim name annots args) = fine_entry_named (word_of_name name) r q h g before at args
fine_entry r q h g before at (int n) = tt
fine_entry r q h g before at (str s) = tt
fine_entry r q h g before at (bytes b) = tt
fine_entry r q h g before at (seq ts) = tt

fine_entries : (r q : Reader) → IsFine r → IsFine q → (before : Option Val) (at : ℕ) (ts : Trees) → Fine (read_entries r q before at ts)
fine_entries r q h g before at none = tt
fine_entries r q h g before at (more t ts) =
    fine_then (read_entry r q before at t) (λ e. mapped (more_pairs e.key e.value) (read_entries r q (Some e.key) (at + size t) ts)) (fine_entry r q h g before at t)
    (λ e. fine_mapped (more_pairs e.key e.value) (read_entries r q (Some e.key) (at + size t) ts) (fine_entries r q h g (Some e.key) (at + size t) ts))

fine_table : (made : Pairs → Val) (r q : Reader) → IsFine r → IsFine q → IsFine (read_table made r q)
fine_table made r q h g at (seq ts) = fine_mapped made (read_entries r q None (at + 1) ts) (fine_entries r q h g None (at + 1) ts)
fine_table made r q h g at (int n) = tt
fine_table made r q h g at (str s) = tt
fine_table made r q h g at (bytes b) = tt
fine_table made r q h g at (prim name annots ts) = tt

fine_body : (a b : Kind) (recursive : Bool) → IsType (k.lambda a b) → IsFine (read_body a b recursive)
fine_body a b recursive h at (seq ts) = (h, tt)
fine_body a b recursive h at (int n) = tt
fine_body a b recursive h at (str s) = tt
fine_body a b recursive h at (bytes x) = tt
fine_body a b recursive h at (prim name annots ts) = tt

fine_recursive : (w : Word) (a b : Kind) → IsType (k.lambda a b) → (at : ℕ) (args : Trees) → Fine (recursive_named w a b at args)
fine_recursive recursive_word a b h at (more t none) = fine_body a b true h (at + 1) t
fine_recursive _ a b h at _ = tt

fine_lambda : (a b : Kind) → IsType (k.lambda a b) → IsFine (read_lambda a b)
fine_lambda a b h at (prim name annots args) = fine_recursive (word_of_name name) a b h at args
fine_lambda a b h at (int n) = tt
fine_lambda a b h at (str s) = tt
fine_lambda a b h at (bytes x) = tt
fine_lambda a b h at (seq ts) = fine_body a b false h at (seq ts)

fine_contract : (a : Kind) → IsFine (read_contract a)
fine_contract a at (bytes b) = by (is_address b)
  where
    by : (is_one : Bool) → Fine (cond is_one (good (v.bytes b) (claim at b a ∷ [])) (bad at))
    by true = (tt, tt)
    by false = tt
fine_contract a at (int n) = tt
fine_contract a at (str s) = tt
fine_contract a at (prim name annots ts) = tt
fine_contract a at (seq ts) = tt

-- ---- parts of types

type_part : (a b : Kind) → IsType (k.pair a b) → IsType a × IsType b
type_part a b h = let n : nodes (k.pair a b) ≤ type_limit = h.1 in ((h.0.0, omega arith), (h.0.1, omega arith))

type_binding : (a b : Kind) → IsType (k.map a b) → IsType a × IsType b
type_binding a b h = let n : nodes (k.map a b) ≤ type_limit = h.1 in ((h.0.1, omega arith), (h.0.2, omega arith))

type_big : (a b : Kind) → IsType (k.big_map a b) → IsType a × IsType b
type_big a b h = let n : nodes (k.big_map a b) ≤ type_limit = h.1 in ((h.0.2, omega arith), (h.0.3, omega arith))

mutual
  pub fine : (a : Kind) → IsType a → (at : ℕ) (t : Tree) → Fine (read a at t)
  fine (k.simple s) h at t = fine_simple s at t
  fine k.operation h at t = tt
  fine (k.option a) h at t = fine_option (read a) (fine a (type_option a h)) at t
  fine (k.or a b) h at t = fine_or (read a) (read b) (fine a (type_left a b h)) (fine b (type_right a b h)) at t
  fine (k.pair a b) h at t =
      fine_parts (read a) (read b) (read_rest b at) (fine a (type_part a b h).0) (fine b (type_part a b h).1) (fine_rest b (type_part a b h).1 at) at (at + 1) (parts_of t)
  fine (k.list a) h at t = fine_list (read a) (fine a (type_list a h)) at t
  fine (k.set a) h at t = fine_set (read a) (fine a (type_element a h)) at t
  fine (k.map a b) h at t = fine_table v.table (read a) (read b) (fine a (type_binding a b h).0) (fine b (type_binding a b h).1) at t
  fine (k.big_map a b) h at t = fine_table v.big_table (read a) (read b) (fine a (type_big a b h).0) (fine b (type_big a b h).1) at t
  fine (k.lambda a b) h at t = fine_lambda a b h at t
  fine (k.contract a) h at t = fine_contract a at t
  fine (k.ticket a) h at t = tt

  fine_rest : (a : Kind) → IsType a → (whole at : ℕ) (ts : Trees) → Fine (read_rest a whole at ts)
  fine_rest (k.pair a b) h whole at ts =
      fine_parts (read a) (read b) (read_rest b whole) (fine a (type_part a b h).0) (fine b (type_part a b h).1) (fine_rest b (type_part a b h).1 whole) whole at ts
  fine_rest _ h whole at ts = tt
