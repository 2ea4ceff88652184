-- A fault of a literal is at one of its nodes.
use Rattle.std.proofs.Common.{◌≡◌, ℕ, ◌+◌, ◌<◌, ◌≤◌, Bool, true, false, cond, Option, Some, None, subst, arith}
use Rattle.rules_text.specs.nodes.Tree.{Tree, int, str, bytes, prim, seq, Trees, none, more, size, sizes}
use Rattle.rules_data.specs.declared.types.Simple.{Simple}
use Rattle.rules_data.specs.types.Kind.{Kind}
use Rattle.rules_data.specs.types.Kind as k
use Rattle.rules_data.specs.values.Val.{Val, more_vals, Pairs, more_pairs}
use Rattle.rules_data.specs.values.Val as v
use Rattle.rules_data.specs.forms.Spelling.{is_address}
use Rattle.rules_data.specs.values.Literals.{Word, none_word, some_word, left_word, right_word, pair_word, entry_word, recursive_word, word_of_name, Literal, good, bad, with_pending, and_then, mapped, Reader, on_value, simple_value, read_simple, option_named, read_option, or_named, read_or, read_parts, pair_named, parts_of, read_elements, read_list, is_behind, read_increasing, read_set, entry_named, read_entry, read_entries, read_table, read_body, recursive_named, read_lambda, read_contract, read, read_rest}

-- a fault stands before a location
abbrev Below : {A : Type 0} → ℕ → Literal A → Type 0
Below hi (good x ps) = Unit {0}
Below hi (bad l) = l < hi

below_mapped : {A B : Type 0} (f : A → B) (hi : ℕ) (e : Literal A) → Below hi e → Below hi (mapped f e)
below_mapped f hi (good x ps) h = tt
below_mapped f hi (bad l) h = h

below_with : {A : Type 0} (hi : ℕ) (qs : _) (e : Literal A) → Below hi e → Below hi (with_pending qs e)
below_with hi qs (good x ps) h = tt
below_with hi qs (bad l) h = h

below_then : {A B : Type 0} (hi : ℕ) (e : Literal A) (next : A → Literal B) → Below hi e → ((x : A) → Below hi (next x)) → Below hi (and_then e next)
below_then hi (good x ps) next h i = below_with hi ps (next x) (i x)
below_then hi (bad l) next h i = h

below_if : {A : Type 0} (b : Bool) (hi l : ℕ) (e : Literal A) → Below hi e → l < hi → Below hi (cond b e (bad l))
below_if true hi l e h i = h
below_if false hi l e h i = i

pub some_node : (t : Tree) → 1 ≤ size t
some_node (int n) = omega arith
some_node (str s) = omega arith
some_node (bytes b) = omega arith
some_node (prim name annots ts) = omega arith
some_node (seq ts) = omega arith

here : (hi at : ℕ) (t : Tree) → at + size t ≤ hi → at < hi
here hi at t h = let e = some_node t in omega (arith, e, h)

abbrev IsBelow : Reader → Type 0
IsBelow r = (hi at : ℕ) (t : Tree) → at + size t ≤ hi → Below hi (r at t)

abbrev AreBelow : (ℕ → Trees → Literal Val) → ℕ → Type 0
AreBelow rest whole = (hi at : ℕ) (ts : Trees) → whole < hi → at + sizes ts ≤ hi → Below hi (rest at ts)

simple_below : (s : Simple) → IsBelow (read_simple s)
simple_below s hi at t h = by (simple_value s t)
  where
    by : (o : Option Val) → Below hi (on_value at o)
    by (Some x) = tt
    by None = here hi at t h

option_below : (r : Reader) → IsBelow r → IsBelow (read_option r)
option_below r i hi at (prim name annots args) h = by (word_of_name name) args h
  where
    by : (w : Word) (args : Trees) → at + (sizes args + 1) ≤ hi → Below hi (option_named w r at args)
    by none_word none h = tt
    by some_word (more t none) h = below_mapped v.some hi (r (at + 1) t) (i hi (at + 1) t (omega (arith, h)))
    by _ _ h = omega (arith, h)
option_below r i hi at (int n) h = here hi at (int n) h
option_below r i hi at (str s) h = here hi at (str s) h
option_below r i hi at (bytes b) h = here hi at (bytes b) h
option_below r i hi at (seq ts) h = here hi at (seq ts) h

or_below : (r q : Reader) → IsBelow r → IsBelow q → IsBelow (read_or r q)
or_below r q i j hi at (prim name annots args) h = by (word_of_name name) args h
  where
    by : (w : Word) (args : Trees) → at + (sizes args + 1) ≤ hi → Below hi (or_named w r q at args)
    by left_word (more t none) h = below_mapped v.left hi (r (at + 1) t) (i hi (at + 1) t (omega (arith, h)))
    by right_word (more t none) h = below_mapped v.right hi (q (at + 1) t) (j hi (at + 1) t (omega (arith, h)))
    by _ _ h = omega (arith, h)
or_below r q i j hi at (int n) h = here hi at (int n) h
or_below r q i j hi at (str s) h = here hi at (str s) h
or_below r q i j hi at (bytes b) h = here hi at (bytes b) h
or_below r q i j hi at (seq ts) h = here hi at (seq ts) h

parts_below : (r q : Reader) (rest : ℕ → Trees → Literal Val) (whole : ℕ) → IsBelow r → IsBelow q → AreBelow rest whole → AreBelow (read_parts r q rest whole) whole
parts_below r q rest whole i j l hi at none w h = w
parts_below r q rest whole i j l hi at (more t none) w h = w
parts_below r q rest whole i j l hi at (more t (more u none)) w h =
    below_then hi (r at t) (λ x. mapped (v.both x) (q (at + size t) u)) (i hi at t (omega (arith, h)))
    (λ x. below_mapped (v.both x) hi (q (at + size t) u) (j hi (at + size t) u (omega (arith, h))))
parts_below r q rest whole i j l hi at (more t (more u (more y ts))) w h =
    let us : Trees = more u (more y ts) in
    below_then hi (r at t) (λ x. mapped (v.both x) (rest (at + size t) us)) (i hi at t (omega (arith, h)))
    (λ x. below_mapped (v.both x) hi (rest (at + size t) us) (l hi (at + size t) us w (omega (arith, h))))

pair_below : (r q : Reader) (rest : ℕ → ℕ → Trees → Literal Val) → IsBelow r → IsBelow q → ((whole : ℕ) → AreBelow (rest whole) whole) →
    (hi at : ℕ) (t : Tree) → at + size t ≤ hi → Below hi (read_parts r q (rest at) at (at + 1) (parts_of t))
pair_below r q rest i j l hi at (prim name annots args) h = by (word_of_name name)
  where
    by : (w : Word) → Below hi (read_parts r q (rest at) at (at + 1) (pair_named w args))
    by pair_word = parts_below r q (rest at) at i j (l at) hi (at + 1) args (omega (arith, h)) (omega (arith, h))
    by _ = omega (arith, h)
pair_below r q rest i j l hi at (seq ts) h = parts_below r q (rest at) at i j (l at) hi (at + 1) ts (omega (arith, h)) (omega (arith, h))
pair_below r q rest i j l hi at (int m) h = here hi at (int m) h
pair_below r q rest i j l hi at (str s) h = here hi at (str s) h
pair_below r q rest i j l hi at (bytes b) h = here hi at (bytes b) h

elements_below : (r : Reader) → IsBelow r → (hi at : ℕ) (ts : Trees) → at + sizes ts ≤ hi → Below hi (read_elements r at ts)
elements_below r i hi at none h = tt
elements_below r i hi at (more t ts) h =
    below_then hi (r at t) (λ x. mapped (more_vals x) (read_elements r (at + size t) ts)) (i hi at t (omega (arith, h)))
    (λ x. below_mapped (more_vals x) hi (read_elements r (at + size t) ts) (elements_below r i hi (at + size t) ts (omega (arith, h))))

list_below : (r : Reader) → IsBelow r → IsBelow (read_list r)
list_below r i hi at (seq ts) h = below_mapped v.list hi (read_elements r (at + 1) ts) (elements_below r i hi (at + 1) ts (omega (arith, h)))
list_below r i hi at (int n) h = here hi at (int n) h
list_below r i hi at (str s) h = here hi at (str s) h
list_below r i hi at (bytes b) h = here hi at (bytes b) h
list_below r i hi at (prim name annots ts) h = here hi at (prim name annots ts) h

increasing_below : (r : Reader) → IsBelow r → (before : Option Val) (hi at : ℕ) (ts : Trees) → at + sizes ts ≤ hi → Below hi (read_increasing r before at ts)
increasing_below r i before hi at none h = tt
increasing_below r i before hi at (more t ts) h =
    let first : at + size t ≤ hi = omega (arith, h) in
    below_then hi (r at t) (λ x. cond (is_behind before x) (mapped (more_vals x) (read_increasing r (Some x) (at + size t) ts)) (bad at)) (i hi at t first)
    (λ x. below_if (is_behind before x) hi at (mapped (more_vals x) (read_increasing r (Some x) (at + size t) ts))
    (below_mapped (more_vals x) hi (read_increasing r (Some x) (at + size t) ts) (increasing_below r i (Some x) hi (at + size t) ts (omega (arith, h))))
    (here hi at t first))

set_below : (r : Reader) → IsBelow r → IsBelow (read_set r)
set_below r i hi at (seq ts) h = below_mapped v.set hi (read_increasing r None (at + 1) ts) (increasing_below r i None hi (at + 1) ts (omega (arith, h)))
set_below r i hi at (int n) h = here hi at (int n) h
set_below r i hi at (str s) h = here hi at (str s) h
set_below r i hi at (bytes b) h = here hi at (bytes b) h
set_below r i hi at (prim name annots ts) h = here hi at (prim name annots ts) h

entry_below : (r q : Reader) → IsBelow r → IsBelow q → (before : Option Val) (hi at : ℕ) (t : Tree) → at + size t ≤ hi → Below hi (read_entry r q before at t)
entry_below r q i j before hi at (prim name annots args) h = by (word_of_name name) args h
  where
    by : (w : Word) (args : Trees) → at + (sizes args + 1) ≤ hi → Below hi (entry_named w r q before at args)
    by entry_word (more t (more u none)) h =
        below_then hi (r (at + 1) t) (λ x. cond (is_behind before x) (mapped (λ y. record { key = x; value = y }) (q (at + 1 + size t) u)) (bad at))
        (i hi (at + 1) t (omega (arith, h)))
        (λ x. below_if (is_behind before x) hi at (mapped (λ y. record { key = x; value = y }) (q (at + 1 + size t) u))
        (below_mapped (λ y. record { key = x; value = y }) hi (q (at + 1 + size t) u) (j hi (at + 1 + size t) u (omega (arith, h))))
        (omega (arith, h)))
    by _ _ h = omega (arith, h)
entry_below r q i j before hi at (int n) h = here hi at (int n) h
entry_below r q i j before hi at (str s) h = here hi at (str s) h
entry_below r q i j before hi at (bytes b) h = here hi at (bytes b) h
entry_below r q i j before hi at (seq ts) h = here hi at (seq ts) h

entries_below : (r q : Reader) → IsBelow r → IsBelow q → (before : Option Val) (hi at : ℕ) (ts : Trees) → at + sizes ts ≤ hi → Below hi (read_entries r q before at ts)
entries_below r q i j before hi at none h = tt
entries_below r q i j before hi at (more t ts) h =
    below_then hi (read_entry r q before at t) (λ e. mapped (more_pairs e.key e.value) (read_entries r q (Some e.key) (at + size t) ts))
    (entry_below r q i j before hi at t (omega (arith, h)))
    (λ e. below_mapped (more_pairs e.key e.value) hi (read_entries r q (Some e.key) (at + size t) ts)
    (entries_below r q i j (Some e.key) hi (at + size t) ts (omega (arith, h))))

table_below : (made : Pairs → Val) (r q : Reader) → IsBelow r → IsBelow q → IsBelow (read_table made r q)
table_below made r q i j hi at (seq ts) h = below_mapped made hi (read_entries r q None (at + 1) ts) (entries_below r q i j None hi (at + 1) ts (omega (arith, h)))
table_below made r q i j hi at (int n) h = here hi at (int n) h
table_below made r q i j hi at (str s) h = here hi at (str s) h
table_below made r q i j hi at (bytes b) h = here hi at (bytes b) h
table_below made r q i j hi at (prim name annots ts) h = here hi at (prim name annots ts) h

body_below : (a b : Kind) (recursive : Bool) → IsBelow (read_body a b recursive)
body_below a b recursive hi at (seq ts) h = tt
body_below a b recursive hi at (int n) h = here hi at (int n) h
body_below a b recursive hi at (str s) h = here hi at (str s) h
body_below a b recursive hi at (bytes x) h = here hi at (bytes x) h
body_below a b recursive hi at (prim name annots ts) h = here hi at (prim name annots ts) h

lambda_below : (a b : Kind) → IsBelow (read_lambda a b)
lambda_below a b hi at (prim name annots args) h = by (word_of_name name) args h
  where
    by : (w : Word) (args : Trees) → at + (sizes args + 1) ≤ hi → Below hi (recursive_named w a b at args)
    by recursive_word (more t none) h = body_below a b true hi (at + 1) t (omega (arith, h))
    by _ _ h = omega (arith, h)
lambda_below a b hi at (int n) h = here hi at (int n) h
lambda_below a b hi at (str s) h = here hi at (str s) h
lambda_below a b hi at (bytes x) h = here hi at (bytes x) h
lambda_below a b hi at (seq ts) h = body_below a b false hi at (seq ts) h

contract_below : (a : Kind) → IsBelow (read_contract a)
contract_below a hi at (bytes b) h = below_if (is_address b) hi at (good (v.bytes b) _) tt (here hi at (bytes b) h)
contract_below a hi at (int n) h = here hi at (int n) h
contract_below a hi at (str s) h = here hi at (str s) h
contract_below a hi at (prim name annots ts) h = here hi at (prim name annots ts) h
contract_below a hi at (seq ts) h = here hi at (seq ts) h

mutual
  read_below : (a : Kind) → IsBelow (read a)
  read_below (k.simple s) hi at t h = simple_below s hi at t h
  read_below k.operation hi at t h = here hi at t h
  read_below (k.option a) hi at t h = option_below (read a) (read_below a) hi at t h
  read_below (k.or a b) hi at t h = or_below (read a) (read b) (read_below a) (read_below b) hi at t h
  read_below (k.pair a b) hi at t h = pair_below (read a) (read b) (read_rest b) (read_below a) (read_below b) (rest_below b) hi at t h
  read_below (k.list a) hi at t h = list_below (read a) (read_below a) hi at t h
  read_below (k.set a) hi at t h = set_below (read a) (read_below a) hi at t h
  read_below (k.map a b) hi at t h = table_below v.table (read a) (read b) (read_below a) (read_below b) hi at t h
  read_below (k.big_map a b) hi at t h = table_below v.big_table (read a) (read b) (read_below a) (read_below b) hi at t h
  read_below (k.lambda a b) hi at t h = lambda_below a b hi at t h
  read_below (k.contract a) hi at t h = contract_below a hi at t h
  read_below (k.ticket a) hi at t h = here hi at t h

  rest_below : (a : Kind) (whole : ℕ) → AreBelow (read_rest a whole) whole
  rest_below (k.pair a b) whole hi at ts w h = parts_below (read a) (read b) (read_rest b whole) whole (read_below a) (read_below b) (rest_below b whole) hi at ts w h
  rest_below _ whole hi at ts w h = w

-- the fault of a node read at a location stands before the end of the node
pub fault_within : (a : Kind) (at l : ℕ) (t : Tree) → read a at t ≡ bad l → l < at + size t
fault_within a at l t e = subst (Below (at + size t)) e (read_below a (at + size t) at t (omega arith))
