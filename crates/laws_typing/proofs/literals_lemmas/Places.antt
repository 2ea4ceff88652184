-- Where the bodies of a literal stand.
use Rattle.std.proofs.Common.{◌≡◌, ℕ, zero, suc, ◌+◌, Bool, true, false, cond, Option, Some, None, List, [], ◌∷◌, ◌++◌, length, refl, ap, ◌∙◌, subst, arith, length-append}
use Rattle.std.specs.Prelude.{slice_get}
use Rattle.rules_text.specs.nodes.Tree.{Tree, int, str, bytes, prim, seq, Trees, none, more, size, sizes, preorder, preorders}
use Rattle.rules_data.specs.declared.types.Simple.{Simple}
use Rattle.rules_data.specs.types.Kind.{Kind}
use Rattle.rules_data.specs.types.Kind as k
use Rattle.rules_data.specs.values.Val.{Val, more_vals, Pairs, more_pairs}
use Rattle.rules_data.specs.values.Val as v
use Rattle.rules_data.specs.forms.Spelling.{is_address}
use Rattle.rules_data.specs.values.Literals.{Word, none_word, some_word, left_word, right_word, pair_word, entry_word, recursive_word, word_of_name, Pending, body, claim, Literal, good, bad, with_pending, and_then, mapped, Reader, on_value, simple_value, read_simple, option_named, read_option, or_named, read_or, read_parts, pair_named, parts_of, read_elements, read_list, is_behind, read_increasing, read_set, read_binding, entry_named, read_entry, read_entries, read_table, read_body, recursive_named, read_lambda, read_contract, read, read_rest}
use Rattle.laws_typing.specs.literals.Laws.{StandsIn, AllStandIn, BodiesStand}

-- ---- lists of nodes

mutual
  pub size_is : (t : Tree) → size t ≡ length (preorder t)
  size_is (int n) = refl
  size_is (str s) = refl
  size_is (bytes b) = refl
  size_is (prim name annots ts) = let e = sizes_is ts in omega (arith, e)
  size_is (seq ts) = let e = sizes_is ts in omega (arith, e)

  pub sizes_is : (ts : Trees) → sizes ts ≡ length (preorders ts)
  sizes_is none = refl
  sizes_is (more t ts) = let e = size_is t in let f = sizes_is ts in let g = length-append (preorder t) (preorders ts) in omega (arith, e, f, g)

get_left : (xs ys : List Tree) (i : ℕ) (u : Tree) → slice_get xs i ≡ Some u → slice_get (xs ++ ys) i ≡ Some u
get_left [] ys i u h = absurd cc
get_left (x ∷ xs) ys zero u h = h
get_left (x ∷ xs) ys (suc i) u h = get_left xs ys i u h

get_right : (xs ys : List Tree) (i : ℕ) → slice_get (xs ++ ys) (length xs + i) ≡ slice_get ys i
get_right [] ys i = ap (slice_get ys) (omega arith)
get_right (x ∷ xs) ys i = ap (slice_get (x ∷ (xs ++ ys))) (by x xs i) ∙ get_right xs ys i
  where
    by : (x : Tree) (xs : List Tree) (i : ℕ) → length (x ∷ xs) + i ≡ suc (length xs + i)
    by x xs i = omega arith

-- ---- all that is pending

stands_left : (at : ℕ) (xs ys : List Tree) (p : Pending) → StandsIn at xs p → StandsIn at (xs ++ ys) p
stands_left at xs ys (body l a r recursive u) h = (h.0, h.1, get_left xs ys h.0 u h.2)
stands_left at xs ys (claim l b a) h = tt

pub all_left : (at : ℕ) (xs ys : List Tree) (ps : List Pending) → AllStandIn at xs ps → AllStandIn at (xs ++ ys) ps
all_left at xs ys [] h = tt
all_left at xs ys (p ∷ ps) h = (stands_left at xs ys p h.0, all_left at xs ys ps h.1)

stands_right : (at : ℕ) (xs ys : List Tree) (p : Pending) → StandsIn (at + length xs) ys p → StandsIn at (xs ++ ys) p
stands_right at xs ys (body l a r recursive u) h = (length xs + h.0, (let e = h.1 in omega (arith, e)), get_right xs ys h.0 ∙ h.2)
stands_right at xs ys (claim l b a) h = tt

pub all_right : (at : ℕ) (xs ys : List Tree) (ps : List Pending) → AllStandIn (at + length xs) ys ps → AllStandIn at (xs ++ ys) ps
all_right at xs ys [] h = tt
all_right at xs ys (p ∷ ps) h = (stands_right at xs ys p h.0, all_right at xs ys ps h.1)

all_append : (at : ℕ) (xs : List Tree) (ps qs : List Pending) → AllStandIn at xs ps → AllStandIn at xs qs → AllStandIn at xs (ps ++ qs)
all_append at xs [] qs h i = i
all_append at xs (p ∷ ps) qs h i = (h.0, all_append at xs ps qs h.1 i)

-- ---- what is read

-- of what is read all that is pending stands in the nodes
abbrev pub Stands : {A : Type 0} → ℕ → List Tree → Literal A → Type 0
Stands at ns (good x ps) = AllStandIn at ns ps
Stands at ns (bad l) = Unit {0}

stand_left : {A : Type 0} (at : ℕ) (xs ys : List Tree) (e : Literal A) → Stands at xs e → Stands at (xs ++ ys) e
stand_left at xs ys (good x ps) h = all_left at xs ys ps h
stand_left at xs ys (bad l) h = tt

stand_right : {A : Type 0} (at : ℕ) (xs ys : List Tree) (e : Literal A) → Stands (at + length xs) ys e → Stands at (xs ++ ys) e
stand_right at xs ys (good x ps) h = all_right at xs ys ps h
stand_right at xs ys (bad l) h = tt

stand_mapped : {A B : Type 0} (f : A → B) (at : ℕ) (ns : List Tree) (e : Literal A) → Stands at ns e → Stands at ns (mapped f e)
stand_mapped f at ns (good x ps) h = h
stand_mapped f at ns (bad l) h = tt

stand_with : {A : Type 0} (at : ℕ) (ns : List Tree) (ps : List Pending) (e : Literal A) → AllStandIn at ns ps → Stands at ns e → Stands at ns (with_pending ps e)
stand_with at ns ps (good x qs) h i = all_append at ns ps qs h i
stand_with at ns ps (bad l) h i = tt

stand_then : {A B : Type 0} (at : ℕ) (ns : List Tree) (e : Literal A) (next : A → Literal B) → Stands at ns e → ((x : A) → Stands at ns (next x)) → Stands at ns (and_then e next)
stand_then at ns (good x ps) next h i = stand_with at ns ps (next x) h (i x)
stand_then at ns (bad l) next h i = tt

stand_if : {A : Type 0} (b : Bool) (at l : ℕ) (ns : List Tree) (e : Literal A) → Stands at ns e → Stands at ns (cond b e (bad l))
stand_if true at l ns e h = h
stand_if false at l ns e h = tt

-- a reader of nodes, and one of arguments or elements
abbrev IsPlaced : Reader → Type 0
IsPlaced r = (at : ℕ) (t : Tree) → Stands at (preorder t) (r at t)

abbrev ArePlaced : (ℕ → Trees → Literal Val) → Type 0
ArePlaced rest = (at : ℕ) (ts : Trees) → Stands at (preorders ts) (rest at ts)

-- the first of several nodes, and those behind it
first : {A : Type 0} (at : ℕ) (t : Tree) (ts : Trees) (e : Literal A) → Stands at (preorder t) e → Stands at (preorders (more t ts)) e
first at t ts e h = stand_left at (preorder t) (preorders ts) e h

behind : {A : Type 0} (at : ℕ) (t : Tree) (ts : Trees) (e : Literal A) → Stands (at + size t) (preorders ts) e → Stands at (preorders (more t ts)) e
behind at t ts e h = stand_right at (preorder t) (preorders ts) e (subst (λ n. Stands (at + n) (preorders ts) e) (size_is t) h)

-- below one node
under : {A : Type 0} (at : ℕ) (t : Tree) (ns : List Tree) (e : Literal A) → Stands (at + 1) ns e → Stands at (t ∷ ns) e
under at t ns e h = stand_right at (t ∷ []) ns e h

-- ---- the readers

simple_placed : (s : Simple) → IsPlaced (read_simple s)
simple_placed s at t = by (simple_value s t)
  where
    by : (o : Option Val) → Stands at (preorder t) (on_value at o)
    by (Some x) = tt
    by None = tt

option_placed : (r : Reader) → IsPlaced r → IsPlaced (read_option r)
option_placed r h at (prim name annots args) = by (word_of_name name) args
  where
    by : (w : Word) (args : Trees) → Stands at (prim name annots args ∷ preorders args) (option_named w r at args)
    by none_word none = tt
    by some_word (more t none) = under at (prim name annots (more t none)) (preorders (more t none)) (mapped v.some (r (at + 1) t))
        (first (at + 1) t none (mapped v.some (r (at + 1) t)) (stand_mapped v.some (at + 1) (preorder t) (r (at + 1) t) (h (at + 1) t)))
    by _ _ = tt
option_placed r h at (int n) = tt
option_placed r h at (str s) = tt
option_placed r h at (bytes b) = tt
option_placed r h at (seq ts) = tt

or_placed : (r q : Reader) → IsPlaced r → IsPlaced q → IsPlaced (read_or r q)
or_placed r q h i at (prim name annots args) = by (word_of_name name) args
  where
    by : (w : Word) (args : Trees) → Stands at (prim name annots args ∷ preorders args) (or_named w r q at args)
    by left_word (more t none) = under at (prim name annots (more t none)) (preorders (more t none)) (mapped v.left (r (at + 1) t))
        (first (at + 1) t none (mapped v.left (r (at + 1) t)) (stand_mapped v.left (at + 1) (preorder t) (r (at + 1) t) (h (at + 1) t)))
    by right_word (more t none) = under at (prim name annots (more t none)) (preorders (more t none)) (mapped v.right (q (at + 1) t))
        (first (at + 1) t none (mapped v.right (q (at + 1) t)) (stand_mapped v.right (at + 1) (preorder t) (q (at + 1) t) (i (at + 1) t)))
    by _ _ = tt
or_placed r q h i at (int n) = tt
or_placed r q h i at (str s) = tt
or_placed r q h i at (bytes b) = tt
or_placed r q h i at (seq ts) = tt

parts_placed : (r q : Reader) (rest : ℕ → Trees → Literal Val) → IsPlaced r → IsPlaced q → ArePlaced rest → (whole : ℕ) → ArePlaced (read_parts r q rest whole)
parts_placed r q rest h i j whole at none = tt
parts_placed r q rest h i j whole at (more t none) = tt
parts_placed r q rest h i j whole at (more t (more u none)) =
    stand_then at (preorders (more t (more u none))) (r at t) (λ x. mapped (v.both x) (q (at + size t) u))
    (first at t (more u none) (r at t) (h at t))
    (λ x. stand_mapped (v.both x) at (preorders (more t (more u none))) (q (at + size t) u)
    (behind at t (more u none) (q (at + size t) u) (first (at + size t) u none (q (at + size t) u) (i (at + size t) u))))
parts_placed r q rest h i j whole at (more t (more u (more w ts))) =
    let us : Trees = more u (more w ts) in
    stand_then at (preorders (more t us)) (r at t) (λ x. mapped (v.both x) (rest (at + size t) us))
    (first at t us (r at t) (h at t))
    (λ x. stand_mapped (v.both x) at (preorders (more t us)) (rest (at + size t) us)
    (behind at t us (rest (at + size t) us) (j (at + size t) us)))

-- the parts of a pair stand below it
below_pair : (read_at : ℕ → Trees → Literal Val) (at : ℕ) → ((l : ℕ) → Stands l [] (read_at l none)) → ArePlaced read_at → (t : Tree) → Stands at (preorder t) (read_at (at + 1) (parts_of t))
below_pair f at n h (prim name annots args) = by (word_of_name name)
  where
    by : (w : Word) → Stands at (preorder (prim name annots args)) (f (at + 1) (pair_named w args))
    by pair_word = under at (prim name annots args) (preorders args) (f (at + 1) args) (h (at + 1) args)
    by _ = under at (prim name annots args) (preorders args) (f (at + 1) none) (stand_left (at + 1) [] (preorders args) (f (at + 1) none) (n (at + 1)))
below_pair f at n h (seq ts) = under at (seq ts) (preorders ts) (f (at + 1) ts) (h (at + 1) ts)
below_pair f at n h (int m) = under at (int m) [] (f (at + 1) none) (n (at + 1))
below_pair f at n h (str s) = under at (str s) [] (f (at + 1) none) (n (at + 1))
below_pair f at n h (bytes b) = under at (bytes b) [] (f (at + 1) none) (n (at + 1))

pair_placed : (r q : Reader) (rest : ℕ → ℕ → Trees → Literal Val) → IsPlaced r → IsPlaced q → ((whole : ℕ) → ArePlaced (rest whole)) →
    (at : ℕ) (t : Tree) → Stands at (preorder t) (read_parts r q (rest at) at (at + 1) (parts_of t))
pair_placed r q rest h i j at t = below_pair (read_parts r q (rest at) at) at (λ l. tt) (parts_placed r q (rest at) h i (j at) at) t

elements_placed : (r : Reader) → IsPlaced r → (at : ℕ) (ts : Trees) → Stands at (preorders ts) (read_elements r at ts)
elements_placed r h at none = tt
elements_placed r h at (more t ts) =
    stand_then at (preorders (more t ts)) (r at t) (λ x. mapped (more_vals x) (read_elements r (at + size t) ts))
    (first at t ts (r at t) (h at t))
    (λ x. stand_mapped (more_vals x) at (preorders (more t ts)) (read_elements r (at + size t) ts)
    (behind at t ts (read_elements r (at + size t) ts) (elements_placed r h (at + size t) ts)))

list_placed : (r : Reader) → IsPlaced r → IsPlaced (read_list r)
list_placed r h at (seq ts) = under at (seq ts) (preorders ts) (mapped v.list (read_elements r (at + 1) ts))
    (stand_mapped v.list (at + 1) (preorders ts) (read_elements r (at + 1) ts) (elements_placed r h (at + 1) ts))
list_placed r h at (int n) = tt
list_placed r h at (str s) = tt
list_placed r h at (bytes b) = tt
list_placed r h at (prim name annots ts) = tt

increasing_placed : (r : Reader) → IsPlaced r → (before : Option Val) (at : ℕ) (ts : Trees) → Stands at (preorders ts) (read_increasing r before at ts)
increasing_placed r h before at none = tt
increasing_placed r h before at (more t ts) =
    stand_then at (preorders (more t ts)) (r at t) (λ x. cond (is_behind before x) (mapped (more_vals x) (read_increasing r (Some x) (at + size t) ts)) (bad at))
    (first at t ts (r at t) (h at t))
    (λ x. stand_if (is_behind before x) at at (preorders (more t ts)) (mapped (more_vals x) (read_increasing r (Some x) (at + size t) ts))
    (stand_mapped (more_vals x) at (preorders (more t ts)) (read_increasing r (Some x) (at + size t) ts)
    (behind at t ts (read_increasing r (Some x) (at + size t) ts) (increasing_placed r h (Some x) (at + size t) ts))))

set_placed : (r : Reader) → IsPlaced r → IsPlaced (read_set r)
set_placed r h at (seq ts) = under at (seq ts) (preorders ts) (mapped v.set (read_increasing r None (at + 1) ts))
    (stand_mapped v.set (at + 1) (preorders ts) (read_increasing r None (at + 1) ts) (increasing_placed r h None (at + 1) ts))
set_placed r h at (int n) = tt
set_placed r h at (str s) = tt
set_placed r h at (bytes b) = tt
set_placed r h at (prim name annots ts) = tt

entry_placed : (r q : Reader) → IsPlaced r → IsPlaced q → (before : Option Val) (at : ℕ) (t : Tree) → Stands at (preorder t) (read_entry r q before at t)
entry_placed r q h i before at (prim name annots args) = by (word_of_name name) args
  where
    by : (w : Word) (args : Trees) → Stands at (prim name annots args ∷ preorders args) (entry_named w r q before at args)
    by entry_word (more t (more u none)) =
        under at (prim name annots (more t (more u none))) (preorders (more t (more u none))) (read_binding r q before at t u)
        (stand_then (at + 1) (preorders (more t (more u none))) (r (at + 1) t)
        (λ x. cond (is_behind before x) (mapped (λ y. record { key = x; value = y }) (q (at + 1 + size t) u)) (bad at))
        (first (at + 1) t (more u none) (r (at + 1) t) (h (at + 1) t))
        (λ x. stand_if (is_behind before x) (at + 1) at (preorders (more t (more u none))) (mapped (λ y. record { key = x; value = y }) (q (at + 1 + size t) u))
        (stand_mapped (λ y. record { key = x; value = y }) (at + 1) (preorders (more t (more u none))) (q (at + 1 + size t) u)
        (behind (at + 1) t (more u none) (q (at + 1 + size t) u) (first (at + 1 + size t) u none (q (at + 1 + size t) u) (i (at + 1 + size t) u))))))
    by _ _ = tt
entry_placed r q h i before at (int n) = tt
entry_placed r q h i before at (str s) = tt
entry_placed r q h i before at (bytes b) = tt
entry_placed r q h i before at (seq ts) = tt

entries_placed : (r q : Reader) → IsPlaced r → IsPlaced q → (before : Option Val) (at : ℕ) (ts : Trees) → Stands at (preorders ts) (read_entries r q before at ts)
entries_placed r q h i before at none = tt
entries_placed r q h i before at (more t ts) =
    stand_then at (preorders (more t ts)) (read_entry r q before at t) (λ e. mapped (more_pairs e.key e.value) (read_entries r q (Some e.key) (at + size t) ts))
    (first at t ts (read_entry r q before at t) (entry_placed r q h i before at t))
    (λ e. stand_mapped (more_pairs e.key e.value) at (preorders (more t ts)) (read_entries r q (Some e.key) (at + size t) ts)
    (behind at t ts (read_entries r q (Some e.key) (at + size t) ts) (entries_placed r q h i (Some e.key) (at + size t) ts)))

table_placed : (made : Pairs → Val) (r q : Reader) → IsPlaced r → IsPlaced q → IsPlaced (read_table made r q)
table_placed made r q h i at (seq ts) = under at (seq ts) (preorders ts) (mapped made (read_entries r q None (at + 1) ts))
    (stand_mapped made (at + 1) (preorders ts) (read_entries r q None (at + 1) ts) (entries_placed r q h i None (at + 1) ts))
table_placed made r q h i at (int n) = tt
table_placed made r q h i at (str s) = tt
table_placed made r q h i at (bytes b) = tt
table_placed made r q h i at (prim name annots ts) = tt

body_placed : (a b : Kind) (recursive : Bool) → IsPlaced (read_body a b recursive)
body_placed a b recursive at (seq ts) = ((zero, omega arith, refl), tt)
body_placed a b recursive at (int n) = tt
body_placed a b recursive at (str s) = tt
body_placed a b recursive at (bytes x) = tt
body_placed a b recursive at (prim name annots ts) = tt

lambda_placed : (a b : Kind) → IsPlaced (read_lambda a b)
lambda_placed a b at (prim name annots args) = by (word_of_name name) args
  where
    by : (w : Word) (args : Trees) → Stands at (prim name annots args ∷ preorders args) (recursive_named w a b at args)
    by recursive_word (more t none) = under at (prim name annots (more t none)) (preorders (more t none)) (read_body a b true (at + 1) t)
        (first (at + 1) t none (read_body a b true (at + 1) t) (body_placed a b true (at + 1) t))
    by _ _ = tt
lambda_placed a b at (int n) = tt
lambda_placed a b at (str s) = tt
lambda_placed a b at (bytes x) = tt
lambda_placed a b at (seq ts) = body_placed a b false at (seq ts)

contract_placed : (a : Kind) → IsPlaced (read_contract a)
contract_placed a at (bytes b) = by (is_address b)
  where
    by : (is_one : Bool) → Stands at (bytes b ∷ []) (cond is_one (good (v.bytes b) (claim at b a ∷ [])) (bad at))
    by true = (tt, tt)
    by false = tt
contract_placed a at (int n) = tt
contract_placed a at (str s) = tt
contract_placed a at (prim name annots ts) = tt
contract_placed a at (seq ts) = tt

mutual
  pub placed : (a : Kind) (at : ℕ) (t : Tree) → Stands at (preorder t) (read a at t)
  placed (k.simple s) at t = simple_placed s at t
  placed k.operation at t = tt
  placed (k.option a) at t = option_placed (read a) (placed a) at t
  placed (k.or a b) at t = or_placed (read a) (read b) (placed a) (placed b) at t
  placed (k.pair a b) at t = pair_placed (read a) (read b) (read_rest b) (placed a) (placed b) (rest_placed b) at t
  placed (k.list a) at t = list_placed (read a) (placed a) at t
  placed (k.set a) at t = set_placed (read a) (placed a) at t
  placed (k.map a b) at t = table_placed v.table (read a) (read b) (placed a) (placed b) at t
  placed (k.big_map a b) at t = table_placed v.big_table (read a) (read b) (placed a) (placed b) at t
  placed (k.lambda a b) at t = lambda_placed a b at t
  placed (k.contract a) at t = contract_placed a at t
  placed (k.ticket a) at t = tt

  pub rest_placed : (a : Kind) (whole at : ℕ) (ts : Trees) → Stands at (preorders ts) (read_rest a whole at ts)
  rest_placed (k.pair a b) whole at ts = parts_placed (read a) (read b) (read_rest b whole) (placed a) (placed b) (rest_placed b whole) whole at ts
  rest_placed _ whole at ts = tt

pub of_same : (e : Literal Val) (at : ℕ) (ns : List Tree) (x : Val) (ps : List Pending) → e ≡ good x ps → Stands at ns e → AllStandIn at ns ps
of_same e at ns x ps same h = subst (Stands at ns) same h

pub bodies_stand : BodiesStand
bodies_stand a at t x ps same = of_same (read a at t) at (preorder t) x ps same (placed a at t)
