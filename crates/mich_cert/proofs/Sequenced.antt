-- The bodies in a literal are sequences.
use Rattle.std.proofs.Common.{◌≡◌, ℕ, ◌+◌, Bool, true, false, cond, Option, Some, None, List, [], ◌∷◌, ◌++◌, subst}
use Rattle.rules_text.specs.nodes.Tree.{Tree, int, str, bytes, prim, seq, Trees, none, more, size}
use Rattle.rules_data.specs.declared.types.Simple.{Simple}
use Rattle.rules_data.specs.forms.Spelling.{is_address}
use Rattle.rules_data.specs.types.Kind.{Kind}
use Rattle.rules_data.specs.types.Kind as k
use Rattle.rules_data.specs.values.Val.{Val, more_vals, Pairs, more_pairs}
use Rattle.rules_data.specs.values.Val as v
use Rattle.rules_data.specs.values.Literals.{Word, none_word, some_word, left_word, right_word, entry_word, recursive_word, word_of_name, Pending, body, claim, Literal, good, bad, with_pending, and_then, mapped, Reader, on_value, simple_value, read_simple, option_named, read_option, or_named, read_or, read_parts, parts_of, read_elements, read_list, is_behind, read_increasing, read_set, entry_named, read_entry, read_entries, read_table, read_body, recursive_named, read_lambda, read_contract, read, read_rest}

abbrev pub IsSequence : Tree → Type 0
IsSequence (seq ts) = Unit {0}
IsSequence t = ⊥

abbrev pub AreSequences : List Pending → Type 0
AreSequences [] = Unit {0}
AreSequences (body l a r recursive t ∷ ps) = IsSequence t × AreSequences ps
AreSequences (claim l b a ∷ ps) = AreSequences ps

both : (ps qs : List Pending) → AreSequences ps → AreSequences qs → AreSequences (ps ++ qs)
both [] qs h g = g
both (body l a r recursive t ∷ ps) qs h g = (h.0, both ps qs h.1 g)
both (claim l b a ∷ ps) qs h g = both ps qs h g

-- of what is read all bodies are
abbrev Holds : {A : Type 0} → Literal A → Type 0
Holds (good x ps) = AreSequences ps
Holds (bad l) = Unit {0}

hold_mapped : {A B : Type 0} (f : A → B) (e : Literal A) → Holds e → Holds (mapped f e)
hold_mapped f (good x ps) h = h
hold_mapped f (bad l) h = tt

hold_with : {A : Type 0} (ps : List Pending) (e : Literal A) → AreSequences ps → Holds e → Holds (with_pending ps e)
hold_with ps (good x qs) h g = both ps qs h g
hold_with ps (bad l) h g = tt

hold_then : {A B : Type 0} (e : Literal A) (next : A → Literal B) → Holds e → ((x : A) → Holds (next x)) → Holds (and_then e next)
hold_then (good x ps) next h g = hold_with ps (next x) h (g x)
hold_then (bad l) next h g = tt

hold_if : {A : Type 0} (b : Bool) (l : ℕ) (e : Literal A) → Holds e → Holds (cond b e (bad l))
hold_if true l e h = h
hold_if false l e h = tt

-- a reader of nodes, and one of arguments or elements
abbrev Reads : Reader → Type 0
Reads r = (at : ℕ) (t : Tree) → Holds (r at t)

abbrev ReadsAll : (ℕ → Trees → Literal Val) → Type 0
ReadsAll rest = (at : ℕ) (ts : Trees) → Holds (rest at ts)

simple_holds : (s : Simple) → Reads (read_simple s)
simple_holds s at t = by (simple_value s t)
  where
    by : (o : Option Val) → Holds (on_value at o)
    by (Some x) = tt
    by None = tt

option_holds : (r : Reader) → Reads r → Reads (read_option r)
option_holds r h at (prim name annots args) = by (word_of_name name) args
  where
    by : (w : Word) (args : Trees) → Holds (option_named w r at args)
    by none_word none = tt
    by some_word (more t none) = hold_mapped v.some (r (at + 1) t) (h (at + 1) t)
    by _ _ = tt
option_holds r h at (int n) = tt
option_holds r h at (str s) = tt
option_holds r h at (bytes b) = tt
option_holds r h at (seq ts) = tt

or_holds : (r q : Reader) → Reads r → Reads q → Reads (read_or r q)
or_holds r q h g at (prim name annots args) = by (word_of_name name) args
  where
    by : (w : Word) (args : Trees) → Holds (or_named w r q at args)
    by left_word (more t none) = hold_mapped v.left (r (at + 1) t) (h (at + 1) t)
    by right_word (more t none) = hold_mapped v.right (q (at + 1) t) (g (at + 1) t)
    by _ _ = tt
or_holds r q h g at (int n) = tt
or_holds r q h g at (str s) = tt
or_holds r q h g at (bytes b) = tt
or_holds r q h g at (seq ts) = tt

parts_hold : (r q : Reader) (rest : ℕ → Trees → Literal Val) → Reads r → Reads q → ReadsAll rest → (whole : ℕ) → ReadsAll (read_parts r q rest whole)
parts_hold r q rest h g i whole at none = tt
parts_hold r q rest h g i whole at (more t none) = tt
parts_hold r q rest h g i whole at (more t (more u none)) =
    hold_then (r at t) (λ x. mapped (v.both x) (q (at + size t) u)) (h at t) (λ x. hold_mapped (v.both x) (q (at + size t) u) (g (at + size t) u))
parts_hold r q rest h g i whole at (more t (more u (more w ts))) =
    hold_then (r at t) (λ x. mapped (v.both x) (rest (at + size t) (more u (more w ts)))) (h at t)
    (λ x. hold_mapped (v.both x) (rest (at + size t) (more u (more w ts))) (i (at + size t) (more u (more w ts))))

elements_hold : (r : Reader) → Reads r → (at : ℕ) (ts : Trees) → Holds (read_elements r at ts)
elements_hold r h at none = tt
elements_hold r h at (more t ts) =
    hold_then (r at t) (λ x. mapped (more_vals x) (read_elements r (at + size t) ts)) (h at t)
    (λ x. hold_mapped (more_vals x) (read_elements r (at + size t) ts) (elements_hold r h (at + size t) ts))

list_holds : (r : Reader) → Reads r → Reads (read_list r)
list_holds r h at (seq ts) = hold_mapped v.list (read_elements r (at + 1) ts) (elements_hold r h (at + 1) ts)
list_holds r h at (int n) = tt
list_holds r h at (str s) = tt
list_holds r h at (bytes b) = tt
list_holds r h at (prim name annots ts) = tt

increasing_holds : (r : Reader) → Reads r → (before : Option Val) (at : ℕ) (ts : Trees) → Holds (read_increasing r before at ts)
increasing_holds r h before at none = tt
increasing_holds r h before at (more t ts) =
    hold_then (r at t) (λ x. cond (is_behind before x) (mapped (more_vals x) (read_increasing r (Some x) (at + size t) ts)) (bad at)) (h at t)
    (λ x. hold_if (is_behind before x) at (mapped (more_vals x) (read_increasing r (Some x) (at + size t) ts))
    (hold_mapped (more_vals x) (read_increasing r (Some x) (at + size t) ts) (increasing_holds r h (Some x) (at + size t) ts)))

set_holds : (r : Reader) → Reads r → Reads (read_set r)
set_holds r h at (seq ts) = hold_mapped v.set (read_increasing r None (at + 1) ts) (increasing_holds r h None (at + 1) ts)
set_holds r h at (int n) = tt
set_holds r h at (str s) = tt
set_holds r h at (bytes b) = tt
set_holds r h at (prim name annots ts) = tt

entry_holds : (r q : Reader) → Reads r → Reads q → (before : Option Val) (at : ℕ) (t : Tree) → Holds (read_entry r q before at t)
entry_holds r q h g before at (prim name annots args) = by (word_of_name name) args
  where
    by : (w : Word) (args : Trees) → Holds (entry_named w r q before at args)
    by entry_word (more t (more u none)) =
        hold_then (r (at + 1) t) (λ x. cond (is_behind before x) (mapped (λ y. record { key = x; value = y }) (q (at + 1 + size t) u)) (bad at)) (h (at + 1) t)
        (λ x. hold_if (is_behind before x) at (mapped (λ y. record { key = x; value = y }) (q (at + 1 + size t) u))
        (hold_mapped (λ y. record { key = x; value = y }) (q (at + 1 + size t) u) (g (at + 1 + size t) u)))
    by _ _ = tt
entry_holds r q h g before at (int n) = tt
entry_holds r q h g before at (str s) = tt
entry_holds r q h g before at (bytes b) = tt
entry_holds r q h g before at (seq ts) = tt

entries_hold : (r q : Reader) → Reads r → Reads q → (before : Option Val) (at : ℕ) (ts : Trees) → Holds (read_entries r q before at ts)
entries_hold r q h g before at none = tt
entries_hold r q h g before at (more t ts) =
    hold_then (read_entry r q before at t) (λ e. mapped (more_pairs e.key e.value) (read_entries r q (Some e.key) (at + size t) ts)) (entry_holds r q h g before at t)
    (λ e. hold_mapped (more_pairs e.key e.value) (read_entries r q (Some e.key) (at + size t) ts) (entries_hold r q h g (Some e.key) (at + size t) ts))

table_holds : (made : Pairs → Val) (r q : Reader) → Reads r → Reads q → Reads (read_table made r q)
table_holds made r q h g at (seq ts) = hold_mapped made (read_entries r q None (at + 1) ts) (entries_hold r q h g None (at + 1) ts)
table_holds made r q h g at (int n) = tt
table_holds made r q h g at (str s) = tt
table_holds made r q h g at (bytes b) = tt
table_holds made r q h g at (prim name annots ts) = tt

body_holds : (a b : Kind) (recursive : Bool) → Reads (read_body a b recursive)
body_holds a b recursive at (seq ts) = (tt, tt)
body_holds a b recursive at (int n) = tt
body_holds a b recursive at (str s) = tt
body_holds a b recursive at (bytes x) = tt
body_holds a b recursive at (prim name annots ts) = tt

lambda_holds : (a b : Kind) → Reads (read_lambda a b)
lambda_holds a b at (prim name annots args) = by (word_of_name name) args
  where
    by : (w : Word) (args : Trees) → Holds (recursive_named w a b at args)
    by recursive_word (more t none) = body_holds a b true (at + 1) t
    by _ _ = tt
lambda_holds a b at (int n) = tt
lambda_holds a b at (str s) = tt
lambda_holds a b at (bytes x) = tt
lambda_holds a b at (seq ts) = (tt, tt)

contract_holds : (a : Kind) → Reads (read_contract a)
contract_holds a at (bytes b) = by (is_address b)
  where
    by : (q : Bool) → Holds (cond q (good (v.bytes b) (claim at b a ∷ [])) (bad at))
    by true = tt
    by false = tt
contract_holds a at (int n) = tt
contract_holds a at (str s) = tt
contract_holds a at (prim name annots ts) = tt
contract_holds a at (seq ts) = tt

mutual
  holds : (a : Kind) (at : ℕ) (t : Tree) → Holds (read a at t)
  holds (k.simple s) at t = simple_holds s at t
  holds k.operation at t = tt
  holds (k.option a) at t = option_holds (read a) (holds a) at t
  holds (k.or a b) at t = or_holds (read a) (read b) (holds a) (holds b) at t
  holds (k.pair a b) at t = parts_hold (read a) (read b) (read_rest b at) (holds a) (holds b) (rest_holds b at) at (at + 1) (parts_of t)
  holds (k.list a) at t = list_holds (read a) (holds a) at t
  holds (k.set a) at t = set_holds (read a) (holds a) at t
  holds (k.map a b) at t = table_holds v.table (read a) (read b) (holds a) (holds b) at t
  holds (k.big_map a b) at t = table_holds v.big_table (read a) (read b) (holds a) (holds b) at t
  holds (k.lambda a b) at t = lambda_holds a b at t
  holds (k.contract a) at t = contract_holds a at t
  holds (k.ticket a) at t = tt

  rest_holds : (a : Kind) (whole at : ℕ) (ts : Trees) → Holds (read_rest a whole at ts)
  rest_holds (k.pair a b) whole at ts = parts_hold (read a) (read b) (read_rest b whole) (holds a) (holds b) (rest_holds b whole) whole at ts
  rest_holds _ whole at ts = tt

pub are_sequences : (a : Kind) (at : ℕ) (t : Tree) (x : Val) (ps : List Pending) → read a at t ≡ good x ps → AreSequences ps
are_sequences a at t x ps e = subst Holds e (holds a at t)
