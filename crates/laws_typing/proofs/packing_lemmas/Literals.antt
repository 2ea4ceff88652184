-- Each name in a node that is read as a value is a primitive's, where the bodies of its lambdas have such names.
use Rattle.std.proofs.Common.{◌≡◌, ℕ, ◌+◌, Bool, true, false, cond, Option, Some, None, List, [], ◌∷◌, ◌++◌, refl, subst}
use Rattle.rules_text.specs.nodes.Tree.{Tree, int, str, bytes, prim, seq, Trees, none, more, size}
use Rattle.rules_data.specs.declared.types.Simple.{Simple}
use Rattle.rules_data.specs.declared.types.Simple.TheVariants as s
use Rattle.rules_data.specs.types.Kind.{Kind}
use Rattle.rules_data.specs.types.Kind as k
use Rattle.rules_data.specs.values.Val.{Val, more_vals, Pairs, more_pairs}
use Rattle.rules_data.specs.values.Val as v
use Rattle.rules_data.specs.forms.Spelling.{is_address}
use Rattle.rules_data.specs.values.Literals.{Word, none_word, some_word, left_word, right_word, pair_word, entry_word, recursive_word, other_word, word_of_name, Pending, body, claim, Literal, good, bad, with_pending, and_then, mapped, Reader, on_value, bare_value, unit_of_word, truth_of_word, number_value, text_value, bytes_value, read_simple, option_named, read_option, or_named, read_or, read_parts, pair_named, parts_of, read_elements, read_list, is_behind, read_increasing, read_set, read_binding, entry_named, read_entry, read_entries, read_table, read_body, recursive_named, read_lambda, read_contract, read, read_rest}
use Rattle.laws_typing.specs.packing.Names.{HasCodes, HaveCodes}
use Rattle.laws_typing.proofs.packing_lemmas.Known.{of_word}

-- the bodies have such names
abbrev pub AllCoded : List Pending → Type 0
AllCoded [] = Unit {0}
AllCoded (body l a r recursive t ∷ ps) = HasCodes t × AllCoded ps
AllCoded (claim l b a ∷ ps) = AllCoded ps

halves : (ps qs : List Pending) → AllCoded (ps ++ qs) → AllCoded ps × AllCoded qs
halves [] qs h = (tt, h)
halves (body l a r recursive t ∷ ps) qs h = let g = halves ps qs h.1 in ((h.0, g.0), g.1)
halves (claim l b a ∷ ps) qs h = halves ps qs h

-- where it is read, and the bodies have such names, this holds
abbrev Tells : {A : Type 0} → Type 0 → Literal A → Type 0
Tells P (good x ps) = AllCoded ps → P
Tells P (bad l) = Unit {0}

tells_mapped : {A B : Type 0} (P : Type 0) (f : A → B) (e : Literal A) → Tells P e → Tells P (mapped f e)
tells_mapped P f (good x ps) h = h
tells_mapped P f (bad l) h = tt

tells_with : {A : Type 0} (P Q : Type 0) (ps : List Pending) (e : Literal A) → (AllCoded ps → P) → Tells Q e → Tells (P × Q) (with_pending ps e)
tells_with P Q ps (good x qs) h i = λ all. let g = halves ps qs all in (h g.0, i g.1)
tells_with P Q ps (bad l) h i = tt

tells_then : {A B : Type 0} (P Q : Type 0) (e : Literal A) (next : A → Literal B) → Tells P e → ((x : A) → Tells Q (next x)) → Tells (P × Q) (and_then e next)
tells_then P Q (good x ps) next h i = tells_with P Q ps (next x) h (i x)
tells_then P Q (bad l) next h i = tt

tells_if : {A : Type 0} (P : Type 0) (b : Bool) (l : ℕ) (e : Literal A) → Tells P e → Tells P (cond b e (bad l))
tells_if P true l e h = h
tells_if P false l e h = tt

tells_from : {A : Type 0} (P Q : Type 0) (e : Literal A) → (P → Q) → Tells P e → Tells Q e
tells_from P Q (good x ps) f h = λ all. f (h all)
tells_from P Q (bad l) f h = tt

abbrev IsTold : Reader → Type 0
IsTold r = (at : ℕ) (t : Tree) → Tells (HasCodes t) (r at t)

abbrev AreTold : (ℕ → Trees → Literal Val) → Type 0
AreTold rest = (at : ℕ) (ts : Trees) → Tells (HaveCodes ts) (rest at ts)

-- ---- the readers

bare_told : (of_word_value : Word → Option Val) → (of_word_value other_word ≡ None) → (at : ℕ) (t : Tree) → Tells (HasCodes t) (on_value at (bare_value of_word_value t))
bare_told f other at (prim name annots none) = by (word_of_name name) refl (f (word_of_name name)) refl
  where
    by : (w : Word) → word_of_name name ≡ w → (o : Option Val) → f (word_of_name name) ≡ o → Tells (HasCodes (prim name annots none)) (on_value at o)
    by w e None h = tt
    by w e (Some x) h = λ all. (of_word name w e (λ same. absurd (differs (subst (λ u. f u ≡ Some x) same (subst (λ u. f u ≡ Some x) e h)))), tt)
      where
        differs : f other_word ≡ Some x → ⊥
        differs g = cc
bare_told f other at (prim name annots (more t ts)) = tt
bare_told f other at (int n) = tt
bare_told f other at (str b) = tt
bare_told f other at (bytes b) = tt
bare_told f other at (seq ts) = tt

-- a leaf has no name
number_told : (test : Rattle.std.specs.Prelude.ℤ → Bool) (at : ℕ) (t : Tree) → Tells (HasCodes t) (on_value at (number_value test t))
number_told test at (int n) = by (test n)
  where
    by : (b : Bool) → Tells (Unit {0}) (on_value at (cond b (Some (v.number n)) None))
    by true = λ all. tt
    by false = tt
number_told test at (str b) = tt
number_told test at (bytes b) = tt
number_told test at (prim name annots ts) = tt
number_told test at (seq ts) = tt

text_told : (test : List ℕ → Bool) (at : ℕ) (t : Tree) → Tells (HasCodes t) (on_value at (text_value test t))
text_told test at (str b) = by (test b)
  where
    by : (c : Bool) → Tells (Unit {0}) (on_value at (cond c (Some (v.text b)) None))
    by true = λ all. tt
    by false = tt
text_told test at (int n) = tt
text_told test at (bytes b) = tt
text_told test at (prim name annots ts) = tt
text_told test at (seq ts) = tt

bytes_told : (test : List ℕ → Bool) (at : ℕ) (t : Tree) → Tells (HasCodes t) (on_value at (bytes_value test t))
bytes_told test at (bytes b) = by (test b)
  where
    by : (c : Bool) → Tells (Unit {0}) (on_value at (cond c (Some (v.bytes b)) None))
    by true = λ all. tt
    by false = tt
bytes_told test at (int n) = tt
bytes_told test at (str b) = tt
bytes_told test at (prim name annots ts) = tt
bytes_told test at (seq ts) = tt

simple_told : (u : Simple) → IsTold (read_simple u)
simple_told s.Unit at t = bare_told unit_of_word refl at t
simple_told s.Never at t = tt
simple_told s.Bool at t = bare_told truth_of_word refl at t
simple_told s.Int at t = number_told _ at t
simple_told s.Nat at t = number_told _ at t
simple_told s.Mutez at t = number_told _ at t
simple_told s.Timestamp at t = number_told _ at t
simple_told s.String at t = text_told _ at t
simple_told s.Bytes at t = bytes_told _ at t
simple_told s.Key at t = bytes_told _ at t
simple_told s.KeyHash at t = bytes_told _ at t
simple_told s.Signature at t = bytes_told _ at t
simple_told s.ChainId at t = bytes_told _ at t
simple_told s.Address at t = bytes_told _ at t

module _ (name : List ℕ) (annots : List (List ℕ)) where
  option_told : (r : Reader) → IsTold r → (at : ℕ) (w : Word) (args : Trees) → word_of_name name ≡ w → Tells (HasCodes (prim name annots args)) (option_named w r at args)
  option_told r h at none_word none e = λ all. (of_word name none_word e (λ f. cc), tt)
  option_told r h at some_word (more t none) e =
      tells_from (HasCodes t) (HasCodes (prim name annots (more t none))) (mapped v.some (r (at + 1) t)) (λ c. (of_word name some_word e (λ f. cc), (c, tt)))
      (tells_mapped (HasCodes t) v.some (r (at + 1) t) (h (at + 1) t))
  option_told r h at _ _ e = tt

  or_told : (r q : Reader) → IsTold r → IsTold q → (at : ℕ) (w : Word) (args : Trees) → word_of_name name ≡ w → Tells (HasCodes (prim name annots args)) (or_named w r q at args)
  or_told r q h i at left_word (more t none) e =
      tells_from (HasCodes t) (HasCodes (prim name annots (more t none))) (mapped v.left (r (at + 1) t)) (λ c. (of_word name left_word e (λ f. cc), (c, tt)))
      (tells_mapped (HasCodes t) v.left (r (at + 1) t) (h (at + 1) t))
  or_told r q h i at right_word (more t none) e =
      tells_from (HasCodes t) (HasCodes (prim name annots (more t none))) (mapped v.right (q (at + 1) t)) (λ c. (of_word name right_word e (λ f. cc), (c, tt)))
      (tells_mapped (HasCodes t) v.right (q (at + 1) t) (i (at + 1) t))
  or_told r q h i at _ _ e = tt

read_option_told : (r : Reader) → IsTold r → IsTold (read_option r)
read_option_told r h at (prim name annots args) = option_told name annots r h at (word_of_name name) args refl
read_option_told r h at (int n) = tt
read_option_told r h at (str b) = tt
read_option_told r h at (bytes b) = tt
read_option_told r h at (seq ts) = tt

read_or_told : (r q : Reader) → IsTold r → IsTold q → IsTold (read_or r q)
read_or_told r q h i at (prim name annots args) = or_told name annots r q h i at (word_of_name name) args refl
read_or_told r q h i at (int n) = tt
read_or_told r q h i at (str b) = tt
read_or_told r q h i at (bytes b) = tt
read_or_told r q h i at (seq ts) = tt

parts_told : (r q : Reader) (rest : ℕ → Trees → Literal Val) → IsTold r → IsTold q → AreTold rest → (whole : ℕ) → AreTold (read_parts r q rest whole)
parts_told r q rest h i j whole at none = tt
parts_told r q rest h i j whole at (more t none) = tt
parts_told r q rest h i j whole at (more t (more u none)) =
    tells_from (HasCodes t × HasCodes u) (HaveCodes (more t (more u none))) (and_then (r at t) (λ x. mapped (v.both x) (q (at + size t) u))) (λ c. (c.0, (c.1, tt)))
    (tells_then (HasCodes t) (HasCodes u) (r at t) (λ x. mapped (v.both x) (q (at + size t) u)) (h at t)
    (λ x. tells_mapped (HasCodes u) (v.both x) (q (at + size t) u) (i (at + size t) u)))
parts_told r q rest h i j whole at (more t (more u (more w ts))) =
    let us : Trees = more u (more w ts) in
    tells_then (HasCodes t) (HaveCodes us) (r at t) (λ x. mapped (v.both x) (rest (at + size t) us)) (h at t)
    (λ x. tells_mapped (HaveCodes us) (v.both x) (rest (at + size t) us) (j (at + size t) us))

pair_told : (r q : Reader) (rest : ℕ → ℕ → Trees → Literal Val) → IsTold r → IsTold q → ((whole : ℕ) → AreTold (rest whole)) →
    (at : ℕ) (t : Tree) → Tells (HasCodes t) (read_parts r q (rest at) at (at + 1) (parts_of t))
pair_told r q rest h i j at (prim name annots args) = by (word_of_name name) refl
  where
    by : (w : Word) → word_of_name name ≡ w → Tells (HasCodes (prim name annots args)) (read_parts r q (rest at) at (at + 1) (pair_named w args))
    by pair_word e =
        tells_from (HaveCodes args) (HasCodes (prim name annots args)) (read_parts r q (rest at) at (at + 1) args) (λ c. (of_word name pair_word e (λ f. cc), c))
        (parts_told r q (rest at) h i (j at) at (at + 1) args)
    by _ e = tt
pair_told r q rest h i j at (seq ts) = parts_told r q (rest at) h i (j at) at (at + 1) ts
pair_told r q rest h i j at (int n) = tt
pair_told r q rest h i j at (str b) = tt
pair_told r q rest h i j at (bytes b) = tt

elements_told : (r : Reader) → IsTold r → (at : ℕ) (ts : Trees) → Tells (HaveCodes ts) (read_elements r at ts)
elements_told r h at none = λ all. tt
elements_told r h at (more t ts) =
    tells_then (HasCodes t) (HaveCodes ts) (r at t) (λ x. mapped (more_vals x) (read_elements r (at + size t) ts)) (h at t)
    (λ x. tells_mapped (HaveCodes ts) (more_vals x) (read_elements r (at + size t) ts) (elements_told r h (at + size t) ts))

list_told : (r : Reader) → IsTold r → IsTold (read_list r)
list_told r h at (seq ts) = tells_mapped (HaveCodes ts) v.list (read_elements r (at + 1) ts) (elements_told r h (at + 1) ts)
list_told r h at (int n) = tt
list_told r h at (str b) = tt
list_told r h at (bytes b) = tt
list_told r h at (prim name annots ts) = tt

increasing_told : (r : Reader) → IsTold r → (before : Option Val) (at : ℕ) (ts : Trees) → Tells (HaveCodes ts) (read_increasing r before at ts)
increasing_told r h before at none = λ all. tt
increasing_told r h before at (more t ts) =
    tells_then (HasCodes t) (HaveCodes ts) (r at t) (λ x. cond (is_behind before x) (mapped (more_vals x) (read_increasing r (Some x) (at + size t) ts)) (bad at)) (h at t)
    (λ x. tells_if (HaveCodes ts) (is_behind before x) at (mapped (more_vals x) (read_increasing r (Some x) (at + size t) ts))
    (tells_mapped (HaveCodes ts) (more_vals x) (read_increasing r (Some x) (at + size t) ts) (increasing_told r h (Some x) (at + size t) ts)))

set_told : (r : Reader) → IsTold r → IsTold (read_set r)
set_told r h at (seq ts) = tells_mapped (HaveCodes ts) v.set (read_increasing r None (at + 1) ts) (increasing_told r h None (at + 1) ts)
set_told r h at (int n) = tt
set_told r h at (str b) = tt
set_told r h at (bytes b) = tt
set_told r h at (prim name annots ts) = tt

entry_told : (r q : Reader) → IsTold r → IsTold q → (before : Option Val) (at : ℕ) (t : Tree) → Tells (HasCodes t) (read_entry r q before at t)
entry_told r q h i before at (prim name annots args) = by (word_of_name name) args refl
  where
    by : (w : Word) (args : Trees) → word_of_name name ≡ w → Tells (HasCodes (prim name annots args)) (entry_named w r q before at args)
    by entry_word (more t (more u none)) e =
        tells_from (HasCodes t × HasCodes u) (HasCodes (prim name annots (more t (more u none)))) (read_binding r q before at t u) (λ c. (of_word name entry_word e (λ f. cc), (c.0, (c.1, tt))))
        (tells_then (HasCodes t) (HasCodes u) (r (at + 1) t)
        (λ x. cond (is_behind before x) (mapped (λ y. record { key = x; value = y }) (q (at + 1 + size t) u)) (bad at)) (h (at + 1) t)
        (λ x. tells_if (HasCodes u) (is_behind before x) at (mapped (λ y. record { key = x; value = y }) (q (at + 1 + size t) u))
        (tells_mapped (HasCodes u) (λ y. record { key = x; value = y }) (q (at + 1 + size t) u) (i (at + 1 + size t) u))))
    by _ _ e = tt
entry_told r q h i before at (int n) = tt
entry_told r q h i before at (str b) = tt
entry_told r q h i before at (bytes b) = tt
entry_told r q h i before at (seq ts) = tt

entries_told : (r q : Reader) → IsTold r → IsTold q → (before : Option Val) (at : ℕ) (ts : Trees) → Tells (HaveCodes ts) (read_entries r q before at ts)
entries_told r q h i before at none = λ all. tt
entries_told r q h i before at (more t ts) =
    tells_then (HasCodes t) (HaveCodes ts) (read_entry r q before at t) (λ e. mapped (more_pairs e.key e.value) (read_entries r q (Some e.key) (at + size t) ts))
    (entry_told r q h i before at t)
    (λ e. tells_mapped (HaveCodes ts) (more_pairs e.key e.value) (read_entries r q (Some e.key) (at + size t) ts) (entries_told r q h i (Some e.key) (at + size t) ts))

table_told : (made : Pairs → Val) (r q : Reader) → IsTold r → IsTold q → IsTold (read_table made r q)
table_told made r q h i at (seq ts) = tells_mapped (HaveCodes ts) made (read_entries r q None (at + 1) ts) (entries_told r q h i None (at + 1) ts)
table_told made r q h i at (int n) = tt
table_told made r q h i at (str b) = tt
table_told made r q h i at (bytes b) = tt
table_told made r q h i at (prim name annots ts) = tt

body_told : (a b : Kind) (recursive : Bool) → IsTold (read_body a b recursive)
body_told a b recursive at (seq ts) = λ all. all.0
body_told a b recursive at (int n) = tt
body_told a b recursive at (str x) = tt
body_told a b recursive at (bytes x) = tt
body_told a b recursive at (prim name annots ts) = tt

lambda_told : (a b : Kind) → IsTold (read_lambda a b)
lambda_told a b at (prim name annots args) = by (word_of_name name) args refl
  where
    by : (w : Word) (args : Trees) → word_of_name name ≡ w → Tells (HasCodes (prim name annots args)) (recursive_named w a b at args)
    by recursive_word (more t none) e =
        tells_from (HasCodes t) (HasCodes (prim name annots (more t none))) (read_body a b true (at + 1) t) (λ c. (of_word name recursive_word e (λ f. cc), (c, tt)))
        (body_told a b true (at + 1) t)
    by _ _ e = tt
lambda_told a b at (int n) = tt
lambda_told a b at (str x) = tt
lambda_told a b at (bytes x) = tt
lambda_told a b at (seq ts) = body_told a b false at (seq ts)

contract_told : (a : Kind) → IsTold (read_contract a)
contract_told a at (bytes b) = by (is_address b)
  where
    by : (is_one : Bool) → Tells (Unit {0}) (cond is_one (good (v.bytes b) (claim at b a ∷ [])) (bad at))
    by true = λ all. tt
    by false = tt
contract_told a at (int n) = tt
contract_told a at (str x) = tt
contract_told a at (prim name annots ts) = tt
contract_told a at (seq ts) = tt

mutual
  told : (a : Kind) → IsTold (read a)
  told (k.simple u) at t = simple_told u at t
  told k.operation at t = tt
  told (k.option a) at t = read_option_told (read a) (told a) at t
  told (k.or a b) at t = read_or_told (read a) (read b) (told a) (told b) at t
  told (k.pair a b) at t = pair_told (read a) (read b) (read_rest b) (told a) (told b) (rest_told b) at t
  told (k.list a) at t = list_told (read a) (told a) at t
  told (k.set a) at t = set_told (read a) (told a) at t
  told (k.map a b) at t = table_told v.table (read a) (read b) (told a) (told b) at t
  told (k.big_map a b) at t = table_told v.big_table (read a) (read b) (told a) (told b) at t
  told (k.lambda a b) at t = lambda_told a b at t
  told (k.contract a) at t = contract_told a at t
  told (k.ticket a) at t = tt

  rest_told : (a : Kind) (whole : ℕ) → AreTold (read_rest a whole)
  rest_told (k.pair a b) whole at ts = parts_told (read a) (read b) (read_rest b whole) (told a) (told b) (rest_told b whole) whole at ts
  rest_told _ whole at ts = tt

of_good : (P : Type 0) (e : Literal Val) (x : Val) (ps : List Pending) → e ≡ good x ps → Tells P e → AllCoded ps → P
of_good P e x ps same h = subst (Tells P) same h

pub literal_codes : (a : Kind) (at : ℕ) (t : Tree) (x : Val) (ps : List Pending) → read a at t ≡ good x ps → AllCoded ps → HasCodes t
literal_codes a at t x ps same = of_good (HasCodes t) (read a at t) x ps same (told a at t)
