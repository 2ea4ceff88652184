-- What a literal is doesn't depend on where it stands.
use Rattle.std.proofs.Common.{◌≡◌, ℕ, ◌+◌, Bool, true, false, Option, Some, None, List, [], ◌∷◌, refl, sym, ap, ◌∙◌}
use Rattle.std.specs.Prelude.{option_map, option_and_then, if◌then◌else◌}
use Rattle.rules_text.specs.nodes.Tree.{Tree, bytes, prim, seq, Trees, none, more, size}
use Rattle.rules_data.specs.types.Kind.{Kind}
use Rattle.rules_data.specs.types.Kind as k
use Rattle.rules_data.specs.values.Val.{Val, more_vals, Pairs, more_pairs}
use Rattle.rules_data.specs.values.Val as v
use Rattle.rules_data.specs.forms.Spelling.{is_address}
use Rattle.rules_code.specs.evaluation.Given.{value_of}
use Rattle.rules_data.specs.values.Literals.{Word, none_word, some_word, left_word, right_word, entry_word, recursive_word, word_of_name, Pending, claim, Literal, good, bad, with_pending, and_then, mapped, Reader, simple_value, on_value, option_named, read_option, or_named, read_or, read_parts, parts_of, read_elements, read_list, is_behind, read_increasing, read_set, read_binding, entry_named, read_entry, read_entries, read_table, read_body, recursive_named, read_lambda, read_contract, read, read_rest}

-- what is read, without what is still to be tried
abbrev valued : {A : Type 0} → Literal A → Option A
valued (good x ps) = Some x
valued (bad l) = None

-- the same is read at any place
abbrev Alike : {A : Type 0} → Literal A → Literal A → Type 0
Alike x y = valued x ≡ valued y

abbrev Stays : Reader → Type 0
Stays r = (i j : ℕ) (t : Tree) → Alike (r i t) (r j t)

mapped_is : {A B : Type 0} (f : A → B) (x : Literal A) → valued (mapped f x) ≡ option_map f (valued x)
mapped_is f (good x ps) = refl
mapped_is f (bad l) = refl

alike_mapped : {A B : Type 0} (f : A → B) (x y : Literal A) → Alike x y → Alike (mapped f x) (mapped f y)
alike_mapped f x y h = mapped_is f x ∙ ap (option_map f) h ∙ sym (mapped_is f y)

with_is : {A : Type 0} (ps : List Pending) (x : Literal A) → valued (with_pending ps x) ≡ valued x
with_is ps (good x qs) = refl
with_is ps (bad l) = refl

then_is : {A B : Type 0} (x : Literal A) (f : A → Literal B) → valued (and_then x f) ≡ option_and_then (λ a. valued (f a)) (valued x)
then_is (good x ps) f = with_is ps (f x)
then_is (bad l) f = refl

alike_then : {A B : Type 0} (x y : Literal A) (f g : A → Literal B) → Alike x y → ((a : A) → Alike (f a) (g a)) → Alike (and_then x f) (and_then y g)
alike_then x y f g h e = then_is x f ∙ (λ i. option_and_then (λ a. e a i) (h i)) ∙ sym (then_is y g)

alike_if : {A : Type 0} (b : Bool) (x y : Literal A) (i j : ℕ) → Alike x y → Alike (if b then x else bad i) (if b then y else bad j)
alike_if true x y i j h = h
alike_if false x y i j h = refl

module _ (r : Reader) (h : Stays r) where
  option_stays : (w : Word) (i j : ℕ) (ts : Trees) → Alike (option_named w r i ts) (option_named w r j ts)
  option_stays none_word i j none = refl
  option_stays some_word i j (more t none) = alike_mapped v.some (r (i + 1) t) (r (j + 1) t) (h (i + 1) (j + 1) t)
  option_stays _ i j _ = refl

  elements_stay : (i j : ℕ) (ts : Trees) → Alike (read_elements r i ts) (read_elements r j ts)
  elements_stay i j none = refl
  elements_stay i j (more t ts) =
      alike_then (r i t) (r j t) _ _ (h i j t) (λ x. alike_mapped (more_vals x) (read_elements r (i + size t) ts) (read_elements r (j + size t) ts) (elements_stay (i + size t) (j + size t) ts))

  increasing_stay : (before : Option Val) (i j : ℕ) (ts : Trees) → Alike (read_increasing r before i ts) (read_increasing r before j ts)
  increasing_stay before i j none = refl
  increasing_stay before i j (more t ts) =
      alike_then (r i t) (r j t) _ _ (h i j t) (λ x. alike_if (is_behind before x) _ _ i j
      (alike_mapped (more_vals x) (read_increasing r (Some x) (i + size t) ts) (read_increasing r (Some x) (j + size t) ts) (increasing_stay (Some x) (i + size t) (j + size t) ts)))

  optional_stays : Stays (read_option r)
  optional_stays i j (prim name annots args) = option_stays (word_of_name name) i j args
  optional_stays i j _ = refl

  list_stays : Stays (read_list r)
  list_stays i j (seq ts) = alike_mapped v.list (read_elements r (i + 1) ts) (read_elements r (j + 1) ts) (elements_stay (i + 1) (j + 1) ts)
  list_stays i j _ = refl

  set_stays : Stays (read_set r)
  set_stays i j (seq ts) = alike_mapped v.set (read_increasing r None (i + 1) ts) (read_increasing r None (j + 1) ts) (increasing_stay None (i + 1) (j + 1) ts)
  set_stays i j _ = refl

  module _ (q : Reader) (g : Stays q) where
    or_stays : (w : Word) (i j : ℕ) (ts : Trees) → Alike (or_named w r q i ts) (or_named w r q j ts)
    or_stays left_word i j (more t none) = alike_mapped v.left (r (i + 1) t) (r (j + 1) t) (h (i + 1) (j + 1) t)
    or_stays right_word i j (more t none) = alike_mapped v.right (q (i + 1) t) (q (j + 1) t) (g (i + 1) (j + 1) t)
    or_stays _ i j _ = refl

    either_stays : Stays (read_or r q)
    either_stays i j (prim name annots args) = or_stays (word_of_name name) i j args
    either_stays i j _ = refl

    parts_stay : (rest rest' : ℕ → Trees → Literal Val) → ((i j : ℕ) (ts : Trees) → Alike (rest i ts) (rest' j ts)) → (whole whole' i j : ℕ) (ts : Trees) →
        Alike (read_parts r q rest whole i ts) (read_parts r q rest' whole' j ts)
    parts_stay rest rest' s whole whole' i j (more t (more u none)) =
        alike_then (r i t) (r j t) _ _ (h i j t) (λ x. alike_mapped (v.both x) (q (i + size t) u) (q (j + size t) u) (g (i + size t) (j + size t) u))
    parts_stay rest rest' s whole whole' i j (more t (more u (more w ts))) =
        alike_then (r i t) (r j t) _ _ (h i j t) (λ x. alike_mapped (v.both x) (rest (i + size t) (more u (more w ts))) (rest' (j + size t) (more u (more w ts))) (s (i + size t) (j + size t) (more u (more w ts))))
    parts_stay rest rest' s whole whole' i j _ = refl

    binding_stays : (before : Option Val) (i j : ℕ) (t u : Tree) → Alike (read_binding r q before i t u) (read_binding r q before j t u)
    binding_stays before i j t u =
        alike_then (r (i + 1) t) (r (j + 1) t) _ _ (h (i + 1) (j + 1) t) (λ x. alike_if (is_behind before x) _ _ i j
        (alike_mapped _ (q (i + 1 + size t) u) (q (j + 1 + size t) u) (g (i + 1 + size t) (j + 1 + size t) u)))

    named_stays : (w : Word) (before : Option Val) (i j : ℕ) (ts : Trees) → Alike (entry_named w r q before i ts) (entry_named w r q before j ts)
    named_stays entry_word before i j (more t (more u none)) = binding_stays before i j t u
    named_stays _ before i j _ = refl

    entry_stays : (before : Option Val) (i j : ℕ) (t : Tree) → Alike (read_entry r q before i t) (read_entry r q before j t)
    entry_stays before i j (prim name annots args) = named_stays (word_of_name name) before i j args
    entry_stays before i j _ = refl

    entries_stay : (before : Option Val) (i j : ℕ) (ts : Trees) → Alike (read_entries r q before i ts) (read_entries r q before j ts)
    entries_stay before i j none = refl
    entries_stay before i j (more t ts) =
        alike_then (read_entry r q before i t) (read_entry r q before j t) _ _ (entry_stays before i j t) (λ e.
        alike_mapped (more_pairs e.key e.value) (read_entries r q (Some e.key) (i + size t) ts) (read_entries r q (Some e.key) (j + size t) ts) (entries_stay (Some e.key) (i + size t) (j + size t) ts))

    table_stays : (made : Pairs → Val) → Stays (read_table made r q)
    table_stays made i j (seq ts) = alike_mapped made (read_entries r q None (i + 1) ts) (read_entries r q None (j + 1) ts) (entries_stay None (i + 1) (j + 1) ts)
    table_stays made i j _ = refl

value_stays : (o : Option Val) (i j : ℕ) → Alike (on_value i o) (on_value j o)
value_stays None i j = refl
value_stays (Some x) i j = refl

body_stays : (a b : Kind) (recursive : Bool) → Stays (read_body a b recursive)
body_stays a b recursive i j (seq ts) = refl
body_stays a b recursive i j _ = refl

recursive_stays : (w : Word) (a b : Kind) (i j : ℕ) (ts : Trees) → Alike (recursive_named w a b i ts) (recursive_named w a b j ts)
recursive_stays recursive_word a b i j (more t none) = body_stays a b true (i + 1) (j + 1) t
recursive_stays _ a b i j _ = refl

lambda_stays : (a b : Kind) → Stays (read_lambda a b)
lambda_stays a b i j (prim name annots args) = recursive_stays (word_of_name name) a b i j args
lambda_stays a b i j (seq ts) = refl
lambda_stays a b i j _ = refl

contract_stays : (a : Kind) → Stays (read_contract a)
contract_stays a i j (bytes b) = by (is_address b)
  where
    by : (c : Bool) → Alike (if c then good (v.bytes b) (claim i b a ∷ []) else bad i) (if c then good (v.bytes b) (claim j b a ∷ []) else bad j)
    by true = refl
    by false = refl
contract_stays a i j _ = refl

mutual
  read_stays : (a : Kind) → Stays (read a)
  read_stays (k.simple s) i j t = value_stays (simple_value s t) i j
  read_stays k.operation i j t = refl
  read_stays (k.option a) i j t = optional_stays (read a) (read_stays a) i j t
  read_stays (k.or a b) i j t = either_stays (read a) (read_stays a) (read b) (read_stays b) i j t
  read_stays (k.pair a b) i j t = parts_stay (read a) (read_stays a) (read b) (read_stays b) (read_rest b i) (read_rest b j) (λ m n ts. rest_stays b i j m n ts) i j (i + 1) (j + 1) (parts_of t)
  read_stays (k.list a) i j t = list_stays (read a) (read_stays a) i j t
  read_stays (k.set a) i j t = set_stays (read a) (read_stays a) i j t
  read_stays (k.map a b) i j t = table_stays (read a) (read_stays a) (read b) (read_stays b) v.table i j t
  read_stays (k.big_map a b) i j t = table_stays (read a) (read_stays a) (read b) (read_stays b) v.big_table i j t
  read_stays (k.lambda a b) i j t = lambda_stays a b i j t
  read_stays (k.contract a) i j t = contract_stays a i j t
  read_stays (k.ticket a) i j t = refl

  rest_stays : (a : Kind) (whole whole' i j : ℕ) (ts : Trees) → Alike (read_rest a whole i ts) (read_rest a whole' j ts)
  rest_stays (k.pair a b) whole whole' i j ts = parts_stay (read a) (read_stays a) (read b) (read_stays b) (read_rest b whole) (read_rest b whole') (λ m n ts. rest_stays b whole whole' m n ts) whole whole' i j ts
  rest_stays _ whole whole' i j ts = refl

value_is : (x : Literal Val) → valued x ≡ value_of x
value_is (good x ps) = refl
value_is (bad l) = refl

-- the value of a literal at one place and at another
pub value_there : (a : Kind) (i j : ℕ) (t : Tree) → value_of (read a i t) ≡ value_of (read a j t)
value_there a i j t = sym (value_is (read a i t)) ∙ read_stays a i j t ∙ value_is (read a j t)
