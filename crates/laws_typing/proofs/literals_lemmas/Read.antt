-- What is so of values from their parts is so of what is read, where what is pending is tried.
use Rattle.std.proofs.Common.{◌≡◌, ℕ, ◌+◌, Bool, true, false, cond, Option, Some, None, List, [], ◌∷◌, ◌++◌, refl, subst}
use Rattle.std.specs.declared.cmp.Ordering.{Ordering}
use Rattle.std.specs.declared.cmp.Ordering.TheVariants.{Less, Equal, Greater}
use Rattle.std.specs.Ordering.{is_lt}
use Rattle.std.proofs.lemmas.Bool.{and_parts}
use Rattle.rules_text.specs.nodes.Tree.{Tree, int, str, bytes, prim, seq, Trees, none, more, size}
use Rattle.rules_data.specs.declared.types.Simple.{Simple}
use Rattle.rules_data.specs.declared.types.Simple.TheVariants as s
use Rattle.rules_data.specs.types.Kind.{Kind}
use Rattle.rules_data.specs.types.Kind as k
use Rattle.rules_data.specs.values.Val.{Val, Vals, no_val, more_vals, Pairs, no_pair, more_pairs, is_comparable}
use Rattle.rules_data.specs.values.Val as v
use Rattle.rules_data.specs.values.Order.{order}
use Rattle.rules_data.specs.values.Tables.{AreAbove, AreIncreasing, AreKeysAbove, AreIncreasingKeys}
use Rattle.rules_data.specs.forms.Spelling.{is_address}
use Rattle.rules_data.specs.values.Forms.{has_simple_form, AllHave, AllEntriesHave}
use Rattle.rules_data.specs.values.Literals.{Word, unit_word, true_word, false_word, none_word, some_word, left_word, right_word, entry_word, recursive_word, word_of_name, Pending, body, claim, Literal, good, bad, with_pending, and_then, mapped, Reader, tested, unit_of_word, truth_of_word, on_value, simple_value, read_simple, option_named, read_option, or_named, read_or, read_parts, parts_of, read_elements, read_list, is_behind, read_increasing, read_set, Entry, entry_named, read_entry, read_entries, read_table, read_body, recursive_named, read_lambda, read_contract, read, read_rest}
use Rattle.laws_data.proofs.values_lemmas.ForCallers.{order_lawful}

-- what is so of values of each type, from their parts and from what is tried
pub record IsMade (F : Kind → Val → Type 0) (Tried : Pending → Type 0) : Type 0 where
  pub simple : (s : Simple) (x : Val) → has_simple_form s x ≡ true → F (k.simple s) x
  pub none : (a : Kind) → F (k.option a) v.nothing
  pub some : (a : Kind) (x : Val) → F a x → F (k.option a) (v.some x)
  pub left : (a b : Kind) (x : Val) → F a x → F (k.or a b) (v.left x)
  pub right : (a b : Kind) (x : Val) → F b x → F (k.or a b) (v.right x)
  pub both : (a b : Kind) (x y : Val) → F a x → F b y → F (k.pair a b) (v.both x y)
  pub list : (a : Kind) (xs : Vals) → AllHave (F a) xs → F (k.list a) (v.list xs)
  pub set : (a : Kind) (xs : Vals) → AllHave (F a) xs → AreIncreasing xs → F (k.set a) (v.set xs)
  pub table : (a b : Kind) (es : Pairs) → AllEntriesHave (F a) (F b) es → AreIncreasingKeys es → F (k.map a b) (v.table es)
  pub big_table : (a b : Kind) (es : Pairs) → AllEntriesHave (F a) (F b) es → AreIncreasingKeys es → F (k.big_map a b) (v.big_table es)
  pub lambda : (a b : Kind) (at : ℕ) (recursive : Bool) (ts : Trees) → Tried (body at a b recursive (seq ts)) → F (k.lambda a b) (v.lambda (seq ts) recursive)
  pub contract : (a : Kind) (at : ℕ) (b : List ℕ) → is_address b ≡ true → Tried (claim at b a) → F (k.contract a) (v.bytes b)

abbrev pub AllTried : (Pending → Type 0) → List Pending → Type 0
AllTried P [] = Unit {0}
AllTried P (p ∷ ps) = P p × AllTried P ps

left_tried : (P : Pending → Type 0) (ps qs : List Pending) → AllTried P (ps ++ qs) → AllTried P ps
left_tried P [] qs h = tt
left_tried P (p ∷ ps) qs h = (h.0, left_tried P ps qs h.1)

right_tried : (P : Pending → Type 0) (ps qs : List Pending) → AllTried P (ps ++ qs) → AllTried P qs
right_tried P [] qs h = h
right_tried P (p ∷ ps) qs h = right_tried P ps qs h.1

module _ (F : Kind → Val → Type 0) (Tried : Pending → Type 0) (m : IsMade F Tried) where
  -- ---- what is read

  -- what is read has the property, where all that is pending is tried
  abbrev Has : {A : Type 0} → (A → Type 0) → Literal A → Type 0
  Has P (good x ps) = AllTried Tried ps → P x
  Has P (bad l) = Unit {0}

  has_mapped : {A B : Type 0} (P : A → Type 0) (Q : B → Type 0) (f : A → B) (e : Literal A) → ((x : A) → P x → Q (f x)) → Has P e → Has Q (mapped f e)
  has_mapped P Q f (good x ps) h i = λ g. h x (i g)
  has_mapped P Q f (bad l) h i = tt

  has_with : {A : Type 0} (P : A → Type 0) (ps : List Pending) (e : Literal A) → (AllTried Tried ps → Has P e) → Has P (with_pending ps e)
  has_with P ps (good x qs) h = λ g. h (left_tried Tried ps qs g) (right_tried Tried ps qs g)
  has_with P ps (bad l) h = tt

  has_then : {A B : Type 0} (P : A → Type 0) (Q : B → Type 0) (e : Literal A) (next : A → Literal B) → Has P e → ((x : A) → P x → Has Q (next x)) → Has Q (and_then e next)
  has_then P Q (good x ps) next h i = has_with Q ps (next x) (λ g. i x (h g))
  has_then P Q (bad l) next h i = tt

  has_if : {A : Type 0} (P : A → Type 0) (b : Bool) (l : ℕ) (e : Literal A) → (b ≡ true → Has P e) → Has P (cond b e (bad l))
  has_if P true l e h = h refl
  has_if P false l e h = tt

  abbrev Reads : Kind → Reader → Type 0
  Reads a r = (at : ℕ) (t : Tree) → Has (F a) (r at t)

  -- ---- types without arguments

  abbrev OnSome : (Val → Type 0) → Option Val → Type 0
  OnSome P None = Unit {0}
  OnSome P (Some x) = P x

  on_tested : (P : Val → Type 0) (b : Bool) (x : Val) → (b ≡ true → P x) → OnSome P (tested b x)
  on_tested P true x h = h refl
  on_tested P false x h = tt

  abbrev OfForm : Simple → Val → Type 0
  OfForm s x = has_simple_form s x ≡ true

  unit_has : (d : Word) → OnSome (OfForm s.Unit) (unit_of_word d)
  unit_has unit_word = refl
  unit_has _ = tt

  truth_has : (d : Word) → OnSome (OfForm s.Bool) (truth_of_word d)
  truth_has true_word = refl
  truth_has false_word = refl
  truth_has _ = tt

  simple_has : (u : Simple) (t : Tree) → OnSome (OfForm u) (simple_value u t)
  simple_has s.Unit (prim name annots none) = unit_has (word_of_name name)
  simple_has s.Unit (prim name annots (more t ts)) = tt
  simple_has s.Unit (int n) = tt
  simple_has s.Unit (str b) = tt
  simple_has s.Unit (bytes b) = tt
  simple_has s.Unit (seq ts) = tt
  simple_has s.Bool (prim name annots none) = truth_has (word_of_name name)
  simple_has s.Bool (prim name annots (more t ts)) = tt
  simple_has s.Bool (int n) = tt
  simple_has s.Bool (str b) = tt
  simple_has s.Bool (bytes b) = tt
  simple_has s.Bool (seq ts) = tt
  simple_has s.Int (int n) = on_tested (OfForm s.Int) _ (v.number n) (λ h. h)
  simple_has s.Nat (int n) = on_tested (OfForm s.Nat) _ (v.number n) (λ h. h)
  simple_has s.Mutez (int n) = on_tested (OfForm s.Mutez) _ (v.number n) (λ h. h)
  simple_has s.Timestamp (int n) = on_tested (OfForm s.Timestamp) _ (v.number n) (λ h. h)
  simple_has s.String (str b) = on_tested (OfForm s.String) _ (v.text b) (λ h. h)
  simple_has s.Bytes (bytes b) = on_tested (OfForm s.Bytes) _ (v.bytes b) (λ h. h)
  simple_has s.Key (bytes b) = on_tested (OfForm s.Key) _ (v.bytes b) (λ h. h)
  simple_has s.KeyHash (bytes b) = on_tested (OfForm s.KeyHash) _ (v.bytes b) (λ h. h)
  simple_has s.Signature (bytes b) = on_tested (OfForm s.Signature) _ (v.bytes b) (λ h. h)
  simple_has s.ChainId (bytes b) = on_tested (OfForm s.ChainId) _ (v.bytes b) (λ h. h)
  simple_has s.Address (bytes b) = on_tested (OfForm s.Address) _ (v.bytes b) (λ h. h)
  simple_has _ _ = tt

  on_some : (u : Simple) (at : ℕ) (o : Option Val) → OnSome (OfForm u) o → Has (F (k.simple u)) (on_value at o)
  on_some u at (Some x) h = λ g. m.simple u x h
  on_some u at None h = tt

  simple_reads : (u : Simple) → Reads (k.simple u) (read_simple u)
  simple_reads u at t = on_some u at (simple_value u t) (simple_has u t)

  -- ---- options, unions and pairs

  option_reads : (a : Kind) (r : Reader) → Reads a r → Reads (k.option a) (read_option r)
  option_reads a r h at (prim name annots args) = by (word_of_name name) args
    where
      by : (d : Word) (args : Trees) → Has (F (k.option a)) (option_named d r at args)
      by none_word none = λ g. m.none a
      by some_word (more t none) = has_mapped (F a) (F (k.option a)) v.some (r (at + 1) t) (m.some a) (h (at + 1) t)
      by _ _ = tt
  option_reads a r h at (int n) = tt
  option_reads a r h at (str b) = tt
  option_reads a r h at (bytes b) = tt
  option_reads a r h at (seq ts) = tt

  or_reads : (a b : Kind) (r q : Reader) → Reads a r → Reads b q → Reads (k.or a b) (read_or r q)
  or_reads a b r q h i at (prim name annots args) = by (word_of_name name) args
    where
      by : (d : Word) (args : Trees) → Has (F (k.or a b)) (or_named d r q at args)
      by left_word (more t none) = has_mapped (F a) (F (k.or a b)) v.left (r (at + 1) t) (m.left a b) (h (at + 1) t)
      by right_word (more t none) = has_mapped (F b) (F (k.or a b)) v.right (q (at + 1) t) (m.right a b) (i (at + 1) t)
      by _ _ = tt
  or_reads a b r q h i at (int n) = tt
  or_reads a b r q h i at (str s) = tt
  or_reads a b r q h i at (bytes s) = tt
  or_reads a b r q h i at (seq ts) = tt

  abbrev PartsRead : Kind → (ℕ → Trees → Literal Val) → Type 0
  PartsRead a rest = (at : ℕ) (ts : Trees) → Has (F a) (rest at ts)

  parts_read : (a b : Kind) (r q : Reader) (rest : ℕ → Trees → Literal Val) → Reads a r → Reads b q → PartsRead b rest → (whole : ℕ) →
      PartsRead (k.pair a b) (read_parts r q rest whole)
  parts_read a b r q rest h i j whole at none = tt
  parts_read a b r q rest h i j whole at (more t none) = tt
  parts_read a b r q rest h i j whole at (more t (more u none)) =
      has_then (F a) (F (k.pair a b)) (r at t) (λ x. mapped (v.both x) (q (at + size t) u)) (h at t)
      (λ x f. has_mapped (F b) (F (k.pair a b)) (v.both x) (q (at + size t) u) (λ y g. m.both a b x y f g) (i (at + size t) u))
  parts_read a b r q rest h i j whole at (more t (more u (more d ts))) =
      has_then (F a) (F (k.pair a b)) (r at t) (λ x. mapped (v.both x) (rest (at + size t) (more u (more d ts)))) (h at t)
      (λ x f. has_mapped (F b) (F (k.pair a b)) (v.both x) (rest (at + size t) (more u (more d ts))) (λ y g. m.both a b x y f g) (j (at + size t) (more u (more d ts))))

  -- ---- lists, sets and maps

  elements_read : (a : Kind) (r : Reader) → Reads a r → (at : ℕ) (ts : Trees) → Has (AllHave (F a)) (read_elements r at ts)
  elements_read a r h at none = λ g. tt
  elements_read a r h at (more t ts) =
      has_then (F a) (AllHave (F a)) (r at t) (λ x. mapped (more_vals x) (read_elements r (at + size t) ts)) (h at t)
      (λ x f. has_mapped (AllHave (F a)) (AllHave (F a)) (more_vals x) (read_elements r (at + size t) ts) (λ xs g. (f, g)) (elements_read a r h (at + size t) ts))

  list_reads : (a : Kind) (r : Reader) → Reads a r → Reads (k.list a) (read_list r)
  list_reads a r h at (seq ts) = has_mapped (AllHave (F a)) (F (k.list a)) v.list (read_elements r (at + 1) ts) (m.list a) (elements_read a r h (at + 1) ts)
  list_reads a r h at (int n) = tt
  list_reads a r h at (str s) = tt
  list_reads a r h at (bytes s) = tt
  list_reads a r h at (prim name annots ts) = tt

  -- above what is below all of them
  abbrev AreBehind : Option Val → Vals → Type 0
  AreBehind None xs = Unit {0}
  AreBehind (Some y) xs = AreAbove y xs

  less : (o : Ordering) → is_lt o ≡ true → o ≡ Less
  less Less h = refl
  less Equal h = absurd cc
  less Greater h = absurd cc

  above_more : (y x : Val) (xs : Vals) → order y x ≡ Less → AreAbove x xs → AreAbove y xs
  above_more y x no_val e h = tt
  above_more y x (more_vals z xs) e h = (order_lawful.trans y x z e h.0, above_more y x xs e h.1)

  is_next : (before : Option Val) (x : Val) (xs : Vals) → is_behind before x ≡ true → AreAbove x xs → AreBehind before (more_vals x xs)
  is_next None x xs e h = tt
  is_next (Some y) x xs e h =
      let f : order y x ≡ Less = less (order y x) (and_parts (is_comparable x) (is_lt (order y x)) e).1 in
      (f, above_more y x xs f h)

  abbrev SetOf : Kind → Option Val → Vals → Type 0
  SetOf a before xs = AllHave (F a) xs × AreIncreasing xs × AreBehind before xs

  behind_none : (before : Option Val) → AreBehind before no_val
  behind_none None = tt
  behind_none (Some y) = tt

  increasing_read : (a : Kind) (r : Reader) → Reads a r → (before : Option Val) (at : ℕ) (ts : Trees) → Has (SetOf a before) (read_increasing r before at ts)
  increasing_read a r h before at none = λ g. (tt, tt, behind_none before)
  increasing_read a r h before at (more t ts) =
      has_then (F a) (SetOf a before) (r at t) (λ x. cond (is_behind before x) (mapped (more_vals x) (read_increasing r (Some x) (at + size t) ts)) (bad at)) (h at t)
      (λ x f. has_if (SetOf a before) (is_behind before x) at (mapped (more_vals x) (read_increasing r (Some x) (at + size t) ts))
      (λ e. has_mapped (SetOf a (Some x)) (SetOf a before) (more_vals x) (read_increasing r (Some x) (at + size t) ts)
      (λ xs g. ((f, g.0), (g.2, g.1), is_next before x xs e g.2)) (increasing_read a r h (Some x) (at + size t) ts)))

  set_reads : (a : Kind) (r : Reader) → Reads a r → Reads (k.set a) (read_set r)
  set_reads a r h at (seq ts) = has_mapped (SetOf a None) (F (k.set a)) v.set (read_increasing r None (at + 1) ts) (λ xs g. m.set a xs g.0 g.1) (increasing_read a r h None (at + 1) ts)
  set_reads a r h at (int n) = tt
  set_reads a r h at (str s) = tt
  set_reads a r h at (bytes s) = tt
  set_reads a r h at (prim name annots ts) = tt

  abbrev KeysAreBehind : Option Val → Pairs → Type 0
  KeysAreBehind None es = Unit {0}
  KeysAreBehind (Some y) es = AreKeysAbove y es

  keys_above_more : (y x : Val) (es : Pairs) → order y x ≡ Less → AreKeysAbove x es → AreKeysAbove y es
  keys_above_more y x no_pair e h = tt
  keys_above_more y x (more_pairs z d es) e h = (order_lawful.trans y x z e h.0, keys_above_more y x es e h.1)

  is_next_key : (before : Option Val) (x d : Val) (es : Pairs) → is_behind before x ≡ true → AreKeysAbove x es → KeysAreBehind before (more_pairs x d es)
  is_next_key None x d es e h = tt
  is_next_key (Some y) x d es e h =
      let f : order y x ≡ Less = less (order y x) (and_parts (is_comparable x) (is_lt (order y x)) e).1 in
      (f, keys_above_more y x es f h)

  keys_behind_none : (before : Option Val) → KeysAreBehind before no_pair
  keys_behind_none None = tt
  keys_behind_none (Some y) = tt

  abbrev EntryOf : Kind → Kind → Option Val → Entry → Type 0
  EntryOf a b before e = F a e.key × F b e.value × (is_behind before e.key ≡ true)

  abbrev TableOf : Kind → Kind → Option Val → Pairs → Type 0
  TableOf a b before es = AllEntriesHave (F a) (F b) es × AreIncreasingKeys es × KeysAreBehind before es

  entry_reads : (a b : Kind) (r q : Reader) → Reads a r → Reads b q → (before : Option Val) (at : ℕ) (t : Tree) → Has (EntryOf a b before) (read_entry r q before at t)
  entry_reads a b r q h i before at (prim name annots args) = by (word_of_name name) args
    where
      by : (d : Word) (args : Trees) → Has (EntryOf a b before) (entry_named d r q before at args)
      by entry_word (more t (more u none)) =
          has_then (F a) (EntryOf a b before) (r (at + 1) t)
          (λ x. cond (is_behind before x) (mapped (λ y. record { key = x; value = y }) (q (at + 1 + size t) u)) (bad at)) (h (at + 1) t)
          (λ x f. has_if (EntryOf a b before) (is_behind before x) at (mapped (λ y. record { key = x; value = y }) (q (at + 1 + size t) u))
          (λ e. has_mapped (F b) (EntryOf a b before) (λ y. record { key = x; value = y }) (q (at + 1 + size t) u) (λ y g. (f, g, e)) (i (at + 1 + size t) u)))
      by _ _ = tt
  entry_reads a b r q h i before at (int n) = tt
  entry_reads a b r q h i before at (str s) = tt
  entry_reads a b r q h i before at (bytes s) = tt
  entry_reads a b r q h i before at (seq ts) = tt

  entries_read : (a b : Kind) (r q : Reader) → Reads a r → Reads b q → (before : Option Val) (at : ℕ) (ts : Trees) → Has (TableOf a b before) (read_entries r q before at ts)
  entries_read a b r q h i before at none = λ g. (tt, tt, keys_behind_none before)
  entries_read a b r q h i before at (more t ts) =
      has_then (EntryOf a b before) (TableOf a b before) (read_entry r q before at t) (λ e. mapped (more_pairs e.key e.value) (read_entries r q (Some e.key) (at + size t) ts))
      (entry_reads a b r q h i before at t)
      (λ e f. has_mapped (TableOf a b (Some e.key)) (TableOf a b before) (more_pairs e.key e.value) (read_entries r q (Some e.key) (at + size t) ts)
      (λ es g. ((f.0, f.1, g.0), (g.2, g.1), is_next_key before e.key e.value es f.2 g.2)) (entries_read a b r q h i (Some e.key) (at + size t) ts))

  map_reads : (a b : Kind) (r q : Reader) → Reads a r → Reads b q → Reads (k.map a b) (read_table v.table r q)
  map_reads a b r q h i at (seq ts) = has_mapped (TableOf a b None) (F (k.map a b)) v.table (read_entries r q None (at + 1) ts) (λ es g. m.table a b es g.0 g.1) (entries_read a b r q h i None (at + 1) ts)
  map_reads a b r q h i at (int n) = tt
  map_reads a b r q h i at (str s) = tt
  map_reads a b r q h i at (bytes s) = tt
  map_reads a b r q h i at (prim name annots ts) = tt

  big_map_reads : (a b : Kind) (r q : Reader) → Reads a r → Reads b q → Reads (k.big_map a b) (read_table v.big_table r q)
  big_map_reads a b r q h i at (seq ts) = has_mapped (TableOf a b None) (F (k.big_map a b)) v.big_table (read_entries r q None (at + 1) ts) (λ es g. m.big_table a b es g.0 g.1) (entries_read a b r q h i None (at + 1) ts)
  big_map_reads a b r q h i at (int n) = tt
  big_map_reads a b r q h i at (str s) = tt
  big_map_reads a b r q h i at (bytes s) = tt
  big_map_reads a b r q h i at (prim name annots ts) = tt

  -- ---- lambdas and contracts

  body_reads : (a b : Kind) (recursive : Bool) → Reads (k.lambda a b) (read_body a b recursive)
  body_reads a b recursive at (seq ts) = λ g. m.lambda a b at recursive ts g.0
  body_reads a b recursive at (int n) = tt
  body_reads a b recursive at (str s) = tt
  body_reads a b recursive at (bytes s) = tt
  body_reads a b recursive at (prim name annots ts) = tt

  lambda_reads : (a b : Kind) → Reads (k.lambda a b) (read_lambda a b)
  lambda_reads a b at (prim name annots args) = by (word_of_name name) args
    where
      by : (d : Word) (args : Trees) → Has (F (k.lambda a b)) (recursive_named d a b at args)
      by recursive_word (more t none) = body_reads a b true (at + 1) t
      by _ _ = tt
  lambda_reads a b at (int n) = tt
  lambda_reads a b at (str s) = tt
  lambda_reads a b at (bytes s) = tt
  lambda_reads a b at (seq ts) = body_reads a b false at (seq ts)

  contract_reads : (a : Kind) → Reads (k.contract a) (read_contract a)
  contract_reads a at (bytes b) = has_if (F (k.contract a)) (is_address b) at (good (v.bytes b) (claim at b a ∷ [])) (λ e. λ g. m.contract a at b e g.0)
  contract_reads a at (int n) = tt
  contract_reads a at (str s) = tt
  contract_reads a at (prim name annots ts) = tt
  contract_reads a at (seq ts) = tt

  -- ---- all types

  mutual
    reads : (a : Kind) (at : ℕ) (t : Tree) → Has (F a) (read a at t)
    reads (k.simple u) at t = simple_reads u at t
    reads k.operation at t = tt
    reads (k.option a) at t = option_reads a (read a) (reads a) at t
    reads (k.or a b) at t = or_reads a b (read a) (read b) (reads a) (reads b) at t
    reads (k.pair a b) at t = parts_read a b (read a) (read b) (read_rest b at) (reads a) (reads b) (rest_reads b at) at (at + 1) (parts_of t)
    reads (k.list a) at t = list_reads a (read a) (reads a) at t
    reads (k.set a) at t = set_reads a (read a) (reads a) at t
    reads (k.map a b) at t = map_reads a b (read a) (read b) (reads a) (reads b) at t
    reads (k.big_map a b) at t = big_map_reads a b (read a) (read b) (reads a) (reads b) at t
    reads (k.lambda a b) at t = lambda_reads a b at t
    reads (k.contract a) at t = contract_reads a at t
    reads (k.ticket a) at t = tt

    rest_reads : (a : Kind) (whole at : ℕ) (ts : Trees) → Has (F a) (read_rest a whole at ts)
    rest_reads (k.pair a b) whole at ts = parts_read a b (read a) (read b) (read_rest b whole) (reads a) (reads b) (rest_reads b whole) whole at ts
    rest_reads _ whole at ts = tt

  -- it is so of what is read
  pub read_has : (a : Kind) (at : ℕ) (t : Tree) (x : Val) (ps : List Pending) → read a at t ≡ good x ps → AllTried Tried ps → F a x
  read_has a at t x ps same = subst (Has (F a)) same (reads a at t)
