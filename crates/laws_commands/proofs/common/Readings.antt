-- What is read of nodes has a property that goes by its parts, where the nodes have one.
use Rattle.std.proofs.Common.{◌≡◌, ◌≤◌, ℕ, suc, ◌+◌, refl, ap, arith, Bool, true, false, cond, Option, Some, None, List, [], ◌∷◌, length}
use Rattle.std.specs.Prelude.{ℤ}
use Rattle.std.proofs.lemmas.Bool.{leb-true}
use Rattle.rules_text.specs.nodes.Limits.{byte_limit}
use Rattle.rules_text.specs.nodes.Tree.{Tree, int, str, bytes, prim, seq, Trees, none, more, size}
use Rattle.rules_text.specs.binary.Spelling.{count}
use Rattle.rules_data.specs.declared.types.Simple.{Simple}
use Rattle.rules_data.specs.declared.types.Simple.TheVariants as s
use Rattle.rules_data.specs.types.Kind.{Kind}
use Rattle.rules_data.specs.types.Kind as k
use Rattle.rules_data.specs.values.Val.{Val, Vals, more_vals, Pairs, more_pairs}
use Rattle.rules_data.specs.values.Val as v
use Rattle.rules_data.specs.forms.Spelling.{is_address}
use Rattle.rules_data.specs.values.Literals.{Word, unit_word, true_word, false_word, none_word, some_word, left_word, right_word, pair_word, entry_word, recursive_word, word_of_name, Pending, claim, Literal, good, bad, with_pending, and_then, mapped, Reader, on_value, simple_value, bare_value, unit_of_word, truth_of_word, number_value, text_value, bytes_value, option_named, read_option, or_named, read_or, read_parts, pair_named, parts_of, read_elements, read_list, is_behind, read_increasing, read_set, Entry, entry_named, read_entry, read_entries, read_table, read_body, recursive_named, read_lambda, read_contract, read, read_rest}
use Rattle.rules_files.specs.snapshots.Spelling.{count_vals}
use Rattle.laws_commands.proofs.written_lemmas.values.Fitting.{hash_short, address_short, key_short, length_short}
use Rattle.laws_commands.proofs.common.Parts.{HasParts}
use Rattle.laws_commands.proofs.common.Lists.{OnSome}

abbrev pub Gives : {A : Type 0} → (A → Type 0) → Literal A → Type 0
Gives P (good x ps) = P x
Gives P (bad l) = Unit {0}

gives_mapped : {A B : Type 0} (P : A → Type 0) (Q : B → Type 0) (f : A → B) (e : Literal A) → ((x : A) → P x → Q (f x)) → Gives P e →
    Gives Q (mapped f e)
gives_mapped P Q f (good x ps) h i = h x i
gives_mapped P Q f (bad l) h i = tt

gives_with : {A : Type 0} (P : A → Type 0) (ps : List Pending) (e : Literal A) → Gives P e → Gives P (with_pending ps e)
gives_with P ps (good x qs) h = h
gives_with P ps (bad l) h = tt

gives_then : {A B : Type 0} (P : A → Type 0) (Q : B → Type 0) (e : Literal A) (next : A → Literal B) → Gives P e →
    ((x : A) → P x → Gives Q (next x)) → Gives Q (and_then e next)
gives_then P Q (good x ps) next h i = gives_with Q ps (next x) (i x h)
gives_then P Q (bad l) next h i = tt

gives_if : {A : Type 0} (P : A → Type 0) (b : Bool) (l : ℕ) (e : Literal A) → Gives P e → Gives P (cond b e (bad l))
gives_if P true l e h = h
gives_if P false l e h = tt

pub gives_any : {A : Type 0} (e : Literal A) → Gives (λ x. Unit {0}) e
gives_any (good x ps) = tt
gives_any (bad l) = tt

-- the property of nodes is one of their parts, and gives that of values
pub record AreRead (P : Val → Type 0) (All : Vals → Type 0) (F : Tree → Type 0) (Fs : Trees → Type 0) : Type 0 where
  pub args : (name : List ℕ) (annots : List (List ℕ)) (ts : Trees) → F (prim name annots ts) → Fs ts
  pub items : (ts : Trees) → F (seq ts) → Fs ts
  pub first : (t : Tree) (ts : Trees) → Fs (more t ts) → F t
  pub rest : (t : Tree) (ts : Trees) → Fs (more t ts) → Fs ts
  pub text : (b : List ℕ) → F (str b) → P (v.text b)
  pub bytes : (b : List ℕ) → F (bytes b) → length b ≤ byte_limit → P (v.bytes b)
  pub list : (ts : Trees) (xs : Vals) → F (seq ts) → count_vals xs ≡ count ts → All xs → P (v.list xs)
  pub lambda : (ts : Trees) (recursive : Bool) → F (seq ts) → P (v.lambda (seq ts) recursive)

module _ (P : Val → Type 0) (All : Vals → Type 0) (Entries : Pairs → Type 0) (F : Tree → Type 0) (Fs : Trees → Type 0)
    (p : HasParts P All Entries) (m : AreRead P All F Fs) where
  abbrev Reads : Reader → Type 0
  Reads r = (at : ℕ) (t : Tree) → F t → Gives P (r at t)

  abbrev PartsRead : (ℕ → Trees → Literal Val) → Type 0
  PartsRead rest = (at : ℕ) (ts : Trees) → Fs ts → Gives P (rest at ts)

  -- ---- types without arguments

  tested_is : (b : Bool) (x : Val) → P x → OnSome P (cond b (Some x) None)
  tested_is true x h = h
  tested_is false x h = tt

  unit_is : (w : Word) → OnSome P (unit_of_word w)
  unit_is unit_word = p.unit
  unit_is _ = tt

  truth_is : (w : Word) → OnSome P (truth_of_word w)
  truth_is true_word = p.truth true
  truth_is false_word = p.truth false
  truth_is _ = tt

  bare_is : (f : Word → Option Val) (t : Tree) → ((w : Word) → OnSome P (f w)) → OnSome P (bare_value f t)
  bare_is f (prim name annots none) h = h (word_of_name name)
  bare_is f (prim name annots (more t ts)) h = tt
  bare_is f (int n) h = tt
  bare_is f (str b) h = tt
  bare_is f (bytes b) h = tt
  bare_is f (seq ts) h = tt

  number_is : (test : ℤ → Bool) (t : Tree) → OnSome P (number_value test t)
  number_is test (int n) = tested_is (test n) (v.number n) (p.number n)
  number_is test (prim name annots ts) = tt
  number_is test (str b) = tt
  number_is test (bytes b) = tt
  number_is test (seq ts) = tt

  text_is : (test : List ℕ → Bool) (t : Tree) → F t → OnSome P (text_value test t)
  text_is test (str b) h = tested_is (test b) (v.text b) (m.text b h)
  text_is test (int n) h = tt
  text_is test (prim name annots ts) h = tt
  text_is test (bytes b) h = tt
  text_is test (seq ts) h = tt

  bytes_is : (test : List ℕ → Bool) → ((b : List ℕ) → test b ≡ true → length b ≤ byte_limit) → (t : Tree) → F t →
      OnSome P (bytes_value test t)
  bytes_is test short (bytes b) h = by (test b) refl
    where
      by : (q : Bool) → test b ≡ q → OnSome P (cond q (Some (v.bytes b)) None)
      by true e = m.bytes b h (short b e)
      by false e = tt
  bytes_is test short (int n) h = tt
  bytes_is test short (prim name annots ts) h = tt
  bytes_is test short (str b) h = tt
  bytes_is test short (seq ts) h = tt

  simple_is : (u : Simple) (t : Tree) → F t → OnSome P (simple_value u t)
  simple_is s.Unit t h = bare_is unit_of_word t unit_is
  simple_is s.Never t h = tt
  simple_is s.Bool t h = bare_is truth_of_word t truth_is
  simple_is s.Int t h = number_is _ t
  simple_is s.Nat t h = number_is _ t
  simple_is s.Mutez t h = number_is _ t
  simple_is s.Timestamp t h = number_is _ t
  simple_is s.String t h = text_is _ t h
  simple_is s.Bytes t h = bytes_is _ (λ b e. leb-true (length b) byte_limit e) t h
  simple_is s.Key t h = bytes_is _ key_short t h
  simple_is s.KeyHash t h = bytes_is _ hash_short t h
  simple_is s.Signature t h = bytes_is _ (λ b e. length_short b 64 (omega arith) e) t h
  simple_is s.ChainId t h = bytes_is _ (λ b e. length_short b 4 (omega arith) e) t h
  simple_is s.Address t h = bytes_is _ address_short t h

  on_value_is : (at : ℕ) (o : Option Val) → OnSome P o → Gives P (on_value at o)
  on_value_is at (Some x) h = h
  on_value_is at None h = tt

  -- ---- options, unions and pairs

  option_reads : (r : Reader) → Reads r → Reads (read_option r)
  option_reads r i at (prim name annots args) h = by (word_of_name name) args (m.args name annots args h)
    where
      by : (w : Word) (args : Trees) → Fs args → Gives P (option_named w r at args)
      by none_word none g = p.nothing
      by some_word (more t none) g = gives_mapped P P v.some (r (at + 1) t) p.some (i (at + 1) t (m.first t none g))
      by _ _ g = tt
  option_reads r i at (int n) h = tt
  option_reads r i at (str b) h = tt
  option_reads r i at (bytes b) h = tt
  option_reads r i at (seq ts) h = tt

  or_reads : (r q : Reader) → Reads r → Reads q → Reads (read_or r q)
  or_reads r q i j at (prim name annots args) h = by (word_of_name name) args (m.args name annots args h)
    where
      by : (w : Word) (args : Trees) → Fs args → Gives P (or_named w r q at args)
      by left_word (more t none) g = gives_mapped P P v.left (r (at + 1) t) p.left (i (at + 1) t (m.first t none g))
      by right_word (more t none) g = gives_mapped P P v.right (q (at + 1) t) p.right (j (at + 1) t (m.first t none g))
      by _ _ g = tt
  or_reads r q i j at (int n) h = tt
  or_reads r q i j at (str b) h = tt
  or_reads r q i j at (bytes b) h = tt
  or_reads r q i j at (seq ts) h = tt

  parts_read : (r q : Reader) (rest : ℕ → Trees → Literal Val) → Reads r → Reads q → PartsRead rest → (whole : ℕ) →
      PartsRead (read_parts r q rest whole)
  parts_read r q rest i j l whole at none h = tt
  parts_read r q rest i j l whole at (more t none) h = tt
  parts_read r q rest i j l whole at (more t (more u none)) h =
      gives_then P P (r at t) (λ x. mapped (v.both x) (q (at + size t) u)) (i at t (m.first t (more u none) h))
      (λ x f. gives_mapped P P (v.both x) (q (at + size t) u) (λ y g. p.both x y f g)
      (j (at + size t) u (m.first u none (m.rest t (more u none) h))))
  parts_read r q rest i j l whole at (more t (more u (more w ts))) h =
      gives_then P P (r at t) (λ x. mapped (v.both x) (rest (at + size t) (more u (more w ts))))
      (i at t (m.first t (more u (more w ts)) h))
      (λ x f. gives_mapped P P (v.both x) (rest (at + size t) (more u (more w ts))) (λ y g. p.both x y f g)
      (l (at + size t) (more u (more w ts)) (m.rest t (more u (more w ts)) h)))

  pair_reads : (r q : Reader) (rest : ℕ → ℕ → Trees → Literal Val) → Reads r → Reads q → ((whole : ℕ) → PartsRead (rest whole)) →
      (at : ℕ) (t : Tree) → F t → Gives P (read_parts r q (rest at) at (at + 1) (parts_of t))
  pair_reads r q rest i j l at (prim name annots args) h = by (word_of_name name)
    where
      by : (w : Word) → Gives P (read_parts r q (rest at) at (at + 1) (pair_named w args))
      by pair_word = parts_read r q (rest at) i j (l at) at (at + 1) args (m.args name annots args h)
      by _ = tt
  pair_reads r q rest i j l at (seq ts) h = parts_read r q (rest at) i j (l at) at (at + 1) ts (m.items ts h)
  pair_reads r q rest i j l at (int n) h = tt
  pair_reads r q rest i j l at (str b) h = tt
  pair_reads r q rest i j l at (bytes b) h = tt

  -- ---- lists, sets and maps

  -- as many as there are nodes
  abbrev AreElements : Trees → Vals → Type 0
  AreElements ts xs = All xs × (count_vals xs ≡ count ts)

  elements_read : (r : Reader) → Reads r → (at : ℕ) (ts : Trees) → Fs ts → Gives (AreElements ts) (read_elements r at ts)
  elements_read r i at none h = (p.no_value, refl)
  elements_read r i at (more t ts) h =
      gives_then P (AreElements (more t ts)) (r at t) (λ x. mapped (more_vals x) (read_elements r (at + size t) ts))
      (i at t (m.first t ts h))
      (λ x f. gives_mapped (AreElements ts) (AreElements (more t ts)) (more_vals x) (read_elements r (at + size t) ts)
      (λ xs g. (p.value x xs f g.0, ap suc g.1)) (elements_read r i (at + size t) ts (m.rest t ts h)))

  list_reads : (r : Reader) → Reads r → Reads (read_list r)
  list_reads r i at (seq ts) h = gives_mapped (AreElements ts) P v.list (read_elements r (at + 1) ts) (λ xs f. m.list ts xs h f.1 f.0)
      (elements_read r i (at + 1) ts (m.items ts h))
  list_reads r i at (int n) h = tt
  list_reads r i at (str b) h = tt
  list_reads r i at (bytes b) h = tt
  list_reads r i at (prim name annots ts) h = tt

  increasing_read : (r : Reader) → Reads r → (before : Option Val) (at : ℕ) (ts : Trees) → Fs ts →
      Gives All (read_increasing r before at ts)
  increasing_read r i before at none h = p.no_value
  increasing_read r i before at (more t ts) h =
      gives_then P All (r at t)
      (λ x. cond (is_behind before x) (mapped (more_vals x) (read_increasing r (Some x) (at + size t) ts)) (bad at))
      (i at t (m.first t ts h))
      (λ x f. gives_if All (is_behind before x) at (mapped (more_vals x) (read_increasing r (Some x) (at + size t) ts))
      (gives_mapped All All (more_vals x) (read_increasing r (Some x) (at + size t) ts) (λ xs g. p.value x xs f g)
      (increasing_read r i (Some x) (at + size t) ts (m.rest t ts h))))

  set_reads : (r : Reader) → Reads r → Reads (read_set r)
  set_reads r i at (seq ts) h =
      gives_mapped All P v.set (read_increasing r None (at + 1) ts) p.set
      (increasing_read r i None (at + 1) ts (m.items ts h))
  set_reads r i at (int n) h = tt
  set_reads r i at (str b) h = tt
  set_reads r i at (bytes b) h = tt
  set_reads r i at (prim name annots ts) h = tt

  abbrev IsEntry : Entry → Type 0
  IsEntry e = P e.key × P e.value

  entry_reads : (r q : Reader) → Reads r → Reads q → (before : Option Val) (at : ℕ) (t : Tree) → F t →
      Gives IsEntry (read_entry r q before at t)
  entry_reads r q i j before at (prim name annots args) h = by (word_of_name name) args (m.args name annots args h)
    where
      by : (w : Word) (args : Trees) → Fs args → Gives IsEntry (entry_named w r q before at args)
      by entry_word (more t (more u none)) g =
          gives_then P IsEntry (r (at + 1) t)
          (λ x. cond (is_behind before x) (mapped (λ y. record { key = x; value = y }) (q (at + 1 + size t) u)) (bad at))
          (i (at + 1) t (m.first t (more u none) g))
          (λ x f. gives_if IsEntry (is_behind before x) at (mapped (λ y. record { key = x; value = y }) (q (at + 1 + size t) u))
          (gives_mapped P IsEntry (λ y. record { key = x; value = y }) (q (at + 1 + size t) u) (λ y o. (f, o))
          (j (at + 1 + size t) u (m.first u none (m.rest t (more u none) g)))))
      by _ _ g = tt
  entry_reads r q i j before at (int n) h = tt
  entry_reads r q i j before at (str b) h = tt
  entry_reads r q i j before at (bytes b) h = tt
  entry_reads r q i j before at (seq ts) h = tt

  entries_read : (r q : Reader) → Reads r → Reads q → (before : Option Val) (at : ℕ) (ts : Trees) → Fs ts →
      Gives Entries (read_entries r q before at ts)
  entries_read r q i j before at none h = p.no_entry
  entries_read r q i j before at (more t ts) h =
      gives_then IsEntry Entries (read_entry r q before at t)
      (λ e. mapped (more_pairs e.key e.value) (read_entries r q (Some e.key) (at + size t) ts))
      (entry_reads r q i j before at t (m.first t ts h))
      (λ e f. gives_mapped Entries Entries (more_pairs e.key e.value) (read_entries r q (Some e.key) (at + size t) ts)
      (λ es g. p.entry e.key e.value es f.0 f.1 g) (entries_read r q i j (Some e.key) (at + size t) ts (m.rest t ts h)))

  table_reads : (made : Pairs → Val) → ((es : Pairs) → Entries es → P (made es)) → (r q : Reader) → Reads r → Reads q →
      Reads (read_table made r q)
  table_reads made g r q i j at (seq ts) h = gives_mapped Entries P made (read_entries r q None (at + 1) ts) g
      (entries_read r q i j None (at + 1) ts (m.items ts h))
  table_reads made g r q i j at (int n) h = tt
  table_reads made g r q i j at (str b) h = tt
  table_reads made g r q i j at (bytes b) h = tt
  table_reads made g r q i j at (prim name annots ts) h = tt

  -- ---- lambdas and contracts

  body_reads : (a b : Kind) (recursive : Bool) → Reads (read_body a b recursive)
  body_reads a b recursive at (seq ts) h = m.lambda ts recursive h
  body_reads a b recursive at (int n) h = tt
  body_reads a b recursive at (str s) h = tt
  body_reads a b recursive at (bytes s) h = tt
  body_reads a b recursive at (prim name annots ts) h = tt

  lambda_reads : (a b : Kind) → Reads (read_lambda a b)
  lambda_reads a b at (prim name annots args) h = by (word_of_name name) args (m.args name annots args h)
    where
      by : (w : Word) (args : Trees) → Fs args → Gives P (recursive_named w a b at args)
      by recursive_word (more t none) g = body_reads a b true (at + 1) t (m.first t none g)
      by _ _ g = tt
  lambda_reads a b at (int n) h = tt
  lambda_reads a b at (str s) h = tt
  lambda_reads a b at (bytes s) h = tt
  lambda_reads a b at (seq ts) h = m.lambda ts false h

  contract_reads : (a : Kind) → Reads (read_contract a)
  contract_reads a at (bytes b) h = by (is_address b) refl
    where
      by : (t : Bool) → is_address b ≡ t → Gives P (cond t (good (v.bytes b) (claim at b a ∷ [])) (bad at))
      by true e = m.bytes b h (address_short b e)
      by false e = tt
  contract_reads a at (int n) h = tt
  contract_reads a at (str s) h = tt
  contract_reads a at (prim name annots ts) h = tt
  contract_reads a at (seq ts) h = tt

  -- ---- all types

  mutual
    pub reads : (a : Kind) → Reads (read a)
    reads (k.simple u) at t h = on_value_is at (simple_value u t) (simple_is u t h)
    reads k.operation at t h = tt
    reads (k.option a) at t h = option_reads (read a) (reads a) at t h
    reads (k.or a b) at t h = or_reads (read a) (read b) (reads a) (reads b) at t h
    reads (k.pair a b) at t h = pair_reads (read a) (read b) (read_rest b) (reads a) (reads b) (rest_reads b) at t h
    reads (k.list a) at t h = list_reads (read a) (reads a) at t h
    reads (k.set a) at t h = set_reads (read a) (reads a) at t h
    reads (k.map a b) at t h = table_reads v.table p.table (read a) (read b) (reads a) (reads b) at t h
    reads (k.big_map a b) at t h = table_reads v.big_table p.big_table (read a) (read b) (reads a) (reads b) at t h
    reads (k.lambda a b) at t h = lambda_reads a b at t h
    reads (k.contract a) at t h = contract_reads a at t h
    reads (k.ticket a) at t h = tt

    rest_reads : (a : Kind) (whole : ℕ) → PartsRead (read_rest a whole)
    rest_reads (k.pair a b) whole at ts h = parts_read (read a) (read b) (read_rest b whole) (reads a) (reads b) (rest_reads b whole) whole at
        ts h
    rest_reads (k.simple u) whole at ts h = tt
    rest_reads k.operation whole at ts h = tt
    rest_reads (k.option a) whole at ts h = tt
    rest_reads (k.or a b) whole at ts h = tt
    rest_reads (k.list a) whole at ts h = tt
    rest_reads (k.set a) whole at ts h = tt
    rest_reads (k.map a b) whole at ts h = tt
    rest_reads (k.big_map a b) whole at ts h = tt
    rest_reads (k.lambda a b) whole at ts h = tt
    rest_reads (k.contract a) whole at ts h = tt
    rest_reads (k.ticket a) whole at ts h = tt
