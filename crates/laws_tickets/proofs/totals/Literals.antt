-- Literals that are read agree with their types.
use Rattle.std.proofs.Common.{◌≡◌, ℕ, ◌+◌, Bool, true, false, Option, Some, None, List, [], refl}
use Rattle.std.specs.Prelude.{if◌then◌else◌, ℤ}
use Rattle.std.specs.declared.cmp.Ordering.{Ordering}
use Rattle.std.specs.declared.cmp.Ordering.TheVariants.{Less, Equal, Greater}
use Rattle.std.specs.Ordering.{is_lt}
use Rattle.std.proofs.lemmas.Bool.{and_parts}
use Rattle.rules_text.specs.nodes.Tree.{Tree, int, str, bytes, prim, seq, Trees, none, more, size}
use Rattle.rules_data.specs.declared.types.Simple.{Simple}
use Rattle.rules_data.specs.declared.types.Simple.TheVariants as s
use Rattle.rules_data.specs.types.Kind.{Kind}
use Rattle.rules_data.specs.types.Kind as k
use Rattle.rules_data.specs.values.Val.{Val, more_vals, Pairs, no_pair, more_pairs, is_comparable}
use Rattle.rules_data.specs.values.Val as v
use Rattle.rules_data.specs.values.Order.{order}
use Rattle.rules_data.specs.values.Tickets.{tickets}
use Rattle.rules_data.specs.values.Forms.{AllHave, AllEntriesHave}
use Rattle.rules_data.specs.values.Literals.{Word, unit_word, true_word, false_word, none_word, some_word, left_word, right_word, entry_word, word_of_name, Pending, Literal, good, bad, with_pending, and_then, mapped, Reader, tested, number_value, text_value, bytes_value, bare_value, unit_of_word, truth_of_word, simple_value, on_value, option_named, or_named, read_parts, read_elements, is_behind, read_increasing, Entry, read_binding, entry_named, read_entry, read_entries}
use Rattle.laws_tickets.specs.totals.Agreement.{Agrees}

-- what is read has P
abbrev pub AllRead : {A : Type 0} → (A → Type 0) → Literal A → Type 0
AllRead P (good x ps) = P x
AllRead P (bad l) = Unit {0}

abbrev pub Reads : (Val → Type 0) → Reader → Type 0
Reads P r = (at : ℕ) (t : Tree) → AllRead P (r at t)

pending_all : {A : Type 0} (P : A → Type 0) (ps : List Pending) (x : Literal A) → AllRead P x → AllRead P (with_pending ps x)
pending_all P ps (good x qs) h = h
pending_all P ps (bad l) h = tt

pub then_all : {A B : Type 0} (Q : A → Type 0) (P : B → Type 0) (x : Literal A) (next : A → Literal B) → AllRead Q x →
    ((y : A) → Q y → AllRead P (next y)) → AllRead P (and_then x next)
then_all Q P (good y ps) next q h = pending_all P ps (next y) (h y q)
then_all Q P (bad l) next q h = tt

pub mapped_all : {A B : Type 0} (Q : A → Type 0) (P : B → Type 0) (f : A → B) (x : Literal A) → AllRead Q x →
    ((y : A) → Q y → P (f y)) → AllRead P (mapped f x)
mapped_all Q P f (good y ps) q h = h y q
mapped_all Q P f (bad l) q h = tt

-- ---- types without arguments

abbrev pub IsBare : Option Val → Type 0
IsBare None = Unit {0}
IsBare (Some x) = tickets x ≡ []

tested_bare : (b : Bool) (x : Val) → tickets x ≡ [] → IsBare (tested b x)
tested_bare true x h = h
tested_bare false x h = tt

number_bare : (test : ℤ → Bool) (t : Tree) → IsBare (number_value test t)
number_bare test (int n) = tested_bare (test n) (v.number n) refl
number_bare test (str b) = tt
number_bare test (bytes b) = tt
number_bare test (prim name annots ts) = tt
number_bare test (seq ts) = tt

text_bare : (test : List ℕ → Bool) (t : Tree) → IsBare (text_value test t)
text_bare test (int n) = tt
text_bare test (str b) = tested_bare (test b) (v.text b) refl
text_bare test (bytes b) = tt
text_bare test (prim name annots ts) = tt
text_bare test (seq ts) = tt

bytes_bare : (test : List ℕ → Bool) (t : Tree) → IsBare (bytes_value test t)
bytes_bare test (int n) = tt
bytes_bare test (str b) = tt
bytes_bare test (bytes b) = tested_bare (test b) (v.bytes b) refl
bytes_bare test (prim name annots ts) = tt
bytes_bare test (seq ts) = tt

word_bare : (of_word : Word → Option Val) → ((w : Word) → IsBare (of_word w)) → (t : Tree) → IsBare (bare_value of_word t)
word_bare of_word h (int n) = tt
word_bare of_word h (str b) = tt
word_bare of_word h (bytes b) = tt
word_bare of_word h (prim name annots none) = h (word_of_name name)
word_bare of_word h (prim name annots (more t ts)) = tt
word_bare of_word h (seq ts) = tt

unit_bare : (w : Word) → IsBare (unit_of_word w)
unit_bare unit_word = refl
unit_bare _ = tt

truth_bare : (w : Word) → IsBare (truth_of_word w)
truth_bare true_word = refl
truth_bare false_word = refl
truth_bare _ = tt

pub simple_bare : (z : Simple) (t : Tree) → IsBare (simple_value z t)
simple_bare s.Unit t = word_bare unit_of_word unit_bare t
simple_bare s.Never t = tt
simple_bare s.Bool t = word_bare truth_of_word truth_bare t
simple_bare s.Int t = number_bare _ t
simple_bare s.Nat t = number_bare _ t
simple_bare s.Mutez t = number_bare _ t
simple_bare s.Timestamp t = number_bare _ t
simple_bare s.String t = text_bare _ t
simple_bare s.Bytes t = bytes_bare _ t
simple_bare s.Key t = bytes_bare _ t
simple_bare s.KeyHash t = bytes_bare _ t
simple_bare s.Signature t = bytes_bare _ t
simple_bare s.ChainId t = bytes_bare _ t
simple_bare s.Address t = bytes_bare _ t

pub value_all : (z : Simple) (at : ℕ) (x : Option Val) → IsBare x → AllRead (Agrees (k.simple z)) (on_value at x)
value_all z at None h = tt
value_all z at (Some x) h = h

-- ---- options, unions and pairs

pub option_all : (a : Kind) (r : Reader) → Reads (Agrees a) r → (w : Word) (at : ℕ) (ts : Trees) →
    AllRead (Agrees (k.option a)) (option_named w r at ts)
option_all a r h none_word at none = tt
option_all a r h some_word at (more t none) =
    mapped_all (Agrees a) (Agrees (k.option a)) v.some (r (at + 1) t) (h (at + 1) t) (λ x g. g)
option_all a r h _ at _ = tt

pub or_all : (a b : Kind) (r q : Reader) → Reads (Agrees a) r → Reads (Agrees b) q → (w : Word) (at : ℕ) (ts : Trees) →
    AllRead (Agrees (k.or a b)) (or_named w r q at ts)
or_all a b r q h g left_word at (more t none) =
    mapped_all (Agrees a) (Agrees (k.or a b)) v.left (r (at + 1) t) (h (at + 1) t) (λ x g. g)
or_all a b r q h g right_word at (more t none) =
    mapped_all (Agrees b) (Agrees (k.or a b)) v.right (q (at + 1) t) (g (at + 1) t) (λ x g. g)
or_all a b r q h g _ at _ = tt

pub parts_all : (a b : Kind) (r q : Reader) (rest : ℕ → Trees → Literal Val) → Reads (Agrees a) r → Reads (Agrees b) q →
    ((at : ℕ) (ts : Trees) → AllRead (Agrees b) (rest at ts)) →
    (whole at : ℕ) (ts : Trees) → AllRead (Agrees (k.pair a b)) (read_parts r q rest whole at ts)
parts_all a b r q rest h g l whole at (more t (more u none)) =
    then_all (Agrees a) (Agrees (k.pair a b)) (r at t) (λ x. mapped (v.both x) (q (at + size t) u)) (h at t)
    (λ x f. mapped_all (Agrees b) (Agrees (k.pair a b)) (v.both x) (q (at + size t) u) (g (at + size t) u) (λ y i. (f, i)))
parts_all a b r q rest h g l whole at (more t (more u (more w ts))) =
    then_all (Agrees a) (Agrees (k.pair a b)) (r at t) (λ x. mapped (v.both x) (rest (at + size t) (more u (more w ts)))) (h at t)
    (λ x f. mapped_all (Agrees b) (Agrees (k.pair a b)) (v.both x) (rest (at + size t) (more u (more w ts)))
    (l (at + size t) (more u (more w ts))) (λ y i. (f, i)))
parts_all a b r q rest h g l whole at none = tt
parts_all a b r q rest h g l whole at (more t none) = tt

-- ---- lists, sets and maps

pub elements_all : (P : Val → Type 0) (r : Reader) → Reads P r → (at : ℕ) (ts : Trees) →
    AllRead (AllHave P) (read_elements r at ts)
elements_all P r h at none = tt
elements_all P r h at (more t ts) =
    then_all P (AllHave P) (r at t) (λ x. mapped (more_vals x) (read_elements r (at + size t) ts)) (h at t)
    (λ x f. mapped_all (AllHave P) (AllHave P) (more_vals x) (read_elements r (at + size t) ts)
    (elements_all P r h (at + size t) ts) (λ xs i. (f, i)))

pub increasing_all : (P : Val → Type 0) (r : Reader) → Reads P r → (before : Option Val) (at : ℕ) (ts : Trees) →
    AllRead (AllHave P) (read_increasing r before at ts)
increasing_all P r h before at none = tt
increasing_all P r h before at (more t ts) =
    then_all P (AllHave P) (r at t) (λ x. if is_behind before x then mapped (more_vals x)
    (read_increasing r (Some x) (at + size t) ts) else bad at) (h at t)
    (λ x f. by_test x f (is_behind before x) (increasing_all P r h (Some x) (at + size t) ts))
  where
    by_test : (x : Val) → P x → (b : Bool) → AllRead (AllHave P) (read_increasing r (Some x) (at + size t) ts) →
        AllRead (AllHave P) (if b then mapped (more_vals x) (read_increasing r (Some x) (at + size t) ts) else bad at)
    by_test x f true later =
        mapped_all (AllHave P) (AllHave P) (more_vals x) (read_increasing r (Some x) (at + size t) ts) later (λ xs i. (f, i))
    by_test x f false later = tt

-- a key that can stand behind another
abbrev pub IsBehind : Option Val → Val → Type 0
IsBehind None x = Unit {0}
IsBehind (Some y) x = order y x ≡ Less

less : (o : Ordering) → is_lt o ≡ true → o ≡ Less
less Less h = refl
less Equal h = cc
less Greater h = cc

behind : (before : Option Val) (x : Val) → is_behind before x ≡ true → IsBehind before x
behind None x h = tt
behind (Some y) x h = less (order y x) (and_parts (is_comparable x) (is_lt (order y x)) h).1

module _ (P Q : Val → Type 0) (r q : Reader) (h : Reads P r) (g : Reads Q q) where
  abbrev pub IsEntry : Option Val → Entry → Type 0
  IsEntry before e = P e.key × Q e.value × IsBehind before e.key

  binding_all : (before : Option Val) (at : ℕ) (t u : Tree) → AllRead (IsEntry before) (read_binding r q before at t u)
  binding_all before at t u =
      then_all P (IsEntry before) (r (at + 1) t)
      (λ x. if is_behind before x then mapped (λ y. record { key = x; value = y }) (q (at + 1 + size t) u) else bad at)
      (h (at + 1) t)
      (λ x f. by_test x f (is_behind before x) refl)
    where
      by_test : (x : Val) → P x → (b : Bool) → is_behind before x ≡ b →
          AllRead (IsEntry before) (if b then mapped (λ y. record { key = x; value = y }) (q (at + 1 + size t) u) else bad at)
      by_test x f true e =
          mapped_all Q (IsEntry before) (λ y. record { key = x; value = y }) (q (at + 1 + size t) u) (g (at + 1 + size t) u)
          (λ y i. (f, i, behind before x e))
      by_test x f false e = tt

  named_all : (w : Word) (before : Option Val) (at : ℕ) (ts : Trees) → AllRead (IsEntry before) (entry_named w r q before at ts)
  named_all entry_word before at (more t (more u none)) = binding_all before at t u
  named_all _ before at _ = tt

  entry_all : (before : Option Val) (at : ℕ) (t : Tree) → AllRead (IsEntry before) (read_entry r q before at t)
  entry_all before at (int n) = tt
  entry_all before at (str b) = tt
  entry_all before at (bytes b) = tt
  entry_all before at (prim name annots ts) = named_all (word_of_name name) before at ts
  entry_all before at (seq ts) = tt

-- entries whose keys stand behind one, each behind the one before it
abbrev pub StandBehind : Option Val → Pairs → Type 0
StandBehind before no_pair = Unit {0}
StandBehind before (more_pairs x y es) = IsBehind before x × StandBehind (Some x) es

module _ (P Q : Val → Type 0) (r q : Reader) (h : Reads P r) (g : Reads Q q) where
  pub entries_all : (before : Option Val) (at : ℕ) (ts : Trees) →
      AllRead (λ es. AllEntriesHave P Q es × StandBehind before es) (read_entries r q before at ts)
  entries_all before at none = (tt, tt)
  entries_all before at (more t ts) =
      then_all (IsEntry P Q r q h g before) (λ es. AllEntriesHave P Q es × StandBehind before es) (read_entry r q before at t)
      (λ e. mapped (more_pairs e.key e.value) (read_entries r q (Some e.key) (at + size t) ts))
      (entry_all P Q r q h g before at t)
      (λ e f. mapped_all (λ es. AllEntriesHave P Q es × StandBehind (Some e.key) es)
      (λ es. AllEntriesHave P Q es × StandBehind before es) (more_pairs e.key e.value)
      (read_entries r q (Some e.key) (at + size t) ts) (entries_all (Some e.key) (at + size t) ts)
      (λ es i. ((f.0, f.1, i.0), (f.2, i.1))))
