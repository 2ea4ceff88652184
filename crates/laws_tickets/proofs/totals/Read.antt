-- Literals that are read agree with their types: all types together.
use Rattle.std.proofs.Common.{◌≡◌, ℕ, ◌+◌, Bool, true, false, Option, Some, None, [], ◌∷◌}
use Rattle.std.specs.Prelude.{if◌then◌else◌}
use Rattle.std.specs.declared.cmp.Ordering.TheVariants.{Less}
use Rattle.rules_text.specs.nodes.Tree.{Tree, int, str, bytes, prim, seq, Trees, none, more}
use Rattle.rules_data.specs.types.Kind.{Kind}
use Rattle.rules_data.specs.types.Kind as k
use Rattle.rules_data.specs.types.Attributes.{comparable}
use Rattle.rules_data.specs.values.Val.{Val, Pairs, no_pair, more_pairs}
use Rattle.rules_data.specs.values.Val as v
use Rattle.rules_data.specs.values.Order.{order}
use Rattle.rules_data.specs.values.Tables.{AreKeysAbove, AreIncreasingKeys}
use Rattle.rules_data.specs.forms.Spelling.{is_address}
use Rattle.rules_data.specs.values.Forms.{AllHave, AllEntriesHave}
use Rattle.rules_data.specs.values.Literals.{Word, recursive_word, word_of_name, claim, good, bad, mapped, Reader, simple_value, parts_of, read_elements, read_increasing, read_entries, read_table, read_body, recursive_named, read_lambda, read_contract, read, read_rest}
use Rattle.laws_data.specs.types.Laws.{IsWellFormed}
use Rattle.laws_tickets.specs.totals.Agreement.{Agrees}
use Rattle.laws_data.proofs.values_lemmas.ForCallers.{order_lawful}
use Rattle.laws_tickets.proofs.totals.Literals.{AllRead, Reads, mapped_all, simple_bare, value_all, option_all, or_all, parts_all, elements_all, increasing_all, StandBehind, entries_all}

-- entries that stand behind one another have increasing keys
above : (x y : Val) (es : Pairs) → order x y ≡ Less → AreKeysAbove y es → AreKeysAbove x es
above x y no_pair h a = tt
above x y (more_pairs z w es) h a = (order_lawful.trans x y z h a.0, above x y es h a.1)

stand_above : (x : Val) (es : Pairs) → StandBehind (Some x) es → AreKeysAbove x es
stand_above x no_pair h = tt
stand_above x (more_pairs y w es) h = (h.0, above x y es h.0 (stand_above y es h.1))

stand_increasing : (before : Option Val) (es : Pairs) → StandBehind before es → AreIncreasingKeys es
stand_increasing before no_pair h = tt
stand_increasing before (more_pairs x y es) h = (stand_above x es h.1, stand_increasing (Some x) es h.1)

-- ---- each form

list_all : (a : Kind) (r : Reader) → Reads (Agrees a) r → (at : ℕ) (ts : Trees) →
    AllRead (Agrees (k.list a)) (mapped v.list (read_elements r at ts))
list_all a r h at ts =
    mapped_all (AllHave (Agrees a)) (Agrees (k.list a)) v.list (read_elements r at ts) (elements_all (Agrees a) r h at ts)
    (λ xs g. g)

set_all : (a : Kind) (r : Reader) → comparable a ≡ true → Reads (Agrees a) r → (at : ℕ) (ts : Trees) →
    AllRead (Agrees (k.set a)) (mapped v.set (read_increasing r None at ts))
set_all a r c h at ts =
    mapped_all (AllHave (Agrees a)) (Agrees (k.set a)) v.set (read_increasing r None at ts)
    (increasing_all (Agrees a) r h None at ts) (λ xs g. (c, g))

abbrev ArePairs : Kind → Kind → Pairs → Type 0
ArePairs a b es = AllEntriesHave (Agrees a) (Agrees b) es × StandBehind None es

table_all : (a b : Kind) (made : Pairs → Val) (c : Kind) (r q : Reader) → Reads (Agrees a) r → Reads (Agrees b) q →
    ((es : Pairs) → ArePairs a b es → Agrees c (made es)) →
    (at : ℕ) (t : Tree) → AllRead (Agrees c) (read_table made r q at t)
table_all a b made c r q h g f at (seq ts) =
    mapped_all (ArePairs a b) (Agrees c) made (read_entries r q None (at + 1) ts)
    (entries_all (Agrees a) (Agrees b) r q h g None (at + 1) ts) f
table_all a b made c r q h g f at (int n) = tt
table_all a b made c r q h g f at (str s) = tt
table_all a b made c r q h g f at (bytes s) = tt
table_all a b made c r q h g f at (prim name annots ts) = tt

body_all : (a b : Kind) (recursive : Bool) (at : ℕ) (t : Tree) → AllRead (Agrees (k.lambda a b)) (read_body a b recursive at t)
body_all a b recursive at (seq ts) = tt
body_all a b recursive at (int n) = tt
body_all a b recursive at (str s) = tt
body_all a b recursive at (bytes s) = tt
body_all a b recursive at (prim name annots ts) = tt

recursive_all : (a b : Kind) (w : Word) (at : ℕ) (ts : Trees) → AllRead (Agrees (k.lambda a b)) (recursive_named w a b at ts)
recursive_all a b recursive_word at (more t none) = body_all a b true (at + 1) t
recursive_all a b _ at _ = tt

lambda_all : (a b : Kind) (at : ℕ) (t : Tree) → AllRead (Agrees (k.lambda a b)) (read_lambda a b at t)
lambda_all a b at (prim name annots ts) = recursive_all a b (word_of_name name) at ts
lambda_all a b at (seq ts) = tt
lambda_all a b at (int n) = tt
lambda_all a b at (str s) = tt
lambda_all a b at (bytes s) = tt

contract_all : (a : Kind) (at : ℕ) (t : Tree) → AllRead (Agrees (k.contract a)) (read_contract a at t)
contract_all a at (bytes b) = by_test (is_address b)
  where
    by_test : (c : Bool) → AllRead (Agrees (k.contract a)) (if c then good (v.bytes b) (claim at b a ∷ []) else bad at)
    by_test true = tt
    by_test false = tt
contract_all a at (int n) = tt
contract_all a at (str s) = tt
contract_all a at (prim name annots ts) = tt
contract_all a at (seq ts) = tt

-- ---- all types

mutual
  pub read_agrees : (a : Kind) → IsWellFormed a → (at : ℕ) (t : Tree) → AllRead (Agrees a) (read a at t)
  read_agrees (k.simple z) h at t = value_all z at (simple_value z t) (simple_bare z t)
  read_agrees k.operation h at t = tt
  read_agrees (k.option a) h at (prim name annots ts) = option_all a (read a) (read_agrees a h) (word_of_name name) at ts
  read_agrees (k.option a) h at _ = tt
  read_agrees (k.or a b) h at (prim name annots ts) =
      or_all a b (read a) (read b) (read_agrees a h.0) (read_agrees b h.1) (word_of_name name) at ts
  read_agrees (k.or a b) h at _ = tt
  read_agrees (k.pair a b) h at t =
      parts_all a b (read a) (read b) (read_rest b at) (read_agrees a h.0) (read_agrees b h.1)
      (λ l ts. rest_agrees b h.1 at l ts) at (at + 1) (parts_of t)
  read_agrees (k.list a) h at (seq ts) = list_all a (read a) (read_agrees a h) (at + 1) ts
  read_agrees (k.list a) h at _ = tt
  read_agrees (k.set a) h at (seq ts) = set_all a (read a) h.0 (read_agrees a h.1) (at + 1) ts
  read_agrees (k.set a) h at _ = tt
  read_agrees (k.map a b) h at t =
      table_all a b v.table (k.map a b) (read a) (read b) (read_agrees a h.1) (read_agrees b h.2)
      (λ es g. (h.0, g.0, stand_increasing None es g.1)) at t
  read_agrees (k.big_map a b) h at t =
      table_all a b v.big_table (k.big_map a b) (read a) (read b) (read_agrees a h.2) (read_agrees b h.3)
      (λ es g. (h.0, g.0, stand_increasing None es g.1)) at t
  read_agrees (k.lambda a b) h at t = lambda_all a b at t
  read_agrees (k.contract a) h at t = contract_all a at t
  read_agrees (k.ticket a) h at t = tt

  rest_agrees : (a : Kind) → IsWellFormed a → (whole at : ℕ) (ts : Trees) → AllRead (Agrees a) (read_rest a whole at ts)
  rest_agrees (k.pair a b) h whole at ts =
      parts_all a b (read a) (read b) (read_rest b whole) (read_agrees a h.0) (read_agrees b h.1)
      (λ l us. rest_agrees b h.1 whole l us) whole at ts
  rest_agrees _ h whole at ts = tt
