-- A value that passes the test on stored values has its type.
use Rattle.std.proofs.Common.{◌≡◌, Bool, true, false, ◌&&◌, List, [], ◌∷◌, refl, ap, ◌∙◌, arith}
use Rattle.std.specs.Ordering.{is_lt}
use Rattle.std.specs.declared.cmp.Ordering.{Ordering}
use Rattle.std.specs.declared.cmp.Ordering.TheVariants.{Less, Equal, Greater}
use Rattle.rules_text.specs.nodes.Tree.{Tree, int, str, bytes, prim, seq}
use Rattle.rules_data.specs.forms.Spelling.{is_place}
use Rattle.rules_code.specs.instructions.Context as place
use Rattle.rules_code.specs.instructions.Control.{call_kinds}
use Rattle.rules_code.specs.instructions.Same.{same_kind}
use Rattle.rules_data.specs.types.Kind.{Kind}
use Rattle.rules_data.specs.types.Kind as k
use Rattle.rules_code.specs.typing.Typing.{Typing, goes, fails, bad}
use Rattle.rules_code.specs.typing.Nodes.{tree_type}
use Rattle.rules_code.specs.typing.Fits.{Leads, Known, Fits}
use Rattle.rules_data.specs.values.Val.{Val, Vals, no_val, more_vals, Pairs, no_pair, more_pairs}
use Rattle.rules_data.specs.values.Val as v
use Rattle.rules_data.specs.values.Forms.{AllHave, AllEntriesHave, IsSequence, is_ticket_amount}
use Rattle.rules_data.specs.values.Order.{order}
use Rattle.rules_data.specs.values.Tables.{AreAbove, AreIncreasing, AreKeysAbove, AreIncreasingKeys}
use Rattle.laws_data.proofs.binary_lemmas.ForCallers.{half_as_many}
use Rattle.laws_data.proofs.forms_lemmas.ForCallers.{contract_is}
use Rattle.laws_data.proofs.types_lemmas.ForCallers.{same_kinds_true}
use Rattle.laws_data.proofs.values_lemmas.ForCallers.{order_lawful}
use Rattle.rules_world.specs.world.Good.{known_with}
use Rattle.rules_files.specs.snapshots.Spelt.{HasSpelling}
use Rattle.rules_files.specs.snapshots.Rules.{all_values, all_entries, are_increasing, keys, is_sequence, leads, is_stored}
use Rattle.laws_files.specs.snapshots.Laws.{StoredFit}

and_first : (a b : Bool) → a && b ≡ true → a ≡ true
and_first true b e = refl
and_first false b e = e

and_second : (a b : Bool) → a && b ≡ true → b ≡ true
and_second true b e = e
and_second false b e = absurd cc

-- ---- order

less : (o : Ordering) → is_lt o ≡ true → o ≡ Less
less Less e = refl
less Equal e = absurd cc
less Greater e = absurd cc

-- what is above the first of increasing values is below them all
above_all : (x y : Val) (ys : Vals) → order x y ≡ Less → AreAbove y ys → AreAbove x ys
above_all x y no_val h above = tt
above_all x y (more_vals z zs) h above = (order_lawful.trans x y z h above.0, above_all x y zs h above.1)

increasing : (xs : Vals) → are_increasing xs ≡ true → AreIncreasing xs
increasing no_val h = tt
increasing (more_vals x no_val) h = (tt, tt)
increasing (more_vals x (more_vals y ys)) h =
    let first : order x y ≡ Less = less (order x y) (and_first (is_lt (order x y)) (are_increasing (more_vals y ys)) h) in
    let others = increasing (more_vals y ys) (and_second (is_lt (order x y)) (are_increasing (more_vals y ys)) h) in
    ((first, above_all x y ys first others.0), others)

keys_above : (x : Val) (es : Pairs) → AreAbove x (keys es) → AreKeysAbove x es
keys_above x no_pair h = tt
keys_above x (more_pairs y z es) h = (h.0, keys_above x es h.1)

keys_increase : (es : Pairs) → AreIncreasing (keys es) → AreIncreasingKeys es
keys_increase no_pair h = tt
keys_increase (more_pairs x y es) h = (keys_above x es h.0, keys_increase es h.1)

-- ---- lambdas

leads_to : (t : Typing) (C : List Kind) → leads t C ≡ true → Leads t C
leads_to (goes B) C h = same_kinds_true B C h
leads_to fails C h = tt
leads_to (bad l) C h = absurd cc

sequence : (t : Tree) → is_sequence t ≡ true → IsSequence t
sequence (seq ts) h = tt
sequence (int n) h = absurd cc
sequence (str s) h = absurd cc
sequence (bytes b) h = absurd cc
sequence (prim name annotations args) h = absurd cc

-- ---- items

all_fit : (P Q : Val → Type 0) (test : Val → Bool) → ((x : Val) → P x → test x ≡ true → Q x) → (xs : Vals) → AllHave P xs → all_values test xs ≡ true → AllHave Q xs
all_fit P Q test each no_val h e = tt
all_fit P Q test each (more_vals x xs) h e =
    (each x h.0 (and_first (test x) (all_values test xs) e), all_fit P Q test each xs h.1 (and_second (test x) (all_values test xs) e))

entries_fit : (P Q R S : Val → Type 0) (key value : Val → Bool) → ((x : Val) → P x → key x ≡ true → R x) → ((y : Val) → Q y → value y ≡ true → S y)
    → (es : Pairs) → AllEntriesHave P Q es → all_entries key value es ≡ true → AllEntriesHave R S es
entries_fit P Q R S key value each_key each_value no_pair h e = tt
entries_fit P Q R S key value each_key each_value (more_pairs x y es) h e =
    let first = and_first (key x && value y) (all_entries key value es) e in (
      each_key x h.0 (and_first (key x) (value y) first),
      each_value y h.1 (and_second (key x) (value y) first),
      entries_fit P Q R S key value each_key each_value es h.2 (and_second (key x && value y) (all_entries key value es) e),
    )

-- ---- all types

value_fits : (w : Known) (a : Kind) (x : Val) → HasSpelling a x → is_stored a x ≡ true → Fits w a x
value_fits w (k.simple c) x h e = e
value_fits w (k.option a) v.nothing h e = tt
value_fits w (k.option a) (v.some x) h e = value_fits w a x h e
value_fits w (k.or a b) (v.left x) h e = value_fits w a x h e
value_fits w (k.or a b) (v.right x) h e = value_fits w b x h e
value_fits w (k.pair a b) (v.both x y) h e = (value_fits w a x h.0 (and_first (is_stored a x) (is_stored b y) e), value_fits w b y h.1 (and_second (is_stored a x) (is_stored b y) e))
value_fits w (k.list a) (v.list xs) h e = all_fit (HasSpelling a) (Fits w a) (is_stored a) (λ x is test. value_fits w a x is test) xs h.1 e
value_fits w (k.set a) (v.set xs) h e = (
  all_fit (HasSpelling a) (Fits w a) (is_stored a) (λ x is test. value_fits w a x is test) xs h.1 (and_first (all_values (is_stored a) xs) (are_increasing xs) e),
  increasing xs (and_second (all_values (is_stored a) xs) (are_increasing xs) e),
)
value_fits w (k.map a b) (v.table es) h e = (
  entries_fit (HasSpelling a) (HasSpelling b) (Fits w a) (Fits w b) (is_stored a) (is_stored b) (λ x is test. value_fits w a x is test) (λ y is test. value_fits w b y is test) es h.1
      (and_first (all_entries (is_stored a) (is_stored b) es) (are_increasing (keys es)) e),
  keys_increase es (increasing (keys es) (and_second (all_entries (is_stored a) (is_stored b) es) (are_increasing (keys es)) e)),
)
value_fits w (k.big_map a b) (v.big_table es) h e = (
  entries_fit (HasSpelling a) (HasSpelling b) (Fits w a) (Fits w b) (is_stored a) (is_stored b) (λ x is test. value_fits w a x is test) (λ y is test. value_fits w b y is test) es h.1
      (and_first (all_entries (is_stored a) (is_stored b) es) (are_increasing (keys es)) e),
  keys_increase es (increasing (keys es) (and_second (all_entries (is_stored a) (is_stored b) es) (are_increasing (keys es)) e)),
)
value_fits w (k.lambda a b) (v.lambda t recursive) h e =
    let kinds = leads (tree_type t place.lambda (call_kinds a b recursive)) (b ∷ []) in (
      sequence t (and_first (is_sequence t) kinds e),
      omega (arith, half_as_many t, h.0),
      leads_to (tree_type t place.lambda (call_kinds a b recursive)) (b ∷ []) (and_second (is_sequence t) kinds e),
    )
value_fits w (k.ticket a) (v.ticket issuer kind content amount) h e =
    let first = and_first (same_kind kind a && is_stored a content) (is_ticket_amount amount) e in (
      h.0,
      value_fits w a content h.2 (and_second (same_kind kind a) (is_stored a content) first),
      and_second (same_kind kind a && is_stored a content) (is_ticket_amount amount) e,
      ap is_place h.1.2 ∙ contract_is h.1.0 h.1.1,
    )
value_fits w a x h e = absurd h

pub stored_fit : StoredFit
stored_fit w a x h e = value_fits (known_with w []) a x h e
