-- What the code does to entries is what the definitions do to pairs.
use Rattle.std.proofs.Common.{◌≡◌, List, [], ◌∷◌, refl, ap, ◌∙◌, Bool, true, false}
use Rattle.std.specs.Prelude.{Option, Some, option_map, if◌then◌else◌}
use Rattle.std.specs.declared.cmp.Ordering.{Ordering}
use Rattle.std.specs.declared.cmp.Ordering.TheVariants.{Less, Equal, Greater}
use Rattle.std.specs.Ordering.{match_ordering, is_eq, ordering_reverse}
use Rattle.std.specs.Map.{keys_of}
use Rattle.std.specs.List.{AllByRecursion}
use Rattle.std.proofs.lemmas.Map.Keys.{sorted_head, sorted_tail}
use Rattle.rules_data.specs.values.Val.{Val, Pairs, no_pair, more_pairs}
use Rattle.rules_data.specs.values.Order.{order}
use Rattle.laws_data.proofs.values_lemmas.ForCallers.{order_lawful}
use Rattle.rules_data.specs.values.Tables.{value_at, with_value, without_key, AreKeysAbove, AreIncreasingKeys}
use Rattle.mich_term.specs.Laws.{PutsIncreasing, TakesIncreasing}
use Rattle.mich_term.specs.Keyed.{found, with, without, by, IsIncreasing}
use Rattle.mich_term.specs.View.{datum}
use Rattle.mich_term.specs.ValueView.{val, pairs}
use Rattle.mich_term.specs.declared.datum.Datum.{Datum}
use Rattle.mich_term.specs.declared.value.Value.{Value}

abbrev Entries : Type 0
Entries = List (Datum × Value)

chosen : (b : Bool) (v : Value) (o : Option Value) → option_map val (if b then Some v else o) ≡ (if b then Some (val v) else option_map val o)
chosen true v o = refl
chosen false v o = refl

pub found_is : (k : Datum) (es : Entries) → option_map val (found k es) ≡ value_at (datum k) (pairs es)
found_is k [] = refl
found_is k (e ∷ es) = chosen (is_eq (by k e.0)) e.1 (found k es) ∙ ap (λ o. if is_eq (by k e.0) then Some (val e.1) else o) (found_is k es)

placed : (o : Ordering) (a b c : Entries) → pairs (match_ordering o a b c) ≡ match_ordering o (pairs a) (pairs b) (pairs c)
placed Less a b c = refl
placed Equal a b c = refl
placed Greater a b c = refl

pub with_is : (k : Datum) (v : Value) (es : Entries) → pairs (with k v es) ≡ with_value (datum k) (val v) (pairs es)
with_is k v [] = refl
with_is k v (e ∷ es) = placed (by k e.0) ((k, v) ∷ e ∷ es) ((e.0, v) ∷ es) (e ∷ with k v es)
    ∙ ap (λ ps. match_ordering (by k e.0) (more_pairs (datum k) (val v) (pairs (e ∷ es))) (more_pairs (datum e.0) (val v) (pairs es)) (more_pairs (datum e.0) (val e.1) ps)) (with_is k v es)

kept : (b : Bool) (a c : Entries) → pairs (if b then a else c) ≡ (if b then pairs a else pairs c)
kept true a c = refl
kept false a c = refl

pub without_is : (k : Datum) (es : Entries) → pairs (without k es) ≡ without_key (datum k) (pairs es)
without_is k [] = refl
without_is k (e ∷ es) = kept (is_eq (by k e.0)) es (e ∷ without k es)
    ∙ ap (λ ps. if is_eq (by k e.0) then pairs es else more_pairs (datum e.0) (val e.1) ps) (without_is k es)

-- the keys of a table increase
above_is : (k : Datum) (es : Entries) → AllByRecursion (λ j. by k j ≡ Less) (keys_of es) → AreKeysAbove (datum k) (pairs es)
above_is k [] a = tt
above_is k (e ∷ es) a = (a.0, above_is k es a.1)

pub increasing_is : (es : Entries) → IsIncreasing (keys_of es) → AreIncreasingKeys (pairs es)
increasing_is [] s = tt
increasing_is (e ∷ es) s = (above_is e.0 es (sorted_head by e.0 (keys_of es) s), increasing_is es (sorted_tail by e.0 (keys_of es) s))

-- what is put into an increasing map leaves it increasing
higher : (k j : Val) (ps : Pairs) → order k j ≡ Less → AreKeysAbove j ps → AreKeysAbove k ps
higher k j no_pair h a = tt
higher k j (more_pairs i v ps) h a = (order_lawful.trans k j i h a.0, higher k j ps h a.1)

stays_above : (i k v : Val) (ps : Pairs) → order i k ≡ Less → AreKeysAbove i ps → AreKeysAbove i (with_value k v ps)
stays_above i k v no_pair h a = (h, tt)
stays_above i k v (more_pairs j w ps) h a = by_case (order k j) (stays_above i k v ps h a.1)
  where
    by_case : (o : Ordering) → AreKeysAbove i (with_value k v ps) → AreKeysAbove i (match_ordering o (more_pairs k v (more_pairs j w ps)) (more_pairs j v ps) (more_pairs j w (with_value k v ps)))
    by_case Less later = (h, a)
    by_case Equal later = a
    by_case Greater later = (a.0, later)

back : (k j : Val) → order k j ≡ Greater → order j k ≡ Less
back k j h = order_lawful.antisymm j k ∙ ap ordering_reverse h

pub puts_increasing : PutsIncreasing
puts_increasing k v no_pair s = (tt, tt)
puts_increasing k v (more_pairs j w ps) s = by_case (order k j) refl (puts_increasing k v ps s.1)
  where
    by_case : (o : Ordering) → order k j ≡ o → AreIncreasingKeys (with_value k v ps) → AreIncreasingKeys (match_ordering o (more_pairs k v (more_pairs j w ps)) (more_pairs j v ps) (more_pairs j w (with_value k v ps)))
    by_case Less h later = ((h, higher k j ps h s.0), s)
    by_case Equal h later = s
    by_case Greater h later = (stays_above j k v ps (back k j h) s.0, later)

-- an entry that is taken away leaves the rest increasing
still_above : (i k : Val) (ps : Pairs) → AreKeysAbove i ps → AreKeysAbove i (without_key k ps)
still_above i k no_pair a = tt
still_above i k (more_pairs j w ps) a = by_case (is_eq (order k j)) (still_above i k ps a.1)
  where
    by_case : (b : Bool) → AreKeysAbove i (without_key k ps) → AreKeysAbove i (if b then ps else more_pairs j w (without_key k ps))
    by_case true later = a.1
    by_case false later = (a.0, later)

pub takes_increasing : TakesIncreasing
takes_increasing k no_pair s = tt
takes_increasing k (more_pairs j w ps) s = by_case (is_eq (order k j)) (takes_increasing k ps s.1)
  where
    by_case : (b : Bool) → AreIncreasingKeys (without_key k ps) → AreIncreasingKeys (if b then ps else more_pairs j w (without_key k ps))
    by_case true later = s.1
    by_case false later = (still_above j k ps s.0, later)
