-- The names of canonical literals have codes.
use Rattle.std.proofs.Common.{◌≡◌, false, true, refl}
use Rattle.std.specs.Prelude.{codes, is_none}
use Rattle.rules_text.specs.nodes.Primitives.{primitive_names, code_of_name}
use Rattle.rules_data.specs.values.Val.{Val, Vals, no_val, more_vals, Pairs, no_pair, more_pairs}
use Rattle.rules_data.specs.values.Val as v
use Rattle.rules_data.specs.values.Canonical.{canonical, canonicals, canonical_entries}
use Rattle.laws_typing.specs.packing.Names.{HasCodes, HaveCodes, IsPackable, ArePackable, EntriesArePackable}

unit_coded : is_none (code_of_name (codes "Unit")) ≡ false
unfolding code_of_name primitive_names
unit_coded = refl

true_coded : is_none (code_of_name (codes "True")) ≡ false
unfolding code_of_name primitive_names
true_coded = refl

false_coded : is_none (code_of_name (codes "False")) ≡ false
unfolding code_of_name primitive_names
false_coded = refl

none_coded : is_none (code_of_name (codes "None")) ≡ false
unfolding code_of_name primitive_names
none_coded = refl

some_coded : is_none (code_of_name (codes "Some")) ≡ false
unfolding code_of_name primitive_names
some_coded = refl

left_coded : is_none (code_of_name (codes "Left")) ≡ false
unfolding code_of_name primitive_names
left_coded = refl

right_coded : is_none (code_of_name (codes "Right")) ≡ false
unfolding code_of_name primitive_names
right_coded = refl

pair_coded : is_none (code_of_name (codes "Pair")) ≡ false
unfolding code_of_name primitive_names
pair_coded = refl

entry_coded : is_none (code_of_name (codes "Elt")) ≡ false
unfolding code_of_name primitive_names
entry_coded = refl

recursive_coded : is_none (code_of_name (codes "Lambda_rec")) ≡ false
unfolding code_of_name primitive_names
recursive_coded = refl

mutual
  pub canonical_has_codes : (x : Val) → IsPackable x → HasCodes (canonical x)
  canonical_has_codes v.unit h = (unit_coded, tt)
  canonical_has_codes (v.truth true) h = (true_coded, tt)
  canonical_has_codes (v.truth false) h = (false_coded, tt)
  canonical_has_codes (v.number n) h = tt
  canonical_has_codes (v.text s) h = tt
  canonical_has_codes (v.bytes b) h = tt
  canonical_has_codes v.nothing h = (none_coded, tt)
  canonical_has_codes (v.some x) h = (some_coded, (canonical_has_codes x h, tt))
  canonical_has_codes (v.left x) h = (left_coded, (canonical_has_codes x h, tt))
  canonical_has_codes (v.right x) h = (right_coded, (canonical_has_codes x h, tt))
  canonical_has_codes (v.both x y) h = (pair_coded, (canonical_has_codes x h.0, (canonical_has_codes y h.1, tt)))
  canonical_has_codes (v.list xs) h = elements_coded xs h
  canonical_has_codes (v.set xs) h = elements_coded xs h
  canonical_has_codes (v.table es) h = entries_coded es h
  canonical_has_codes (v.big_table es) h = entries_coded es h
  canonical_has_codes (v.lambda t true) h = (recursive_coded, (h, tt))
  canonical_has_codes (v.lambda t false) h = h
  canonical_has_codes (v.operation n) h = tt
  canonical_has_codes (v.ticket issuer kind content amount) h = absurd h

  elements_coded : (xs : Vals) → ArePackable xs → HaveCodes (canonicals xs)
  elements_coded no_val h = tt
  elements_coded (more_vals x xs) h = (canonical_has_codes x h.0, elements_coded xs h.1)

  entries_coded : (es : Pairs) → EntriesArePackable es → HaveCodes (canonical_entries es)
  entries_coded no_pair h = tt
  entries_coded (more_pairs x y es) h =
      ((entry_coded, (canonical_has_codes x h.0, (canonical_has_codes y h.1, tt))), entries_coded es h.2)
