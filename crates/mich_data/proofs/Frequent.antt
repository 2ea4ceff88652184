-- What the names of four letters make.
use Rattle.std.proofs.Common.{◌≡◌, codes, refl}
use Rattle.rules_text.specs.nodes.Primitives.{code_of_name, primitive_names, primitive_of_code, primitive_of_name, primitives}
use Rattle.rules_data.specs.values.Literals.{word_of_name, true_word, unit_word, none_word, some_word, left_word, pair_word}

pub true_is : word_of_name (codes "True") ≡ true_word
unfolding word_of_name primitive_of_name primitive_of_code code_of_name primitive_names primitives
true_is = refl

pub unit_is : word_of_name (codes "Unit") ≡ unit_word
unfolding word_of_name primitive_of_name primitive_of_code code_of_name primitive_names primitives
unit_is = refl

pub none_is : word_of_name (codes "None") ≡ none_word
unfolding word_of_name primitive_of_name primitive_of_code code_of_name primitive_names primitives
none_is = refl

pub some_is : word_of_name (codes "Some") ≡ some_word
unfolding word_of_name primitive_of_name primitive_of_code code_of_name primitive_names primitives
some_is = refl

pub left_is : word_of_name (codes "Left") ≡ left_word
unfolding word_of_name primitive_of_name primitive_of_code code_of_name primitive_names primitives
left_is = refl

pub pair_is : word_of_name (codes "Pair") ≡ pair_word
unfolding word_of_name primitive_of_name primitive_of_code code_of_name primitive_names primitives
pair_is = refl
