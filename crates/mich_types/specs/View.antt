-- What the types of the code stand for.
use Rattle.rules_data.specs.types.Reading.{Former, simple_type, operation_type, one_argument, two_arguments, pair_type, no_type}
use Rattle.mich_types.specs.declared.former.Former.{Former as CodeFormer}
use Rattle.mich_types.specs.declared.former.Former.TheVariants as f

-- what a name makes of its arguments
abbrev pub former : CodeFormer → Former
former (f.Simple s) = simple_type s
former f.Operation = operation_type
former (f.One o) = one_argument o
former (f.Two t) = two_arguments t
former f.Pair = pair_type
former f.NoType = no_type
