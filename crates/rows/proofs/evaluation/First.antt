-- Small scripts.
use Rattle.std.specs.Prelude.{◌≡◌, refl, pos, [], codes}
use Rattle.rules_text.specs.nodes.Tree.{int, prim, seq, none, more}
use Rattle.rules_text.specs.nodes.Primitives.{primitive_names, primitives, code_of_name, primitive_of_code, primitive_of_name}
use Rattle.rules_data.specs.numbers.Limits.{int_or_limit}
use Rattle.rules_data.specs.declared.types.Simple.TheVariants as s
use Rattle.rules_data.specs.types.Kind as k
use Rattle.rules_data.specs.types.Reading.{former_of_name}
use Rattle.rules_data.specs.types.Entrypoints.{in_order}
use Rattle.rules_data.specs.values.Val as v
use Rattle.rules_data.specs.values.Val.{no_val, more_vals, no_pair, more_pairs}
use Rattle.rules_data.specs.values.Literals.{word_of_name}
use Rattle.rules_code.specs.steps.Failure as f
use Rattle.rows.specs.evaluation.Told.{ended, failure, ran}

-- parameter int ; storage int ; code { CAR ; NIL operation ; PAIR } on 9 and the storage 7 with the gas 3
takes_the_argument : ran (seq (more (prim (codes "parameter") [] (more (prim (codes "int") [] none) none)) (more (prim (codes
    "storage") [] (more (prim (codes "int") [] none) none)) (more (prim (codes "code") [] (more (seq (more (prim (codes "CAR")
    [] none) (more (prim (codes "NIL") [] (more (prim (codes "operation") [] none) none)) (more (prim (codes "PAIR") [] none)
    none)))) none)) none)))) (int (pos 9)) (int (pos 7)) 3 ≡ ended 3 [] no_val (int (pos 9)) []
unfolding primitive_names primitives code_of_name primitive_of_code primitive_of_name former_of_name word_of_name in_order
    int_or_limit
takes_the_argument = refl

-- parameter int ; storage int ; code { CAR ; NIL operation ; PAIR } on 9 and the storage 7 with the gas 2
out_of_gas : ran (seq (more (prim (codes "parameter") [] (more (prim (codes "int") [] none) none)) (more (prim (codes
    "storage") [] (more (prim (codes "int") [] none) none)) (more (prim (codes "code") [] (more (seq (more (prim (codes "CAR")
    [] none) (more (prim (codes "NIL") [] (more (prim (codes "operation") [] none) none)) (more (prim (codes "PAIR") [] none)
    none)))) none)) none)))) (int (pos 9)) (int (pos 7)) 2 ≡ failure f.out_of_gas
unfolding primitive_names primitives code_of_name primitive_of_code primitive_of_name former_of_name word_of_name in_order
    int_or_limit
out_of_gas = refl

-- parameter int ; storage int ; code { CAR ; PUSH int 1 ; ADD ; NIL operation ; PAIR } on 4 and the storage 0 with the gas 6
adds_one : ran (seq (more (prim (codes "parameter") [] (more (prim (codes "int") [] none) none)) (more (prim (codes "storage")
    [] (more (prim (codes "int") [] none) none)) (more (prim (codes "code") [] (more (seq (more (prim (codes "CAR") [] none)
    (more (prim (codes "PUSH") [] (more (prim (codes "int") [] none) (more (int (pos 1)) none))) (more (prim (codes "ADD") []
    none) (more (prim (codes "NIL") [] (more (prim (codes "operation") [] none) none)) (more (prim (codes "PAIR") [] none)
    none)))))) none)) none)))) (int (pos 4)) (int (pos 0)) 6 ≡ ended 6 [] no_val (int (pos 5)) []
unfolding primitive_names primitives code_of_name primitive_of_code primitive_of_name former_of_name word_of_name in_order
    int_or_limit
adds_one = refl

-- parameter int ; storage int ; code { CAR ; PUSH int 1 ; ADD ; NIL operation ; PAIR } on
-- 170141183460469231731687303715884105727 and the storage 0 with the gas 6
passes_the_integer_limit : ran (seq (more (prim (codes "parameter") [] (more (prim (codes "int") [] none) none)) (more (prim
    (codes "storage") [] (more (prim (codes "int") [] none) none)) (more (prim (codes "code") [] (more (seq (more (prim (codes
    "CAR") [] none) (more (prim (codes "PUSH") [] (more (prim (codes "int") [] none) (more (int (pos 1)) none))) (more (prim
    (codes "ADD") [] none) (more (prim (codes "NIL") [] (more (prim (codes "operation") [] none) none)) (more (prim (codes
    "PAIR") [] none) none)))))) none)) none)))) (int (pos 170141183460469231731687303715884105727)) (int (pos 0)) 6 ≡ failure
    f.integer_limit
unfolding primitive_names primitives code_of_name primitive_of_code primitive_of_name former_of_name word_of_name in_order
    int_or_limit
passes_the_integer_limit = refl

-- parameter int ; storage int ; code { CAR ; FAILWITH } on 9 and the storage 0 with the gas 6
fails_with_nine : ran (seq (more (prim (codes "parameter") [] (more (prim (codes "int") [] none) none)) (more (prim (codes
    "storage") [] (more (prim (codes "int") [] none) none)) (more (prim (codes "code") [] (more (seq (more (prim (codes "CAR")
    [] none) (more (prim (codes "FAILWITH") [] none) none))) none)) none)))) (int (pos 9)) (int (pos 0)) 6 ≡ failure
    (f.failed_with (k.simple s.Int) (v.number (pos 9)))
unfolding primitive_names primitives code_of_name primitive_of_code primitive_of_name former_of_name word_of_name in_order
    int_or_limit
fails_with_nine = refl
