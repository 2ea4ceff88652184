-- Single steps.
use Rattle.std.specs.Prelude.{◌≡◌, refl, pos, negsuc, [], ◌∷◌, codes}
use Rattle.rules_data.specs.numbers.Limits.{int_or_limit, mutez_or_limit}
use Rattle.rules_data.specs.numbers.Integers.{division, shifted_left, shifted_right}
use Rattle.rules_data.specs.values.Val as v
use Rattle.rules_data.specs.values.Val.{no_val, more_vals, no_pair, more_pairs}
use Rattle.rules_code.specs.instructions.Straight as i
use Rattle.rules_code.specs.steps.Failure as f
use Rattle.rules_code.specs.steps.Step.{done, fails}
use Rattle.rules_code.specs.steps.Stack.{pair_step}
use Rattle.rules_code.specs.steps.Numbers.{number_step, logic_step}
use Rattle.rules_code.specs.steps.Texts.{text_step}

divides_the_least_by_minus_one : number_step i.ediv ((v.number (negsuc 170141183460469231731687303715884105727)) ∷ (v.number
    (negsuc 0)) ∷ []) ≡ fails f.integer_limit
unfolding int_or_limit mutez_or_limit division shifted_left shifted_right
divides_the_least_by_minus_one = refl

multiplies_past_the_limit : number_step i.mul_numbers ((v.number (pos 170141183460469231731687303715884105727)) ∷ (v.number
    (pos 2)) ∷ []) ≡ fails f.integer_limit
unfolding int_or_limit mutez_or_limit division shifted_left shifted_right
multiplies_past_the_limit = refl

divides_by_zero : number_step i.ediv ((v.number (pos 5)) ∷ (v.number (pos 0)) ∷ []) ≡ done (v.nothing ∷ []) []
unfolding int_or_limit mutez_or_limit division shifted_left shifted_right
divides_by_zero = refl

divides_a_negative_number : number_step i.ediv ((v.number (negsuc 6)) ∷ (v.number (pos 2)) ∷ []) ≡ done (v.some (v.both
    (v.number (negsuc 3)) (v.number (pos 1))) ∷ []) []
unfolding int_or_limit mutez_or_limit division shifted_left shifted_right
divides_a_negative_number = refl

divides_two_negative_numbers : number_step i.ediv ((v.number (negsuc 6)) ∷ (v.number (negsuc 1)) ∷ []) ≡ done (v.some (v.both
    (v.number (pos 4)) (v.number (pos 1))) ∷ []) []
unfolding int_or_limit mutez_or_limit division shifted_left shifted_right
divides_two_negative_numbers = refl

shifts_to_the_greatest_power : number_step i.lsl ((v.number (pos 1)) ∷ (v.number (pos 126)) ∷ []) ≡ done ((v.number (pos
    85070591730234615865843651857942052864)) ∷ []) []
unfolding int_or_limit mutez_or_limit division shifted_left shifted_right
shifts_to_the_greatest_power = refl

shifts_past_the_limit : number_step i.lsl ((v.number (pos 1)) ∷ (v.number (pos 127)) ∷ []) ≡ fails f.integer_limit
unfolding int_or_limit mutez_or_limit division shifted_left shifted_right
shifts_past_the_limit = refl

shifts_too_far : number_step i.lsl ((v.number (pos 0)) ∷ (v.number (pos 257)) ∷ []) ≡ fails f.shift_limit
unfolding int_or_limit mutez_or_limit division shifted_left shifted_right
shifts_too_far = refl

subtracts_more_mutez_than_there_are : number_step i.sub_mutez ((v.number (pos 2)) ∷ (v.number (pos 3)) ∷ []) ≡ done (v.nothing
    ∷ []) []
unfolding int_or_limit mutez_or_limit division shifted_left shifted_right
subtracts_more_mutez_than_there_are = refl

adds_mutez_past_the_limit : number_step i.add_amounts ((v.number (pos 9223372036854775807)) ∷ (v.number (pos 1)) ∷ []) ≡ fails
    f.mutez_overflow
unfolding int_or_limit mutez_or_limit division shifted_left shifted_right
adds_mutez_past_the_limit = refl

ands_a_negative_number : logic_step i.and_numbers ((v.number (negsuc 0)) ∷ (v.number (pos 5)) ∷ []) ≡ done ((v.number (pos 5))
    ∷ []) []
unfolding int_or_limit mutez_or_limit division shifted_left shifted_right
ands_a_negative_number = refl

inverts_zero : logic_step i.not_number ((v.number (pos 0)) ∷ []) ≡ done ((v.number (negsuc 0)) ∷ []) []
unfolding int_or_limit mutez_or_limit division shifted_left shifted_right
inverts_zero = refl

updates_the_third_part : pair_step (i.update_part 3) ((v.text (codes "x")) ∷ (v.both (v.number (pos 1)) (v.both (v.number (pos
    2)) (v.number (pos 3)))) ∷ []) ≡ done ((v.both (v.number (pos 1)) (v.both (v.text (codes "x")) (v.number (pos 3)))) ∷ [])
    []
unfolding int_or_limit mutez_or_limit division shifted_left shifted_right
updates_the_third_part = refl

slices_behind_the_end : text_step i.slice_string ((v.number (pos 3)) ∷ (v.number (pos 0)) ∷ (v.text (codes "abc")) ∷ []) ≡
    done (v.nothing ∷ []) []
unfolding int_or_limit mutez_or_limit division shifted_left shifted_right
slices_behind_the_end = refl

slices_to_the_end : text_step i.slice_string ((v.number (pos 1)) ∷ (v.number (pos 2)) ∷ (v.text (codes "abc")) ∷ []) ≡ done
    (v.some (v.text (codes "bc")) ∷ []) []
unfolding int_or_limit mutez_or_limit division shifted_left shifted_right
slices_to_the_end = refl
