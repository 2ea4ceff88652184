-- What DROP burns.
use Rattle.std.proofs.Common.{◌≡◌, arith, ℕ, suc, ◌+◌, ◌≤◌, Bool, true, false, nat_le, take, drop, length, List, ◌∷◌, ◌++◌, flat_map, refl, ap, sym, ◌∙◌}
use Rattle.std.proofs.lemmas.Bool.Decides.{nat_tests}
use Rattle.rules_data.specs.values.Val.{Val}
use Rattle.rules_data.specs.values.Tickets.{tickets}
use Rattle.rules_code.specs.instructions.Straight as i
use Rattle.rules_code.specs.steps.Changes.{burns}
use Rattle.rules_code.specs.steps.Step.{done, discarding, where_true}
use Rattle.rules_code.specs.steps.Stack.{stack_step}
use Rattle.mich_term.specs.declared.value.Value.{Value}
use Rattle.mich_stack.specs.Ends.{Fits, IsFitting, gone}
use Rattle.mich_stack.specs.Views.{Sight, values}
use Rattle.mich_stack.proofs.ForCallers.{burnt_among_burns, given_ends, length_values}

-- of the values on top, the first and then the others
pub taken_gone : (count others : ℕ) (V : List Val) (v : Val) (W : List Val) → count ≡ others + 1 → V ≡ v ∷ W
    → flat_map tickets (take count V) ≡ tickets v ++ flat_map tickets (take others W)
taken_gone count others V v W e f =
    let next : count ≡ suc others = omega (arith, e) in
    ap (λ n. flat_map tickets (take n V)) next ∙ ap (λ X. flat_map tickets (take (suc others) X)) f

-- ---- DROP

pub drop_fits : (n : ℕ) (V : List Val) → IsFitting (stack_step (i.drop n) V) → n ≤ length V
drop_fits n V h = by (nat_le n (length V)) refl h
  where
    by : (b : Bool) → nat_le n (length V) ≡ b → IsFitting (where_true b (discarding (take n V) (drop n V))) → n ≤ length V
    by true e k = grind (arith, nat_tests)
    by false e k = absurd k

drop_is : (n : ℕ) (V : List Val) → n ≤ length V → stack_step (i.drop n) V ≡ discarding (take n V) (drop n V)
drop_is n V h = let e : nat_le n (length V) ≡ true = grind (arith, nat_tests) in ap (λ b. where_true b (discarding (take n V) (drop n V))) e

pub drop_gone : (n : ℕ) (V : List Val) → n ≤ length V → gone (stack_step (i.drop n) V) ≡ flat_map tickets (take n V)
drop_gone n V h = ap gone (drop_is n V h) ∙ burnt_among_burns (flat_map tickets (take n V))

pub drop_ends : (n : ℕ) (V W : List Val) → n ≤ length V → W ≡ drop n V → stack_step (i.drop n) V ≡ done W (burns (gone (stack_step (i.drop n) V)))
drop_ends n V W h e = given_ends (stack_step (i.drop n) V) W (flat_map tickets (take n V)) (drop_is n V h ∙ ap (λ X. done X (burns (flat_map tickets (take n V)))) (sym e))

-- there are as many values however big maps are seen
pub drop_within : (n : ℕ) (vs : List Value) → Fits (stack_step (i.drop n)) vs → (big : Sight) → n ≤ length (values big vs)
drop_within n vs fits big =
    let h = drop_fits n (values fits.0 vs) fits.1 in let a = length_values fits.0 vs in let b = length_values big vs in omega arith
