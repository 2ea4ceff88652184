-- What the elements of a list weigh together.
use Rattle.std.proofs.Common.{◌≡◌, ◌+◌, ℕ, List, ◌∷◌, length, min, sym, ap, ◌∙◌, arith}
use Rattle.std.proofs.lemmas.List.{length-append}
use Rattle.rules_code.specs.steps.Sets.{element_count}
use Rattle.rules_code.specs.steps.Texts.{bytes_of, joined}
use Rattle.rules_data.specs.values.Val.{Val, Pairs, list}
use Rattle.mich_step.specs.collections.Seen.{vals_by}
use Rattle.mich_term.specs.Weights.{capped}
use Rattle.mich_term.specs.ValueView.{value_step}
use Rattle.mich_term.specs.declared.value.Value.{Value, fold-roll-Value}
use Rattle.mich_term.specs.declared.value.Value.TheOpen.{Value-F}
use Rattle.mich_term.specs.declared.value.Value.TheVariants as value
use Rattle.mich_term.specs.declared.value.Value.TheVariants.{rolls-List}
use Rattle.mich_stack.specs.Views.{Sight, seen}

pub list_seen : (big : Sight) (vs : List Value) → seen big (value.List vs) ≡ list (vals_by big vs)
list_seen big vs = ap (seen big) (sym (rolls-List vs)) ∙ fold-roll-Value Val Pairs value_step big (Value-F.List vs)

-- sums up to 2^64-1 are those of the parts
pub capped_more : (total seen n : ℕ) → total ≡ capped seen → (a b : ℕ) → a ≡ min (total + n) 18446744073709551615 → b ≡ min (a + 1) 18446744073709551615 → b ≡ capped (seen + n + 1)
capped_more total seen n e a b f g = omega (arith, e, f, g)

-- the bytes of elements, and their number
abbrev pub joined_weight : Sight → List Value → ℕ
joined_weight big vs = length (joined (vals_by big vs)) + element_count (vals_by big vs)

pub one_joined : (big : Sight) (x : Value) (vs : List Value) → joined_weight big (x ∷ vs) ≡ length (bytes_of (seen big x)) + 1 + joined_weight big vs
one_joined big x vs =
    let e = length-append (bytes_of (seen big x)) (joined (vals_by big vs)) in omega (arith, e)
