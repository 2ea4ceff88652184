-- Integers by their groups of seven bits.
use Rattle.std.proofs.Common.{◌≡◌, ℕ, zero, suc, ◌+◌, ◌-◌, ◌*◌, ◌%◌, ◌^◌, ◌<◌, ◌≤◌, List, [], ◌∷◌, Bool, true, false, None, arith, ap, ◌∙◌, length, drop, get_or}
use Rattle.std.proofs.lemmas.Bool.Decides.{nat_tests}
use Rattle.std.proofs.lemmas.List.{at_drop_more}
use Rattle.rules_text.specs.binary.Reading.{groups_value, ranged}

pub too_large : (negative : Bool) (n : ℕ) → (n < 2 ^ 128 → ⊥) → ranged negative n ≡ None
too_large true n h = grind (arith, nat_tests)
too_large false n h = grind (arith, nat_tests)

-- later groups are worth less than all
pub later_less : (gs : List ℕ) (k : ℕ) → groups_value (drop k gs) ≤ groups_value gs
later_less [] zero = omega arith
later_less [] (suc k) = omega arith
later_less (g ∷ gs) zero = omega arith
later_less (g ∷ gs) (suc k) = omega (arith, later_less gs k)

-- the groups from the i-th last on, by the one before
pub one_group : (gs : List ℕ) (i : ℕ) → i < length gs → groups_value (drop (length gs - (i + 1)) gs) ≡ get_or gs (length gs - 1 - i) 0 % 128 + 128 * groups_value (drop (length gs - i) gs)
one_group gs i h =
    let next : length gs - 1 - i + 1 ≡ length gs - i = omega arith in
    let here : length gs - (i + 1) ≡ length gs - 1 - i = omega arith in
    ap (λ k. groups_value (drop k gs)) here ∙ at_drop_more groups_value gs (length gs - 1 - i) 0 (omega arith) ∙ ap (λ k. get_or gs (length gs - 1 - i) 0 % 128 + 128 * groups_value (drop k gs)) next
